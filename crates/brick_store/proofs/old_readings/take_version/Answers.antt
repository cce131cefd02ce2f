-- A version's frame is taken where it can be.
use Rattle.std.proofs.Common.{◌<◌, ℕ, Some, List, drop, refl, ap, subst, ◌∙◌}
use Rattle.std.specs.Result.{IfOk}
use Rattle.stamp_store.specs.declared.log_records.LogChange.TheVariants.{Slot}
use Rattle.frame_store.specs.Listed.{frame_of}
use Rattle.brick_state.specs.declared.records.Record.TheVariants as forms
use Rattle.brick_state.specs.Folds.{Limits, applied}
use Rattle.brick_state.specs.Indexes.{Answers, state_of}
use Rattle.brick_store.proofs.OldTakes.{version_takes}
use Rattle.brick_store.proofs.OldVersions.{block_long}
use Rattle.brick_store.proofs.old_readings.take_version.Goals as goal

pub returns-clause-takes : goal.returns-clause-takes
returns-clause-takes c = λ kept held.
    let version = c.in-Some.version in
    let slot = c.in-Ok.slot in
    let old = state_of c.args.index.now in
    let new = state_of c.apply_logged.new.self in
    version_takes c.args.sizes.block c.args.sizes.records c.args.blocks.now c.hold_new.new.blocks (frame_of 5 c.args.body.now) version.place version.bottom
    version.block.now slot old new c.apply_logged.result c.requires.few refl c.in-Some.ensures.place c.in-Some.ensures.block
    (block_long c.args.sizes.block (drop 30 c.args.body.now) version.bottom version.block.now c.in-Some.ensures.block)
    (subst (λ (l : Limits). slot < l.slots) c.requires.limits c.in-Ok.ensures.slot) c.in-Ok.ensures.unnamed
    (c.in-Ok.ensures.held ∙ ap (λ (b : List ℕ). Some b) c.in_ok-block.ensures) c.hold_new.ensures.same
    (subst (λ (l : Limits). IfOk c.apply_logged.result (λ taken. Answers new (applied l (forms.Logged (record {
      group = version.place.group;
      view = version.place.view;
      stripe = version.place.stripe;
      stamp = version.place.stamp;
      change = Slot version.bottom slot;
    })) old) taken)) c.requires.limits c.apply_logged.ensures.answer) c.apply_logged.ensures.refused kept held
