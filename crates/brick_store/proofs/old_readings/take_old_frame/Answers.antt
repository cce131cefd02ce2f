-- A frame that is no version is taken as one of the new format is.
use Rattle.std.proofs.Common.{◌≡◌, false, eqb, subst, arith}
use Rattle.std.proofs.lemmas.Bool.Decides.{nat_tests}
use Rattle.stamp_store.proofs.Fields.{IsBytes}
use Rattle.frame_store.specs.Listed.{frame_of}
use Rattle.brick_state.specs.Folds.{Limits}
use Rattle.brick_state.specs.Indexes.{state_of}
use Rattle.brick_store.specs.Openings.{TakesOrEnds}
use Rattle.brick_store.proofs.OldTakes.{other_takes}
use Rattle.brick_store.proofs.OldVersions.{no_slot}
use Rattle.brick_store.proofs.old_readings.take_old_frame.Goals as goal

pub returns-in_default-clause-takes : goal.returns-in_default-clause-takes
returns-in_default-clause-takes c = λ kept held.
    let h = c.in_default in
    let bytes : IsBytes c.args.body.now = λ i. omega (arith, c.type_inv.body i) in
    let no_version : eqb c.args.kind 5 ≡ false = grind (arith, nat_tests) in
    let named_none : eqb c.args.kind 8 ≡ false = grind (arith, nat_tests) in
    other_takes c.args.sizes.block c.args.sizes.records c.args.blocks.now (frame_of c.args.kind c.args.body.now) (state_of c.args.index.now)
    (state_of c.take_frame.new.index) c.take_frame.result no_version named_none (no_slot c.args.kind c.args.body.now bytes named_none)
    (subst (λ (l : Limits). TakesOrEnds l (frame_of c.args.kind c.args.body.now) (state_of c.args.index.now) (state_of c.take_frame.new.index)
    c.take_frame.result) c.requires.limits c.take_frame.ensures.takes) kept held
