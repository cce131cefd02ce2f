-- One version more.
use Rattle.std.proofs.Common.{ℕ, max, get_or, take, refl, sym, ap, ◌∙◌, add-one}
use Rattle.std.proofs.Math.Seq.{take-suc}
use Rattle.brick_state.specs.Entries.{Entry}
use Rattle.fab_base.specs.Stamps.{first_stamp}
use Rattle.brick_state.specs.States.{stamp_of}
use Rattle.brick_state.specs.Times.{greatest}
use Rattle.brick_state.proofs.Greatest.{greatest-push}
use Rattle.brick_state.proofs.stripes.newest_time.Goals as goal

pub loop-entry-init : goal.loop-entry-init
unfolding greatest
loop-entry-init c = refl

none : Entry
none = record { stamp = first_stamp; block = 0 }

pub loop-entry-preserved : goal.loop-entry-preserved
unfolding none
loop-entry-preserved c =
    let entries = c.args.entries.now in
    let i = c.loop-entry.entry-index in
    let e = get_or entries i none in
    let time = λ (e : Entry). (stamp_of e).time in
    c.max-top.ensures ∙ ap (λ (n : ℕ). max n e.stamp.time) c.loop-entry.invariant ∙ sym (greatest-push time (take i entries) e)
    ∙ ap (greatest time) (sym (take-suc entries i none c.loop-entry-test.true) ∙ ap (λ (n : ℕ). take n entries) (sym (add-one i)))
