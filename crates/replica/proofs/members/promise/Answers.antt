-- A promise of the stamp that is kept changes nothing; another is of a later one.
use Rattle.std.proofs.Common.{◌≡◌, false, true, sym, ap, ◌∙◌}
use Rattle.fab_base.specs.declared.stamps.Stamp.{Stamp}
use Rattle.fab_base.specs.Stamps.{stamp_same}
use Rattle.replica.specs.Parts.{part_seen}
use Rattle.replica.proofs.Deciding.{promised_again, above_order}
use Rattle.replica.proofs.members.promise.Goals as goal

pub returns-then-is_same-clause-plan : goal.returns-then-is_same-clause-plan
returns-then-is_same-clause-plan c = λ full start.
    let same : stamp_same c.args.part.now.order c.args.stamp ≡ true = ap (λ (o : Stamp). stamp_same o c.args.stamp) (sym c.order.ensures)
    ∙ sym c.is_same.ensures ∙ c.if-is_same.true in
    promised_again full (part_seen c.args.part.now start) c.args.stamp c.args.reply same

pub returns-else-is_same-clause-change : goal.returns-else-is_same-clause-change
returns-else-is_same-clause-change c = λ size shares start.
    let other : stamp_same c.args.part.now.order c.args.stamp ≡ false = ap (λ (o : Stamp). stamp_same o c.args.stamp) (sym c.order.ensures)
    ∙ sym c.is_same.ensures ∙ c.if-is_same.false in
    above_order c.args.part.now.order c.args.stamp c.requires other
