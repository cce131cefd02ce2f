-- A version that is settled is answered at once, and another is stored.
use Rattle.std.proofs.Common.{List, Option, length, sym, ap, ◌∙◌}
use Rattle.std.proofs.Common.{ℕ}
use Rattle.messages.specs.declared.replies.Reply.{Reply}
use Rattle.protocol.specs.Replicas.{stored, unless_full}
use Rattle.replica.specs.Parts.{part_seen}
use Rattle.replica.proofs.Deciding.{unless_settled, written_is}
use Rattle.replica.proofs.members.write.Goals as goal

pub returns-in-Some-clause-plan : goal.returns-in-Some-clause-plan
returns-in-Some-clause-plan c full start =
    let part = part_seen c.args.part.now start in
    let reaction = unless_full full part (stored part c.args.stamp c.args.block.now) in
    ap (λ (told : Option Reply). unless_settled part told reaction) (c.in-Some.ensures.value start) ∙ sym (written_is full part c.args.stamp c.args.block.now)

pub returns-clause-plan : goal.returns-clause-plan
returns-clause-plan c full start =
    let part = part_seen c.args.part.now start in
    let reaction = unless_full full part (stored part c.args.stamp c.args.block.now) in
    ap (λ (bytes : List ℕ). unless_full full part (stored part c.args.stamp bytes)) c.in_ok-copy.ensures
    ∙ ap (λ (told : Option Reply). unless_settled part told reaction) (c.in_default.ensures.value start)
    ∙ sym (written_is full part c.args.stamp c.args.block.now)

pub returns-clause-change : goal.returns-clause-change
returns-clause-change c start = (c.in_default.ensures.above, ap length c.in_ok-copy.ensures)
