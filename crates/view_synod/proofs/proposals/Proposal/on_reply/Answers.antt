-- A reply that counts leaves the proposal under way; one that fills a quorum is decided on, and shows how it ends.
use Rattle.std.proofs.Common.{sym, ◌∙◌, subst}
use Rattle.view_synod.specs.Proposers.{Proposing, IsUnderWay}
use Rattle.view_synod.proofs.Replies.{one_more}
use Rattle.view_synod.proofs.Deciding.{decided_on}
use Rattle.view_synod.proofs.Ends.{has_evidence}
use Rattle.view_synod.proofs.proposals.Proposal.on_reply.Goals as goal

pub count-requires : goal.count-requires
count-requires c =
    one_more c.args.self.now.bricks c.args.self.now.state c.args.from c.in-Reply.call c.in-Reply.reply c.in-Some.seat
    (subst (λ (x : Proposing). IsUnderWay x.bricks x.state) c.self.view_is c.self.invariant.0) (sym c.in-Some.ensures)

pub returns-then-is_full-clause-next : goal.returns-then-is_full-clause-next
returns-then-is_full-clause-next c =
    decided_on c.args.self.now _ c.args.from c.in-Reply.call c.in-Reply.reply c.in-Some.seat c.args.message.now _ _
    c.in-Reply.is (sym c.in-Some.ensures) c.in_ok-count.ensures.counted (sym c.is_full.ensures ∙ c.if-is_full.true) c.decide.ensures

pub returns-then-is_full-clause-evidence : goal.returns-then-is_full-clause-evidence
returns-then-is_full-clause-evidence c =
    has_evidence c.args.self.now (subst (λ (x : Proposing). IsUnderWay x.bricks x.state) c.self.view_is c.self.invariant.0)
    c.args.from c.args.message.now _ _ (returns-then-is_full-clause-next c)
