-- The replies with one more are replies of the phase.
use Rattle.std.proofs.Common.{◌≡◌, sym, ◌∙◌, subst, Some, arith}
use Rattle.protocol.specs.Coordinators.{counts_at}
use Rattle.protocol.proofs.CountsAt.{counts_facts}
use Rattle.coord_phase.specs.Operations.{Operation}
use Rattle.coord_phase.proofs.Asked.{counted_within}
use Rattle.coord_phase.proofs.PhaseReplies.{one_more_reply}
use Rattle.coord_phase.proofs.operations.Operation.count.Goals as goal

pub push-requires-clause-within : goal.push-requires-clause-within
push-requires-clause-within c =
    let told = subst (λ (op : Operation). counts_at op.block op.state c.args.from.0 c.in-Reply.call c.in-Reply.reply ≡ Some c.in-Some.seat)
    (sym c.self.view_is) (sym c.in-Some.ensures.seat) in
    omega (arith, c.self.invariant.1, counted_within _ _ c.args.from.0 c.in-Reply.call c.in-Reply.reply c.in-Some.seat told)

pub push-requires-clause-first : goal.push-requires-clause-first
push-requires-clause-first c =
    let told = subst (λ (op : Operation). counts_at op.block op.state c.args.from.0 c.in-Reply.call c.in-Reply.reply ≡ Some c.in-Some.seat)
    (sym c.self.view_is) (sym c.in-Some.ensures.seat) in
    (counts_facts _ _ c.args.from.0 c.in-Reply.call c.in-Reply.reply c.in-Some.seat told).first

pub invariant_of-self-2 : goal.invariant_of-self-2
invariant_of-self-2 c =
    let told = subst (λ (op : Operation). counts_at op.block op.state c.args.from.0 c.in-Reply.call c.in-Reply.reply ≡ Some c.in-Some.seat)
    (sym c.self.view_is) (sym c.in-Some.ensures.seat) in
    let pushed = c.in_ok-push.ensures.counted in
    let copied = c.in_ok-copy.ensures in (
      rw pushed (rw copied (one_more_reply _ _ c.args.from c.in-Reply.call c.in-Reply.reply c.in-Some.seat c.self.invariant.0 told)),
      c.in_ok-push.ensures.n ∙ c.self.invariant.1,
    )
