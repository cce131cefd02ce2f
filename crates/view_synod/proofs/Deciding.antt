-- A reply that fills a quorum is decided on.
use Rattle.std.proofs.Common.{◌≡◌, ℕ, true, cond, length, nat_lt, Option, Some, sym, ap, ◌∙◌, subst}
use Rattle.std.specs.Prelude.{not, Bool}
use Rattle.std.proofs.lemmas.Bool.{not-true}
use Rattle.fab_base.specs.declared.identities.BrickId.{BrickId}
use Rattle.messages.specs.declared.calls.Call.{Call}
use Rattle.messages.specs.declared.packets.Message.{Message}
use Rattle.messages.specs.declared.packets.Message.TheVariants as messages
use Rattle.messages.specs.declared.replies.Reply.{Reply}
use Rattle.view_synod.specs.declared.answers.ViewNext.{ViewNext}
use Rattle.protocol.specs.Proposals.{Proposal, Voting, Waited, ballot_quorum, seat_voting, with_voice, ballot_decided, voted_at}
use Rattle.view_synod.specs.Proposers.{Proposing, with_state, voting_on, GoesOn}

-- the reply of a seat that makes the count full decides
decides : (x : Proposing) (from : BrickId) (call : Call) (reply : Reply) (seat : ℕ) → seat_voting x.bricks x.state from.0 call reply ≡ Some seat
    → not (nat_lt (length (with_voice x.state seat from reply).counted) (ballot_quorum x.state)) ≡ true
    → voting_on x from (messages.Reply call reply) ≡ ballot_decided (with_voice x.state seat from reply)
decides x from call reply seat counts full =
    ap (voted_at x.state from reply) counts
    ∙ ap (λ (b : Bool). cond b (Waited (with_voice x.state seat from reply)) (ballot_decided (with_voice x.state seat from reply)))
    (not-true (nat_lt (length (with_voice x.state seat from reply).counted) (ballot_quorum x.state)) full)

-- so what the proposal then does is what it does with the message
pub decided_on : (x mid : Proposing) (from : BrickId) (call : Call) (reply : Reply) (seat : ℕ) (message : Message) (does : ViewNext) (after : Option Proposing)
    → message ≡ messages.Reply call reply → seat_voting x.bricks x.state from.0 call reply ≡ Some seat
    → mid ≡ with_state x (with_voice x.state seat from reply)
    → not (nat_lt (length mid.state.counted) (ballot_quorum mid.state)) ≡ true
    → ((before : Proposal) → GoesOn (Some (with_state mid before)) (ballot_decided mid.state) does after)
    → GoesOn (Some x) (voting_on x from message) does after
decided_on x mid from call reply seat message does after message_is counts mid_is full goes =
    let full_here = subst (λ (y : Proposing). not (nat_lt (length y.state.counted) (ballot_quorum y.state)) ≡ true) mid_is full in
    let goes_here = subst (λ (y : Proposing). GoesOn (Some (with_state y x.state)) (ballot_decided y.state) does after) mid_is (goes x.state) in
    subst (λ (v : Voting). GoesOn (Some x) v does after)
    (sym (ap (voting_on x from) message_is ∙ decides x from call reply seat counts full_here)) goes_here
