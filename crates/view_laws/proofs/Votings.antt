-- What a proposal does with a reply, by cases; and what a phase of an operation asks for names no ballot.
use Rattle.std.proofs.Common.{◌≡◌, ℕ, ◌+◌, false, List, length, Option, Some, None, refl, nat_lt}
use Rattle.std.proofs.lemmas.Bool.{cond_both}
use Rattle.fab_base.specs.declared.identities.BrickId.{BrickId}
use Rattle.messages.specs.declared.calls.Call.{Call}
use Rattle.messages.specs.declared.replies.Reply.{Reply}
use Rattle.protocol.specs.declared.tellings.ViewAnswer.{ViewAnswer}
use Rattle.protocol.specs.declared.tellings.ViewAnswer.TheVariants as answer
use Rattle.synod_laws.specs.Synods.{value_or}
use Rattle.protocol.specs.Proposals.{Proposal, Voting, Ignored, Waited, Asks, Ended, ballot_quorum, seat_voting, with_voice, refused_by, greatest_choice, asking, goes_on, unless_voted_down, ballot_decided, voted_at, voted}

-- The seat at which a reply counts, and what a proposal does with it, hold what is asked: it leaves it out; or the reply counts, and it waits, asks for a list, decides the list that it asked for, or
-- is refused.
pub record EachVoting (P : Option ℕ → Voting → Type 0) (bricks : ℕ) (p : Proposal) (from : BrickId) (call : Call) (reply : Reply) : Type 0 where
  pub ignores : seat_voting bricks p from.0 call reply ≡ None → P None Ignored
  pub waits : (seat : ℕ) → seat_voting bricks p from.0 call reply ≡ Some seat → P (Some seat) (Waited (with_voice p seat from reply))
  pub asks : (seat : ℕ) → seat_voting bricks p from.0 call reply ≡ Some seat
      → nat_lt (length (with_voice p seat from reply).counted) (ballot_quorum p) ≡ false → refused_by (with_voice p seat from reply).counted ≡ None
      → p.asks ≡ None
      → P (Some seat) (Asks (asking (with_voice p seat from reply) (value_or p.own (greatest_choice (with_voice p seat from reply).counted))))
  pub decides : (seat : ℕ) (members : List BrickId) → seat_voting bricks p from.0 call reply ≡ Some seat
      → nat_lt (length (with_voice p seat from reply).counted) (ballot_quorum p) ≡ false → refused_by (with_voice p seat from reply).counted ≡ None
      → p.asks ≡ Some members → P (Some seat) (Ended p.call (answer.Decided (record { 0 = p.view.number.0 + 1 }) members))
  pub refuses : (seat : ℕ) (refused : ViewAnswer) → seat_voting bricks p from.0 call reply ≡ Some seat
      → nat_lt (length (with_voice p seat from reply).counted) (ballot_quorum p) ≡ false
      → refused_by (with_voice p seat from reply).counted ≡ Some refused → P (Some seat) (Ended p.call refused)

-- so all of it holds
pub voting_each : (P : Option ℕ → Voting → Type 0) (bricks : ℕ) (p : Proposal) (from : BrickId) (call : Call) (reply : Reply) → EachVoting P bricks p from call reply
    → P (seat_voting bricks p from.0 call reply) (voted bricks p from call reply)
unfolding ballot_decided
voting_each P bricks p from call reply each = by (seat_voting bricks p from.0 call reply) refl
  where
    on : (seat : ℕ) → seat_voting bricks p from.0 call reply ≡ Some seat
        → nat_lt (length (with_voice p seat from reply).counted) (ballot_quorum p) ≡ false → refused_by (with_voice p seat from reply).counted ≡ None
        → (asks : Option (List BrickId)) → p.asks ≡ asks → P (Some seat) (goes_on (with_voice p seat from reply) asks)
    on seat counts enough free None is = each.asks seat counts enough free is
    on seat counts enough free (Some members) is = each.decides seat members counts enough free is

    decided : (seat : ℕ) → seat_voting bricks p from.0 call reply ≡ Some seat
        → nat_lt (length (with_voice p seat from reply).counted) (ballot_quorum p) ≡ false → (refused : Option ViewAnswer)
        → refused_by (with_voice p seat from reply).counted ≡ refused → P (Some seat) (unless_voted_down (with_voice p seat from reply) refused)
    decided seat counts enough None is = on seat counts enough is p.asks refl
    decided seat counts enough (Some refused) is = each.refuses seat refused counts enough is

    by : (seat : Option ℕ) → seat_voting bricks p from.0 call reply ≡ seat → P seat (voted_at p from reply seat)
    by None is = each.ignores is
    by (Some seat) is =
        cond_both (nat_lt (length (with_voice p seat from reply).counted) (ballot_quorum p)) (Waited (with_voice p seat from reply))
        (ballot_decided (with_voice p seat from reply)) (P (Some seat)) (λ few. each.waits seat is)
        (λ enough. decided seat is enough (refused_by (with_voice p seat from reply).counted) refl)
