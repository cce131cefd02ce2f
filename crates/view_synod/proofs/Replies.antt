-- The replies that count in a phase, with one more.
use Rattle.std.proofs.Common.{◌≡◌, ℕ, true, false, List, [], ◌∷◌, ◌++◌, length, Option, Some, None, refl, sym, ap, subst}
use Rattle.std.specs.Prelude.{nat_eq, not, Bool}
use Rattle.std.specs.List.{list_all}
use Rattle.std.proofs.lemmas.Bool.{cond_both, and_parts, and_from, or_parts, or_from, not-true, lt-ltb, ne_eqb, eqb-false}
use Rattle.fab_base.specs.declared.identities.BrickId.{BrickId}
use Rattle.fab_base.specs.Layouts.{seat_in}
use Rattle.fab_base.proofs.Seats.{seat_within}
use Rattle.messages.specs.declared.calls.Call.{Call}
use Rattle.messages.specs.declared.replies.Reply.{Reply}
use Rattle.protocol.specs.declared.phases.Counted.{Counted}
use Rattle.protocol.specs.Coordinators.{call_same, has_seat, new_seat}
use Rattle.protocol.specs.Proposals.{Proposal, answers_ballot, voting_seat, seat_voting, with_voice}
use Rattle.view_synod.specs.Proposers.{are_apart, IsUnderWay}

-- a reply that counts at a seat
pub record VotesAt (bricks : ℕ) (p : Proposal) (from : ℕ) (reply : Reply) (seat : ℕ) : Type 0 where
  pub seat_is : seat_in p.view.members from ≡ Some seat
  pub answers : answers_ballot p.m bricks p.asks reply ≡ true
  pub first : has_seat seat p.counted ≡ false

-- a seat that is new is the one that was given, and has no reply
new_seat_is : (counted : List Counted) (o : Option ℕ) (seat : ℕ) → new_seat counted o ≡ Some seat → (o ≡ Some seat) × (has_seat seat counted ≡ false)
new_seat_is counted None seat is = cc
new_seat_is counted (Some s) seat is =
    cond_both (has_seat s counted) None (Some s)
    (λ (z : Option ℕ). z ≡ Some seat → (Some s ≡ Some seat) × (has_seat seat counted ≡ false))
    (λ has e. cc)
    (λ isnt e. let same : s ≡ seat = cc in (e, subst (λ (z : ℕ). has_seat z counted ≡ false) same isnt))
    is

-- a seat whose reply answers is the one that was given
voting_seat_is : (bricks : ℕ) (p : Proposal) (reply : Reply) (o : Option ℕ) (seat : ℕ) → voting_seat bricks p reply o ≡ Some seat
    → (o ≡ Some seat) × (answers_ballot p.m bricks p.asks reply ≡ true)
voting_seat_is bricks p reply None seat is = cc
voting_seat_is bricks p reply (Some s) seat is =
    cond_both (answers_ballot p.m bricks p.asks reply) (Some s) None
    (λ (z : Option ℕ). z ≡ Some seat → (Some s ≡ Some seat) × (answers_ballot p.m bricks p.asks reply ≡ true))
    (λ answers e. (e, answers))
    (λ isnt e. cc)
    is

-- what counts is of a seat of the view, answers the phase, and is its seat's first
pub votes_at : (bricks : ℕ) (p : Proposal) (from : ℕ) (call : Call) (reply : Reply) (seat : ℕ) → seat_voting bricks p from call reply ≡ Some seat
    → VotesAt bricks p from reply seat
unfolding seat_voting
votes_at bricks p from call reply seat =
    cond_both (call_same call p.call) (new_seat p.counted (voting_seat bricks p reply (seat_in p.view.members from))) None
    (λ (z : Option ℕ). z ≡ Some seat → VotesAt bricks p from reply seat)
    (λ same e.
    let new = new_seat_is p.counted (voting_seat bricks p reply (seat_in p.view.members from)) seat e in
    let here = voting_seat_is bricks p reply (seat_in p.view.members from) seat new.0 in
    record { seat_is = here.0; answers = here.1; first = new.1 })
    (λ other e. cc)

-- what is true of all, and of one more, is true of all of them
all_more : {X : Type 0} (test : X → Bool) (xs : List X) (x : X) → list_all test xs ≡ true → test x ≡ true → list_all test (xs ++ (x ∷ [])) ≡ true
all_more test [] x all here = and_from (test x) true here refl
all_more test (y ∷ xs) x all here =
    let parts = and_parts (test y) (list_all test xs) all in and_from (test y) (list_all test (xs ++ (x ∷ []))) parts.0 (all_more test xs x parts.1 here)

-- a seat without a reply has none, where one more is of another seat
seat_more : (seat : ℕ) (counted : List Counted) (x : Counted) → has_seat seat counted ≡ false → nat_eq x.seat seat ≡ false
    → has_seat seat (counted ++ (x ∷ [])) ≡ false
seat_more seat [] x none other = or_from (nat_eq x.seat seat) false other refl
seat_more seat (c ∷ counted) x none other =
    let parts = or_parts (nat_eq c.seat seat) (has_seat seat counted) none in
    or_from (nat_eq c.seat seat) (has_seat seat (counted ++ (x ∷ []))) parts.0 (seat_more seat counted x parts.1 other)

-- replies stay those of different seats with one more of a new seat
apart_more : (counted : List Counted) (x : Counted) → are_apart counted ≡ true → has_seat x.seat counted ≡ false → are_apart (counted ++ (x ∷ [])) ≡ true
apart_more [] x apart none = refl
apart_more (c ∷ counted) x apart none =
    let parts = and_parts (not (has_seat c.seat counted)) (are_apart counted) apart in
    let nones = or_parts (nat_eq c.seat x.seat) (has_seat x.seat counted) none in
    let other : nat_eq x.seat c.seat ≡ false = ne_eqb x.seat c.seat (λ e. eqb-false c.seat x.seat nones.0 (sym e)) in
    and_from (not (has_seat c.seat (counted ++ (x ∷ [])))) (are_apart (counted ++ (x ∷ [])))
    (ap not (seat_more c.seat counted x (not-true (has_seat c.seat counted) parts.0) other)) (apart_more counted x parts.1 nones.1)

-- a proposal stays under way with one more reply that counts
pub one_more : (bricks : ℕ) (p : Proposal) (from : BrickId) (call : Call) (reply : Reply) (seat : ℕ) → IsUnderWay bricks p
    → seat_voting bricks p from.0 call reply ≡ Some seat → IsUnderWay bricks (with_voice p seat from reply)
one_more bricks p from call reply seat is counts =
    let facts = votes_at bricks p from.0 call reply seat counts in
    let x : Counted = record { seat = seat; brick = from; reply = reply } in
    record {
      limits = is.limits;
      number = is.number;
      own = is.own;
      asked = is.asked;
      phase = is.phase;
      seats = all_more _ p.counted x is.seats
          (lt-ltb seat (length p.view.members) (seat_within (record { members = p.view.members; m = p.m; stripes = 0 }) from.0 seat facts.seat_is));
      answers = all_more _ p.counted x is.answers facts.answers;
      apart = apart_more p.counted x is.apart facts.first;
    }
