-- The replies that count in a phase, with one fewer or one more.
use Rattle.std.proofs.Common.{◌≡◌, ℕ, zero, suc, Bool, true, false, not, List, [], ◌∷◌, ◌++◌, length, Some, take, refl, sym, ap}
use Rattle.std.specs.Prelude.{nat_eq}
use Rattle.std.specs.List.{list_all}
use Rattle.std.proofs.lemmas.Bool.{and_parts, and_from, or_parts, or_from, not-true, lt-ltb, ne_eqb, eqb-false}
use Rattle.fab_base.specs.declared.identities.BrickId.{BrickId}
use Rattle.messages.specs.declared.calls.Call.{Call}
use Rattle.messages.specs.declared.replies.Reply.{Reply}
use Rattle.protocol.specs.declared.phases.Counted.{Counted}
use Rattle.protocol.specs.Coordinators.{Coordinator, asked_group, has_seat, counts_at, with_reply}
use Rattle.protocol.proofs.CountsAt.{counts_facts}
use Rattle.coord_phase.specs.Operations.{are_apart, IsInPhase}
use Rattle.coord_phase.proofs.Asked.{counted_within}

-- what is true of all is true of the first n
pub all-take : {X : Type 0} (p : X → Bool) (n : ℕ) (xs : List X) → list_all p xs ≡ true → list_all p (take n xs) ≡ true
all-take p zero xs all = refl
all-take p (suc n) [] all = refl
all-take p (suc n) (x ∷ xs) all =
    let parts = and_parts (p x) (list_all p xs) all in and_from (p x) (list_all p (take n xs)) parts.0 (all-take p n xs parts.1)

-- a seat without a reply has none among the first n
seat-take : (seat n : ℕ) (counted : List Counted) → has_seat seat counted ≡ false → has_seat seat (take n counted) ≡ false
seat-take seat zero counted none = refl
seat-take seat (suc n) [] none = refl
seat-take seat (suc n) (c ∷ counted) none =
    let parts = or_parts (nat_eq c.seat seat) (has_seat seat counted) none in
    or_from (nat_eq c.seat seat) (has_seat seat (take n counted)) parts.0 (seat-take seat n counted parts.1)

pub apart-take : (n : ℕ) (counted : List Counted) → are_apart counted ≡ true → are_apart (take n counted) ≡ true
apart-take zero counted apart = refl
apart-take (suc n) [] apart = refl
apart-take (suc n) (c ∷ counted) apart =
    let parts = and_parts (not (has_seat c.seat counted)) (are_apart counted) apart in
    and_from (not (has_seat c.seat (take n counted))) (are_apart (take n counted))
    (ap not (seat-take c.seat n counted (not-true (has_seat c.seat counted) parts.0))) (apart-take n counted parts.1)

-- the first n replies of a phase are such
pub fewer_replies : (block : ℕ) (c : Coordinator) (n : ℕ) → IsInPhase block c
    → IsInPhase block (record c { counted = take n c.counted })
fewer_replies block c n is =
    record {
      fits = is.fits;
      long = is.long;
      content = is.content;
      prior = is.prior;
      asks = is.asks;
      enough = is.enough;
      seats = all-take _ n c.counted is.seats;
      answers = all-take _ n c.counted is.answers;
      apart = apart-take n c.counted is.apart;
    }

-- one more reply
pub all-more : {X : Type 0} (p : X → Bool) (xs : List X) (x : X) → list_all p xs ≡ true → p x ≡ true → list_all p (xs ++ (x ∷ [])) ≡ true
all-more p [] x all here = and_from (p x) true here refl
all-more p (y ∷ xs) x all here =
    let parts = and_parts (p y) (list_all p xs) all in and_from (p y) (list_all p (xs ++ (x ∷ []))) parts.0 (all-more p xs x parts.1 here)

seat-more : (seat : ℕ) (counted : List Counted) (x : Counted) → has_seat seat counted ≡ false → nat_eq x.seat seat ≡ false
    → has_seat seat (counted ++ (x ∷ [])) ≡ false
seat-more seat [] x none other = or_from (nat_eq x.seat seat) false other refl
seat-more seat (c ∷ counted) x none other =
    let parts = or_parts (nat_eq c.seat seat) (has_seat seat counted) none in
    or_from (nat_eq c.seat seat) (has_seat seat (counted ++ (x ∷ []))) parts.0 (seat-more seat counted x parts.1 other)

pub apart-more : (counted : List Counted) (x : Counted) → are_apart counted ≡ true → has_seat x.seat counted ≡ false
    → are_apart (counted ++ (x ∷ [])) ≡ true
apart-more [] x apart none = refl
apart-more (c ∷ counted) x apart none =
    let parts = and_parts (not (has_seat c.seat counted)) (are_apart counted) apart in
    let nones = or_parts (nat_eq c.seat x.seat) (has_seat x.seat counted) none in
    let other : nat_eq x.seat c.seat ≡ false = ne_eqb x.seat c.seat (λ e. eqb-false c.seat x.seat nones.0 (sym e)) in
    and_from (not (has_seat c.seat (counted ++ (x ∷ [])))) (are_apart (counted ++ (x ∷ [])))
    (ap not (seat-more c.seat counted x (not-true (has_seat c.seat counted) parts.0) other)) (apart-more counted x parts.1 nones.1)

-- a reply that counts makes the replies of a phase such again
pub one_more_reply : (block : ℕ) (c : Coordinator) (from : BrickId) (call : Call) (reply : Reply) (seat : ℕ)
    → IsInPhase block c → counts_at block c from.0 call reply ≡ Some seat
    → IsInPhase block (with_reply c seat from reply)
one_more_reply block c from call reply seat is counts =
    let facts = counts_facts block c from.0 call reply seat counts in
    let x : Counted = record { seat = seat; brick = from; reply = reply } in
    record {
      fits = is.fits;
      long = is.long;
      content = is.content;
      prior = is.prior;
      asks = is.asks;
      enough = is.enough;
      seats = all-more _ c.counted x is.seats (lt-ltb seat (length (asked_group c).members) (counted_within block c from.0 call reply seat counts));
      answers = all-more _ c.counted x is.answers facts.answers;
      apart = apart-more c.counted x is.apart facts.first;
    }
