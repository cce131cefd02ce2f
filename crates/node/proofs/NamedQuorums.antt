-- Distinct members of a group are no more than it has.
use Rattle.std.proofs.Common.{◌≡◌, ◌≤◌, ◌||◌, ℕ, Bool, true, false, not, nat_eq, is_some, List, [], ◌∷◌, length, refl, sym, ◌∙◌, ap, arith}
use Rattle.std.specs.Cmp.{IsEquivalence}
use Rattle.std.specs.List.{AllByRecursion, IsDistinct, list_all, list_any}
use Rattle.std.specs.Set.{is_member}
use Rattle.std.proofs.lemmas.Bool.{and_parts, false≢true}
use Rattle.std.proofs.lemmas.Bool.Decides.{nat_tests}
use Rattle.std.proofs.lemmas.Map.Made.{length-le_from_is_member}
use Rattle.fab_base.specs.declared.identities.BrickId.{BrickId}
use Rattle.fab_base.specs.Layouts.{Group, seat_in}
use Rattle.quorum.specs.Memberships.{are_distinct}
use Rattle.protocol.specs.Scrubs.{names_quorum}
use Rattle.coord_phase.proofs.Asked.{stands_as_seat}
use Rattle.node.proofs.Beside.{eq_same, eq_turned}

-- two bricks are the same
abbrev same_brick : BrickId → BrickId → Bool
same_brick a b = nat_eq a.0 b.0

same_laws : IsEquivalence same_brick
same_laws =
    record {
      refl = λ x. eq_same x.0;
      symm = λ x y. eq_turned x.0 y.0;
      congr = λ x y z e. let same : x.0 ≡ y.0 = grind (arith, nat_tests, e) in ap (λ (n : ℕ). nat_eq n z.0) same;
    }

-- neither of two
neither : (here later : Bool) → not (here || later) ≡ true → (here ≡ false) × (not later ≡ true)
neither true later e = absurd (false≢true e)
neither false later e = (refl, e)

none_stand : (b : BrickId) (more : List BrickId) → not (list_any (λ (m : BrickId). nat_eq b.0 m.0) more) ≡ true
    → AllByRecursion (λ (y : BrickId). same_brick b y ≡ false) more
none_stand b [] e = tt
none_stand b (y ∷ more) e =
    let parts = neither (nat_eq b.0 y.0) (list_any (λ (m : BrickId). nat_eq b.0 m.0) more) e in
    (parts.0, none_stand b more parts.1)

distinct_so : (named : List BrickId) → are_distinct named ≡ true → IsDistinct same_brick named
unfolding IsDistinct
distinct_so [] e = tt
distinct_so (b ∷ more) e =
    let parts = and_parts (not (list_any (λ (m : BrickId). nat_eq b.0 m.0) more)) (are_distinct more) e in
    (none_stand b more parts.0, distinct_so more parts.1)

-- a brick stands among members where it has a seat
turned : (members : List BrickId) (q : ℕ) → list_any (λ (x : BrickId). nat_eq q x.0) members ≡ list_any (λ (x : BrickId). nat_eq x.0 q) members
turned [] q = refl
turned (x ∷ members) q = λ i. eq_turned q x.0 i || turned members q i

one_or_other : (here later : Bool) → (here || later) ≡ true → {P : Type 0} → (here ≡ true → P) → (later ≡ true → P) → P
one_or_other true later e first then = first refl
one_or_other false later e first then = then e

members_so : (members named : List BrickId) → list_all (λ (member : BrickId). is_some (seat_in members member.0)) named ≡ true → (q : BrickId)
    → is_member same_brick named q ≡ true → is_member same_brick members q ≡ true
members_so members [] all q is = absurd (false≢true is)
members_so members (b ∷ more) all q is =
    let parts = and_parts (is_some (seat_in members b.0)) (list_all (λ (member : BrickId). is_some (seat_in members member.0)) more) all in
    one_or_other (nat_eq q.0 b.0) (list_any (λ (x : BrickId). nat_eq q.0 x.0) more) is
    (λ here. let same : b.0 ≡ q.0 = grind (arith, nat_tests, here) in
    turned members q.0 ∙ stands_as_seat members q.0 ∙ ap (λ (n : ℕ). is_some (seat_in members n)) (sym same) ∙ parts.0)
    (λ later. members_so members more parts.1 q later)

-- so a list that names a quorum is no longer than the group
pub named_few : (group : Group) (named : List BrickId) → names_quorum group named ≡ true → length named ≤ length group.members
named_few group named names =
    let first = and_parts (are_distinct named) _ names in
    let second = and_parts (list_all (λ (member : BrickId). is_some (seat_in group.members member.0)) named) _ first.1 in
    length-le_from_is_member same_laws named group.members (distinct_so named first.0) (members_so group.members named second.0)
