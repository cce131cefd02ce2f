-- The seat of a brick among the members of a group.
use Rattle.std.proofs.Common.{◌≡◌, ℕ, zero, suc, ◌+◌, ◌<◌, Bool, false, cond, List, [], ◌∷◌, length, map, Option, Some, None, get_or, refl, sym, ap, ◌∙◌, subst, arith}
use Rattle.std.specs.Prelude.{slice_get, nat_eq}
use Rattle.std.specs.Option.{option_map}
use Rattle.std.specs.List.{IsDistinct, AllByRecursion}
use Rattle.std.proofs.lemmas.Bool.{cond_both, eqb-true, eq-eqb}
use Rattle.fab_base.specs.declared.identities.BrickId.{BrickId}
use Rattle.fab_base.specs.Layouts.{Group, seat_in, brick_at}

-- a seat that is found among the members
AtSeat : List BrickId → ℕ → ℕ → Type 0
AtSeat members brick seat = (seat < length members) × ((get_or members seat (record { 0 = 0 })).0 ≡ brick)

seat_next : (members : List BrickId) (member : BrickId) (brick seat : ℕ) (o : Option ℕ) → ((k : ℕ) → o ≡ Some k → AtSeat members brick k)
    → option_map (λ k. k + 1) o ≡ Some seat → AtSeat (member ∷ members) brick seat
unfolding AtSeat
seat_next members member brick seat None found is = cc
seat_next members member brick seat (Some k) found is =
    let at : k + 1 ≡ seat = cc in
    let next : suc k ≡ seat = omega arith in
    let here : AtSeat members brick k = found k refl in
    (omega (arith, here.0), ap (λ (j : ℕ). (get_or (member ∷ members) j (record { 0 = 0 })).0) (sym next) ∙ here.1)

seat_at : (members : List BrickId) (brick seat : ℕ) → seat_in members brick ≡ Some seat → AtSeat members brick seat
unfolding AtSeat
seat_at [] brick seat is = cc
seat_at (member ∷ members) brick seat is =
    cond_both (nat_eq member.0 brick) (Some 0) (option_map (λ k. k + 1) (seat_in members brick))
    (λ (z : Option ℕ). z ≡ Some seat → AtSeat (member ∷ members) brick seat)
    (λ same e.
    let here : 0 ≡ seat = cc in
    (omega arith, ap (λ (j : ℕ). (get_or (member ∷ members) j (record { 0 = 0 })).0) (sym here) ∙ eqb-true member.0 brick same))
    (λ other e. seat_next members member brick seat (seat_in members brick) (λ k. seat_at members brick k) e)
    is

-- the seat of a brick is one of the group's
pub seat_within : (group : Group) (brick seat : ℕ) → seat_in group.members brick ≡ Some seat → seat < length group.members
unfolding AtSeat
seat_within group brick seat is = (seat_at group.members brick seat is).0

-- the brick at its seat is itself
pub brick_at_seat : (group : Group) (brick seat : ℕ) → seat_in group.members brick ≡ Some seat → brick_at group seat ≡ brick
unfolding AtSeat
brick_at_seat group brick seat is = (seat_at group.members brick seat is).1

all_of : (P : ℕ → Type 0) (members : List BrickId) (k : ℕ) (member : BrickId) → AllByRecursion P (map (λ b. b.0) members)
    → slice_get members k ≡ Some member → P member.0
all_of P [] k member all is = cc
all_of P (b ∷ members) zero member all is = let same : b ≡ member = cc in subst (λ (z : BrickId). P z.0) same all.0
all_of P (b ∷ members) (suc k) member all is = all_of P members k member all.1 is

-- the seat of a member is its place, where members are distinct
pub seat_of_member : (members : List BrickId) (k : ℕ) (member : BrickId) → IsDistinct nat_eq (map (λ b. b.0) members)
    → slice_get members k ≡ Some member → seat_in members member.0 ≡ Some k
unfolding IsDistinct
seat_of_member [] k member distinct is = cc
seat_of_member (b ∷ members) zero member distinct is =
    let same : b ≡ member = cc in
    ap (λ (t : Bool). cond t (Some 0) (option_map (λ j. j + 1) (seat_in members member.0))) (eq-eqb b.0 member.0 (ap (λ (z : BrickId). z.0) same))
seat_of_member (b ∷ members) (suc k) member distinct is =
    let other : nat_eq b.0 member.0 ≡ false = all_of (λ y. nat_eq b.0 y ≡ false) members k member distinct.0 is in
    let rest : seat_in members member.0 ≡ Some k = seat_of_member members k member distinct.1 is in
    let next : k + 1 ≡ suc k = omega arith in
    ap (λ (t : Bool). cond t (Some 0) (option_map (λ j. j + 1) (seat_in members member.0))) other
    ∙ ap (option_map (λ j. j + 1)) rest ∙ ap (λ (j : ℕ). Some j) next
