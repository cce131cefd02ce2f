-- The list of members in which those that a brick suspects are replaced from the pool.
use Rattle.std.specs.Prelude.{◌≡◌, ◌≢◌, ℕ, zero, suc, ◌+◌, ◌-◌, ◌<◌, nat_eq, Bool, false, not, ◌&&◌, if◌then◌else◌, List, [], ◌∷◌, length, map, filter, Option, Some, None, slice_get}
use Rattle.std.specs.List.{IsDistinct, AllByRecursion}
use Rattle.std.specs.Cmp.Lexicographic.{pointwise}
use Rattle.fab_base.specs.declared.identities.BrickId.{BrickId}
use Rattle.quorum.specs.Memberships.{stands_in}
use Rattle.spares.specs.Suspicions.{Suspicions, is_spare, suspects}

-- the brick is left to replace one of these members: it is of the pool, it is not suspected, and it is no member
abbrev pub is_left : Suspicions → BrickId → List BrickId → BrickId → Bool
is_left suspicions by members brick = (is_spare suspicions brick && not (suspects suspicions by brick)) && not (stands_in members brick)

-- so many bricks from one on, in order
abbrev pub bricks_from : ℕ → ℕ → List BrickId
bricks_from first zero = []
bricks_from first (suc more) = record { 0 = first } ∷ bricks_from (first + 1) more

-- the bricks of the disk from one on that are left, the least first
unfoldable pub left_from : Suspicions → BrickId → List BrickId → ℕ → List BrickId
left_from suspicions by members first =
    filter (is_left suspicions by members) (bricks_from first (suspicions.bricks - first))

-- Members of which each suspected one, seat by seat, is replaced by the first brick that is left. Where none is left, the others stay.
unfoldable pub with_spares : (BrickId → Bool) → List BrickId → List BrickId → List BrickId
with_spares suspected left [] = []
with_spares suspected [] (member ∷ members) = member ∷ members
with_spares suspected (spare ∷ left) (member ∷ members) =
    if suspected member then spare ∷ with_spares suspected left members
    else member ∷ with_spares suspected (spare ∷ left) members

-- the members after all that can be is replaced
abbrev pub replaced : Suspicions → BrickId → List BrickId → List BrickId
replaced suspicions by members = with_spares (suspects suspicions by) (left_from suspicions by members 0) members

-- the same brick at each seat
abbrev pub are_same : List BrickId → List BrickId → Bool
are_same = pointwise (λ a b. nat_eq a.0 b.0)

-- the list that a brick proposes in place of these members: none where no seat changes
abbrev pub list_for : Suspicions → BrickId → List BrickId → Option (List BrickId)
list_for suspicions by members =
    if are_same (replaced suspicions by members) members then None else Some (replaced suspicions by members)

-- distinct bricks of a disk of so many
pub record AreBricks (bricks : ℕ) (members : List BrickId) : Type 0 where
  pub distinct : IsDistinct nat_eq (map (λ member. member.0) members)
  pub below : AllByRecursion (λ member. member.0 < bricks) members

-- What a brick proposes in place of members: as many bricks, distinct and of the disk. Each member that it does not suspect keeps its seat,
-- and no brick that it suspects is put in another's.
pub record IsReplacement (suspicions : Suspicions) (by : BrickId) (members next : List BrickId) : Type 0 where
  pub long : length next ≡ length members
  pub bricks : AreBricks suspicions.bricks next
  pub keeps : (seat : ℕ) (member : BrickId) → slice_get members seat ≡ Some member → suspects suspicions by member ≡ false
      → slice_get next seat ≡ Some member
  pub trusts : (seat : ℕ) (member spare : BrickId) → slice_get members seat ≡ Some member → slice_get next seat ≡ Some spare
      → spare ≢ member → suspects suspicions by spare ≡ false
