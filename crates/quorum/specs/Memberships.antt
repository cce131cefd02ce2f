-- Lists of members that may keep a group.
use Rattle.std.specs.Prelude.{◌≡◌, ◌≤◌, ℕ, Bool, true, not, nat_eq, nat_lt, nat_le, ◌&&◌, List, [], ◌∷◌, length}
use Rattle.std.specs.List.{list_all, list_any}
use Rattle.fab_base.specs.declared.identities.BrickId.{BrickId}
use Rattle.quorum.specs.Quorums.{IsWithinLimits}

-- the brick is one of these
abbrev pub stands_in : List BrickId → BrickId → Bool
stands_in members brick = list_any (λ member. nat_eq brick.0 member.0) members

-- no brick stands twice
abbrev pub are_distinct : List BrickId → Bool
are_distinct [] = true
are_distinct (brick ∷ more) = not (stands_in more brick) && are_distinct more

-- the list may keep a group of m data blocks on a disk of so many bricks: m to 32 distinct bricks, each of them the disk's
unfoldable pub is_membership : ℕ → ℕ → List BrickId → Bool
is_membership m bricks members =
    (nat_le m (length members) && nat_le (length members) 32) && (are_distinct members && list_all (λ brick. nat_lt brick.0 bricks) members)

-- a list that may keep a group of 1 to 16 data blocks is within the limits of a quorum
abbrev pub MembershipsHaveQuorums : Type 0
MembershipsHaveQuorums =
    (m bricks : ℕ) (members : List BrickId) → 1 ≤ m → m ≤ 16 → is_membership m bricks members ≡ true → IsWithinLimits m (length members)
