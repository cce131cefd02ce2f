-- Lists of members that may keep a group.
use Rattle.std.proofs.Common.{◌≡◌, ℕ, ◌≤◌, true, List, length, nat_lt}
use Rattle.std.specs.Prelude.{nat_le, ◌&&◌}
use Rattle.std.specs.List.{list_all}
use Rattle.std.proofs.lemmas.Bool.{and_parts}
use Rattle.std.proofs.lemmas.Bool.Decides.{nat_tests}
use Rattle.std.proofs.Common.{arith}
use Rattle.quorum.specs.Quorums.{IsWithinLimits}
use Rattle.fab_base.specs.declared.identities.BrickId.{BrickId}
use Rattle.quorum.specs.Memberships.{are_distinct, is_membership}

-- a list that may keep a group has at most 32 members
pub membership_is_short : (m bricks : ℕ) (members : List BrickId) → is_membership m bricks members ≡ true → length members ≤ 32
unfolding is_membership
membership_is_short m bricks members is =
    let sizes = and_parts (nat_le m (length members) && nat_le (length members) 32) (are_distinct members && list_all (λ brick. nat_lt brick.0 bricks) members) is in
    let short = and_parts (nat_le m (length members)) (nat_le (length members) 32) sizes.0 in
    grind (arith, nat_tests, short.1)

-- it has as many members as a stripe has data blocks, or more
pub membership_is_long : (m bricks : ℕ) (members : List BrickId) → is_membership m bricks members ≡ true → m ≤ length members
unfolding is_membership
membership_is_long m bricks members is =
    let sizes = and_parts (nat_le m (length members) && nat_le (length members) 32) (are_distinct members && list_all (λ brick. nat_lt brick.0 bricks) members) is in
    let long = and_parts (nat_le m (length members)) (nat_le (length members) 32) sizes.0 in
    grind (arith, nat_tests, long.0)

-- so it is within the limits of a quorum
pub have_quorums : (m bricks : ℕ) (members : List BrickId) → 1 ≤ m → m ≤ 16 → is_membership m bricks members ≡ true → IsWithinLimits m (length members)
have_quorums m bricks members some few is =
    record { some_block = some; few_blocks = few; enough_seats = membership_is_long m bricks members is; few_seats = membership_is_short m bricks members is }
