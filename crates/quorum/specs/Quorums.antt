-- Sets of seats, and how many seats make a quorum.
use Rattle.std.specs.Prelude.{ℕ, zero, suc, ◌+◌, ◌-◌, ◌/◌, ◌≤◌, Bool, ◌&&◌, true, false, ◌||◌, nat_eq, length}
use Rattle.fab_base.specs.Layouts.{Group}

-- what a seat adds to a count
abbrev pub one_if : Bool → ℕ
one_if true = 1
one_if false = 0

-- how many of the seats below n are in the set that the test tells
unfoldable pub count : ℕ → (ℕ → Bool) → ℕ
count zero test = 0
count (suc n) test = count n test + one_if (test n)

-- the seats that are in both sets
abbrev pub both : (ℕ → Bool) → (ℕ → Bool) → ℕ → Bool
both p r k = p k && r k

-- the set with one more seat
abbrev pub with_seat : ℕ → (ℕ → Bool) → ℕ → Bool
with_seat seat test k = nat_eq k seat || test k

-- m data blocks and n seats
pub record Scheme : Type 0 where
  pub m : ℕ
  pub n : ℕ

-- 1 to 16 data blocks, and at least as many seats, up to 32
pub record IsWithinLimits (m n : ℕ) : Type 0 where
  pub some_block : 1 ≤ m
  pub few_blocks : m ≤ 16
  pub enough_seats : m ≤ n
  pub few_seats : n ≤ 32

-- half of the seats past m, rounded down: those that a quorum does without
abbrev pub f_of : ℕ → ℕ → ℕ
f_of m n = (n - m) / 2

-- the size of a quorum
abbrev pub q_of : ℕ → ℕ → ℕ
q_of m n = n - f_of m n

-- the quorum of a group
abbrev pub quorum_of : Group → ℕ
quorum_of group = q_of group.m (length group.members)

-- any two sets of at least a quorum's size share at least m seats
abbrev pub QuorumsMeet : ℕ → ℕ → Type 0
QuorumsMeet m n =
    (p r : ℕ → Bool) → q_of m n ≤ count n p → q_of m n ≤ count n r → m ≤ count n (both p r)
