-- A tree of slots in a list: below node i stand the nodes 2 * i and 2 * i + 1, and the last nodes are those of the slots, in order.
-- Each node has the least free slot in it, 4294967295 where none of its slots is free.
use Rattle.std.specs.Prelude.{◌≡◌, ℕ, zero, suc, ◌+◌, ◌*◌, ◌<◌, ◌≤◌, min, List, length, slice_index_or}

-- a node has the lesser slot of the two below it
abbrev pub IsJoined : List ℕ → ℕ → Type 0
IsJoined least i = slice_index_or least i 0 ≡ min (slice_index_or least (2 * i) 0) (slice_index_or least (2 * i + 1) 0)

-- what the node of a slot has: the slot, where no version names it
abbrev pub leaf : ℕ → ℕ → ℕ
leaf slot zero = slot
leaf slot (suc count) = 4294967295

-- the nodes of a tree over so many slots
pub record IsTree (slots : ℕ) (least : List ℕ) : Type 0 where
  pub size : length least ≡ 2 * slots
  pub inner : (i : ℕ) → 1 ≤ i → i < slots → IsJoined least i

-- the tree tells the slots whose counts are 0
pub record IsTreeOf (least counts : List ℕ) : Type 0 where
  pub few : length counts ≤ 4294967295
  pub tree : IsTree (length counts) least
  pub leaves : (slot : ℕ) → slot < length counts → slice_index_or least (length counts + slot) 0 ≡ leaf slot (slice_index_or counts slot 0)

-- the least slot whose count is 0: past the end all are
pub record IsLeastUnused (counts : List ℕ) (slot : ℕ) : Type 0 where
  pub unused : slice_index_or counts slot 0 ≡ 0
  pub least : (other : ℕ) → slice_index_or counts other 0 ≡ 0 → slot ≤ other
