-- The blocks that are held in memory, by their slots.
use Rattle.std.specs.Prelude.{ℕ, zero, suc, Option, None, List, [], ◌++◌, slice_index_or}
use Rattle.std.specs.Option.{unwrap_or}

-- for each slot the block that is held there, if one is; none is past the end
abbrev pub SlotBlocks : Type 0
SlotBlocks = List (Option (List ℕ))

abbrev pub block_under : SlotBlocks → ℕ → Option (List ℕ)
block_under blocks slot = slice_index_or blocks slot None

-- the blocks that are held under the slots below this one, one after the other
unfoldable pub joined_blocks : SlotBlocks → ℕ → List ℕ
joined_blocks blocks zero = []
joined_blocks blocks (suc slot) = joined_blocks blocks slot ++ unwrap_or (block_under blocks slot) []
