use Rattle.std.proofs.Common.{◌≡◌, ◌≤◌, ℕ, length}
use Rattle.brick_store.specs.BlockTables.{block_under}
use Rattle.brick_store.proofs.block_tables.BlockTable.lengthen.Given as goal

abbrev pub invariant-loop : goal.invariant-loop
invariant-loop l = record {
  same : (slot : ℕ) → block_under l.self-inside.blocks.items slot ≡ block_under l.fn.self slot;
  long : l.counter ≤ length l.self-inside.blocks.items;
}
