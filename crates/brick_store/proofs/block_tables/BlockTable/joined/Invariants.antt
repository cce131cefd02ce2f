use Rattle.std.proofs.Common.{◌≡◌}
use Rattle.brick_store.specs.BlockTables.{joined_blocks}
use Rattle.brick_store.proofs.block_tables.BlockTable.joined.Given as goal

abbrev pub invariant-loop-slot : goal.invariant-loop-slot
invariant-loop-slot l = record { joined : l.bytes.items ≡ joined_blocks l.fn.self l.slot }
