-- No block is there yet.
use Rattle.brick_store.specs.BlockTables.{joined_blocks}
use Rattle.brick_store.proofs.block_tables.BlockTable.joined.Goals as goal

pub loop-slot-init : goal.loop-slot-init
unfolding joined_blocks
loop-slot-init c = record { joined = c.in_ok-bytes.ensures.items }
