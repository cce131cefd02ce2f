-- Each exit is proved whole, by one search.
use Rattle.std.proofs.Common.{rules}
use Rattle.fab_disk.proofs.mem_disk.MemDisk.next_fate.Goals as goal

pub returns-then-ne : goal.returns-then-ne
returns-then-ne c = search rules

pub returns-else-ne : goal.returns-else-ne
returns-else-ne c = search rules
