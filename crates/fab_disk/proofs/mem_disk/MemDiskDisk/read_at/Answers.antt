-- Each exit is proved whole, by one search.
use Rattle.std.proofs.Common.{rules}
use Rattle.fab_disk.proofs.mem_disk.MemDiskDisk.read_at.Goals as goal

pub returns-in_err-look : goal.returns-in_err-look
returns-in_err-look c = search rules

pub returns : goal.returns
returns c = search rules
