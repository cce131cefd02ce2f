use Rattle.std.proofs.Common.{rules}
use Rattle.fab_io.proofs.scripts.MemLinkLink.send.Goals as goal

pub returns-in_err-from_slice : goal.returns-in_err-from_slice
returns-in_err-from_slice c = search rules

pub returns-in_err-reserve : goal.returns-in_err-reserve
returns-in_err-reserve c = search rules

pub returns-in_err-count : goal.returns-in_err-count
returns-in_err-count c = search rules

pub returns : goal.returns
returns c = search rules
