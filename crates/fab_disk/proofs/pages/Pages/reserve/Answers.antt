-- Each exit is proved whole, by one search.
use Rattle.std.proofs.Common.{rules}
use Rattle.fab_disk.proofs.pages.Pages.reserve.Goals as goal

pub returns-in_err-reserve : goal.returns-in_err-reserve
returns-in_err-reserve c = search rules

pub returns-in_err-bytes : goal.returns-in_err-bytes
returns-in_err-bytes c = search rules

pub returns : goal.returns
returns c = search rules
