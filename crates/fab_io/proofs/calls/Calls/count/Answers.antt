-- Each exit is proved whole, by one search.
use Rattle.std.proofs.Common.{rules}
use Rattle.fab_io.proofs.calls.Calls.count.Goals as goal

pub returns-then-fails : goal.returns-then-fails
returns-then-fails c = search rules

pub returns : goal.returns
returns c = search rules
