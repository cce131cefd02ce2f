-- Each exit is proved whole, by one search.
use Rattle.std.proofs.Common.{rules}
use Rattle.frame_store.proofs.steps.sync.Goals as goal

pub returns-in-Ok : goal.returns-in-Ok
returns-in-Ok g c = search rules

pub returns-in-Err : goal.returns-in-Err
returns-in-Err g c = search rules
