-- Each exit is proved whole, by one search.
use Rattle.std.proofs.Common.{rules}
use Rattle.frame_store.proofs.staging.stage_list.Goals as goal

pub returns-in_err-reserve : goal.returns-in_err-reserve
returns-in_err-reserve g c = search rules

pub returns-in_err-put : goal.returns-in_err-put
returns-in_err-put g c = search rules

pub returns : goal.returns
returns g c = search rules
