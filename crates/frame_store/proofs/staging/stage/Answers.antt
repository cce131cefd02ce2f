-- Each exit is proved whole, by one search.
use Rattle.std.proofs.Common.{rules}
use Rattle.frame_store.proofs.staging.stage.Goals as goal

pub returns-in_err-reserve : goal.returns-in_err-reserve
returns-in_err-reserve g c = search rules

pub returns-in_err-put_line : goal.returns-in_err-put_line
returns-in_err-put_line g c = search rules

pub returns : goal.returns
returns g c = search rules
