-- Each exit is proved whole, by one search.
use Rattle.std.proofs.Common.{rules}
use Rattle.frame_store.proofs.staging.make_room.Goals as goal

pub returns-in_err-reserve : goal.returns-in_err-reserve
returns-in_err-reserve g c = search rules

pub returns-in_err-reserve-2 : goal.returns-in_err-reserve-2
returns-in_err-reserve-2 g c = search rules

pub returns : goal.returns
returns g c = search rules
