-- Each exit is proved whole, by one search.
use Rattle.std.proofs.Common.{rules}
use Rattle.lines.proofs.reader.LineReader.fill.Goals as goal

pub returns-in_err-reserve : goal.returns-in_err-reserve
returns-in_err-reserve g c = search rules

pub returns-in_err-came : goal.returns-in_err-came
returns-in_err-came g c = search rules

pub returns-in_err-extend_from_slice : goal.returns-in_err-extend_from_slice
returns-in_err-extend_from_slice g c = search rules
