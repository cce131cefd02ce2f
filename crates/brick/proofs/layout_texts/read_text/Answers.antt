use Rattle.std.proofs.Common.{rules}
use Rattle.brick.proofs.layout_texts.read_text.Goals as goal

pub returns-in_err-came : goal.returns-in_err-came
returns-in_err-came g c = search rules

pub returns-then-came-eq0 : goal.returns-then-came-eq0
returns-then-came-eq0 g c = search rules

pub returns-then-came-len-clause-kept : goal.returns-then-came-len-clause-kept
returns-then-came-len-clause-kept g c = search rules

pub returns-in_err-extend_from_slice : goal.returns-in_err-extend_from_slice
returns-in_err-extend_from_slice g c = search rules

pub returns : goal.returns
returns g c = search rules
