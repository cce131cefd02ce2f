-- what the lines that are left mark is what all mark
use Rattle.std.proofs.Common.{◌≡◌, drop}
use Rattle.audit.specs.Sweeps.{happened_in, none_happened}
use Rattle.audit.proofs.sweeps.happened_in.Given as goal

abbrev pub invariant-loop-line : goal.invariant-loop-line
invariant-loop-line l = happened_in l.happened.items (drop l.line-index l.lines) ≡ happened_in (none_happened l.count) l.lines
