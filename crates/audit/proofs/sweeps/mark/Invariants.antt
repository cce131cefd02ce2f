-- what the happenings that are left mark is what all mark
use Rattle.std.proofs.Common.{◌≡◌, drop}
use Rattle.audit.specs.Sweeps.{happened_along}
use Rattle.audit.proofs.sweeps.mark.Given as goal

abbrev pub invariant-loop-happening : goal.invariant-loop-happening
invariant-loop-happening l = happened_along l.happened (drop l.happening-index l.happenings) ≡ happened_along l.initial.happened l.happenings
