-- All that the loop has passed tell the version.
use Rattle.std.proofs.Common.{◌≡◌, drop}
use Rattle.protocol.specs.Coordinators.{all_tell}
use Rattle.coord_phase.proofs.versions.is_told_by_all.Given as goal

abbrev pub invariant-loop-reply : goal.invariant-loop-reply
invariant-loop-reply l = all_tell l.version l.counted ≡ all_tell l.version (drop l.reply-index l.counted)
