-- Where the loop has passed no member that was behind, the others decide.
use Rattle.std.proofs.Common.{◌≡◌, drop}
use Rattle.protocol.specs.Coordinators.{some_behind}
use Rattle.coord_phase.proofs.operations.Operation.some_behind.Given as goal

abbrev pub invariant-loop-reply : goal.invariant-loop-reply
invariant-loop-reply l = some_behind l.self.state.counted ≡ some_behind (drop l.reply-index l.reply-items)
