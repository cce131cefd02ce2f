-- It is the call after the last.
use Rattle.std.proofs.Common.{refl}
use Rattle.node.specs.States.{state_with}
use Rattle.node.proofs.open_calls.OpenCalls.next_call.Goals as goal

pub returns : goal.returns
unfolding state_with
returns c = λ parts. refl
