-- The call and the time are the last ones.
use Rattle.std.proofs.Common.{refl}
use Rattle.node.specs.States.{state_with}
use Rattle.node.proofs.open_calls.OpenCalls.made_read.Goals as goal

pub returns-clause-state : goal.returns-clause-state
unfolding state_with
returns-clause-state c = λ parts. refl
