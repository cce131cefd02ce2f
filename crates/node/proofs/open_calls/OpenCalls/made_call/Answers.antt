-- The number of the last call is one more, or as it was.
use Rattle.std.proofs.Common.{◌+◌, Bool, if◌then◌else◌, sym, ap}
use Rattle.protocol.specs.Nodes.{Node}
use Rattle.node.specs.States.{state_with}
use Rattle.node.proofs.open_calls.OpenCalls.made_call.Goals as goal

pub returns-then-made-clause-state : goal.returns-then-made-clause-state
unfolding state_with
returns-then-made-clause-state c = λ parts.
    let node : Node = state_with parts c.args.self.now in
    ap (λ (made : Bool). record node { seq = if made then c.args.self.now.seq + 1 else c.args.self.now.seq }) (sym c.if-made.true)

pub returns-else-made-clause-state : goal.returns-else-made-clause-state
unfolding state_with
returns-else-made-clause-state c = λ parts.
    let node : Node = state_with parts c.args.self.now in
    ap (λ (made : Bool). record node { seq = if made then c.args.self.now.seq + 1 else c.args.self.now.seq }) (sym c.if-made.false)
