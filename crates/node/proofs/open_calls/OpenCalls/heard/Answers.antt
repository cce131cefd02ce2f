-- The time is known.
use Rattle.protocol.specs.Nodes.{Node}
use Rattle.node.specs.States.{state_with}
use Rattle.node.proofs.open_calls.OpenCalls.heard.Goals as goal

pub returns-clause-state : goal.returns-clause-state
unfolding state_with
returns-clause-state c = λ parts i.
    let node : Node = state_with parts c.args.self.now in
    record node { boot = c.after_reply-self.ensures.boot i; known = c.after_reply-self.ensures.known i }
