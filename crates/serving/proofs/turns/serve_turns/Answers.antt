-- The turns so far, and how they end.
use Rattle.std.proofs.lemmas.Result.{err_from_is_err_and}
use Rattle.stripe_code.specs.Codes.{coding}
use Rattle.node.specs.Running.{state_of}
use Rattle.serving.specs.declared.faults.ServeFault.TheVariants.{NoMemory}
use Rattle.serving.specs.Serves.{outside, IsServed}
use Rattle.serving.proofs.Ends.{at_exit}
use Rattle.serving.proofs.Runs.{served_nothing}
use Rattle.serving.proofs.turns.serve_turns.Goals as goal

pub returns-in_err-room-clause-served : goal.returns-in_err-room-clause-served
returns-in_err-room-clause-served g c =
    let q = err_from_is_err_and c.from_residual.result c.from_residual.ensures.1 in
    let node = c.args.node.now in
    let out = outside (g.L.Link.waiting c.args.link.now) (g.L.Link.sent c.args.link.now) (g.C.Clock.coming c.args.clock.now) in
    at_exit c.from_residual.result NoMemory (IsServed (coding node.layout) node.me (state_of node) (state_of node) out out c.args.turns) q.0 q.1 q.2
    (served_nothing (coding node.layout) node.me (state_of node) out c.args.turns)
