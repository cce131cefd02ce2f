use Rattle.std.proofs.Common.{◌≡◌, ◌≤◌, false}
use Rattle.fab_io.specs.Ends.{Kept}
use Rattle.stripe_code.specs.Codes.{coding}
use Rattle.node.specs.Running.{state_of, IsSameBrick}
use Rattle.serving.specs.Serves.{outside}
use Rattle.serving.specs.Servings.{HasNoClient, begun}
use Rattle.serving.specs.Views.{serving_of, IsServerOf}
use Rattle.serving.proofs.Runs.{HasServed}
use Rattle.serving.proofs.turns.take_turns.Given as goal

-- so many turns were taken
abbrev pub invariant-loop-turn : goal.invariant-loop-turn
invariant-loop-turn g l = record {
  has : HasServed (coding l.initial.node.layout) l.initial.node.me (begun (state_of l.initial.node)) (serving_of l.server l.node)
      (outside (g.L.Link.waiting l.initial.link) (g.L.Link.sent l.initial.link) (g.C.Clock.coming l.initial.clock))
      (outside (g.L.Link.waiting l.link) (g.L.Link.sent l.link) (g.C.Clock.coming l.clock)) l.turn l.malformed;
  few : l.malformed ≤ l.turn;
  fresh : HasNoClient (serving_of l.server l.node);
  server : IsServerOf l.server l.node;
  same : IsSameBrick l.initial.node l.node;
  runs : l.node.brick.halted ≡ false;
  disk : Kept (g.D.Disk.faults l.initial.node.brick.disk) (g.D.Disk.faults l.node.brick.disk) (g.D.Disk.sound l.initial.node.brick.disk)
      (g.D.Disk.sound l.node.brick.disk) ⊥;
  link : Kept (g.L.Link.faults l.initial.link) (g.L.Link.faults l.link) (g.L.Link.sound l.initial.link) (g.L.Link.sound l.link) ⊥;
  clock : Kept (g.C.Clock.faults l.initial.clock) (g.C.Clock.faults l.clock) (g.C.Clock.sound l.initial.clock) (g.C.Clock.sound l.clock) ⊥;
}
