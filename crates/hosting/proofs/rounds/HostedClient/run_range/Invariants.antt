use Rattle.std.proofs.Common.{◌+◌, ◌≤◌}
use Rattle.fab_io.specs.Ends.{Kept}
use Rattle.hosting.specs.Commanded.{IsRangeOf, Stands}
use Rattle.hosting.specs.Rounds.{told}
use Rattle.hosting.proofs.Hearing.{IsRunning}
use Rattle.hosting.proofs.rounds.HostedClient.run_range.Given as goal

abbrev pub invariant-loop-standing : goal.invariant-loop-standing
invariant-loop-standing g l = record {
  runs : IsRunning g.B.Bricks.takes l.port l.fn.range l.fn.self.end.sent l.fn.self.turns l.self.turns (record { sent = l.self.end.sent; range = l.range })
      (told (g.L.Link.waiting l.fn.self.end.link) (g.L.Link.sent l.fn.self.end.link)) (told (g.L.Link.waiting l.self.end.link) (g.L.Link.sent l.self.end.link))
      l.fn.self.bricks l.self.bricks;
  stands : Stands l.range l.standing;
  parts : IsRangeOf l.layout l.range;
  stays : g.B.Bricks.sound l.fn.self.bricks → g.B.Bricks.sound l.self.bricks;
  few : l.self.end.sent + l.self.turns ≤ l.fn.self.end.sent + l.fn.self.turns + 1;
  kept : Kept (g.L.Link.faults l.fn.self.end.link) (g.L.Link.faults l.self.end.link) (g.L.Link.sound l.fn.self.end.link) (g.L.Link.sound l.self.end.link) ⊥;
}

abbrev pub decreases-loop-standing : goal.decreases-loop-standing
decreases-loop-standing g l = l.self.turns
