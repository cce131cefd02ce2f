use Rattle.std.proofs.Common.{◌+◌, ◌≤◌, false}
use Rattle.fab_io.specs.Ends.{Kept}
use Rattle.hosting.specs.Rounds.{told}
use Rattle.hosting.proofs.Running.{HasRun}
use Rattle.hosting.proofs.rounds.HostedClient.run_lines.Given as goal

abbrev pub invariant-loop-line : goal.invariant-loop-line
invariant-loop-line g l = record {
  run : HasRun g.B.Bricks.takes l.layout l.fn.self.turns (g.S.Source.told l.fn.source) (g.S.Source.told l.source)
      (told (g.L.Link.waiting l.fn.self.end.link) (g.L.Link.sent l.fn.self.end.link)) (told (g.L.Link.waiting l.self.end.link) (g.L.Link.sent l.self.end.link)) l.fn.self.bricks l.self.bricks
      (g.K.Sink.told l.fn.sink) (g.K.Sink.told l.sink) l.self.turns l.number l.self.end.sent false false;
  stays : g.B.Bricks.sound l.fn.self.bricks → g.B.Bricks.sound l.self.bricks;
  sent_few : l.self.end.sent + l.self.turns ≤ l.fn.self.turns;
  few : l.number + l.self.turns ≤ l.fn.self.turns;
  link : Kept (g.L.Link.faults l.fn.self.end.link) (g.L.Link.faults l.self.end.link) (g.L.Link.sound l.fn.self.end.link) (g.L.Link.sound l.self.end.link) ⊥;
  source : Kept (g.S.Source.faults l.fn.source) (g.S.Source.faults l.source) (g.S.Source.sound l.fn.source) (g.S.Source.sound l.source) ⊥;
  sink : Kept (g.K.Sink.faults l.fn.sink) (g.K.Sink.faults l.sink) (g.K.Sink.sound l.fn.sink) (g.K.Sink.sound l.sink) ⊥;
}

abbrev pub decreases-loop-line : goal.decreases-loop-line
decreases-loop-line g l = l.self.turns
