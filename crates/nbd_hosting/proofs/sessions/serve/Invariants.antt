use Rattle.std.proofs.Common.{◌≡◌, length}
use Rattle.fab_io.specs.Ends.{Kept}
use Rattle.hosting.specs.Rounds.{told}
use Rattle.nbd_front.specs.Lives.{effort}
use Rattle.nbd_hosting.specs.Serving.{outside}
use Rattle.nbd_hosting.specs.Steps.{IsServing}
use Rattle.nbd_hosting.proofs.sessions.serve.Given as goal

-- the session is served, and the things outside are kept
abbrev pub invariant-loop-room : goal.invariant-loop-room
invariant-loop-room g l = record {
  serving : IsServing g.B.Bricks.takes l.layout l.fn.client.turns
      (outside (g.S.Source.told l.fn.source) (told (g.L.Link.waiting l.fn.client.end.link) (g.L.Link.sent l.fn.client.end.link)) l.fn.client.bricks
      (g.K.Sink.told l.fn.sink))
      (outside (g.S.Source.told l.source) (told (g.L.Link.waiting l.client.end.link) (g.L.Link.sent l.client.end.link)) l.client.bricks (g.K.Sink.told l.sink))
      l.session l.client.turns l.client.end.sent;
  many : length l.room.items ≡ 65536;
  stays : g.B.Bricks.sound l.fn.client.bricks → g.B.Bricks.sound l.client.bricks;
  link : Kept (g.L.Link.faults l.fn.client.end.link) (g.L.Link.faults l.client.end.link) (g.L.Link.sound l.fn.client.end.link)
      (g.L.Link.sound l.client.end.link) ⊥;
  source : Kept (g.S.Source.faults l.fn.source) (g.S.Source.faults l.source) (g.S.Source.sound l.fn.source) (g.S.Source.sound l.source) ⊥;
  sink : Kept (g.K.Sink.faults l.fn.sink) (g.K.Sink.faults l.sink) (g.K.Sink.sound l.fn.sink) (g.K.Sink.sound l.sink) ⊥;
}

-- what is ahead of the session
abbrev pub decreases-loop-room : goal.decreases-loop-room
decreases-loop-room g l = effort l.session l.client.turns
