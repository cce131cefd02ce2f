use Rattle.std.proofs.Common.{◌≡◌}
use Rattle.fab_io.specs.Ends.{Kept}
use Rattle.replay.proofs.Rests.{HasRun}
use Rattle.replay.proofs.schedules.run_lines.Given as goal

abbrev pub invariant-loop-count : goal.invariant-loop-count
invariant-loop-count g l = record {
  ran : HasRun l.initial.world l.world l.count l.initial.unread l.unread (g.S.Source.told l.initial.source) (g.S.Source.told l.source)
      (g.K.Sink.told l.initial.sink) (g.K.Sink.told l.sink) (g.S.Source.came l.source) (l.source ≡ l.initial.source);
  source : Kept (g.S.Source.faults l.initial.source) (g.S.Source.faults l.source) (g.S.Source.sound l.initial.source) (g.S.Source.sound l.source) ⊥;
  sink : Kept (g.K.Sink.faults l.initial.sink) (g.K.Sink.faults l.sink) (g.K.Sink.sound l.initial.sink) (g.K.Sink.sound l.sink) ⊥;
}
