use Rattle.std.proofs.Common.{List, ℕ, [], Option, Ok}
use Rattle.std.specs.Io.KnownBytes.{prepend_known}
use Rattle.fab_io.specs.Ends.{Kept}
use Rattle.lines.specs.Reading.{ReadsSchedule}
use Rattle.trace.specs.Calls.{IsLeftTo}
use Rattle.trace.specs.TextReport.{TellsLines}
use Rattle.trace.proofs.text_report.tell_lines.Given as goal

abbrev pub invariant-loop-count : goal.invariant-loop-count
invariant-loop-count g l = record {
  told : (input : Option (List ℕ)) (head : List ℕ) → ReadsSchedule input (prepend_known l.initial.unread (g.S.Source.told l.initial.source)) head []
      → TellsLines {T = Unit {0}} l.initial.world l.world input (prepend_known l.unread (g.S.Source.told l.source)) head (g.K.Sink.told l.initial.sink)
      (g.K.Sink.told l.sink) (Ok tt);
  left : (input : Option (List ℕ)) → IsLeftTo input 0 (prepend_known l.initial.unread (g.S.Source.told l.initial.source))
      → IsLeftTo input l.count (prepend_known l.unread (g.S.Source.told l.source));
  source : Kept (g.S.Source.faults l.initial.source) (g.S.Source.faults l.source) (g.S.Source.sound l.initial.source) (g.S.Source.sound l.source) ⊥;
  sink : Kept (g.K.Sink.faults l.initial.sink) (g.K.Sink.faults l.sink) (g.K.Sink.sound l.initial.sink) (g.K.Sink.sound l.sink) ⊥;
}
