use Rattle.std.proofs.Common.{List, ℕ, Option}
use Rattle.std.specs.Io.KnownBytes.{prepend_known}
use Rattle.fab_io.specs.Ends.{Kept}
use Rattle.trace.specs.Calls.{IsLeftTo}
use Rattle.trace.proofs.drawings.draw_lines.Given as goal

abbrev pub invariant-loop-count : goal.invariant-loop-count
invariant-loop-count g l = record {
  left : (input : Option (List ℕ)) → IsLeftTo input 0 (prepend_known l.initial.unread (g.S.Source.told l.initial.source))
      → IsLeftTo input l.count (prepend_known l.unread (g.S.Source.told l.source));
  source : Kept (g.S.Source.faults l.initial.source) (g.S.Source.faults l.source) (g.S.Source.sound l.initial.source) (g.S.Source.sound l.source) ⊥;
}
