use Rattle.std.proofs.Common.{◌≡◌, ◌+◌, ◌-◌, ◌≤◌, length, take, None, max}
use Rattle.std.specs.List.{position}
use Rattle.std.specs.Io.KnownBytes.{Keeps, prepend_known}
use Rattle.fab_io.specs.Ends.{Kept}
use Rattle.lines.specs.Lines.{is_line_feed}
use Rattle.lines.proofs.LineReading.{HasRead}
use Rattle.lines.proofs.reader.LineReader.next_line.Given as goal

abbrev pub invariant-loop-at : goal.invariant-loop-at
invariant-loop-at g l = record {
  within : l.scanned ≤ length l.self;
  none : position is_line_feed (take l.scanned l.self) ≡ None;
  left : Keeps (prepend_known l.initial.self (g.S.Source.told l.initial.source)) (prepend_known l.self (g.S.Source.told l.source));
  ends : Kept (g.S.Source.faults l.initial.source) (g.S.Source.faults l.source) (g.S.Source.sound l.initial.source) (g.S.Source.sound l.source) ⊥;
  reads : HasRead l.limit l.initial.self l.self (g.S.Source.told l.initial.source) (g.S.Source.told l.source) (g.S.Source.came l.source)
      (l.source ≡ l.initial.source);
  held : length l.self ≤ max (length l.initial.self) (l.limit + 2 + 4096);
}

abbrev pub decreases-loop-at : goal.decreases-loop-at
decreases-loop-at g l = l.limit + 3 - length l.self
