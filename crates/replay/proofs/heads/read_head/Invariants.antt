use Rattle.std.proofs.Common.{◌≡◌, ◌≤◌, length}
use Rattle.std.specs.Io.KnownBytes.{prepend_known}
use Rattle.fab_io.specs.Ends.{Kept}
use Rattle.lines.specs.Reading.{ReadsHead}
use Rattle.replay.specs.Inputs.{most_layout_bytes}
use Rattle.replay.proofs.HeadReading.{HasHead}
use Rattle.replay.proofs.heads.read_head.Given as goal

abbrev pub invariant-loop : goal.invariant-loop
invariant-loop g l = record {
  read : ReadsHead (prepend_known l.initial.unread (g.S.Source.told l.initial.source))
      (prepend_known l.unread (g.S.Source.told l.source)) l.head.items;
  has : HasHead l.initial.unread l.unread (g.S.Source.told l.initial.source) (g.S.Source.told l.source) (g.S.Source.came l.source)
      (l.source ≡ l.initial.source) l.head.items;
  within : length l.head.items ≤ most_layout_bytes;
  source : Kept (g.S.Source.faults l.initial.source) (g.S.Source.faults l.source) (g.S.Source.sound l.initial.source) (g.S.Source.sound l.source) ⊥;
}
