use Rattle.std.proofs.Common.{◌≤◌, length}
use Rattle.std.specs.Io.KnownBytes.{Consumes}
use Rattle.fab_io.specs.Ends.{Kept}
use Rattle.brick.specs.Layouts.{most_layout_bytes}
use Rattle.brick.proofs.layout_texts.read_text.Given as goal

abbrev pub invariant-loop : goal.invariant-loop
invariant-loop g l = record {
  consumes : Consumes (g.S.Source.told l.initial.source) (g.S.Source.told l.source) l.text.items;
  within : length l.text.items ≤ most_layout_bytes;
  source : Kept (g.S.Source.faults l.initial.source) (g.S.Source.faults l.source) (g.S.Source.sound l.initial.source) (g.S.Source.sound l.source) ⊥;
}
