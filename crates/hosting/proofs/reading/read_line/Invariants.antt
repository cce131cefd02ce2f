use Rattle.std.proofs.Common.{◌+◌, ◌*◌}
use Rattle.fab_io.specs.Ends.{Kept}
use Rattle.hosting.specs.Reading.{IsReading}
use Rattle.hosting.proofs.reading.read_line.Given as goal

abbrev pub invariant-loop-paid : goal.invariant-loop-paid
invariant-loop-paid g l = record {
  reading : IsReading l.initial.turns l.turns l.paid (g.S.Source.told l.initial.source) (g.S.Source.told l.source) l.line.items;
  kept : Kept (g.S.Source.faults l.initial.source) (g.S.Source.faults l.source) (g.S.Source.sound l.initial.source) (g.S.Source.sound l.source) ⊥;
}

abbrev pub decreases-loop-paid : goal.decreases-loop-paid
decreases-loop-paid g l = l.turns * 70000 + l.paid
