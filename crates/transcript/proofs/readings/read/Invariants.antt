-- what is left of the text is what all of it is, and no more was read than it took
use Rattle.std.proofs.Common.{◌≡◌}
use Rattle.std.specs.Io.KnownBytes.{prepend_known}
use Rattle.fab_io.specs.Ends.{Kept}
use Rattle.transcript.specs.declared.readings.Text.{Text}
use Rattle.transcript.specs.Transcripts.{IsTextBehind, IsTextOf, StripesRise}
use Rattle.transcript.proofs.TextReading.{HasText}
use Rattle.transcript.proofs.readings.read.Given as goal

abbrev pub invariant-loop-count : goal.invariant-loop-count
invariant-loop-count g l = record {
  leads : (text : Text) → IsTextBehind l.count l.said (prepend_known l.unread (g.S.Source.told l.source)) text
      → IsTextOf (prepend_known l.initial.unread (g.S.Source.told l.initial.source)) text;
  has : HasText l.initial.unread l.unread (g.S.Source.told l.initial.source) (g.S.Source.told l.source) (g.S.Source.came l.source)
      (l.source ≡ l.initial.source) l.count l.said;
  rise : StripesRise l.said.stripes;
  source : Kept (g.S.Source.faults l.initial.source) (g.S.Source.faults l.source) (g.S.Source.sound l.initial.source) (g.S.Source.sound l.source) ⊥;
}
