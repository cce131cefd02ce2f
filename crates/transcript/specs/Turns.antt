-- What the next line of a text makes of what was said so far.
use Rattle.std.specs.Prelude.{◌≡◌, ℕ, ◌+◌, ◌<◌, List, Option, Some, ⊤}
use Rattle.std.specs.Io.KnownBytes.{IsAtEnd}
use Rattle.lines.specs.Lines.{content}
use Rattle.lines.specs.Reading.{Says}
use Rattle.lines.specs.declared.reader.NextLine.{NextLine}
use Rattle.lines.specs.declared.reader.NextLine.TheVariants.{Whole}
use Rattle.transcript.specs.declared.readings.Text.{Text}
use Rattle.transcript.specs.declared.readings.Text.TheVariants.{BadLine}
use Rattle.transcript.specs.declared.readings.Turn.{Turn}
use Rattle.transcript.specs.declared.readings.Turn.TheVariants.{More, Last, Bad, Ended}
use Rattle.transcript.specs.Said.{Transcribed}
use Rattle.transcript.specs.Forms.{entry_of, most_line_bytes}
use Rattle.transcript.specs.Transcripts.{after_line, IsTextBehind, StripesRise, text_at_end, most_lines}

-- the text goes on behind a line; or it ends behind it; or the line is bad; or there is none
abbrev pub TurnLeaves : Transcribed → Transcribed → ℕ → Option (List ℕ) → Option (List ℕ) → Turn → Type 0
TurnLeaves old new n left rest More = (text : Text) → IsTextBehind (n + 1) new rest text → IsTextBehind n old left text
TurnLeaves old new n left rest Last = IsTextBehind n old left (text_at_end (n + 1) new new.counts) × IsAtEnd rest
TurnLeaves old new n left rest Bad = IsTextBehind n old left (BadLine (n + 1))
TurnLeaves old new n left rest Ended = IsTextBehind n old left (text_at_end n new new.counts) × IsAtEnd rest

-- the same, wherever what comes next was read
abbrev pub TurnMeans : Transcribed → Transcribed → NextLine → Turn → Type 0
TurnMeans old new piece turn =
    (n : ℕ) (left rest : Option (List ℕ)) → n < most_lines → Says most_line_bytes left rest piece → TurnLeaves old new n left rest turn

-- the stripes that were said rise, once a line has come that leads on or where none is left
abbrev pub TurnRises : Transcribed → Turn → Type 0
TurnRises said More = StripesRise said.stripes
TurnRises said Last = StripesRise said.stripes
TurnRises said Bad = ⊤
TurnRises said Ended = StripesRise said.stripes

-- what leads on and is not the last is a whole line
abbrev pub TurnTakes : Transcribed → Transcribed → NextLine → Turn → Type 0
TurnTakes old new piece More = (line : List ℕ) × (piece ≡ Whole line) × (after_line old (entry_of (content line)) ≡ Some new)
TurnTakes old new piece Last = ⊤
TurnTakes old new piece Bad = ⊤
TurnTakes old new piece Ended = ⊤
