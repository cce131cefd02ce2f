-- What was read of a text, no more than it took to know what it is.
use Rattle.std.specs.Prelude.{◌≡◌, ℕ, ◌≤◌, List, ◌++◌, length, map, Option}
use Rattle.std.specs.List.{concat}
use Rattle.std.specs.Io.KnownBytes.{Consumes}
use Rattle.lines.specs.Lines.{content}
use Rattle.lines.specs.Reading.{AreWhole, IsBegun, IsNeeded}
use Rattle.transcript.specs.Said.{Transcribed}
use Rattle.transcript.specs.Forms.{most_line_bytes}
use Rattle.transcript.specs.Transcripts.{text_of, text_behind, most_lines}

-- Lines, each without its line end, lead on: they have the forms and stand in their places, and are no more than there may be. They say
-- so much, and those behind them decide what the text is.
pub record LeadsOn (lines : List (List ℕ)) : Type 0 where
  pub said : Transcribed
  pub within : length lines ≤ most_lines
  pub leads : (more : List (List ℕ)) → text_of (lines ++ more) ≡ text_behind (length lines) said more

-- bytes are whole lines that lead on, and a line that was begun
pub record TextSoFar (bytes : List ℕ) : Type 0 where
  pub raw : List (List ℕ)
  pub begun : List ℕ
  pub are_whole : AreWhole raw
  pub is_begun : IsBegun most_line_bytes begun
  pub bytes_are : bytes ≡ concat raw ++ begun
  pub leads_on : LeadsOn (map content raw)

-- What was read of a text, behind the bytes that were unread: no more than left it open what the text is. Where the source failed it is
-- open still.
pub record TextReads (unread : List ℕ) (told told_after : Option (List ℕ)) (came : ℕ) (untouched failed : Type 0) : Type 0 where
  pub read : List ℕ
  pub consumes : Consumes told told_after read
  pub needed : IsNeeded TextSoFar unread read came untouched
  pub left_open : failed → TextSoFar (unread ++ read)
