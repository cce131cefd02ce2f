-- What the lines of a text say together, and which texts are whole: marks and other words, then the happenings of stripes, then the
-- counts.
use Rattle.std.specs.Prelude.{◌≡◌, ⊤, map, ℕ, ◌<◌, ◌+◌, ◌-◌, nat_eq, nat_lt, ◌&&◌, ◌||◌, Bool, true, false, if◌then◌else◌, List, [], ◌∷◌, ◌++◌, length, slice_get, Option, Some, None}
use Rattle.std.specs.Option.{is_none}
use Rattle.std.specs.Io.KnownBytes.{IsAtEnd}
use Rattle.lines.specs.Lines.{raw_lines, content}
use Rattle.transcript.specs.declared.claims.ParsedMark.{ParsedMark}
use Rattle.transcript.specs.declared.claims.ParsedMark.TheVariants.{Begin, End, Crash}
use Rattle.transcript.specs.declared.claims.Counts.{Counts}
use Rattle.transcript.specs.declared.claims.StripeLine.{StripeLine}
use Rattle.transcript.specs.declared.claims.Entry.{Entry}
use Rattle.transcript.specs.declared.claims.Entry.TheVariants.{Mark, Other, Happened, Counted}
use Rattle.transcript.specs.declared.readings.Text.{Text}
use Rattle.transcript.specs.declared.readings.Text.TheVariants.{Whole, BadLine, TooManyLines}
use Rattle.transcript.specs.Said.{Transcribed}
use Rattle.transcript.specs.Forms.{entry_of}

-- before the first line
abbrev pub nothing_said : Transcribed
nothing_said = record { claims = []; stripes = []; counts = None }

-- the position that a mark says
abbrev pub position_said : ParsedMark → ℕ
position_said (Begin p n b g s access) = p
position_said (End p n outcome) = p
position_said (Crash p b) = p

-- neither happenings nor counts were said
abbrev pub is_in_marks : Transcribed → Bool
is_in_marks t = nat_eq (length t.stripes) 0 && is_none t.counts

-- one stripe is before another, by group and then by number
abbrev pub stripe_before : StripeLine → StripeLine → Bool
stripe_before a b = nat_lt a.group b.group || (nat_eq a.group b.group && nat_lt a.stripe b.stripe)

-- a stripe is behind the last one
abbrev pub is_behind : Option StripeLine → StripeLine → Bool
is_behind None line = true
is_behind (Some last) line = stripe_before last line

-- a stripe is behind all that were said
abbrev pub is_next : Transcribed → StripeLine → Bool
is_next t line = is_none t.counts && is_behind (slice_get t.stripes (length t.stripes - 1)) line

-- What was said, with what a further line says, where it stands in its place: a mark of the running position, or another word, before
-- the happenings; the happenings of a stripe behind those of the stripes below it; the counts behind them; and nothing behind the counts.
unfoldable pub after_entry : Transcribed → Entry → Option Transcribed
after_entry t (Mark claim) =
    if is_in_marks t && nat_eq (position_said claim) (length t.claims) then Some (record t { claims = t.claims ++ claim ∷ [] }) else None
after_entry t Other = if is_in_marks t then Some t else None
after_entry t (Happened line) = if is_next t line then Some (record t { stripes = t.stripes ++ line ∷ [] }) else None
after_entry t (Counted counts) = if is_none t.counts then Some (record t { counts = Some counts }) else None

-- the same of a line that may say nothing
abbrev pub after_line : Transcribed → Option Entry → Option Transcribed
after_line t None = None
after_line t (Some entry) = after_entry t entry

-- the most lines of a text
abbrev pub most_lines : ℕ
most_lines = 4194304

-- a text that ends after n lines: the counts are its last line
abbrev pub text_at_end : ℕ → Transcribed → Option Counts → Text
text_at_end n t None = BadLine (n + 1)
text_at_end n t (Some counts) = Whole t counts

-- a line that is numbered n + 1: too many, or not in its place, or one that leads on
abbrev pub text_at_line : ℕ → Bool → Option Transcribed → (Transcribed → Text) → Text
text_at_line n false after behind = TooManyLines
text_at_line n true None behind = BadLine (n + 1)
text_at_line n true (Some t) behind = behind t

-- what a text is whose first n lines say so much, where these lines stand behind them; each is given without its line end
unfoldable pub text_behind : ℕ → Transcribed → List (List ℕ) → Text
text_behind n t [] = text_at_end n t t.counts
text_behind n t (content ∷ contents) =
    text_at_line n (nat_lt n most_lines) (after_line t (entry_of content)) (λ next. text_behind (n + 1) next contents)

-- What a text is that has these lines, each without its line end: it is whole, and says so much; or a line, counted from 1, has none of
-- the forms or is not in its place, or the text ends before its counts, which then are missing on the next line; or it has too many lines.
abbrev pub text_of : List (List ℕ) → Text
text_of contents = text_behind 0 nothing_said contents

-- What is left of a source behind n lines that say so much is this text, where the source tells its bytes.
abbrev pub IsTextBehind : ℕ → Transcribed → Option (List ℕ) → Text → Type 0
IsTextBehind n said None text = ⊤
IsTextBehind n said (Some bytes) text = text_behind n said (map content (raw_lines bytes)) ≡ text

-- what is left of a source is this text, where the source tells its bytes
abbrev pub IsTextOf : Option (List ℕ) → Text → Type 0
IsTextOf None text = ⊤
IsTextOf (Some bytes) text = text_of (map content (raw_lines bytes)) ≡ text

-- a whole text was read to the end
abbrev pub EndsWhole : Text → Option (List ℕ) → Type 0
EndsWhole (Whole said counts) left = IsAtEnd left
EndsWhole (BadLine line) left = ⊤
EndsWhole TooManyLines left = ⊤

-- each stripe is before those behind it
abbrev pub StripesRise : List StripeLine → Type 0
StripesRise stripes = (i j : ℕ) (a b : StripeLine) → i < j → slice_get stripes i ≡ Some a → slice_get stripes j ≡ Some b → stripe_before a b ≡ true

-- what a whole text says of stripes rises
abbrev pub RisesWhole : Text → Type 0
RisesWhole (Whole said counts) = StripesRise said.stripes
RisesWhole (BadLine line) = ⊤
RisesWhole TooManyLines = ⊤
