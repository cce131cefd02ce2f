-- What is read of an input when its next line is asked for.
use Rattle.std.specs.Prelude.{◌≡◌, ℕ, ◌-◌, ◌<◌, ◌≤◌, ◌⊎◌, false, List, [], ◌∷◌, ◌++◌, length, map, ⊤, Option, Some, None, IfSome, Result, Ok, Err}
use Rattle.std.specs.List.{list_any, concat, position}
use Rattle.std.specs.Io.KnownBytes.{Keeps, Consumes, IsAtEnd}
use Rattle.std.specs.Str.Lines.{strip_carriage_return}
use Rattle.lines.specs.Lines.{is_line_feed, raw_lines, content, ends_layout, parts}
use Rattle.lines.specs.declared.reader.NextLine.{NextLine}
use Rattle.lines.specs.declared.reader.NextLine.TheVariants.{Whole, Last, Long, Ended}

-- the known bytes that were left are these lines, and then those that are left now
abbrev pub Passes : Option (List ℕ) → Option (List ℕ) → List (List ℕ) → Type 0
Passes None now lines = ⊤
Passes (Some before) None lines = ⊥
Passes (Some before) (Some now) lines = raw_lines before ≡ lines ++ raw_lines now

-- the first line has more bytes than the limit, its line feed and the one carriage return before that not counted
abbrev pub BeginsLong : ℕ → List ℕ → Type 0
BeginsLong limit bytes = (line : List ℕ) × (rest : List (List ℕ)) × (raw_lines bytes ≡ line ∷ rest) × (limit < length (content line))

-- the first line feed of a line is its last byte
abbrev pub IsWhole : List ℕ → Type 0
IsWhole line = position is_line_feed line ≡ Some (length line - 1)

-- each of some lines is whole
abbrev pub AreWhole : List (List ℕ) → Type 0
AreWhole [] = ⊤
AreWhole (line ∷ lines) = IsWhole line × AreWhole lines

-- what an answer to the question for the next line says of the bytes that were left before and are left now
abbrev pub Says : ℕ → Option (List ℕ) → Option (List ℕ) → NextLine → Type 0
Says limit before now (Whole line) = (length (content line) ≤ limit) × Passes before now (line ∷ []) × IsWhole line
Says limit before now (Last line) = (length (content line) ≤ limit) × Passes before now (line ∷ []) × IsAtEnd now
Says limit before now Long = Keeps before now × IfSome before (BeginsLong limit)
Says limit before now Ended = IsAtEnd before × IsAtEnd now

-- the bytes of a line that was begun: none is a line feed, and they are within the limit, where one carriage return at
-- their end is not counted
abbrev pub IsBegun : ℕ → List ℕ → Type 0
IsBegun limit bytes = (position is_line_feed bytes ≡ None) × (length (strip_carriage_return bytes) ≤ limit)

-- What was read in some calls, behind bytes that were unread: nothing, by no read; or bytes, of which those that were read
-- before the last read left it open, behind the unread ones, what comes next. That read gave so many bytes.
abbrev pub IsNeeded : (List ℕ → Type 0) → List ℕ → List ℕ → ℕ → Type 0 → Type 0
IsNeeded undecided unread read came untouched =
    ((read ≡ []) × untouched)
    ⊎ ((before : List ℕ) × (last : List ℕ) × (read ≡ before ++ last) × (length last ≤ came) × undecided (unread ++ before))

-- the bytes that an answer takes
abbrev pub taken_by : {E : Type 0} → Result NextLine E → List ℕ
taken_by (Ok (Whole line)) = line
taken_by (Ok (Last line)) = line
taken_by (Ok Long) = []
taken_by (Ok Ended) = []
taken_by (Err error) = []

-- What was read to answer the question for the next line, behind the bytes that were unread. Bytes were read only while those
-- at hand were of a line that was begun, and where the source failed they still are.
pub record LineReads (limit : ℕ) (old new : List ℕ) (told told_after : Option (List ℕ)) (came : ℕ) (untouched : Type 0) (taken : List ℕ) (failed : Type 0) : Type 0 where
  pub read : List ℕ
  pub consumes : Consumes told told_after read
  pub bytes : old ++ read ≡ taken ++ new
  pub needed : IsNeeded (IsBegun limit) old read came untouched
  pub begun : failed → IsBegun limit new

-- lines were taken of an input, these bytes in all, and none of them ends its layout
abbrev pub ReadsHead : Option (List ℕ) → Option (List ℕ) → List ℕ → Type 0
ReadsHead start now head =
    (lines : List (List ℕ)) × Passes start now lines × (list_any ends_layout lines ≡ false) × (head ≡ concat lines)

-- this layout was taken of an input, the line that ends it, and these lines of its schedule
abbrev pub ReadsSchedule : Option (List ℕ) → Option (List ℕ) → List ℕ → List (List ℕ) → Type 0
ReadsSchedule None now layout lines = ⊤
ReadsSchedule (Some input) None layout lines = ⊥
ReadsSchedule (Some input) (Some left) layout lines =
    parts input ≡ Some (record { layout = layout; schedule = lines ++ map content (raw_lines left) })

-- an input has this layout, and its schedule begins with these lines and then this one
abbrev pub GoesOn : List ℕ → List (List ℕ) → List ℕ → List ℕ → Type 0
GoesOn layout lines line input =
    (rest : List (List ℕ)) × (parts input ≡ Some (record { layout = layout; schedule = lines ++ line ∷ rest }))
