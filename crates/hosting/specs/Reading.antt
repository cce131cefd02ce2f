-- What is read of a source when the next line of commands is asked for, and the turns that this takes.
use Rattle.std.specs.Prelude.{◌≡◌, ◌⊎◌, ℕ, ◌+◌, ◌*◌, ◌<◌, ◌≤◌, Bool, true, false, List, [], ◌∷◌, ◌++◌, length, take, Option, Some, None, Result, Ok, Err}
use Rattle.std.specs.List.{list_any}
use Rattle.std.specs.Io.KnownBytes.{Consumes, IsAtEnd}
use Rattle.lines.specs.Lines.{is_line_feed}
use Rattle.hosting.specs.declared.faults.HostFault.{HostFault}
use Rattle.hosting.specs.declared.reading.LineRead.{LineRead}

-- A turn is taken as the first byte of a line is read, and one more for each further 70,000 bytes begun.
abbrev pub turn_bytes : ℕ
turn_bytes = 70000

-- so many turns were taken for so many bytes of a line
pub record AreTurnsOf (bytes turns : ℕ) : Type 0 where
  pub enough : bytes ≤ turns * turn_bytes
  pub begun : turns * turn_bytes < bytes + turn_bytes

-- no byte is a line feed
abbrev pub HasNoFeed : List ℕ → Type 0
HasNoFeed bytes = list_any is_line_feed bytes ≡ false

-- the first line feed is the last byte
abbrev pub IsWhole : List ℕ → Type 0
IsWhole line = (front : List ℕ) × HasNoFeed front × (line ≡ front ++ (10 ∷ []))

-- so many bytes of a line are enough to tell whether it is longer than a command may be, and else what it says
abbrev pub most_kept : ℕ
most_kept = 70003

-- bytes of one line: none is a line feed, or the last one alone is
abbrev pub IsFront : List ℕ → Type 0
IsFront bytes = HasNoFeed bytes ⊎ IsWhole bytes

-- these bytes were read of a line, by so many turns
pub record Reads (turns turns_after : ℕ) (told told_after : Option (List ℕ)) (line : List ℕ) (taken : ℕ) : Type 0 where
  pub consumes : Consumes told told_after line
  pub counted : turns ≡ turns_after + taken
  pub turns_of : AreTurnsOf (length line) taken

-- the last line, without a line feed, was read to the end of the source
abbrev pub IsLastLine : Option (List ℕ) → List ℕ → Type 0
IsLastLine told_after line = HasNoFeed line × (1 ≤ length line) × IsAtEnd told_after

-- a line was read up to its line feed; or, being the last, to the end of the source
abbrev pub IsLine : Option (List ℕ) → List ℕ → Bool → Type 0
IsLine told_after line false = IsWhole line
IsLine told_after line true = IsLastLine told_after line

-- A line was read, and this is its front; or the source was at its end; or no turn was left, and the next byte would take one.
abbrev pub Gives : ℕ → Option (List ℕ) → List ℕ → ℕ → Option LineRead → Type 0
Gives turns_after told_after line taken (Some read) = (read.kept ≡ take most_kept line) × IsLine told_after line read.is_last
Gives turns_after told_after line taken None =
    ((line ≡ []) × IsAtEnd told_after) ⊎ (HasNoFeed line × (turns_after ≡ 0) × (length line ≡ taken * turn_bytes))

-- where reading failed, all that was read is of one line
abbrev pub Answers : ℕ → Option (List ℕ) → List ℕ → ℕ → Result (Option LineRead) HostFault → Type 0
Answers turns_after told_after line taken (Ok one) = Gives turns_after told_after line taken one
Answers turns_after told_after line taken (Err fault) = IsFront line

-- what was read when the next line was asked for, and what that gave
pub record ReadsLine (turns turns_after : ℕ) (told told_after : Option (List ℕ)) (result : Result (Option LineRead) HostFault) : Type 0 where
  pub line : List ℕ
  pub taken : ℕ
  pub reads : Reads turns turns_after told told_after line taken
  pub answers : Answers turns_after told_after line taken result

-- the last line is what was kept, if that is anything
abbrev pub IsLast : List ℕ → Option LineRead → Type 0
IsLast kept None = length kept ≡ 0
IsLast kept (Some read) = (1 ≤ length kept) × (read.kept ≡ kept) × (read.is_last ≡ true)

-- where reading a line stands: these bytes were read, none of which is a line feed, and the turns pay for so many more
pub record IsReading (turns turns_now paid : ℕ) (told told_now : Option (List ℕ)) (kept : List ℕ) : Type 0 where
  pub line : List ℕ
  pub consumes : Consumes told told_now line
  pub no_feed : HasNoFeed line
  pub kept_is : kept ≡ take most_kept line
  pub pays : turns_now * turn_bytes + paid + length line ≡ turns * turn_bytes
  pub few : paid < turn_bytes
