-- What a part of a run read, no more than it took to know how the run ends.
use Rattle.std.specs.Prelude.{◌≡◌, ℕ, ◌≤◌, true, false, List, [], ◌++◌, length, map, ⊤, Option, None, Result, Ok, Err}
use Rattle.std.specs.List.{list_any, concat, position}
use Rattle.std.specs.Io.KnownBytes.{Appends, Consumes}
use Rattle.lines.specs.Lines.{is_line_feed, content, ends_layout}
use Rattle.lines.specs.Reading.{AreWhole, IsWhole, IsBegun, IsNeeded}
use Rattle.fab_base.specs.Layouts.{Layout}
use Rattle.layout.specs.Texts.{layout_of}
use Rattle.stripe_code.specs.Codes.{coding}
use Rattle.world.specs.Runs.{Run, Step, world_of}
use Rattle.replay.specs.declared.endings.Halt.{Halt}
use Rattle.replay.specs.declared.endings.Halt.TheVariants.{Source}
use Rattle.replay.specs.declared.heads.Head.{Head}
use Rattle.replay.specs.declared.heads.Head.TheVariants.{Text, Alone, TooLong, Endless}
use Rattle.replay.specs.Inputs.{most_layout_bytes}
use Rattle.printed.specs.Outputs.{most_lines, steps_text}
use Rattle.printed.specs.LineSteps.{LeadsTo, AreLinesOfSteps, StartsFresh}

-- What a part of a run read, behind the bytes that were unread: no more than left it open how the run ends. Where the source
-- failed it is open still, and the sink took the text of what was read.
pub record ReadsPart (open_after : List ℕ → List ℕ → Type 0) (unread : List ℕ) (told told_after old new : Option (List ℕ)) (came : ℕ) (untouched failed : Type 0) : Type 0 where
  pub read : List ℕ
  pub consumes : Consumes told told_after read
  pub needed : IsNeeded (λ bytes. (text : List ℕ) × open_after bytes text) unread read came untouched
  pub printed : failed → (text : List ℕ) × open_after (unread ++ read) text × Appends old new text

-- bytes are whole lines of a layout's text, within its limit, and a line that was begun
pub record HeadSoFar (bytes : List ℕ) : Type 0 where
  pub lines : List (List ℕ)
  pub begun : List ℕ
  pub are_whole : AreWhole lines
  pub is_begun : IsBegun most_layout_bytes begun
  pub bytes_are : bytes ≡ concat lines ++ begun
  pub none_ends : list_any ends_layout lines ≡ false
  pub within : length (concat lines) ≤ most_layout_bytes

-- bytes are whole lines that a schedule may have, and a line that was begun; these steps of the lines were taken behind a run, and this is their text
pub record LinesSoFar (run : Run) (bytes text : List ℕ) : Type 0 where
  pub raw : List (List ℕ)
  pub begun : List ℕ
  pub steps : List Step
  pub last : Run
  pub leads : LeadsTo run steps last
  pub are_whole : AreWhole raw
  pub is_begun : IsBegun 70000 begun
  pub bytes_are : bytes ≡ concat raw ++ begun
  pub lines_are : AreLinesOfSteps (map content raw) steps
  pub within : length steps ≤ most_lines
  pub text_is : text ≡ steps_text (coding run.layout) (world_of run) steps

-- the same, behind the text of a layout: no step was taken before
pub record ScheduleSoFar (head bytes text : List ℕ) : Type 0 where
  pub layout : Layout
  pub layout_is : layout_of head ≡ Ok layout
  pub first : Run
  pub first_is : first ≡ record { layout = layout; steps = []; disks = first.disks }
  pub fresh : StartsFresh first
  pub lines : LinesSoFar first bytes text

-- Bytes behind a layout's text are whole lines, and a line that was begun, behind which it goes on, and this is the text of the lines.
pub record BehindSoFar (goes_on : List ℕ → List (List ℕ) → List ℕ → List ℕ → Type 0) (head bytes text : List ℕ) : Type 0 where
  pub raw : List (List ℕ)
  pub begun : List ℕ
  pub are_whole : AreWhole raw
  pub has_none : position is_line_feed begun ≡ None
  pub bytes_are : bytes ≡ concat raw ++ begun
  pub goes : goes_on head (map content raw) begun text

-- the bytes that were taken are a layout's text and the line that ends it
pub record TakesHead (text bytes new : List ℕ) : Type 0 where
  pub lines : List (List ℕ)
  pub end : List ℕ
  pub are_whole : AreWhole lines
  pub is_whole : IsWhole end
  pub none_ends : list_any ends_layout lines ≡ false
  pub ends : ends_layout end ≡ true
  pub text_is : text ≡ concat lines
  pub within : length text ≤ most_layout_bytes
  pub bytes_are : bytes ≡ concat lines ++ (end ++ new)

abbrev pub HeadTakes : Result Head Halt → List ℕ → List ℕ → Type 0
HeadTakes (Ok (Text text)) bytes new = TakesHead text.items bytes new
HeadTakes (Ok (Alone text)) bytes new = ⊤
HeadTakes (Ok TooLong) bytes new = ⊤
HeadTakes (Ok Endless) bytes new = ⊤
HeadTakes (Err halt) bytes new = ⊤

-- what was read of the text before a schedule
pub record HeadReads (old new : List ℕ) (told told_after : Option (List ℕ)) (came : ℕ) (untouched : Type 0) (result : Result Head Halt) : Type 0 where
  pub read : List ℕ
  pub consumes : Consumes told told_after read
  pub needed : IsNeeded HeadSoFar old read came untouched
  pub takes : HeadTakes result (old ++ read) new
  pub failed : result ≡ Err Source → HeadSoFar (old ++ read)
