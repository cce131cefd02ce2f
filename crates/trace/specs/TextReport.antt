-- What `trace text` writes of a run.
use Rattle.std.specs.Prelude.{◌≡◌, ◌≢◌, ℕ, ◌<◌, ◌⊎◌, List, [], ◌∷◌, ⊤, Option, None, Result, Ok, Err, slice_index, string_bytes}
use Rattle.std.specs.Io.KnownBytes.{Appends, IsAtEnd}
use Rattle.fab_io.specs.Ends.{AppendsFront}
use Rattle.fab_base.specs.Layouts.{Layout}
use Rattle.lines.specs.Grammar.{line_of}
use Rattle.lines.specs.Lines.{content}
use Rattle.lines.specs.Reading.{Passes, ReadsSchedule}
use Rattle.layout.specs.declared.faults.LayoutFault.{LayoutFault}
use Rattle.layout.specs.Texts.{layout_of}
use Rattle.protocol.specs.Worlds.{first_world}
use Rattle.stripe_code.specs.Codes.{coding}
use Rattle.world.specs.Runs.{Run, Step, world_of}
use Rattle.world.specs.Steps.{Ran}
use Rattle.printed.specs.Outputs.{steps_text}
use Rattle.printed.specs.LineSteps.{LeadsTo, AreLinesOfSteps, StartsFresh, AreStepsOf}
use Rattle.replay.specs.declared.endings.RunResult.{RunResult}
use Rattle.replay.specs.declared.endings.RunResult.TheVariants.{Whole, BadLayout, BadLine, Refuted}
use Rattle.replay.specs.declared.endings.Halt.{Halt}
use Rattle.trace.specs.Told.{told_in, IsTold}
use Rattle.trace.specs.Calls.{CallsFor, CallsBehind, IsLeftTo, PassesOne}
use Rattle.trace.specs.declared.schedules.Opening.{Opening}
use Rattle.trace.specs.declared.schedules.Opening.TheVariants as opening
use Rattle.trace.specs.declared.schedules.Turn.{Turn}
use Rattle.trace.specs.declared.schedules.Turn.TheVariants as turn

-- a sink took a text; or some of it, from its front, where the run was stopped from outside
abbrev pub Takes : {T : Type 0} → Result T Halt → Option (List ℕ) → Option (List ℕ) → List ℕ → Type 0
Takes (Ok value) old new text = Appends old new text
Takes (Err halt) old new text = AppendsFront old new text

-- a text of whole lines was written, which tells this
pub record WritesTold {T : Type 0} (result : Result T Halt) (old new : Option (List ℕ)) (told : List ℕ) : Type 0 where
  pub text : List ℕ
  pub is_told : IsTold text told
  pub taken : Takes result old new text

-- The first lines of a schedule were run over a layout, and a text was written that tells what `replay` prints for them, before it closes its
-- output. Where all was run, no line is left. No run is refuted: an audit alone is.
pub record TellsRun (source old new : Option (List ℕ)) (ending : Result RunResult Halt) : Type 0 where
  pub head : List ℕ
  pub lines : List (List ℕ)
  pub left : Option (List ℕ)
  pub layout : Layout
  pub steps : List Step
  pub text : List ℕ
  pub read : ReadsSchedule source left head lines
  pub layout_is : layout_of head ≡ Ok layout
  pub steps_are : AreStepsOf layout lines steps
  pub told : told_in text ≡ steps_text (coding layout) (first_world layout) steps
  pub taken : Takes ending old new text
  pub all : ending ≡ Ok Whole → IsAtEnd left
  pub ran : ending ≢ Ok Refuted

-- no line was run, and a text was written that tells nothing
pub record TellsNothing (old new : Option (List ℕ)) (ending : Result RunResult Halt) : Type 0 where
  pub text : List ℕ
  pub told : told_in text ≡ []
  pub taken : Takes ending old new text
  pub not_all : ending ≢ Ok Whole
  pub ran : ending ≢ Ok Refuted

-- what `trace text` writes of an input
abbrev pub Tells : Option (List ℕ) → Option (List ℕ) → Option (List ℕ) → Result RunResult Halt → Type 0
Tells source old new ending = TellsRun source old new ending ⊎ TellsNothing old new ending

-- a text begins with a byte that is no space, and can begin a line
abbrev pub IsSolid : List ℕ → Type 0
IsSolid text = 32 < slice_index text 0

-- the disk of a layout, over which nothing was run yet
abbrev pub IsNew : Layout → Run → Type 0
IsNew layout world = (world ≡ record { layout = layout; steps = []; disks = world.disks }) × StartsFresh world

-- a layout's text was read, and nothing was run over its disk yet; or it is none
abbrev pub OpensLayout : List ℕ → Opening → Type 0
OpensLayout head (opening.Opened world) = (layout_of head ≡ Ok world.layout) × IsNew world.layout world
OpensLayout head (opening.Refused why) = IsSolid (string_bytes why) × ((fault : LayoutFault) × (layout_of head ≡ Err fault))

-- an opening without a layout
abbrev pub IsRefused : Opening → Type 0
IsRefused (opening.Opened world) = ⊥
IsRefused (opening.Refused why) = IsSolid (string_bytes why)

-- what was read before a schedule: a layout, and all lines are left; or there is none, which ends the run
abbrev pub Opens : Option (List ℕ) → Option (List ℕ) → Opening → Type 0
Opens start now (opening.Opened world) =
    ((head : List ℕ) × ReadsSchedule start now head [] × OpensLayout head (opening.Opened world)) × IsLeftTo start 0 now
Opens start now (opening.Refused why) = IsSolid (string_bytes why) × CallsFor start BadLayout

-- a turn that ends the run so, by what is no line
abbrev pub IsRefusal : RunResult → Turn → Type 0
IsRefusal verdict (turn.Ran line run) = ⊥
IsRefusal verdict turn.Ended = ⊥
IsRefusal verdict (turn.Refused other why) = (other ≡ verdict) × IsSolid (string_bytes why)

-- a line was run, or is none, by its number
abbrev pub RunsLine : Run → Run → ℕ → List ℕ → Turn → Type 0
RunsLine before after number raw (turn.Ran line run) = (line ≡ raw) × Ran before after (content line) run.printed
RunsLine before after number raw turn.Ended = ⊥
RunsLine before after number raw (turn.Refused verdict why) =
    IsRefusal (BadLine number) (turn.Refused verdict why) × (line_of (content raw) ≡ None)

-- what came next behind the first n lines: a line, which was run; or nothing; or what is no line, or one too many
abbrev pub Turns : Run → Run → ℕ → Option (List ℕ) → Option (List ℕ) → Turn → Type 0
Turns before after n start now (turn.Ran line run) =
    (Passes start now (line ∷ []) × Ran before after (content line) run.printed) × PassesOne n start now
Turns before after n start now turn.Ended = IsAtEnd start × CallsBehind n start Whole
Turns before after n start now (turn.Refused verdict why) =
    ((verdict ≢ Whole) × (verdict ≢ Refuted) × IsSolid (string_bytes why)) × CallsBehind n start verdict

-- Lines of a schedule were run behind a layout, and a text was written that tells what `replay` prints for them.
pub record TellsLines {T : Type 0} (first last : Run) (source left : Option (List ℕ)) (head : List ℕ) (old new : Option (List ℕ)) (result : Result T Halt)
    : Type 0 where
  pub lines : List (List ℕ)
  pub steps : List Step
  pub read : ReadsSchedule source left head lines
  pub lines_are : AreLinesOfSteps lines steps
  pub leads : LeadsTo first steps last
  pub writes : WritesTold result old new (steps_text (coding first.layout) (world_of first) steps)

-- the same, up to an end: where all was run, no line is left
pub record TellsRest (first : Run) (source : Option (List ℕ)) (head : List ℕ) (old new : Option (List ℕ)) (ending : Result RunResult Halt) : Type 0 where
  pub last : Run
  pub left : Option (List ℕ)
  pub lines : TellsLines first last source left head old new ending
  pub all : ending ≡ Ok Whole → IsAtEnd left
  pub ran : ending ≢ Ok Refuted

-- a run that goes on to this end, where it is not stopped
abbrev pub EndsAs : RunResult → Result RunResult Halt → Type 0
EndsAs verdict (Ok one) = one ≡ verdict
EndsAs verdict (Err halt) = ⊤
