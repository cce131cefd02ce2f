-- A run of a schedule that is drawn: its lines, what it prints, and that it is a run as any other.
use Rattle.std.specs.Prelude.{◌≡◌, ℕ, zero, suc, List, [], ◌∷◌, ◌++◌, length, map, codes, Option, Result, Ok, Err}
use Rattle.std.specs.Fmt.{decimal}
use Rattle.std.specs.Io.KnownBytes.{Appends, Keeps}
use Rattle.fab_io.specs.Ends.{AppendsFront}
use Rattle.fab_base.specs.Layouts.{Layout, group_of, most_groups}
use Rattle.fab_base.specs.Texts.{newline}
use Rattle.lines.specs.declared.forms.Line.{Line}
use Rattle.reg_model.specs.declared.marks.Happening.{Happening}
use Rattle.protocol.specs.Settings.{Setting}
use Rattle.protocol.specs.Worlds.{World, first_world, run}
use Rattle.protocol.specs.Happenings.{happenings_of}
use Rattle.stripe_code.specs.Codes.{coding}
use Rattle.rand_pcg.specs.Lcg.{Lcg}
use Rattle.made.specs.declared.disks.TheConstants.{DISK}
use Rattle.made.specs.Disks.{made_layout}
use Rattle.made.specs.Draws.{seeded}
use Rattle.made.specs.Lines.{next_line}
use Rattle.made.specs.Spellings.{spelt}
use Rattle.world.specs.Runs.{Step}
use Rattle.printed.specs.Outputs.{stripes_of, left_by, count_text}
use Rattle.printed.specs.LineSteps.{AreStepsOf}
use Rattle.replay.specs.declared.endings.RunResult.{RunResult}
use Rattle.replay.specs.declared.endings.RunResult.TheVariants.{Whole, BadLayout, BadLine, TooManyLines, Refuted}
use Rattle.replay.specs.declared.endings.Halt.{Halt}
use Rattle.replay.specs.declared.endings.Halt.TheVariants.{Source, Sink, Memory}
use Rattle.replay.specs.Inputs.{Input, Parted}
use Rattle.replay.specs.Outputs.{output_of}
use Rattle.replay.specs.Replays.{IsStrictWorld, IsLinearizable, status_of}

-- The lines that a generator draws while these steps are run, one after another. Each is drawn in the world that the steps before it left, by how
-- many messages were sent by then.
unfoldable pub drawn_lines : Setting → World → Lcg → List Step → List Line
drawn_lines setting w random [] = []
drawn_lines setting w random (step ∷ steps) =
    (next_line (length w.packets) random).0
    ∷ drawn_lines setting (run setting step.events w) (next_line (length w.packets) random).1 steps

-- the schedule of a seed, as far as these steps go
abbrev pub made_lines : ℕ → List Step → List Line
made_lines seed steps = drawn_lines (coding made_layout) (first_world made_layout) (seeded seed) steps

-- the same, as it is spelt
abbrev pub made_schedule : ℕ → List Step → List (List ℕ)
made_schedule seed steps = map spelt (made_lines seed steps)

-- the layout and that schedule, as an input
abbrev pub made_input : ℕ → List Step → Input
made_input seed steps = Parted DISK.now (made_schedule seed steps)

-- the happenings of a group's stripes below a number
abbrev pub happenings_to : World → ℕ → ℕ → List Happening
happenings_to w group zero = []
happenings_to w group (suc stripe) = happenings_to w group stripe ++ happenings_of w group stripe

-- the happenings of the stripes of the groups below a number
unfoldable pub happenings_below : Layout → World → ℕ → List Happening
happenings_below layout w zero = []
happenings_below layout w (suc group) = happenings_below layout w group ++ happenings_to w group (stripes_of (group_of layout group))

-- how many happenings there are over all stripes
abbrev pub total_text : Layout → World → List ℕ
total_text layout w = codes "happened total " ++ (decimal (length (happenings_below layout w most_groups)) ++ newline)

-- what sums up a run of so many lines: the counts, and the happenings
abbrev pub summary_text : Layout → World → ℕ → List ℕ
summary_text layout w lines = count_text lines w.marks ++ total_text layout w

-- These are the steps of a made schedule: each is of the line that is drawn for it. They are a run as any other: what they leave is strict, and so is what `run` prints
-- for this layout and schedule, whose last line is that of the summary.
pub record IsMadeRun (seed lines : ℕ) (steps : List Step) : Type 0 where
  pub count_is : length steps ≡ lines
  pub are_drawn : map (λ step. step.line) steps ≡ made_lines seed steps
  pub steps_are : AreStepsOf made_layout (made_schedule seed steps) steps
  pub is_strict : IsStrictWorld made_layout (left_by made_layout steps)
  pub linearizable : IsLinearizable (made_input seed steps) (output_of steps (made_input seed steps)).text

-- the summary of some steps of a made schedule
abbrev pub made_text : List Step → List ℕ
made_text steps = summary_text made_layout (left_by made_layout steps) (length steps)

-- a whole run of a made schedule, and its summary
abbrev pub SumsUp : ℕ → ℕ → List ℕ → Type 0
SumsUp seed lines text = (steps : List Step) × IsMadeRun seed lines steps × (text ≡ made_text steps)

-- What a made run prints: the summary of a whole run; or some of it, from its front, where the sink failed. Want of memory alone stops it else, and then
-- nothing is printed.
abbrev pub MakePrints : ℕ → ℕ → Option (List ℕ) → Option (List ℕ) → Result RunResult Halt → Type 0
MakePrints seed lines old new (Ok Whole) = (text : List ℕ) × SumsUp seed lines text × Appends old new text
MakePrints seed lines old new (Ok BadLayout) = ⊥
MakePrints seed lines old new (Ok (BadLine line)) = ⊥
MakePrints seed lines old new (Ok TooManyLines) = ⊥
MakePrints seed lines old new (Ok Refuted) = ⊥
MakePrints seed lines old new (Err Source) = ⊥
MakePrints seed lines old new (Err Sink) = (text : List ℕ) × SumsUp seed lines text × AppendsFront old new text
MakePrints seed lines old new (Err Memory) = Keeps old new

-- A made run. There is an end, of which the status tells, and the sink took what is printed at it.
pub record MakeEnds (seed lines : ℕ) (sink sink_after : Option (List ℕ)) (status : ℕ) : Type 0 where
  pub ending : Result RunResult Halt
  pub status_is : status ≡ status_of ending
  pub printed : MakePrints seed lines sink sink_after ending
