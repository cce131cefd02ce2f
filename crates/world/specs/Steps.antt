-- What a step of a run comes to.
use Rattle.std.specs.Prelude.{◌≡◌, ℕ, ◌≤◌, ◌⊎◌, ◌&&◌, if◌then◌else◌, List, [], ◌∷◌, ◌++◌, length, map, Option, Some, None, is_some, Result, Ok, Err}
use Rattle.fab_base.specs.declared.identities.BrickId.{BrickId}
use Rattle.fab_base.specs.declared.identities.GroupId.{GroupId}
use Rattle.fab_base.specs.declared.identities.StripeNo.{StripeNo}
use Rattle.fab_base.specs.declared.member_lists.View.{View}
use Rattle.fab_base.specs.Layouts.{group_of}
use Rattle.messages.specs.declared.requests.Version.{Version}
use Rattle.fab_disk.specs.MemDisk.{content_of}
use Rattle.fab_disk.specs.declared.mem_disk.MemDisk.{MemDisk}
use Rattle.lines.specs.Grammar.{line_of}
use Rattle.lines.specs.declared.forms.Line.{Line}
use Rattle.lines.specs.declared.forms.Line.TheVariants.{Suspect, Trust, Spare}
use Rattle.stripe_code.specs.Codes.{coding}
use Rattle.calm_laws.specs.Logs.{log_in}
use Rattle.calm_laws.specs.LoneScrubs.{ScrubEndsAlone}
use Rattle.protocol.specs.Worlds.{Event, Scrubs, first_world, is_up, run}
use Rattle.world.specs.Runs.{Run, Step, all_events, world_of, brick_of}
use Rattle.world.specs.Suspected.{meant}
use Rattle.world.specs.Faults.{IsEventsOf}
use Rattle.world.specs.Disks.{ShowsDisks, KeepsDisks, LeavesContents}
use Rattle.world.specs.Shown.{IsBegunBy}
use Rattle.world.specs.Texts.{outcome_text, new_marks, new_reports, line_text, step_text}
use Rattle.world.specs.declared.simulations.Outcome.{Outcome}
use Rattle.world.specs.declared.worlds.StepFault.{StepFault}
use Rattle.world.specs.declared.worlds.StepFault.TheVariants.{BadLine, NoMemory}

-- a run with one step more, which leaves these disks
abbrev pub with_step : Run → Step → List MemDisk → Run
with_step r step disks = record { layout = r.layout; steps = r.steps ++ step ∷ []; disks = disks }

-- A step of this line was run: its events are such as the line that it stands for is over these disks, and no disk has changed but those of the bricks that
-- they are events of. Each disk then keeps what the machine's brick keeps.
pub record Runs (old new : Run) (line : Line) (step : Step) : Type 0 where
  pub line_is : step.line ≡ line
  pub events_are : IsEventsOf old.layout (world_of old) old.disks new.disks (meant old line) step.events
  pub run : new ≡ with_step old step new.disks
  pub disks : KeepsDisks (coding old.layout) (world_of old) step.events old.disks new.disks
  pub shows : ShowsDisks new

-- a step of this line was run, and what it came to, with the marks that were made and what was reported, is printed so
pub record RunsTo (old new : Run) (line : Line) (outcome : Outcome) : Type 0 where
  pub step : Step
  pub runs : Runs old new line step
  pub prints : outcome_text outcome (new_marks (world_of old) (world_of new)) (new_reports (world_of old) (world_of new))
      ≡ line_text (coding old.layout) (world_of old) line step.events

-- no mark and no report is gone
abbrev pub Grows : Run → Run → Type 0
Grows old new =
    (length (world_of old).marks ≤ length (world_of new).marks)
    × (length (world_of old).choices.reports ≤ length (world_of new).choices.reports)

-- a step of this line was run
abbrev pub HasRun : Run → Run → Line → Type 0
HasRun old new line = (step : Step) × Runs old new line step

-- the line that the content says was run, and the text is what it prints
pub record Ran (old new : Run) (content text : List ℕ) : Type 0 where
  pub line : Line
  pub is_line : line_of content ≡ Some line
  pub step : Step
  pub runs : Runs old new line step
  pub text_is : text ≡ step_text (coding old.layout) (world_of old) step

-- no step was run, and a read of each disk gives what it gave
pub record IsAsBefore (old new : Run) : Type 0 where
  pub layout : new.layout ≡ old.layout
  pub steps : new.steps ≡ old.steps
  pub contents : map content_of new.disks ≡ map content_of old.disks

-- A step of this line was run, but not to its end.
pub record RunsPartly (old new : Run) (line : Line) (step : Step) : Type 0 where
  pub line_is : step.line ≡ line
  pub events_are : IsBegunBy old.layout (world_of old) line step.events
  pub run : new ≡ with_step old step new.disks
  pub disks : LeavesContents (coding old.layout) (world_of old) step.events old.disks new.disks

-- What a line leaves for which no memory was left: nothing was run, or some of it.
abbrev pub LeavesSome : Run → Run → Line → Type 0
LeavesSome old new line = IsAsBefore old new ⊎ ((step : Step) × RunsPartly old new line step)

-- nothing has changed but what is suspected
pub record ChangesNothing (old new : Run) : Type 0 where
  pub world : world_of new ≡ world_of old
  pub disks : new.disks ≡ old.disks

-- What the lines leave that speak of suspicions: `suspect` and `trust` nothing of the machine, and `spare` no report. So no list that a line `spare` proposes is
-- one that may not keep its group.
abbrev pub LeavesAside : Run → Run → Line → Type 0
LeavesAside old new (Suspect b c) = ChangesNothing old new
LeavesAside old new (Trust b c) = ChangesNothing old new
LeavesAside old new (Spare b g) = (world_of new).choices.reports ≡ (world_of old).choices.reports
LeavesAside old new line = Unit {0}

-- Each scrub of a run, from its beginning on, with all that followed: where it was calm among its members as it began, and each event since was its delivery
-- among them that goes next, one more of these is left, or it has ended, clean or repaired.
abbrev pub LoneScrubsEnd : Run → Type 0
LoneScrubsEnd r =
    (before events : List Event) (brick : BrickId) (group : GroupId) (stripe : StripeNo) (members : List BrickId)
    → all_events r.steps ≡ before ++ Scrubs brick group stripe members ∷ events
    → ScrubEndsAlone (coding r.layout) (run (coding r.layout) before (first_world r.layout)) brick group stripe members events

-- What a step that answers no text leaves: no line changes nothing; for want of memory nothing was run, or only the text is missing, or the rest of
-- what an operation was to do alone is, and the text.
abbrev pub Stands : Run → Run → List ℕ → Result (List ℕ) StepFault → Type 0
Stands old new content (Ok text) = Unit {0}
Stands old new content (Err BadLine) = new ≡ old
Stands old new content (Err NoMemory) =
    IsAsBefore old new
    ⊎ ((line : Line) × (step : Step) × (line_of content ≡ Some line) × (Runs old new line step ⊎ RunsPartly old new line step))

-- the log of a brick's part of a stripe in the view that it has learnt, where there is such a brick, it is up, and there is such a stripe
abbrev pub log_at : Run → ℕ → ℕ → ℕ → Option (List Version)
log_at r b g s = log_in r.layout (world_of r) (brick_of b) g s

-- the view of a group that a brick has learnt, where there is such a group, and such a brick that is up
abbrev pub learnt_at : Run → ℕ → ℕ → Option View
learnt_at r b g =
    if is_some (group_of r.layout g) && is_up r.layout (world_of r) (brick_of b) then Some (((world_of r).nodes b).learnt g).view else None
