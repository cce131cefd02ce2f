-- What the program `brick` does, by its words.
use Rattle.std.specs.Prelude.{◌≡◌, ◌≢◌, ℕ, zero, suc, ◌+◌, true, false, List, [], ◌∷◌, ◌++◌, take, Option, Some, None, Result, Ok, Err}
use Rattle.fab_base.specs.Layouts.{Layout}
use Rattle.fab_host.specs.declared.hosts.Asked.{Asked}
use Rattle.fab_host.specs.declared.hosts.Asked.TheVariants as calls
use Rattle.fab_host.specs.Holdings.{Holdings}
use Rattle.serving.specs.Ports.{ports_of, port_of}
use Rattle.brick.specs.declared.endings.Ending.{Ending}
use Rattle.brick_words.specs.declared.words.Task.{Task}
use Rattle.brick_words.specs.declared.words.Task.TheVariants.{Commands, Session}
use Rattle.brick_words.specs.declared.words.Work.{Work}
use Rattle.brick_words.specs.declared.words.Work.TheVariants.{Format, Serve, HostAll}
use Rattle.brick.specs.Endings.{status_of, text_of, usage_text, Prints}
use Rattle.brick.specs.Formats.{FormatsBrick, MayFormat}
use Rattle.brick.specs.Hosts.{HostSeen}
use Rattle.brick.specs.Layouts.{FindsLayout, brick_of}
use Rattle.brick.specs.Locals.{standard_input, disk_name, FailsOut, HostsLayout, MayHost}
use Rattle.brick.specs.Serves.{ServesBrick, MayServe}
use Rattle.brick.specs.Views.{Views, Streams}
use Rattle.brick_words.specs.Words.{Wanted}

-- the call that opens what a task is done with
abbrev pub task_call : Task → Asked
task_call (Commands turns) = calls.Source standard_input
task_call (Session port turns) = calls.Session port

-- the calls that open that, and what it needs besides
abbrev pub task_calls : Task → List Asked
task_calls task = calls.Clock ∷ calls.Link 0 ∷ task_call task ∷ []

-- before them, for each brick that is left, from this number on, its disk and its link
abbrev pub brick_calls : Layout → List ℕ → Task → ℕ → ℕ → List Asked
brick_calls layout prefix task zero id = task_calls task
brick_calls layout prefix task (suc left) id =
    calls.Disk (disk_name prefix (record { 0 = id })) false ∷ calls.Link (port_of (ports_of layout) (record { 0 = id }))
    ∷ brick_calls layout prefix task left (id + 1)

-- the calls that open what a work is done with, over this layout
abbrev pub calls_by : Layout → List ℕ → Work → List Asked
calls_by layout name (Format id) = calls.Disk name true ∷ []
calls_by layout name (Serve id turns) =
    calls.Disk name false ∷ calls.Link (port_of (ports_of layout) (record { 0 = id })) ∷ calls.Clock ∷ []
calls_by layout prefix (HostAll task) = brick_calls layout prefix task layout.bricks 0

-- the calls that open: that of the layout's source, and where a layout was found in it, those of the work
abbrev pub calls_of : Wanted → Result Layout Ending → List Asked
calls_of w (Err ending) = calls.Source w.layout ∷ []
calls_of w (Ok layout) = calls.Source w.layout ∷ calls_by layout w.name w.work

-- the first of these calls were asked, and all of them where the status is 0
pub record AsksInOrder (before after : List Asked) (wants : List Asked) (status : ℕ) : Type 0 where
  pub some : (k : ℕ) × (after ≡ before ++ take k wants)
  pub all : status ≡ 0 → after ≡ before ++ wants

-- the work was done over a layout: `out` and `said` are what the sink told before and after it
abbrev pub DoesWork : {S D L N C : Type 0} → Streams S N → Views D L C → Layout → List ℕ → Work → HostSeen S D L N C → HostSeen S D L N C → Option (List ℕ) → Option (List ℕ)
    → Ending → Type 0
DoesWork e v layout name (Format id) before after out said ending =
    FormatsBrick v.disk.tells v.disk.seen v.disk.may_leave v.disk.faults layout (brick_of layout id) before after name ending × (said ≡ out)
DoesWork e v layout name (Serve id turns) before after out said ending =
    ServesBrick v layout (brick_of layout id) turns before after name out said ending
DoesWork e v layout prefix (HostAll task) before after out said ending =
    HostsLayout e v layout prefix task before after out said ending

-- it was, where a layout was found; else that is how the program ends
abbrev pub GoesOn : {S D L N C : Type 0} → Streams S N → Views D L C → Wanted → Result Layout Ending → HostSeen S D L N C → HostSeen S D L N C → Option (List ℕ)
    → Option (List ℕ) → Ending → Type 0
GoesOn e v w (Err found) before after out said ending = (ending ≡ found) × (after ≡ before) × (said ≡ out)
GoesOn e v w (Ok layout) before after out said ending = DoesWork e v layout w.name w.work before after out said ending

-- A layout was looked for, and what is wanted was done over it.
pub record Works {S D L N C : Type 0} (e : Streams S N) (v : Views D L C) (before after : HostSeen S D L N C) (w : Wanted)
    (out said : Option (List ℕ)) (ending : Ending) : Type 0 where
  pub found : Result Layout Ending
  pub between : HostSeen S D L N C
  pub finds : FindsLayout e.told e.failed before between w.layout found
  pub goes_on : GoesOn e v w found between after out said ending

-- the program's own sink failed at this work, if the program ends so
abbrev pub FailsAt : Work → Ending → Type 0
FailsAt (HostAll task) ending = FailsOut task ending
FailsAt work ending = status_of ending ≡ 6

-- what the program's own sink has failed at: a status of 6 is due to it alone, unless a session had that end
abbrev pub OutFailed : Work → Ending → ℕ → Type 0
OutFailed (HostAll (Session port turns)) ending status = (status ≡ 6) × (status_of ending ≢ 6)
OutFailed work ending status = status ≡ 6

-- A program that did what its words want, and what it printed. `kept` says what its sink keeps, if it failed where this is so.
pub record Ran {S D L N C : Type 0} (e : Streams S N) (v : Views D L C) (before after : HostSeen S D L N C) (w : Wanted)
    (out out_after : Option (List ℕ)) (kept : Type 0 → Type 0) (status : ℕ) : Type 0 where
  pub said : Option (List ℕ)
  pub ending : Ending
  pub works : Works e v before after w out said ending
  pub printed : Prints said out_after (text_of ending) (status_of ending) status
  pub asks : AsksInOrder before.asked after.asked (calls_of w works.found) status
  pub sink : kept (OutFailed w.work ending status)

-- by what the words want
abbrev pub Runs : {S D L N C : Type 0} → Streams S N → Views D L C → HostSeen S D L N C → HostSeen S D L N C
    → Option (List ℕ) → Option (List ℕ) → (Type 0 → Type 0) → ℕ → Option Wanted → Type 0
Runs e v before after out out_after kept status None = Prints out out_after usage_text 2 status × kept (status ≡ 6)
Runs e v before after out out_after kept status (Some w) = Ran e v before after w out out_after kept status

-- the host holds what a work wants
abbrev pub MayDo : {S D L N C : Type 0} → (S → Option (List ℕ)) → Type 0 → (D → List ℕ) → Holdings S D L N C → List ℕ → List ℕ → Work → Type 0
MayDo told tells seen h source name (Format id) = MayFormat told h source name id
MayDo told tells seen h source name (Serve id turns) = MayServe told tells seen h source name id
MayDo told tells seen h source prefix (HostAll task) = MayHost told tells seen h source prefix task

-- and tells it, where that is what the words want
abbrev pub MayRun : {S D L N C : Type 0} → (S → Option (List ℕ)) → Type 0 → (D → List ℕ) → Option (Holdings S D L N C) → Option Wanted → Type 0
MayRun told tells seen None w = ⊥
MayRun told tells seen (Some h) None = ⊥
MayRun told tells seen (Some h) (Some w) = MayDo told tells seen h w.layout w.name w.work
