-- What the program `replay` promises: how it answers its words, what it prints of an input, and that what it
-- prints is strict.
use Rattle.std.specs.Prelude.{◌≡◌, ℕ, ◌⊎◌, Bool, false, List, [], ◌∷◌, ◌++◌, ◌≤◌, length, map, ⊤, codes, Option, Some, None, Result, Ok, Err}
use Rattle.std.specs.List.{concat}
use Rattle.std.specs.Str.{bytes_eq}
use Rattle.std.specs.Io.KnownBytes.{Appends, Consumes, IsAtEnd}
use Rattle.fab_io.specs.Ends.{AppendsFront}
use Rattle.reg_model.specs.Marks.{stripe_marks, IsWellFormed}
use Rattle.reg_model.specs.Strict.{IsStrict}
use Rattle.lines.specs.Lines.{raw_lines, content, whole_lines, begun_line}
use Rattle.lines.specs.Reading.{IsBegun}
use Rattle.fab_base.specs.Layouts.{Layout, Group, group_of}
use Rattle.protocol.specs.Views.{views_in}
use Rattle.protocol.specs.Worlds.{World, first_world}
use Rattle.protocol.specs.Happenings.{happenings_of}
use Rattle.view_laws.specs.Following.{RunFollows}
use Rattle.protocol_laws.specs.Laws.{AbortsShow, Laws, SyncedStand}
use Rattle.protocol_laws.specs.ScrubEnds.{ScrubsShow}
use Rattle.protocol_laws.specs.SyncEnds.{SyncsShow}
use Rattle.protocol_laws.specs.Marked.{WordsFit}
use Rattle.stripe_code.specs.Codes.{coding}
use Rattle.layout.specs.Texts.{layout_of}
use Rattle.audit.specs.declared.findings.Finding.TheVariants.{Sound}
use Rattle.audit.specs.declared.examining.AuditResult.TheVariants.{Judged}
use Rattle.world.specs.Runs.{Step, all_events}
use Rattle.fab_base.specs.Texts.{newline}
use Rattle.replay.specs.declared.endings.RunResult.{RunResult}
use Rattle.replay.specs.declared.endings.RunResult.TheVariants.{Whole, BadLayout, BadLine, TooManyLines, Refuted}
use Rattle.replay.specs.declared.endings.Halt.{Halt}
use Rattle.replay.specs.declared.endings.Halt.TheVariants.{Source, Sink, Memory}
use Rattle.replay.specs.Inputs.{Input, Parted, TooLong, Endless, most_layout_bytes, input_of, IsInput}
use Rattle.printed.specs.Outputs.{left_by, closing_text, steps_text, most_lines}
use Rattle.replay.specs.Outputs.{output_of, verdict_of}
use Rattle.printed.specs.LineSteps.{AreStepsOf}
use Rattle.replay.specs.LineSteps.{BeginsWith, AreStepsIn}
use Rattle.printed.specs.Sound.{ReadsBack, IsSoundText}
use Rattle.printed.specs.Printed.{ArePrinted}
use Rattle.replay.specs.Turns.{Prints}
use Rattle.replay.specs.declared.audits.Audited.TheVariants.{Examined}
use Rattle.replay.specs.AuditFindings.{FindsAlone}
use Rattle.replay.specs.Histories.{Succeeds, ViewsHold}

-- the words are this one word
abbrev pub is_word : List ℕ → List (List ℕ) → Bool
is_word text [] = false
is_word text (word ∷ []) = bytes_eq word text
is_word text (word ∷ (more ∷ words)) = false

-- the exit status of an end
abbrev pub status_of : Result RunResult Halt → ℕ
status_of (Ok Whole) = 0
status_of (Ok BadLayout) = 3
status_of (Ok (BadLine line)) = 4
status_of (Err Source) = 5
status_of (Err Sink) = 6
status_of (Err Memory) = 7
status_of (Ok TooManyLines) = 8
status_of (Ok Refuted) = 9

-- the usage line
abbrev pub usage_text : List ℕ
usage_text = codes "usage: replay run | replay make SEED LINES | replay audit" ++ newline

-- The words are refused: the sink took this usage line, and the status is 2. Where that line could not be
-- written, the status is 6 or 7, and the sink took some of it, from its front.
abbrev pub Refuses : List ℕ → Option (List ℕ) → Option (List ℕ) → ℕ → Type 0
Refuses usage old new status = ((status ≡ 2) × Appends old new usage) ⊎ (((status ≡ 6) ⊎ (status ≡ 7)) × AppendsFront old new usage)

-- What lines left is strict: the marks are well formed, and each answer has the word of its operation; the happenings of each stripe are
-- strict for its marks; every abort shows its evidence, and so does every synchronisation that was stopped; every scrub that ended shows how, by what its
-- members told and have held; and each message that all stripes are kept in a view is true. Beside these all laws of the disk hold of it, for the members
-- that its messages teach, and all laws of views.
pub record IsStrictWorld (layout : Layout) (world : World) : Type 0 where
  pub well_formed : IsWellFormed world.marks
  pub words : WordsFit layout world.marks
  pub strict : (g s : ℕ) (group : Group) → group_of layout g ≡ Some group
      → IsStrict group.m layout.block (stripe_marks g s world.marks) (happenings_of world g s)
  pub aborts_show : AbortsShow world
  pub syncs_show : SyncsShow world
  pub scrubs_show : ScrubsShow (coding layout) (views_in layout world.packets) world
  pub synced_stand : SyncedStand (coding layout) (views_in layout world.packets) world
  pub laws : Laws (coding layout) (views_in layout world.packets) world
  pub views : ViewsHold layout world

-- What was printed is strict. The input has a layout and a schedule, and there is a step for each line of the schedule; the text is
-- that of the steps and then the happenings of each stripe in the world that they leave, which is strict. Each
-- line of their text is a mark, a report, a refusal or `idle`, and the marks and the reports among them are, in order, those of that world. Read as anyone may read
-- it, the text says just these marks and happenings, and an audit of it behind the layout's text finds it sound, and nothing else.
pub record IsLinearizable (input : Input) (text : List ℕ) : Type 0 where
  pub head : List ℕ
  pub layout : Layout
  pub schedule : List (List ℕ)
  pub steps : List Step
  pub world : World
  pub input_is : input ≡ Parted head schedule
  pub layout_is : layout_of head ≡ Ok layout
  pub steps_are : AreStepsOf layout schedule steps
  pub world_is : world ≡ left_by layout steps
  pub text_is : text ≡ steps_text (coding layout) (first_world layout) steps ++ closing_text layout world (length steps)
  pub are_printed : ArePrinted layout steps
  pub is_strict : IsStrictWorld layout world
  -- fields, and no clauses beside this record: the text is pinned here already
  pub reads_back : ReadsBack layout text world
  pub is_sound : IsSoundText layout text
  pub audits : FindsAlone (Parted head (map content (raw_lines text))) (Examined (Judged Sound))

-- However far a run comes, the lines of the text of its steps are marks, reports, refusals or `idle`, the marks and the reports being those that they left by then.
-- What they left is strict, and each world on the way follows the members that its messages teach. What further steps leave follows it: no brick takes
-- anything below what it took nothing below, no version that was lost has surfaced, and no choice of a view's members is undone.
pub record StaysStrict (input : Input) : Type 0 where
  pub are_printed : (layout : Layout) (steps : List Step) → BeginsWith input layout steps → ArePrinted layout steps
  pub strict : (layout : Layout) (steps : List Step) → BeginsWith input layout steps → IsStrictWorld layout (left_by layout steps)
  pub follows_views : (layout : Layout) (steps : List Step) → BeginsWith input layout steps
      → RunFollows (coding layout) (views_in layout (left_by layout steps).packets) (all_events steps)
  pub follows : (layout : Layout) (steps more : List Step) → BeginsWith input layout (steps ++ more)
      → Succeeds layout (left_by layout steps) (left_by layout (steps ++ more))

-- The whole lines of a schedule are all lines, and no more than there may be, over a layout; and this is the text of their steps.
pub record IsRunSoFar (head : List ℕ) (schedule : List (List ℕ)) (text : List ℕ) : Type 0 where
  pub layout : Layout
  pub steps : List Step
  pub layout_is : layout_of head ≡ Ok layout
  pub steps_are : AreStepsOf layout schedule steps
  pub within : length steps ≤ most_lines
  pub text_is : text ≡ steps_text (coding layout) (first_world layout) steps

-- A run goes on behind this layout's text and these lines, and the line that was begun, and this is the text of the lines.
abbrev pub RunGoesOn : List ℕ → List (List ℕ) → List ℕ → List ℕ → Type 0
RunGoesOn head schedule begun text = IsBegun 70000 begun × IsRunSoFar head schedule text

-- A run or an audit may go on behind an input as far as its last line feed, and the line that was begun: the text of its layout goes on,
-- or the lines behind that do, as is said of them; and this is what was printed of them.
abbrev pub MayGoOn : (List ℕ → List (List ℕ) → List ℕ → List ℕ → Type 0) → Input → List ℕ → List ℕ → Type 0
MayGoOn goes_on Endless begun text = IsBegun most_layout_bytes begun × (text ≡ [])
MayGoOn goes_on TooLong begun text = ⊥
MayGoOn goes_on (Parted head lines) begun text = goes_on head lines begun text

-- the bytes that were read do not decide how it ends, and this is what was printed of their whole lines
abbrev pub LeavesOpen : (List ℕ → List (List ℕ) → List ℕ → List ℕ → Type 0) → List ℕ → List ℕ → Type 0
LeavesOpen goes_on read text = MayGoOn goes_on (input_of (concat (whole_lines read))) (begun_line read) text

-- The source was read no further than it took: what was read before the last read does not decide how it ends. That read
-- gave so many bytes.
pub record ReadsAsNeeded (goes_on : List ℕ → List (List ℕ) → List ℕ → List ℕ → Type 0) (source source_after : Option (List ℕ)) (came : ℕ) : Type 0 where
  pub before : List ℕ
  pub last : List ℕ
  pub text : List ℕ
  pub was_read : Consumes source source_after (before ++ last)
  pub by_last_read : length last ≤ came
  pub leaves_open : LeavesOpen goes_on before text

-- The source failed: what was read by then does not decide how it ends, and the sink took what is printed of its whole lines.
pub record FailedSource (goes_on : List ℕ → List (List ℕ) → List ℕ → List ℕ → Type 0) (source source_after sink sink_after : Option (List ℕ)) : Type 0 where
  pub read : List ℕ
  pub text : List ℕ
  pub was_read : Consumes source source_after read
  pub leaves_open : LeavesOpen goes_on read text
  pub printed : Appends sink sink_after text

-- A run. There is an input, of which what the source tells is the bytes, and an end, of which the status
-- tells, and there are the steps that were run, those of the first lines of the input. The sink took the whole output of the input,
-- the texts of these steps and what stands behind them, which ends so; or, where the run was stopped from
-- outside, some of the output, from its front. The source was read no further than it took. Where it failed, the
-- sink took the text of the lines that were whole. Where all was run, the source is at its end, and what was
-- printed is strict; and however far it came, what its lines left is strict, and what further lines leave
-- follows it.
pub record RunEnds (source source_after : Option (List ℕ)) (came : ℕ) (sink sink_after : Option (List ℕ)) (status : ℕ) : Type 0 where
  pub input : Input
  pub steps : List Step
  pub ending : Result RunResult Halt
  pub is_input : IsInput source input
  pub status_is : status ≡ status_of ending
  pub steps_are : AreStepsIn input steps ending
  pub printed : Prints sink sink_after (output_of steps input) ending
  pub reads_as_needed : ReadsAsNeeded RunGoesOn source source_after came
  pub failed_source : ending ≡ Err Source → FailedSource RunGoesOn source source_after sink sink_after
  pub read : ending ≡ Ok Whole → IsAtEnd source_after
  pub linearizable : ending ≡ Ok Whole → IsLinearizable input (output_of steps input).text
  pub stays_strict : StaysStrict input

-- the status is the one that the input alone calls for, or memory was lacking
abbrev pub IsDecided : Option (List ℕ) → ℕ → Type 0
IsDecided None status = ⊤
IsDecided (Some bytes) status = (status ≡ status_of (Ok (verdict_of (input_of bytes)))) ⊎ (status ≡ 7)
