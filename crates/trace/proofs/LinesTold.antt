-- What was written of lines that were run, one after another.
use Rattle.std.proofs.Common.{◌≡◌, ◌≢◌, ℕ, true, List, [], ◌∷◌, ◌++◌, Option, Some, Result, Ok, Err, IsErr, refl, sym, ap, ◌∙◌, subst, append-nil}
use Rattle.std.specs.Io.KnownBytes.{Appends, IsAtEnd, prepend_known}
use Rattle.std.proofs.KnownBytes.{Appends-nil, Appends-trans, Keeps-refl, prepend_known-nil}
use Rattle.fab_io.specs.Ends.{WriteTakes}
use Rattle.fab_io.proofs.Content.{AppendsFront-none, AppendsFront-after}
use Rattle.fab_base.specs.Layouts.{Layout}
use Rattle.lines.specs.declared.forms.Line.{Line}
use Rattle.lines.specs.Grammar.{line_of}
use Rattle.lines.specs.Lines.{content}
use Rattle.lines.specs.Reading.{Passes, ReadsSchedule}
use Rattle.lines.proofs.ScheduleLines.{ReadsSchedule-line}
use Rattle.layout.specs.Texts.{layout_of}
use Rattle.protocol.specs.Worlds.{World}
use Rattle.protocol.specs.Settings.{Setting}
use Rattle.stripe_code.specs.Codes.{coding}
use Rattle.world.specs.Runs.{Run, Step, world_of}
use Rattle.world.specs.Steps.{Ran, Runs}
use Rattle.world.specs.Texts.{step_text}
use Rattle.printed.specs.Outputs.{steps_text}
use Rattle.printed.specs.LineSteps.{StartsFresh}
use Rattle.replay.proofs.Steppings.{leads_none, leads_one, leads_both, leads_layout, leads_world, lines_both, steps_text-append, after_steps}
use Rattle.replay.specs.declared.endings.RunResult.{RunResult}
use Rattle.replay.specs.declared.endings.RunResult.TheVariants.{Whole, BadLayout, Refuted}
use Rattle.replay.specs.declared.endings.Halt.{Halt}
use Rattle.trace.specs.Told.{IsTold, indented, IsStepText}
use Rattle.trace.specs.TextReport.{Takes, WritesTold, TellsRun, TellsNothing, TellsLines, TellsRest, EndsAs}
use Rattle.trace.proofs.WholeTexts.{told-none, told-after, told-alone}
use Rattle.trace.proofs.PrintedTexts.{step-told}

-- what holds at any error holds where there is one
pub at_err : {T E : Type 0} (r : Result T E) (P : Result T E → Type 0) → ((e : E) → P (Err e)) → IsErr r → P r
at_err (Ok x) P h is = cc
at_err (Err e) P h is = h e

-- an equal text tells the same
pub page-told : (text page told : List ℕ) → text ≡ page → IsTold page told → IsTold text told
page-told text page told is p = subst (λ (l : List ℕ). IsTold l told) (sym is) p

-- a text was written, and then one more, or some of it
takes-after : {T : Type 0} (r : Result T Halt) (old mid new : Option (List ℕ)) (a b : List ℕ) → Appends old mid a → Takes r mid new b
    → Takes r old new (a ++ b)
takes-after (Ok x) old mid new a b p q = Appends-trans old mid new a b p q
takes-after (Err halt) old mid new a b p q = AppendsFront-after old mid new a b p q

pub writes-after : {S T : Type 0} (r : Result T Halt) (value : S) (old mid new : Option (List ℕ)) (s t : List ℕ)
    → WritesTold {T = S} (Ok value) old mid s → WritesTold r mid new t → WritesTold r old new (s ++ t)
writes-after r value old mid new s t p q = record {
  text = p.text ++ q.text;
  is_told = told-after p.text q.text s t p.is_told q.is_told;
  taken = takes-after r old mid new p.text q.text p.taken q.taken;
}

-- a page was written, or some of it
pub writes-page : {T : Type 0} (r : Result T Halt) (old new : Option (List ℕ)) (text page told : List ℕ) → WriteTakes old new r text → text ≡ page
    → IsTold page told → WritesTold r old new told
writes-page r old new text page told taken is p =
    record { text = text; is_told = page-told text page told is p; taken = takes r taken }
  where
    takes : {T : Type 0} (r : Result T Halt) → WriteTakes old new r text → Takes r old new text
    takes (Ok x) taken = taken
    takes (Err halt) taken = taken

-- nothing was written
pub writes-none : {T : Type 0} (value : T) (old : Option (List ℕ)) → WritesTold (Ok value) old old []
writes-none value old = record { text = []; is_told = told-none; taken = Appends-nil old }

pub writes-stopped : {T : Type 0} (halt : Halt) (old : Option (List ℕ)) → WritesTold {T = T} (Err halt) old old []
writes-stopped halt old = record { text = []; is_told = told-none; taken = AppendsFront-none old old [] (Keeps-refl old) }

pub writes-line-stopped : {T : Type 0} (halt : Halt) (old : Option (List ℕ)) (text : List ℕ) → IsStepText text
    → WritesTold {T = T} (Err halt) old old text
writes-line-stopped halt old text is = record {
  text = indented true text;
  is_told = step-told text is;
  taken = AppendsFront-none old old (indented true text) (Keeps-refl old);
}

-- it does not matter here what stopped the run
pub writes-halt : {S T : Type 0} (halt other : Halt) (old new : Option (List ℕ)) (told : List ℕ) → WritesTold {T = S} (Err halt) old new told
    → WritesTold {T = T} (Err other) old new told
writes-halt halt other old new told w = record { text = w.text; is_told = w.is_told; taken = w.taken }

-- a line that was run, as a step
ran_step : (before after : Run) (bytes text : List ℕ) → (ran : Ran before after bytes text) → Runs before after ran.step.line ran.step
ran_step before after bytes text ran =
    subst (λ (line : Line). Runs before after line ran.step) (sym ran.runs.line_is) ran.runs

ran_line : (before after : Run) (bytes text : List ℕ) → (ran : Ran before after bytes text) → line_of bytes ≡ Some ran.step.line
ran_line before after bytes text ran = ran.is_line ∙ ap (λ (line : Line). Some line) (sym ran.runs.line_is)

pub ran_text : (before after : Run) (bytes text : List ℕ) → Ran before after bytes text → IsStepText text
ran_text before after bytes text ran = (coding before.layout, world_of before, ran.step, ran.text_is)

-- no line was run
pub lines-none : {T : Type 0} (first : Run) (source left : Option (List ℕ)) (head : List ℕ) (old : Option (List ℕ)) (value : T)
    → ReadsSchedule source left head [] → TellsLines first first source left head old old (Ok value)
lines-none first source left head old value read = record {
  lines = [];
  steps = [];
  read = read;
  lines_are = refl;
  leads = leads_none first;
  writes = writes-none value old;
}

-- one more was run
pub lines-more : {S T : Type 0} (r : Result T Halt) (value : S) (first before after : Run) (source left next : Option (List ℕ)) (head raw text : List ℕ)
    (old mid new : Option (List ℕ)) → TellsLines {T = S} first before source left head old mid (Ok value) → Passes left next (raw ∷ [])
    → Ran before after (content raw) text → WritesTold r mid new text → TellsLines first after source next head old new r
lines-more r value first before after source left next head raw text old mid new h passes ran writes =
    let step : Step = ran.step in
    let w : World = world_of first in
    let setting : Setting = coding first.layout in
    let before_text : List ℕ = steps_text setting w h.steps in
    let runs = ran_step before after (content raw) text ran in
    let own : steps_text setting (after_steps setting w h.steps) (step ∷ []) ≡ text =
    append-nil (step_text setting (after_steps setting w h.steps) step)
    ∙ ap (λ (v : World). step_text setting v step) (sym (leads_world first before h.steps h.leads))
    ∙ ap (λ (l : Layout). step_text (coding l) (world_of before) step) (sym (leads_layout first before h.steps h.leads))
    ∙ sym ran.text_is in
    let all : steps_text setting w (h.steps ++ step ∷ []) ≡ before_text ++ text =
    steps_text-append setting w h.steps (step ∷ []) ∙ ap (λ (l : List ℕ). before_text ++ l) own in
    record {
      lines = h.lines ++ content raw ∷ [];
      steps = h.steps ++ step ∷ [];
      read = ReadsSchedule-line source left next head h.lines raw h.read passes;
      lines_are = lines_both h.lines (content raw ∷ []) h.steps (step ∷ []) h.lines_are
          (ap (λ (x : Option Line). x ∷ []) (ran_line before after (content raw) text ran));
      leads = leads_both first before after h.steps (step ∷ []) h.leads (leads_one before after step runs);
      writes = subst (WritesTold r old new) (sym all) (writes-after r value old mid new before_text text h.writes writes);
    }

-- the run ended, or was stopped, and what was written since tells nothing
pub lines-end : {S : Type 0} (ending : Result RunResult Halt) (value : S) (first last : Run) (source left : Option (List ℕ)) (head : List ℕ)
    (old mid new : Option (List ℕ)) → TellsLines {T = S} first last source left head old mid (Ok value) → WritesTold ending mid new []
    → (ending ≡ Ok Whole → IsAtEnd left) → ending ≢ Ok Refuted → TellsRest first source head old new ending
lines-end ending value first last source left head old mid new h writes all ran =
    let text : List ℕ = steps_text (coding first.layout) (world_of first) h.steps in
    record {
      last = last;
      left = left;
      lines = record {
        lines = h.lines;
        steps = h.steps;
        read = h.read;
        lines_are = h.lines_are;
        leads = h.leads;
        writes = subst (WritesTold ending old new) (append-nil text) (writes-after ending value old mid new text [] h.writes writes);
      };
      all = all;
      ran = ran;
    }

-- a run that stops does not end
pub stopped : (halt : Halt) (verdict : RunResult) (P : Type 0) → (let r : Result RunResult Halt = Err halt in r ≡ Ok verdict → P)
stopped halt verdict P e = cc

-- the run was stopped in the midst of a line's text
pub lines-stopped : (halt : Halt) (first last : Run) (source left : Option (List ℕ)) (head : List ℕ) (old new : Option (List ℕ))
    → (let r : Result RunResult Halt = Err halt in TellsLines first last source left head old new r → TellsRest first source head old new r)
lines-stopped halt first last source left head old new h =
    record { last = last; left = left; lines = h; all = stopped halt Whole (IsAtEnd left); ran = stopped halt Refuted ⊥ }

-- a run that goes on to one end has no other
pub ends_not : (verdict other : RunResult) (ending : Result RunResult Halt) → EndsAs verdict ending → verdict ≢ other → ending ≢ Ok other
ends_not verdict other (Ok one) same differs e = differs (sym same ∙ (let is : one ≡ other = cc in is))
ends_not verdict other (Err halt) same differs e = cc

-- a run over a layout's disk, from its first line on
pub run-told : (source old new : Option (List ℕ)) (ending : Result RunResult Halt) (head : List ℕ) (first : Run) → layout_of head ≡ Ok first.layout
    → first ≡ record { layout = first.layout; steps = []; disks = first.disks } → StartsFresh first → TellsRest first source head old new ending
    → TellsRun source old new ending
run-told source old new ending head first is first_is fresh rest =
    let steps : List Step = rest.lines.steps in
    record {
      head = head;
      lines = rest.lines.lines;
      left = rest.left;
      layout = first.layout;
      steps = steps;
      text = rest.lines.writes.text;
      read = rest.lines.read;
      layout_is = is;
      steps_are = record {
        lines = rest.lines.lines_are;
        first = first;
        last = rest.last;
        first_is = first_is;
        fresh = fresh;
        leads = rest.lines.leads;
      };
      told = told-alone rest.lines.writes.text (steps_text (coding first.layout) (world_of first) steps) rest.lines.writes.is_told
          ∙ ap (λ (r : Run). steps_text (coding first.layout) (world_of r) steps) first_is;
      taken = rest.lines.writes.taken;
      all = rest.all;
      ran = rest.ran;
    }

-- no line was run, and what was written tells nothing
pub nothing-told : (old new : Option (List ℕ)) (ending : Result RunResult Halt) → WritesTold ending old new [] → ending ≢ Ok Whole → ending ≢ Ok Refuted
    → TellsNothing old new ending
nothing-told old new ending writes not_all ran = record {
  text = writes.text;
  told = told-alone writes.text [] writes.is_told;
  taken = writes.taken;
  not_all = not_all;
  ran = ran;
}

-- ends of a run, and what they are not
pub layout_not_whole : BadLayout ≢ Whole
layout_not_whole e = cc

pub layout_not_refuted : BadLayout ≢ Refuted
layout_not_refuted e = cc

pub whole_not_refuted : Whole ≢ Refuted
whole_not_refuted e = cc

-- nothing was read before
pub from-start : (source left : Option (List ℕ)) (unread head : List ℕ) → unread ≡ [] → ReadsSchedule (prepend_known unread source) left head []
    → ReadsSchedule source left head []
from-start source left unread head empty read =
    subst (λ (start : Option (List ℕ)). ReadsSchedule start left head []) (prepend_known-nil source)
    (subst (λ (l : List ℕ). ReadsSchedule (prepend_known l source) left head []) empty read)
