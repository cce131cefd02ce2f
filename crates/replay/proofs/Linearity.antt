-- What was printed of a whole schedule is strict.
use Rattle.std.proofs.Common.{◌≡◌, ℕ, ◌+◌, ◌≤◌, Bool, true, false, List, [], ◌∷◌, ◌++◌, length, map, Option, Some, None, Result, Ok, inl, inr, refl, sym, ap, ◌∙◌, subst, append-nil}
use Rattle.std.specs.Prelude.{nat_lt}
use Rattle.lines.specs.declared.forms.Line.{Line}
use Rattle.lines.specs.Grammar.{line_of}
use Rattle.lines.specs.Lines.{raw_lines, content}
use Rattle.fab_base.specs.Layouts.{Layout}
use Rattle.protocol.specs.Views.{views_in}
use Rattle.protocol.specs.Worlds.{World, first_world}
use Rattle.view_laws.proofs.Followed.{every_run_follows}
use Rattle.view_laws.proofs.Named.{every_one_successor, every_name_is_chosen, every_proposal_shows}
use Rattle.view_laws.proofs.SyncedViews.{syncs_are_said as said_synced}
use Rattle.protocol_laws.specs.Laws.{Laws}
use Rattle.protocol_laws.proofs.EveryRun.{every_views_run}
use Rattle.stripe_code.specs.Codes.{coding}
use Rattle.stripe_code.proofs.Soundness.{coding_is_sound}
use Rattle.layout.specs.Limits.{IsLayout}
use Rattle.layout.proofs.Accepted.{accepted_is}
use Rattle.world.specs.Runs.{Step, all_events}
use Rattle.replay.specs.declared.endings.RunResult.{RunResult}
use Rattle.replay.specs.declared.endings.RunResult.TheVariants.{Whole, BadLine, TooManyLines}
use Rattle.replay.specs.declared.endings.Halt.{Halt}
use Rattle.replay.specs.Inputs.{Input, Parted}
use Rattle.printed.specs.Outputs.{left_by, steps_text, closing_text, most_lines}
use Rattle.printed.specs.Printed.{ArePrinted}
use Rattle.printed.specs.LineSteps.{AreStepsOf}
use Rattle.printed.specs.Sound.{ReadsBack, IsSoundText}
use Rattle.printed.specs.Spellings.{WorldReads}
use Rattle.printed.proofs.PrintedMarks.{schedule_printed}
use Rattle.printed.proofs.Sound.{what_is_printed_reads_back, what_is_printed_audits}
use Rattle.replay.specs.Outputs.{Output, onto, output_line, output_behind, output_of}
use Rattle.replay.specs.LineSteps.{BeginsWith, AreStepsIn}
use Rattle.replay.specs.Turns.{WorldReadsOf}
use Rattle.replay.specs.Replays.{IsStrictWorld, IsLinearizable, StaysStrict}
use Rattle.replay.proofs.OutputLines.{output_behind-end, output_of-steps}
use Rattle.replay.proofs.Successions.{follows_steps}
use Rattle.replay.proofs.Auditing.{sound_alone}

-- the world that steps leave is strict
strict_world : (layout : Layout) → IsLayout layout → (steps : List Step) → IsStrictWorld layout (left_by layout steps)
strict_world layout is steps =
    let kept : Laws (coding layout) (views_in layout (left_by layout steps).packets) (left_by layout steps) =
    every_views_run (coding layout) (all_events steps) (coding_is_sound layout is) in
    record {
      well_formed = kept.well_formed;
      words = kept.words;
      strict = kept.strict;
      aborts_show = kept.aborts;
      syncs_show = kept.stopped;
      scrubs_show = kept.scrubbed;
      synced_stand = kept.synced;
      laws = kept;
      views = record {
        one_successor = every_one_successor (coding layout) (all_events steps) (coding_is_sound layout is);
        names_are_chosen = every_name_is_chosen (coding layout) (all_events steps) (coding_is_sound layout is);
        ends_show = every_proposal_shows (coding layout) (all_events steps) (coding_is_sound layout is);
        syncs_are_said = said_synced (coding layout) (all_events steps) (coding_is_sound layout is);
      };
    }

-- the lines that the steps of a schedule print
printed_steps : (layout : Layout) (schedule : List (List ℕ)) (steps : List Step) → AreStepsOf layout schedule steps → ArePrinted layout steps
printed_steps layout schedule steps are =
    let shown = schedule_printed layout schedule steps are in
    record { printed = shown.printed; text_is = shown.text_is; marks_are = sym shown.marks_are; reports_are = sym shown.reports_are }

-- however far a run comes, what its lines left is printed and strict, and what further lines leave follows it
pub stays_strict : (input : Input) → StaysStrict input
stays_strict input = record {
  are_printed = λ layout steps begins. printed_steps layout begins.schedule steps begins.steps_are;
  strict = λ layout steps begins. strict_world layout (accepted_is begins.head layout begins.layout_is) steps;
  follows_views = λ layout steps begins. every_run_follows (coding layout) (all_events steps)
      (coding_is_sound layout (accepted_is begins.head layout begins.layout_is));
  follows = λ layout steps more begins. follows_steps layout (coding_is_sound layout (accepted_is begins.head layout begins.layout_is)) steps more;
}

-- behind an output that ends as whole no line is left
line_left : (n : ℕ) (within : Bool) (line : Option Line) → (output_line n within line).verdict ≡ Some Whole → ⊥
line_left n false line whole = let never : Some TooManyLines ≡ Some Whole = whole in cc
line_left n true None whole = let never : Some (BadLine (n + 1)) ≡ Some Whole = whole in cc
line_left n true (Some line) whole = let never : None ≡ Some Whole = whole in cc

none_left : (layout : Layout) (w : World) (n : ℕ) (rest : List (List ℕ)) → (output_behind layout w n rest).verdict ≡ Some Whole → rest ≡ []
unfolding output_behind
none_left layout w n [] whole = refl
none_left layout w n (content ∷ rest) whole = absurd (line_left n (nat_lt n most_lines) (line_of content) whole)

-- what was printed of an input that ends as whole is strict
pub linearizable : (input : Input) (steps : List Step) (ending : Result RunResult Halt) → ending ≡ Ok Whole → AreStepsIn input steps ending
    → (output_of steps input).verdict ≡ Some Whole → WorldReadsOf input steps → IsLinearizable input (output_of steps input).text
linearizable input steps ending all are whole told =
    elim are [
      | inl some ↦ begun some.0 some.1 some.2
      | inr none ↦ absurd (none.1 all)
    ]
  where
    begun : (layout : Layout) → BeginsWith input layout steps → length steps ≤ most_lines → IsLinearizable input (output_of steps input).text
    begun layout b few =
        let world : World = left_by layout steps in
        let text : List ℕ = steps_text (coding layout) (first_world layout) steps in
        let same : output_of steps input ≡ onto text (output_behind layout world (length steps) b.rest) =
        ap (output_of steps) b.input_is ∙ output_of-steps b.head layout b.schedule b.rest steps b.layout_is b.steps_are.lines
        in
        let none : b.rest ≡ [] = none_left layout world (length steps) b.rest (ap (λ (o : Output). o.verdict) (sym same) ∙ whole) in
        let text_is : (output_of steps input).text ≡ text ++ closing_text layout world (length steps) =
        ap (λ (o : Output). o.text) same
        ∙ ap (λ (rest : List (List ℕ)). text ++ (output_behind layout world (length steps) rest).text) none
        ∙ ap (λ (o : Output). text ++ o.text) (output_behind-end layout world (length steps))
        in
        let all_told : WorldReads (left_by layout steps) = told b.head (b.schedule ++ b.rest) layout b.input_is b.layout_is in
        let sound : IsSoundText layout (output_of steps input).text =
        subst (IsSoundText layout) (sym text_is) (what_is_printed_audits b.head layout b.schedule steps b.layout_is b.steps_are few all_told)
        in
        record {
          head = b.head;
          layout = layout;
          schedule = b.schedule;
          steps = steps;
          world = world;
          input_is = b.input_is ∙ ap (λ (rest : List (List ℕ)). Parted b.head (b.schedule ++ rest)) none ∙ ap (Parted b.head) (append-nil b.schedule);
          layout_is = b.layout_is;
          steps_are = b.steps_are;
          world_is = refl;
          text_is = text_is;
          are_printed = printed_steps layout b.schedule steps b.steps_are;
          is_strict = strict_world layout (accepted_is b.head layout b.layout_is) steps;
          reads_back = subst (λ (t : List ℕ). ReadsBack layout t world) (sym text_is)
              (what_is_printed_reads_back b.head layout b.schedule steps b.layout_is b.steps_are few all_told);
          is_sound = sound;
          audits = sound_alone b.head layout (map content (raw_lines (output_of steps input).text)) b.layout_is sound;
        }
