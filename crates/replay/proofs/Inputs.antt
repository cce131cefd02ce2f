-- What a run printed of an input, from what was read of its layout and printed of its schedule.
use Rattle.std.proofs.Common.{◌≡◌, ℕ, ◌+◌, ◌≤◌, List, [], ◌∷◌, ◌++◌, length, codes, Option, Some, None, Result, Ok, Err, inl, inr, refl, sym, ap, ◌∙◌, subst, arith}
use Rattle.std.specs.Io.KnownBytes.{IsAtEnd, prepend_known}
use Rattle.std.proofs.KnownBytes.{prepend_known-nil}
use Rattle.lines.specs.Lines.{parts}
use Rattle.lines.specs.Reading.{ReadsSchedule}
use Rattle.layout.specs.Texts.{layout_of}
use Rattle.fab_base.specs.Layouts.{Layout}
use Rattle.stripe_code.specs.Codes.{coding}
use Rattle.protocol.specs.Worlds.{World, first_world}
use Rattle.world.specs.Runs.{Run, world_of}
use Rattle.replay.specs.declared.endings.RunResult.{RunResult}
use Rattle.replay.specs.declared.endings.RunResult.TheVariants as verdict
use Rattle.replay.specs.declared.endings.Halt.{Halt}
use Rattle.replay.specs.Inputs.{Input, Parted, TooLong, Endless, most_layout_bytes, input_of, IsInput}
use Rattle.printed.specs.Outputs.{left_by, steps_text}
use Rattle.printed.specs.Spellings.{WorldReads}
use Rattle.printed.specs.LineSteps.{StartsFresh}
use Rattle.replay.specs.Outputs.{onto, output_behind, output_of, bad_layout}
use Rattle.replay.specs.Turns.{Prints, AreLinesOf, PrintsRest, PrintsHeaded, PrintsInput}
use Rattle.replay.proofs.LayoutTexts.{within}
use Rattle.replay.proofs.LeftLines.{some_lines}
use Rattle.replay.proofs.OutputLines.{output_of-steps}
use Rattle.replay.proofs.Steppings.{after_steps, after_steps-all, leads_world}
use Rattle.replay.proofs.Printing.{Prints-nothing, Prints-same, stops_not, ends_not}

-- an input without a layout does not end as whole
refused_not : (old new : Option (List ℕ)) (why : List ℕ) (r : Result RunResult Halt) → Prints old new (bad_layout why) r → r ≡ Ok verdict.Whole → ⊥
refused_not old new why r p = ends_not old new (bad_layout why).text verdict.BadLayout r (λ e. cc) p

-- the output of an input that has no layout
pub output_of-long : output_of [] TooLong ≡ bad_layout (codes "limit layout")
unfolding output_of
output_of-long = refl

pub output_of-endless : output_of [] Endless ≡ bad_layout (codes "end")
unfolding output_of
output_of-endless = refl

-- the run was stopped before the layout was read
pub PrintsHeaded-stopped : (head : List ℕ) (left old : Option (List ℕ)) (halt : Halt) → PrintsHeaded head left old old (Err halt)
PrintsHeaded-stopped head left old halt =
    let some = some_lines left in
    record {
      schedule = some.0;
      are_lines = some.1;
      steps = [];
      steps_are = inr (refl, stops_not halt);
      printed = Prints-nothing old (output_of [] (Parted head some.0)) halt;
      told = λ e. absurd (stops_not halt e);
    }

-- the text has this output, whatever stands behind it
pub PrintsHeaded-refused : (head : List ℕ) (left old new : Option (List ℕ)) (r : Result RunResult Halt) (why : List ℕ)
    → ((schedule : List (List ℕ)) → output_of [] (Parted head schedule) ≡ bad_layout why) → Prints old new (bad_layout why) r
    → PrintsHeaded head left old new r
PrintsHeaded-refused head left old new r why is p =
    let some = some_lines left in
    record {
      schedule = some.0;
      are_lines = some.1;
      steps = [];
      steps_are = inr (refl, refused_not old new why r p);
      printed = Prints-same old new r (output_of [] (Parted head some.0)) (bad_layout why) (is some.0) p;
      told = λ e. absurd (refused_not old new why r p e);
    }

-- the layout was read, and the lines behind it were run
pub PrintsHeaded-lines : (head : List ℕ) (layout : Layout) (run : Run) (left old new : Option (List ℕ)) (r : Result RunResult Halt)
    → layout_of head ≡ Ok layout
    → run ≡ record { layout = layout; steps = []; disks = run.disks } → StartsFresh run → PrintsRest run 0 left old new r
    → PrintsHeaded head left old new r
PrintsHeaded-lines head layout run left old new r is first fresh p =
    let text = steps_text (coding layout) (first_world layout) p.steps in
    let count : 0 + length p.steps ≡ length p.steps = omega arith in
    let world : world_of p.last ≡ left_by layout p.steps =
    leads_world run p.last p.steps p.leads
    ∙ ap (λ (u : Run). after_steps (coding u.layout) (world_of u) p.steps) first
    ∙ sym (after_steps-all (coding layout) (first_world layout) p.steps)
    in
    record {
      schedule = p.done ++ p.behind;
      are_lines = p.are_lines;
      steps = p.steps;
      steps_are = inl (
        layout,
        record {
          head = head;
          schedule = p.done;
          rest = p.behind;
          input_is = refl;
          layout_is = is;
          steps_are = record { lines = p.lines; first = run; last = p.last; first_is = first; fresh = fresh; leads = p.leads };
        },
        omega (arith, p.within),
      );
      printed = Prints-same old new r (output_of p.steps (Parted head (p.done ++ p.behind)))
          (onto (steps_text (coding run.layout) (world_of run) p.steps) (output_behind run.layout (world_of p.last) (0 + length p.steps) p.behind))
          (output_of-steps head layout p.done p.behind p.steps is p.lines
          ∙ ap (λ (w : World). onto text (output_behind layout w (length p.steps) p.behind)) (sym world)
          ∙ ap (λ (u : Run). onto (steps_text (coding u.layout) (world_of u) p.steps) (output_behind u.layout (world_of p.last) (length p.steps) p.behind)) (sym first)
          ∙ ap (λ (k : ℕ). onto (steps_text (coding run.layout) (world_of run) p.steps) (output_behind run.layout (world_of p.last) k p.behind)) (sym count))
          p.printed;
      told = λ e other schedule found same here.
          let text_is : head ≡ other = (let parted : Parted head (p.done ++ p.behind) ≡ Parted other schedule = same in cc) in
          let layout_is : layout ≡ found = (let both : Ok layout ≡ Ok found = sym is ∙ ap layout_of text_is ∙ here in cc) in
          subst (λ (l : Layout). WorldReads (left_by l p.steps)) layout_is (subst (λ (w : World). WorldReads w) world (p.told e));
    }

-- the output of an equal layout's text
pub PrintsHeaded-head : (head other : List ℕ) (left old new : Option (List ℕ)) (r : Result RunResult Halt) → head ≡ other
    → PrintsHeaded head left old new r
    → PrintsHeaded other left old new r
PrintsHeaded-head head other left old new r e p = subst (λ (l : List ℕ). PrintsHeaded l left old new r) e p

-- the run was stopped before the input was read
stopped_input : (input : Input) (source old : Option (List ℕ)) (halt : Halt) → IsInput source input → PrintsInput source old old (Err halt)
stopped_input input source old halt is_input = record {
  input = input;
  is_input = is_input;
  steps = [];
  steps_are = inr (refl, stops_not halt);
  printed = Prints-nothing old (output_of [] input) halt;
  told = λ e. absurd (stops_not halt e);
}

pub PrintsInput-stopped : (source old : Option (List ℕ)) (halt : Halt) → PrintsInput source old old (Err halt)
PrintsInput-stopped None old halt = stopped_input Endless None old halt tt
PrintsInput-stopped (Some bytes) old halt = stopped_input (input_of bytes) (Some bytes) old halt refl

-- the input has no layout
pub PrintsInput-refused : (source old new : Option (List ℕ)) (input : Input) (why : List ℕ) (r : Result RunResult Halt) → IsInput source input
    → output_of [] input ≡ bad_layout why → Prints old new (bad_layout why) r → PrintsInput source old new r
PrintsInput-refused source old new input why r is_input is p = record {
  input = input;
  is_input = is_input;
  steps = [];
  steps_are = inr (refl, refused_not old new why r p);
  printed = Prints-same old new r (output_of [] input) (bad_layout why) is p;
  told = λ e. absurd (refused_not old new why r p e);
}

-- an input of these parts, whose layout's text is within the limit
pub input_of-parts : (bytes head : List ℕ) (schedule : List (List ℕ)) → length head ≤ most_layout_bytes
    → parts bytes ≡ Some (record { layout = head; schedule = schedule }) → input_of bytes ≡ Parted head schedule
unfolding input_of
input_of-parts bytes head schedule under is = rw is (within head (Parted head schedule) under)

-- the layout was taken, and what stands behind it was run
pub PrintsInput-headed : (source left old new : Option (List ℕ)) (head : List ℕ) (r : Result RunResult Halt) → ReadsSchedule source left head []
    → length head ≤ most_layout_bytes → PrintsHeaded head left old new r → PrintsInput source old new r
PrintsInput-headed source left old new head r reads under p =
    record {
      input = Parted head p.schedule;
      is_input = is_input source left reads p.are_lines;
      steps = p.steps;
      steps_are = p.steps_are;
      printed = p.printed;
      told = p.told;
    }
  where
    is_input : (source left : Option (List ℕ)) → ReadsSchedule source left head [] → AreLinesOf left p.schedule
        → IsInput source (Parted head p.schedule)
    is_input None left reads lines = tt
    is_input (Some x) None reads lines = absurd reads
    is_input (Some x) (Some y) reads lines = input_of-parts x head p.schedule under
        (reads ∙ ap (λ l. Some (record { layout = head; schedule = l })) lines)

-- bytes that were not read yet stand before those of the source
pub PrintsInput-unread : (unread : List ℕ) (source old new : Option (List ℕ)) (r : Result RunResult Halt) → unread ≡ []
    → PrintsInput (prepend_known unread source) old new r → PrintsInput source old new r
PrintsInput-unread unread source old new r none p =
    subst (λ (s : Option (List ℕ)). PrintsInput s old new r) (ap (λ u. prepend_known u source) none ∙ prepend_known-nil source) p

-- where no byte is left before the source or in it, it is at its end
pub at_end : (unread : List ℕ) (source : Option (List ℕ)) → IsAtEnd (prepend_known unread source) → IsAtEnd source
at_end unread None end = tt
at_end [] (Some x) end = end
at_end (byte ∷ unread) (Some x) end = cc
