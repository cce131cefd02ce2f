-- What stands in an output behind the texts of the steps that were run, and how the lines end a run.
use Rattle.std.proofs.Common.{◌≡◌, ℕ, ◌+◌, ◌<◌, ◌≤◌, Bool, true, false, List, [], ◌∷◌, ◌++◌, length, drop, map, Option, Some, None, Result, Ok, Err, inl, inr, refl, sym, ap, ◌∙◌, arith}
use Rattle.std.specs.Prelude.{nat_lt}
use Rattle.std.proofs.lemmas.Bool.Decides.{nat_tests}
use Rattle.std.proofs.lemmas.List.{length-map}
use Rattle.std.proofs.lemmas.Option.{same_Some}
use Rattle.std.proofs.Math.Seq.{drop-append_seam}
use Rattle.lines.specs.declared.forms.Line.{Line}
use Rattle.lines.specs.Grammar.{line_of}
use Rattle.stripe_code.specs.Codes.{coding}
use Rattle.fab_base.specs.Layouts.{Layout}
use Rattle.layout.specs.declared.faults.LayoutFault.{LayoutFault}
use Rattle.layout.specs.Texts.{layout_of}
use Rattle.protocol.specs.Worlds.{World, first_world}
use Rattle.world.specs.Runs.{Step}
use Rattle.replay.specs.declared.endings.RunResult.{RunResult}
use Rattle.replay.specs.declared.endings.RunResult.TheVariants.{Whole, BadLayout, BadLine, TooManyLines}
use Rattle.replay.specs.declared.endings.Halt.{Halt}
use Rattle.replay.specs.Inputs.{Input, Parted, TooLong, Endless}
use Rattle.printed.specs.Outputs.{left_by, steps_text, most_lines}
use Rattle.replay.specs.Outputs.{Output, onto, output_line, output_behind, output_with, output_of, finished, bad_line, too_many_lines, verdict_line, verdict_behind, verdict_with, verdict_of}
use Rattle.printed.specs.LineSteps.{AreLinesOfSteps}
use Rattle.replay.specs.LineSteps.{AreStepsIn}

-- a line that there may be
within : (n : ℕ) → n < most_lines → nat_lt n most_lines ≡ true
within n h = grind (arith, nat_tests)

-- a line past those
past : (n : ℕ) → most_lines ≤ n → nat_lt n most_lines ≡ false
past n h = grind (arith, nat_tests)

-- no line is left
pub output_behind-end : (layout : Layout) (w : World) (n : ℕ) → output_behind layout w n [] ≡ finished layout w n
unfolding output_behind
output_behind-end layout w n = refl

-- a line that is none
pub output_behind-bad : (layout : Layout) (w : World) (n : ℕ) (content : List ℕ) (rest : List (List ℕ)) → n < most_lines
    → line_of content ≡ None
    → output_behind layout w n (content ∷ rest) ≡ bad_line (n + 1)
unfolding output_behind
output_behind-bad layout w n content rest h is = rw (within n h, is) refl

-- a line too many
pub output_behind-many : (layout : Layout) (w : World) (content : List ℕ) (rest : List (List ℕ))
    → output_behind layout w most_lines (content ∷ rest) ≡ too_many_lines
unfolding output_behind
output_behind-many layout w content rest = refl

-- the output of a head whose layout is this, or which has this fault
pub output_of-text : (head : List ℕ) (steps : List Step) (schedule : List (List ℕ)) (r : Result Layout LayoutFault) → layout_of head ≡ r
    → output_of steps (Parted head schedule) ≡ output_with r steps schedule
unfolding output_of
output_of-text head steps schedule r is = ap (λ (x : Result Layout LayoutFault). output_with x steps schedule) is

-- the lines behind those of steps
behind_steps : (done behind : List (List ℕ)) (steps : List Step) → AreLinesOfSteps done steps → drop (length steps) (done ++ behind) ≡ behind
behind_steps done behind steps are =
    let count : length steps ≡ length done =
    sym (length-map steps (λ (step : Step). Some step.line)) ∙ ap length (sym are) ∙ length-map done line_of
    in
    ap (λ (n : ℕ). drop n (done ++ behind)) count ∙ drop-append_seam done behind

-- the output where the steps of the first lines were run
pub output_of-steps : (head : List ℕ) (layout : Layout) (done behind : List (List ℕ)) (steps : List Step) → layout_of head ≡ Ok layout
    → AreLinesOfSteps done steps
    → output_of steps (Parted head (done ++ behind))
    ≡ onto (steps_text (coding layout) (first_world layout) steps) (output_behind layout (left_by layout steps) (length steps) behind)
output_of-steps head layout done behind steps is are =
    output_of-text head steps (done ++ behind) (Ok layout) is
    ∙ ap (λ (contents : List (List ℕ)). onto (steps_text (coding layout) (first_world layout) steps)
    (output_behind layout (left_by layout steps) (length steps) contents)) (behind_steps done behind steps are)

-- how lines end a run that were run, and those behind them
verdict_skip : (n : ℕ) (done behind : List (List ℕ)) (steps : List Step) → AreLinesOfSteps done steps → n + length steps ≤ most_lines
    → verdict_behind n (done ++ behind) ≡ verdict_behind (n + length steps) behind
unfolding verdict_behind
verdict_skip n [] behind [] are few =
    let same : n ≡ n + 0 = omega arith in ap (λ (k : ℕ). verdict_behind k behind) same
verdict_skip n [] behind (step ∷ steps) are few =
    let never : [] ≡ Some step.line ∷ map (λ (s : Step). Some s.line) steps = are in cc
verdict_skip n (content ∷ done) behind [] are few = let never : line_of content ∷ map line_of done ≡ [] = are in cc
verdict_skip n (content ∷ done) behind (step ∷ steps) are few =
    let first : line_of content ≡ Some step.line =
    (let e : line_of content ∷ map line_of done ≡ Some step.line ∷ map (λ (s : Step). Some s.line) steps = are in cc)
    in
    let others : AreLinesOfSteps done steps =
    (let e : line_of content ∷ map line_of done ≡ Some step.line ∷ map (λ (s : Step). Some s.line) steps = are in cc)
    in
    let under : n < most_lines = omega (arith, few) in
    let fewer : (n + 1) + length steps ≤ most_lines = omega (arith, few) in
    let count : (n + 1) + length steps ≡ n + length (step ∷ steps) = omega arith in
    let all : List (List ℕ) = done ++ behind in
    ap (λ (t : Bool). verdict_line n t (line_of content) (verdict_behind (n + 1) all)) (within n under)
    ∙ ap (λ (line : Option Line). verdict_line n true line (verdict_behind (n + 1) all)) first
    ∙ verdict_skip (n + 1) done behind steps others fewer
    ∙ ap (λ (k : ℕ). verdict_behind k behind) count

-- an output that ends so ends as its lines call for
line_ends : (n : ℕ) (under : Bool) (line : Option Line) (behind one : RunResult) → (output_line n under line).verdict ≡ Some one
    → verdict_line n under line behind ≡ one
line_ends n false line behind one is = same_Some TooManyLines one is
line_ends n true None behind one is = same_Some (BadLine (n + 1)) one is
line_ends n true (Some line) behind one is = let never : None ≡ Some one = is in cc

behind_ends : (layout : Layout) (w : World) (n : ℕ) (behind : List (List ℕ)) (one : RunResult) → (output_behind layout w n behind).verdict ≡ Some one
    → verdict_behind n behind ≡ one
unfolding output_behind verdict_behind
behind_ends layout w n [] one is = same_Some Whole one is
behind_ends layout w n (content ∷ contents) one is =
    line_ends n (nat_lt n most_lines) (line_of content) (verdict_behind (n + 1) contents) one is

-- where no step was run
with_ends : (r : Result Layout LayoutFault) (schedule : List (List ℕ)) (one : RunResult) → (output_with r [] schedule).verdict ≡ Some one
    → verdict_with r schedule ≡ one
with_ends (Err fault) schedule one is = same_Some BadLayout one is
with_ends (Ok layout) schedule one is = behind_ends layout (left_by layout []) 0 schedule one is

none_ends : (input : Input) (one : RunResult) → (output_of [] input).verdict ≡ Some one → verdict_of input ≡ one
unfolding output_of verdict_of
none_ends (Parted head schedule) one is = with_ends (layout_of head) schedule one is
none_ends TooLong one is = same_Some BadLayout one is
none_ends Endless one is = same_Some BadLayout one is

-- the end that a layout and a schedule call for
pub verdict_of-text : (head : List ℕ) (layout : Layout) (schedule : List (List ℕ)) → layout_of head ≡ Ok layout
    → verdict_of (Parted head schedule) ≡ verdict_behind 0 schedule
unfolding verdict_of
verdict_of-text head layout schedule is = ap (λ (r : Result Layout LayoutFault). verdict_with r schedule) is

-- the end that the text of no layout calls for
pub verdict_of-fault : (head : List ℕ) (fault : LayoutFault) (schedule : List (List ℕ)) → layout_of head ≡ Err fault
    → verdict_of (Parted head schedule) ≡ BadLayout
unfolding verdict_of
verdict_of-fault head fault schedule is = ap (λ (r : Result Layout LayoutFault). verdict_with r schedule) is

-- and one that is too long, and no text of one
pub verdict_of-long : verdict_of TooLong ≡ BadLayout
unfolding verdict_of
verdict_of-long = refl

pub verdict_of-endless : verdict_of Endless ≡ BadLayout
unfolding verdict_of
verdict_of-endless = refl

-- the end that the lines behind the first n call for: none is left
pub verdict_behind-end : (n : ℕ) → verdict_behind n [] ≡ Whole
unfolding verdict_behind
verdict_behind-end n = refl

-- the next is a line
pub verdict_behind-line : (n : ℕ) (content : List ℕ) (contents : List (List ℕ)) (line : Line) → n < most_lines → line_of content ≡ Some line
    → verdict_behind n (content ∷ contents) ≡ verdict_behind (n + 1) contents
unfolding verdict_behind
verdict_behind-line n content contents line few is = rw (within n few, is) refl

-- it is none
pub verdict_behind-bad : (n : ℕ) (content : List ℕ) (contents : List (List ℕ)) → n < most_lines → line_of content ≡ None
    → verdict_behind n (content ∷ contents) ≡ BadLine (n + 1)
unfolding verdict_behind
verdict_behind-bad n content contents few is = rw (within n few, is) refl

-- it is one too many
pub verdict_behind-many : (n : ℕ) (content : List ℕ) (contents : List (List ℕ)) → most_lines ≤ n → verdict_behind n (content ∷ contents) ≡ TooManyLines
unfolding verdict_behind
verdict_behind-many n content contents all = rw (past n all) refl

-- how an output ends is for the input alone to say
pub verdict_alone : (input : Input) (steps : List Step) (ending : Result RunResult Halt) (one : RunResult) → AreStepsIn input steps ending
    → (output_of steps input).verdict ≡ Some one → verdict_of input ≡ one
verdict_alone input steps ending one are is =
    elim are [
      | inl some ↦
          let layout = some.0 in
          let b = some.1 in
          let world : World = left_by layout steps in
          let text : List ℕ = steps_text (coding layout) (first_world layout) steps in
          let same : output_of steps input ≡ onto text (output_behind layout world (length steps) b.rest) =
          ap (output_of steps) b.input_is ∙ output_of-steps b.head layout b.schedule b.rest steps b.layout_is b.steps_are.lines
          in
          let count : 0 + length steps ≡ length steps = omega arith in
          ap verdict_of b.input_is ∙ verdict_of-text b.head layout (b.schedule ++ b.rest) b.layout_is
          ∙ verdict_skip 0 b.schedule b.rest steps b.steps_are.lines (omega (arith, some.2))
          ∙ ap (λ (k : ℕ). verdict_behind k b.rest) count
          ∙ behind_ends layout world (length steps) b.rest one (ap (λ (o : Output). o.verdict) (sym same) ∙ is)
      | inr none ↦ none_ends input one (ap (λ (s : List Step). (output_of s input).verdict) (sym none.0) ∙ is)
    ]
