-- How the rest of a run goes on from the lines that were run.
use Rattle.std.proofs.Common.{◌≡◌, ℕ, ◌+◌, ◌<◌, ◌≤◌, ◌⊎◌, List, [], ◌∷◌, ◌++◌, length, map, Option, Some, None, IfSome, Result, Ok, Err, inl, inr, refl, sym, ap, ◌∙◌, subst, arith, append_assoc, append-nil, length-append}
use Rattle.std.proofs.lemmas.List.{map-append}
use Rattle.std.specs.List.{concat}
use Rattle.std.proofs.lemmas.List.Folds.{concat-append}
use Rattle.std.specs.Io.KnownBytes.{Keeps, Appends, Consumes, IsAtEnd, prepend_known}
use Rattle.std.proofs.KnownBytes.{Keeps-refl, Appends-nil, Appends-trans, Consumes-nil, Consumes-trans}
use Rattle.fab_io.specs.Ends.{AppendsFront}
use Rattle.lines.specs.Grammar.{line_of}
use Rattle.lines.specs.Lines.{content}
use Rattle.lines.specs.Reading.{Passes, BeginsLong, Says, AreWhole, IsBegun, IsNeeded, LineReads, taken_by}
use Rattle.lines.specs.declared.reader.NextLine.{NextLine}
use Rattle.lines.specs.declared.reader.NextLine.TheVariants.{Whole, Last, Long, Ended}
use Rattle.lines.proofs.Passing.{Passes-nil, Passes-trans}
use Rattle.lines.proofs.WholeLines.{AreWhole-push}
use Rattle.lines.proofs.Needs.{IsNeeded-none, IsNeeded-more}
use Rattle.lines.specs.declared.forms.Line.{Line}
use Rattle.fab_base.specs.Layouts.{Layout}
use Rattle.protocol.specs.Settings.{Setting}
use Rattle.protocol.specs.Worlds.{World, run}
use Rattle.stripe_code.specs.Codes.{coding}
use Rattle.world.specs.Runs.{Run, Step, world_of}
use Rattle.world.specs.Texts.{step_text}
use Rattle.world.specs.Steps.{Ran, Runs}
use Rattle.fab_io.proofs.Content.{AppendsFront-none, AppendsFront-more}
use Rattle.replay.specs.declared.endings.RunResult.{RunResult}
use Rattle.replay.specs.declared.endings.RunResult.TheVariants as verdict
use Rattle.replay.specs.declared.endings.Halt.{Halt}
use Rattle.printed.specs.Outputs.{most_lines, steps_text}
use Rattle.replay.specs.Outputs.{Output, onto, output_behind, finished, bad_line, too_many_lines}
use Rattle.printed.specs.LineSteps.{LeadsTo, AreLinesOfSteps}
use Rattle.printed.specs.Spellings.{WorldReads}
use Rattle.printed.proofs.PrintedMarks.{after_step}
use Rattle.replay.specs.Turns.{Prints, AreLinesOf, PrintsRest, PrintsLine, LineRuns, LineBegins, LineTurnMeans, PieceMeans, TurnMeans, IsTheEnd}
use Rattle.replay.specs.Readings.{LinesSoFar, ReadsPart}
use Rattle.replay.proofs.HeadReading.{unread_more}
use Rattle.replay.proofs.OutputLines.{output_behind-end, output_behind-bad, output_behind-many}
use Rattle.replay.proofs.Steppings.{after_steps, leads_none, leads_one, leads_both, lines_both, steps_text-append}
use Rattle.replay.proofs.Printing.{Prints-after, Prints-kept, Prints-nothing, Prints-same, stops_not, ends_not}
use Rattle.replay.proofs.LeftLines.{some_lines, no_lines, taken_lines, first_line, long_line, some_line}

-- no line was run: what was printed is what stands behind those that were
PrintsRest-none : (run : Run) (n : ℕ) (left old new : Option (List ℕ)) (r : Result RunResult Halt) (behind : List (List ℕ)) → n ≤ most_lines
    → AreLinesOf left behind → (r ≡ Ok verdict.Whole → WorldReads (world_of run))
    → Prints old new (output_behind run.layout (world_of run) n behind) r → PrintsRest run n left old new r
PrintsRest-none run n left old new r behind within are told p =
    let none : n ≡ n + 0 = omega arith in
    record {
      done = [];
      behind = behind;
      are_lines = are;
      steps = [];
      last = run;
      leads = leads_none run;
      lines = refl;
      within = omega (arith, within);
      printed = subst (λ (k : ℕ). Prints old new (onto [] (output_behind run.layout (world_of run) k behind)) r) none p;
      told = told;
    }

-- the next line was run: what was printed is its text, and what stands behind it
PrintsRest-one : (before after : Run) (n : ℕ) (left old new : Option (List ℕ)) (r : Result RunResult Halt) (content : List ℕ) (rest : List (List ℕ)) (step : Step)
    → n < most_lines → AreLinesOf left (content ∷ rest) → line_of content ≡ Some step.line → Runs before after step.line step
    → (r ≡ Ok verdict.Whole → WorldReads (world_of after))
    → Prints old new (onto (step_text (coding before.layout) (world_of before) step) (output_behind before.layout (world_of after) (n + 1) rest)) r
    → PrintsRest before n left old new r
PrintsRest-one before after n left old new r content rest step within are is runs told p =
    let text = step_text (coding before.layout) (world_of before) step in
    record {
      done = content ∷ [];
      behind = rest;
      are_lines = are;
      steps = step ∷ [];
      last = after;
      leads = leads_one before after step runs;
      lines = ap (λ (x : Option Line). x ∷ []) is;
      within = omega (arith, within);
      printed = subst (λ (t : List ℕ). Prints old new (onto t (output_behind before.layout (world_of after) (n + 1) rest)) r) (sym (append-nil text)) p;
      told = told;
    }

-- the run was stopped before the next line
pub PrintsRest-stopped : (run : Run) (n : ℕ) (left old : Option (List ℕ)) (halt : Halt) → n ≤ most_lines → PrintsRest run n left old old (Err halt)
PrintsRest-stopped run n left old halt within =
    let some = some_lines left in
    PrintsRest-none run n left old old (Err halt) some.0 within some.1 (λ e. absurd (stops_not halt e))
    (Prints-nothing old (output_behind run.layout (world_of run) n some.0) halt)

-- no line is left
pub PrintsRest-ended : (run : Run) (n : ℕ) (left old new : Option (List ℕ)) (r : Result RunResult Halt) → n ≤ most_lines → IsAtEnd left
    → (r ≡ Ok verdict.Whole → WorldReads (world_of run)) → Prints old new (finished run.layout (world_of run) n) r
    → PrintsRest run n left old new r
PrintsRest-ended run n left old new r within end told p =
    PrintsRest-none run n left old new r [] within (no_lines left end) told
    (Prints-same old new r (output_behind run.layout (world_of run) n []) (finished run.layout (world_of run) n)
    (output_behind-end run.layout (world_of run) n) p)

-- a line that is none, whatever stands behind it
PrintsRest-bad : (run : Run) (n : ℕ) (left old new : Option (List ℕ)) (r : Result RunResult Halt) (line : List ℕ) (rest : List (List ℕ)) → n < most_lines
    → AreLinesOf left (line ∷ rest) → line_of line ≡ None → Prints old new (bad_line (n + 1)) r → PrintsRest run n left old new r
PrintsRest-bad run n left old new r line rest within are bad p =
    PrintsRest-none run n left old new r (line ∷ rest) (omega (arith, within)) are
    (λ e. absurd (ends_not old new (bad_line (n + 1)).text (verdict.BadLine (n + 1)) r (λ never. cc) p e))
    (Prints-same old new r (output_behind run.layout (world_of run) n (line ∷ rest)) (bad_line (n + 1))
    (output_behind-bad run.layout (world_of run) n line rest within bad) p)

pub line-bad : (run : Run) (n : ℕ) (old mid new : Option (List ℕ)) (line : List ℕ) (r : Result RunResult Halt) → n < most_lines
    → line_of line ≡ None → Keeps old mid → Prints mid new (bad_line (n + 1)) r → PrintsLine run n line old new r
line-bad run n old mid new line r within bad keeps p = λ left rest are.
    PrintsRest-bad run n left old new r line rest within are bad (Prints-kept old mid new (bad_line (n + 1)) r keeps p)

-- the run was stopped at a line, before it or within its text
pub line-front : (run after : Run) (n : ℕ) (old new : Option (List ℕ)) (line : List ℕ) (halt : Halt) → n < most_lines
    → Keeps old new ⊎ LineBegins run after line old new → PrintsLine run n line old new (Err halt)
line-front run after n old new line halt within stops = λ left rest are.
    elim stops [
      | inl keeps ↦
          let behind = output_behind run.layout (world_of run) n (line ∷ rest) in
          PrintsRest-none run n left old new (Err halt) (line ∷ rest) (omega (arith, within)) are (λ e. absurd (stops_not halt e))
          (AppendsFront-none old new behind.text keeps)
      | inr begins ↦
          let text = step_text (coding run.layout) (world_of run) begins.step in
          let behind = output_behind run.layout (world_of after) (n + 1) rest in
          PrintsRest-one run after n left old new (Err halt) line rest begins.step within are begins.is_line begins.runs (λ e. absurd (stops_not halt e))
          (AppendsFront-more old new text behind.text begins.printed)
    ]

-- a line was run, and all of its text printed, or some
ran_step : (before after : Run) (bytes text : List ℕ) → (ran : Ran before after bytes text) → Runs before after ran.step.line ran.step
ran_step before after bytes text ran =
    subst (λ (line : Line). Runs before after line ran.step) (sym ran.runs.line_is) ran.runs

ran_line : (before after : Run) (bytes text : List ℕ) → (ran : Ran before after bytes text) → line_of bytes ≡ Some ran.step.line
ran_line before after bytes text ran = ran.is_line ∙ ap (λ (line : Line). Some line) (sym ran.runs.line_is)

pub line_runs : (before after : Run) (bytes text : List ℕ) (old new : Option (List ℕ)) → Ran before after bytes text → Appends old new text
    → LineRuns before after bytes old new
line_runs before after bytes text old new ran p = record {
  step = ran.step;
  is_line = ran_line before after bytes text ran;
  runs = ran_step before after bytes text ran;
  printed = subst (λ (t : List ℕ). Appends old new t) ran.text_is p;
}

pub line_begins : (before after : Run) (bytes text : List ℕ) (old new : Option (List ℕ)) → Ran before after bytes text → AppendsFront old new text
    → LineBegins before after bytes old new
line_begins before after bytes text old new ran p = record {
  step = ran.step;
  is_line = ran_line before after bytes text ran;
  runs = ran_step before after bytes text ran;
  printed = subst (λ (t : List ℕ). AppendsFront old new t) ran.text_is p;
}

-- it does not matter here what stopped the run
pub PrintsRest-halt : (run : Run) (n : ℕ) (left old new : Option (List ℕ)) (halt other : Halt) → PrintsRest run n left old new (Err halt)
    → PrintsRest run n left old new (Err other)
PrintsRest-halt run n left old new halt other p = record {
  done = p.done;
  behind = p.behind;
  are_lines = p.are_lines;
  steps = p.steps;
  last = p.last;
  leads = p.leads;
  lines = p.lines;
  within = p.within;
  printed = p.printed;
  told = λ e. absurd (stops_not other e);
}

-- the same, at a line
pub line_halt : (run : Run) (n : ℕ) (bytes : List ℕ) (old new : Option (List ℕ)) (halt other : Halt) → PrintsLine run n bytes old new (Err halt)
    → PrintsLine run n bytes old new (Err other)
line_halt run n bytes old new halt other p = λ left rest are. PrintsRest-halt run n left old new halt other (p left rest are)

-- the next line, of which the output is this, whatever stands behind it
pub PrintsRest-line : (run : Run) (n : ℕ) (left rest old new : Option (List ℕ)) (line : List ℕ) (r : Result RunResult Halt)
    → Passes left rest (line ∷ []) → PrintsLine run n (content line) old new r → PrintsRest run n left old new r
PrintsRest-line run n left rest old new line r passes p = let first = first_line left rest line passes in p left first.0 first.1

-- the last line was run, and the output closed
pub PrintsRest-last : (before after : Run) (n : ℕ) (left rest old mid new : Option (List ℕ)) (line : List ℕ) (r : Result RunResult Halt)
    → n < most_lines → Passes left rest (line ∷ []) → IsAtEnd rest → LineRuns before after (content line) old mid
    → (r ≡ Ok verdict.Whole → WorldReads (world_of after))
    → Prints mid new (finished after.layout (world_of after) (n + 1)) r → PrintsRest before n left old new r
PrintsRest-last before after n left rest old mid new line r within passes end l told p =
    let text = step_text (coding before.layout) (world_of before) l.step in
    let same : after.layout ≡ before.layout = ap (λ u. u.layout) l.runs.run in
    let closed = finished before.layout (world_of after) (n + 1) in
    let behind = output_behind before.layout (world_of after) (n + 1) [] in
    PrintsRest-one before after n left old new r (content line) [] l.step within (taken_lines left rest (line ∷ []) [] passes (no_lines rest end))
    l.is_line l.runs told
    (Prints-after old mid new text behind r l.printed
    (Prints-same mid new r behind closed (output_behind-end before.layout (world_of after) (n + 1))
    (subst (λ u. Prints mid new (finished u (world_of after) (n + 1)) r) same p)))

-- the next line is too long
pub PrintsRest-long : (run : Run) (n : ℕ) (left old new : Option (List ℕ)) (r : Result RunResult Halt) → n < most_lines
    → IfSome left (BeginsLong 70000) → Prints old new (bad_line (n + 1)) r → PrintsRest run n left old new r
PrintsRest-long run n left old new r within long p =
    let (line, contents, are_lines, bad) = long_line left long in
    PrintsRest-bad run n left old new r line contents within are_lines bad p

-- there is a line too many
pub PrintsRest-many : (run : Run) (left rest old new : Option (List ℕ)) (piece : NextLine) (r : Result RunResult Halt) → Says 70000 left rest piece
    → (piece ≡ Ended → ⊥) → Prints old new too_many_lines r → PrintsRest run most_lines left old new r
PrintsRest-many run left rest old new piece r says more p =
    let (line, contents, are_lines) = some_line left rest piece says more in
    PrintsRest-none run most_lines left old new r (line ∷ contents) (omega arith) are_lines
    (λ e. absurd (ends_not old new too_many_lines.text verdict.TooManyLines r (λ never. cc) p e))
    (Prints-same old new r (output_behind run.layout (world_of run) most_lines (line ∷ contents)) too_many_lines
    (output_behind-many run.layout (world_of run) line contents) p)

-- what came next is a line, of which the output is this, whatever stands behind it
pub PieceMeans-line : (run : Run) (n : ℕ) (piece : NextLine) (line : List ℕ) (old new : Option (List ℕ)) (r : Result RunResult Halt)
    → (piece ≡ Whole line) ⊎ (piece ≡ Last line)
    → PrintsLine run n (content line) old new r → PieceMeans run n piece old new r
PieceMeans-line run n piece line old new r is p left rest says =
    elim is [
      | inl whole ↦ PrintsRest-line run n left rest old new line r (subst (Says 70000 left rest) whole says).1 p
      | inr last ↦ PrintsRest-line run n left rest old new line r (subst (Says 70000 left rest) last says).1 p
    ]

-- the last line was run, and the output closed
pub PieceMeans-last : (before after : Run) (n : ℕ) (piece : NextLine) (line : List ℕ) (old mid new : Option (List ℕ)) (r : Result RunResult Halt)
    → n < most_lines → piece ≡ Last line → LineRuns before after (content line) old mid
    → (r ≡ Ok verdict.Whole → WorldReads (world_of after))
    → Prints mid new (finished after.layout (world_of after) (n + 1)) r → PieceMeans before n piece old new r
PieceMeans-last before after n piece line old mid new r within is l told p left rest given =
    let says = subst (Says 70000 left rest) is given in
    PrintsRest-last before after n left rest old mid new line r within says.1 says.2 l told p

-- the next line was run, or the run ended at it
pub TurnMeans-line : (before after : Run) (n : ℕ) (piece : NextLine) (line : List ℕ) (old new : Option (List ℕ)) (r : Result (Option RunResult) Halt)
    → piece ≡ Whole line → LineTurnMeans before after n (content line) old new r → TurnMeans before after n piece old new r
TurnMeans-line before after n piece line old new (Ok None) is means = (line, is, means)
TurnMeans-line before after n piece line old new (Ok (Some one)) is means =
    PieceMeans-line before n piece line old new (Ok one) (inl is) means
TurnMeans-line before after n piece line old new (Err halt) is means =
    PieceMeans-line before n piece line old new (Err halt) (inl is) means

-- nothing is left behind what ends the input
pub at_the_end : (left rest : Option (List ℕ)) (piece : NextLine) → Says 70000 left rest piece → IsTheEnd piece → IsAtEnd rest
at_the_end left rest (Whole line) says end = absurd end
at_the_end left rest (Last line) says end = says.2
at_the_end left rest Long says end = absurd end
at_the_end left rest Ended says end = says.1

-- the same number of lines
pub PrintsRest-number : (run : Run) (n k : ℕ) (left old new : Option (List ℕ)) (r : Result RunResult Halt) → n ≡ k → PrintsRest run n left old new r
    → PrintsRest run k left old new r
PrintsRest-number run n k left old new r e p = subst (λ (i : ℕ). PrintsRest run i left old new r) e p

-- The first n lines were run and printed. Beside that, what was read so far, behind the bytes that were unread at first, and what is unread now.
pub record HasRun (first run : Run) (n : ℕ) (unread now : List ℕ) (told told_now old new : Option (List ℕ)) (came : ℕ) (untouched : Type 0) : Type 0 where
  pub lines : List (List ℕ)
  pub steps : List Step
  pub text : List ℕ
  pub leads : LeadsTo first steps run
  pub passes : Passes (prepend_known unread told) (prepend_known now told_now) lines
  pub printed : Appends old new text
  pub same_layout : run.layout ≡ first.layout
  pub are_whole : AreWhole lines
  pub lines_are : AreLinesOfSteps (map content lines) steps
  pub count : length steps ≡ n
  pub world_is : world_of run ≡ after_steps (coding first.layout) (world_of first) steps
  pub text_is : text ≡ steps_text (coding first.layout) (world_of first) steps
  pub read : List ℕ
  pub consumes : Consumes told told_now read
  pub bytes : unread ++ read ≡ concat lines ++ now
  pub needed : IsNeeded (λ bytes. (text : List ℕ) × LinesSoFar first bytes text) unread read came untouched

-- none was run
pub HasRun-start : (first : Run) (unread : List ℕ) (told old : Option (List ℕ)) (came : ℕ) (untouched : Type 0) → untouched
    → HasRun first first 0 unread unread told told old old came untouched
HasRun-start first unread told old came untouched same = record {
  lines = [];
  steps = [];
  text = [];
  leads = leads_none first;
  passes = Passes-nil (prepend_known unread told) (prepend_known unread told) (Keeps-refl (prepend_known unread told));
  printed = Appends-nil old;
  same_layout = refl;
  are_whole = tt;
  lines_are = refl;
  count = refl;
  world_is = refl;
  text_is = refl;
  read = [];
  consumes = Consumes-nil told;
  bytes = append-nil unread;
  needed = IsNeeded-none (λ bytes. (text : List ℕ) × LinesSoFar first bytes text) unread came untouched same;
}

-- a text and another before an output
onto-onto : (a b : List ℕ) (output : Output) → onto a (onto b output) ≡ onto (a ++ b) output
onto-onto a b output = ap (λ t. onto_verdict t) (sym (append_assoc a b output.text))
  where
    onto_verdict : List ℕ → Output
    onto_verdict t = record { text = t; verdict = output.verdict }

-- the world behind a step
abbrev run_events : Setting → World → Step → World
run_events setting w step = run setting step.events w

-- the world behind one step more
after_steps-push : (setting : Setting) (w : World) (steps : List Step) (step : Step)
    → after_steps setting w (steps ++ step ∷ []) ≡ run setting step.events (after_steps setting w steps)
after_steps-push setting w [] step = refl
after_steps-push setting w (first ∷ steps) step = after_steps-push setting (run setting first.events w) steps step

-- what was read so far, where so many bytes of a line that was begun stand behind the lines
pub so_far : (first run : Run) (n : ℕ) (unread now : List ℕ) (told told_now old new : Option (List ℕ)) (came : ℕ) (untouched : Type 0)
    (begun bytes : List ℕ) → n ≤ most_lines → (h : HasRun first run n unread now told told_now old new came untouched) → IsBegun 70000 begun
    → bytes ≡ concat h.lines ++ begun → LinesSoFar first bytes h.text
so_far first run n unread now told told_now old new came untouched begun bytes within h is_begun is = record {
  raw = h.lines;
  begun = begun;
  steps = h.steps;
  last = run;
  leads = h.leads;
  are_whole = h.are_whole;
  is_begun = is_begun;
  bytes_are = is;
  lines_are = h.lines_are;
  within = omega (arith, within, h.count);
  text_is = h.text_is;
}

-- what was read so far, and for the next line
pub needed_next : (first run : Run) (n : ℕ) (unread now next : List ℕ) (told told_now told_next old new : Option (List ℕ)) (came came_next : ℕ)
    (untouched same untouched_next : Type 0) (taken : List ℕ) (failed : Type 0) → n ≤ most_lines
    → (h : HasRun first run n unread now told told_now old new came untouched)
    → (r : LineReads 70000 now next told_now told_next came_next same taken failed)
    → (same → (came_next ≡ came) × (untouched → untouched_next))
    → IsNeeded (λ bytes. (text : List ℕ) × LinesSoFar first bytes text) unread (h.read ++ r.read) came_next untouched_next
needed_next first run n unread now next told told_now told_next old new came came_next untouched same untouched_next taken failed within h r stays =
    IsNeeded-more (λ bytes. (text : List ℕ) × LinesSoFar first bytes text) (IsBegun 70000) unread h.read now r.read came came_next
    untouched same untouched_next h.needed r.needed stays
    (λ before is_begun. (
      h.text,
      so_far first run n unread now told told_now old new came untouched (now ++ before) (unread ++ (h.read ++ before)) within h is_begun
          (unread_more unread h.read now before h.lines h.bytes),
    ))

-- one more was run
pub HasRun-line : (first run after : Run) (n : ℕ) (unread now next : List ℕ) (told told_now told_next old mid new : Option (List ℕ)) (came came_next : ℕ)
    (untouched same untouched_next : Type 0) (bytes : List ℕ) (failed : Type 0) → n < most_lines
    → HasRun first run n unread now told told_now old mid came untouched
    → Says 70000 (prepend_known now told_now) (prepend_known next told_next) (Whole bytes)
    → LineReads 70000 now next told_now told_next came_next same bytes failed
    → (same → (came_next ≡ came) × (untouched → untouched_next))
    → LineRuns run after (content bytes) mid new
    → HasRun first after (n + 1) unread next told told_next old new came_next untouched_next
HasRun-line first run after n unread now next told told_now told_next old mid new came came_next untouched same untouched_next bytes failed within h says r stays l =
    let setting = coding run.layout in
    let w = world_of run in
    let step = l.step in
    let text = step_text setting w step in
    let layout : after.layout ≡ run.layout = ap (λ r. r.layout) l.runs.run in
    let world = after_step run after step.line step l.runs in
    record {
      lines = h.lines ++ bytes ∷ [];
      steps = h.steps ++ step ∷ [];
      text = h.text ++ text;
      leads = leads_both first run after h.steps (step ∷ []) h.leads (leads_one run after step l.runs);
      passes = Passes-trans (prepend_known unread told) (prepend_known now told_now) (prepend_known next told_next) h.lines (bytes ∷ []) h.passes says.1;
      printed = Appends-trans old mid new h.text text h.printed l.printed;
      same_layout = layout ∙ h.same_layout;
      are_whole = AreWhole-push h.lines bytes h.are_whole says.2;
      lines_are = ap (map line_of) (map-append content h.lines (bytes ∷ []))
          ∙ lines_both (map content h.lines) (content bytes ∷ []) h.steps (step ∷ []) h.lines_are (ap (λ (x : Option Line). x ∷ []) l.is_line);
      count = omega (arith, length-append h.steps (step ∷ []), h.count);
      world_is = world ∙ ap (λ (u : Layout). run_events (coding u) w step) h.same_layout
          ∙ ap (λ (u : World). run_events (coding first.layout) u step) h.world_is
          ∙ sym (after_steps-push (coding first.layout) (world_of first) h.steps step);
      text_is = ap (λ (t : List ℕ). t ++ text) h.text_is
          ∙ ap (λ (t : List ℕ). steps_text (coding first.layout) (world_of first) h.steps ++ t)
          (sym (append-nil text)
          ∙ ap (λ (u : Layout). steps_text (coding u) w (step ∷ [])) h.same_layout
          ∙ ap (λ (u : World). steps_text (coding first.layout) u (step ∷ [])) h.world_is)
          ∙ sym (steps_text-append (coding first.layout) (world_of first) h.steps (step ∷ []));
      read = h.read ++ r.read;
      consumes = Consumes-trans told told_now told_next h.read r.read h.consumes r.consumes;
      bytes = unread_more unread h.read now r.read h.lines h.bytes ∙ ap (λ (l : List ℕ). concat h.lines ++ l) r.bytes
          ∙ sym (append_assoc (concat h.lines) bytes next)
          ∙ ap (λ (l : List ℕ). (concat h.lines ++ l) ++ next) (sym (append-nil bytes))
          ∙ ap (λ (l : List ℕ). l ++ next) (sym (concat-append h.lines (bytes ∷ [])));
      needed = needed_next first run n unread now next told told_now told_next old mid came came_next untouched same untouched_next bytes failed
          (omega (arith, within)) h r stays;
    }

-- the same, of what came next
pub HasRun-turn : (first run after : Run) (n : ℕ) (unread now next : List ℕ) (told told_now told_next old mid new : Option (List ℕ)) (came came_next : ℕ)
    (untouched same untouched_next : Type 0) (piece : NextLine) (failed : Type 0) → n < most_lines
    → HasRun first run n unread now told told_now old mid came untouched
    → Says 70000 (prepend_known now told_now) (prepend_known next told_next) piece
    → LineReads 70000 now next told_now told_next came_next same (taken_by {E = Halt} (Ok piece)) failed
    → (same → (came_next ≡ came) × (untouched → untouched_next))
    → (line : List ℕ) × (piece ≡ Whole line) × LineRuns run after (content line) mid new
    → HasRun first after (n + 1) unread next told told_next old new came_next untouched_next
HasRun-turn first run after n unread now next told told_now told_next old mid new came came_next untouched same untouched_next piece failed within h says r stays (line, is, l) =
    HasRun-line first run after n unread now next told told_now told_next old mid new came came_next untouched same untouched_next line failed within h
    (subst (Says 70000 (prepend_known now told_now) (prepend_known next told_next)) is says)
    (subst (λ (p : NextLine). LineReads 70000 now next told_now told_next came_next same (taken_by {E = Halt} (Ok p)) failed) is r) stays l

-- the rest was printed
pub HasRun-rest : (first run : Run) (n : ℕ) (unread now : List ℕ) (told told_now old mid new : Option (List ℕ)) (came : ℕ) (untouched : Type 0)
    (r : Result RunResult Halt) → HasRun first run n unread now told told_now old mid came untouched
    → PrintsRest run n (prepend_known now told_now) mid new r → PrintsRest first 0 (prepend_known unread told) old new r
HasRun-rest first run n unread now told told_now old mid new came untouched r h p =
    let setting = coding first.layout in
    let text = steps_text setting (world_of run) p.steps in
    let behind = output_behind first.layout (world_of p.last) (n + length p.steps) p.behind in
    let printed : Prints mid new (onto text behind) r =
    subst (λ (l : Layout). Prints mid new (onto (steps_text (coding l) (world_of run) p.steps) (output_behind l (world_of p.last) (n + length p.steps) p.behind)) r)
    h.same_layout p.printed
    in
    let all : steps_text setting (world_of first) (h.steps ++ p.steps) ≡ h.text ++ text =
    steps_text-append setting (world_of first) h.steps p.steps
    ∙ ap (λ (w : World). steps_text setting (world_of first) h.steps ++ steps_text setting w p.steps) (sym h.world_is)
    ∙ ap (λ (t : List ℕ). t ++ text) (sym h.text_is)
    in
    let count : 0 + length (h.steps ++ p.steps) ≡ n + length p.steps = omega (arith, length-append h.steps p.steps, h.count) in
    let left = prepend_known unread told in
    record {
      done = map content h.lines ++ p.done;
      behind = p.behind;
      are_lines = subst (AreLinesOf left) (sym (append_assoc (map content h.lines) p.done p.behind))
          (taken_lines left (prepend_known now told_now) h.lines (p.done ++ p.behind) h.passes p.are_lines);
      steps = h.steps ++ p.steps;
      last = p.last;
      leads = leads_both first run p.last h.steps p.steps h.leads p.leads;
      lines = lines_both (map content h.lines) p.done h.steps p.steps h.lines_are p.lines;
      within = omega (arith, count, p.within);
      printed = Prints-same old new r
          (onto (steps_text setting (world_of first) (h.steps ++ p.steps)) (output_behind first.layout (world_of p.last) (0 + length (h.steps ++ p.steps)) p.behind))
          (onto h.text (onto text behind))
          (ap (λ (t : List ℕ). onto t (output_behind first.layout (world_of p.last) (0 + length (h.steps ++ p.steps)) p.behind)) all
          ∙ ap (λ (k : ℕ). onto (h.text ++ text) (output_behind first.layout (world_of p.last) k p.behind)) count
          ∙ sym (onto-onto h.text text behind))
          (Prints-after old mid new h.text (onto text behind) r h.printed printed);
      told = p.told;
    }

-- what was read where the run ended behind what came next, by no failure of the source
pub ReadsPart-ended : (first run : Run) (n : ℕ) (unread now next : List ℕ) (told told_now told_next old mid new : Option (List ℕ)) (came came_next : ℕ)
    (untouched same untouched_next : Type 0) (taken : List ℕ) (failed ended : Type 0) → n ≤ most_lines
    → HasRun first run n unread now told told_now old mid came untouched
    → LineReads 70000 now next told_now told_next came_next same taken failed
    → (same → (came_next ≡ came) × (untouched → untouched_next)) → (ended → ⊥)
    → ReadsPart (LinesSoFar first) unread told told_next old new came_next untouched_next ended
ReadsPart-ended first run n unread now next told told_now told_next old mid new came came_next untouched same untouched_next taken failed ended within h r stays other = record {
  read = h.read ++ r.read;
  consumes = Consumes-trans told told_now told_next h.read r.read h.consumes r.consumes;
  needed = needed_next first run n unread now next told told_now told_next old mid came came_next untouched same untouched_next taken failed within h r stays;
  printed = λ e. absurd (other e);
}

-- what was read where nothing came next
pub ReadsPart-failed : (first run : Run) (n : ℕ) (unread now next : List ℕ) (told told_now told_next old new : Option (List ℕ)) (came came_next : ℕ)
    (untouched same untouched_next : Type 0) (failed ended : Type 0) → n ≤ most_lines
    → HasRun first run n unread now told told_now old new came untouched
    → LineReads 70000 now next told_now told_next came_next same [] failed
    → (same → (came_next ≡ came) × (untouched → untouched_next)) → (ended → failed)
    → ReadsPart (LinesSoFar first) unread told told_next old new came_next untouched_next ended
ReadsPart-failed first run n unread now next told told_now told_next old new came came_next untouched same untouched_next failed ended within h r stays cause = record {
  read = h.read ++ r.read;
  consumes = Consumes-trans told told_now told_next h.read r.read h.consumes r.consumes;
  needed = needed_next first run n unread now next told told_now told_next old new came came_next untouched same untouched_next [] failed within h r stays;
  printed = λ e. (
    h.text,
    so_far first run n unread now told told_now old new came untouched next (unread ++ (h.read ++ r.read)) within h (r.begun (cause e))
        (unread_more unread h.read now r.read h.lines h.bytes ∙ ap (λ (l : List ℕ). concat h.lines ++ l) r.bytes),
    h.printed,
  );
}

-- a turn that ended the run as whole
pub whole_turn : (one : RunResult) (turn : Option RunResult) → turn ≡ Some one
    → (let ended : Result RunResult Halt = Ok one in ended ≡ Ok verdict.Whole)
    → (let took : Result (Option RunResult) Halt = Ok turn in took ≡ Ok (Some verdict.Whole))
whole_turn one turn is whole = cc
