-- Lines, one after another.
use Rattle.std.proofs.Common.{◌≡◌, ◌⊎◌, ℕ, ◌+◌, ◌-◌, ◌*◌, ◌≤◌, Bool, true, false, not, ◌||◌, List, [], ◌∷◌, ◌++◌, length, take, Option, Some, None, refl, sym, ap, subst, ◌∙◌, append_assoc, append-nil, arith, inl, inr}
use Rattle.std.specs.List.{list_any}
use Rattle.std.specs.Io.KnownBytes.{Appends, Consumes, IsAtEnd}
use Rattle.std.proofs.KnownBytes.{Appends-nil, Appends-trans, Consumes-nil, Consumes-trans}
use Rattle.std.proofs.lemmas.Bool.{cases_lt}
use Rattle.std.proofs.lemmas.List.{length-append, length-take, take_all}
use Rattle.std.proofs.lemmas.List.Folds.{list_any-append}
use Rattle.fab_base.specs.Layouts.{Layout}
use Rattle.fab_io.specs.Datagrams.{Grows}
use Rattle.fab_io.proofs.Told.{Stays-refl, Grows-none, Grows-trans}
use Rattle.front.specs.Ranges.{Progress, next_of}
use Rattle.front.specs.declared.steps.RangeAnswer.{RangeAnswer}
use Rattle.front.specs.declared.steps.RangeStep.{RangeStep}
use Rattle.front.specs.declared.steps.RangeStep.TheVariants as step
use Rattle.lines.specs.Lines.{is_line_feed, content}
use Rattle.lines.proofs.RawLines.{content_length}
use Rattle.hosting.specs.declared.commands.Command.{Command}
use Rattle.hosting.specs.declared.commands.Line.{Line}
use Rattle.hosting.specs.declared.commands.Line.TheVariants.{Nothing, Run}
use Rattle.hosting.specs.Answers.{bad_line_text}
use Rattle.hosting.specs.Commands.{line_of}
use Rattle.hosting.specs.Hosting.{Played, Progression, beginning, Outcome, reads, text_of, printed, is_none, is_waiting, outcome_of, HasRounds, after_line, IsPlayed, after_lines, ArePlayed, bytes_of, rounds_of, RunsLine, Hosts}
use Rattle.serving.specs.Datagrams.{Looked}
use Rattle.hosting.specs.Reading.{turn_bytes, most_kept, AreTurnsOf, HasNoFeed, IsWhole, IsLine, IsLastLine, Gives, Reads}
use Rattle.hosting.specs.Commanded.{opened, asking}
use Rattle.hosting.specs.Rounds.{Heard, IsOpen, after_rounds, came_in, Took, Told, port_of, EndsAs, RunsRange}
use Rattle.hosting.proofs.CommandLines.{line_of-long}
use Rattle.serving.proofs.Looks.{Looked-none, Looked-trans}

-- what is kept of a line says what the line says
pub line_of-kept : (line : List ℕ) → line_of (content (take most_kept line)) ≡ line_of (content line)
line_of-kept line =
    elim (cases_lt (length line) (most_kept + 1)) [
      | inl short ↦ ap (λ (l : List ℕ). line_of (content l)) (take_all most_kept line (omega (arith, short)))
      | inr long ↦
          let kept : length (take most_kept line) ≡ most_kept = omega (arith, length-take most_kept line, long) in
          line_of-long (content (take most_kept line)) (omega (arith, content_length (take most_kept line), kept))
          ∙ sym (line_of-long (content line) (omega (arith, content_length line, long)))
    ]

-- ---- the outcome of a line

-- an answer's text is that of how its command ended
ends_text : (reading : Bool) (next : RangeStep) (answer : RangeAnswer) → next ≡ step.End answer → text_of reading next ≡ printed reading (Some answer)
ends_text reading next answer e = ap (text_of reading) e

waits_text : (reading : Bool) (range : Progress) → IsOpen range → text_of reading (next_of range) ≡ printed reading None
waits_text reading range open_is = ap (text_of reading) open_is.1

pub text_is : (reading : Bool) (range : Progress) (turns : ℕ) (answer : Option RangeAnswer) → EndsAs range turns answer
    → printed reading answer ≡ text_of reading (next_of range)
text_is reading range turns None ends = sym (waits_text reading range ends.0)
text_is reading range turns (Some answer) ends = sym (ends_text reading (next_of range) answer ends)

waits_are : (range : Progress) (turns : ℕ) (answer : Option RangeAnswer) → EndsAs range turns answer → is_none answer ≡ is_waiting (next_of range)
waits_are range turns None ends = sym (ap is_waiting ends.0.1)
waits_are range turns (Some answer) ends = sym (ap is_waiting ends)

used_up : (range : Progress) (turns : ℕ) (answer : Option RangeAnswer) → EndsAs range turns answer → is_none answer ≡ true → turns ≡ 0
used_up range turns None ends e = ends.1
used_up range turns (Some answer) ends e = absurd cc

-- a line that is a command
pub RunsLine-command : {A : Type 0} (takes : A → A → Type 0) (layout : Layout) (command : Command) (number sent sent_after turns turns_after : ℕ) (link link_after : Told)
    (bricks bricks_after : A) (sink sink_after : Option (List ℕ)) (line : Option Line) (answer : Option RangeAnswer) (waits : Bool) (rounds : List Heard)
    → line ≡ Some (Run command) → RunsRange (port_of layout command.brick) (opened layout command) sent sent_after turns turns_after link link_after rounds answer → Took takes rounds bricks bricks_after
    → Appends sink sink_after (printed (reads command.access) answer) → waits ≡ is_none answer
    → RunsLine takes layout number sent sent_after turns turns_after link link_after bricks bricks_after sink sink_after line waits
RunsLine-command takes layout command number sent sent_after turns turns_after link link_after bricks bricks_after sink sink_after line answer waits rounds is runs took text waits_is =
    let last : Progress = (after_rounds (asking sent (opened layout command)) rounds).range in
    subst (λ (l : Option Line). RunsLine takes layout number sent sent_after turns turns_after link link_after bricks bricks_after sink sink_after l waits) (sym is)
    (record {
      rounds = rounds;
      has = runs.heard;
      counted = runs.counted;
      sent_is = runs.sent_is;
      asked = runs.asked;
      looked = runs.looked;
      took = took;
      printed = subst (Appends sink sink_after) (text_is (reads command.access) last turns_after answer runs.ends) text;
      waits_is = waits_is ∙ waits_are last turns_after answer runs.ends;
      used = λ e. used_up last turns_after answer runs.ends (sym waits_is ∙ e);
    })

-- a line that says nothing, and one that is no command
pub RunsLine-nothing : {A : Type 0} (takes : A → A → Type 0) (layout : Layout) (number sent turns : ℕ) (link : Told)
    (bricks : A) (sink : Option (List ℕ)) (line : Option Line) → line ≡ Some Nothing
    → RunsLine takes layout number sent sent turns turns link link bricks bricks sink sink line false
RunsLine-nothing takes layout number sent turns link bricks sink line is =
    subst (λ (l : Option Line). RunsLine takes layout number sent sent turns turns link link bricks bricks sink sink l false) (sym is)
    (record {
      rounds = [];
      has = refl;
      counted = omega arith;
      sent_is = refl;
      asked = Grows-none link.sent link.sent (Stays-refl link.sent);
      looked = Looked-none link.waiting link.waiting (Stays-refl link.waiting);
      took = refl;
      printed = Appends-nil sink;
      waits_is = refl;
      used = λ e. absurd cc;
    })

pub RunsLine-bad : {A : Type 0} (takes : A → A → Type 0) (layout : Layout) (number sent turns : ℕ) (link : Told)
    (bricks : A) (sink sink_after : Option (List ℕ)) (line : Option Line) → line ≡ None → Appends sink sink_after (bad_line_text number)
    → RunsLine takes layout number sent sent turns turns link link bricks bricks sink sink_after line false
RunsLine-bad takes layout number sent turns link bricks sink sink_after line is text =
    subst (λ (l : Option Line). RunsLine takes layout number sent sent turns turns link link bricks bricks sink sink_after l false) (sym is)
    (record {
      rounds = [];
      has = refl;
      counted = omega arith;
      sent_is = refl;
      asked = Grows-none link.sent link.sent (Stays-refl link.sent);
      looked = Looked-none link.waiting link.waiting (Stays-refl link.waiting);
      took = refl;
      printed = text;
      waits_is = refl;
      used = λ e. absurd cc;
    })

-- ---- one more line

ArePlayed-more : (layout : Layout) (before : Progression) (played : List Played) (one : Played) → ArePlayed layout before played
    → IsPlayed layout (after_lines layout before played) one → ArePlayed layout before (played ++ (one ∷ []))
ArePlayed-more layout before [] one are is = (is, tt)
ArePlayed-more layout before (first ∷ played) one are is = (are.0, ArePlayed-more layout (after_line layout before first) played one are.1 is)

after_lines-more : (layout : Layout) (before : Progression) (played : List Played) (one : Played)
    → after_lines layout before (played ++ (one ∷ [])) ≡ after_line layout (after_lines layout before played) one
after_lines-more layout before [] one = refl
after_lines-more layout before (first ∷ played) one = after_lines-more layout (after_line layout before first) played one

bytes_of-more : (played : List Played) (one : Played) → bytes_of (played ++ (one ∷ [])) ≡ bytes_of played ++ one.line
bytes_of-more [] one = append-nil one.line
bytes_of-more (first ∷ played) one = ap (λ (l : List ℕ). first.line ++ l) (bytes_of-more played one) ∙ sym (append_assoc first.line (bytes_of played) one.line)

rounds_of-more : (played : List Played) (one : Played) → rounds_of (played ++ (one ∷ [])) ≡ rounds_of played ++ one.rounds
rounds_of-more [] one = append-nil one.rounds
rounds_of-more (first ∷ played) one =
    ap (λ (l : List Heard). first.rounds ++ l) (rounds_of-more played one) ∙ sym (append_assoc first.rounds (rounds_of played) one.rounds)

-- what looks gave in rounds, and in more of them
pub came_in-append : (first then : List Heard) → came_in (first ++ then) ≡ came_in first ++ came_in then
came_in-append [] then = refl
came_in-append (heard ∷ first) then = ap (λ l. heard.came ∷ l) (came_in-append first then)

-- the bricks took their turns in rounds, and in more of them
pub Took-trans : {A : Type 0} (takes : A → A → Type 0) (first then : List Heard) (a b c : A) → Took takes first a b → Took takes then b c → Took takes (first ++ then) a c
Took-trans takes [] then a b c p q = subst (λ x. Took takes then x c) p q
Took-trans takes (round ∷ first) then a b c p q = (p.0, p.1, Took-trans takes first then p.0 b c p.2 q)

-- lines were run, and this is what they left
pub record HasRun {A : Type 0} (takes : A → A → Type 0) (layout : Layout) (turns : ℕ) (source source_now : Option (List ℕ)) (link link_now : Told)
    (bricks bricks_now : A) (sink sink_now : Option (List ℕ)) (left number sent : ℕ) (over waits : Bool) : Type 0 where
  pub played : List Played
  pub are : ArePlayed layout (beginning turns) played
  pub consumed : Consumes source source_now (bytes_of played)
  pub looked : Looked link.waiting link_now.waiting (came_in (rounds_of played))
  pub asked : Grows link.sent link_now.sent (after_lines layout (beginning turns) played).asks
  pub took : Took takes (rounds_of played) bricks bricks_now
  pub printed : Appends sink sink_now (after_lines layout (beginning turns) played).text
  pub left_is : (after_lines layout (beginning turns) played).left ≡ left
  pub number_is : (after_lines layout (beginning turns) played).lines ≡ number
  pub sent_is : (after_lines layout (beginning turns) played).sent ≡ sent
  pub over_is : (after_lines layout (beginning turns) played).over ≡ over
  pub waits_is : (after_lines layout (beginning turns) played).waits ≡ waits

pub HasRun-none : {A : Type 0} (takes : A → A → Type 0) (layout : Layout) (turns : ℕ) (source : Option (List ℕ)) (link : Told) (bricks : A) (sink : Option (List ℕ))
    → HasRun takes layout turns source source link link bricks bricks sink sink turns 0 0 false false
HasRun-none takes layout turns source link bricks sink =
    record {
      played = [];
      are = tt;
      consumed = Consumes-nil source;
      looked = Looked-none link.waiting link.waiting (Stays-refl link.waiting);
      asked = Grows-none link.sent link.sent (Stays-refl link.sent);
      took = refl;
      printed = Appends-nil sink;
      left_is = refl;
      number_is = refl;
      sent_is = refl;
      over_is = refl;
      waits_is = refl;
    }

-- by a client that sent nothing yet
pub HasRun-begun : {A : Type 0} (takes : A → A → Type 0) (layout : Layout) (turns : ℕ) (source : Option (List ℕ)) (link : Told) (bricks : A) (sink : Option (List ℕ)) (sent : ℕ)
    → sent ≡ 0 → HasRun takes layout turns source source link link bricks bricks sink sink turns 0 sent false false
HasRun-begun takes layout turns source link bricks sink sent none =
    subst (λ (n : ℕ). HasRun takes layout turns source source link link bricks bricks sink sink turns 0 n false false) (sym none)
    (HasRun-none takes layout turns source link bricks sink)

-- one more was run
pub HasRun-line : {A : Type 0} (takes : A → A → Type 0) (layout : Layout) (turns : ℕ) (source source_now source_then : Option (List ℕ)) (link link_now link_then : Told)
    (bricks bricks_now bricks_then : A) (sink sink_now sink_then : Option (List ℕ)) (left left_read left_then number sent sent_then taken : ℕ) (line kept : List ℕ) (waits : Bool)
    → HasRun takes layout turns source source_now link link_now bricks bricks_now sink sink_now left number sent false false
    → Reads left left_read source_now source_then line taken → kept ≡ take most_kept line → IsWhole line ⊎ (HasNoFeed line × (1 ≤ length line))
    → RunsLine takes layout (number + 1) sent sent_then left_read left_then link_now link_then bricks_now bricks_then sink_now sink_then (line_of (content kept)) waits
    → HasRun takes layout turns source source_then link link_then bricks bricks_then sink sink_then left_then (number + 1) sent_then
    (not (list_any is_line_feed line)) waits
HasRun-line takes layout turns source source_now source_then link link_now link_then bricks bricks_now bricks_then sink sink_now sink_then left left_read left_then number sent sent_then taken line kept waits h read keeps line_is runs =
    let one : Played = record { line = line; taken = taken; rounds = runs.rounds } in
    let run : Progression = after_lines layout (beginning turns) h.played in
    let says : line_of (content kept) ≡ line_of (content line) = ap (λ (l : List ℕ). line_of (content l)) keeps ∙ line_of-kept line in
    let same : outcome_of layout (number + 1) sent runs.rounds (line_of (content kept)) ≡ outcome_of layout (run.lines + 1) run.sent runs.rounds (line_of (content line)) =
    ap (λ (k : ℕ). outcome_of layout (k + 1) sent runs.rounds (line_of (content kept))) (sym h.number_is)
    ∙ ap (λ (k : ℕ). outcome_of layout (run.lines + 1) k runs.rounds (line_of (content kept))) (sym h.sent_is)
    ∙ ap (outcome_of layout (run.lines + 1) run.sent runs.rounds) says in
    let all = after_lines-more layout (beginning turns) h.played one in
    let has = subst (HasRounds layout run.sent runs.rounds) says (subst (λ (k : ℕ). HasRounds layout k runs.rounds (line_of (content kept))) (sym h.sent_is) runs.has) in
    let is : IsPlayed layout run one =
    record {
      goes_on = h.over_is;
      answered = h.waits_is;
      line_is = line_is;
      turns = read.turns_of;
      within = omega (arith, h.left_is, read.counted, runs.counted);
      rounds = has;
    } in
    record {
      played = h.played ++ (one ∷ []);
      are = ArePlayed-more layout (beginning turns) h.played one h.are is;
      consumed = subst (Consumes source source_then) (sym (bytes_of-more h.played one))
          (Consumes-trans source source_now source_then (bytes_of h.played) line h.consumed read.consumes);
      looked = subst (Looked link.waiting link_then.waiting) (sym (ap came_in (rounds_of-more h.played one) ∙ came_in-append (rounds_of h.played) runs.rounds))
          (Looked-trans link.waiting link_now.waiting link_then.waiting (came_in (rounds_of h.played)) (came_in runs.rounds) h.looked runs.looked);
      asked = subst (λ (p : Progression). Grows link.sent link_then.sent p.asks) (sym all)
          (Grows-trans link.sent link_now.sent link_then.sent run.asks _ h.asked (subst (λ (o : Outcome). Grows link_now.sent link_then.sent o.asks) same runs.asked));
      took = subst (λ (l : List Heard). Took takes l bricks bricks_then) (sym (rounds_of-more h.played one))
          (Took-trans takes (rounds_of h.played) runs.rounds bricks bricks_now bricks_then h.took runs.took);
      printed = subst (λ (p : Progression). Appends sink sink_then p.text) (sym all)
          (Appends-trans sink sink_now sink_then run.text _ h.printed (subst (λ (o : Outcome). Appends sink_now sink_then o.text) same runs.printed));
      left_is = ap (λ (p : Progression). p.left) all ∙ (let fewer : run.left - (taken + length runs.rounds) ≡ left_then = omega (arith, h.left_is, read.counted, runs.counted) in fewer);
      number_is = ap (λ (p : Progression). p.lines) all ∙ ap (λ (k : ℕ). k + 1) h.number_is;
      sent_is = ap (λ (p : Progression). p.sent) all ∙ sym (ap (λ (o : Outcome). o.sent) same) ∙ sym runs.sent_is;
      over_is = ap (λ (p : Progression). p.over) all;
      waits_is = ap (λ (p : Progression). p.waits) all ∙ sym (ap (λ (o : Outcome). o.waits) same) ∙ sym runs.waits_is;
    }

-- the run is over, and this was read of a line that was not run
pub Hosts-over : {A : Type 0} (takes : A → A → Type 0) (layout : Layout) (turns : ℕ) (source source_now source_then : Option (List ℕ)) (link link_now : Told)
    (bricks bricks_now : A) (sink sink_now : Option (List ℕ)) (left number sent rest_turns : ℕ) (rest : List ℕ) (over waits : Bool)
    → HasRun takes layout turns source source_now link link_now bricks bricks_now sink sink_now left number sent over waits
    → Consumes source_now source_then rest → HasNoFeed rest → AreTurnsOf (length rest) rest_turns → (waits ≡ true → left ≡ 0)
    → (over ≡ true → (rest ≡ []) × IsAtEnd source_then) → ((rest ≡ []) × IsAtEnd source_then) ⊎ ((left ≡ rest_turns) × (length rest ≡ rest_turns * turn_bytes))
    → Hosts takes layout turns source source_then link link_now bricks bricks_now sink sink_now
Hosts-over takes layout turns source source_now source_then link link_now bricks bricks_now sink sink_now left number sent rest_turns rest over waits h consumes none turns_of used last ends =
    record {
      played = h.played;
      rest = rest;
      rest_turns = rest_turns;
      are = h.are;
      rest_is = (none, turns_of);
      consumed = Consumes-trans source source_now source_then (bytes_of h.played) rest h.consumed consumes;
      over = record {
        used = λ e. h.left_is ∙ used (sym h.waits_is ∙ e);
        last = λ e. last (sym h.over_is ∙ e);
        over = elim ends [ inl end ↦ inl end | inr out ↦ inr (h.left_is ∙ out.0, out.1) ];
      };
      looked = h.looked;
      asked = h.asked;
      took = h.took;
      printed = h.printed;
    }

-- no byte takes no turn
pub AreTurnsOf-none : AreTurnsOf 0 0
AreTurnsOf-none = record { enough = omega arith; begun = omega arith }

-- nor is one taken where nothing is read
pub Reads-none : (turns : ℕ) (told : Option (List ℕ)) → Reads turns turns told told [] 0
Reads-none turns told = record { consumes = Consumes-nil told; counted = omega arith; turns_of = AreTurnsOf-none }

-- a line takes a turn
pub some_turn : (bytes turns : ℕ) → AreTurnsOf bytes turns → 1 ≤ bytes → 1 ≤ turns
some_turn bytes turns of some = omega (arith, of.enough, some)

pub some_byte : (line : List ℕ) → IsWhole line → 1 ≤ length line
some_byte line whole = omega (arith, ap length whole.2, length-append whole.0 (10 ∷ []))

-- a whole line does not end the source
whole_over : (line : List ℕ) → IsWhole line → not (list_any is_line_feed line) ≡ false
whole_over line whole =
    ap not
    (ap (list_any is_line_feed) whole.2 ∙ list_any-append is_line_feed whole.0 (10 ∷ [])
    ∙ ap (λ (t : Bool). t || list_any is_line_feed (10 ∷ [])) whole.1)

-- what a line that was read is
pub line-read : (told : Option (List ℕ)) (line : List ℕ) (is_last : Bool) → IsLine told line is_last → IsWhole line ⊎ (HasNoFeed line × (1 ≤ length line))
line-read told line false is = inl is
line-read told line true is = inr (is.0, is.1)

pub last-end : (told : Option (List ℕ)) (line : List ℕ) (is_last : Bool) → IsLine told line is_last → is_last ≡ true → IsAtEnd told
last-end told line true is same = is.2
last-end told line false is same = absurd cc

pub line-some : (told : Option (List ℕ)) (line : List ℕ) (is_last : Bool) → IsLine told line is_last → 1 ≤ length line
line-some told line false is = some_byte line is
line-some told line true is = is.1

pub line-whole : (told : Option (List ℕ)) (line : List ℕ) (is_last : Bool) → IsLine told line is_last → is_last ≡ false → IsWhole line
line-whole told line false is same = is
line-whole told line true is same = absurd cc

pub line-is : (told : Option (List ℕ)) (line : List ℕ) (is_last : Bool) → IsLine told line is_last → IsWhole line ⊎ IsLastLine told line
line-is told line false is = inl is
line-is told line true is = inr is

-- behind a line without a line feed the source is at its end
over-end : (told : Option (List ℕ)) (line : List ℕ) (is_last : Bool) → IsLine told line is_last → not (list_any is_line_feed line) ≡ true → IsAtEnd told
over-end told line true is over = is.2
over-end told line false is over = absurd (let never : false ≡ true = sym (whole_over line is) ∙ over in cc)

-- a whole line was run, and it was answered
pub HasRun-whole : {A : Type 0} (takes : A → A → Type 0) (layout : Layout) (turns : ℕ) (source source_now source_then : Option (List ℕ)) (link link_now link_then : Told)
    (bricks bricks_now bricks_then : A) (sink sink_now sink_then : Option (List ℕ)) (left left_read left_then number sent sent_then taken : ℕ) (line kept : List ℕ) (waits : Bool)
    → HasRun takes layout turns source source_now link link_now bricks bricks_now sink sink_now left number sent false false
    → Reads left left_read source_now source_then line taken → kept ≡ take most_kept line → IsWhole line
    → RunsLine takes layout (number + 1) sent sent_then left_read left_then link_now link_then bricks_now bricks_then sink_now sink_then (line_of (content kept)) waits
    → waits ≡ false
    → HasRun takes layout turns source source_then link link_then bricks bricks_then sink sink_then left_then (number + 1) sent_then false false
HasRun-whole takes layout turns source source_now source_then link link_now link_then bricks bricks_now bricks_then sink sink_now sink_then left left_read left_then number sent sent_then taken line kept waits h read keeps whole runs answered =
    let more = HasRun-line takes layout turns source source_now source_then link link_now link_then bricks bricks_now bricks_then sink sink_now sink_then left left_read left_then number sent sent_then taken line kept waits h read keeps (inl whole) runs in
    subst (λ (b : Bool). HasRun takes layout turns source source_then link link_then bricks bricks_then sink sink_then left_then (number + 1) sent_then b false) (whole_over line whole)
    (subst (λ (b : Bool). HasRun takes layout turns source source_then link link_then bricks bricks_then sink sink_then left_then (number + 1) sent_then (not (list_any is_line_feed line)) b) answered more)

-- a line was run, and the run is over: the source is at its end, or no turn is left
pub Hosts-line : {A : Type 0} (takes : A → A → Type 0) (layout : Layout) (turns : ℕ) (source source_now source_then : Option (List ℕ)) (link link_now link_then : Told)
    (bricks bricks_now bricks_then : A) (sink sink_now sink_then : Option (List ℕ)) (left left_read left_then number sent sent_then taken : ℕ) (line kept : List ℕ) (is_last waits : Bool)
    → HasRun takes layout turns source source_now link link_now bricks bricks_now sink sink_now left number sent false false
    → Reads left left_read source_now source_then line taken → kept ≡ take most_kept line → IsLine source_then line is_last
    → RunsLine takes layout (number + 1) sent sent_then left_read left_then link_now link_then bricks_now bricks_then sink_now sink_then (line_of (content kept)) waits
    → (is_last ≡ true) ⊎ (left_then ≡ 0)
    → Hosts takes layout turns source source_then link link_then bricks bricks_then sink sink_then
Hosts-line takes layout turns source source_now source_then link link_now link_then bricks bricks_now bricks_then sink sink_now sink_then left left_read left_then number sent sent_then taken line kept is_last waits h read keeps is runs ends =
    Hosts-over takes layout turns source source_then source_then link link_then bricks bricks_then sink sink_then left_then (number + 1) sent_then 0 [] (not (list_any is_line_feed line)) waits
    (HasRun-line takes layout turns source source_now source_then link link_now link_then bricks bricks_now bricks_then sink sink_now sink_then left left_read left_then number sent sent_then taken line kept waits h read keeps (line-read source_then line is_last is) runs)
    (Consumes-nil source_then) refl AreTurnsOf-none runs.used (λ e. (refl, over-end source_then line is_last is e))
    (elim ends [ inl end ↦ inl (refl, last-end source_then line is_last is end) | inr none ↦ inr (none, omega arith) ])

-- no line is left
Hosts-ended : {A : Type 0} (takes : A → A → Type 0) (layout : Layout) (turns : ℕ) (source source_now source_then : Option (List ℕ)) (link link_now : Told)
    (bricks bricks_now : A) (sink sink_now : Option (List ℕ)) (left left_read number sent taken : ℕ) (line : List ℕ)
    → HasRun takes layout turns source source_now link link_now bricks bricks_now sink sink_now left number sent false false
    → Reads left left_read source_now source_then line taken → line ≡ [] → IsAtEnd source_then
    → Hosts takes layout turns source source_then link link_now bricks bricks_now sink sink_now
Hosts-ended takes layout turns source source_now source_then link link_now bricks bricks_now sink sink_now left left_read number sent taken line h read none end =
    Hosts-over takes layout turns source source_now source_then link link_now bricks bricks_now sink sink_now left number sent taken line false false h
    read.consumes (ap (list_any is_line_feed) none) read.turns_of (λ e. let never : false ≡ true = e in absurd cc) (λ e. (none, end)) (inl (none, end))

-- no turn is left
Hosts-out : {A : Type 0} (takes : A → A → Type 0) (layout : Layout) (turns : ℕ) (source source_now source_then : Option (List ℕ)) (link link_now : Told)
    (bricks bricks_now : A) (sink sink_now : Option (List ℕ)) (left left_read number sent taken : ℕ) (line : List ℕ)
    → HasRun takes layout turns source source_now link link_now bricks bricks_now sink sink_now left number sent false false
    → Reads left left_read source_now source_then line taken → HasNoFeed line → left_read ≡ 0 → length line ≡ taken * turn_bytes
    → Hosts takes layout turns source source_then link link_now bricks bricks_now sink sink_now
Hosts-out takes layout turns source source_now source_then link link_now bricks bricks_now sink sink_now left left_read number sent taken line h read none out full =
    Hosts-over takes layout turns source source_now source_then link link_now bricks bricks_now sink sink_now left number sent taken line false false h
    read.consumes none read.turns_of (λ e. let never : false ≡ true = e in absurd cc) (λ e. let never : false ≡ true = e in absurd cc)
    (inr (omega (arith, read.counted, out), full))

-- nothing more was read that is run
pub Hosts-none : {A : Type 0} (takes : A → A → Type 0) (layout : Layout) (turns : ℕ) (source source_now source_then : Option (List ℕ)) (link link_now : Told)
    (bricks bricks_now : A) (sink sink_now : Option (List ℕ)) (left left_read number sent taken : ℕ) (line : List ℕ)
    → HasRun takes layout turns source source_now link link_now bricks bricks_now sink sink_now left number sent false false
    → Reads left left_read source_now source_then line taken → Gives left_read source_then line taken None
    → Hosts takes layout turns source source_then link link_now bricks bricks_now sink sink_now
Hosts-none takes layout turns source source_now source_then link link_now bricks bricks_now sink sink_now left left_read number sent taken line h read gives =
    elim gives [
      | inl ended ↦ Hosts-ended takes layout turns source source_now source_then link link_now bricks bricks_now sink sink_now left left_read number sent taken line h read ended.0 ended.1
      | inr out ↦ Hosts-out takes layout turns source source_now source_then link link_now bricks bricks_now sink sink_now left left_read number sent taken line h read out.0 out.1 out.2
    ]
