-- What a run does to bricks, and what was done where it was stopped.
use Rattle.std.proofs.Common.{◌≡◌, ◌⊎◌, ◌≤◌, ℕ, ◌+◌, ◌-◌, false, List, [], ◌++◌, length, take, Option, Some, None, Result, Ok, Err, IsOk, IfErr, refl, sym, ap, ◌∙◌, subst, append-nil, inl, inr, arith}
use Rattle.std.proofs.KnownBytes.{Consumes-trans, Keeps-refl}
use Rattle.fab_base.specs.Layouts.{Layout}
use Rattle.fab_io.specs.declared.links.Datagram.{Datagram}
use Rattle.fab_io.specs.Datagrams.{Stays}
use Rattle.fab_io.specs.Ends.{AppendsFront, WriteTakes}
use Rattle.fab_io.proofs.Content.{AppendsFront-none}
use Rattle.fab_io.proofs.Told.{Stays-refl}
use Rattle.front.specs.Ranges.{Progress, next_of}
use Rattle.front.specs.declared.steps.RangeAnswer.{RangeAnswer}
use Rattle.lines.specs.Lines.{content}
use Rattle.serving.specs.Datagrams.{Looked}
use Rattle.serving.proofs.Carried.{GrowsFront-none}
use Rattle.serving.proofs.Looks.{Grows-quiet, Looked-none, Looked-trans}
use Rattle.hosting.specs.declared.commands.Command.{Command}
use Rattle.hosting.specs.declared.commands.Line.{Line}
use Rattle.hosting.specs.declared.commands.Line.TheVariants.{Nothing, Run}
use Rattle.hosting.specs.declared.faults.HostFault.{HostFault}
use Rattle.hosting.specs.declared.faults.HostFault.TheVariants.{ClientLink, Source, Sink, NoMemory}
use Rattle.hosting.specs.Answers.{bad_line_text}
use Rattle.hosting.specs.Commands.{line_of}
use Rattle.hosting.specs.Commanded.{Asking, opened, asking, asks_by}
use Rattle.hosting.specs.Faults.{AtClientLink, AtSource, AtSink, IsOther}
use Rattle.hosting.specs.Hosting.{Progression, beginning, reads, printed, outcome_of, HasRounds, after_lines, bytes_of, StopsLine, HostsUntil}
use Rattle.hosting.specs.Reading.{most_kept, IsWhole, IsFront, IsLastLine, Reads}
use Rattle.hosting.specs.Rounds.{Heard, after_rounds, asks_in, came_in, Told, port_of, RunsRange, Took, AreStopped, KeepsBricks, StopsRange}
use Rattle.hosting.proofs.Hearing.{IsRunning}
use Rattle.hosting.proofs.Running.{HasRun, line_of-kept, text_is}

-- which faults are none of the bricks'
pub link-other : (fault : HostFault) → AtClientLink fault → IsOther fault
link-other ClientLink at = tt
link-other NoMemory at = tt
link-other fault at = absurd at

pub source-other : (fault : HostFault) → AtSource fault → IsOther fault
source-other Source at = tt
source-other NoMemory at = tt
source-other fault at = absurd at

pub sink-other : (fault : HostFault) → AtSink fault → IsOther fault
sink-other Sink at = tt
sink-other NoMemory at = tt
sink-other fault at = absurd at

pub sink_others : {T : Type 0} (r : Result T HostFault) → IfErr r AtSink → IfErr r IsOther
sink_others (Ok x) at = tt
sink_others (Err fault) at = sink-other fault at

-- what holds at each fault of a result
pub if_err : {T : Type 0} {P : HostFault → Type 0} (r : Result T HostFault) → ((met : HostFault) → r ≡ Err met → P met) → IfErr r P
if_err (Ok x) h = tt
if_err (Err fault) h = h fault refl

pub at_met : {T : Type 0} (r : Result T HostFault) (met : HostFault) (P : HostFault → Type 0) → r ≡ Err met → IfErr r P → P met
at_met {T} r met P is h = let at : IfErr (let s : Result T HostFault = Err met in s) P = subst (λ (s : Result T HostFault). IfErr s P) is h in at

-- what was written before a fault
pub written_front : {T : Type 0} (old new : Option (List ℕ)) (text : List ℕ) (r : Result T HostFault) (met : HostFault) → r ≡ Err met
    → WriteTakes old new r text → AppendsFront old new text
written_front {T} old new text r met is h =
    let at : WriteTakes old new (let s : Result T HostFault = Err met in s) text = subst (λ (s : Result T HostFault). WriteTakes old new s text) is h in at

-- what holds at a fault that was met holds at the exit that answers it
pub at_exit : {T E : Type 0} (r : Result T E) (met : E) (P : Result T E → Type 0) (y : E) → r ≡ Err y → y ≡ met → P (Err met) → P r
at_exit {T} {E} r met P y is same p = subst P (sym (is ∙ ap (λ (e : E). Err e) same)) p

-- ---- sound bricks

module _ {A : Type 0} (sound : A → Type 0) where
  -- they stay sound, and the fault is none of theirs
  pub Keeps : {T : Type 0} (before after : A) (r : Result T HostFault) → (sound before → sound after) → IfErr r IsOther → KeepsBricks sound before after r
  Keeps before after r stays other = record { stays = stays; never = λ s. other }

  -- after other calls
  pub Keeps-later : {T : Type 0} (before mid after : A) (r : Result T HostFault) → (sound before → sound mid) → KeepsBricks sound mid after r
      → KeepsBricks sound before after r
  Keeps-later before mid after r stays keeps = record { stays = λ s. keeps.stays (stays s); never = λ s. keeps.never (stays s) }

  -- in place of another result
  pub Keeps-moved : {T U : Type 0} (before after : A) (fault : HostFault) → KeepsBricks sound before after (let r : Result T HostFault = Err fault in r)
      → KeepsBricks sound before after (let r : Result U HostFault = Err fault in r)
  Keeps-moved before after fault keeps = record { stays = keeps.stays; never = keeps.never }

  -- they were stopped, and they are not sound unless no memory was left
  pub Keeps-stop : {T : Type 0} (before after : A) (fault : HostFault) → (sound before → sound after) → (sound before → fault ≡ NoMemory)
      → KeepsBricks sound before after (let r : Result T HostFault = Err fault in r)
  Keeps-stop before after fault stays never = record { stays = stays; never = λ s. subst IsOther (sym (never s)) tt }

-- a run that nothing failed comes to its end, or no memory was left
pub sound_end : {T : Type 0} (r : Result T HostFault) → IfErr r IsOther → (r ≡ Err ClientLink → ⊥) → (r ≡ Err Source → ⊥) → (r ≡ Err Sink → ⊥)
    → IsOk r ⊎ (r ≡ Err NoMemory)
sound_end (Ok x) other link source sink = inl refl
sound_end (Err ClientLink) other link source sink = absurd (link refl)
sound_end (Err Source) other link source sink = absurd (source refl)
sound_end (Err Sink) other link source sink = absurd (sink refl)
sound_end (Err NoMemory) other link source sink = inr refl
sound_end (Err fault) other link source sink = absurd other

module _ {A : Type 0} (takes : A → A → Type 0) (stops : A → A → HostFault → Type 0) where
  -- ---- a range that is stopped

  -- before its client asked for anything
  pub StopsRange-none : (port : ℕ) (first : Progress) (sent turns : ℕ) (link link_after : Told) (bricks : A) (fault : HostFault) → Stays link.waiting link_after.waiting
      → Stays link.sent link_after.sent → IsOther fault → StopsRange takes stops port first sent turns link link_after bricks bricks fault
  StopsRange-none port first sent turns link link_after bricks fault waiting unsent other =
      record {
        rounds = [];
        lost = [];
        mid = bricks;
        heard = tt;
        within = omega arith;
        one_look = omega arith;
        looked = Looked-none link.waiting link_after.waiting waiting;
        asked = GrowsFront-none link.sent link_after.sent _ unsent;
        took = refl;
        stopped = inr (other, inl refl);
      }

  -- after some rounds
  pub StopsRange-later : (port : ℕ) (first : Progress) (sent turns turns_now : ℕ) (now : Asking) (link link_now link_after : Told) (bricks bricks_now bricks_after : A)
      (lost : List (Option Datagram)) (fault : HostFault) → IsRunning takes port first sent turns turns_now now link link_now bricks bricks_now
      → length lost ≤ 1 → Looked link_now.waiting link_after.waiting lost → Stays link_now.sent link_after.sent
      → AreStopped takes stops bricks_now bricks_after fault → StopsRange takes stops port first sent turns link link_after bricks bricks_after fault
  StopsRange-later port first sent turns turns_now now link link_now link_after bricks bricks_now bricks_after lost fault h few looked unsent stopped =
      let asks = asks_by port sent (next_of first)
      ++ asks_in port (asking sent first) h.rounds in
      record {
        rounds = h.rounds;
        lost = lost;
        mid = bricks_now;
        heard = h.heard;
        within = omega (arith, h.counted);
        one_look = few;
        looked = Looked-trans link.waiting link_now.waiting link_after.waiting (came_in h.rounds) lost h.looked looked;
        asked = record { front = asks; rest = []; parts = sym (append-nil asks); grows = Grows-quiet link.sent link_now.sent link_after.sent asks h.asked unsent };
        took = h.took;
        stopped = stopped;
      }

module _ {A : Type 0} (takes : A → A → Type 0) (stops : A → A → HostFault → Type 0) (layout : Layout) where
  -- ---- a line that is stopped

  -- no line needs a round
  HasRounds-none : (sent : ℕ) (line : Option Line) → HasRounds layout sent [] line
  HasRounds-none sent None = refl
  HasRounds-none sent (Some Nothing) = refl
  HasRounds-none sent (Some (Run command)) = tt

  -- before anything was done but writing, which took this
  StopsLine-written : (number sent turns : ℕ) (link : Told) (bricks : A) (sink sink_after : Option (List ℕ)) (line : Option Line) (fault : HostFault) → IsOther fault
      → AppendsFront sink sink_after (outcome_of layout number sent [] line).text
      → StopsLine takes stops layout number sent turns link link bricks bricks sink sink_after line fault
  StopsLine-written number sent turns link bricks sink sink_after line fault other text =
      record {
        rounds = [];
        lost = [];
        mid = bricks;
        has = HasRounds-none sent line;
        within = omega arith;
        one_look = omega arith;
        looked = Looked-none link.waiting link.waiting (Stays-refl link.waiting);
        asked = GrowsFront-none link.sent link.sent _ (Stays-refl link.sent);
        took = refl;
        stopped = inr (other, inl refl);
        printed = text;
      }

  pub StopsLine-none : (number sent turns : ℕ) (link : Told) (bricks : A) (sink : Option (List ℕ)) (line : Option Line) (fault : HostFault) → IsOther fault
      → StopsLine takes stops layout number sent turns link link bricks bricks sink sink line fault
  StopsLine-none number sent turns link bricks sink line fault other =
      StopsLine-written number sent turns link bricks sink sink line fault other (AppendsFront-none sink sink _ (Keeps-refl sink))

  -- as it was answered that it is no command
  pub StopsLine-bad : (number sent turns : ℕ) (link : Told) (bricks : A) (sink sink_after : Option (List ℕ)) (line : Option Line) (fault : HostFault) → line ≡ None
      → IsOther fault → AppendsFront sink sink_after (bad_line_text number)
      → StopsLine takes stops layout number sent turns link link bricks bricks sink sink_after line fault
  StopsLine-bad number sent turns link bricks sink sink_after line fault is other text =
      subst (λ (l : Option Line). StopsLine takes stops layout number sent turns link link bricks bricks sink sink_after l fault) (sym is)
      (StopsLine-written number sent turns link bricks sink sink_after None fault other text)

  -- as its command was run
  pub StopsLine-command : (command : Command) (number sent turns : ℕ) (link link_after : Told) (bricks bricks_after : A) (sink : Option (List ℕ)) (line : Option Line)
      (fault : HostFault) → line ≡ Some (Run command) → StopsRange takes stops (port_of layout command.brick) (opened layout command) sent turns link link_after bricks bricks_after fault
      → StopsLine takes stops layout number sent turns link link_after bricks bricks_after sink sink line fault
  StopsLine-command command number sent turns link link_after bricks bricks_after sink line fault is stop =
      subst (λ (l : Option Line). StopsLine takes stops layout number sent turns link link_after bricks bricks_after sink sink l fault) (sym is)
      (record {
        rounds = stop.rounds;
        lost = stop.lost;
        mid = stop.mid;
        has = stop.heard;
        within = stop.within;
        one_look = stop.one_look;
        looked = stop.looked;
        asked = stop.asked;
        took = stop.took;
        stopped = stop.stopped;
        printed = AppendsFront-none sink sink _ (Keeps-refl sink);
      })

  -- as its answer was written
  pub StopsLine-answer : (command : Command) (number sent sent_after turns turns_after : ℕ) (link link_after : Told) (bricks bricks_after : A)
      (sink sink_after : Option (List ℕ)) (line : Option Line) (answer : Option RangeAnswer) (rounds : List Heard) (fault : HostFault)
      → line ≡ Some (Run command) → RunsRange (port_of layout command.brick) (opened layout command) sent sent_after turns turns_after link link_after rounds answer → Took takes rounds bricks bricks_after
      → IsOther fault → AppendsFront sink sink_after (printed (reads command.access) answer)
      → StopsLine takes stops layout number sent turns link link_after bricks bricks_after sink sink_after line fault
  StopsLine-answer command number sent sent_after turns turns_after link link_after bricks bricks_after sink sink_after line answer rounds fault is runs took other text =
      let last : Progress = (after_rounds (asking sent (opened layout command)) rounds).range in
      let asks = asks_by (port_of layout command.brick) sent (next_of (opened layout command))
      ++ asks_in (port_of layout command.brick) (asking sent (opened layout command)) rounds in
      subst (λ (l : Option Line). StopsLine takes stops layout number sent turns link link_after bricks bricks_after sink sink_after l fault) (sym is)
      (record {
        rounds = rounds;
        lost = [];
        mid = bricks_after;
        has = runs.heard;
        within = omega (arith, runs.counted);
        one_look = omega arith;
        looked = subst (Looked link.waiting link_after.waiting) (sym (append-nil (came_in rounds))) runs.looked;
        asked = record { front = asks; rest = []; parts = sym (append-nil asks); grows = runs.asked };
        took = took;
        stopped = inr (other, inl refl);
        printed = subst (AppendsFront sink sink_after) (text_is (reads command.access) last turns_after answer runs.ends) text;
      })

  -- ---- a run that is stopped

  -- in a line
  pub HostsUntil-line : (turns : ℕ) (source source_now source_then : Option (List ℕ)) (link link_now link_then : Told) (bricks bricks_now bricks_then : A)
      (sink sink_now sink_then : Option (List ℕ)) (left left_read number sent taken : ℕ) (line kept : List ℕ) (fault : HostFault)
      → HasRun takes layout turns source source_now link link_now bricks bricks_now sink sink_now left number sent false false
      → Reads left left_read source_now source_then line taken → kept ≡ take most_kept line → IsWhole line ⊎ IsLastLine source_then line
      → StopsLine takes stops layout (number + 1) sent left_read link_now link_then bricks_now bricks_then sink_now sink_then (line_of (content kept)) fault
      → HostsUntil takes stops layout turns source source_then link link_then bricks bricks_then sink sink_then fault
  HostsUntil-line turns source source_now source_then link link_now link_then bricks bricks_now bricks_then sink sink_now sink_then left left_read number sent taken line kept fault h read keeps line_is stop =
      let run : Progression = after_lines layout (beginning turns) h.played in
      let says : line_of (content kept) ≡ line_of (content line) = ap (λ (l : List ℕ). line_of (content l)) keeps ∙ line_of-kept line in
      let left_then : left_read ≡ run.left - taken = omega (arith, h.left_is, read.counted) in
      record {
        played = h.played;
        begun = line;
        taken = taken;
        link_then = link_now;
        bricks_then = bricks_now;
        sink_then = sink_now;
        are = h.are;
        goes_on = h.over_is;
        answered = h.waits_is;
        turns_of = read.turns_of;
        within = omega (arith, h.left_is, read.counted);
        consumed = Consumes-trans source source_now source_then (bytes_of h.played) line h.consumed read.consumes;
        looked = h.looked;
        asked = h.asked;
        took = h.took;
        printed = h.printed;
        stopped = inr (
          line_is,
          subst (λ (l : Option Line). StopsLine takes stops layout (run.lines + 1) run.sent (run.left - taken) link_now link_then bricks_now bricks_then sink_now sink_then l fault) says
              (subst (λ (n : ℕ). StopsLine takes stops layout (run.lines + 1) run.sent n link_now link_then bricks_now bricks_then sink_now sink_then (line_of (content kept)) fault) left_then
              (subst (λ (k : ℕ). StopsLine takes stops layout (run.lines + 1) k left_read link_now link_then bricks_now bricks_then sink_now sink_then (line_of (content kept)) fault) (sym h.sent_is)
              (subst (λ (k : ℕ). StopsLine takes stops layout (k + 1) sent left_read link_now link_then bricks_now bricks_then sink_now sink_then (line_of (content kept)) fault) (sym h.number_is) stop))),
        );
      }

  -- as a line was read
  pub HostsUntil-read : (turns : ℕ) (source source_now source_then : Option (List ℕ)) (link link_now : Told) (bricks bricks_now : A)
      (sink sink_now : Option (List ℕ)) (left left_read number sent taken : ℕ) (begun : List ℕ) (fault : HostFault)
      → HasRun takes layout turns source source_now link link_now bricks bricks_now sink sink_now left number sent false false
      → Reads left left_read source_now source_then begun taken → IsFront begun → AtSource fault
      → HostsUntil takes stops layout turns source source_then link link_now bricks bricks_now sink sink_now fault
  HostsUntil-read turns source source_now source_then link link_now bricks bricks_now sink sink_now left left_read number sent taken begun fault h read front at =
      record {
        played = h.played;
        begun = begun;
        taken = taken;
        link_then = link_now;
        bricks_then = bricks_now;
        sink_then = sink_now;
        are = h.are;
        goes_on = h.over_is;
        answered = h.waits_is;
        turns_of = read.turns_of;
        within = omega (arith, h.left_is, read.counted);
        consumed = Consumes-trans source source_now source_then (bytes_of h.played) begun h.consumed read.consumes;
        looked = h.looked;
        asked = h.asked;
        took = h.took;
        printed = h.printed;
        stopped = inl (record { front = front; at = at; link_is = refl; bricks_are = refl; sink_is = refl });
      }
