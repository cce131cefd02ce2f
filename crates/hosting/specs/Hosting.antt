-- What the lines of a source do to the bricks of a layout and to their client.
use Rattle.std.specs.Prelude.{◌≡◌, ◌⊎◌, ◌≤◌, ℕ, ◌+◌, ◌-◌, ◌*◌, Bool, true, false, not, List, [], ◌∷◌, ◌++◌, length, Option, Some, None}
use Rattle.std.specs.List.{list_any}
use Rattle.std.specs.Io.KnownBytes.{Appends, Consumes, IsAtEnd}
use Rattle.fab_base.specs.Layouts.{Layout}
use Rattle.fab_io.specs.declared.links.Datagram.{Datagram}
use Rattle.fab_io.specs.Datagrams.{Grows}
use Rattle.fab_io.specs.Ends.{AppendsFront}
use Rattle.front.specs.Ranges.{next_of}
use Rattle.front.specs.declared.steps.RangeAnswer.{RangeAnswer}
use Rattle.front.specs.declared.steps.RangeStep.{RangeStep}
use Rattle.front.specs.declared.steps.RangeStep.TheVariants as step
use Rattle.lines.specs.Lines.{is_line_feed, content}
use Rattle.hosting.specs.declared.commands.Access.{Access}
use Rattle.hosting.specs.declared.commands.Access.TheVariants.{Read, Write}
use Rattle.hosting.specs.declared.commands.Command.{Command}
use Rattle.hosting.specs.declared.commands.Line.{Line}
use Rattle.hosting.specs.declared.commands.Line.TheVariants.{Nothing, Run}
use Rattle.hosting.specs.declared.faults.HostFault.{HostFault}
use Rattle.hosting.specs.Answers.{answer_text, unanswered_text, bad_line_text}
use Rattle.hosting.specs.Commands.{line_of}
use Rattle.hosting.specs.Commanded.{opened, asking, asks_by}
use Rattle.hosting.specs.Faults.{AtSource}
use Rattle.serving.specs.Datagrams.{GrowsFront, Looked}
use Rattle.hosting.specs.Rounds.{Heard, AreHeard, AreStopped, after_rounds, asks_in, came_in, Took, Told, port_of}
use Rattle.hosting.specs.Reading.{turn_bytes, AreTurnsOf, HasNoFeed, IsWhole, IsFront, IsLastLine}

-- ---- lines

-- a line: its bytes, the turns that were taken for reading them, and the rounds of its command
pub record Played : Type 0 where
  pub line : List ℕ
  pub taken : ℕ
  pub rounds : List Heard

-- a run of lines: how many turns are left, how many lines were run, how many datagrams the client sent, and which; the text of the answers;
-- and whether it goes on: the last line has a line feed, and no command waits
pub record Progression : Type 0 where
  pub left : ℕ
  pub lines : ℕ
  pub sent : ℕ
  pub asks : List Datagram
  pub text : List ℕ
  pub over : Bool
  pub waits : Bool

-- one with so many turns that begins
abbrev pub beginning : ℕ → Progression
beginning turns = record { left = turns; lines = 0; sent = 0; asks = []; text = []; over = false; waits = false }

-- ---- what a line comes to

-- what a line comes to: how many datagrams the client has sent then, those of this line, the line's text, and whether its command waits
pub record Outcome : Type 0 where
  pub sent : ℕ
  pub asks : List Datagram
  pub text : List ℕ
  pub waits : Bool

abbrev pub reads : Access → Bool
reads (Read count) = true
reads (Write bytes) = false

-- the text of a command: its answer; or, where the turns ended before, that there is none
abbrev pub text_of : Bool → RangeStep → List ℕ
text_of reading (step.Ask ask) = unanswered_text
text_of reading (step.End answer) = answer_text reading answer

-- the same, by the answer, if there is one
abbrev pub printed : Bool → Option RangeAnswer → List ℕ
printed reading None = unanswered_text
printed reading (Some answer) = answer_text reading answer

abbrev pub is_none : Option RangeAnswer → Bool
is_none None = true
is_none (Some answer) = false

abbrev pub is_waiting : RangeStep → Bool
is_waiting (step.Ask ask) = true
is_waiting (step.End answer) = false

abbrev pub command_outcome : Layout → ℕ → Command → List Heard → Outcome
command_outcome layout sent command rounds =
    let range = opened layout command in
    let last = after_rounds (asking sent range) rounds in
    record {
      sent = last.sent;
      asks = asks_by (port_of layout command.brick) sent (next_of range) ++ asks_in (port_of layout command.brick) (asking sent range) rounds;
      text = text_of (reads command.access) (next_of last.range);
      waits = is_waiting (next_of last.range);
    }

-- a line of this number, after so many datagrams: one that is none of the forms is answered so, and one that says nothing is not
abbrev pub outcome_of : Layout → ℕ → ℕ → List Heard → Option Line → Outcome
outcome_of layout number sent rounds None = record { sent = sent; asks = []; text = bad_line_text number; waits = false }
outcome_of layout number sent rounds (Some Nothing) = record { sent = sent; asks = []; text = []; waits = false }
outcome_of layout number sent rounds (Some (Run command)) = command_outcome layout sent command rounds

-- a command has rounds until it is answered, and no other line has any
abbrev pub HasRounds : Layout → ℕ → List Heard → Option Line → Type 0
HasRounds layout sent rounds None = rounds ≡ []
HasRounds layout sent rounds (Some Nothing) = rounds ≡ []
HasRounds layout sent rounds (Some (Run command)) = AreHeard (port_of layout command.brick) (asking sent (opened layout command)) rounds

-- what is left behind one more line
abbrev pub after_line : Layout → Progression → Played → Progression
after_line layout before played =
    let outcome = outcome_of layout (before.lines + 1) before.sent played.rounds (line_of (content played.line)) in
    record {
      left = before.left - (played.taken + length played.rounds);
      lines = before.lines + 1;
      sent = outcome.sent;
      asks = before.asks ++ outcome.asks;
      text = before.text ++ outcome.text;
      over = not (list_any is_line_feed played.line);
      waits = outcome.waits;
    }

-- one more line is run: the source was not at its end and no command waited, the line is whole or the last one, and the turns were left
pub record IsPlayed (layout : Layout) (before : Progression) (played : Played) : Type 0 where
  pub goes_on : before.over ≡ false
  pub answered : before.waits ≡ false
  pub line_is : IsWhole played.line ⊎ (HasNoFeed played.line × (1 ≤ length played.line))
  pub turns : AreTurnsOf (length played.line) played.taken
  pub within : played.taken + length played.rounds ≤ before.left
  pub rounds : HasRounds layout before.sent played.rounds (line_of (content played.line))

abbrev pub after_lines : Layout → Progression → List Played → Progression
after_lines layout before [] = before
after_lines layout before (played ∷ more) = after_lines layout (after_line layout before played) more

abbrev pub ArePlayed : Layout → Progression → List Played → Type 0
ArePlayed layout before [] = Unit {0}
ArePlayed layout before (played ∷ more) = IsPlayed layout before played × ArePlayed layout (after_line layout before played) more

-- the bytes of lines, and what the looks at the client's link gave in their rounds
abbrev pub bytes_of : List Played → List ℕ
bytes_of [] = []
bytes_of (played ∷ more) = played.line ++ bytes_of more

abbrev pub rounds_of : List Played → List Heard
rounds_of [] = []
rounds_of (played ∷ more) = played.rounds ++ rounds_of more

-- A line of this number was run, after so many datagrams: its command took rounds while turns were left, the client asked for what the line
-- asks, its text was printed, and its command waits or not. It waits only where no turn is left.
pub record RunsLine {A : Type 0} (takes : A → A → Type 0) (layout : Layout) (number sent sent_after turns turns_after : ℕ) (link link_after : Told)
    (bricks bricks_after : A) (sink sink_after : Option (List ℕ)) (line : Option Line) (waits : Bool) : Type 0 where
  pub rounds : List Heard
  pub has : HasRounds layout sent rounds line
  pub counted : turns ≡ turns_after + length rounds
  pub sent_is : sent_after ≡ (outcome_of layout number sent rounds line).sent
  pub asked : Grows link.sent link_after.sent (outcome_of layout number sent rounds line).asks
  pub looked : Looked link.waiting link_after.waiting (came_in rounds)
  pub took : Took takes rounds bricks bricks_after
  pub printed : Appends sink sink_after (outcome_of layout number sent rounds line).text
  pub waits_is : waits ≡ (outcome_of layout number sent rounds line).waits
  pub used : waits ≡ true → turns_after ≡ 0

-- A line of this number was stopped by this fault, after so many datagrams: its command had these rounds, no more than turns were left, and there may
-- have been one more look. The client asked for a front of what the line asks, and the sink took a front of its text.
pub record StopsLine {A : Type 0} (takes : A → A → Type 0) (stops : A → A → HostFault → Type 0) (layout : Layout) (number sent turns : ℕ)
    (link link_after : Told) (bricks bricks_after : A) (sink sink_after : Option (List ℕ)) (line : Option Line) (fault : HostFault) : Type 0 where
  pub rounds : List Heard
  pub lost : List (Option Datagram)
  pub mid : A
  pub has : HasRounds layout sent rounds line
  pub within : length rounds ≤ turns
  pub one_look : length lost ≤ 1
  pub looked : Looked link.waiting link_after.waiting (came_in rounds ++ lost)
  pub asked : GrowsFront link.sent link_after.sent (outcome_of layout number sent rounds line).asks
  pub took : Took takes rounds bricks mid
  pub stopped : AreStopped takes stops mid bricks_after fault
  pub printed : AppendsFront sink sink_after (outcome_of layout number sent rounds line).text

-- As a line was read the source failed, or no memory was left. All that was read is of that line, and nothing was done of it.
pub record StopsReading {A : Type 0} (begun : List ℕ) (link link_after : Told) (bricks bricks_after : A) (sink sink_after : Option (List ℕ))
    (fault : HostFault) : Type 0 where
  pub front : IsFront begun
  pub at : AtSource fault
  pub link_is : link_after ≡ link
  pub bricks_are : bricks_after ≡ bricks
  pub sink_is : sink_after ≡ sink

-- The run is over: the source is at its end, and so it is behind a line that lacks its line feed; or what was read of the next line used the turns up,
-- and no byte more came without one. A command waits only where no turn is left.
pub record IsOver (run : Progression) (told_after : Option (List ℕ)) (rest : List ℕ) (rest_turns : ℕ) : Type 0 where
  pub used : run.waits ≡ true → run.left ≡ 0
  pub last : run.over ≡ true → (rest ≡ []) × IsAtEnd told_after
  pub over : ((rest ≡ []) × IsAtEnd told_after) ⊎ ((run.left ≡ rest_turns) × (length rest ≡ rest_turns * turn_bytes))

-- The lines of a source were run, over bricks and the client's link, by so many turns: these lines, and what was read of one that the turns
-- were not enough for. Each brick took a turn in each round, the client sent the datagrams that it asks by and looked at its link once a
-- round, and the sink took the text.
pub record Hosts {A : Type 0} (takes : A → A → Type 0) (layout : Layout) (turns : ℕ) (source source_after : Option (List ℕ)) (link link_after : Told)
    (bricks bricks_after : A) (sink sink_after : Option (List ℕ)) : Type 0 where
  pub played : List Played
  pub rest : List ℕ
  pub rest_turns : ℕ
  pub are : ArePlayed layout (beginning turns) played
  pub rest_is : HasNoFeed rest × AreTurnsOf (length rest) rest_turns
  pub consumed : Consumes source source_after (bytes_of played ++ rest)
  pub over : IsOver (after_lines layout (beginning turns) played) source_after rest rest_turns
  pub looked : Looked link.waiting link_after.waiting (came_in (rounds_of played))
  pub asked : Grows link.sent link_after.sent (after_lines layout (beginning turns) played).asks
  pub took : Took takes (rounds_of played) bricks bricks_after
  pub printed : Appends sink sink_after (after_lines layout (beginning turns) played).text

-- The same until a fault: these lines were run, and this was read of the next one, within the turns that were left. It came as the line was read; or
-- the line was read whole, or is the last one, and was not run to its end.
pub record HostsUntil {A : Type 0} (takes : A → A → Type 0) (stops : A → A → HostFault → Type 0) (layout : Layout) (turns : ℕ)
    (source source_after : Option (List ℕ)) (link link_after : Told) (bricks bricks_after : A) (sink sink_after : Option (List ℕ)) (fault : HostFault) : Type 0 where
  pub played : List Played
  pub begun : List ℕ
  pub taken : ℕ
  pub link_then : Told
  pub bricks_then : A
  pub sink_then : Option (List ℕ)
  pub are : ArePlayed layout (beginning turns) played
  pub goes_on : (after_lines layout (beginning turns) played).over ≡ false
  pub answered : (after_lines layout (beginning turns) played).waits ≡ false
  pub turns_of : AreTurnsOf (length begun) taken
  pub within : taken ≤ (after_lines layout (beginning turns) played).left
  pub consumed : Consumes source source_after (bytes_of played ++ begun)
  pub looked : Looked link.waiting link_then.waiting (came_in (rounds_of played))
  pub asked : Grows link.sent link_then.sent (after_lines layout (beginning turns) played).asks
  pub took : Took takes (rounds_of played) bricks bricks_then
  pub printed : Appends sink sink_then (after_lines layout (beginning turns) played).text
  pub stopped : StopsReading begun link_then link_after bricks_then bricks_after sink_then sink_after fault
      ⊎ ((IsWhole begun ⊎ IsLastLine source_after begun)
      × (let run = after_lines layout (beginning turns) played in
      StopsLine takes stops layout (run.lines + 1) run.sent (run.left - taken) link_then link_after bricks_then bricks_after sink_then sink_after
      (line_of (content begun)) fault))
