-- The rounds of a command: in each, every brick takes a turn, and then the client looks at its link.
use Rattle.std.specs.Prelude.{◌≡◌, ◌⊎◌, ◌≤◌, ℕ, ◌+◌, nat_lt, if◌then◌else◌, List, [], ◌∷◌, ◌++◌, length, map, Option, Some, None, Result, IfErr}
use Rattle.fab_base.specs.declared.answers.Answer.{Answer}
use Rattle.fab_base.specs.declared.answers.Refusal.{Refusal}
use Rattle.fab_base.specs.declared.asks.Ask.{Ask}
use Rattle.fab_base.specs.Layouts.{Layout}
use Rattle.fab_io.specs.declared.links.Datagram.{Datagram}
use Rattle.fab_io.specs.Datagrams.{Grows}
use Rattle.front.specs.Ranges.{Progress, next_of}
use Rattle.front.specs.declared.steps.RangeAnswer.{RangeAnswer}
use Rattle.front.specs.declared.steps.RangeStep.TheVariants as step
use Rattle.hosting.specs.Asks.{wanted_in, Hears}
use Rattle.hosting.specs.declared.faults.HostFault.{HostFault}
use Rattle.hosting.specs.Commanded.{Asking, asking, asks_by, after_round, asks_after}
use Rattle.hosting.specs.Faults.{IsOther}
use Rattle.serving.specs.Datagrams.{GrowsFront, Looked}

-- what the look at the client's link gave in a round, and how the operation ended that the client waits for, if it did
pub record Heard : Type 0 where
  pub came : Option Datagram
  pub end : Option (Result Answer Refusal)

-- the client waits for the end of an operation
abbrev pub IsOpen : Progress → Type 0
IsOpen range = (ask : Ask) × (next_of range ≡ step.Ask ask)

-- in each round of a command the client waits for the reply to its last datagram, and hears it or not
abbrev pub AreHeard : ℕ → Asking → List Heard → Type 0
AreHeard port before [] = Unit {0}
AreHeard port before (heard ∷ more) =
    (IsOpen before.range × Hears port before.sent (wanted_in before.range) heard.came heard.end)
    × AreHeard port (after_round before heard.end) more

-- where the client stands after some rounds, and what it asked in them
abbrev pub after_rounds : Asking → List Heard → Asking
after_rounds before [] = before
after_rounds before (heard ∷ more) = after_rounds (after_round before heard.end) more

abbrev pub asks_in : ℕ → Asking → List Heard → List Datagram
asks_in port before [] = []
asks_in port before (heard ∷ more) = asks_after port before heard.end ++ asks_in port (after_round before heard.end) more

-- what the looks at the client's link gave
abbrev pub came_in : List Heard → List (Option Datagram)
came_in rounds = map (λ heard. heard.came) rounds

-- the bricks took their turns in each round, one round after another
abbrev pub Took : {A : Type 0} → (A → A → Type 0) → List Heard → A → A → Type 0
Took takes [] before after = after ≡ before
Took takes (round ∷ more) before after = (mid : _) × takes before mid × Took takes more mid after

-- The bricks were stopped in their turns by this fault; or it is none of theirs, and they took the turns of one more round, or none.
abbrev pub AreStopped : {A : Type 0} → (A → A → Type 0) → (A → A → HostFault → Type 0) → A → A → HostFault → Type 0
AreStopped takes stops before after fault = stops before after fault ⊎ (IsOther fault × ((after ≡ before) ⊎ takes before after))

-- what a run does to bricks: sound ones stay sound, and none of their faults but want of memory ends it
pub record KeepsBricks {A T : Type 0} (sound : A → Type 0) (before after : A) (result : Result T HostFault) : Type 0 where
  pub stays : sound before → sound after
  pub never : sound before → IfErr result IsOther

-- what a client's link tells, where it does: the datagrams that wait, and those that were sent
pub record Told : Type 0 where
  pub waiting : Option (List Datagram)
  pub sent : Option (List Datagram)

abbrev pub told : Option (List Datagram) → Option (List Datagram) → Told
told waiting sent = record { waiting = waiting; sent = sent }

-- A round of the client: it waits for the end of an operation, and hears it or not; where it does, it asks for the next one.
pub record HearsOnce (port : ℕ) (before after : Asking) (link link_after : Told) (heard : Heard) : Type 0 where
  pub waits : IsOpen before.range
  pub hears : Hears port before.sent (wanted_in before.range) heard.came heard.end
  pub looked : Looked link.waiting link_after.waiting (heard.came ∷ [])
  pub left : after ≡ after_round before heard.end
  pub asked : Grows link.sent link_after.sent (asks_after port before heard.end)

-- rounds of the client
pub record HearsAll (port : ℕ) (before after : Asking) (link link_after : Told) (rounds : List Heard) : Type 0 where
  pub heard : AreHeard port before rounds
  pub looked : Looked link.waiting link_after.waiting (came_in rounds)
  pub left : after ≡ after_rounds before rounds
  pub asked : Grows link.sent link_after.sent (asks_in port before rounds)

-- the port of the brick of a command, if there is such a brick
abbrev pub port_of : Layout → ℕ → ℕ
port_of layout brick = if nat_lt brick layout.bricks then layout.port + brick else 0

-- so a range ended: with this answer; or no turn was left, and it waits
abbrev pub EndsAs : Progress → ℕ → Option RangeAnswer → Type 0
EndsAs range turns (Some answer) = next_of range ≡ step.End answer
EndsAs range turns None = IsOpen range × (turns ≡ 0)

-- A range was run at the brick of a port: its client asked for its operations, one after another, in rounds while turns were left.
pub record RunsRange (port : ℕ) (range : Progress) (sent sent_after turns turns_after : ℕ) (link link_after : Told)
    (rounds : List Heard) (answer : Option RangeAnswer) : Type 0 where
  pub heard : AreHeard port (asking sent range) rounds
  pub counted : turns ≡ turns_after + length rounds
  pub looked : Looked link.waiting link_after.waiting (came_in rounds)
  pub asked : Grows link.sent link_after.sent (asks_by port sent (next_of range) ++ asks_in port (asking sent range) rounds)
  pub sent_is : sent_after ≡ (after_rounds (asking sent range) rounds).sent
  pub ends : EndsAs (after_rounds (asking sent range) rounds).range turns_after answer

-- It was stopped by this fault: it had these rounds, no more than turns were left, and there may have been one more look. Of the datagrams that its
-- client asks by a front was sent, and the bricks took their turns in each of the rounds.
pub record StopsRange {A : Type 0} (takes : A → A → Type 0) (stops : A → A → HostFault → Type 0) (port : ℕ) (range : Progress) (sent turns : ℕ)
    (link link_after : Told) (bricks bricks_after : A) (fault : HostFault) : Type 0 where
  pub rounds : List Heard
  pub lost : List (Option Datagram)
  pub mid : A
  pub heard : AreHeard port (asking sent range) rounds
  pub within : length rounds ≤ turns
  pub one_look : length lost ≤ 1
  pub looked : Looked link.waiting link_after.waiting (came_in rounds ++ lost)
  pub asked : GrowsFront link.sent link_after.sent (asks_by port sent (next_of range) ++ asks_in port (asking sent range) rounds)
  pub took : Took takes rounds bricks mid
  pub stopped : AreStopped takes stops mid bricks_after fault
