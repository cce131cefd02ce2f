-- What a serving brick did over a link and a clock: its turns, and how they ended.
use Rattle.std.specs.Prelude.{◌≡◌, ◌⊎◌, ◌≤◌, ◌<◌, ℕ, List, [], ◌∷◌, ◌++◌, length, Option, Result, Ok, Err}
use Rattle.fab_base.specs.declared.identities.BrickId.{BrickId}
use Rattle.fab_io.specs.declared.links.Datagram.{Datagram}
use Rattle.fab_io.specs.Datagrams.{Stays, Grows}
use Rattle.fab_io.specs.Moments.{Passes}
use Rattle.protocol.specs.Nodes as machine
use Rattle.protocol.specs.Settings.{Setting}
use Rattle.serving.specs.declared.faults.ServeFault.{ServeFault}
use Rattle.serving.specs.declared.faults.ServeFault.TheVariants.{Disk, Halted, Link, Clock, NoMemory}
use Rattle.serving.specs.Datagrams.{datagrams_of, GrowsFront, Looked}
use Rattle.serving.specs.Servings.{Serving, Served, begun}
use Rattle.serving.specs.Turns.{Turn, AreRead, after_turns, sends_of, came_in, moments_of, malformed_count, malformed_in}

-- what a link and a clock tell, where they do: the datagrams that wait, those that were sent, and the moments to come
pub record Outside : Type 0 where
  pub waiting : Option (List Datagram)
  pub sent : Option (List Datagram)
  pub coming : Option (ℕ → ℕ)

abbrev pub outside : Option (List Datagram) → Option (List Datagram) → Option (ℕ → ℕ) → Outside
outside waiting sent coming = record { waiting = waiting; sent = sent; coming = coming }

-- ---- what is done with what came

-- nothing was done
abbrev pub IsLeft : Serving → Serving → Option (List Datagram) → Option (List Datagram) → Type 0
IsLeft before after sent sent_after = (after ≡ before) × Stays sent sent_after

-- it was done, and some of its datagrams were sent, from the front
abbrev pub IsBegun : Serving → Option (List Datagram) → Option (List Datagram) → Served → Type 0
IsBegun after sent sent_after does = (after ≡ does.serving) × GrowsFront sent sent_after (datagrams_of does.sends)

-- It was done whole. Where the disk failed nothing was; where the link failed, it was a sending that did.
abbrev pub Does : {T : Type 0} → Serving → Serving → Option (List Datagram) → Option (List Datagram) → Served → Result T ServeFault → Type 0
Does before after sent sent_after does (Ok done) = (after ≡ does.serving) × Grows sent sent_after (datagrams_of does.sends)
Does before after sent sent_after does (Err Disk) = IsLeft before after sent sent_after
Does before after sent sent_after does (Err Link) = IsBegun after sent sent_after does
Does before after sent sent_after does (Err NoMemory) = IsLeft before after sent sent_after ⊎ IsBegun after sent sent_after does
Does before after sent sent_after does (Err other) = ⊥

-- ---- turns

-- from this serving brick to that one through these turns
pub record RunsTurns (setting : Setting) (me : BrickId) (from to : Serving) (before after : Outside) (turns : List Turn) : Type 0 where
  pub read : AreRead setting me turns
  pub looked : Looked before.waiting after.waiting (came_in turns)
  pub moments : Passes before.coming after.coming (moments_of turns)
  pub left : to ≡ after_turns setting me from turns
  pub sent : Grows before.sent after.sent (datagrams_of (sends_of setting me from turns))

-- Through these turns, and then into one of which nothing was done: there may have been a look, and a reading of the clock.
pub record StopsBefore (setting : Setting) (me : BrickId) (from to : Serving) (before after : Outside) (turns : List Turn) : Type 0 where
  pub lost : List (Option Datagram)
  pub unused : List ℕ
  pub one_look : length lost ≤ 1
  pub one_moment : length unused ≤ length lost
  pub read : AreRead setting me turns
  pub looked : Looked before.waiting after.waiting (came_in turns ++ lost)
  pub moments : Passes before.coming after.coming (moments_of turns ++ unused)
  pub left : to ≡ after_turns setting me from turns
  pub sent : Grows before.sent after.sent (datagrams_of (sends_of setting me from turns))

-- Through these turns, and then through one of whose datagrams only some were sent, from the front.
pub record StopsSending (setting : Setting) (me : BrickId) (from to : Serving) (before after : Outside) (turns : List Turn) : Type 0 where
  pub last : Turn
  pub front : List Datagram
  pub rest : List Datagram
  pub read : AreRead setting me (turns ++ (last ∷ []))
  pub looked : Looked before.waiting after.waiting (came_in (turns ++ (last ∷ [])))
  pub moments : Passes before.coming after.coming (moments_of (turns ++ (last ∷ [])))
  pub left : to ≡ after_turns setting me from (turns ++ (last ∷ []))
  pub parts : datagrams_of (sends_of setting me from (turns ++ (last ∷ []))) ≡ datagrams_of (sends_of setting me from turns) ++ (front ++ rest)
  pub sent : Grows before.sent after.sent (datagrams_of (sends_of setting me from turns) ++ front)

-- how a turn, or turns, were stopped: by a fault of the disk or the clock before anything was done, and by one of the link, or for want of memory,
-- then or as its datagrams were sent
abbrev pub Stops : Setting → BrickId → Serving → Serving → Outside → Outside → List Turn → ServeFault → Type 0
Stops setting me from to before after turns Disk = StopsBefore setting me from to before after turns
Stops setting me from to before after turns Clock = StopsBefore setting me from to before after turns
Stops setting me from to before after turns Link =
    StopsBefore setting me from to before after turns ⊎ StopsSending setting me from to before after turns
Stops setting me from to before after turns NoMemory =
    StopsBefore setting me from to before after turns ⊎ StopsSending setting me from to before after turns
Stops setting me from to before after turns Halted = ⊥

-- a turn was taken, in which so many datagrams came that are no message; or it was stopped
abbrev pub TakesTurn : Setting → BrickId → Serving → Serving → Outside → Outside → Result ℕ ServeFault → Type 0
TakesTurn setting me from to before after (Ok malformed) =
    (turn : Turn) × RunsTurns setting me from to before after (turn ∷ []) × (malformed ≡ malformed_count turn.incoming)
TakesTurn setting me from to before after (Err fault) = Stops setting me from to before after [] fault

-- No memory was left before the first turn, and nothing was done.
pub record IsUnbegun (from to : Serving) (before after : Outside) (fault : ServeFault) : Type 0 where
  pub no_memory : fault ≡ NoMemory
  pub left : to ≡ from
  pub untouched : after ≡ before

-- All the turns were taken, and so many datagrams came that are no message; or they were stopped at one of them; or none was begun.
abbrev pub Serves : Setting → BrickId → Serving → Serving → Outside → Outside → ℕ → Result ℕ ServeFault → Type 0
Serves setting me from to before after count (Ok malformed) =
    (turns : List Turn) × (length turns ≡ count) × RunsTurns setting me from to before after turns × (malformed ≡ malformed_in turns)
Serves setting me from to before after count (Err fault) =
    IsUnbegun from to before after fault ⊎ ((turns : List Turn) × (length turns < count) × Stops setting me from to before after turns fault)

-- A brick that is not halted served, from this state of the machine's brick to that.
pub record IsServed (setting : Setting) (me : BrickId) (node node_after : machine.Node) (before after : Outside) (count : ℕ)
    (result : Result ℕ ServeFault) : Type 0 where
  pub to : Serving
  pub node_is : node_after ≡ to.node
  pub serves : Serves setting me (begun node) to before after count result
