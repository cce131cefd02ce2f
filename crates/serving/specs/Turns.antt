-- The turns of a serving brick, one after another.
use Rattle.std.specs.Prelude.{◌≡◌, ℕ, ◌+◌, true, List, [], ◌∷◌, ◌++◌, map, Option}
use Rattle.std.specs.List.{list_all}
use Rattle.fab_base.specs.declared.identities.BrickId.{BrickId}
use Rattle.fab_io.specs.declared.links.Datagram.{Datagram}
use Rattle.messages.specs.declared.packets.Message.{Message}
use Rattle.protocol.specs.Settings.{Setting}
use Rattle.serving.specs.declared.incomings.Incoming.{Incoming}
use Rattle.serving.specs.declared.incomings.Incoming.TheVariants.{Malformed}
use Rattle.serving.specs.Datagrams.{can_send}
use Rattle.serving.specs.Incomings.{IsIncoming}
use Rattle.serving.specs.Ports.{ports_of}
use Rattle.serving.specs.Servings.{Serving, Served, served}

-- a turn: the datagram that came, if one did, what that is, and the moment that the clock gave
pub record Turn : Type 0 where
  pub came : Option Datagram
  pub incoming : Incoming
  pub now : ℕ

-- what came in each turn is what its bytes say
abbrev pub AreRead : Setting → BrickId → List Turn → Type 0
AreRead setting me [] = Unit {0}
AreRead setting me (turn ∷ turns) = IsIncoming (ports_of setting.layout) me turn.came turn.incoming × AreRead setting me turns

-- what turns leave of a serving brick
abbrev pub after_turns : Setting → BrickId → Serving → List Turn → Serving
after_turns setting me serving [] = serving
after_turns setting me serving (turn ∷ turns) = after_turns setting me (served setting me serving turn.incoming turn.now).serving turns

-- what they send, in order
abbrev pub sends_of : Setting → BrickId → Serving → List Turn → List (ℕ × Message)
sends_of setting me serving [] = []
sends_of setting me serving (turn ∷ turns) =
    let step : Served = served setting me serving turn.incoming turn.now in step.sends ++ sends_of setting me step.serving turns

-- whatever comes in turns, each message that they send can be sent
abbrev pub AllCanBeSent : Setting → BrickId → Serving → Type 0
AllCanBeSent setting me serving = (turns : List Turn) → AreRead setting me turns → list_all can_send (sends_of setting me serving turns) ≡ true

-- what looks at the link gave in turns, and the moments that the clock gave
abbrev pub came_in : List Turn → List (Option Datagram)
came_in turns = map (λ turn. turn.came) turns

abbrev pub moments_of : List Turn → List ℕ
moments_of turns = map (λ turn. turn.now) turns

-- how many datagrams came that are no message: one, or none
abbrev pub malformed_count : Incoming → ℕ
malformed_count Malformed = 1
malformed_count incoming = 0

-- how many came in turns
abbrev pub malformed_in : List Turn → ℕ
malformed_in [] = 0
malformed_in (turn ∷ turns) = malformed_count turn.incoming + malformed_in turns
