-- Which messages of an operation were delivered.
use Rattle.std.specs.Prelude.{◌≡◌, ℕ, zero, suc, ◌<◌, ◌≤◌, ◌&&◌, Bool, true, false, not, nat_eq, List, length, map, Option, Some, None, get_or, slice_get}
use Rattle.messages.specs.declared.calls.Call.{Call}
use Rattle.messages.specs.declared.packets.Message.{Message}
use Rattle.messages.specs.declared.packets.Packet.{Packet}
use Rattle.protocol.specs.Calms.{goes_among}
use Rattle.world.specs.Runs.{brick_of}
use Rattle.world.specs.declared.histories.OperationRecord.{OperationRecord}

-- whether the message of a number, counted from 1, is noted as delivered: there is none of number 0
abbrev pub is_noted : List Bool → ℕ → Bool
is_noted reached zero = false
is_noted reached (suc k) = get_or reached k false

-- a call is the one of this boot and number
abbrev pub is_call : Call → ℕ → ℕ → Bool
is_call call boot seq = nat_eq call.boot boot && nat_eq call.seq seq

-- a packet is a message of the operation of this brick, boot and call number
abbrev pub is_of : ℕ → ℕ → ℕ → Packet → Bool
is_of brick boot seq packet = belongs packet.message
  where
    belongs : Message → Bool
    belongs (Message.Request call request) = nat_eq packet.from.0 brick && is_call call boot seq
    belongs (Message.Reply call reply) = nat_eq packet.to.0 brick && is_call call boot seq
    belongs message = false

-- the message at a place, counted from 0, is one of the operation among these bricks that was not delivered
abbrev pub is_left_at : List Bool → OperationRecord → List ℕ → ℕ → Packet → Bool
is_left_at reached o bricks place packet =
    is_of o.brick.0 o.boot o.seq packet && (not (get_or reached place false) && goes_among (map brick_of bricks) packet)

-- no message of the operation was delivered, or one was
abbrev pub IsUntouchedAt : List Bool → List Packet → OperationRecord → Bool → Type 0
IsUntouchedAt reached sent o true =
    (k : ℕ) (packet : Packet) → slice_get sent k ≡ Some packet → is_of o.brick.0 o.boot o.seq packet ≡ true
    → get_or reached k false ≡ false
IsUntouchedAt reached sent o false =
    (k : ℕ) × (packet : Packet) × (slice_get sent k ≡ Some packet) × (is_of o.brick.0 o.boot o.seq packet ≡ true)
    × (get_or reached k false ≡ true)

-- none of the messages from one place to before another is left
abbrev pub NoneLeft : List Bool → OperationRecord → List ℕ → List Packet → ℕ → ℕ → Type 0
NoneLeft reached o bricks sent from to =
    (k : ℕ) (packet : Packet) → from ≤ k → k < to → slice_get sent k ≡ Some packet → is_left_at reached o bricks k packet ≡ false

-- the first message from a place on that is left was found, or none is
abbrev pub FindsLeft : List Bool → OperationRecord → List ℕ → ℕ → List Packet → Option ℕ → Type 0
FindsLeft reached o bricks from sent None = NoneLeft reached o bricks sent from (length sent)
FindsLeft reached o bricks from sent (Some place) =
    (from ≤ place) × NoneLeft reached o bricks sent from place
    × ((packet : Packet) × (slice_get sent place ≡ Some packet) × (is_left_at reached o bricks place packet ≡ true))
