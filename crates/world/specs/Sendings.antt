-- The messages that were sent, and the chains through those of each call.
use Rattle.std.specs.Prelude.{◌≡◌, ℕ, ◌<◌, ◌≤◌, List, length, Option, Some, None, unwrap_or, slice_get}
use Rattle.std.specs.declared.cmp.Ordering.{Ordering}
use Rattle.std.specs.Ordering.{nat_cmp, ordering_then}
use Rattle.std.specs.BTreeMap.{BTreeMap, get}
use Rattle.messages.specs.declared.packets.Message.{Message}
use Rattle.messages.specs.declared.packets.Packet.{Packet}

-- a call: its brick, how often the brick's store had been opened, and its number since then
abbrev pub CallKey : Type 0
CallKey = ℕ × ℕ × ℕ

-- calls compare by brick, then by boot, and then by number
abbrev pub call_cmp : CallKey → CallKey → Ordering
call_cmp x y = ordering_then (ordering_then (nat_cmp x.0 y.0) (nat_cmp x.1 y.1)) (nat_cmp x.2 y.2)

-- the call that a packet is a message of
abbrev pub call_of : Packet → Option CallKey
call_of packet = of_message packet.message
  where
    of_message : Message → Option CallKey
    of_message (Message.Request call request) = Some (packet.from.0, call.boot, call.seq)
    of_message (Message.Reply call reply) = Some (packet.to.0, call.boot, call.seq)
    of_message message = None

-- each message of a call stands before this place
abbrev pub IsBehind : List Packet → CallKey → ℕ → Type 0
IsBehind packets call end = (k : ℕ) (packet : Packet) → slice_get packets k ≡ Some packet → call_of packet ≡ Some call → k < end

-- each message of a call that stands before one place stands before another
abbrev pub IsBetween : List Packet → CallKey → ℕ → ℕ → Type 0
IsBetween packets call end place = (k : ℕ) (packet : Packet) → slice_get packets k ≡ Some packet → call_of packet ≡ Some call → k < place → k < end

-- the place behind the last message of a call that is chained, 0 where none is
abbrev pub end_in : BTreeMap CallKey ℕ → CallKey → ℕ
end_in ends call = unwrap_or (get call_cmp ends call) 0

-- The first messages, as many as there are links, are chained: behind the end of a call stands none of them that is of it, and none between a message
-- of it and its link.
pub record IsChained (packets : List Packet) (links : List ℕ) (ends : BTreeMap CallKey ℕ) : Type 0 where
  pub count : length links ≤ length packets
  pub within : (call : CallKey) → end_in ends call ≤ length links
  pub behind : (call : CallKey) → IsBetween packets call (end_in ends call) (length links)
  pub before : (k link : ℕ) → slice_get links k ≡ Some link → link ≤ k
  pub linked : (k link : ℕ) (packet : Packet) (call : CallKey) → slice_get links k ≡ Some link → slice_get packets k ≡ Some packet
      → call_of packet ≡ Some call → IsBetween packets call link k
