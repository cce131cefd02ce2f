-- What a phase sends.
use Rattle.std.specs.Prelude.{◌≡◌, ℕ, List, length, map}
use Rattle.fab_base.specs.declared.identities.BrickId.{BrickId}
use Rattle.messages.specs.declared.packets.Message.{Message}
use Rattle.messages.specs.declared.packets.Packet.{Packet}
use Rattle.protocol.specs.declared.phases.Phase.TheVariants.{Stores}
use Rattle.protocol.specs.Coordinators.{asked_group, request_of}
use Rattle.protocol.specs.Nodes.{resent_to}
use Rattle.stripe_code.specs.Codes.{block_code, AreParity}
use Rattle.coord_phase.specs.Operations.{Operation}

-- a packet's message, with its receiver
abbrev pub without_sender : Packet → BrickId × Message
without_sender packet = (packet.to, packet.message)

-- the messages of an operation's phase, whichever brick sends them: as it begins they go to all members that it asks, and later to those without a counted
-- reply
abbrev pub phase_messages : Operation → List (BrickId × Message)
phase_messages op =
    map without_sender
    (resent_to (record { 0 = 0 }) op.state.call (request_of (block_code op.block) op.state) op.state.counted 0 (asked_group op.state).members)

-- these are the parity blocks of what an operation stores, in the phase that stores it
abbrev pub HasParity : Operation → List ℕ → Type 0
HasParity op parity =
    op.state.phase ≡ Stores → AreParity op.state.group.m (length op.state.group.members) op.block op.state.content parity

-- the machine's packets for messages of this brick
abbrev pub packets_from : BrickId → List (BrickId × Message) → List Packet
packets_from me messages = map (λ sent. record { from = me; to = sent.0; message = sent.1 }) messages
