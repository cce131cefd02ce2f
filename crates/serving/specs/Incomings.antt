-- What a datagram is to a brick.
use Rattle.std.specs.Prelude.{◌≡◌, ◌⊎◌, ◌<◌, ◌^◌, ℕ, Option, Some, None}
use Rattle.fab_base.specs.declared.identities.BrickId.{BrickId}
use Rattle.fab_io.specs.declared.links.Datagram.{Datagram}
use Rattle.fab_wire.specs.Spelling.{Spells}
use Rattle.messages.specs.Clients.{ask_of_client}
use Rattle.messages.specs.declared.packets.Message.{Message}
use Rattle.messages.specs.declared.packets.Message.TheVariants as message
use Rattle.serving.specs.declared.incomings.Incoming.{Incoming}
use Rattle.serving.specs.declared.incomings.Incoming.TheVariants.{Nothing, Malformed, Dropped, Handed, Asked}
use Rattle.serving.specs.declared.ports.Ports.{Ports}
use Rattle.serving.specs.Ports.{brick_at}

-- a message of a brick for this one; of a port that is no brick's it is dropped
abbrev pub handed : BrickId → Message → Option BrickId → Incoming
handed me message None = Dropped
handed me message (Some from) = Handed (record { from = from; to = me; message = message })

-- What a message that came from a port is to a brick: an invocation, from any port; or a message of the brick whose port it is. A client's
-- answer is dropped.
abbrev pub incoming_of : Ports → BrickId → ℕ → Message → Incoming
incoming_of ports me port (message.Client asked) = Asked (record { id = asked.id; port = port }) (ask_of_client asked)
incoming_of ports me port (message.ClientReply id answer) = Dropped
incoming_of ports me port other = handed me other (brick_at ports port)

-- What a look gave is nothing; or, of a datagram from a port that there is, the message that its bytes spell; or they spell none.
abbrev pub IsIncoming : Ports → BrickId → Option Datagram → Incoming → Type 0
IsIncoming ports me None incoming = incoming ≡ Nothing
IsIncoming ports me (Some datagram) incoming =
    (datagram.port < 2 ^ 16)
    × (((said : Message) × Spells datagram.bytes said × (incoming ≡ incoming_of ports me datagram.port said))
    ⊎ (((said : Message) → Spells datagram.bytes said → ⊥) × (incoming ≡ Malformed)))
