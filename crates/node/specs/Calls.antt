-- What a step of a brick appends to the list of its store, and how many calls of the disk's `write_at` and `sync` that makes.
use Rattle.std.specs.Prelude.{ℕ, Option}
use Rattle.messages.specs.declared.packets.Message.{Message}
use Rattle.messages.specs.declared.packets.Message.TheVariants as message
use Rattle.messages.specs.declared.packets.Packet.{Packet}
use Rattle.brick_store.specs.Calls.{Append, calls_for}
use Rattle.replica.specs.Calls.{learnt_append, message_append}
use Rattle.fab_base.specs.declared.identities.BrickId.{BrickId}
use Rattle.fab_base.specs.Layouts.{Layout}
use Rattle.stripe_code.specs.Codes.{coding}
use Rattle.protocol.specs.Nodes.{Node, absorbed}
use Rattle.node.specs.Running.{shape_at}

-- What keeps what a packet makes a brick of the machine change: a record for a request that it serves, a view that it is taught, or one that it is told to be
-- synced, where that changes something; for a reply a record of the view that it tells, where the brick learns that; and nothing for any other message.
abbrev pub packet_append : Layout → BrickId → Node → Packet → Option Append
packet_append layout me node packet = append_as packet.message
  where
    append_as : Message → Option Append
    append_as (message.Reply call reply) = learnt_append (node.learnt call.group.0) ((absorbed (coding layout) me node packet).learnt call.group.0)
    append_as other = message_append layout me packet.from node other

-- so many calls keep it, over a list of frames of so many bytes
abbrev pub packet_calls : Layout → BrickId → Node → Packet → ℕ → ℕ
packet_calls layout me node packet listed = calls_for (shape_at layout me) listed (packet_append layout me node packet)
