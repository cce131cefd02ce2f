-- The machine's reactions, votes and what it is taught, as changes of what a store keeps.
use Rattle.std.specs.Prelude.{◌≡◌, ℕ, List, [], ◌∷◌, ◌+◌, ◌-◌, Option, Some, None}
use Rattle.fab_base.specs.declared.identities.BrickId.{BrickId}
use Rattle.messages.specs.declared.calls.Call.{Call}
use Rattle.messages.specs.declared.packets.Message.{Message}
use Rattle.messages.specs.declared.packets.Packet.{Packet}
use Rattle.messages.specs.declared.replies.Reply.{Reply}
use Rattle.version_log.specs.Versions.{Version}
use Rattle.brick_state.specs.States.{Place, StateOf, group_at, live}
use Rattle.fab_base.specs.Layouts.{Layout}
use Rattle.stripe_code.specs.Codes.{coding}
use Rattle.protocol.specs.Ballots.{Voted}
use Rattle.protocol.specs.Replicas.{Replica, Reaction}
use Rattle.protocol.specs.Nodes as machine
use Rattle.protocol.specs.Nodes.{Node, NodeStep, put, with_part, with_live, requested_in, node_learnt, node_synced, no_step}
use Rattle.replica.specs.Parts.{part_in, live_at, ballots_in, IsPartsOf, ListsStand}

-- the place of a call's stripe, in the call's view
abbrev pub place_of : Call → Place
place_of call = (call.group.0, call.view.0, call.stripe.0)

-- the part of it that is kept
abbrev pub part_at : ℕ → StateOf Version → Call → Replica
part_at block st call = part_in block st call.group.0 call.view.0 call.stripe.0

-- The reaction gives this reply, and of what is kept it changes the part of the call's stripe, with the live records that it adds and drops.
pub record IsReacted (block : ℕ) (call : Call) (before : StateOf Version) (reaction : Reaction) (reply : Option Reply) (after : StateOf Version) : Type 0 where
  pub told : reaction.reply ≡ reply
  pub boot : after.boot ≡ before.boot
  pub groups : after.groups ≡ before.groups
  pub live : live after ≡ live before + reaction.adds - reaction.drops
  pub live_in : (g e : ℕ) → live_at after g e ≡ with_live (live_at before) call reaction g e
  pub parts : (g e s : ℕ) → part_in block after g e s ≡ with_part (part_in block before) call reaction.replica g e s

-- The vote gives this reply, and of what is kept it changes the ballots of the call's group.
pub record IsVoted (call : Call) (before : StateOf Version) (vote : Voted) (reply : Option Reply) (after : StateOf Version) : Type 0 where
  pub told : Some vote.reply ≡ reply
  pub boot : after.boot ≡ before.boot
  pub stripes : after.stripes ≡ before.stripes
  pub known : (g : ℕ) → (group_at after g).known ≡ (group_at before g).known
  pub ballots : (g : ℕ) → ballots_in after g ≡ put (ballots_in before) call.group.0 vote.kept g

-- what a brick of the machine does with a message as a member of a group: it handles a request, learns a view that it is taught, notes that all stripes are
-- kept in the view that it has learnt, and ignores all else
abbrev pub member_step : Layout → BrickId → BrickId → Node → Message → NodeStep
member_step layout me from node (Message.Request call request) =
    requested_in (coding layout) me from node call request (machine.group_at layout node call.group.0)
member_step layout me from node (Message.Learn group view) = no_step (node_learnt layout node group view)
member_step layout me from node (Message.Synced group number) = no_step (node_synced layout node group number)
member_step layout me from node message = no_step node

-- the answer goes back to the sender
abbrev pub answer_packets : BrickId → BrickId → Option Message → List Packet
answer_packets me to None = []
answer_packets me to (Some message) = record { from = me; to = to; message = message } ∷ []

-- Each brick of the machine that keeps what the store kept before makes this answer of the message, and keeps what the store keeps after. Lists of members
-- that may keep the layout's groups stay such.
pub record IsStep (layout : Layout) (me from : BrickId) (message : Message) (before : StateOf Version) (answer : Option Message)
    (after : StateOf Version) : Type 0 where
  pub packets : (node : Node) → IsPartsOf layout before node
      → (member_step layout me from node message).packets ≡ answer_packets me from answer
  pub parts : (node : Node) → IsPartsOf layout before node → IsPartsOf layout after (member_step layout me from node message).node
  pub lists : ListsStand layout before → ListsStand layout after
