-- A brick that counts a reply and learns the view that it teaches.
use Rattle.std.proofs.Common.{◌≡◌, ℕ, Bool, true, cond, Option, Some, sym, ◌∙◌, ap, subst}
use Rattle.std.proofs.lemmas.Bool.{and_parts}
use Rattle.fab_base.specs.declared.identities.BrickId.{BrickId}
use Rattle.fab_base.specs.declared.member_lists.View.{View}
use Rattle.fab_base.specs.Layouts.{Layout, group_of}
use Rattle.messages.specs.declared.calls.Call.{Call}
use Rattle.messages.specs.declared.packets.Message.{Message}
use Rattle.messages.specs.declared.packets.Message.TheVariants as message
use Rattle.messages.specs.declared.packets.Packet.{Packet}
use Rattle.messages.specs.declared.replies.Reply.{Reply}
use Rattle.fab_disk.specs.declared.disk.Disk as on_disk
use Rattle.fab_disk.specs.Changing.{End}
use Rattle.brick_store.specs.Bricks.{Brick}
use Rattle.brick_store.specs.Calls.{Append}
use Rattle.stripe_code.specs.Codes.{coding}
use Rattle.protocol.specs.Views.{view_told}
use Rattle.protocol.specs.Nodes.{Node, NodeStep, absorbed, counts_here, heard, may_teach, node_learnt, node_taught, received, replied_at, then_taught, with_round}
use Rattle.replica.specs.Calls.{learnt_append}
use Rattle.replica.specs.Reactions.{IsStep}
use Rattle.node.specs.declared.tasks.Tasks.{Tasks}
use Rattle.node.specs.Calls.{packet_append}
use Rattle.node.specs.Ends.{StepChange}
use Rattle.node.specs.Outcomes.{Outcome}
use Rattle.node.specs.Running.{Running, running, state_of}
use Rattle.node.specs.States.{StepsAs}
use Rattle.node.specs.Teaching.{is_taught}
use Rattle.node.proofs.Hearing.{heard_taught, told_moved}
use Rattle.node.proofs.Requests.{follows_state}

-- a packet that carries a reply is heard
pub received_reply : (layout : Layout) (me : BrickId) (now : ℕ) (node : Node) (packet : Packet) (call : Call) (told : Reply)
    → packet.message ≡ message.Reply call told → received (coding layout) me now node packet ≡ heard (coding layout) me now packet.from node call told
unfolding received
received_reply layout me now node packet call told is = ap (λ (m : Message). received (coding layout) me now node (record packet { message = m })) is

-- it is absorbed as such
pub absorbed_reply : (layout : Layout) (me : BrickId) (node : Node) (packet : Packet) (call : Call) (told : Reply) → packet.message ≡ message.Reply call told
    → absorbed (coding layout) me node packet
    ≡ absorbed (coding layout) me node (record { from = packet.from; to = packet.to; message = message.Reply call told })
absorbed_reply layout me node packet call told is = ap (λ (m : Message). absorbed (coding layout) me node (record packet { message = m })) is

-- and appended is what was learnt of it
pub append_reply : (layout : Layout) (me : BrickId) (node : Node) (packet : Packet) (call : Call) (told : Reply) → packet.message ≡ message.Reply call told
    → packet_append layout me node packet ≡ learnt_append (node.learnt call.group.0)
    ((absorbed (coding layout) me node (record { from = packet.from; to = packet.to; message = message.Reply call told })).learnt call.group.0)
append_reply layout me node packet call told is = ap (λ (m : Message). packet_append layout me node (record packet { message = m })) is

-- What a packet that carries a reply makes of the brick's disk is what is absorbed of the reply.
pub change_replied : {D : Type 0} (d : on_disk.Ghosts D) (old new : Running D) (packet : Packet) (call : Call) (told : Reply) (kept : Node)
    (append : Option Append) (ended : End) → packet.message ≡ message.Reply call told
    → absorbed (coding old.layout) old.me (state_of old) (record { from = packet.from; to = packet.to; message = message.Reply call told }) ≡ kept
    → learnt_append ((state_of old).learnt call.group.0) (kept.learnt call.group.0) ≡ append → StepChange d append kept old new ended
    → StepChange d (packet_append old.layout old.me (state_of old) packet) (absorbed (coding old.layout) old.me (state_of old) packet) old new ended
change_replied d old new packet call told kept append ended is absorbs appends change =
    let node = state_of old in
    subst (λ (a : Option Append). StepChange d a (absorbed (coding old.layout) old.me node packet) old new ended)
    (sym (append_reply old.layout old.me node packet call told is
    ∙ ap (λ (n : Node). learnt_append (node.learnt call.group.0) (n.learnt call.group.0)) absorbs ∙ appends))
    (subst (λ (n : Node). StepChange d append n old new ended) (sym (absorbed_reply old.layout old.me node packet call told is ∙ absorbs)) change)

-- where a view may be taught, it is taught
pub learnt_taught : (layout : Layout) (node : Node) (from : BrickId) (call : Call) (told : Reply) (view : View) → view_told told ≡ Some view
    → is_taught layout node from call told ≡ true → (n : Node) → node_learnt layout n call.group view ≡ node_taught layout.block call.group.0 n view
unfolding node_learnt
learnt_taught layout node from call told view is taught n =
    let parts = and_parts (may_teach layout (view_told told) (group_of layout call.group.0)) (counts_here layout from call told node.proposal (node.calls call.seq)) taught in
    let may = sym (ap (λ (v : Option View). may_teach layout v (group_of layout call.group.0)) is) ∙ parts.0 in
    ap (λ (b : Bool). cond b (node_taught layout.block call.group.0 n view) n) may

-- The brick has done what the machine's does with the reply, and its store has learnt the view: that is the machine's step.
pub learns_so : {D : Type 0} (layout : Layout) (before after : Tasks) (old new : Brick D) (now : ℕ) (from : BrickId) (call : Call) (told : Reply) (view : View)
    (answer : Option Message) (outs : Outcome)
    → after.work.calls.me ≡ before.work.calls.me → view_told told ≡ Some view → is_taught layout (state_of (running layout before old)) from call told ≡ true
    → IsStep layout after.work.calls.me after.work.calls.me (message.Learn call.group view) old.state answer new.state
    → (let node = state_of (running layout before old) in
    StepsAs before.work.calls.me (state_of (running layout after old)) (replied_at (coding layout) before.work.calls.me now from node call told (node.calls call.seq)) outs)
    → StepsAs before.work.calls.me (state_of (running layout after new)) (heard (coding layout) before.work.calls.me now from (state_of (running layout before old)) call told) outs
learns_so layout before after old new now from call told view answer outs me is taught follows steps =
    let node = state_of (running layout before old) in
    let moved = told_moved told view is in
    let same : with_round node told ≡ node = ap (λ (r : Reply). with_round node r) moved.1 in
    let done : NodeStep = replied_at (coding layout) before.work.calls.me now from node call told (node.calls call.seq) in
    let whole : heard (coding layout) before.work.calls.me now from node call told ≡ then_taught layout.block call.group.0 (Some view) done =
    heard_taught layout before.work.calls.me now from node call told view is taught
    ∙ ap (λ (n : Node). then_taught layout.block call.group.0 (Some view) (replied_at (coding layout) before.work.calls.me now from n call told (node.calls call.seq))) same in
    subst (λ (step : NodeStep). StepsAs before.work.calls.me (state_of (running layout after new)) step outs) (sym whole) (record {
      packets = steps.packets;
      told = steps.told;
      answers = steps.answers;
      reports = steps.reports;
      state_is = follows_state layout after old after.work.calls.me (message.Learn call.group view) new answer follows
          ∙ ap (λ (n : Node). node_learnt layout n call.group view) steps.state_is
          ∙ learnt_taught layout node from call told view is taught done.node;
    })
