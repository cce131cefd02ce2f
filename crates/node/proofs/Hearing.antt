-- What a brick of the machine does with a reply, by what it teaches.
use Rattle.std.proofs.Common.{◌≡◌, ℕ, Bool, true, false, not, cond, ◌&&◌, ◌||◌, if◌then◌else◌, Option, Some, None, is_some, refl, sym, ◌∙◌, ap}
use Rattle.std.proofs.lemmas.Bool.{and_parts}
use Rattle.fab_base.specs.declared.identities.BrickId.{BrickId}
use Rattle.fab_base.specs.declared.member_lists.View.{View}
use Rattle.fab_base.specs.Layouts.{Layout, group_of}
use Rattle.messages.specs.declared.calls.Call.{Call}
use Rattle.messages.specs.declared.packets.Message.TheVariants as message
use Rattle.messages.specs.declared.packets.Packet.{Packet}
use Rattle.messages.specs.declared.replies.Lineage.{Lineage}
use Rattle.messages.specs.declared.replies.Reply.{Reply}
use Rattle.messages.specs.declared.replies.Reply.TheVariants as reply
use Rattle.replica.specs.Calls.{learnt_append}
use Rattle.replica.proofs.Learning.{learnt_append_none}
use Rattle.fab_base.specs.declared.stamps.Stamp.{Stamp}
use Rattle.stripe_code.specs.Codes.{block_code, coding}
use Rattle.protocol.specs.Proposals.{Proposal, seat_voting, voted_at}
use Rattle.protocol.specs.Jobs.{Job}
use Rattle.protocol.specs.Scrubs.{Scrub}
use Rattle.protocol.specs.Coordinators.{Coordinator, Next, Ignores, counted_at, counts_at, hearing, on_reply}
use Rattle.protocol.specs.Views.{Learnt, view_told}
use Rattle.protocol.specs.Nodes.{Node, NodeStep, absorbed, carried_ballot, carried_for, counts_here, fresh_stamp, heard, job_reading, known_after, may_teach, node_learnt, node_taught, node_taught_by, no_step, replied, replied_at, replied_ballot, scrub_of, then_taught, with_known, with_round}
use Rattle.node.specs.Teaching.{is_taught}

-- the same either way
either_way : {A : Type 0} (b : Bool) (x : A) → cond b x x ≡ x
either_way true x = refl
either_way false x = refl

-- nothing is there
pub none_of : {A : Type 0} (o : Option A) → is_some o ≡ false → o ≡ None
none_of None is = refl
none_of (Some x) is = absurd cc

-- a reply that teaches a view tells it with its members
pub told_moved : (told : Reply) (view : View) → view_told told ≡ Some view → (lineage : Lineage) × (told ≡ reply.Moved view.number (Some lineage))
told_moved (reply.Moved number (Some lineage)) view is =
    let same : record { number = number; members = lineage.members; prior = lineage.prior } ≡ view = cc in
    (lineage, ap (λ (v : View). reply.Moved v.number (Some lineage)) same)
told_moved (reply.Moved number None) view is = absurd cc
told_moved (reply.Found order newest) view is = absurd cc
told_moved reply.Ordered view is = absurd cc
told_moved (reply.OrderedRead found) view is = absurd cc
told_moved reply.Stored view is = absurd cc
told_moved (reply.Behind newest) view is = absurd cc
told_moved (reply.Later stamp) view is = absurd cc
told_moved (reply.Full live) view is = absurd cc
told_moved (reply.Old found) view is = absurd cc
told_moved reply.Retired view is = absurd cc
told_moved (reply.Promise accepted) view is = absurd cc
told_moved reply.Accepted view is = absurd cc
told_moved (reply.Outbid ballot) view is = absurd cc
told_moved reply.NotSynced view is = absurd cc

-- a reply that does not count is left out, but for the time that it tells
module _ (layout : Layout) (me : BrickId) (now : ℕ) (from : BrickId) (node : Node) (call : Call) (told : Reply) where
  left_call : (fresh : Option Stamp) (c : Coordinator) → is_some (counts_at layout.block c from.0 call told) ≡ false
      → on_reply layout.block (block_code layout.block) fresh c from call told ≡ Ignores
  unfolding on_reply
  left_call fresh c none =
      ap (counted_at layout.block (block_code layout.block) fresh c from told) (none_of (counts_at layout.block c from.0 call told) none)

  left_ballot : (p : Option Proposal) → counts_here layout from call told p None ≡ false → (n : Node) → replied_ballot layout me from n call told p ≡ no_step n
  left_ballot None none n = refl
  left_ballot (Some p) none n =
      ap (λ (seat : Option ℕ). carried_ballot layout me n p (voted_at p from told seat)) (none_of (seat_voting layout.bricks p from.0 call told) none)

  left_for : (known : ℕ) (c heard : Coordinator) (job : Option Job) (scrub : Option Scrub)
      → carried_for (coding layout) me now node known c heard Ignores job scrub ≡ no_step (with_known node known)
  left_for known c heard None None = refl
  left_for known c heard None (Some scrub) = refl
  left_for known c heard (Some job) scrub = refl

  left_by : (o : Option Coordinator) → counts_here layout from call told node.proposal o ≡ false
      → replied_at (coding layout) me now from node call told o ≡ no_step (with_known node (known_after node.known told))
  left_by None none = left_ballot node.proposal none (with_known node (known_after node.known told))
  left_by (Some c) none =
      let known = known_after node.known told in
      let h = hearing c from told (counts_at layout.block c from.0 call told) in
      ap (λ (next : Next). carried_for (coding layout) me now node known c h next (job_reading node.job c.call.seq) (scrub_of node.scrub c.call.seq))
      (left_call (fresh_stamp me c.stamp.view now node.boot known) c none)
      ∙ left_for known c h (job_reading node.job c.call.seq) (scrub_of node.scrub c.call.seq)

module _ (layout : Layout) (me : BrickId) (now : ℕ) (from : BrickId) (node : Node) (call : Call) (told : Reply) where
  -- the reply is handled as such, by the open operation of its call or by the proposal
  abbrev handled : NodeStep
  handled = replied_at (coding layout) me now from (with_round node told) call told (node.calls call.seq)

  -- the reply is left out
  abbrev left_out : NodeStep
  left_out = no_step (with_known (with_round node told) (known_after node.known told))

  -- by the view that it tells, and whether it counts
  heard_by : Option View → Bool → NodeStep
  heard_by view counts =
      if not (is_some view) || may_teach layout view (group_of layout call.group.0)
      then then_taught layout.block call.group.0 (if counts then view else None) handled else left_out

  abbrev counts_now : Bool
  counts_now = counts_here layout from call told node.proposal (node.calls call.seq)

  heard_is : heard (coding layout) me now from node call told ≡ heard_by (view_told told) counts_now
  unfolding replied heard_by
  heard_is = refl

  -- one that teaches no view is handled
  pub heard_untaught : view_told told ≡ None → heard (coding layout) me now from node call told ≡ handled
  unfolding heard_by
  heard_untaught none =
      heard_is ∙ ap (λ (view : Option View). heard_by view counts_now) none
      ∙ ap (λ (view : Option View). then_taught layout.block call.group.0 view handled) (either_way counts_now None)

  -- one that teaches a view is handled, and then the view is learnt
  pub heard_taught : (view : View) → view_told told ≡ Some view → is_taught layout node from call told ≡ true
      → heard (coding layout) me now from node call told ≡ then_taught layout.block call.group.0 (Some view) handled
  unfolding heard_by
  heard_taught view is taught =
      let parts = and_parts (may_teach layout (view_told told) (group_of layout call.group.0)) counts_now taught in
      let may = sym (ap (λ (v : Option View). may_teach layout v (group_of layout call.group.0)) is) ∙ parts.0 in
      heard_is ∙ ap (λ (v : Option View). heard_by v counts_now) is
      ∙ ap (λ (b : Bool). cond b (then_taught layout.block call.group.0 (if counts_now then Some view else None) handled) left_out) may
      ∙ ap (λ (b : Bool). then_taught layout.block call.group.0 (if b then Some view else None) handled) parts.1

  -- one that would teach a view, and does not, is left out
  pub heard_left : (view : View) → view_told told ≡ Some view → is_taught layout node from call told ≡ false
      → heard (coding layout) me now from node call told ≡ no_step node
  unfolding heard_by
  heard_left view is left =
      let moved = told_moved told view is in
      heard_is ∙ ap (λ (v : Option View). heard_by v counts_now) is
      ∙ by (may_teach layout (Some view) (group_of layout call.group.0)) counts_now refl
      (sym (ap (λ (v : Option View). may_teach layout v (group_of layout call.group.0) && counts_now) is) ∙ left)
      ∙ ap (λ (r : Reply). no_step (with_known (with_round node r) (known_after node.known r))) moved.1
    where
      by : (may counts : Bool) → counts_now ≡ counts → (may && counts) ≡ false
          → cond may (then_taught layout.block call.group.0 (if counts then Some view else None) handled) left_out ≡ left_out
      by true true e wrong = absurd cc
      by true false e none = left_by layout me now from (with_round node told) call told (node.calls call.seq) e
      by false counts e none = refl

-- what is absorbed of a reply
module _ (layout : Layout) (me from to : BrickId) (node : Node) (call : Call) (told : Reply) where
  abbrev packet : Packet
  packet = record { from = from; to = to; message = message.Reply call told }

  -- by the view that it tells, and whether it counts
  absorbed_by : Option View → Bool → Node
  absorbed_by view counts =
      if not (is_some view) || may_teach layout view (group_of layout call.group.0)
      then node_taught_by layout.block call.group.0 node (if counts then view else None) else node

  abbrev counts_there : Bool
  counts_there = counts_here layout from call told node.proposal (node.calls call.seq)

  absorbed_is : absorbed (coding layout) me node packet ≡ absorbed_by (view_told told) counts_there
  unfolding absorbed absorbed_by
  absorbed_is = refl

  -- of one that teaches no view nothing is
  pub absorbed_untaught : view_told told ≡ None → absorbed (coding layout) me node packet ≡ node
  unfolding absorbed_by
  absorbed_untaught none =
      absorbed_is ∙ ap (λ (view : Option View). absorbed_by view counts_there) none
      ∙ ap (node_taught_by layout.block call.group.0 node) (either_way counts_there None)

  -- of one that teaches a view that is
  pub absorbed_taught : (view : View) → view_told told ≡ Some view → is_taught layout node from call told ≡ true
      → absorbed (coding layout) me node packet ≡ node_learnt layout node call.group view
  unfolding absorbed_by node_learnt
  absorbed_taught view is taught =
      let parts = and_parts (may_teach layout (view_told told) (group_of layout call.group.0)) counts_there taught in
      let may = sym (ap (λ (v : Option View). may_teach layout v (group_of layout call.group.0)) is) ∙ parts.0 in
      let learnt = node_taught layout.block call.group.0 node view in
      absorbed_is ∙ ap (λ (v : Option View). absorbed_by v counts_there) is
      ∙ ap (λ (b : Bool). cond b (node_taught_by layout.block call.group.0 node (if counts_there then Some view else None)) node) may
      ∙ ap (λ (b : Bool). node_taught_by layout.block call.group.0 node (if b then Some view else None)) parts.1
      ∙ sym (ap (λ (b : Bool). cond b learnt node) may)

  -- of one that would teach a view, and does not, nothing is
  pub absorbed_left : (view : View) → view_told told ≡ Some view → is_taught layout node from call told ≡ false → absorbed (coding layout) me node packet ≡ node
  unfolding absorbed_by
  absorbed_left view is left =
      absorbed_is ∙ ap (λ (v : Option View). absorbed_by v counts_there) is
      ∙ by (may_teach layout (Some view) (group_of layout call.group.0)) counts_there
      (sym (ap (λ (v : Option View). may_teach layout v (group_of layout call.group.0) && counts_there) is) ∙ left)
    where
      by : (may counts : Bool) → (may && counts) ≡ false
          → cond may (node_taught_by layout.block call.group.0 node (if counts then Some view else None)) node ≡ node
      by true true wrong = absurd cc
      by true false none = refl
      by false counts none = refl

-- what was learnt already is not appended
pub learnt_none : (learnt : Learnt) → learnt_append learnt learnt ≡ None
learnt_none learnt = learnt_append_none learnt
