-- What a reply that tells a later view comes to for what a brick has under way.
use Rattle.std.specs.Prelude.{◌≡◌, ℕ, ◌-◌, Bool, true, false, if◌then◌else◌, [], ◌∷◌, Option, Some, None, is_some}
use Rattle.std.specs.Ordering.{nat_cmp}
use Rattle.std.specs.BTreeMap.{get, is_at, btree_map_len}
use Rattle.fab_base.specs.declared.answers.Answer.{Answer}
use Rattle.fab_base.specs.declared.identities.BrickId.{BrickId}
use Rattle.fab_base.specs.declared.identities.ViewNo.{ViewNo}
use Rattle.fab_base.specs.Layouts.{Layout}
use Rattle.messages.specs.declared.calls.Call.{Call}
use Rattle.messages.specs.declared.packets.Message.{Message}
use Rattle.messages.specs.declared.packets.Message.TheVariants as message
use Rattle.messages.specs.declared.replies.Lineage.{Lineage}
use Rattle.messages.specs.declared.replies.Reply.{Reply}
use Rattle.messages.specs.declared.replies.Reply.TheVariants.{Moved}
use Rattle.protocol.specs.Coordinators as machine
use Rattle.protocol.specs.Nodes.{Node, NodeStep, no_step, replied_at, with_call}
use Rattle.stripe_code.specs.Codes.{coding}
use Rattle.coord_phase.specs.Operations.{counts, heard}
use Rattle.coord_phase.specs.Decisions.{decided_on}
use Rattle.node.specs.declared.operations.Operation.{Operation}
use Rattle.node.specs.declared.open_calls.OpenCalls.{OpenCalls}
use Rattle.node.specs.declared.open_work.OpenWork.{OpenWork}
use Rattle.node.specs.declared.open_work.Turn.{Turn}
use Rattle.node.specs.declared.open_work.Turn.TheVariants as turn
use Rattle.node.specs.Operations.{shown_of, coordinator_of, EndsOrWaits}
use Rattle.node.specs.Proposals as proposals
use Rattle.node.specs.Proposals.{GoesAs, IsUnderWayOn}
use Rattle.node.specs.States.{KeptParts, state_in}

-- ---- at one operation

-- a message counts in an operation, if there is one
abbrev pub counts_in : Option Operation → BrickId → Message → Bool
counts_in None from message = false
counts_in (Some op) from message = counts (shown_of op) from message

-- on a reply of a member that counts and tells this later view an operation, if there is one, ends so, or waits
abbrev pub EndsIfOpen : Option Operation → BrickId → ViewNo → Option Answer → Type 0
EndsIfOpen None from view ended = Unit {0}
EndsIfOpen (Some op) from view ended = EndsOrWaits (coordinator_of op) from view ended

-- there is an operation; the message counts in it, and it waits for more
abbrev pub WaitsOn : Option Operation → BrickId → Message → Type 0
WaitsOn None from message = ⊥
WaitsOn (Some op) from message =
    (counts (shown_of op) from message ≡ true) × (decided_on None (shown_of op) from message ≡ machine.Waits (heard (shown_of op) from message).state)

-- Of the open operations the one of this number has counted a message that counts, and nothing else has changed.
pub record HasCounted (seq : ℕ) (from : BrickId) (message : Message) (before after : OpenCalls) : Type 0 where
  pub was : Operation
  pub now : Operation
  pub open_before : get nat_cmp before.operations seq ≡ Some was
  pub counted : counts (shown_of was) from message ≡ true
  pub now_is : coordinator_of now ≡ (heard (shown_of was) from message).state
  pub others : (q : ℕ) → get nat_cmp after.operations q ≡ (if is_at (nat_cmp seq) q then Some now else get nat_cmp before.operations q)
  pub count : btree_map_len after.operations ≡ btree_map_len before.operations
  pub me : after.me ≡ before.me
  pub seq_is : after.seq ≡ before.seq
  pub stamps : after.stamps ≡ before.stamps

-- ---- at a brick

-- a message counts in this operation, or, if there is none, in the proposal
abbrev pub counts_with : OpenWork → BrickId → Message → Option Operation → Bool
counts_with work from message None = proposals.counts_in work.proposals.under_way from message
counts_with work from message (Some op) = counts (shown_of op) from message

-- a message counts in the open operation of a call, or, if there is none, in the proposal
abbrev pub counts_at : OpenWork → ℕ → BrickId → Message → Bool
counts_at work seq from message = counts_with work from message (get nat_cmp work.calls.operations seq)

-- a brick of the machine ends the operation of this number with this answer
abbrev pub ended_step : Node → ℕ → Answer → NodeStep
ended_step node seq answer =
    record {
      node = with_call node node.known (node.busy - 1) seq None;
      packets = [];
      told = [];
      answers = record { seq = seq; answer = answer } ∷ [];
      reports = [];
    }

-- the machine's step on a reply, of a brick that keeps this and has this under way, at a time of its clock
abbrev pub step_on : Layout → ℕ → BrickId → Call → Reply → OpenWork → KeptParts → NodeStep
step_on layout now from call reply work kept =
    replied_at (coding layout) work.calls.me now from (state_in kept work) call reply ((state_in kept work).calls call.seq)

-- What a reply comes to, where so much of it is done already. An operation has counted it, and that was all. Or nothing is done yet: an operation ends with
-- this answer, or the proposal goes on so.
abbrev pub IsTurn : Layout → BrickId → Call → Reply → OpenWork → Turn → OpenWork → Type 0
IsTurn layout from call reply before turn.Counted after =
    HasCounted call.seq from (message.Reply call reply) before.calls after.calls × (after.proposals ≡ before.proposals)
    × ((now : ℕ) (kept : KeptParts) → step_on layout now from call reply before kept ≡ no_step (state_in kept after))
IsTurn layout from call reply before (turn.Ends answer) after =
    (after ≡ before) × (is_some (get nat_cmp before.calls.operations call.seq) ≡ true)
    × ((now : ℕ) (kept : KeptParts) → step_on layout now from call reply before kept ≡ ended_step (state_in kept before) call.seq answer)
IsTurn layout from call reply before (turn.Goes heard) after =
    (after ≡ before) × IsUnderWayOn layout.bricks heard.left
    × ((now : ℕ) (kept : KeptParts) → GoesAs before.calls.me (state_in kept before) (step_on layout now from call reply before kept) heard.outs heard.left)

-- if an operation is to end, it is open
abbrev pub OpenIfEnds : Turn → Option Operation → Type 0
OpenIfEnds turn.Counted op = Unit {0}
OpenIfEnds (turn.Ends answer) op = is_some op ≡ true
OpenIfEnds (turn.Goes heard) op = Unit {0}

-- a reply that tells this later view with its members
abbrev pub IsMoved : Reply → ViewNo → Type 0
IsMoved reply view = (lineage : Lineage) × (reply ≡ Moved view (Some lineage))
