-- The scrub of a brick, as the machine sees it.
use Rattle.std.specs.Prelude.{◌≡◌, ℕ, true, false, max, nat_eq, List, [], ◌∷◌, ◌++◌, Option, Some, None}
use Rattle.std.specs.Option.{option_map}
use Rattle.fab_base.specs.declared.answers.Answer.TheVariants as answer
use Rattle.fab_base.specs.declared.answers.Cause.{Cause}
use Rattle.fab_base.specs.declared.identities.BrickId.{BrickId}
use Rattle.fab_base.specs.declared.identities.CallId.{CallId}
use Rattle.fab_base.specs.declared.identities.GroupId.{GroupId}
use Rattle.fab_base.specs.declared.identities.StripeNo.{StripeNo}
use Rattle.fab_base.specs.declared.identities.ViewNo.{ViewNo}
use Rattle.fab_base.specs.declared.member_lists.View.{View}
use Rattle.fab_base.specs.declared.stamps.Stamp.{Stamp}
use Rattle.fab_base.specs.Layouts.{Layout, Group}
use Rattle.messages.specs.declared.calls.Call.{Call}
use Rattle.messages.specs.declared.packets.Message.{Message}
use Rattle.messages.specs.declared.packets.Message.TheVariants as message
use Rattle.messages.specs.declared.replies.Reply.{Reply}
use Rattle.messages.specs.declared.turns.Turn.TheVariants as Turn
use Rattle.protocol.specs.declared.tellings.Told.TheVariants.{Closed}
use Rattle.protocol.specs.declared.tellings.Report.{Report}
use Rattle.protocol.specs.declared.tellings.ScrubAnswer.{ScrubAnswer}
use Rattle.protocol.specs.declared.tellings.ScrubAnswer.TheVariants.{Clean, Repaired, Aborted}
use Rattle.protocol.specs.Settings.{Setting}
use Rattle.protocol.specs.Coordinators.{Coordinator, counts_at, hearing, on_reply}
use Rattle.protocol.specs.Scrubs.{Scrub, scrub_ask}
use Rattle.protocol.specs.Nodes.{Node, NodeStep, begun_aside, carried_scrub, coordinator_in, put, scrubbing, seen_told, with_known}
use Rattle.stripe_code.specs.Codes.{block_code, coding}
use Rattle.coord_phase.specs.Operations as phased
use Rattle.coord_phase.specs.Operations.{counts, heard, scrub_op, with_state, without_last}
use Rattle.coord_phase.specs.Messages.{packets_from, phase_messages}
use Rattle.coord_recover.specs.Recoveries.{entered, is_of_recovery}
use Rattle.scrub.specs.Scrubs.{members_of, noted}
use Rattle.node.specs.declared.operations.Operation.{Operation}
use Rattle.node.specs.declared.scrubs.OpenScrub.{OpenScrub}
use Rattle.node.specs.Operations.{shown_of, EndsOrWaits}
use Rattle.node.specs.Outcomes.{Outcome}

-- ---- what is under way

-- a scrub that is under way, and its coordinator
pub record Scrubbing : Type 0 where
  pub scrub : Scrub
  pub call : Coordinator

-- the recovery of its stripe, or its look until that has ended
abbrev pub phase_of : phased.Operation → Option Operation → phased.Operation
phase_of look None = look
phase_of look (Some recovery) = shown_of recovery

-- its operation, in its present phase
abbrev pub scrub_shown : OpenScrub → phased.Operation
scrub_shown held = phase_of held.scrub.look held.recovery

abbrev pub scrub_coordinator_of : OpenScrub → Coordinator
scrub_coordinator_of held = (scrub_shown held).state

-- the number of its call
abbrev pub scrub_seq : OpenScrub → ℕ
scrub_seq held = (scrub_coordinator_of held).call.seq

-- the machine's scrub of a brick that has this under way
abbrev pub scrub_at : OpenScrub → Scrub
scrub_at held = record { seq = scrub_seq held; lagging = held.scrub.lagging }

abbrev pub scrubbing_of : OpenScrub → Scrubbing
scrubbing_of held = record { scrub = scrub_at held; call = scrub_coordinator_of held }

abbrev pub scrubbing_in : Option OpenScrub → Option Scrubbing
scrubbing_in held = option_map scrubbing_of held

-- open operations by the numbers of their calls, with a scrub, if there is one
abbrev pub calls_with_scrub : Option Scrubbing → (ℕ → Option Coordinator) → ℕ → Option Coordinator
calls_with_scrub None calls = calls
calls_with_scrub (Some s) calls = put calls s.scrub.seq (Some s.call)

-- the machine's brick, with this scrub under way, or with none
abbrev pub with_scrubbing : Option Scrubbing → Node → Node
with_scrubbing s node = record node { calls = calls_with_scrub s node.calls; scrub = option_map (λ (x : Scrubbing). x.scrub) s }

-- it has the call of this number
abbrev pub ScrubsAt : Option OpenScrub → ℕ → Type 0
ScrubsAt None seq = ⊥
ScrubsAt (Some held) seq = nat_eq (scrub_seq held) seq ≡ true

-- it has another call, if there is one
abbrev pub IsScrubAside : Option OpenScrub → ℕ → Type 0
IsScrubAside None seq = Unit {0}
IsScrubAside (Some held) seq = nat_eq (scrub_seq held) seq ≡ false

-- once its stripe is being recovered, that is in a phase of a recovery, of the scrub's own call, and counts its own members
abbrev pub GoesOnFrom : phased.Operation → Option Operation → Type 0
GoesOnFrom look None = Unit {0}
GoesOnFrom look (Some recovery) =
    ((shown_of recovery).block ≡ look.block) × ((shown_of recovery).state.call.seq ≡ look.state.call.seq) × ((shown_of recovery).state.only ≡ look.state.only)
    × (is_of_recovery (shown_of recovery).state.phase ≡ true)

-- a scrub of a brick of the layout
pub record IsScrubOf (layout : Layout) (held : OpenScrub) : Type 0 where
  pub block : held.scrub.look.block ≡ layout.block
  pub goes_on : GoesOnFrom held.scrub.look held.recovery

-- all that the machine sees of it is as it was
pub record IsScrubAsBefore (layout : Layout) (before after : OpenScrub) : Type 0 where
  pub scrubbing_is : scrubbing_of after ≡ scrubbing_of before
  pub of : IsScrubOf layout before → IsScrubOf layout after

-- ---- how it begins

-- one of these members of a stripe has begun, and sends its look
pub record BeginsScrub (layout : Layout) (view : View) (call : CallId) (group : GroupId) (stripe : StripeNo) (stamp : Stamp) (members : List BrickId)
    (begun : OpenScrub) (messages : List (BrickId × Message)) : Type 0 where
  pub look : begun.scrub.look ≡ scrub_op layout view call group stripe stamp members
  pub lagging : begun.scrub.lagging ≡ []
  pub no_recovery : begun.recovery ≡ None
  pub sends : messages ≡ phase_messages begun.scrub.look

-- what the machine's brick does that begins one in this view of the group
abbrev pub scrubbed_by : Setting → Group → View → ℕ → GroupId → StripeNo → List BrickId → BrickId → Node → NodeStep
scrubbed_by setting group view now number stripe members me node =
    (let c = record (coordinator_in group view me now node (scrub_ask number stripe)) { only = Some members } in begun_aside setting me (scrubbing node c) c)

-- ---- replies

-- the cause by which it was aborted, if it was
abbrev pub cause_in : ScrubAnswer → Option Cause
cause_in Clean = None
cause_in (Repaired stamp lagging) = None
cause_in (Aborted cause) = Some cause

-- what is sent, told and reported as it ends so in the phase of this call, with a version that it saw its members keep, if it did
abbrev pub end_outs : OpenScrub → Call → List (BrickId × Message) → Option Stamp → ScrubAnswer → Outcome
end_outs held call messages seen answer =
    record {
      messages = messages;
      told = seen_told call.seq seen ++ (Closed call.seq (cause_in answer) ∷ []);
      answers = [];
      reports = Report.Scrub call (members_of held.scrub) answer ∷ [];
    }

-- Its recovery has begun, and sends its first phase: it goes on from the look, and it is noted who lagged. Its stamp is known from then on.
pub record Recovers (before after : OpenScrub) (known later : ℕ) (outs : Outcome) : Type 0 where
  pub scrub : after.scrub ≡ noted before.scrub
  pub shown : scrub_shown after ≡ entered before.scrub.look Turn.Order
  pub sends : outs.messages ≡ phase_messages (scrub_shown after)
  pub told : outs.told ≡ []
  pub answers : outs.answers ≡ []
  pub reports : outs.reports ≡ []
  pub knows : later ≡ max known before.scrub.look.state.stamp.time

-- what a brick of the machine does on a reply to it, once it knows this time; a new round would have this fresh stamp
abbrev pub scrub_step : Layout → BrickId → Option Stamp → OpenScrub → Node → ℕ → BrickId → Call → Reply → NodeStep
scrub_step layout me fresh held node known from call reply =
    let c = scrub_coordinator_of held in
    carried_scrub (coding layout) me (with_scrubbing (Some (scrubbing_of held)) node) known (scrub_at held) c
    (hearing c from reply (counts_at layout.block c from.0 call reply)) (on_reply layout.block (block_code layout.block) fresh c from call reply)

-- the scrub that is left open by a step with these reports
abbrev pub left_scrub : List Report → OpenScrub → Option OpenScrub
left_scrub [] held = Some held
left_scrub (report ∷ reports) held = None

-- it goes on, as a scrub of the same call, if nothing is reported
abbrev pub KeepsScrub : Layout → List Report → OpenScrub → OpenScrub → Type 0
KeepsScrub layout [] before after = (scrub_seq after ≡ scrub_seq before) × (IsScrubOf layout before → IsScrubOf layout after)
KeepsScrub layout (report ∷ reports) before after = Unit {0}

-- A message to it, which is a reply, comes to what the machine's brick does. The brick knew this time before, and knows this one later.
pub record StepsScrub (layout : Layout) (before : OpenScrub) (from : BrickId) (told : Message) (fresh : Option Stamp) (known : ℕ) (outs : Outcome)
    (after : OpenScrub) (later : ℕ) : Type 0 where
  pub step : (me : BrickId) (node : Node) (call : Call) (reply : Reply) → told ≡ message.Reply call reply → node.calls (scrub_seq before) ≡ None
      → scrub_step layout me fresh before node known from call reply
      ≡ record {
        node = with_scrubbing (scrubbing_in (left_scrub outs.reports after)) (with_known node later);
        packets = packets_from me outs.messages;
        told = outs.told;
        answers = outs.answers;
        reports = outs.reports;
      }
  pub goes_on : KeepsScrub layout outs.reports before after

-- what a member's reply that counts, and tells this later view, comes to: it is aborted by a cause, of which this is told and reported; or it waits for more
abbrev pub MovesScrub : OpenScrub → BrickId → ViewNo → Option Outcome → Type 0
MovesScrub held from view None = EndsOrWaits (scrub_coordinator_of held) from view None
MovesScrub held from view (Some outs) =
    (cause : Cause) × EndsOrWaits (scrub_coordinator_of held) from view (Some (answer.Aborted cause)) × (outs ≡ end_outs held (scrub_coordinator_of held).call [] None (Aborted cause))

-- it has counted a message that counts, and waits for more
pub record HasCountedScrub (from : BrickId) (message : Message) (before after : OpenScrub) : Type 0 where
  pub counted : counts (scrub_shown before) from message ≡ true
  pub now_is : scrub_coordinator_of after ≡ (heard (scrub_shown before) from message).state
  pub lagging : after.scrub.lagging ≡ before.scrub.lagging
  pub of : (layout : Layout) → IsScrubOf layout before → IsScrubOf layout after

-- its operation, without the last reply that counts
abbrev pub without_reply : phased.Operation → phased.Operation
without_reply op = with_state op (without_last op.state)
