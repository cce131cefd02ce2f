-- A brick's state, as the machine sees it.
use Rattle.std.specs.Prelude.{◌≡◌, ℕ, ◌+◌, if◌then◌else◌, List, [], ◌∷◌, Option, Some, None}
use Rattle.std.specs.Option.{option_map}
use Rattle.std.specs.Ordering.{nat_cmp}
use Rattle.std.specs.BTreeMap.{BTreeMap, get, is_at, btree_map_len}
use Rattle.fab_base.specs.declared.identities.BrickId.{BrickId}
use Rattle.version_log.specs.Versions.{Version}
use Rattle.brick_state.specs.States.{StateOf, live}
use Rattle.replica.specs.Parts.{part_in, learnt_in, ballots_in, live_at}
use Rattle.coord_phase.specs.Messages.{packets_from}
use Rattle.node.specs.declared.open_calls.OpenCalls.{OpenCalls}
use Rattle.node.specs.Outcomes.{Outcome}
use Rattle.node.specs.declared.outs.Begun.{Begun}
use Rattle.fab_base.specs.Layouts.{Layout}
use Rattle.protocol.specs.declared.tellings.Answered.{Answered}
use Rattle.protocol.specs.Views.{Learnt}
use Rattle.protocol.specs.Proposals.{Proposal}
use Rattle.synod_laws.specs.Synods.{Kept}
use Rattle.node.specs.declared.proposals.Proposals.{Proposals}
use Rattle.node.specs.declared.open_work.OpenWork.{OpenWork}
use Rattle.node.specs.Proposals.{proposal_in, AreProposalsOf}
use Rattle.protocol.specs.Replicas.{Replica}
use Rattle.node.specs.declared.operations.Operation.{Operation}
use Rattle.node.specs.Operations.{coordinator_of, IsOperationOf}
use Rattle.protocol.specs.Nodes as machine

-- What a brick keeps: how many live records, and how many of each view; the view that it has learnt of each group, and what it keeps of ballots for the successor
-- of that; and its part of each stripe.
pub record KeptParts : Type 0 where
  pub live : ℕ
  pub live_in : ℕ → ℕ → ℕ
  pub learnt : ℕ → Learnt
  pub ballots : ℕ → Kept (List BrickId)
  pub replicas : ℕ → ℕ → ℕ → Replica

-- what a store's state keeps at a brick of this layout
abbrev pub parts_in : Layout → StateOf Version → KeptParts
parts_in layout st =
    record { live = live st; live_in = live_at st; learnt = learnt_in layout st; ballots = ballots_in st; replicas = part_in layout.block st }

-- What a brick has beside its open operations: the greatest round of a ballot that it knows; how many live records it keeps, and how many of each view; the view
-- that it has learnt of each group, and what it keeps of ballots for the successor of that; its part of each stripe; and its proposal.
pub record OtherParts : Type 0 where
  pub round : ℕ
  pub live : ℕ
  pub live_in : ℕ → ℕ → ℕ
  pub learnt : ℕ → Learnt
  pub ballots : ℕ → Kept (List BrickId)
  pub replicas : ℕ → ℕ → ℕ → Replica
  pub proposal : Option Proposal

-- the same, of a brick that keeps this and has these proposals
abbrev pub parts_with : KeptParts → Proposals → OtherParts
parts_with kept proposals =
    record {
      round = proposals.rounds;
      live = kept.live;
      live_in = kept.live_in;
      learnt = kept.learnt;
      ballots = kept.ballots;
      replicas = kept.replicas;
      proposal = proposal_in proposals.under_way;
    }

-- the state of a brick that has these parts, and these calls open
unfoldable pub state_with : OtherParts → OpenCalls → machine.Node
state_with parts calls =
    record {
      boot = calls.stamps.boot;
      seq = calls.seq;
      known = calls.stamps.known;
      round = parts.round;
      busy = btree_map_len calls.operations;
      live = parts.live;
      live_in = parts.live_in;
      learnt = parts.learnt;
      ballots = parts.ballots;
      replicas = parts.replicas;
      calls = λ k. option_map coordinator_of (get nat_cmp calls.operations k);
      proposal = parts.proposal;
      job = None;
      scrub = None;
    }

-- the state of a brick that keeps this, and has these operations and this proposal under way
abbrev pub state_in : KeptParts → OpenWork → machine.Node
state_in kept work = state_with (parts_with kept work.proposals) work.calls

-- the state of a brick that has these parts, whose store was opened so many times, and that has made no call and knows no time since
abbrev pub with_parts : ℕ → OtherParts → machine.Node
with_parts boot parts =
    record {
      boot = boot;
      seq = 0;
      known = 0;
      round = parts.round;
      busy = 0;
      live = parts.live;
      live_in = parts.live_in;
      learnt = parts.learnt;
      ballots = parts.ballots;
      replicas = parts.replicas;
      calls = machine.no_calls;
      proposal = parts.proposal;
      job = None;
      scrub = None;
    }

-- a brick that keeps this, whose store was opened so many times, and that has done nothing since
abbrev pub fresh_node : ℕ → KeptParts → machine.Node
fresh_node boot kept =
    record {
      boot = boot;
      seq = 0;
      known = 0;
      round = 0;
      busy = 0;
      live = kept.live;
      live_in = kept.live_in;
      learnt = kept.learnt;
      ballots = kept.ballots;
      replicas = kept.replicas;
      calls = machine.no_calls;
      proposal = None;
      job = None;
      scrub = None;
    }

-- an open operation of this number, at a brick of this layout
pub record IsAt (layout : Layout) (k : ℕ) (operation : Operation) : Type 0 where
  pub seq : (coordinator_of operation).call.seq ≡ k
  pub is_operation : IsOperationOf layout operation

-- the open calls of a brick of this layout: each operation is of a group of the layout
abbrev pub AreCallsOf : Layout → OpenCalls → Type 0
AreCallsOf layout calls = (k : ℕ) (operation : Operation) → get nat_cmp calls.operations k ≡ Some operation → IsAt layout k operation

-- the calls are of the same opening of the same brick's store; if those before were of this layout, so are those after
pub record AreSameCalls (layout : Layout) (before after : OpenCalls) : Type 0 where
  pub me : after.me ≡ before.me
  pub boot : after.stamps.boot ≡ before.stamps.boot
  pub of : AreCallsOf layout before → AreCallsOf layout after

-- the operation of this number is open too, and the others are as they were
pub record IsOpened {X : Type 0} (k : ℕ) (operation : X) (before after : BTreeMap ℕ X) : Type 0 where
  pub calls : (q : ℕ) → get nat_cmp after q ≡ (if is_at (nat_cmp k) q then Some operation else get nat_cmp before q)
  pub count : btree_map_len after ≡ btree_map_len before + 1

-- the operation of this number is open no more, and the others are
pub record IsClosed {X : Type 0} (k : ℕ) (before after : BTreeMap ℕ X) : Type 0 where
  pub calls : (q : ℕ) → get nat_cmp after q ≡ (if is_at (nat_cmp k) q then None else get nat_cmp before q)
  pub count : btree_map_len after + 1 ≡ btree_map_len before

-- the open operations after a step of the call of number k with these answers: an answered one is open no more
abbrev pub AreCallsAfter : {X : Type 0} → List Answered → ℕ → BTreeMap ℕ X → BTreeMap ℕ X → Type 0
AreCallsAfter [] k before after = after ≡ before
AreCallsAfter (answered ∷ answers) k before after = IsClosed k before after

-- the operations and the proposal are of a brick of this layout
pub record IsWorkOf (layout : Layout) (work : OpenWork) : Type 0 where
  pub calls : AreCallsOf layout work.calls
  pub proposing : AreProposalsOf layout work.proposals

-- they are of the same opening of the same brick's store; if those before were of this layout, so are those after
pub record IsSameWork (layout : Layout) (before after : OpenWork) : Type 0 where
  pub me : after.calls.me ≡ before.calls.me
  pub boot : after.calls.stamps.boot ≡ before.calls.stamps.boot
  pub of : IsWorkOf layout before → IsWorkOf layout after

-- what a new operation of this brick sends is the machine's, its call is the brick's last, and the brick's new state is the machine's
pub record BeginsAs (me : BrickId) (state : machine.Node) (step : machine.NodeStep) (begun : Begun) : Type 0 where
  pub packets : packets_from me begun.messages.items ≡ step.packets
  pub seq : begun.seq ≡ step.node.seq
  pub state_is : state ≡ step.node

-- what a step of this brick sends, tells, answers and reports is the machine's, and the brick's new state is the machine's
pub record StepsAs (me : BrickId) (state : machine.Node) (step : machine.NodeStep) (outs : Outcome) : Type 0 where
  pub packets : packets_from me outs.messages ≡ step.packets
  pub told : outs.told ≡ step.told
  pub answers : outs.answers ≡ step.answers
  pub reports : outs.reports ≡ step.reports
  pub state_is : state ≡ step.node
