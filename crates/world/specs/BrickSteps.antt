-- What a step of one brick makes of the bricks.
use Rattle.std.specs.Prelude.{◌≡◌, ℕ, Bool, false, List, set, slice_get, Option, Some, Result, Ok, IfOk, OnErr}
use Rattle.fab_base.specs.Layouts.{Layout}
use Rattle.fab_base.specs.declared.answers.Refusal.{Refusal}
use Rattle.fab_base.specs.declared.asks.Ask.{Ask}
use Rattle.fab_base.specs.declared.faults.NoMem.{NoMem}
use Rattle.fab_base.specs.declared.identities.BrickId.{BrickId}
use Rattle.fab_base.specs.declared.identities.GroupId.{GroupId}
use Rattle.fab_base.specs.declared.identities.StripeNo.{StripeNo}
use Rattle.lines.specs.declared.forms.Fault.{Fault}
use Rattle.messages.specs.declared.packets.Packet.{Packet}
use Rattle.stripe_code.specs.Codes.{coding}
use Rattle.node.specs.Faults.{RefusesAs}
use Rattle.node.specs.Outcomes.{Outcome as Sent}
use Rattle.node.specs.Running.{state_of, IsSameBrick}
use Rattle.node.specs.States.{BeginsAs, StepsAs}
use Rattle.node.specs.declared.faults.NodeFault.{NodeFault}
use Rattle.node.specs.declared.outs.Begun.{Begun}
use Rattle.protocol.specs.Nodes as machine
use Rattle.world.specs.Shown.{IsUpWith, Rests, Takes, TurnsOn, disk_in}
use Rattle.world.specs.declared.bricks.Brick.{Brick}
use Rattle.world.specs.declared.bricks.Power.{Power}
use Rattle.world.specs.declared.bricks.Power.TheVariants.{Up, Down}

-- The power of the brick of a number may be another now, and nothing else is. This holds of the brick as it was, and of its power now.
pub record ChangesBrick (old new : List Brick) (number : BrickId) (Holds : Brick → Power → Type 0) : Type 0 where
  pub brick : Brick
  pub at : slice_get old number.0 ≡ Some brick
  pub power : Power
  pub now : new ≡ set old number.0 (record brick { power = power })
  pub holds : Holds brick power

-- The brick runs, and runs on over its store as it was. This holds of its layout, its number, its clock, and its state as the machine sees it, then and now.
abbrev pub RunsOn : (Layout → BrickId → ℕ → machine.Node → machine.Node → Type 0) → Brick → Power → Type 0
RunsOn Holds brick power =
    IsUpWith brick.power (λ node. IsUpWith power (λ next. IsSameBrick node next × (next.brick ≡ node.brick)
    × Holds node.layout node.me brick.clock (state_of node) (state_of next)))

-- A brick that is asked for an operation begins it as the machine's does, or refuses it as that does, and stays as it is.
pub record DoesBegin (ask : Ask) (result : Result Begun NodeFault) (layout : Layout) (me : BrickId) (time : ℕ) (state next : machine.Node) : Type 0 where
  pub refused : RefusesAs result (machine.refusal_of layout state ask)
  pub begun : IfOk result (BeginsAs me next (machine.invoked (coding layout) me time state ask))
  pub stays : OnErr result (next ≡ state)

-- A brick takes this step of the machine's, or refuses it for this reason, and stays as it is.
pub record StepsOrStays (refusal : Option Refusal) (step : machine.NodeStep) (result : Result Sent NodeFault) (me : BrickId) (state next : machine.Node) : Type 0 where
  pub refused : RefusesAs result refusal
  pub steps : IfOk result (StepsAs me next step)
  pub stays : OnErr result (next ≡ state)

-- so where it is asked to propose, so where it is asked to synchronise, and so where it is asked to scrub
abbrev pub DoesPropose : GroupId → List BrickId → Result Sent NodeFault → Layout → BrickId → ℕ → machine.Node → machine.Node → Type 0
DoesPropose group members result layout me time state next =
    StepsOrStays (machine.proposal_refusal layout state group.0) (machine.proposed (coding layout) me state group members) result me state next

abbrev pub DoesSync : GroupId → Result Sent NodeFault → Layout → BrickId → ℕ → machine.Node → machine.Node → Type 0
DoesSync group result layout me time state next =
    StepsOrStays (machine.sync_refusal layout state group.0) (machine.synced_at (coding layout) me time state group) result me state next

abbrev pub DoesScrub : GroupId → StripeNo → List BrickId → Result Sent NodeFault → Layout → BrickId → ℕ → machine.Node → machine.Node → Type 0
DoesScrub group stripe members result layout me time state next =
    StepsOrStays (machine.scrub_refusal layout state group stripe members) (machine.scrubbed_at (coding layout) me time state group stripe members) result me
    state next

-- the brick runs, and is handed a message
abbrev pub DoesHandle : Packet → Option Fault → Result (Option Sent) NoMem → Brick → Power → Type 0
DoesHandle packet fault result brick power =
    IsUpWith brick.power (λ node. Takes node.layout node.me (state_of node) brick.clock packet node.brick.disk fault power result)

-- a brick that is up does not start, and one that is down does, where it may, whichever of two its disk holds
abbrev pub StartsFrom : Layout → BrickId → Option Fault → Result Bool NoMem → Power → Power → Type 0
StartsFrom layout me fault result (Up node) power = (power ≡ Up node) × (result ≡ Ok false)
StartsFrom layout me fault result (Down disk) power =
    (state after : machine.Node) → Rests layout me state after disk → TurnsOn layout me state after disk fault power result

abbrev pub DoesStart : Layout → BrickId → Option Fault → Result Bool NoMem → Brick → Power → Type 0
DoesStart layout me fault result brick power = StartsFrom layout me fault result brick.power power

-- its disk is all that is left of a brick that stops
abbrev pub Stops : Brick → Power → Type 0
Stops brick power = power ≡ Down (disk_in brick.power)
