-- The open operations of a brick, as the machine sees them.
use Rattle.std.specs.Prelude.{◌≡◌, ℕ, Option, Some, None}
use Rattle.fab_base.specs.declared.answers.Answer.{Answer}
use Rattle.fab_base.specs.declared.identities.BrickId.{BrickId}
use Rattle.fab_base.specs.declared.identities.ViewNo.{ViewNo}
use Rattle.fab_base.specs.declared.stamps.Stamp.{Stamp}
use Rattle.fab_base.specs.Layouts.{Layout}
use Rattle.messages.specs.declared.calls.Call.{Call}
use Rattle.messages.specs.declared.replies.Lineage.{Lineage}
use Rattle.messages.specs.declared.replies.Reply.TheVariants.{Moved}
use Rattle.protocol.specs.Settings.{Code}
use Rattle.protocol.specs.Coordinators as machine
use Rattle.protocol.specs.Coordinators.{Coordinator, counts_at, on_reply, with_reply}
use Rattle.coord_phase.specs.Operations as phased
use Rattle.node.specs.declared.operations.Operation.{Operation}
use Rattle.node.specs.Kinds.{shown_in}

-- what its coordinator shows of an operation
abbrev pub shown_of : Operation → phased.Operation
shown_of op = shown_in op.kind.value

-- the machine's coordinator of an operation
abbrev pub coordinator_of : Operation → Coordinator
coordinator_of op = (shown_of op).state

-- the blocks of an operation are those of the layout
abbrev pub IsOperationOf : Layout → Operation → Type 0
IsOperationOf layout op = (shown_of op).block ≡ layout.block

-- an operation ends with this answer, or waits so
abbrev pub ends_or_waits : Option Answer → Coordinator → machine.Next
ends_or_waits None c = machine.Waits c
ends_or_waits (Some answer) c = machine.Ends answer None None

-- on a reply of a member that counts and tells this later view the coordinator ends its operation so, or waits
abbrev pub EndsOrWaits : Coordinator → BrickId → ViewNo → Option Answer → Type 0
EndsOrWaits c from view ended =
    (block : ℕ) (code : Code) (fresh : Option Stamp) (call : Call) (lineage : Option Lineage) (seat : ℕ)
    → counts_at block c from.0 call (Moved view lineage) ≡ Some seat
    → on_reply block code fresh c from call (Moved view lineage) ≡ ends_or_waits ended (with_reply c seat from (Moved view lineage))
