-- What a brick sends of itself, as the machine's packets.
use Rattle.std.proofs.Common.{◌≡◌, ℕ, ◌+◌, ◌<◌, ◌^◌, ◌-◌, Bool, true, false, cond, List, [], ◌∷◌, Option, Some, None, refl, ap}
use Rattle.std.specs.Prelude.{nat_lt}
use Rattle.fab_base.specs.declared.identities.BrickId.{BrickId}
use Rattle.fab_base.specs.declared.stamps.Stamp.{Stamp}
use Rattle.fab_base.specs.declared.identities.ViewNo.{ViewNo}
use Rattle.protocol.specs.Coordinators.{Coordinator}
use Rattle.messages.specs.declared.calls.Call.{Call}
use Rattle.messages.specs.declared.packets.Message.{Message}
use Rattle.messages.specs.declared.requests.Request.{Request}
use Rattle.protocol.specs.Nodes.{to_members, collect_packets, fresh_stamp, new_stamp}
use Rattle.coord_phase.specs.Messages.{packets_from}
use Rattle.replica.specs.Reactions.{answer_packets}
use Rattle.node.specs.Sending.{answer_messages, collect_from, collect_messages}

-- an answer goes back to the sender
pub answered_is : (me to : BrickId) (answer : Option Message) → packets_from me (answer_messages to answer) ≡ answer_packets me to answer
answered_is me to None = refl
answered_is me to (Some message) = refl

collect_is : (me : BrickId) (call : Call) (t : Stamp) (seat : ℕ) (members : List BrickId)
    → packets_from me (collect_from call t members) ≡ to_members me call (λ s. Request.Collect t) seat members
collect_is me call t seat [] = refl
collect_is me call t seat (member ∷ members) =
    ap (λ packets. record { from = me; to = member; message = Message.Request call (Request.Collect t) } ∷ packets)
    (collect_is me call t (seat + 1) members)

-- all members may collect what is below the version that was stored
pub collected_is : (me : BrickId) (c : Coordinator) (stored : Option Stamp)
    → packets_from me (collect_messages c.call stored c.group.members) ≡ collect_packets me c stored
collected_is me c None = refl
collected_is me c (Some t) = collect_is me c.call t 0 c.group.members

-- while a later time is left, a fresh stamp is the brick's new one
pub made_is : (me : BrickId) (view : ViewNo) (now boot known : ℕ) (stamp : Stamp) → known + 1 < 2 ^ 64
    → fresh_stamp me view now boot known ≡ Some stamp → stamp ≡ new_stamp me view now boot known
made_is me view now boot known stamp later made = by (nat_lt known (2 ^ 64 - 1)) refl made
  where
    by : (b : Bool) → nat_lt known (2 ^ 64 - 1) ≡ b → cond b (Some (new_stamp me view now boot known)) None ≡ Some stamp
        → stamp ≡ new_stamp me view now boot known
    by true at is = cc
    by false at is = cc
