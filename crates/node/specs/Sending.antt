-- What a brick sends of itself.
use Rattle.std.specs.Prelude.{List, [], ◌∷◌, Option, Some, None}
use Rattle.fab_base.specs.declared.identities.BrickId.{BrickId}
use Rattle.fab_base.specs.declared.stamps.Stamp.{Stamp}
use Rattle.messages.specs.declared.calls.Call.{Call}
use Rattle.messages.specs.declared.packets.Message.{Message}
use Rattle.messages.specs.declared.requests.Request.TheVariants.{Collect}

-- each member may collect what is below this version
abbrev pub collect_from : Call → Stamp → List BrickId → List (BrickId × Message)
collect_from call t [] = []
collect_from call t (member ∷ members) = (member, Message.Request call (Collect t)) ∷ collect_from call t members

-- so where a version was stored
abbrev pub collect_messages : Call → Option Stamp → List BrickId → List (BrickId × Message)
collect_messages call None members = []
collect_messages call (Some t) members = collect_from call t members

-- the answer goes back to the sender
abbrev pub answer_messages : BrickId → Option Message → List (BrickId × Message)
answer_messages to None = []
answer_messages to (Some answer) = (to, answer) ∷ []
