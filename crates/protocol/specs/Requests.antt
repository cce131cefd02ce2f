-- What is sent to members: one request to each.
use Rattle.std.specs.Prelude.{ℕ, ◌+◌, if◌then◌else◌, List, [], ◌∷◌}
use Rattle.fab_base.specs.declared.identities.BrickId.{BrickId}
use Rattle.messages.specs.declared.calls.Call.{Call}
use Rattle.messages.specs.declared.packets.Message.{Message}
use Rattle.messages.specs.declared.packets.Packet.{Packet}
use Rattle.messages.specs.declared.requests.Request.{Request}
use Rattle.protocol.specs.declared.phases.Counted.{Counted}
use Rattle.protocol.specs.Coordinators.{has_seat}

-- one request to each member, in the order of seats, the first of them at this seat
abbrev pub to_members : BrickId → Call → (ℕ → Request) → ℕ → List BrickId → List Packet
to_members me call request seat [] = []
to_members me call request seat (member ∷ members) =
    record { from = me; to = member; message = Message.Request call (request seat) } ∷ to_members me call request (seat + 1) members

-- a phase's requests again, in the order of seats, the first of these members at this seat, to each that has
-- no reply that counts
abbrev pub resent_to : BrickId → Call → (ℕ → Request) → List Counted → ℕ → List BrickId → List Packet
resent_to me call request counted seat [] = []
resent_to me call request counted seat (member ∷ members) =
    if has_seat seat counted then resent_to me call request counted (seat + 1) members
    else record { from = me; to = member; message = Message.Request call (request seat) } ∷ resent_to me call request counted (seat + 1) members
