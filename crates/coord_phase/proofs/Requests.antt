-- Whom a phase asks.
use Rattle.std.proofs.Common.{◌≡◌, ℕ, ◌+◌, ◌<◌, Bool, true, cond, List, ◌∷◌, ◌++◌, length, map, drop, get_or, sym, ap, ◌∙◌}
use Rattle.std.proofs.lemmas.List.{at_drop_more}
use Rattle.fab_base.specs.declared.identities.BrickId.{BrickId}
use Rattle.messages.specs.declared.calls.Call.{Call}
use Rattle.messages.specs.declared.packets.Message.{Message}
use Rattle.messages.specs.declared.packets.Message.TheVariants as messages
use Rattle.messages.specs.declared.requests.Request.{Request}
use Rattle.protocol.specs.declared.phases.Counted.{Counted}
use Rattle.protocol.specs.Coordinators.{has_seat}
use Rattle.protocol.specs.Nodes.{resent_to}
use Rattle.messages.specs.declared.packets.Packet.{Packet}
use Rattle.coord_phase.specs.Messages.{without_sender}

-- the requests from this seat on, as any brick sends them
abbrev nobody : BrickId
nobody = record { 0 = 0 }

abbrev silent : List Counted → Call → (ℕ → Request) → ℕ → List BrickId → List Packet
silent counted call asked seat members = resent_to nobody call asked counted seat members

abbrev to_silent : List Counted → Call → (ℕ → Request) → ℕ → List BrickId → List (BrickId × Message)
to_silent counted call asked seat members = map without_sender (silent counted call asked seat members)

-- a member with a counted reply is passed
pub silent_passed : (sent : List (BrickId × Message)) (counted : List Counted) (call : Call) (asked : ℕ → Request) (seat : ℕ) (members : List BrickId)
    (all : List (BrickId × Message))
    → seat < length members → has_seat seat counted ≡ true → sent ++ to_silent counted call asked seat (drop seat members) ≡ all
    → sent ++ to_silent counted call asked (seat + 1) (drop (seat + 1) members) ≡ all
silent_passed sent counted call asked seat members all within has so_far =
    let here = at_drop_more (to_silent counted call asked seat) members seat nobody within in
    let passed = ap (λ (b : Bool). map without_sender (cond b (silent counted call asked (seat + 1) (drop (seat + 1) members))
    (record { from = nobody; to = get_or members seat nobody; message = messages.Request call (asked seat) }
    ∷ silent counted call asked (seat + 1) (drop (seat + 1) members)))) has in
    ap (λ rest. sent ++ rest) (sym (here ∙ passed)) ∙ so_far
