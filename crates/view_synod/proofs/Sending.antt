-- Whom a phase asks.
use Rattle.std.proofs.Common.{◌≡◌, ℕ, ◌+◌, ◌<◌, Bool, true, cond, List, ◌∷◌, ◌++◌, length, map, drop, get_or, sym, ap, ◌∙◌}
use Rattle.std.proofs.lemmas.List.{at_drop_more}
use Rattle.fab_base.specs.declared.identities.BrickId.{BrickId}
use Rattle.messages.specs.declared.packets.Message.{Message}
use Rattle.messages.specs.declared.packets.Message.TheVariants as messages
use Rattle.messages.specs.declared.packets.Packet.{Packet}
use Rattle.protocol.specs.Coordinators.{has_seat}
use Rattle.protocol.specs.Nodes.{resent_to}
use Rattle.protocol.specs.Proposals.{Proposal, ballot_request}

-- the packets from this seat on
abbrev silent : Proposal → ℕ → List BrickId → List Packet
silent p seat members = resent_to (record { 0 = 0 }) p.call (λ k. ballot_request p) p.counted seat members

-- the messages from this seat on
abbrev pub to_silent : Proposal → ℕ → List BrickId → List (BrickId × Message)
to_silent p seat members = map (λ (packet : Packet). (packet.to, packet.message)) (silent p seat members)

-- a member with a counted reply is passed
pub silent_passed : (sent : List (BrickId × Message)) (p : Proposal) (seat : ℕ) (members : List BrickId) (all : List (BrickId × Message))
    → seat < length members → has_seat seat p.counted ≡ true → sent ++ to_silent p seat (drop seat members) ≡ all
    → sent ++ to_silent p (seat + 1) (drop (seat + 1) members) ≡ all
silent_passed sent p seat members all within has so_far =
    let here = at_drop_more (to_silent p seat) members seat (record { 0 = 0 }) within in
    let passed = ap (λ (b : Bool). map (λ (packet : Packet). (packet.to, packet.message)) (cond b (silent p (seat + 1) (drop (seat + 1) members))
    (record { from = record { 0 = 0 }; to = get_or members seat (record { 0 = 0 }); message = messages.Request p.call (ballot_request p) }
    ∷ silent p (seat + 1) (drop (seat + 1) members)))) has in
    ap (λ rest. sent ++ rest) (sym (here ∙ passed)) ∙ so_far
