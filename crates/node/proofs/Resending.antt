-- What an open operation sends again.
use Rattle.std.proofs.Common.{◌≡◌, ◌≤◌, ℕ, zero, suc, ◌+◌, Bool, true, false, if◌then◌else◌, List, [], ◌∷◌, ◌++◌, length, map, Option, Some, None, refl, ◌∙◌, ap, arith}
use Rattle.std.specs.Option.{option_map}
use Rattle.std.specs.List.{flat_map, AllByRecursion}
use Rattle.std.proofs.lemmas.List.{map-append, length-map}
use Rattle.fab_base.specs.declared.identities.BrickId.{BrickId}
use Rattle.messages.specs.declared.calls.Call.{Call}
use Rattle.messages.specs.declared.packets.Message.{Message}
use Rattle.messages.specs.declared.packets.Packet.{Packet}
use Rattle.messages.specs.declared.requests.Request.{Request}
use Rattle.protocol.specs.declared.phases.Counted.{Counted}
use Rattle.fab_base.specs.Layouts.{Layout}
use Rattle.protocol.specs.Settings.{Setting}
use Rattle.protocol.specs.Coordinators.{Coordinator, asked_group, has_seat, request_of}
use Rattle.protocol.specs.Nodes as machine
use Rattle.protocol.specs.Nodes.{to_members, phase_packets, resent_to, resent, resent_up_to, view_in}
use Rattle.stripe_code.specs.Codes.{block_code, coding}
use Rattle.coord_phase.specs.Operations as phased
use Rattle.coord_phase.specs.Messages.{without_sender, phase_messages, packets_from}
use Rattle.node.specs.declared.operations.Operation.{Operation}
use Rattle.node.specs.Operations.{shown_of, coordinator_of, IsOperationOf}
use Rattle.node.specs.Teaching.{teaching}
use Rattle.node.proofs.Taught.{teaching_is}
use Rattle.node.proofs.Ticks.{of_value, by_key}

-- one packet more, or none, whichever brick sends it
one_packet : (you me to : BrickId) (message : Message) (b : Bool) (theirs mine : List Packet) → packets_from me (map without_sender theirs) ≡ mine
    → packets_from me (map without_sender (if b then theirs else (record { from = you; to = to; message = message } ∷ theirs))) ≡
    (if b then mine else (record { from = me; to = to; message = message } ∷ mine))
one_packet you me to message true theirs mine e = e
one_packet you me to message false theirs mine e = ap (λ rest. record { from = me; to = to; message = message } ∷ rest) e

-- messages to the members without a reply that counts are the machine's packets
pub silent_again : (you me : BrickId) (call : Call) (request : ℕ → Request) (counted : List Counted) (seat : ℕ) (members : List BrickId)
    → packets_from me (map without_sender (resent_to you call request counted seat members)) ≡ resent_to me call request counted seat members
silent_again you me call request counted seat [] = refl
silent_again you me call request counted seat (member ∷ members) =
    one_packet you me member (Message.Request call (request seat)) (has_seat seat counted) (resent_to you call request counted (seat + 1) members)
    (resent_to me call request counted (seat + 1) members) (silent_again you me call request counted (seat + 1) members)

-- where no reply counts yet, all members are asked
all_asked : (me : BrickId) (call : Call) (request : ℕ → Request) (seat : ℕ) (members : List BrickId)
    → resent_to me call request [] seat members ≡ to_members me call request seat members
all_asked me call request seat [] = refl
all_asked me call request seat (member ∷ members) =
    ap (λ packets. record { from = me; to = member; message = Message.Request call (request seat) } ∷ packets)
    (all_asked me call request (seat + 1) members)

-- one packet more, or none, is at most one for one member more
one_more : (sent : Packet) (b : Bool) (packets : List Packet) (n : ℕ) → length packets ≤ n → length (if b then packets else (sent ∷ packets)) ≤ n + 1
one_more sent true packets n few = omega arith
one_more sent false packets n few = omega arith

-- they are at most as many as the members
pub few_silent : (me : BrickId) (call : Call) (request : ℕ → Request) (counted : List Counted) (seat : ℕ) (members : List BrickId)
    → length (resent_to me call request counted seat members) ≤ length members
few_silent me call request counted seat [] = omega arith
few_silent me call request counted seat (member ∷ members) =
    let more = one_more (record { from = me; to = member; message = Message.Request call (request seat) }) (has_seat seat counted)
    (resent_to me call request counted (seat + 1) members) (length members)
    (few_silent me call request counted (seat + 1) members) in
    omega arith

-- an operation of a layout sends its phase again as the machine does
phase_again : (layout : Layout) (op : phased.Operation) (me : BrickId) → op.block ≡ layout.block
    → packets_from me (phase_messages op)
    ≡ resent_to me op.state.call (request_of (block_code layout.block) op.state) op.state.counted 0 (asked_group op.state).members
phase_again layout op me block =
    silent_again (record { 0 = 0 }) me op.state.call (request_of (block_code op.block) op.state) op.state.counted 0 (asked_group op.state).members
    ∙ ap (λ block. resent_to me op.state.call (request_of (block_code block) op.state) op.state.counted 0 (asked_group op.state).members) block

-- and first, to all members that it asks
pub phase_sent : (layout : Layout) (op : phased.Operation) (me : BrickId) → op.block ≡ layout.block → op.state.counted ≡ []
    → packets_from me (phase_messages op) ≡ phase_packets (coding layout) me op.state
phase_sent layout op me block none =
    phase_again layout op me block
    ∙ ap (λ counted. resent_to me op.state.call (request_of (block_code layout.block) op.state) counted 0 (asked_group op.state).members) none
    ∙ all_asked me op.state.call (request_of (block_code layout.block) op.state) 0 (asked_group op.state).members

-- what an operation sends at a tick
abbrev pub sends_again : Operation → List (BrickId × Message)
sends_again op = teaching (coordinator_of op).call.group (view_in (coordinator_of op)) (phase_messages (shown_of op))

-- it is what the machine sends
pub again_so : (layout : Layout) (op : phased.Operation) (me : BrickId) → op.block ≡ layout.block
    → packets_from me (teaching op.state.call.group (view_in op.state) (phase_messages op)) ≡ resent (coding layout) me (Some op.state)
again_so layout op me block =
    teaching_is me op.state.call.group (view_in op.state) (phase_messages op)
    ∙ ap (machine.teaching op.state.call.group (view_in op.state)) (phase_again layout op me block)

pub again_is : (layout : Layout) (op : Operation) (me : BrickId) → IsOperationOf layout op
    → packets_from me (sends_again op) ≡ resent (coding layout) me (Some (coordinator_of op))
again_is layout op me block = again_so layout (shown_of op) me block

-- so do all the operations of a layout, one after the other
pub all_send_again : (layout : Layout) (me : BrickId) (ops : List Operation) → AllByRecursion (λ (op : Operation). IsOperationOf layout op) ops
    → packets_from me (flat_map (λ (op : Operation). sends_again op) ops)
    ≡ flat_map (λ (op : Operation). resent (coding layout) me (Some (coordinator_of op))) ops
all_send_again layout me [] each = refl
all_send_again layout me (op ∷ ops) each =
    map-append (λ (sent : BrickId × Message). record { from = me; to = sent.0; message = sent.1 }) (sends_again op)
    (flat_map (λ (op : Operation). sends_again op) ops)
    ∙ ap (λ front. front ++ packets_from me (flat_map (λ (op : Operation). sends_again op) ops)) (again_is layout op me each.0)
    ∙ ap (λ back. resent (coding layout) me (Some (coordinator_of op)) ++ back) (all_send_again layout me ops each.1)

-- what the machine sends again is what the calls 1 to n give
pub resent_by_key : (setting : Setting) (me : BrickId) (calls : ℕ → Option Coordinator) (n : ℕ)
    → resent_up_to setting me calls n ≡ by_key (λ k. resent setting me (calls k)) n
resent_by_key setting me calls zero = refl
resent_by_key setting me calls (suc k) = ap (λ front. front ++ resent setting me (calls (suc k))) (resent_by_key setting me calls k)

-- an open operation, if there is one, sends again what its coordinator does
pub resent_of : (setting : Setting) (me : BrickId) (held : Option Operation)
    → resent setting me (option_map coordinator_of held) ≡ of_value (λ op. resent setting me (Some (coordinator_of op))) held
resent_of setting me None = refl
resent_of setting me (Some op) = refl

-- its messages are few where the members that it asks are
pub few_again : (op : phased.Operation) (messages : List (BrickId × Message)) → messages ≡ phase_messages op → length (asked_group op.state).members ≤ 32
    → length messages ≤ 32
few_again op messages sent small =
    let me : BrickId = record { 0 = 0 } in
    let packets = resent_to me op.state.call (request_of (block_code op.block) op.state) op.state.counted 0 (asked_group op.state).members in
    let count = few_silent me op.state.call (request_of (block_code op.block) op.state) op.state.counted 0 (asked_group op.state).members in
    let same : length messages ≡ length packets = ap length sent ∙ length-map packets without_sender in
    omega arith
