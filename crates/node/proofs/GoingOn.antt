-- What an open operation does is what the machine decides.
use Rattle.std.proofs.Common.{◌≡◌, ◌≤◌, ℕ, ◌+◌, List, [], ◌∷◌, length, Option, Some, None, refl, sym, ◌∙◌, ap, arith}
use Rattle.std.proofs.lemmas.List.{length-map}
use Rattle.fab_base.specs.declared.identities.BrickId.{BrickId}
use Rattle.fab_base.specs.declared.stamps.Stamp.{Stamp}
use Rattle.fab_base.specs.declared.answers.Answer.{Answer}
use Rattle.coord_phase.specs.declared.operations.News.{News}
use Rattle.messages.specs.declared.calls.Call.{Call}
use Rattle.messages.specs.declared.packets.Message.{Message}
use Rattle.messages.specs.declared.requests.Request.{Request}
use Rattle.messages.specs.declared.turns.Next.{Next}
use Rattle.messages.specs.declared.turns.Next.TheVariants.{Send, Wait, End, Recover}
use Rattle.fab_base.specs.Layouts.{Layout}
use Rattle.protocol.specs.Coordinators as machine
use Rattle.protocol.specs.Coordinators.{Coordinator, asked_group, request_of}
use Rattle.protocol.specs.Nodes.{to_members, phase_packets, seen_told}
use Rattle.stripe_code.specs.Codes.{coding, block_code}
use Rattle.coord_phase.specs.Operations as phased
use Rattle.coord_phase.specs.Messages.{phase_messages, packets_from}
use Rattle.coord_phase.specs.Decisions as decisions
use Rattle.coord_phase.specs.Decisions.{begins_in, IsSend}
use Rattle.node.specs.declared.operations.Operation.{Operation}
use Rattle.node.specs.Operations.{shown_of, coordinator_of}
use Rattle.node.specs.Decisions.{messages_in, packets_in, told_in, answers_in, known_by, left_by, Collects, SendsPhase, CarriesOut}
use Rattle.node.specs.Sending.{collect_from, collect_messages}
use Rattle.node.proofs.Sent.{collected_is}

-- what is sent as a phase begins, or again, are the phase's messages
pub sent_so : (op : phased.Operation) (next : Next) → IsSend next → decisions.SendsPhase op next → messages_in next ≡ phase_messages op
sent_so op (Send messages) is sent = sent
sent_so op Wait is sent = absurd is
sent_so op (End answer) is sent = absurd is
sent_so op (Recover turn) is sent = absurd is

-- as many packets are to members as there are members
length-to_members : (me : BrickId) (call : Call) (request : ℕ → Request) (seat : ℕ) (members : List BrickId)
    → length (to_members me call request seat members) ≡ length members
length-to_members me call request seat [] = refl
length-to_members me call request seat (member ∷ members) = let rest = length-to_members me call request (seat + 1) members in omega arith

-- the messages of a phase are as many as the members that it asks
pub count_of_phase : (layout : Layout) (op : Operation) (messages : List (BrickId × Message)) → SendsPhase layout op messages
    → length messages ≡ length (asked_group (coordinator_of op)).members
count_of_phase layout op messages sends =
    let me : BrickId = record { 0 = 0 } in
    let c = coordinator_of op in
    sym (length-map messages (λ (sent : BrickId × Message). record { from = me; to = sent.0; message = sent.1 }))
    ∙ ap length (sends me)
    ∙ length-to_members me c.call (request_of (block_code layout.block) c) 0 (asked_group c).members

-- these messages are as many as the members, if there are any
length-collect_from : (call : Call) (t : Stamp) (members : List BrickId) → length (collect_from call t members) ≡ length members
length-collect_from call t [] = refl
length-collect_from call t (member ∷ members) = let rest = length-collect_from call t members in omega arith

pub few_collects : (call : Call) (stored : Option Stamp) (members : List BrickId) → length (collect_messages call stored members) ≤ length members
few_collects call None members = omega arith
few_collects call (Some t) members = let all = length-collect_from call t members in omega arith

-- what is asked where there is a version to be collected follows from what was
pub collects_more : (stored : Option Stamp) (P Q : Type 0) → (P → Q) → Collects stored P → Collects stored Q
collects_more None P Q more is = tt
collects_more (Some t) P Q more is = more is

-- as a phase begins, it is sent, nothing is answered, and the operation is left open
phase_carried : (layout : Layout) (me : BrickId) (c d : Coordinator) (news : News)
    → phase_packets (coding layout) me d ≡ packets_in layout me c (begins_in news d)
phase_carried layout me c d News.Nothing = refl
phase_carried layout me c d News.Made = refl
phase_carried layout me c d (News.Seen version) = refl
phase_carried layout me c d News.Stored = refl

none_answered : (seq : ℕ) (d : Coordinator) (news : News) → [] ≡ answers_in seq (begins_in news d)
none_answered seq d News.Nothing = refl
none_answered seq d News.Made = refl
none_answered seq d (News.Seen version) = refl
none_answered seq d News.Stored = refl

phase_left : (d : Coordinator) (news : News) → left_by (begins_in news d) ≡ Some d
phase_left d News.Nothing = refl
phase_left d News.Made = refl
phase_left d (News.Seen version) = refl
phase_left d News.Stored = refl

module _ (layout : Layout) (before after : Operation) (block : (shown_of after).block ≡ (shown_of before).block) where
  -- an operation that waits sends and tells nothing
  pub waits_out : (known : ℕ) → (coordinator_of after).call ≡ (coordinator_of before).call
      → CarriesOut layout before after known known (machine.Waits (coordinator_of after)) (record { messages = []; told = []; answers = []; reports = [] })
  waits_out known same =
      record {
        packets = λ me. refl;
        told = refl;
        answers = refl;
        reports = refl;
        knows = refl;
        left = refl;
        keeps = ap (λ (call : Call). call.seq) same;
        block = block;
      }

  -- one that begins a phase sends and tells that
  pub begins_out : (known later : ℕ) (messages : List (BrickId × Message)) → SendsPhase layout after messages
      → (coordinator_of after).call.seq ≡ (coordinator_of before).call.seq
      → (let next = begins_in (shown_of after).news (coordinator_of after) in later ≡ known_by known next
      → CarriesOut layout before after known later next (record { messages = messages; told = told_in (coordinator_of after).call.seq next; answers = []; reports = [] }))
  begins_out known later messages sends seq knows =
      let c = coordinator_of before in
      let d = coordinator_of after in
      let news = (shown_of after).news in
      record {
        packets = λ me. sends me ∙ phase_carried layout me c d news;
        told = ap (λ (n : ℕ). told_in n (begins_in news d)) seq;
        answers = none_answered c.call.seq d news;
        reports = refl;
        knows = knows;
        left = phase_left d news;
        keeps = seq;
        block = block;
      }

  -- and one that ends its answer, with which all may collect
  pub ends_out : (known : ℕ) (call : Call) (answer : Answer) (seen stored : Option Stamp)
      → (coordinator_of after).group ≡ (coordinator_of before).group → call ≡ (coordinator_of before).call
      → CarriesOut layout before after known known (machine.Ends answer seen stored) (record {
        messages = collect_messages call stored (coordinator_of after).group.members;
        told = seen_told call.seq seen;
        answers = record { seq = call.seq; answer = answer } ∷ [];
        reports = [];
      })
  ends_out known call answer seen stored group same =
      record {
        packets = λ me. (λ i. packets_from me (collect_messages (same i) stored (group i).members)) ∙ collected_is me (coordinator_of before) stored;
        told = ap (λ (call : Call). seen_told call.seq seen) same;
        answers = ap (λ (call : Call). record { seq = call.seq; answer = answer } ∷ []) same;
        reports = refl;
        knows = refl;
        left = refl;
        keeps = tt;
        block = block;
      }
