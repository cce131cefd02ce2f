-- What the proposal of a brick does is what the machine decides.
use Rattle.std.proofs.Common.{◌≡◌, ◌≤◌, ◌+◌, ℕ, Bool, true, false, cond, nat_lt, List, [], ◌∷◌, length, Option, Some, None, Vec, Global, refl, sym, ◌∙◌, ap, subst, arith}
use Rattle.std.specs.Option.{option_map}
use Rattle.std.proofs.lemmas.List.{length-map}
use Rattle.std.proofs.lemmas.Bool.{and_parts, eqb-true}
use Rattle.fab_base.specs.declared.identities.BrickId.{BrickId}
use Rattle.fab_base.specs.declared.identities.CallId.{CallId}
use Rattle.fab_base.specs.declared.identities.GroupId.{GroupId}
use Rattle.fab_base.specs.declared.member_lists.View.{View}
use Rattle.fab_base.specs.declared.stamps.Ballot.{Ballot}
use Rattle.fab_base.specs.Layouts.{Layout, Group, seat_in}
use Rattle.quorum.specs.Memberships.{is_membership}
use Rattle.stripe_code.specs.Codes.{coding}
use Rattle.messages.specs.declared.calls.Call.{Call}
use Rattle.messages.specs.declared.packets.Message.{Message}
use Rattle.messages.specs.declared.packets.Message.TheVariants as message
use Rattle.messages.specs.declared.replies.Reply.{Reply}
use Rattle.protocol.specs.declared.tellings.Report.TheVariants as report
use Rattle.protocol.specs.declared.tellings.ViewAnswer.{ViewAnswer}
use Rattle.protocol.specs.declared.tellings.ViewAnswer.TheVariants as answer
use Rattle.protocol.specs.Coordinators.{call_same, new_seat}
use Rattle.protocol.specs.Proposals.{Proposal, Voting, Ignored, Waited, Asks, Ended, ballot_decided, ballot_packets, ballot_quorum, ballot_request, begun_proposal, goes_on, next_ballot, round_used, refused_by, seat_voting, unless_voted_down, voted, voted_at, voting_seat, with_voice}
use Rattle.protocol.specs.Nodes as machine
use Rattle.protocol.specs.Nodes.{Node, NodeStep, ballot_resent, carried_ballot, ended_packets, replied_ballot, with_proposal}
use Rattle.view_synod.specs.declared.answers.ViewNext.{ViewNext}
use Rattle.view_synod.specs.declared.answers.ViewNext.TheVariants as next
use Rattle.view_synod.specs.Proposers.{Proposing, SendsAgain, SendsPhase, StartsAs, started, GoesOn, ballot_messages, voting_in, voting_on}
use Rattle.coord_phase.specs.Messages.{packets_from, without_sender}
use Rattle.node.specs.declared.proposals.OpenProposal.{OpenProposal}
use Rattle.node.specs.Outcomes.{Outcome}
use Rattle.node.specs.declared.proposals.Proposals.{Proposals}
use Rattle.node.specs.Proposals.{GoesAs, HearsSo, ProposesAs, proposal_in}
use Rattle.node.specs.Proposers.{EndsSo, about_in, proposal_of}
use Rattle.node.specs.Teaching.{teaching}
use Rattle.node.proofs.Resending.{few_silent, silent_again}
use Rattle.node.proofs.Taught.{teaching_is}

-- ---- what a proposal sends

-- what it sends are the machine's packets
pub ballot_sent : (me : BrickId) (p : Proposal) → packets_from me (ballot_messages p) ≡ ballot_packets me p
ballot_sent me p = silent_again (record { 0 = 0 }) me p.call (λ seat. ballot_request p) p.counted 0 p.view.members

-- they are at most as many as the members of the view
pub few_ballots : (p : Proposal) (messages : List (BrickId × Message)) → messages ≡ ballot_messages p → length messages ≤ length p.view.members
few_ballots p messages sent =
    let me : BrickId = record { 0 = 0 } in
    let packets = ballot_packets me p in
    let count = few_silent me p.call (λ seat. ballot_request p) p.counted 0 p.view.members in
    let same : length messages ≡ length packets = ap length sent ∙ length-map packets without_sender in
    omega (arith, count, same)

-- what is sent next, if something is
abbrev pub sent_by : ViewNext → List (BrickId × Message)
sent_by (next.Send messages) = messages.items
sent_by next.Wait = []
sent_by (next.End answer) = []

-- the proposal goes on, and does not end
abbrev pub IsNoEnd : ViewNext → Type 0
IsNoEnd (next.Send messages) = Unit {0}
IsNoEnd next.Wait = Unit {0}
IsNoEnd (next.End answer) = ⊥

-- the messages of a phase are sent
pub phase_is : (does : ViewNext) (p : Proposal) → SendsPhase p does → sent_by does ≡ ballot_messages p
phase_is (next.Send messages) p sent = sent
phase_is next.Wait p sent = absurd sent
phase_is (next.End answer) p sent = absurd sent

-- ---- what a proposal is about

-- what a voting leaves of a proposal is about the same group and view, and its end is one of this call
abbrev pub StaysOn : GroupId → View → Call → Voting → Type 0
StaysOn group view call Ignored = Unit {0}
StaysOn group view call (Waited p) = (p.call.group ≡ group) × (p.view ≡ view)
StaysOn group view call (Asks p) = (p.call.group ≡ group) × (p.view ≡ view)
StaysOn group view call (Ended ended answer) = ended ≡ call

going_stays : (p : Proposal) (asks : Option (List BrickId)) → StaysOn p.call.group p.view p.call (goes_on p asks)
going_stays p None = (refl, refl)
going_stays p (Some members) = refl

unless_stays : (p : Proposal) (refused : Option ViewAnswer) → StaysOn p.call.group p.view p.call (unless_voted_down p refused)
unless_stays p None = going_stays p p.asks
unless_stays p (Some refused) = refl

once_stays : (p : Proposal) (b : Bool) → StaysOn p.call.group p.view p.call (cond b (Waited p) (ballot_decided p))
unfolding ballot_decided
once_stays p true = (refl, refl)
once_stays p false = unless_stays p (refused_by p.counted)

at_stays : (p : Proposal) (from : BrickId) (reply : Reply) (seat : Option ℕ) → StaysOn p.call.group p.view p.call (voted_at p from reply seat)
at_stays p from reply None = tt
at_stays p from reply (Some seat) =
    let q = with_voice p seat from reply in
    once_stays q (nat_lt (length q.counted) (ballot_quorum q))

-- calls that are the same are equal
same_call : (a b : Call) → call_same a b ≡ true → a ≡ b
unfolding call_same
same_call a b same =
    let parts = and_parts _ _ same in
    let parts_1 = and_parts _ _ parts.1 in
    let parts_2 = and_parts _ _ parts_1.1 in
    let parts_3 = and_parts _ _ parts_2.1 in
    let parts_4 = and_parts _ _ parts_3.1 in
    let boot = eqb-true a.boot b.boot parts.0 in
    let seq = eqb-true a.seq b.seq parts_1.0 in
    let phase = eqb-true a.phase b.phase parts_2.0 in
    let group = eqb-true a.group.0 b.group.0 parts_3.0 in
    let view = eqb-true a.view.0 b.view.0 parts_4.0 in
    let stripe = eqb-true a.stripe.0 b.stripe.0 parts_4.1 in
    λ i. record {
      boot = boot i;
      seq = seq i;
      phase = phase i;
      group = record { 0 = group i };
      view = record { 0 = view i };
      stripe = record { 0 = stripe i };
    }

pub reply_stays : (bricks : ℕ) (p : Proposal) (from : BrickId) (call : Call) (told : Reply) → StaysOn p.call.group p.view call (voted bricks p from call told)
unfolding seat_voting
reply_stays bricks p from call told = by (call_same call p.call) refl
  where
    seat : Option ℕ
    seat = new_seat p.counted (voting_seat bricks p told (seat_in p.view.members from.0))

    by : (b : Bool) → call_same call p.call ≡ b → StaysOn p.call.group p.view call (voted_at p from told (cond b seat None))
    by true same =
        subst (λ (c : Call). StaysOn p.call.group p.view c (voted_at p from told seat)) (sym (same_call call p.call same)) (at_stays p from told seat)
    by false other = tt

-- what is left after a message is about the same
abbrev AboutSo : GroupId → View → Voting → Type 0
AboutSo group view Ignored = Unit {0}
AboutSo group view (Waited p) = (p.call.group ≡ group) × (p.view ≡ view)
AboutSo group view (Asks p) = (p.call.group ≡ group) × (p.view ≡ view)
AboutSo group view (Ended ended answer) = Unit {0}

about_so : (group : GroupId) (view : View) (call : Call) (voting : Voting) → StaysOn group view call voting → AboutSo group view voting
about_so group view call Ignored is = tt
about_so group view call (Waited p) is = is
about_so group view call (Asks p) is = is
about_so group view call (Ended ended answer) is = tt

message_stays : (x : Proposing) (from : BrickId) (told : Message) → AboutSo x.state.call.group x.state.view (voting_on x from told)
message_stays x from (message.Request call request) = tt
message_stays x from (message.Reply call reply) =
    about_so x.state.call.group x.state.view call (voted x.bricks x.state from call reply) (reply_stays x.bricks x.state from call reply)
message_stays x from (message.Learn group view) = tt
message_stays x from (message.Synced group view) = tt
message_stays x from (message.Client ask) = tt
message_stays x from (message.ClientReply id answer) = tt

same_about : (group : GroupId) (view : View) (p : Proposal) → (p.call.group ≡ group) × (p.view ≡ view) → ◌≡◌ {A = Option (GroupId × View)} (Some (p.call.group, p.view)) (Some (group, view))
same_about group view p is = λ i. Some (is.0 i, is.1 i)

-- a proposal that goes on is about what it was about
about_by : (x : Proposing) (voting : Voting) (does : ViewNext) (after : Option Proposing) → AboutSo x.state.call.group x.state.view voting
    → GoesOn (Some x) voting does after → IsNoEnd does → about_in after ≡ about_in (Some x)
about_by x Ignored does after is goes on = ap about_in goes.1
about_by x (Waited p) does after is goes on = ap about_in goes.1 ∙ same_about x.state.call.group x.state.view p is
about_by x (Asks p) does after is goes on = ap about_in goes.1 ∙ same_about x.state.call.group x.state.view p is
about_by x (Ended call answer) does after is goes on = absurd (subst IsNoEnd goes.0 on)

pub stays_about : (before : Option Proposing) (group : GroupId) (view : View) → about_in before ≡ Some (group, view) → (from : BrickId) (told : Message)
    (does : ViewNext) (after : Option Proposing) → GoesOn before (voting_in before from told) does after → IsNoEnd does → about_in after ≡ Some (group, view)
stays_about None group view about from told does after goes on = absurd cc
stays_about (Some x) group view about from told does after goes on =
    about_by x (voting_on x from told) does after (message_stays x from told) goes on ∙ about

-- it sends few messages
few_by : (x : Proposing) (voting : Voting) (does : ViewNext) (after : Option Proposing) → AboutSo x.state.call.group x.state.view voting
    → GoesOn (Some x) voting does after → IsNoEnd does → length (sent_by does) ≤ length x.state.view.members
few_by x Ignored does after is goes on = let none = ap (λ (d : ViewNext). length (sent_by d)) goes.0 in omega (arith, none)
few_by x (Waited p) does after is goes on = let none = ap (λ (d : ViewNext). length (sent_by d)) goes.0 in omega (arith, none)
few_by x (Asks p) does after is goes on =
    let few = few_ballots p (sent_by does) (phase_is does p goes.0) in
    let same = ap (λ (view : View). length view.members) is.1 in
    omega (arith, few, same)
few_by x (Ended call answer) does after is goes on = absurd (subst IsNoEnd goes.0 on)

pub sends_few : (before : Option Proposing) (group : GroupId) (view : View) → about_in before ≡ Some (group, view) → (from : BrickId) (told : Message)
    (does : ViewNext) (after : Option Proposing) → GoesOn before (voting_in before from told) does after → IsNoEnd does
    → length (sent_by does) ≤ length view.members
sends_few None group view about from told does after goes on = absurd cc
sends_few (Some x) group view about from told does after goes on =
    let few = few_by x (voting_on x from told) does after (message_stays x from told) goes on in
    let both : (x.state.call.group, x.state.view) ≡ (group, view) = cc in
    let same = ap (λ (it : GroupId × View). length it.1.members) both in
    omega (arith, few, same)

-- ---- a reply

module _ (layout : Layout) (me : BrickId) (node : Node) (x : Proposing) (is : node.proposal ≡ Some x.state) where
  -- where it does not end, it does what the machine's does
  goes_by : (voting : Voting) (does : ViewNext) (after : Option Proposing) (left : Option OpenProposal) → GoesOn (Some x) voting does after → IsNoEnd does
      → proposal_in left ≡ proposal_of after
      → GoesAs me node (carried_ballot layout me node x.state voting) (record { messages = sent_by does; told = []; answers = []; reports = [] }) left
  goes_by Ignored does after left goes on same =
      let left_is : node.proposal ≡ proposal_in left = is ∙ sym (same ∙ ap proposal_of goes.1) in
      record {
        packets = ap (λ (d : ViewNext). packets_from me (sent_by d)) goes.0;
        told = refl;
        answers = refl;
        reports = refl;
        node_is = λ i. record node { proposal = left_is i };
      }
  goes_by (Waited p) does after left goes on same =
      record {
        packets = ap (λ (d : ViewNext). packets_from me (sent_by d)) goes.0;
        told = refl;
        answers = refl;
        reports = refl;
        node_is = ap (with_proposal node) (sym (same ∙ ap proposal_of goes.1));
      }
  goes_by (Asks p) does after left goes on same =
      record {
        packets = ap (packets_from me) (phase_is does p goes.0) ∙ ballot_sent me p;
        told = refl;
        answers = refl;
        reports = refl;
        node_is = ap (with_proposal node) (sym (same ∙ ap proposal_of goes.1));
      }
  goes_by (Ended call answer) does after left goes on same = absurd (subst IsNoEnd goes.0 on)

  -- where it ends, it ends as the machine's
  ends_by : (voting : Voting) (answer : ViewAnswer) (after : Option Proposing) (group : GroupId) (view : View) (call : Call) (messages : List (BrickId × Message))
      → GoesOn (Some x) voting (next.End answer) after → StaysOn x.state.call.group x.state.view call voting → x.state.call.group ≡ group → x.state.view ≡ view
      → EndsSo layout group view answer messages
      → GoesAs me node (carried_ballot layout me node x.state voting)
      (record { messages = messages; told = []; answers = []; reports = report.View group (Some call) answer ∷ [] }) None
  ends_by Ignored answer after group view call messages goes stays about_group about_view ends = absurd (let wrong = goes.0 in cc)
  ends_by (Waited p) answer after group view call messages goes stays about_group about_view ends = absurd (let wrong = goes.0 in cc)
  ends_by (Asks p) answer after group view call messages goes stays about_group about_view ends = absurd goes.0
  ends_by (Ended ended told) answer after group view call messages goes stays about_group about_view ends =
      let same : answer ≡ told = (let both = goes.0 in cc) in
      record {
        packets = ends me x.state about_group about_view ∙ ap (ended_packets layout me x.state) same;
        told = refl;
        answers = refl;
        reports = λ i. report.View (sym about_group i) (Some (sym stays i)) (same i) ∷ [];
        node_is = refl;
      }

-- what the proposal does with a message, as a step of the brick
module _ (layout : Layout) (from : BrickId) (call : Call) (told : Message) where
  replied_so : (before : Option Proposing) → option_map (λ (x : Proposing). x.bricks) before ≡ Some layout.bricks → (does : ViewNext) (after : Option Proposing)
      → GoesOn before (voting_in before from told) does after → IsNoEnd does → (held : OpenProposal) → held.proposer ≡ before
      → (left : Option OpenProposal) → proposal_in left ≡ proposal_of after
      → HearsSo layout (Some held) from call told (record { messages = sent_by does; told = []; answers = []; reports = [] }) left
  replied_so None on does after goes going held holds left same = absurd cc
  replied_so (Some x) on does after goes going held holds left same = λ me node reply is proposal.
      let bricks : x.bricks ≡ layout.bricks = cc in
      let outs : Outcome = record { messages = sent_by does; told = []; answers = []; reports = [] } in
      let now : voting_in (Some x) from told ≡ voted layout.bricks x.state from call reply =
      ap (voting_in (Some x) from) is ∙ ap (λ (n : ℕ). voted n x.state from call reply) bricks in
      let here = subst (λ (v : Voting). GoesOn (Some x) v does after) now goes in
      let kept : node.proposal ≡ Some x.state = proposal ∙ ap proposal_of holds in
      subst (λ (p : Option Proposing). GoesAs me node (replied_ballot layout me from node call reply (proposal_of p)) outs left) (sym holds)
      (goes_by layout me node x kept (voted layout.bricks x.state from call reply) does after left here going same)

  pub hears_on : (held : OpenProposal) → option_map (λ (x : Proposing). x.bricks) held.proposer ≡ Some layout.bricks → (does : ViewNext) (after : Option Proposing)
      → GoesOn held.proposer (voting_in held.proposer from told) does after → IsNoEnd does → (outs : Outcome)
      → outs ≡ record { messages = sent_by does; told = []; answers = []; reports = [] } → (left : Option OpenProposal) → proposal_in left ≡ proposal_of after
      → HearsSo layout (Some held) from call told outs left
  hears_on held on does after goes going outs sends left same =
      subst (λ (o : Outcome). HearsSo layout (Some held) from call told o left) (sym sends)
      (replied_so held.proposer on does after goes going held refl left same)

  ended_so : (before : Option Proposing) → option_map (λ (x : Proposing). x.bricks) before ≡ Some layout.bricks → (group : GroupId) (view : View)
      → about_in before ≡ Some (group, view) → (answer : ViewAnswer) (after : Option Proposing) → GoesOn before (voting_in before from told) (next.End answer) after
      → (held : OpenProposal) → held.proposer ≡ before → (messages : List (BrickId × Message)) → EndsSo layout group view answer messages
      → HearsSo layout (Some held) from call told
      (record { messages = messages; told = []; answers = []; reports = report.View group (Some call) answer ∷ [] }) None
  ended_so None on group view about answer after goes held holds messages ends = absurd cc
  ended_so (Some x) on group view about answer after goes held holds messages ends = λ me node reply is proposal.
      let bricks : x.bricks ≡ layout.bricks = cc in
      let outs : Outcome = record { messages = messages; told = []; answers = []; reports = report.View group (Some call) answer ∷ [] } in
      let now : voting_in (Some x) from told ≡ voted layout.bricks x.state from call reply =
      ap (voting_in (Some x) from) is ∙ ap (λ (n : ℕ). voted n x.state from call reply) bricks in
      let here = subst (λ (v : Voting). GoesOn (Some x) v (next.End answer) after) now goes in
      let kept : node.proposal ≡ Some x.state = proposal ∙ ap proposal_of holds in
      let both : (x.state.call.group, x.state.view) ≡ (group, view) = cc in
      subst (λ (p : Option Proposing). GoesAs me node (replied_ballot layout me from node call reply (proposal_of p)) outs None) (sym holds)
      (ends_by layout me node x kept (voted layout.bricks x.state from call reply) answer after group view call messages here
      (reply_stays layout.bricks x.state from call reply) (ap (λ (it : GroupId × View). it.0) both) (ap (λ (it : GroupId × View). it.1) both) ends)

  pub hears_end : (held : OpenProposal) → option_map (λ (x : Proposing). x.bricks) held.proposer ≡ Some layout.bricks → (answer : ViewAnswer) (after : Option Proposing)
      → GoesOn held.proposer (voting_in held.proposer from told) (next.End answer) after → (messages : List (BrickId × Message))
      → EndsSo layout held.group held.view answer messages
      → HearsSo layout (Some held) from call told
      (record { messages = messages; told = []; answers = []; reports = report.View held.group (Some call) answer ∷ [] }) None
  hears_end held on answer after goes messages ends = ended_so held.proposer on held.group held.view held.about answer after goes held refl messages ends

-- ---- a tick

-- what is sent again is what the machine sends
pub again_so : (before : Option Proposing) (group : GroupId) (view : View) → about_in before ≡ Some (group, view) → (messages : Vec (BrickId × Message) Global)
    → SendsAgain before (next.Send messages) → (me : BrickId) → packets_from me (teaching group view messages.items) ≡ ballot_resent me (proposal_of before)
again_so None group view about messages sends me = absurd cc
again_so (Some x) group view about messages sends me =
    let both : (x.state.call.group, x.state.view) ≡ (group, view) = cc in
    teaching_is me group view messages.items
    ∙ ap (λ (it : GroupId × View). machine.teaching it.0 it.1 (packets_from me messages.items)) (sym both)
    ∙ ap (λ (sent : List (BrickId × Message)). machine.teaching x.state.call.group x.state.view (packets_from me sent)) sends
    ∙ ap (machine.teaching x.state.call.group x.state.view) (ballot_sent me x.state)

-- it is at most as much as the view has members
pub again_few : (before : Option Proposing) (group : GroupId) (view : View) → about_in before ≡ Some (group, view) → (messages : Vec (BrickId × Message) Global)
    → SendsAgain before (next.Send messages) → length messages.items ≤ length view.members
again_few None group view about messages sends = absurd cc
again_few (Some x) group view about messages sends =
    let both : (x.state.call.group, x.state.view) ≡ (group, view) = cc in
    let same = ap (λ (it : GroupId × View). length it.1.members) both in
    let few = few_ballots x.state messages.items sends in
    omega (arith, few, same)

-- ---- a new proposal

begun_few : (x : Proposing) (b : Bool) (messages : Vec (BrickId × Message) Global) (after : Option Proposing)
    → StartsAs (cond b (Some x) None) (next.Send messages) after → length messages.items ≤ length x.state.view.members
begun_few x true messages after starts = few_ballots x.state messages.items starts.0
begun_few x false messages after starts = absurd (let wrong = starts.0 in cc)

-- a new proposal sends at most as much as its view has members
pub begins_few : (bricks m : ℕ) (group : GroupId) (view : View) (call : CallId) (ballot : Ballot) (members : List BrickId)
    (messages : Vec (BrickId × Message) Global) (after : Option Proposing)
    → StartsAs (started bricks m group view call ballot members) (next.Send messages) after → length messages.items ≤ length view.members
begins_few bricks m group view call ballot members messages after starts =
    begun_few (record { bricks = bricks; state = begun_proposal m group view call ballot members }) (is_membership m bricks members) messages after starts

begun_as : (me : BrickId) (node : Node) (bricks : ℕ) (p : Proposal) (other : NodeStep) (b : Bool) (messages : Vec (BrickId × Message) Global)
    (proposer : Option Proposing) (after : Proposals) → StartsAs (cond b (Some (record { bricks = bricks; state = p })) None) (next.Send messages) proposer
    → after.rounds ≡ round_used node.round b → proposal_in after.under_way ≡ proposal_of proposer → p.call.seq ≡ node.seq + 1 → p.ballot.round ≡ node.round + 1
    → ProposesAs me node (cond b (machine.sending (machine.proposing node p) (ballot_packets me p)) other) b
    (record { messages = messages.items; told = []; answers = []; reports = [] }) after
begun_as me node bricks p other true messages proposer after starts used held seq round =
    let proposal = sym (held ∙ ap proposal_of starts.1) in
    let rounds = round ∙ sym used in
    record {
      packets = ap (packets_from me) starts.0 ∙ ballot_sent me p;
      told = refl;
      answers = refl;
      reports = refl;
      node_is = λ i. record node { seq = seq i; round = rounds i; proposal = proposal i };
    }
begun_as me node bricks p other false messages proposer after starts used held seq round = absurd (let wrong = starts.0 in cc)

-- a proposal that begins does so as the machine's
module _ (layout : Layout) (me : BrickId) (node : Node) (kept : Group) (group : GroupId) (view : View) (call : CallId) (members : List BrickId) (rounds : ℕ)
    (round : node.round ≡ rounds) (learnt : (node.learnt group.0).view ≡ view) (calls : machine.next_call node ≡ call) where
  pub begins_so : (bricks m : ℕ) (about : View) → bricks ≡ layout.bricks → m ≡ kept.m → about ≡ view → (messages : Vec (BrickId × Message) Global)
      (proposer : Option Proposing) (after : Proposals) (outs : Outcome)
      → StartsAs (started bricks m group about call (next_ballot rounds me call) members) (next.Send messages) proposer
      → after.rounds ≡ round_used rounds (is_membership m bricks members) → proposal_in after.under_way ≡ proposal_of proposer
      → outs ≡ record { messages = messages.items; told = []; answers = []; reports = [] }
      → ProposesAs me node (machine.proposed_in (coding layout) me node group members (Some kept)) (is_membership kept.m layout.bricks members) outs after
  begins_so bricks m about bricks_is m_is about_is messages proposer after outs starts used held sends =
      let p = machine.new_proposal me node kept.m group members in
      let b = is_membership kept.m layout.bricks members in
      let view_is : about ≡ (node.learnt group.0).view = about_is ∙ sym learnt in
      let call_is = sym calls in
      let round_is = sym round in
      let same : started bricks m group about call (next_ballot rounds me call) members
      ≡ started layout.bricks kept.m group (node.learnt group.0).view (machine.next_call node) (next_ballot node.round me (machine.next_call node)) members =
      λ i. started (bricks_is i) (m_is i) group (view_is i) (call_is i) (next_ballot (round_is i) me (call_is i)) members in
      let rounds_are : after.rounds ≡ round_used node.round b = used ∙ (λ i. round_used (round_is i) (is_membership (m_is i) (bricks_is i) members)) in
      subst (λ (o : Outcome). ProposesAs me node (machine.proposed_in (coding layout) me node group members (Some kept)) b o after) (sym sends)
      (begun_as me node layout.bricks p (machine.reporting node [] (report.View group None answer.BadMembers)) b messages proposer after
      (subst (λ (x : Option Proposing). StartsAs x (next.Send messages) proposer) same starts) rounds_are held refl refl)
