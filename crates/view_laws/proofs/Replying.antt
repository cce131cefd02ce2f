-- What a brick owes when it handles a reply: to an open operation, or to its proposal.
use Rattle.std.proofs.Common.{◌≡◌, ℕ, ◌+◌, ◌<◌, ◌≤◌, Bool, true, false, cond, inr, List, [], ◌∷◌, ◌++◌, length, Option, Some, None, refl, sym, ap, ◌∙◌, subst, arith, nat_lt, nat_eq}
use Rattle.std.specs.Prelude.{slice_get}
use Rattle.std.proofs.lemmas.Bool.{cond_both, and_from, eq-eqb}
use Rattle.std.proofs.lemmas.Bool.Decides.{nat_tests}
use Rattle.std.proofs.lemmas.Option.{same_Some}
use Rattle.fab_base.specs.declared.identities.BrickId.{BrickId}
use Rattle.fab_base.specs.declared.identities.GroupId.{GroupId}
use Rattle.fab_base.specs.declared.identities.ViewNo.{ViewNo}
use Rattle.fab_base.specs.declared.member_lists.View.{View}
use Rattle.fab_base.specs.declared.stamps.Ballot.{Ballot}
use Rattle.fab_base.specs.Layouts.{Layout, Group, group_of, first_view}
use Rattle.messages.specs.declared.calls.Call.{Call}
use Rattle.messages.specs.declared.packets.Message.{Message}
use Rattle.messages.specs.declared.packets.Packet.{Packet}
use Rattle.messages.specs.declared.requests.Request.{Request}
use Rattle.messages.specs.declared.replies.Reply.{Reply}
use Rattle.messages.specs.declared.replies.Reply.TheVariants as reply
use Rattle.quorum.specs.Quorums.{quorum_of}
use Rattle.synod_laws.specs.Synods.{IsChosen, ballot_same, value_or}
use Rattle.synod_laws.proofs.Ballots.{ballot_same_refl}
use Rattle.synod_laws.proofs.Agreement.{two_chosen, chosen_stays}
use Rattle.protocol.specs.Settings.{Setting, Code}
use Rattle.protocol.specs.Views.{members_of, view_told, learn_in, group_kept}
use Rattle.protocol.specs.Proposals.{Proposal, Voting, Ignored, Waited, Asks, Ended, ballot_quorum, ballot_packets, seat_voting, with_voice, refused_by, greatest_choice, asking, voted}
use Rattle.protocol.specs.Coordinators.{Coordinator, Next, Ignores, Waits, Sends, Makes, Ends, request_of, on_reply, asked_group, hearing, counts_at}
use Rattle.protocol.specs.Nodes.{Node, NodeStep, put, no_step, with_known, with_round, known_after, carried_for, job_reading, coordinator_in, collect_packets, read_closed, synced_packets, phase_packets, fresh_stamp, view_in, carried_out, resent_to, learn_packets, decided_view, ended_packets, carried_ballot, replied_ballot, replied_at, counts_here, view_counted, node_taught_by, replied, lists_fit, heard, scrub_of}
use Rattle.protocol.proofs.Packets.{OfEach, each_none, each_both, each_member, each_collect, each_ballot, each_learn}
use Rattle.protocol.proofs.Tables.{put_each}
use Rattle.protocol.specs.Jobs.{Job, Attempt, job_ask}
use Rattle.view_laws.proofs.SyncReads.{carried_each, each_synced}
use Rattle.view_laws.proofs.FirstTold.{first_told, first_some, first_of_later, first_alike}
use Rattle.view_laws.proofs.Histories.{ViewWorld, IsSent, IsNamed, named_in, accept_in, accept_is, IsAccept, history, seated, seated_grows, PacketSays, MessageSays, IsDecided, IsTaught, Extends, name_stays, name_has_number, names_once, known_taught, name_is, ballot_called, kept_is}
use Rattle.view_laws.proofs.Agreeing.{IsSafeIn, Agreed, KeepsViews, Turn, turned, sending_more}
use Rattle.view_laws.proofs.Calling.{Called, OfBallot}
use Rattle.view_laws.proofs.CallSteps.{phase_names_none}
use Rattle.view_laws.proofs.Owning.{SameCall, KeepsView, taught_own, reply_view_kept, fresh_of}
use Rattle.view_laws.proofs.Voices.{refused_sends_none}
use Rattle.view_laws.proofs.Votings.{voting_each}
use Rattle.view_laws.proofs.Drafting.{DraftSays, Drafting, draft_stays, still_unproposed, AcceptsNone, StepSays, BodySays, body_own, step_extends}
use Rattle.view_laws.proofs.Deciding.{HasLimits, voice_says, group_at_draft, group_is, within, majority, agrees, asks_safely, asked_chosen, chosen_fits}
use Rattle.view_laws.proofs.Requesting.{no_turn, taught_turn}
use Rattle.protocol.specs.Scrubs.{Scrub}

-- ---- what a reply teaches

-- a view that a reply teaches, it tells
pub told_view : (layout : Layout) (v : ViewWorld) (from to : BrickId) (call : Call) (said : Reply) (view : View) → Agreed layout v
    → IsSent v.packets (record { from = from; to = to; message = Message.Reply call said }) → view_told said ≡ Some view
    → IsNamed layout v.packets call.group.0 view
told_view layout v from to call said view agreed sent told = by said (agreed.says sent.0 _ sent.1) told
  where
    by : (z : Reply) → MessageSays layout v from.0 to.0 (Message.Reply call z) → view_told z ≡ Some view → IsNamed layout v.packets call.group.0 view
    by (reply.Moved number (Some lineage)) says is =
        subst (λ (z : View). IsNamed layout v.packets call.group.0 z)
        (same_Some (record { number = number; members = lineage.members; prior = lineage.prior }) view is) says.0
    by (reply.Moved number None) says is = cc
    by (reply.Found order newest) says is = cc
    by reply.Ordered says is = cc
    by (reply.OrderedRead found) says is = cc
    by reply.Stored says is = cc
    by (reply.Behind newest) says is = cc
    by (reply.Later stamp) says is = cc
    by (reply.Full live) says is = cc
    by (reply.Old found) says is = cc
    by reply.Retired says is = cc
    by (reply.Promise accepted) says is = cc
    by reply.Accepted says is = cc
    by (reply.Outbid ballot) says is = cc
    by reply.NotSynced says is = cc

-- a brick that is taught what a reply tells, if it counts, stays or learns it
pub reply_turn : (layout : Layout) (v : ViewWorld) (from to : BrickId) (call : Call) (said : Reply) (node mid : Node) → Agreed layout v
    → IsSent v.packets (record { from = from; to = to; message = Message.Reply call said }) → KeepsViews node mid → (counting : Node)
    → Turn layout v.packets node (node_taught_by layout.block call.group.0 mid (view_counted layout from counting call said))
reply_turn layout v from to call said node mid agreed sent keeps counting =
    cond_both (counts_here layout from call said counting.proposal (counting.calls call.seq)) (view_told said) None
    (λ (z : Option View). Turn layout v.packets node (node_taught_by layout.block call.group.0 mid z))
    (λ counts. by (view_told said) refl) (λ isnt. no_turn layout v.packets node mid keeps)
  where
    by : (z : Option View) → view_told said ≡ z → Turn layout v.packets node (node_taught_by layout.block call.group.0 mid z)
    by None none = no_turn layout v.packets node mid keeps
    by (Some view) some =
        taught_turn layout v.packets node mid layout.block call.group.0 view keeps (told_view layout v from to call said view agreed sent some)

-- ---- packets

-- a packet that owes nothing: it asks to accept no list, and says nothing
pub record IsQuiet (layout : Layout) (packet : Packet) : Type 0 where
  pub none : (g e : ℕ) (b : Ballot) (members : List BrickId) → accept_in g e b packet.message ≡ Some members → ⊥
  pub says : (v : ViewWorld) → PacketSays layout v packet

-- requests that are equal ask the same, under the same call
same_request : (call other : Call) (one two : Request) → Message.Request call one ≡ Message.Request other two → one ≡ two
same_request call other one two is = cc

-- requests to accept that are equal name the same ballot and list
pub same_accept : (call other : Call) (b c : Ballot) (one two : List BrickId)
    → Message.Request call (Request.Accept b one) ≡ Message.Request other (Request.Accept c two) → (call ≡ other) × (b ≡ c) × (one ≡ two)
same_accept call other b c one two is = (cc, cc, cc)

-- a request that asks to accept no list, and says nothing
quiet_request : (layout : Layout) (from to : BrickId) (call : Call) (request : Request)
    → ((b : Ballot) (members : List BrickId) → request ≡ Request.Accept b members → ⊥)
    → ((v : ViewWorld) → MessageSays layout v from.0 to.0 (Message.Request call request))
    → IsQuiet layout (record { from = from; to = to; message = Message.Request call request })
quiet_request layout from to call request never says = record {
  none = λ g e b members asks.
      let accept = accept_is g e b (Message.Request call request) members asks in
      never b members (same_request call accept.call request (Request.Accept b members) accept.is);
  says = says;
}

-- one that names no ballot is such
pub request_quiet : (layout : Layout) (from to : BrickId) (call : Call) (request : Request) → OfBallot (λ other b. ⊥) call request
    → IsQuiet layout (record { from = from; to = to; message = Message.Request call request })
request_quiet layout from to call (Request.Read want) none = quiet_request layout from to call (Request.Read want) (λ b members is. cc) (λ v. tt)
request_quiet layout from to call (Request.Order t) none = quiet_request layout from to call (Request.Order t) (λ b members is. cc) (λ v. tt)
request_quiet layout from to call (Request.OrderRead t look want) none =
    quiet_request layout from to call (Request.OrderRead t look want) (λ b members is. cc) (λ v. tt)
request_quiet layout from to call (Request.Write t block) none = quiet_request layout from to call (Request.Write t block) (λ b members is. cc) (λ v. tt)
request_quiet layout from to call (Request.Modify t base j delta) none =
    quiet_request layout from to call (Request.Modify t base j delta) (λ b members is. cc) (λ v. tt)
request_quiet layout from to call (Request.Collect t) none = quiet_request layout from to call (Request.Collect t) (λ b members is. cc) (λ v. tt)
request_quiet layout from to call (Request.OldRead bound) none = quiet_request layout from to call (Request.OldRead bound) (λ b members is. cc) (λ v. tt)
request_quiet layout from to call (Request.Prepare ballot) none = absurd none
request_quiet layout from to call (Request.Accept ballot members) none = absurd none

-- what a phase of an operation sends is such
pub phase_quiet : (layout : Layout) (code : Code) (from to : BrickId) (call : Call) (c : Coordinator) (seat : ℕ)
    → IsQuiet layout (record { from = from; to = to; message = Message.Request call (request_of code c seat) })
phase_quiet layout code from to call c seat =
    request_quiet layout from to call (request_of code c seat) (phase_names_none (λ other b. ⊥) call code c seat)

-- a request to accept a list asks to accept it
accept_here : (g e : ℕ) (call : Call) (b : Ballot) (members : List BrickId) → call.group.0 ≡ g → call.view.0 ≡ e
    → accept_in g e b (Message.Request call (Request.Accept b members)) ≡ Some members
accept_here g e call b members group view =
    ap (λ (t : Bool). cond t (cond (ballot_same b b) (Some members) None) None)
    (and_from (nat_eq call.group.0 g) (nat_eq call.view.0 e) (eq-eqb call.group.0 g group) (eq-eqb call.view.0 e view))
    ∙ ap (λ (t : Bool). cond t (Some members) None) (ballot_same_refl b)

-- a message that teaches a view teaches it
learn_here : (g : ℕ) (group : GroupId) (view : View) → group.0 ≡ g → learn_in g view.number.0 (Message.Learn group view) ≡ Some view
learn_here g group view same =
    ap (λ (t : Bool). cond t (Some view) None)
    (and_from (nat_eq group.0 g) (nat_eq view.number.0 view.number.0) (eq-eqb group.0 g same) (eq-eqb view.number.0 view.number.0 refl))

-- a phase goes to some member
sends_one : (me : BrickId) (call : Call) (request : ℕ → Request) (members : List BrickId) → 1 ≤ length members
    → (to : BrickId) × (slice_get (resent_to me call request [] 0 members) 0 ≡ Some (record { from = me; to = to; message = Message.Request call (request 0) }))
sends_one me call request [] some = absurd (omega (arith, some))
sends_one me call request (member ∷ members) some = (member, refl)

-- the name of a later view is what the first message teaches
named_later : (layout : Layout) (packets : List Packet) (g e : ℕ) → 1 < e
    → named_in layout packets g e ≡ first_told (λ packet. learn_in g e packet.message) packets
named_later layout packets g e later =
    let above : nat_lt 1 e ≡ true = grind (arith, nat_tests, later) in
    ap (λ (t : Bool). cond t (first_told (λ packet. learn_in g e packet.message) packets) (cond (nat_eq e 1) (Some (first_view (members_of (group_of layout g)))) None)) above

-- views with the same number, members and members before are the same
view_of : ℕ → List BrickId → List BrickId → View
view_of number members prior = record { number = record { 0 = number }; members = members; prior = prior }

-- a view is made of these
view_is : (a : View) → a ≡ view_of a.number.0 a.members a.prior
unfolding view_of
view_is a = refl

-- so views with equal parts are equal
pub view_from : (a b : View) → a.number.0 ≡ b.number.0 → a.members ≡ b.members → a.prior ≡ b.prior → a ≡ b
view_from a b number members prior =
    view_is a ∙ (let e : view_of a.number.0 a.members a.prior ≡ view_of b.number.0 b.members b.prior = cc in e) ∙ sym (view_is b)

-- ---- what a decision decides

-- a message that all stripes are kept in a view is such
pub synced_quiet : (layout : Layout) (from to : BrickId) (group : GroupId) (view : ViewNo)
    → IsQuiet layout (record { from = from; to = to; message = Message.Synced group view })
synced_quiet layout from to group view = record { none = λ g e b members asks. let never : None ≡ Some members = asks in cc; says = λ v. tt }

-- the synchronisation whose read has a call's number is the brick's
pub reading_is : (job : Option Job) (seq : ℕ) (found : Job) → job_reading job seq ≡ Some found → job ≡ Some found
reading_is None seq found is = is
reading_is (Some job) seq found is =
    cond_both (nat_eq job.seq seq) (Some job) None (λ (z : Option Job). z ≡ Some found → Some job ≡ Some found) (λ same at. at)
    (λ other none. absurd (let never : None ≡ Some found = none in cc)) is

-- the view of a read of a synchronisation is that of the synchronisation
pub read_named : (layout : Layout) (packets : List Packet) (job : Job) (group : Group) → group_kept layout job.view.members job.group.0 ≡ Some group
    → (me : BrickId) (now : ℕ) (node : Node) (attempt : Attempt) → IsNamed layout packets job.group.0 job.view
    → (let d = coordinator_in group job.view me now node (job_ask (record job { attempt = attempt })) in IsNamed layout packets d.call.group.0 (view_in d))
read_named layout packets job group kept me now node attempt named =
    let d : Coordinator = coordinator_in group job.view me now node (job_ask (record job { attempt = attempt })) in
    let parts = kept_is layout job.view.members job.group.0 group kept in
    let view : view_in d ≡ job.view = view_from (view_in d) job.view refl (ap (λ (z : Group). z.members) parts.2) refl in
    subst (λ (z : View). IsNamed layout packets job.group.0 z) (sym view) named

-- what was decided to follow a known view was chosen by its members
decided_after : (layout : Layout) (v : ViewWorld) (g : ℕ) (view before : View) (group : Group) → IsDecided layout v g view → IsNamed layout v.packets g before
    → view.number.0 ≡ before.number.0 + 1 → group_kept layout before.members g ≡ Some group
    → ((b : Ballot) × IsChosen (length group.members) (quorum_of group) (seated group (history v g before.number.0)) b view.members)
    × (view.prior ≡ before.members)
decided_after layout v g view before group decided named next group_is =
    let number : decided.before.number.0 ≡ before.number.0 = (let first = decided.next in omega (arith, first, next)) in
    let same : decided.before ≡ before = names_once layout v.packets g decided.before before decided.named named number in
    let kept : group_kept layout before.members g ≡ Some decided.group
    = subst (λ (z : View). group_kept layout z.members g ≡ Some decided.group) same decided.group_is in
    let chosen : IsChosen (length decided.group.members) (quorum_of decided.group) (seated decided.group (history v g before.number.0)) decided.ballot view.members
    = subst (λ (z : View).
    IsChosen (length decided.group.members) (quorum_of decided.group) (seated decided.group (history v g z.number.0)) decided.ballot view.members)
    same decided.chosen in (
      (
        decided.ballot,
        subst (λ (z : Group). IsChosen (length z.members) (quorum_of z) (seated z (history v g before.number.0)) decided.ballot view.members)
            (same_Some decided.group group (sym kept ∙ group_is)) chosen,
      ),
      decided.prior ∙ ap (λ (z : View). z.members) same,
    )

-- what a brick keeps of views it keeps as it carries out what an operation or a proposal decided
carried_keeps : (setting : Setting) (me : BrickId) (node : Node) (known : ℕ) (c : Coordinator) (next : Next)
    → KeepsViews node (carried_out setting me node known c next).node
carried_keeps setting me node known c Ignores = (refl, refl)
carried_keeps setting me node known c (Waits d) = (refl, refl)
carried_keeps setting me node known c (Sends d) = (refl, refl)
carried_keeps setting me node known c (Makes d) = (refl, refl)
carried_keeps setting me node known c (Ends answered seen stored) = (refl, refl)

-- so it does as it reads for its synchronisation, or scrubs
carried_for_keeps : (setting : Setting) (me : BrickId) (now : ℕ) (node : Node) (known : ℕ) (c heard : Coordinator) (next : Next) (reading : Option Job)
    (scrub : Option Scrub) → KeepsViews node (carried_for setting me now node known c heard next reading scrub).node
carried_for_keeps setting me now node known c heard next reading scrub =
    carried_each (λ (step : NodeStep). KeepsViews node step.node) setting me now node known c heard next reading scrub
    (carried_keeps setting me node known c next)
    (λ job is answered seen stored ends. record {
      stays = (refl, refl);
      ends = λ answer. (refl, refl);
      finishes = (refl, refl);
      reads = λ attempt group kept. (refl, refl);
    })
    (record { begins = λ s is d sends. (refl, refl); ends = λ s is answered seen stored ended. (refl, refl) })

-- as it carries out what its proposal decided
ballot_keeps : (layout : Layout) (me : BrickId) (node : Node) (p : Proposal) (voting : Voting) → KeepsViews node (carried_ballot layout me node p voting).node
ballot_keeps layout me node p Ignored = (refl, refl)
ballot_keeps layout me node p (Waited q) = (refl, refl)
ballot_keeps layout me node p (Asks q) = (refl, refl)
ballot_keeps layout me node p (Ended call ended) = (refl, refl)

-- as it handles a reply to its proposal
proposal_keeps : (layout : Layout) (me from : BrickId) (node : Node) (call : Call) (said : Reply) (z : Option Proposal)
    → KeepsViews node (replied_ballot layout me from node call said z).node
proposal_keeps layout me from node call said None = (refl, refl)
proposal_keeps layout me from node call said (Some p) = ballot_keeps layout me node p (voted layout.bricks p from call said)

-- and as it handles any reply
pub replied_keeps : (setting : Setting) (me : BrickId) (now : ℕ) (from : BrickId) (node : Node) (call : Call) (said : Reply) (z : Option Coordinator)
    → KeepsViews node (replied_at setting me now from (with_round node said) call said z).node
replied_keeps setting me now from node call said None =
    proposal_keeps setting.layout me from (with_known (with_round node said) (known_after node.known said)) call said node.proposal
replied_keeps setting me now from node call said (Some c) =
    carried_for_keeps setting me now (with_round node said) (known_after node.known said) c
    (hearing c from said (counts_at setting.layout.block c from.0 call said))
    (on_reply setting.layout.block setting.code (fresh_stamp me c.stamp.view now node.boot (known_after node.known said)) c from call said)
    (job_reading node.job c.call.seq) (scrub_of node.scrub c.call.seq)

module _ (setting : Setting) (limits : HasLimits setting.layout) (v : ViewWorld) (called : Called v.packets v.nodes) (agreed : Agreed setting.layout v)
    (drafting : Drafting setting.layout v) (me from : BrickId) (call : Call) (said : Reply)
    (sent : IsSent v.packets (record { from = from; to = me; message = Message.Reply call said })) (next : Node)
    (turn : Turn setting.layout v.packets (v.nodes me.0) next) where
  abbrev x : ViewWorld
  x = turned v me.0 next

  -- more is known after the step
  extends : (new : List Packet) → Extends setting.layout v (sending_more x new)
  extends new = step_extends setting.layout v me.0 next new agreed turn

  -- what it owes of the proposal, where that is as it was
  still_drafts : (new : List Packet) → AcceptsNone new → (q : Proposal) → (v.nodes me.0).proposal ≡ Some q → DraftSays setting.layout (sending_more x new) me.0 q
  still_drafts new none q is =
      draft_stays setting.layout v (sending_more x new) me.0 q (extends new)
      (λ unasked. still_unproposed v.packets new q.call.group.0 q.view.number.0 q.ballot ((drafting.drafts me.0 q is).unasked unasked)
      (λ k packet members at asks. none k packet at q.call.group.0 q.view.number.0 q.ballot members asks))
      (drafting.drafts me.0 q is)

  -- a brick whose operations are of known views, and that sends what owes nothing
  quiet_body : (mid : Node) (new : List Packet)
      → ((k : ℕ) (c : Coordinator) → mid.calls k ≡ Some c → IsNamed setting.layout v.packets c.call.group.0 (view_in c))
      → ((j : Job) → mid.job ≡ Some j → IsNamed setting.layout v.packets j.group.0 j.view)
      → mid.proposal ≡ (v.nodes me.0).proposal → OfEach (IsQuiet setting.layout) new → BodySays setting.layout v x me.0 mid new
  quiet_body mid new calls jobs proposal quiet = record {
    calls = calls;
    jobs = jobs;
    drafts = λ q is. still_drafts new (λ k packet at. (quiet k packet at).none) q (sym proposal ∙ is);
    accepts = λ k packet at g e b members asks. absurd ((quiet k packet at).none g e b members asks);
    says = λ k packet at. (quiet k packet at).says (sending_more x new);
  }

  -- the views of its operations are known
  known_calls : (k : ℕ) (c : Coordinator) → (v.nodes me.0).calls k ≡ Some c → IsNamed setting.layout v.packets c.call.group.0 (view_in c)
  known_calls k c is = drafting.calls me.0 k c is

  -- the view of its synchronisation is
  known_jobs : (mid : Node) → mid.job ≡ (v.nodes me.0).job → (j : Job) → mid.job ≡ Some j → IsNamed setting.layout v.packets j.group.0 j.view
  known_jobs mid same j is = drafting.jobs me.0 j (sym same ∙ is)

  -- and with one that is as it was, or gone
  one_call : (seq : ℕ) (changed : Option Coordinator)
      → ((d : Coordinator) → changed ≡ Some d → IsNamed setting.layout v.packets d.call.group.0 (view_in d))
      → (k : ℕ) (d : Coordinator) → put (v.nodes me.0).calls seq changed k ≡ Some d → IsNamed setting.layout v.packets d.call.group.0 (view_in d)
  one_call seq changed new =
      put_each (λ k (o : Option Coordinator). (d : Coordinator) → o ≡ Some d → IsNamed setting.layout v.packets d.call.group.0 (view_in d)) (v.nodes me.0).calls
      seq changed new (λ k other d is. known_calls k d is)

  -- the view of an operation that goes on is known
  same_known : (c d : Coordinator) → IsNamed setting.layout v.packets c.call.group.0 (view_in c) → SameCall c d
      → IsNamed setting.layout v.packets d.call.group.0 (view_in d)
  same_known c d known same =
      subst (λ (group : GroupId). IsNamed setting.layout v.packets group.0 (view_in d)) (sym same.group)
      (subst (λ (view : View). IsNamed setting.layout v.packets c.call.group.0 view) (sym same.view) known)

  -- the same of a brick with these operations
  kept_calls : (mid : Node) → mid.calls ≡ (v.nodes me.0).calls → (seq : ℕ) (changed : Option Coordinator)
      → ((d : Coordinator) → changed ≡ Some d → IsNamed setting.layout v.packets d.call.group.0 (view_in d))
      → (k : ℕ) (d : Coordinator) → put mid.calls seq changed k ≡ Some d → IsNamed setting.layout v.packets d.call.group.0 (view_in d)
  kept_calls mid calls seq changed new k d is =
      one_call seq changed new k d (sym (ap (λ (t : ℕ → Option Coordinator). put t seq changed k) calls) ∙ is)

  -- an operation that goes on
  goes_on_known : (c d : Coordinator) → IsNamed setting.layout v.packets c.call.group.0 (view_in c) → SameCall c d → (z : Coordinator) → Some d ≡ Some z
      → IsNamed setting.layout v.packets z.call.group.0 (view_in z)
  goes_on_known c d named same z is =
      subst (λ (y : Coordinator). IsNamed setting.layout v.packets y.call.group.0 (view_in y)) (same_Some d z is) (same_known c d named same)

  -- what its phase sends owes nothing
  phase_sends : (d : Coordinator) → OfEach (IsQuiet setting.layout) (phase_packets setting me d)
  phase_sends d =
      each_member (IsQuiet setting.layout) me d.call (request_of setting.code d) (λ seat to. phase_quiet setting.layout setting.code me to d.call d seat) 0
      (asked_group d).members

  -- what an operation decided is carried out
  carried_body : (mid : Node) → mid.calls ≡ (v.nodes me.0).calls → mid.job ≡ (v.nodes me.0).job → mid.proposal ≡ (v.nodes me.0).proposal → (known : ℕ)
      (c : Coordinator)
      → IsNamed setting.layout v.packets c.call.group.0 (view_in c) → (decision : Next) → KeepsView c decision
      → (let step = carried_out setting me mid known c decision in BodySays setting.layout v x me.0 step.node step.packets)
  carried_body mid calls jobs proposal known c named Ignores keeps =
      quiet_body _ [] (λ k d is. known_calls k d (sym (ap (λ (t : ℕ → Option Coordinator). t k) calls) ∙ is)) (known_jobs mid jobs) proposal (each_none (IsQuiet setting.layout))
  carried_body mid calls jobs proposal known c named (Waits d) keeps =
      quiet_body _ [] (kept_calls mid calls c.call.seq (Some d) (goes_on_known c d named keeps)) (known_jobs mid jobs) proposal
      (each_none (IsQuiet setting.layout))
  carried_body mid calls jobs proposal known c named (Sends d) keeps =
      quiet_body _ _ (kept_calls mid calls c.call.seq (Some d) (goes_on_known c d named keeps)) (known_jobs mid jobs) proposal
      (phase_sends d)
  carried_body mid calls jobs proposal known c named (Makes d) keeps =
      quiet_body _ _ (kept_calls mid calls c.call.seq (Some d) (goes_on_known c d named keeps)) (known_jobs mid jobs) proposal
      (phase_sends d)
  carried_body mid calls jobs proposal known c named (Ends answered seen stored) keeps =
      quiet_body _ _ (kept_calls mid calls c.call.seq None (λ z is. absurd (let never : None ≡ Some z = is in cc))) (known_jobs mid jobs) proposal
      (each_collect (IsQuiet setting.layout) me c stored (λ t to. request_quiet setting.layout me to c.call (Request.Collect t) tt))

  -- so is what the coordinator of a synchronisation's read or of a scrub decided, where the view of that is known
  carried_for_body : (now : ℕ) (mid : Node) → mid.calls ≡ (v.nodes me.0).calls → mid.job ≡ (v.nodes me.0).job → mid.proposal ≡ (v.nodes me.0).proposal
      → (known : ℕ) (c heard : Coordinator) → IsNamed setting.layout v.packets c.call.group.0 (view_in c) → (decision : Next) → KeepsView c decision
      → (reading : Option Job) → ((job : Job) → reading ≡ Some job → IsNamed setting.layout v.packets job.group.0 job.view) → (scrub : Option Scrub)
      → (let step = carried_for setting me now mid known c heard decision reading scrub in BodySays setting.layout v x me.0 step.node step.packets)
  carried_for_body now mid calls jobs proposal known c heard named decision keeps reading read scrub =
      carried_each (λ (step : NodeStep). BodySays setting.layout v x me.0 step.node step.packets) setting me now mid known c heard decision reading scrub
      (carried_body mid calls jobs proposal known c named decision keeps)
      (λ job is answered seen stored ends.
      let gone = kept_calls mid calls c.call.seq None (λ z same. absurd (let never : None ≡ Some z = same in cc)) in
      let collects = each_collect (IsQuiet setting.layout) me c stored (λ t to. request_quiet setting.layout me to c.call (Request.Collect t) tt) in
      let none : (j : Job) → None ≡ Some j → IsNamed setting.layout v.packets j.group.0 j.view = λ j same. absurd (let never : None ≡ Some j = same in cc) in
      record {
        stays = quiet_body _ _ gone (known_jobs mid jobs) proposal
            (each_both (IsQuiet setting.layout) (collect_packets me c stored) [] collects (each_none (IsQuiet setting.layout)));
        ends = λ answer. quiet_body _ _ gone none proposal
            (each_both (IsQuiet setting.layout) (collect_packets me c stored) [] collects (each_none (IsQuiet setting.layout)));
        finishes = quiet_body _ _ gone none proposal
            (each_both (IsQuiet setting.layout) (collect_packets me c stored) (synced_packets me job.group job.view.number setting.layout.bricks 0) collects
            (each_synced (IsQuiet setting.layout) me job.group job.view.number (λ to. synced_quiet setting.layout me to job.group job.view.number)
            setting.layout.bricks 0));
        reads = λ attempt group kept.
            let d : Coordinator = coordinator_in group job.view me now (read_closed me mid known c answered seen stored).node (job_ask (record job { attempt = attempt })) in
            quiet_body _ _
            (put_each (λ k (o : Option Coordinator). (z : Coordinator) → o ≡ Some z → IsNamed setting.layout v.packets z.call.group.0 (view_in z))
            (put mid.calls c.call.seq None) d.call.seq (Some d)
            (λ z same. subst (λ (y : Coordinator). IsNamed setting.layout v.packets y.call.group.0 (view_in y)) (same_Some d z same)
            (read_named setting.layout v.packets job group kept me now (read_closed me mid known c answered seen stored).node attempt (read job is)))
            (λ k other z same. gone k z same))
            (λ j same. subst (λ (y : Job). IsNamed setting.layout v.packets y.group.0 y.view)
            (same_Some (record job { attempt = attempt; seq = d.call.seq }) j same) (read job is))
            proposal
            (each_both (IsQuiet setting.layout) (collect_packets me c stored) (phase_packets setting me d) collects (phase_sends d));
      })
      (record {
        begins = λ s is d sends. quiet_body _ _
            (kept_calls mid calls c.call.seq (Some d) (goes_on_known c d named (subst (λ (z : Next). KeepsView c z) sends keeps))) (known_jobs mid jobs) proposal
            (phase_sends d);
        ends = λ s is answered seen stored ended. quiet_body _ _
            (kept_calls mid calls c.call.seq None (λ z same. absurd (let never : None ≡ Some z = same in cc))) (known_jobs mid jobs) proposal
            (each_both (IsQuiet setting.layout) (collect_packets me c stored) []
            (each_collect (IsQuiet setting.layout) me c stored (λ t to. request_quiet setting.layout me to c.call (Request.Collect t) tt))
            (each_none (IsQuiet setting.layout)));
      })

  -- ---- the proposal

  -- the operations of a brick with another proposal
  other_calls : (mid : Node) → mid.calls ≡ (v.nodes me.0).calls → (k : ℕ) (c : Coordinator) → mid.calls k ≡ Some c
      → IsNamed setting.layout v.packets c.call.group.0 (view_in c)
  other_calls mid calls k c at = known_calls k c (sym (ap (λ (t : ℕ → Option Coordinator). t k) calls) ∙ at)

  -- it waits for more replies
  waits_body : (mid : Node) → mid.calls ≡ (v.nodes me.0).calls → mid.job ≡ (v.nodes me.0).job → (p : Proposal) → (v.nodes me.0).proposal ≡ Some p → (seat : ℕ)
      → seat_voting setting.layout.bricks p from.0 call said ≡ Some seat
      → BodySays setting.layout v x me.0 (record mid { proposal = Some (with_voice p seat from said) }) []
  waits_body mid calls jobs p is seat counts = record {
    calls = other_calls mid calls;
    jobs = known_jobs mid jobs;
    drafts = λ q same. subst (λ (z : Proposal). DraftSays setting.layout (sending_more x []) me.0 z) (same_Some (with_voice p seat from said) q same)
        (draft_stays setting.layout v (sending_more x []) me.0 (with_voice p seat from said) (extends [])
        (λ unasked. still_unproposed v.packets [] p.call.group.0 p.view.number.0 p.ballot ((drafting.drafts me.0 p is).unasked unasked)
        (λ k packet members at asks. let never : None ≡ Some packet = at in cc))
        (voice_says setting.layout v me.0 p from call said seat (drafting.drafts me.0 p is) counts sent));
    accepts = λ k packet at g e b members asks. absurd (let never : None ≡ Some packet = at in cc);
    says = λ k packet at. absurd (let never : None ≡ Some packet = at in cc);
  }

  -- it ends and sends nothing
  gone_body : (mid : Node) → mid.calls ≡ (v.nodes me.0).calls → mid.job ≡ (v.nodes me.0).job → (new : List Packet) → new ≡ []
      → BodySays setting.layout v x me.0 (record mid { proposal = None }) new
  gone_body mid calls jobs new none =
      subst (λ (l : List Packet). BodySays setting.layout v x me.0 (record mid { proposal = None }) l) (sym none)
      (record {
        calls = other_calls mid calls;
        jobs = known_jobs mid jobs;
        drafts = λ q same. absurd (let never : None ≡ Some q = same in cc);
        accepts = λ k packet at g e b members asks. absurd (let never : None ≡ Some packet = at in cc);
        says = λ k packet at. absurd (let never : None ≡ Some packet = at in cc);
      })

  module _ (p : Proposal) (is : (v.nodes me.0).proposal ≡ Some p) (seat : ℕ) (counts : seat_voting setting.layout.bricks p from.0 call said ≡ Some seat)
      (enough : nat_lt (length (with_voice p seat from said).counted) (ballot_quorum p) ≡ false)
      (free : refused_by (with_voice p seat from said).counted ≡ None) where
    abbrev q : Proposal
    q = with_voice p seat from said

    -- what is so of the proposal with this reply
    q_says : DraftSays setting.layout v me.0 q
    q_says = voice_says setting.layout v me.0 p from call said seat (drafting.drafts me.0 p is) counts sent

    -- its call has no other ballot
    q_called : (b : Ballot) → ballot_called v.packets me.0 q.call.boot q.call.seq ≡ Some b → b ≡ q.ballot
    q_called = (called.drafts me.0 p is).called

    -- there is some member
    some_member : 1 ≤ length p.view.members
    some_member =
        let limits_are = within setting.layout limits v agreed me.0 q q_says q_called enough free in
        let some = limits_are.some_block in
        let more = limits_are.enough_seats in
        omega (arith, some, more)

    -- ---- it asks for a list

    -- the proposal as it asks for a list
    abbrev asked : List BrickId → Proposal
    asked members = asking q members

    -- each packet asks to accept the list
    asks_each : (P : Packet → Type 0) (members : List BrickId)
        → ((to : BrickId) → P (record { from = me; to = to; message = Message.Request (asked members).call (Request.Accept p.ballot members) }))
        → OfEach P (ballot_packets me (asked members))
    asks_each P members holds = each_ballot P me (asked members) holds

    -- nothing else is asked
    asks_same : (members : List BrickId) (g e : ℕ) (b : Ballot) (named : List BrickId) (message : Message)
        → message ≡ Message.Request (asked members).call (Request.Accept p.ballot members) → accept_in g e b message ≡ Some named
        → (p.call.group.0 ≡ g) × (p.call.view.0 ≡ e) × (p.ballot ≡ b) × (members ≡ named)
    asks_same members g e b named message same asks =
        let accept : IsAccept g e b message named = accept_is g e b message named asks in
        let parts = same_accept (asked members).call accept.call p.ballot b members named (sym same ∙ accept.is) in (
          ap (λ (z : Call). z.group.0) parts.0 ∙ accept.group,
          ap (λ (z : Call). z.view.0) parts.0 ∙ accept.view,
          parts.1,
          parts.2,
        )

    -- the ballot is proposed with it
    asks_proposed : p.asks ≡ None → (members : List BrickId)
        → (history (sending_more x (ballot_packets me (asked members))) p.call.group.0 p.view.number.0).proposals p.ballot ≡ Some members
    asks_proposed prepares members =
        let one = sends_one me (asked members).call (λ seat. Request.Accept p.ballot members) p.view.members some_member in
        let view : p.call.view.0 ≡ p.view.number.0 = ap (λ (z : ViewNo). z.0) q_says.view_is in
        let first = first_some (λ packet. accept_in p.call.group.0 p.view.number.0 p.ballot packet.message) (ballot_packets me (asked members)) 0
        (record { from = me; to = one.0; message = Message.Request (asked members).call (Request.Accept p.ballot members) }) members one.1
        (accept_here p.call.group.0 p.view.number.0 (asked members).call p.ballot members refl view) in
        let same : first.0 ≡ members = first_alike (λ packet. accept_in p.call.group.0 p.view.number.0 p.ballot packet.message) (ballot_packets me (asked members)) members
        (λ k packet named at asks.
        sym (asks_same members p.call.group.0 p.view.number.0 p.ballot named packet.message
        (asks_each (λ (other : Packet). other.message ≡ Message.Request (asked members).call (Request.Accept p.ballot members)) members (λ to. refl) k packet at)
        asks).3)
        first.0 first.1 in
        first_of_later (λ packet. accept_in p.call.group.0 p.view.number.0 p.ballot packet.message) v.packets (ballot_packets me (asked members))
        ((drafting.drafts me.0 p is).unasked prepares)
        ∙ first.1 ∙ ap (λ (l : List BrickId). Some l) same

    -- so a proposal that asks for a list owes no more
    asks_body : (mid : Node) → mid.calls ≡ (v.nodes me.0).calls → mid.job ≡ (v.nodes me.0).job → p.asks ≡ None
        → BodySays setting.layout v x me.0 (record mid { proposal = Some (asked (value_or p.own (greatest_choice q.counted))) })
        (ballot_packets me (asked (value_or p.own (greatest_choice q.counted))))
    asks_body mid calls jobs prepares =
        let members : List BrickId = value_or p.own (greatest_choice q.counted) in
        let new : List Packet = ballot_packets me (asked members) in
        let view : p.call.view.0 ≡ p.view.number.0 = ap (λ (z : ViewNo). z.0) q_says.view_is in
        let safe : IsSafeIn setting.layout v p.call.group.0 p.view.number.0 p.ballot members
        = asks_safely setting.layout limits v agreed me.0 q q_says q_called enough free prepares in
        record {
          calls = other_calls mid calls;
          jobs = known_jobs mid jobs;
          drafts = λ r same. subst (λ (z : Proposal). DraftSays setting.layout (sending_more x new) me.0 z) (same_Some (asked members) r same)
              (record {
                group = q_says.group;
                group_is = q_says.group_is;
                m_is = q_says.m_is;
                named = (extends new).named p.call.group.0 p.view.number.0 p.view q_says.named;
                view_is = q_says.view_is;
                unasked = λ none. absurd (let never : Some members ≡ None = none in cc);
                asked = λ named some. asks_proposed prepares members ∙ some;
                distinct = tt;
                counted = λ k c at. absurd (let never : None ≡ Some c = at in cc);
              });
          accepts = λ k packet at g e b named asks.
              let parts = asks_same members g e b named packet.message
              (asks_each (λ (other : Packet). other.message ≡ Message.Request (asked members).call (Request.Accept p.ballot members)) members (λ to. refl) k packet at)
              asks in
              inr (
                ap (λ (z : Ballot). z.brick.0) (sym parts.2) ∙ (called.drafts me.0 p is).brick,
                subst (λ (l : List BrickId). IsSafeIn setting.layout v g e b l) parts.3
                    (subst (λ (z : Ballot). IsSafeIn setting.layout v g e z members) parts.2
                    (subst (λ (z : ℕ). IsSafeIn setting.layout v g z p.ballot members) (sym view ∙ parts.1)
                    (subst (λ (z : ℕ). IsSafeIn setting.layout v z p.view.number.0 p.ballot members) parts.0 safe))),
              );
          says = asks_each (PacketSays setting.layout (sending_more x new)) members
              (λ to. subst (λ (e : ℕ). (history (sending_more x new) p.call.group.0 e).proposals p.ballot ≡ Some members) (sym view) (asks_proposed prepares members));
        }

    -- ---- the list that it asked for is decided

    module _ (members : List BrickId) (asks : p.asks ≡ Some members) where
      -- the group's number
      abbrev g : ℕ
      g = p.call.group.0

      -- the view's number
      abbrev e : ℕ
      e = p.view.number.0

      -- the view that is decided
      abbrev view : View
      view = decided_view p (record { 0 = p.view.number.0 + 1 }) members

      -- what is sent: it teaches all bricks that view
      abbrev new : List Packet
      new = learn_packets me p.call.group view setting.layout.bricks 0

      -- the group, with the members of the view
      abbrev group : Group
      group = group_at_draft q q_says.group

      -- views are numbered from 1
      positive : 1 ≤ e
      positive = (name_has_number setting.layout v.packets g e p.view q_says.named).1

      -- the list is chosen
      chosen : IsChosen (length group.members) (quorum_of group) (seated group (history v g e)) p.ballot members
      chosen = asked_chosen setting.layout limits v agreed me.0 q q_says q_called enough free members asks

      -- each packet teaches the view
      teaches : (k : ℕ) (packet : Packet) → slice_get new k ≡ Some packet → packet.message ≡ Message.Learn p.call.group view
      teaches = each_learn (λ (packet : Packet). packet.message ≡ Message.Learn p.call.group view) me p.call.group view (λ to. refl) setting.layout.bricks 0

      -- a view that was known by its number is this one
      known_before : (other : View) → named_in setting.layout v.packets g (e + 1) ≡ Some other → other ≡ view
      known_before other named =
          let number = name_has_number setting.layout v.packets g (e + 1) other named in
          let number_is : other.number.0 ≡ e + 1 = number.0 in
          let taught : IsTaught setting.layout v g other
          = known_taught setting.layout v g other agreed.says (name_is setting.layout v.packets g (e + 1) other named)
          (omega (arith, number_is, positive)) in
          let after = decided_after setting.layout v g other p.view group taught.1 q_says.named number_is
          (group_is setting.layout limits v agreed me.0 q q_says q_called enough free) in
          view_from other view number_is
          (two_chosen (length group.members) (quorum_of group) (seated group (history v g e)) after.0.0 p.ballot other.members members
          (majority setting.layout limits v agreed me.0 q q_says q_called enough free) (agrees setting.layout limits v agreed me.0 q q_says q_called enough free)
          after.0.1 chosen)
          after.1

      -- so it is known, once it is taught
      pub decided_named : (k : ℕ) (packet : Packet) → slice_get new k ≡ Some packet → IsNamed setting.layout (v.packets ++ new) g view
      decided_named k packet at = by (named_in setting.layout v.packets g (e + 1)) refl
        where
          by : (z : Option View) → named_in setting.layout v.packets g (e + 1) ≡ z → IsNamed setting.layout (v.packets ++ new) g view
          by (Some other) some =
              name_stays setting.layout v.packets new g (e + 1) other some ∙ ap (λ (z : View). Some z) (known_before other some)
          by None none =
              let later : 1 < e + 1 = omega (arith, positive) in
              let before = sym (named_later setting.layout v.packets g (e + 1) later) ∙ none in
              let told : learn_in g (e + 1) packet.message ≡ Some view
              = ap (λ (z : Message). learn_in g (e + 1) z) (teaches k packet at) ∙ learn_here g p.call.group view refl in
              let first = first_some (λ other. learn_in g (e + 1) other.message) new k packet view at told in
              let same : first.0 ≡ view = first_alike (λ other. learn_in g (e + 1) other.message) new view
              (λ j other found at_j tells.
              same_Some found view (sym tells ∙ ap (λ (z : Message). learn_in g (e + 1) z) (teaches j other at_j) ∙ learn_here g p.call.group view refl))
              first.0 first.1 in
              named_later setting.layout (v.packets ++ new) g (e + 1) later
              ∙ first_of_later (λ other. learn_in g (e + 1) other.message) v.packets new before ∙ first.1 ∙ ap (λ (z : View). Some z) same

      -- and it was decided
      pub decided_is : (last : ViewWorld) → Extends setting.layout v last → IsDecided setting.layout last g view
      decided_is last more = record {
        before = p.view;
        named = more.named g e p.view q_says.named;
        next = refl;
        prior = refl;
        group = group;
        group_is = group_is setting.layout limits v agreed me.0 q q_says q_called enough free;
        ballot = p.ballot;
        chosen = chosen_stays (length group.members) (quorum_of group) (seated group (history v g e)) (seated group (history last g e)) p.ballot members
            (seated_grows group (history v g e) (history last g e) (more.grows g e)) chosen;
        fits = λ base base_is. chosen_fits setting.layout v g e (length group.members) (quorum_of group) group p.ballot members base agreed
            (majority setting.layout limits v agreed me.0 q q_says q_called enough free) chosen base_is;
      }

      -- so a proposal that ends with a decision owes no more
      decides_body : (mid : Node) → mid.calls ≡ (v.nodes me.0).calls → mid.job ≡ (v.nodes me.0).job → BodySays setting.layout v x me.0 (record mid { proposal = None }) new
      decides_body mid calls jobs = record {
        calls = other_calls mid calls;
        jobs = known_jobs mid jobs;
        drafts = λ r same. absurd (let never : None ≡ Some r = same in cc);
        accepts = λ k packet at h f b named told. absurd (let never : None ≡ Some named = sym (ap (λ (z : Message). accept_in h f b z) (teaches k packet at)) ∙ told in cc);
        says = λ k packet at.
            subst (λ (z : Message). MessageSays setting.layout (sending_more x new) packet.from.0 packet.to.0 z) (sym (teaches k packet at))
            (decided_named k packet at, decided_is (sending_more x new) (extends new));
      }

  -- what the proposal decided is carried out
  proposal_body : (mid : Node) → mid.calls ≡ (v.nodes me.0).calls → mid.job ≡ (v.nodes me.0).job → mid.proposal ≡ (v.nodes me.0).proposal → (p : Proposal)
      → (v.nodes me.0).proposal ≡ Some p
      → (let step = carried_ballot setting.layout me mid p (voted setting.layout.bricks p from call said) in
      BodySays setting.layout v x me.0 step.node step.packets)
  proposal_body mid calls jobs proposal p is =
      voting_each
      (λ (at : Option ℕ) (decision : Voting).
      BodySays setting.layout v x me.0 (carried_ballot setting.layout me mid p decision).node (carried_ballot setting.layout me mid p decision).packets)
      setting.layout.bricks p from call said
      (record {
        ignores = λ none. quiet_body mid [] (other_calls mid calls) (known_jobs mid jobs) proposal (each_none (IsQuiet setting.layout));
        waits = λ seat counts. waits_body mid calls jobs p is seat counts;
        asks = λ seat counts enough free prepares. asks_body p is seat counts enough free mid calls jobs prepares;
        decides = λ seat members counts enough free some. decides_body p is seat counts enough free members some mid calls jobs;
        refuses = λ seat refused counts enough some.
            gone_body mid calls jobs (ended_packets setting.layout me p refused)
            (refused_sends_none setting.layout me p (with_voice p seat from said).counted refused some);
      })

  -- a reply to the proposal, if there is one
  ballot_body : (mid : Node) → mid.calls ≡ (v.nodes me.0).calls → mid.job ≡ (v.nodes me.0).job → mid.proposal ≡ (v.nodes me.0).proposal → (z : Option Proposal)
      → (v.nodes me.0).proposal ≡ z
      → (let step = replied_ballot setting.layout me from mid call said z in BodySays setting.layout v x me.0 step.node step.packets)
  ballot_body mid calls jobs proposal None is = quiet_body mid [] (other_calls mid calls) (known_jobs mid jobs) proposal (each_none (IsQuiet setting.layout))
  ballot_body mid calls jobs proposal (Some p) is = proposal_body mid calls jobs proposal p is

  -- a reply to an open operation, if there is one, or else to the proposal
  call_body : (now : ℕ) (z : Option Coordinator) → (v.nodes me.0).calls call.seq ≡ z
      → (let step = replied_at setting me now from (with_round (v.nodes me.0) said) call said z in BodySays setting.layout v x me.0 step.node step.packets)
  call_body now None is =
      ballot_body (with_known (with_round (v.nodes me.0) said) (known_after (v.nodes me.0).known said)) refl refl refl (v.nodes me.0).proposal refl
  call_body now (Some c) is =
      carried_for_body now (with_round (v.nodes me.0) said) refl refl refl (known_after (v.nodes me.0).known said) c
      (hearing c from said (counts_at setting.layout.block c from.0 call said)) (known_calls call.seq c is)
      (on_reply setting.layout.block setting.code (fresh_stamp me c.stamp.view now (v.nodes me.0).boot (known_after (v.nodes me.0).known said)) c from call said)
      (reply_view_kept setting.layout.block setting.code (fresh_stamp me c.stamp.view now (v.nodes me.0).boot (known_after (v.nodes me.0).known said)) c from call said
      (fresh_of me c.stamp.view now (v.nodes me.0).boot (known_after (v.nodes me.0).known said)))
      (job_reading (v.nodes me.0).job c.call.seq) (λ job is. drafting.jobs me.0 job (reading_is (v.nodes me.0).job c.call.seq job is))
      (scrub_of (v.nodes me.0).scrub c.call.seq)

-- what a brick owes when it handles a reply
pub heard_says : (setting : Setting) → HasLimits setting.layout → (v : ViewWorld) → Called v.packets v.nodes → Agreed setting.layout v → Drafting setting.layout v
    → (me from : BrickId) (now : ℕ) (call : Call) (said : Reply) → IsSent v.packets (record { from = from; to = me; message = Message.Reply call said })
    → (let step = heard setting me now from (v.nodes me.0) call said in StepSays setting.layout v me.0 step.node step.packets)
unfolding replied
heard_says setting limits v called agreed drafting me from now call said sent =
    cond_both (lists_fit setting.layout call said) (replied setting me now from (v.nodes me.0) call said)
    (no_step (with_known (with_round (v.nodes me.0) said) (known_after (v.nodes me.0).known said)))
    (λ (step : NodeStep). StepSays setting.layout v me.0 step.node step.packets)
    (λ fit.
    let node : Node = v.nodes me.0 in
    let mid : Node = (replied_at setting me now from (with_round node said) call said (node.calls call.seq)).node in
    let new : List Packet = (replied_at setting me now from (with_round node said) call said (node.calls call.seq)).packets in
    let next : Node = node_taught_by setting.layout.block call.group.0 mid (view_counted setting.layout from node call said) in
    let turn : Turn setting.layout v.packets node next
    = reply_turn setting.layout v from me call said node mid agreed sent (replied_keeps setting me now from node call said (node.calls call.seq)) node in
    record {
      turn = turn;
      body = body_own setting.layout v (turned v me.0 next) me.0 mid next new
          (taught_own setting.layout.block call.group.0 mid (view_counted setting.layout from node call said))
          (call_body setting limits v called agreed drafting me from call said sent next turn now (node.calls call.seq) refl);
    })
    (λ isnt.
    let node : Node = v.nodes me.0 in
    let next : Node = with_known (with_round node said) (known_after node.known said) in
    let turn : Turn setting.layout v.packets node next = no_turn setting.layout v.packets node next (refl, refl) in
    record {
      turn = turn;
      body = quiet_body setting limits v called agreed drafting me from call said sent next turn next [] (λ k c is. drafting.calls me.0 k c is)
          (λ j is. drafting.jobs me.0 j is) refl
          (each_none (IsQuiet setting.layout));
    })
