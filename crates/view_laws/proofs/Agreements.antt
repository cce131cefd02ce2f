-- The agreement on views holds in every world that a run reaches.
use Rattle.protocol.specs.Jobs.{Job}
use Rattle.std.proofs.Common.{◌≡◌, ℕ, zero, suc, ◌≤◌, Bool, true, false, ◌&&◌, ◌||◌, ◌⊎◌, inl, inr, ⊎_elim, List, [], ◌++◌, Option, Some, None, refl, sym, ap, ◌∙◌, subst, arith, nat_lt, nat_eq}
use Rattle.std.specs.Prelude.{not}
use Rattle.std.proofs.lemmas.Bool.{cond_both, and_parts, false≢true, eqb-true, not-true}
use Rattle.std.proofs.lemmas.Bool.Decides.{nat_tests}
use Rattle.fab_base.specs.declared.identities.BrickId.{BrickId}
use Rattle.fab_base.specs.declared.stamps.Ballot.{Ballot}
use Rattle.fab_base.specs.declared.asks.Ask.{Ask}
use Rattle.fab_base.specs.Layouts.{Layout, Group}
use Rattle.messages.specs.declared.packets.Message.{Message}
use Rattle.messages.specs.declared.packets.Packet.{Packet}
use Rattle.synod_laws.specs.Synods.{Kept, Keeps, is_promised_above}
use Rattle.protocol.specs.Settings.{Setting, IsSound}
use Rattle.protocol.specs.Views.{Learnt}
use Rattle.protocol.specs.Ballots.{granting}
use Rattle.protocol.specs.Proposals.{Proposal}
use Rattle.protocol.specs.Coordinators.{Coordinator}
use Rattle.protocol.specs.Nodes.{Node, NodeStep, put, view_at, view_in, no_calls, node_taught_by, view_counted, lists_fit, received, absorbed, ticked, group_at, began, invoked, proposed, stopped, restarted, may_open, synced_at, scrubbed_at}
use Rattle.protocol.specs.Worlds.{World, Event, first_brick, first_world, is_up, packet_of, packet_during, left_after, world_stepped, run}
use Rattle.protocol.proofs.Events.{EventCases, step_on, world_counting, always_where, started_each}
use Rattle.protocol.proofs.Tables.{put_each, put_twice, get_kept}
use Rattle.view_laws.proofs.Histories.{ViewWorld, view_world, IsSent, IsNamed, kept_at, history, name_stays}
use Rattle.view_laws.proofs.Agreeing.{Agreed, VoteFits, StaysAt, VotesAt, LearnsAt, Turn, turned, turn_extends, turn_agrees, turned_placed, KeepsViews, placed, placed_extends, placed_agrees, sending_more}
use Rattle.view_laws.proofs.Calling.{Called}
use Rattle.view_laws.proofs.CallSteps.{Calls, always_calls, put_back, up_not_down, stepped_up, left_stays, left_more, left_fewer}
use Rattle.view_laws.proofs.Drafting.{DraftSays, Drafting, draft_stays, StepSays, step_agrees, step_drafting}
use Rattle.view_laws.proofs.Deciding.{HasLimits}
use Rattle.view_laws.proofs.Requesting.{no_turn, requested_says, learn_says, synced_turn, synced_says}
use Rattle.view_laws.proofs.Replying.{reply_turn, heard_says}
use Rattle.view_laws.proofs.Beginning.{quiet_step, invoked_says, proposed_says, ticked_says, sync_says, scrub_says}
use Rattle.protocol.proofs.Packets.{each_none}
use Rattle.view_laws.proofs.Replying.{IsQuiet}

-- ---- turns of stopped bricks

-- a turn is one of what bricks keep of views alone
pub turn_like : (layout : Layout) (packets : List Packet) (node next other later : Node) → KeepsViews node other → KeepsViews next later
    → Turn layout packets node next → Turn layout packets other later
turn_like layout packets node next other later before after turn g = ⊎_elim
    (λ (stays : StaysAt node next g). inl (ap (λ (l : Learnt). l.view) learnt_after ∙ stays.0 ∙ sym (ap (λ (l : Learnt). l.view) learnt_before), ballots_after ∙ stays.1 ∙ sym ballots_before))
    (λ (changes : VotesAt layout packets node next g ⊎ LearnsAt layout packets node next g). ⊎_elim
    (λ (x : VotesAt layout packets node next g). inr (inl (record {
      call = x.call;
      ballot = x.ballot;
      asks = x.asks;
      from = x.from;
      to = x.to;
      sent = x.sent;
      group = x.group;
      now = x.now ∙ sym view;
      fits = λ members is. subst (λ (e : ℕ). VoteFits layout g e members) (sym view) (x.fits members is);
      free = subst (λ (z : Kept (List BrickId)). is_promised_above z x.ballot ≡ false) (sym ballots_before) x.free;
      learnt = learnt_after ∙ x.learnt ∙ sym learnt_before;
      ballots = ballots_after ∙ x.ballots ∙ ap (λ (z : Kept (List BrickId)). (granting z x.ballot x.asks).kept) (sym ballots_before);
    })))
    (λ (x : LearnsAt layout packets node next g). inr (inr (record {
      view = x.view;
      named = x.named;
      later = (let less = x.later in omega (arith, less, view));
      learnt = ap (λ (l : Learnt). l.view) learnt_after ∙ x.learnt;
      ballots = ballots_after ∙ x.ballots;
    })))
    changes)
    (turn g)
  where
    learnt_before : other.learnt g ≡ node.learnt g
    learnt_before = ap (λ (l : ℕ → Learnt). l g) before.0

    learnt_after : later.learnt g ≡ next.learnt g
    learnt_after = ap (λ (l : ℕ → Learnt). l g) after.0

    ballots_before : other.ballots g ≡ node.ballots g
    ballots_before = ap (λ (l : ℕ → Kept (List BrickId)). l g) before.1

    ballots_after : later.ballots g ≡ next.ballots g
    ballots_after = ap (λ (l : ℕ → Kept (List BrickId)). l g) after.1

    view : view_at other g ≡ view_at node g
    view = ap (λ (l : Learnt). l.view.number.0) learnt_before

-- it is one still as more is sent
pub turn_sent : (layout : Layout) (packets new : List Packet) (node next : Node) → Turn layout packets node next → Turn layout (packets ++ new) node next
turn_sent layout packets new node next turn g = ⊎_elim
    (λ (stays : StaysAt node next g). inl stays)
    (λ (changes : VotesAt layout packets node next g ⊎ LearnsAt layout packets node next g). ⊎_elim
    (λ (x : VotesAt layout packets node next g). inr (inl (record {
      call = x.call;
      ballot = x.ballot;
      asks = x.asks;
      from = x.from;
      to = x.to;
      sent = (x.sent.0, get_kept packets new x.sent.0 _ x.sent.1);
      group = x.group;
      now = x.now;
      fits = x.fits;
      free = x.free;
      learnt = x.learnt;
      ballots = x.ballots;
    })))
    (λ (x : LearnsAt layout packets node next g). inr (inr (record {
      view = x.view;
      named = name_stays layout packets new g x.view.number.0 x.view x.named;
      later = x.later;
      learnt = x.learnt;
      ballots = x.ballots;
    })))
    changes)
    (turn g)

-- what a stopped brick may be found as: it took a turn, or not, and has no operation and no proposal
pub record LeavesViews (layout : Layout) (packets : List Packet) (node left : Node) : Type 0 where
  pub turn : Turn layout packets node left
  pub calls : left.calls ≡ no_calls
  pub proposal : left.proposal ≡ None
  pub job : left.job ≡ None

-- it may be found so still as more is sent
leaves_sent : (layout : Layout) (packets new : List Packet) (node left : Node) → LeavesViews layout packets node left
    → LeavesViews layout (packets ++ new) node left
leaves_sent layout packets new node left was =
    record { turn = turn_sent layout packets new node left was.turn; calls = was.calls; proposal = was.proposal; job = was.job }

-- ---- the invariant

-- the agreement on views, what is so of proposals and operations, and what stopped bricks may be found as
pub record Agreement (layout : Layout) (w : World) : Type 0 where
  pub agreed : Agreed layout (view_world w)
  pub drafting : Drafting layout (view_world w)
  pub left : (i : ℕ) → w.up i ≡ false → LeavesViews layout w.packets (w.nodes i) (w.after i)

-- a packet with a number was sent
pub packet_sent : (packets : List Packet) (number : ℕ) (packet : Packet) → packet_of packets number ≡ Some packet → IsSent packets packet
packet_sent packets zero packet is = cc
packet_sent packets (suc k) packet is = (k, is)

-- so was one during whose handling a brick stopped
pub during_sent : (packets : List Packet) (during : Option ℕ) (packet : Packet) → packet_during packets during ≡ Some packet → IsSent packets packet
during_sent packets None packet is = cc
during_sent packets (Some number) packet is = packet_sent packets number packet is

-- a brick that has no operation and no proposal
placed_drafting : (layout : Layout) (v : ViewWorld) (i : ℕ) (next : Node) → KeepsViews (v.nodes i) next → next.calls ≡ no_calls → next.proposal ≡ None → next.job ≡ None
    → Drafting layout v → Drafting layout (placed v i next)
placed_drafting layout v i next keeps calls proposal job drafting = record {
  drafts = put_each (λ k (n : Node). (p : Proposal) → n.proposal ≡ Some p → DraftSays layout (placed v i next) k p) v.nodes i next
      (λ p is. absurd (let never : None ≡ Some p = sym proposal ∙ is in cc))
      (λ k other p is.
      draft_stays layout v (placed v i next) k p (placed_extends layout v i next keeps) (drafting.drafts k p is).unasked (drafting.drafts k p is));
  calls = put_each (λ k (n : Node). (j : ℕ) (c : Coordinator) → n.calls j ≡ Some c → IsNamed layout v.packets c.call.group.0 (view_in c)) v.nodes i next
      (λ j c is. absurd (let never : None ≡ Some c = sym (ap (λ (t : ℕ → Option Coordinator). t j) calls) ∙ is in cc))
      (λ k other j c is. drafting.calls k j c is);
  jobs = put_each (λ k (n : Node). (j : Job) → n.job ≡ Some j → IsNamed layout v.packets j.group.0 j.view) v.nodes i next
      (λ j is. absurd (let never : None ≡ Some j = sym job ∙ is in cc)) (λ k other j is. drafting.jobs k j is);
}

-- one that is found so
turned_drafting : (layout : Layout) (v : ViewWorld) (i : ℕ) (next : Node) → Agreed layout v → Turn layout v.packets (v.nodes i) next → next.calls ≡ no_calls
    → next.proposal ≡ None → next.job ≡ None → Drafting layout v → Drafting layout (turned v i next)
turned_drafting layout v i next agreed turn calls proposal job drafting = record {
  drafts = put_each (λ k (n : Node). (p : Proposal) → n.proposal ≡ Some p → DraftSays layout (turned v i next) k p) v.nodes i next
      (λ p is. absurd (let never : None ≡ Some p = sym proposal ∙ is in cc))
      (λ k other p is.
      draft_stays layout v (turned v i next) k p (turn_extends layout v i next agreed turn) (drafting.drafts k p is).unasked (drafting.drafts k p is));
  calls = put_each (λ k (n : Node). (j : ℕ) (c : Coordinator) → n.calls j ≡ Some c → IsNamed layout v.packets c.call.group.0 (view_in c)) v.nodes i next
      (λ j c is. absurd (let never : None ≡ Some c = sym (ap (λ (t : ℕ → Option Coordinator). t j) calls) ∙ is in cc))
      (λ k other j c is. drafting.calls k j c is);
  jobs = put_each (λ k (n : Node). (j : Job) → n.job ≡ Some j → IsNamed layout v.packets j.group.0 j.view) v.nodes i next
      (λ j is. absurd (let never : None ≡ Some j = sym job ∙ is in cc)) (λ k other j is. drafting.jobs k j is);
}

-- what is kept of a message whose handling was cut short is a turn
pub absorbed_turn : (setting : Setting) (v : ViewWorld) → Called v.packets v.nodes → Agreed setting.layout v → Drafting setting.layout v → (packet : Packet)
    → IsSent v.packets packet
    → Turn setting.layout v.packets (v.nodes packet.to.0) (absorbed setting packet.to (v.nodes packet.to.0) packet)
unfolding absorbed
absorbed_turn setting v called agreed drafting packet sent = by packet.message refl
  where
    by : (message : Message) → packet.message ≡ message
        → Turn setting.layout v.packets (v.nodes packet.to.0)
        (absorbed setting packet.to (v.nodes packet.to.0) (record { from = packet.from; to = packet.to; message = message }))
    by (Message.Request call request) is =
        (requested_says setting v called agreed drafting packet.to packet.from call request
        (subst (λ (z : Message). IsSent v.packets (record { from = packet.from; to = packet.to; message = z })) is sent)).turn
    by (Message.Reply call said) is =
        cond_both (lists_fit setting.layout call said)
        (node_taught_by setting.layout.block call.group.0 (v.nodes packet.to.0) (view_counted setting.layout packet.from (v.nodes packet.to.0) call said))
        (v.nodes packet.to.0) (λ (n : Node). Turn setting.layout v.packets (v.nodes packet.to.0) n)
        (λ fit. reply_turn setting.layout v packet.from packet.to call said (v.nodes packet.to.0) (v.nodes packet.to.0) agreed
        (subst (λ (z : Message). IsSent v.packets (record { from = packet.from; to = packet.to; message = z })) is sent) (refl, refl) (v.nodes packet.to.0))
        (λ isnt. no_turn setting.layout v.packets (v.nodes packet.to.0) (v.nodes packet.to.0) (refl, refl))
    by (Message.Learn group view) is =
        (learn_says setting v agreed drafting packet.from packet.to group view
        (subst (λ (z : Message). IsSent v.packets (record { from = packet.from; to = packet.to; message = z })) is sent)).turn
    by (Message.Synced group number) is = synced_turn setting.layout v.packets (v.nodes packet.to.0) group number
    by (Message.Client ask) is = no_turn setting.layout v.packets (v.nodes packet.to.0) (v.nodes packet.to.0) (refl, refl)
    by (Message.ClientReply id answered) is = no_turn setting.layout v.packets (v.nodes packet.to.0) (v.nodes packet.to.0) (refl, refl)

-- bricks of the same number are the same
pub brick_from : (one other : BrickId) → one.0 ≡ other.0 → one ≡ other
brick_from one other same = ap number_brick same
  where
    number_brick : ℕ → BrickId
    number_brick k = record { 0 = k }

-- so what a brick that stops leaves
pub left_turn : (setting : Setting) (v : ViewWorld) → Called v.packets v.nodes → Agreed setting.layout v → Drafting setting.layout v → (brick : BrickId)
    (packet : Option Packet) → ((one : Packet) → packet ≡ Some one → IsSent v.packets one)
    → LeavesViews setting.layout v.packets (stopped (v.nodes brick.0)) (left_after setting brick (v.nodes brick.0) packet)
unfolding stopped
left_turn setting v called agreed drafting brick None sent = record {
  turn = turn_like setting.layout v.packets (v.nodes brick.0) (v.nodes brick.0) (stopped (v.nodes brick.0)) (stopped (v.nodes brick.0)) (refl, refl) (refl, refl)
      (no_turn setting.layout v.packets (v.nodes brick.0) (v.nodes brick.0) (refl, refl));
  calls = refl;
  proposal = refl;
  job = refl;
}
left_turn setting v called agreed drafting brick (Some packet) sent =
    cond_both (nat_eq packet.to.0 brick.0) (stopped (absorbed setting brick (v.nodes brick.0) packet)) (stopped (v.nodes brick.0))
    (λ (n : Node). LeavesViews setting.layout v.packets (stopped (v.nodes brick.0)) n)
    (λ here. record {
      turn = turn_like setting.layout v.packets (v.nodes brick.0) (absorbed setting brick (v.nodes brick.0) packet) (stopped (v.nodes brick.0))
          (stopped (absorbed setting brick (v.nodes brick.0) packet)) (refl, refl) (refl, refl)
          (subst (λ (b : BrickId). Turn setting.layout v.packets (v.nodes b.0) (absorbed setting b (v.nodes b.0) packet)) (same_brick here)
          (absorbed_turn setting v called agreed drafting packet (sent packet refl)));
      calls = refl;
      proposal = refl;
      job = refl;
    })
    (λ elsewhere. record {
      turn = turn_like setting.layout v.packets (v.nodes brick.0) (v.nodes brick.0) (stopped (v.nodes brick.0)) (stopped (v.nodes brick.0)) (refl, refl) (refl, refl)
          (no_turn setting.layout v.packets (v.nodes brick.0) (v.nodes brick.0) (refl, refl));
      calls = refl;
      proposal = refl;
      job = refl;
    })
  where
    same_brick : nat_eq packet.to.0 brick.0 ≡ true → packet.to ≡ brick
    same_brick is = brick_from packet.to brick (eqb-true packet.to.0 brick.0 is)

-- what a brick owes when it handles a packet
pub received_says : (setting : Setting) → HasLimits setting.layout → (v : ViewWorld) → Called v.packets v.nodes → Agreed setting.layout v → Drafting setting.layout v
    → (now : ℕ) (packet : Packet) → IsSent v.packets packet
    → (let step = received setting packet.to now (v.nodes packet.to.0) packet in StepSays setting.layout v packet.to.0 step.node step.packets)
unfolding received
received_says setting limits v called agreed drafting now packet sent = by packet.message refl
  where
    quiet : StepSays setting.layout v packet.to.0 (v.nodes packet.to.0) []
    quiet =
        quiet_step setting.layout v packet.to.0 (v.nodes packet.to.0) [] agreed drafting
        (no_turn setting.layout v.packets (v.nodes packet.to.0) (v.nodes packet.to.0) (refl, refl)) (λ k c at. drafting.calls packet.to.0 k c at)
        (λ j at. drafting.jobs packet.to.0 j at) refl
        (each_none (IsQuiet setting.layout))

    by : (message : Message) → packet.message ≡ message
        → (let step = received setting packet.to now (v.nodes packet.to.0) (record { from = packet.from; to = packet.to; message = message }) in
        StepSays setting.layout v packet.to.0 step.node step.packets)
    by (Message.Request call request) is =
        requested_says setting v called agreed drafting packet.to packet.from call request
        (subst (λ (z : Message). IsSent v.packets (record { from = packet.from; to = packet.to; message = z })) is sent)
    by (Message.Reply call said) is =
        heard_says setting limits v called agreed drafting packet.to packet.from now call said
        (subst (λ (z : Message). IsSent v.packets (record { from = packet.from; to = packet.to; message = z })) is sent)
    by (Message.Learn group view) is =
        learn_says setting v agreed drafting packet.from packet.to group view
        (subst (λ (z : Message). IsSent v.packets (record { from = packet.from; to = packet.to; message = z })) is sent)
    by (Message.Synced group number) is = synced_says setting v agreed drafting packet.to group number
    by (Message.Client ask) is = quiet
    by (Message.ClientReply id answered) is = quiet

-- ---- events

-- a step of a brick that gives what it owes keeps the agreement
stepped_agreement : (setting : Setting) (x : World) (brick : BrickId) (step : NodeStep) → x.up brick.0 ≡ true → Called x.packets x.nodes
    → Agreement setting.layout x → StepSays setting.layout (view_world x) brick.0 step.node step.packets
    → Agreement setting.layout (world_stepped setting x brick step)
stepped_agreement setting x brick step up called was says =
    let same = stepped_up setting x brick step in
    record {
      agreed = step_agrees setting.layout (view_world x) brick.0 step.node step.packets was.agreed says;
      drafting = step_drafting setting.layout (view_world x) brick.0 step.node step.packets called was.agreed was.drafting says;
      left = subst (λ (ups : ℕ → Bool). (k : ℕ) → ups k ≡ false
          → LeavesViews setting.layout (x.packets ++ step.packets) (put x.nodes brick.0 step.node k) ((world_stepped setting x brick step).after k)) (sym same.0)
          (subst (λ (after : ℕ → Node). (k : ℕ) → x.up k ≡ false
          → LeavesViews setting.layout (x.packets ++ step.packets) (put x.nodes brick.0 step.node k) (after k)) (sym same.1)
          (left_stays (LeavesViews setting.layout (x.packets ++ step.packets)) x.up x.nodes x.after brick.0 step.node up
          (λ k down. leaves_sent setting.layout x.packets step.packets (x.nodes k) (x.after k) (was.left k down))));
    }

-- a brick that starts keeps what it kept of views
restarted_agreement : (setting : Setting) (packets : List Packet) (votes : ℕ → ℕ → ℕ → Ballot → Option (List BrickId)) (nodes : ℕ → Node) (i openings : ℕ)
    → Agreed setting.layout (record { packets = packets; votes = votes; nodes = nodes })
    → Drafting setting.layout (record { packets = packets; votes = votes; nodes = nodes })
    → Agreed setting.layout (record { packets = packets; votes = votes; nodes = put nodes i (restarted openings (nodes i)) })
    × Drafting setting.layout (record { packets = packets; votes = votes; nodes = put nodes i (restarted openings (nodes i)) })
unfolding restarted
restarted_agreement setting packets votes nodes i openings agreed drafting = (
  placed_agrees setting.layout (record { packets = packets; votes = votes; nodes = nodes }) i (restarted openings (nodes i)) (refl, refl) agreed,
  placed_drafting setting.layout (record { packets = packets; votes = votes; nodes = nodes }) i (restarted openings (nodes i)) (refl, refl) refl refl refl drafting,
)

-- a brick that stops too
stopped_agreement : (setting : Setting) (v : ViewWorld) (i : ℕ) → Agreed setting.layout v → Drafting setting.layout v
    → Agreed setting.layout (placed v i (stopped (v.nodes i))) × Drafting setting.layout (placed v i (stopped (v.nodes i)))
unfolding stopped
stopped_agreement setting v i agreed drafting = (
  placed_agrees setting.layout v i (stopped (v.nodes i)) (refl, refl) agreed,
  placed_drafting setting.layout v i (stopped (v.nodes i)) (refl, refl) refl refl refl drafting,
)

-- an operation that begins leaves what its brick keeps of views
pub invoked_keeps : (setting : Setting) (me : BrickId) (now : ℕ) (node : Node) (ask : Ask) → KeepsViews node (invoked setting me now node ask).node
unfolding invoked
invoked_keeps setting me now node ask = by (group_at setting.layout node ask.group.0)
  where
    by : (z : Option Group) → KeepsViews node (began setting me now node ask z).node
    by None = (refl, refl)
    by (Some group) = (refl, refl)

-- each event keeps the agreement
agreement_cases : (setting : Setting) → HasLimits setting.layout → (w : World) → Calls w → Agreement setting.layout w
    → EventCases setting w (Agreement setting.layout)
agreement_cases setting limits w calls was = record {
  begins = λ brick ask may.
      let up = up_not_down setting.layout w brick (and_parts (is_up setting.layout w brick) _ may).0 in
      let step : NodeStep = invoked setting brick (w.clocks brick.0) (w.nodes brick.0) ask in
      let says : StepSays setting.layout (view_world w) brick.0 step.node step.packets
      = invoked_says setting (view_world w) was.agreed was.drafting brick (w.clocks brick.0) ask in
      let same : turned (view_world w) brick.0 step.node ≡ placed (view_world w) brick.0 step.node
      = turned_placed setting.layout (view_world w) brick.0 step.node was.agreed (invoked_keeps setting brick (w.clocks brick.0) (w.nodes brick.0) ask) in
      record {
        agreed = subst (λ (z : ViewWorld). Agreed setting.layout (sending_more z step.packets)) same
            (step_agrees setting.layout (view_world w) brick.0 step.node step.packets was.agreed says);
        drafting = subst (λ (z : ViewWorld). Drafting setting.layout (sending_more z step.packets)) same
            (step_drafting setting.layout (view_world w) brick.0 step.node step.packets calls.called was.agreed was.drafting says);
        left = left_stays (LeavesViews setting.layout (w.packets ++ step.packets)) w.up w.nodes w.after brick.0 step.node up
            (λ k down. leaves_sent setting.layout w.packets step.packets (w.nodes k) (w.after k) (was.left k down));
      };
  proposes = λ brick group members may.
      stepped_agreement setting w brick (proposed setting brick (w.nodes brick.0) group members)
      (up_not_down setting.layout w brick (and_parts (is_up setting.layout w brick) _ may).0) calls.called was
      (proposed_says setting (view_world w) calls.called was.agreed was.drafting brick group members);
  syncs = λ brick group may.
      stepped_agreement setting w brick (synced_at setting brick (w.clocks brick.0) (w.nodes brick.0) group)
      (up_not_down setting.layout w brick (and_parts (is_up setting.layout w brick) _ may).0) calls.called was
      (sync_says setting (view_world w) was.agreed was.drafting brick (w.clocks brick.0) group);
  scrubs = λ brick group stripe members may.
      stepped_agreement setting w brick (scrubbed_at setting brick (w.clocks brick.0) (w.nodes brick.0) group stripe members)
      (up_not_down setting.layout w brick (and_parts (is_up setting.layout w brick) _ may).0) calls.called was
      (scrub_says setting (view_world w) was.agreed was.drafting brick (w.clocks brick.0) group stripe members);
  handles = λ number packet at up.
      stepped_agreement setting (world_counting setting w number packet) packet.to (step_on setting w packet) (up_not_down setting.layout w packet.to up)
      calls.called (record { agreed = was.agreed; drafting = was.drafting; left = was.left })
      (received_says setting limits (view_world w) calls.called was.agreed was.drafting (w.clocks packet.to.0) packet (packet_sent w.packets number packet at));
  sets = λ brick time is. record { agreed = was.agreed; drafting = was.drafting; left = was.left };
  ticks = λ brick up.
      let new : List Packet = ticked setting brick (w.nodes brick.0) in
      let says : StepSays setting.layout (view_world w) brick.0 (w.nodes brick.0) new = ticked_says setting (view_world w) was.agreed was.drafting brick in
      let same : turned (view_world w) brick.0 (w.nodes brick.0) ≡ view_world w
      = turned_placed setting.layout (view_world w) brick.0 (w.nodes brick.0) was.agreed (refl, refl)
      ∙ ap (λ (nodes : ℕ → Node). record { packets = w.packets; votes = w.choices.votes; nodes = nodes }) (put_back w.nodes brick.0) in
      record {
        agreed = subst (λ (z : ViewWorld). Agreed setting.layout (sending_more z new)) same
            (step_agrees setting.layout (view_world w) brick.0 (w.nodes brick.0) new was.agreed says);
        drafting = subst (λ (z : ViewWorld). Drafting setting.layout (sending_more z new)) same
            (step_drafting setting.layout (view_world w) brick.0 (w.nodes brick.0) new calls.called was.agreed was.drafting says);
        left = λ k down. leaves_sent setting.layout w.packets new (w.nodes k) (w.after k) (was.left k down);
      };
  stops = λ brick during up.
      let stopped_is = stopped_agreement setting (view_world w) brick.0 was.agreed was.drafting in
      record {
        agreed = stopped_is.0;
        drafting = stopped_is.1;
        left = left_more (LeavesViews setting.layout w.packets) w.up w.nodes w.after brick.0 (stopped (w.nodes brick.0))
            (left_after setting brick (w.nodes brick.0) (packet_during w.packets during))
            (left_turn setting (view_world w) calls.called was.agreed was.drafting brick (packet_during w.packets during)
            (λ one is. during_sent w.packets during one is)) was.left;
      };
  starts = λ brick openings found may.
      let parts = and_parts _ (not (w.up brick.0) && may_open openings (w.nodes brick.0)) may in
      let down = and_parts (not (w.up brick.0)) (may_open openings (w.nodes brick.0)) parts.1 in
      let left = was.left brick.0 (not-true (w.up brick.0) down.0) in
      let after : Node = w.after brick.0 in
      let before_is = restarted_agreement setting w.packets w.choices.votes w.nodes brick.0 openings was.agreed was.drafting in
      let after_is = restarted_agreement setting w.packets (turned (view_world w) brick.0 after).votes (put w.nodes brick.0 after) brick.0 openings
      (turn_agrees setting.layout (view_world w) brick.0 after was.agreed left.turn)
      (turned_drafting setting.layout (view_world w) brick.0 after was.agreed left.turn left.calls left.proposal left.job was.drafting) in
      started_each (Agreement setting.layout) w brick openings
      (record {
        agreed = before_is.0;
        drafting = before_is.1;
        left = left_fewer (LeavesViews setting.layout w.packets) w.up w.nodes w.after brick.0 (restarted openings (w.nodes brick.0)) was.left;
      })
      (record {
        agreed = after_is.0;
        drafting = after_is.1;
        left = subst (λ (nodes : ℕ → Node). (k : ℕ) → put w.up brick.0 true k ≡ false → LeavesViews setting.layout w.packets (nodes k) (w.after k))
            (sym (put_twice w.nodes brick.0 after (restarted openings (put w.nodes brick.0 after brick.0))))
            (left_fewer (LeavesViews setting.layout w.packets) w.up w.nodes w.after brick.0 (restarted openings (put w.nodes brick.0 after brick.0)) was.left);
      })
      found;
}

-- where nothing has happened, what a brick keeps is true of the history
first_keeps : (layout : Layout) (i g e : ℕ) → 1 ≤ e → Keeps (history (view_world (first_world layout)) g e) i (kept_at (first_brick layout) g e)
first_keeps layout i g e some =
    let least : nat_lt e 1 ≡ false = grind (arith, nat_tests, some) in
    subst (λ (z : Kept (List BrickId)). Keeps (history (view_world (first_world layout)) g e) i z)
    (cond_both (nat_eq e 1) None None (λ (z : Kept (List BrickId)). None ≡ z) (λ is. refl) (λ isnt. refl))
    (record {
      past = λ b. ap (λ (t : Bool). t || (nat_eq e 1 && false)) least ∙ never (nat_eq e 1);
      covers = λ b members is. absurd (let never : None ≡ Some members = is in cc);
      last = λ b members is. absurd (let never : None ≡ Some (b, members) = is in cc);
      within = λ b members is. absurd (let never : None ≡ Some (b, members) = is in cc);
    })
  where
    never : (t : Bool) → (t && false) ≡ false
    never true = refl
    never false = refl

-- it holds at first: nothing was said, and each brick knows the layout's view
first_agreement : (layout : Layout) → Agreement layout (first_world layout)
first_agreement layout = record {
  agreed = record {
    proposed = λ i g e b members is. absurd (let never : None ≡ Some members = is in cc);
    fits = λ i g e b members is. absurd (let never : None ≡ Some members = is in cc);
    safe = λ g e b members is. absurd (let never : None ≡ Some members = is in cc);
    keeps = λ i g e le. first_keeps layout i g e le;
    learnt = λ i g. refl;
    says = λ k packet at. absurd (let never : None ≡ Some packet = at in cc);
  };
  drafting = record {
    drafts = λ i p is. absurd (let never : None ≡ Some p = is in cc);
    calls = λ i k c is. absurd (let never : None ≡ Some c = is in cc);
    jobs = λ i j is. absurd (let never : None ≡ Some j = is in cc);
  };
  left = λ i down. record { turn = no_turn layout [] (first_brick layout) (first_brick layout) (refl, refl); calls = refl; proposal = refl; job = refl };
}

-- the agreement holds in every world that a run reaches
pub always_agreed : (setting : Setting) → IsSound setting → (events : List Event) → Agreement setting.layout (run setting events (first_world setting.layout))
always_agreed setting sound =
    always_where (Agreement setting.layout) Calls setting (always_calls setting) (first_agreement setting.layout)
    (λ w calls was. agreement_cases setting sound.limits w calls was)
