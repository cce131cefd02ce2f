-- What a brick owes when it begins an operation or a proposal, and when its clock ticks.
use Rattle.std.proofs.Common.{◌≡◌, ℕ, inl, List, [], ◌++◌, Option, Some, None, refl, sym, ap, ◌∙◌, subst, arith}
use Rattle.std.proofs.lemmas.Bool.{cond_both}
use Rattle.std.proofs.lemmas.Option.{same_Some}
use Rattle.fab_base.specs.declared.identities.BrickId.{BrickId}
use Rattle.fab_base.specs.declared.identities.GroupId.{GroupId}
use Rattle.fab_base.specs.declared.identities.ViewNo.{ViewNo}
use Rattle.fab_base.specs.declared.member_lists.View.{View}
use Rattle.fab_base.specs.declared.stamps.Ballot.{Ballot}
use Rattle.fab_base.specs.declared.asks.Ask.{Ask}
use Rattle.fab_base.specs.Layouts.{Layout, Group, group_of}
use Rattle.messages.specs.declared.calls.Call.{Call}
use Rattle.messages.specs.declared.packets.Message.{Message}
use Rattle.messages.specs.declared.packets.Packet.{Packet}
use Rattle.messages.specs.declared.requests.Request.{Request}
use Rattle.quorum.specs.Memberships.{is_membership}
use Rattle.protocol.specs.Settings.{Setting}
use Rattle.protocol.specs.Proposals.{Proposal, ballot_request, ballot_packets}
use Rattle.protocol.specs.Coordinators.{Coordinator, request_of, asked_group}
use Rattle.protocol.specs.Nodes.{Node, NodeStep, sending, phase_packets, group_at, new_coordinator, coordinator_in, reading, synced_at, opened, began, invoked, view_in, resent, resent_up_to, calls_but_read, job_call, ballot_resent, ticked, new_proposal, proposing, proposed_in, proposed, scrubbed_at, scrub_coordinator, scrubbing, calls_but_scrub, scrub_call, put}
use Rattle.protocol.proofs.Packets.{OfEach, each_none, each_member, each_ballot, each_ballot_resent}
use Rattle.protocol.proofs.Tables.{put_each}
use Rattle.view_laws.proofs.FirstTold.{first_told}
use Rattle.view_laws.proofs.Histories.{ViewWorld, IsNamed, accept_in, accept_is, history, PacketSays, MessageSays, Extends, name_stays, known_taught, taught_stays, kept_is}
use Rattle.view_laws.proofs.Agreeing.{Agreed, Turn, turned, sending_more, KeepsViews}
use Rattle.view_laws.proofs.Calling.{Called, unproposed}
use Rattle.protocol.specs.Jobs.{Job, begun_job, job_ask}
use Rattle.view_laws.proofs.SyncReads.{each_tick, synced_at_each, scrubbed_at_each}
use Rattle.view_laws.proofs.Drafting.{DraftSays, Drafting, draft_stays, still_unproposed, StepSays, step_extends}
use Rattle.view_laws.proofs.Requesting.{no_turn}
use Rattle.view_laws.proofs.Replying.{IsQuiet, phase_quiet, same_accept, view_from, read_named}
use Rattle.fab_base.specs.declared.identities.StripeNo.{StripeNo}

-- a step that leaves the proposal as it was, and sends what owes nothing
pub quiet_step : (layout : Layout) (v : ViewWorld) (i : ℕ) (next : Node) (new : List Packet) → Agreed layout v → Drafting layout v
    → Turn layout v.packets (v.nodes i) next
    → ((k : ℕ) (c : Coordinator) → next.calls k ≡ Some c → IsNamed layout v.packets c.call.group.0 (view_in c))
    → ((j : Job) → next.job ≡ Some j → IsNamed layout v.packets j.group.0 j.view)
    → next.proposal ≡ (v.nodes i).proposal → OfEach (IsQuiet layout) new → StepSays layout v i next new
quiet_step layout v i next new agreed drafting turn calls jobs proposal quiet = record {
  turn = turn;
  body = record {
    calls = calls;
    jobs = jobs;
    drafts = λ q is. draft_stays layout v (sending_more (turned v i next) new) i q (step_extends layout v i next new agreed turn)
        (λ unasked. still_unproposed v.packets new q.call.group.0 q.view.number.0 q.ballot ((drafting.drafts i q (sym proposal ∙ is)).unasked unasked)
        (λ k packet members at asks. (quiet k packet at).none q.call.group.0 q.view.number.0 q.ballot members asks))
        (drafting.drafts i q (sym proposal ∙ is));
    accepts = λ k packet at g e b members asks. absurd ((quiet k packet at).none g e b members asks);
    says = λ k packet at. (quiet k packet at).says (sending_more (turned v i next) new);
  };
}

-- an operation begins in the view that its brick has learnt
pub invoked_says : (setting : Setting) (v : ViewWorld) → Agreed setting.layout v → Drafting setting.layout v → (me : BrickId) (now : ℕ) (ask : Ask)
    → (let step = invoked setting me now (v.nodes me.0) ask in StepSays setting.layout v me.0 step.node step.packets)
unfolding invoked
invoked_says setting v agreed drafting me now ask = by (group_at setting.layout (v.nodes me.0) ask.group.0) refl
  where
    by : (z : Option Group) → group_at setting.layout (v.nodes me.0) ask.group.0 ≡ z
        → (let step = began setting me now (v.nodes me.0) ask z in StepSays setting.layout v me.0 step.node step.packets)
    by None is =
        quiet_step setting.layout v me.0 (v.nodes me.0) [] agreed drafting (no_turn setting.layout v.packets (v.nodes me.0) (v.nodes me.0) (refl, refl))
        (λ k c at. drafting.calls me.0 k c at) (λ j at. drafting.jobs me.0 j at) refl (each_none (IsQuiet setting.layout))
    by (Some group) is =
        let node : Node = v.nodes me.0 in
        let c : Coordinator = new_coordinator group me now node ask in
        let kept = kept_is setting.layout (node.learnt ask.group.0).view.members ask.group.0 group is in
        let view : view_in c ≡ (node.learnt ask.group.0).view
        = view_from (view_in c) (node.learnt ask.group.0).view refl (ap (λ (z : Group). z.members) kept.2) refl in
        let named : IsNamed setting.layout v.packets ask.group.0 (view_in c)
        = subst (λ (z : View). IsNamed setting.layout v.packets ask.group.0 z) (sym view) (agreed.learnt me.0 ask.group.0) in
        quiet_step setting.layout v me.0 (opened node c) (phase_packets setting me c) agreed drafting
        (no_turn setting.layout v.packets node (opened node c) (refl, refl))
        (put_each (λ k (o : Option Coordinator). (d : Coordinator) → o ≡ Some d → IsNamed setting.layout v.packets d.call.group.0 (view_in d)) node.calls
        c.call.seq (Some c)
        (λ d same. subst (λ (z : Coordinator). IsNamed setting.layout v.packets z.call.group.0 (view_in z)) (same_Some c d same) named)
        (λ k other d at. drafting.calls me.0 k d at))
        (λ j at. drafting.jobs me.0 j at) refl
        (each_member (IsQuiet setting.layout) me c.call (request_of setting.code c) (λ seat to. phase_quiet setting.layout setting.code me to c.call c seat) 0
        (asked_group c).members)

-- a read of the brick's own begins in a known view
aside_says : (setting : Setting) (v : ViewWorld) → Agreed setting.layout v → Drafting setting.layout v → (me : BrickId) (later : Node) (d : Coordinator)
    → KeepsViews (v.nodes me.0) later → later.calls ≡ put (v.nodes me.0).calls d.call.seq (Some d)
    → IsNamed setting.layout v.packets d.call.group.0 (view_in d) → later.proposal ≡ (v.nodes me.0).proposal
    → ((j : Job) → later.job ≡ Some j → IsNamed setting.layout v.packets j.group.0 j.view)
    → StepSays setting.layout v me.0 later (phase_packets setting me d)
aside_says setting v agreed drafting me later d keeps calls named proposal jobs =
    quiet_step setting.layout v me.0 later (phase_packets setting me d) agreed drafting (no_turn setting.layout v.packets (v.nodes me.0) later keeps)
    (subst (λ (t : ℕ → Option Coordinator). (k : ℕ) (c : Coordinator) → t k ≡ Some c → IsNamed setting.layout v.packets c.call.group.0 (view_in c)) (sym calls)
    (put_each (λ k (o : Option Coordinator). (c : Coordinator) → o ≡ Some c → IsNamed setting.layout v.packets c.call.group.0 (view_in c)) (v.nodes me.0).calls
    d.call.seq (Some d)
    (λ c same. subst (λ (z : Coordinator). IsNamed setting.layout v.packets z.call.group.0 (view_in z)) (same_Some d c same) named)
    (λ k other c at. drafting.calls me.0 k c at)))
    jobs proposal
    (each_member (IsQuiet setting.layout) me d.call (request_of setting.code d) (λ seat to. phase_quiet setting.layout setting.code me to d.call d seat) 0
    (asked_group d).members)

-- the view that a brick has learnt, of which an operation of the group at the brick is
learnt_named : (setting : Setting) (v : ViewWorld) → Agreed setting.layout v → (me : BrickId) (number : ℕ) (group : Group)
    → group_at setting.layout (v.nodes me.0) number ≡ Some group → (c : Coordinator) → c.stamp.view ≡ ((v.nodes me.0).learnt number).view.number
    → c.group ≡ group → c.prior ≡ ((v.nodes me.0).learnt number).view.prior → IsNamed setting.layout v.packets number (view_in c)
learnt_named setting v agreed me number group is c stamp of prior =
    let learnt : View = ((v.nodes me.0).learnt number).view in
    let kept = kept_is setting.layout learnt.members number group is in
    let view : view_in c ≡ learnt
    = view_from (view_in c) learnt (ap (λ (z : ViewNo). z.0) stamp) (ap (λ (z : Group). z.members) (of ∙ kept.2)) prior in
    subst (λ (z : View). IsNamed setting.layout v.packets number z) (sym view) (agreed.learnt me.0 number)

-- a scrub begins in the view that its brick has learnt
pub scrub_says : (setting : Setting) (v : ViewWorld) → Agreed setting.layout v → Drafting setting.layout v → (me : BrickId) (now : ℕ) (group : GroupId)
    (stripe : StripeNo) (members : List BrickId)
    → (let step = scrubbed_at setting me now (v.nodes me.0) group stripe members in StepSays setting.layout v me.0 step.node step.packets)
scrub_says setting v agreed drafting me now group stripe members =
    scrubbed_at_each (λ (step : NodeStep). StepSays setting.layout v me.0 step.node step.packets) setting me now (v.nodes me.0) group stripe members
    (quiet_step setting.layout v me.0 (v.nodes me.0) [] agreed drafting (no_turn setting.layout v.packets (v.nodes me.0) (v.nodes me.0) (refl, refl))
    (λ k c at. drafting.calls me.0 k c at) (λ j at. drafting.jobs me.0 j at) refl (each_none (IsQuiet setting.layout)))
    (λ kept is.
    let d : Coordinator = scrub_coordinator kept me now (v.nodes me.0) group stripe members in
    aside_says setting v agreed drafting me (scrubbing (v.nodes me.0) d) d (refl, refl) refl
    (learnt_named setting v agreed me group.0 kept is d refl refl refl) refl (λ j at. drafting.jobs me.0 j at))

-- a synchronisation begins in the view that its brick has learnt
pub sync_says : (setting : Setting) (v : ViewWorld) → Agreed setting.layout v → Drafting setting.layout v → (me : BrickId) (now : ℕ) (group : GroupId)
    → (let step = synced_at setting me now (v.nodes me.0) group in StepSays setting.layout v me.0 step.node step.packets)
sync_says setting v agreed drafting me now group =
    synced_at_each (λ (step : NodeStep). StepSays setting.layout v me.0 step.node step.packets) setting me now (v.nodes me.0) group quiet (λ answer. quiet)
    (λ answer. quiet_step setting.layout v me.0 _ [] agreed drafting (no_turn setting.layout v.packets (v.nodes me.0) _ (refl, refl))
    (λ k c at. drafting.calls me.0 k c at) (λ j same. absurd (let never : None ≡ Some j = same in cc)) refl (each_none (IsQuiet setting.layout)))
    (λ kept is.
    let node : Node = v.nodes me.0 in
    let job : Job = begun_job group (node.learnt group.0).view in
    let d : Coordinator = coordinator_in kept job.view me now node (job_ask job) in
    aside_says setting v agreed drafting me (reading node job d) d (refl, refl) refl
    (read_named setting.layout v.packets job kept is me now node job.attempt (agreed.learnt me.0 group.0)) refl
    (λ j same. subst (λ (z : Job). IsNamed setting.layout v.packets z.group.0 z.view) (same_Some (record job { seq = d.call.seq }) j same)
    (agreed.learnt me.0 group.0)))
  where
    quiet : StepSays setting.layout v me.0 (v.nodes me.0) []
    quiet =
        quiet_step setting.layout v me.0 (v.nodes me.0) [] agreed drafting (no_turn setting.layout v.packets (v.nodes me.0) (v.nodes me.0) (refl, refl))
        (λ k c at. drafting.calls me.0 k c at) (λ j at. drafting.jobs me.0 j at) refl (each_none (IsQuiet setting.layout))

-- a request to promise asks to accept nothing
never_accept : (call other : Call) (b c : Ballot) (members : List BrickId)
    → Message.Request call (Request.Prepare b) ≡ Message.Request other (Request.Accept c members) → ⊥
never_accept call other b c members is = cc

-- a proposal begins under a ballot that was not proposed
pub proposed_says : (setting : Setting) (v : ViewWorld) → Called v.packets v.nodes → Agreed setting.layout v → Drafting setting.layout v → (me : BrickId)
    (group : GroupId) (members : List BrickId)
    → (let step = proposed setting me (v.nodes me.0) group members in StepSays setting.layout v me.0 step.node step.packets)
unfolding proposed
proposed_says setting v called agreed drafting me group members = by (group_of setting.layout group.0) refl
  where
    quiet : StepSays setting.layout v me.0 (v.nodes me.0) []
    quiet =
        quiet_step setting.layout v me.0 (v.nodes me.0) [] agreed drafting (no_turn setting.layout v.packets (v.nodes me.0) (v.nodes me.0) (refl, refl))
        (λ k c at. drafting.calls me.0 k c at) (λ j at. drafting.jobs me.0 j at) refl (each_none (IsQuiet setting.layout))

    none_before : (base : Group) (e : ℕ) (z : Option (List BrickId))
        → first_told (λ packet. accept_in group.0 e (new_proposal me (v.nodes me.0) base.m group members).ballot packet.message) v.packets ≡ z → z ≡ None
    none_before base e None is = refl
    none_before base e (Some named) is =
        absurd (unproposed v.packets v.nodes called me.0 group.0 e (new_proposal me (v.nodes me.0) base.m group members).ballot named refl refl
        (omega arith) is)

    fresh : (base : Group) → group_of setting.layout group.0 ≡ Some base
        → StepSays setting.layout v me.0 (proposing (v.nodes me.0) (new_proposal me (v.nodes me.0) base.m group members))
        (ballot_packets me (new_proposal me (v.nodes me.0) base.m group members))
    fresh base is =
        let node : Node = v.nodes me.0 in
        let p : Proposal = new_proposal me node base.m group members in
        let next : Node = proposing node p in
        let new : List Packet = ballot_packets me p in
        let turn : Turn setting.layout v.packets node next = no_turn setting.layout v.packets node next (refl, refl) in
        let quiet : OfEach (IsQuiet setting.layout) new = each_ballot (IsQuiet setting.layout) me p
        (λ to. record {
          none = λ g e b named asks.
              let accept = accept_is g e b (Message.Request p.call (Request.Prepare p.ballot)) named asks in
              never_accept p.call accept.call p.ballot b named accept.is;
          says = λ x. tt;
        }) in
        record {
          turn = turn;
          body = record {
            calls = λ k c at. drafting.calls me.0 k c at;
            jobs = λ j at. drafting.jobs me.0 j at;
            drafts = λ q same. subst (λ (z : Proposal). DraftSays setting.layout (sending_more (turned v me.0 next) new) me.0 z) (same_Some p q same)
                (record {
                  group = base;
                  group_is = is;
                  m_is = refl;
                  named = name_stays setting.layout v.packets new group.0 p.view.number.0 p.view (agreed.learnt me.0 group.0);
                  view_is = refl;
                  unasked = λ none. still_unproposed v.packets new group.0 p.view.number.0 p.ballot
                      (none_before base p.view.number.0 (first_told (λ packet. accept_in group.0 p.view.number.0 p.ballot packet.message) v.packets) refl)
                      (λ k packet named at asks. (quiet k packet at).none group.0 p.view.number.0 p.ballot named asks);
                  asked = λ named some. absurd (let never : None ≡ Some named = some in cc);
                  distinct = tt;
                  counted = λ k c at. absurd (let never : None ≡ Some c = at in cc);
                });
            accepts = λ k packet at g e b named asks. absurd ((quiet k packet at).none g e b named asks);
            says = λ k packet at. (quiet k packet at).says (sending_more (turned v me.0 next) new);
          };
        }

    by : (z : Option Group) → group_of setting.layout group.0 ≡ z
        → (let step = proposed_in setting me (v.nodes me.0) group members z in StepSays setting.layout v me.0 step.node step.packets)
    by None is = quiet
    by (Some base) is =
        cond_both (is_membership base.m setting.layout.bricks members)
        (sending (proposing (v.nodes me.0) (new_proposal me (v.nodes me.0) base.m group members))
        (ballot_packets me (new_proposal me (v.nodes me.0) base.m group members))) _
        (λ (step : NodeStep). StepSays setting.layout v me.0 step.node step.packets) (λ may. fresh base is) (λ isnt. quiet)

-- a clock ticks: what is sent was said before
pub ticked_says : (setting : Setting) (v : ViewWorld) → Agreed setting.layout v → Drafting setting.layout v → (me : BrickId)
    → StepSays setting.layout v me.0 (v.nodes me.0) (ticked setting me (v.nodes me.0))
unfolding ticked
ticked_says setting v agreed drafting me =
    let node : Node = v.nodes me.0 in
    let new : List Packet = resent_up_to setting me (calls_but_scrub (calls_but_read node.calls node.job) node.scrub) node.seq
    ++ (ballot_resent me node.proposal ++ (resent setting me (job_call node.calls node.job) ++ resent setting me (scrub_call node.calls node.scrub))) in
    let turn : Turn setting.layout v.packets node node = no_turn setting.layout v.packets node node (refl, refl) in
    let extends : Extends setting.layout v (sending_more (turned v me.0 node) new) = step_extends setting.layout v me.0 node new agreed turn in
    let accepts : OfEach Accepts new = each_tick Accepts setting me node.calls
    (λ j c is seat to g e b members asks. absurd ((phase_quiet setting.layout setting.code me to c.call c seat).none g e b members asks))
    (λ j c is later from to g e b members asks. absurd (let never : None ≡ Some members = asks in cc)) node.job node.scrub node.seq node.proposal
    (each_ballot_resent Accepts me node.proposal
    (λ p is to. ballot_accepts p.asks p refl (drafting.drafts me.0 p is) to)
    (λ p is later from to g e b members asks. absurd (let never : None ≡ Some members = asks in cc))) in
    record {
      turn = turn;
      body = record {
        calls = λ k c at. drafting.calls me.0 k c at;
        jobs = λ j at. drafting.jobs me.0 j at;
        drafts = λ q is. draft_stays setting.layout v (sending_more (turned v me.0 node) new) me.0 q extends
            (λ unasked. still_unproposed v.packets new q.call.group.0 q.view.number.0 q.ballot ((drafting.drafts me.0 q is).unasked unasked)
            (λ k packet members at asks.
            let never : None ≡ Some members = sym ((drafting.drafts me.0 q is).unasked unasked)
            ∙ accepts k packet at q.call.group.0 q.view.number.0 q.ballot members asks in cc))
            (drafting.drafts me.0 q is);
        accepts = λ k packet at g e b members asks. inl (accepts k packet at g e b members asks);
        says = each_tick (PacketSays setting.layout (sending_more (turned v me.0 node) new)) setting me node.calls
            (λ j c is seat to. (phase_quiet setting.layout setting.code me to c.call c seat).says (sending_more (turned v me.0 node) new))
            (λ j c is later from to. taught_stays setting.layout v (sending_more (turned v me.0 node) new) c.call.group.0 (view_in c) extends
            (known_taught setting.layout v c.call.group.0 (view_in c) agreed.says (drafting.calls me.0 j c is) later))
            node.job node.scrub node.seq node.proposal
            (each_ballot_resent (PacketSays setting.layout (sending_more (turned v me.0 node) new)) me node.proposal
            (λ p is to. ballot_says (sending_more (turned v me.0 node) new) extends p.asks p refl (drafting.drafts me.0 p is) to)
            (λ p is later from to. taught_stays setting.layout v (sending_more (turned v me.0 node) new) p.call.group.0 p.view extends
            (known_taught setting.layout v p.call.group.0 p.view agreed.says (drafting.drafts me.0 p is).named later)));
      };
    }
  where
    -- what a packet asks to accept was proposed
    Accepts : Packet → Type 0
    Accepts packet = (g e : ℕ) (b : Ballot) (members : List BrickId) → accept_in g e b packet.message ≡ Some members → (history v g e).proposals b ≡ Some members

    ballot_accepts : (asks : Option (List BrickId)) (p : Proposal) → p.asks ≡ asks → DraftSays setting.layout v me.0 p → (to : BrickId)
        → Accepts (record { from = me; to = to; message = Message.Request p.call (ballot_request (record p { asks = asks })) })
    ballot_accepts None p is says to g e b members asked =
        absurd (let accept = accept_is g e b (Message.Request p.call (Request.Prepare p.ballot)) members asked in
        never_accept p.call accept.call p.ballot b members accept.is)
    ballot_accepts (Some named) p is says to g e b members asked =
        let accept = accept_is g e b (Message.Request p.call (Request.Accept p.ballot named)) members asked in
        let parts = same_accept p.call accept.call p.ballot b named members accept.is in
        let group : p.call.group.0 ≡ g = ap (λ (z : Call). z.group.0) parts.0 ∙ accept.group in
        let view : p.view.number.0 ≡ e = sym (ap (λ (z : ViewNo). z.0) says.view_is) ∙ ap (λ (z : Call). z.view.0) parts.0 ∙ accept.view in
        ap (λ (z : Ballot). (history v g e).proposals z) (sym parts.1)
        ∙ ap (λ (z : ℕ). (history v g z).proposals p.ballot) (sym view)
        ∙ ap (λ (z : ℕ). (history v z p.view.number.0).proposals p.ballot) (sym group) ∙ says.asked named is ∙ ap (λ (l : List BrickId). Some l) parts.2

    ballot_says : (last : ViewWorld) → Extends setting.layout v last → (asks : Option (List BrickId)) (p : Proposal) → p.asks ≡ asks
        → DraftSays setting.layout v me.0 p → (to : BrickId)
        → MessageSays setting.layout last me.0 to.0 (Message.Request p.call (ballot_request (record p { asks = asks })))
    ballot_says last extends None p is says to = tt
    ballot_says last extends (Some named) p is says to =
        (extends.grows p.call.group.0 p.call.view.0).proposals p.ballot named
        (ap (λ (z : ℕ). (history v p.call.group.0 z).proposals p.ballot) (ap (λ (z : ViewNo). z.0) says.view_is) ∙ says.asked named is)
