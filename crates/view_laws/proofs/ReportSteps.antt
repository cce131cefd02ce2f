-- Each step of a brick reports what is so, so all reports of a run do.
use Rattle.view_laws.proofs.SyncReads.{carried_each, synced_at_each, scrubbed_at_each}
use Rattle.protocol.specs.Jobs.{Job}
use Rattle.protocol.specs.declared.tellings.SyncAnswer.{SyncAnswer}
use Rattle.std.proofs.Common.{◌≡◌, ℕ, zero, suc, ◌+◌, ◌<◌, ◌≤◌, Bool, true, false, cond, ◌&&◌, ◌⊎◌, inl, inr, List, [], ◌∷◌, ◌++◌, length, Option, Some, None, refl, sym, ap, ◌∙◌, subst, arith, nat_lt}
use Rattle.std.specs.Prelude.{slice_get, not}
use Rattle.std.specs.Option.{option_map}
use Rattle.std.proofs.lemmas.Bool.{cond_both, and_parts, not-true}
use Rattle.std.proofs.lemmas.Bool.Decides.{nat_tests}
use Rattle.std.proofs.lemmas.Option.{same_Some}
use Rattle.fab_base.specs.declared.identities.BrickId.{BrickId}
use Rattle.fab_base.specs.declared.identities.GroupId.{GroupId}
use Rattle.fab_base.specs.declared.member_lists.View.{View}
use Rattle.fab_base.specs.declared.stamps.Ballot.{Ballot}
use Rattle.fab_base.specs.declared.asks.Ask.{Ask}
use Rattle.fab_base.specs.Layouts.{Layout, Group, group_of}
use Rattle.messages.specs.declared.calls.Call.{Call}
use Rattle.messages.specs.declared.packets.Message.{Message}
use Rattle.messages.specs.declared.packets.Packet.{Packet}
use Rattle.messages.specs.declared.requests.Request.{Request}
use Rattle.messages.specs.declared.replies.Reply.{Reply}
use Rattle.quorum.specs.Quorums.{q_of, quorum_of}
use Rattle.quorum.specs.Memberships.{is_membership}
use Rattle.synod_laws.specs.Synods.{value_or}
use Rattle.synod_laws.proofs.Agreement.{chosen_stays}
use Rattle.protocol.specs.declared.phases.Counted.{Counted}
use Rattle.protocol.specs.declared.tellings.Report.{Report}
use Rattle.protocol.specs.declared.tellings.Report.TheVariants as report
use Rattle.protocol.specs.declared.tellings.ViewAnswer.{ViewAnswer}
use Rattle.protocol.specs.declared.tellings.ViewAnswer.TheVariants as answer
use Rattle.protocol.specs.Settings.{Setting, IsSound}
use Rattle.protocol.specs.Views.{kept_by}
use Rattle.protocol.specs.Proposals.{Proposal, Voting, ballot_quorum, seat_voting, with_voice, refused_by, greatest_choice, asking, answers_ballot, ballot_packets, voted}
use Rattle.protocol.specs.Coordinators.{Coordinator, Next, Ignores, Waits, Sends, Makes, Ends, on_reply, hearing, counts_at}
use Rattle.protocol.specs.Nodes.{Node, NodeStep, put, no_step, sending, with_known, with_round, known_after, fresh_stamp, learn_packets, group_at, began, invoked, requested, carried_out, carried_ballot, replied_ballot, replied_at, view_counted, node_taught_by, replied, lists_fit, heard, received, proposed, proposed_in, new_proposal, proposing, reporting, ticked, stopped, restarted, may_open, synced_at, carried_for, job_reading, scrubbed_at, scrub_of}
use Rattle.protocol.specs.Worlds.{World, Event, first_world, is_brick, run, reports_of, voiced_after, voices_at, voices_with, with_voiced}
use Rattle.protocol.proofs.Events.{EventCases, step_on, always_where, started_each}
use Rattle.protocol.proofs.Served.{request_each}
use Rattle.protocol.proofs.Tables.{get_one}
use Rattle.view_laws.proofs.Histories.{ViewWorld, view_world, IsSent, history, seated, seated_grows, Extends}
use Rattle.view_laws.proofs.Agreeing.{Turn, turned, turn_extends, placed, sending_more}
use Rattle.view_laws.proofs.Calling.{StepCalls, Called}
use Rattle.view_laws.proofs.CallSteps.{Calls, always_calls, append_none, invoked_calls, proposed_calls, received_calls, stopped_calls, restarted_calls, found_calls, found_called, synced_calls, scrubbed_calls}
use Rattle.view_laws.proofs.Owning.{requested_own, taught_own, learnt_own, synced_own}
use Rattle.view_laws.proofs.Voices.{voice_counts, unrefused, acceptance_of}
use Rattle.view_laws.proofs.Votings.{voting_each}
use Rattle.view_laws.proofs.Drafting.{DraftSays, step_extends}
use Rattle.view_laws.proofs.Deciding.{HasLimits, voice_says, group_at_draft, asked_chosen}
use Rattle.view_laws.proofs.Replying.{decided_named}
use Rattle.view_laws.proofs.Agreements.{Agreement, packet_sent, received_says, always_agreed}
use Rattle.view_laws.proofs.Extending.{extends_cases, restarted_extends}
use Rattle.view_laws.proofs.Reporting.{Voices, EndSays, DecidedSays, end_stays, DraftVoices, Reporting, IsDraftPlace, IsNewEnd, StepVoices, reporting_after, still_voices, voiced_each}
use Rattle.fab_base.specs.declared.identities.StripeNo.{StripeNo}
use Rattle.protocol.specs.Scrubs.{Scrub}
use Rattle.protocol.specs.declared.tellings.ScrubAnswer.{ScrubAnswer}

-- ---- one more reply

module _ (layout : Layout) (last : ViewWorld) (voices : Voices) (node : Node) (i : ℕ) (p : Proposal) (is : node.proposal ≡ Some p) (was : DraftVoices voices i p)
    (call : Call) (call_is : call ≡ p.call) (one : Counted) where
  -- the replies with this one more
  abbrev more : Voices
  more = with_voiced voices i call one

  -- it is added to the open proposal alone
  more_changes : (k boot seq phase : ℕ) → (more k boot seq phase ≡ voices k boot seq phase) ⊎ IsDraftPlace node i k boot seq
  more_changes =
      voiced_each (λ k boot seq phase l. (l ≡ voices k boot seq phase) ⊎ IsDraftPlace node i k boot seq) voices i call one
      (inr (record {
        brick = refl;
        draft = p;
        is = is;
        boot_is = ap (λ (z : Call). z.boot) call_is;
        seq_is = ap (λ (z : Call). z.seq) call_is;
      }))
      (λ k boot seq phase other. inl refl)

  -- its phase has it
  more_here : more i p.call.boot p.call.seq p.call.phase ≡ p.counted ++ (one ∷ [])
  more_here =
      voiced_each
      (λ k boot seq phase l. k ≡ i → boot ≡ p.call.boot → seq ≡ p.call.seq → phase ≡ p.call.phase → l ≡ p.counted ++ (one ∷ [])) voices i call one
      (λ k_is boot_is seq_is phase_is.
      ap (λ (l : List Counted). l ++ (one ∷ []))
      (subst (λ (z : Call). voices i z.boot z.seq z.phase ≡ p.counted) (sym call_is) was.here))
      (λ k boot seq phase other k_is boot_is seq_is phase_is.
      absurd (other (
        k_is,
        boot_is ∙ sym (ap (λ (z : Call). z.boot) call_is),
        seq_is ∙ sym (ap (λ (z : Call). z.seq) call_is),
        phase_is ∙ sym (ap (λ (z : Call). z.phase) call_is),
      )))
      i p.call.boot p.call.seq p.call.phase refl refl refl refl

  -- no later phase has any
  more_later : (phase : ℕ) → p.call.phase < phase → more i p.call.boot p.call.seq phase ≡ []
  more_later phase less =
      voiced_each (λ k boot seq later l. k ≡ i → boot ≡ p.call.boot → seq ≡ p.call.seq → later ≡ phase → l ≡ []) voices i call one
      (λ k_is boot_is seq_is phase_is. absurd (let same = ap (λ (z : Call). z.phase) call_is in omega (arith, same, phase_is, less)))
      (λ k boot seq later other k_is boot_is seq_is phase_is.
      ap (λ (z : ℕ). voices z boot seq later) k_is ∙ ap (λ (z : ℕ). voices i z seq later) boot_is ∙ ap (λ (z : ℕ). voices i p.call.boot z later) seq_is
      ∙ ap (λ (z : ℕ). voices i p.call.boot p.call.seq z) phase_is ∙ was.later phase less)
      i p.call.boot p.call.seq phase refl refl refl refl

  -- the proposal goes on
  more_voices : (q : Proposal) → DraftVoices more i q → StepVoices layout last voices more node i (Some q) []
  more_voices q says = record {
    changes = more_changes;
    drafts = λ r same. subst (λ (z : Proposal). DraftVoices more i z) (same_Some q r same) says;
    ends = λ k brick number other ended at. absurd (let never : None ≡ Some (brick, report.View number (Some other) ended) = at in cc);
    unsent = λ k brick number ended at. absurd (let never : None ≡ Some (brick, report.View number None ended) = at in cc);
  }

-- equal reports tell the same
same_report : (number other : GroupId) (call called : Option Call) (one two : ViewAnswer) → report.View number call one ≡ report.View other called two
    → (number ≡ other) × (call ≡ called) × (one ≡ two)
same_report number other call called one two is = (cc, cc, cc)

-- what is reported is one end
one_end : (layout : Layout) (last : ViewWorld) (voices : Voices) (node : Node) (i : ℕ) (me brick : BrickId) (number other : GroupId) (call called : Call)
    (one two : ViewAnswer) → IsNewEnd layout last voices node i None me number call one → me ≡ brick
    → report.View number (Some call) one ≡ report.View other (Some called) two → IsNewEnd layout last voices node i None brick other called two
one_end layout last voices node i me brick number other call called one two says same is =
    let parts = same_report number other (Some call) (Some called) one two is in
    subst (λ (z : ViewAnswer). IsNewEnd layout last voices node i None brick other called z) parts.2
    (subst (λ (z : Call). IsNewEnd layout last voices node i None brick other z one) (same_Some call called parts.1)
    (subst (λ (z : GroupId). IsNewEnd layout last voices node i None brick z call one) parts.0
    (subst (λ (z : BrickId). IsNewEnd layout last voices node i None z number call one) same says)))

-- so it is where a proposal ends
end_voices : (layout : Layout) (last : ViewWorld) (voices changed : Voices) (node : Node) (me : BrickId) (p : Proposal) → node.proposal ≡ Some p → (ended : ViewAnswer)
    → ((k boot seq phase : ℕ) → (changed k boot seq phase ≡ voices k boot seq phase) ⊎ IsDraftPlace node me.0 k boot seq)
    → EndSays layout last (changed me.0 p.call.boot p.call.seq p.call.phase) me.0 p.call.group p.call ended
    → StepVoices layout last voices changed node me.0 None ((me, report.View p.call.group (Some p.call) ended) ∷ [])
end_voices layout last voices changed node me p is ended changes end = record {
  changes = changes;
  drafts = λ q same. absurd (let never : None ≡ Some q = same in cc);
  ends = λ k brick number call other at.
      let same = get_one (me, report.View p.call.group (Some p.call) ended) (brick, report.View number (Some call) other) k at in
      one_end layout last changed node me.0 me brick p.call.group number p.call call ended other
      (record { brick_is = refl; draft = p; is = is; call_is = refl; none = refl; end = end })
      (ap (λ (z : BrickId × Report). z.0) same) (ap (λ (z : BrickId × Report). z.1) same);
  unsent = λ k brick number other at.
      let same = get_one (me, report.View p.call.group (Some p.call) ended) (brick, report.View number None other) k at in
      absurd (some_none p.call (same_report p.call.group number (Some p.call) None ended other (ap (λ (z : BrickId × Report). z.1) same)).1);
}
  where
    some_none : (call : Call) → Some call ≡ None → ⊥
    some_none call never = cc

-- where a brick reports of no proposal, nothing is reported of one
others_voices : (layout : Layout) (last : ViewWorld) (voices : Voices) (node : Node) (me : BrickId) (proposal : Option Proposal) (made : Report)
    → ((number : GroupId) (call : Option Call) (ended : ViewAnswer) → made ≡ report.View number call ended → ⊥)
    → ((q : Proposal) → proposal ≡ Some q → DraftVoices voices me.0 q) → StepVoices layout last voices voices node me.0 proposal ((me, made) ∷ [])
others_voices layout last voices node me proposal made no_proposal drafts = record {
  changes = λ k boot seq phase. inl refl;
  drafts = drafts;
  ends = λ k brick number call ended at.
      let same = get_one (me, made) (brick, report.View number (Some call) ended) k at in
      absurd (no_proposal number (Some call) ended (ap (λ (z : BrickId × Report). z.1) same));
  unsent = λ k brick number ended at.
      let same = get_one (me, made) (brick, report.View number None ended) k at in
      absurd (no_proposal number None ended (ap (λ (z : BrickId × Report). z.1) same));
}

-- such is a report of a scrub
scrubs_voices : (layout : Layout) (last : ViewWorld) (voices : Voices) (node : Node) (me : BrickId) (proposal : Option Proposal) (ended : Call)
    (members : List BrickId) (answered : ScrubAnswer) → ((q : Proposal) → proposal ≡ Some q → DraftVoices voices me.0 q)
    → StepVoices layout last voices voices node me.0 proposal ((me, report.Scrub ended members answered) ∷ [])
scrubs_voices layout last voices node me proposal ended members answered =
    others_voices layout last voices node me proposal (report.Scrub ended members answered) no_proposal
  where
    no_proposal : (number : GroupId) (call : Option Call) (made : ViewAnswer) → report.Scrub ended members answered ≡ report.View number call made → ⊥
    no_proposal number call made never = cc

-- and one of a synchronisation
syncs_voices : (layout : Layout) (last : ViewWorld) (voices : Voices) (node : Node) (me : BrickId) (proposal : Option Proposal) (group : GroupId)
    (answered : SyncAnswer) → ((q : Proposal) → proposal ≡ Some q → DraftVoices voices me.0 q)
    → StepVoices layout last voices voices node me.0 proposal ((me, report.Sync group answered) ∷ [])
syncs_voices layout last voices node me proposal group answered = others_voices layout last voices node me proposal (report.Sync group answered) no_proposal
  where
    no_proposal : (number : GroupId) (call : Option Call) (ended : ViewAnswer) → report.Sync group answered ≡ report.View number call ended → ⊥
    no_proposal number call ended never = cc

-- each brick of the disk is taught, and there is one
learn_some : (me : BrickId) (group : GroupId) (view : View) (bricks : ℕ) → 1 ≤ bricks
    → (packet : Packet) × (slice_get (learn_packets me group view bricks 0) 0 ≡ Some packet)
learn_some me group view zero some = absurd (omega (arith, some))
learn_some me group view (suc left) some = (record { from = me; to = record { 0 = 0 }; message = Message.Learn group view }, refl)

-- ---- a reply to a proposal

module _ (setting : Setting) (limits : HasLimits setting.layout) (w : World) (calls : Calls w) (agreement : Agreement setting.layout w)
    (was : Reporting setting.layout (view_world w) w.choices.voices w.choices.reports) (me from : BrickId) (call : Call) (said : Reply)
    (sent : IsSent w.packets (record { from = from; to = me; message = Message.Reply call said })) (some : 1 ≤ setting.layout.bricks) (next : Node)
    (turn : Turn setting.layout w.packets (w.nodes me.0) next) where
  abbrev v : ViewWorld
  v = view_world w

  -- the world once the brick took its turn
  abbrev x : ViewWorld
  x = turned v me.0 next

  -- more is known after the step
  extends : (new : List Packet) → Extends setting.layout v (sending_more x new)
  extends new = step_extends setting.layout v me.0 next new agreement.agreed turn

  -- a step that adds no reply and reports nothing
  still : (new : List Packet) (proposal : Option Proposal) → proposal ≡ (w.nodes me.0).proposal
      → StepVoices setting.layout (sending_more x new) w.choices.voices w.choices.voices (w.nodes me.0) me.0 proposal []
  still new proposal same =
      still_voices setting.layout (sending_more x new) w.choices.voices (w.nodes me.0) me.0 proposal (λ q is. was.drafts me.0 q (sym same ∙ is))

  module _ (p : Proposal) (is : (w.nodes me.0).proposal ≡ Some p) (seat : ℕ) (counts : seat_voting setting.layout.bricks p from.0 call said ≡ Some seat) where
    -- the proposal with this reply
    abbrev q : Proposal
    q = with_voice p seat from said

    -- the reply, as it counts
    abbrev one : Counted
    one = record { seat = seat; brick = from; reply = said }

    -- the reply is to the proposal's phase
    call_is : call ≡ p.call
    call_is = (voice_counts setting.layout.bricks p from.0 call said seat counts).call_is

    -- what is so of the proposal with this reply
    q_says : DraftSays setting.layout v me.0 q
    q_says = voice_says setting.layout v me.0 p from call said seat (agreement.drafting.drafts me.0 p is) counts sent

    -- it waits
    waits_voices : StepVoices setting.layout (sending_more x []) w.choices.voices (with_voiced w.choices.voices me.0 call one) (w.nodes me.0) me.0 (Some q) []
    waits_voices =
        more_voices setting.layout (sending_more x []) w.choices.voices (w.nodes me.0) me.0 p is (was.drafts me.0 p is) call call_is one q
        (record {
          here = more_here setting.layout (sending_more x []) w.choices.voices (w.nodes me.0) me.0 p is (was.drafts me.0 p is) call call_is one;
          later = more_later setting.layout (sending_more x []) w.choices.voices (w.nodes me.0) me.0 p is (was.drafts me.0 p is) call call_is one;
        })

    -- it asks for a list
    asks_voices : (members : List BrickId) (new : List Packet)
        → StepVoices setting.layout (sending_more x new) w.choices.voices (with_voiced w.choices.voices me.0 call one) (w.nodes me.0) me.0 (Some (asking q members)) []
    asks_voices members new =
        more_voices setting.layout (sending_more x new) w.choices.voices (w.nodes me.0) me.0 p is (was.drafts me.0 p is) call call_is one (asking q members)
        (record {
          here = more_later setting.layout (sending_more x new) w.choices.voices (w.nodes me.0) me.0 p is (was.drafts me.0 p is) call call_is one
              (p.call.phase + 1) (omega arith);
          later = λ phase less.
              more_later setting.layout (sending_more x new) w.choices.voices (w.nodes me.0) me.0 p is (was.drafts me.0 p is) call call_is one phase
              (omega (arith, less));
        })

    -- it ends
    ends_voices : (ended : ViewAnswer) (new : List Packet) → nat_lt (length q.counted) (ballot_quorum p) ≡ false
        → ((refused_by q.counted ≡ Some ended)
        ⊎ DecidedSays setting.layout (sending_more x new) q.counted p.call.group.0 p.view (group_at_draft q q_says.group) ended)
        → StepVoices setting.layout (sending_more x new) w.choices.voices (with_voiced w.choices.voices me.0 call one) (w.nodes me.0) me.0 None
        ((me, report.View p.call.group (Some p.call) ended) ∷ [])
    ends_voices ended new enough cause =
        let quorum : ballot_quorum p ≡ quorum_of (group_at_draft q q_says.group) = ap (λ (m : ℕ). q_of m (length p.view.members)) q_says.m_is in
        let least : ballot_quorum p ≤ length q.counted = grind (arith, nat_tests, enough) in
        end_voices setting.layout (sending_more x new) w.choices.voices (with_voiced w.choices.voices me.0 call one) (w.nodes me.0) me p is ended
        (more_changes setting.layout (sending_more x new) w.choices.voices (w.nodes me.0) me.0 p is (was.drafts me.0 p is) call call_is one)
        (subst (λ (l : List Counted). EndSays setting.layout (sending_more x new) l me.0 p.call.group p.call ended)
        (sym (more_here setting.layout (sending_more x new) w.choices.voices (w.nodes me.0) me.0 p is (was.drafts me.0 p is) call call_is one))
        (record {
          own = refl;
          view = p.view;
          named = (extends new).named p.call.group.0 p.view.number.0 p.view q_says.named;
          view_is = q_says.view_is;
          group = group_at_draft q q_says.group;
          group_is = ap (option_map (kept_by p.view.members)) q_says.group_is;
          sent = λ k c at. (extends new).sent _ (q_says.counted k c at).sent;
          seats = λ k c at. (q_says.counted k c at).seat;
          distinct = q_says.distinct;
          enough = omega (arith, quorum, least);
          cause = cause;
        }))

    -- with the list that it asked for
    decides_voices : (members : List BrickId) → nat_lt (length q.counted) (ballot_quorum p) ≡ false → refused_by q.counted ≡ None → p.asks ≡ Some members
        → StepVoices setting.layout
        (sending_more x (learn_packets me p.call.group (record { number = record { 0 = p.view.number.0 + 1 }; members = members; prior = p.view.members })
        setting.layout.bricks 0))
        w.choices.voices (with_voiced w.choices.voices me.0 call one) (w.nodes me.0) me.0 None
        ((me, report.View p.call.group (Some p.call) (answer.Decided (record { 0 = p.view.number.0 + 1 }) members)) ∷ [])
    decides_voices members enough free asks =
        let view : View = record { number = record { 0 = p.view.number.0 + 1 }; members = members; prior = p.view.members } in
        let new : List Packet = learn_packets me p.call.group view setting.layout.bricks 0 in
        let group : Group = group_at_draft q q_says.group in
        let first = learn_some me p.call.group view setting.layout.bricks some in
        ends_voices (answer.Decided (record { 0 = p.view.number.0 + 1 }) members) new enough
        (inr (record {
          members = members;
          is = refl;
          accepted = λ k c at.
              acceptance_of q.m setting.layout.bricks c.seat c.brick members c.reply
              (subst (λ (z : Option (List BrickId)). answers_ballot q.m setting.layout.bricks z c.reply ≡ true) asks (q_says.counted k c at).answers)
              (unrefused q.counted free k c at);
          ballot = p.ballot;
          chosen = chosen_stays (length group.members) (quorum_of group) (seated group (history v p.call.group.0 p.view.number.0))
              (seated group (history (sending_more x new) p.call.group.0 p.view.number.0)) p.ballot members
              (seated_grows group (history v p.call.group.0 p.view.number.0) (history (sending_more x new) p.call.group.0 p.view.number.0)
              ((extends new).grows p.call.group.0 p.view.number.0))
              (asked_chosen setting.layout limits v agreement.agreed me.0 q q_says (calls.called.drafts me.0 p is).called enough free members asks);
          next = decided_named setting limits v calls.called agreement.agreed agreement.drafting me from call said sent next turn p is seat counts enough free members
              asks 0 first.0 first.1;
        }))

  -- what the proposal decided is carried out
  voted_voices : (mid : Node) → mid.proposal ≡ (w.nodes me.0).proposal → (p : Proposal) → (w.nodes me.0).proposal ≡ Some p
      → (let step = carried_ballot setting.layout me mid p (voted setting.layout.bricks p from call said) in
      StepVoices setting.layout (sending_more x step.packets) w.choices.voices
      (voiced_after w.choices.voices me.0 from call said (seat_voting setting.layout.bricks p from.0 call said)) (w.nodes me.0) me.0 step.node.proposal
      (reports_of me step.reports))
  voted_voices mid same p is =
      voting_each
      (λ (at : Option ℕ) (decision : Voting).
      StepVoices setting.layout (sending_more x (carried_ballot setting.layout me mid p decision).packets) w.choices.voices
      (voiced_after w.choices.voices me.0 from call said at) (w.nodes me.0) me.0 (carried_ballot setting.layout me mid p decision).node.proposal
      (reports_of me (carried_ballot setting.layout me mid p decision).reports))
      setting.layout.bricks p from call said
      (record {
        ignores = λ none. still [] mid.proposal same;
        waits = λ seat counts. waits_voices p is seat counts;
        asks = λ seat counts enough free prepares.
            asks_voices p is seat counts (value_or p.own (greatest_choice (with_voice p seat from said).counted))
            (ballot_packets me (asking (with_voice p seat from said) (value_or p.own (greatest_choice (with_voice p seat from said).counted))));
        decides = λ seat members counts enough free asks. decides_voices p is seat counts members enough free asks;
        refuses = λ seat refused counts enough told. ends_voices p is seat counts refused _ enough (inl told);
      })

  -- a reply to the proposal, if there is one
  ballot_voices : (mid : Node) → mid.proposal ≡ (w.nodes me.0).proposal → (z : Option Proposal) → (w.nodes me.0).proposal ≡ z
      → (let step = replied_ballot setting.layout me from mid call said z in
      StepVoices setting.layout (sending_more x step.packets) w.choices.voices (voices_at setting w me.0 from call said None z) (w.nodes me.0) me.0
      step.node.proposal (reports_of me step.reports))
  ballot_voices mid same None is = still [] mid.proposal same
  ballot_voices mid same (Some p) is = voted_voices mid same p is

  -- a reply to an open operation leaves the proposal, and reports nothing
  carried_voices : (mid : Node) → mid.proposal ≡ (w.nodes me.0).proposal → (known : ℕ) (c : Coordinator) (decision : Next)
      → (let step = carried_out setting me mid known c decision in
      StepVoices setting.layout (sending_more x step.packets) w.choices.voices w.choices.voices (w.nodes me.0) me.0 step.node.proposal (reports_of me step.reports))
  carried_voices mid same known c Ignores = still _ _ same
  carried_voices mid same known c (Waits d) = still _ _ same
  carried_voices mid same known c (Sends d) = still _ _ same
  carried_voices mid same known c (Makes d) = still _ _ same
  carried_voices mid same known c (Ends answered seen stored) = still _ _ same

  -- nor does one to a read of the synchronisation or to the scrub report of a proposal
  carried_for_voices : (now : ℕ) (mid : Node) → mid.proposal ≡ (w.nodes me.0).proposal → (known : ℕ) (c heard : Coordinator) (decision : Next)
      (reading : Option Job) (scrub : Option Scrub)
      → (let step = carried_for setting me now mid known c heard decision reading scrub in
      StepVoices setting.layout (sending_more x step.packets) w.choices.voices w.choices.voices (w.nodes me.0) me.0 step.node.proposal (reports_of me step.reports))
  carried_for_voices now mid same known c heard decision reading scrub =
      carried_each
      (λ (step : NodeStep).
      StepVoices setting.layout (sending_more x step.packets) w.choices.voices w.choices.voices (w.nodes me.0) me.0 step.node.proposal (reports_of me step.reports))
      setting me now mid known c heard decision reading scrub (carried_voices mid same known c decision)
      (λ job is answered seen stored ends. record {
        stays = still _ _ same;
        ends = λ answer. syncs_voices setting.layout _ w.choices.voices (w.nodes me.0) me _ job.group answer (λ q at. was.drafts me.0 q (sym same ∙ at));
        finishes = syncs_voices setting.layout _ w.choices.voices (w.nodes me.0) me _ job.group _ (λ q at. was.drafts me.0 q (sym same ∙ at));
        reads = λ attempt group kept. still _ _ same;
      })
      (record {
        begins = λ s is d sends. still _ _ same;
        ends = λ s is answered seen stored ended.
            scrubs_voices setting.layout _ w.choices.voices (w.nodes me.0) me _ c.call _ _ (λ q at. was.drafts me.0 q (sym same ∙ at));
      })

  -- a reply to an open operation, if there is one, or else to the proposal
  call_voices : (now : ℕ) (z : Option Coordinator)
      → (let step = replied_at setting me now from (with_round (w.nodes me.0) said) call said z in
      StepVoices setting.layout (sending_more x step.packets) w.choices.voices (voices_at setting w me.0 from call said z (w.nodes me.0).proposal) (w.nodes me.0)
      me.0 step.node.proposal (reports_of me step.reports))
  call_voices now None =
      ballot_voices (with_known (with_round (w.nodes me.0) said) (known_after (w.nodes me.0).known said)) refl (w.nodes me.0).proposal refl
  call_voices now (Some c) =
      coordinator_voices (w.nodes me.0).proposal
    where
      coordinator_voices : (z : Option Proposal)
          → (let step = replied_at setting me now from (with_round (w.nodes me.0) said) call said (Some c) in
          StepVoices setting.layout (sending_more x step.packets) w.choices.voices (voices_at setting w me.0 from call said (Some c) z) (w.nodes me.0)
          me.0 step.node.proposal (reports_of me step.reports))
      coordinator_voices z =
          carried_for_voices now (with_round (w.nodes me.0) said) refl (known_after (w.nodes me.0).known said) c
          (hearing c from said (counts_at setting.layout.block c from.0 call said))
          (on_reply setting.layout.block setting.code (fresh_stamp me c.stamp.view now (w.nodes me.0).boot (known_after (w.nodes me.0).known said)) c from call said)
          (job_reading (w.nodes me.0).job c.call.seq) (scrub_of (w.nodes me.0).scrub c.call.seq)

-- two choices by one test
cond_two : {A B : Type 0} (t : Bool) (a b : A) (c d : B) (P : A → B → Type 0) → (t ≡ true → P a c) → (t ≡ false → P b d) → P (cond t a b) (cond t c d)
cond_two true a b c d P yes_is isnt = yes_is refl
cond_two false a b c d P yes_is isnt = isnt refl

-- what a step leaves of replies and reports, by its proposal
voices_own : (layout : Layout) (last : ViewWorld) (voices changed : Voices) (node : Node) (i : ℕ) (one other : Option Proposal) (fresh : List (BrickId × Report))
    → other ≡ one → StepVoices layout last voices changed node i one fresh → StepVoices layout last voices changed node i other fresh
voices_own layout last voices changed node i old other fresh same says =
    subst (λ (z : Option Proposal). StepVoices layout last voices changed node i z fresh) (sym same) says

-- a reply is handled
heard_voices : (setting : Setting) → HasLimits setting.layout → (w : World) → Calls w → Agreement setting.layout w
    → Reporting setting.layout (view_world w) w.choices.voices w.choices.reports → (me from : BrickId) (now : ℕ) (call : Call) (said : Reply)
    → IsSent w.packets (record { from = from; to = me; message = Message.Reply call said }) → 1 ≤ setting.layout.bricks
    → (next : Node) → Turn setting.layout w.packets (w.nodes me.0) next
    → (let step = heard setting me now from (w.nodes me.0) call said in
    StepVoices setting.layout (sending_more (turned (view_world w) me.0 next) step.packets) w.choices.voices
    (cond (lists_fit setting.layout call said)
    (voices_at setting w me.0 from call said ((w.nodes me.0).calls call.seq) (w.nodes me.0).proposal) w.choices.voices)
    (w.nodes me.0) me.0 step.node.proposal (reports_of me step.reports))
unfolding replied
heard_voices setting limits w calls agreement was me from now call said sent some next turn =
    cond_two (lists_fit setting.layout call said) (replied setting me now from (w.nodes me.0) call said)
    (no_step (with_known (with_round (w.nodes me.0) said) (known_after (w.nodes me.0).known said)))
    (voices_at setting w me.0 from call said ((w.nodes me.0).calls call.seq) (w.nodes me.0).proposal) w.choices.voices
    (λ (step : NodeStep) (changed : Voices).
    StepVoices setting.layout (sending_more (turned (view_world w) me.0 next) step.packets) w.choices.voices changed (w.nodes me.0) me.0 step.node.proposal
    (reports_of me step.reports))
    (λ fit.
    let mid : NodeStep = replied_at setting me now from (with_round (w.nodes me.0) said) call said ((w.nodes me.0).calls call.seq) in
    voices_own setting.layout (sending_more (turned (view_world w) me.0 next) mid.packets) w.choices.voices
    (voices_at setting w me.0 from call said ((w.nodes me.0).calls call.seq) (w.nodes me.0).proposal) (w.nodes me.0) me.0 mid.node.proposal
    (node_taught_by setting.layout.block call.group.0 mid.node (view_counted setting.layout from (w.nodes me.0) call said)).proposal (reports_of me mid.reports)
    (taught_own setting.layout.block call.group.0 mid.node (view_counted setting.layout from (w.nodes me.0) call said)).proposal
    (call_voices setting limits w calls agreement was me from call said sent some next turn now ((w.nodes me.0).calls call.seq)))
    (λ isnt. still setting limits w calls agreement was me from call said sent some next turn [] (w.nodes me.0).proposal refl)

-- a request reports nothing
requested_reports : (setting : Setting) (me from : BrickId) (node : Node) (call : Call) (request : Request)
    → (requested setting me from node call request).reports ≡ []
requested_reports setting me from node call request =
    request_each (λ (step : NodeStep). step.reports ≡ []) setting me from node call request refl (λ said is. refl) (λ group seat is served. refl)
    (λ group ballot asks is. refl)

-- a packet is handled
received_voices : (setting : Setting) → HasLimits setting.layout → (w : World) → Calls w → Agreement setting.layout w
    → Reporting setting.layout (view_world w) w.choices.voices w.choices.reports → (packet : Packet) → IsSent w.packets packet → 1 ≤ setting.layout.bricks
    → (next : Node) → Turn setting.layout w.packets (w.nodes packet.to.0) next
    → (let step = received setting packet.to (w.clocks packet.to.0) (w.nodes packet.to.0) packet in
    StepVoices setting.layout (sending_more (turned (view_world w) packet.to.0 next) step.packets) w.choices.voices (voices_with setting w packet)
    (w.nodes packet.to.0) packet.to.0 step.node.proposal (reports_of packet.to step.reports))
unfolding received
received_voices setting limits w calls agreement was packet sent some next turn = by packet.message refl
  where
    quiet : (new : List Packet) (proposal : Option Proposal) (reports : List Report) → proposal ≡ (w.nodes packet.to.0).proposal → reports ≡ []
        → StepVoices setting.layout (sending_more (turned (view_world w) packet.to.0 next) new) w.choices.voices w.choices.voices (w.nodes packet.to.0) packet.to.0
        proposal (reports_of packet.to reports)
    quiet new proposal reports same none =
        subst (λ (l : List Report). StepVoices setting.layout (sending_more (turned (view_world w) packet.to.0 next) new) w.choices.voices w.choices.voices
        (w.nodes packet.to.0) packet.to.0 proposal (reports_of packet.to l)) (sym none)
        (still_voices setting.layout (sending_more (turned (view_world w) packet.to.0 next) new) w.choices.voices (w.nodes packet.to.0) packet.to.0 proposal
        (λ q is. was.drafts packet.to.0 q (sym same ∙ is)))

    by : (message : Message) → packet.message ≡ message
        → (let step = received setting packet.to (w.clocks packet.to.0) (w.nodes packet.to.0) (record { from = packet.from; to = packet.to; message = message }) in
        StepVoices setting.layout (sending_more (turned (view_world w) packet.to.0 next) step.packets) w.choices.voices
        (voices_with setting w (record { from = packet.from; to = packet.to; message = message }))
        (w.nodes packet.to.0) packet.to.0 step.node.proposal (reports_of packet.to step.reports))
    by (Message.Request call request) is =
        quiet _ _ _ (requested_own setting packet.to packet.from (w.nodes packet.to.0) call request).proposal
        (requested_reports setting packet.to packet.from (w.nodes packet.to.0) call request)
    by (Message.Reply call said) is =
        heard_voices setting limits w calls agreement was packet.to packet.from (w.clocks packet.to.0) call said
        (subst (λ (z : Message). IsSent w.packets (record { from = packet.from; to = packet.to; message = z })) is sent) some next turn
    by (Message.Learn group view) is = quiet _ _ _ (learnt_own setting.layout (w.nodes packet.to.0) group view).proposal refl
    by (Message.Synced group number) is = quiet _ _ _ (synced_own setting.layout (w.nodes packet.to.0) group number).proposal refl
    by (Message.Client ask) is = quiet _ _ _ refl refl
    by (Message.ClientReply id answered) is = quiet _ _ _ refl refl

-- a proposal begins, or ends at once
proposed_voices : (setting : Setting) (w : World) → Reporting setting.layout (view_world w) w.choices.voices w.choices.reports → (me : BrickId) (group : GroupId)
    (members : List BrickId) (last : ViewWorld)
    → (let step = proposed setting me (w.nodes me.0) group members in
    StepVoices setting.layout last w.choices.voices w.choices.voices (w.nodes me.0) me.0 step.node.proposal (reports_of me step.reports))
unfolding proposed
proposed_voices setting w was me group members last = by (group_of setting.layout group.0)
  where
    quiet : StepVoices setting.layout last w.choices.voices w.choices.voices (w.nodes me.0) me.0 (w.nodes me.0).proposal []
    quiet = still_voices setting.layout last w.choices.voices (w.nodes me.0) me.0 (w.nodes me.0).proposal (λ q is. was.drafts me.0 q is)

    fresh : (m : ℕ) → StepVoices setting.layout last w.choices.voices w.choices.voices (w.nodes me.0) me.0 (Some (new_proposal me (w.nodes me.0) m group members)) []
    fresh m =
        still_voices setting.layout last w.choices.voices (w.nodes me.0) me.0 (Some (new_proposal me (w.nodes me.0) m group members))
        (λ q same. subst (λ (z : Proposal). DraftVoices w.choices.voices me.0 z) (same_Some (new_proposal me (w.nodes me.0) m group members) q same)
        (record {
          here = was.unmade me.0 (w.nodes me.0).boot ((w.nodes me.0).seq + 1) 1 (inr (refl, omega arith));
          later = λ phase less. was.unmade me.0 (w.nodes me.0).boot ((w.nodes me.0).seq + 1) phase (inr (refl, omega arith));
        }))

    none_some : (call : Call) → None ≡ Some call → ⊥
    none_some call never = cc

    bad : StepVoices setting.layout last w.choices.voices w.choices.voices (w.nodes me.0) me.0 (w.nodes me.0).proposal
        ((me, report.View group None answer.BadMembers) ∷ [])
    bad = record {
      changes = λ k boot seq phase. inl refl;
      drafts = λ q is. was.drafts me.0 q is;
      ends = λ k brick number call ended at.
          let same = get_one (me, report.View group None answer.BadMembers) (brick, report.View number (Some call) ended) k at in
          absurd (none_some call (same_report group number None (Some call) answer.BadMembers ended (ap (λ (z : BrickId × Report). z.1) same)).1);
      unsent = λ k brick number ended at.
          let same = get_one (me, report.View group None answer.BadMembers) (brick, report.View number None ended) k at in
          sym (same_report group number None None answer.BadMembers ended (ap (λ (z : BrickId × Report). z.1) same)).2;
    }

    by : (z : Option Group)
        → (let step = proposed_in setting me (w.nodes me.0) group members z in
        StepVoices setting.layout last w.choices.voices w.choices.voices (w.nodes me.0) me.0 step.node.proposal (reports_of me step.reports))
    by None = quiet
    by (Some kept) =
        cond_both (is_membership kept.m setting.layout.bricks members)
        (sending (proposing (w.nodes me.0) (new_proposal me (w.nodes me.0) kept.m group members))
        (ballot_packets me (new_proposal me (w.nodes me.0) kept.m group members)))
        (reporting (w.nodes me.0) [] (report.View group None answer.BadMembers))
        (λ (step : NodeStep). StepVoices setting.layout last w.choices.voices w.choices.voices (w.nodes me.0) me.0 step.node.proposal (reports_of me step.reports))
        (λ may. fresh kept.m) (λ isnt. bad)

-- a synchronisation begins, or ends at once
sync_voices : (setting : Setting) (w : World) → Reporting setting.layout (view_world w) w.choices.voices w.choices.reports → (me : BrickId) (now : ℕ)
    (group : GroupId) (last : ViewWorld)
    → (let step = synced_at setting me now (w.nodes me.0) group in
    StepVoices setting.layout last w.choices.voices w.choices.voices (w.nodes me.0) me.0 step.node.proposal (reports_of me step.reports))
sync_voices setting w was me now group last =
    synced_at_each
    (λ (step : NodeStep). StepVoices setting.layout last w.choices.voices w.choices.voices (w.nodes me.0) me.0 step.node.proposal (reports_of me step.reports))
    setting me now (w.nodes me.0) group quiet
    (λ answer. syncs_voices setting.layout last w.choices.voices (w.nodes me.0) me _ group answer (λ q at. was.drafts me.0 q at))
    (λ answer. syncs_voices setting.layout last w.choices.voices (w.nodes me.0) me _ group answer (λ q at. was.drafts me.0 q at)) (λ kept is. quiet)
  where
    quiet : StepVoices setting.layout last w.choices.voices w.choices.voices (w.nodes me.0) me.0 (w.nodes me.0).proposal []
    quiet = still_voices setting.layout last w.choices.voices (w.nodes me.0) me.0 (w.nodes me.0).proposal (λ q is. was.drafts me.0 q is)

-- a scrub begins
scrub_voices : (setting : Setting) (w : World) → Reporting setting.layout (view_world w) w.choices.voices w.choices.reports → (me : BrickId) (now : ℕ)
    (group : GroupId) (stripe : StripeNo) (members : List BrickId) (last : ViewWorld)
    → (let step = scrubbed_at setting me now (w.nodes me.0) group stripe members in
    StepVoices setting.layout last w.choices.voices w.choices.voices (w.nodes me.0) me.0 step.node.proposal (reports_of me step.reports))
scrub_voices setting w was me now group stripe members last =
    scrubbed_at_each
    (λ (step : NodeStep). StepVoices setting.layout last w.choices.voices w.choices.voices (w.nodes me.0) me.0 step.node.proposal (reports_of me step.reports))
    setting me now (w.nodes me.0) group stripe members quiet (λ kept is. quiet)
  where
    quiet : StepVoices setting.layout last w.choices.voices w.choices.voices (w.nodes me.0) me.0 (w.nodes me.0).proposal []
    quiet = still_voices setting.layout last w.choices.voices (w.nodes me.0) me.0 (w.nodes me.0).proposal (λ q is. was.drafts me.0 q is)

-- ---- events

-- more is sent, or clocks change
reporting_sent : (layout : Layout) (packets new : List Packet) (votes : ℕ → ℕ → ℕ → Ballot → Option (List BrickId)) (nodes : ℕ → Node) (voices : Voices)
    (reports : List (BrickId × Report))
    → Extends layout (record { packets = packets; votes = votes; nodes = nodes }) (record { packets = new; votes = votes; nodes = nodes })
    → Reporting layout (record { packets = packets; votes = votes; nodes = nodes }) voices reports
    → Reporting layout (record { packets = new; votes = votes; nodes = nodes }) voices reports
reporting_sent layout packets new votes nodes voices reports extends was = record {
  ends = λ k brick number call ended at. let one = was.ends k brick number call ended at in record {
    end = end_stays layout (record { packets = packets; votes = votes; nodes = nodes }) (record { packets = new; votes = votes; nodes = nodes })
        (voices brick.0 call.boot call.seq call.phase) brick.0 number call ended extends one.end;
    made = one.made;
    gone = one.gone;
  };
  unsent = was.unsent;
  drafts = was.drafts;
  unmade = was.unmade;
}

-- a brick that has no proposal reports nothing
gone_reporting : (layout : Layout) (v : ViewWorld) (voices : Voices) (reports : List (BrickId × Report)) (i : ℕ) (next : Node)
    (votes : ℕ → ℕ → ℕ → Ballot → Option (List BrickId)) → Reporting layout v voices reports → Called v.packets v.nodes → StepCalls i (v.nodes i) next []
    → next.proposal ≡ None → Extends layout v (record { packets = v.packets; votes = votes; nodes = put v.nodes i next })
    → Reporting layout (record { packets = v.packets; votes = votes; nodes = put v.nodes i next }) voices reports
gone_reporting layout v voices reports i next votes was called step none extends =
    subst (λ (l : List (BrickId × Report)). Reporting layout (record { packets = v.packets; votes = votes; nodes = put v.nodes i next }) voices l)
    (append_none reports)
    (reporting_after layout v voices voices reports [] i next [] v.packets votes was called step extends
    (still_voices layout (record { packets = v.packets; votes = votes; nodes = put v.nodes i next }) voices (v.nodes i) i next.proposal
    (λ q is. absurd (let never : None ≡ Some q = sym none ∙ is in cc))))

-- a brick that starts has none
restarted_reporting : (layout : Layout) (v : ViewWorld) (voices : Voices) (reports : List (BrickId × Report)) (i openings : ℕ) → nat_lt 0 openings ≡ true
    → Reporting layout v voices reports → Called v.packets v.nodes → Reporting layout (placed v i (restarted openings (v.nodes i))) voices reports
unfolding restarted
restarted_reporting layout v voices reports i openings some was called =
    gone_reporting layout v voices reports i (restarted openings (v.nodes i)) v.votes was called (restarted_calls i (v.nodes i) openings some) refl
    (restarted_extends layout v i openings)

-- an operation that begins leaves the proposal
invoked_proposal : (setting : Setting) (me : BrickId) (now : ℕ) (node : Node) (ask : Ask) → (invoked setting me now node ask).node.proposal ≡ node.proposal
unfolding invoked
invoked_proposal setting me now node ask = by (group_at setting.layout node ask.group.0)
  where
    by : (z : Option Group) → (began setting me now node ask z).node.proposal ≡ node.proposal
    by None = refl
    by (Some group) = refl

-- a brick that stops has none
stopped_proposal : (node : Node) → (stopped node).proposal ≡ None
unfolding stopped
stopped_proposal node = refl

-- reports of a world say what is so
abbrev pub ReportsSay : Layout → World → Type 0
ReportsSay layout w = Reporting layout (view_world w) w.choices.voices w.choices.reports

-- each event keeps this
reporting_cases : (setting : Setting) → HasLimits setting.layout → (w : World) → Calls w × Agreement setting.layout w → ReportsSay setting.layout w
    → EventCases setting w (ReportsSay setting.layout)
reporting_cases setting limits w known was =
    let calls : Calls w = known.0 in
    let agreement : Agreement setting.layout w = known.1 in
    let extends = extends_cases setting limits w calls agreement in
    record {
      begins = λ brick ask may.
          let step : NodeStep = invoked setting brick (w.clocks brick.0) (w.nodes brick.0) ask in
          subst (λ (l : List (BrickId × Report)).
          Reporting setting.layout (record { packets = w.packets ++ step.packets; votes = w.choices.votes; nodes = put w.nodes brick.0 step.node }) w.choices.voices l)
          (append_none w.choices.reports)
          (reporting_after setting.layout (view_world w) w.choices.voices w.choices.voices w.choices.reports [] brick.0 step.node step.packets
          (w.packets ++ step.packets) w.choices.votes was calls.called (invoked_calls setting brick (w.clocks brick.0) (w.nodes brick.0) ask)
          (extends.begins brick ask may)
          (still_voices setting.layout _ w.choices.voices (w.nodes brick.0) brick.0 step.node.proposal
          (λ q is. was.drafts brick.0 q (sym (invoked_proposal setting brick (w.clocks brick.0) (w.nodes brick.0) ask) ∙ is))));
      proposes = λ brick group members may.
          let step : NodeStep = proposed setting brick (w.nodes brick.0) group members in
          reporting_after setting.layout (view_world w) w.choices.voices w.choices.voices w.choices.reports (reports_of brick step.reports) brick.0 step.node
          step.packets (w.packets ++ step.packets) (turned (view_world w) brick.0 step.node).votes was calls.called
          (proposed_calls setting brick (w.nodes brick.0) group members) (extends.proposes brick group members may)
          (proposed_voices setting w was brick group members _);
      syncs = λ brick group may.
          let step : NodeStep = synced_at setting brick (w.clocks brick.0) (w.nodes brick.0) group in
          reporting_after setting.layout (view_world w) w.choices.voices w.choices.voices w.choices.reports (reports_of brick step.reports) brick.0 step.node
          step.packets (w.packets ++ step.packets) (turned (view_world w) brick.0 step.node).votes was calls.called
          (synced_calls setting brick (w.clocks brick.0) (w.nodes brick.0) group) (extends.syncs brick group may)
          (sync_voices setting w was brick (w.clocks brick.0) group _);
      scrubs = λ brick group stripe members may.
          let step : NodeStep = scrubbed_at setting brick (w.clocks brick.0) (w.nodes brick.0) group stripe members in
          reporting_after setting.layout (view_world w) w.choices.voices w.choices.voices w.choices.reports (reports_of brick step.reports) brick.0 step.node
          step.packets (w.packets ++ step.packets) (turned (view_world w) brick.0 step.node).votes was calls.called
          (scrubbed_calls setting brick (w.clocks brick.0) (w.nodes brick.0) group stripe members) (extends.scrubs brick group stripe members may)
          (scrub_voices setting w was brick (w.clocks brick.0) group stripe members _);
      handles = λ number packet at up.
          let step : NodeStep = step_on setting w packet in
          let sent = packet_sent w.packets number packet at in
          let below = (and_parts (is_brick setting.layout packet.to) (w.up packet.to.0) up).0 in
          reporting_after setting.layout (view_world w) w.choices.voices (voices_with setting w packet) w.choices.reports (reports_of packet.to step.reports)
          packet.to.0 step.node step.packets (w.packets ++ step.packets) (turned (view_world w) packet.to.0 step.node).votes was calls.called
          (received_calls setting packet.to (w.clocks packet.to.0) (w.nodes packet.to.0) packet) (extends.handles number packet at up)
          (received_voices setting limits w calls agreement was packet sent (grind (arith, nat_tests, below)) step.node
          (received_says setting limits (view_world w) calls.called agreement.agreed agreement.drafting (w.clocks packet.to.0) packet sent).turn);
      sets = λ brick time is. was;
      ticks = λ brick up.
          reporting_sent setting.layout w.packets (w.packets ++ ticked setting brick (w.nodes brick.0)) w.choices.votes w.nodes w.choices.voices w.choices.reports
          (extends.ticks brick up) was;
      stops = λ brick during up.
          gone_reporting setting.layout (view_world w) w.choices.voices w.choices.reports brick.0 (stopped (w.nodes brick.0)) w.choices.votes was calls.called
          (stopped_calls brick.0 (w.nodes brick.0)) (stopped_proposal (w.nodes brick.0)) (extends.stops brick during up);
      starts = λ brick openings found may.
          let parts = and_parts _ (not (w.up brick.0) && may_open openings (w.nodes brick.0)) may in
          let down = and_parts (not (w.up brick.0)) (may_open openings (w.nodes brick.0)) parts.1 in
          let some = (and_parts (nat_lt 0 openings) _ down.1).0 in
          let after : Node = w.after brick.0 in
          let own = calls.left brick.0 (not-true (w.up brick.0) down.0) in
          let turn = (agreement.left brick.0 (not-true (w.up brick.0) down.0)).turn in
          started_each (ReportsSay setting.layout) w brick openings
          (restarted_reporting setting.layout (view_world w) w.choices.voices w.choices.reports brick.0 openings some was calls.called)
          (subst (λ (l : List (BrickId × Report)).
          Reporting setting.layout (placed (turned (view_world w) brick.0 after) brick.0 (restarted openings ((turned (view_world w) brick.0 after).nodes brick.0)))
          w.choices.voices l)
          (sym (append_none w.choices.reports))
          (restarted_reporting setting.layout (turned (view_world w) brick.0 after) w.choices.voices w.choices.reports brick.0 openings some
          (gone_reporting setting.layout (view_world w) w.choices.voices w.choices.reports brick.0 after (turned (view_world w) brick.0 after).votes was calls.called
          (found_calls brick.0 (w.nodes brick.0) after own) own.proposal (turn_extends setting.layout (view_world w) brick.0 after agreement.agreed turn))
          (found_called w.packets w.nodes calls.called brick.0 after own)))
          found;
    }

-- reports say what is so in every world that a run reaches
pub always_reports : (setting : Setting) → IsSound setting → (events : List Event) → ReportsSay setting.layout (run setting events (first_world setting.layout))
always_reports setting sound =
    always_where (ReportsSay setting.layout) (λ (w : World). Calls w × Agreement setting.layout w) setting
    (λ events. (always_calls setting events, always_agreed setting sound events))
    (record {
      ends = λ k brick number call ended at. absurd (let never : None ≡ Some (brick, report.View number (Some call) ended) = at in cc);
      unsent = λ k brick number ended at. absurd (let never : None ≡ Some (brick, report.View number None ended) = at in cc);
      drafts = λ i p is. absurd (let never : None ≡ Some p = is in cc);
      unmade = λ i boot seq phase is. refl;
    })
    (λ w known was. reporting_cases setting sound.limits w known was)
