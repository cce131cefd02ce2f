-- What is so of the ends that bricks reported of their proposals: the replies that counted in the last phase show them.
use Rattle.std.proofs.Common.{◌≡◌, ◌≢◌, ℕ, ◌+◌, ◌<◌, ◌≤◌, ◌⊎◌, inl, inr, ⊎_elim, List, [], ◌∷◌, ◌++◌, length, Option, Some, None, refl, sym, ap, ◌∙◌, subst, arith}
use Rattle.std.specs.Prelude.{slice_get}
use Rattle.fab_base.specs.declared.identities.BrickId.{BrickId}
use Rattle.fab_base.specs.declared.identities.GroupId.{GroupId}
use Rattle.fab_base.specs.declared.member_lists.View.{View}
use Rattle.fab_base.specs.declared.stamps.Ballot.{Ballot}
use Rattle.fab_base.specs.Layouts.{Layout, Group, seat_in}
use Rattle.messages.specs.declared.calls.Call.{Call}
use Rattle.messages.specs.declared.packets.Message.{Message}
use Rattle.messages.specs.declared.packets.Packet.{Packet}
use Rattle.messages.specs.declared.replies.Reply.{Reply}
use Rattle.quorum.specs.Quorums.{quorum_of}
use Rattle.quorum.proofs.Counts.{AreDistinctBelow}
use Rattle.synod_laws.specs.Synods.{IsChosen, seats_of}
use Rattle.synod_laws.proofs.Agreement.{chosen_stays}
use Rattle.protocol.specs.declared.phases.Counted.{Counted}
use Rattle.protocol.specs.declared.tellings.Report.{Report}
use Rattle.protocol.specs.declared.tellings.Report.TheVariants as report
use Rattle.protocol.specs.declared.tellings.ViewAnswer.{ViewAnswer}
use Rattle.protocol.specs.declared.tellings.ViewAnswer.TheVariants as answer
use Rattle.protocol.specs.Views.{group_kept}
use Rattle.protocol.specs.Proposals.{Proposal, promises, refused_by}
use Rattle.protocol.specs.Nodes.{Node, put}
use Rattle.protocol.specs.Worlds.{with_voiced}
use Rattle.protocol.proofs.Tables.{put_each, put_same, get_grown}
use Rattle.view_laws.proofs.Histories.{ViewWorld, IsSent, IsNamed, named_in, history, seated, seated_grows, Extends}
use Rattle.view_laws.proofs.Calling.{IsOldDraft, IsNewDraft, StepCalls, Called}

-- the replies that counted in phases of proposals, by brick, boot, call number and phase
abbrev pub Voices : Type 0
Voices = ℕ → ℕ → ℕ → ℕ → List Counted

-- a list was decided: each reply accepts it, and it is chosen, and known as the next view
pub record DecidedSays (layout : Layout) (v : ViewWorld) (voices : List Counted) (g : ℕ) (view : View) (group : Group) (ended : ViewAnswer) : Type 0 where
  pub members : List BrickId
  pub is : ended ≡ answer.Decided (record { 0 = view.number.0 + 1 }) members
  pub accepted : (k : ℕ) (c : Counted) → slice_get voices k ≡ Some c → c.reply ≡ Reply.Accepted
  pub ballot : Ballot
  pub chosen : IsChosen (length group.members) (quorum_of group) (seated group (history v g view.number.0)) ballot members
  pub next : named_in layout v.packets g (view.number.0 + 1)
      ≡ Some (record { number = record { 0 = view.number.0 + 1 }; members = members; prior = view.members })

-- What the end of a proposal says, with these replies in its last phase: they are of a quorum of a known view's members, and refuse it so, or decide it.
pub record EndSays (layout : Layout) (v : ViewWorld) (voices : List Counted) (i : ℕ) (number : GroupId) (call : Call) (ended : ViewAnswer) : Type 0 where
  pub own : call.group ≡ number
  pub view : View
  pub named : IsNamed layout v.packets number.0 view
  pub view_is : call.view ≡ view.number
  pub group : Group
  pub group_is : group_kept layout view.members number.0 ≡ Some group
  pub sent : (k : ℕ) (c : Counted) → slice_get voices k ≡ Some c
      → IsSent v.packets (record { from = c.brick; to = record { 0 = i }; message = Message.Reply call c.reply })
  pub seats : (k : ℕ) (c : Counted) → slice_get voices k ≡ Some c → seat_in group.members c.brick.0 ≡ Some c.seat
  pub distinct : AreDistinctBelow (length group.members) (seats_of (promises voices))
  pub enough : quorum_of group ≤ length voices
  pub cause : (refused_by voices ≡ Some ended) ⊎ DecidedSays layout v voices number.0 view group ended

-- it stays so
pub end_stays : (layout : Layout) (v next : ViewWorld) (voices : List Counted) (i : ℕ) (number : GroupId) (call : Call) (ended : ViewAnswer) → Extends layout v next
    → EndSays layout v voices i number call ended → EndSays layout next voices i number call ended
end_stays layout v next voices i number call ended extends was = record {
  own = was.own;
  view = was.view;
  named = extends.named number.0 was.view.number.0 was.view was.named;
  view_is = was.view_is;
  group = was.group;
  group_is = was.group_is;
  sent = λ k c at. extends.sent _ (was.sent k c at);
  seats = was.seats;
  distinct = was.distinct;
  enough = was.enough;
  cause = ⊎_elim
      (λ (refused : refused_by voices ≡ Some ended). inl refused)
      (λ (decided : DecidedSays layout v voices number.0 was.view was.group ended). inr (record {
        members = decided.members;
        is = decided.is;
        accepted = decided.accepted;
        ballot = decided.ballot;
        chosen = chosen_stays (length was.group.members) (quorum_of was.group) (seated was.group (history v number.0 was.view.number.0))
            (seated was.group (history next number.0 was.view.number.0)) decided.ballot decided.members
            (seated_grows was.group (history v number.0 was.view.number.0) (history next number.0 was.view.number.0)
            (extends.grows number.0 was.view.number.0))
            decided.chosen;
        next = extends.named number.0 (was.view.number.0 + 1) _ decided.next;
      }))
      was.cause;
}

-- a brick has made a call
abbrev pub IsMade : Node → Call → Type 0
IsMade node call = (call.boot ≤ node.boot) × (call.boot ≡ node.boot → call.seq ≤ node.seq)

-- a brick has not made such a call yet
abbrev pub IsUnmade : Node → ℕ → ℕ → Type 0
IsUnmade node boot seq = (node.boot < boot) ⊎ ((boot ≡ node.boot) × (node.seq < seq))

-- a report of an end says what is so, and the call was made, and is not that of an open proposal
pub record ReportSays (layout : Layout) (v : ViewWorld) (voices : Voices) (i : ℕ) (number : GroupId) (call : Call) (ended : ViewAnswer) : Type 0 where
  pub end : EndSays layout v (voices i call.boot call.seq call.phase) i number call ended
  pub made : IsMade (v.nodes i) call
  pub gone : (p : Proposal) → (v.nodes i).proposal ≡ Some p → p.call.boot ≡ call.boot → p.call.seq ≡ call.seq → ⊥

-- the replies that count in an open proposal are those that are kept of its phase, and no later phase has any
pub record DraftVoices (voices : Voices) (i : ℕ) (p : Proposal) : Type 0 where
  pub here : voices i p.call.boot p.call.seq p.call.phase ≡ p.counted
  pub later : (phase : ℕ) → p.call.phase < phase → voices i p.call.boot p.call.seq phase ≡ []

-- reports, and the replies that counted in proposals
pub record Reporting (layout : Layout) (v : ViewWorld) (voices : Voices) (reports : List (BrickId × Report)) : Type 0 where
  pub ends : (k : ℕ) (brick : BrickId) (number : GroupId) (call : Call) (ended : ViewAnswer)
      → slice_get reports k ≡ Some (brick, report.View number (Some call) ended) → ReportSays layout v voices brick.0 number call ended
  pub unsent : (k : ℕ) (brick : BrickId) (number : GroupId) (ended : ViewAnswer)
      → slice_get reports k ≡ Some (brick, report.View number None ended) → ended ≡ answer.BadMembers
  pub drafts : (i : ℕ) (p : Proposal) → (v.nodes i).proposal ≡ Some p → DraftVoices voices i p
  pub unmade : (i boot seq phase : ℕ) → IsUnmade (v.nodes i) boot seq → voices i boot seq phase ≡ []

-- the place is that of a brick's open proposal
pub record IsDraftPlace (node : Node) (i k boot seq : ℕ) : Type 0 where
  pub brick : k ≡ i
  pub draft : Proposal
  pub is : node.proposal ≡ Some draft
  pub boot_is : boot ≡ draft.call.boot
  pub seq_is : seq ≡ draft.call.seq

-- the proposal ended in this call
pub record IsNewEnd (layout : Layout) (next : ViewWorld) (voices : Voices) (node : Node) (i : ℕ) (proposal : Option Proposal) (brick : BrickId) (number : GroupId)
    (call : Call) (ended : ViewAnswer) : Type 0 where
  pub brick_is : brick.0 ≡ i
  pub draft : Proposal
  pub is : node.proposal ≡ Some draft
  pub call_is : call ≡ draft.call
  pub none : proposal ≡ None
  pub end : EndSays layout next (voices i call.boot call.seq call.phase) i number call ended

-- What a step of a brick does to replies and reports: replies are added to its open proposal at most, its proposal has those that are kept of its phase, and what it
-- reports is so.
pub record StepVoices (layout : Layout) (next : ViewWorld) (voices changed : Voices) (node : Node) (i : ℕ) (proposal : Option Proposal)
    (fresh : List (BrickId × Report)) : Type 0 where
  pub changes : (k boot seq phase : ℕ) → (changed k boot seq phase ≡ voices k boot seq phase) ⊎ IsDraftPlace node i k boot seq
  pub drafts : (q : Proposal) → proposal ≡ Some q → DraftVoices changed i q
  pub ends : (k : ℕ) (brick : BrickId) (number : GroupId) (call : Call) (ended : ViewAnswer)
      → slice_get fresh k ≡ Some (brick, report.View number (Some call) ended)
      → IsNewEnd layout next changed node i proposal brick number call ended
  pub unsent : (k : ℕ) (brick : BrickId) (number : GroupId) (ended : ViewAnswer)
      → slice_get fresh k ≡ Some (brick, report.View number None ended) → ended ≡ answer.BadMembers

module _ (layout : Layout) (v : ViewWorld) (voices changed : Voices) (reports fresh : List (BrickId × Report)) (i : ℕ) (next : Node) (new packets : List Packet)
    (votes : ℕ → ℕ → ℕ → Ballot → Option (List BrickId)) (was : Reporting layout v voices reports) (called : Called v.packets v.nodes)
    (step : StepCalls i (v.nodes i) next new)
    (extends : Extends layout v (record { packets = packets; votes = votes; nodes = put v.nodes i next }))
    (says : StepVoices layout (record { packets = packets; votes = votes; nodes = put v.nodes i next }) voices changed (v.nodes i) i next.proposal fresh) where
  abbrev after : ViewWorld
  after = record { packets = packets; votes = votes; nodes = put v.nodes i next }

  -- a call that was made is made
  made_rises : (k : ℕ) (call : Call) → IsMade (v.nodes k) call → IsMade (put v.nodes i next k) call
  made_rises k call =
      put_each (λ j (n : Node). IsMade (v.nodes j) call → IsMade n call) v.nodes i next
      (λ made. let less = made.0 in ⊎_elim
      (λ (later : (v.nodes i).boot < next.boot). (omega (arith, less, later), λ same. absurd (omega (arith, less, later, same))))
      (λ (now : (next.boot ≡ (v.nodes i).boot) × ((v.nodes i).seq ≤ next.seq) × ((v.nodes i).round ≤ next.round)).
      let boot = now.0 in
      let seq = now.1 in
      (omega (arith, less, boot), λ same. (let before = made.1 (same ∙ now.0) in omega (arith, before, seq))))
      step.rises)
      (λ j other made. made) k

  -- one that is not made was not
  unmade_falls : (k boot seq : ℕ) → IsUnmade (put v.nodes i next k) boot seq → IsUnmade (v.nodes k) boot seq
  unmade_falls k boot seq =
      put_each (λ j (n : Node). IsUnmade n boot seq → IsUnmade (v.nodes j) boot seq) v.nodes i next
      (λ unmade. ⊎_elim
      (λ (later : (v.nodes i).boot < next.boot). ⊎_elim
      (λ (over : next.boot < boot). inl (omega (arith, later, over)))
      (λ (at : (boot ≡ next.boot) × (next.seq < seq)). let same = at.0 in inl (omega (arith, later, same)))
      unmade)
      (λ (now : (next.boot ≡ (v.nodes i).boot) × ((v.nodes i).seq ≤ next.seq) × ((v.nodes i).round ≤ next.round)).
      let same = now.0 in
      let more = now.1 in ⊎_elim
      (λ (over : next.boot < boot). inl (omega (arith, same, over)))
      (λ (at : (boot ≡ next.boot) × (next.seq < seq)). let less = at.1 in inr (at.0 ∙ now.0, omega (arith, more, less)))
      unmade)
      step.rises)
      (λ j other unmade. unmade) k

  -- no reply is added to a phase that ended
  ended_same : (k : ℕ) (number : GroupId) (call : Call) (ended : ViewAnswer) → ReportSays layout v voices k number call ended
      → changed k call.boot call.seq call.phase ≡ voices k call.boot call.seq call.phase
  ended_same k number call ended one = ⊎_elim
      (λ (same : changed k call.boot call.seq call.phase ≡ voices k call.boot call.seq call.phase). same)
      (λ (place : IsDraftPlace (v.nodes i) i k call.boot call.seq).
      absurd (one.gone place.draft (ap (λ (j : ℕ). (v.nodes j).proposal) place.brick ∙ place.is) (sym place.boot_is) (sym place.seq_is)))
      (says.changes k call.boot call.seq call.phase)

  -- its call is not that of an open proposal
  gone_still : (k : ℕ) (number : GroupId) (call : Call) (ended : ViewAnswer) → ReportSays layout v voices k number call ended → (p : Proposal)
      → (put v.nodes i next k).proposal ≡ Some p → p.call.boot ≡ call.boot → p.call.seq ≡ call.seq → ⊥
  gone_still k number call ended =
      put_each (λ j (n : Node). ReportSays layout v voices j number call ended → (p : Proposal) → n.proposal ≡ Some p → p.call.boot ≡ call.boot
      → p.call.seq ≡ call.seq → ⊥) v.nodes i next
      (λ one p is boot seq. ⊎_elim
      (λ (old : IsOldDraft (v.nodes i) next p). one.gone old.was old.is (sym old.call_boot ∙ boot) (sym old.call_seq ∙ seq))
      (λ (fresh_draft : IsNewDraft i (v.nodes i) next p).
      let before = one.made.1 (sym boot ∙ fresh_draft.call_boot) in
      let after_seq = fresh_draft.call_seq in
      omega (arith, before, after_seq, seq))
      (step.drafts p is))
      (λ j other one. one.gone) k

  -- a step keeps reports
  pub reporting_after : Reporting layout after changed (reports ++ fresh)
  reporting_after = record {
    ends = λ k brick number call ended at. ⊎_elim
        (λ (old : slice_get reports k ≡ Some (brick, report.View number (Some call) ended)).
        let one = was.ends k brick number call ended old in
        record {
          end = subst (λ (l : List Counted). EndSays layout after l brick.0 number call ended) (sym (ended_same brick.0 number call ended one))
              (end_stays layout v after (voices brick.0 call.boot call.seq call.phase) brick.0 number call ended extends one.end);
          made = made_rises brick.0 call one.made;
          gone = gone_still brick.0 number call ended one;
        })
        (λ (added : (j : ℕ) × (slice_get fresh j ≡ Some (brick, report.View number (Some call) ended))).
        let one = says.ends added.0 brick number call ended added.1 in
        let draft = called.drafts i one.draft one.is in
        let boot = ap (λ (z : Call). z.boot) one.call_is ∙ draft.now in
        let seq = ap (λ (z : Call). z.seq) one.call_is in
        let less = draft.seq in
        record {
          end = subst (λ (j : ℕ). EndSays layout after (changed j call.boot call.seq call.phase) j number call ended) (sym one.brick_is) one.end;
          made = made_rises brick.0 call
              (subst (λ (j : ℕ). IsMade (v.nodes j) call) (sym one.brick_is) (omega (arith, boot), λ same. omega (arith, seq, less)));
          gone = λ p is same_boot same_seq.
              let none : next.proposal ≡ Some p = sym (ap (λ (n : Node). n.proposal) (ap (put v.nodes i next) one.brick_is ∙ put_same v.nodes i next)) ∙ is in
              let never : None ≡ Some p = sym one.none ∙ none in cc;
        })
        (get_grown reports fresh k (brick, report.View number (Some call) ended) at);
    unsent = λ k brick number ended at. ⊎_elim
        (λ (old : slice_get reports k ≡ Some (brick, report.View number None ended)). was.unsent k brick number ended old)
        (λ (added : (j : ℕ) × (slice_get fresh j ≡ Some (brick, report.View number None ended))). says.unsent added.0 brick number ended added.1)
        (get_grown reports fresh k (brick, report.View number None ended) at);
    drafts = put_each (λ k (n : Node). (p : Proposal) → n.proposal ≡ Some p → DraftVoices changed k p) v.nodes i next says.drafts
        (λ k other p is.
        let draft = was.drafts k p is in
        let same : (phase : ℕ) → changed k p.call.boot p.call.seq phase ≡ voices k p.call.boot p.call.seq phase = elsewhere k other p.call.boot p.call.seq in
        record { here = same p.call.phase ∙ draft.here; later = λ phase less. same phase ∙ draft.later phase less });
    unmade = λ k boot seq phase unmade. never_made k boot seq phase (unmade_falls k boot seq unmade);
  }
    where
      elsewhere : (k : ℕ) → k ≢ i → (boot seq phase : ℕ) → changed k boot seq phase ≡ voices k boot seq phase
      elsewhere k other boot seq phase = ⊎_elim
          (λ (same : changed k boot seq phase ≡ voices k boot seq phase). same)
          (λ (place : IsDraftPlace (v.nodes i) i k boot seq). absurd (other place.brick))
          (says.changes k boot seq phase)

      never_made : (k boot seq phase : ℕ) → IsUnmade (v.nodes k) boot seq → changed k boot seq phase ≡ []
      never_made k boot seq phase unmade = ⊎_elim
          (λ (same : changed k boot seq phase ≡ voices k boot seq phase). same ∙ was.unmade k boot seq phase unmade)
          (λ (place : IsDraftPlace (v.nodes i) i k boot seq).
          absurd (let draft = called.drafts i place.draft place.is in
          let now = draft.now in
          let less = draft.seq in
          let boot_is = place.boot_is in
          let seq_is = place.seq_is in
          ⊎_elim
          (λ (over : (v.nodes i).boot < boot). omega (arith, over, now, boot_is))
          (λ (at : (boot ≡ (v.nodes i).boot) × ((v.nodes i).seq < seq)). let more = at.1 in omega (arith, more, less, seq_is))
          (subst (λ (j : ℕ). IsUnmade (v.nodes j) boot seq) place.brick unmade)))
          (says.changes k boot seq phase)

-- where no reply is added, and nothing is reported
pub still_voices : (layout : Layout) (next : ViewWorld) (voices : Voices) (node : Node) (i : ℕ) (proposal : Option Proposal)
    → ((q : Proposal) → proposal ≡ Some q → DraftVoices voices i q) → StepVoices layout next voices voices node i proposal []
still_voices layout next voices node i proposal drafts = record {
  changes = λ k boot seq phase. inl refl;
  drafts = drafts;
  ends = λ k brick number call ended at. absurd (let never : None ≡ Some (brick, report.View number (Some call) ended) = at in cc);
  unsent = λ k brick number ended at. absurd (let never : None ≡ Some (brick, report.View number None ended) = at in cc);
}

-- the replies with one more, at each place
pub voiced_each : (P : ℕ → ℕ → ℕ → ℕ → List Counted → Type 0) (voices : Voices) (i : ℕ) (call : Call) (c : Counted)
    → P i call.boot call.seq call.phase (voices i call.boot call.seq call.phase ++ (c ∷ []))
    → ((k boot seq phase : ℕ) → ((k ≡ i) × (boot ≡ call.boot) × (seq ≡ call.seq) × (phase ≡ call.phase) → ⊥) → P k boot seq phase (voices k boot seq phase))
    → (k boot seq phase : ℕ) → P k boot seq phase (with_voiced voices i call c k boot seq phase)
voiced_each P voices i call c here other =
    put_each (λ k (t : ℕ → ℕ → ℕ → List Counted). (boot seq phase : ℕ) → P k boot seq phase (t boot seq phase)) voices i _
    (put_each (λ boot (t : ℕ → ℕ → List Counted). (seq phase : ℕ) → P i boot seq phase (t seq phase)) (voices i) call.boot _
    (put_each (λ seq (t : ℕ → List Counted). (phase : ℕ) → P i call.boot seq phase (t phase)) (voices i call.boot) call.seq _
    (put_each (λ phase (l : List Counted). P i call.boot call.seq phase l) (voices i call.boot call.seq) call.phase _ here
    (λ phase isnt. other i call.boot call.seq phase (λ same. isnt same.3)))
    (λ seq isnt phase. other i call.boot seq phase (λ same. isnt same.2)))
    (λ boot isnt seq phase. other i boot seq phase (λ same. isnt same.1)))
    (λ k isnt boot seq phase. other k boot seq phase (λ same. isnt same.0))
