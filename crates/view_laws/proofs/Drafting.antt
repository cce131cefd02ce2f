-- What is so of open proposals and operations; and what a brick's step owes, so that the agreement on views and this go on.
use Rattle.std.proofs.Common.{◌≡◌, ℕ, true, ◌⊎◌, inl, inr, ⊎_elim, List, ◌++◌, length, Option, Some, None, refl, sym, ap, ◌∙◌}
use Rattle.std.specs.Prelude.{slice_get}
use Rattle.fab_base.specs.declared.identities.BrickId.{BrickId}
use Rattle.fab_base.specs.declared.stamps.Ballot.{Ballot}
use Rattle.fab_base.specs.Layouts.{Layout, Group, group_of, seat_in}
use Rattle.messages.specs.declared.packets.Message.{Message}
use Rattle.messages.specs.declared.packets.Packet.{Packet}
use Rattle.quorum.proofs.Counts.{AreDistinctBelow}
use Rattle.synod_laws.specs.Synods.{seats_of}
use Rattle.synod_laws.proofs.Agreement.{grows_on}
use Rattle.protocol.specs.declared.phases.Counted.{Counted}
use Rattle.protocol.specs.Proposals.{Proposal, answers_ballot, promises}
use Rattle.protocol.specs.Coordinators.{Coordinator}
use Rattle.protocol.specs.Jobs.{Job}
use Rattle.protocol.specs.Nodes.{Node, view_in}
use Rattle.protocol.proofs.Tables.{put_each}
use Rattle.view_laws.proofs.FirstTold.{first_told, first_found, first_of_later}
use Rattle.view_laws.proofs.Histories.{ViewWorld, IsSent, IsNamed, accept_in, history, PacketSays, Extends, name_stays}
use Rattle.view_laws.proofs.Agreeing.{IsSafeIn, Agreed, Turn, turned, turn_extends, turn_agrees, sending_more, sent_extends, safe_in_stays, sent_agrees}
use Rattle.view_laws.proofs.Calling.{Called}
use Rattle.view_laws.proofs.Owning.{KeepsOwn}

-- growth upon growth
pub extends_on : (layout : Layout) (v x last : ViewWorld) → Extends layout v x → Extends layout x last → Extends layout v last
extends_on layout v x last one two = record {
  named = λ g e view is. two.named g e view (one.named g e view is);
  called = λ i boot seq b is. two.called i boot seq b (one.called i boot seq b is);
  sent = λ packet is. two.sent packet (one.sent packet is);
  grows = λ g e. grows_on (history v g e) (history x g e) (history last g e) (one.grows g e) (two.grows g e);
}

-- A reply that counts in a proposal was sent to its brick, as a reply to its phase, by the member at that seat; and it answers the phase.
pub record CountedSays (layout : Layout) (packets : List Packet) (i : ℕ) (p : Proposal) (c : Counted) : Type 0 where
  pub sent : IsSent packets (record { from = c.brick; to = record { 0 = i }; message = Message.Reply p.call c.reply })
  pub seat : seat_in p.view.members c.brick.0 ≡ Some c.seat
  pub answers : answers_ballot p.m layout.bricks p.asks c.reply ≡ true

-- What is so of an open proposal. Its view is known; while it prepares its ballot is not proposed yet, and later it is, with the list that it asks for; and each reply
-- that counts is of a seat of its own.
pub record DraftSays (layout : Layout) (v : ViewWorld) (i : ℕ) (p : Proposal) : Type 0 where
  pub group : Group
  pub group_is : group_of layout p.call.group.0 ≡ Some group
  pub m_is : p.m ≡ group.m
  pub named : IsNamed layout v.packets p.call.group.0 p.view
  pub view_is : p.call.view ≡ p.view.number
  pub unasked : p.asks ≡ None → (history v p.call.group.0 p.view.number.0).proposals p.ballot ≡ None
  pub asked : (members : List BrickId) → p.asks ≡ Some members → (history v p.call.group.0 p.view.number.0).proposals p.ballot ≡ Some members
  pub distinct : AreDistinctBelow (length p.view.members) (seats_of (promises p.counted))
  pub counted : (k : ℕ) (c : Counted) → slice_get p.counted k ≡ Some c → CountedSays layout v.packets i p c

-- this of all open proposals; and the view of each open operation is known, and that of each synchronisation
pub record Drafting (layout : Layout) (v : ViewWorld) : Type 0 where
  pub drafts : (i : ℕ) (p : Proposal) → (v.nodes i).proposal ≡ Some p → DraftSays layout v i p
  pub calls : (i k : ℕ) (c : Coordinator) → (v.nodes i).calls k ≡ Some c → IsNamed layout v.packets c.call.group.0 (view_in c)
  pub jobs : (i : ℕ) (j : Job) → (v.nodes i).job ≡ Some j → IsNamed layout v.packets j.group.0 j.view

-- what is so of a proposal stays so, where its ballot was not proposed by others
pub draft_stays : (layout : Layout) (v next : ViewWorld) (i : ℕ) (p : Proposal) → Extends layout v next
    → (p.asks ≡ None → (history next p.call.group.0 p.view.number.0).proposals p.ballot ≡ None) → DraftSays layout v i p → DraftSays layout next i p
draft_stays layout v next i p extends unasked was = record {
  group = was.group;
  group_is = was.group_is;
  m_is = was.m_is;
  named = extends.named p.call.group.0 p.view.number.0 p.view was.named;
  view_is = was.view_is;
  unasked = unasked;
  asked = λ members is. (extends.grows p.call.group.0 p.view.number.0).proposals p.ballot members (was.asked members is);
  distinct = was.distinct;
  counted = λ k c at. let says = was.counted k c at in record { sent = extends.sent _ says.sent; seat = says.seat; answers = says.answers };
}

-- a ballot that was not proposed is not, where no packet that is sent asks to accept a list under it
pub still_unproposed : (packets new : List Packet) (g e : ℕ) (b : Ballot) → first_told (λ packet. accept_in g e b packet.message) packets ≡ None
    → ((k : ℕ) (packet : Packet) (members : List BrickId) → slice_get new k ≡ Some packet → accept_in g e b packet.message ≡ Some members → ⊥)
    → first_told (λ packet. accept_in g e b packet.message) (packets ++ new) ≡ None
still_unproposed packets new g e b none never =
    first_of_later (λ packet. accept_in g e b packet.message) packets new none ∙ by (first_told (λ packet. accept_in g e b packet.message) new) refl
  where
    by : (z : Option (List BrickId)) → first_told (λ packet. accept_in g e b packet.message) new ≡ z → z ≡ None
    by None is = refl
    by (Some members) is =
        let found = first_found (λ packet. accept_in g e b packet.message) new members is in absurd (never found.0 found.1 members found.2 found.3)

-- What a step of a brick owes, but for its turn: the views of its operations and of its synchronisation are known, what is so of its proposal, each list that it asks to accept was proposed so
-- or is safe at a ballot of its own, and what it sends says what is so.
pub record BodySays (layout : Layout) (v x : ViewWorld) (i : ℕ) (node : Node) (new : List Packet) : Type 0 where
  pub calls : (k : ℕ) (c : Coordinator) → node.calls k ≡ Some c → IsNamed layout v.packets c.call.group.0 (view_in c)
  pub jobs : (j : Job) → node.job ≡ Some j → IsNamed layout v.packets j.group.0 j.view
  pub drafts : (q : Proposal) → node.proposal ≡ Some q → DraftSays layout (sending_more x new) i q
  pub accepts : (k : ℕ) (packet : Packet) → slice_get new k ≡ Some packet → (g e : ℕ) (b : Ballot) (members : List BrickId)
      → accept_in g e b packet.message ≡ Some members
      → ((history v g e).proposals b ≡ Some members) ⊎ ((b.brick.0 ≡ i) × IsSafeIn layout v g e b members)
  pub says : (k : ℕ) (packet : Packet) → slice_get new k ≡ Some packet → PacketSays layout (sending_more x new) packet

-- what a step of a brick owes
pub record StepSays (layout : Layout) (v : ViewWorld) (i : ℕ) (next : Node) (new : List Packet) : Type 0 where
  pub turn : Turn layout v.packets (v.nodes i) next
  pub body : BodySays layout v (turned v i next) i next new

-- a brick that keeps its own owes no more
pub body_own : (layout : Layout) (v x : ViewWorld) (i : ℕ) (node next : Node) (new : List Packet) → KeepsOwn node next → BodySays layout v x i node new
    → BodySays layout v x i next new
body_own layout v x i node next new own body = record {
  calls = λ k c is. body.calls k c (sym (ap (λ (calls : ℕ → Option Coordinator). calls k) own.calls) ∙ is);
  jobs = λ j is. body.jobs j (sym own.job ∙ is);
  drafts = λ q is. body.drafts q (sym own.proposal ∙ is);
  accepts = body.accepts;
  says = body.says;
}

-- after a step more is known
pub step_extends : (layout : Layout) (v : ViewWorld) (i : ℕ) (next : Node) (new : List Packet) → Agreed layout v → Turn layout v.packets (v.nodes i) next
    → Extends layout v (sending_more (turned v i next) new)
step_extends layout v i next new agreed turn =
    extends_on layout v (turned v i next) (sending_more (turned v i next) new) (turn_extends layout v i next agreed turn)
    (sent_extends layout (turned v i next) new)

-- the agreement goes on after a step that gives what it owes
pub step_agrees : (layout : Layout) (v : ViewWorld) (i : ℕ) (next : Node) (new : List Packet) → Agreed layout v → StepSays layout v i next new
    → Agreed layout (sending_more (turned v i next) new)
step_agrees layout v i next new agreed step =
    sent_agrees layout (turned v i next) new (turn_agrees layout v i next agreed step.turn)
    (λ k packet at g e b members asks. ⊎_elim
    (λ (old : (history v g e).proposals b ≡ Some members). inl old)
    (λ (safe : (b.brick.0 ≡ i) × IsSafeIn layout v g e b members).
    inr (safe_in_stays layout v (turned v i next) (turn_extends layout v i next agreed step.turn) g e b members safe.1))
    (step.body.accepts k packet at g e b members asks))
    step.body.says

-- and so does what is so of proposals and operations
pub step_drafting : (layout : Layout) (v : ViewWorld) (i : ℕ) (next : Node) (new : List Packet) → Called v.packets v.nodes → Agreed layout v → Drafting layout v
    → StepSays layout v i next new → Drafting layout (sending_more (turned v i next) new)
step_drafting layout v i next new called agreed drafting step = record {
  drafts = put_each (λ k (n : Node). (p : Proposal) → n.proposal ≡ Some p → DraftSays layout (sending_more (turned v i next) new) k p) v.nodes i next
      step.body.drafts
      (λ k other p is. draft_stays layout v (sending_more (turned v i next) new) k p (step_extends layout v i next new agreed step.turn)
      (λ none. still_unproposed v.packets new p.call.group.0 p.view.number.0 p.ballot ((drafting.drafts k p is).unasked none)
      (λ j packet members at asks. ⊎_elim
      (λ (old : (history v p.call.group.0 p.view.number.0).proposals p.ballot ≡ Some members).
      let never : None ≡ Some members = sym ((drafting.drafts k p is).unasked none) ∙ old in cc)
      (λ (own : (p.ballot.brick.0 ≡ i) × IsSafeIn layout v p.call.group.0 p.view.number.0 p.ballot members).
      other (sym (called.drafts k p is).brick ∙ own.0))
      (step.body.accepts j packet at p.call.group.0 p.view.number.0 p.ballot members asks)))
      (drafting.drafts k p is));
  calls = put_each (λ k (n : Node). (j : ℕ) (c : Coordinator) → n.calls j ≡ Some c → IsNamed layout (v.packets ++ new) c.call.group.0 (view_in c)) v.nodes i next
      (λ j c is. name_stays layout v.packets new c.call.group.0 (view_in c).number.0 (view_in c) (step.body.calls j c is))
      (λ k other j c is. name_stays layout v.packets new c.call.group.0 (view_in c).number.0 (view_in c) (drafting.calls k j c is));
  jobs = put_each (λ k (n : Node). (j : Job) → n.job ≡ Some j → IsNamed layout (v.packets ++ new) j.group.0 j.view) v.nodes i next
      (λ j is. name_stays layout v.packets new j.group.0 j.view.number.0 j.view (step.body.jobs j is))
      (λ k other j is. name_stays layout v.packets new j.group.0 j.view.number.0 j.view (drafting.jobs k j is));
}

-- no packet of these asks to accept a list
abbrev pub AcceptsNone : List Packet → Type 0
AcceptsNone new =
    (k : ℕ) (packet : Packet) → slice_get new k ≡ Some packet → (g e : ℕ) (b : Ballot) (members : List BrickId)
    → accept_in g e b packet.message ≡ Some members → ⊥

-- a step that leaves operations and the proposal as they were, and asks to accept no list, owes what it sends
pub still_body : (layout : Layout) (v x : ViewWorld) (i : ℕ) (next : Node) (new : List Packet) → Extends layout v (sending_more x new) → x.packets ≡ v.packets
    → Drafting layout v → next.calls ≡ (v.nodes i).calls → next.proposal ≡ (v.nodes i).proposal → next.job ≡ (v.nodes i).job → AcceptsNone new
    → ((k : ℕ) (packet : Packet) → slice_get new k ≡ Some packet → PacketSays layout (sending_more x new) packet) → BodySays layout v x i next new
still_body layout v x i next new extends packets drafting calls proposal job none says = record {
  calls = λ k c is. drafting.calls i k c (sym (ap (λ (table : ℕ → Option Coordinator). table k) calls) ∙ is);
  jobs = λ j is. drafting.jobs i j (sym job ∙ is);
  drafts = λ q is. draft_stays layout v (sending_more x new) i q extends
      (λ unasked. ap (λ (l : List Packet). first_told (λ packet. accept_in q.call.group.0 q.view.number.0 q.ballot packet.message) (l ++ new)) packets
      ∙ still_unproposed v.packets new q.call.group.0 q.view.number.0 q.ballot ((drafting.drafts i q (sym proposal ∙ is)).unasked unasked)
      (λ k packet members at asks. none k packet at q.call.group.0 q.view.number.0 q.ballot members asks))
      (drafting.drafts i q (sym proposal ∙ is));
  accepts = λ k packet at g e b members asks. absurd (none k packet at g e b members asks);
  says = says;
}
