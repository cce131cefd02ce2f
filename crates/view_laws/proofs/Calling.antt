-- Each call of a proposal has one ballot, which is its brick's own, and no later call or ballot has its number.
use Rattle.std.proofs.Common.{◌≡◌, ◌≢◌, ℕ, ◌+◌, ◌<◌, ◌≤◌, Bool, cond, ◌&&◌, ◌⊎◌, inl, inr, ⊎_elim, List, ◌++◌, Option, Some, None, refl, sym, ap, ◌∙◌, subst, arith, nat_eq}
use Rattle.std.specs.Prelude.{slice_get}
use Rattle.std.proofs.lemmas.Bool.{cond_both, and_parts, and_from, eqb-true, eq-eqb}
use Rattle.std.proofs.lemmas.Option.{same_Some}
use Rattle.fab_base.specs.declared.identities.BrickId.{BrickId}
use Rattle.fab_base.specs.declared.stamps.Ballot.{Ballot}
use Rattle.messages.specs.declared.calls.Call.{Call}
use Rattle.messages.specs.declared.packets.Message.{Message}
use Rattle.messages.specs.declared.packets.Packet.{Packet}
use Rattle.messages.specs.declared.requests.Request.{Request}
use Rattle.protocol.specs.Proposals.{Proposal}
use Rattle.protocol.specs.Nodes.{Node, put}
use Rattle.protocol.proofs.Tables.{put_each, put_same, get_grown}
use Rattle.view_laws.proofs.FirstTold.{first_told, first_stays, first_found, first_some, first_of_later}
use Rattle.view_laws.proofs.Histories.{ballot_asked, called_by, ballot_called, accept_in, accept_is}
use Rattle.view_laws.proofs.Owning.{KeepsOwn}

-- ---- what holds of the ballot that a message names

-- of a request, if it names one
abbrev pub OfBallot : (Call → Ballot → Type 0) → Call → Request → Type 0
OfBallot Q call (Request.Prepare ballot) = Q call ballot
OfBallot Q call (Request.Accept ballot members) = Q call ballot
OfBallot Q call request = Unit {0}

-- of a message
abbrev pub OfBallots : (Call → Ballot → Type 0) → Message → Type 0
OfBallots Q (Message.Request call request) = OfBallot Q call request
OfBallots Q message = Unit {0}

-- a request of a call names the call's ballot
called_here : (from : ℕ) (call : Call) (request : Request) (b : Ballot) → ballot_asked request ≡ Some b
    → called_by from call.boot call.seq from (Message.Request call request) ≡ Some b
called_here from call request b asked =
    ap (λ (t : Bool). cond t (ballot_asked request) None)
    (and_from (nat_eq from from) (nat_eq call.boot call.boot && nat_eq call.seq call.seq) (eq-eqb from from refl)
    (and_from (nat_eq call.boot call.boot) (nat_eq call.seq call.seq) (eq-eqb call.boot call.boot refl) (eq-eqb call.seq call.seq refl)))
    ∙ asked

-- what follows from it
pub ballots_map : (Q R : Call → Ballot → Type 0) (from : ℕ) (message : Message)
    → ((call : Call) (b : Ballot) → called_by from call.boot call.seq from message ≡ Some b → Q call b → R call b) → OfBallots Q message → OfBallots R message
ballots_map Q R from (Message.Request call (Request.Prepare ballot)) f says = f call ballot (called_here from call (Request.Prepare ballot) ballot refl) says
ballots_map Q R from (Message.Request call (Request.Accept ballot members)) f says =
    f call ballot (called_here from call (Request.Accept ballot members) ballot refl) says
ballots_map Q R from (Message.Request call (Request.Read want)) f says = tt
ballots_map Q R from (Message.Request call (Request.Order t)) f says = tt
ballots_map Q R from (Message.Request call (Request.OrderRead t look want)) f says = tt
ballots_map Q R from (Message.Request call (Request.Write t block)) f says = tt
ballots_map Q R from (Message.Request call (Request.Modify t base j delta)) f says = tt
ballots_map Q R from (Message.Request call (Request.Collect t)) f says = tt
ballots_map Q R from (Message.Request call (Request.OldRead bound)) f says = tt
ballots_map Q R from (Message.Reply call reply) f says = tt
ballots_map Q R from (Message.Learn group view) f says = tt
ballots_map Q R from (Message.Synced group view) f says = tt
ballots_map Q R from (Message.Client ask) f says = tt
ballots_map Q R from (Message.ClientReply id answer) f says = tt

-- it holds of the ballot of a call
ballot_of : (Q : Call → Ballot → Type 0) (call : Call) (request : Request) (b : Ballot) → OfBallot Q call request → ballot_asked request ≡ Some b → Q call b
ballot_of Q call (Request.Prepare ballot) b says is = subst (λ (z : Ballot). Q call z) (same_Some ballot b is) says
ballot_of Q call (Request.Accept ballot members) b says is = subst (λ (z : Ballot). Q call z) (same_Some ballot b is) says
ballot_of Q call (Request.Read want) b says is = cc
ballot_of Q call (Request.Order t) b says is = cc
ballot_of Q call (Request.OrderRead t look want) b says is = cc
ballot_of Q call (Request.Write t block) b says is = cc
ballot_of Q call (Request.Modify t base j delta) b says is = cc
ballot_of Q call (Request.Collect t) b says is = cc
ballot_of Q call (Request.OldRead bound) b says is = cc

-- so it holds of the ballot that is told of a call
pub called_of : (Q : Call → Ballot → Type 0) (i boot seq from : ℕ) (message : Message) (b : Ballot) → OfBallots Q message
    → called_by i boot seq from message ≡ Some b → (call : Call) × (from ≡ i) × (call.boot ≡ boot) × (call.seq ≡ seq) × Q call b
called_of Q i boot seq from (Message.Request call request) b says is =
    cond_both (nat_eq from i && (nat_eq call.boot boot && nat_eq call.seq seq)) (ballot_asked request) None
    (λ (z : Option Ballot). z ≡ Some b → (other : Call) × (from ≡ i) × (other.boot ≡ boot) × (other.seq ≡ seq) × Q other b)
    (λ here asked.
    let parts = and_parts (nat_eq from i) (nat_eq call.boot boot && nat_eq call.seq seq) here in
    let rest = and_parts (nat_eq call.boot boot) (nat_eq call.seq seq) parts.1 in
    (call, eqb-true from i parts.0, eqb-true call.boot boot rest.0, eqb-true call.seq seq rest.1, ballot_of Q call request b says asked))
    (λ other none. absurd (let never : None ≡ Some b = none in cc))
    is
called_of Q i boot seq from (Message.Reply call reply) b says is = cc
called_of Q i boot seq from (Message.Learn group view) b says is = cc
called_of Q i boot seq from (Message.Synced group view) b says is = cc
called_of Q i boot seq from (Message.Client ask) b says is = cc
called_of Q i boot seq from (Message.ClientReply id answer) b says is = cc

-- ---- the invariant

-- A ballot that a brick's request names is its own, of the boot of its call; call and ballot are not later than the brick; and it is the call's ballot.
pub record IsBallotOf (packets : List Packet) (node : Node) (i : ℕ) (call : Call) (b : Ballot) : Type 0 where
  pub brick : b.brick.0 ≡ i
  pub boot : b.boot ≡ call.boot
  pub past : call.boot ≤ node.boot
  pub now : call.boot ≡ node.boot → (call.seq ≤ node.seq) × (b.round ≤ node.round)
  pub called : ballot_called packets i call.boot call.seq ≡ Some b

-- An open proposal's ballot is its brick's own, of its present boot; and its call has no other.
pub record DraftIsOf (packets : List Packet) (node : Node) (i : ℕ) (p : Proposal) : Type 0 where
  pub brick : p.ballot.brick.0 ≡ i
  pub boot : p.ballot.boot ≡ p.call.boot
  pub now : p.call.boot ≡ node.boot
  pub seq : p.call.seq ≤ node.seq
  pub round : p.ballot.round ≤ node.round
  pub called : (b : Ballot) → ballot_called packets i p.call.boot p.call.seq ≡ Some b → b ≡ p.ballot

-- ballots are those of their calls
pub record Called (packets : List Packet) (nodes : ℕ → Node) : Type 0 where
  pub requests : (k : ℕ) (packet : Packet) → slice_get packets k ≡ Some packet
      → OfBallots (IsBallotOf packets (nodes packet.from.0) packet.from.0) packet.message
  pub drafts : (i : ℕ) (p : Proposal) → (nodes i).proposal ≡ Some p → DraftIsOf packets (nodes i) i p

-- a brick's counters do not fall: it is opened again, or its last call and round do not fall
abbrev pub Rises : Node → Node → Type 0
Rises node next = (node.boot < next.boot) ⊎ ((next.boot ≡ node.boot) × (node.seq ≤ next.seq) × (node.round ≤ next.round))

-- the proposal is one that was open, maybe in its next phase
pub record IsOldDraft (node next : Node) (q : Proposal) : Type 0 where
  pub was : Proposal
  pub is : node.proposal ≡ Some was
  pub call_boot : q.call.boot ≡ was.call.boot
  pub call_seq : q.call.seq ≡ was.call.seq
  pub ballot : q.ballot ≡ was.ballot
  pub boot : next.boot ≡ node.boot
  pub seq : node.seq ≤ next.seq
  pub round : node.round ≤ next.round

-- or it is new: it has the brick's next call and round
pub record IsNewDraft (i : ℕ) (node next : Node) (q : Proposal) : Type 0 where
  pub call_boot : q.call.boot ≡ node.boot
  pub call_seq : q.call.seq ≡ node.seq + 1
  pub brick : q.ballot.brick.0 ≡ i
  pub ballot_boot : q.ballot.boot ≡ node.boot
  pub round : q.ballot.round ≤ next.round
  pub boot : next.boot ≡ node.boot
  pub seq : next.seq ≡ node.seq + 1

-- the call and the ballot are those of the brick's open proposal
pub record IsOfDraft (i : ℕ) (next : Node) (from : ℕ) (call : Call) (b : Ballot) : Type 0 where
  pub from_is : from ≡ i
  pub draft : Proposal
  pub is : next.proposal ≡ Some draft
  pub boot : call.boot ≡ draft.call.boot
  pub seq : call.seq ≡ draft.call.seq
  pub ballot : b ≡ draft.ballot

-- What a brick's step does to calls: its counters do not fall; its proposal was open or is new; and each ballot that it sends is that proposal's.
pub record StepCalls (i : ℕ) (node next : Node) (new : List Packet) : Type 0 where
  pub rises : Rises node next
  pub drafts : (q : Proposal) → next.proposal ≡ Some q → IsOldDraft node next q ⊎ IsNewDraft i node next q
  pub packets : (k : ℕ) (packet : Packet) → slice_get new k ≡ Some packet → OfBallots (IsOfDraft i next packet.from.0) packet.message

-- a brick that keeps its own keeps its calls
pub own_calls : (i : ℕ) (node next last : Node) (new : List Packet) → KeepsOwn next last → StepCalls i node next new → StepCalls i node last new
own_calls i node next last new own step = record {
  rises = ⊎_elim
      (λ (later : node.boot < next.boot). inl (let same = own.boot in omega (arith, later, same)))
      (λ (now : (next.boot ≡ node.boot) × (node.seq ≤ next.seq) × (node.round ≤ next.round)). inr (
        own.boot ∙ now.0,
        (let same = own.seq in let less = now.1 in omega (arith, less, same)),
        (let same = own.round in let less = now.2 in omega (arith, less, same)),
      ))
      step.rises;
  drafts = λ q is. ⊎_elim
      (λ (old : IsOldDraft node next q). inl (record {
        was = old.was;
        is = old.is;
        call_boot = old.call_boot;
        call_seq = old.call_seq;
        ballot = old.ballot;
        boot = own.boot ∙ old.boot;
        seq = (let same = own.seq in let less = old.seq in omega (arith, less, same));
        round = (let same = own.round in let less = old.round in omega (arith, less, same));
      }))
      (λ (new : IsNewDraft i node next q). inr (record {
        call_boot = new.call_boot;
        call_seq = new.call_seq;
        brick = new.brick;
        ballot_boot = new.ballot_boot;
        round = (let same = own.round in let less = new.round in omega (arith, less, same));
        boot = own.boot ∙ new.boot;
        seq = own.seq ∙ new.seq;
      }))
      (step.drafts q (sym own.proposal ∙ is));
  packets = λ k packet at. ballots_map (IsOfDraft i next packet.from.0) (IsOfDraft i last packet.from.0) packet.from.0 packet.message
      (λ call b called of. record {
        from_is = of.from_is;
        draft = of.draft;
        is = own.proposal ∙ of.is;
        boot = of.boot;
        seq = of.seq;
        ballot = of.ballot;
      })
      (step.packets k packet at);
}

-- ---- a step

-- a call that a brick has not made yet has no ballot
pub unused : (packets : List Packet) (nodes : ℕ → Node) → Called packets nodes → (i : ℕ) (b : Ballot)
    → ballot_called packets i (nodes i).boot ((nodes i).seq + 1) ≡ Some b → ⊥
unused packets nodes called i b is =
    let found = first_found (λ packet. called_by i (nodes i).boot ((nodes i).seq + 1) packet.from.0 packet.message) packets b is in
    let of = called_of (IsBallotOf packets (nodes found.1.from.0) found.1.from.0) i (nodes i).boot ((nodes i).seq + 1) found.1.from.0 found.1.message b
    (called.requests found.0 found.1 found.2) found.3 in
    let here : IsBallotOf packets (nodes i) i of.0 b = subst (λ (k : ℕ). IsBallotOf packets (nodes k) k of.0 b) of.1 of.4 in
    let before = (here.now of.2).0 in
    let next = of.3 in
    omega (arith, before, next)

-- a ballot of a brick's present boot, and of a later round than it has used, was proposed with nothing
pub unproposed : (packets : List Packet) (nodes : ℕ → Node) → Called packets nodes → (i g e : ℕ) (b : Ballot) (members : List BrickId) → b.brick.0 ≡ i
    → b.boot ≡ (nodes i).boot → (nodes i).round < b.round → first_told (λ packet. accept_in g e b packet.message) packets ≡ Some members → ⊥
unproposed packets nodes called i g e b members brick boot later is =
    let found = first_found (λ packet. accept_in g e b packet.message) packets members is in
    let accept = accept_is g e b found.1.message members found.3 in
    let of : IsBallotOf packets (nodes found.1.from.0) found.1.from.0 accept.call b
    = subst (λ (z : Message). OfBallots (IsBallotOf packets (nodes found.1.from.0) found.1.from.0) z) accept.is (called.requests found.0 found.1 found.2) in
    let here : IsBallotOf packets (nodes i) i accept.call b
    = subst (λ (k : ℕ). IsBallotOf packets (nodes k) k accept.call b) (sym of.brick ∙ brick) of in
    let before = (here.now (sym here.boot ∙ boot)).1 in
    omega (arith, before, later)

module _ (packets : List Packet) (nodes : ℕ → Node) (called : Called packets nodes) (i : ℕ) (next : Node) (new : List Packet)
    (step : StepCalls i (nodes i) next new) where
  -- the open proposal's call had no other ballot before
  draft_before : (q : Proposal) → next.proposal ≡ Some q → DraftIsOf packets next i q
  draft_before q is = ⊎_elim
      (λ (old : IsOldDraft (nodes i) next q).
      let was = called.drafts i old.was old.is in
      record {
        brick = ap (λ (z : Ballot). z.brick.0) old.ballot ∙ was.brick;
        boot = ap (λ (z : Ballot). z.boot) old.ballot ∙ was.boot ∙ sym old.call_boot;
        now = old.call_boot ∙ was.now ∙ sym old.boot;
        seq = (let same = old.call_seq in let less = was.seq in let more = old.seq in omega (arith, same, less, more));
        round = (let same = ap (λ (z : Ballot). z.round) old.ballot in let less = was.round in let more = old.round in omega (arith, same, less, more));
        called = λ b at.
            was.called b (ap (λ (k : ℕ). ballot_called packets i k old.was.call.seq) (sym old.call_boot)
            ∙ ap (λ (k : ℕ). ballot_called packets i q.call.boot k) (sym old.call_seq) ∙ at)
            ∙ sym old.ballot;
      })
      (λ (fresh : IsNewDraft i (nodes i) next q). record {
        brick = fresh.brick;
        boot = fresh.ballot_boot ∙ sym fresh.call_boot;
        now = fresh.call_boot ∙ sym fresh.boot;
        seq = (let same = fresh.call_seq in let last = fresh.seq in omega (arith, same, last));
        round = fresh.round;
        called = λ b at. absurd (unused packets nodes called i b
            (ap (λ (k : ℕ). ballot_called packets i k ((nodes i).seq + 1)) (sym fresh.call_boot)
            ∙ ap (λ (k : ℕ). ballot_called packets i q.call.boot k) (sym fresh.call_seq) ∙ at));
      })
      (step.drafts q is)

  -- a ballot that was named is still its call's
  ballot_rises : (k : ℕ) (call : Call) (b : Ballot) → IsBallotOf packets (nodes k) k call b → IsBallotOf (packets ++ new) (put nodes i next k) k call b
  ballot_rises k call b was =
      put_each (λ j (n : Node). IsBallotOf packets (nodes j) j call b → IsBallotOf (packets ++ new) n j call b) nodes i next
      (λ of. ⊎_elim
      (λ (later : (nodes i).boot < next.boot). record {
        brick = of.brick;
        boot = of.boot;
        past = (let less = of.past in omega (arith, less, later));
        now = λ same. absurd (let less = of.past in omega (arith, less, later, same));
        called = first_stays _ packets new b of.called;
      })
      (λ (now : (next.boot ≡ (nodes i).boot) × ((nodes i).seq ≤ next.seq) × ((nodes i).round ≤ next.round)).
      let same_boot = now.0 in
      let more_seq = now.1 in
      let more_round = now.2 in
      record {
        brick = of.brick;
        boot = of.boot;
        past = (let less = of.past in omega (arith, less, same_boot));
        now = λ same.
            let before = of.now (same ∙ now.0) in
            let less_seq = before.0 in
            let less_round = before.1 in
            (omega (arith, less_seq, more_seq), omega (arith, less_round, more_round));
        called = first_stays _ packets new b of.called;
      })
      step.rises)
      (λ j other of. record { brick = of.brick; boot = of.boot; past = of.past; now = of.now; called = first_stays _ packets new b of.called })
      k was

  -- a ballot that a new packet names is the open proposal's
  new_ballot : (boot seq : ℕ) (k : ℕ) (b : Ballot) → ballot_called new k boot seq ≡ Some b
      → (k ≡ i) × ((q : Proposal) × (next.proposal ≡ Some q) × (b ≡ q.ballot))
  new_ballot boot seq k b is =
      let found = first_found (λ packet. called_by k boot seq packet.from.0 packet.message) new b is in
      let of = called_of (IsOfDraft i next found.1.from.0) k boot seq found.1.from.0 found.1.message b (step.packets found.0 found.1 found.2) found.3 in
      let draft : IsOfDraft i next found.1.from.0 of.0 b = of.4 in
      (sym of.1 ∙ draft.from_is, (draft.draft, draft.is, draft.ballot))

  -- so the open proposal's call has no other ballot
  draft_after : (q : Proposal) → next.proposal ≡ Some q → (b : Ballot) → ballot_called (packets ++ new) i q.call.boot q.call.seq ≡ Some b → b ≡ q.ballot
  draft_after q is b at = by (ballot_called packets i q.call.boot q.call.seq) refl
    where
      by : (z : Option Ballot) → ballot_called packets i q.call.boot q.call.seq ≡ z → b ≡ q.ballot
      by None none =
          let of = new_ballot q.call.boot q.call.seq i b (sym (first_of_later _ packets new none) ∙ at) in
          of.1.2 ∙ ap (λ (z : Proposal). z.ballot) (same_Some of.1.0 q (sym of.1.1 ∙ is))
      by (Some other) some =
          (draft_before q is).called b (some ∙ sym (first_stays _ packets new other some) ∙ at)

  -- a step keeps the invariant
  pub called_after : Called (packets ++ new) (put nodes i next)
  called_after = record {
    requests = λ k packet at. ⊎_elim
        (λ (old : slice_get packets k ≡ Some packet).
        ballots_map (IsBallotOf packets (nodes packet.from.0) packet.from.0) (IsBallotOf (packets ++ new) (put nodes i next packet.from.0) packet.from.0)
        packet.from.0 packet.message (λ call b here of. ballot_rises packet.from.0 call b of) (called.requests k packet old))
        (λ (added : (j : ℕ) × (slice_get new j ≡ Some packet)).
        ballots_map (IsOfDraft i next packet.from.0) (IsBallotOf (packets ++ new) (put nodes i next packet.from.0) packet.from.0) packet.from.0 packet.message
        (λ call b here of. of_draft k packet at call b here of) (step.packets added.0 packet added.1))
        (get_grown packets new k packet at);
    drafts = λ k. put_each (λ j (n : Node). (p : Proposal) → n.proposal ≡ Some p → DraftIsOf (packets ++ new) n j p) nodes i next
        (λ p is. let was = draft_before p is in record {
          brick = was.brick;
          boot = was.boot;
          now = was.now;
          seq = was.seq;
          round = was.round;
          called = draft_after p is;
        })
        (λ j other p is. let was = called.drafts j p is in record {
          brick = was.brick;
          boot = was.boot;
          now = was.now;
          seq = was.seq;
          round = was.round;
          called = λ b at. elsewhere j other p is b at (ballot_called packets j p.call.boot p.call.seq) refl;
        })
        k;
  }
    where
      elsewhere : (j : ℕ) → j ≢ i → (p : Proposal) → (nodes j).proposal ≡ Some p → (b : Ballot)
          → ballot_called (packets ++ new) j p.call.boot p.call.seq ≡ Some b → (z : Option Ballot) → ballot_called packets j p.call.boot p.call.seq ≡ z
          → b ≡ p.ballot
      elsewhere j other p is b at None none =
          absurd (other (new_ballot p.call.boot p.call.seq j b (sym (first_of_later _ packets new none) ∙ at)).0)
      elsewhere j other p is b at (Some was) some =
          (called.drafts j p is).called b (some ∙ sym (first_stays _ packets new was some) ∙ at)

      of_draft : (k : ℕ) (packet : Packet) → slice_get (packets ++ new) k ≡ Some packet → (call : Call) (b : Ballot)
          → called_by packet.from.0 call.boot call.seq packet.from.0 packet.message ≡ Some b → IsOfDraft i next packet.from.0 call b
          → IsBallotOf (packets ++ new) (put nodes i next packet.from.0) packet.from.0 call b
      of_draft k packet at call b here of =
          let draft = draft_before of.draft of.is in
          let boot_is = of.boot in
          let some = first_some (λ (other : Packet). called_by packet.from.0 call.boot call.seq other.from.0 other.message) (packets ++ new) k packet b at here in
          let called_at : ballot_called (packets ++ new) i of.draft.call.boot of.draft.call.seq ≡ Some some.0
          = ap (λ (j : ℕ). ballot_called (packets ++ new) j of.draft.call.boot of.draft.call.seq) (sym of.from_is)
          ∙ ap (λ (j : ℕ). ballot_called (packets ++ new) packet.from.0 j of.draft.call.seq) (sym of.boot)
          ∙ ap (λ (j : ℕ). ballot_called (packets ++ new) packet.from.0 call.boot j) (sym of.seq) ∙ some.1 in
          let same : some.0 ≡ b = draft_after of.draft of.is some.0 called_at ∙ sym of.ballot in
          let node : put nodes i next packet.from.0 ≡ next = ap (put nodes i next) of.from_is ∙ put_same nodes i next in
          subst (λ (n : Node). IsBallotOf (packets ++ new) n packet.from.0 call b) (sym node)
          (record {
            brick = ap (λ (z : Ballot). z.brick.0) of.ballot ∙ draft.brick ∙ sym of.from_is;
            boot = ap (λ (z : Ballot). z.boot) of.ballot ∙ draft.boot ∙ sym of.boot;
            past = (let now = draft.now in omega (arith, boot_is, now));
            now = λ same_boot.
                let seq_is = of.seq in
                let seq_less = draft.seq in
                let round_is = ap (λ (z : Ballot). z.round) of.ballot in
                let round_less = draft.round in
                (omega (arith, seq_is, seq_less), omega (arith, round_is, round_less));
            called = some.1 ∙ ap (λ (z : Ballot). Some z) same;
          })
