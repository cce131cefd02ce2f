-- A brick that scrubs goes on to, whatever message it handles, until it reports how the scrub ended.
use Rattle.std.proofs.Common.{◌≡◌, ◌≢◌, ℕ, ◌+◌, ◌≤◌, ◌⊎◌, inl, inr, ⊎_elim, List, Option, Some, None, refl, sym, ap, ◌∙◌, subst, arith}
use Rattle.std.specs.Prelude.{slice_get}
use Rattle.std.specs.Option.{option_map}
use Rattle.std.proofs.lemmas.Bool.{cond_both, cond-true, cases_eq, eq-eqb}
use Rattle.std.proofs.lemmas.Option.{same_Some}
use Rattle.fab_base.specs.declared.identities.BrickId.{BrickId}
use Rattle.fab_base.specs.declared.member_lists.View.{View}
use Rattle.fab_base.specs.declared.stamps.Stamp.{Stamp}
use Rattle.messages.specs.declared.calls.Call.{Call}
use Rattle.messages.specs.declared.packets.Message.{Message}
use Rattle.messages.specs.declared.replies.Reply.{Reply}
use Rattle.protocol.specs.declared.tellings.Report.{Report}
use Rattle.protocol.specs.declared.tellings.ScrubAnswer.{ScrubAnswer}
use Rattle.protocol.specs.Settings.{Code, Setting}
use Rattle.protocol.specs.Jobs.{Job, abort_cause}
use Rattle.protocol.specs.Scrubs.{Scrub, scrub_answer}
use Rattle.protocol.specs.Coordinators.{Coordinator, Next, Ignores, Waits, Sends, Makes, Ends, counts_at, counted_at, hearing, on_reply, with_reply}
use Rattle.protocol.specs.Nodes.{Node, NodeStep, carried_for, carried_out, fresh_stamp, heard, job_reading, known_after, lists_fit, members_alone, put, received, replied, replied_at, scrub_of, then_taught, view_counted, with_known, with_round}
use Rattle.protocol.proofs.Puts.{put_other}
use Rattle.protocol.proofs.Served.{request_each}
use Rattle.protocol.proofs.Tables.{put_same}
use Rattle.protocol_laws.proofs.Books.{AreApart, ForScrub, own_seq}
use Rattle.protocol_laws.proofs.BooksKept.{job_seq, reading_is, scrub_is}
use Rattle.protocol_laws.proofs.Outcomes.{NextFits, SameOperation, once_full_fits}
use Rattle.protocol_laws.proofs.Proposing.{ballot_each}
use Rattle.protocol_laws.proofs.Teaching.{learnt_each, told_each}
use Rattle.view_laws.proofs.SyncReads.{carried_each}
use Rattle.view_laws.proofs.Syncing.{synced_each}

-- among these calls that of a coordinator's operation is open
abbrev pub HasCall : Coordinator → (ℕ → Option Coordinator) → Type 0
HasCall first calls = (c : Coordinator) × (calls first.call.seq ≡ Some c) × SameOperation first c

-- A brick has a scrub open: its coordinator was this at some time, and its boot is that of the call.
abbrev pub IsScrubbing : Coordinator → Node → Type 0
IsScrubbing first node = (own_seq node ForScrub ≡ Some first.call.seq) × (node.boot ≡ first.call.boot) × HasCall first node.calls

-- a call of that operation
abbrev pub IsCallLike : Coordinator → Call → Type 0
IsCallLike first call =
    (call.boot ≡ first.call.boot) × (call.seq ≡ first.call.seq) × (call.group ≡ first.call.group) × (call.stripe ≡ first.call.stripe)

-- one of these reports is that the scrub ended
abbrev pub IsReported : Coordinator → List Report → Type 0
IsReported first reports =
    (j : ℕ) × (call : Call) × (answer : ScrubAnswer) × (slice_get reports j ≡ Some (Report.Scrub call (members_alone first.only) answer))
    × IsCallLike first call

-- a step of the brick leaves the scrub open, or reports its end
abbrev pub ScrubsOn : Coordinator → NodeStep → Type 0
ScrubsOn first step = IsScrubbing first step.node ⊎ IsReported first step.reports

-- the coordinator of a decision, if one goes on, is of the same operation
abbrev NextSame : Coordinator → Next → Type 0
NextSame c Ignores = Unit {0}
NextSame c (Waits d) = SameOperation c d
NextSame c (Sends d) = SameOperation c d
NextSame c (Makes d) = SameOperation c d
NextSame c (Ends answer seen stored) = Unit {0}

-- one of the same operation as that of the same operation
same_twice : (a b c : Coordinator) → SameOperation a b → SameOperation b c → SameOperation a c
same_twice a b c first second = record {
  ask = second.ask ∙ first.ask;
  members = second.members ∙ first.members;
  prior = second.prior ∙ first.prior;
  only = second.only ∙ first.only;
  boot = second.boot ∙ first.boot;
  seq = second.seq ∙ first.seq;
  group = second.group ∙ first.group;
  stripe = second.stripe ∙ first.stripe;
}

-- one that heard a reply is
same_heard : (c d : Coordinator) (seat : ℕ) (from : BrickId) (reply : Reply) → SameOperation (with_reply c seat from reply) d → SameOperation c d
same_heard c d seat from reply same = record {
  ask = same.ask;
  members = same.members;
  prior = same.prior;
  only = same.only;
  boot = same.boot;
  seq = same.seq;
  group = same.group;
  stripe = same.stripe;
}

-- what a coordinator decides upon a reply
next_same : (block : ℕ) (code : Code) (fresh : Option Stamp) (c : Coordinator) (from : BrickId) (call : Call) (reply : Reply)
    → NextSame c (on_reply block code fresh c from call reply)
unfolding on_reply
next_same block code fresh c from call reply = at (counts_at block c from.0 call reply)
  where
    by : (seat : ℕ) (next : Next) → NextFits fresh (with_reply c seat from reply) next → NextSame c next
    by seat Ignores fits = tt
    by seat (Waits d) fits = same_heard c d seat from reply fits.same
    by seat (Sends d) fits = same_heard c d seat from reply fits.same
    by seat (Makes d) fits = same_heard c d seat from reply fits.same
    by seat (Ends answer seen stored) fits = tt

    at : (z : Option ℕ) → NextSame c (counted_at block code fresh c from reply z)
    at None = tt
    at (Some seat) = by seat _ (once_full_fits block code fresh (with_reply c seat from reply))

-- another call changes
call_kept : (first : Coordinator) (calls : ℕ → Option Coordinator) (k : ℕ) (z : Option Coordinator) → first.call.seq ≢ k → HasCall first calls
    → HasCall first (put calls k z)
call_kept first calls k z other has = (has.0, put_other calls k z first.call.seq other ∙ has.1, has.2)

-- that call goes on
call_goes : (first c d : Coordinator) (calls : ℕ → Option Coordinator) → c.call.seq ≡ first.call.seq → SameOperation first c → SameOperation c d
    → HasCall first (put calls c.call.seq (Some d))
call_goes first c d calls seq mine same =
    (d, ap (put calls c.call.seq (Some d)) (sym seq) ∙ put_same calls c.call.seq (Some d), same_twice first c d mine same)

-- a brick whose calls have their numbers, that of the scrub among them, and whose synchronisation and scrub have two calls
module _ (setting : Setting) (me : BrickId) (now : ℕ) (first : Coordinator) (node : Node) (scrubs : IsScrubbing first node) (within : first.call.seq ≤ node.seq)
    (apart : AreApart node) where
  -- it does what the coordinator of another operation decided
  other_carried : (known : ℕ) (c : Coordinator) (next : Next) → first.call.seq ≢ c.call.seq → ScrubsOn first (carried_out setting me node known c next)
  other_carried known c Ignores other = inl scrubs
  other_carried known c (Waits d) other = inl (scrubs.0, scrubs.1, call_kept first node.calls c.call.seq (Some d) other scrubs.2)
  other_carried known c (Sends d) other = inl (scrubs.0, scrubs.1, call_kept first node.calls c.call.seq (Some d) other scrubs.2)
  other_carried known c (Makes d) other = inl (scrubs.0, scrubs.1, call_kept first node.calls c.call.seq (Some d) other scrubs.2)
  other_carried known c (Ends answer seen stored) other = inl (scrubs.0, scrubs.1, call_kept first node.calls c.call.seq None other scrubs.2)

  -- also where that is a read of its synchronisation
  other_goes : (known : ℕ) (c heard_c : Coordinator) (next : Next) (reading : Option Job) (scrub : Option Scrub)
      → ((s : Scrub) → scrub ≡ Some s → (node.scrub ≡ Some s) × (s.seq ≡ c.call.seq)) → first.call.seq ≢ c.call.seq
      → ScrubsOn first (carried_for setting me now node known c heard_c next reading scrub)
  other_goes known c heard_c next reading scrub found other =
      carried_each (ScrubsOn first) setting me now node known c heard_c next reading scrub (other_carried known c next other)
      (λ job is answer seen stored ends.
      let closed : HasCall first (put node.calls c.call.seq None) = call_kept first node.calls c.call.seq None other scrubs.2 in
      record {
        stays = inl (scrubs.0, scrubs.1, closed);
        ends = λ told. inl (scrubs.0, scrubs.1, closed);
        finishes = inl (scrubs.0, scrubs.1, closed);
        reads = λ attempt group kept. inl (
          scrubs.0,
          scrubs.1,
          call_kept first (put node.calls c.call.seq None) (node.seq + 1) _ (λ same. omega (arith, same, within)) closed,
        );
      })
      (record {
        begins = λ s is d sends. absurd (not_its s is);
        ends = λ s is answer seen stored ends. absurd (not_its s is);
      })
    where
      not_its : (s : Scrub) → scrub ≡ Some s → ⊥
      not_its s is =
          let mine = found s is in
          other (sym (same_Some s.seq first.call.seq (sym (ap (option_map (λ (z : Scrub). z.seq)) mine.0) ∙ scrubs.0)) ∙ mine.1)

  -- the scrub that the brick has
  its_scrub : (s : Scrub) × (node.scrub ≡ Some s) × (s.seq ≡ first.call.seq)
  its_scrub = by node.scrub refl scrubs.0
    where
      by : (z : Option Scrub) → node.scrub ≡ z → option_map (λ (x : Scrub). x.seq) z ≡ Some first.call.seq
          → (s : Scrub) × (node.scrub ≡ Some s) × (s.seq ≡ first.call.seq)
      by None none seq = absurd (let never : None ≡ Some first.call.seq = seq in cc)
      by (Some s) is seq = (s, is, same_Some s.seq first.call.seq seq)

  -- it does what the coordinator of the scrub decided
  own_goes : (known : ℕ) (c heard_c : Coordinator) (next : Next) (reading : Option Job) (scrub : Option Scrub)
      → job_reading node.job c.call.seq ≡ reading → scrub_of node.scrub c.call.seq ≡ scrub → c.call.seq ≡ first.call.seq → SameOperation first c
      → NextSame c next → ScrubsOn first (carried_for setting me now node known c heard_c next reading scrub)
  own_goes known c heard_c next (Some job) scrub reads found seq mine same =
      absurd (let is = reading_is node.job c.call.seq job reads in apart first.call.seq (job_seq node.job job first.call.seq is.0 (is.1 ∙ seq)) scrubs.0)
  own_goes known c heard_c next None None reads found seq mine same =
      let its = its_scrub in
      let there : scrub_of node.scrub c.call.seq ≡ Some its.0
      = ap (λ (z : Option Scrub). scrub_of z c.call.seq) its.1 ∙ cond-true _ (Some its.0) None (eq-eqb its.0.seq c.call.seq (its.2 ∙ sym seq)) in
      absurd (let never : None ≡ Some its.0 = sym found ∙ there in cc)
  own_goes known c heard_c Ignores None (Some s) reads found seq mine same = inl scrubs
  own_goes known c heard_c (Waits d) None (Some s) reads found seq mine same = inl (scrubs.0, scrubs.1, call_goes first c d node.calls seq mine same)
  own_goes known c heard_c (Sends d) None (Some s) reads found seq mine same =
      inl (ap (λ (k : ℕ). Some k) ((scrub_is node.scrub c.call.seq s found).1 ∙ seq), scrubs.1, call_goes first c d node.calls seq mine same)
  own_goes known c heard_c (Makes d) None (Some s) reads found seq mine same = inl (scrubs.0, scrubs.1, call_goes first c d node.calls seq mine same)
  own_goes known c heard_c (Ends answer seen stored) None (Some s) reads found seq mine same = inr (
    0,
    c.call,
    scrub_answer s.lagging (abort_cause answer) stored,
    ap (λ (only : Option (List BrickId)). Some (Report.Scrub c.call (members_alone only) (scrub_answer s.lagging (abort_cause answer) stored))) mine.only,
    (mine.boot, mine.seq, mine.group, mine.stripe),
  )

-- the brick handles a message
module _ (setting : Setting) (me : BrickId) (now : ℕ) (first : Coordinator) (node : Node) (scrubs : IsScrubbing first node) (within : first.call.seq ≤ node.seq)
    (apart : AreApart node) (numbered : (k : ℕ) (c : Coordinator) → node.calls k ≡ Some c → c.call.seq ≡ k) where
  -- a reply, to an open operation or to its proposal
  at_found : (from : BrickId) (call : Call) (reply : Reply) (found : Option Coordinator) → node.calls call.seq ≡ found
      → ScrubsOn first (replied_at setting me now from (with_round node reply) call reply found)
  at_found from call reply None none =
      ballot_each (ScrubsOn first) setting.layout me from (with_known (with_round node reply) (known_after node.known reply)) call reply node.proposal
      (λ seq round proposal packets reports least of_views. inl scrubs)
  at_found from call reply (Some c) is =
      let known : ℕ = known_after node.known reply in
      let heard_c : Coordinator = hearing c from reply (counts_at setting.layout.block c from.0 call reply) in
      let fresh : Option Stamp = fresh_stamp me c.stamp.view now node.boot known in
      let next : Next = on_reply setting.layout.block setting.code fresh c from call reply in
      ⊎_elim
      (λ (same : first.call.seq ≡ c.call.seq).
      let mine : scrubs.2.0 ≡ c
      = same_Some scrubs.2.0 c (sym scrubs.2.1 ∙ ap node.calls (same ∙ numbered call.seq c is) ∙ is) in
      own_goes setting me now first (with_round node reply) scrubs within apart known c heard_c next (job_reading node.job c.call.seq)
      (scrub_of node.scrub c.call.seq) refl refl (sym same) (subst (λ (z : Coordinator). SameOperation first z) mine scrubs.2.2)
      (next_same setting.layout.block setting.code fresh c from call reply))
      (λ (other : first.call.seq ≢ c.call.seq).
      other_goes setting me now first (with_round node reply) scrubs within apart known c heard_c next (job_reading node.job c.call.seq)
      (scrub_of node.scrub c.call.seq) (λ s found. scrub_is node.scrub c.call.seq s found) other)
      (cases_eq first.call.seq c.call.seq)

  -- a step, once the brick was also taught a view, if it was
  taught_on : (group : ℕ) (view : Option View) (step : NodeStep) → ScrubsOn first step → ScrubsOn first (then_taught setting.layout.block group view step)
  taught_on group view step on = ⊎_elim
      (λ (still : IsScrubbing first step.node).
      inl (told_each (λ (n : Node). IsScrubbing first n) setting.layout.block group step.node view still (λ v later. still)))
      (λ (ended : IsReported first step.reports). inr ended)
      on

  -- a reply
  heard_on : (from : BrickId) (call : Call) (reply : Reply) → ScrubsOn first (heard setting me now from node call reply)
  unfolding replied
  heard_on from call reply =
      cond_both (lists_fit setting.layout call reply) _ _ (ScrubsOn first)
      (λ fit. taught_on call.group.0 (view_counted setting.layout from node call reply)
      (replied_at setting me now from (with_round node reply) call reply (node.calls call.seq)) (at_found from call reply (node.calls call.seq) refl))
      (λ isnt. inl scrubs)

  -- a message
  pub received_on : (from to : BrickId) (message : Message)
      → ScrubsOn first (received setting me now node (record { from = from; to = to; message = message }))
  unfolding received
  received_on from to (Message.Request call request) =
      request_each (ScrubsOn first) setting me from node call request (inl scrubs) (λ reply is. inl scrubs) (λ group seat here served. inl scrubs)
      (λ group ballot asked here. inl scrubs)
  received_on from to (Message.Reply call reply) = heard_on from call reply
  received_on from to (Message.Learn group view) =
      inl (learnt_each (λ (n : Node). IsScrubbing first n) setting.layout node group view scrubs (λ later. scrubs))
  received_on from to (Message.Synced group number) =
      inl (synced_each (λ (n : Node). IsScrubbing first n) setting.layout node group number scrubs (λ same unsynced. scrubs))
  received_on from to message = inl scrubs
