-- What the history of replies has shown stays shown.
use Rattle.std.proofs.Common.{◌≡◌, ℕ, ◌<◌, ◌≤◌, ◌⊎◌, inl, inr, ⊎_elim, Bool, true, false, List, [], Option, Some, None, is_some, refl, sym, ap, ◌∙◌, subst, arith}
use Rattle.std.specs.Prelude.{slice_get, nat_lt, nat_eq, if◌then◌else◌}
use Rattle.std.proofs.lemmas.Bool.{ltb-false, le-ltb}
use Rattle.fab_base.specs.declared.identities.BrickId.{BrickId}
use Rattle.fab_base.specs.declared.stamps.Stamp.{Stamp}
use Rattle.fab_base.specs.declared.answers.Answer.TheVariants.{Aborted}
use Rattle.fab_base.specs.declared.answers.Cause.{Cause}
use Rattle.messages.specs.declared.calls.Call.{Call}
use Rattle.messages.specs.declared.packets.Message.TheVariants as Message
use Rattle.fab_base.specs.declared.asks.Ask.{Ask}
use Rattle.messages.specs.declared.requests.Request.{Request}
use Rattle.messages.specs.declared.packets.Packet.{Packet}
use Rattle.messages.specs.declared.replies.Reply.TheVariants as Reply
use Rattle.reg_model.specs.declared.marks.Mark.TheVariants.{End}
use Rattle.std.proofs.lemmas.Option.{same_Some}
use Rattle.reg_model.specs.Marks.{Life, life_of, IsOpen}
use Rattle.protocol.specs.Settings.{Setting}
use Rattle.protocol.specs.declared.phases.Counted.{Counted}
use Rattle.protocol.specs.Coordinators.{Coordinator, greatest_refuser, greatest_found, lowest_full, lowest_mover, lowest_dropper}
use Rattle.protocol.specs.Nodes.{has_later_time}
use Rattle.protocol.specs.Worlds.{World, Operation, number_of, known_in}
use Rattle.protocol_laws.specs.Laws.{WasSent, RequestSent, AskedAt, order_of, IsLastRound, LaterEvidence, FullEvidence, MovedEvidence, GoneEvidence, Evidence, HasNotEnded}
use Rattle.fab_base.specs.declared.identities.ViewNo.{ViewNo}
use Rattle.protocol_laws.proofs.Books.{Replies, Books, OperationBooks, CallBooks, IsOperation, IsCall}
use Rattle.protocol_laws.proofs.MarkNumbers.{cases_marked}
use Rattle.reg_model.proofs.GrowingLives.{ended_not_open}
use Rattle.protocol_laws.proofs.Tallies.{IsAmong, BeganBack, CallTallied, CountedSent, AbortShown, Tallied, OrdersAlone, GoesOn, Furthers, AskedBack, CountsAlone, NotedLagging}
use Rattle.protocol.specs.Scrubs.{Scrub, is_look, lagging_of}
use Rattle.fab_base.specs.Layouts.{seat_in}

-- what was sent stays sent
abbrev pub StaySent : List Packet → List Packet → Type 0
StaySent packets later = (packet : Packet) → IsAmong packets packet → IsAmong later packet

-- an operation that had begun to look back had so later, where the replies of the phases before stay
pub began_on : (packets more : List Packet) (replies later : ℕ → List Counted) (i : ℕ) (call next : Call) → StaySent packets more
    → ((p : ℕ) → p < call.phase → later p ≡ replies p) → next.boot ≡ call.boot → next.seq ≡ call.seq → call.phase ≤ next.phase
    → BeganBack packets replies i call → BeganBack more later i next
began_on packets more replies later i call next sent same boot seq most began =
    let goes = began.most in
    let from = began.follows in
    record {
      first = began.first;
      before = began.before;
      member = began.member;
      boot = began.boot ∙ sym boot;
      seq = began.seq ∙ sym seq;
      most = omega (arith, goes, most);
      asked = sent (record { from = record { 0 = i }; to = began.member; message = Message.Request began.first (Request.OldRead None) }) began.asked;
      follows = began.follows;
      nothing = ap (λ (l : List Counted). greatest_found l) (same began.before (omega (arith, goes, from))) ∙ began.nothing;
    }

-- what it asked of the view before it still has
pub asked_on_back : (packets more : List Packet) (i : ℕ) (call next : Call) (phase : ℕ) → StaySent packets more → next.boot ≡ call.boot → next.seq ≡ call.seq
    → AskedBack packets i call phase → AskedBack more i next phase
asked_on_back packets more i call next phase sent boot seq (old, old_boot, old_seq, is, (to, bound, asked)) = (
  old,
  old_boot ∙ sym boot,
  old_seq ∙ sym seq,
  is,
  (to, bound, sent (record { from = record { 0 = i }; to = to; message = Message.Request old (Request.OldRead bound) }) asked),
)

-- members that counted alone did so
pub alone_on : (packets more : List Packet) (replies later : ℕ → List Counted) (i : ℕ) (call next : Call) (only : List BrickId) → StaySent packets more
    → ((p : ℕ) → later p ≡ replies p) → next.boot ≡ call.boot → next.seq ≡ call.seq → CountsAlone packets replies i call only
    → CountsAlone more later i next only
alone_on packets more replies later i call next only sent same boot seq alone p j x at = ⊎_elim
    (λ (one : is_some (seat_in only x.brick.0) ≡ true). inl one)
    (λ (back : AskedBack packets i call p). inr (asked_on_back packets more i call next p sent boot seq back))
    (alone p j x (ap (λ (l : List Counted). slice_get l j) (sym (same p)) ∙ at))

-- A brick's scrub, if it has this call, was one of the call as well, with the same members that lagged, once the call looks no longer for what all keep.
abbrev pub LagsAs : Option Scrub → Option Scrub → Coordinator → Type 0
LagsAs scrub later c =
    (s : Scrub) → later ≡ Some s → s.seq ≡ c.call.seq
    → (r : Scrub) × (scrub ≡ Some r) × (r.seq ≡ s.seq) × (is_look c.phase ≡ false → s.lagging ≡ r.lagging)

-- it is the same
pub lags_same : (scrub later : Option Scrub) (c : Coordinator) → later ≡ scrub → LagsAs scrub later c
lags_same scrub later c same s is seq = (s, sym same ∙ is, refl, λ look. refl)

-- an operation whose replies stay
pub call_tallied_on : (packets more : List Packet) (replies later : Replies) (i n m : ℕ) (scrub other : Option Scrub) (c : Coordinator)
    → StaySent packets more → m ≡ n → ((p : ℕ) → later n p ≡ replies n p) → LagsAs scrub other c → CallTallied packets replies i n scrub c
    → CallTallied more later i m other c
call_tallied_on packets more replies later i n m scrub other c sent number same lags tallied =
    subst (λ (x : ℕ). CallTallied more later i x other c) (sym number) (record {
      now = record {
        forgotten = tallied.now.forgotten;
        are = same c.call.phase ∙ tallied.now.are;
        stops = tallied.now.stops;
        refused = tallied.now.refused;
        found = tallied.now.found;
        whole = tallied.now.whole;
      };
      later = λ p above. same p ∙ tallied.later p above;
      refused = λ round p low high. ap (λ (l : List Counted). is_some (greatest_refuser l)) (same p) ∙ tallied.refused round p low high;
      back = λ looks. began_on packets more (replies n) (later n) i c.call c.call sent (λ p less. same p) refl refl (omega arith) (tallied.back looks);
      alone = λ only is. alone_on packets more (replies n) (later n) i c.call c.call only sent same refl refl (tallied.alone only is);
      named = λ s is seq. (let was = lags s is seq in tallied.named was.0 was.1 (was.2 ∙ seq));
      lagged = λ s is seq look.
          (let was = lags s is seq in
          let noted : NotedLagging (replies n 1) c was.0 = tallied.lagged was.0 was.1 (was.2 ∙ seq) look in (
            noted.0,
            was.3 look ∙ noted.1 ∙ ap (λ (l : List Counted). lagging_of c.group.members l) (sym (same 1)),
          ));
    })

-- what is not below a limit stays so as it grows
not_below : (limit known later : ℕ) → known ≤ later → nat_lt known limit ≡ false → nat_lt later limit ≡ false
not_below limit known later more isnt =
    let at : limit ≤ known = ltb-false known limit isnt in le-ltb later limit (omega arith)

-- no brick's time falls within a boot, where bricks keep their boots and know no less
pub known_kept : (w next : World) → ((i b : ℕ) → next.past i b ≡ w.past i b) → ((i : ℕ) → (next.nodes i).boot ≡ (w.nodes i).boot)
    → ((i : ℕ) → (w.nodes i).known ≤ (next.nodes i).known) → (i b : ℕ) → b ≤ (w.nodes i).boot → known_in w i b ≤ known_in next i b
known_kept w next past boots knows i b begun =
    subst (λ (x : ℕ). known_in w i b ≤ (if nat_eq b x then (next.nodes i).known else next.past i b)) (sym (boots i))
    (choose_most (nat_eq b (w.nodes i).boot))
  where
    choose_most : (t : Bool) → (if t then (w.nodes i).known else w.past i b) ≤ (if t then (next.nodes i).known else next.past i b)
    choose_most true = knows i
    choose_most false = let same : next.past i b ≡ w.past i b = past i b in omega arith

module _ (w next : World) (on : Furthers w next) where
  pub counted_on : (n phase : ℕ) (x : Counted) → CountedSent w n phase x → CountedSent next n phase x
  counted_on n phase x was =
      let goes = on.operations n was.0 was.1 in
      let call : Call = was.2.0 in (
        goes.0,
        goes.1,
        (
          call,
          (was.2.1.0 ∙ sym goes.2.boot, was.2.1.1 ∙ sym goes.2.seq),
          was.2.2,
          subst (λ (b : BrickId). WasSent next (record { from = x.brick; to = b; message = Message.Reply call x.reply })) (sym goes.2.brick)
              (on.sent (record { from = x.brick; to = was.0.brick; message = Message.Reply call x.reply }) was.2.3),
        ),
      )

  -- what an abort for a full store shows stays, where the replies of its operation do
  full_on : (n : ℕ) (o p : Operation) (brick : BrickId) (live : ℕ) → GoesOn o p
      → ((q : ℕ) → next.replies n q ≡ w.replies n q) → FullEvidence w n o brick live → FullEvidence next n p brick live
  full_on n o p brick live goes same was =
      let call : Call = was.call in
      record {
        call = call;
        seat = was.seat;
        own = (was.own.0 ∙ sym goes.boot, was.own.1 ∙ sym goes.seq);
        told = subst (λ (b : BrickId). WasSent next (record { from = brick; to = b; message = Message.Reply call (Reply.Full live) })) (sym goes.brick)
            (on.sent (record { from = brick; to = o.brick; message = Message.Reply call (Reply.Full live) }) was.told);
        lowest = ap (λ (l : List Counted). lowest_full l) (same call.phase) ∙ was.lowest;
        final = λ q above. same q ∙ was.final q above;
      }

  -- and so does what an abort for a later view shows
  moved_on : (n : ℕ) (o p : Operation) (brick : BrickId) (view : ViewNo) → GoesOn o p
      → ((q : ℕ) → next.replies n q ≡ w.replies n q) → MovedEvidence w n o brick view → MovedEvidence next n p brick view
  moved_on n o p brick view goes same was =
      let call : Call = was.call in
      record {
        call = call;
        seat = was.seat;
        lineage = was.lineage;
        own = (was.own.0 ∙ sym goes.boot, was.own.1 ∙ sym goes.seq);
        told = subst (λ (b : BrickId). WasSent next (record { from = brick; to = b; message = Message.Reply call (Reply.Moved view was.lineage) })) (sym goes.brick)
            (on.sent (record { from = brick; to = o.brick; message = Message.Reply call (Reply.Moved view was.lineage) }) was.told);
        lowest = ap (λ (l : List Counted). lowest_mover l) (same call.phase) ∙ was.lowest;
        final = λ q above. same q ∙ was.final q above;
      }

  -- and so does what an abort for versions that were dropped shows
  gone_on : (n : ℕ) (o p : Operation) (brick : BrickId) → GoesOn o p → ((q : ℕ) → next.replies n q ≡ w.replies n q) → GoneEvidence w n o brick
      → GoneEvidence next n p brick
  gone_on n o p brick goes same was = record {
    call = was.call;
    seat = was.seat;
    first = was.first;
    before = was.before;
    member = was.member;
    own = (was.own.0 ∙ sym goes.boot, was.own.1 ∙ sym goes.seq);
    told = subst (λ (b : BrickId). WasSent next (record { from = brick; to = b; message = Message.Reply was.call Reply.Retired })) (sym goes.brick)
        (on.sent (record { from = brick; to = o.brick; message = Message.Reply was.call Reply.Retired }) was.told);
    lowest = ap (λ (l : List Counted). lowest_dropper l) (same was.call.phase) ∙ was.lowest;
    final = λ q above. same q ∙ was.final q above;
    first_own = (was.first_own.0 ∙ sym goes.boot, was.first_own.1 ∙ sym goes.seq);
    most = was.most;
    asked = subst (λ (b : BrickId). RequestSent next was.first b was.member (Request.OldRead None)) (sym goes.brick)
        (on.sent (record { from = o.brick; to = was.member; message = Message.Request was.first (Request.OldRead None) }) was.asked);
    follows = was.follows;
    nothing = ap (λ (l : List Counted). greatest_found l) (same was.before) ∙ was.nothing;
  }

  pub asked_on : (call : Call) (from to : BrickId) (t : Stamp) → AskedAt w call from to t → AskedAt next call from to t
  asked_on call from to t asked = (
    asked.0,
    on.sent (record { from = from; to = to; message = Message.Request call asked.0 }) asked.1,
    asked.2,
  )

  last_round_on : (n : ℕ) (o p : Operation) (phase : ℕ) → GoesOn o p → o.boot ≤ (w.nodes o.brick.0).boot
      → ((q : ℕ) → next.replies n q ≡ w.replies n q) → IsLastRound w n o phase → IsLastRound next n p phase
  last_round_on n o p phase goes begun same (inl most) =
      inl (most.0, λ e few less. ap (λ (l : List Counted). is_some (greatest_refuser l)) (same e) ∙ most.1 e few less)
  last_round_on n o p phase goes begun same (inr none) =
      inr (subst (λ (b : BrickId). has_later_time (known_in next b.0 p.boot) ≡ false) (sym goes.brick)
      (subst (λ (b : ℕ). has_later_time (known_in next o.brick.0 b) ≡ false) (sym goes.boot)
      (not_below _ (known_in w o.brick.0 o.boot) (known_in next o.brick.0 o.boot) (on.known o.brick.0 o.boot begun) none)))

  -- what an abort for a later stamp shows stays, where the replies of its operation do
  later_on : OrdersAlone next → (n : ℕ) (o p : Operation) (brick : BrickId) (x : Stamp) → IsOperation next n p → GoesOn o p
      → o.boot ≤ (w.nodes o.brick.0).boot → ((q : ℕ) → next.replies n q ≡ w.replies n q) → LaterEvidence w n o brick x
      → LaterEvidence next n p brick x
  later_on alone n o p brick x is goes begun same was =
      let call : Call = was.call in
      let t : Stamp = was.stamp in
      let asked : AskedAt next call p.brick brick t
      = subst (λ (b : BrickId). AskedAt next call b brick t) (sym goes.brick) (asked_on call o.brick brick t was.asked) in
      record {
        call = call;
        stamp = t;
        seat = was.seat;
        own = (was.own.0 ∙ sym goes.boot, was.own.1 ∙ sym goes.seq);
        asked = asked;
        told = subst (λ (b : BrickId). WasSent next (record { from = brick; to = b; message = Message.Reply call (Reply.Later x) })) (sym goes.brick)
            (on.sent (record { from = brick; to = o.brick; message = Message.Reply call (Reply.Later x) }) was.told);
        above = was.above;
        greatest = ap (λ (l : List Counted). greatest_refuser l) (same call.phase) ∙ was.greatest;
        last = λ ordered. last_round_on n o p call.phase goes begun same (was.last (as_order ordered));
        final = λ q above. same q ∙ was.final q above;
      }
    where
      -- what was asked is the operation's order, where that was sent
      as_order : RequestSent next was.call p.brick brick (order_of p.ask.op was.stamp) → RequestSent w was.call o.brick brick (order_of o.ask.op was.stamp)
      as_order ordered =
          let sent : RequestSent next was.call p.brick brick was.asked.0
          = subst (λ (b : BrickId). RequestSent next was.call b brick was.asked.0) (sym goes.brick)
          (on.sent (record { from = o.brick; to = brick; message = Message.Request was.call was.asked.0 }) was.asked.1) in
          subst (λ (r : Request). RequestSent w was.call o.brick brick r)
          (alone n p was.call brick brick was.asked.0 was.stamp was.stamp is (was.own.0 ∙ sym goes.boot, was.own.1 ∙ sym goes.seq)
          sent was.asked.2 ordered
          ∙ ap (λ (a : Ask). order_of a.op was.stamp) goes.ask)
          was.asked.1

  -- the evidence of an abort stays, where the replies of its operation do
  evidence_on : OrdersAlone next → (n : ℕ) (o p : Operation) (cause : Cause) → IsOperation next n p → GoesOn o p
      → o.boot ≤ (w.nodes o.brick.0).boot → ((q : ℕ) → next.replies n q ≡ w.replies n q) → Evidence w n o cause → Evidence next n p cause
  evidence_on alone n o p (Cause.Later brick x) is goes begun same was = later_on alone n o p brick x is goes begun same was
  evidence_on alone n o p (Cause.Full brick live) is goes begun same was = full_on n o p brick live goes same was
  evidence_on alone n o p (Cause.Moved brick view) is goes begun same was = moved_on n o p brick view goes same was
  evidence_on alone n o p (Cause.Gone brick) is goes begun same was = gone_on n o p brick goes same was

-- an operation that has ended has
ended_open : (setting : Setting) (w : World) → Books setting w → (n : ℕ) (o : Operation) (cause : Option Cause) → IsOperation w n o → o.closed ≡ Some cause
    → HasNotEnded w n → ⊥
ended_open setting w books n o cause is closed open' =
    let same : o ≡ open'.operation = same_Some o open'.operation (sym is ∙ open'.is) in
    let own : OperationBooks setting w n o = books.operations n o is in
    let none : o.closed ≡ None = ⊎_elim
    (λ (from : 1 ≤ o.mark). (own.lived from).unclosed)
    (λ (unmarked : o.mark ≡ 0). ap (λ (z : Operation). z.closed) same ∙ open'.unmarked (sym (ap (λ (z : Operation). z.mark) same) ∙ unmarked))
    (cases_marked o) in
    absurd (let never : Some cause ≡ None = sym closed ∙ none in cc)

-- and an open one has not
pub not_ended : (setting : Setting) (w : World) (i k : ℕ) (c : Coordinator) → Books setting w → IsCall w i k c → HasNotEnded w (number_of w i k)
not_ended setting w i k c books is =
    let its : CallBooks setting w i k c = books.calls i k c is in
    record {
      operation = its.operation;
      is = its.operation_is;
      marked = λ from.
          (let lived = (books.operations (number_of w i k) its.operation its.operation_is).lived from in
          subst (λ (l : Option Life). IsOpen l) (sym lived.life_is) (its.unended from lived.life lived.life_is));
      unmarked = λ none. its.unclosed;
    }

-- the history of the next world: what is new in it is shown
pub tallied_on : (setting : Setting) (w next : World) → Books setting w → Tallied w → OrdersAlone next → Furthers w next
    → ((i k : ℕ) (c : Coordinator) → IsCall next i k c → CallTallied next.packets next.replies i (number_of next i k) (next.nodes i).scrub c)
    → ((n p : ℕ) → next.begun < n → next.replies n p ≡ [])
    → ((n phase k : ℕ) (x : Counted) → slice_get (next.replies n phase) k ≡ Some x
    → (slice_get (w.replies n phase) k ≡ Some x) ⊎ CountedSent next n phase x)
    → ((k p n : ℕ) (cause : Cause) → slice_get next.marks k ≡ Some (End p n (Aborted cause))
    → (slice_get w.marks k ≡ Some (End p n (Aborted cause))) ⊎ ((1 ≤ n) × AbortShown next n cause))
    → ((n : ℕ) (p : Operation) (cause : Cause) → IsOperation next n p → p.closed ≡ Some (Some cause)
    → ((o : Operation) × IsOperation w n o × (o.closed ≡ Some (Some cause))) ⊎ Evidence next n p cause)
    → Tallied next
tallied_on setting w next books tallied alone on calls unbegun counted aborts closed = record {
  calls = calls;
  unbegun = unbegun;
  counted = λ n phase k x is. ⊎_elim
      (λ (old : slice_get (w.replies n phase) k ≡ Some x). counted_on w next on n phase x (tallied.counted n phase k x old))
      (λ (new : CountedSent next n phase x). new)
      (counted n phase k x is);
  aborts = λ k p n cause is. ⊎_elim
      (λ (old : slice_get w.marks k ≡ Some (End p n (Aborted cause))).
      let was : AbortShown w n cause = tallied.aborts k p n cause old in
      let goes = on.operations was.0 was.1 was.2 in
      let same : (q : ℕ) → next.replies was.0 q ≡ w.replies was.0 q = ⊎_elim
      (λ (kept : (q : ℕ) → next.replies was.0 q ≡ w.replies was.0 q). kept)
      (λ (open' : HasNotEnded w was.0). absurd (marked_open k p n cause was.0 was.1 old was.2 was.3 open'))
      (on.replies was.0) in (
        was.0,
        goes.0,
        goes.1,
        goes.2.mark ∙ was.3,
        evidence_on w next on alone was.0 was.1 goes.0 cause goes.1 goes.2 (books.operations was.0 was.1 was.2).booted.1 same was.4,
      ))
      (λ (new : (1 ≤ n) × AbortShown next n cause). new.1)
      (aborts k p n cause is);
  marked = λ k p n cause is. ⊎_elim
      (λ (old : slice_get w.marks k ≡ Some (End p n (Aborted cause))). tallied.marked k p n cause old)
      (λ (new : (1 ≤ n) × AbortShown next n cause). new.0)
      (aborts k p n cause is);
  closed = λ n p cause is ended. ⊎_elim
      (λ (old : (o : Operation) × IsOperation w n o × (o.closed ≡ Some (Some cause))).
      let goes = on.operations n old.0 old.1 in
      let same : goes.0 ≡ p = same_Some goes.0 p (sym goes.1 ∙ is) in
      let kept : (q : ℕ) → next.replies n q ≡ w.replies n q = ⊎_elim
      (λ (stays : (q : ℕ) → next.replies n q ≡ w.replies n q). stays)
      (λ (open' : HasNotEnded w n). absurd (ended_open setting w books n old.0 (Some cause) old.1 old.2 open'))
      (on.replies n) in
      subst (λ (z : Operation). Evidence next n z cause) same
      (evidence_on w next on alone n old.0 goes.0 cause goes.1 goes.2 (books.operations n old.0 old.1).booted.1 kept
      (tallied.closed n old.0 cause old.1 old.2)))
      (λ (new : Evidence next n p cause). new)
      (closed n p cause is ended);
}
  where
    -- an operation whose marks show its end has ended
    marked_open : (k p n : ℕ) (cause : Cause) (a : ℕ) (o : Operation) → slice_get w.marks k ≡ Some (End p n (Aborted cause)) → IsOperation w a o → o.mark ≡ n
        → HasNotEnded w a → ⊥
    marked_open k p n cause a o old is mark open' =
        let same : open'.operation.mark ≡ n = ap (λ (z : Operation). z.mark) (same_Some open'.operation o (sym open'.is ∙ is)) ∙ mark in
        let from : 1 ≤ n = tallied.marked k p n cause old in
        ended_not_open w.marks k p n (Aborted cause) books.well_formed old
        (subst (λ (m : ℕ). IsOpen (life_of w.marks m)) same (open'.marked (omega (arith, same, from))))
