-- What is reported of the reads of a brick's own. The reads of synchronisations, try by try: of the stripe that one reads each earlier read was aborted, and of one that it gave up all were.
use Rattle.std.proofs.Common.{◌≡◌, ◌≢◌, ℕ, ◌+◌, ◌-◌, ◌<◌, ◌≤◌, ⊎_elim, true, not, List, Option, Some, None, is_some, refl, sym, ap, ◌∙◌, subst, arith, inl, inr}
use Rattle.std.specs.Prelude.{slice_get}
use Rattle.std.proofs.lemmas.Bool.{cases_eq}
use Rattle.fab_base.specs.declared.identities.BrickId.{BrickId}
use Rattle.fab_base.specs.declared.identities.GroupId.{GroupId}
use Rattle.fab_base.specs.declared.identities.StripeNo.{StripeNo}
use Rattle.fab_base.specs.declared.asks.Op.TheVariants.{ReadStripe}
use Rattle.fab_base.specs.declared.answers.Answer.{Answer}
use Rattle.fab_base.specs.declared.answers.Cause.{Cause}
use Rattle.fab_base.specs.declared.stamps.Stamp.{Stamp}
use Rattle.protocol.specs.declared.tellings.Report.{Report}
use Rattle.protocol.specs.declared.tellings.SyncAnswer.TheVariants.{Stopped}
use Rattle.protocol.specs.Jobs.{Job, most_tries}
use Rattle.protocol.specs.Nodes.{put}
use Rattle.protocol.specs.Worlds.{World, Operation, with_made, with_seen, with_answer, with_closed, is_answer}
use Rattle.protocol.proofs.Puts.{put_other}
use Rattle.protocol.proofs.Tables.{put_same}
use Rattle.protocol_laws.proofs.BooksKept.{KeepsAsk, keeps_ask}
use Rattle.protocol.specs.Settings.{Setting}
use Rattle.protocol.specs.Views.{Views}
use Rattle.protocol.specs.declared.tellings.ScrubAnswer.{ScrubAnswer}
use Rattle.protocol.specs.declared.tellings.ScrubAnswer.TheVariants.{Clean, Repaired, Aborted}
use Rattle.messages.specs.declared.calls.Call.{Call}
use Rattle.messages.specs.declared.packets.Packet.{Packet}
use Rattle.messages.specs.declared.packets.Message.TheVariants as Message
use Rattle.messages.specs.declared.requests.Request.TheVariants as Request
use Rattle.messages.specs.declared.replies.Reply.{Reply}
use Rattle.protocol.specs.declared.phases.Counted.{Counted}
use Rattle.protocol.specs.Coordinators.{tells}
use Rattle.protocol.specs.Scrubs.{lagging_of}
use Rattle.fab_base.specs.Layouts.{seat_in}
use Rattle.protocol_laws.specs.Laws.{WasSent, RequestSent}
use Rattle.protocol_laws.specs.ScrubEnds.{IsScrub, CountedAlone, AskedOld, ScrubTold, EachTold, Held, cause_of}

-- operations, by number
abbrev pub Table : Type 0
Table = ℕ → Option Operation

-- what a later operation of a number keeps of an earlier one: what it asks, and how it ended
abbrev pub KeepsEnd : Operation → Operation → Type 0
KeepsEnd o p = KeepsAsk o p × ((cause : Option Cause) → o.closed ≡ Some cause → p.closed ≡ Some cause)

-- operations stay, and those without marks that have ended stay so
abbrev pub StaysClosed : Table → Table → Type 0
StaysClosed operations later = (n : ℕ) (o : Operation) → operations n ≡ Some o → (p : Operation) × (later n ≡ Some p) × KeepsEnd o p

-- as they are, and once more
pub stays_itself : (operations : Table) → StaysClosed operations operations
stays_itself operations n o is = (o, is, (keeps_ask o, λ cause at. at))

pub stays_then : (operations later last : Table) → StaysClosed operations later → StaysClosed later last → StaysClosed operations last
stays_then operations later last first second n o is =
    let p = first n o is in
    let q = second n p.0 p.1 in (
      q.0,
      q.1,
      (
        record {
          brick = q.2.0.brick ∙ p.2.0.brick;
          boot = q.2.0.boot ∙ p.2.0.boot;
          seq = q.2.0.seq ∙ p.2.0.seq;
          ask = q.2.0.ask ∙ p.2.0.ask;
          mark = q.2.0.mark ∙ p.2.0.mark;
          view = q.2.0.view ∙ p.2.0.view;
        },
        λ cause at. q.2.1 cause (p.2.1 cause at),
      ),
    )

-- one operation changes
pub one_stays : (operations : Table) (n : ℕ) (after : Option Operation)
    → ((o : Operation) → operations n ≡ Some o → (p : Operation) × (after ≡ Some p) × KeepsEnd o p) → StaysClosed operations (put operations n after)
one_stays operations n after here m o is = ⊎_elim
    (λ (mine : m ≡ n).
    let got = here o (ap operations (sym mine) ∙ is) in (got.0, ap (put operations n after) mine ∙ put_same operations n after ∙ got.1, got.2))
    (λ (other : m ≢ n). (o, put_other operations n after m other ∙ is, (keeps_ask o, λ cause at. at)))
    (cases_eq m n)

-- it makes a version, sees one, or is answered
pub made_stays : (operations : Table) (n : ℕ) (t : Stamp) (base : Option Stamp) → StaysClosed operations (put operations n (with_made t base (operations n)))
made_stays operations n t base =
    one_stays operations n (with_made t base (operations n))
    (λ o is. (record o { version = Some t; made = true; base = base }, ap (with_made t base) is, (record { brick = refl; boot = refl; seq = refl; ask = refl; mark = refl; view = refl }, λ cause at. at)))

pub seen_stays : (operations : Table) (n : ℕ) (v : Stamp) → StaysClosed operations (put operations n (with_seen v (operations n)))
seen_stays operations n v =
    one_stays operations n (with_seen v (operations n)) (λ o is. (record o { version = Some v }, ap (with_seen v) is, (record { brick = refl; boot = refl; seq = refl; ask = refl; mark = refl; view = refl }, λ cause at. at)))

pub answered_stays : (operations : Table) (n : ℕ) (answer : Answer) → StaysClosed operations (put operations n (with_answer answer (operations n)))
answered_stays operations n answer =
    one_stays operations n (with_answer answer (operations n)) (λ o is. (record o { answered = is_answer answer }, ap (with_answer answer) is, (record { brick = refl; boot = refl; seq = refl; ask = refl; mark = refl; view = refl }, λ cause at. at)))

-- or ends without marks, once
pub closed_stays : (operations : Table) (n : ℕ) (cause : Option Cause) → ((o : Operation) → operations n ≡ Some o → o.closed ≡ None)
    → StaysClosed operations (put operations n (with_closed cause (operations n)))
closed_stays operations n cause unclosed =
    one_stays operations n (with_closed cause (operations n))
    (λ o is. (
      record o { closed = Some cause; answered = not (is_some cause) },
      ap (with_closed cause) is,
      (record { brick = refl; boot = refl; seq = refl; ask = refl; mark = refl; view = refl }, λ other at. absurd (let never : None ≡ Some other = sym (unclosed o is) ∙ at in cc)),
    ))

-- an operation begins
pub new_stays : (operations : Table) (n : ℕ) (o : Operation) → ((p : Operation) → operations n ≡ Some p → ⊥) → StaysClosed operations (put operations n (Some o))
new_stays operations n o none = one_stays operations n (Some o) (λ p is. absurd (none p is))

-- operation n was a read of a stripe for a synchronisation of this view at a brick, and ended by a cause, or answered, or did not end
pub record IsTry (operations : Table) (brick : BrickId) (number : GroupId) (stripe : StripeNo) (boot view n : ℕ) (closed : Option (Option Cause)) : Type 0 where
  pub operation : Operation
  pub is : operations n ≡ Some operation
  pub unmarked : operation.mark ≡ 0
  pub brick_is : operation.brick ≡ brick
  pub boot_is : operation.boot ≡ boot
  pub view_is : operation.view ≡ view
  pub ask : operation.ask ≡ record { group = number; stripe = stripe; op = ReadStripe }
  pub ended : operation.closed ≡ closed

-- it stays so
try_on : (operations later : Table) (brick : BrickId) (number : GroupId) (stripe : StripeNo) (boot view n : ℕ) (cause : Option Cause) → StaysClosed operations later
    → IsTry operations brick number stripe boot view n (Some cause) → IsTry later brick number stripe boot view n (Some cause)
try_on operations later brick number stripe boot view n cause stays it =
    let next = stays n it.operation it.is in
    record {
      operation = next.0;
      is = next.1;
      unmarked = next.2.0.mark ∙ it.unmarked;
      brick_is = next.2.0.brick ∙ it.brick_is;
      boot_is = next.2.0.boot ∙ it.boot_is;
      view_is = next.2.0.view ∙ it.view_is;
      ask = next.2.0.ask ∙ it.ask;
      ended = next.2.1 cause it.ended;
    }

-- operation n was a read for this synchronisation of the stripe that it reads, and was aborted
abbrev pub WasCut : Table → BrickId → ℕ → Job → ℕ → Type 0
WasCut operations brick boot job n =
    (why : Cause) × IsTry operations brick job.group (record { 0 = job.attempt.stripe }) boot job.view.number.0 n (Some (Some why))

-- The earlier reads of the stripe that a synchronisation is to read: one for each earlier try, aborted, one after another, and no later than this number.
pub record EarlierTries (operations : Table) (brick : BrickId) (boot begun : ℕ) (job : Job) : Type 0 where
  pub read : ℕ → ℕ
  pub least : 1 ≤ job.attempt.tries
  pub most : job.attempt.tries ≤ most_tries
  pub each : (k : ℕ) → k + 1 < job.attempt.tries → WasCut operations brick boot job (read k)
  pub in_turn : (k : ℕ) → k + 2 < job.attempt.tries → read k < read (k + 1)
  pub before : (k : ℕ) → k + 1 < job.attempt.tries → read k ≤ begun

-- The reads of the stripe that a synchronisation reads: one for each try, one after another; each was aborted but the present one, which has this number.
pub record JobTries (operations : Table) (brick : BrickId) (boot number : ℕ) (job : Job) : Type 0 where
  pub read : ℕ → ℕ
  pub least : 1 ≤ job.attempt.tries
  pub most : job.attempt.tries ≤ most_tries
  pub each : (k : ℕ) → k + 1 < job.attempt.tries → WasCut operations brick boot job (read k)
  pub in_turn : (k : ℕ) → k + 1 < job.attempt.tries → read k < read (k + 1)
  pub now : (k : ℕ) → k + 1 ≡ job.attempt.tries → read k ≡ number

-- the reads of a stripe that a synchronisation gave up, by this cause in the end
pub record StoppedTries (operations : Table) (brick : BrickId) (number : GroupId) (stripe : StripeNo) (cause : Cause) : Type 0 where
  pub boot : ℕ
  pub view : ℕ
  pub read : ℕ → ℕ
  pub each : (k : ℕ) → k < most_tries → (why : Cause) × IsTry operations brick number stripe boot view (read k) (Some (Some why))
  pub in_turn : (k : ℕ) → k + 1 < most_tries → read k < read (k + 1)
  pub last : (k : ℕ) → k + 1 ≡ most_tries → IsTry operations brick number stripe boot view (read k) (Some (Some cause))

-- A scrub of these members ended, whose last phase had this call: it shows which operation it was, how it ended, that these members alone counted, and what was told.
pub record ScrubEnded (setting : Setting) (views : Views) (w : World) (brick : BrickId) (call : Call) (members : List BrickId) (answer : ScrubAnswer) : Type 0 where
  pub n : ℕ
  pub operation : Operation
  pub is : w.operations n ≡ Some operation
  pub was : IsScrub brick call operation
  pub ended : operation.closed ≡ Some (cause_of answer)
  pub alone : CountedAlone w n operation members
  pub told : ScrubTold setting views (w.replies n) w.held call operation.view members answer

-- a report of a synchronisation that was stopped shows its reads, and one of a scrub what that showed
abbrev pub ReportTried : Setting → Views → World → BrickId → Report → Type 0
ReportTried setting views w brick (Report.Sync number (Stopped stripe cause)) = StoppedTries w.operations brick number stripe cause
ReportTried setting views w brick (Report.Scrub call members answer) = ScrubEnded setting views w brick call members answer
ReportTried setting views w brick report = Unit {0}

-- what bricks read for their synchronisations, and what those that were stopped had read; and what scrubs showed that ended
pub record Tried (setting : Setting) (views : Views) (w : World) : Type 0 where
  pub jobs : (i : ℕ) (job : Job) → (w.nodes i).job ≡ Some job
      → JobTries w.operations (record { 0 = i }) (w.nodes i).boot (w.numbers i (w.nodes i).boot job.seq) job
  pub reported : (k : ℕ) (told : BrickId × Report) → slice_get w.choices.reports k ≡ Some told → ReportTried setting views w told.0 told.1

-- From one world to a later one: operations stay, those without marks that have ended stay so, and the replies that counted in them; what was held was held,
-- and what was sent was sent.
pub record Later (w next : World) : Type 0 where
  pub stays : StaysClosed w.operations next.operations
  pub replies : (n : ℕ) (o : Operation) (cause : Option Cause) → w.operations n ≡ Some o → o.closed ≡ Some cause → (p : ℕ) → next.replies n p ≡ w.replies n p
  pub held : (i g s : ℕ) (t : Stamp) → w.held i g s t ≡ true → next.held i g s t ≡ true
  pub sent : (packet : Packet) → WasSent w packet → WasSent next packet

-- what each told of a version it told by the same replies, and has held it
each_on : (replies later : List Counted) (held more : Held) (call : Call) (members : List BrickId) (version : Stamp) (Says : Reply → Type 0) → later ≡ replies
    → ((i g s : ℕ) (t : Stamp) → held i g s t ≡ true → more i g s t ≡ true) → EachTold replies held call members version Says
    → EachTold later more call members version Says
each_on replies later held more call members version Says same grows each = record {
  told = λ k member at.
      (let was = each.told k member at in (was.0, was.1, ap (λ (l : List Counted). slice_get l was.0) same ∙ was.2, was.3, was.4));
  has = λ k member at. grows member.0 call.group.0 call.stripe.0 version (each.has k member at);
}

-- what was told stays so, where the replies do
pub told_on : (setting : Setting) (views : Views) (replies later : ℕ → List Counted) (held more : Held) (call : Call) (view : ℕ) (members : List BrickId)
    (answer : ScrubAnswer) → ((p : ℕ) → later p ≡ replies p) → ((i g s : ℕ) (t : Stamp) → held i g s t ≡ true → more i g s t ≡ true)
    → ScrubTold setting views replies held call view members answer → ScrubTold setting views later more call view members answer
told_on setting views replies later held more call view members Clean same grows told = record {
  version = told.version;
  each = each_on (replies 1) (later 1) held more call members told.version (λ reply. tells told.version reply ≡ true) (same 1) grows told.each;
  final = λ p above. same p ∙ told.final p above;
}
told_on setting views replies later held more call view members (Repaired version lagging) same grows told = record {
  each = each_on (replies call.phase) (later call.phase) held more call members version (λ reply. reply ≡ Reply.Stored) (same call.phase) grows told.each;
  group = told.group;
  group_is = told.group_is;
  lagged = told.lagged ∙ ap (λ (l : List Counted). lagging_of told.group.members l) (sym (same 1));
  final = λ p above. same p ∙ told.final p above;
}
told_on setting views replies later held more call view members (Aborted cause) same grows told = tt

-- who counted alone did so
pub counted_on : (w next : World) (n : ℕ) (o p : Operation) (members : List BrickId) → ((phase : ℕ) → next.replies n phase ≡ w.replies n phase)
    → ((packet : Packet) → WasSent w packet → WasSent next packet) → KeepsAsk o p → CountedAlone w n o members → CountedAlone next n p members
counted_on w next n o p members same sent keeps alone phase k x at = ⊎_elim
    (λ (one : is_some (seat_in members x.brick.0) ≡ true). inl one)
    (λ (back : AskedOld w o phase).
    inr (record {
      call = back.call;
      own = (back.own.0 ∙ sym keeps.boot, back.own.1 ∙ sym keeps.seq);
      phase_is = back.phase_is;
      member = back.member;
      bound = back.bound;
      asked = sent (record { from = p.brick; to = back.member; message = Message.Request back.call (Request.OldRead back.bound) })
          (subst (λ (b : BrickId). RequestSent w back.call b back.member (Request.OldRead back.bound)) (sym keeps.brick) back.asked);
    }))
    (alone phase k x (ap (λ (l : List Counted). slice_get l k) (sym (same phase)) ∙ at))

-- and it was a scrub
pub scrub_on : (brick : BrickId) (call : Call) (o p : Operation) → KeepsAsk o p → IsScrub brick call o → IsScrub brick call p
scrub_on brick call o p keeps was = record {
  unmarked = keeps.mark ∙ was.unmarked;
  brick_is = keeps.brick ∙ was.brick_is;
  own = (was.own.0 ∙ sym keeps.boot, was.own.1 ∙ sym keeps.seq);
  ask = keeps.ask ∙ was.ask;
}

-- so a scrub that ended shows what it showed
ended_on : (setting : Setting) (views : Views) (w next : World) → Later w next → (brick : BrickId) (call : Call) (members : List BrickId) (answer : ScrubAnswer)
    → ScrubEnded setting views w brick call members answer → ScrubEnded setting views next brick call members answer
ended_on setting views w next later brick call members answer was =
    let goes = later.stays was.n was.operation was.is in
    let same = later.replies was.n was.operation (cause_of answer) was.is was.ended in
    record {
      n = was.n;
      operation = goes.0;
      is = goes.1;
      was = scrub_on brick call was.operation goes.0 goes.2.0 was.was;
      ended = goes.2.1 (cause_of answer) was.ended;
      alone = counted_on w next was.n was.operation goes.0 members same later.sent goes.2.0 was.alone;
      told = subst (λ (view : ℕ). ScrubTold setting views (next.replies was.n) next.held call view members answer) (sym goes.2.0.view)
          (told_on setting views (w.replies was.n) (next.replies was.n) w.held next.held call was.operation.view members answer same later.held was.told);
    }

-- all of this stays
module _ (operations later : Table) (stays : StaysClosed operations later) where
  cut_on : (brick : BrickId) (boot : ℕ) (job : Job) (n : ℕ) → WasCut operations brick boot job n → WasCut later brick boot job n
  cut_on brick boot job n (why, it) =
      (why, try_on operations later brick job.group (record { 0 = job.attempt.stripe }) boot job.view.number.0 n (Some why) stays it)

  pub job_on : (brick : BrickId) (boot number : ℕ) (job : Job) → JobTries operations brick boot number job → JobTries later brick boot number job
  job_on brick boot number job tries = record {
    read = tries.read;
    least = tries.least;
    most = tries.most;
    each = λ k less. cut_on brick boot job (tries.read k) (tries.each k less);
    in_turn = tries.in_turn;
    now = tries.now;
  }

  stopped_on : (brick : BrickId) (number : GroupId) (stripe : StripeNo) (cause : Cause) → StoppedTries operations brick number stripe cause
      → StoppedTries later brick number stripe cause
  stopped_on brick number stripe cause tries = record {
    boot = tries.boot;
    view = tries.view;
    read = tries.read;
    each = λ k less. (let it = tries.each k less in
        (it.0, try_on operations later brick number stripe tries.boot tries.view (tries.read k) (Some it.0) stays it.1));
    in_turn = tries.in_turn;
    last = λ k at. try_on operations later brick number stripe tries.boot tries.view (tries.read k) (Some cause) stays (tries.last k at);
  }

-- and so does a report
pub report_on : (setting : Setting) (views : Views) (w next : World) → Later w next → (brick : BrickId) (report : Report) → ReportTried setting views w brick report
    → ReportTried setting views next brick report
report_on setting views w next later brick (Report.Sync number (Stopped stripe cause)) tries =
    stopped_on w.operations next.operations later.stays brick number stripe cause tries
report_on setting views w next later brick (Report.Scrub call members answer) was = ended_on setting views w next later brick call members answer was
report_on setting views w next later brick report tries = tt

-- a read begins, of the next number: it is the present try
pub now_tried : (operations later : Table) (brick : BrickId) (boot begun seq : ℕ) (job : Job) → StaysClosed operations later
    → EarlierTries operations brick boot begun job → JobTries later brick boot (begun + 1) (record job { seq = seq })
now_tried operations later brick boot begun seq job stays earlier = record {
  read = read;
  least = earlier.least;
  most = earlier.most;
  each = λ k less.
      subst (λ (n : ℕ). WasCut later brick boot job n) (sym (other k less)) (cut_on operations later stays brick boot job (earlier.read k) (earlier.each k less));
  in_turn = λ k less. ⊎_elim
      (λ (last : k + 1 ≡ job.attempt.tries - 1).
      let first : read k ≡ earlier.read k = other k less in
      let second : read (k + 1) ≡ begun + 1 = ap read last ∙ put_same earlier.read (job.attempt.tries - 1) (begun + 1) in
      let most : earlier.read k ≤ begun = earlier.before k less in
      omega (arith, first, second, most))
      (λ (differ : k + 1 ≢ job.attempt.tries - 1).
      let inside : k + 2 < job.attempt.tries = omega (arith, differ, less) in
      let first : read k ≡ earlier.read k = other k less in
      let second : read (k + 1) ≡ earlier.read (k + 1) = other (k + 1) (omega (arith, inside)) in
      let rise : earlier.read k < earlier.read (k + 1) = earlier.in_turn k inside in
      omega (arith, first, second, rise))
      (cases_eq (k + 1) (job.attempt.tries - 1));
  now = λ k at. ap read (let last : k ≡ job.attempt.tries - 1 = omega (arith, at) in last) ∙ put_same earlier.read (job.attempt.tries - 1) (begun + 1);
}
  where
    read : ℕ → ℕ
    read = put earlier.read (job.attempt.tries - 1) (begun + 1)

    other : (k : ℕ) → k + 1 < job.attempt.tries → read k ≡ earlier.read k
    other k less = put_other earlier.read (job.attempt.tries - 1) (begun + 1) k (λ same. omega (arith, same, less))

-- a stripe is read for the first time
pub first_tried : (operations : Table) (brick : BrickId) (boot begun : ℕ) (job : Job) → job.attempt.tries ≡ 1 → EarlierTries operations brick boot begun job
first_tried operations brick boot begun job one = record {
  read = λ k. 0;
  least = omega (arith, one);
  most = omega (arith, one);
  each = λ k less. absurd (omega (arith, one, less));
  in_turn = λ k less. absurd (omega (arith, one, less));
  before = λ k less. omega arith;
}

-- the present try was aborted
module _ (operations : Table) (brick : BrickId) (boot number : ℕ) (job : Job) (cause : Cause) (tries : JobTries operations brick boot number job)
    (cut : IsTry operations brick job.group (record { 0 = job.attempt.stripe }) boot job.view.number.0 number (Some (Some cause))) where
  -- so it was at its place
  last_cut : (k : ℕ) → k + 1 ≡ job.attempt.tries
      → IsTry operations brick job.group (record { 0 = job.attempt.stripe }) boot job.view.number.0 (tries.read k) (Some (Some cause))
  last_cut k at =
      subst (λ (n : ℕ). IsTry operations brick job.group (record { 0 = job.attempt.stripe }) boot job.view.number.0 n (Some (Some cause))) (sym (tries.now k at)) cut

  each_cut : (k : ℕ) → k < job.attempt.tries → WasCut operations brick boot job (tries.read k)
  each_cut k less = ⊎_elim
      (λ (last : k + 1 ≡ job.attempt.tries). (cause, last_cut k last))
      (λ (differ : k + 1 ≢ job.attempt.tries). tries.each k (omega (arith, differ, less)))
      (cases_eq (k + 1) job.attempt.tries)

  -- it is tried again
  pub again_tried : (begun : ℕ) → ((n : ℕ) (o : Operation) → operations n ≡ Some o → n ≤ begun) → job.attempt.tries < most_tries
      → EarlierTries operations brick boot begun (record job { attempt = record job.attempt { tries = job.attempt.tries + 1 } })
  again_tried begun within less = record {
    read = tries.read;
    least = omega arith;
    most = omega (arith, less);
    each = λ k inside. each_cut k (omega (arith, inside));
    in_turn = λ k inside. tries.in_turn k (omega (arith, inside));
    before = λ k inside. (let it = each_cut k (omega (arith, inside)) in within (tries.read k) it.1.operation it.1.is);
  }

  -- or the stripe is given up
  pub stop_tried : most_tries ≤ job.attempt.tries → StoppedTries operations brick job.group (record { 0 = job.attempt.stripe }) cause
  stop_tried all = record {
    boot = boot;
    view = job.view.number.0;
    read = tries.read;
    each = λ k less. each_cut k (let most : job.attempt.tries ≤ most_tries = tries.most in omega (arith, all, less));
    in_turn = λ k less. tries.in_turn k (omega (arith, all, less));
    last = λ k at. last_cut k (let most : job.attempt.tries ≤ most_tries = tries.most in omega (arith, all, at, most));
  }
