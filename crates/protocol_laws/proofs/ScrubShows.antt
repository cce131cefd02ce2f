-- What a scrub shows by the reply upon which it ends.
use Rattle.std.proofs.Common.{◌≡◌, ℕ, suc, ◌≤◌, inl, inr, ⊎_elim, true, false, List, [], ◌∷◌, ◌++◌, length, Option, Some, None, is_some, refl, sym, ap, ◌∙◌, subst, arith, not}
use Rattle.std.specs.Prelude.{slice_get}
use Rattle.std.proofs.lemmas.Bool.{and_parts, false≢true}
use Rattle.std.proofs.lemmas.List.{append-nil}
use Rattle.std.proofs.lemmas.Option.{same_Some}
use Rattle.fab_base.specs.declared.identities.BrickId.{BrickId}
use Rattle.fab_base.specs.declared.answers.Answer.{Answer}
use Rattle.fab_base.specs.declared.answers.Cause.{Cause}
use Rattle.fab_base.specs.declared.asks.Ask.{Ask}
use Rattle.fab_base.specs.declared.asks.Op.{Op}
use Rattle.fab_base.specs.declared.asks.Op.TheVariants.{ReadStripe}
use Rattle.fab_base.specs.declared.stamps.Stamp.{Stamp}
use Rattle.fab_base.specs.Stamps.{stamp_below, stamp_same}
use Rattle.fab_base.proofs.StampOrder.{stamp_same_true}
use Rattle.fab_base.specs.Layouts.{seat_in}
use Rattle.messages.specs.declared.calls.Call.{Call}
use Rattle.messages.specs.declared.packets.Message.TheVariants as Message
use Rattle.messages.specs.declared.packets.Packet.{Packet}
use Rattle.messages.specs.declared.requests.Request.{Request}
use Rattle.messages.specs.declared.replies.Reply.{Reply}
use Rattle.protocol.specs.Settings.{Setting, IsSound}
use Rattle.protocol.specs.Views.{Views, group_in}
use Rattle.protocol.specs.declared.phases.Counted.{Counted}
use Rattle.protocol.specs.declared.phases.Phase.{Phase}
use Rattle.protocol.specs.declared.phases.Phase.TheVariants.{Looks, LooksBack, Stores}
use Rattle.protocol.specs.declared.tellings.ScrubAnswer.{ScrubAnswer}
use Rattle.protocol.specs.Jobs.{abort_cause}
use Rattle.protocol.specs.Scrubs.{Scrub, scrub_answer, is_look}
use Rattle.protocol.specs.Coordinators.{Coordinator, Ends, with_reply, once_full, asked_group, looks_back, needed, needed_of, tells, answers_phase}
use Rattle.protocol.specs.Nodes.{members_alone}
use Rattle.protocol.specs.Worlds.{World, Operation, number_of, with_counted}
use Rattle.protocol.proofs.CountsAt.{CountsAt}
use Rattle.protocol.proofs.Needed.{needs_quorum}
use Rattle.protocol.proofs.Tables.{get_added}
use Rattle.protocol_laws.specs.Laws.{WasSent}
use Rattle.protocol_laws.specs.ScrubEnds.{IsScrub, EachTold, CleanTold, RepairedTold, ScrubTold, CountedAlone, EndsIn}
use Rattle.protocol_laws.proofs.Books.{Books, CallBooks, OwnBooks, IsCall, InRound}
use Rattle.protocol_laws.proofs.BooksKept.{scrub_seq}
use Rattle.protocol_laws.proofs.BooksEvents.{brick_of}
use Rattle.protocol_laws.proofs.Counting.{each_then, each_both, each_more, once_more}
use Rattle.protocol_laws.proofs.Decisions.{each_allows, write_answered, stored_by}
use Rattle.protocol_laws.proofs.Outcomes.{SameOperation}
use Rattle.protocol_laws.proofs.Said.{Stamping, Said, CallSays, CountedSays, EachCounted, AreOnce, FitsPhase, ReplySays, RequestSays, OldReadSays}
use Rattle.protocol_laws.proofs.ScrubEnds.{SeesOne, StoresOne, whole_end, each_tells, all_replied, each_at, SeatedIn}
use Rattle.protocol_laws.proofs.Stampings.{begun_once}
use Rattle.protocol_laws.proofs.Tallies.{Tallied, CallTallied, MessagesShow, AskedBack, CountsAlone, IsAmong}
use Rattle.protocol_laws.proofs.TalliesCounts.{alone_now, replies_now, replies_later, lagged_on}
use Rattle.protocol_laws.proofs.TalliesEvents.{messages_show}

-- what the scrub at this coordinator shows as it ends so: its operation is open
pub record ScrubLast (setting : Setting) (views : Views) (w : World) (n : ℕ) (me : BrickId) (c : Coordinator) (answer : ScrubAnswer) : Type 0 where
  pub operation : Operation
  pub is : w.operations n ≡ Some operation
  pub was : IsScrub me c.call operation
  pub alone : CountedAlone w n operation (members_alone c.only)
  pub told : ScrubTold setting views (w.replies n) w.held c.call operation.view (members_alone c.only) answer

-- what is known of each reply by its place
each_by : (P : Counted → Type 0) (counted : List Counted) → ((k : ℕ) (x : Counted) → slice_get counted k ≡ Some x → P x) → EachCounted P counted
each_by P [] all = tt
each_by P (x ∷ counted) all = (all 0 x refl, each_by P counted (λ k y at. all (suc k) y at))

-- members that alone count
only_of : (only : Option (List BrickId)) → is_some only ≡ true → only ≡ Some (members_alone only)
only_of None some = absurd (false≢true some)
only_of (Some members) some = refl

module _ (setting : Setting) (views : Views) (sound : IsSound setting) (w : World) (stamps : Stamping) (me : BrickId) (c : Coordinator) (from : BrickId) (call : Call)
    (reply : Reply) (seat : ℕ) (books : Books setting w) (said : Said setting views w stamps) (tallied : Tallied w) (is : IsCall w me.0 c.call.seq c)
    (sent : WasSent w (record { from = from; to = me; message = Message.Reply c.call reply })) (facts : CountsAt setting.layout.block c from.0 call reply seat)
    (s : Scrub) (has : (w.nodes me.0).scrub ≡ Some s) (seq : s.seq ≡ c.call.seq) where
  abbrev n : ℕ
  n = number_of w me.0 c.call.seq

  abbrev one : Counted
  one = record { seat = seat; brick = from; reply = reply }

  abbrev replies : ℕ → ℕ → List Counted
  replies = with_counted w.replies (number_of w me.0 c.call.seq) c.call.phase (record { seat = seat; brick = from; reply = reply })

  abbrev heard : Coordinator
  heard = with_reply c seat from reply

  abbrev its : CallBooks setting w me.0 c.call.seq c
  its = books.calls me.0 c.call.seq c is

  abbrev o : Operation
  o = (books.calls me.0 c.call.seq c is).operation

  says : CallSays setting views w stamps me.0 c.call.seq c
  says = said.calls me.0 c.call.seq c is

  tally : CallTallied w.packets w.replies me.0 n (w.nodes me.0).scrub c
  tally = tallied.calls me.0 c.call.seq c is

  shows : MessagesShow w
  shows = messages_show setting views w stamps books said

  -- the members that alone count
  abbrev members : List BrickId
  members = members_alone c.only

  only : c.only ≡ Some (members_alone c.only)
  only = only_of c.only (tally.named s has seq)

  -- its operation has no marks, and reads a stripe
  own : OwnBooks w me.0 c.call.seq
  own = books.scrubs me.0 c.call.seq (scrub_seq (w.nodes me.0).scrub s c.call.seq has seq)

  unmarked : o.mark ≡ 0
  unmarked = ap (λ (z : Operation). z.mark) (same_Some o own.operation (sym its.operation_is ∙ own.operation_is)) ∙ own.mark

  reads : o.ask.op ≡ ReadStripe
  reads = ((books.operations n o its.operation_is).unmarked unmarked).op

  me_is : me ≡ o.brick
  me_is = brick_of me o.brick (sym its.brick)

  scrubs : IsScrub me c.call o
  scrubs = record {
    unmarked = unmarked;
    brick_is = sym me_is;
    own = (its.call_boot ∙ sym its.boot, sym its.seq);
    ask =
        (let group : o.ask.group ≡ c.call.group = ap (λ (a : Ask). a.group) (sym its.ask) ∙ sym its.call_group in
        let stripe : o.ask.stripe ≡ c.call.stripe = ap (λ (a : Ask). a.stripe) (sym its.ask) ∙ sym its.call_stripe in
        λ i. record { group = group i; stripe = stripe i; op = reads i });
  }

  fits : FitsPhase c.phase ReadStripe
  fits = subst (λ (op : Op). FitsPhase c.phase op) (ap (λ (a : Ask). a.op) its.ask ∙ reads) says.fits

  -- the replies that count, with this one
  new_says : CountedSays setting views w me.0 c (record { seat = seat; brick = from; reply = reply })
  new_says = record { sent = sent; answers = facts.answers; seat = facts.seat_is }

  each : EachCounted (CountedSays setting views w me.0 c) heard.counted
  each = each_more (CountedSays setting views w me.0 c) c.counted one says.counted new_says

  once : AreOnce heard.counted
  once = once_more c.counted one says.once facts.first

  -- in its present phase those count last
  now_are : (replies n c.call.phase) ≡ (replies_now setting w me 0 (w.nodes me.0).known c from reply seat books tallied shows is sent (omega arith) facts.answers facts.may).forgotten
      ++ heard.counted
  now_are = (replies_now setting w me 0 (w.nodes me.0).known c from reply seat books tallied shows is sent (omega arith) facts.answers facts.may).are

  -- whose they are
  same_heard : SameOperation heard heard
  same_heard = record { ask = refl; members = refl; prior = refl; only = refl; boot = refl; seq = refl; group = refl; stripe = refl }

  counts : CountsAlone w.packets (replies n) me.0 c.call members
  counts =
      subst (λ (packets : List Packet). CountsAlone packets (replies n) me.0 c.call members) (append-nil w.packets)
      (alone_now setting w me 0 (w.nodes me.0).known c from reply seat books tallied shows is sent (omega arith) facts.answers facts.may [] heard same_heard members only)

  abbrev counting : World
  counting = record w { replies = replies }

  alone : CountedAlone counting n o members
  alone phase k x at = ⊎_elim
      (λ (named : is_some (seat_in members x.brick.0) ≡ true). inl named)
      (λ (back : AskedBack w.packets me.0 c.call phase).
      inr (record {
        call = back.0;
        own = (back.1 ∙ scrubs.own.0, back.2 ∙ scrubs.own.1);
        phase_is = back.3;
        member = back.4.0;
        bound = back.4.1;
        asked = subst (λ (b : BrickId). IsAmong w.packets (record { from = b; to = back.4.0; message = Message.Request back.0 (Request.OldRead back.4.1) })) me_is back.4.2;
      }))
      (counts phase k x at)

  -- in a phase that does not look back nothing was asked for so
  not_back : looks_back c.phase ≡ false → AskedBack w.packets me.0 c.call c.call.phase → ⊥
  not_back ahead (old, boot', seq', phase', (to, bound, asked)) =
      let old_says : OldReadSays stamps me.0 old bound
      = said.packets asked.0 (record { from = record { 0 = me.0 }; to = to; message = Message.Request old (Request.OldRead bound) }) asked.1 in
      let begun = begun_once stamps me.0 c.call.boot c.call.seq c.call.phase (LooksBack bound) c.phase old_says.stamp c.stamp
      (subst (λ (b : ℕ). stamps me.0 b c.call.seq c.call.phase ≡ Some (record { stamp = old_says.stamp; phase = LooksBack bound })) boot'
      (subst (λ (k : ℕ). stamps me.0 old.boot k c.call.phase ≡ Some (record { stamp = old_says.stamp; phase = LooksBack bound })) seq'
      (subst (λ (p : ℕ). stamps me.0 old.boot old.seq p ≡ Some (record { stamp = old_says.stamp; phase = LooksBack bound })) phase' old_says.begun)))
      (subst (λ (b : ℕ). stamps me.0 b c.call.seq c.call.phase ≡ Some (record { stamp = c.stamp; phase = c.phase })) (sym its.call_boot) says.begun) in
      false≢true (sym ahead ∙ ap (λ (p : Phase). looks_back p) (sym begun.0))

  -- so those who count are these members, by their seats
  named : looks_back c.phase ≡ false
      → EachCounted (λ x. SeatedIn (asked_group c).members x × (is_some (seat_in members x.brick.0) ≡ true)) heard.counted
  named ahead =
      each_both (SeatedIn (asked_group c).members) (λ x. is_some (seat_in members x.brick.0) ≡ true) heard.counted
      (each_then (CountedSays setting views w me.0 c) (SeatedIn (asked_group c).members) heard.counted (λ x h. h.seat) each)
      (each_by (λ x. is_some (seat_in members x.brick.0) ≡ true) heard.counted (λ k x at.
      let place = get_added (replies_now setting w me 0 (w.nodes me.0).known c from reply seat books tallied shows is sent (omega arith) facts.answers facts.may).forgotten
      heard.counted k x at in
      ⊎_elim
      (λ (is_named : is_some (seat_in members x.brick.0) ≡ true). is_named)
      (λ (back : AskedBack w.packets me.0 c.call c.call.phase). absurd (not_back ahead back))
      (counts c.call.phase place.0 x (ap (λ (l : List Counted). slice_get l place.0) now_are ∙ place.1))))

  -- what each says where its reply says this, and what it has held then
  said_by : (k : ℕ) (x : Counted) → slice_get heard.counted k ≡ Some x → ReplySays setting views w stamps x.brick (record { 0 = me.0 }) c.call x.reply
  said_by k x at =
      let says_it : CountedSays setting views w me.0 c x = each_at (CountedSays setting views w me.0 c) heard.counted k x each at in
      said.packets says_it.sent.0 (record { from = x.brick; to = record { 0 = me.0 }; message = Message.Reply c.call x.reply }) says_it.sent.1

  -- each of the members did, where as many count as there are
  told_by_each : (version : Stamp) (Says : Reply → Type 0) → looks_back c.phase ≡ false → length members ≤ length heard.counted
      → EachCounted (λ x. Says x.reply) heard.counted
      → ((k : ℕ) (x : Counted) → slice_get heard.counted k ≡ Some x → Says x.reply → w.held x.brick.0 c.call.group.0 c.call.stripe.0 version ≡ true)
      → EachTold (replies n c.call.phase) w.held c.call members version Says
  told_by_each version Says ahead most all holds = record {
    told = λ k member at.
        (let r = all_replied (asked_group c).members members heard.counted (named ahead) once most k member at in
        let place = get_added (replies_now setting w me 0 (w.nodes me.0).known c from reply seat books tallied shows is sent (omega arith) facts.answers facts.may).forgotten
        heard.counted r.0 r.1 r.2 in (
          place.0,
          r.1,
          ap (λ (l : List Counted). slice_get l place.0) now_are ∙ place.1,
          r.3,
          each_at (λ x. Says x.reply) heard.counted r.0 r.1 all r.2,
        ));
    has = λ k member at.
        (let r = all_replied (asked_group c).members members heard.counted (named ahead) once most k member at in
        subst (λ (b : ℕ). w.held b c.call.group.0 c.call.stripe.0 version ≡ true) r.3
        (holds r.0 r.1 r.2 (each_at (λ x. Says x.reply) heard.counted r.0 r.1 all r.2)));
  }

  -- a reply that tells a version says that its member has held it
  tells_held : (brick : BrickId) (version : Stamp) (told : Reply) → tells version told ≡ true
      → ReplySays setting views w stamps brick (record { 0 = me.0 }) c.call told → w.held brick.0 c.call.group.0 c.call.stripe.0 version ≡ true
  tells_held brick version (Reply.Found order (Some found)) tells_it found_says =
      let same : found.stamp ≡ version
      = stamp_same_true found.stamp version (and_parts (stamp_same found.stamp version) (not (stamp_below version order)) tells_it).0 in
      subst (λ (t : Stamp). w.held brick.0 c.call.group.0 c.call.stripe.0 t ≡ true) same found_says.held
  tells_held brick version (Reply.Found order None) tells_it found_says = absurd (false≢true tells_it)
  tells_held brick version told tells_it found_says = absurd (false≢true tells_it)

  -- no reply counts in a later phase
  final : EndsIn (replies n) c.call.phase
  final p above = replies_later setting w me 0 (w.nodes me.0).known c from reply seat books tallied shows is sent (omega arith) facts.answers facts.may p above

  -- it was clean
  clean : needed heard ≤ length heard.counted → SeesOne heard None → CleanTold (replies n) w.held c.call members
  clean enough (looks, none, (v, told)) =
      let first : c.call.phase ≡ 1 = (subst (λ (p : Phase). InRound c p) looks its.in_round).0 in
      let all : needed heard ≡ length members
      = ap (λ (p : Phase). needed_of (asked_group heard) p heard.only) looks ∙ ap (λ (z : Option (List BrickId)). needed_of (asked_group heard) Looks z) only in
      record {
        version = v;
        each = subst (λ (p : ℕ). EachTold (replies n p) w.held c.call members v (λ told. tells v told ≡ true)) first
            (told_by_each v (λ told. tells v told ≡ true) (ap (λ (p : Phase). looks_back p) looks) (omega (arith, enough, all)) (each_tells heard.counted v told)
            (λ k x at tells_it. tells_held x.brick v x.reply tells_it (said_by k x at)));
        final = λ p above. final p (omega (arith, above, first));
      }

  -- it has repaired
  repaired : needed heard ≤ length heard.counted → StoresOne heard (Some c.stamp)
      → RepairedTold setting views (replies n) w.held c.call o.view members c.stamp s.lagging
  repaired enough (stores, stored, none, stops) =
      let all : needed heard ≡ length members
      = ap (λ (p : Phase). needed_of (asked_group heard) p heard.only) stores ∙ ap (λ (z : Option (List BrickId)). needed_of (asked_group heard) Stores z) only in
      let quorum = needs_quorum heard its.enough in
      let isnt : is_look c.phase ≡ false = ap (λ (p : Phase). is_look p) stores in
      record {
        each = told_by_each c.stamp (λ told. told ≡ Reply.Stored) (ap (λ (p : Phase). looks_back p) stores) (omega (arith, enough, all))
            (each_then _ (λ x. x.reply ≡ Reply.Stored) heard.counted
            (λ x h. write_answered setting.layout.block c.stamp x
            (subst (λ (p : Phase). answers_phase setting.layout.block c.stamp x.seat p x.reply ≡ true) stores h.0.answers) h.1)
            (each_allows setting views sound w stamps me c books said is heard.counted each once (omega (arith, quorum, enough)) none stops))
            (λ k x at reply_is.
            let told : ReplySays setting views w stamps x.brick (record { 0 = me.0 }) c.call Reply.Stored
            = subst (λ (r : Reply). ReplySays setting views w stamps x.brick (record { 0 = me.0 }) c.call r) reply_is (said_by k x at) in
            let asks : RequestSays setting views w stamps me.0 x.brick.0 c.call told.1
            = said.packets told.2.0 (record { from = record { 0 = me.0 }; to = x.brick; message = Message.Request c.call told.1 }) told.2.1 in
            subst (λ (t : Stamp). w.held x.brick.0 c.call.group.0 c.call.stripe.0 t ≡ true)
            (stored_by setting views sound w stamps me c books said is heard.counted each once (omega (arith, quorum, enough)) x.brick.0 told.1 told.0 asks told.3)
            told.4);
        group = c.group;
        group_is = ap (λ (e : ℕ). group_in setting.layout views c.call.group.0 e) its.stamp_view ∙ says.group;
        lagged = (lagged_on setting w me 0 (w.nodes me.0).known c from reply seat books tallied shows is sent (omega arith) facts.answers facts.may heard s same_heard
            (omega arith) (tally.lagged s has seq isnt)).1;
        final = final;
      }

  -- it shows it, however it ends
  pub shows_end : (fresh : Option Stamp) (answer : Answer) (seen stored : Option Stamp)
      → once_full setting.layout.block setting.code fresh (with_reply c seat from reply) ≡ Ends answer seen stored
      → ScrubLast setting views (record w { replies = replies }) n me c (scrub_answer s.lagging (abort_cause answer) stored)
  shows_end fresh answer seen stored ends = record {
    operation = o;
    is = its.operation_is;
    was = scrubs;
    alone = alone;
    told = by (abort_cause answer) refl;
  }
    where
      by : (z : Option Cause) → abort_cause answer ≡ z → ScrubTold setting views (replies n) w.held c.call o.view members (scrub_answer s.lagging z stored)
      by (Some cause) is' = tt
      by None whole =
          let how = whole_end setting.layout.block setting.code fresh heard fits answer seen stored whole ends in
          ⊎_elim
          (λ (sees : SeesOne heard stored).
          subst (λ (z : Option Stamp). ScrubTold setting views (replies n) w.held c.call o.view members (scrub_answer s.lagging None z)) (sym sees.1)
          (clean how.0 (sees.0, refl, sees.2)))
          (λ (stores : StoresOne heard stored).
          subst (λ (z : Option Stamp). ScrubTold setting views (replies n) w.held c.call o.view members (scrub_answer s.lagging None z)) (sym stores.1)
          (repaired how.0 (stores.0, refl, stores.2, stores.3)))
          how.1
