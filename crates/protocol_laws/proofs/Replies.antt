-- A coordinator takes a reply: what it then decides keeps the invariant.
use Rattle.fab_base.specs.declared.identities.StripeNo.{StripeNo}
use Rattle.fab_base.specs.declared.identities.GroupId.{GroupId}
use Rattle.protocol.specs.declared.phases.Dropper.{Dropper}
use Rattle.protocol.specs.declared.phases.Mover.{Mover}
use Rattle.protocol.specs.declared.phases.Counted.{Counted}
use Rattle.protocol_laws.proofs.OwnStamps.{call_by, own_in, m_is, ahead_group, ahead_call, asked_in, asked_m, back_call, back_is, call_in}
use Rattle.std.proofs.Common.{◌≡◌, ℕ, ◌+◌, ◌*◌, ◌<◌, ◌≤◌, max, nat_lt, ◌⊎◌, inl, inr, true, false, List, [], length, Option, Some, None, refl, sym, ap, ◌∙◌, subst, ⊎_elim, arith, Bool}
use Rattle.std.specs.Prelude.{nat_eq, ◌-◌, not}
use Rattle.std.proofs.lemmas.Bool.{cond_both, cases_Bool, false≢true, and_parts, eqb-true, ltb-true, ltb-false, not-true}
use Rattle.std.proofs.lemmas.Option.{same_Some}
use Rattle.fab_base.specs.declared.identities.BrickId.{BrickId}
use Rattle.fab_base.specs.declared.stamps.Stamp.{Stamp}
use Rattle.fab_base.specs.declared.asks.Ask.{Ask}
use Rattle.fab_base.specs.declared.asks.Op.{Op}
use Rattle.fab_base.specs.declared.asks.Op.TheVariants.{ReadBlock, WriteBlock, ReadStripe, WriteStripe}
use Rattle.fab_base.specs.Stamps.{stamp_below, first_stamp}
use Rattle.fab_base.proofs.StampOrder.{stamp_neither_below, stamp_below_irrefl, stamp_below_asym}
use Rattle.fab_base.specs.declared.answers.Answer.{Answer}
use Rattle.fab_base.specs.declared.answers.Answer.TheVariants.{Data, Done, Aborted}
use Rattle.fab_base.specs.declared.answers.Cause.{Cause}
use Rattle.messages.specs.declared.calls.Call.{Call}
use Rattle.messages.specs.declared.packets.Message.TheVariants as Message
use Rattle.messages.specs.declared.requests.Look.TheVariants.{Below}
use Rattle.messages.specs.declared.requests.Want.TheVariants.{All}
use Rattle.messages.specs.declared.replies.Reply.{Reply}
use Rattle.fab_base.specs.Layouts.{Group, seat_in}
use Rattle.quorum.specs.Quorums.{quorum_of}
use Rattle.reg_model.specs.Registers.{block_of, after_op, read_of}
use Rattle.protocol.specs.Views.{Views, group_in, view_of, floor_of}
use Rattle.protocol.specs.Settings.{Setting, Code, IsSound, are_bytes}
use Rattle.protocol.specs.declared.phases.Refuser.{Refuser}
use Rattle.protocol.specs.declared.phases.FullMember.{FullMember}
use Rattle.protocol.specs.declared.phases.Phase.{Phase}
use Rattle.protocol.specs.declared.phases.Phase.TheVariants.{Looks, LooksAt, Orders, OrdersAt, Recovers, Descends, Modifies, Bases, Stores, LooksBack}
use Rattle.protocol.specs.Coordinators.{Coordinator, Next, Waits, Sends, Makes, Ends, answers_phase, has_seat, counts_at, fast_version, pieces_of, pieces_at, greatest_found, greatest_refuser, lowest_full, in_phase, restoring, reordering, most_rounds, aborted_by, unless_told_full, unless_told_moved, lowest_mover, unless_refused, ordered_again, once_ordered, answered_fast, read_back, answer_with, decided, with_reply, once_full, counted_at, on_reply, request_of, fast_version_at, common_version, common_version_at, bytes_at, block_written, some_behind, answered_fast_at, modifying, modified_if, once_modified, rebuilt, forgetting, asked_group, looks_back, old_bound, lower_phase, may_look_back, lowest_dropper, unless_told_gone, needed}
use Rattle.protocol.specs.Nodes.{Node, has_block, has_length, given_content, with_known, with_call, carried_out}
use Rattle.protocol.specs.Worlds.{World, Operation, number_of, world_stepped, content_on, is_answer}
use Rattle.protocol.specs.Happenings.{writes}
use Rattle.fab_base.specs.Layouts.{brick_at}
use Rattle.protocol_laws.specs.Laws.{WasSent, AtQuorum, IsGuarded, IsBlocked}
use Rattle.protocol_laws.proofs.Books.{Books, OperationBooks, CallBooks, IsUnmade, IsMade, MadeInPhase, IsCall}
use Rattle.protocol_laws.proofs.Said.{Stamping, Said, IsSaid, AreBlocked, IsMadeOrFirst, IsStampOf, EachCounted, AreOnce, FitsPhase, FloorsAtMost, HasVersion, CountedSays, CallSays, DescendsFrom, MadeOn, look_of, want_of, base_in, BackSays}
use Rattle.protocol.proofs.Tables.{put_each, put_same}
use Rattle.protocol.proofs.CountsAt.{CountsAt, counts_facts}
use Rattle.protocol_laws.proofs.Counting.{each_then, each_more, once_more, fast_at, common_at, common_each, common_greatest, NoneStops}
use Rattle.protocol.proofs.Blocks.{formed_after, IsContent}
use Rattle.protocol_laws.proofs.Stampings.{ComesFrom, ages_within, stamp_stays, stamps_same, later_unknown, not_first, above_first}
use Rattle.protocol_laws.proofs.Growth.{Grows, stays_call}
use Rattle.protocol_laws.proofs.Steps.{KeepsStamps, keeps_same, quiet, quiet_grows, said_quiet, stamps_stay_by}
use Rattle.protocol_laws.proofs.Decisions.{PromisesAt, ReadsAt, all_ordered, all_read, promises_guard, promises_floors, stored_stands, fast_guards, fast_floors, fast_stands, fast_made, fast_decodes, content_formed, modified_stands, fast_block, common_block, common_stands, fast_in, back_unrefused}
use Rattle.protocol_laws.proofs.Recoveries.{version_lower, version_above, version_made, between_blocked, too_few_blocked, pieces_decode, base_enough, base_decodes, version_view, nothing_blocks}
use Rattle.protocol_laws.proofs.Stores.{MakesOn, SendsVersion, made_content, said_made}
use Rattle.protocol_laws.proofs.Sends.{IsCovered, MayBegin, said_sent}
use Rattle.protocol_laws.proofs.Ends.{WillShow, EndsWell}
use Rattle.protocol.proofs.Needed.{needs_quorum}

-- a brick that only learns a time keeps the invariant
pub said_known : (setting : Setting) (views : Views) (w : World) (stamps : Stamping) (me : BrickId) (known : ℕ) → Books setting w → Said setting views w stamps
    → (w.nodes me.0).known ≤ known → Said setting views (quiet w me (with_known (w.nodes me.0) known) []) stamps
said_known setting views w stamps me known books said more =
    said_quiet setting views w stamps stamps me (with_known (w.nodes me.0) known) [] books said (stamps_same stamps) (record {
      keeps = keeps_same (w.nodes me.0) (with_known (w.nodes me.0) known) (refl, refl, refl);
      boot = refl;
      stamps_say = stamps_stay_by setting views w (quiet w me (with_known (w.nodes me.0) known) []) stamps me.0 (with_known (w.nodes me.0) known) said refl
          (ages_within (w.nodes me.0) (with_known (w.nodes me.0) known) refl more (omega arith));
      stamps_other = λ i b k other p. refl;
      tops = λ g e s. inl refl;
      logs = λ g e s k version is. inl (k, is);
      lowest = λ g e s x log within is. inl (log, is);
      calls = λ k c is. inl (is, λ p. refl);
      jobs = λ job is. inl is;
      packets = λ k packet is. cc;
    })

-- what a quorum of replies decides that a member may stop, by having moved on, by having dropped the view before, or by a full store
abbrev unless_stopped : Coordinator → Next → Next
unless_stopped c next = unless_told_moved (lowest_mover c.counted) (unless_told_gone (lowest_dropper c.counted) (unless_told_full (lowest_full c.counted) next))

-- what a quorum of replies decides, by phase
decided_looks : (block : ℕ) (code : Code) (fresh : Option Stamp) (c : Coordinator) → c.phase ≡ Looks
    → decided block code fresh c ≡ unless_stopped c (answered_fast code c (fast_version c.counted))
unfolding decided
decided_looks block code fresh c is = rw is

decided_orders : (block : ℕ) (code : Code) (fresh : Option Stamp) (c : Coordinator) → c.phase ≡ Orders
    → decided block code fresh c ≡ unless_stopped c
    (once_ordered fresh c (greatest_refuser c.counted) (Makes (in_phase c Stores)))
unfolding decided
decided_orders block code fresh c is = rw is

decided_looks_at : (block : ℕ) (code : Code) (fresh : Option Stamp) (j : ℕ) (c : Coordinator) → c.phase ≡ LooksAt j
    → decided block code fresh c ≡ unless_stopped c (answered_fast_at c j (fast_version_at j c.counted))
unfolding decided
decided_looks_at block code fresh j c is = rw is

decided_orders_at : (block : ℕ) (code : Code) (fresh : Option Stamp) (j : ℕ) (c : Coordinator) → c.phase ≡ OrdersAt j
    → decided block code fresh c ≡ unless_stopped c
    (once_ordered fresh c (greatest_refuser c.counted) (modified_if code c j (common_version_at j c.counted)))
unfolding decided
decided_orders_at block code fresh j c is = rw is

decided_recovers : (block : ℕ) (code : Code) (fresh : Option Stamp) (c : Coordinator) → c.phase ≡ Recovers
    → decided block code fresh c ≡ unless_stopped c
    (once_ordered fresh c (greatest_refuser c.counted) (read_back block code c (greatest_found c.counted)))
unfolding decided
decided_recovers block code fresh c is = rw is

decided_descends : (block : ℕ) (code : Code) (fresh : Option Stamp) (bound : Stamp) (c : Coordinator) → c.phase ≡ Descends bound
    → decided block code fresh c ≡ unless_stopped c
    (unless_refused (greatest_refuser c.counted) (read_back block code c (greatest_found c.counted)))
unfolding decided
decided_descends block code fresh bound c is = rw is

decided_back : (block : ℕ) (code : Code) (fresh bound : Option Stamp) (c : Coordinator) → c.phase ≡ LooksBack bound
    → decided block code fresh c ≡ unless_stopped c (read_back block code c (greatest_found c.counted))
unfolding decided
decided_back block code fresh bound c is = rw is

decided_modifies : (block : ℕ) (code : Code) (fresh : Option Stamp) (base : Stamp) (j : ℕ) (c : Coordinator) → c.phase ≡ Modifies base j
    → decided block code fresh c ≡ unless_stopped c (unless_refused (greatest_refuser c.counted) (once_modified c base))
unfolding decided
decided_modifies block code fresh base j c is = rw is

decided_bases : (block : ℕ) (code : Code) (fresh : Option Stamp) (base : Stamp) (c : Coordinator) → c.phase ≡ Bases base
    → decided block code fresh c ≡ unless_stopped c (unless_refused (greatest_refuser c.counted) (rebuilt block code c base))
unfolding decided
decided_bases block code fresh base c is = rw is

decided_stores : (block : ℕ) (code : Code) (fresh : Option Stamp) (c : Coordinator) → c.phase ≡ Stores
    → decided block code fresh c ≡ unless_stopped c
    (unless_refused (greatest_refuser c.counted) (Ends (answer_with (read_of block c.ask.op c.content)) None (Some c.stamp)))
unfolding decided
decided_stores block code fresh c is = rw is

module _ (setting : Setting) (views : Views) (sound : IsSound setting) (w : World) (stamps : Stamping) (me : BrickId) (c : Coordinator) (known : ℕ)
    (books : Books setting w) (said : Said setting views w stamps) (is : IsCall w me.0 c.call.seq c)
    (more_known : (w.nodes me.0).known ≤ known) (fresh : Option Stamp)
    (fresh_is : (t : Stamp) → fresh ≡ Some t
    → IsStampOf (with_known (w.nodes me.0) t.time) me.0 (w.nodes me.0).boot t × ((w.nodes me.0).known < t.time))
    (fresh_view : (t : Stamp) → fresh ≡ Some t → t.view ≡ c.stamp.view) where
  -- its group, and that as its members keep it that are asked
  abbrev group : Group
  group = c.group

  abbrev asked : Group
  asked = asked_group c

  abbrev its : CallBooks setting w me.0 c.call.seq c
  its = books.calls me.0 c.call.seq c is

  abbrev o : Operation
  o = (books.calls me.0 c.call.seq c is).operation

  says : CallSays setting views w stamps me.0 c.call.seq c
  says = said.calls me.0 c.call.seq c is

  -- what must be so of what the coordinator decides: that the operation ends well, or that the invariant holds in the world after
  abbrev pub Goes : Next → Type 0
  Goes (Ends answer seen stored) = EndsWell setting views w o answer seen stored
  Goes decision = IsSaid setting views (world_stepped setting w me (carried_out setting me (w.nodes me.0) known c decision))

  -- the coordinator waits
  said_waits : (d : Coordinator) → CallSays setting views w stamps me.0 c.call.seq d → Goes (Waits d)
  said_waits d d_says =
      let node : Node = with_call (w.nodes me.0) known (w.nodes me.0).busy c.call.seq (Some d) in
      let grows : Grows w (quiet w me node []) stamps stamps
      = quiet_grows w stamps stamps me node [] (stamps_same stamps) said.logged (keeps_same (w.nodes me.0) node (refl, refl, refl)) in (
        stamps,
        said_quiet setting views w stamps stamps me node [] books said (stamps_same stamps) (record {
          keeps = keeps_same (w.nodes me.0) node (refl, refl, refl);
          boot = refl;
          stamps_say = stamps_stay_by setting views w (quiet w me node []) stamps me.0 node said refl
              (ages_within (w.nodes me.0) node refl more_known (omega arith));
          stamps_other = λ i b k other p. refl;
          tops = λ g e s. inl refl;
          logs = λ g e s k version at. inl (k, at);
          lowest = λ g e s x log within at. inl (log, at);
          calls = λ k e.
              put_each (λ j x. x ≡ Some e
              → (((w.nodes me.0).calls j ≡ Some e) × KeepsStamps stamps stamps me.0 (w.nodes me.0).boot j)
              ⊎ CallSays setting views (quiet w me node []) stamps me.0 j e)
              (w.nodes me.0).calls c.call.seq (Some d)
              (λ at. let same : d ≡ e = cc in
              inr (subst (λ (z : Coordinator). CallSays setting views (quiet w me node []) stamps me.0 c.call.seq z) same
              (stays_call setting views w (quiet w me node []) stamps stamps books grows me.0 c.call.seq d
              (ap (λ (x : Node). x.boot) (put_same w.nodes me.0 node)) (λ p. refl) d_says)))
              (λ j other at. inl (at, λ p. refl)) k;
          jobs = λ job is. inl is;
          packets = λ k packet at. cc;
        }),
      )

  -- the operation is aborted
  said_aborts : (cause : Cause) → Goes (Ends (Aborted cause) None None)
  said_aborts cause = record {
    keeps_version = λ v has. has;
    has_version = λ v has. (said.operations (number_of w me.0 c.call.seq) o its.operation_is).version v has;
    stands = λ v has how. (said.operations (number_of w me.0 c.call.seq) o its.operation_is).stands v has (⊎_elim
        (λ (unmade : o.made ≡ false). inl unmade)
        (λ (bad : false ≡ true). absurd (false≢true bad))
        how);
    answered_made = λ bad writing. absurd (false≢true bad);
    shows = tt;
    collects = λ t bad. let never : None ≡ Some t = bad in cc;
  }

  -- a group of its view that is the operation's is the one at hand
  same_group : (v : Stamp) → view_of v ≡ c.stamp.view.0 → (other : Group) → group_in setting.layout views o.ask.group.0 (view_of v) ≡ Some other
      → group ≡ other
  same_group v = call_by setting views w stamps books said me.0 c.call.seq c is o.ask.group.0 v (ap (λ a. a.group.0) (sym its.ask))

  -- and one of the view of its call is the one that is asked
  same_asked : (v : Stamp) → view_of v ≡ c.call.view.0 → (other : Group) → group_in setting.layout views o.ask.group.0 (view_of v) ≡ Some other
      → asked ≡ other
  same_asked v of other other_is =
      same_Some asked other (sym (asked_in setting views w stamps books said me.0 c.call.seq c is o.ask.group.0 v (ap (λ a. a.group.0) (sym its.ask)) of) ∙ other_is)

  -- what is asked is asked of the operation's members, where it does not look back
  ahead_of : looks_back c.phase ≡ false → (P : Group → Type 0) → P asked → P group
  ahead_of ahead P h = subst P (ahead_group c ahead) h

  ahead_view : looks_back c.phase ≡ false → c.call.view.0 ≡ c.stamp.view.0
  ahead_view ahead = ahead_call setting views w stamps books said me.0 c.call.seq c is ahead

  -- of as many blocks
  of_m : (P : ℕ → Type 0) → P asked.m → P group.m
  of_m P h = subst P (asked_m c) h

  own_view : view_of c.stamp ≡ c.stamp.view.0
  own_view = own_in setting views w stamps books said me.0 c.call.seq c is

  -- the coordinator in its phase, where these replies count
  counting : (counted : List Counted) → EachCounted (CountedSays setting views w me.0 c) counted → AreOnce counted
      → CallSays setting views w stamps me.0 c.call.seq (record c { counted = counted })
  unfolding request_of
  counting counted each once = record {
    group = says.group;
    prior = says.prior;
    begun = says.begun;
    last = says.last;
    asked = says.asked;
    fits = says.fits;
    unbased = says.unbased;
    given = says.given;
    above = says.above;
    from = says.from;
    back = λ bound looks.
        (let back = says.back bound looks in
        record {
          view = back.view;
          bounded = back.bounded;
          operation = back.operation;
          called = back.called;
          guarded = back.guarded;
          floors = back.floors;
        });
    covered = says.covered;
    stores = says.stores;
    based = λ base has.
        let on : MadeOn setting views w c base = says.based base has in
        record { base_is = on.base_is; of = on.of; below = on.below; base_made = on.base_made; stands = on.stands; made = on.made; content = on.content };
    counted = each_then (CountedSays setting views w me.0 c) (CountedSays setting views w me.0 (record c { counted = counted })) counted
        (λ x h. record { sent = h.sent; answers = h.answers; seat = h.seat }) each;
    once = once;
  }

  module _ (from : BrickId) (reply : Reply) (seat : ℕ) (sent : WasSent w (record { from = from; to = me; message = Message.Reply c.call reply }))
      (answers : answers_phase setting.layout.block c.stamp seat c.phase reply ≡ true) (seat_is : seat_in asked.members from.0 ≡ Some seat)
      (first : has_seat seat c.counted ≡ false) where
    -- the coordinator with the reply
    abbrev d : Coordinator
    d = with_reply c seat from reply

    new_says : CountedSays setting views w me.0 c (record { seat = seat; brick = from; reply = reply })
    new_says = record {
      sent = sent;
      answers = answers;
      seat = seat_is;
    }

    each : EachCounted (CountedSays setting views w me.0 c) d.counted
    each = each_more (CountedSays setting views w me.0 c) c.counted (record { seat = seat; brick = from; reply = reply }) says.counted new_says

    once : AreOnce d.counted
    once = once_more c.counted (record { seat = seat; brick = from; reply = reply }) says.once first

    -- the coordinator goes on with the reply
    more_says : CallSays setting views w stamps me.0 c.call.seq d
    more_says = counting d.counted each once

    -- the operation's group, by the stripe that is asked for
    of_ask : (P : Ask → Type 0) → P o.ask → P c.ask
    of_ask P h = subst P (sym its.ask) h

    module _ (many : quorum_of asked ≤ length d.counted) where
      -- what is asked is the operation's
      its_op : o.ask.op ≡ c.ask.op
      its_op = ap (λ a. a.op) (sym its.ask)

      -- a read that sees one version is answered what it reads of that
      said_answers : looks_back c.phase ≡ false → (v : Stamp) (bytes : List ℕ) → fast_version d.counted ≡ Some v → IsUnmade o → writes o.ask.op ≡ false
          → read_of setting.layout.block o.ask.op (w.contents o.ask.group.0 o.ask.stripe.0 v) ≡ Some bytes
          → Goes (Ends (Data bytes) (Some v) None)
      said_answers ahead v bytes fast unmade reads gives =
          let of : view_of v ≡ c.call.view.0 = fast_in setting views sound w stamps me c books said is d.counted each once many v fast in
          let has : HasVersion setting views w o v = record {
            made = fast_made setting views sound w stamps me c books said is d.counted each once many v fast;
            of = of ∙ ahead_view ahead ∙ sym its.stamp_view;
            reader = λ isnt. reads;
            guarded = λ other other_is.
                let same : asked ≡ other = same_asked v of other other_is in
                subst (λ (z : Group). IsGuarded w o.ask.group.0 o.ask.stripe.0 z v) same
                (fast_guards setting views sound w stamps me c books said is d.counted each once many v fast);
            floors = λ other other_is.
                let same : asked ≡ other = same_asked v of other other_is in
                subst (λ (z : Group). FloorsAtMost o z v) same
                (fast_floors setting views sound w stamps me c books said is d.counted each once many v fast);
          } in
          record {
            keeps_version = λ u old. let e : Some u ≡ None = sym old ∙ unmade.0 in cc;
            has_version = λ u now. let same : v ≡ u = cc in subst (λ (t : Stamp). HasVersion setting views w o t) same has;
            stands = λ u now how other other_is.
                let same : v ≡ u = cc in
                let group_same : asked ≡ other = same_asked u (ap view_of (sym same) ∙ of) other other_is in
                subst (λ (z : Group). AtQuorum z (λ seat. w.held (brick_at z seat) o.ask.group.0 o.ask.stripe.0 u)) group_same
                (subst (λ (t : Stamp). AtQuorum asked (λ seat. w.held (brick_at asked seat) o.ask.group.0 o.ask.stripe.0 t)) same
                (fast_stands setting views sound w stamps me c books said is d.counted each once many v fast));
            answered_made = λ answered writing. absurd (false≢true (sym reads ∙ writing));
            shows = (v, refl, gives);
            collects = λ t bad. let never : None ≡ Some t = bad in cc;
          }

      -- the coordinator begins its next phase with its own stamp
      own_of : IsStampOf (with_known (w.nodes me.0) (max known c.stamp.time)) me.0 (w.nodes me.0).boot c.stamp
      own_of =
          stamp_stays (w.nodes me.0) (with_known (w.nodes me.0) (max known c.stamp.time)) me.0 (w.nodes me.0).boot c.stamp
          (ages_within (w.nodes me.0) (with_known (w.nodes me.0) (max known c.stamp.time)) refl (omega arith) (omega arith))
          (said.stamps_say.are me.0 (w.nodes me.0).boot c.call.seq c.call.phase c.stamp (c.phase, says.begun))

      own_from : ComesFrom stamps me.0 (w.nodes me.0).boot c.call.seq c.stamp
      own_from = inl (c.call.phase, (c.phase, says.begun))

      -- a phase of its own stamp begins
      begins : (base : Option Stamp) (content : List ℕ) (phase : Phase) → FitsPhase phase c.ask.op
          → MayBegin setting views w c o c.stamp base content phase → DescendsFrom phase c.ask.op c.stamp
          → Goes (Sends (record (in_phase d phase) { base = base; content = content }))
      begins base content phase fits asks down =
          said_sent setting views sound w stamps me c known books said is more_known c.stamp c.round base content phase own_of own_from refl fits asks down

      -- a phase that does not look below a bound
      level : (phase : Phase) (op : Op) (t : Stamp) → ((bound : Stamp) → phase ≡ Descends bound → ⊥) → DescendsFrom phase op t
      level phase op t never = record {
        most = λ bound is. absurd (never bound is);
        lower = λ bound is reads. absurd (never bound is);
      }

      -- a read that saw no version told by all recovers
      recovers_next : writes c.ask.op ≡ false → Goes (Sends (in_phase d Recovers))
      recovers_next reads = begins c.base c.content Recovers reads tt (level Recovers c.ask.op c.stamp (λ bound bad. cc))

      looks_on : c.phase ≡ Looks → (z : Option Stamp) → fast_version d.counted ≡ z → Goes (answered_fast setting.code d z)
      looks_on looks None fast =
          recovers_next (ap writes (subst (λ (p : Phase). FitsPhase p c.ask.op) looks says.fits))
      looks_on looks (Some v) fast =
          let reads : o.ask.op ≡ ReadStripe = its_op ∙ subst (λ (p : Phase). FitsPhase p c.ask.op) looks says.fits in
          said_answers (ap looks_back looks) v (setting.code.decode group.m (pieces_of d.counted)) fast (subst (λ (p : Phase). MadeInPhase c o p) looks its.made) (ap writes reads)
          (ap (λ (op : Op). read_of setting.layout.block op (w.contents o.ask.group.0 o.ask.stripe.0 v)) reads
          ∙ ap (λ (l : List ℕ). Some l)
          (sym (of_m (λ m. setting.code.decode m (pieces_of d.counted) ≡ w.contents o.ask.group.0 o.ask.stripe.0 v)
          (fast_decodes setting views sound w stamps me c books said is d.counted each once many v fast (ap want_of looks)))))

      -- the data block of an operation is one of m
      block_below : (j : ℕ) → has_block group.m o.ask.op ≡ true → (o.ask.op ≡ ReadBlock j) ⊎ ((bytes : List ℕ) × (o.ask.op ≡ WriteBlock j bytes)) → j < group.m
      block_below j has (inl reads) = ltb-true j group.m (ap (has_block group.m) (sym reads) ∙ has)
      block_below j has (inr writing) = ltb-true j group.m (ap (has_block group.m) (sym writing.1) ∙ has)

      asked_below : (j : ℕ) → j < group.m → j < asked.m
      asked_below j below = subst (λ (m : ℕ). j < m) (sym (asked_m c)) below

      -- what is asked fits the group
      o_books : OperationBooks setting w (number_of w me.0 c.call.seq) o
      o_books = books.operations (number_of w me.0 c.call.seq) o its.operation_is

      o_group : o_books.group.m ≡ group.m
      o_group = m_is setting views w stamps books said me.0 c.call.seq c is o.ask.group.0 o_books.group (ap (λ a. a.group.0) (sym its.ask)) o_books.group_is

      has_its_block : has_block group.m o.ask.op ≡ true
      has_its_block = subst (λ (m : ℕ). has_block m o.ask.op ≡ true) o_group o_books.block_fits

      has_its_length : has_length group.m setting.layout.block o.ask.op ≡ true
      has_its_length = subst (λ (m : ℕ). has_length m setting.layout.block o.ask.op ≡ true) o_group o_books.length_fits

      looks_at_on : (j : ℕ) → c.phase ≡ LooksAt j → (z : Option Stamp) → fast_version_at j d.counted ≡ z
          → Goes (answered_fast_at d j z)
      looks_at_on j looks None fast =
          recovers_next (ap writes (subst (λ (p : Phase). FitsPhase p c.ask.op) looks says.fits))
      looks_at_on j looks (Some v) fast_at_j =
          let reads : o.ask.op ≡ ReadBlock j = its_op ∙ subst (λ (p : Phase). FitsPhase p c.ask.op) looks says.fits in
          let fast = fast_at j d.counted v fast_at_j in
          said_answers (ap looks_back looks) v (bytes_at j d.counted) fast.1 (subst (λ (p : Phase). MadeInPhase c o p) looks its.made) (ap writes reads)
          (ap (λ (op : Op). read_of setting.layout.block op (w.contents o.ask.group.0 o.ask.stripe.0 v)) reads
          ∙ ap (λ (l : List ℕ). Some l)
          (sym (fast_block setting views sound w stamps me c books said is d.counted each once many v j (asked_below j (block_below j has_its_block (inl reads))) fast.1 fast.0
          (ap want_of looks))))

      -- an order that was refused is tried again, or aborts
      again : (phase : Phase) → c.phase ≡ phase → ((t : Stamp) → MayBegin setting views w c o t c.base c.content phase)
          → ((bound : Stamp) → phase ≡ Descends bound → ⊥) → (r : Refuser) (z : Option Stamp) → fresh ≡ z
          → Goes (ordered_again z d r)
      again phase same asks never r None none = said_aborts (Cause.Later r.brick r.stamp)
      again phase same asks never r (Some t) new =
          let own = fresh_is t new in
          cond_both (nat_lt c.round most_rounds) (Sends (reordering d t)) (aborted_by r) (λ (z : Next). Goes z)
          (λ few.
          said_sent setting views sound w stamps me c known books said is more_known t (c.round + 1) c.base c.content c.phase
          (record {
            view = own.0.view;
            boot = own.0.boot;
            booted = own.0.booted;
            brick = own.0.brick;
            positive = own.0.positive;
            bounded = λ now. omega arith;
          })
          (inr (later_unknown w stamps said.stamps_say (with_known (w.nodes me.0) t.time) me.0 t own.0 own.1, own.0.positive))
          (fresh_view t new) says.fits (subst (λ (p : Phase). MayBegin setting views w c o t c.base c.content p) (sym same) (asks t))
          (level c.phase c.ask.op t (λ bound is. never bound (sym same ∙ is))))
          (λ all. said_aborts (Cause.Later r.brick r.stamp))

      orders_on : c.phase ≡ Orders → NoneStops d.counted → (z : Option Refuser) → greatest_refuser d.counted ≡ z
          → Goes (once_ordered fresh d z (Makes (in_phase d Stores)))
      orders_on orders roomy None none =
          let all = all_ordered setting views sound w stamps me c books said is d.counted each once many orders none roomy in
          let unmade : IsUnmade o = subst (λ (p : Phase). MadeInPhase c o p) orders its.made in
          let writing : (bytes : List ℕ) × (c.ask.op ≡ WriteStripe bytes) = subst (λ (p : Phase). FitsPhase p c.ask.op) orders says.fits in
          let content : List ℕ = made_content setting w c c.base in
          let given : made_content setting w c c.base ≡ writing.0
          = ap (λ (z : Option Stamp). content_on setting.layout.block (w.contents c.ask.group.0 c.ask.stripe.0) c.ask.op z) (says.unbased orders)
          ∙ ap (λ (op : Op). content_on setting.layout.block (w.contents c.ask.group.0 c.ask.stripe.0) op None) writing.1 in
          let formed : IsContent group.m setting.layout.block writing.0
          = whole_formed writing.0
          (ap (λ (op : Op). has_length group.m setting.layout.block op) (sym (its_op ∙ writing.1)) ∙ has_its_length) in
          said_made setting views sound w stamps me c known books said is more_known c.base Stores c.content (unmade.0, unmade.1)
          (of_ask (λ a. IsGuarded w a.group.0 a.stripe.0 group c.stamp)
          (ahead_of (ap looks_back orders) (λ z. IsGuarded w o.ask.group.0 o.ask.stripe.0 z c.stamp)
          (promises_guard setting views sound w stamps me c books said is d.counted each once many all)))
          (ahead_of (ap looks_back orders) (λ z. FloorsAtMost o z c.stamp)
          (promises_floors setting views sound w stamps me c books said is d.counted each once many all))
          (inl (says.unbased orders, writing))
          (subst (λ (l : List ℕ). IsContent group.m setting.layout.block l) (sym given) formed)
          (inl (refl, says.given orders ∙ ap given_content writing.1 ∙ sym given))
        where
          whole_formed : (bytes : List ℕ) → has_length group.m setting.layout.block (WriteStripe bytes) ≡ true → IsContent group.m setting.layout.block bytes
          whole_formed bytes long =
              let parts = and_parts (are_bytes bytes) (nat_eq (length bytes) (group.m * setting.layout.block)) long in
              (eqb-true (length bytes) (group.m * setting.layout.block) parts.1, parts.0)
      orders_on orders roomy (Some r) refused =
          again Orders orders (λ t. (says.unbased orders, says.given orders)) (λ bound bad. cc) r fresh refl

      -- a phase that looks below a bound, which no reply refused
      module _ (bound : Stamp) (looks : look_of c.phase c.stamp ≡ Some (Below bound)) (none : greatest_refuser d.counted ≡ None)
          (roomy : NoneStops d.counted) (not_whole : (bytes : List ℕ) → c.ask.op ≡ WriteStripe bytes → ⊥) (unmade : IsUnmade o) where
        all : EachCounted (ReadsAt setting views sound w stamps me c books said is d.counted each once many (Below bound)) d.counted
        all = all_read setting views sound w stamps me c books said is d.counted each once many (Below bound) looks none roomy

        promised : looks_back c.phase ≡ false → EachCounted (PromisesAt setting views sound w stamps me c books said is d.counted each once many) d.counted
        promised ahead =
            each_then (ReadsAt setting views sound w stamps me c books said is d.counted each once many (Below bound))
            (PromisesAt setting views sound w stamps me c books said is d.counted each once many) d.counted (λ x h. h.promises ahead) all

        -- what looks back was promised before
        back_says : looks_back c.phase ≡ true → (z : Option Stamp) × BackSays setting views w me.0 c z
        back_says back = let found = back_is c.phase back in (found.0, says.back found.0 found.1)

        -- its group is that of its stamp's view
        call_group_in : group_in setting.layout views c.call.group.0 (view_of c.stamp) ≡ Some group
        call_group_in =
            call_in setting views w stamps books said me.0 c.call.seq c is c.call.group.0 c.stamp (ap (λ g. g.0) its.call_group) own_view

        -- so a quorum of its view's members has promised its stamp
        own_guarded : IsGuarded w c.ask.group.0 c.ask.stripe.0 group c.stamp
        own_guarded = by (looks_back c.phase) refl
          where
            by : (b : Bool) → looks_back c.phase ≡ b → IsGuarded w c.ask.group.0 c.ask.stripe.0 group c.stamp
            by false ahead =
                of_ask (λ a. IsGuarded w a.group.0 a.stripe.0 group c.stamp)
                (ahead_of ahead (λ z. IsGuarded w o.ask.group.0 o.ask.stripe.0 z c.stamp)
                (promises_guard setting views sound w stamps me c books said is d.counted each once many (promised ahead)))
            by true back =
                subst (λ (g : GroupId). IsGuarded w g.0 c.ask.stripe.0 group c.stamp) its.call_group
                (subst (λ (s : StripeNo). IsGuarded w c.call.group.0 s.0 group c.stamp) its.call_stripe
                ((back_says back).1.guarded group call_group_in))

        -- which is at or above how far they had come
        own_floors : FloorsAtMost o group c.stamp
        own_floors = by (looks_back c.phase) refl
          where
            by : (b : Bool) → looks_back c.phase ≡ b → FloorsAtMost o group c.stamp
            by false ahead =
                ahead_of ahead (λ z. FloorsAtMost o z c.stamp)
                (promises_floors setting views sound w stamps me c books said is d.counted each once many (promised ahead))
            by true back =
                let told = (back_says back).1 in
                subst (λ (p : Operation). FloorsAtMost p group c.stamp)
                (same_Some told.operation o (sym told.called.is ∙ ap (λ (b : ℕ). w.operations (w.numbers me.0 b c.call.seq)) its.call_boot ∙ its.operation_is))
                (told.floors group call_group_in)

        -- it looks back
        backs_on : (z : Option Stamp) → 1 < c.stamp.view.0 → ((b : Stamp) → z ≡ Some b → view_of b + 1 ≡ c.stamp.view.0)
            → AreBlocked setting views w c.ask.group.0 c.ask.stripe.0 (IsCovered (old_bound c.stamp z) c.stamp)
            → Goes (Sends (in_phase d (LooksBack z)))
        backs_on z later bounded covered =
            begins c.base c.content (LooksBack z) not_whole
            (record {
              view = later;
              bounded = bounded;
              guarded = λ other other_is.
                  subst (λ (y : Group). IsGuarded w c.ask.group.0 c.ask.stripe.0 y c.stamp) (same_own other other_is) own_guarded;
              floors = λ other other_is. subst (λ (y : Group). FloorsAtMost o y c.stamp) (same_own other other_is) own_floors;
              blocked = covered;
            })
            (level (LooksBack z) c.ask.op c.stamp (λ b bad. cc))
          where
            same_own : (other : Group) → group_in setting.layout views c.ask.group.0 (view_of c.stamp) ≡ Some other → group ≡ other
            same_own other other_is =
                call_by setting views w stamps books said me.0 c.call.seq c is c.ask.group.0 c.stamp refl own_view other other_is

        module _ (v : Stamp) (greatest : greatest_found d.counted ≡ Some v) where
          lower : stamp_below v c.stamp ≡ true
          lower = version_lower setting views sound w stamps me c books said is d.counted each once many bound looks all v greatest

          found_view : view_of v ≡ c.call.view.0
          found_view = version_view setting views sound w stamps me c books said is d.counted each once many bound looks all v greatest

          made_version : IsMadeOrFirst w o.ask.group.0 o.ask.stripe.0 v
          made_version = version_made setting views sound w stamps me c books said is d.counted each once many bound looks all v greatest

          blocked : AreBlocked setting views w o.ask.group.0 o.ask.stripe.0 (λ e. (stamp_below v e ≡ true) × (stamp_below e c.stamp ≡ true))
          blocked = between_blocked setting views sound w stamps me c books said is d.counted each once many bound looks all v greatest

          -- with too few blocks nothing from v up to the stamp is held by a quorum
          covered : length (pieces_at v d.counted) < group.m → AreBlocked setting views w o.ask.group.0 o.ask.stripe.0 (IsCovered v c.stamp)
          covered few e other other_is h = ⊎_elim
              (λ (above : stamp_below v e ≡ true). blocked e other other_is (above, h.1))
              (λ (not_above : stamp_below v e ≡ false).
              let same : v ≡ e = stamp_neither_below v e not_above h.0 in
              subst (λ (t : Stamp). IsBlocked w o.ask.group.0 o.ask.stripe.0 other t) same
              (too_few_blocked setting views sound w stamps me c books said is d.counted each once many bound looks all v greatest few other
              (ap (λ (t : Stamp). group_in setting.layout views o.ask.group.0 (view_of t)) same ∙ other_is)))
              (cases_Bool (stamp_below v e))

          descends_on : length (pieces_at v d.counted) < group.m → Goes (Sends (in_phase d (Descends v)))
          descends_on few =
              begins c.base c.content (Descends v) not_whole (
                version_above setting views sound w stamps me c books said is d.counted each once many bound looks all v greatest few,
                of_ask (λ a. AreBlocked setting views w a.group.0 a.stripe.0 (IsCovered v c.stamp)) (covered few),
              )
              (record {
                most = λ b same. subst (λ (t : Stamp). stamp_below c.stamp t ≡ false) (let e : v ≡ b = cc in e) (stamp_below_asym v c.stamp lower);
                lower = λ b same reads. subst (λ (t : Stamp). stamp_below t c.stamp ≡ true) (let e : v ≡ b = cc in e) lower;
              })

          -- it looks further down
          lowers_next : length (pieces_at v d.counted) < group.m → Goes (Sends (in_phase d (lower_phase c.phase v)))
          lowers_next few = by c.phase refl
            where
              by : (p : Phase) → c.phase ≡ p → Goes (Sends (in_phase d (lower_phase p v)))
              by (LooksBack z) at =
                  let back = says.back z at in
                  let before : c.call.view.0 ≡ c.stamp.view.0 - 1 = back_call setting views w stamps books said me.0 c.call.seq c is (ap looks_back at) in
                  let later : 1 < c.stamp.view.0 = back.view in
                  let found_at : view_of v + 1 ≡ c.stamp.view.0 = (let of = found_view in omega (arith, of, before, later)) in
                  backs_on (Some v) later
                  (λ b same. subst (λ (t : Stamp). view_of t + 1 ≡ c.stamp.view.0) (same_Some v b same) found_at)
                  (of_ask (λ a. AreBlocked setting views w a.group.0 a.stripe.0 (IsCovered v c.stamp)) (covered few))
              by p at = descends_on few

          -- the content of the version, and what the operation makes of it
          abbrev found : List ℕ
          found = w.contents c.ask.group.0 c.ask.stripe.0 v

          found_formed : IsContent group.m setting.layout.block (w.contents o.ask.group.0 o.ask.stripe.0 v)
          found_formed =
              of_m (λ m. IsContent m setting.layout.block (w.contents o.ask.group.0 o.ask.stripe.0 v))
              (content_formed setting views sound w stamps me c books said is d.counted each once many v made_version)

          made_formed : IsContent group.m setting.layout.block (made_content setting w c (Some v))
          made_formed =
              of_ask (λ a. IsContent group.m setting.layout.block (after_op setting.layout.block a.op (w.contents a.group.0 a.stripe.0 v)))
              (formed_after group.m setting.layout.block o.ask.op (w.contents o.ask.group.0 o.ask.stripe.0 v) has_its_block has_its_length found_formed)

          makes_on : MakesOn setting views w c (Some v)
          makes_on = record {
            version = v;
            base_is = refl;
            op = not_whole;
            below = lower;
            made = of_ask (λ a. IsMadeOrFirst w a.group.0 a.stripe.0 v) made_version;
            blocked = of_ask (λ a. AreBlocked setting views w a.group.0 a.stripe.0
                (λ e. (stamp_below v e ≡ true) × (stamp_below e c.stamp ≡ true))) blocked;
          }

          -- it makes its version on that
          makes_next : (phase : Phase) (content : List ℕ) → SendsVersion setting views w c (Some v) phase content
              → Goes (Makes (record (in_phase d phase) { base = Some v; content = content }))
          makes_next phase content sends =
              said_made setting views sound w stamps me c known books said is more_known (Some v) phase content (unmade.0, unmade.1)
              own_guarded own_floors
              (inr makes_on) made_formed sends

          restores_on : want_of c.phase ≡ All → group.m ≤ length (pieces_at v d.counted)
              → Goes (Makes (restoring setting.layout.block d v (setting.code.decode group.m (pieces_at v d.counted))))
          restores_on wanted enough =
              let content : setting.code.decode group.m (pieces_at v d.counted) ≡ w.contents o.ask.group.0 o.ask.stripe.0 v
              = pieces_decode setting views sound w stamps me c books said is d.counted each once many (Below bound) all v made_version wanted enough in
              makes_next Stores (after_op setting.layout.block c.ask.op (setting.code.decode group.m (pieces_at v d.counted)))
              (inl (
                refl,
                ap (λ (l : List ℕ). after_op setting.layout.block c.ask.op l)
                    (of_ask (λ a. setting.code.decode group.m (pieces_at v d.counted) ≡ w.contents a.group.0 a.stripe.0 v) content),
              ))

        reads_on : want_of c.phase ≡ All → (z : Option Stamp) → greatest_found d.counted ≡ z
            → Goes (read_back setting.layout.block setting.code d z)
        reads_on wanted None nothing =
            cond_both (may_look_back d) (Sends (in_phase d (LooksBack None))) (Waits (forgetting d)) (λ (z : Next). Goes z)
            (λ may.
            let parts = and_parts (nat_lt 1 c.stamp.view.0) (not (looks_back c.phase)) may in
            let later : 1 < c.stamp.view.0 = ltb-true 1 c.stamp.view.0 parts.0 in
            backs_on None later (λ b never. cc)
            (of_ask (λ a. AreBlocked setting views w a.group.0 a.stripe.0 (IsCovered (floor_of c.stamp.view.0) c.stamp))
            (nothing_blocks setting views sound w stamps me c books said is d.counted each once many bound looks all
            (not-true (looks_back c.phase) parts.1) later nothing)))
            (λ isnt. said_waits (forgetting d) (counting [] tt tt))
        reads_on wanted (Some v) greatest =
            cond_both (nat_lt (length (pieces_at v d.counted)) group.m) (Sends (in_phase d (lower_phase c.phase v)))
            (Makes (restoring setting.layout.block d v (setting.code.decode group.m (pieces_at v d.counted)))) (λ (z : Next). Goes z)
            (λ few. lowers_next v greatest (ltb-true (length (pieces_at v d.counted)) group.m few))
            (λ enough. restores_on v greatest wanted (ltb-false (length (pieces_at v d.counted)) group.m enough))

      -- a read writes no stripe
      reads_whole : (op : Op) → writes op ≡ false → (bytes : List ℕ) → op ≡ WriteStripe bytes → ⊥
      reads_whole op reads bytes is = false≢true (sym reads ∙ ap writes is)

      recovers_on : c.phase ≡ Recovers → NoneStops d.counted → (z : Option Refuser) → greatest_refuser d.counted ≡ z
          → Goes (once_ordered fresh d z (read_back setting.layout.block setting.code d (greatest_found d.counted)))
      recovers_on recovers roomy None none =
          reads_on c.stamp (ap (λ (p : Phase). look_of p c.stamp) recovers) none roomy
          (reads_whole c.ask.op (subst (λ (p : Phase). FitsPhase p c.ask.op) recovers says.fits))
          (subst (λ (p : Phase). MadeInPhase c o p) recovers its.made) (ap want_of recovers) (greatest_found d.counted) refl
      recovers_on recovers roomy (Some r) refused = again Recovers recovers (λ t. tt) (λ bound bad. cc) r fresh refl

      lowers_on : (bound : Stamp) → c.phase ≡ Descends bound → NoneStops d.counted → (z : Option Refuser)
          → greatest_refuser d.counted ≡ z
          → Goes (unless_refused z (read_back setting.layout.block setting.code d (greatest_found d.counted)))
      lowers_on bound descends roomy None none =
          reads_on bound (ap (λ (p : Phase). look_of p c.stamp) descends) none roomy (subst (λ (p : Phase). FitsPhase p c.ask.op) descends says.fits)
          (subst (λ (p : Phase). MadeInPhase c o p) descends its.made) (ap want_of descends) (greatest_found d.counted) refl
      lowers_on bound descends roomy (Some r) refused = said_aborts (Cause.Later r.brick r.stamp)

      backs_down : (z : Option Stamp) → c.phase ≡ LooksBack z → NoneStops d.counted
          → Goes (read_back setting.layout.block setting.code d (greatest_found d.counted))
      backs_down z looks roomy =
          reads_on (old_bound c.stamp z) (ap (λ (p : Phase). look_of p c.stamp) looks)
          (back_unrefused setting views sound w stamps me c books said is d.counted each once many (ap looks_back looks)) roomy
          (subst (λ (p : Phase). FitsPhase p c.ask.op) looks says.fits)
          (subst (λ (p : Phase). MadeInPhase c o p) looks its.made) (ap want_of looks) (greatest_found d.counted) refl

      -- the write of a block modifies the version that all found, or looks for the greatest below its own stamp
      orders_at_on : (j : ℕ) → c.phase ≡ OrdersAt j → NoneStops d.counted → (z : Option Refuser) → greatest_refuser d.counted ≡ z
          → Goes (once_ordered fresh d z (modified_if setting.code d j (common_version_at j d.counted)))
      orders_at_on j orders roomy (Some r) refused = again (OrdersAt j) orders (λ t. tt) (λ bound bad. cc) r fresh refl
      orders_at_on j orders roomy None none = goes (common_version_at j d.counted) refl
        where
          writing : (bytes : List ℕ) × (c.ask.op ≡ WriteBlock j bytes)
          writing = subst (λ (p : Phase). FitsPhase p c.ask.op) orders says.fits

          not_whole : (bytes : List ℕ) → c.ask.op ≡ WriteStripe bytes → ⊥
          not_whole bytes whole = let bad : WriteBlock j writing.0 ≡ WriteStripe bytes = sym writing.1 ∙ whole in cc

          looks : look_of c.phase c.stamp ≡ Some (Below c.stamp)
          looks = ap (λ (p : Phase). look_of p c.stamp) orders

          unmade : IsUnmade o
          unmade = subst (λ (p : Phase). MadeInPhase c o p) orders its.made

          -- nothing lies from its stamp up to its stamp
          none_covered : AreBlocked setting views w c.ask.group.0 c.ask.stripe.0 (IsCovered c.stamp c.stamp)
          none_covered e other other_is h = absurd (false≢true (sym h.0 ∙ h.1))

          own_above : stamp_below first_stamp c.stamp ≡ true
          own_above =
              above_first c.stamp (not_first (w.nodes me.0) me.0 (w.nodes me.0).boot c.stamp
              (said.stamps_say.are me.0 (w.nodes me.0).boot c.call.seq c.call.phase c.stamp (c.phase, says.begun)))

          modifies_next : (v : Stamp) → has_seat j d.counted ≡ true → common_version d.counted ≡ Some v
              → Goes (Makes (modifying setting.code d v j))
          modifies_next v has common =
              let greatest : greatest_found d.counted ≡ Some v = common_greatest d.counted v common in
              let told = common_each d.counted v common in
              let reads = all c.stamp looks none roomy not_whole unmade in
              let made : IsMadeOrFirst w o.ask.group.0 o.ask.stripe.0 v = made_version c.stamp looks none roomy not_whole unmade v greatest in
              let below : j < group.m = block_below j has_its_block (inr (writing.0, its_op ∙ writing.1)) in
              let old : bytes_at j d.counted ≡ block_of setting.layout.block j (w.contents o.ask.group.0 o.ask.stripe.0 v)
              = common_block setting views sound w stamps me c books said is d.counted each once many (Below c.stamp) reads v j (asked_below j below) made told has
              (ap want_of orders) in
              let stands : AtQuorum group (λ seat. w.held (brick_at group seat) o.ask.group.0 o.ask.stripe.0 v)
              = ahead_of (ap looks_back orders) (λ z. AtQuorum z (λ seat. w.held (brick_at z seat) o.ask.group.0 o.ask.stripe.0 v))
              (common_stands setting views sound w stamps me c books said is d.counted each once many (Below c.stamp) reads v told) in
              let own_of_view : view_of v ≡ c.stamp.view.0
              = found_view c.stamp looks none roomy not_whole unmade v greatest ∙ ahead_view (ap looks_back orders) in
              let formed : IsContent group.m setting.layout.block (w.contents o.ask.group.0 o.ask.stripe.0 v)
              = found_formed c.stamp looks none roomy not_whole unmade v greatest in
              makes_next c.stamp looks none roomy not_whole unmade v greatest (Modifies v j)
              (setting.code.delta (bytes_at j d.counted) (block_written c.ask.op))
              (inr (record {
                version = v;
                base_is = refl;
                of = own_of_view;
                j = j;
                bytes = writing.0;
                phase_is = refl;
                op_is = writing.1;
                below = lower c.stamp looks none roomy not_whole unmade v greatest;
                made = of_ask (λ a. IsMadeOrFirst w a.group.0 a.stripe.0 v) made;
                stands = λ other other_is.
                    let same : group ≡ other
                    = call_by setting views w stamps books said me.0 c.call.seq c is c.ask.group.0 v refl own_of_view other other_is in
                    subst (λ (z : Group). AtQuorum z (λ seat. w.held (brick_at z seat) c.ask.group.0 c.ask.stripe.0 v)) same
                    (of_ask (λ a. AtQuorum group (λ seat. w.held (brick_at group seat) a.group.0 a.stripe.0 v)) stands);
                formed = (of_ask (λ a. IsContent group.m setting.layout.block (w.contents a.group.0 a.stripe.0 v)) formed);
                delta_is = ap (λ (l : List ℕ). setting.code.delta l (block_written c.ask.op))
                    (of_ask (λ a. bytes_at j d.counted ≡ block_of setting.layout.block j (w.contents a.group.0 a.stripe.0 v)) old)
                    ∙ ap (λ (op : Op). setting.code.delta (block_of setting.layout.block j (w.contents c.ask.group.0 c.ask.stripe.0 v)) (block_written op)) writing.1;
              }))

          goes : (y : Option Stamp) → common_version_at j d.counted ≡ y → Goes (modified_if setting.code d j y)
          goes None isnt =
              begins c.base c.content (Descends c.stamp) not_whole (own_above, none_covered)
              (record {
                most = λ b same. subst (λ (t : Stamp). stamp_below c.stamp t ≡ false) (let e : c.stamp ≡ b = cc in e) (stamp_below_irrefl c.stamp);
                lower = λ b same reads. absurd (false≢true (sym reads ∙ ap writes writing.1));
              })
          goes (Some v) common_at_j = let found = common_at j d.counted v common_at_j in modifies_next v found.0 found.1

      -- what an operation that stored its version is answered is what it reads of the version's content
      stored_shows : (op : Op) (v : Stamp) (content : List ℕ) → o.ask.op ≡ op → o.version ≡ Some v
          → content ≡ w.contents o.ask.group.0 o.ask.stripe.0 v → WillShow setting w o None (answer_with (read_of setting.layout.block op content))
      stored_shows (ReadBlock j) v content is has same = (
        v,
        has,
        ap (λ (op : Op). read_of setting.layout.block op (w.contents o.ask.group.0 o.ask.stripe.0 v)) is
            ∙ ap (λ (l : List ℕ). Some (block_of setting.layout.block j l)) (sym same),
      )
      stored_shows ReadStripe v content is has same = (
        v,
        has,
        ap (λ (op : Op). read_of setting.layout.block op (w.contents o.ask.group.0 o.ask.stripe.0 v)) is ∙ ap (λ (l : List ℕ). Some l) (sym same),
      )
      stored_shows (WriteBlock j bytes) v content is has same = ap writes is
      stored_shows (WriteStripe bytes) v content is has same = ap writes is

      -- what is not aborted is answered
      answer_is : (z : Option (List ℕ)) → is_answer (answer_with z) ≡ true
      answer_is None = refl
      answer_is (Some bytes) = refl

      -- an operation whose version stands is answered
      answers_on : (answer : Answer) → is_answer answer ≡ true → IsMade c o → AtQuorum group (λ seat. w.held (brick_at group seat) o.ask.group.0 o.ask.stripe.0 c.stamp)
          → WillShow setting w o None answer → Goes (Ends answer None (Some c.stamp))
      answers_on answer is_one made stands shows = record {
        keeps_version = λ v has. has;
        has_version = λ v has. (said.operations (number_of w me.0 c.call.seq) o its.operation_is).version v has;
        stands = λ v has how other other_is.
            let same : c.stamp ≡ v = same_Some c.stamp v (sym made.0 ∙ has) in
            let group_same : group ≡ other = same_group v (ap view_of (sym same) ∙ own_view) other other_is in
            subst (λ (z : Group). AtQuorum z (λ seat. w.held (brick_at z seat) o.ask.group.0 o.ask.stripe.0 v)) group_same
            (subst (λ (t : Stamp). AtQuorum group (λ seat. w.held (brick_at group seat) o.ask.group.0 o.ask.stripe.0 t)) same stands);
        answered_made = λ answered writing. made.1;
        shows = shows;
        collects = λ t is. (made.1, made.0 ∙ is, is_one);
      }

      stores_on : c.phase ≡ Stores → NoneStops d.counted → (z : Option Refuser) → greatest_refuser d.counted ≡ z
          → Goes (unless_refused z (Ends (answer_with (read_of setting.layout.block c.ask.op c.content)) None (Some c.stamp)))
      stores_on stores roomy None none =
          let made : IsMade c o = subst (λ (p : Phase). MadeInPhase c o p) stores its.made in
          answers_on (answer_with (read_of setting.layout.block c.ask.op c.content)) (answer_is (read_of setting.layout.block c.ask.op c.content)) made
          (ahead_of (ap looks_back stores) (λ z. AtQuorum z (λ seat. w.held (brick_at z seat) o.ask.group.0 o.ask.stripe.0 c.stamp))
          (stored_stands setting views sound w stamps me c books said is d.counted each once many stores none roomy))
          (stored_shows c.ask.op c.stamp c.content its_op made.0
          ((says.stores stores).1 ∙ ap (λ (a : Ask). w.contents a.group.0 a.stripe.0 c.stamp) its.ask))
      stores_on stores roomy (Some r) refused = said_aborts (Cause.Later r.brick r.stamp)

      -- a change that a quorum made is done; where a member was behind, the base is read back
      modifies_on : (base : Stamp) (j : ℕ) → c.phase ≡ Modifies base j → NoneStops d.counted → (z : Option Refuser)
          → greatest_refuser d.counted ≡ z → Goes (unless_refused z (once_modified d base))
      modifies_on base j modifies roomy (Some r) refused = said_aborts (Cause.Later r.brick r.stamp)
      modifies_on base j modifies roomy None none =
          let writing : (bytes : List ℕ) × (c.ask.op ≡ WriteBlock j bytes) = subst (λ (p : Phase). FitsPhase p c.ask.op) modifies says.fits in
          let made : IsMade c o × (c.base ≡ Some base) = subst (λ (p : Phase). MadeInPhase c o p) modifies its.made in
          cond_both (some_behind d.counted) (Sends (in_phase d (Bases base))) (Ends Done None (Some c.stamp)) (λ (z : Next). Goes z)
          (λ behind.
          begins c.base c.content (Bases base) (j, writing.0, writing.1) (refl, refl, says.based base (ap base_in modifies))
          (level (Bases base) c.ask.op c.stamp (λ bound bad. cc)))
          (λ level_all.
          answers_on Done refl made.0
          (ahead_of (ap looks_back modifies) (λ z. AtQuorum z (λ seat. w.held (brick_at z seat) o.ask.group.0 o.ask.stripe.0 c.stamp))
          (modified_stands setting views sound w stamps me c books said is d.counted each once many base j modifies none roomy level_all))
          (ap writes (its_op ∙ writing.1)))

      -- a base that was read back is stored, with what the operation makes of it
      bases_on : (base : Stamp) → c.phase ≡ Bases base → NoneStops d.counted → (z : Option Refuser) → greatest_refuser d.counted ≡ z
          → Goes (unless_refused z (rebuilt setting.layout.block setting.code d base))
      bases_on base reads roomy (Some r) refused = said_aborts (Cause.Later r.brick r.stamp)
      bases_on base reads roomy None none =
          let on : MadeOn setting views w c base = says.based base (ap base_in reads) in
          let made : IsMade c o × (c.base ≡ Some base) = subst (λ (p : Phase). MadeInPhase c o p) reads its.made in
          let enough : group.m ≤ length (pieces_at base d.counted)
          = base_enough setting views sound w stamps me c books said is d.counted each once many base reads none roomy in
          let content : setting.code.decode group.m (pieces_at base d.counted) ≡ w.contents o.ask.group.0 o.ask.stripe.0 base
          = base_decodes setting views sound w stamps me c books said is d.counted each once many base reads none roomy in
          cond_both (nat_lt (length (pieces_at base d.counted)) group.m) (Waits (forgetting d))
          (Sends (restoring setting.layout.block d base (setting.code.decode group.m (pieces_at base d.counted)))) (λ (z : Next). Goes z)
          (λ few. absurd (let less : length (pieces_at base d.counted) < group.m = ltb-true (length (pieces_at base d.counted)) group.m few in omega (arith, less, enough)))
          (λ most.
          begins (Some base) (after_op setting.layout.block c.ask.op (setting.code.decode group.m (pieces_at base d.counted))) Stores tt
          (record {
            stamp_is = refl;
            made = made.0.1;
            version = made.0.0;
            is_made = on.made;
            content_is = ap (λ (l : List ℕ). after_op setting.layout.block c.ask.op l)
                (of_ask (λ a. setting.code.decode group.m (pieces_at base d.counted) ≡ w.contents a.group.0 a.stripe.0 base) content)
                ∙ sym on.content;
          })
          (level Stores c.ask.op c.stamp (λ bound bad. cc)))

      -- a member that moved on, that dropped the view before, or whose store is full aborts it, and else no reply tells so
      unless_told : (next : Next) → (NoneStops d.counted → Goes next) → (x : Option Mover) (y : Option Dropper) (z : Option FullMember)
          → lowest_mover d.counted ≡ x → lowest_dropper d.counted ≡ y → lowest_full d.counted ≡ z
          → Goes (unless_told_moved x (unless_told_gone y (unless_told_full z next)))
      unless_told next goes None None None stays kept roomy = goes (stays, kept, roomy)
      unless_told next goes None None (Some f) stays kept told = said_aborts (Cause.Full f.brick f.live)
      unless_told next goes None (Some g) z stays told roomy = said_aborts (Cause.Gone g.brick)
      unless_told next goes (Some m) y z told kept roomy = said_aborts (Cause.Moved m.brick m.view)

      -- what a quorum of replies decides keeps the invariant
      decides : Goes (decided setting.layout.block setting.code fresh d)
      decides = by_phase c.phase refl
        where
          by_phase : (p : Phase) → c.phase ≡ p → Goes (decided setting.layout.block setting.code fresh d)
          by_phase Looks at =
              subst (λ (z : Next). Goes z) (sym (decided_looks setting.layout.block setting.code fresh d at))
              (unless_told _ (λ roomy. looks_on at (fast_version d.counted) refl) (lowest_mover d.counted) (lowest_dropper d.counted) (lowest_full d.counted) refl refl refl)
          by_phase Orders at =
              subst (λ (z : Next). Goes z) (sym (decided_orders setting.layout.block setting.code fresh d at))
              (unless_told _ (λ roomy. orders_on at roomy (greatest_refuser d.counted) refl) (lowest_mover d.counted) (lowest_dropper d.counted) (lowest_full d.counted) refl refl refl)
          by_phase (LooksAt j) at =
              subst (λ (z : Next). Goes z) (sym (decided_looks_at setting.layout.block setting.code fresh j d at))
              (unless_told _ (λ roomy. looks_at_on j at (fast_version_at j d.counted) refl) (lowest_mover d.counted) (lowest_dropper d.counted) (lowest_full d.counted) refl refl refl)
          by_phase (OrdersAt j) at =
              subst (λ (z : Next). Goes z) (sym (decided_orders_at setting.layout.block setting.code fresh j d at))
              (unless_told _ (λ roomy. orders_at_on j at roomy (greatest_refuser d.counted) refl) (lowest_mover d.counted) (lowest_dropper d.counted) (lowest_full d.counted) refl refl refl)
          by_phase (Modifies base j) at =
              subst (λ (z : Next). Goes z) (sym (decided_modifies setting.layout.block setting.code fresh base j d at))
              (unless_told _ (λ roomy. modifies_on base j at roomy (greatest_refuser d.counted) refl) (lowest_mover d.counted) (lowest_dropper d.counted) (lowest_full d.counted) refl refl refl)
          by_phase (Bases base) at =
              subst (λ (z : Next). Goes z) (sym (decided_bases setting.layout.block setting.code fresh base d at))
              (unless_told _ (λ roomy. bases_on base at roomy (greatest_refuser d.counted) refl) (lowest_mover d.counted) (lowest_dropper d.counted) (lowest_full d.counted) refl refl refl)
          by_phase Recovers at =
              subst (λ (z : Next). Goes z) (sym (decided_recovers setting.layout.block setting.code fresh d at))
              (unless_told _ (λ roomy. recovers_on at roomy (greatest_refuser d.counted) refl) (lowest_mover d.counted) (lowest_dropper d.counted) (lowest_full d.counted) refl refl refl)
          by_phase (Descends bound) at =
              subst (λ (z : Next). Goes z) (sym (decided_descends setting.layout.block setting.code fresh bound d at))
              (unless_told _ (λ roomy. lowers_on bound at roomy (greatest_refuser d.counted) refl) (lowest_mover d.counted) (lowest_dropper d.counted) (lowest_full d.counted) refl refl refl)
          by_phase (LooksBack z) at =
              subst (λ (z : Next). Goes z) (sym (decided_back setting.layout.block setting.code fresh z d at))
              (unless_told _ (λ roomy. backs_down z at roomy) (lowest_mover d.counted) (lowest_dropper d.counted) (lowest_full d.counted) refl refl refl)
          by_phase Stores at =
              subst (λ (z : Next). Goes z) (sym (decided_stores setting.layout.block setting.code fresh d at))
              (unless_told _ (λ roomy. stores_on at roomy (greatest_refuser d.counted) refl) (lowest_mover d.counted) (lowest_dropper d.counted) (lowest_full d.counted) refl refl refl)

    -- a reply that counts keeps the invariant
    counts : Goes (once_full setting.layout.block setting.code fresh d)
    counts =
        cond_both (nat_lt (length d.counted) (needed d)) (Waits d) (decided setting.layout.block setting.code fresh d)
        (λ (z : Next). Goes z)
        (λ fewer. said_waits d more_says)
        (λ enough.
        let all : needed d ≤ length d.counted = ltb-false (length d.counted) (needed d) enough in
        let most : quorum_of asked ≤ needed d = needs_quorum d its.enough in
        decides (omega (arith, all, most)))

  -- whether or not it counts
  counted_or_not : (from : BrickId) (call : Call) (reply : Reply) → WasSent w (record { from = from; to = me; message = Message.Reply call reply })
      → (z : Option ℕ) → counts_at setting.layout.block c from.0 call reply ≡ z
      → Goes (counted_at setting.layout.block setting.code fresh c from reply z)
  counted_or_not from call reply sent None isnt = (stamps, said_known setting views w stamps me known books said more_known)
  counted_or_not from call reply sent (Some seat) at =
      let facts : CountsAt setting.layout.block c from.0 call reply seat = counts_facts setting.layout.block c from.0 call reply seat at in
      counts from reply seat
      (subst (λ (z : Call). WasSent w (record { from = from; to = me; message = Message.Reply z reply })) facts.call_is sent)
      facts.answers facts.seat_is facts.first

  -- what a coordinator decides on a reply is well
  pub reply_goes : (from : BrickId) (call : Call) (reply : Reply)
      → WasSent w (record { from = from; to = me; message = Message.Reply call reply })
      → Goes (on_reply setting.layout.block setting.code fresh c from call reply)
  unfolding on_reply
  reply_goes from call reply sent =
      counted_or_not from call reply sent (counts_at setting.layout.block c from.0 call reply) refl
