-- A coordinator begins its next phase, which makes no version yet: a recovery, a look below a lower bound, or another round of ordering.
-- And an open operation may send its present phase again.
use Rattle.protocol.specs.Jobs.{Job}
use Rattle.view_laws.proofs.SyncReads.{but_read_is, but_scrub_is}
use Rattle.fab_base.specs.declared.identities.ViewNo.{ViewNo}
use Rattle.protocol_laws.proofs.Outcomes.{call_after}
use Rattle.std.proofs.Common.{◌≡◌, ℕ, ◌+◌, ◌≤◌, max, ◌⊎◌, inl, inr, true, false, List, [], ◌∷◌, zero, suc, Option, Some, None, refl, sym, ap, ◌∙◌, subst, arith, Bool, ◌<◌, ◌++◌}
use Rattle.std.specs.Prelude.{slice_get, if◌then◌else◌, ◌-◌}
use Rattle.std.proofs.lemmas.Bool.{cond_both}
use Rattle.fab_base.specs.declared.identities.BrickId.{BrickId}
use Rattle.fab_base.specs.declared.stamps.Stamp.{Stamp}
use Rattle.fab_base.specs.Stamps.{stamp_below, first_stamp}
use Rattle.messages.specs.declared.calls.Call.{Call}
use Rattle.messages.specs.declared.packets.Message.TheVariants as Message
use Rattle.messages.specs.declared.packets.Packet.{Packet}
use Rattle.messages.specs.declared.requests.Look.{Look}
use Rattle.messages.specs.declared.requests.Look.TheVariants.{Below, At}
use Rattle.messages.specs.declared.requests.Request.{Request}
use Rattle.fab_base.specs.Layouts.{Group, seat_in}
use Rattle.fab_base.proofs.Seats.{seat_of_member}
use Rattle.fab_base.proofs.StampOrder.{stamp_same_true}
use Rattle.std.proofs.lemmas.Option.{same_Some}
use Rattle.protocol.specs.Views.{Views, group_in, view_of}
use Rattle.protocol.specs.Settings.{Setting, IsSound}
use Rattle.protocol.specs.declared.phases.Counted.{Counted}
use Rattle.protocol.specs.declared.phases.Phase.{Phase}
use Rattle.protocol.specs.declared.phases.Phase.TheVariants.{Looks, LooksAt, Orders, OrdersAt, Recovers, Descends, Modifies, Bases, Stores, LooksBack}
use Rattle.protocol.specs.Coordinators.{Coordinator, has_seat, request_of, asked_group, asked_view, looks_back, old_bound}
use Rattle.protocol.specs.Nodes.{Node, with_known, with_call, phase_packets, given_content, resent_to, resent, resent_up_to, view_in, ballot_resent, ticked, calls_but_read, job_call, calls_but_scrub, scrub_call}
use Rattle.protocol.specs.Worlds.{World, Operation, number_of}
use Rattle.protocol_laws.specs.Laws.{WasSent, IsGuarded}
use Rattle.protocol_laws.proofs.Books.{Books, CallBooks, IsOperation, IsCall}
use Rattle.protocol_laws.proofs.Said.{Begun, Stamping, Said, IsSaid, IsBegun, AreBlocked, IsStampOf, IsCalled, FitsPhase, RequestSays, PacketSays, CallSays, OrderReadSays, DescendsFrom, base_in, look_of, want_of, is_looked, IsMadeOrFirst, MadeOn, WriteSays, bound_in, FloorsAtMost}
use Rattle.protocol_laws.proofs.Proposing.{of_views_each, resent_of_views}
use Rattle.protocol_laws.proofs.Logs.{below_above}
use Rattle.protocol.proofs.Tables.{put_each, put_same, sent_to_member}
use Rattle.protocol.proofs.Packets.{OfEach, each_none, each_both, each_teaching}
use Rattle.protocol_laws.proofs.Stampings.{ComesFrom, StampsGrow, Ages, ages_within, with_stamp, stamp_now, stamps_other, stamp_last, stamps_grow, stamps_say}
use Rattle.protocol_laws.proofs.Growth.{Grows, stays_guarded, stays_made, stays_made_on, stay_blocked}
use Rattle.protocol_laws.proofs.Steps.{KeepsStamps, keeps_same, ages_by, phase_asked, quiet, quiet_grows, said_quiet}
use Rattle.protocol.specs.Scrubs.{Scrub}

-- the versions from a bound up to t
abbrev pub IsCovered : Stamp → Stamp → Stamp → Type 0
IsCovered bound t d = (stamp_below d bound ≡ false) × (stamp_below d t ≡ true)

-- An operation that made its version stores it again under the same stamp.
pub record StoresAgain (setting : Setting) (w : World) (c : Coordinator) (o : Operation) (t : Stamp) (content : List ℕ) : Type 0 where
  pub stamp_is : t ≡ c.stamp
  pub made : o.made ≡ true
  pub version : o.version ≡ Some t
  pub is_made : IsMadeOrFirst w c.ask.group.0 c.ask.stripe.0 t
  pub content_is : content ≡ w.contents c.ask.group.0 c.ask.stripe.0 t

-- An operation looks back below a bound, under the same stamp: it has a view before its own, of which the bound is; a quorum of its own view's members has promised its
-- stamp, which is at or above how far they had come when it began; and no quorum holds anything from the bound up to the stamp.
pub record MayLookBack (setting : Setting) (views : Views) (w : World) (c : Coordinator) (o : Operation) (t : Stamp) (bound : Option Stamp) : Type 0 where
  pub view : 1 < t.view.0
  pub bounded : (b : Stamp) → bound ≡ Some b → view_of b + 1 ≡ t.view.0
  pub guarded : (group : Group) → group_in setting.layout views c.ask.group.0 (view_of t) ≡ Some group → IsGuarded w c.ask.group.0 c.ask.stripe.0 group t
  pub floors : (group : Group) → group_in setting.layout views c.ask.group.0 (view_of t) ≡ Some group → FloorsAtMost o group t
  pub blocked : AreBlocked setting views w c.ask.group.0 c.ask.stripe.0 (IsCovered (old_bound t bound) t)

-- What a phase of stamp t needs that makes no version: one that looks below a bound above the first stamp, that no quorum holds anything from there up
-- to t; one that looks back, that it may; one that reads its base back, that the version was made on it; and one that stores, that the version was made.
abbrev pub MayBegin : Setting → Views → World → Coordinator → Operation → Stamp → Option Stamp → List ℕ → Phase → Type 0
MayBegin setting views w c o t base content Orders = (base ≡ None) × (content ≡ given_content c.ask.op)
MayBegin setting views w c o t base content (OrdersAt j) = Unit {0}
MayBegin setting views w c o t base content Recovers = Unit {0}
MayBegin setting views w c o t base content (Descends bound) =
    (stamp_below first_stamp bound ≡ true) × AreBlocked setting views w c.ask.group.0 c.ask.stripe.0 (IsCovered bound t)
MayBegin setting views w c o t base content (LooksBack bound) = MayLookBack setting views w c o t bound
MayBegin setting views w c o t base content (Bases u) = (t ≡ c.stamp) × (base ≡ c.base) × MadeOn setting views w c u
MayBegin setting views w c o t base content Stores = StoresAgain setting w c o t content
MayBegin setting views w c o t base content phase = ⊥

module _ (setting : Setting) (views : Views) (sound : IsSound setting) (w : World) (stamps : Stamping) (me : BrickId) (c : Coordinator) (known : ℕ) (books : Books setting w)
    (said : Said setting views w stamps) (is : IsCall w me.0 c.call.seq c)
    (more_known : (w.nodes me.0).known ≤ known) (t : Stamp) (round : ℕ) (base : Option Stamp) (content : List ℕ) (phase : Phase)
    (of : IsStampOf (with_known (w.nodes me.0) (max known t.time)) me.0 (w.nodes me.0).boot t)
    (from : ComesFrom stamps me.0 (w.nodes me.0).boot c.call.seq t) (same_view : t.view ≡ c.stamp.view) (fits : FitsPhase phase c.ask.op)
    (asks : MayBegin setting views w c (books.calls me.0 c.call.seq c is).operation t base content phase)
    (down : DescendsFrom phase c.ask.op t) where
  abbrev its : CallBooks setting w me.0 c.call.seq c
  its = books.calls me.0 c.call.seq c is

  abbrev o : Operation
  o = (books.calls me.0 c.call.seq c is).operation

  says : CallSays setting views w stamps me.0 c.call.seq c
  says = said.calls me.0 c.call.seq c is

  -- the brick's boot
  abbrev boot : ℕ
  boot = (w.nodes me.0).boot

  -- the coordinator in its next phase
  abbrev d_in : Phase → Coordinator
  d_in p =
      record { group = c.group; prior = c.prior; only = c.only; ask = c.ask; stamp = t; round = round; base = base; content = content; call = call_after c p; phase = p; counted = [] }

  abbrev d : Coordinator
  d = d_in phase

  abbrev node : Node
  node = with_call (w.nodes me.0) (max known t.time) (w.nodes me.0).busy c.call.seq (Some d)

  abbrev more : List Packet
  more = phase_packets setting me d

  abbrev next : World
  next = quiet w me node more

  abbrev begun : Begun
  begun = record { stamp = t; phase = phase }

  -- the stamps after
  abbrev later : Stamping
  later = with_stamp stamps me.0 boot c.call.seq (c.call.phase + 1) begun

  none : (r : ℕ) → c.call.phase + 1 ≤ r → stamps me.0 boot c.call.seq r ≡ None
  none r most = says.last r (omega arith)

  grow : StampsGrow stamps later
  grow = stamps_grow stamps me.0 boot c.call.seq (c.call.phase + 1) begun none from

  grows : Grows w next stamps later
  grows = quiet_grows w stamps later me node more grow said.logged (keeps_same (w.nodes me.0) node (refl, refl, refl))

  begun_now : IsBegun later me.0 boot c.call.seq (c.call.phase + 1) phase t
  begun_now = stamp_now stamps me.0 boot c.call.seq (c.call.phase + 1) begun

  -- the same, by the call
  begun_call : IsBegun later me.0 c.call.boot c.call.seq (c.call.phase + 1) phase t
  begun_call = subst (λ (b : ℕ). IsBegun later me.0 b c.call.seq (c.call.phase + 1) phase t) (sym its.call_boot) begun_now

  -- the boot stays
  boot_now : (next.nodes me.0).boot ≡ boot
  boot_now = ap (λ (x : Node). x.boot) (put_same w.nodes me.0 node)

  called : IsCalled next me.0 d.call o
  called = record {
    is = subst (λ (b : ℕ). IsOperation w (w.numbers me.0 b c.call.seq) o) (sym its.call_boot) its.operation_is;
    brick = its.brick;
    boot = its.boot ∙ sym its.call_boot;
    seq = its.seq;
    group = ap (λ a. a.group.0) (sym its.ask) ∙ ap (λ g. g.0) (sym its.call_group);
    stripe = ap (λ a. a.stripe.0) (sym its.ask) ∙ ap (λ s. s.0) (sym its.call_stripe);
  }

  -- an order that tells a version
  order_read_says : (p : Phase) (look : Look) → phase ≡ p → look_of p t ≡ Some look → ((e : Stamp) → is_looked look e ≡ true → stamp_below e t ≡ true)
      → looks_back p ≡ false → OrderReadSays next later me.0 d.call t look (want_of p)
  order_read_says p look same looks under ahead = record {
    operation = o;
    called = called;
    phase = p;
    begun = subst (λ (z : Phase). IsBegun later me.0 c.call.boot c.call.seq (c.call.phase + 1) z t) same begun_call;
    ahead = ahead;
    look_is = looks;
    want_is = refl;
    fits = subst (λ (z : Phase). FitsPhase z o.ask.op) same (subst (λ a. FitsPhase phase a.op) its.ask fits);
    from = subst (λ (z : Phase). DescendsFrom z o.ask.op t) same (subst (λ a. DescendsFrom phase a.op t) its.ask down);
    below = under;
  }

  -- a member's seat
  seat_of : (k : ℕ) (member : BrickId) → slice_get c.group.members k ≡ Some member → seat_in c.group.members member.0 ≡ Some k
  seat_of k member at = seat_of_member c.group.members k member (said.distinct c.call.group.0 c.stamp.view.0 c.group says.group) at

  -- a phase that does not look back asks the operation's members
  ahead_view : looks_back phase ≡ false → d.call.view.0 ≡ c.stamp.view.0
  ahead_view ahead = ap (λ (b : Bool). (if b then record { 0 = c.stamp.view.0 - 1 } else c.stamp.view).0) ahead

  group_same : looks_back phase ≡ false → (other : Group) → group_in setting.layout views c.call.group.0 d.call.view.0 ≡ Some other → c.group ≡ other
  group_same ahead other other_is =
      same_Some c.group other (sym says.group ∙ sym (ap (λ (e : ℕ). group_in setting.layout views c.call.group.0 e) (ahead_view ahead)) ∙ other_is)

  -- what concerns the stripe that is asked concerns the call's
  of_call : (P : ℕ → ℕ → Type 0) → P c.ask.group.0 c.ask.stripe.0 → P c.call.group.0 c.call.stripe.0
  of_call P h = subst (λ g. P g.0 c.call.stripe.0) (sym its.call_group) (subst (λ s. P c.ask.group.0 s.0) (sym its.call_stripe) h)

  -- a write of a version that was made
  write_says : (again : StoresAgain setting w c o t content) (k : ℕ) (member : BrickId) → slice_get c.group.members k ≡ Some member → phase ≡ Stores
      → WriteSays setting views next later me.0 member.0 d.call t (setting.code.encode c.group.m content (0 + k))
  write_says again k member at same = record {
    maker = record {
      operation = o;
      called = called;
      begun = subst (λ (z : Phase). IsBegun later me.0 c.call.boot c.call.seq (c.call.phase + 1) z t) same begun_call;
      made = again.made;
      version = again.version;
      member = λ other other_is. (k, subst (λ (z : Group). seat_in z.members member.0 ≡ Some k) (group_same (ap looks_back same) other other_is) (seat_of k member at));
      guarded = λ other other_is.
          of_call (λ g s. IsGuarded next g s other t)
          (stays_guarded setting views w next stamps later books grows c.ask.group.0 c.ask.stripe.0 other t
          (subst (λ a. IsGuarded w a.group.0 a.stripe.0 other t) (sym its.ask)
          (((said.operations (number_of w me.0 c.call.seq) o its.operation_is).version t again.version).guarded other
          (ap (λ a. group_in setting.layout views a.group.0 (view_of t)) (sym its.ask)
          ∙ ap (λ g. group_in setting.layout views g.0 (view_of t)) (sym its.call_group) ∙ other_is))));
    };
    is_block = λ other j other_is at_j.
        let place : k ≡ j = same_Some k j (sym (seat_of k member at) ∙ (ap (λ (z : Group). seat_in z.members member.0) (group_same (ap looks_back same) other other_is) ∙ at_j)) in
        let zero : 0 + k ≡ j = omega arith in
        let told : content ≡ w.contents c.call.group.0 c.call.stripe.0 t = of_call (λ g s. content ≡ w.contents g s t) again.content_is in
        ap (λ (z : Group). setting.code.encode z.m content (0 + k)) (group_same (ap looks_back same) other other_is)
        ∙ ap (λ (z : List ℕ). setting.code.encode other.m z (0 + k)) told
        ∙ ap (setting.code.encode other.m (w.contents c.call.group.0 c.call.stripe.0 t)) zero;
  }

  request_says : (p : Phase) → phase ≡ p → MayBegin setting views w c o t base content p → (k : ℕ) (member : BrickId)
      → slice_get (asked_group (d_in p)).members k ≡ Some member
      → RequestSays setting views next later me.0 member.0 d.call (request_of setting.code (d_in p) (0 + k))
  unfolding request_of
  request_says Orders same ok k member at = record {
    operation = o;
    called = called;
    begun = subst (λ (z : Phase). IsBegun later me.0 c.call.boot c.call.seq (c.call.phase + 1) z t) same begun_call;
    fits = subst (λ (z : Phase). FitsPhase z o.ask.op) same (subst (λ a. FitsPhase phase a.op) its.ask fits);
  }
  request_says (OrdersAt e) same ok k member at = order_read_says (OrdersAt e) (Below t) same refl (λ u less. less) refl
  request_says Recovers same ok k member at = order_read_says Recovers (Below t) same refl (λ u less. less) refl
  request_says (Descends bound) same ok k member at =
      order_read_says (Descends bound) (Below bound) same refl (λ u less. below_above u bound t less (down.most bound same)) refl
  request_says (LooksBack bound) same ok k member at = record {
    stamp = t;
    begun = subst (λ (z : Phase). IsBegun later me.0 c.call.boot c.call.seq (c.call.phase + 1) z t) same begun_call;
    view = (
        let before : d.call.view.0 ≡ c.stamp.view.0 - 1 = ap (λ (z : Phase). (asked_view c.stamp z).0) same in
        let own : t.view.0 ≡ c.stamp.view.0 = ap (λ (v : ViewNo). v.0) same_view in
        let later_view : 1 < t.view.0 = ok.view in omega (arith, before, own, later_view)
        );
  }
  request_says (Bases u) same ok k member at =
      order_read_says (Bases u) (At u) same refl
      (λ e is_base.
      subst (λ (z : Stamp). stamp_below z t ≡ true) (sym (stamp_same_true e u is_base))
      (subst (λ (z : Stamp). stamp_below u z ≡ true) (sym ok.0) ok.2.below)) refl
  request_says Stores same ok k member at = write_says ok k member at same
  request_says Looks same bad k member at = absurd bad
  request_says (LooksAt e) same bad k member at = absurd bad
  request_says (Modifies u e) same bad k member at = absurd bad

  packets : (k : ℕ) (packet : Packet) → slice_get more k ≡ Some packet → PacketSays setting views next later packet
  packets k packet at =
      let sent = sent_to_member me d.call (request_of setting.code d) 0 (asked_group d).members k packet at in
      subst (λ (z : Packet). PacketSays setting views next later z) (sym sent.2) (request_says phase refl asks k sent.0 sent.1)

  asks_as : (p : Phase) → phase ≡ p → MayBegin setting views w c o t base content p
  asks_as p same = subst (λ (z : Phase). MayBegin setting views w c o t base content z) same asks

  -- what the version of a phase was made on stays so
  made_on : (p : Phase) (u : Stamp) → phase ≡ p → base_in p ≡ Some u → MadeOn setting views next d u
  made_on (Bases b) u same has =
      let at : b ≡ u = cc in
      let ok = asks_as (Bases b) same in
      let on : MadeOn setting views next c b = stays_made_on setting views w next stamps later books grows c b ok.2 in
      subst (λ (z : Stamp). MadeOn setting views next d z) at (record {
        base_is = ok.1 ∙ on.base_is;
        of = on.of ∙ ap (λ (z : Stamp). z.view.0) (sym ok.0);
        below = subst (λ (z : Stamp). stamp_below b z ≡ true) (sym ok.0) on.below;
        base_made = on.base_made;
        stands = on.stands;
        made = subst (λ (z : Stamp). IsMadeOrFirst next c.ask.group.0 c.ask.stripe.0 z) (sym ok.0) on.made;
        content = ap (λ (z : Stamp). w.contents c.ask.group.0 c.ask.stripe.0 z) ok.0 ∙ on.content;
      })
  made_on (Modifies b e) u same has = absurd (asks_as (Modifies b e) same)
  made_on p u same has = cc

  -- a group of the call is one of what is asked
  in_ask : (u : Stamp) (group : Group) → group_in setting.layout views c.call.group.0 (view_of u) ≡ Some group
      → group_in setting.layout views c.ask.group.0 (view_of u) ≡ Some group
  in_ask u group group_is = ap (λ g. group_in setting.layout views g.0 (view_of u)) (sym its.call_group) ∙ group_is

  covers : (p : Phase) → phase ≡ p → (bound : Stamp) → bound_in p t ≡ Some bound → AreBlocked setting views w c.ask.group.0 c.ask.stripe.0 (IsCovered bound t)
  covers (Descends b) same bound has =
      subst (λ (z : Stamp). AreBlocked setting views w c.ask.group.0 c.ask.stripe.0 (IsCovered z t)) (same_Some b bound has) (asks_as (Descends b) same).1
  covers (LooksBack b) same bound has =
      subst (λ (z : Stamp). AreBlocked setting views w c.ask.group.0 c.ask.stripe.0 (IsCovered z t)) (same_Some (old_bound t b) bound has)
      (asks_as (LooksBack b) same).blocked
  covers p same bound has = cc

  d_says : CallSays setting views next later me.0 c.call.seq d
  d_says = record {
    group = ap (λ (v : ViewNo). group_in setting.layout views c.call.group.0 v.0) same_view ∙ says.group;
    prior = λ later_view.
        says.prior (subst (λ (v : ViewNo). 1 < v.0) same_view later_view)
        ∙ sym (ap (λ (v : ViewNo). views c.call.group.0 (v.0 - 1)) same_view);
    begun = subst (λ (b : ℕ). IsBegun later me.0 b c.call.seq (c.call.phase + 1) phase t) (sym boot_now) begun_now;
    last = λ p less.
        subst (λ (b : ℕ). later me.0 b c.call.seq p ≡ None) (sym boot_now)
        (stamp_last stamps me.0 boot c.call.seq (c.call.phase + 1) begun none from p less);
    asked = phase_asked setting next me d w.packets refl;
    fits = fits;
    unbased = λ orders. (asks_as Orders orders).0;
    given = λ orders. (asks_as Orders orders).1;
    above = λ bound descends. (asks_as (Descends bound) descends).0;
    from = down;
    back = λ bound looks.
        (let may = asks_as (LooksBack bound) looks in
        record {
          view = may.view;
          bounded = may.bounded;
          operation = o;
          called = called;
          guarded = λ group group_is.
              of_call (λ g s. IsGuarded next g s group t)
              (stays_guarded setting views w next stamps later books grows c.ask.group.0 c.ask.stripe.0 group t (may.guarded group (in_ask t group group_is)));
          floors = λ group group_is. may.floors group (in_ask t group group_is);
        });
    covered = λ bound has.
        stay_blocked setting views w next stamps later books grows c.ask.group.0 c.ask.stripe.0 (IsCovered bound t) (covers phase refl bound has);
    stores = λ stores.
        let again : StoresAgain setting w c o t content = asks_as Stores stores in
        (stays_made setting views w next stamps later books grows c.ask.group.0 c.ask.stripe.0 t again.is_made, again.content_is);
    based = λ u has. made_on phase u refl has;
    counted = tt;
    once = tt;
  }

  calls : (k : ℕ) (e : Coordinator) → node.calls k ≡ Some e
      → (((w.nodes me.0).calls k ≡ Some e) × KeepsStamps stamps later me.0 boot k) ⊎ CallSays setting views next later me.0 k e
  calls k e =
      put_each (λ j x. x ≡ Some e
      → (((w.nodes me.0).calls j ≡ Some e) × KeepsStamps stamps later me.0 boot j) ⊎ CallSays setting views next later me.0 j e)
      (w.nodes me.0).calls c.call.seq (Some d)
      (λ at. let same : d ≡ e = cc in inr (subst (λ (z : Coordinator). CallSays setting views next later me.0 c.call.seq z) same d_says))
      (λ j other at. inl (at, stamps_other stamps me.0 boot c.call.seq (c.call.phase + 1) begun me.0 boot j (λ brick same. other same))) k

  -- the invariant holds when such a phase began
  pub said_sent : IsSaid setting views next
  said_sent =
      let was = said.stamps_say.begun me.0 boot c.call.seq c.call.phase c.stamp (c.phase, says.begun) in
      let ages : Ages (w.nodes me.0) node = ages_within (w.nodes me.0) node refl (omega arith) (omega arith) in
      let stamp : IsStampOf node me.0 boot t
      = record { view = of.view; boot = of.boot; booted = of.booted; brick = of.brick; positive = of.positive; bounded = of.bounded } in (
        later,
        said_quiet setting views w stamps later me node more books said grow (record {
          keeps = keeps_same (w.nodes me.0) node (refl, refl, refl);
          boot = refl;
          stamps_say = stamps_say stamps me.0 boot c.call.seq (c.call.phase + 1) begun none from w next said.stamps_say
              (ages_by w next me.0 node refl ages)
              (subst (λ (x : Node). IsStampOf x me.0 boot t) (sym (put_same w.nodes me.0 node)) stamp) was.0
              (λ now.
              let most : c.call.seq ≤ (w.nodes me.0).seq = was.1 refl in
              let seq : (next.nodes me.0).seq ≡ (w.nodes me.0).seq = ap (λ (x : Node). x.seq) (put_same w.nodes me.0 node) in
              omega arith);
          stamps_other = λ i b k other. stamps_other stamps me.0 boot c.call.seq (c.call.phase + 1) begun i b k (λ brick same. other brick);
          tops = λ g e s. inl refl;
          logs = λ g e s k version at. inl (k, at);
          lowest = λ g e s x log within at. inl (log, at);
          calls = calls;
          jobs = λ job is. inl is;
          packets = packets;
        }),
      )

-- a packet is one of these members' request, the first of them at this seat
abbrev IsRequestOf : BrickId → Call → (ℕ → Request) → ℕ → List BrickId → Packet → Type 0
IsRequestOf me call request seat members packet =
    (place : ℕ) × (member : BrickId) × (slice_get members place ≡ Some member)
    × (packet ≡ record { from = me; to = member; message = Message.Request call (request (seat + place)) })

-- a later member's
later_request : (me : BrickId) (call : Call) (request : ℕ → Request) (seat : ℕ) (member : BrickId) (members : List BrickId) (packet : Packet)
    → IsRequestOf me call request (seat + 1) members packet → IsRequestOf me call request seat (member ∷ members) packet
later_request me call request seat member members packet found =
    let place : seat + 1 + found.0 ≡ seat + suc found.0 = omega arith in (
      suc found.0,
      found.1,
      found.2,
      found.3 ∙ ap (λ (i : ℕ). record { from = me; to = found.1; message = Message.Request call (request i) }) place,
    )

-- the first member's, or a later member's
first_request : (me : BrickId) (call : Call) (request : ℕ → Request) (seat : ℕ) (member : BrickId) (members : List BrickId) (rest : List Packet)
    (k : ℕ) (packet : Packet) → ((j : ℕ) → slice_get rest j ≡ Some packet → IsRequestOf me call request (seat + 1) members packet)
    → slice_get (record { from = me; to = member; message = Message.Request call (request seat) } ∷ rest) k ≡ Some packet
    → IsRequestOf me call request seat (member ∷ members) packet
first_request me call request seat member members rest zero packet later at =
    let place : seat ≡ seat + 0 = omega arith in
    let same : record { from = me; to = member; message = Message.Request call (request seat) } ≡ packet = cc in
    (0, member, refl, sym same ∙ ap (λ (i : ℕ). record { from = me; to = member; message = Message.Request call (request i) }) place)
first_request me call request seat member members rest (suc j) packet later at =
    later_request me call request seat member members packet (later j at)

-- a packet of a phase that is sent again is a member's request
resent_to_member : (me : BrickId) (call : Call) (request : ℕ → Request) (counted : List Counted) (seat : ℕ) (members : List BrickId) (k : ℕ)
    (packet : Packet) → slice_get (resent_to me call request counted seat members) k ≡ Some packet → IsRequestOf me call request seat members packet
resent_to_member me call request counted seat [] k packet is = cc
resent_to_member me call request counted seat (member ∷ members) k packet is =
    let rest : List Packet = resent_to me call request counted (seat + 1) members in
    cond_both (has_seat seat counted) rest (record { from = me; to = member; message = Message.Request call (request seat) } ∷ rest)
    (λ (z : List Packet). slice_get z k ≡ Some packet → IsRequestOf me call request seat (member ∷ members) packet)
    (λ has at.
    later_request me call request seat member members packet (resent_to_member me call request counted (seat + 1) members k packet at))
    (λ isnt at.
    first_request me call request seat member members rest k packet
    (λ j. resent_to_member me call request counted (seat + 1) members j packet) at)
    is

module _ (setting : Setting) (views : Views) (w next : World) (stamps : Stamping) (me : BrickId) (said : Said setting views w stamps) where
  -- a packet was sent, or says what it should
  abbrev SentOrSays : Packet → Type 0
  SentOrSays packet = WasSent w packet ⊎ PacketSays setting views next stamps packet

  -- what an open operation sends again was sent
  resent_was_sent : (k : ℕ) (c : Coordinator) → (w.nodes me.0).calls k ≡ Some c
      → OfEach (WasSent w) (resent_to me c.call (request_of setting.code c) c.counted 0 (asked_group c).members)
  resent_was_sent k c is j packet at =
      let found = resent_to_member me c.call (request_of setting.code c) c.counted 0 (asked_group c).members j packet at in
      let place : 0 + found.0 ≡ found.0 = omega arith in
      subst (λ (z : Packet). WasSent w z) (sym found.3)
      (subst (λ (i : ℕ). WasSent w (record { from = me; to = found.1; message = Message.Request c.call (request_of setting.code c i) }))
      (sym place)
      ((said.calls me.0 k c is).asked found.0 found.1 found.2))

  call_resent : (k : ℕ) (z : Option Coordinator) → (w.nodes me.0).calls k ≡ z → OfEach SentOrSays (resent setting me z)
  call_resent k None none = each_none SentOrSays
  call_resent k (Some c) is =
      each_teaching SentOrSays c.call.group (view_in c) (λ later from to. inr tt)
      (resent_to me c.call (request_of setting.code c) c.counted 0 (asked_group c).members) (λ j packet at. inl (resent_was_sent k c is j packet at))

  -- the operations that are none of the brick's own reads
  abbrev others : Option Job → Option Scrub → ℕ → Option Coordinator
  others job scrub = calls_but_scrub (calls_but_read (w.nodes me.0).calls job) scrub

  but_resent : (job : Option Job) (scrub : Option Scrub) (k : ℕ) (z : Option Coordinator) → others job scrub k ≡ z → OfEach SentOrSays (resent setting me z)
  but_resent job scrub k None is = each_none SentOrSays
  but_resent job scrub k (Some c) is =
      call_resent k (Some c) (but_read_is (w.nodes me.0).calls job k c (but_scrub_is (calls_but_read (w.nodes me.0).calls job) scrub k c is))

  calls_resent : (job : Option Job) (scrub : Option Scrub) (k : ℕ) → OfEach SentOrSays (resent_up_to setting me (others job scrub) k)
  calls_resent job scrub zero = each_none SentOrSays
  calls_resent job scrub (suc k) =
      each_both SentOrSays (resent_up_to setting me (others job scrub) k) (resent setting me (others job scrub (suc k))) (calls_resent job scrub k)
      (but_resent job scrub (suc k) (others job scrub (suc k)) refl)

  -- so are the read of a synchronisation, and a scrub
  job_resent : (job : Option Job) → OfEach SentOrSays (resent setting me (job_call (w.nodes me.0).calls job))
  job_resent None = each_none SentOrSays
  job_resent (Some job) = call_resent job.seq ((w.nodes me.0).calls job.seq) refl

  scrub_resent : (scrub : Option Scrub) → OfEach SentOrSays (resent setting me (scrub_call (w.nodes me.0).calls scrub))
  scrub_resent None = each_none SentOrSays
  scrub_resent (Some scrub) = call_resent scrub.seq ((w.nodes me.0).calls scrub.seq) refl

  -- so is all that a tick of its clock sends, but for what is of views and of proposals
  pub ticked_was_sent : OfEach SentOrSays (ticked setting me (w.nodes me.0))
  unfolding ticked
  ticked_was_sent =
      each_both SentOrSays (resent_up_to setting me (others (w.nodes me.0).job (w.nodes me.0).scrub) (w.nodes me.0).seq)
      (ballot_resent me (w.nodes me.0).proposal ++ own_resent)
      (calls_resent (w.nodes me.0).job (w.nodes me.0).scrub (w.nodes me.0).seq)
      (each_both SentOrSays (ballot_resent me (w.nodes me.0).proposal) own_resent
      (of_views_each SentOrSays (λ from to group view. inr tt) (λ from to call ballot. inr tt) (λ from to call ballot members. inr tt)
      (ballot_resent me (w.nodes me.0).proposal) (resent_of_views me (w.nodes me.0).proposal))
      (each_both SentOrSays (resent setting me (job_call (w.nodes me.0).calls (w.nodes me.0).job))
      (resent setting me (scrub_call (w.nodes me.0).calls (w.nodes me.0).scrub)) (job_resent (w.nodes me.0).job) (scrub_resent (w.nodes me.0).scrub)))
    where
      own_resent : List Packet
      own_resent =
          resent setting me (job_call (w.nodes me.0).calls (w.nodes me.0).job) ++ resent setting me (scrub_call (w.nodes me.0).calls (w.nodes me.0).scrub)
