-- A coordinator whose order was promised by a quorum makes its version, and sends it.
use Rattle.protocol_laws.proofs.Outcomes.{call_after}
use Rattle.std.proofs.Common.{◌≡◌, ◌≢◌, ℕ, ◌+◌, ◌*◌, ◌<◌, ◌≤◌, ◌⊎◌, inl, inr, true, false, cond, List, [], ◌∷◌, ◌++◌, length, Option, Some, None, refl, sym, ap, ◌∙◌, subst, ⊎_elim, arith, Bool}
use Rattle.std.specs.Prelude.{slice_get, nat_eq, nat_lt, not, Bool, if◌then◌else◌, ◌-◌}
use Rattle.std.proofs.lemmas.Bool.{cond_both, cond-true, true≢false, and_parts, or_parts, eqb-true, eqb-false, ltb-true, not-false}
use Rattle.std.proofs.lemmas.Option.{same_Some}
use Rattle.fab_base.specs.declared.identities.BrickId.{BrickId}
use Rattle.fab_base.specs.declared.stamps.Stamp.{Stamp}
use Rattle.fab_base.specs.declared.asks.Ask.{Ask}
use Rattle.fab_base.specs.declared.asks.Op.{Op}
use Rattle.fab_base.specs.declared.asks.Op.TheVariants.{WriteBlock, WriteStripe}
use Rattle.fab_base.specs.Stamps.{stamp_below, stamp_same}
use Rattle.fab_base.proofs.StampOrder.{stamp_same_refl, stamp_same_true}
use Rattle.messages.specs.declared.packets.Packet.{Packet}
use Rattle.reg_model.specs.Marks.{life_of}
use Rattle.reg_model.specs.Walk.{last_of}
use Rattle.fab_base.specs.Layouts.{Group, seat_in}
use Rattle.protocol.specs.Views.{Views, group_in, view_of}
use Rattle.protocol.specs.Settings.{Setting, IsSound, are_bytes}
use Rattle.quorum.specs.Quorums.{IsWithinLimits}
use Rattle.reg_model.specs.Registers.{block_of, with_block, after_op}
use Rattle.protocol.specs.Replicas.{is_changed, modified_block}
use Rattle.protocol.specs.declared.phases.Phase.{Phase}
use Rattle.protocol.specs.declared.phases.Phase.TheVariants.{Orders, Descends, Modifies, Stores, LooksBack}
use Rattle.protocol.specs.Coordinators.{Coordinator, request_of, delta_at, asked_group, looks_back}
use Rattle.protocol.specs.declared.tellings.Told.TheVariants.{Made}
use Rattle.protocol.specs.Nodes.{Node, put, has_block, has_length, with_call, phase_packets}
use Rattle.protocol.specs.Worlds.{World, Operation, number_of, world_stepped, with_made, with_content, with_held, content_on, content_by, choices_after}
use Rattle.protocol_laws.proofs.Books.{Books, OperationBooks, LifeBooks, CallBooks, IsOperation, IsCall}
use Rattle.protocol_laws.proofs.Said.{Begun, Stamping, Said, IsSaid, StampsSay, IsStampOf, IsBegun, IsStamped, AreBlocked, Stands, IsMadeOrFirst, FloorsAtMost, FitsPhase, MakerSays, WriteSays, ChangesBlock, ModifySays, MadeOn, RequestSays, base_in, PacketSays, HasVersion, WritesWhole, ReadsBack, OperationSays, CallSays, bound_in}
use Rattle.protocol_laws.specs.Laws.{IsModified, IsGuarded}
use Rattle.fab_base.proofs.Seats.{seat_of_member, seat_within}
use Rattle.protocol.proofs.Blocks.{block_room, block_same, block_other, IsContent}
use Rattle.protocol.proofs.Tables.{put_each, put_same, sent_to_member}
use Rattle.reg_model.proofs.GrowingLives.{open_last}
use Rattle.protocol_laws.proofs.Stampings.{ComesFrom, StampsGrow, Ages, ages_within, stamp_stays, stays_stamped, with_stamp, stamp_now, stamps_other, stamp_last, stamps_grow, stamps_say}
use Rattle.protocol_laws.proofs.Steps.{KeepsStamps, ages_by, phase_asked}
use Rattle.protocol_laws.proofs.Growth.{Grows, stays_guarded, stays_made, stays_standing, stay_blocked, stays_operation}
use Rattle.protocol_laws.proofs.Operated.{operated, OperatedKeeps, operated_grows, said_operated}
use Rattle.protocol_laws.proofs.OwnStamps.{not_made_yet, call_by, own_in, m_is, ahead_group}

-- an open operation that has marks may happen up to one past the last mark
pub open_until : (setting : Setting) (w : World) (i k : ℕ) (c : Coordinator) (books : Books setting w) (is : IsCall w i k c)
    → 1 ≤ (books.calls i k c is).operation.mark → length w.marks ≤ last_of (life_of w.marks (books.calls i k c is).operation.mark)
open_until setting w i k c books is from =
    let its : CallBooks setting w i k c = books.calls i k c is in
    let lived : LifeBooks w its.operation = (books.operations (number_of w i k) its.operation its.operation_is).lived from in
    let last : last_of (life_of w.marks its.operation.mark) ≡ length w.marks
    = open_last w.marks its.operation.mark lived.life
    (λ j mark at. let place = books.places j mark at in omega (arith, place)) lived.life_is (its.unended from lived.life lived.life_is) in
    omega (arith, last)

-- An operation makes its version on another, of which no more is held by a quorum up to its own stamp.
pub record MakesOn (setting : Setting) (views : Views) (w : World) (c : Coordinator) (base : Option Stamp) : Type 0 where
  pub version : Stamp
  pub base_is : base ≡ Some version
  pub op : (bytes : List ℕ) → c.ask.op ≡ WriteStripe bytes → ⊥
  pub below : stamp_below version c.stamp ≡ true
  pub made : IsMadeOrFirst w c.ask.group.0 c.ask.stripe.0 version
  pub blocked : AreBlocked setting views w c.ask.group.0 c.ask.stripe.0 (λ d. (stamp_below version d ≡ true) × (stamp_below d c.stamp ≡ true))

-- a coordinator makes its version of a stripe's bytes, on no base, or on another version
abbrev pub MakesVersion : Setting → Views → World → Coordinator → Option Stamp → Type 0
MakesVersion setting views w c base = ((base ≡ None) × ((bytes : List ℕ) × (c.ask.op ≡ WriteStripe bytes))) ⊎ MakesOn setting views w c base

-- what an operation makes of its base's content
abbrev pub made_content : Setting → World → Coordinator → Option Stamp → List ℕ
made_content setting w c base = content_on setting.layout.block (w.contents c.ask.group.0 c.ask.stripe.0) c.ask.op base

-- the write of a block modifies a version that a quorum has held, by what that block of it changes by
pub record SendsChange (setting : Setting) (views : Views) (w : World) (c : Coordinator) (base : Option Stamp) (phase : Phase) (content : List ℕ) : Type 0 where
  pub version : Stamp
  pub base_is : base ≡ Some version
  pub of : view_of version ≡ c.stamp.view.0
  pub j : ℕ
  pub bytes : List ℕ
  pub phase_is : phase ≡ Modifies version j
  pub op_is : c.ask.op ≡ WriteBlock j bytes
  pub below : stamp_below version c.stamp ≡ true
  pub made : IsMadeOrFirst w c.ask.group.0 c.ask.stripe.0 version
  pub stands : Stands setting views w c.ask.group.0 c.ask.stripe.0 version
  pub formed : IsContent c.group.m setting.layout.block (w.contents c.ask.group.0 c.ask.stripe.0 version)
  pub delta_is : content
      ≡ setting.code.delta (block_of setting.layout.block j (w.contents c.ask.group.0 c.ask.stripe.0 version)) bytes

-- it sends its version whole, or what it changes of its base
abbrev pub SendsVersion : Setting → Views → World → Coordinator → Option Stamp → Phase → List ℕ → Type 0
SendsVersion setting views w c base phase content =
    ((phase ≡ Stores) × (content ≡ made_content setting w c base)) ⊎ SendsChange setting views w c base phase content

module _ (setting : Setting) (views : Views) (sound : IsSound setting) (w : World) (stamps : Stamping) (me : BrickId) (c : Coordinator) (known : ℕ)
    (books : Books setting w) (said : Said setting views w stamps) (is : IsCall w me.0 c.call.seq c)
    (more_known : (w.nodes me.0).known ≤ known) (base : Option Stamp) (phase : Phase) (content : List ℕ) where
  -- its group, and its members
  abbrev group : Group
  group = c.group

  abbrev its : CallBooks setting w me.0 c.call.seq c
  its = books.calls me.0 c.call.seq c is

  abbrev o : Operation
  o = (books.calls me.0 c.call.seq c is).operation

  -- its number
  abbrev n : ℕ
  n = number_of w me.0 c.call.seq

  -- the brick's boot
  abbrev boot : ℕ
  boot = (w.nodes me.0).boot

  -- the operation that made its version
  abbrev made : Operation
  made =
      record {
        brick = o.brick;
        boot = o.boot;
        seq = o.seq;
        begin = o.begin;
        ask = o.ask;
        version = Some c.stamp;
        made = true;
        base = base;
        answered = o.answered;
        mark = o.mark;
        closed = o.closed;
        view = o.view;
        floor = o.floor;
      }

  -- the coordinator in the phase that sends it
  abbrev d : Coordinator
  d =
      record {
        group = c.group;
        prior = c.prior;
        only = c.only;
        ask = c.ask;
        stamp = c.stamp;
        round = c.round;
        base = base;
        content = content;
        call = call_after c phase;
        phase = phase;
        counted = [];
      }

  abbrev node : Node
  node = with_call (w.nodes me.0) known (w.nodes me.0).busy c.call.seq (Some d)

  abbrev more : List Packet
  more = phase_packets setting me d

  -- what its version is given as content
  abbrev given : List ℕ
  given = made_content setting w c base

  abbrev contents : ℕ → ℕ → Stamp → List ℕ
  contents = content_by setting.layout.block w.contents c.stamp base c.ask

  abbrev begun : Begun
  begun = record { stamp = c.stamp; phase = phase }

  -- the stamps after
  abbrev later : Stamping
  later = with_stamp stamps me.0 boot c.call.seq (c.call.phase + 1) begun

  abbrev next : World
  next = operated w me node more w.marks n made contents

  -- the world that the step makes
  next_is : world_stepped setting w me (record { node = node; packets = more; told = Made c.call.seq c.stamp base ∷ []; answers = []; reports = [] }) ≡ next
  next_is =
      ap (λ (x : Option Operation).
      record {
        nodes = put w.nodes me.0 node;
        after = w.after;
        up = w.up;
        clocks = w.clocks;
        packets = w.packets ++ more;
        marks = w.marks;
        marked = w.marked;
        begun = w.begun;
        operations = put w.operations n (with_made c.stamp base x);
        numbers = w.numbers;
        choices = choices_after w.choices me node [];
        past = w.past;
        contents = with_content setting.layout.block w.contents c.stamp base x;
        held = with_held w.held me.0 node;
        replies = w.replies;
        reached = w.reached;
      })
      its.operation_is
      ∙ ap (λ (a : Ask).
      record {
        nodes = put w.nodes me.0 node;
        after = w.after;
        up = w.up;
        clocks = w.clocks;
        packets = w.packets ++ more;
        marks = w.marks;
        marked = w.marked;
        begun = w.begun;
        operations = put w.operations n (Some made);
        numbers = w.numbers;
        choices = choices_after w.choices me node [];
        past = w.past;
        contents = content_by setting.layout.block w.contents c.stamp base a;
        held = with_held w.held me.0 node;
        replies = w.replies;
        reached = w.reached;
      })
      (sym its.ask)

  says : CallSays setting views w stamps me.0 c.call.seq c
  says = said.calls me.0 c.call.seq c is

  its_stamp : IsStamped stamps me.0 boot c.call.seq c.call.phase c.stamp
  its_stamp = (c.phase, says.begun)

  own : IsStamped stamps o.brick.0 o.boot o.seq c.call.phase c.stamp
  own =
      subst (λ (i : ℕ). IsStamped stamps i o.boot o.seq c.call.phase c.stamp) (sym its.brick)
      (subst (λ (b : ℕ). IsStamped stamps me.0 b o.seq c.call.phase c.stamp) (sym its.boot)
      (subst (λ (k : ℕ). IsStamped stamps me.0 boot k c.call.phase c.stamp) (sym its.seq) its_stamp))

  none : (r : ℕ) → c.call.phase + 1 ≤ r → stamps me.0 boot c.call.seq r ≡ None
  none r most = says.last r (omega arith)

  from : ComesFrom stamps me.0 boot c.call.seq c.stamp
  from = inl (c.call.phase, its_stamp)

  grow : StampsGrow stamps later
  grow = stamps_grow stamps me.0 boot c.call.seq (c.call.phase + 1) begun none from

  begun_now : IsBegun later me.0 boot c.call.seq (c.call.phase + 1) phase c.stamp
  begun_now = stamp_now stamps me.0 boot c.call.seq (c.call.phase + 1) begun

  -- the boot stays
  boot_now : (next.nodes me.0).boot ≡ boot
  boot_now = ap (λ (x : Node). x.boot) (put_same w.nodes me.0 node)

  call_group : c.ask.group.0 ≡ c.call.group.0
  call_group = ap (λ g. g.0) (sym its.call_group)

  call_stripe : c.ask.stripe.0 ≡ c.call.stripe.0
  call_stripe = ap (λ s. s.0) (sym its.call_stripe)

  -- its group is that of its stamp's view
  same_group : (g : ℕ) → g ≡ c.ask.group.0 → (other : Group) → group_in setting.layout views g (view_of c.stamp) ≡ Some other → group ≡ other
  same_group g at = call_by setting views w stamps books said me.0 c.call.seq c is g c.stamp at (own_in setting views w stamps books said me.0 c.call.seq c is)

  of_asked : o.ask.group.0 ≡ c.ask.group.0
  of_asked = ap (λ a. a.group.0) (sym its.ask)

  module _ (unmade : (o.version ≡ None) × (o.made ≡ false)) where
    -- no version of its stamp was made
    not_yet : (g s : ℕ) (u : Stamp) → u ≡ c.stamp → IsMadeOrFirst w g s u → ⊥
    not_yet g s u same is_made =
        not_made_yet setting views w stamps books said n o c.call.phase c.stamp its.operation_is unmade.1 own g s
        (subst (λ (t : Stamp). IsMadeOrFirst w g s t) same is_made)

    -- the contents of versions stay
    kept : (g s : ℕ) (u : Stamp) → IsMadeOrFirst w g s u → contents g s u ≡ w.contents g s u
    kept =
        put_each (λ h row. (r : ℕ) (u : Stamp) → IsMadeOrFirst w h r u → row r u ≡ w.contents h r u) w.contents c.ask.group.0
        (put (w.contents c.ask.group.0) c.ask.stripe.0 (λ u. cond (stamp_same u c.stamp) given (w.contents c.ask.group.0 c.ask.stripe.0 u)))
        (put_each (λ r cell. (u : Stamp) → IsMadeOrFirst w c.ask.group.0 r u → cell u ≡ w.contents c.ask.group.0 r u)
        (w.contents c.ask.group.0) c.ask.stripe.0
        (λ u. cond (stamp_same u c.stamp) given (w.contents c.ask.group.0 c.ask.stripe.0 u))
        (λ u is_made. cond_both (stamp_same u c.stamp) given (w.contents c.ask.group.0 c.ask.stripe.0 u)
        (λ (z : List ℕ). z ≡ w.contents c.ask.group.0 c.ask.stripe.0 u)
        (λ same. absurd (not_yet c.ask.group.0 c.ask.stripe.0 u (stamp_same_true u c.stamp same) is_made))
        (λ other. refl))
        (λ r other u is_made. refl))
        (λ h other r u is_made. refl)

    -- the content of its version
    given_now : contents c.ask.group.0 c.ask.stripe.0 c.stamp ≡ given
    given_now =
        ap (λ row. row c.ask.stripe.0 c.stamp)
        (put_same w.contents c.ask.group.0
        (put (w.contents c.ask.group.0) c.ask.stripe.0 (λ u. cond (stamp_same u c.stamp) given (w.contents c.ask.group.0 c.ask.stripe.0 u))))
        ∙ ap (λ cell. cell c.stamp)
        (put_same (w.contents c.ask.group.0) c.ask.stripe.0 (λ u. cond (stamp_same u c.stamp) given (w.contents c.ask.group.0 c.ask.stripe.0 u)))
        ∙ cond-true (stamp_same c.stamp c.stamp) given (w.contents c.ask.group.0 c.ask.stripe.0 c.stamp) (stamp_same_refl c.stamp)

    keeps : OperatedKeeps w me node w.marks n o made contents
    keeps = record {
      places = (refl, refl, refl);
      boot = refl;
      job = refl;
      is = its.operation_is;
      continues = record {
        brick = refl;
        boot = refl;
        seq = refl;
        begin = refl;
        ask = refl;
        view = refl;
        floor = refl;
        version = λ v has. let e : Some v ≡ None = sym has ∙ unmade.0 in cc;
        made = λ v has. let e : Some v ≡ None = sym has ∙ unmade.0 in cc;
        base = λ v has. let e : Some v ≡ None = sym has ∙ unmade.0 in cc;
        answered = λ is. is;
        mark = refl;
      };
      kept = kept;
      longer = omega arith;
      lasts = λ a. omega arith;
      unended = λ from. open_until setting w me.0 c.call.seq c books is from;
    }

    grows : Grows w next stamps later
    grows = operated_grows setting views w stamps later me node more w.marks n o made contents keeps said.logged grow

    -- the version was made
    made_now : IsMadeOrFirst next o.ask.group.0 o.ask.stripe.0 c.stamp
    made_now = inr (n, made, put_same w.operations n (Some made), refl, refl, refl, refl)

    module _ (guarded : IsGuarded w c.ask.group.0 c.ask.stripe.0 group c.stamp) (floors : FloorsAtMost o group c.stamp)
        (makes : MakesVersion setting views w c base) (formed : IsContent group.m setting.layout.block given)
        (sends : SendsVersion setting views w c base phase content) where
      guarded_by : (other : Group) → group ≡ other → IsGuarded next c.ask.group.0 c.ask.stripe.0 other c.stamp
      guarded_by other same =
          stays_guarded setting views w next stamps later books grows c.ask.group.0 c.ask.stripe.0 other c.stamp
          (subst (λ (z : Group). IsGuarded w c.ask.group.0 c.ask.stripe.0 z c.stamp) same guarded)

      -- the content that an operation makes of its base's
      given_on : (v : Stamp) → base ≡ Some v → given ≡ after_op setting.layout.block c.ask.op (w.contents c.ask.group.0 c.ask.stripe.0 v)
      given_on v is = ap (λ (z : Option Stamp). content_on setting.layout.block (w.contents c.ask.group.0 c.ask.stripe.0) c.ask.op z) is

      -- and that is its version's, made of what is its base's then
      made_on : (v : Stamp) → base ≡ Some v → IsMadeOrFirst w c.ask.group.0 c.ask.stripe.0 v
          → contents c.ask.group.0 c.ask.stripe.0 c.stamp ≡ after_op setting.layout.block c.ask.op (contents c.ask.group.0 c.ask.stripe.0 v)
      made_on v is v_made =
          given_now ∙ given_on v is
          ∙ ap (λ (z : List ℕ). after_op setting.layout.block c.ask.op z) (sym (kept c.ask.group.0 c.ask.stripe.0 v v_made))

      -- how its version was made
      maker_of : (a : Ask) → c.ask ≡ a → MakesVersion setting views w c base
          → WritesWhole next (record made { ask = a }) c.stamp ⊎ ReadsBack setting views next (record made { ask = a }) c.stamp
      maker_of a same (inl whole) =
          let bytes_are : contents c.ask.group.0 c.ask.stripe.0 c.stamp ≡ whole.1.0
          = given_now
          ∙ ap (λ (z : Option Stamp). content_on setting.layout.block (w.contents c.ask.group.0 c.ask.stripe.0) c.ask.op z) whole.0
          ∙ ap (λ (op : Op). content_on setting.layout.block (w.contents c.ask.group.0 c.ask.stripe.0) op None) whole.1.1 in
          inl (
            whole.0,
            ap (λ (z : Ask). z.op) (sym same) ∙ whole.1.1
                ∙ ap (λ (bytes : List ℕ). WriteStripe bytes) (sym bytes_are ∙ ap (λ (z : Ask). contents z.group.0 z.stripe.0 c.stamp) same),
          )
      maker_of a same (inr back) = inr (subst
          (λ (z : Ask). ReadsBack setting views next (record made { ask = z }) c.stamp) same
          (record {
            base = back.version;
            base_is = back.base_is;
            op = back.op;
            below = back.below;
            made = stays_made setting views w next stamps later books grows c.ask.group.0 c.ask.stripe.0 back.version back.made;
            content = made_on back.version back.base_is back.made;
            blocked = stay_blocked setting views w next stamps later books grows c.ask.group.0 c.ask.stripe.0
                (λ e. (stamp_below back.version e ≡ true) × (stamp_below e c.stamp ≡ true)) back.blocked;
          }))

      operation_says : OperationSays setting views next later n made
      operation_says =
          let old : OperationSays setting views next later n o
          = stays_operation setting views w next stamps later books grows n o its.operation_is (said.operations n o its.operation_is) in
          record {
            begin = old.begin;
            view = old.view;
            passed = old.passed;
            floors = old.floors;
            floors_known = old.floors_known;
            fresh = old.fresh;
            made = λ is_made. (c.stamp, c.call.phase, refl, stays_stamped stamps later grow o.brick.0 o.boot o.seq c.call.phase c.stamp own);
            maker = λ v is_made has.
                let same : c.stamp ≡ v = cc in
                subst (λ (t : Stamp). WritesWhole next made t ⊎ ReadsBack setting views next made t) same (maker_of o.ask its.ask makes);
            content = λ v is_made has other other_is.
                let same : c.stamp ≡ v = cc in
                subst (λ (t : Stamp). IsContent other.m setting.layout.block (contents o.ask.group.0 o.ask.stripe.0 t)) same
                (subst (λ (a : Ask). IsContent other.m setting.layout.block (contents a.group.0 a.stripe.0 c.stamp)) its.ask
                (subst (λ (l : List ℕ). IsContent other.m setting.layout.block l) (sym given_now)
                (subst (λ (m : ℕ). IsContent m setting.layout.block given)
                (sym (m_is setting views w stamps books said me.0 c.call.seq c is o.ask.group.0 other of_asked other_is)) formed)));
            stands = λ v has how. ⊎_elim
                (λ (isnt : true ≡ false). absurd (true≢false isnt))
                (λ (answered : o.answered ≡ true). absurd (true≢false (sym answered ∙ its.unanswered)))
                how;
            version = λ v has.
                let same : c.stamp ≡ v = cc in
                subst (λ (t : Stamp). HasVersion setting views next made t) same (record {
                  made = made_now;
                  of = own_in setting views w stamps books said me.0 c.call.seq c is ∙ sym its.stamp_view;
                  reader = λ isnt. absurd (true≢false isnt);
                  guarded = λ other other_is.
                      subst (λ (a : Ask). IsGuarded next a.group.0 a.stripe.0 other c.stamp) its.ask
                      (guarded_by other (same_group o.ask.group.0 of_asked other other_is));
                  floors = λ other other_is.
                      subst (λ (z : Group). FloorsAtMost o z c.stamp)
                      (same_group o.ask.group.0 of_asked other other_is) floors;
                });
            answered = λ answered writes. refl;
          }

      -- a phase that sends a version does not look back: it asks the operation's members
      sending_ahead : SendsVersion setting views w c base phase content → looks_back phase ≡ false
      sending_ahead (inl whole) = ap looks_back whole.0
      sending_ahead (inr change) = ap looks_back change.phase_is

      sending_view : SendsVersion setting views w c base phase content → d.call.view.0 ≡ c.stamp.view.0
      sending_view sent = ap (λ (b : Bool). (if b then record { 0 = c.stamp.view.0 - 1 } else c.stamp.view).0) (sending_ahead sent)

      -- the seat of a member
      seat_of : (k : ℕ) (member : BrickId) → slice_get group.members k ≡ Some member → seat_in group.members member.0 ≡ Some k
      seat_of k member at = seat_of_member group.members k member (said.distinct c.call.group.0 c.stamp.view.0 group says.group) at

      -- the group of the call, and a seat in it
      call_group_is : (other : Group) → group_in setting.layout views c.call.group.0 d.call.view.0 ≡ Some other → group ≡ other
      call_group_is other other_is =
          same_Some group other (sym says.group ∙ sym (ap (λ (e : ℕ). group_in setting.layout views c.call.group.0 e) (sending_view sends)) ∙ other_is)

      seat_same : (k j : ℕ) (member : BrickId) (other : Group) → slice_get group.members k ≡ Some member
          → group_in setting.layout views c.call.group.0 d.call.view.0 ≡ Some other → seat_in other.members member.0 ≡ Some j → k ≡ j
      seat_same k j member other at other_is at_j =
          same_Some k j (sym (seat_of k member at) ∙ (ap (λ (z : Group). seat_in z.members member.0) (call_group_is other other_is) ∙ at_j))

      -- what concerns the stripe that is asked concerns the call's
      of_call : (P : ℕ → ℕ → Type 0) → P c.ask.group.0 c.ask.stripe.0 → P c.call.group.0 c.call.stripe.0
      of_call P h = subst (λ (g : ℕ). P g c.call.stripe.0) call_group (subst (λ (s : ℕ). P c.ask.group.0 s) call_stripe h)

      -- a request to a member to store the version
      maker_says : (k : ℕ) (member : BrickId) → slice_get group.members k ≡ Some member
          → MakerSays setting views next later me.0 member.0 d.call phase c.stamp
      maker_says k member at = record {
        operation = made;
        called = record {
          is = subst (λ (b : ℕ). IsOperation next (w.numbers me.0 b c.call.seq) made) (sym its.call_boot)
              (put_same w.operations n (Some made));
          brick = its.brick;
          boot = its.boot ∙ sym its.call_boot;
          seq = its.seq;
          group = ap (λ a. a.group.0) (sym its.ask) ∙ call_group;
          stripe = ap (λ a. a.stripe.0) (sym its.ask) ∙ call_stripe;
        };
        begun = subst (λ (b : ℕ). IsBegun later me.0 b c.call.seq (c.call.phase + 1) phase c.stamp) (sym its.call_boot) begun_now;
        made = refl;
        version = refl;
        member = λ other other_is.
            (k, subst (λ (z : Group). seat_in z.members member.0 ≡ Some k) (call_group_is other other_is) (seat_of k member at));
        guarded = λ other other_is.
            of_call (λ g s. IsGuarded next g s other c.stamp) (guarded_by other (same_group c.call.group.0 (sym call_group) other other_is));
      }

      -- a write to a member
      write_says : (k : ℕ) (member : BrickId) → slice_get group.members k ≡ Some member → phase ≡ Stores → content ≡ given
          → WriteSays setting views next later me.0 member.0 d.call c.stamp (setting.code.encode group.m content (0 + k))
      write_says k member at stores whole = record {
        maker = subst (λ (p : Phase). MakerSays setting views next later me.0 member.0 d.call p c.stamp) stores (maker_says k member at);
        is_block = λ other j other_is at_j.
            let place : k ≡ j = seat_same k j member other at other_is at_j in
            let zero : 0 + k ≡ j = omega arith in
            let told : content ≡ contents c.call.group.0 c.call.stripe.0 c.stamp
            = of_call (λ g s. content ≡ contents g s c.stamp) (whole ∙ sym given_now) in
            ap (λ (z : Group). setting.code.encode z.m content (0 + k)) (call_group_is other other_is)
            ∙ ap (λ (z : List ℕ). setting.code.encode other.m z (0 + k)) told
            ∙ ap (setting.code.encode other.m (contents c.call.group.0 c.call.stripe.0 c.stamp)) zero;
      }

      -- what the write of a block changes at a seat
      module _ (change : SendsChange setting views w c base phase content) where
        abbrev size : ℕ
        size = setting.layout.block

        abbrev before : List ℕ
        before = w.contents c.ask.group.0 c.ask.stripe.0 change.version

        abbrev after : List ℕ
        after = with_block size change.j change.bytes before

        before_formed : IsContent group.m size before
        before_formed = change.formed

        -- the write's block is one of m, and is a block
        asked_fits : (change.j < group.m) × (length change.bytes ≡ size) × (are_bytes change.bytes ≡ true)
        asked_fits =
            let o_books : OperationBooks setting w n o = books.operations n o its.operation_is in
            let same : o_books.group.m ≡ group.m
            = m_is setting views w stamps books said me.0 c.call.seq c is o.ask.group.0 o_books.group of_asked o_books.group_is in
            let op : o.ask.op ≡ WriteBlock change.j change.bytes = ap (λ a. a.op) (sym its.ask) ∙ change.op_is in
            let has : has_block group.m (WriteBlock change.j change.bytes) ≡ true
            = subst (λ (m : ℕ). has_block m (WriteBlock change.j change.bytes) ≡ true) same
            (subst (λ (x : Op). has_block o_books.group.m x ≡ true) op o_books.block_fits) in
            let long : has_length group.m size (WriteBlock change.j change.bytes) ≡ true
            = subst (λ (m : ℕ). has_length m size (WriteBlock change.j change.bytes) ≡ true) same
            (subst (λ (x : Op). has_length o_books.group.m size x ≡ true) op o_books.length_fits) in
            let parts = and_parts (are_bytes change.bytes) (nat_eq (length change.bytes) size) long in
            (ltb-true change.j group.m has, eqb-true (length change.bytes) size parts.1, parts.0)

        fits : change.j * size + size ≤ length before
        fits = let room = block_room change.j group.m size asked_fits.0 in omega (arith, room, before_formed.0)

        given_after : given ≡ after
        given_after = given_on change.version change.base_is ∙ ap (λ (x : Op). after_op size x before) change.op_is

        limits : IsWithinLimits group.m (length group.members)
        limits = said.limits c.call.group.0 c.stamp.view.0 group says.group

        -- a seat's block of the base becomes that of the version
        changes_seat : (seat : ℕ) → seat < length group.members
            → modified_block setting.code group.m change.j seat (delta_at group.m change.j seat content) (setting.code.encode group.m before seat)
            ≡ setting.code.encode group.m after seat
        changes_seat seat within = by (is_changed group.m change.j seat) refl
          where
            other_seat : is_changed group.m change.j seat ≡ false → (seat < group.m) × (seat ≢ change.j)
            other_seat isnt =
                let parts = or_parts (nat_eq seat change.j) (not (nat_lt seat group.m)) isnt in
                (ltb-true seat group.m (not-false (nat_lt seat group.m) parts.1), eqb-false seat change.j parts.0)

            by : (b : Bool) → is_changed group.m change.j seat ≡ b
                → cond b (setting.code.modify group.m change.j seat (cond b content []) (setting.code.encode group.m before seat))
                (setting.code.encode group.m before seat)
                ≡ setting.code.encode group.m after seat
            by true is =
                ap (λ (z : List ℕ). setting.code.modify group.m change.j seat z (setting.code.encode group.m before seat)) change.delta_is
                ∙ sound.modifies group.m (length group.members) limits before change.bytes change.j seat before_formed.0 before_formed.1
                asked_fits.1 asked_fits.2 asked_fits.0 within
            by false isnt =
                let other = other_seat isnt in
                let inside : seat * size + size ≤ length before
                = (let room = block_room seat group.m size other.0 in omega (arith, room, before_formed.0)) in
                sound.keeps group.m (length group.members) limits before seat before_formed.0 before_formed.1 other.0
                ∙ sym (block_other size change.j change.bytes before fits asked_fits.1 seat other.1 inside)
                ∙ sym (sound.keeps group.m (length group.members) limits after seat
                (subst (λ (l : List ℕ). length l ≡ group.m * size) given_after formed.0)
                (subst (λ (l : List ℕ). are_bytes l ≡ true) given_after formed.1) other.0)

        -- by contents as they are then
        before_now : contents c.ask.group.0 c.ask.stripe.0 change.version ≡ before
        before_now = kept c.ask.group.0 c.ask.stripe.0 change.version change.made

        after_now : contents c.ask.group.0 c.ask.stripe.0 c.stamp ≡ after
        after_now = given_now ∙ given_after

        new_block : block_of size change.j after ≡ change.bytes
        new_block = block_same size change.j change.bytes before fits asked_fits.1

        is_modified : IsModified setting next c.ask.group.0 c.ask.stripe.0 c.stamp change.version change.j content
        is_modified = record {
          delta_is = change.delta_is
              ∙ ap (λ (z : List ℕ). setting.code.delta (block_of size change.j z) change.bytes) (sym before_now)
              ∙ ap (λ (z : List ℕ). setting.code.delta (block_of size change.j (contents c.ask.group.0 c.ask.stripe.0 change.version)) z)
              (sym new_block ∙ ap (block_of size change.j) (sym after_now));
          others = after_now
              ∙ ap (λ (z : List ℕ). with_block size change.j z before) (sym new_block ∙ ap (block_of size change.j) (sym after_now))
              ∙ ap (λ (z : List ℕ). with_block size change.j (block_of size change.j (contents c.ask.group.0 c.ask.stripe.0 c.stamp)) z) (sym before_now);
        }

        changes_block : (seat : ℕ) → seat < length group.members
            → ChangesBlock setting next c.ask.group.0 c.ask.stripe.0 c.stamp change.version change.j (delta_at group.m change.j seat content) group seat
        changes_block seat within = record {
          delta = content;
          sent_is = refl;
          is = is_modified;
          makes = ap (λ (z : List ℕ). modified_block setting.code group.m change.j seat (delta_at group.m change.j seat content)
              (setting.code.encode group.m z seat)) before_now
              ∙ changes_seat seat within ∙ ap (λ (z : List ℕ). setting.code.encode group.m z seat) (sym after_now);
        }

        -- a modification that is sent to a member
        modify_says : (k : ℕ) (member : BrickId) → slice_get group.members k ≡ Some member
            → ModifySays setting views next later me.0 member.0 d.call c.stamp change.version change.j (delta_at group.m change.j (0 + k) content)
        modify_says k member at = record {
          maker = subst (λ (p : Phase). MakerSays setting views next later me.0 member.0 d.call p c.stamp) change.phase_is (maker_says k member at);
          base_made = of_call (λ g s. IsMadeOrFirst next g s change.version)
              (stays_made setting views w next stamps later books grows c.ask.group.0 c.ask.stripe.0 change.version change.made);
          changes = λ other seat other_is at_seat.
              let place : k ≡ seat = seat_same k seat member other at other_is at_seat in
              let zero : seat ≡ 0 + k = omega arith in
              let within : seat < length group.members = seat_within group member.0 seat (seat_of k member at ∙ ap (λ (i : ℕ). Some i) place) in
              let sent : delta_at group.m change.j seat content ≡ delta_at group.m change.j (0 + k) content
              = ap (λ (i : ℕ). delta_at group.m change.j i content) zero in
              subst (λ (z : Group). ChangesBlock setting next c.call.group.0 c.call.stripe.0 c.stamp change.version change.j
              (delta_at group.m change.j (0 + k) content) z seat) (call_group_is other other_is)
              (subst (λ (l : List ℕ). ChangesBlock setting next c.call.group.0 c.call.stripe.0 c.stamp change.version change.j l group seat) sent
              (of_call (λ g s. ChangesBlock setting next g s c.stamp change.version change.j (delta_at group.m change.j seat content) group seat)
              (changes_block seat within)));
        }

        -- what is known of its base then
        made_on_base : MadeOn setting views next d change.version
        made_on_base = record {
          base_is = change.base_is;
          of = change.of;
          below = change.below;
          base_made = stays_made setting views w next stamps later books grows c.ask.group.0 c.ask.stripe.0 change.version change.made;
          stands = stays_standing setting views w next stamps later books grows c.ask.group.0 c.ask.stripe.0 change.version change.stands;
          made = subst (λ (a : Ask). IsMadeOrFirst next a.group.0 a.stripe.0 c.stamp) (sym its.ask) made_now;
          content = made_on change.version change.base_is change.made;
        }

      -- the coordinator in a phase
      abbrev d_in : Phase → Coordinator
      d_in p =
          record { group = c.group; prior = c.prior; only = c.only; ask = c.ask; stamp = c.stamp; round = c.round; base = base; content = content; call = call_after c p; phase = p; counted = [] }

      request_says : (k : ℕ) (member : BrickId) → slice_get group.members k ≡ Some member → SendsVersion setting views w c base phase content
          → RequestSays setting views next later me.0 member.0 d.call (request_of setting.code d (0 + k))
      unfolding request_of
      request_says k member at (inl whole) =
          subst (λ (p : Phase). RequestSays setting views next later me.0 member.0 d.call (request_of setting.code (d_in p) (0 + k))) (sym whole.0)
          (write_says k member at whole.0 whole.1)
      request_says k member at (inr change) =
          subst (λ (p : Phase). RequestSays setting views next later me.0 member.0 d.call (request_of setting.code (d_in p) (0 + k))) (sym change.phase_is)
          (modify_says change k member at)

      packets : (k : ℕ) (packet : Packet) → slice_get more k ≡ Some packet → PacketSays setting views next later packet
      packets k packet at =
          let sent = sent_to_member me d.call (request_of setting.code d) 0 (asked_group d).members k packet at in
          subst (λ (z : Packet). PacketSays setting views next later z) (sym sent.2)
          (request_says k sent.0 (ap (λ (z : Group). slice_get z.members k) (sym (ahead_group d (sending_ahead sends))) ∙ sent.1) sends)

      -- a phase that sends a version
      abbrev IsSending : Phase → Type 0
      IsSending (Modifies v j) = Unit {0}
      IsSending Stores = Unit {0}
      IsSending p = ⊥

      is_sending : SendsVersion setting views w c base phase content → IsSending phase
      is_sending (inl whole) = subst (λ (p : Phase). IsSending p) (sym whole.0) tt
      is_sending (inr change) = subst (λ (p : Phase). IsSending p) (sym change.phase_is) tt

      other_phase : (p : Phase) → phase ≡ p → IsSending p
      other_phase p is = subst (λ (q : Phase). IsSending q) is (is_sending sends)

      fits_phase : SendsVersion setting views w c base phase content → FitsPhase phase c.ask.op
      fits_phase (inl whole) = subst (λ (p : Phase). FitsPhase p c.ask.op) (sym whole.0) tt
      fits_phase (inr change) = subst (λ (p : Phase). FitsPhase p c.ask.op) (sym change.phase_is) (change.bytes, change.op_is)

      stored_content : SendsVersion setting views w c base phase content → phase ≡ Stores → content ≡ contents c.ask.group.0 c.ask.stripe.0 c.stamp
      stored_content (inl whole) stores = whole.1 ∙ sym given_now
      stored_content (inr change) stores = let bad : Modifies change.version change.j ≡ Stores = sym change.phase_is ∙ stores in cc

      based_on : SendsVersion setting views w c base phase content → (v : Stamp) → base_in phase ≡ Some v → MadeOn setting views next d v
      based_on (inl whole) v has = let bad : None ≡ Some v = ap base_in (sym whole.0) ∙ has in cc
      based_on (inr change) v has =
          let same : Some change.version ≡ Some v = ap base_in (sym change.phase_is) ∙ has in
          subst (λ (t : Stamp). MadeOn setting views next d t) (same_Some change.version v same) (made_on_base change)

      not_bounded : (p : Phase) (bound : Stamp) → phase ≡ p → bound_in p c.stamp ≡ Some bound → ⊥
      not_bounded (Descends b) bound same has = other_phase (Descends b) same
      not_bounded (LooksBack b) bound same has = other_phase (LooksBack b) same
      not_bounded p bound same has = cc

      d_says : CallSays setting views next later me.0 c.call.seq d
      d_says = record {
        group = says.group;
        prior = says.prior;
        begun = subst (λ (b : ℕ). IsBegun later me.0 b c.call.seq (c.call.phase + 1) phase c.stamp) (sym boot_now) begun_now;
        last = λ p less.
            subst (λ (b : ℕ). later me.0 b c.call.seq p ≡ None) (sym boot_now)
            (stamp_last stamps me.0 boot c.call.seq (c.call.phase + 1) begun none from p less);
        asked = phase_asked setting next me d w.packets refl;
        fits = fits_phase sends;
        unbased = λ orders. absurd (other_phase Orders orders);
        given = λ orders. absurd (other_phase Orders orders);
        above = λ bound descends. absurd (other_phase (Descends bound) descends);
        from = record {
          most = λ bound descends. absurd (other_phase (Descends bound) descends);
          lower = λ bound descends reads. absurd (other_phase (Descends bound) descends);
        };
        back = λ bound looks. absurd (other_phase (LooksBack bound) looks);
        covered = λ bound has. absurd (not_bounded phase bound refl has);
        stores = λ stores. (subst (λ (a : Ask). IsMadeOrFirst next a.group.0 a.stripe.0 c.stamp) (sym its.ask) made_now, stored_content sends stores);
        based = based_on sends;
        counted = tt;
        once = tt;
      }

      calls : (k : ℕ) (e : Coordinator) → node.calls k ≡ Some e
          → (((w.nodes me.0).calls k ≡ Some e) × KeepsStamps stamps later me.0 boot k) ⊎ CallSays setting views next later me.0 k e
      calls k e =
          put_each (λ j x. x ≡ Some e
          → (((w.nodes me.0).calls j ≡ Some e) × KeepsStamps stamps later me.0 boot j) ⊎ CallSays setting views next later me.0 j e)
          (w.nodes me.0).calls c.call.seq (Some d)
          (λ at. let same : d ≡ e = cc in inr (subst (λ (z : Coordinator). CallSays setting views next later me.0 c.call.seq z) same d_says))
          (λ j other at. inl (at, stamps_other stamps me.0 boot c.call.seq (c.call.phase + 1) begun me.0 boot j (λ brick same. other same))) k

      -- what the stamps then say
      say : StampsSay next later
      say =
          let at : IsStampOf (w.nodes me.0) me.0 boot c.stamp = said.stamps_say.are me.0 boot c.call.seq c.call.phase c.stamp its_stamp in
          let was = said.stamps_say.begun me.0 boot c.call.seq c.call.phase c.stamp its_stamp in
          let ages : Ages (w.nodes me.0) node = ages_within (w.nodes me.0) node refl more_known (omega arith) in
          stamps_say stamps me.0 boot c.call.seq (c.call.phase + 1) begun none from w next said.stamps_say (ages_by w next me.0 node refl ages)
          (subst (λ (x : Node). IsStampOf x me.0 boot c.stamp) (sym (put_same w.nodes me.0 node))
          (stamp_stays (w.nodes me.0) node me.0 boot c.stamp ages at)) was.0
          (λ now.
          let most : c.call.seq ≤ (w.nodes me.0).seq = was.1 refl in
          let seq : (next.nodes me.0).seq ≡ (w.nodes me.0).seq = ap (λ (x : Node). x.seq) (put_same w.nodes me.0 node) in
          omega arith)

      -- the invariant holds when a version was made
      pub said_made : IsSaid setting views
          (world_stepped setting w me (record { node = node; packets = more; told = Made c.call.seq c.stamp base ∷ []; answers = []; reports = [] }))
      said_made =
          subst (λ (z : World). IsSaid setting views z) (sym next_is) (
            later,
            said_operated setting views w stamps later me node more w.marks n o made contents books said grow keeps
                (record {
                  stamps_say = say;
                  stamps_other = λ i b k other.
                      stamps_other stamps me.0 boot c.call.seq (c.call.phase + 1) begun i b k (λ brick same. other brick);
                  operation = operation_says;
                  calls = calls;
                  packets = packets;
                  ends = λ k q a answer at. inl at;
                }),
          )
