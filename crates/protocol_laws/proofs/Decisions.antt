-- What the replies that count show of the operation, when they are a quorum.
use Rattle.protocol.specs.declared.phases.Refuser.{Refuser}
use Rattle.protocol.specs.Views.{Views, group_in, view_of, floor_of}
use Rattle.protocol_laws.proofs.Blocking.{blocked_never_stands}
use Rattle.fab_base.specs.declared.asks.Ask.{Ask}
use Rattle.protocol_laws.proofs.OwnStamps.{maker_stamp, operation_unique, m_is, asked_is, asked_in, asked_m, back_is}
use Rattle.std.proofs.Common.{◌≡◌, ℕ, zero, suc, ◌-◌, ◌*◌, ◌/◌, ◌<◌, ◌≤◌, ◌⊎◌, inl, inr, true, false, not, List, [], ◌∷◌, length, replicate, Option, Some, None, refl, sym, ap, ◌∙◌, subst, ⊎_elim, arith, Bool}
use Rattle.std.specs.Prelude.{nat_eq, if◌then◌else◌}
use Rattle.std.specs.Option.{option_map}
use Rattle.std.proofs.lemmas.Bool.{false≢true, not_from_false, and_parts, eqb-true, eq-eqb, cond-true, cases_Bool}
use Rattle.std.proofs.lemmas.Option.{same_Some}
use Rattle.std.proofs.lemmas.List.{length-replicate}
use Rattle.fab_base.specs.declared.identities.BrickId.{BrickId}
use Rattle.fab_base.specs.declared.stamps.Stamp.{Stamp}
use Rattle.fab_base.specs.Stamps.{stamp_below, stamp_same}
use Rattle.fab_base.proofs.StampOrder.{stamp_below_irrefl, stamp_not_below_trans, stamp_same_true, stamp_neither_below}
use Rattle.messages.specs.declared.calls.Call.{Call}
use Rattle.messages.specs.declared.packets.Message.TheVariants as Message
use Rattle.messages.specs.declared.requests.Version.{Version}
use Rattle.messages.specs.declared.requests.Look.{Look}
use Rattle.messages.specs.declared.requests.Look.TheVariants.{Below, At}
use Rattle.messages.specs.declared.requests.Want.{Want}
use Rattle.messages.specs.declared.requests.Want.TheVariants.{Seat, All}
use Rattle.messages.specs.declared.requests.Request.{Request}
use Rattle.messages.specs.declared.replies.Reply.{Reply}
use Rattle.quorum.specs.Quorums.{IsWithinLimits}
use Rattle.reg_model.specs.Registers.{zero_registers, block_of}
use Rattle.fab_base.specs.Layouts.{Group, group_of, seat_in}
use Rattle.quorum.specs.Quorums.{quorum_of}
use Rattle.protocol.specs.Settings.{Setting, IsSound, are_bytes}
use Rattle.protocol.specs.Replicas.{stamp_max, is_wanted}
use Rattle.protocol.specs.declared.phases.Counted.{Counted}
use Rattle.protocol.specs.declared.phases.Phase.{Phase}
use Rattle.protocol.specs.declared.phases.Phase.TheVariants.{Looks, LooksAt, Orders, OrdersAt, Recovers, Descends, Modifies, Bases, Stores, LooksBack}
use Rattle.protocol.specs.Coordinators.{Coordinator, may_be_found, may_be_base, told_length, answers_phase, told_in, told_stamp, bytes_of, bytes_at, has_seat, is_behind, some_behind, refuser_of, greatest_refuser, full_member_of, mover_of, fast_version, found_bytes, pieces_of, asked_group, looks_back, old_bound, dropper_of, greater_refuser}
use Rattle.protocol.specs.Worlds.{World, Operation, zero_content, number_of}
use Rattle.fab_base.specs.Layouts.{brick_at}
use Rattle.protocol_laws.specs.Laws.{AtQuorum, stamp_stored, IsGuarded, IsBlocked, top_in}
use Rattle.protocol_laws.proofs.Books.{Books, CallBooks, IsOperation, IsCall, IsMade, MadeInPhase, OperationBooks}
use Rattle.protocol_laws.proofs.Logs.{IsWithin}
use Rattle.protocol_laws.proofs.Said.{Stamping, Said, IsBegun, IsMadeOrFirst, FloorsAtMost, IsCalled, OrderedSays, OrderedReadSays, FoundSays, ReplySays, CountedSays, EachCounted, AreOnce, IsBlockOf, RequestSays, look_of, want_of, is_looked, IsPassedOver, CollectSays, Stands, IsStamped, WritesWhole, ReadsBack, OldSays, bound_in, ToldSays}
use Rattle.fab_base.proofs.Seats.{seat_within, brick_at_seat}
use Rattle.protocol_laws.proofs.Reactions.{max_right, max_most}
use Rattle.protocol_laws.proofs.Stampings.{begun_once}
use Rattle.protocol_laws.proofs.Counting.{each_then, each_both, at_quorum, TellsVersion, fast_each, none_refuses, none_full, IsPieceOf, are_pieces, pieces_length, none_behind, bytes_reply, NoneStops, none_moved, none_dropped}
use Rattle.protocol.proofs.Blocks.{IsContent}

-- zeros are bytes
zero_bytes : (n : ℕ) → are_bytes (replicate n 0) ≡ true
zero_bytes zero = refl
zero_bytes (suc n) = zero_bytes n

-- the version that was found in view e, by the operation of a read
pub record FoundAt (setting : Setting) (views : Views) (w : World) (e j : ℕ) (o : Operation) (order : Stamp) (version : Version) : Type 0 where
  pub top : stamp_below (top_in w o.ask.group.0 o.ask.stripe.0 j) (stamp_max order version.stamp) ≡ false
  pub floor : stamp_below (stamp_max order version.stamp) (o.floor j) ≡ false
  pub held : w.held j o.ask.group.0 o.ask.stripe.0 version.stamp ≡ true
  pub made : IsMadeOrFirst w o.ask.group.0 o.ask.stripe.0 version.stamp
  pub of : view_of version.stamp ≡ e
  pub block : (group : Group) (seat : ℕ) → group_in setting.layout views o.ask.group.0 e ≡ Some group → seat_in group.members j ≡ Some seat
      → (version.block ≡ []) ⊎ (version.block ≡ setting.code.encode group.m (w.contents o.ask.group.0 o.ask.stripe.0 version.stamp) seat)

found_at : (setting : Setting) (views : Views) (w : World) (stamps : Stamping) (j i : ℕ) (call : Call) (o : Operation) (order : Stamp) (version : Version)
    → IsOperation w (w.numbers i call.boot call.seq) o → FoundSays setting views w stamps j i call order version → FoundAt setting views w call.view.0 j o order version
found_at setting views w stamps j i call o order version is says =
    let same : says.operation ≡ o = (let e : Some says.operation ≡ Some o = sym says.called.is ∙ is in cc) in
    let group : o.ask.group.0 ≡ call.group.0 = ap (λ (p : Operation). p.ask.group.0) (sym same) ∙ says.called.group in
    let stripe : o.ask.stripe.0 ≡ call.stripe.0 = ap (λ (p : Operation). p.ask.stripe.0) (sym same) ∙ says.called.stripe in
    let come : top_in w o.ask.group.0 o.ask.stripe.0 j ≡ top_in w call.group.0 call.stripe.0 j
    = ap (λ (g : ℕ). top_in w g o.ask.stripe.0 j) group ∙ ap (λ (s : ℕ). top_in w call.group.0 s j) stripe in
    record {
      top = subst (λ (t : Stamp). stamp_below t (stamp_max order version.stamp) ≡ false) (sym come) says.top;
      floor = subst (λ (p : Operation). stamp_below (stamp_max order version.stamp) (p.floor j) ≡ false) same says.floor;
      held = subst (λ (g : ℕ). w.held j g o.ask.stripe.0 version.stamp ≡ true) (sym group)
          (subst (λ (s : ℕ). w.held j call.group.0 s version.stamp ≡ true) (sym stripe) says.held);
      made = subst (λ (g : ℕ). IsMadeOrFirst w g o.ask.stripe.0 version.stamp) (sym group)
          (subst (λ (s : ℕ). IsMadeOrFirst w call.group.0 s version.stamp) (sym stripe) says.says.made);
      of = says.says.of;
      block = λ its seat its_is at. ⊎_elim
          (λ (none : version.block ≡ []). inl none)
          (λ (block : IsBlockOf setting views w call.group.0 call.view.0 call.stripe.0 j version.stamp version.block).
          inr (block its seat (ap (λ (g : ℕ). group_in setting.layout views g call.view.0) (sym group) ∙ its_is) at
          ∙ ap (λ content. setting.code.encode its.m content seat)
          (ap (λ (g : ℕ). w.contents g call.stripe.0 version.stamp) (sym group) ∙ ap (λ (s : ℕ). w.contents o.ask.group.0 s version.stamp)
          (sym stripe))))
          says.says.block;
    }

-- a reply that neither refuses what it was asked, nor tells that a store is full, that its member moved on, or that it dropped the view before
abbrev pub Allows : Counted → Type 0
Allows x = (refuser_of x ≡ None) × ((full_member_of x ≡ None) × ((mover_of x ≡ None) × (dropper_of x ≡ None)))

-- a reply to an order that allows it
order_answered : (block : ℕ) (t : Stamp) (x : Counted) → answers_phase block t x.seat Orders x.reply ≡ true → Allows x → x.reply ≡ Reply.Ordered
order_answered block t x answers allows = told x.reply refl answers allows
  where
    told : (reply : Reply) → x.reply ≡ reply → answers_phase block t x.seat Orders reply ≡ true
        → Allows (record { seat = x.seat; brick = x.brick; reply = reply }) → x.reply ≡ Reply.Ordered
    told Reply.Ordered e answers allows = e
    told (Reply.Later u) e answers (none, (roomy, (stays, kept))) = cc
    told (Reply.Full live) e answers (none, (roomy, (stays, kept))) = cc
    told (Reply.Moved view lineage) e answers (none, (roomy, (stays, kept))) = cc
    told reply e answers allows = absurd (false≢true answers)

-- a reply to a write that allows it
pub write_answered : (block : ℕ) (t : Stamp) (x : Counted) → answers_phase block t x.seat Stores x.reply ≡ true → Allows x → x.reply ≡ Reply.Stored
write_answered block t x answers allows = told x.reply refl answers allows
  where
    told : (reply : Reply) → x.reply ≡ reply → answers_phase block t x.seat Stores reply ≡ true
        → Allows (record { seat = x.seat; brick = x.brick; reply = reply }) → x.reply ≡ Reply.Stored
    told Reply.Stored e answers allows = e
    told (Reply.Later u) e answers (none, (roomy, (stays, kept))) = cc
    told (Reply.Full live) e answers (none, (roomy, (stays, kept))) = cc
    told (Reply.Moved view lineage) e answers (none, (roomy, (stays, kept))) = cc
    told reply e answers allows = absurd (false≢true answers)

-- and one to a modification, which is not behind
modify_answered : (block j : ℕ) (t base : Stamp) (x : Counted) → answers_phase block t x.seat (Modifies base j) x.reply ≡ true → Allows x
    → is_behind x.reply ≡ false → x.reply ≡ Reply.Stored
modify_answered block j t base x answers allows level = told x.reply refl answers allows level
  where
    told : (reply : Reply) → x.reply ≡ reply → answers_phase block t x.seat (Modifies base j) reply ≡ true
        → Allows (record { seat = x.seat; brick = x.brick; reply = reply }) → is_behind reply ≡ false → x.reply ≡ Reply.Stored
    told Reply.Stored e answers allows level = e
    told (Reply.Behind newest) e answers allows level = absurd (false≢true (sym level))
    told (Reply.Later u) e answers (none, (roomy, (stays, kept))) level = cc
    told (Reply.Full live) e answers (none, (roomy, (stays, kept))) level = cc
    told (Reply.Moved view lineage) e answers (none, (roomy, (stays, kept))) level = cc
    told reply e answers allows level = absurd (false≢true answers)

-- a reply to a phase that looks for a version, or looks back for one, which allows it: what was found is looked for
pub record FoundBy (back : Bool) (look : Look) (x : Counted) : Type 0 where
  pub found : Option Version
  pub reply_is : x.reply ≡ (if back then Reply.Old found else Reply.OrderedRead found)
  pub looked : (version : Version) → found ≡ Some version → is_looked look version.stamp ≡ true

found_by : (block : ℕ) (t : Stamp) (phase : Phase) (look : Look) (x : Counted) → look_of phase t ≡ Some look
    → answers_phase block t x.seat phase x.reply ≡ true → Allows x → FoundBy (looks_back phase) look x
found_by block t phase look x looks answers allows = told phase x.reply look refl looks answers allows
  where
    under : (long : ℕ) (bound : Stamp) (found : Option Version) → may_be_found long bound found ≡ true
        → (version : Version) → found ≡ Some version → stamp_below version.stamp bound ≡ true
    under long bound None may version is = cc
    under long bound (Some v) may version is =
        let same : v ≡ version = cc in
        subst (λ (z : Version). stamp_below z.stamp bound ≡ true) same (and_parts (nat_eq (length v.block) long) (stamp_below v.stamp bound) may).1

    same_base : (base : Stamp) (found : Option Version) → may_be_base block base found ≡ true
        → (version : Version) → found ≡ Some version → stamp_same version.stamp base ≡ true
    same_base base None may version is = cc
    same_base base (Some v) may version is =
        let same : v ≡ version = cc in
        subst (λ (z : Version). stamp_same z.stamp base ≡ true) same (and_parts (nat_eq (length v.block) block) (stamp_same v.stamp base) may).1

    below : (bound : Stamp) (look : Look) (found : Option Version) → x.reply ≡ Reply.OrderedRead found → Some (Below bound) ≡ Some look
        → ((version : Version) → found ≡ Some version → stamp_below version.stamp bound ≡ true) → FoundBy false look x
    below bound look found e looks h = record {
      found = found;
      reply_is = e;
      looked = λ version is.
          let same : Below bound ≡ look = cc in subst (λ (l : Look). is_looked l version.stamp ≡ true) same (h version is);
    }

    back_below : (bound : Stamp) (look : Look) (found : Option Version) → x.reply ≡ Reply.Old found → Some (Below bound) ≡ Some look
        → ((version : Version) → found ≡ Some version → stamp_below version.stamp bound ≡ true) → FoundBy true look x
    back_below bound look found e looks h = record {
      found = found;
      reply_is = e;
      looked = λ version is.
          let same : Below bound ≡ look = cc in subst (λ (l : Look). is_looked l version.stamp ≡ true) same (h version is);
    }

    at : (base : Stamp) (look : Look) (found : Option Version) → x.reply ≡ Reply.OrderedRead found → Some (At base) ≡ Some look
        → ((version : Version) → found ≡ Some version → stamp_same version.stamp base ≡ true) → FoundBy false look x
    at base look found e looks h = record {
      found = found;
      reply_is = e;
      looked = λ version is.
          let same : At base ≡ look = cc in subst (λ (l : Look). is_looked l version.stamp ≡ true) same (h version is);
    }

    told : (p : Phase) (reply : Reply) (l : Look) → x.reply ≡ reply → look_of p t ≡ Some l → answers_phase block t x.seat p reply ≡ true
        → Allows (record { seat = x.seat; brick = x.brick; reply = reply }) → FoundBy (looks_back p) l x
    told (OrdersAt j) (Reply.OrderedRead found) l e looks answers allows = below t l found e looks (under (told_length block j x.seat) t found answers)
    told (OrdersAt j) (Reply.Later u) l e looks answers (none, (roomy, (stays, kept))) = cc
    told (OrdersAt j) (Reply.Full live) l e looks answers (none, (roomy, (stays, kept))) = cc
    told (OrdersAt j) (Reply.Moved view lineage) l e looks answers (none, (roomy, (stays, kept))) = cc
    told Recovers (Reply.OrderedRead found) l e looks answers allows = below t l found e looks (under block t found answers)
    told Recovers (Reply.Later u) l e looks answers (none, (roomy, (stays, kept))) = cc
    told Recovers (Reply.Full live) l e looks answers (none, (roomy, (stays, kept))) = cc
    told Recovers (Reply.Moved view lineage) l e looks answers (none, (roomy, (stays, kept))) = cc
    told (Descends bound) (Reply.OrderedRead found) l e looks answers allows = below bound l found e looks (under block bound found answers)
    told (Descends bound) (Reply.Later u) l e looks answers (none, (roomy, (stays, kept))) = cc
    told (Descends bound) (Reply.Full live) l e looks answers (none, (roomy, (stays, kept))) = cc
    told (Descends bound) (Reply.Moved view lineage) l e looks answers (none, (roomy, (stays, kept))) = cc
    told (LooksBack bound) (Reply.Old found) l e looks answers allows =
        back_below (old_bound t bound) l found e looks (under block (old_bound t bound) found answers)
    told (LooksBack bound) Reply.Retired l e looks answers (none, (roomy, (stays, kept))) = cc
    told (Bases base) (Reply.OrderedRead found) l e looks answers allows = at base l found e looks (same_base base found answers)
    told (Bases base) (Reply.Later u) l e looks answers (none, (roomy, (stays, kept))) = cc
    told (Bases base) (Reply.Full live) l e looks answers (none, (roomy, (stays, kept))) = cc
    told (Bases base) (Reply.Moved view lineage) l e looks answers (none, (roomy, (stays, kept))) = cc
    told Looks reply l e looks answers allows = cc
    told (LooksAt j) reply l e looks answers allows = cc
    told Orders reply l e looks answers allows = cc
    told (Modifies base j) reply l e looks answers allows = cc
    told Stores reply l e looks answers allows = cc
    told p reply l e looks answers allows = absurd (false≢true answers)

-- a phase that looks below a bound looks below its own stamp, or no quorum will ever hold a version from the bound up to that
pub bound_cases : (p : Phase) (t bound : Stamp) → look_of p t ≡ Some (Below bound) → (bound ≡ t) ⊎ (bound_in p t ≡ Some bound)
bound_cases (OrdersAt j) t bound looks = let same : bound ≡ t = cc in inl same
bound_cases Recovers t bound looks = let same : bound ≡ t = cc in inl same
bound_cases (Descends b) t bound looks = let same : b ≡ bound = cc in inr (ap (λ (z : Stamp). Some z) same)
bound_cases (LooksBack b) t bound looks = let same : old_bound t b ≡ bound = cc in inr (ap (λ (z : Stamp). Some z) same)
bound_cases p t bound looks = cc

-- a phase that looks for one version reads it back
base_phase : (p : Phase) (t base : Stamp) → look_of p t ≡ Some (At base) → p ≡ Bases base
base_phase (Bases b) t base looks = let same : b ≡ base = cc in ap Bases same
base_phase p t base looks = cc

-- a block that is wanted of a seat is told whole
wanted_long : (block : ℕ) (t : Stamp) (seat : ℕ) (phase : Phase) (reply : Reply) (version : Version) → told_in reply ≡ Some version
    → answers_phase block t seat phase reply ≡ true → is_wanted (want_of phase) seat ≡ true → length version.block ≡ block
wanted_long block t seat Looks (Reply.Found order (Some v)) version is answers wanted =
    let same : v ≡ version = cc in ap (λ (z : Version). length z.block) (sym same) ∙ eqb-true (length v.block) block answers
wanted_long block t seat (LooksAt j) (Reply.Found order (Some v)) version is answers wanted =
    let same : v ≡ version = cc in
    ap (λ (z : Version). length z.block) (sym same) ∙ eqb-true (length v.block) (told_length block j seat) answers
    ∙ cond-true (nat_eq j seat) block 0 wanted
wanted_long block t seat (OrdersAt j) (Reply.OrderedRead (Some v)) version is answers wanted =
    let same : v ≡ version = cc in
    ap (λ (z : Version). length z.block) (sym same)
    ∙ eqb-true (length v.block) (told_length block j seat) (and_parts (nat_eq (length v.block) (told_length block j seat)) (stamp_below v.stamp t) answers).0
    ∙ cond-true (nat_eq j seat) block 0 wanted
wanted_long block t seat Recovers (Reply.OrderedRead (Some v)) version is answers wanted =
    let same : v ≡ version = cc in
    ap (λ (z : Version). length z.block) (sym same)
    ∙ eqb-true (length v.block) block (and_parts (nat_eq (length v.block) block) (stamp_below v.stamp t) answers).0
wanted_long block t seat (Descends bound) (Reply.OrderedRead (Some v)) version is answers wanted =
    let same : v ≡ version = cc in
    ap (λ (z : Version). length z.block) (sym same)
    ∙ eqb-true (length v.block) block (and_parts (nat_eq (length v.block) block) (stamp_below v.stamp bound) answers).0
wanted_long block t seat (LooksBack bound) (Reply.Old (Some v)) version is answers wanted =
    let same : v ≡ version = cc in
    ap (λ (z : Version). length z.block) (sym same)
    ∙ eqb-true (length v.block) block (and_parts (nat_eq (length v.block) block) (stamp_below v.stamp (old_bound t bound)) answers).0
wanted_long block t seat (Bases base) (Reply.OrderedRead (Some v)) version is answers wanted =
    let same : v ≡ version = cc in
    ap (λ (z : Version). length z.block) (sym same)
    ∙ eqb-true (length v.block) block (and_parts (nat_eq (length v.block) block) (stamp_same v.stamp base) answers).0
wanted_long block t seat phase (Reply.Found order None) version is answers wanted = cc
wanted_long block t seat phase (Reply.OrderedRead None) version is answers wanted = cc
wanted_long block t seat phase (Reply.Old None) version is answers wanted = cc
wanted_long block t seat phase (Reply.Found order (Some v)) version is answers wanted = absurd (false≢true answers)
wanted_long block t seat phase (Reply.OrderedRead (Some v)) version is answers wanted = absurd (false≢true answers)
wanted_long block t seat phase (Reply.Old (Some v)) version is answers wanted = absurd (false≢true answers)
wanted_long block t seat phase reply version is answers wanted = cc

-- which is no empty one
whole_block : (block : ℕ) (bytes is : List ℕ) → 1 ≤ block → length bytes ≡ block → (bytes ≡ []) ⊎ (bytes ≡ is) → bytes ≡ is
whole_block block bytes is some long (inl none) =
    absurd (let empty : length bytes ≡ 0 = ap (λ (l : List ℕ). length l) none in omega (arith, some, long, empty))
whole_block block bytes is some long (inr whole) = whole

-- a quorum has at least m seats
pub quorum_enough : (m n : ℕ) → m ≤ n → m ≤ n - (n - m) / 2
quorum_enough m n le = omega arith

-- the version that is told
pub told_version_is : (x : Counted) (found : Option Version) (v : Stamp) → told_in x.reply ≡ found → told_stamp x.reply ≡ Some v
    → (version : Version) × (found ≡ Some version) × (version.stamp ≡ v)
told_version_is x None v is told = let none : None ≡ Some v = sym (ap (option_map (λ (z : Version). z.stamp)) is) ∙ told in cc
told_version_is x (Some version) v is told =
    let some : Some version.stamp ≡ Some v = sym (ap (option_map (λ (z : Version). z.stamp)) is) ∙ told in
    (version, refl, same_Some version.stamp v some)

module _ (setting : Setting) (views : Views) (sound : IsSound setting) (w : World) (stamps : Stamping) (me : BrickId) (c : Coordinator)
    (books : Books setting w) (said : Said setting views w stamps) (is : IsCall w me.0 c.call.seq c)
    (counted : List Counted) (each : EachCounted (CountedSays setting views w me.0 c) counted) (once : AreOnce counted)
    (many : quorum_of (asked_group c) ≤ length counted) where
  -- the group as those keep it that are asked
  abbrev group : Group
  group = asked_group c

  group_is : group_in setting.layout views c.call.group.0 c.call.view.0 ≡ Some group
  group_is = asked_is setting views w stamps books said me.0 c.call.seq c is

  abbrev its : CallBooks setting w me.0 c.call.seq c
  its = books.calls me.0 c.call.seq c is

  -- the operation
  abbrev pub its_operation : Operation
  its_operation = (books.calls me.0 c.call.seq c is).operation

  -- of the view of its call
  its_group : (v : Stamp) → view_of v ≡ c.call.view.0 → group_in setting.layout views its_operation.ask.group.0 (view_of v) ≡ Some group
  its_group v = asked_in setting views w stamps books said me.0 c.call.seq c is its_operation.ask.group.0 v (ap (λ a. a.group.0) (sym its.ask))

  -- the layout's group, which has as many data blocks
  its_books : OperationBooks setting w (number_of w me.0 c.call.seq) its_operation
  its_books = books.operations (number_of w me.0 c.call.seq) its_operation its.operation_is

  m_same : its_books.group.m ≡ group.m
  m_same = m_is setting views w stamps books said me.0 c.call.seq c is its_operation.ask.group.0 its_books.group (ap (λ a. a.group.0) (sym its.ask)) its_books.group_is
      ∙ sym (asked_m c)

  -- its members are within the limits
  pub its_limits : IsWithinLimits group.m (length group.members)
  its_limits = said.limits c.call.group.0 c.call.view.0 group group_is

  -- a counted reply says what its packet says
  counted_says : (x : Counted) → CountedSays setting views w me.0 c x → ReplySays setting views w stamps x.brick (record { 0 = me.0 }) c.call x.reply
  counted_says x says =
      said.packets says.sent.0 (record { from = x.brick; to = record { 0 = me.0 }; message = Message.Reply c.call x.reply }) says.sent.1

  -- the seat of a counted reply, and its brick
  seat_fits : (x : Counted) → CountedSays setting views w me.0 c x → (x.seat < length group.members) × (brick_at group x.seat ≡ x.brick.0)
  seat_fits x says =
      let at : seat_in group.members x.brick.0 ≡ Some x.seat = says.seat in
      (seat_within group x.brick.0 x.seat at, brick_at_seat group x.brick.0 x.seat at)

  -- its stripe is the call's
  call_group : its_operation.ask.group.0 ≡ c.call.group.0
  call_group = ap (λ a. a.group.0) (sym its.ask) ∙ ap (λ g. g.0) (sym its.call_group)

  call_stripe : its_operation.ask.stripe.0 ≡ c.call.stripe.0
  call_stripe = ap (λ a. a.stripe.0) (sym its.ask) ∙ ap (λ s. s.0) (sym its.call_stripe)

  of_stripe : (P : ℕ → ℕ → Type 0) → P c.call.group.0 c.call.stripe.0 → P its_operation.ask.group.0 its_operation.ask.stripe.0
  of_stripe P h = subst (λ (g : ℕ). P g its_operation.ask.stripe.0) (sym call_group) (subst (λ (s : ℕ). P c.call.group.0 s) (sym call_stripe) h)

  -- it is the operation of the call
  its_called : IsOperation w (w.numbers me.0 c.call.boot c.call.seq) its_operation
  its_called = subst (λ (b : ℕ). IsOperation w (w.numbers me.0 b c.call.seq) its_operation) (sym its.call_boot) its.operation_is

  -- the operation of the call is this one
  called_same : (p : Operation) → IsCalled w me.0 c.call p → p ≡ its_operation
  called_same p called = same_Some p its_operation (sym called.is ∙ its_called)

  -- its phase was begun
  its_begun : IsBegun stamps me.0 c.call.boot c.call.seq c.call.phase c.phase c.stamp
  its_begun =
      subst (λ (b : ℕ). IsBegun stamps me.0 b c.call.seq c.call.phase c.phase c.stamp) (sym its.call_boot) (said.calls me.0 c.call.seq c is).begun

  -- the part of the stripe at a seat
  abbrev pub come_to : ℕ → Stamp
  come_to seat = top_in w its_operation.ask.group.0 its_operation.ask.stripe.0 (brick_at group seat)

  -- a version was held at a seat
  abbrev pub held_at : ℕ → Stamp → Bool
  held_at seat t = w.held (brick_at group seat) its_operation.ask.group.0 its_operation.ask.stripe.0 t

  -- what a member's part has, its seat's part has
  at_seat : (P : ℕ → ℕ → ℕ → Type 0) (x : Counted) → CountedSays setting views w me.0 c x → P c.call.group.0 c.call.stripe.0 x.brick.0
      → P its_operation.ask.group.0 its_operation.ask.stripe.0 (brick_at group x.seat)
  at_seat P x says h =
      subst (λ (j : ℕ). P its_operation.ask.group.0 its_operation.ask.stripe.0 j) (sym (seat_fits x says).1) (of_stripe (λ g s. P g s x.brick.0) h)

  -- a reply that promises the coordinator's stamp
  pub record PromisesAt (x : Counted) : Type 0 where
    pub within : x.seat < length group.members
    pub top : stamp_below (come_to x.seat) c.stamp ≡ false
    pub floor : stamp_below c.stamp (its_operation.floor (brick_at group x.seat)) ≡ false

  promises_at : (x : Counted) → CountedSays setting views w me.0 c x → (p : Operation) (t : Stamp) → IsCalled w me.0 c.call p → t ≡ c.stamp
      → stamp_below (top_in w c.call.group.0 c.call.stripe.0 x.brick.0) t ≡ false → stamp_below t (p.floor x.brick.0) ≡ false → PromisesAt x
  promises_at x says p t called at promised floor = record {
    within = (seat_fits x says).0;
    top = subst (λ (u : Stamp). stamp_below (come_to x.seat) u ≡ false) at
        (at_seat (λ g s j. stamp_below (top_in w g s j) t ≡ false) x says promised);
    floor = subst (λ (u : Stamp). stamp_below u (its_operation.floor (brick_at group x.seat)) ≡ false) at
        (subst (λ (q : Operation). stamp_below t (q.floor (brick_at group x.seat)) ≡ false) (called_same p called)
        (subst (λ (j : ℕ). stamp_below t (p.floor j) ≡ false) (sym (seat_fits x says).1) floor));
  }

  -- a quorum of promises guards the stamp
  pub promises_guard : EachCounted PromisesAt counted → IsGuarded w its_operation.ask.group.0 its_operation.ask.stripe.0 group c.stamp
  promises_guard all =
      at_quorum group counted (λ seat. not (stamp_below (come_to seat) c.stamp))
      (each_then PromisesAt (λ x. (x.seat < length group.members) × (not (stamp_below (come_to x.seat) c.stamp) ≡ true)) counted
      (λ x h. (h.within, not_from_false _ h.top)) all)
      once many

  -- and the stamp is at or above the floors of a quorum
  pub promises_floors : EachCounted PromisesAt counted → FloorsAtMost its_operation group c.stamp
  promises_floors all =
      at_quorum group counted (λ seat. not (stamp_below c.stamp (its_operation.floor (brick_at group seat))))
      (each_then PromisesAt (λ x. (x.seat < length group.members)
      × (not (stamp_below c.stamp (its_operation.floor (brick_at group x.seat))) ≡ true)) counted
      (λ x h. (h.within, not_from_false _ h.floor)) all)
      once many

  -- each counted reply, where none refuses and no store is full
  pub each_allows : greatest_refuser counted ≡ None → NoneStops counted → EachCounted (λ x. CountedSays setting views w me.0 c x × Allows x) counted
  each_allows none roomy =
      each_both (CountedSays setting views w me.0 c) Allows counted each
      (each_both (λ x. refuser_of x ≡ None) (λ x. (full_member_of x ≡ None) × ((mover_of x ≡ None) × (dropper_of x ≡ None))) counted (none_refuses counted none)
      (each_both (λ x. full_member_of x ≡ None) (λ x. (mover_of x ≡ None) × (dropper_of x ≡ None)) counted (none_full counted roomy.2)
      (each_both (λ x. mover_of x ≡ None) (λ x. dropper_of x ≡ None) counted (none_moved counted roomy.0) (none_dropped counted roomy.1))))

  -- no reply to a phase that looks back tells of a later stamp
  pub back_unrefused : looks_back c.phase ≡ true → greatest_refuser counted ≡ None
  back_unrefused back = none_of counted each
    where
      none_at : (x : Counted) → CountedSays setting views w me.0 c x → refuser_of x ≡ None
      none_at x says =
          let bound = back_is c.phase back in
          by bound.0 x.reply (subst (λ (p : Phase). answers_phase setting.layout.block c.stamp x.seat p x.reply ≡ true) bound.1 says.answers)
        where
          by : (bound : Option Stamp) (r : Reply) → answers_phase setting.layout.block c.stamp x.seat (LooksBack bound) r ≡ true
              → refuser_of (record { seat = x.seat; brick = x.brick; reply = r }) ≡ None
          by bound (Reply.Later t) answers = absurd (false≢true answers)
          by bound r answers = refl

      none_of : (l : List Counted) → EachCounted (CountedSays setting views w me.0 c) l → greatest_refuser l ≡ None
      none_of [] all = refl
      none_of (x ∷ l) all = ap (λ (r : Option Refuser). greater_refuser r (greatest_refuser l)) (none_at x all.0) ∙ none_of l all.1

  -- an order that was answered
  ordered_seat : c.phase ≡ Orders → (x : Counted) → CountedSays setting views w me.0 c x → Allows x → PromisesAt x
  ordered_seat orders x says allows =
      let answers : answers_phase setting.layout.block c.stamp x.seat Orders x.reply ≡ true
      = subst (λ (p : Phase). answers_phase setting.layout.block c.stamp x.seat p x.reply ≡ true) orders says.answers in
      let told : OrderedSays w stamps x.brick.0 me.0 c.call
      = subst (λ (r : Reply). ReplySays setting views w stamps x.brick (record { 0 = me.0 }) c.call r)
      (order_answered setting.layout.block c.stamp x answers allows) (counted_says x says) in
      promises_at x says told.operation told.stamp told.called
      (begun_once stamps me.0 c.call.boot c.call.seq c.call.phase Orders c.phase told.stamp c.stamp told.stamp_is its_begun).1
      told.promised told.floor

  -- an order that a quorum answered
  pub all_ordered : c.phase ≡ Orders → greatest_refuser counted ≡ None → NoneStops counted → EachCounted PromisesAt counted
  all_ordered orders none roomy =
      each_then (λ x. CountedSays setting views w me.0 c x × Allows x) PromisesAt counted (λ x h. ordered_seat orders x h.0 h.1) (each_allows none roomy)

  -- the stamp of what a call has stored is its own
  pub stored_by : (to : ℕ) (request : Request) (t : Stamp) → RequestSays setting views w stamps me.0 to c.call request → stamp_stored request ≡ Some t
      → t ≡ c.stamp
  stored_by to (Request.Write z block) t says stores =
      let same : z ≡ t = cc in
      sym same ∙ (begun_once stamps me.0 c.call.boot c.call.seq c.call.phase Stores c.phase z c.stamp says.maker.begun its_begun).1
  stored_by to (Request.Modify z base j sent) t says stores =
      let same : z ≡ t = cc in
      sym same ∙ (begun_once stamps me.0 c.call.boot c.call.seq c.call.phase (Modifies base j) c.phase z c.stamp says.maker.begun its_begun).1
  stored_by to request t says stores = cc

  -- a version that a member said it stored
  stored_seat : (x : Counted) → CountedSays setting views w me.0 c x → x.reply ≡ Reply.Stored
      → (x.seat < length group.members) × (held_at x.seat c.stamp ≡ true)
  stored_seat x says reply_is =
      let told : ReplySays setting views w stamps x.brick (record { 0 = me.0 }) c.call Reply.Stored
      = subst (λ (r : Reply). ReplySays setting views w stamps x.brick (record { 0 = me.0 }) c.call r) reply_is (counted_says x says) in
      let asks : RequestSays setting views w stamps me.0 x.brick.0 c.call told.1
      = said.packets told.2.0 (record { from = record { 0 = me.0 }; to = x.brick; message = Message.Request c.call told.1 }) told.2.1 in (
        (seat_fits x says).0,
        subst (λ (t : Stamp). held_at x.seat t ≡ true) (stored_by x.brick.0 told.1 told.0 asks told.3)
            (at_seat (λ g s j. w.held j g s told.0 ≡ true) x says told.4),
      )

  -- a version that a quorum stored stands
  all_stored : EachCounted (λ x. CountedSays setting views w me.0 c x × (x.reply ≡ Reply.Stored)) counted → AtQuorum group (λ seat. held_at seat c.stamp)
  all_stored stored =
      at_quorum group counted (λ seat. held_at seat c.stamp)
      (each_then (λ x. CountedSays setting views w me.0 c x × (x.reply ≡ Reply.Stored)) (λ x. (x.seat < length group.members)
      × (held_at x.seat c.stamp ≡ true))
      counted (λ x h. stored_seat x h.0 h.1) stored)
      once many

  pub stored_stands : c.phase ≡ Stores → greatest_refuser counted ≡ None → NoneStops counted
      → AtQuorum group (λ seat. held_at seat c.stamp)
  stored_stands stores none roomy =
      all_stored (each_then (λ x. CountedSays setting views w me.0 c x × Allows x) (λ x. CountedSays setting views w me.0 c x × (x.reply ≡ Reply.Stored)) counted
      (λ x h. (
        h.0,
        write_answered setting.layout.block c.stamp x
            (subst (λ (p : Phase). answers_phase setting.layout.block c.stamp x.seat p x.reply ≡ true) stores h.0.answers) h.1,
      ))
      (each_allows none roomy))

  -- so does one that a quorum modified, none of it being behind
  pub modified_stands : (base : Stamp) (j : ℕ) → c.phase ≡ Modifies base j → greatest_refuser counted ≡ None → NoneStops counted
      → some_behind counted ≡ false → AtQuorum group (λ seat. held_at seat c.stamp)
  modified_stands base j modifies none roomy level =
      all_stored (each_then (λ x. (CountedSays setting views w me.0 c x × Allows x) × (is_behind x.reply ≡ false))
      (λ x. CountedSays setting views w me.0 c x × (x.reply ≡ Reply.Stored)) counted
      (λ x h. (
        h.0.0,
        modify_answered setting.layout.block j c.stamp base x
            (subst (λ (p : Phase). answers_phase setting.layout.block c.stamp x.seat p x.reply ≡ true) modifies h.0.0.answers) h.0.1 h.1,
      ))
      (each_both (λ x. CountedSays setting views w me.0 c x × Allows x) (λ x. is_behind x.reply ≡ false) counted (each_allows none roomy)
      (none_behind counted level)))

  -- what a member that answers a phase has come to: the operation's stamp, or, where the phase looks back, the first stamp of its view
  abbrev pub needed : Stamp
  needed = if looks_back c.phase then floor_of c.stamp.view.0 else c.stamp

  -- what a reply to a phase that looks for a version shows
  pub record ReadsAt (look : Look) (x : Counted) : Type 0 where
    pub within : x.seat < length group.members
    pub top : stamp_below (come_to x.seat) needed ≡ false
    pub promises : looks_back c.phase ≡ false → PromisesAt x
    pub found : Option Version
    pub found_is : told_in x.reply ≡ found
    pub newest : (d : Stamp) → view_of d ≡ c.call.view.0 → held_at x.seat d ≡ true → is_looked look d ≡ true → IsWithin found d
    pub looked : (version : Version) → found ≡ Some version → is_looked look version.stamp ≡ true
    pub of : (version : Version) → found ≡ Some version → view_of version.stamp ≡ c.call.view.0
    pub held : (version : Version) → found ≡ Some version → held_at x.seat version.stamp ≡ true
    pub made : (version : Version) → found ≡ Some version → IsMadeOrFirst w its_operation.ask.group.0 its_operation.ask.stripe.0 version.stamp
    pub block : (version : Version) → found ≡ Some version → is_wanted (want_of c.phase) x.seat ≡ true
        → version.block ≡ setting.code.encode group.m (w.contents its_operation.ask.group.0 its_operation.ask.stripe.0 version.stamp) x.seat

  -- the phase of the call looks for just this
  look_same : (phase : Phase) (t : Stamp) (look other : Look) → IsBegun stamps me.0 c.call.boot c.call.seq c.call.phase phase t
      → look_of phase t ≡ Some other → look_of c.phase c.stamp ≡ Some look → (t ≡ c.stamp) × (other ≡ look)
  look_same phase t look other begun other_is looks =
      let same = begun_once stamps me.0 c.call.boot c.call.seq c.call.phase phase c.phase t c.stamp begun its_begun in (
        same.1,
        same_Some other look (sym other_is ∙ ap (λ (p : Phase). look_of p t) same.0 ∙ ap (λ (z : Stamp). look_of c.phase z) same.1 ∙ looks),
      )

  -- What was collected under the operation's stamp is looked for, since no quorum holds what it does not look for below that, and its own version
  -- was not collected: the operation is open.
  none_passed : (look : Look) → look_of c.phase c.stamp ≡ Some look → (d : Stamp) → is_looked look d ≡ true
      → IsPassedOver w c.call.group.0 c.call.view.0 c.call.stripe.0 look c.stamp d → ⊥
  none_passed look looks d looked passed = ⊎_elim
      (λ (less : stamp_below passed.at c.stamp ≡ true).
      blocked_never_stands w its_operation.ask.group.0 its_operation.ask.stripe.0 group passed.at (blocked look looks looked passed.unlooked less)
      (stands group (its_group passed.at passed.of)))
      (λ (above : stamp_below passed.at c.stamp ≡ false). not_own (stamp_neither_below passed.at c.stamp above passed.most))
      (cases_Bool (stamp_below passed.at c.stamp))
    where
      collects : CollectSays w passed.collected.from.0 passed.collected.call passed.at
      collects =
          said.packets passed.collected.sent.0 (record {
            from = passed.collected.from;
            to = passed.collected.to;
            message = Message.Request passed.collected.call (Request.Collect passed.at);
          }) passed.collected.sent.1

      -- the operation that made it
      n : ℕ
      n = w.numbers passed.collected.from.0 passed.collected.call.boot passed.collected.call.seq

      maker : Operation
      maker = collects.operation

      -- of the same stripe
      stands : Stands setting views w its_operation.ask.group.0 its_operation.ask.stripe.0 passed.at
      stands = of_stripe (λ g s. Stands setting views w g s passed.at)
          (subst (λ (g : ℕ). Stands setting views w g c.call.stripe.0 passed.at) (collects.called.group ∙ passed.collected.group)
          (subst (λ (s : ℕ). Stands setting views w maker.ask.group.0 s passed.at) (collects.called.stripe ∙ passed.collected.stripe)
          ((said.operations n maker collects.called.is).stands passed.at collects.version (inr collects.answered))))

      -- it is another than the one that is open
      not_own : passed.at ≡ c.stamp → ⊥
      not_own same =
          let theirs = maker_stamp setting views w stamps books said n maker passed.at collects.called.is collects.made collects.version in
          let mine : IsStamped stamps its_operation.brick.0 its_operation.boot its_operation.seq c.call.phase passed.at
          = subst (λ (t : Stamp). IsStamped stamps its_operation.brick.0 its_operation.boot its_operation.seq c.call.phase t) (sym same)
          (subst (λ (i : ℕ). IsStamped stamps i its_operation.boot its_operation.seq c.call.phase c.stamp) (sym its.brick)
          (subst (λ (b : ℕ). IsStamped stamps me.0 b its_operation.seq c.call.phase c.stamp) (sym its.boot)
          (subst (λ (k : ℕ). IsStamped stamps me.0 (w.nodes me.0).boot k c.call.phase c.stamp) (sym its.seq)
          (c.phase, (said.calls me.0 c.call.seq c is).begun)))) in
          let number : n ≡ number_of w me.0 c.call.seq
          = operation_unique setting views w stamps books said n (number_of w me.0 c.call.seq) maker its_operation theirs.0 c.call.phase passed.at
          collects.called.is its.operation_is theirs.1 mine in
          let one : maker ≡ its_operation
          = same_Some maker its_operation (sym collects.called.is ∙ ap (λ (a : ℕ). w.operations a) number ∙ its.operation_is) in
          false≢true (sym its.unanswered ∙ ap (λ (o : Operation). o.answered) (sym one) ∙ collects.answered)

      -- what a phase does not look for below its stamp no quorum holds
      blocked : (l : Look) → look_of c.phase c.stamp ≡ Some l → is_looked l d ≡ true → is_looked l passed.at ≡ false
          → stamp_below passed.at c.stamp ≡ true → IsBlocked w its_operation.ask.group.0 its_operation.ask.stripe.0 group passed.at
      blocked (Below bound) looks looked unlooked less = ⊎_elim
          (λ (own : bound ≡ c.stamp).
          absurd (false≢true (sym unlooked ∙ subst (λ (t : Stamp). stamp_below passed.at t ≡ true) (sym own) less)))
          (λ (lower : bound_in c.phase c.stamp ≡ Some bound).
          subst (λ (a : Ask). IsBlocked w a.group.0 a.stripe.0 group passed.at) its.ask
          ((said.calls me.0 c.call.seq c is).covered bound lower passed.at group
          (asked_in setting views w stamps books said me.0 c.call.seq c is c.ask.group.0 passed.at refl passed.of) (unlooked, less)))
          (bound_cases c.phase c.stamp bound looks)
      blocked (At base) looks looked unlooked less =
          let made : IsMade c its_operation × (c.base ≡ Some base)
          = subst (λ (p : Phase). MadeInPhase c its_operation p) (base_phase c.phase c.stamp base looks) its.made in
          by_maker base looked less (made.0.2 ∙ made.1)
          ((said.operations (number_of w me.0 c.call.seq) its_operation its.operation_is).maker c.stamp made.0.1 made.0.0)
        where
          by_maker : (base : Stamp) → stamp_same d base ≡ true → stamp_below passed.at c.stamp ≡ true → its_operation.base ≡ Some base
              → WritesWhole w its_operation c.stamp ⊎ ReadsBack setting views w its_operation c.stamp
              → IsBlocked w its_operation.ask.group.0 its_operation.ask.stripe.0 group passed.at
          by_maker base looked less based (inl whole) = let none : None ≡ Some base = sym whole.0 ∙ based in cc
          by_maker base looked less based (inr back) =
              let same : back.base ≡ d
              = same_Some back.base base (sym back.base_is ∙ based) ∙ sym (stamp_same_true d base looked) in
              back.blocked passed.at group (its_group passed.at passed.of)
              (subst (λ (t : Stamp). stamp_below t passed.at ≡ true) (sym same) passed.above, less)

  -- what a member told of the version that it found: it is within what it found, where it is looked for
  within_found : (look : Look) → look_of c.phase c.stamp ≡ Some look → (x : Counted) → CountedSays setting views w me.0 c x → (found : Option Version) (t : Stamp)
      (other : Look) → t ≡ c.stamp → other ≡ look
      → ((d : Stamp) → view_of d ≡ c.call.view.0 → w.held x.brick.0 c.call.group.0 c.call.stripe.0 d ≡ true → is_looked other d ≡ true
      → IsWithin found d ⊎ IsPassedOver w c.call.group.0 c.call.view.0 c.call.stripe.0 other t d)
      → (d : Stamp) → view_of d ≡ c.call.view.0 → held_at x.seat d ≡ true → is_looked look d ≡ true → IsWithin found d
  within_found look looks x says found t other stamp same newest =
      at_seat (λ g s j. (d : Stamp) → view_of d ≡ c.call.view.0 → w.held j g s d ≡ true → is_looked look d ≡ true → IsWithin found d) x says
      (λ d of held looked. ⊎_elim
      (λ (within : IsWithin found d). within)
      (λ (passed : IsPassedOver w c.call.group.0 c.call.view.0 c.call.stripe.0 other t d).
      absurd (none_passed look looks d looked
      (subst (λ (l : Look). IsPassedOver w c.call.group.0 c.call.view.0 c.call.stripe.0 l c.stamp d) same
      (subst (λ (u : Stamp). IsPassedOver w c.call.group.0 c.call.view.0 c.call.stripe.0 other u d) stamp passed))))
      (newest d of held (subst (λ (l : Look). is_looked l d ≡ true) (sym same) looked)))

  -- its block, where that is wanted
  told_block : (x : Counted) → CountedSays setting views w me.0 c x → (want : Want) (version : Version) → told_in x.reply ≡ Some version
      → ToldSays setting views w want c.call.group.0 c.call.view.0 c.call.stripe.0 x.brick.0 version → is_wanted (want_of c.phase) x.seat ≡ true
      → version.block ≡ setting.code.encode group.m (w.contents its_operation.ask.group.0 its_operation.ask.stripe.0 version.stamp) x.seat
  told_block x says want version is told wanted =
      of_stripe (λ g s. version.block ≡ setting.code.encode group.m (w.contents g s version.stamp) x.seat)
      (whole_block setting.layout.block version.block
      (setting.code.encode group.m (w.contents c.call.group.0 c.call.stripe.0 version.stamp) x.seat) sound.positive
      (wanted_long setting.layout.block c.stamp x.seat c.phase x.reply version is says.answers wanted)
      (⊎_elim (λ (none : version.block ≡ []). inl none)
      (λ (block : IsBlockOf setting views w c.call.group.0 c.call.view.0 c.call.stripe.0 x.brick.0 version.stamp version.block).
      inr (block group x.seat group_is says.seat))
      told.block))

  -- a member of the operation's view
  ordered_read_seat : (look : Look) → look_of c.phase c.stamp ≡ Some look → (x : Counted) → CountedSays setting views w me.0 c x
      → looks_back c.phase ≡ false → (found : Option Version) → x.reply ≡ Reply.OrderedRead found
      → ((version : Version) → found ≡ Some version → is_looked look version.stamp ≡ true) → ReadsAt look x
  ordered_read_seat look looks x says ahead found reply_is looked =
      let told : OrderedReadSays setting views w stamps x.brick.0 me.0 c.call found
      = subst (λ (r : Reply). ReplySays setting views w stamps x.brick (record { 0 = me.0 }) c.call r) reply_is (counted_says x says) in
      let same = look_same told.phase told.stamp look told.look told.begun told.look_is looks in
      let promises : PromisesAt x = promises_at x says told.operation told.stamp told.called same.0 told.promised told.floor in
      record {
        within = promises.within;
        top = subst (λ (b : Bool). stamp_below (come_to x.seat) (if b then floor_of c.stamp.view.0 else c.stamp) ≡ false) (sym ahead) promises.top;
        promises = λ is_ahead. promises;
        found = found;
        found_is = ap told_in reply_is;
        newest = within_found look looks x says found told.stamp told.look same.0 same.1 told.newest;
        looked = looked;
        of = λ version is. (told.says version is).of;
        held = λ version is. at_seat (λ g s j. w.held j g s version.stamp ≡ true) x says (told.held version is);
        made = λ version is. of_stripe (λ g s. IsMadeOrFirst w g s version.stamp) (told.says version is).made;
        block = λ version is wanted. told_block x says (want_of told.phase) version (ap told_in reply_is ∙ is) (told.says version is) wanted;
      }

  -- a member of the view before
  old_seat : (look : Look) → look_of c.phase c.stamp ≡ Some look → (x : Counted) → CountedSays setting views w me.0 c x
      → looks_back c.phase ≡ true → (found : Option Version) → x.reply ≡ Reply.Old found
      → ((version : Version) → found ≡ Some version → is_looked look version.stamp ≡ true) → ReadsAt look x
  old_seat look looks x says back found reply_is looked =
      let told : OldSays setting views w stamps x.brick.0 me.0 c.call found
      = subst (λ (r : Reply). ReplySays setting views w stamps x.brick (record { 0 = me.0 }) c.call r) reply_is (counted_says x says) in
      let same = look_same (LooksBack told.bound) told.request.stamp look (Below (old_bound told.request.stamp told.bound)) told.request.begun refl looks in
      record {
        within = (seat_fits x says).0;
        top = subst (λ (b : Bool). stamp_below (come_to x.seat) (if b then floor_of c.stamp.view.0 else c.stamp) ≡ false) (sym back)
            (subst (λ (t : Stamp). stamp_below (come_to x.seat) (floor_of t.view.0) ≡ false) same.0
            (at_seat (λ g s j. stamp_below (top_in w g s j) (floor_of told.request.stamp.view.0) ≡ false) x says told.passed));
        promises = λ is_ahead. absurd (false≢true (sym is_ahead ∙ back));
        found = found;
        found_is = ap told_in reply_is;
        newest = within_found look looks x says found told.request.stamp (Below (old_bound told.request.stamp told.bound)) same.0 same.1 told.newest;
        looked = looked;
        of = λ version is. (told.says version is).of;
        held = λ version is. at_seat (λ g s j. w.held j g s version.stamp ≡ true) x says (told.held version is);
        made = λ version is. of_stripe (λ g s. IsMadeOrFirst w g s version.stamp) (told.says version is).made;
        block = λ version is wanted. told_block x says All version (ap told_in reply_is ∙ is) (told.says version is) wanted;
      }

  read_seat : (look : Look) → look_of c.phase c.stamp ≡ Some look → (x : Counted) → CountedSays setting views w me.0 c x → Allows x → ReadsAt look x
  read_seat look looks x says allows =
      by (looks_back c.phase) refl (found_by setting.layout.block c.stamp c.phase look x looks says.answers allows)
    where
      by : (b : Bool) → looks_back c.phase ≡ b → FoundBy b look x → ReadsAt look x
      by false ahead answer = ordered_read_seat look looks x says ahead answer.found answer.reply_is answer.looked
      by true back answer = old_seat look looks x says back answer.found answer.reply_is answer.looked

  -- such a phase that a quorum answered
  pub all_read : (look : Look) → look_of c.phase c.stamp ≡ Some look → greatest_refuser counted ≡ None → NoneStops counted
      → EachCounted (ReadsAt look) counted
  all_read look looks none roomy =
      each_then (λ x. CountedSays setting views w me.0 c x × Allows x) (ReadsAt look) counted (λ x h. read_seat look looks x h.0 h.1)
      (each_allows none roomy)

  -- what a reply that tells version v shows
  record TellsAt (v : Stamp) (x : Counted) : Type 0 where
    within : x.seat < length group.members
    top : stamp_below (top_in w its_operation.ask.group.0 its_operation.ask.stripe.0 (brick_at group x.seat)) v ≡ false
    floor : stamp_below v (its_operation.floor (brick_at group x.seat)) ≡ false
    held : held_at x.seat v ≡ true
    of : view_of v ≡ c.call.view.0
    made : IsMadeOrFirst w its_operation.ask.group.0 its_operation.ask.stripe.0 v
    block : is_wanted (want_of c.phase) x.seat ≡ true
        → found_bytes x.reply ≡ setting.code.encode group.m (w.contents its_operation.ask.group.0 its_operation.ask.stripe.0 v) x.seat

  tells_at : (v : Stamp) (x : Counted) → CountedSays setting views w me.0 c x → TellsVersion v x.reply → TellsAt v x
  tells_at v x says tells =
      let told : FoundSays setting views w stamps x.brick.0 me.0 c.call tells.order tells.version
      = subst (λ (r : Reply). ReplySays setting views w stamps x.brick (record { 0 = me.0 }) c.call r) tells.reply_is (counted_says x says) in
      let at : FoundAt setting views w c.call.view.0 x.brick.0 its_operation tells.order tells.version
      = found_at setting views w stamps x.brick.0 me.0 c.call its_operation tells.order tells.version its_called told in
      let most : Stamp = stamp_max tells.order tells.version.stamp in
      let above : stamp_below most v ≡ false
      = subst (λ (t : Stamp). stamp_below most t ≡ false) tells.stamp (max_right tells.order tells.version.stamp) in
      let same : stamp_below v tells.version.stamp ≡ false
      = subst (λ (t : Stamp). stamp_below v t ≡ false) (sym tells.stamp) (stamp_below_irrefl v) in
      let below : stamp_below v most ≡ false = max_most tells.order tells.version.stamp v tells.not_above same in
      let brick : brick_at group x.seat ≡ x.brick.0 = (seat_fits x says).1 in
      record {
        within = (seat_fits x says).0;
        top = subst (λ (j : ℕ). stamp_below (top_in w its_operation.ask.group.0 its_operation.ask.stripe.0 j) v ≡ false) (sym brick)
            (stamp_not_below_trans v most (top_in w its_operation.ask.group.0 its_operation.ask.stripe.0 x.brick.0) above at.top);
        floor = subst (λ (j : ℕ). stamp_below v (its_operation.floor j) ≡ false) (sym brick)
            (stamp_not_below_trans (its_operation.floor x.brick.0) most v at.floor below);
        held = subst (λ (t : Stamp). held_at x.seat t ≡ true) tells.stamp
            (subst (λ (j : ℕ). w.held j its_operation.ask.group.0 its_operation.ask.stripe.0 tells.version.stamp ≡ true)
            (sym brick) at.held);
        of = ap view_of (sym tells.stamp) ∙ at.of;
        made = subst (λ (t : Stamp). IsMadeOrFirst w its_operation.ask.group.0 its_operation.ask.stripe.0 t) tells.stamp at.made;
        block = λ wanted.
            ap found_bytes tells.reply_is
            ∙ whole_block setting.layout.block tells.version.block
            (setting.code.encode group.m (w.contents its_operation.ask.group.0 its_operation.ask.stripe.0 tells.version.stamp) x.seat) sound.positive
            (wanted_long setting.layout.block c.stamp x.seat c.phase x.reply tells.version (ap told_in tells.reply_is) says.answers wanted)
            (at.block group x.seat (ap (λ (g : ℕ). group_in setting.layout views g c.call.view.0) call_group ∙ group_is) says.seat)
            ∙ ap (λ (t : Stamp). setting.code.encode group.m (w.contents its_operation.ask.group.0 its_operation.ask.stripe.0 t) x.seat) tells.stamp;
      }

  all_tell_at : (v : Stamp) → fast_version counted ≡ Some v → EachCounted (TellsAt v) counted
  all_tell_at v fast =
      each_then (λ x. CountedSays setting views w me.0 c x × TellsVersion v x.reply) (TellsAt v) counted (λ x h. tells_at v x h.0 h.1)
      (each_both (CountedSays setting views w me.0 c) (λ x. TellsVersion v x.reply) counted each (fast_each counted v fast))

  -- a version that may be answered at once is guarded
  pub fast_guards : (v : Stamp) → fast_version counted ≡ Some v → IsGuarded w its_operation.ask.group.0 its_operation.ask.stripe.0 group v
  fast_guards v fast =
      at_quorum group counted (λ seat. not (stamp_below
      (top_in w its_operation.ask.group.0 its_operation.ask.stripe.0 (brick_at group seat)) v))
      (each_then (TellsAt v)
      (λ x. (x.seat < length group.members)
      × (not (stamp_below (top_in w its_operation.ask.group.0 its_operation.ask.stripe.0 (brick_at group x.seat)) v) ≡ true))
      counted (λ x h. (h.within, not_from_false _ h.top)) (all_tell_at v fast))
      once many

  -- and stands
  pub fast_stands : (v : Stamp) → fast_version counted ≡ Some v → AtQuorum group (λ seat. held_at seat v)
  fast_stands v fast =
      at_quorum group counted (λ seat. held_at seat v)
      (each_then (TellsAt v) (λ x. (x.seat < length group.members) × (held_at x.seat v ≡ true)) counted (λ x h. (h.within, h.held))
      (all_tell_at v fast))
      once many

  -- and is at or above the floors of a quorum
  pub fast_floors : (v : Stamp) → fast_version counted ≡ Some v → FloorsAtMost its_operation group v
  fast_floors v fast =
      at_quorum group counted (λ seat. not (stamp_below v (its_operation.floor (brick_at group seat))))
      (each_then (TellsAt v)
      (λ x. (x.seat < length group.members) × (not (stamp_below v (its_operation.floor (brick_at group x.seat))) ≡ true))
      counted (λ x h. (h.within, not_from_false _ h.floor)) (all_tell_at v fast))
      once many

  -- and was made, or is the first
  pub fast_made : (v : Stamp) → fast_version counted ≡ Some v → IsMadeOrFirst w its_operation.ask.group.0 its_operation.ask.stripe.0 v
  unfolding fast_version
  fast_made v fast = made_of counted fast (all_tell_at v fast)
    where
      made_of : (l : List Counted) → fast_version l ≡ Some v → EachCounted (TellsAt v) l
          → IsMadeOrFirst w its_operation.ask.group.0 its_operation.ask.stripe.0 v
      made_of [] is_fast all = cc
      made_of (x ∷ l) is_fast all = all.0.made

  -- and is of the call's view
  pub fast_in : (v : Stamp) → fast_version counted ≡ Some v → view_of v ≡ c.call.view.0
  unfolding fast_version
  fast_in v fast = of_view counted fast (all_tell_at v fast)
    where
      of_view : (l : List Counted) → fast_version l ≡ Some v → EachCounted (TellsAt v) l → view_of v ≡ c.call.view.0
      of_view [] is_fast all = cc
      of_view (x ∷ l) is_fast all = all.0.of

  -- the content of a version that was made, or of the first, is the bytes of m blocks
  pub content_formed : (v : Stamp) → IsMadeOrFirst w its_operation.ask.group.0 its_operation.ask.stripe.0 v
      → IsContent group.m setting.layout.block (w.contents its_operation.ask.group.0 its_operation.ask.stripe.0 v)
  content_formed v (inl first) =
      let zero : w.contents its_operation.ask.group.0 its_operation.ask.stripe.0 v ≡ zero_registers group.m setting.layout.block
      = ap (λ (t : Stamp). w.contents its_operation.ask.group.0 its_operation.ask.stripe.0 t) first
      ∙ said.first its_operation.ask.group.0 its_operation.ask.stripe.0 ∙ ap (λ (z : Option Group). zero_content setting.layout.block z) its_books.group_is
      ∙ ap (λ (m : ℕ). zero_registers m setting.layout.block) m_same in
      subst (λ (l : List ℕ). IsContent group.m setting.layout.block l) (sym zero)
      (length-replicate (group.m * setting.layout.block) 0, zero_bytes (group.m * setting.layout.block))
  content_formed v (inr made) =
      let p : Operation = made.1 in
      let content : w.contents p.ask.group.0 p.ask.stripe.0 v ≡ w.contents its_operation.ask.group.0 its_operation.ask.stripe.0 v
      = ap (λ (g : ℕ). w.contents g p.ask.stripe.0 v) made.3 ∙ ap (λ (s : ℕ). w.contents its_operation.ask.group.0 s v) made.4 in
      subst (λ (l : List ℕ). IsContent group.m setting.layout.block l) content
      (subst (λ (m : ℕ). IsContent m setting.layout.block (w.contents p.ask.group.0 p.ask.stripe.0 v)) m_same
      ((said.operations made.0 p made.2).content v made.5 made.6 its_books.group (ap (group_of setting.layout) made.3 ∙ its_books.group_is)))

  -- and the replies decode to its content, where all blocks are wanted
  pub fast_decodes : (v : Stamp) → fast_version counted ≡ Some v → want_of c.phase ≡ All
      → setting.code.decode group.m (pieces_of counted) ≡ w.contents its_operation.ask.group.0 its_operation.ask.stripe.0 v
  fast_decodes v fast all_wanted =
      let limits : IsWithinLimits group.m (length group.members) = its_limits in
      let enough : group.m ≤ quorum_of group = quorum_enough group.m (length group.members) limits.enough_seats in
      let pieces : length (pieces_of counted) ≡ length counted = pieces_length counted in
      sound.decodes group.m (length group.members) limits
      (w.contents its_operation.ask.group.0 its_operation.ask.stripe.0 v) (pieces_of counted)
      (content_formed v (fast_made v fast)).0 (content_formed v (fast_made v fast)).1
      (are_pieces setting.code group.m (length group.members) (w.contents its_operation.ask.group.0 its_operation.ask.stripe.0 v) counted
      (each_then (TellsAt v) (IsPieceOf setting.code group.m (length group.members)
      (w.contents its_operation.ask.group.0 its_operation.ask.stripe.0 v)) counted
      (λ x h. (h.within, h.block (ap (λ (z : Want). is_wanted z x.seat) all_wanted))) (all_tell_at v fast))
      once)
      (omega arith)

  -- the block of a data seat is the data block of the content
  data_block : (v : Stamp) (j : ℕ) → j < group.m → IsMadeOrFirst w its_operation.ask.group.0 its_operation.ask.stripe.0 v
      → setting.code.encode group.m (w.contents its_operation.ask.group.0 its_operation.ask.stripe.0 v) j
      ≡ block_of setting.layout.block j (w.contents its_operation.ask.group.0 its_operation.ask.stripe.0 v)
  data_block v j below made =
      let formed = content_formed v made in
      sound.keeps group.m (length group.members) its_limits
      (w.contents its_operation.ask.group.0 its_operation.ask.stripe.0 v) j formed.0 formed.1 below

  -- what the seat of data block j tells, where it is wanted, is that block of the version that all tell
  pub fast_block : (v : Stamp) (j : ℕ) → j < group.m → fast_version counted ≡ Some v → has_seat j counted ≡ true → want_of c.phase ≡ Seat j
      → bytes_at j counted ≡ block_of setting.layout.block j (w.contents its_operation.ask.group.0 its_operation.ask.stripe.0 v)
  fast_block v j below fast has wanted =
      let found = bytes_reply (TellsAt v) counted j (all_tell_at v fast) has in
      found.3
      ∙ found.1.block (ap (λ (z : Want). is_wanted z found.0.seat) wanted ∙ eq-eqb j found.0.seat (sym found.2))
      ∙ ap (setting.code.encode group.m (w.contents its_operation.ask.group.0 its_operation.ask.stripe.0 v)) found.2
      ∙ data_block v j below (fast_made v fast)

  -- the same of a version that all find
  pub common_block : (look : Look) → EachCounted (ReadsAt look) counted → (v : Stamp) (j : ℕ) → j < group.m
      → IsMadeOrFirst w its_operation.ask.group.0 its_operation.ask.stripe.0 v
      → EachCounted (λ x. told_stamp x.reply ≡ Some v) counted → has_seat j counted ≡ true → want_of c.phase ≡ Seat j
      → bytes_at j counted ≡ block_of setting.layout.block j (w.contents its_operation.ask.group.0 its_operation.ask.stripe.0 v)
  common_block look all v j below made told has wanted =
      let found = bytes_reply (λ x. ReadsAt look x × (told_stamp x.reply ≡ Some v)) counted j
      (each_both (ReadsAt look) (λ x. told_stamp x.reply ≡ Some v) counted all told) has in
      let version = told_version_is found.0 found.1.0.found v found.1.0.found_is found.1.1 in
      found.3
      ∙ ap bytes_of (found.1.0.found_is ∙ version.1)
      ∙ found.1.0.block version.0 version.1 (ap (λ (z : Want). is_wanted z found.0.seat) wanted ∙ eq-eqb j found.0.seat (sym found.2))
      ∙ ap (λ (t : Stamp). setting.code.encode group.m (w.contents its_operation.ask.group.0 its_operation.ask.stripe.0 t) found.0.seat) version.2
      ∙ ap (setting.code.encode group.m (w.contents its_operation.ask.group.0 its_operation.ask.stripe.0 v)) found.2
      ∙ data_block v j below made

  -- a version that all find stands
  pub common_stands : (look : Look) → EachCounted (ReadsAt look) counted → (v : Stamp) → EachCounted (λ x. told_stamp x.reply ≡ Some v) counted
      → AtQuorum group (λ seat. held_at seat v)
  common_stands look all v told =
      at_quorum group counted (λ seat. held_at seat v)
      (each_then (λ x. ReadsAt look x × (told_stamp x.reply ≡ Some v)) (λ x. (x.seat < length group.members) × (held_at x.seat v ≡ true)) counted
      (λ x h.
      let version = told_version_is x h.0.found v h.0.found_is h.1 in
      (h.0.within, subst (λ (t : Stamp). held_at x.seat t ≡ true) version.2 (h.0.held version.0 version.1)))
      (each_both (ReadsAt look) (λ x. told_stamp x.reply ≡ Some v) counted all told))
      once many
