-- What quorums make true of the versions of a world, for the walk along them.
use Rattle.protocol_laws.proofs.Tops.{view_less, view_least, floor_next}
use Rattle.std.specs.Option.{option_map}
use Rattle.std.proofs.Common.{◌≡◌, ℕ, ◌≤◌, ◌⊎◌, inl, inr, true, false, not, List, length, Option, Some, sym, ap, ◌∙◌, subst, ⊎_elim, arith, ◌<◌, ◌≢◌, refl, ◌+◌}
use Rattle.std.specs.Prelude.{nat_eq}
use Rattle.std.proofs.lemmas.Bool.{and_parts, cases_Bool, eqb-true, not-true, cases_eq, cases_lt, false≢true}
use Rattle.std.proofs.lemmas.Option.{same_Some}
use Rattle.fab_base.specs.declared.stamps.Stamp.{Stamp}
use Rattle.fab_base.specs.declared.asks.Op.{Op}
use Rattle.fab_base.specs.declared.asks.Op.TheVariants.{WriteStripe}
use Rattle.fab_base.specs.declared.answers.Answer.TheVariants.{Data}
use Rattle.fab_base.specs.Stamps.{stamp_below, first_stamp}
use Rattle.fab_base.proofs.StampOrder.{stamp_not_below_trans, stamp_neither_below}
use Rattle.messages.specs.declared.packets.Message.TheVariants as Message
use Rattle.messages.specs.declared.replies.Reply.{Reply}
use Rattle.quorum.specs.Quorums.{IsWithinLimits, both}
use Rattle.quorum.proofs.Counts.{count_some, quorums_share}
use Rattle.reg_model.specs.Marks.{Life, life_of, Answered}
use Rattle.reg_model.specs.Registers.{zero_registers, after_op, read_of}
use Rattle.reg_model.specs.Walk.{last_of}
use Rattle.fab_base.specs.Layouts.{Group, group_of}
use Rattle.protocol.specs.Views.{Views, group_in, kept_by, view_of, floor_of}
use Rattle.protocol.specs.Settings.{Setting, IsSound}
use Rattle.protocol.specs.Worlds.{World, Operation, zero_content, content_on}
use Rattle.protocol.specs.Happenings.{writes}
use Rattle.fab_base.specs.Layouts.{brick_at}
use Rattle.protocol_laws.specs.Laws.{ContentsAreMade, StoredIsHeld, FollowsRealTime, FullIsFull, BasesAreFound}
use Rattle.protocol_laws.specs.Marked.{WordsFit}
use Rattle.protocol_laws.proofs.Books.{Books, OperationBooks, IsOperation}
use Rattle.protocol_laws.proofs.ByMarks.{one_of_marks}
use Rattle.protocol_laws.proofs.Words.{words_fit}
use Rattle.protocol_laws.proofs.Said.{Stamping, Said, IsStamped, IsMadeOrFirst, Stands, WritesWhole, ReadsBack, FloorsAtLeast, HasVersion, DataShown, FloorsAbove, FloorsAtMost}
use Rattle.protocol_laws.proofs.BasesFound.{bases_found}
use Rattle.protocol_laws.proofs.Blocking.{blocked_never_stands}
use Rattle.reg_model.proofs.GrowingLives.{answered_has_end}
use Rattle.protocol_laws.proofs.Stampings.{above_first}
use Rattle.protocol_laws.proofs.OwnStamps.{maker_stamp, made_later, operation_unique}

-- an operation that made version t on a base: the base is below it, was made itself or is the first, and the content is what the operation makes of
-- the base's; and nothing that a quorum holds lies between the two
pub record BaseSays (setting : Setting) (views : Views) (w : World) (o : Operation) (t : Stamp) : Type 0 where
  pub base : Stamp
  pub base_is : o.base ≡ Some base
  pub op : (bytes : List ℕ) → o.ask.op ≡ WriteStripe bytes → ⊥
  pub below : stamp_below base t ≡ true
  pub made : IsMadeOrFirst w o.ask.group.0 o.ask.stripe.0 base
  pub content : w.contents o.ask.group.0 o.ask.stripe.0 t ≡ after_op setting.layout.block o.ask.op (w.contents o.ask.group.0 o.ask.stripe.0 base)
  pub none_between : (u : Stamp) → Stands setting views w o.ask.group.0 o.ask.stripe.0 u → stamp_below base u ≡ true → stamp_below u t ≡ true → ⊥

-- an operation that made version t wrote it whole, on no base, or made it on its base
pub record MakerFacts (setting : Setting) (views : Views) (w : World) (o : Operation) (t : Stamp) : Type 0 where
  pub how : WritesWhole w o t ⊎ BaseSays setting views w o t
  pub later : stamp_below first_stamp t ≡ true

-- an operation that read version t at once is a read, and the version is the first one or was made
pub record ReaderFacts (w : World) (o : Operation) (t : Stamp) : Type 0 where
  pub op : writes o.ask.op ≡ false
  pub made : IsMadeOrFirst w o.ask.group.0 o.ask.stripe.0 t

-- the facts on versions
pub record QuorumFacts (setting : Setting) (views : Views) (w : World) : Type 0 where
  pub real_time : (g s : ℕ) → FollowsRealTime w g s
  pub maker_unique : (a b : ℕ) (one other : Operation) (t : Stamp) → IsOperation w a one → IsOperation w b other
      → one.made ≡ true → other.made ≡ true → one.version ≡ Some t → other.version ≡ Some t → a ≡ b
  pub made_version : (n : ℕ) (o : Operation) → IsOperation w n o → o.made ≡ true → (t : Stamp) × (o.version ≡ Some t)
  pub maker : (n : ℕ) (o : Operation) (t : Stamp) → IsOperation w n o → o.made ≡ true → o.version ≡ Some t → MakerFacts setting views w o t
  pub reader : (n : ℕ) (o : Operation) (t : Stamp) → IsOperation w n o → o.made ≡ false → o.version ≡ Some t → ReaderFacts w o t
  pub stands : (n : ℕ) (o : Operation) (t : Stamp) → IsOperation w n o → o.version ≡ Some t → (o.made ≡ false) ⊎ (o.answered ≡ true)
      → Stands setting views w o.ask.group.0 o.ask.stripe.0 t
  pub answered_data : (n : ℕ) (o : Operation) (t : Stamp) (life : Life) (p : ℕ) (bytes : List ℕ) → IsOperation w n o → o.version ≡ Some t
      → life_of w.marks o.mark ≡ Some life → life.ending ≡ Answered p (Data bytes)
      → read_of setting.layout.block o.ask.op (w.contents o.ask.group.0 o.ask.stripe.0 t) ≡ Some bytes
  pub answered_write : (n : ℕ) (o : Operation) → IsOperation w n o → o.answered ≡ true → writes o.ask.op ≡ true → o.made ≡ true
  pub first : (g s : ℕ) (group : Group) → group_of setting.layout g ≡ Some group
      → w.contents g s first_stamp ≡ zero_registers group.m setting.layout.block
  pub contents : ContentsAreMade setting w
  pub stored : StoredIsHeld w
  pub full : FullIsFull setting w
  pub bases_found : BasesAreFound setting w
  pub words : WordsFit setting.layout w.marks

-- of two numbers one is less, or they are the same
views_cases : (a b : ℕ) → (a < b) ⊎ ((b ≡ a) ⊎ (b < a))
views_cases a b = ⊎_elim
    (λ (less : a < b). inl less)
    (λ (most : b ≤ a). inr (⊎_elim (λ (same : b ≡ a). inl same) (λ (other : b ≢ a). inr (omega (arith, other, most))) (cases_eq b a)))
    (cases_lt a b)

module _ (setting : Setting) (views : Views) (sound : IsSound setting) (w : World) (stamps : Stamping) (books : Books setting w) (said : Said setting views w stamps) where
  -- of two versions between which a quorum's floors lie, the lower is not above the other, nor equal to it where the later operation made it
  shared_floor : (b : ℕ) (later : Operation) (u v : Stamp) (i : ℕ) → IsOperation w b later → later.version ≡ Some v
      → stamp_below (later.floor i) u ≡ false → stamp_below v (later.floor i) ≡ false → (stamp_below u v ≡ true) ⊎ ((u ≡ v) × (later.made ≡ false))
  shared_floor b later u v i is version above below =
      let not_above : stamp_below v u ≡ false = stamp_not_below_trans u (later.floor i) v above below in
      ⊎_elim (λ (less : stamp_below u v ≡ true). inl less)
      (λ (not_less : stamp_below u v ≡ false).
      let same : u ≡ v = stamp_neither_below u v not_less not_above in
      ⊎_elim
      (λ (made : later.made ≡ true).
      let own : (p : ℕ) × IsStamped stamps later.brick.0 later.boot later.seq p v
      = maker_stamp setting views w stamps books said b later v is made version in
      let floor : later.floor i ≡ v
      = stamp_neither_below (later.floor i) v (subst (λ (t : Stamp). stamp_below (later.floor i) t ≡ false) same above) below in
      absurd ((said.operations b later is).fresh i own.0
      (subst (λ (t : Stamp). IsStamped stamps later.brick.0 later.boot later.seq own.0 t) (sym floor) own.1)))
      (λ (unmade : later.made ≡ false). inr (same, unmade))
      (cases_Bool later.made))
      (cases_Bool (stamp_below u v))

  -- a quorum of a view had come to t when an operation began, and one was no further than its version: the two share a seat
  quorums_meet : (b : ℕ) (later : Operation) (e : ℕ) (t v : Stamp) → IsOperation w b later → later.version ≡ Some v → view_of v ≡ e
      → ((z : Group) → group_in setting.layout views later.ask.group.0 e ≡ Some z → FloorsAtLeast later z t)
      → (i : ℕ) × (stamp_below (later.floor i) t ≡ false) × (stamp_below v (later.floor i) ≡ false)
  quorums_meet b later e t v is version of floors =
      let b_books : OperationBooks setting w b later = books.operations b later is in
      let group : Group = kept_by (views later.ask.group.0 e) b_books.group in
      let group_is : group_in setting.layout views later.ask.group.0 e ≡ Some group = ap (option_map (kept_by (views later.ask.group.0 e))) b_books.group_is in
      let limits : IsWithinLimits group.m (length group.members) = said.limits later.ask.group.0 e group group_is in
      let most : FloorsAtMost later group v
      = ((said.operations b later is).version v version).floors group (ap (λ (x : ℕ). group_in setting.layout views later.ask.group.0 x) of ∙ group_is) in
      let share = quorums_share group.m (length group.members) limits.enough_seats
      (λ seat. not (stamp_below (later.floor (brick_at group seat)) t)) (λ seat. not (stamp_below v (later.floor (brick_at group seat))))
      (floors group group_is) most in
      let seat = count_some (length group.members)
      (both (λ k. not (stamp_below (later.floor (brick_at group k)) t)) (λ k. not (stamp_below v (later.floor (brick_at group k)))))
      (omega (arith, share, limits.some_block)) in
      let tests = and_parts (not (stamp_below (later.floor (brick_at group seat.0)) t))
      (not (stamp_below v (later.floor (brick_at group seat.0)))) seat.2 in
      (brick_at group seat.0, not-true (stamp_below (later.floor (brick_at group seat.0)) t) tests.0, not-true (stamp_below v (later.floor (brick_at group seat.0))) tests.1)

  -- versions of one view are in order by the floors of the later operation; else they are by their views, since a quorum of each view has passed it
  -- before the next is used
  in_order : (b : ℕ) (later : Operation) (u v : Stamp) → IsOperation w b later → later.version ≡ Some v → FloorsAbove setting views later u
      → (stamp_below u v ≡ true) ⊎ ((u ≡ v) × (later.made ≡ false))
  in_order b later u v is version floors = ⊎_elim
      (λ (less : view_of u < view_of v). inl (view_less u v less))
      (⊎_elim
      (λ (same : view_of v ≡ view_of u).
      let met = quorums_meet b later (view_of u) u v is version same floors.own in
      shared_floor b later u v met.0 is version met.1 met.2)
      (λ (above : view_of v < view_of u).
      let met = quorums_meet b later (view_of v) (floor_of (view_of v + 1)) v is version refl
      (λ z. floors.before (view_of v) z (view_least v) above) in
      absurd (false≢true (sym (stamp_not_below_trans (floor_of (view_of v + 1)) (later.floor met.0) v met.1 met.2) ∙ floor_next v))))
      (views_cases (view_of u) (view_of v))

  real_time_holds : (g s : ℕ) → FollowsRealTime w g s
  real_time_holds g s a b earlier later u v a_is b_is a_of b_of a_version b_version marked ended =
      let a_at = and_parts (nat_eq earlier.ask.group.0 g) (nat_eq earlier.ask.stripe.0 s) a_of in
      let b_at = and_parts (nat_eq later.ask.group.0 g) (nat_eq later.ask.stripe.0 s) b_of in
      ⊎_elim (in_order b later u v b_is b_version)
      (λ (before : later.begin ≤ last_of (life_of w.marks earlier.mark)). absurd (omega (arith, before, ended)))
      (said.order a b earlier later u a_is b_is
      (eqb-true earlier.ask.group.0 g a_at.0 ∙ sym (eqb-true later.ask.group.0 g b_at.0))
      (eqb-true earlier.ask.stripe.0 s a_at.1 ∙ sym (eqb-true later.ask.stripe.0 s b_at.1)) marked a_version)

  -- a version that another was made on is the base
  base_says : (n : ℕ) (o : Operation) (t : Stamp) → IsOperation w n o → ReadsBack setting views w o t → BaseSays setting views w o t
  base_says n o t is back =
      let its : OperationBooks setting w n o = books.operations n o is in
      record {
        base = back.base;
        base_is = back.base_is;
        op = back.op;
        below = back.below;
        made = back.made;
        content = back.content;
        none_between = λ u stands above less.
            (let at : group_in setting.layout views o.ask.group.0 (view_of u) ≡ Some (kept_by (views o.ask.group.0 (view_of u)) its.group)
            = ap (option_map (kept_by (views o.ask.group.0 (view_of u)))) its.group_is in
            blocked_never_stands w o.ask.group.0 o.ask.stripe.0 (kept_by (views o.ask.group.0 (view_of u)) its.group) u
            (back.blocked u (kept_by (views o.ask.group.0 (view_of u)) its.group) at (above, less))
            (stands (kept_by (views o.ask.group.0 (view_of u)) its.group) at));
      }

  maker_holds : (n : ℕ) (o : Operation) (t : Stamp) → IsOperation w n o → o.made ≡ true → o.version ≡ Some t → MakerFacts setting views w o t
  maker_holds n o t is made version = record {
    how = ⊎_elim
        (λ (whole : WritesWhole w o t). inl whole)
        (λ (back : ReadsBack setting views w o t). inr (base_says n o t is back))
        ((said.operations n o is).maker t made version);
    later = above_first t (made_later setting views w stamps books said n o t is made version);
  }

  reader_holds : (n : ℕ) (o : Operation) (t : Stamp) → IsOperation w n o → o.made ≡ false → o.version ≡ Some t → ReaderFacts w o t
  reader_holds n o t is unmade version =
      let has : HasVersion setting views w o t = (said.operations n o is).version t version in record { op = has.reader unmade; made = has.made }

  answered_data_holds : (n : ℕ) (o : Operation) (t : Stamp) (life : Life) (p : ℕ) (bytes : List ℕ) → IsOperation w n o → o.version ≡ Some t
      → life_of w.marks o.mark ≡ Some life → life.ending ≡ Answered p (Data bytes)
      → read_of setting.layout.block o.ask.op (w.contents o.ask.group.0 o.ask.stripe.0 t) ≡ Some bytes
  answered_data_holds n o t life p bytes is version life_is ending =
      let end = answered_has_end w.marks o.mark p (Data bytes) life life_is ending in
      let shown : DataShown setting w o.mark bytes = said.ends end.0 p o.mark (Data bytes) end.1 in
      let same : o ≡ shown.operation
      = one_of_marks w.marked w.operations books.own n shown.number o shown.operation is shown.is (books.lives o.mark life life_is).0 (sym shown.mark) in
      let stamp : shown.version ≡ t = same_Some shown.version t (sym shown.version_is ∙ ap (λ (z : Operation). z.version) (sym same) ∙ version) in
      ap (λ (u : Stamp). read_of setting.layout.block o.ask.op (w.contents o.ask.group.0 o.ask.stripe.0 u)) (sym stamp)
      ∙ ap (λ (z : Operation). read_of setting.layout.block z.ask.op (w.contents z.ask.group.0 z.ask.stripe.0 shown.version)) same
      ∙ shown.bytes_are

  -- a stripe write makes its bytes, and each other version is made of its base's content
  contents_hold : ContentsAreMade setting w
  contents_hold n o t is made version = ⊎_elim
      (λ (whole : WritesWhole w o t). sym (
      ap (λ (op : Op). content_on setting.layout.block (w.contents o.ask.group.0 o.ask.stripe.0) op o.base) whole.1
      ∙ ap (λ (z : Option Stamp). content_on setting.layout.block (w.contents o.ask.group.0 o.ask.stripe.0)
      (WriteStripe (w.contents o.ask.group.0 o.ask.stripe.0 t)) z) whole.0))
      (λ (back : ReadsBack setting views w o t).
      back.content ∙ sym (
      ap (λ (z : Option Stamp). content_on setting.layout.block (w.contents o.ask.group.0 o.ask.stripe.0) o.ask.op z) back.base_is))
      ((said.operations n o is).maker t made version)

  -- what is said of a world makes these facts true
  pub facts : QuorumFacts setting views w
  facts = record {
    real_time = real_time_holds;
    maker_unique = λ a b one other t one_is other_is one_made other_made one_version other_version.
        let first = maker_stamp setting views w stamps books said a one t one_is one_made one_version in
        let second = maker_stamp setting views w stamps books said b other t other_is other_made other_version in
        operation_unique setting views w stamps books said a b one other first.0 second.0 t one_is other_is first.1 second.1;
    made_version = λ n o is made. let had = (said.operations n o is).made made in (had.0, had.2);
    maker = maker_holds;
    reader = reader_holds;
    stands = λ n o t is version how. (said.operations n o is).stands t version how;
    answered_data = answered_data_holds;
    answered_write = λ n o is answered writes. (said.operations n o is).answered answered writes;
    first = λ g s group group_is. said.first g s ∙ ap (λ (z : Option Group). zero_content setting.layout.block z) group_is;
    contents = contents_hold;
    stored = λ call from to sent. said.packets sent.0 (record { from = from; to = to; message = Message.Reply call Reply.Stored }) sent.1;
    full = λ call from to live sent. said.packets sent.0 (record { from = from; to = to; message = Message.Reply call (Reply.Full live) }) sent.1;
    bases_found = bases_found setting views sound w stamps books said;
    words = words_fit setting views w stamps books said;
  }
