-- The stamps of phases, and how they grow: a phase that is begun takes a stamp of its own call, or one that nobody knew.
use Rattle.std.proofs.Common.{◌≡◌, ℕ, ◌<◌, ◌≤◌, ◌⊎◌, inl, inr, true, false, Option, Some, None, refl, sym, ap, ◌∙◌, subst, ⊎_elim, arith}
use Rattle.std.proofs.lemmas.Bool.{cases_Bool}
use Rattle.std.proofs.lemmas.Option.{same_Some}
use Rattle.fab_base.specs.declared.stamps.Stamp.{Stamp}
use Rattle.fab_base.specs.Stamps.{stamp_below, first_stamp}
use Rattle.fab_base.proofs.StampOrder.{stamp_below_first, stamp_neither_below}
use Rattle.protocol.specs.Nodes.{Node, put}
use Rattle.protocol.specs.Worlds.{World}
use Rattle.protocol.specs.declared.phases.Phase.{Phase}
use Rattle.protocol_laws.proofs.Said.{Begun, Stamping, IsBegun, IsStamped, IsKnown, IsStampOf, StampsSay}
use Rattle.protocol.proofs.Tables.{put_each, put_same}

-- a stamp for call k of brick i's boot b: one that a phase of this call has, or one of some time that nobody knows
abbrev pub ComesFrom : Stamping → ℕ → ℕ → ℕ → Stamp → Type 0
ComesFrom stamps i b k t = ((q : ℕ) × IsStamped stamps i b k q t) ⊎ ((IsKnown stamps t → ⊥) × (1 ≤ t.time))

-- the stamps grow: where a phase was begun, it and the phases before it stay as they are
pub record StampsGrow (stamps later : Stamping) : Type 0 where
  pub begun : (i b k p q : ℕ) (x : Begun) → stamps i b k p ≡ Some x → q ≤ p → later i b k q ≡ stamps i b k q
  pub newer : (i b k p : ℕ) (t : Stamp) → IsStamped later i b k p t → ComesFrom stamps i b k t

-- stamps that stay as they are
pub stamps_same : (stamps : Stamping) → StampsGrow stamps stamps
stamps_same stamps = record { begun = λ i b k p q x is most. refl; newer = λ i b k p t is. inl (p, is) }

-- a phase stays begun
pub stays_begun : (stamps later : Stamping) → StampsGrow stamps later → (i b k p : ℕ) (phase : Phase) (t : Stamp) → IsBegun stamps i b k p phase t
    → IsBegun later i b k p phase t
stays_begun stamps later grow i b k p phase t is = grow.begun i b k p p (record { stamp = t; phase = phase }) is (omega arith) ∙ is

-- a phase keeps its stamp
pub stays_stamped : (stamps later : Stamping) → StampsGrow stamps later → (i b k p : ℕ) (t : Stamp) → IsStamped stamps i b k p t
    → IsStamped later i b k p t
stays_stamped stamps later grow i b k p t is = (is.0, stays_begun stamps later grow i b k p is.0 t is.1)

-- a known stamp stays known
pub stays_known : (stamps later : Stamping) → StampsGrow stamps later → (t : Stamp) → IsKnown stamps t → IsKnown later t
stays_known stamps later grow t (inl first) = inl first
stays_known stamps later grow t (inr known) =
    inr (known.0, known.1, known.2, known.3, stays_stamped stamps later grow known.0 known.1 known.2 known.3 t known.4)

-- a brick ages: its boot does not fall, and within a boot neither do the time that it knows and its call number
pub record Ages (node next : Node) : Type 0 where
  pub boot : node.boot ≤ next.boot
  pub known : next.boot ≡ node.boot → node.known ≤ next.known
  pub seq : next.boot ≡ node.boot → node.seq ≤ next.seq

-- within a boot
pub ages_within : (node next : Node) → next.boot ≡ node.boot → node.known ≤ next.known → node.seq ≤ next.seq → Ages node next
ages_within node next boot known seq = record { boot = omega (arith, boot); known = λ same. known; seq = λ same. seq }

-- a brick's stamp stays its own
pub stamp_stays : (node next : Node) (i b : ℕ) (t : Stamp) → Ages node next → IsStampOf node i b t → IsStampOf next i b t
stamp_stays node next i b t ages of = record {
  view = of.view;
  boot = of.boot;
  booted = omega (arith, of.booted, ages.boot);
  brick = of.brick;
  positive = of.positive;
  bounded = λ now.
      let same : next.boot ≡ node.boot = omega (arith, of.booted, ages.boot, now) in
      omega (arith, of.bounded (now ∙ same), ages.known same);
}

-- what the stamps say, where they stay, and the bricks age
pub stamps_stay : (w next : World) (stamps : Stamping) → StampsSay w stamps → ((i : ℕ) → Ages (w.nodes i) (next.nodes i)) → StampsSay next stamps
stamps_stay w next stamps say ages = record {
  are = λ i b k p t is. stamp_stays (w.nodes i) (next.nodes i) i b t (ages i) (say.are i b k p t is);
  begun = λ i b k p t is.
      let begun = say.begun i b k p t is in (
        begun.0,
        (λ now.
            let same : (next.nodes i).boot ≡ (w.nodes i).boot = omega (arith, (say.are i b k p t is).booted, (ages i).boot, now) in
            omega (arith, begun.1 (now ∙ same), (ages i).seq same)),
      );
  apart = say.apart;
}

-- a brick's stamp is not the first one
pub not_first : (node : Node) (i b : ℕ) (t : Stamp) → IsStampOf node i b t → t ≡ first_stamp → ⊥
not_first node i b t is first = let view : t.view.0 ≡ 0 = ap (λ (z : Stamp). z.view.0) first in absurd (omega (arith, view, is.view))

-- the first stamp is below any other
pub above_first : (t : Stamp) → (t ≡ first_stamp → ⊥) → stamp_below first_stamp t ≡ true
above_first t other = ⊎_elim
    (λ (above : stamp_below first_stamp t ≡ true). above)
    (λ (isnt : stamp_below first_stamp t ≡ false). absurd (other (stamp_neither_below t first_stamp (stamp_below_first t) isnt)))
    (cases_Bool (stamp_below first_stamp t))

-- nobody knows a stamp of a brick's present boot, of a time above all that the brick knows
pub later_unknown : (w : World) (stamps : Stamping) → StampsSay w stamps → (node : Node) (i : ℕ) (t : Stamp) → IsStampOf node i (w.nodes i).boot t
    → (w.nodes i).known < t.time → IsKnown stamps t → ⊥
later_unknown w stamps say node i t of above (inl first) = not_first node i (w.nodes i).boot t of first
later_unknown w stamps say node i t of above (inr is) =
    let its : IsStampOf (w.nodes is.0) is.0 is.1 t = say.are is.0 is.1 is.2 is.3 t is.4 in
    let brick : is.0 ≡ i = sym its.brick ∙ of.brick in
    let boot : is.1 ≡ (w.nodes i).boot = sym its.boot ∙ of.boot in
    let bounded : t.time ≤ (w.nodes i).known
    = subst (λ (j : ℕ). is.1 ≡ (w.nodes j).boot → t.time ≤ (w.nodes j).known) brick its.bounded boot in
    absurd (omega arith)

-- the stamps with one more phase
abbrev pub with_stamp : Stamping → ℕ → ℕ → ℕ → ℕ → Begun → Stamping
with_stamp stamps i b k p new = put stamps i (put (stamps i) b (put (stamps i b) k (put (stamps i b k) p (Some new))))

-- what holds of the new phase, and of each other phase as it was
stamp_each : (P : ℕ → ℕ → ℕ → ℕ → Option Begun → Type 0) (stamps : Stamping) (i b k p : ℕ) (new : Begun) → P i b k p (Some new)
    → ((j c l q : ℕ) → (j ≡ i → c ≡ b → l ≡ k → q ≡ p → ⊥) → P j c l q (stamps j c l q))
    → (j c l q : ℕ) → P j c l q (with_stamp stamps i b k p new j c l q)
stamp_each P stamps i b k p new now old j c l q =
    put_each (λ a table. (d e f : ℕ) → P a d e f (table d e f)) stamps i (put (stamps i) b (put (stamps i b) k (put (stamps i b k) p (Some new))))
    (put_each (λ d row. (e f : ℕ) → P i d e f (row e f)) (stamps i) b (put (stamps i b) k (put (stamps i b k) p (Some new)))
    (put_each (λ e cell. (f : ℕ) → P i b e f (cell f)) (stamps i b) k (put (stamps i b k) p (Some new))
    (put_each (P i b k) (stamps i b k) p (Some new) now (λ f other. old i b k f (λ g h m n. other n)))
    (λ e other f. old i b e f (λ g h m n. other m)))
    (λ d other e f. old i d e f (λ g h m n. other h)))
    (λ a other d e f. old a d e f (λ g h m n. other g)) j c l q

-- a phase does one thing, with one stamp
pub begun_once : (stamps : Stamping) (i b k p : ℕ) (one other : Phase) (t u : Stamp) → IsBegun stamps i b k p one t → IsBegun stamps i b k p other u
    → (one ≡ other) × (t ≡ u)
begun_once stamps i b k p one other t u first second =
    let same : record { stamp = t; phase = one } ≡ record { stamp = u; phase = other }
    = same_Some (record { stamp = t; phase = one }) (record { stamp = u; phase = other }) (sym first ∙ second) in
    (ap (λ (x : Begun). x.phase) same, ap (λ (x : Begun). x.stamp) same)

-- the stamp of a phase that was begun
stamp_of : (x : Begun) (phase : Phase) (t : Stamp) → Some x ≡ Some (record { stamp = t; phase = phase }) → x.stamp ≡ t
stamp_of x phase t is =
    let same : x ≡ record { stamp = t; phase = phase } = same_Some x (record { stamp = t; phase = phase }) is in ap (λ (z : Begun). z.stamp) same

module _ (stamps : Stamping) (i b k p : ℕ) (new : Begun) where
  -- the new phase
  pub stamp_now : with_stamp stamps i b k p new i b k p ≡ Some new
  stamp_now =
      ap (λ table. table b k p) (put_same stamps i (put (stamps i) b (put (stamps i b) k (put (stamps i b k) p (Some new)))))
      ∙ ap (λ row. row k p) (put_same (stamps i) b (put (stamps i b) k (put (stamps i b k) p (Some new))))
      ∙ ap (λ cell. cell p) (put_same (stamps i b) k (put (stamps i b k) p (Some new)))
      ∙ put_same (stamps i b k) p (Some new)

  -- another call's stamps are as they were
  pub stamps_other : (j c l : ℕ) → (j ≡ i → l ≡ k → ⊥) → (q : ℕ) → with_stamp stamps i b k p new j c l q ≡ stamps j c l q
  stamps_other j c l other q =
      stamp_each (λ a d e f z. (a ≡ i → e ≡ k → ⊥) → z ≡ stamps a d e f) stamps i b k p new (λ apart. absurd (apart refl refl))
      (λ a d e f differ apart. refl) j c l q other

  -- and so are the call's other phases
  pub phases_other : (q : ℕ) → (q ≡ p → ⊥) → with_stamp stamps i b k p new i b k q ≡ stamps i b k q
  phases_other q other =
      stamp_each (λ a d e f z. (f ≡ p → ⊥) → z ≡ stamps a d e f) stamps i b k p new (λ apart. absurd (apart refl))
      (λ a d e f differ apart. refl) i b k q other

  module _ (none : (r : ℕ) → p ≤ r → stamps i b k r ≡ None) (from : ComesFrom stamps i b k new.stamp) where
    -- no phase after it was begun
    pub stamp_last : (q : ℕ) → p < q → with_stamp stamps i b k p new i b k q ≡ None
    stamp_last q less = phases_other q (λ same. omega arith) ∙ none q (omega arith)

    -- the stamps grow by it
    pub stamps_grow : StampsGrow stamps (with_stamp stamps i b k p new)
    stamps_grow = record {
      begun = λ j c l a q x is most.
          stamp_each (λ e d f g z. (r : ℕ) → stamps e d f r ≡ Some x → g ≤ r → z ≡ stamps e d f g) stamps i b k p new
          (λ r at below. let e : Some x ≡ None = sym at ∙ none r below in cc)
          (λ e d f g differ r at below. refl) j c l q a is most;
      newer = λ j c l q u is.
          stamp_each (λ e d f g z. z ≡ Some (record { stamp = u; phase = is.0 }) → ComesFrom stamps e d f u) stamps i b k p new
          (λ at. subst (λ (z : Stamp). ComesFrom stamps i b k z) (stamp_of new is.0 u at) from)
          (λ e d f g differ at. inl (g, (is.0, at))) j c l q is.1;
    }

    -- a phase of this boot that had the new stamp was this call's
    had_stamp : (w : World) → StampsSay w stamps → (j c l q : ℕ) (t : Stamp) → new.stamp ≡ t → j ≡ i → c ≡ b → IsStamped stamps j c l q t → l ≡ k
    had_stamp w say j c l q t now brick boot is = ⊎_elim
        (λ (own : (r : ℕ) × IsStamped stamps i b k r new.stamp).
        say.apart i b l k q own.0 t
        (subst (λ (a : ℕ). IsStamped stamps i a l q t) boot (subst (λ (a : ℕ). IsStamped stamps a c l q t) brick is))
        (subst (λ (z : Stamp). IsStamped stamps i b k own.0 z) now own.1))
        (λ (unknown : (IsKnown stamps new.stamp → ⊥) × (1 ≤ new.stamp.time)).
        absurd (unknown.0 (inr (j, c, l, q, subst (λ (z : Stamp). IsStamped stamps j c l q z) (sym now) is))))
        from

    -- what the stamps then say
    pub stamps_say : (w next : World) → StampsSay w stamps → ((j : ℕ) → Ages (w.nodes j) (next.nodes j)) → IsStampOf (next.nodes i) i b new.stamp
        → 1 ≤ k → (b ≡ (next.nodes i).boot → k ≤ (next.nodes i).seq) → StampsSay next (with_stamp stamps i b k p new)
    stamps_say w next say ages of some most =
        let stay : StampsSay next stamps = stamps_stay w next stamps say ages in
        record {
          are = λ j c l q u is.
              stamp_each (λ e d f g z. z ≡ Some (record { stamp = u; phase = is.0 }) → IsStampOf (next.nodes e) e d u) stamps i b k p new
              (λ at. subst (λ (z : Stamp). IsStampOf (next.nodes i) i b z) (stamp_of new is.0 u at) of)
              (λ e d f g differ at. stay.are e d f g u (is.0, at)) j c l q is.1;
          begun = λ j c l q u is.
              stamp_each (λ e d f g z. z ≡ Some (record { stamp = u; phase = is.0 }) → (1 ≤ f) × (d ≡ (next.nodes e).boot → f ≤ (next.nodes e).seq))
              stamps i b k p new (λ at. (some, most)) (λ e d f g differ at. stay.begun e d f g u (is.0, at)) j c l q is.1;
          apart = λ j c l m q r u one other.
              stamp_each (λ e d f g z. z ≡ Some (record { stamp = u; phase = one.0 }) → IsStamped (with_stamp stamps i b k p new) e d m r u → f ≡ m)
              stamps i b k p new
              (λ is its.
              stamp_each (λ e d f g z. e ≡ i → d ≡ b → z ≡ Some (record { stamp = u; phase = its.0 }) → k ≡ f) stamps i b k p new
              (λ at when here. refl)
              (λ e d f g differ at when here. sym (had_stamp w say e d f g u (stamp_of new one.0 u is) at when (its.0, here)))
              i b m r refl refl its.1)
              (λ e d f g differ is its.
              stamp_each (λ a h x y z. a ≡ e → h ≡ d → z ≡ Some (record { stamp = u; phase = its.0 }) → f ≡ x) stamps i b k p new
              (λ at when here. had_stamp w say e d f g u (stamp_of new its.0 u here) (sym at) (sym when) (one.0, is))
              (λ a h x y apart at when here.
              say.apart e d f x g y u (one.0, is)
              (its.0, subst (λ (v : ℕ). IsBegun stamps e v x y its.0 u) when (subst (λ (v : ℕ). IsBegun stamps v h x y its.0 u) at here)))
              e d m r refl refl its.1)
              j c l q one.1 other;
        }
