-- The greatest time of a view's stamps, after a change of one of its stripes.
use Rattle.std.proofs.Common.{◌≡◌, ℕ, ◌≤◌, max, Bool, true, false, not, ◌&&◌, ◌||◌, cond, Some, List, [], ◌∷◌, refl, sym, ap, subst, ◌∙◌, arith}
use Rattle.std.specs.Ordering.{nat_cmp}
use Rattle.std.specs.List.{filter, list_any}
use Rattle.std.specs.Map.{lookup, set_value, values_of}
use Rattle.std.specs.BTreeMap.{is_at}
use Rattle.std.proofs.lemmas.Bool.{and_parts}
use Rattle.std.proofs.lemmas.Option.{same_Some}
use Rattle.fab_base.specs.declared.stamps.Stamp.{Stamp}
use Rattle.fab_base.specs.Stamps.{stamp_below, stamp_same, first_stamp}
use Rattle.fab_base.proofs.StampOrder.{stamp_same_true, stamp_below_irrefl}
use Rattle.brick_state.specs.Entries.{Entry}
use Rattle.brick_state.specs.declared.stripes.Stripe.{Stripe}
use Rattle.brick_state.specs.declared.stripes.StripeChange.{StripeChange}
use Rattle.brick_state.specs.declared.stripes.StripeChange.TheVariants.{Order, Add, Restart, Collect}
use Rattle.brick_state.specs.States.{StripeOf, stripe_of, stamp_of, has_version, with_collected}
use Rattle.brick_state.specs.Changes.{changed, IsAllowed, time_lost, time_come}
use Rattle.brick_state.specs.Times.{greatest, stripe_time}
use Rattle.brick_state.specs.TopTimes.{IsReplaced}
use Rattle.brick_state.specs.ViewStripes.{time_of, IsChanged, IsExtended, IsReordered}
use Rattle.brick_state.proofs.Greatest.{greatest-push}

-- ---- the greatest of a map's values

module _ {K X : Type 0} (f : X → ℕ) (test : K → Bool) where
  abbrev greatest_in : List (K × X) → ℕ
  greatest_in es = greatest f (values_of es)

  -- no value that is found is above it
  greatest-lookup : (es : List (K × X)) (v : X) → lookup test es ≡ Some v → f v ≤ greatest_in es
  unfolding greatest
  greatest-lookup [] v at = absurd cc
  greatest-lookup (e ∷ es) v at = by (test e.0) at (greatest-lookup es v)
    where
      by : (b : Bool) → cond b (Some e.1) (lookup test es) ≡ Some v → (lookup test es ≡ Some v → f v ≤ greatest_in es) → f v ≤ greatest_in (e ∷ es)
      by true at later = omega (arith, ap f (same_Some _ _ at))
      by false at later = omega (arith, later at)

  -- a value that is written takes the place of the one that is found there
  greatest-set_value : (es : List (K × X)) (v w : X) → lookup test es ≡ Some v → IsReplaced (greatest_in es) (f v) (f w) (greatest_in (set_value test es w))
  unfolding greatest
  greatest-set_value [] v w at = absurd cc
  greatest-set_value (e ∷ es) v w at = by (test e.0) at (greatest-set_value es v w)
    where
      by : (b : Bool) → cond b (Some e.1) (lookup test es) ≡ Some v
          → (lookup test es ≡ Some v → IsReplaced (greatest_in es) (f v) (f w) (greatest_in (set_value test es w)))
          → IsReplaced (greatest_in (e ∷ es)) (f v) (f w) (greatest_in (cond b ((e.0, w) ∷ es) (e ∷ set_value test es w)))
      by true at later = let found = ap f (same_Some _ _ at) in record { same = omega (arith, found); kept = omega arith }
      by false at later = let rest = later at in record { same = omega (arith, rest.same); kept = omega (arith, rest.kept) }

-- of a stripe all times but one stay
part_replaced : (before after old now lost come rest : ℕ) → IsReplaced before old now after → old ≤ before → old ≡ max lost rest → now ≡ max come rest
    → IsReplaced before lost come after
part_replaced before after old now lost come rest whole within p q = record { same = omega (arith, whole.same, whole.kept); kept = omega (arith, whole.kept) }

-- ---- each change

abbrev time_at : Entry → ℕ
time_at e = (stamp_of e).time

-- the versions below a stamp, and the others
abbrev below : Stamp → List Entry → List Entry
below t es = filter (λ e. stamp_below (stamp_of e) t) es

abbrev not_below : Stamp → List Entry → List Entry
not_below t es = filter (λ e. not (stamp_below (stamp_of e) t)) es

greatest_split : (t : Stamp) (es : List Entry) → greatest time_at es ≡ max (greatest time_at (below t es)) (greatest time_at (not_below t es))
unfolding greatest
greatest_split t [] = refl
greatest_split t (e ∷ es) = by (stamp_below e.stamp t) (greatest_split t es)
  where
    by : (b : Bool) → greatest time_at es ≡ max (greatest time_at (below t es)) (greatest time_at (not_below t es))
        → greatest time_at (e ∷ es) ≡ max (greatest time_at (cond b (e ∷ below t es) (below t es)))
        (greatest time_at (cond (not b) (e ∷ not_below t es) (not_below t es)))
    by true h = omega (arith, h)
    by false h = omega (arith, h)

-- a version of a stamp is not below it
held_time : (t : Stamp) (es : List Entry) → list_any (λ e. stamp_same e.stamp t) es ≡ true → t.time ≤ greatest time_at (not_below t es)
unfolding greatest
held_time t [] held = absurd cc
held_time t (e ∷ es) held = by (stamp_same e.stamp t) refl held (held_time t es)
  where
    here : (b : Bool) → stamp_below e.stamp t ≡ b → e.stamp ≡ t
        → t.time ≤ greatest time_at (cond (not b) (e ∷ not_below t es) (not_below t es))
    here false at same = let time = ap (λ (s : Stamp). s.time) same in omega (arith, time)
    here true at same = absurd (differ (sym at ∙ subst (λ (s : Stamp). stamp_below e.stamp s ≡ false) same (stamp_below_irrefl e.stamp)))
      where
        differ : true ≡ false → ⊥
        differ h = cc

    later : (b : Bool) → t.time ≤ greatest time_at (not_below t es) → t.time ≤ greatest time_at (cond (not b) (e ∷ not_below t es) (not_below t es))
    later true h = h
    later false h = omega (arith, h)

    by : (b : Bool) → stamp_same e.stamp t ≡ b → (b || list_any (λ x. stamp_same x.stamp t) es) ≡ true
        → (list_any (λ x. stamp_same x.stamp t) es ≡ true → t.time ≤ greatest time_at (not_below t es))
        → t.time ≤ greatest time_at (not_below t (e ∷ es))
    by true at h ih = here (stamp_below e.stamp t) refl (stamp_same_true e.stamp t at)
    by false at h ih = later (stamp_below e.stamp t) (ih h)

-- the time of a version stays once those below it are dropped
collected_time : (s : StripeOf Entry) (t : Stamp) → has_version t s ≡ true → t.time ≤ stripe_time stamp_of (with_collected stamp_of t s)
collected_time s t held = by (s.from_start && stamp_same first_stamp t) refl held
  where
    first_time : stamp_same first_stamp t ≡ true → t.time ≡ 0
    first_time same = ap (λ (x : Stamp). x.time) (sym (stamp_same_true first_stamp t same))

    by : (b : Bool) → (s.from_start && stamp_same first_stamp t) ≡ b → (b || list_any (λ e. stamp_same e.stamp t) s.added) ≡ true
        → t.time ≤ max s.order.time (greatest time_at (not_below t s.added))
    by true at h = omega (arith, first_time (and_parts s.from_start (stamp_same first_stamp t) at).1)
    by false at h = omega (arith, held_time t s.added h)

-- of a stripe all times stay but those that go for another one
record Parts (old now lost come : ℕ) : Type 0 where
  rest : ℕ
  before : old ≡ max lost rest
  after : now ≡ max come rest

parts_of : (change : StripeChange) (s : StripeOf Entry) → IsAllowed change s
    → Parts (stripe_time stamp_of s) (stripe_time stamp_of (changed change s)) (time_lost change s) (time_come change)
unfolding greatest
parts_of (Order t) s allowed = record { rest = greatest time_at s.added; before = refl; after = refl }
parts_of (Add e) s allowed = record { rest = stripe_time stamp_of s; before = omega arith; after = omega (arith, greatest-push time_at s.added e) }
parts_of (Restart e) s allowed = record { rest = s.order.time; before = omega arith; after = omega arith }
parts_of (Collect t) s allowed = record {
  rest = stripe_time stamp_of (with_collected stamp_of t s);
  before = omega (arith, greatest_split t s.added);
  after = omega (arith, collected_time s t allowed);
}

-- after a change of a stripe
pub time-changed : (number : ℕ) (change : StripeChange) (old new : List (ℕ × Stripe)) → (is : IsChanged number (changed change) old new)
    → IsAllowed change (stripe_of is.from) → IsReplaced (time_of old) (time_lost change (stripe_of is.from)) (time_come change) (time_of new)
time-changed number change old new is allowed =
    let s = stripe_of is.from in
    let time : Stripe → ℕ = λ x. stripe_time stamp_of (stripe_of x) in
    let parts = parts_of change s allowed in
    let whole = greatest-set_value time (is_at (nat_cmp number)) old is.from is.to is.there in
    let here : IsReplaced (time_of old) (stripe_time stamp_of s) (stripe_time stamp_of (changed change s)) (time_of new) =
    subst (λ (n : ℕ). IsReplaced (time_of old) (stripe_time stamp_of s) n (time_of new)) (ap (stripe_time stamp_of) is.now)
    (subst (λ (es : List (ℕ × Stripe)). IsReplaced (time_of old) (stripe_time stamp_of s) (stripe_time stamp_of (stripe_of is.to)) (time_of es)) (sym is.written) whole) in
    part_replaced _ _ _ _ _ _ parts.rest here (greatest-lookup time (is_at (nat_cmp number)) old is.from is.there) parts.before parts.after

-- after an order stamp is set
pub time-reordered : (number : ℕ) (t replaced : Stamp) (old new : List (ℕ × Stripe)) → IsReordered number t replaced old new
    → IsReplaced (time_of old) replaced.time t.time (time_of new)
time-reordered number t replaced old new is =
    subst (λ (n : ℕ). IsReplaced (time_of old) n t.time (time_of new)) (sym (ap (λ (s : Stamp). s.time) is.was))
    (time-changed number (Order t) old new is.is tt)

-- after a version above the newest one is added
pub time-extended : (number : ℕ) (e : Entry) (old new : List (ℕ × Stripe)) → IsExtended number e old new → time_of new ≡ max (time_of old) e.stamp.time
time-extended number e old new is = omega (arith, (time-changed number (Add e) old new is.is is.above).same)
