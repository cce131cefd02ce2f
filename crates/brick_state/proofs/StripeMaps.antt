-- The map of the stripes, and what a clause sees of it.
use Rattle.std.proofs.Common.{◌≡◌, ℕ, ◌+◌, Bool, true, false, not, ◌&&◌, ◌||◌, cond, eqb, Option, Some, None, List, [], ◌∷◌, length, map, refl, sym, ap, subst, ◌∙◌, arith}
use Rattle.std.specs.declared.cmp.Ordering.{Ordering}
use Rattle.std.specs.declared.cmp.Ordering.TheVariants.{Less, Equal, Greater}
use Rattle.std.specs.Ordering.{nat_cmp, ordering_then}
use Rattle.std.specs.Cmp.{IsTotalOrder}
use Rattle.std.specs.List.{filter, sum_by}
use Rattle.std.specs.List.Sorted.{IsStrictlySortedBy}
use Rattle.std.specs.Map.{lookup, set_value, remove_entry, keys_of, values_of}
use Rattle.std.specs.BTreeMap.{insert_entry, is_at}
use Rattle.std.specs.Option.{unwrap_or, option_map, is_some, IsSome}
use Rattle.std.proofs.lemmas.Cmp.{nat_cmp_total, then_total, on_total}
use Rattle.std.proofs.lemmas.Map.Lookups.{exact_unsigned}
use Rattle.std.proofs.lemmas.Map.Made.{lookup-map_values, keys_of-map_values}
use Rattle.std.proofs.lemmas.Map.Steps.{set_value_same}
use Rattle.std.proofs.lemmas.List.Sums.{sum_by-cons}
use Rattle.std.proofs.lemmas.Bool.{and_parts, eqb-true}
use Rattle.std.proofs.lemmas.List.{nil_from_length}
use Rattle.fab_base.specs.declared.stamps.Stamp.{Stamp}
use Rattle.fab_base.specs.Stamps.{stamp_same, first_stamp}
use Rattle.fab_base.proofs.StampOrder.{stamp_same_true, stamp_same_refl}
use Rattle.brick_state.specs.Entries.{Entry}
use Rattle.brick_state.specs.declared.stripes.Stripe.{Stripe}
use Rattle.brick_state.specs.States.{Place, StripeOf, place_cmp, first_stripe, is_first, stripe_in, put, weight, live_in, stripe_of}
use Rattle.brick_state.specs.Maps.{listed, seen_entry, is_listed}
use Rattle.brick_state.proofs.Listings.{map_values-filter, filter-filter, filter-set_value, lookup-filter, lookup-filter-none, sorted_filter, filter-insert_left_out, map_values-set_value, map_values-insert_entry}

-- places are in a total order, and equal places are the same
pub place_total : IsTotalOrder place_cmp
place_total = then_total (then_total (on_total (λ (t : Place). t.0) nat_cmp_total) (on_total (λ (t : Place). t.1) nat_cmp_total))
    (on_total (λ (t : Place). t.2) nat_cmp_total)

both_equal : (r s : Ordering) → ordering_then r s ≡ Equal → (r ≡ Equal) × (s ≡ Equal)
both_equal Less s h = absurd cc
both_equal Equal s h = (refl, h)
both_equal Greater s h = absurd cc

pub place_exact : (x y : Place) → place_cmp x y ≡ Equal → x ≡ y
place_exact x y h =
    let a = both_equal (ordering_then (nat_cmp x.0 y.0) (nat_cmp x.1 y.1)) (nat_cmp x.2 y.2) h in
    let b = both_equal (nat_cmp x.0 y.0) (nat_cmp x.1 y.1) a.0 in
    same x.0 y.0 x.1 y.1 x.2 y.2 (exact_unsigned x.0 y.0 b.0) (exact_unsigned x.1 y.1 b.1) (exact_unsigned x.2 y.2 a.1)
  where
    made : ℕ → ℕ → ℕ → Place
    made g v s = (g, v, s)

    same : (g h v w s t : ℕ) → g ≡ h → v ≡ w → s ≡ t → made g v s ≡ made h w t
    same g h v w s t p q r = cc

-- a stripe that nothing happened to is the first one
pub stripe_is : {E : Type 0} (s : StripeOf E) (order : Stamp) (from : Bool) (added : List E) → s.order ≡ order → s.from_start ≡ from → s.added ≡ added
    → s ≡ record { order = order; from_start = from; added = added }
stripe_is {E} s order from added p q r =
    ap (λ (t : Stamp). record { order = t; from_start = s.from_start; added = s.added }) p
    ∙ ap (λ (t : Bool). record { order = order; from_start = t; added = s.added }) q
    ∙ ap (λ (t : List E). record { order = order; from_start = from; added = t }) r

alike : (a b : Bool) → ((a && b) || (not a && not b)) ≡ true → a ≡ b
alike true true h = refl
alike true false h = absurd cc
alike false true h = absurd cc
alike false false h = refl

alike_refl : (a : Bool) → ((a && a) || (not a && not a)) ≡ true
alike_refl true = refl
alike_refl false = refl

pub is_first-true : {E : Type 0} (p : Place) (s : StripeOf E) → is_first p s ≡ true → s ≡ first_stripe p
is_first-true p s h =
    let a = and_parts (stamp_same s.order first_stamp)
    ((eqb (length s.added) 0) && ((s.from_start && (eqb p.1 1)) || (not s.from_start && not (eqb p.1 1)))) h in
    let b = and_parts (eqb (length s.added) 0) ((s.from_start && (eqb p.1 1)) || (not s.from_start && not (eqb p.1 1))) a.1 in
    stripe_is s first_stamp (eqb p.1 1) [] (stamp_same_true s.order first_stamp a.0) (alike s.from_start (eqb p.1 1) b.1)
    (nil_from_length s.added (eqb-true _ _ b.0))

pub is_first-first : (E : Type 0) (p : Place) → is_first {E = E} p (first_stripe p) ≡ true
is_first-first E p = rw (stamp_same_refl first_stamp, alike_refl (eqb p.1 1)) refl

module _ (entries : List (Place × Stripe)) (sorted : IsStrictlySortedBy place_cmp (keys_of entries)) where
  -- the entries as a clause sees them, in order
  abbrev seen : List (Place × StripeOf Entry)
  seen = map seen_entry entries

  seen_sorted : IsStrictlySortedBy place_cmp (keys_of seen)
  seen_sorted = rw (keys_of-map_values stripe_of entries) sorted

  seen_at : (p : Place) (found : Option Stripe) → lookup (is_at (place_cmp p)) entries ≡ found
      → lookup (is_at (place_cmp p)) seen ≡ option_map stripe_of found
  seen_at p found at = lookup-map_values stripe_of (is_at (place_cmp p)) entries ∙ ap (option_map stripe_of) at

  -- what the map has is what a clause sees
  pub found_at : (p : Place) (s : Stripe) → lookup (is_at (place_cmp p)) entries ≡ Some s → stripe_in (listed entries) p ≡ stripe_of s
  unfolding listed
  found_at p s at =
      ap (λ (found : Option (StripeOf Entry)). unwrap_or found (first_stripe p))
      (lookup-filter place_total place_exact is_listed p (stripe_of s) seen seen_sorted (seen_at p (Some s) at))
      ∙ by (is_first p (stripe_of s)) refl
    where
      by : (b : Bool) → is_first p (stripe_of s) ≡ b → unwrap_or (cond (not b) (Some (stripe_of s)) None) (first_stripe p) ≡ stripe_of s
      by true first = sym (is_first-true p (stripe_of s) first)
      by false other = refl

  -- where it has nothing, nothing happened
  pub not_found_at : (p : Place) → lookup (is_at (place_cmp p)) entries ≡ None → stripe_in (listed entries) p ≡ first_stripe p
  unfolding listed
  not_found_at p at = ap (λ (found : Option (StripeOf Entry)). unwrap_or found (first_stripe p))
      (lookup-filter-none (is_at (place_cmp p)) is_listed seen (seen_at p None at))

  -- a stripe written in the map
  pub written_at : (p : Place) (s new : Stripe) → lookup (is_at (place_cmp p)) entries ≡ Some s
      → listed (set_value (is_at (place_cmp p)) entries new) ≡ put p (stripe_of new) (listed entries)
  unfolding listed
  written_at p s new at =
      ap (filter is_listed) (map_values-set_value stripe_of (is_at (place_cmp p)) entries new)
      ∙ filter-set_value place_total place_exact is_listed p (stripe_of new) seen seen_sorted
      (subst (λ (found : Option (StripeOf Entry)). IsSome found) (sym (seen_at p (Some s) at)) refl)
      ∙ turned (is_first p (stripe_of new))
    where
      turned : (b : Bool) → cond (not b) (insert_entry place_cmp (filter is_listed seen) p (stripe_of new))
          (remove_entry (is_at (place_cmp p)) (filter is_listed seen))
          ≡ cond b (remove_entry (is_at (place_cmp p)) (filter is_listed seen)) (insert_entry place_cmp (filter is_listed seen) p (stripe_of new))
      turned true = refl
      turned false = refl

-- what a clause sees is in the order of the places too
pub listed_sorted : (entries : List (Place × Stripe)) → IsStrictlySortedBy place_cmp (keys_of entries) → IsStrictlySortedBy place_cmp
    (keys_of (listed entries))
unfolding listed
listed_sorted entries sorted = sorted_filter place_cmp is_listed (map seen_entry entries) (seen_sorted entries sorted)

-- a stripe that nothing happened to is not seen
pub first_unseen : (entries : List (Place × Stripe)) (p : Place) (s : Stripe) → lookup (is_at (place_cmp p)) entries ≡ None
    → stripe_of s ≡ first_stripe p → listed (insert_entry place_cmp entries p s) ≡ listed entries
unfolding listed
first_unseen entries p s none first =
    let at : lookup (is_at (place_cmp p)) (map seen_entry entries) ≡ None = lookup-map_values stripe_of (is_at (place_cmp p)) entries
    ∙ ap (option_map stripe_of) none in
    let out : is_first p (stripe_of s) ≡ true = ap (is_first p) first ∙ is_first-first Entry p in
    ap (filter is_listed) (map_values-insert_entry stripe_of place_cmp entries p s)
    ∙ filter-insert_left_out place_cmp is_listed p (stripe_of s) (map seen_entry entries) at (ap not out)

-- two finds are the same
pub same_found : {s t : Stripe} → Some s ≡ Some t → s ≡ t
same_found h = cc

-- a filter by the places
pub listed-filter : (keep : Place → Bool) (entries : List (Place × Stripe)) → listed (filter (λ e. keep e.0) entries) ≡ filter (λ e. keep e.0)
    (listed entries)
unfolding listed
listed-filter keep entries = ap (filter is_listed) (map_values-filter stripe_of keep entries)
    ∙ filter-filter is_listed (λ (e : Place × StripeOf Entry). keep e.0) (map seen_entry entries)

-- a stripe written in the place of one that says the same
pub rewritten_same : (entries : List (Place × Stripe)) (p : Place) (s new : Stripe) → lookup (is_at (place_cmp p)) entries ≡ Some s
    → stripe_of new ≡ stripe_of s → listed (set_value (is_at (place_cmp p)) entries new) ≡ listed entries
unfolding listed
rewritten_same entries p s new at same =
    let found : lookup (is_at (place_cmp p)) (map seen_entry entries) ≡ Some (stripe_of s) = lookup-map_values stripe_of (is_at (place_cmp p)) entries
    ∙ ap (option_map stripe_of) at in
    ap (filter is_listed) (map_values-set_value stripe_of (is_at (place_cmp p)) entries new
    ∙ ap (set_value (is_at (place_cmp p)) (map seen_entry entries)) same
    ∙ set_value_same (is_at (place_cmp p)) (map seen_entry entries) (stripe_of s) found)

-- stripes with the same parts say the same
pub same_versions : (s new : Stripe) → new.order ≡ s.order → new.from_start ≡ s.from_start → new.added.versions.items ≡ s.added.versions.items
    → stripe_of new ≡ stripe_of s
same_versions s new order from items = stripe_is (stripe_of new) s.order s.from_start s.added.versions.items order from items

-- what a test says is not there
pub none_is : {X : Type 0} (found : Option X) → is_some found ≡ false → found ≡ None
none_is None h = refl
none_is (Some x) h = absurd cc

-- ---- live records

pub weight_first : {E : Type 0} (p : Place) (s : StripeOf E) → is_first p s ≡ true → weight s ≡ 0
weight_first p s h = ap weight (is_first-true p s h) ∙ rw (stamp_same_refl first_stamp) refl

-- what is not seen adds nothing to a sum to which a stripe adds nothing where nothing happened to it
pub sum-listed : (f : StripeOf Entry → ℕ) → ((p : Place) → f (first_stripe p) ≡ 0) → (entries : List (Place × Stripe))
    → sum_by f (values_of (listed entries)) ≡ sum_by (λ s. f (stripe_of s)) (values_of entries)
unfolding listed
sum-listed f none [] = refl
sum-listed f none (e ∷ entries) = by (is_first e.0 (stripe_of e.1)) refl (sum-listed f none entries)
    ∙ sym (sum_by-cons (λ s. f (stripe_of s)) e.1 (values_of entries))
  where
    by : (b : Bool) → is_first e.0 (stripe_of e.1) ≡ b → sum_by f (values_of (filter is_listed (map seen_entry entries))) ≡ sum_by (λ s. f (stripe_of s))
        (values_of entries)
        → sum_by f (values_of (cond (not b) (seen_entry e ∷ filter is_listed (map seen_entry entries)) (filter is_listed (map seen_entry entries))))
        ≡ f (stripe_of e.1) + sum_by (λ s. f (stripe_of s)) (values_of entries)
    by true at h = h ∙ omega (arith, ap f (is_first-true e.0 (stripe_of e.1) at), none e.0)
    by false at h = rw sum_by-cons (ap (λ n. f (stripe_of e.1) + n) h)

pub weight_none : (p : Place) → weight {E = Entry} (first_stripe p) ≡ 0
weight_none p = rw (stamp_same_refl first_stamp) refl

-- what is not seen is no live record
pub live-listed : (entries : List (Place × Stripe)) → live_in (listed entries) ≡ sum_by (λ s. weight (stripe_of s)) (values_of entries)
live-listed entries = sum-listed weight weight_none entries
