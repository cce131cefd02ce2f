-- The stripes of all views as one list, in the order of their places.
use Rattle.std.proofs.Common.{◌≡◌, ℕ, ◌+◌, ◌≤◌, max, Bool, true, false, not, cond, Option, Some, None, Bor, List, [], ◌∷◌, ◌++◌, map, refl, sym, ap, subst, ◌∙◌, arith}
use Rattle.std.specs.declared.cmp.Ordering.{Ordering}
use Rattle.std.specs.declared.cmp.Ordering.TheVariants.{Less, Equal, Greater}
use Rattle.std.specs.Ordering.{nat_cmp, ordering_then, is_eq, match_ordering}
use Rattle.std.specs.Cmp.{IsTotalOrder}
use Rattle.std.specs.List.{filter, sum_by, AllByRecursion}
use Rattle.std.specs.List.Sorted.{IsStrictlySortedBy}
use Rattle.std.specs.Map.{lookup, set_value, remove_entry, keys_of, values_of}
use Rattle.std.specs.BTreeMap.{BTreeMap, get, insert_entry, is_at}
use Rattle.std.specs.Option.{option_map, unwrap_or, option_copied, IfSome, IfNone}
use Rattle.std.proofs.lemmas.Cmp.{nat_cmp_total, then_total, on_total, tied_itself, eq_by_cmp_equiv}
use Rattle.std.proofs.lemmas.Map.{NonePasses, none_passes_from_lookup}
use Rattle.std.proofs.lemmas.Map.Entries.{none_past_head, sum_by-remove_entry}
use Rattle.std.proofs.lemmas.Map.Keys.{sorted_tail, IsDistinct-from_sorted}
use Rattle.std.proofs.lemmas.Map.Lookups.{exact_unsigned, exact_pairs}
use Rattle.std.proofs.lemmas.Option.{same_Some}
use Rattle.std.proofs.lemmas.List.{map-append}
use Rattle.std.proofs.lemmas.List.Elements.{filter-append}
use Rattle.std.proofs.lemmas.List.Sums.{sum_by-append, sum_by-cons}
use Rattle.brick_state.specs.Entries.{Entry}
use Rattle.brick_state.specs.declared.stripes.Stripe.{Stripe}
use Rattle.brick_state.specs.declared.view_tables.ViewTable.{ViewTable}
use Rattle.brick_state.specs.States.{Place, StripeOf, place_cmp, first_stripe, stripe_in, put, stripe_of, stamp_of, weight, live_in, is_of_view}
use Rattle.brick_state.specs.Times.{greatest, stripe_time, time_in}
use Rattle.brick_state.specs.declared.stripes.StripeChange.{StripeChange}
use Rattle.brick_state.specs.Changes.{changed, IsAllowed}
use Rattle.brick_state.specs.ViewStripes.{live_of, time_of, HasRoomAt, MayChange, IsChanged}
use Rattle.brick_state.specs.Maps.{ViewKey, view_cmp, key_of, is_below_view, placed, flat, HasRoom, listed, listed_in, seen_entry, is_listed}
use Rattle.brick_state.proofs.StripeMaps.{found_at, not_found_at, written_at, first_unseen, rewritten_same, listed-filter, sum-listed, live-listed, weight_none}
use Rattle.brick_state.proofs.Greatest.{greatest-append, time-listed}

abbrev Stripes : Type 0
Stripes = List (ℕ × Stripe)

abbrev Tables : Type 0
Tables = List (ViewKey × ViewTable)

-- views are in a total order, and equal ones are the same
pub view_total : IsTotalOrder view_cmp
view_total = then_total (on_total (λ (k : ViewKey). k.0) nat_cmp_total) (on_total (λ (k : ViewKey). k.1) nat_cmp_total)

pub view_exact : (x y : ViewKey) → view_cmp x y ≡ Equal → x ≡ y
view_exact = exact_pairs nat_cmp nat_cmp exact_unsigned exact_unsigned

-- places of one view compare by their numbers
same_view : (k : ViewKey) (a b : ℕ) → place_cmp (k.0, k.1, a) (k.0, k.1, b) ≡ nat_cmp a b
same_view k a b = rw (tied_itself nat_cmp_total k.0, tied_itself nat_cmp_total k.1) refl

-- ---- two lists one after the other

module _ {K X : Type 0} (test : K → Bool) where
  lookup-append : (xs ys : List (K × X)) (v : X) → lookup test xs ≡ Some v → lookup test (xs ++ ys) ≡ Some v
  lookup-append [] ys v at = absurd cc
  lookup-append (e ∷ xs) ys v at = by (test e.0) at (lookup-append xs ys v)
    where
      by : (b : Bool) → cond b (Some e.1) (lookup test xs) ≡ Some v → (lookup test xs ≡ Some v → lookup test (xs ++ ys) ≡ Some v)
          → cond b (Some e.1) (lookup test (xs ++ ys)) ≡ Some v
      by true at later = at
      by false at later = later at

  lookup-past : (xs ys : List (K × X)) → NonePasses test xs → lookup test (xs ++ ys) ≡ lookup test ys
  lookup-past [] ys none = refl
  lookup-past (e ∷ xs) ys none = rw (none.0) (lookup-past xs ys none.1)

  set_value-append : (xs ys : List (K × X)) (v w : X) → lookup test xs ≡ Some v → set_value test (xs ++ ys) w ≡ set_value test xs w ++ ys
  set_value-append [] ys v w at = absurd cc
  set_value-append (e ∷ xs) ys v w at = by (test e.0) at (set_value-append xs ys v w)
    where
      by : (b : Bool) → cond b (Some e.1) (lookup test xs) ≡ Some v → (lookup test xs ≡ Some v → set_value test (xs ++ ys) w ≡ set_value test xs w ++ ys)
          → cond b ((e.0, w) ∷ (xs ++ ys)) (e ∷ set_value test (xs ++ ys) w) ≡ cond b ((e.0, w) ∷ xs) (e ∷ set_value test xs w) ++ ys
      by true at later = refl
      by false at later = ap (λ (es : List (K × X)). e ∷ es) (later at)

  set_value-past : (xs ys : List (K × X)) (w : X) → NonePasses test xs → set_value test (xs ++ ys) w ≡ xs ++ set_value test ys w
  set_value-past [] ys w none = refl
  set_value-past (e ∷ xs) ys w none = rw (none.0) (ap (λ (es : List (K × X)). e ∷ es) (set_value-past xs ys w none.1))

-- ---- the stripes of a view by their places

lookup-placed : (k : ViewKey) (number : ℕ) (es : Stripes) → lookup (is_at (place_cmp (k.0, k.1, number))) (placed k es) ≡ lookup (is_at (nat_cmp number)) es
unfolding placed
lookup-placed k number [] = refl
lookup-placed k number (e ∷ es) = rw (same_view k number e.0) (ap (λ (o : Option Stripe). cond (is_eq (nat_cmp number e.0)) (Some e.1) o) (lookup-placed k number es))

set_value-placed : (k : ViewKey) (number : ℕ) (es : Stripes) (w : Stripe)
    → set_value (is_at (place_cmp (k.0, k.1, number))) (placed k es) w ≡ placed k (set_value (is_at (nat_cmp number)) es w)
unfolding placed
set_value-placed k number [] w = refl
set_value-placed k number (e ∷ es) w = rw (same_view k number e.0) (by (is_eq (nat_cmp number e.0)) (set_value-placed k number es w))
  where
    by : (b : Bool) → set_value (is_at (place_cmp (k.0, k.1, number))) (placed k es) w ≡ placed k (set_value (is_at (nat_cmp number)) es w)
        → cond b (((k.0, k.1, e.0), w) ∷ placed k es) (((k.0, k.1, e.0), e.1) ∷ set_value (is_at (place_cmp (k.0, k.1, number))) (placed k es) w)
        ≡ placed k (cond b ((e.0, w) ∷ es) (e ∷ set_value (is_at (nat_cmp number)) es w))
    by true later = refl
    by false later = ap (λ (xs : List (Place × Stripe)). ((k.0, k.1, e.0), e.1) ∷ xs) later

insert-placed : (k : ViewKey) (number : ℕ) (es : Stripes) (w : Stripe)
    → placed k (insert_entry nat_cmp es number w) ≡ insert_entry place_cmp (placed k es) (k.0, k.1, number) w
unfolding placed
insert-placed k number [] w = refl
insert-placed k number (e ∷ es) w = rw (same_view k number e.0) (by (nat_cmp number e.0) (insert-placed k number es w))
  where
    by : (r : Ordering) → placed k (insert_entry nat_cmp es number w) ≡ insert_entry place_cmp (placed k es) (k.0, k.1, number) w
        → placed k (match_ordering r ((number, w) ∷ e ∷ es) ((e.0, w) ∷ es) (e ∷ insert_entry nat_cmp es number w))
        ≡ match_ordering r (((k.0, k.1, number), w) ∷ ((k.0, k.1, e.0), e.1) ∷ placed k es) (((k.0, k.1, e.0), w) ∷ placed k es)
        (((k.0, k.1, e.0), e.1) ∷ insert_entry place_cmp (placed k es) (k.0, k.1, number) w)
    by Less later = refl
    by Equal later = refl
    by Greater later = ap (λ (xs : List (Place × Stripe)). ((k.0, k.1, e.0), e.1) ∷ xs) later

-- a stripe that nothing happened to is not seen, and one that says the same changes nothing
pub new_placed : (p : Place) (es : Stripes) (s : Stripe) → lookup (is_at (nat_cmp p.2)) es ≡ None → stripe_of s ≡ first_stripe p
    → listed (placed (key_of p) (insert_entry nat_cmp es p.2 s)) ≡ listed (placed (key_of p) es)
new_placed p es s none first = ap listed (insert-placed (key_of p) p.2 es s)
    ∙ first_unseen (placed (key_of p) es) p s (lookup-placed (key_of p) p.2 es ∙ none) first

pub same_placed : (p : Place) (es : Stripes) (s new : Stripe) → lookup (is_at (nat_cmp p.2)) es ≡ Some s → stripe_of new ≡ stripe_of s
    → listed (placed (key_of p) (set_value (is_at (nat_cmp p.2)) es new)) ≡ listed (placed (key_of p) es)
same_placed p es s new at same = ap listed (sym (set_value-placed (key_of p) p.2 es new))
    ∙ rewritten_same (placed (key_of p) es) p s new (lookup-placed (key_of p) p.2 es ∙ at) same

-- a place of another view is not among them
none_placed : (p : Place) (k : ViewKey) (es : Stripes) → is_eq (view_cmp (key_of p) k) ≡ false → NonePasses (is_at (place_cmp p)) (placed k es)
unfolding placed
none_placed p k [] other = tt
none_placed p k (e ∷ es) other = (by (view_cmp (key_of p) k) other, none_placed p k es other)
  where
    by : (r : Ordering) → is_eq r ≡ false → is_eq (ordering_then r (nat_cmp p.2 e.0)) ≡ false
    by Less h = refl
    by Equal h = absurd cc
    by Greater h = refl

pub values-placed : (k : ViewKey) (es : Stripes) → values_of (placed k es) ≡ values_of es
unfolding placed
values-placed k [] = refl
values-placed k (e ∷ es) = ap (λ (xs : List Stripe). e.1 ∷ xs) (values-placed k es)

pub live-placed : (k : ViewKey) (es : Stripes) → live_in (listed (placed k es)) ≡ live_of es
live-placed k es = live-listed (placed k es) ∙ ap (sum_by (λ s. weight (stripe_of s))) (values-placed k es)

pub time-placed : (k : ViewKey) (es : Stripes) → time_in stamp_of (listed (placed k es)) ≡ time_of es
time-placed k es = time-listed (placed k es) ∙ ap (greatest (λ s. stripe_time stamp_of (stripe_of s))) (values-placed k es)

-- ---- look-ups

-- what is found in a view
abbrev pub of_table : ℕ → Option ViewTable → Option Stripe
of_table number None = None
of_table number (Some t) = lookup (is_at (nat_cmp number)) t.stripes.entries

none_flat : (p : Place) (views : Tables) → NonePasses (is_at (view_cmp (key_of p))) views → lookup (is_at (place_cmp p)) (flat views) ≡ None
unfolding flat
none_flat p [] none = refl
none_flat p (e ∷ views) none =
    lookup-past (is_at (place_cmp p)) (placed e.0 e.1.stripes.entries) (flat views) (none_placed p e.0 e.1.stripes.entries none.0) ∙ none_flat p views none.1

pub lookup-flat : (p : Place) (views : Tables) → IsStrictlySortedBy view_cmp (keys_of views)
    → lookup (is_at (place_cmp p)) (flat views) ≡ of_table p.2 (lookup (is_at (view_cmp (key_of p))) views)
unfolding flat
lookup-flat p [] sorted = refl
lookup-flat p (e ∷ views) sorted = by (view_cmp (key_of p) e.0) refl (lookup-flat p views (sorted_tail view_cmp e.0 (keys_of views) sorted))
  where
    here : Stripes
    here = e.1.stripes.entries

    past : (o : Option Stripe) → view_cmp (key_of p) e.0 ≡ Equal → lookup (is_at (place_cmp p)) (placed e.0 here) ≡ o
        → lookup (is_at (place_cmp p)) (placed e.0 here ++ flat views) ≡ o
    past (Some s) same at = lookup-append (is_at (place_cmp p)) (placed e.0 here) (flat views) s at
    past None same at =
        lookup-past (is_at (place_cmp p)) (placed e.0 here) (flat views) (none_passes_from_lookup (is_at (place_cmp p)) (placed e.0 here) at)
        ∙ none_flat p views (none_past_head (eq_by_cmp_equiv view_total) (key_of p) e views (IsDistinct-from_sorted view_cmp (keys_of (e ∷ views)) sorted) (ap is_eq same))

    at_key : key_of p ≡ e.0 → lookup (is_at (place_cmp p)) (placed e.0 here) ≡ lookup (is_at (nat_cmp p.2)) here
    at_key same = subst (λ (k : ViewKey). lookup (is_at (place_cmp p)) (placed k here) ≡ lookup (is_at (nat_cmp p.2)) here) same (lookup-placed (key_of p) p.2 here)

    other : is_eq (view_cmp (key_of p) e.0) ≡ false → lookup (is_at (place_cmp p)) (placed e.0 here ++ flat views) ≡ lookup (is_at (place_cmp p)) (flat views)
    other h = lookup-past (is_at (place_cmp p)) (placed e.0 here) (flat views) (none_placed p e.0 here h)

    by : (r : Ordering) → view_cmp (key_of p) e.0 ≡ r
        → lookup (is_at (place_cmp p)) (flat views) ≡ of_table p.2 (lookup (is_at (view_cmp (key_of p))) views)
        → lookup (is_at (place_cmp p)) (placed e.0 here ++ flat views) ≡ of_table p.2 (cond (is_eq (view_cmp (key_of p) e.0)) (Some e.1) (lookup (is_at (view_cmp (key_of p))) views))
    by Equal at later = past _ at (at_key (view_exact (key_of p) e.0 at)) ∙ sym (ap (λ (b : Bool). of_table p.2 (cond b (Some e.1) (lookup (is_at (view_cmp (key_of p))) views))) (ap is_eq at))
    by Less at later = other (ap is_eq at) ∙ later ∙ sym (ap (λ (b : Bool). of_table p.2 (cond b (Some e.1) (lookup (is_at (view_cmp (key_of p))) views))) (ap is_eq at))
    by Greater at later = other (ap is_eq at) ∙ later ∙ sym (ap (λ (b : Bool). of_table p.2 (cond b (Some e.1) (lookup (is_at (view_cmp (key_of p))) views))) (ap is_eq at))

-- ---- the order

module _ (k : ViewKey) (n : ℕ) where
  abbrev AllAbove : List Place → Type 0
  AllAbove ps = AllByRecursion (λ y. place_cmp (k.0, k.1, n) y ≡ Less) ps

  above-append : (q : ViewKey) (es : Stripes) (rest : List (Place × Stripe)) → view_cmp k q ≡ Less → AllAbove (keys_of rest) → AllAbove (keys_of (placed q es ++ rest))
  unfolding placed
  above-append q [] rest less above = above
  above-append q (e ∷ es) rest less above = (ap (λ (r : Ordering). ordering_then r (nat_cmp n e.0)) less, above-append q es rest less above)

  above-flat : (views : Tables) → AllByRecursion (λ q. view_cmp k q ≡ Less) (keys_of views) → AllAbove (keys_of (flat views))
  unfolding flat
  above-flat [] less = tt
  above-flat (e ∷ views) less = above-append e.0 e.1.stripes.entries (flat views) less.0 (above-flat views less.1)

  above-placed : (es : Stripes) (rest : List (Place × Stripe)) → AllByRecursion (λ y. nat_cmp n y ≡ Less) (keys_of es) → AllAbove (keys_of rest)
      → AllAbove (keys_of (placed k es ++ rest))
  unfolding placed
  above-placed [] rest less above = above
  above-placed (e ∷ es) rest less above = (same_view k n e.0 ∙ less.0, above-placed es rest less.1 above)

sorted-placed : (k : ViewKey) (es : Stripes) (rest : List (Place × Stripe)) → IsStrictlySortedBy nat_cmp (keys_of es)
    → ((n : ℕ) → AllAbove k n (keys_of rest)) → IsStrictlySortedBy place_cmp (keys_of rest) → IsStrictlySortedBy place_cmp (keys_of (placed k es ++ rest))
unfolding placed IsStrictlySortedBy
sorted-placed k [] rest sorted above later = later
sorted-placed k (e ∷ es) rest sorted above later = (above-placed k e.0 es rest sorted.0 (above e.0), sorted-placed k es rest sorted.1 above later)

pub sorted-flat : (views : Tables) → IsStrictlySortedBy view_cmp (keys_of views) → IsStrictlySortedBy place_cmp (keys_of (flat views))
unfolding flat IsStrictlySortedBy
sorted-flat [] sorted = tt
sorted-flat (e ∷ views) sorted =
    sorted-placed e.0 e.1.stripes.entries (flat views) e.1.ordered (λ n. above-flat e.0 n views sorted.0) (sorted-flat views sorted.1)

-- ---- one view is changed

-- a stripe that is written in its view
written-flat : (p : Place) (t t' : ViewTable) (s new : Stripe) (views : Tables) → lookup (is_at (view_cmp (key_of p))) views ≡ Some t
    → lookup (is_at (nat_cmp p.2)) t.stripes.entries ≡ Some s → t'.stripes.entries ≡ set_value (is_at (nat_cmp p.2)) t.stripes.entries new
    → flat (set_value (is_at (view_cmp (key_of p))) views t') ≡ set_value (is_at (place_cmp p)) (flat views) new
unfolding flat
written-flat p t t' s new [] found at written = absurd cc
written-flat p t t' s new (e ∷ views) found at written = by (view_cmp (key_of p) e.0) refl found (λ later. written-flat p t t' s new views later at written)
  where
    here : Some e.1 ≡ Some t → key_of p ≡ e.0 → placed e.0 t'.stripes.entries ++ flat views ≡ set_value (is_at (place_cmp p)) (placed e.0 e.1.stripes.entries ++ flat views) new
    here is same =
        let table : e.1 ≡ t = same_Some _ _ is in
        let at_e : lookup (is_at (nat_cmp p.2)) e.1.stripes.entries ≡ Some s = subst (λ (x : ViewTable). lookup (is_at (nat_cmp p.2)) x.stripes.entries ≡ Some s) (sym table) at in
        let now : t'.stripes.entries ≡ set_value (is_at (nat_cmp p.2)) e.1.stripes.entries new =
        subst (λ (x : ViewTable). t'.stripes.entries ≡ set_value (is_at (nat_cmp p.2)) x.stripes.entries new) (sym table) written in
        subst (λ (k : ViewKey). placed k t'.stripes.entries ++ flat views ≡ set_value (is_at (place_cmp p)) (placed k e.1.stripes.entries ++ flat views) new) same
        (ap (λ (es : Stripes). placed (key_of p) es ++ flat views) now
        ∙ ap (λ (es : List (Place × Stripe)). es ++ flat views) (sym (set_value-placed (key_of p) p.2 e.1.stripes.entries new))
        ∙ sym (set_value-append (is_at (place_cmp p)) (placed (key_of p) e.1.stripes.entries) (flat views) s new (lookup-placed (key_of p) p.2 e.1.stripes.entries ∙ at_e)))

    other : is_eq (view_cmp (key_of p) e.0) ≡ false → flat (set_value (is_at (view_cmp (key_of p))) views t') ≡ set_value (is_at (place_cmp p)) (flat views) new
        → placed e.0 e.1.stripes.entries ++ flat (set_value (is_at (view_cmp (key_of p))) views t')
        ≡ set_value (is_at (place_cmp p)) (placed e.0 e.1.stripes.entries ++ flat views) new
    other h later = ap (λ (es : List (Place × Stripe)). placed e.0 e.1.stripes.entries ++ es) later
        ∙ sym (set_value-past (is_at (place_cmp p)) (placed e.0 e.1.stripes.entries) (flat views) new (none_placed p e.0 e.1.stripes.entries h))

    by : (r : Ordering) → view_cmp (key_of p) e.0 ≡ r → cond (is_eq r) (Some e.1) (lookup (is_at (view_cmp (key_of p))) views) ≡ Some t
        → (lookup (is_at (view_cmp (key_of p))) views ≡ Some t → flat (set_value (is_at (view_cmp (key_of p))) views t') ≡ set_value (is_at (place_cmp p)) (flat views) new)
        → flat (cond (is_eq r) ((e.0, t') ∷ views) (e ∷ set_value (is_at (view_cmp (key_of p))) views t'))
        ≡ set_value (is_at (place_cmp p)) (placed e.0 e.1.stripes.entries ++ flat views) new
    by Equal is found later = here found (view_exact (key_of p) e.0 is)
    by Less is found later = other (ap is_eq is) (later found)
    by Greater is found later = other (ap is_eq is) (later found)

pub listed-append : (xs ys : List (Place × Stripe)) → listed (xs ++ ys) ≡ listed xs ++ listed ys
unfolding listed
listed-append xs ys = ap (filter is_listed) (map-append seen_entry xs ys) ∙ filter-append is_listed (map seen_entry xs) (map seen_entry ys)

-- a view in the place of one that says the same
pub same-flat : (k : ViewKey) (t t' : ViewTable) (views : Tables) → lookup (is_at (view_cmp k)) views ≡ Some t
    → listed (placed k t'.stripes.entries) ≡ listed (placed k t.stripes.entries)
    → listed (flat (set_value (is_at (view_cmp k)) views t')) ≡ listed (flat views)
unfolding flat
same-flat k t t' [] found same = refl
same-flat k t t' (e ∷ views) found same = by (view_cmp k e.0) refl found (λ later. same-flat k t t' views later same)
  where
    here : Some e.1 ≡ Some t → k ≡ e.0 → listed (placed e.0 t'.stripes.entries ++ flat views) ≡ listed (placed e.0 e.1.stripes.entries ++ flat views)
    here is key =
        let now : listed (placed k t'.stripes.entries) ≡ listed (placed k e.1.stripes.entries) =
        subst (λ (x : ViewTable). listed (placed k t'.stripes.entries) ≡ listed (placed k x.stripes.entries)) (sym (same_Some _ _ is)) same in
        listed-append (placed e.0 t'.stripes.entries) (flat views)
        ∙ ap (λ (es : List (Place × StripeOf Entry)). es ++ listed (flat views))
        (subst (λ (q : ViewKey). listed (placed q t'.stripes.entries) ≡ listed (placed q e.1.stripes.entries)) key now)
        ∙ sym (listed-append (placed e.0 e.1.stripes.entries) (flat views))

    other : listed (flat (set_value (is_at (view_cmp k)) views t')) ≡ listed (flat views)
        → listed (placed e.0 e.1.stripes.entries ++ flat (set_value (is_at (view_cmp k)) views t')) ≡ listed (placed e.0 e.1.stripes.entries ++ flat views)
    other later = listed-append (placed e.0 e.1.stripes.entries) (flat (set_value (is_at (view_cmp k)) views t'))
        ∙ ap (λ (es : List (Place × StripeOf Entry)). listed (placed e.0 e.1.stripes.entries) ++ es) later
        ∙ sym (listed-append (placed e.0 e.1.stripes.entries) (flat views))

    by : (r : Ordering) → view_cmp k e.0 ≡ r → cond (is_eq r) (Some e.1) (lookup (is_at (view_cmp k)) views) ≡ Some t
        → (lookup (is_at (view_cmp k)) views ≡ Some t → listed (flat (set_value (is_at (view_cmp k)) views t')) ≡ listed (flat views))
        → listed (flat (cond (is_eq r) ((e.0, t') ∷ views) (e ∷ set_value (is_at (view_cmp k)) views t'))) ≡ listed (placed e.0 e.1.stripes.entries ++ flat views)
    by Equal is found later = here found (view_exact k e.0 is)
    by Less is found later = other (later found)
    by Greater is found later = other (later found)

-- a new view without stripes
pub new-flat : (k : ViewKey) (t : ViewTable) (views : Tables) → lookup (is_at (view_cmp k)) views ≡ None → t.stripes.entries ≡ []
    → flat (insert_entry view_cmp views k t) ≡ flat views
unfolding flat placed
new-flat k t [] none empty = ap (λ (es : Stripes). placed k es ++ []) empty
new-flat k t (e ∷ views) none empty = by (view_cmp k e.0) refl none (λ later. new-flat k t views later empty)
  where
    by : (r : Ordering) → view_cmp k e.0 ≡ r → cond (is_eq r) (Some e.1) (lookup (is_at (view_cmp k)) views) ≡ None
        → (lookup (is_at (view_cmp k)) views ≡ None → flat (insert_entry view_cmp views k t) ≡ flat views)
        → flat (match_ordering r ((k, t) ∷ e ∷ views) ((e.0, t) ∷ views) (e ∷ insert_entry view_cmp views k t)) ≡ placed e.0 e.1.stripes.entries ++ flat views
    by Less is none later = ap (λ (es : Stripes). placed k es ++ (placed e.0 e.1.stripes.entries ++ flat views)) empty
    by Equal is none later = absurd cc
    by Greater is none later = ap (λ (es : List (Place × Stripe)). placed e.0 e.1.stripes.entries ++ es) (later none)

-- ---- what a clause sees

module _ (views : Tables) (sorted : IsStrictlySortedBy view_cmp (keys_of views)) where
  pub found_in_table : (p : Place) (t : ViewTable) (s : Stripe) → lookup (is_at (view_cmp (key_of p))) views ≡ Some t
      → lookup (is_at (nat_cmp p.2)) t.stripes.entries ≡ Some s → lookup (is_at (place_cmp p)) (flat views) ≡ Some s
  found_in_table p t s found at = lookup-flat p views sorted ∙ ap (of_table p.2) found ∙ at

  pub table_found : (p : Place) (t : ViewTable) (s : Stripe) → lookup (is_at (view_cmp (key_of p))) views ≡ Some t
      → lookup (is_at (nat_cmp p.2)) t.stripes.entries ≡ Some s → stripe_in (listed (flat views)) p ≡ stripe_of s
  table_found p t s found at = found_at (flat views) (sorted-flat views sorted) p s (found_in_table p t s found at)

  pub table_lacks : (p : Place) (t : ViewTable) → lookup (is_at (view_cmp (key_of p))) views ≡ Some t
      → lookup (is_at (nat_cmp p.2)) t.stripes.entries ≡ None → stripe_in (listed (flat views)) p ≡ first_stripe p
  table_lacks p t found at = not_found_at (flat views) (sorted-flat views sorted) p (lookup-flat p views sorted ∙ ap (of_table p.2) found ∙ at)

  pub no_table : (p : Place) → lookup (is_at (view_cmp (key_of p))) views ≡ None → stripe_in (listed (flat views)) p ≡ first_stripe p
  no_table p none = not_found_at (flat views) (sorted-flat views sorted) p (lookup-flat p views sorted ∙ ap (of_table p.2) none)

  -- a change of a stripe in its view is one of all stripes
  pub changed-flat : (p : Place) (t t' : ViewTable) (f : StripeOf Entry → StripeOf Entry) → lookup (is_at (view_cmp (key_of p))) views ≡ Some t
      → IsChanged p.2 f t.stripes.entries t'.stripes.entries
      → listed (flat (set_value (is_at (view_cmp (key_of p))) views t')) ≡ put p (f (stripe_in (listed (flat views)) p)) (listed (flat views))
  changed-flat p t t' f found is =
      let there = found_in_table p t is.from found is.there in
      ap listed (written-flat p t t' is.from is.to views found is.there is.written)
      ∙ written_at (flat views) (sorted-flat views sorted) p is.from is.to there
      ∙ ap (λ (s : StripeOf Entry). put p s (listed (flat views))) (is.now ∙ ap f (sym (table_found p t is.from found is.there)))

-- ---- sums and greatest times, view by view

sum-append : (f : Stripe → ℕ) (k : ViewKey) (es : Stripes) (rest : List (Place × Stripe))
    → sum_by f (values_of (placed k es ++ rest)) ≡ sum_by f (values_of es) + sum_by f (values_of rest)
sum-append f k es rest = ap (sum_by f) (map-append (λ (e : Place × Stripe). e.1) (placed k es) rest) ∙ sum_by-append f (values_of (placed k es)) (values_of rest)
    ∙ ap (λ (xs : List Stripe). sum_by f xs + sum_by f (values_of rest)) (values-placed k es)

raw_sum : (f : Stripe → ℕ) (views : Tables) → sum_by f (values_of (flat views)) ≡ sum_by (λ t. sum_by f (values_of t.stripes.entries)) (values_of views)
unfolding flat
raw_sum f [] = refl
raw_sum f (e ∷ views) = omega (
  arith,
  sum-append f e.0 e.1.stripes.entries (flat views),
  raw_sum f views,
  sum_by-cons (λ (t : ViewTable). sum_by f (values_of t.stripes.entries)) e.1 (values_of views),
)

-- what is summed of the stripes of a table
abbrev pub sum_of : (StripeOf Entry → ℕ) → ViewTable → ℕ
sum_of f t = sum_by (λ s. f (stripe_of s)) (values_of t.stripes.entries)

pub sum-flat : (f : StripeOf Entry → ℕ) → ((p : Place) → f (first_stripe p) ≡ 0) → (views : Tables)
    → sum_by f (values_of (listed (flat views))) ≡ sum_by (sum_of f) (values_of views)
sum-flat f none views = sum-listed f none (flat views) ∙ raw_sum (λ s. f (stripe_of s)) views

-- a view that is taken away takes its sum along
pub sum-removed : (f : StripeOf Entry → ℕ) → ((p : Place) → f (first_stripe p) ≡ 0) → (k : ViewKey) (t : ViewTable) (views : Tables)
    → lookup (is_at (view_cmp k)) views ≡ Some t
    → sum_by f (values_of (listed (flat (remove_entry (is_at (view_cmp k)) views)))) + sum_of f t ≡ sum_by f (values_of (listed (flat views)))
sum-removed f none k t views found = omega (
  arith,
  sum-flat f none views,
  sum-flat f none (remove_entry (is_at (view_cmp k)) views),
  sum_by-remove_entry (sum_of f) (is_at (view_cmp k)) views,
  ap (λ (o : Option ViewTable). unwrap_or (option_map (sum_of f) o) 0) found,
)

abbrev time_at : Stripe → ℕ
time_at s = stripe_time stamp_of (stripe_of s)

raw_time : (views : Tables) → greatest time_at (values_of (flat views)) ≡ greatest (λ t. time_of t.stripes.entries) (values_of views)
unfolding flat greatest
raw_time [] = refl
raw_time (e ∷ views) = ap (greatest time_at) (map-append (λ (x : Place × Stripe). x.1) (placed e.0 e.1.stripes.entries) (flat views))
    ∙ greatest-append time_at (values_of (placed e.0 e.1.stripes.entries)) (values_of (flat views))
    ∙ ap (λ (xs : List Stripe). max (greatest time_at xs) (greatest time_at (values_of (flat views)))) (values-placed e.0 e.1.stripes.entries)
    ∙ ap (max (time_of e.1.stripes.entries)) (raw_time views)

pub time-flat : (views : Tables) → time_in stamp_of (listed (flat views)) ≡ greatest (λ t. time_of t.stripes.entries) (values_of views)
time-flat views = time-listed (flat views) ∙ raw_time views

-- ---- what the calls of a map of views tell

-- no view has more live records than all of them
pub part_within : (k : ViewKey) (t : ViewTable) (views : Tables) → lookup (is_at (view_cmp k)) views ≡ Some t → live_of t.stripes.entries ≤ live_in (listed (flat views))
part_within k t views found = omega (arith, sum-removed weight weight_none k t views found)

module _ (views : BTreeMap ViewKey ViewTable) (sorted : IsStrictlySortedBy view_cmp (keys_of views.entries)) (p : Place) (t : ViewTable)
    (found : get view_cmp views (key_of p) ≡ Some t) where
  -- what a look-up in a view finds
  pub table_finds : (s : Option (Bor Stripe)) → get nat_cmp t.stripes p.2 ≡ option_copied s → IfSome s (λ x. stripe_in (listed_in views) p ≡ stripe_of x.now)
  table_finds None at = tt
  table_finds (Some s) at = table_found views.entries sorted p t s.now found at

  pub table_misses : (s : Option (Bor Stripe)) → get nat_cmp t.stripes p.2 ≡ option_copied s → IfNone s (stripe_in (listed_in views) p ≡ first_stripe p)
  table_misses None at = table_lacks views.entries sorted p t found at
  table_misses (Some s) at = tt

  -- a stripe that has room may be changed in its view
  pub may_change : (change : StripeChange) → HasRoom views p → IsAllowed change (stripe_in (listed_in views) p)
      → live_in (listed_in views) + weight (changed change (stripe_in (listed_in views) p)) ≤ 4294967295 + weight (stripe_in (listed_in views) p)
      → MayChange t.stripes p.2 change
  may_change change room allowed fits =
      let at : HasRoomAt t.stripes p.2 = subst (λ (x : ViewTable). HasRoomAt x.stripes p.2) (same_Some _ _ (sym room.there ∙ found)) room.at in
      let is : stripe_in (listed_in views) p ≡ stripe_of at.stripe = table_found views.entries sorted p t at.stripe found at.there in
      record {
        stripe = at.stripe;
        there = at.there;
        room = at.room;
        allowed = subst (λ (s : StripeOf Entry). IsAllowed change s) is allowed;
        fits = subst (λ (s : StripeOf Entry). live_of t.stripes.entries + weight (changed change s) ≤ 4294967295 + weight s) is
            (omega (arith, fits, part_within (key_of p) t views.entries found));
      }

-- ---- views that are dropped

-- the views that stay, after one that does not is taken away
pub kept-removed : (keep : ViewKey → Bool) (k : ViewKey) (views : Tables) → keep k ≡ false
    → filter (λ e. keep e.0) (remove_entry (is_at (view_cmp k)) views) ≡ filter (λ e. keep e.0) views
kept-removed keep k [] out = refl
kept-removed keep k (e ∷ views) out = by (view_cmp k e.0) refl (kept-removed keep k views out)
  where
    by : (r : Ordering) → view_cmp k e.0 ≡ r → filter (λ e. keep e.0) (remove_entry (is_at (view_cmp k)) views) ≡ filter (λ e. keep e.0) views
        → filter (λ e. keep e.0) (cond (is_eq r) views (e ∷ remove_entry (is_at (view_cmp k)) views)) ≡ cond (keep e.0) (e ∷ filter (λ e. keep e.0) views) (filter (λ e. keep e.0) views)
    by Equal is later = sym (ap (λ (b : Bool). cond b (e ∷ filter (λ e. keep e.0) views) (filter (λ e. keep e.0) views)) (ap keep (sym (view_exact k e.0 is)) ∙ out))
    by Less is later = ap (λ (es : Tables). cond (keep e.0) (e ∷ es) es) later
    by Greater is later = ap (λ (es : Tables). cond (keep e.0) (e ∷ es) es) later

pub all_stay : {X : Type 0} (drops : X → Bool) (xs : List X) → filter drops xs ≡ [] → filter (λ x. not (drops x)) xs ≡ xs
all_stay drops [] none = refl
all_stay {X} drops (x ∷ xs) none = by (drops x) none (all_stay drops xs)
  where
    by : (b : Bool) → cond b (x ∷ filter drops xs) (filter drops xs) ≡ [] → (filter drops xs ≡ [] → filter (λ x. not (drops x)) xs ≡ xs)
        → cond (not b) (x ∷ filter (λ x. not (drops x)) xs) (filter (λ x. not (drops x)) xs) ≡ x ∷ xs
    by true none later = absurd cc
    by false none later = ap (λ (ys : List X). x ∷ ys) (later none)

filter-placed : (keep : ViewKey → Bool) (k : ViewKey) (es : Stripes) → filter (λ e. keep (key_of e.0)) (placed k es) ≡ cond (keep k) (placed k es) []
unfolding placed
filter-placed keep k [] = either (keep k) []
  where
    either : (b : Bool) (es : List (Place × Stripe)) → es ≡ cond b es es
    either true es = refl
    either false es = refl
filter-placed keep k (e ∷ es) = by (keep k) (filter-placed keep k es)
  where
    rest : List (Place × Stripe)
    rest = filter (λ x. keep (key_of x.0)) (placed k es)

    by : (b : Bool) → rest ≡ cond b (placed k es) [] → cond b (((k.0, k.1, e.0), e.1) ∷ rest) rest ≡ cond b (((k.0, k.1, e.0), e.1) ∷ placed k es) []
    by true later = ap (λ (xs : List (Place × Stripe)). ((k.0, k.1, e.0), e.1) ∷ xs) later
    by false later = later

filter-flat : (keep : ViewKey → Bool) (views : Tables) → flat (filter (λ e. keep e.0) views) ≡ filter (λ e. keep (key_of e.0)) (flat views)
unfolding flat
filter-flat keep [] = refl
filter-flat keep (e ∷ views) = by (keep e.0) (filter-flat keep views) (filter-placed keep e.0 e.1.stripes.entries) ∙ sym (filter-append (λ x. keep (key_of x.0)) (placed e.0 e.1.stripes.entries) (flat views))
  where
    by : (b : Bool) → flat (filter (λ e. keep e.0) views) ≡ filter (λ e. keep (key_of e.0)) (flat views)
        → filter (λ x. keep (key_of x.0)) (placed e.0 e.1.stripes.entries) ≡ cond b (placed e.0 e.1.stripes.entries) []
        → flat (cond b (e ∷ filter (λ e. keep e.0) views) (filter (λ e. keep e.0) views))
        ≡ filter (λ x. keep (key_of x.0)) (placed e.0 e.1.stripes.entries) ++ filter (λ x. keep (key_of x.0)) (flat views)
    by true later here = ap (λ (es : List (Place × Stripe)). placed e.0 e.1.stripes.entries ++ es) later
        ∙ ap (λ (es : List (Place × Stripe)). es ++ filter (λ x. keep (key_of x.0)) (flat views)) (sym here)
    by false later here = later ∙ ap (λ (es : List (Place × Stripe)). es ++ filter (λ x. keep (key_of x.0)) (flat views)) (sym here)

-- the stripes that stay, where none of the views that are dropped is left
pub dropped-flat : (group first : ℕ) (old new : Tables) → filter (λ e. is_below_view group first e.0) new ≡ []
    → filter (λ e. not (is_below_view group first e.0)) new ≡ filter (λ e. not (is_below_view group first e.0)) old
    → listed (flat new) ≡ filter (λ e. not (is_of_view group first e.0)) (listed (flat old))
dropped-flat group first old new none same =
    ap (λ (es : Tables). listed (flat es)) (sym (all_stay (λ (e : ViewKey × ViewTable). is_below_view group first e.0) new none) ∙ same)
    ∙ ap listed (filter-flat (λ k. not (is_below_view group first k)) old)
    ∙ listed-filter (λ p. not (is_of_view group first p)) (flat old)
