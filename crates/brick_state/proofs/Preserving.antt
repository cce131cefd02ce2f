-- What holds of a state holds after a record.
use Rattle.std.proofs.Common.{◌≡◌, ℕ, ◌+◌, Bool, true, false, cond, Option, Some, None, List, refl, sym, ap, arith}
use Rattle.std.specs.List.{AllByRecursion, sum_by}
use Rattle.std.specs.List.Sorted.{IsStrictlySortedBy}
use Rattle.std.specs.Map.{lookup, keys_of, values_of, remove_entry}
use Rattle.std.specs.BTreeMap.{insert_entry, is_at}
use Rattle.std.specs.Option.{unwrap_or, option_map}
use Rattle.std.proofs.lemmas.Map.Entries.{sum_by-insert_entry, sum_by-remove_entry}
use Rattle.brick_state.specs.Entries.{Entry}
use Rattle.brick_state.specs.States.{Place, StripeOf, place_cmp, first_stripe, is_first, stripe_in, put, weight, live_in}
use Rattle.brick_state.specs.Folds.{Limits}
use Rattle.brick_state.specs.KeptStates.{IsKeptStripe}
use Rattle.brick_state.proofs.Listings.{sorted_inserted, sorted_removed, all_insert, all_remove}
use Rattle.brick_state.proofs.StripeMaps.{place_total, place_exact, is_first-true, weight_none}

-- a sum over the stripes, to which one that nothing happened to adds nothing, after a stripe was put in place
pub sum-put : (f : StripeOf Entry → ℕ) → ((p : Place) → f (first_stripe p) ≡ 0) → (p : Place) (s : StripeOf Entry)
    (stripes : List (Place × StripeOf Entry)) → IsStrictlySortedBy place_cmp (keys_of stripes)
    → sum_by f (values_of (put p s stripes)) + f (stripe_in stripes p) ≡ sum_by f (values_of stripes) + f s
sum-put f zero p s stripes sorted = by (is_first p s) refl
  where
    of_found : (found : Option (StripeOf Entry)) → unwrap_or (option_map f found) 0 ≡ f (unwrap_or found (first_stripe p))
    of_found None = sym (zero p)
    of_found (Some other) = refl

    found : unwrap_or (option_map f (lookup (is_at (place_cmp p)) stripes)) 0 ≡ f (stripe_in stripes p)
    found = of_found (lookup (is_at (place_cmp p)) stripes)

    by : (b : Bool) → is_first p s ≡ b → sum_by f (values_of (cond b (remove_entry (is_at (place_cmp p)) stripes) (insert_entry place_cmp stripes p s)))
        + f (stripe_in stripes p) ≡ sum_by f (values_of stripes) + f s
    by true at = omega (arith, sum_by-remove_entry f (is_at (place_cmp p)) stripes, found, ap f (is_first-true p s at), zero p)
    by false at = omega (arith, sum_by-insert_entry f place_total stripes p s sorted, found)

-- live records after a stripe was put in place
pub live-put : (p : Place) (s : StripeOf Entry) (stripes : List (Place × StripeOf Entry)) → IsStrictlySortedBy place_cmp (keys_of stripes)
    → live_in (put p s stripes) + weight (stripe_in stripes p) ≡ live_in stripes + weight s
live-put p s stripes sorted = sum-put weight weight_none p s stripes sorted

-- the stripes stay in order
pub sorted-put : (p : Place) (s : StripeOf Entry) (stripes : List (Place × StripeOf Entry)) → IsStrictlySortedBy place_cmp (keys_of stripes)
    → IsStrictlySortedBy place_cmp (keys_of (put p s stripes))
sorted-put p s stripes sorted = by (is_first p s)
  where
    by : (b : Bool) → IsStrictlySortedBy place_cmp
        (keys_of (cond b (remove_entry (is_at (place_cmp p)) stripes) (insert_entry place_cmp stripes p s)))
    by true = sorted_removed place_cmp (is_at (place_cmp p)) stripes sorted
    by false = sorted_inserted place_total p s stripes sorted

-- what holds of each stripe holds of each after a change of one
pub all-put : (limits : Limits) (p : Place) (s : StripeOf Entry) (stripes : List (Place × StripeOf Entry))
    → (is_first p s ≡ false → IsKeptStripe limits p s)
    → AllByRecursion (λ e. IsKeptStripe limits e.0 e.1) stripes → AllByRecursion (λ e. IsKeptStripe limits e.0 e.1) (put p s stripes)
all-put limits p s stripes kept all = by (is_first p s) refl
  where
    by : (b : Bool) → is_first p s ≡ b → AllByRecursion (λ e. IsKeptStripe limits e.0 e.1)
        (cond b (remove_entry (is_at (place_cmp p)) stripes) (insert_entry place_cmp stripes p s))
    by true at = all_remove (λ e. IsKeptStripe limits e.0 e.1) (is_at (place_cmp p)) stripes all
    by false at = all_insert (λ e. IsKeptStripe limits e.0 e.1) place_cmp place_exact p s stripes (kept at) all
