-- The stripes of a group in a view, by their numbers.
use Rattle.std.specs.Prelude.{◌≡◌, true, ℕ, ◌+◌, ◌<◌, ◌≤◌, List, Some, sum_by, vec_len, vec_capacity}
use Rattle.std.specs.Ordering.{nat_cmp}
use Rattle.std.specs.Map.{lookup, set_value, values_of}
use Rattle.std.specs.BTreeMap.{BTreeMap, get, is_at}
use Rattle.fab_base.specs.declared.stamps.Stamp.{Stamp}
use Rattle.brick_state.specs.Entries.{Entry}
use Rattle.brick_state.specs.declared.stripes.Stripe.{Stripe}
use Rattle.brick_state.specs.declared.stripes.StripeChange.{StripeChange}
use Rattle.brick_state.specs.States.{StripeOf, stripe_of, stamp_of, weight, newest_entry, with_added, with_order}
use Rattle.brick_state.specs.Folds.{is_above}
use Rattle.brick_state.specs.Times.{greatest, stripe_time}
use Rattle.brick_state.specs.Changes.{changed, IsAllowed}

-- their live records, and the greatest time of their stamps
abbrev pub live_of : List (ℕ × Stripe) → ℕ
live_of stripes = sum_by (λ s. weight (stripe_of s)) (values_of stripes)

abbrev pub time_of : List (ℕ × Stripe) → ℕ
time_of stripes = greatest (λ s. stripe_time stamp_of (stripe_of s)) (values_of stripes)

-- there is room for one version more at a stripe
pub record HasRoomAt (stripes : BTreeMap ℕ Stripe) (number : ℕ) : Type 0 where
  pub stripe : Stripe
  pub there : get nat_cmp stripes number ≡ Some stripe
  pub room : vec_len stripe.added.versions < vec_capacity stripe.added.versions

-- a change of a stripe that has room for it, after which the live records can be counted
pub record MayChange (stripes : BTreeMap ℕ Stripe) (number : ℕ) (change : StripeChange) : Type 0 where
  pub stripe : Stripe
  pub there : get nat_cmp stripes number ≡ Some stripe
  pub room : vec_len stripe.added.versions < vec_capacity stripe.added.versions
  pub allowed : IsAllowed change (stripe_of stripe)
  pub fits : live_of stripes.entries + weight (changed change (stripe_of stripe)) ≤ 4294967295 + weight (stripe_of stripe)

-- one stripe is changed so, and no other
pub record IsChanged (number : ℕ) (change : StripeOf Entry → StripeOf Entry) (old new : List (ℕ × Stripe)) : Type 0 where
  pub from : Stripe
  pub to : Stripe
  pub there : lookup (is_at (nat_cmp number)) old ≡ Some from
  pub written : new ≡ set_value (is_at (nat_cmp number)) old to
  pub now : stripe_of to ≡ change (stripe_of from)

-- A version above the newest one is added to a stripe that is listed, and no other stripe is changed.
pub record IsExtended (number : ℕ) (e : Entry) (old new : List (ℕ × Stripe)) : Type 0 where
  pub is : IsChanged number (λ s. with_added e s) old new
  pub above : is_above (newest_entry (stripe_of is.from)) e.stamp ≡ true

-- The order stamp of a stripe that is listed is set in the place of another one, and no other stripe is changed.
pub record IsReordered (number : ℕ) (t replaced : Stamp) (old new : List (ℕ × Stripe)) : Type 0 where
  pub is : IsChanged number (λ s. with_order t s) old new
  pub was : replaced ≡ is.from.order
