-- What is counted of the stripes of a view, after a change of one.
use Rattle.std.proofs.Common.{◌≡◌, ℕ, ◌+◌, ◌≤◌, Bool, true, false, cond, List, Option, Some, ap, ◌∙◌, arith}
use Rattle.std.specs.Ordering.{nat_cmp}
use Rattle.std.specs.Map.{lookup, set_value}
use Rattle.std.specs.BTreeMap.{is_at}
use Rattle.std.specs.Option.{option_map, unwrap_or}
use Rattle.std.proofs.lemmas.Map.Entries.{sum_by-set_value, sum_by-remove_entry}
use Rattle.fab_base.specs.declared.stamps.Stamp.{Stamp}
use Rattle.fab_base.specs.Stamps.{stamp_same, first_stamp}
use Rattle.std.proofs.lemmas.List.{length_push}
use Rattle.brick_state.specs.Entries.{Entry}
use Rattle.brick_state.specs.declared.stripes.Stripe.{Stripe}
use Rattle.brick_state.specs.declared.stripes.StripeChange.{StripeChange}
use Rattle.brick_state.specs.declared.stripes.StripeChange.TheVariants.{Order, Add}
use Rattle.brick_state.specs.States.{stripe_of, weight}
use Rattle.brick_state.specs.Changes.{changed}
use Rattle.brick_state.specs.ViewStripes.{live_of, IsChanged, IsExtended, IsReordered}
use Rattle.brick_state.specs.Tallies.{order_weight}

module _ (number : ℕ) (change : StripeChange) (s new : Stripe) (old now : List (ℕ × Stripe)) (there : lookup (is_at (nat_cmp number)) old ≡ Some s)
    (written : now ≡ set_value (is_at (nat_cmp number)) old new) (is : stripe_of new ≡ changed change (stripe_of s)) where
  abbrev pub is_changed : IsChanged number (changed change) old now
  is_changed = record { from = s; to = new; there = there; written = written; now = is }

  -- its live records are exchanged
  pub live-changed : live_of now + weight (stripe_of s) ≡ live_of old + weight (stripe_of new)
  live-changed = ap (λ es. live_of es + weight (stripe_of s)) written ∙ sum_by-set_value (λ x. weight (stripe_of x)) (is_at (nat_cmp number)) old s new there

  pub live_fits : live_of old + weight (changed change (stripe_of s)) ≤ 4294967295 + weight (stripe_of s) → live_of now ≤ 4294967295
  live_fits fits = omega (arith, fits, live-changed, ap weight is)

-- a stripe has no more than all of them
pub weight_within : (number : ℕ) (s : Stripe) (es : List (ℕ × Stripe)) → lookup (is_at (nat_cmp number)) es ≡ Some s → weight (stripe_of s) ≤ live_of es
weight_within number s es there = omega (
  arith,
  sum_by-remove_entry (λ x. weight (stripe_of x)) (is_at (nat_cmp number)) es,
  ap (λ (o : Option Stripe). unwrap_or (option_map (λ x. weight (stripe_of x)) o) 0) there,
)

-- an order stamp that is set is exchanged for the one that was there, also among the live records
module _ (number : ℕ) (t replaced : Stamp) (old new : List (ℕ × Stripe)) (is : IsReordered number t replaced old new) where
  pub live-reordered : live_of new + order_weight replaced ≡ live_of old + order_weight t
  live-reordered = omega (
    arith,
    live-changed number (Order t) is.is.from is.is.to old new is.is.there is.is.written is.is.now,
    ap weight is.is.now,
    ap order_weight is.was,
  )

  pub reordered_within : order_weight replaced ≤ live_of old
  reordered_within = omega (arith, weight_within number is.is.from old is.is.there, ap order_weight is.was)

-- an order stamp is one live record at most
pub order_weight_fits : (t : Stamp) → order_weight t ≤ 1
order_weight_fits t = by (stamp_same t first_stamp)
  where
    by : (b : Bool) → cond b 0 1 ≤ 1
    by true = omega arith
    by false = omega arith

-- a version that is added is one live record more
pub live-extended : (number : ℕ) (e : Entry) (old new : List (ℕ × Stripe)) → IsExtended number e old new → live_of new ≡ live_of old + 1
live-extended number e old new is = omega (
  arith,
  live-changed number (Add e) is.is.from is.is.to old new is.is.there is.is.written is.is.now,
  ap weight is.is.now,
  length_push (stripe_of is.is.from).added e,
)
