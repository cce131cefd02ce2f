-- A stripe put in its place: what is at other places stays, and how many live records there are.
use Rattle.std.proofs.Common.{◌≡◌, ◌≢◌, ◌+◌, Bool, true, false, cond, Option, Some, None, List, [], ◌∷◌, refl, sym, ap, subst, ◌∙◌, arith}
use Rattle.std.specs.declared.cmp.Ordering.{Ordering}
use Rattle.std.specs.declared.cmp.Ordering.TheVariants.{Less, Equal, Greater}
use Rattle.std.specs.Ordering.{is_eq, match_ordering}
use Rattle.std.specs.List.{AllByRecursion}
use Rattle.std.specs.List.Sorted.{IsStrictlySortedBy}
use Rattle.std.specs.Map.{lookup, keys_of, remove_entry}
use Rattle.std.specs.BTreeMap.{insert_entry, is_at}
use Rattle.std.specs.Option.{unwrap_or, option_map}
use Rattle.std.proofs.lemmas.Cmp.{tied_itself}
use Rattle.std.proofs.lemmas.Map.Entries.{sum_by-insert_entry, sum_by-remove_entry}
use Rattle.std.proofs.lemmas.Map.Keys.{sorted_head, sorted_tail}
use Rattle.fab_base.specs.Stamps.{first_stamp}
use Rattle.fab_base.proofs.StampOrder.{stamp_same_refl}
use Rattle.brick_state.specs.States.{Place, StripeOf, place_cmp, first_stripe, is_first, stripe_in, put, weight, live_in}
use Rattle.brick_state.proofs.StripeMaps.{place_total, place_exact, weight_first, is_first-true}

itself : (p : Place) → is_eq (place_cmp p p) ≡ true
itself p = ap is_eq (tied_itself place_total p)

apart : (p q : Place) → q ≢ p → is_eq (place_cmp q p) ≡ false
apart p q other = by (place_cmp q p) refl
  where
    by : (r : Ordering) → place_cmp q p ≡ r → is_eq r ≡ false
    by Less at = refl
    by Greater at = refl
    by Equal at = absurd (other (place_exact q p at))

abbrev Stripes : Type 0 → Type 0
Stripes E = List (Place × StripeOf E)

module _ {E : Type 0} where
  abbrev found : Place → Stripes E → Option (StripeOf E)
  found q stripes = lookup (is_at (place_cmp q)) stripes

  -- ---- a stripe that is listed

  inserted_here : (p : Place) (s : StripeOf E) (stripes : Stripes E) → found p (insert_entry place_cmp stripes p s) ≡ Some s
  inserted_here p s [] = rw (itself p) refl
  inserted_here p s (e ∷ stripes) = by (place_cmp p e.0) refl (inserted_here p s stripes)
    where
      by : (r : Ordering) → place_cmp p e.0 ≡ r → found p (insert_entry place_cmp stripes p s) ≡ Some s
          → found p (match_ordering r ((p, s) ∷ e ∷ stripes) ((e.0, s) ∷ stripes) (e ∷ insert_entry place_cmp stripes p s)) ≡ Some s
      by Less at rest = rw (itself p) refl
      by Equal at rest = rw at refl
      by Greater at rest = rw at rest

  inserted_other : (p q : Place) (s : StripeOf E) (stripes : Stripes E) → q ≢ p → found q (insert_entry place_cmp stripes p s) ≡ found q stripes
  inserted_other p q s [] other = rw (apart p q other) refl
  inserted_other p q s (e ∷ stripes) other = by (place_cmp p e.0) refl (inserted_other p q s stripes other)
    where
      by : (r : Ordering) → place_cmp p e.0 ≡ r → found q (insert_entry place_cmp stripes p s) ≡ found q stripes
          → found q (match_ordering r ((p, s) ∷ e ∷ stripes) ((e.0, s) ∷ stripes) (e ∷ insert_entry place_cmp stripes p s)) ≡ cond
          (is_eq (place_cmp q e.0)) (Some e.1) (found q stripes)
      by Less at rest = rw (apart p q other) refl
      by Greater at rest = ap (cond (is_eq (place_cmp q e.0)) (Some e.1)) rest
      by Equal at rest = rw (subst (λ (k : Place). is_eq (place_cmp q k) ≡ false) (place_exact p e.0 at) (apart p q other)) refl

  -- ---- one that is not

  removed_here : (p : Place) (stripes : Stripes E) → IsStrictlySortedBy place_cmp (keys_of stripes)
      → found p (remove_entry (is_at (place_cmp p)) stripes) ≡ None
  removed_here p [] sorted = refl
  removed_here p (e ∷ stripes) sorted = by (place_cmp p e.0) refl (removed_here p stripes (sorted_tail place_cmp e.0 (keys_of stripes) sorted))
    where
      none_above : (rest : Stripes E) → AllByRecursion (λ k. place_cmp e.0 k ≡ Less) (keys_of rest) → place_cmp p e.0 ≡ Equal → found p rest ≡ None
      none_above [] above at = refl
      none_above (x ∷ rest) above at = rw (place_total.congr p e.0 x.0 at ∙ above.0) (none_above rest above.1 at)

      by : (r : Ordering) → place_cmp p e.0 ≡ r → found p (remove_entry (is_at (place_cmp p)) stripes) ≡ None
          → found p (cond (is_eq r) stripes (e ∷ remove_entry (is_at (place_cmp p)) stripes)) ≡ None
      by Less at rest = rw at rest
      by Greater at rest = rw at rest
      by Equal at rest = none_above stripes (sorted_head place_cmp e.0 (keys_of stripes) sorted) at

  removed_other : (p q : Place) (stripes : Stripes E) → q ≢ p → found q (remove_entry (is_at (place_cmp p)) stripes) ≡ found q stripes
  removed_other p q [] other = refl
  removed_other p q (e ∷ stripes) other = by (place_cmp p e.0) refl (removed_other p q stripes other)
    where
      by : (r : Ordering) → place_cmp p e.0 ≡ r → found q (remove_entry (is_at (place_cmp p)) stripes) ≡ found q stripes
          → found q (cond (is_eq r) stripes (e ∷ remove_entry (is_at (place_cmp p)) stripes)) ≡ cond (is_eq (place_cmp q e.0)) (Some e.1)
          (found q stripes)
      by Less at rest = ap (cond (is_eq (place_cmp q e.0)) (Some e.1)) rest
      by Greater at rest = ap (cond (is_eq (place_cmp q e.0)) (Some e.1)) rest
      by Equal at rest = rw (subst (λ (k : Place). is_eq (place_cmp q k) ≡ false) (place_exact p e.0 at) (apart p q other)) refl

  -- ---- a stripe in its place

  pub put_here : (p : Place) (s : StripeOf E) (stripes : Stripes E) → IsStrictlySortedBy place_cmp (keys_of stripes)
      → stripe_in (put p s stripes) p ≡ s
  put_here p s stripes sorted = by (is_first p s) refl
    where
      by : (b : Bool) → is_first p s ≡ b → unwrap_or
          (found p (cond b (remove_entry (is_at (place_cmp p)) stripes) (insert_entry place_cmp stripes p s))) (first_stripe p) ≡ s
      by true at = ap (λ (o : Option (StripeOf E)). unwrap_or o (first_stripe p)) (removed_here p stripes sorted) ∙ sym (is_first-true p s at)
      by false at = ap (λ (o : Option (StripeOf E)). unwrap_or o (first_stripe p)) (inserted_here p s stripes)

  pub put_other : (p q : Place) (s : StripeOf E) (stripes : Stripes E) → q ≢ p → stripe_in (put p s stripes) q ≡ stripe_in stripes q
  put_other p q s stripes other = ap (λ (o : Option (StripeOf E)). unwrap_or o (first_stripe q)) (by (is_first p s))
    where
      by : (b : Bool) → found q (cond b (remove_entry (is_at (place_cmp p)) stripes) (insert_entry place_cmp stripes p s)) ≡ found q stripes
      by true = removed_other p q stripes other
      by false = inserted_other p q s stripes other

  -- ---- live records

  weight_found : (p : Place) (o : Option (StripeOf E)) → unwrap_or (option_map weight o) 0 ≡ weight (unwrap_or o (first_stripe p))
  weight_found p None = sym (rw (stamp_same_refl first_stamp) refl)
  weight_found p (Some s) = refl

  pub live_put : (p : Place) (s : StripeOf E) (stripes : Stripes E) → IsStrictlySortedBy place_cmp (keys_of stripes)
      → live_in (put p s stripes) + weight (stripe_in stripes p) ≡ live_in stripes + weight s
  live_put p s stripes sorted = by (is_first p s) refl
    where
      was : unwrap_or (option_map weight (found p stripes)) 0 ≡ weight (stripe_in stripes p)
      was = weight_found p (found p stripes)

      by : (b : Bool) → is_first p s ≡ b → live_in (cond b (remove_entry (is_at (place_cmp p)) stripes) (insert_entry place_cmp stripes p s)) + weight
          (stripe_in stripes p) ≡ live_in stripes + weight s
      by true at = omega (arith, sum_by-remove_entry weight (is_at (place_cmp p)) stripes, was, weight_first p s at)
      by false at = omega (arith, sum_by-insert_entry weight place_total stripes p s sorted, was)
