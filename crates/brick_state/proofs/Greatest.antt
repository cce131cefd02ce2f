-- The greatest of a list of numbers.
use Rattle.std.proofs.Common.{◌≡◌, ℕ, max, Bool, true, false, not, cond, List, [], ◌∷◌, ◌++◌, map, refl, ap, ◌∙◌, arith}
use Rattle.std.specs.List.{filter}
use Rattle.std.specs.Map.{values_of}
use Rattle.std.proofs.lemmas.List.Recursion.{max_push}
use Rattle.brick_state.specs.declared.stripes.Stripe.{Stripe}
use Rattle.brick_state.specs.States.{Place, is_first, stripe_of, stamp_of}
use Rattle.brick_state.specs.Maps.{listed, seen_entry, is_listed}
use Rattle.brick_state.specs.Times.{greatest, stripe_time}
use Rattle.brick_state.proofs.StripeMaps.{is_first-true}

-- one more at the end
pub greatest-push : {X : Type 0} (f : X → ℕ) (xs : List X) (x : X) → greatest f (xs ++ x ∷ []) ≡ max (greatest f xs) (f x)
unfolding greatest
greatest-push f xs x = max_push (greatest f) f refl (λ y ys. refl) xs x

-- of one list after another
pub greatest-append : {X : Type 0} (f : X → ℕ) (xs ys : List X) → greatest f (xs ++ ys) ≡ max (greatest f xs) (greatest f ys)
unfolding greatest
greatest-append f [] ys = omega arith
greatest-append f (x ∷ xs) ys = omega (arith, greatest-append f xs ys)

-- of images
pub greatest-map : {X Y : Type 0} (f : Y → ℕ) (g : X → Y) (xs : List X) → greatest f (map g xs) ≡ greatest (λ x. f (g x)) xs
unfolding greatest
greatest-map f g [] = refl
greatest-map f g (x ∷ xs) = ap (max (f (g x))) (greatest-map f g xs)

-- a stripe that nothing happened to keeps no time
first_time : (p : Place) (s : Stripe) → is_first p (stripe_of s) ≡ true → stripe_time stamp_of (stripe_of s) ≡ 0
unfolding greatest
first_time p s h = ap (stripe_time stamp_of) (is_first-true p (stripe_of s) h)

-- what is not seen keeps no time
pub time-listed : (entries : List (Place × Stripe)) → greatest (stripe_time stamp_of) (values_of (listed entries)) ≡ greatest
    (λ s. stripe_time stamp_of (stripe_of s)) (values_of entries)
unfolding listed greatest
time-listed [] = refl
time-listed (e ∷ entries) = by (is_first e.0 (stripe_of e.1)) refl (time-listed entries)
  where
    by : (b : Bool) → is_first e.0 (stripe_of e.1) ≡ b
        → greatest (stripe_time stamp_of) (values_of (filter is_listed (map seen_entry entries))) ≡ greatest (λ s. stripe_time stamp_of (stripe_of s))
        (values_of entries)
        → greatest (stripe_time stamp_of) (values_of (cond (not b) (seen_entry e ∷ filter is_listed (map seen_entry entries))
        (filter is_listed (map seen_entry entries))))
        ≡ max (stripe_time stamp_of (stripe_of e.1)) (greatest (λ s. stripe_time stamp_of (stripe_of s)) (values_of entries))
    by true at h = h ∙ omega (arith, first_time e.0 e.1 at)
    by false at h = ap (max (stripe_time stamp_of (stripe_of e.1))) h
