-- The greatest time of the stamps that a brick keeps.
use Rattle.std.specs.Prelude.{ℕ, max, List, [], ◌∷◌}
use Rattle.std.specs.Map.{values_of}
use Rattle.fab_base.specs.declared.stamps.Stamp.{Stamp}
use Rattle.brick_state.specs.States.{Place, StripeOf, StateOf}

-- the greatest of these numbers, 0 where there is none
unfoldable pub greatest : {X : Type 0} → (X → ℕ) → List X → ℕ
greatest f [] = 0
greatest f (x ∷ xs) = max (f x) (greatest f xs)

-- of a stripe's order stamp and of the versions that were added
abbrev pub stripe_time : {E : Type 0} → (E → Stamp) → StripeOf E → ℕ
stripe_time stamp s = max s.order.time (greatest (λ e. (stamp e).time) s.added)

abbrev pub time_in : {E : Type 0} → (E → Stamp) → List (Place × StripeOf E) → ℕ
time_in stamp stripes = greatest (stripe_time stamp) (values_of stripes)

abbrev pub top_time : {E : Type 0} → (E → Stamp) → StateOf E → ℕ
top_time stamp st = time_in stamp st.stripes
