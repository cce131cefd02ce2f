-- What holds of the states that records lead to.
use Rattle.std.specs.Prelude.{◌≡◌, ◌<◌, ◌≤◌, Bool, true, false, ◌==◌, Option, Some, None, List, [], ◌∷◌, length}
use Rattle.fab_base.specs.Stamps.{stamp_below}
use Rattle.brick_state.specs.Entries.{Entry}
use Rattle.std.specs.List.{AllByRecursion}
use Rattle.std.specs.List.Sorted.{IsStrictlySortedBy}
use Rattle.std.specs.Map.{keys_of}
use Rattle.fab_base.specs.declared.member_lists.View.{View}
use Rattle.fab_base.specs.Layouts.{most_groups}
use Rattle.brick_state.specs.States.{Place, StripeOf, StateOf, place_cmp, is_first, live}
use Rattle.brick_state.specs.Folds.{Limits, is_slot}
use Rattle.brick_state.specs.Rewrites.{start_of}

-- each version is above the one below it, and its slot is one of the store's
abbrev pub IsAbove : Option Entry → Entry → Type 0
IsAbove None e = Unit {0}
IsAbove (Some under) e = stamp_below under.stamp e.stamp ≡ true

abbrev pub Rises : Limits → Option Entry → List Entry → Type 0
Rises limits under [] = Unit {0}
Rises limits under (e ∷ entries) = IsAbove under e × ((is_slot limits e.block ≡ true) × Rises limits (Some e) entries)

-- something happened to the stripe; only in view 1 there is a version from the start, and only a version takes it away
pub record IsKeptStripe (limits : Limits) (p : Place) (s : StripeOf Entry) : Type 0 where
  pub group : p.0 < most_groups
  pub changed : is_first p s ≡ false
  pub start : s.from_start ≡ true → (p.1 == 1) ≡ true
  pub no_start : s.from_start ≡ false → s.added ≡ [] → (p.1 == 1) ≡ false
  pub rises : Rises limits (start_of s.from_start) s.added

-- a view that was learnt is not the first one
abbrev pub IsLearnt : Option (View × Bool) → Type 0
IsLearnt None = Unit {0}
IsLearnt (Some known) = 2 ≤ known.0.number.0

-- the most groups that there may be; stripes by their places; no more live records than there may be
pub record IsKeptState (limits : Limits) (st : StateOf Entry) : Type 0 where
  pub all_groups : length st.groups ≡ most_groups
  pub groups : AllByRecursion (λ group. IsLearnt group.known) st.groups
  pub sorted : IsStrictlySortedBy place_cmp (keys_of st.stripes)
  pub stripes : AllByRecursion (λ e. IsKeptStripe limits e.0 e.1) st.stripes
  pub within : live st ≤ limits.records
