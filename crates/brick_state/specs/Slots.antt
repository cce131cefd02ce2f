-- The slots that the versions of a brick name.
use Rattle.std.specs.Prelude.{◌≢◌, ℕ, ◌<◌, List, [], ◌∷◌, ◌++◌, map}
use Rattle.std.specs.List.{AllByRecursion, Contains}
use Rattle.brick_state.specs.Entries.{Entry}
use Rattle.brick_state.specs.States.{Place, StripeOf, StateOf}

abbrev pub slot_of : Entry → ℕ
slot_of e = e.block

-- that of each version that was added and not dropped since, stripe by stripe; one that versions share, once for each
unfoldable pub slots_in : List (Place × StripeOf Entry) → List ℕ
slots_in [] = []
slots_in (e ∷ stripes) = map slot_of e.1.added ++ slots_in stripes

abbrev pub slots_of : StateOf Entry → List ℕ
slots_of st = slots_in st.stripes

-- the slot is one of so many and none of these, and the least such one
pub record IsFree (slots : ℕ) (used : List ℕ) (slot : ℕ) : Type 0 where
  pub is_slot : slot < slots
  pub unused : AllByRecursion (λ other. other ≢ slot) used
  pub least : (other : ℕ) → other < slot → Contains used other
