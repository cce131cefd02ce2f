-- For each slot, how many versions name it.
use Rattle.std.specs.Prelude.{◌≡◌, ℕ, ◌<◌, ◌≤◌, ◌==◌, List, length, count_by, sum_by, slice_index_or, if◌then◌else◌}
use Rattle.std.specs.Map.{values_of}
use Rattle.fab_base.specs.declared.stamps.Stamp.{Stamp}
use Rattle.fab_base.specs.Stamps.{stamp_same, first_stamp}
use Rattle.brick_state.specs.Entries.{Entry}
use Rattle.brick_state.specs.States.{Place, StripeOf}

-- how many of these versions name the slot
abbrev pub names_of : ℕ → List Entry → ℕ
names_of slot entries = count_by (λ e. e.block == slot) entries

abbrev pub names_in : ℕ → List (Place × StripeOf Entry) → ℕ
names_in slot stripes = sum_by (λ s. names_of slot s.added) (values_of stripes)

-- how often each slot is named
abbrev pub AreNames : List (Place × StripeOf Entry) → List ℕ → Type 0
AreNames stripes counts = (slot : ℕ) → slot < length counts → slice_index_or counts slot 0 ≡ names_in slot stripes

-- no version names a slot past these counts
abbrev pub NoneBeyond : ℕ → List (Place × StripeOf Entry) → List ℕ → Type 0
NoneBeyond slots stripes counts = (slot : ℕ) → length counts ≤ slot → slot < slots → names_in slot stripes ≡ 0

-- there is a count for the slot, if it is one of so many
abbrev pub HasSlotRoom : ℕ → List ℕ → ℕ → Type 0
HasSlotRoom slots counts slot = slot < slots → slot < length counts

-- the live records that an order stamp is
abbrev pub order_weight : Stamp → ℕ
order_weight t = if stamp_same t first_stamp then 0 else 1
