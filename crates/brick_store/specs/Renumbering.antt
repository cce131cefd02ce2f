-- Slots for the blocks of an old store: the blocks go to the slots from 0 on, in the order in which its live frames name them, and each once.
use Rattle.std.specs.Prelude.{ℕ, Bool, ◌||◌, not, ◌==◌, nat_lt, if◌then◌else◌, List, [], ◌∷◌, ◌++◌, length, map, filter}
use Rattle.std.specs.List.{position_or_len, flat_map}
use Rattle.stamp_store.specs.declared.log_records.LogChange.{LogChange}
use Rattle.stamp_store.specs.declared.log_records.LogChange.TheVariants.{Same, Collect, Slot}
use Rattle.stamp_store.specs.declared.log_records.Logged.{Logged}
use Rattle.brick_state.specs.declared.records.Record.{Record}
use Rattle.brick_state.specs.declared.records.Record.TheVariants as forms
use Rattle.brick_state.specs.Entries.{Entry}
use Rattle.brick_state.specs.States.{StripeOf, StateOf}
use Rattle.brick_state.specs.Folds.{slot_named}
use Rattle.brick_state.specs.Rewrites.{live_records, groups_records, stripes_records}
use Rattle.brick_state.specs.Slots.{slots_of}

-- each number once, where it stands first
unfoldable pub each_once : List ℕ → List ℕ
each_once [] = []
each_once (first ∷ rest) = first ∷ filter (λ n. not (n == first)) (each_once rest)

-- the numbers of the blocks that versions have, in their order; the zero block of the first version has none
abbrev pub numbers_of : StateOf Entry → List ℕ
numbers_of st = each_once (filter (λ n. not (n == 4294967295)) (slots_of st))

-- the slot that the block of a number goes to: its place among these numbers; the zero block lies in no slot
abbrev pub slot_for : List ℕ → ℕ → ℕ
slot_for numbers n = if n == 4294967295 then 4294967295 else position_or_len (λ other. other == n) numbers

-- the state with these slots
abbrev pub entry_over : List ℕ → Entry → Entry
entry_over numbers e = record { stamp = e.stamp; block = slot_for numbers e.block }

abbrev pub stripe_over : List ℕ → StripeOf Entry → StripeOf Entry
stripe_over numbers s = record { order = s.order; from_start = s.from_start; added = map (entry_over numbers) s.added }

abbrev pub brought : StateOf Entry → StateOf Entry
brought st = record {
  boot = st.boot;
  groups = st.groups;
  stripes = map (λ e. (e.0, stripe_over (numbers_of st) e.1)) st.stripes;
}

-- the blocks, one after the other
abbrev pub blocks_over : (ℕ → List ℕ) → StateOf Entry → List ℕ
blocks_over block st = flat_map block (numbers_of st)

-- The records that are written: those that bring back the state, but for the count of openings where none is kept.
abbrev pub records_over : StateOf Entry → List Record
records_over st = if st.boot == 0 then groups_records 0 st.groups ++ stripes_records st.stripes else live_records st

-- ---- one number after the other

-- the place of a number among those that got a slot, and whether it is among them
abbrev pub place_of : List ℕ → ℕ → ℕ
place_of given n = position_or_len (λ other. other == n) given

abbrev pub has_place : List ℕ → ℕ → Bool
has_place given n = nat_lt (place_of given n) (length given)

-- a number that gets a slot now: the zero block lies in none
abbrev pub is_new : List ℕ → ℕ → Bool
is_new given n = not ((n == 4294967295) || has_place given n)

-- the numbers that got a slot, in the order of their slots, once this one was named
abbrev pub given_with : List ℕ → ℕ → List ℕ
given_with given n = if is_new given n then given ++ n ∷ [] else given

-- and once a change of a log was, that names one
abbrev pub given_by : LogChange → List ℕ → List ℕ
given_by Same given = given
given_by Collect given = given
given_by (Slot bottom n) given = given_with given n

-- a change, and a record, with the slot that the block goes to
abbrev pub change_over : List ℕ → LogChange → LogChange
change_over given Same = Same
change_over given Collect = Collect
change_over given (Slot bottom n) = Slot bottom (slot_for given n)

abbrev pub logged_over : List ℕ → Logged → Logged
logged_over given r = record { group = r.group; view = r.view; stripe = r.stripe; stamp = r.stamp; change = change_over given r.change }

abbrev pub record_over : List ℕ → Record → Record
record_over given (forms.Kept kept) = forms.Kept kept
record_over given (forms.Logged r) = forms.Logged (logged_over given r)

-- what a record names
abbrev pub given_by_record : Record → List ℕ → List ℕ
given_by_record (forms.Kept kept) given = given
given_by_record (forms.Logged r) given = given_by r.change given

-- the number of the block that a record names, that of the zero block where it names none
abbrev pub number_in : Record → ℕ
number_in (forms.Kept kept) = 4294967295
number_in (forms.Logged r) = slot_named r.change
