-- What the index in memory says.
use Rattle.std.specs.Prelude.{◌≡◌, Bool, true, false, Option, Some, None, List}
use Rattle.brick_state.specs.Entries.{Entry}
use Rattle.brick_state.specs.declared.indexes.Index.{Index}
use Rattle.brick_state.specs.States.{StateOf, Place, StripeOf}
use Rattle.stamp_store.specs.declared.kept_records.Kept.TheVariants.{Boot, Ballots, Order}
use Rattle.stamp_store.specs.declared.kept_records.Kept.TheVariants as kinds
use Rattle.brick_state.specs.declared.records.Record.{Record}
use Rattle.brick_state.specs.declared.records.Record.TheVariants as forms
use Rattle.brick_state.specs.Folds.{Limits, place, slot_named}
use Rattle.brick_state.specs.Maps.{listed_in, HasRoom}
use Rattle.brick_state.specs.Tallies.{HasSlotRoom}

abbrev pub stripes_of : Index → List (Place × StripeOf Entry)
stripes_of index = listed_in index.stripes.views

abbrev pub limits_of : Index → Limits
limits_of index = record { records = index.records; slots = index.stripes.slots }

-- what the brick keeps
abbrev pub state_of : Index → StateOf Entry
state_of index = record { boot = index.boot; groups = index.groups.items; stripes = stripes_of index }

-- the answer of a change: it was made, or it can't be
abbrev pub Answers : StateOf Entry → Option (StateOf Entry) → Bool → Type 0
Answers now None answer = answer ≡ false
Answers now (Some st) answer = (answer ≡ true) × (now ≡ st)

-- there is room for the change
abbrev pub IsReady : Index → Record → Type 0
IsReady index (forms.Kept (Boot count)) = Unit {0}
IsReady index (forms.Kept (kinds.View g view synced)) = Unit {0}
IsReady index (forms.Kept (Ballots g v promised accepted)) = Unit {0}
IsReady index (forms.Kept (Order g v s t)) = HasRoom index.stripes.views (place g v s)
IsReady index (forms.Logged r) = HasRoom index.stripes.views (place r.group r.view r.stripe)
    × HasSlotRoom index.stripes.slots index.stripes.counts (slot_named r.change)
