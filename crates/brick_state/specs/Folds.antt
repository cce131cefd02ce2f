-- What a list of records makes of a brick that keeps nothing.
use Rattle.std.specs.Prelude.{ℕ, Bool, true, not, ◌||◌, ◌&&◌, nat_lt, nat_le, ◌==◌, if◌then◌else◌, Option, Some, None, List, [], ◌∷◌, length}
use Rattle.fab_base.specs.declared.stamps.Stamp.{Stamp}
use Rattle.fab_base.specs.declared.identities.GroupId.{GroupId}
use Rattle.fab_base.specs.declared.identities.ViewNo.{ViewNo}
use Rattle.fab_base.specs.declared.identities.StripeNo.{StripeNo}
use Rattle.fab_base.specs.Stamps.{stamp_below, stamp_same, first_stamp}
use Rattle.fab_base.specs.Layouts.{most_groups}
use Rattle.stamp_store.specs.declared.kept_records.Kept.TheVariants.{Boot, Ballots, Order}
use Rattle.stamp_store.specs.declared.kept_records.Kept.TheVariants as kinds
use Rattle.stamp_store.specs.declared.log_records.LogChange.{LogChange}
use Rattle.stamp_store.specs.declared.log_records.Logged.{Logged}
use Rattle.stamp_store.specs.declared.log_records.LogChange.TheVariants.{Same, Collect, Slot}
use Rattle.brick_state.specs.declared.records.Record.{Record}
use Rattle.brick_state.specs.declared.records.Record.TheVariants as forms
use Rattle.brick_state.specs.Entries.{Entry}
use Rattle.brick_state.specs.States.{Place, StripeOf, StateOf, stripe_at, with_stripe, ordered, booted, viewed, balloted, live, newest_entry, has_version, with_added, with_bottom, with_collected, stamp_of}

-- how many live records there may be, and how many slots there are
pub record Limits : Type 0 where
  pub records : ℕ
  pub slots : ℕ

-- of a log's change only the number of slots counts
abbrev pub slot_limits : ℕ → Limits
slot_limits slots = record { records = 0; slots = slots }

abbrev pub place : GroupId → ViewNo → StripeNo → Place
place g v s = (g.0, v.0, s.0)

abbrev pub entry : Stamp → ℕ → Entry
entry t slot = record { stamp = t; block = slot }

-- there are as many live records as there may be
abbrev pub is_full : Limits → StateOf Entry → Bool
is_full limits st = nat_le limits.records (live st)

-- there is such a slot: that of the zero block, or one of the store's
abbrev pub is_slot : Limits → ℕ → Bool
is_slot limits slot = (slot == 4294967295) || nat_lt slot limits.slots

-- an order stamp that is one live record more
abbrev pub adds_order : Stamp → StripeOf Entry → Bool
adds_order t s = stamp_same s.order first_stamp && not (stamp_same t first_stamp)

-- a stamp above the newest version, if there is one
abbrev pub is_above : Option Entry → Stamp → Bool
is_above None t = true
is_above (Some newest) t = stamp_below newest.stamp t

-- a version with the newest one's block
abbrev pub same_added : Option Entry → Stamp → StripeOf Entry → Option (StripeOf Entry)
same_added None t s = None
same_added (Some newest) t s = if stamp_below newest.stamp t then Some (with_added (entry t newest.block) s) else None

-- the slot that a log's change names, that of the zero block where it names none
abbrev pub slot_named : LogChange → ℕ
slot_named Same = 4294967295
slot_named Collect = 4294967295
slot_named (Slot bottom slot) = slot

-- A log's change. None where it can't be: no version below it, a stamp not above the newest, one to keep that is not there, no
-- such slot, or one live record too many.
unfoldable pub log_changed : Limits → Bool → LogChange → Stamp → StripeOf Entry → Option (StripeOf Entry)
log_changed limits full Same t s = if full then None else same_added (newest_entry s) t s
log_changed limits full Collect t s = if has_version t s then Some (with_collected stamp_of t s) else None
log_changed limits full (Slot bottom slot) t s =
    if is_slot limits slot
    then (if bottom
    then (if (length s.added == 0) && full then None else Some (with_bottom (entry t slot) s))
    else (if full || not (is_above (newest_entry s) t) then None else Some (with_added (entry t slot) s)))
    else None

abbrev pub placed : Place → StateOf Entry → Option (StripeOf Entry) → Option (StateOf Entry)
placed p st None = None
placed p st (Some s) = Some (with_stripe p s st)

-- An order stamp set. None where it can't be: a group from most_groups on, or one live record too many.
abbrev pub order_set : Limits → Place → Stamp → StateOf Entry → Option (StateOf Entry)
order_set limits p t st = if nat_lt p.0 most_groups then (if adds_order t (stripe_at st p) && is_full limits st then None else Some (ordered p t st)) else None

-- A log changed. None where it can't be: a group from most_groups on, or as of a log's change.
abbrev pub log_set : Limits → Logged → StateOf Entry → Option (StateOf Entry)
log_set limits r st =
    if nat_lt r.group.0 most_groups
    then placed (place r.group r.view r.stripe) st (log_changed limits (is_full limits st) r.change r.stamp (stripe_at st (place r.group r.view r.stripe)))
    else None

-- One record more. None where it can't be: a group from most_groups on, a view below 2, one live record too many, or as of a log's change.
unfoldable pub applied : Limits → Record → StateOf Entry → Option (StateOf Entry)
applied limits (forms.Kept (Boot count)) st = Some (booted count st)
applied limits (forms.Kept (kinds.View g view synced)) st = if nat_lt g.0 most_groups && nat_le 2 view.number.0 then Some (viewed g.0 view synced st) else None
applied limits (forms.Kept (Ballots g v promised accepted)) st = if nat_lt g.0 most_groups then Some (balloted g.0 promised accepted st) else None
applied limits (forms.Kept (Order g v s t)) st = order_set limits (place g v s) t st
applied limits (forms.Logged r) st = log_set limits r st

-- Records one after the other, up to the first that can't be.
abbrev pub onward : Option (StateOf Entry) → StateOf Entry → (StateOf Entry → StateOf Entry) → StateOf Entry
onward None st more = st
onward (Some next) st more = more next

unfoldable pub folded : Limits → List Record → StateOf Entry → StateOf Entry
folded limits [] st = st
folded limits (first ∷ records) st = onward (applied limits first st) st (folded limits records)
