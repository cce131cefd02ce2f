-- What a list of the old format makes. Its frames are those of the new one, but a version's frame has the block in it, where one of the new format names a slot.
use Rattle.std.specs.Prelude.{◌≡◌, ℕ, Bool, true, false, not, ◌==◌, ◌&&◌, ◌||◌, nat_le, nat_lt, if◌then◌else◌, Option, Some, None, option_and_then, List, [], ◌∷◌, length, take, drop}
use Rattle.std.specs.Int.{w16, from_be_bytes}
use Rattle.std.specs.List.{list_any}
use Rattle.fab_base.specs.Layouts.{most_groups}
use Rattle.fab_base.specs.Stamps.{stamp_below}
use Rattle.fab_base.specs.declared.stamps.Stamp.{Stamp}
use Rattle.stamp_store.specs.declared.kept_records.Kept.TheVariants.{Boot, Ballots, Order}
use Rattle.stamp_store.specs.declared.kept_records.Kept.TheVariants as kinds
use Rattle.stamp_store.specs.declared.log_records.LogChange.{LogChange}
use Rattle.stamp_store.specs.declared.log_records.LogChange.TheVariants.{Same, Collect, Slot}
use Rattle.stamp_store.specs.declared.log_records.Logged.{Logged}
use Rattle.stamp_store.specs.LogSpelling.{logged_of}
use Rattle.version_log.specs.Versions.{Version, version, newest, block_of, has_stamp}
use Rattle.frame_store.specs.declared.frames.Frame.{Frame}
use Rattle.brick_state.specs.declared.records.Record.{Record}
use Rattle.brick_state.specs.declared.records.Record.TheVariants as forms
use Rattle.brick_state.specs.States.{Place, StripeOf, StateOf, stripe_at, with_stripe, with_added, with_bottom, with_collected, ordered, booted, viewed, balloted, live, empty}
use Rattle.brick_state.specs.Folds.{place}
use Rattle.brick_store.specs.Blocks.{log_of, adds_stamp, version_stamp}
use Rattle.brick_store.specs.Records.{record_of}

-- the kind of a version's frame of the old format, and that of the new one
abbrev pub old_version_kind : ℕ
old_version_kind = 5

abbrev pub slot_kind : ℕ
slot_kind = 8

-- how many bytes of a version's frame name its stripe and its stamp, as in the frames of all changes of a log
abbrev pub place_size : ℕ
place_size = 30

-- What stands behind the stamp: a byte that says whether all versions below are dropped, the block's length in two bytes, and the block, which is as long as
-- each block of the store.
unfoldable pub old_block_of : ℕ → List ℕ → Option (Bool × List ℕ)
old_block_of size (flag ∷ high ∷ low ∷ block) =
    if (nat_le flag 1) && ((from_be_bytes w16 (high ∷ low ∷ []) == size) && (length block == size)) then Some (flag == 1, block) else None
old_block_of size bytes = None

-- there are as many live records as there may be
abbrev pub has_most : ℕ → StateOf Version → Bool
has_most records st = nat_le records (live st)

-- the stripe is put in its place, if it can be
abbrev pub at_place : Place → StateOf Version → Option (StripeOf Version) → Option (StateOf Version)
at_place p st None = None
at_place p st (Some s) = Some (with_stripe p s st)

-- a stamp above that of the newest version, if there is one
abbrev pub is_above_newest : Option Version → Stamp → Bool
is_above_newest None t = true
is_above_newest (Some top) t = stamp_below top.stamp t

-- A version is added with its block, or takes the place of all that are there. None where it can't be: one live record too many, or not above the newest.
abbrev pub block_put : ℕ → Bool → Bool → Stamp → List ℕ → StripeOf Version → Option (StripeOf Version)
block_put size full true t block s = if (length s.added == 0) && full then None else Some (with_bottom (version t block) s)
block_put size full false t block s =
    if full || not (is_above_newest (newest (log_of size s)) t) then None else Some (with_added (version t block) s)

-- a version with the block of the newest one
abbrev pub newest_again : Option Version → Stamp → StripeOf Version → Option (StripeOf Version)
newest_again None t s = None
newest_again (Some top) t s = if stamp_below top.stamp t then Some (with_added (version t (block_of top)) s) else None

-- Another change of a log. None where it can't be: no version below it or one live record too many, or no version of the stamp to keep.
abbrev pub log_put : ℕ → Bool → LogChange → Stamp → StripeOf Version → Option (StripeOf Version)
log_put size full Same t s = if full then None else newest_again (newest (log_of size s)) t s
log_put size full Collect t s = if list_any (has_stamp t) (log_of size s) then Some (with_collected version_stamp t s) else None
log_put size full (Slot bottom slot) t s = None

-- what a version's frame makes of a state, of blocks of this size and so many live records at most
abbrev pub version_put : ℕ → ℕ → Logged → Bool × List ℕ → StateOf Version → Option (StateOf Version)
version_put size records r told st =
    if nat_lt r.group.0 most_groups
    then at_place (place r.group r.view r.stripe) st
    (block_put size (has_most records st) told.0 r.stamp told.1 (stripe_at st (place r.group r.view r.stripe)))
    else None

-- and each other record
unfoldable pub record_put : ℕ → ℕ → Record → StateOf Version → Option (StateOf Version)
record_put size records (forms.Kept (Boot count)) st = Some (booted count st)
record_put size records (forms.Kept (kinds.View g view synced)) st =
    if nat_lt g.0 most_groups && nat_le 2 view.number.0 then Some (viewed g.0 view synced st) else None
record_put size records (forms.Kept (Ballots g v promised accepted)) st = if nat_lt g.0 most_groups then Some (balloted g.0 promised accepted st) else None
record_put size records (forms.Kept (Order g v s t)) st =
    if nat_lt g.0 most_groups
    then (if adds_stamp t (stripe_at st (place g v s)).order && has_most records st then None else Some (ordered (place g v s) t st))
    else None
record_put size records (forms.Logged r) st =
    if nat_lt r.group.0 most_groups
    then at_place (place r.group r.view r.stripe) st
    (log_put size (has_most records st) r.change r.stamp (stripe_at st (place r.group r.view r.stripe)))
    else None

-- What a frame of the old format makes of a state: nothing where it is no record, or one that can't be. A frame that names a slot is none.
abbrev pub old_taken : ℕ → ℕ → Frame → StateOf Version → Option (StateOf Version)
old_taken size records frame st =
    if frame.kind == old_version_kind
    then option_and_then (λ r. option_and_then (λ told. version_put size records r told st) (old_block_of size (drop place_size frame.body)))
    (logged_of 6 (take place_size frame.body))
    else (if frame.kind == slot_kind then None else option_and_then (λ r. record_put size records r st) (record_of frame))

-- frames one after the other, up to the first that can't be
abbrev pub old_onward : Option (StateOf Version) → StateOf Version → (StateOf Version → StateOf Version) → StateOf Version
old_onward None st more = st
old_onward (Some next) st more = more next

unfoldable pub old_folded : ℕ → ℕ → List Frame → StateOf Version → StateOf Version
old_folded size records [] st = st
old_folded size records (frame ∷ frames) st = old_onward (old_taken size records frame st) st (old_folded size records frames)

-- what the frames make of a brick that keeps nothing
abbrev pub old_state_in : ℕ → ℕ → List Frame → StateOf Version
old_state_in size records frames = old_folded size records frames empty

-- each of these frames can be, and together they lead from one state to the other
unfoldable pub OldLeads : ℕ → ℕ → List Frame → StateOf Version → StateOf Version → Type 0
OldLeads size records [] old new = old ≡ new
OldLeads size records (frame ∷ frames) old new =
    (mid : StateOf Version) × (old_taken size records frame old ≡ Some mid) × OldLeads size records frames mid new
