-- How many bytes the bodies and the frames of records are.
use Rattle.std.specs.Prelude.{ℕ, ◌+◌, ◌*◌, Bool, Option, Some, None, List, [], ◌∷◌, length}
use Rattle.fab_base.specs.declared.identities.BrickId.{BrickId}
use Rattle.fab_base.specs.declared.member_lists.View.{View}
use Rattle.fab_base.specs.declared.stamps.Ballot.{Ballot}
use Rattle.stamp_store.specs.declared.kept_records.Kept.TheVariants.{Boot, Ballots, Order}
use Rattle.stamp_store.specs.declared.kept_records.Kept.TheVariants as kinds
use Rattle.stamp_store.specs.declared.log_records.LogChange.{LogChange}
use Rattle.stamp_store.specs.declared.log_records.LogChange.TheVariants.{Same, Collect, Slot}
use Rattle.brick_state.specs.declared.records.Record.{Record}
use Rattle.brick_state.specs.declared.records.Record.TheVariants as forms

-- the bytes of a count of openings, of a group with a view, a stripe and a stamp, and of a slot with its flag
abbrev pub boot_size : ℕ
boot_size = 4

abbrev pub stamped_size : ℕ
stamped_size = 30

abbrev pub slot_size : ℕ
slot_size = 5

-- the bytes of what was accepted, if anything was, and of what a log record says of a block
abbrev pub accepted_size : Option (Ballot × List BrickId) → ℕ
accepted_size None = 1
accepted_size (Some accepted) = 12 + 2 * length accepted.1

abbrev pub change_size : LogChange → ℕ
change_size Same = 0
change_size Collect = 0
change_size (Slot bottom slot) = slot_size

-- the bytes of the body of a view's record, of that of ballots, and of that of a version
abbrev pub view_size : View → ℕ
view_size view = 11 + 2 * length view.members + 2 * length view.prior

abbrev pub ballots_size : Option (Ballot × List BrickId) → ℕ
ballots_size accepted = 18 + accepted_size accepted

abbrev pub version_size : Option (List ℕ) → ℕ
version_size None = stamped_size
version_size (Some block) = stamped_size + slot_size

-- that of the view that a group learnt
abbrev pub known_size : Option (View × Bool) → ℕ
known_size None = 0
known_size (Some known) = view_size known.0

-- the bytes of a record's body
abbrev pub body_size : Record → ℕ
body_size (forms.Kept (Boot count)) = boot_size
body_size (forms.Kept (kinds.View group view synced)) = view_size view
body_size (forms.Kept (Ballots group view promised accepted)) = ballots_size accepted
body_size (forms.Kept (Order group view stripe stamp)) = stamped_size
body_size (forms.Logged logged) = stamped_size + change_size logged.change

-- the bytes of a frame with a body of this length: its gate, its kind, and the body's length in four bytes stand before it
abbrev pub framed : ℕ → ℕ
framed body = 6 + body

-- the bytes of the longest frame, that of a view with 32 members in each list
abbrev pub longest_frame : ℕ
longest_frame = 145

-- the most bytes of the frames of what is kept: of the count of openings, of the views and ballots of all groups, and of so many live records
abbrev pub most_listed : ℕ → ℕ
most_listed live = 15690 + 41 * live

-- the bytes of a record's frame, with 32 members where a list of them stands
abbrev pub most : Record → ℕ
most (forms.Kept (Boot count)) = 10
most (forms.Kept (kinds.View group view synced)) = longest_frame
most (forms.Kept (Ballots group view promised accepted)) = 100
most (forms.Kept (Order group view stripe stamp)) = 36
most (forms.Logged logged) = 41

unfoldable pub most_of : List Record → ℕ
most_of [] = 0
most_of (item ∷ items) = most item + most_of items
