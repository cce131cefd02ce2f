-- The fields of a store's records, and how a record is read from them.
use Rattle.std.specs.Prelude.{ℕ, Bool, List, length, Option, Some, None, Result, Ok, Err, ◌==◌, if◌then◌else◌}
use Rattle.fab_base.specs.declared.identities.BrickId.{BrickId}
use Rattle.fab_base.specs.declared.identities.GroupId.{GroupId}
use Rattle.fab_base.specs.declared.identities.StripeNo.{StripeNo}
use Rattle.fab_base.specs.declared.identities.ViewNo.{ViewNo}
use Rattle.fab_base.specs.declared.stamps.Stamp.{Stamp}
use Rattle.fab_base.specs.declared.stamps.Ballot.{Ballot}
use Rattle.fields.specs.Codecs.{Codec, u32_codec, pair}
use Rattle.fields.specs.Kinds.{flag_codec, option}
use Rattle.fields.specs.Parts.{Part}
use Rattle.fields.specs.Reading.{Reads, as_at}
use Rattle.fields.specs.Values.{group_codec, stripe_codec, view_number_codec, stamp_codec, ballot_codec, members_codec}
use Rattle.stamp_store.specs.declared.kept_records.Kept.{Kept}
use Rattle.stamp_store.specs.declared.kept_records.Kept.TheVariants.{Boot, Ballots, Order}
use Rattle.stamp_store.specs.declared.kept_records.Kept.TheVariants as kinds

-- group, view, its members, those of the view before, whether all stripes are in it
abbrev pub view_fields : Codec (GroupId × (ViewNo × (List BrickId × (List BrickId × Bool))))
view_fields = pair group_codec (pair view_number_codec (pair members_codec (pair members_codec flag_codec)))

-- the ballot accepted last and its members, if there are any
abbrev pub accepted_fields : Codec (Option (Ballot × List BrickId))
accepted_fields = option (pair ballot_codec members_codec)

-- group, view, the greatest ballot promised, what was accepted
abbrev pub ballots_fields : Codec (GroupId × (ViewNo × (Ballot × Option (Ballot × List BrickId))))
ballots_fields = pair group_codec (pair view_number_codec (pair ballot_codec accepted_fields))

-- group, view, stripe, stamp
abbrev pub order_fields : Codec (GroupId × (ViewNo × (StripeNo × Stamp)))
order_fields = pair group_codec (pair view_number_codec (pair stripe_codec stamp_codec))

abbrev pub made_boot : ℕ → Kept
made_boot count = Boot count

abbrev pub made_view : GroupId × (ViewNo × (List BrickId × (List BrickId × Bool))) → Kept
made_view (group, (number, (members, (prior, synced)))) = kinds.View group (record { number = number; members = members; prior = prior }) synced

abbrev pub made_ballots : GroupId × (ViewNo × (Ballot × Option (Ballot × List BrickId))) → Kept
made_ballots (group, (view, (promised, accepted))) = Ballots group view promised accepted

abbrev pub made_order : GroupId × (ViewNo × (StripeNo × Stamp)) → Kept
made_order (group, (view, (stripe, stamp))) = Order group view stripe stamp

-- the parts of a record's body
abbrev pub kept_parts : Kept → List Part
kept_parts (Boot count) = u32_codec.parts count
kept_parts (kinds.View group view synced) = view_fields.parts (group, (view.number, (view.members, (view.prior, synced))))
kept_parts (Ballots group view promised accepted) = ballots_fields.parts (group, (view, (promised, accepted)))
kept_parts (Order group view stripe stamp) = order_fields.parts (group, (view, (stripe, stamp)))

-- the row of a kind; so many bytes are left where it has none
abbrev pub row_at : {X : Type 0} → Option (Reads X) → ℕ → Reads X
row_at None here bytes = Err here
row_at (Some at) here bytes = at bytes

abbrev pub row : {X : Type 0} → ℕ → Reads X → (ℕ → Option (Reads X)) → ℕ → Option (Reads X)
row value at others n = if n == value then Some at else others n

abbrev pub no_row : {X : Type 0} → ℕ → Option (Reads X)
no_row n = None

-- how the body of a record of each kind is read
abbrev pub kept_rows : ℕ → Option (Reads Kept)
kept_rows = row 1 (as_at made_boot u32_codec.read) (row 2 (as_at made_view view_fields.read)
    (row 3 (as_at made_ballots ballots_fields.read) (row 4 (as_at made_order order_fields.read) no_row)))

unfoldable pub kept_at : ℕ → Reads Kept
kept_at kind bytes = row_at (kept_rows kind) (length bytes) bytes

-- what is read, if it is all of the bytes
abbrev pub whole : {X : Type 0} → Result (X × List ℕ) ℕ → Option X
whole (Err left) = None
whole (Ok read) = if length read.1 == 0 then Some read.0 else None

unfoldable pub read_of : ℕ → List ℕ → Option Kept
read_of kind bytes = whole (kept_at kind bytes)
