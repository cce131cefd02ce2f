-- The records of what happens to a log: their bytes, and how they are read.
use Rattle.std.specs.Prelude.{◌≡◌, ℕ, ◌<◌, ◌^◌, Bool, List, [], ◌++◌, length, Option}
use Rattle.std.specs.Int.{w32}
use Rattle.fab_base.specs.declared.identities.GroupId.{GroupId}
use Rattle.fab_base.specs.declared.identities.StripeNo.{StripeNo}
use Rattle.fab_base.specs.declared.identities.ViewNo.{ViewNo}
use Rattle.fab_base.specs.declared.stamps.Stamp.{Stamp}
use Rattle.fields.specs.Codecs.{Codec, u32_codec, pair}
use Rattle.fields.specs.Kinds.{flag_codec}
use Rattle.fields.specs.Parts.{Part}
use Rattle.fields.specs.Reading.{Reads, as_at}
use Rattle.fields.specs.Values.{group_codec, stripe_codec, view_number_codec, stamp_codec}
use Rattle.stamp_store.specs.declared.log_records.LogChange.{LogChange}
use Rattle.stamp_store.specs.declared.log_records.LogChange.TheVariants.{Same, Collect, Slot}
use Rattle.stamp_store.specs.declared.log_records.Logged.{Logged}
use Rattle.stamp_store.specs.Spelling.{number_bytes, stamp_bytes, flag_bytes, StampFits}
use Rattle.stamp_store.specs.Reading.{row_at, row, no_row, whole}

-- a record's kind
abbrev pub logged_kind : LogChange → ℕ
logged_kind Same = 6
logged_kind Collect = 7
logged_kind (Slot bottom slot) = 8

-- what follows the stamp
abbrev pub change_bytes : LogChange → List ℕ
change_bytes Same = []
change_bytes Collect = []
change_bytes (Slot bottom slot) = flag_bytes bottom ++ number_bytes w32 slot

-- a record's body: group, view, stripe, stamp, and for a slot whether it is the bottom, and the slot
unfoldable pub logged_body : Logged → List ℕ
logged_body r =
    number_bytes w32 r.group.0 ++ (number_bytes w32 r.view.0 ++ (number_bytes w32 r.stripe.0 ++ (stamp_bytes r.stamp ++ change_bytes r.change)))

-- each number fits its field
abbrev pub ChangeFits : LogChange → Type 0
ChangeFits Same = Unit {0}
ChangeFits Collect = Unit {0}
ChangeFits (Slot bottom slot) = Unit {0} × (slot < 2 ^ 32)

abbrev pub LoggedFits : Logged → Type 0
LoggedFits r = (r.group.0 < 2 ^ 32) × ((r.view.0 < 2 ^ 32) × ((r.stripe.0 < 2 ^ 32) × (StampFits r.stamp × ChangeFits r.change)))

-- a record of this kind has this body
pub record SpellsLogged (kind : ℕ) (body : List ℕ) (logged : Logged) : Type 0 where
  pub fits : LoggedFits logged
  pub kind_is : kind ≡ logged_kind logged.change
  pub body_is : body ≡ logged_body logged

-- group, view, stripe, stamp, and for a slot whether it is the bottom, and the slot
abbrev pub place_fields : Codec (GroupId × (ViewNo × (StripeNo × Stamp)))
place_fields = pair group_codec (pair view_number_codec (pair stripe_codec stamp_codec))

abbrev pub slot_fields : Codec (GroupId × (ViewNo × (StripeNo × (Stamp × (Bool × ℕ)))))
slot_fields = pair group_codec (pair view_number_codec (pair stripe_codec (pair stamp_codec (pair flag_codec u32_codec))))

abbrev pub made_change : LogChange → GroupId × (ViewNo × (StripeNo × Stamp)) → Logged
made_change change (group, (view, (stripe, stamp))) = record { group = group; view = view; stripe = stripe; stamp = stamp; change = change }

abbrev pub made_slot : GroupId × (ViewNo × (StripeNo × (Stamp × (Bool × ℕ)))) → Logged
made_slot (group, (view, (stripe, (stamp, (bottom, slot))))) =
    record { group = group; view = view; stripe = stripe; stamp = stamp; change = Slot bottom slot }

-- the parts of a record's body
abbrev pub changed_parts : GroupId → ViewNo → StripeNo → Stamp → LogChange → List Part
changed_parts group view stripe stamp Same = place_fields.parts (group, (view, (stripe, stamp)))
changed_parts group view stripe stamp Collect = place_fields.parts (group, (view, (stripe, stamp)))
changed_parts group view stripe stamp (Slot bottom slot) = slot_fields.parts (group, (view, (stripe, (stamp, (bottom, slot)))))

abbrev pub logged_parts : Logged → List Part
logged_parts r = changed_parts r.group r.view r.stripe r.stamp r.change

-- how the body of a record of each kind is read
abbrev pub logged_rows : ℕ → Option (Reads Logged)
logged_rows = row 6 (as_at (made_change Same) place_fields.read) (row 7 (as_at (made_change Collect) place_fields.read)
    (row 8 (as_at made_slot slot_fields.read) no_row))

unfoldable pub logged_at : ℕ → Reads Logged
logged_at kind bytes = row_at (logged_rows kind) (length bytes) bytes

-- all of the bytes
unfoldable pub logged_of : ℕ → List ℕ → Option Logged
logged_of kind bytes = whole (logged_at kind bytes)
