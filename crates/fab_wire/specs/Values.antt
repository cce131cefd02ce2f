-- How the values of messages are spelled and read: calls, which seats and which entry are meant, versions, choices and lineages.
use Rattle.std.proofs.Common.{◌≡◌, ℕ, ◌<◌, ◌≤◌, ◌^◌, Bool, true, false, List, [], ◌∷◌, Option, Some, None, refl, arith}
use Rattle.std.specs.Prelude.{nat_lt, ◌==◌, if◌then◌else◌}
use Rattle.std.proofs.lemmas.Bool.{lt-ltb}
use Rattle.fab_base.specs.declared.identities.BrickId.{BrickId}
use Rattle.fab_base.specs.declared.identities.GroupId.{GroupId}
use Rattle.fab_base.specs.declared.identities.StripeNo.{StripeNo}
use Rattle.fab_base.specs.declared.identities.ViewNo.{ViewNo}
use Rattle.fab_base.specs.declared.stamps.Stamp.{Stamp}
use Rattle.fab_base.specs.declared.stamps.Ballot.{Ballot}
use Rattle.messages.specs.declared.calls.Call.{Call}
use Rattle.messages.specs.declared.clients.ClientOp.{ClientOp}
use Rattle.messages.specs.declared.clients.ClientOp.TheVariants.{ReadBlock, WriteBlock, ReadStripe, WriteStripe}
use Rattle.messages.specs.declared.requests.Version.{Version}
use Rattle.messages.specs.declared.requests.Want.{Want}
use Rattle.messages.specs.declared.requests.Want.TheVariants.{Seat, All}
use Rattle.messages.specs.declared.requests.Look.{Look}
use Rattle.messages.specs.declared.requests.Look.TheVariants.{Below, At}
use Rattle.messages.specs.declared.replies.Choice.{Choice}
use Rattle.messages.specs.declared.replies.Lineage.{Lineage}
use Rattle.fab_wire.specs.declared.values.CallField.{CallField}
use Rattle.fields.specs.Codecs.{Codec, u32_codec, u64_codec, pair, seen, free, limited_to, byte_of}
use Rattle.fields.specs.Kinds.{flag_codec}
use Rattle.fields.specs.Parts.{Part, Limited, number_bytes, bytes_of, Fits, AllFit, exactly}
use Rattle.fields.specs.Reading.{find, limited_at}
use Rattle.fields.specs.Laws.{IsPlain}
use Rattle.fields.specs.Numbers.{size1, Stands, byte_stands, exact_stands, limited_field}
use Rattle.fields.specs.Values.{BlockFits, group_codec, stripe_codec, view_number_codec, stamp_codec, block_codec}

-- boot, seq, phase, group, view, stripe
abbrev pub made_call : ℕ × (ℕ × (ℕ × (GroupId × (ViewNo × StripeNo)))) → Call
made_call (boot, (seq, (phase, (group, (view, stripe))))) =
    record { boot = boot; seq = seq; phase = phase; group = group; view = view; stripe = stripe }

unfoldable pub call_fields : Codec Call
call_fields = seen made_call (λ c. (c.boot, (c.seq, (c.phase, (c.group, (c.view, c.stripe)))))) (λ c. refl) (λ p. refl)
    (pair u32_codec (pair u64_codec (pair u32_codec (pair group_codec (pair view_number_codec stripe_codec)))))

abbrev pub call_codec : Codec Call
call_codec = free call_fields.law

abbrev pub call_field_codec : Codec CallField
call_field_codec = seen (λ (c : Call). let field : CallField = record { 0 = c } in field) (λ field. field.0) (λ field. refl) (λ c. refl) call_codec

-- stamp, bytes
abbrev pub made_version : Stamp × List ℕ → Version
made_version (stamp, block) = record { stamp = stamp; block = block }

unfoldable pub version_fields : Codec Version
version_fields = seen made_version (λ v. (v.stamp, v.block)) (λ v. refl) (λ p. refl) (pair stamp_codec block_codec)

pub version_within : (v : Version) → AllFit (version_fields.parts v) → BlockFits v.block
unfolding version_fields
version_within v fits = (version_fields.within v fits).1

abbrev pub version_codec : Codec Version
version_codec = limited_to (λ v. BlockFits v.block) version_fields version_within

-- ---- what was accepted, if anything was: ballot, members

abbrev pub pair_of_choice : Option Choice → Option (Ballot × List BrickId)
pair_of_choice None = None
pair_of_choice (Some choice) = Some (choice.ballot, choice.members)

abbrev pub choice_of : Option (Ballot × List BrickId) → Option Choice
choice_of None = None
choice_of (Some (ballot, members)) = Some (record { ballot = ballot; members = members })

-- ---- the members of a view and those of the view before, if they are known

abbrev pub pair_of_lineage : Option Lineage → Option (List BrickId × List BrickId)
pair_of_lineage None = None
pair_of_lineage (Some lineage) = Some (lineage.members, lineage.prior)

abbrev pub lineage_of : Option (List BrickId × List BrickId) → Option Lineage
lineage_of None = None
lineage_of (Some (members, prior)) = Some (record { members = members; prior = prior })

-- ---- which seats: one from 0 to 31, or 255 for all

abbrev pub WantFits : Want → Type 0
WantFits (Seat seat) = seat ≤ 31
WantFits All = Unit {0}

abbrev pub want_part : Want → Part
want_part (Seat seat) = Limited 1 0 31 seat
want_part All = exactly 255

abbrev pub want_value : ℕ → Option Want
want_value n = if nat_lt n 32 then Some (Seat n) else if n == 255 then Some All else None

abbrev want_number : Want → ℕ
want_number (Seat seat) = seat
want_number All = 255

-- seats are spelled by a number
want_written : (w : Want) → bytes_of (want_part w) ≡ number_bytes 1 (want_number w)
want_written (Seat seat) = refl
want_written All = refl

-- the number of seats that fit is theirs alone
want_there : (w : Want) → Fits (want_part w) → (want_number w < 256 ^ 1) × (want_value (want_number w) ≡ Some w)
want_there (Seat seat) fits = (fits.0, rw (lt-ltb seat 32 (omega (arith, fits.1.1))) refl)
want_there All fits = (fits.0, refl)

pub want_stands : Stands 1 want_part want_value
want_stands = byte_stands want_number want_part want_value want_written want_there refl All (omega arith, (omega arith, omega arith))

pub want_within : (w : Want) → Fits (want_part w) → WantFits w
want_within (Seat seat) fits = fits.1.1
want_within All fits = tt

abbrev pub want_codec : Codec Want
want_codec = byte_of WantFits want_within want_stands

-- ---- which entry: 0 below or 1 at, and the stamp

abbrev pub look_of : Bool × Stamp → Look
look_of (false, stamp) = Below stamp
look_of (true, stamp) = At stamp

abbrev pub pair_of_look : Look → Bool × Stamp
pair_of_look (Below stamp) = (false, stamp)
pair_of_look (At stamp) = (true, stamp)

-- an entry is a flag and a stamp, and each such pair an entry
pub look_back : (look : Look) → look_of (pair_of_look look) ≡ look
look_back (Below stamp) = refl
look_back (At stamp) = refl

pub look_forth : (p : Bool × Stamp) → pair_of_look (look_of p) ≡ p
look_forth (false, stamp) = refl
look_forth (true, stamp) = refl

abbrev pub look_codec : Codec Look
look_codec = free (seen look_of pair_of_look look_back look_forth (pair flag_codec stamp_codec)).law

-- ---- which operation

abbrev pub op_number : ClientOp → ℕ
op_number ReadBlock = 0
op_number WriteBlock = 1
op_number ReadStripe = 2
op_number WriteStripe = 3

abbrev pub op_value : ℕ → Option ClientOp
op_value = find op_number (ReadBlock ∷ WriteBlock ∷ ReadStripe ∷ WriteStripe ∷ [])

-- the number of an operation is its own
op_known : (op : ClientOp) → op_number op < 256 → op_value (op_number op) ≡ Some op
op_known ReadBlock lt = refl
op_known op lt = refl

pub op_stands : Stands 1 (λ (op : ClientOp). exactly (op_number op)) op_value
op_stands = exact_stands op_number op_value op_known refl ReadBlock (omega arith)

abbrev pub op_codec : Codec ClientOp
op_codec = byte_of (λ op. Unit {0}) (λ op fits. tt) op_stands

-- ---- a data block is one of 16

pub data_block_law : IsPlain (λ (n : ℕ). Limited 1 0 15 n ∷ []) (limited_at 1 0 15)
data_block_law = limited_field size1 0 15 (omega arith) (omega arith)

abbrev pub data_block_codec : Codec ℕ
data_block_codec = limited_to (λ n. n ≤ 15) (free data_block_law) (λ n fits. fits.0.1.1)
