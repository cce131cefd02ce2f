-- The bytes of a store's records: numbers from the high byte on, one after the other.
use Rattle.std.specs.Prelude.{◌≡◌, ℕ, ◌<◌, ◌≤◌, ◌^◌, Bool, true, false, List, [], ◌∷◌, ◌++◌, length, Option, Some, None, All}
use Rattle.std.specs.List.{flat_map}
use Rattle.std.specs.Int.{Width, w16, w32, w64, to_be_bytes}
use Rattle.fab_base.specs.declared.identities.BrickId.{BrickId}
use Rattle.fab_base.specs.declared.identities.GroupId.{GroupId}
use Rattle.fab_base.specs.declared.identities.StripeNo.{StripeNo}
use Rattle.fab_base.specs.declared.identities.ViewNo.{ViewNo}
use Rattle.fab_base.specs.declared.member_lists.View.{View}
use Rattle.fab_base.specs.declared.stamps.Stamp.{Stamp}
use Rattle.fab_base.specs.declared.stamps.Ballot.{Ballot}
use Rattle.stamp_store.specs.declared.kept_records.Kept.{Kept}
use Rattle.stamp_store.specs.declared.kept_records.Kept.TheVariants.{Boot, Ballots, Order}
use Rattle.stamp_store.specs.declared.kept_records.Kept.TheVariants as kinds

-- a number from its high byte on
unfoldable pub number_bytes : Width → ℕ → List ℕ
number_bytes w n = to_be_bytes w n

-- view, time, brick, boot
unfoldable pub stamp_bytes : Stamp → List ℕ
stamp_bytes s = number_bytes w32 s.view.0 ++ (number_bytes w64 s.time ++ (number_bytes w16 s.brick.0 ++ number_bytes w32 s.boot))

-- round, brick, boot
unfoldable pub ballot_bytes : Ballot → List ℕ
ballot_bytes b = number_bytes w32 b.round ++ (number_bytes w16 b.brick.0 ++ number_bytes w32 b.boot)

abbrev pub brick_bytes : BrickId → List ℕ
brick_bytes brick = number_bytes w16 brick.0

-- a byte of how many there are, and each brick
unfoldable pub members_bytes : List BrickId → List ℕ
members_bytes members = length members ∷ flat_map brick_bytes members

-- a byte 0, or a byte 1 and the ballot with its members
unfoldable pub accepted_bytes : Option (Ballot × List BrickId) → List ℕ
accepted_bytes None = 0 ∷ []
accepted_bytes (Some a) = 1 ∷ (ballot_bytes a.0 ++ members_bytes a.1)

abbrev pub flag_bytes : Bool → List ℕ
flag_bytes false = 0 ∷ []
flag_bytes true = 1 ∷ []

-- a record's kind
abbrev pub kind_of : Kept → ℕ
kind_of (Boot count) = 1
kind_of (kinds.View group view synced) = 2
kind_of (Ballots group view promised accepted) = 3
kind_of (Order group view stripe stamp) = 4

-- the bodies of a view, of ballots and of an order stamp
abbrev pub view_body : GroupId → View → Bool → List ℕ
view_body group view synced =
    number_bytes w32 group.0 ++ (number_bytes w32 view.number.0 ++ (members_bytes view.members ++ (members_bytes view.prior ++ flag_bytes synced)))

abbrev pub ballots_body : GroupId → ViewNo → Ballot → Option (Ballot × List BrickId) → List ℕ
ballots_body group view promised accepted =
    number_bytes w32 group.0 ++ (number_bytes w32 view.0 ++ (ballot_bytes promised ++ accepted_bytes accepted))

abbrev pub order_body : GroupId → ViewNo → StripeNo → Stamp → List ℕ
order_body group view stripe stamp =
    number_bytes w32 group.0 ++ (number_bytes w32 view.0 ++ (number_bytes w32 stripe.0 ++ stamp_bytes stamp))

-- a record's body
unfoldable pub body_of : Kept → List ℕ
body_of (Boot count) = number_bytes w32 count
body_of (kinds.View group view synced) = view_body group view synced
body_of (Ballots group view promised accepted) = ballots_body group view promised accepted
body_of (Order group view stripe stamp) = order_body group view stripe stamp

-- no list of members is empty
abbrev pub AcceptedHasMembers : Option (Ballot × List BrickId) → Type 0
AcceptedHasMembers None = Unit {0}
AcceptedHasMembers (Some a) = 1 ≤ length a.1

abbrev pub HasMembers : Kept → Type 0
HasMembers (Boot count) = Unit {0}
HasMembers (kinds.View group view synced) = (1 ≤ length view.members) × (1 ≤ length view.prior)
HasMembers (Ballots group view promised accepted) = AcceptedHasMembers accepted
HasMembers (Order group view stripe stamp) = Unit {0}

-- each number fits its field, and each list has 1 to 32 members
abbrev pub StampFits : Stamp → Type 0
StampFits s = (s.view.0 < 2 ^ 32) × ((s.time < 2 ^ 64) × ((s.brick.0 < 2 ^ 16) × (s.boot < 2 ^ 32)))

abbrev pub BallotFits : Ballot → Type 0
BallotFits b = (b.round < 2 ^ 32) × ((b.brick.0 < 2 ^ 16) × (b.boot < 2 ^ 32))

abbrev pub BrickFits : BrickId → Type 0
BrickFits brick = brick.0 < 2 ^ 16

pub record MembersFit (members : List BrickId) : Type 0 where
  pub some : 1 ≤ length members
  pub few : length members ≤ 32
  pub each : All BrickFits members

abbrev pub AcceptedFits : Option (Ballot × List BrickId) → Type 0
AcceptedFits None = Unit {0}
AcceptedFits (Some a) = BallotFits a.0 × MembersFit a.1

abbrev pub ViewFits : GroupId → View → Type 0
ViewFits group view = (group.0 < 2 ^ 32) × ((view.number.0 < 2 ^ 32) × (MembersFit view.members × (MembersFit view.prior × Unit {0})))

abbrev pub BallotsFit : GroupId → ViewNo → Ballot → Option (Ballot × List BrickId) → Type 0
BallotsFit group view promised accepted = (group.0 < 2 ^ 32) × ((view.0 < 2 ^ 32) × (BallotFits promised × AcceptedFits accepted))

abbrev pub OrderFits : GroupId → ViewNo → StripeNo → Stamp → Type 0
OrderFits group view stripe stamp = (group.0 < 2 ^ 32) × ((view.0 < 2 ^ 32) × ((stripe.0 < 2 ^ 32) × StampFits stamp))

abbrev pub Fits : Kept → Type 0
Fits (Boot count) = count < 2 ^ 32
Fits (kinds.View group view synced) = ViewFits group view
Fits (Ballots group view promised accepted) = BallotsFit group view promised accepted
Fits (Order group view stripe stamp) = OrderFits group view stripe stamp

-- a record of this kind has this body
pub record Spells (kind : ℕ) (body : List ℕ) (kept : Kept) : Type 0 where
  pub fits : Fits kept
  pub kind_is : kind ≡ kind_of kept
  pub body_is : body ≡ body_of kept
