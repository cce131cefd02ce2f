-- A scrub: some members of a stripe are brought to one version, and it is told who of them lagged (Schwarz et al., "Disk Scrubbing in Large Archival Storage
-- Systems", MASCOTS 2004: what lags is found and mended before a second fault needs it). It is a read of the stripe that counts these members alone, and is
-- answered to nobody.
use Rattle.std.specs.Prelude.{ℕ, Bool, true, false, not, nat_eq, nat_lt, ◌&&◌, if◌then◌else◌, List, length, Option, Some, None, is_some, filter}
use Rattle.std.specs.List.{list_all, list_any}
use Rattle.fab_base.specs.declared.identities.BrickId.{BrickId}
use Rattle.fab_base.specs.declared.identities.GroupId.{GroupId}
use Rattle.fab_base.specs.declared.identities.StripeNo.{StripeNo}
use Rattle.fab_base.specs.declared.stamps.Stamp.{Stamp}
use Rattle.fab_base.specs.declared.asks.Ask.{Ask}
use Rattle.fab_base.specs.declared.asks.Op.TheVariants.{ReadStripe}
use Rattle.fab_base.specs.declared.answers.Cause.{Cause}
use Rattle.fab_base.specs.Stamps.{stamp_below}
use Rattle.fab_base.specs.Layouts.{Group, seat_in}
use Rattle.quorum.specs.Memberships.{are_distinct}
use Rattle.quorum.specs.Quorums.{quorum_of}
use Rattle.protocol.specs.declared.phases.Phase.{Phase}
use Rattle.protocol.specs.declared.phases.Phase.TheVariants.{Looks}
use Rattle.protocol.specs.declared.phases.Counted.{Counted}
pub use Rattle.protocol.specs.declared.tellings.ScrubAnswer.{ScrubAnswer}
use Rattle.protocol.specs.declared.tellings.ScrubAnswer.TheVariants.{Clean, Repaired, Aborted}
use Rattle.protocol.specs.Coordinators.{Coordinator, greatest_found, told_stamp}

-- A scrub: the number of its call, and who lagged, once its look found the members to be kept apart.
pub record Scrub : Type 0 where
  pub seq : ℕ
  pub lagging : List BrickId

-- ---- whom it is asked for

-- these are distinct members of the group, and at least a quorum of it
abbrev pub names_quorum : Group → List BrickId → Bool
names_quorum group members =
    are_distinct members && (list_all (λ member. is_some (seat_in group.members member.0)) members && not (nat_lt (length members) (quorum_of group)))

-- what a scrub asks its brick for: to read the whole stripe
abbrev pub scrub_ask : GroupId → StripeNo → Ask
scrub_ask group stripe = record { group = group; stripe = stripe; op = ReadStripe }

-- ---- who lags

-- a version that is told is behind another: it is an earlier one, or none is told
abbrev pub is_behind_version : Stamp → Option Stamp → Bool
is_behind_version newest None = true
is_behind_version newest (Some told) = stamp_below told newest

-- a brick's reply is among these, and what it tells is behind the newest version of all; where no version is told, nobody's is
abbrev pub lags : Option Stamp → List Counted → BrickId → Bool
lags None counted brick = false
lags (Some newest) counted brick = list_any (λ c. nat_eq c.brick.0 brick.0 && is_behind_version newest (told_stamp c.reply)) counted

-- the members that lag by these replies, in the order of seats
abbrev pub lagging_of : List BrickId → List Counted → List BrickId
lagging_of members counted = filter (lags (greatest_found counted) counted) members

-- the phase looks for what all keep
abbrev pub is_look : Phase → Bool
is_look Looks = true
is_look phase = false

-- who lagged, once the scrub's next phase begins upon these replies: those that lag by the replies of its look
abbrev pub lagging_after : Scrub → Coordinator → List BrickId
lagging_after scrub c = if is_look c.phase then lagging_of c.group.members c.counted else scrub.lagging

-- ---- how it ends

-- It is clean where all told one newest version, and no order above it; it has repaired where all stored this version; and else it was aborted.
abbrev pub scrub_answer : List BrickId → Option Cause → Option Stamp → ScrubAnswer
scrub_answer lagging (Some cause) stored = Aborted cause
scrub_answer lagging None None = Clean
scrub_answer lagging None (Some stamp) = Repaired stamp lagging
