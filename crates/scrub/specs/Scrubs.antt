-- A scrub, as its brick keeps it while it looks.
use Rattle.std.specs.Prelude.{List, [], Option, Some, None}
use Rattle.fab_base.specs.declared.identities.BrickId.{BrickId}
use Rattle.fab_base.specs.declared.identities.CallId.{CallId}
use Rattle.fab_base.specs.declared.identities.GroupId.{GroupId}
use Rattle.fab_base.specs.declared.identities.StripeNo.{StripeNo}
use Rattle.fab_base.specs.declared.member_lists.View.{View}
use Rattle.fab_base.specs.declared.stamps.Stamp.{Stamp}
use Rattle.fab_base.specs.Layouts.{Layout}
use Rattle.protocol.specs.Nodes.{members_alone}
use Rattle.protocol.specs.Scrubs.{lagging_of}
use Rattle.coord_phase.specs.Operations.{Operation, scrub_op, with_state, without_last}

-- the operation that looks, and who lagged, once that is noted
pub record Scrubbing : Type 0 where
  pub look : Operation
  pub lagging : List BrickId

-- one of these members of a stripe that has just begun
abbrev pub begun_scrub : Layout → View → CallId → GroupId → StripeNo → Stamp → List BrickId → Scrubbing
begun_scrub layout view call group stripe stamp only =
    record { look = scrub_op layout view call group stripe stamp only; lagging = [] }

-- the members that it brings to one version
abbrev pub members_of : Scrubbing → List BrickId
members_of scrub = members_alone scrub.look.state.only

-- its look counts some members alone
abbrev pub CountsSome : Operation → Type 0
CountsSome look = counts_some look.state.only
  where
    counts_some : Option (List BrickId) → Type 0
    counts_some None = ⊥
    counts_some (Some only) = Unit {0}

-- it, once it is known who of its view's members lagged, by the replies that count in its look
abbrev pub noted : Scrubbing → Scrubbing
noted scrub = record scrub { lagging = lagging_of scrub.look.state.group.members scrub.look.state.counted }

-- it, without the last reply that counts in its look
abbrev pub taken_back : Scrubbing → Scrubbing
taken_back scrub = record scrub { look = with_state scrub.look (without_last scrub.look.state) }
