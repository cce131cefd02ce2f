-- The choice of a view's successor at a member: single-decree Paxos (Lamport, "Paxos Made Simple", ACM SIGACT News 2001), one instance for each view.
-- A member of the view promises to ballots, and accepts lists of members under them.
use Rattle.std.specs.Prelude.{ℕ, nat_lt, if◌then◌else◌, List, Option, Some, None}
use Rattle.std.specs.Option.{option_map}
use Rattle.fab_base.specs.declared.identities.BrickId.{BrickId}
use Rattle.fab_base.specs.declared.member_lists.View.{View}
use Rattle.fab_base.specs.declared.stamps.Ballot.{Ballot}
use Rattle.fab_base.specs.Stamps.{ballot_below}
use Rattle.messages.specs.declared.replies.Choice.{Choice}
use Rattle.messages.specs.declared.replies.Lineage.{Lineage}
use Rattle.messages.specs.declared.replies.Reply.{Reply}
use Rattle.messages.specs.declared.replies.Reply.TheVariants.{Moved, Promise, Accepted, Outbid, NotSynced}
use Rattle.synod_laws.specs.Synods.{Kept, last_of}
use Rattle.protocol.specs.Views.{Learnt}

-- What a member says of a ballot, and what it keeps of ballots from then on: the greatest that it has promised to, and the list that it accepted last, with
-- the ballot of that.
pub record Voted : Type 0 where
  pub reply : Reply
  pub kept : Kept (List BrickId)

-- the members of a view, and those of the view before it, as a member tells them
abbrev pub lineage_of : View → Lineage
lineage_of view = record { members = view.members; prior = view.prior }

-- how a member tells a later view that it has learnt
abbrev pub moved_to : View → Reply
moved_to view = Moved view.number (Some (lineage_of view))

-- a list that was accepted, with its ballot, as a promise tells it
abbrev pub choice_of : Ballot × List BrickId → Choice
choice_of accepted = record { ballot = accepted.0; members = accepted.1 }

-- the ballot that was promised to, if it is greater than this one
abbrev pub outbidding : Kept (List BrickId) → Ballot → Option Ballot
outbidding None ballot = None
outbidding (Some (promised, accepted)) ballot = if ballot_below ballot promised then Some promised else None

-- Why a member refuses a ballot for the successor of a view, if it does: it has learnt a later view, which it tells; or the view is not synced yet; or it has
-- promised to a greater ballot, which it tells.
abbrev pub ballot_refusal : ℕ → Learnt → Kept (List BrickId) → Ballot → Option Reply
ballot_refusal view learnt kept ballot =
    if nat_lt view learnt.view.number.0 then Some (moved_to learnt.view)
    else if learnt.synced then option_map (λ greater. Outbid greater) (outbidding kept ballot)
    else Some NotSynced

-- A member that does not refuse the ballot promises to it, and tells the list that it accepted last; or, if it is asked to accept a list, it promises and
-- accepts that.
abbrev pub granting : Kept (List BrickId) → Ballot → Option (List BrickId) → Voted
granting kept ballot None = record { reply = Promise (option_map choice_of (last_of kept)); kept = Some (ballot, last_of kept) }
granting kept ballot (Some members) = record { reply = Accepted; kept = Some (ballot, Some (ballot, members)) }

-- a member that refuses keeps what it kept
abbrev pub unless_barred : Option Reply → Kept (List BrickId) → Voted → Voted
unless_barred None kept granted = granted
unless_barred (Some refused) kept granted = record { reply = refused; kept = kept }

-- A member's vote on a ballot for the successor of a view, by the number of that: on a Prepare, which names no list, or on an Accept of a list.
unfoldable pub voting : ℕ → Learnt → Kept (List BrickId) → Ballot → Option (List BrickId) → Voted
voting view learnt kept ballot asks = unless_barred (ballot_refusal view learnt kept ballot) kept (granting kept ballot asks)
