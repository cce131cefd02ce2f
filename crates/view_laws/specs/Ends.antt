-- How proposals of successors end, and what shows it: the replies that counted in the phase in which one ended.
use Rattle.std.specs.Prelude.{◌≡◌, ℕ, true, ◌+◌, ◌≤◌, nat_eq, if◌then◌else◌, List, [], ◌∷◌, ◌++◌, length, map, Option, Some, None, slice_get}
use Rattle.std.specs.List.{IsDistinct}
use Rattle.fab_base.specs.declared.identities.BrickId.{BrickId}
use Rattle.fab_base.specs.declared.identities.GroupId.{GroupId}
use Rattle.fab_base.specs.declared.identities.ViewNo.{ViewNo}
use Rattle.fab_base.specs.declared.stamps.Ballot.{Ballot}
use Rattle.fab_base.specs.Stamps.{ballot_below}
use Rattle.fab_base.specs.Layouts.{Layout, Group, group_of, seat_in}
use Rattle.messages.specs.declared.calls.Call.{Call}
use Rattle.messages.specs.declared.packets.Message.{Message}
use Rattle.messages.specs.declared.replies.Reply.{Reply}
use Rattle.messages.specs.declared.requests.Request.{Request}
use Rattle.quorum.specs.Memberships.{is_membership}
use Rattle.quorum.specs.Quorums.{quorum_of}
use Rattle.protocol.specs.declared.phases.Counted.{Counted}
use Rattle.protocol.specs.declared.tellings.ViewAnswer.{ViewAnswer}
use Rattle.protocol.specs.declared.tellings.ViewAnswer.TheVariants as answer
use Rattle.protocol.specs.declared.tellings.Report.TheVariants as report
use Rattle.protocol.specs.Settings.{Setting, IsSound}
use Rattle.protocol.specs.Views.{views_in, group_in}
use Rattle.protocol.specs.Proposals.{lowest, moved_view, unsynced_brick, greatest_outbid}
use Rattle.protocol.specs.Worlds.{World, Event, Proposes, may_propose, first_world, happens, run}
use Rattle.view_laws.specs.Following.{WasSent}
use Rattle.view_laws.specs.Successors.{WasChosen, WasReported}

-- the replies that counted in the phase of a proposal of a brick, by the phase's call
abbrev pub voices_of : World → BrickId → Call → List Counted
voices_of w brick call = w.choices.voices brick.0 call.boot call.seq call.phase

-- A reply that counts was sent to the brick, as a reply to this phase, by the member at that seat.
pub record IsVoice (w : World) (brick : BrickId) (call : Call) (group : Group) (c : Counted) : Type 0 where
  pub sent : WasSent w (record { from = c.brick; to = brick; message = Message.Reply call c.reply })
  pub seat : seat_in group.members c.brick.0 ≡ Some c.seat

-- A list was decided: each reply accepts it, and it was chosen to follow the view, whose number is one less.
pub record ShowsDecided (w : World) (call : Call) (group : Group) (voices : List Counted) (next : ViewNo) (members : List BrickId) : Type 0 where
  pub next_is : next.0 ≡ call.view.0 + 1
  pub accepted : (k : ℕ) (c : Counted) → slice_get voices k ≡ Some c → c.reply ≡ Reply.Accepted
  pub chosen : WasChosen w call.group.0 call.view.0 group members

-- the ballot that a request names
abbrev pub ballot_in : Request → Option Ballot
ballot_in (Request.Prepare ballot) = Some ballot
ballot_in (Request.Accept ballot members) = Some ballot
ballot_in request = None

-- A proposal is outbid by a ballot: in this very phase its brick asked a member under a lower one.
pub record IsOutbid (w : World) (brick : BrickId) (call : Call) (greater : Ballot) : Type 0 where
  pub to : BrickId
  pub request : Request
  pub ballot : Ballot
  pub asked : ballot_in request ≡ Some ballot
  pub sent : WasSent w (record { from = brick; to = to; message = Message.Request call request })
  pub below : ballot_below ballot greater ≡ true

-- What replies show of an end. A later view is told, and it is the one that the lowest seat told of those that told one; or else the view is not synced at a member,
-- and it is that of the lowest seat of those that told so; or else a ballot above the proposal's own is told, and it is the greatest that is; or else a list was decided.
abbrev pub ShowsAnswer : World → BrickId → Call → Group → List Counted → ViewAnswer → Type 0
ShowsAnswer w brick call group voices (answer.Moved view) = (seat : ℕ) × (lowest moved_view voices ≡ Some (seat, view))
ShowsAnswer w brick call group voices (answer.NotSynced member) =
    (seat : ℕ) × (lowest moved_view voices ≡ None) × (lowest unsynced_brick voices ≡ Some (seat, member))
ShowsAnswer w brick call group voices (answer.Outbid ballot) =
    (lowest moved_view voices ≡ None) × (lowest unsynced_brick voices ≡ None) × (greatest_outbid voices ≡ Some ballot)
    × IsOutbid w brick call ballot
ShowsAnswer w brick call group voices (answer.Decided next members) = ShowsDecided w call group voices next members
ShowsAnswer w brick call group voices answer.BadMembers = ⊥

-- What the end of a proposal shows that sent something: it ended in the phase of this call, in which replies of a quorum of the view's members counted, each of a seat
-- of its own; and these show how it ended.
pub record ShowsEnd (layout : Layout) (w : World) (brick : BrickId) (number : GroupId) (call : Call) (ended : ViewAnswer) : Type 0 where
  pub own : call.group ≡ number
  pub group : Group
  pub group_is : group_in layout (views_in layout w.packets) number.0 call.view.0 ≡ Some group
  pub voices : (k : ℕ) (c : Counted) → slice_get (voices_of w brick call) k ≡ Some c → IsVoice w brick call group c
  pub distinct : IsDistinct nat_eq (map (λ c. c.seat) (voices_of w brick call))
  pub quorum : quorum_of group ≤ length (voices_of w brick call)
  pub shows : ShowsAnswer w brick call group (voices_of w brick call) ended

-- each end of a proposal that sent something shows its cause, and one that sent nothing named a list that may not keep the group
pub record ProposalsShowIn (layout : Layout) (w : World) : Type 0 where
  pub ended : (brick : BrickId) (number : GroupId) (call : Call) (ended : ViewAnswer) → WasReported w brick (report.View number (Some call) ended)
      → ShowsEnd layout w brick number call ended
  pub unsent : (brick : BrickId) (number : GroupId) (ended : ViewAnswer) → WasReported w brick (report.View number None ended) → ended ≡ answer.BadMembers

-- so it is in every world that a run reaches
abbrev pub ProposalsShow : Type 0
ProposalsShow = (setting : Setting) (events : List Event) → IsSound setting → ProposalsShowIn setting.layout (run setting events (first_world setting.layout))

-- Of what was reported once a brick was asked to propose a list, and did not refuse: a list that may keep the group adds nothing, and another ends the proposal at once.
abbrev pub BadMembersEndAtOnce : Type 0
BadMembersEndAtOnce =
    (setting : Setting) (w : World) (brick : BrickId) (number : GroupId) (members : List BrickId) (group : Group)
    → may_propose setting w brick number ≡ true → group_of setting.layout number.0 ≡ Some group
    → (happens setting w (Proposes brick number members)).choices.reports
    ≡ w.choices.reports
    ++ (if is_membership group.m setting.layout.bricks members then [] else (brick, report.View number None answer.BadMembers) ∷ [])
