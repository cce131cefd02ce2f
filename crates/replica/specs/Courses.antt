-- What a brick does with a request, by what it has learnt of the group's views and accepted.
use Rattle.std.specs.Prelude.{◌≡◌, ℕ, IsSome, ◌+◌, ◌-◌, ◌^◌, Bool, true, not, nat_eq, nat_lt, ◌&&◌, ◌||◌, if◌then◌else◌, List, length, Option, Some, None, is_some}
use Rattle.fab_base.specs.declared.identities.BrickId.{BrickId}
use Rattle.fab_base.specs.declared.stamps.Stamp.{Stamp}
use Rattle.std.specs.Option.{ForSome}
use Rattle.fab_base.specs.Layouts.{Layout, Group, group_of, seat_in}
use Rattle.messages.specs.declared.calls.Call.{Call}
use Rattle.messages.specs.declared.requests.Request.{Request}
use Rattle.messages.specs.declared.requests.Request.TheVariants as request
use Rattle.messages.specs.declared.replies.Reply.{Reply}
use Rattle.messages.specs.declared.replies.Reply.TheVariants.{Moved, Old, Retired}
use Rattle.version_log.specs.Versions.{Version}
use Rattle.brick_state.specs.States.{StateOf, group_at}
use Rattle.brick_store.specs.Blocks.{IsServed}
use Rattle.quorum.specs.Memberships.{is_membership}
use Rattle.synod_laws.specs.Synods.{Kept, last_of}
use Rattle.stripe_code.specs.Codes.{block_code}
use Rattle.protocol.specs.Views.{Learnt, first_kept, group_kept}
use Rattle.protocol.specs.Ballots.{moved_to, voting}
use Rattle.protocol.specs.Replicas.{handle, newest_of, under}
use Rattle.protocol.specs.Nodes.{Node, NodeStep, no_step, sending, reply_packets, reacted, full_at, replica_at, voted_on, fits, fits_change}
use Rattle.replica.specs.Members.{Member}
use Rattle.replica.specs.declared.courses.Course.{Course}
use Rattle.replica.specs.declared.courses.Course.TheVariants.{Void, Tell, TellOld, Serve, Vote}
use Rattle.replica.specs.Parts.{learnt_in, ballots_in}

-- what a request has the member at a seat of stripes of m data blocks store is a block
abbrev pub fits_block : ℕ → ℕ → ℕ → Request → Bool
fits_block block m seat (request.Write t bytes) = nat_eq (length bytes) block
fits_block block m seat (request.Modify t base j delta) = nat_lt j m && fits_change block m j delta (Some seat)
fits_block block m seat asked = true

-- ---- by what the brick has learnt and keeps of ballots

-- the brick's seat in the view of a call, where that is the learnt one
abbrev pub seat_under : BrickId → Learnt → Call → List BrickId → Option ℕ
seat_under me learnt call members = if nat_eq call.view.0 learnt.view.number.0 then seat_in members me.0 else None

-- the request is void, at this seat of the learnt view or at none
abbrev pub is_void_at : Layout → Learnt → Call → Request → Group → Option ℕ → Bool
is_void_at layout learnt call asked group seat =
    not (nat_lt call.stripe.0 group.stripes) || (nat_eq call.view.0 0 || (nat_lt learnt.view.number.0 call.view.0
    || ((nat_eq call.view.0 learnt.view.number.0 && not (is_some seat)) || not (fits layout group.m call asked seat))))

-- a list was accepted to follow the learnt view
abbrev pub accepts_under : Learnt → Kept (List BrickId) → Bool
accepts_under learnt kept = nat_lt learnt.view.number.0 (2 ^ 32 - 1) && is_some (last_of kept)

-- how the brick tells that it serves the call's view no more, where it does not
abbrev pub moved_under : Learnt → Kept (List BrickId) → Call → Option Reply
moved_under learnt kept call =
    if nat_lt call.view.0 learnt.view.number.0 then Some (moved_to learnt.view)
    else if accepts_under learnt kept then Some (Moved (record { 0 = call.view.0 + 1 }) None)
    else None

-- a member serves at its seat, if it has one
abbrev pub served_at : Layout → ℕ → Option ℕ → Course
served_at layout m None = Void
served_at layout m (Some seat) = Serve (record { m = m; seat = seat; block = layout.block })

-- unless it serves the view no more
abbrev pub served_unless_moved : Layout → ℕ → Option ℕ → Option Reply → Course
served_unless_moved layout m seat None = served_at layout m seat
served_unless_moved layout m seat (Some moved) = Tell moved

-- asked for what it keeps in the call's view, the brick tells that it has dropped that, or what it is, if it serves that view no more
abbrev pub old_under : Learnt → Option Reply → Call → Option Stamp → Course
old_under learnt moved call bound =
    if nat_lt call.view.0 (first_kept learnt) then Tell Retired else if is_some moved then TellOld bound else Void

-- the course of a request that is not void
abbrev pub course_as : Layout → ℕ → Learnt → Option ℕ → Option Reply → Call → Request → Course
course_as layout m learnt seat moved call (request.Collect t) = served_at layout m seat
course_as layout m learnt seat moved call (request.OldRead bound) = old_under learnt moved call bound
course_as layout m learnt seat moved call (request.Prepare ballot) = Vote learnt ballot None
course_as layout m learnt seat moved call (request.Accept ballot members) = Vote learnt ballot (Some members)
course_as layout m learnt seat moved call asked = served_unless_moved layout m seat moved

-- the course of a request to a group, where the layout has it
abbrev pub course_in : Layout → BrickId → Learnt → Kept (List BrickId) → Call → Request → Option Group → Course
course_in layout me learnt kept call asked None = Void
course_in layout me learnt kept call asked (Some group) =
    if is_void_at layout learnt call asked group (seat_under me learnt call group.members) then Void
    else course_as layout group.m learnt (seat_under me learnt call group.members) (moved_under learnt kept call) call asked

-- the course of a request at a brick whose store keeps this
abbrev pub course_of : Layout → BrickId → StateOf Version → Call → Request → Course
course_of layout me st call asked =
    course_in layout me (learnt_in layout st call.group.0) (ballots_in st call.group.0) call asked
    (group_kept layout (learnt_in layout st call.group.0).view.members call.group.0)

-- ---- the machine's step

-- on a request that takes this course
abbrev pub course_step : Layout → BrickId → BrickId → Node → Call → Request → Course → NodeStep
course_step layout me from node call asked Void = no_step node
course_step layout me from node call asked (Tell reply) = sending node (reply_packets me from call (Some reply))
course_step layout me from node call asked (TellOld bound) =
    sending node (reply_packets me from call (Some (Old (newest_of (under bound (replica_at node call).log)))))
course_step layout me from node call asked (Serve member) =
    reacted me from node call (handle (block_code layout.block) member.m (full_at layout.records node.live) member.seat (replica_at node call) asked)
course_step layout me from node call asked (Vote learnt ballot asks) = voted_on me from node call (voting call.view.0 learnt (node.ballots call.group.0) ballot asks)

-- ---- what a course asks of the store

-- a brick handles a request as this member: the store serves the view of the call, and what the request has it store is a block of the layout
pub record ServesAs (layout : Layout) (st : StateOf Version) (call : Call) (asked : Request) (member : Member) : Type 0 where
  pub block : member.block ≡ layout.block
  pub view : IsServed (group_at st call.group.0) call.view.0
  pub fits : fits_block layout.block member.m member.seat asked ≡ true

-- a brick votes by what it has learnt, and a list that it is asked to accept may keep the call's group
pub record VotesBy (layout : Layout) (st : StateOf Version) (call : Call) (learnt : Learnt) (asks : Option (List BrickId)) : Type 0 where
  pub learnt_is : learnt ≡ learnt_in layout st call.group.0
  pub lists : (group : Group) → group_of layout call.group.0 ≡ Some group → ForSome asks (λ members. is_membership group.m layout.bricks members ≡ true)
  pub known : IsSome (group_of layout call.group.0)
