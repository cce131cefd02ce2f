-- The proposer's side of the choice of a view's successor: single-decree Paxos (Lamport, "Paxos Made Simple", ACM SIGACT News 2001). A proposal has two phases:
-- it prepares, and then asks for acceptance. Each phase ends once replies of a quorum of the view's members count.
use Rattle.std.specs.Prelude.{ℕ, ◌+◌, Bool, true, false, not, nat_lt, ◌&&◌, if◌then◌else◌, List, [], ◌∷◌, ◌++◌, length, map, max, Option, Some, None, is_some}
use Rattle.std.specs.Option.{option_map}
use Rattle.fab_base.specs.declared.identities.BrickId.{BrickId}
use Rattle.fab_base.specs.declared.identities.CallId.{CallId}
use Rattle.fab_base.specs.declared.identities.GroupId.{GroupId}
use Rattle.fab_base.specs.declared.identities.ViewNo.{ViewNo}
use Rattle.fab_base.specs.declared.member_lists.View.{View}
use Rattle.fab_base.specs.declared.stamps.Ballot.{Ballot}
use Rattle.fab_base.specs.Stamps.{ballot_below}
use Rattle.fab_base.specs.Layouts.{seat_in}
use Rattle.messages.specs.declared.calls.Call.{Call}
use Rattle.messages.specs.declared.packets.Message.{Message}
use Rattle.messages.specs.declared.packets.Message.TheVariants as message
use Rattle.messages.specs.declared.packets.Packet.{Packet}
use Rattle.messages.specs.declared.requests.Request.{Request}
use Rattle.messages.specs.declared.requests.Request.TheVariants as request
use Rattle.messages.specs.declared.replies.Choice.{Choice}
use Rattle.messages.specs.declared.replies.Lineage.{Lineage}
use Rattle.messages.specs.declared.replies.Reply.{Reply}
use Rattle.messages.specs.declared.replies.Reply.TheVariants.{Moved, Promise, Accepted, Outbid, NotSynced}
use Rattle.quorum.specs.Memberships.{is_membership}
use Rattle.quorum.specs.Quorums.{q_of}
use Rattle.synod_laws.specs.Synods.{greatest_told, value_or}
use Rattle.protocol.specs.declared.phases.Counted.{Counted}
pub use Rattle.protocol.specs.declared.tellings.ViewAnswer.{ViewAnswer}
use Rattle.protocol.specs.declared.tellings.ViewAnswer.TheVariants as answer
use Rattle.protocol.specs.Coordinators.{call_same, new_seat, next_phase}
use Rattle.protocol.specs.Requests.{resent_to}

-- A proposal: how many data blocks a stripe of the group has; the view whose successor it is about; its ballot; the list that its brick proposes; the list that it
-- asks the members to accept, or none while it prepares; the call of its phase; and the replies that count in that.
pub record Proposal : Type 0 where
  pub m : ℕ
  pub view : View
  pub ballot : Ballot
  pub own : List BrickId
  pub asks : Option (List BrickId)
  pub call : Call
  pub counted : List Counted

-- the call of a proposal's first phase: it is about no stripe, which is written as stripe 0
abbrev pub ballot_call : GroupId → ViewNo → CallId → Call
ballot_call group view call =
    record { boot = call.boot; seq = call.seq; phase = 1; group = group; view = view; stripe = record { 0 = 0 } }

-- a proposal as it begins: it prepares
abbrev pub begun_proposal : ℕ → GroupId → View → CallId → Ballot → List BrickId → Proposal
begun_proposal m group view call ballot members =
    record { m = m; view = view; ballot = ballot; own = members; asks = None; call = ballot_call group view.number call; counted = [] }

-- how many members make a quorum of the view
abbrev pub ballot_quorum : Proposal → ℕ
ballot_quorum p = q_of p.m (length p.view.members)

-- ---- what is sent

-- what the phase asks of each member: to promise to the ballot, or to accept the list under it
abbrev pub ballot_request : Proposal → Request
ballot_request p = request_in p.asks
  where
    request_in : Option (List BrickId) → Request
    request_in None = request.Prepare p.ballot
    request_in (Some members) = request.Accept p.ballot members

-- what the phase sends: as it begins it goes to all members, and later to those without a counted reply
abbrev pub ballot_packets : BrickId → Proposal → List Packet
ballot_packets me p = resent_to me p.call (λ seat. ballot_request p) p.counted 0 p.view.members

-- ---- which replies count

-- the list that a promise tells, if it tells one, may keep the group
abbrev pub may_be_choice : ℕ → ℕ → Option Choice → Bool
may_be_choice m bricks None = true
may_be_choice m bricks (Some choice) = is_membership m bricks choice.members

-- so may those of a later view, if they are told
abbrev pub may_be_lineage : ℕ → ℕ → Option Lineage → Bool
may_be_lineage m bricks None = true
may_be_lineage m bricks (Some lineage) = is_membership m bricks lineage.members && is_membership m bricks lineage.prior

-- A reply of this kind answers the phase of a proposal that asks for this list, or prepares: a promise while it prepares, an acceptance once it asks, and each
-- refusal. Lists in it may keep a group of m data blocks on so many bricks.
abbrev pub answers_ballot : ℕ → ℕ → Option (List BrickId) → Reply → Bool
answers_ballot m bricks asks (Promise accepted) = not (is_some asks) && may_be_choice m bricks accepted
answers_ballot m bricks asks Accepted = is_some asks
answers_ballot m bricks asks (Moved view lineage) = may_be_lineage m bricks lineage
answers_ballot m bricks asks (Outbid ballot) = true
answers_ballot m bricks asks NotSynced = true
answers_ballot m bricks asks reply = false

-- the seat, where this reply of it answers the phase
abbrev pub voting_seat : ℕ → Proposal → Reply → Option ℕ → Option ℕ
voting_seat bricks p reply None = None
voting_seat bricks p reply (Some seat) = if answers_ballot p.m bricks p.asks reply then Some seat else None

-- the seat at which a brick's reply counts: it is to this very phase, answers it, and is its seat's first
unfoldable pub seat_voting : ℕ → Proposal → ℕ → Call → Reply → Option ℕ
seat_voting bricks p from call reply =
    if call_same call p.call then new_seat p.counted (voting_seat bricks p reply (seat_in p.view.members from)) else None

-- the proposal with one more reply
abbrev pub with_voice : Proposal → ℕ → BrickId → Reply → Proposal
with_voice p seat brick reply = record p { counted = p.counted ++ (record { seat = seat; brick = brick; reply = reply } ∷ []) }

-- ---- what counted replies say

-- of two things that seats told, where there are some, the one of the lower seat
abbrev pub lower_seat : {X : Type 0} → Option (ℕ × X) → Option (ℕ × X) → Option (ℕ × X)
lower_seat None b = b
lower_seat (Some a) None = Some a
lower_seat (Some a) (Some b) = if nat_lt b.0 a.0 then Some b else Some a

-- the thing that the lowest seat told of those whose replies tell one, with that seat
abbrev pub lowest : {X : Type 0} → (Counted → Option X) → List Counted → Option (ℕ × X)
lowest tells [] = None
lowest tells (c ∷ counted) = lower_seat (option_map (λ x. (c.seat, x)) (tells c)) (lowest tells counted)

-- the later view that a member told
abbrev pub moved_view : Counted → Option ViewNo
moved_view c = view_in c.reply
  where
    view_in : Reply → Option ViewNo
    view_in (Moved view lineage) = Some view
    view_in reply = None

-- the member that told that the view is not synced
abbrev pub unsynced_brick : Counted → Option BrickId
unsynced_brick c = brick_in c.reply
  where
    brick_in : Reply → Option BrickId
    brick_in NotSynced = Some c.brick
    brick_in reply = None

-- the greater ballot that a member told
abbrev pub outbid_ballot : Counted → Option Ballot
outbid_ballot c = ballot_in c.reply
  where
    ballot_in : Reply → Option Ballot
    ballot_in (Outbid ballot) = Some ballot
    ballot_in reply = None

-- the greater of two ballots, where there are some
abbrev pub greater_ballot : Option Ballot → Option Ballot → Option Ballot
greater_ballot None b = b
greater_ballot (Some a) None = Some a
greater_ballot (Some a) (Some b) = if ballot_below a b then Some b else Some a

-- the greatest ballot that members told
abbrev pub greatest_outbid : List Counted → Option Ballot
greatest_outbid [] = None
greatest_outbid (c ∷ counted) = greater_ballot (outbid_ballot c) (greatest_outbid counted)

-- of two answers, where there are some, the first
abbrev pub first_answer : Option ViewAnswer → Option ViewAnswer → Option ViewAnswer
first_answer None other = other
first_answer (Some first) other = Some first

-- How counted replies refuse a proposal, if one does: a later view first, then a view that is not synced, each as the lowest seat told it, and then the greatest
-- ballot that was told.
abbrev pub refused_by : List Counted → Option ViewAnswer
refused_by counted =
    first_answer (option_map (λ (told : ℕ × ViewNo). answer.Moved told.1) (lowest moved_view counted))
    (first_answer (option_map (λ (told : ℕ × BrickId). answer.NotSynced told.1) (lowest unsynced_brick counted))
    (option_map (λ (ballot : Ballot). answer.Outbid ballot) (greatest_outbid counted)))

-- the list that a promise tells, with the ballot under which it was accepted
abbrev pub told_choice : Reply → Option (Ballot × List BrickId)
told_choice (Promise accepted) = option_map (λ (choice : Choice). (choice.ballot, choice.members)) accepted
told_choice reply = None

-- what each seat promised
abbrev pub promises : List Counted → List (ℕ × Option (Ballot × List BrickId))
promises counted = map (λ c. (c.seat, told_choice c.reply)) counted

-- the list of the greatest ballot that promises tell, if they tell one
abbrev pub greatest_choice : List Counted → Option (Ballot × List BrickId)
greatest_choice counted = greatest_told (promises counted)

-- ---- what a proposal does with a reply

-- It leaves the reply out, waits for more, asks the members to accept a list, or ends.
pub data Voting : Type 0 where
  Ignored : Voting
  Waited : (p : Proposal) → Voting
  Asks : (p : Proposal) → Voting
  Ended : (call : Call) → (answer : ViewAnswer) → Voting

-- the proposal as it asks the members to accept a list, in its call's next phase
abbrev pub asking : Proposal → List BrickId → Proposal
asking p members = record p { asks = Some members; call = next_phase p.call; counted = [] }

-- A proposal that no counted reply refuses goes on: where it prepared, it asks for the list of the greatest ballot that the promises tell, or for its own if they
-- tell none; the list that it asked for is decided.
abbrev pub goes_on : Proposal → Option (List BrickId) → Voting
goes_on p None = Asks (asking p (value_or p.own (greatest_choice p.counted)))
goes_on p (Some members) = Ended p.call (answer.Decided (record { 0 = p.view.number.0 + 1 }) members)

-- a refusal ends it; else it goes on
abbrev pub unless_voted_down : Proposal → Option ViewAnswer → Voting
unless_voted_down p None = goes_on p p.asks
unless_voted_down p (Some refused) = Ended p.call refused

-- what a quorum of replies decides
unfoldable pub ballot_decided : Proposal → Voting
ballot_decided p = unless_voted_down p (refused_by p.counted)

-- with a quorum of replies the phase is decided
abbrev pub once_voted : Proposal → Voting
once_voted p = if nat_lt (length p.counted) (ballot_quorum p) then Waited p else ballot_decided p

-- what a proposal does with a brick's reply, by the seat at which that counts
abbrev pub voted_at : Proposal → BrickId → Reply → Option ℕ → Voting
voted_at p from reply None = Ignored
voted_at p from reply (Some seat) = once_voted (with_voice p seat from reply)

-- what a proposal does with a brick's reply, on a disk of so many bricks
abbrev pub voted : ℕ → Proposal → BrickId → Call → Reply → Voting
voted bricks p from call reply = voted_at p from reply (seat_voting bricks p from.0 call reply)

-- ---- ballots' rounds

-- the greatest round that a brick used or heard of, once it heard this reply: an Outbid tells one, also where it does not count
abbrev pub round_after : ℕ → Reply → ℕ
round_after round (Outbid ballot) = max round ballot.round
round_after round reply = round

-- the same, once it heard this message
abbrev pub round_heard : ℕ → Message → ℕ
round_heard round (message.Reply call reply) = round_after round reply
round_heard round message = round

-- the ballot of a brick's next proposal: its round is above all that the brick used or heard of
abbrev pub next_ballot : ℕ → BrickId → CallId → Ballot
next_ballot round me call = record { round = round + 1; brick = me; boot = call.boot }

-- the greatest round that a brick used or heard of, once it proposed a list: one that may not keep the group uses up no round
abbrev pub round_used : ℕ → Bool → ℕ
round_used round may_keep = if may_keep then round + 1 else round
