-- A proposal as its brick keeps it.
use Rattle.std.specs.Prelude.{◌≡◌, ℕ, ◌-◌, ◌<◌, ◌^◌, Bool, true, false, not, ◌&&◌, nat_lt, if◌then◌else◌, List, [], ◌∷◌, length, map, Option, Some, None, is_some}
use Rattle.std.specs.List.{list_all}
use Rattle.fab_base.specs.declared.identities.BrickId.{BrickId}
use Rattle.fab_base.specs.declared.identities.CallId.{CallId}
use Rattle.fab_base.specs.declared.identities.GroupId.{GroupId}
use Rattle.fab_base.specs.declared.member_lists.View.{View}
use Rattle.fab_base.specs.declared.stamps.Ballot.{Ballot}
use Rattle.messages.specs.declared.packets.Message.{Message}
use Rattle.messages.specs.declared.packets.Message.TheVariants as message
use Rattle.messages.specs.declared.packets.Packet.{Packet}
use Rattle.quorum.specs.Quorums.{IsWithinLimits}
use Rattle.protocol.specs.declared.phases.Counted.{Counted}
use Rattle.protocol.specs.Coordinators.{has_seat}
use Rattle.view_synod.specs.declared.answers.ViewNext.{ViewNext}
use Rattle.view_synod.specs.declared.answers.ViewNext.TheVariants as next
use Rattle.protocol.specs.declared.tellings.ViewAnswer.TheVariants as answer
use Rattle.quorum.specs.Memberships.{is_membership}
use Rattle.protocol.specs.Proposals.{Proposal, ballot_packets, begun_proposal, Voting, Ignored, Waited, Asks, Ended, answers_ballot, seat_voting, voted}

-- a proposal, on a disk of so many bricks
pub record Proposing : Type 0 where
  pub bricks : ℕ
  pub state : Proposal

-- no two of the replies are of one seat
abbrev pub are_apart : List Counted → Bool
are_apart [] = true
are_apart (c ∷ counted) = not (has_seat c.seat counted) && are_apart counted

-- the list that it asks for, if it asks for one, may keep the group
abbrev pub may_be_asked : ℕ → ℕ → Option (List BrickId) → Bool
may_be_asked m bricks None = true
may_be_asked m bricks (Some members) = is_membership m bricks members

-- What is true of a proposal all along: the members of its view are within the limits of a quorum, and the successor has a number; its list, and the one that it
-- asks for, may keep the group; while it prepares it is in its first phase; and each reply that counts is of a seat of the view, answers the phase, and is its seat's only one.
pub record IsUnderWay (bricks : ℕ) (p : Proposal) : Type 0 where
  pub limits : IsWithinLimits p.m (length p.view.members)
  pub number : p.view.number.0 < 2 ^ 32 - 1
  pub own : is_membership p.m bricks p.own ≡ true
  pub asked : may_be_asked p.m bricks p.asks ≡ true
  pub phase : p.asks ≡ None → p.call.phase ≡ 1
  pub seats : list_all (λ c. nat_lt c.seat (length p.view.members)) p.counted ≡ true
  pub answers : list_all (λ c. answers_ballot p.m bricks p.asks c.reply) p.counted ≡ true
  pub apart : are_apart p.counted ≡ true

-- the proposal, once it is this far
abbrev pub with_state : Proposing → Proposal → Proposing
with_state x p = record { bricks = x.bricks; state = p }

-- a message counts: it is a reply that counts at a seat
abbrev pub counts : Option Proposing → ℕ → Message → Bool
counts None from message = false
counts (Some x) from (message.Reply call reply) = is_some (seat_voting x.bricks x.state from call reply)
counts (Some x) from message = false

-- what a proposal does with a brick's message: it leaves out all but replies
abbrev pub voting_on : Proposing → BrickId → Message → Voting
voting_on x from (message.Reply call reply) = voted x.bricks x.state from call reply
voting_on x from message = Ignored

-- the same, once it may have ended
abbrev pub voting_in : Option Proposing → BrickId → Message → Voting
voting_in None from message = Ignored
voting_in (Some x) from message = voting_on x from message

-- the messages of the phase, whichever brick sends them: as it begins they go to all members, and later to those without a counted reply
abbrev pub ballot_messages : Proposal → List (BrickId × Message)
ballot_messages p = map (λ (packet : Packet). (packet.to, packet.message)) (ballot_packets (record { 0 = 0 }) p)

-- it sends the messages of its phase
abbrev pub SendsPhase : Proposal → ViewNext → Type 0
SendsPhase p (next.Send messages) = messages.items ≡ ballot_messages p
SendsPhase p next.Wait = ⊥
SendsPhase p (next.End answer) = ⊥

-- the proposal, where there is one, once it is this far
abbrev pub now_at : Option Proposing → Proposal → Option Proposing
now_at None p = None
now_at (Some x) p = Some (with_state x p)

-- what is left of a proposal once it did this: nothing, if it ended
abbrev pub left : ViewNext → Proposing → Option Proposing
left (next.End answer) x = None
left (next.Send messages) x = Some x
left next.Wait x = Some x

-- What it does next, and what is then left of the proposal. It waits where it left the reply out, and nothing changed, or where too few replies count. It sends
-- the messages of the phase in which it asks for a list. Or it ends, and is gone.
abbrev pub GoesOn : Option Proposing → Voting → ViewNext → Option Proposing → Type 0
GoesOn before Ignored does after = (does ≡ next.Wait) × (after ≡ before)
GoesOn before (Waited p) does after = (does ≡ next.Wait) × (after ≡ now_at before p)
GoesOn before (Asks p) does after = SendsPhase p does × (after ≡ now_at before p)
GoesOn before (Ended call answer) does after = (does ≡ next.End answer) × (after ≡ None)

-- the same of what a quorum decided, whatever the proposal was before its last reply
abbrev pub Decides : Proposing → Voting → ViewNext → Option Proposing → Type 0
Decides x voting does after = (before : Proposal) → GoesOn (Some (with_state x before)) voting does after

-- a new proposal of these members, where they may keep the group
abbrev pub started : ℕ → ℕ → GroupId → View → CallId → Ballot → List BrickId → Option Proposing
started bricks m group view call ballot members =
    if is_membership m bricks members then Some (record { bricks = bricks; state = begun_proposal m group view call ballot members }) else None

-- It begins with the messages of its first phase. Where its members may not keep the group, that is its end, and nothing is sent.
abbrev pub StartsAs : Option Proposing → ViewNext → Option Proposing → Type 0
StartsAs None does after = (does ≡ next.End answer.BadMembers) × (after ≡ None)
StartsAs (Some x) does after = SendsPhase x.state does × (after ≡ Some x)

-- at a tick it sends the messages of its phase again, to the members without a counted reply; once it has ended there is nothing to send
abbrev pub SendsAgain : Option Proposing → ViewNext → Type 0
SendsAgain None does = does ≡ next.Wait
SendsAgain (Some x) does = SendsPhase x.state does
