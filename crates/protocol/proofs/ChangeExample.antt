-- A change of members, step by step: a group of one data block on bricks 0, 1 and 2 of four goes over to 1, 2 and 3.
use Rattle.std.proofs.Common.{◌≡◌, ℕ, true, false, List, [], ◌∷◌, Some, None, refl}
use Rattle.fab_base.specs.declared.identities.BrickId.{BrickId}
use Rattle.fab_base.specs.declared.member_lists.View.{View}
use Rattle.fab_base.specs.declared.stamps.Ballot.{Ballot}
use Rattle.messages.specs.declared.replies.Reply.TheVariants.{Promise, Accepted, Outbid, NotSynced}
use Rattle.fab_base.specs.Stamps.{ballot_below}
use Rattle.quorum.specs.Memberships.{is_membership}
use Rattle.protocol.specs.declared.tellings.ViewAnswer.TheVariants as answer
use Rattle.protocol.specs.Views.{Learnt, learns, notes_synced, first_kept}
use Rattle.protocol.specs.Ballots.{voting, moved_to}
use Rattle.protocol.specs.Proposals.{Proposal, Waited, Asks, Ended, begun_proposal, ballot_decided, seat_voting, voted, with_voice, asking}
use Rattle.protocol.specs.Coordinators.{call_same}

abbrev brick : ℕ → BrickId
brick i = record { 0 = i }

-- the lists, and the views
abbrev old_members : List BrickId
old_members = brick 0 ∷ (brick 1 ∷ (brick 2 ∷ []))

abbrev new_members : List BrickId
new_members = brick 1 ∷ (brick 2 ∷ (brick 3 ∷ []))

abbrev view_one : View
view_one = record { number = record { 0 = 1 }; members = old_members; prior = [] }

abbrev next_view : View
next_view = record { number = record { 0 = 2 }; members = new_members; prior = old_members }

-- the ballots of the first rounds of two bricks
abbrev ballot_of : ℕ → Ballot
ballot_of i = record { round = 1; brick = brick i; boot = 1 }

-- brick 3 proposes
abbrev begun : Proposal
begun = begun_proposal 1 (record { 0 = 0 }) view_one (record { boot = 1; seq = 1 }) (ballot_of 3) new_members

-- the promises of bricks 0 and 1 are a quorum, so it asks for its list; their acceptances decide it
abbrev promised : Proposal
promised = with_voice begun 0 (brick 0) (Promise None)

abbrev asked : Proposal
asked = asking (with_voice promised 1 (brick 1) (Promise None)) new_members

abbrev accepted : Proposal
accepted = with_voice asked 0 (brick 0) Accepted

one_promise : voted 4 begun (brick 0) begun.call (Promise None) ≡ Waited promised
unfolding seat_voting call_same ballot_decided
one_promise = refl

two_promises : voted 4 promised (brick 1) begun.call (Promise None) ≡ Asks asked
unfolding seat_voting call_same ballot_decided
two_promises = refl

two_acceptances : voted 4 accepted (brick 1) asked.call Accepted ≡ Ended asked.call (answer.Decided (record { 0 = 2 }) new_members)
unfolding seat_voting call_same ballot_decided
two_acceptances = refl

-- what a member that knows a synced view answers: a promise, and to a lesser ballot after that the greater one
abbrev known : Learnt
known = record { view = view_one; synced = true }

promises : (voting 1 known None (ballot_of 3) None).reply ≡ Promise None
unfolding voting
promises = refl

outbids : (voting 1 known (Some (ballot_of 3, None)) (ballot_of 0) (Some new_members)).reply ≡ Outbid (ballot_of 3)
unfolding voting ballot_below
outbids = refl

-- a member that has learnt the next view tells it, and takes part in no further choice before that is synced
moved : (voting 1 (learns known next_view) None (ballot_of 3) None).reply ≡ moved_to next_view
unfolding voting learns
moved = refl

not_synced : (voting 2 (learns known next_view) None (ballot_of 1) None).reply ≡ NotSynced
unfolding voting learns
not_synced = refl

synced : (voting 2 (notes_synced (learns known next_view) 2) None (ballot_of 1) None).reply ≡ Promise None
unfolding voting learns notes_synced
synced = refl

-- the old view's versions are kept until then
kept_first : first_kept (learns known next_view) ≡ 1
unfolding learns
kept_first = refl

kept_then : first_kept (notes_synced (learns known next_view) 2) ≡ 2
unfolding learns notes_synced
kept_then = refl

-- lists: of two data blocks two distinct bricks of the disk may keep a group, but no single one, and none may stand twice
single : is_membership 2 6 (brick 1 ∷ []) ≡ false
unfolding is_membership
single = refl

pair : is_membership 2 6 (brick 1 ∷ (brick 2 ∷ [])) ≡ true
unfolding is_membership
pair = refl

twice : is_membership 1 4 (brick 1 ∷ (brick 1 ∷ (brick 2 ∷ []))) ≡ false
unfolding is_membership
twice = refl
