-- A member's vote on a ballot: it refuses, and keeps what it kept of ballots, or it promises to the ballot, and keeps a list that it accepted, or the one that it
-- is asked to accept.
use Rattle.std.specs.Option.{option_map}
use Rattle.std.proofs.Common.{◌≡◌, ◌+◌, ℕ, ◌<◌, true, false, nat_lt, ltb-true, ltb-false, ◌≤◌, ◌^◌, ◌-◌, List, Option, Some, None, is_some, refl, ap, subst}
use Rattle.std.proofs.lemmas.Bool.{cond_both, and_parts, and_from}
use Rattle.std.proofs.lemmas.Option.{same_Some}
use Rattle.fab_base.specs.Stamps.{ballot_below}
use Rattle.fab_base.specs.declared.identities.BrickId.{BrickId}
use Rattle.fab_base.specs.declared.stamps.Ballot.{Ballot}
use Rattle.messages.specs.declared.calls.Call.{Call}
use Rattle.messages.specs.declared.replies.Reply.{Reply}
use Rattle.messages.specs.declared.replies.Reply.TheVariants.{Moved, Promise, Accepted, Outbid, NotSynced}
use Rattle.synod_laws.specs.Synods.{Kept, last_of}
use Rattle.protocol.specs.Views.{Learnt}
use Rattle.protocol.specs.Ballots.{choice_of, Voted, moved_to, outbidding, granting, unless_barred, voting}
use Rattle.protocol.specs.Nodes.{Node, put, view_at, has_accepted, moved_at, vote_at}
use Rattle.protocol.proofs.Tables.{put_each}

-- the vote of a member: it has learnt a later view, or does not know that the view is synced, or has promised to a greater ballot, or grants it
pub vote_each : (P : Voted → Type 0) (view : ℕ) (learnt : Learnt) (kept : Kept (List BrickId)) (ballot : Ballot) (asks : Option (List BrickId))
    → (view < learnt.view.number.0 → P (record { reply = moved_to learnt.view; kept = kept }))
    → (learnt.view.number.0 ≤ view → learnt.synced ≡ false → P (record { reply = NotSynced; kept = kept }))
    → ((greater : Ballot) → learnt.view.number.0 ≤ view → outbidding kept ballot ≡ Some greater → P (record { reply = Outbid greater; kept = kept }))
    → P (record { reply = Promise (option_map choice_of (last_of kept)); kept = Some (ballot, last_of kept) })
    → ((members : List BrickId) → asks ≡ Some members → P (record { reply = Accepted; kept = Some (ballot, Some (ballot, members)) }))
    → P (voting view learnt kept ballot asks)
unfolding voting
vote_each P view learnt kept ballot asks moved unsynced outbid promised accepted =
    cond_both (nat_lt view learnt.view.number.0) (Some (moved_to learnt.view)) _ (λ (z : Option Reply). P (unless_barred z kept (granting kept ballot asks)))
    (λ later. moved (ltb-true view learnt.view.number.0 later))
    (λ isnt. cond_both learnt.synced _ (Some NotSynced) (λ (z : Option Reply). P (unless_barred z kept (granting kept ballot asks)))
    (λ synced. unless_outbid (ltb-false view learnt.view.number.0 isnt) (outbidding kept ballot) refl) (λ not. unsynced (ltb-false view learnt.view.number.0 isnt) not))
  where
    granted : (z : Option (List BrickId)) → asks ≡ z → P (granting kept ballot z)
    granted None is = promised
    granted (Some members) is = accepted members is

    unless_outbid : learnt.view.number.0 ≤ view → (z : Option Ballot) → outbidding kept ballot ≡ z
        → P (unless_barred (option_map (λ greater. Outbid greater) z) kept (granting kept ballot asks))
    unless_outbid most None is = granted asks refl
    unless_outbid most (Some greater) is = outbid greater most is

-- the ballot that is told was promised to
pub outbid_promised : (kept : Kept (List BrickId)) (ballot greater : Ballot) → outbidding kept ballot ≡ Some greater
    → (accepted : Option (Ballot × List BrickId)) × (kept ≡ Some (greater, accepted))
outbid_promised None ballot greater is = absurd (let never : None ≡ Some greater = is in cc)
outbid_promised (Some (promised, accepted)) ballot greater is = (accepted, ap (λ (b : Ballot). Some (b, accepted)) same)
  where
    same : promised ≡ greater
    same =
        cond_both (ballot_below ballot promised) (Some promised) None (λ (z : Option Ballot). z ≡ Some greater → promised ≡ greater)
        (λ below told. same_Some promised greater told) (λ isnt told. absurd (let never : None ≡ Some greater = told in cc)) is

-- an accepted list stays one
abbrev pub StaysAccepted : Kept (List BrickId) → Kept (List BrickId) → Type 0
StaysAccepted kept later = is_some (last_of kept) ≡ true → is_some (last_of later) ≡ true

vote_stays : (view : ℕ) (learnt : Learnt) (kept : Kept (List BrickId)) (ballot : Ballot) (asks : Option (List BrickId))
    → StaysAccepted kept (voting view learnt kept ballot asks).kept
vote_stays view learnt kept ballot asks =
    vote_each (λ (v : Voted). StaysAccepted kept v.kept) view learnt kept ballot asks (λ later has. has) (λ most not has. has) (λ greater most is has. has)
    (λ has. has) (λ members is has. refl)

-- the brick with what a vote leaves of ballots
abbrev pub with_vote : Node → Call → Voted → Node
with_vote node call vote = record node { ballots = put node.ballots call.group.0 vote.kept }

-- where it has accepted a list, it goes on having accepted one
pub vote_accepts : (node : Node) (call : Call) (ballot : Ballot) (asks : Option (List BrickId)) (g : ℕ) → has_accepted node g ≡ true
    → has_accepted (with_vote node call (vote_at node call ballot asks)) g ≡ true
vote_accepts node call ballot asks g has =
    let parts = and_parts (nat_lt (view_at node g) (2 ^ 32 - 1)) (is_some (last_of (node.ballots g))) has in
    and_from (nat_lt (view_at node g) (2 ^ 32 - 1)) _ parts.0
    (put_each (λ h (z : Kept (List BrickId)). is_some (last_of (node.ballots h)) ≡ true → is_some (last_of z) ≡ true) node.ballots call.group.0
    (vote_at node call ballot asks).kept
    (vote_stays call.view.0 (node.learnt call.group.0) (node.ballots call.group.0) ballot asks) (λ h other accepted. accepted) g parts.1)

-- a brick tells that it serves the view of a call no more: it has learnt a later view, or accepted a list to follow it
pub moved_each : (P : Reply → Type 0) (node : Node) (call : Call) (moved : Reply)
    → (call.view.0 < view_at node call.group.0 → P (moved_to (node.learnt call.group.0).view))
    → (view_at node call.group.0 ≤ call.view.0 → has_accepted node call.group.0 ≡ true → P (Moved (record { 0 = call.view.0 + 1 }) None))
    → moved_at node call ≡ Some moved → P moved
moved_each P node call moved later accepted =
    cond_both (nat_lt call.view.0 (view_at node call.group.0)) (Some (moved_to (node.learnt call.group.0).view)) _
    (λ (z : Option Reply). z ≡ Some moved → P moved)
    (λ above is. subst P (same_Some _ moved is) (later (ltb-true call.view.0 (view_at node call.group.0) above)))
    (λ isnt. cond_both (has_accepted node call.group.0) (Some (Moved (record { 0 = call.view.0 + 1 }) None)) None (λ (z : Option Reply). z ≡ Some moved → P moved)
    (λ has is. subst P (same_Some _ moved is) (accepted (ltb-false call.view.0 (view_at node call.group.0) isnt) has))
    (λ free is. absurd (let never : None ≡ Some moved = is in cc)))
