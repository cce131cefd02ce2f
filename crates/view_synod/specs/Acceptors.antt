-- The acceptor's side of the choice of a view's successor, and what it is to the Synod (Lamport, "Paxos Made Simple", ACM SIGACT News 2001).
use Rattle.std.specs.Prelude.{◌≡◌, ℕ, true, false, List, Option, Some, None}
use Rattle.std.specs.Option.{option_map}
use Rattle.fab_base.specs.declared.identities.BrickId.{BrickId}
use Rattle.fab_base.specs.declared.stamps.Ballot.{Ballot}
use Rattle.messages.specs.declared.replies.Reply.{Reply}
use Rattle.messages.specs.declared.replies.Reply.TheVariants as reply
use Rattle.view_synod.specs.declared.votes.Vote.{Vote}
use Rattle.protocol.specs.Views.{Learnt}
use Rattle.protocol.specs.Ballots.{Voted, choice_of, moved_to, voting}
use Rattle.synod_laws.specs.Synods.{Kept, is_promised_above, Synod, Agrees, Keeps, SaysPromise, with_promise, with_acceptance}

-- An acceptor that is asked for the successor of a view, by the view's number: the view that it has learnt of the group, and whether all its stripes are known
-- to be in it; and what it keeps for the learnt view's successor, which is the greatest ballot that it has promised to, and the list that it accepted last, with
-- the ballot of that.
pub record Acceptor : Type 0 where
  pub of : ℕ
  pub learnt : Learnt
  pub kept : Kept (List BrickId)

-- what is kept of a ballot promised to and a list accepted: who has accepted under a ballot has promised to it
abbrev pub kept_of : Option Ballot → Option (Ballot × List BrickId) → Kept (List BrickId)
kept_of (Some promised) accepted = Some (promised, accepted)
kept_of None (Some (ballot, members)) = Some (ballot, Some (ballot, members))
kept_of None None = None

-- the ballot that was promised to, if one was
abbrev pub promised_of : Kept (List BrickId) → Option Ballot
promised_of kept = option_map (λ held. held.0) kept

-- a vote as a member replies it
abbrev pub reply_of : Vote → Reply
reply_of (Vote.Promise told) = reply.Promise (option_map choice_of told)
reply_of Vote.Accepted = reply.Accepted
reply_of (Vote.Outbid ballot) = reply.Outbid ballot
reply_of (Vote.Moved view) = moved_to view
reply_of Vote.NotSynced = reply.NotSynced

-- an acceptor's vote on a ballot, which names a list if it is asked to accept that
abbrev pub vote_of : Acceptor → Ballot → Option (List BrickId) → Voted
vote_of acceptor ballot asks = voting acceptor.of acceptor.learnt acceptor.kept ballot asks

-- the acceptor once it has voted so
abbrev pub after_vote : Acceptor → Ballot → Option (List BrickId) → Acceptor
after_vote acceptor ballot asks = record acceptor { kept = (vote_of acceptor ballot asks).kept }

-- ---- laws

-- the ballot promised to never falls: a ballot that it is above stays below it
abbrev pub NeverFalls : Kept (List BrickId) → Kept (List BrickId) → Type 0
NeverFalls before after = (ballot : Ballot) → is_promised_above before ballot ≡ true → is_promised_above after ballot ≡ true

-- What a promise is to the Synod. Take any history that what the acceptor kept is true of, at some seat. The promise is a step of it: what the acceptor keeps
-- now is true of the history after that, and so is what it told.
abbrev pub IsPromise : Kept (List BrickId) → Ballot → Option (Ballot × List BrickId) → Kept (List BrickId) → Type 0
IsPromise before ballot told after =
    (n q seat : ℕ) (synod : Synod (List BrickId)) → Agrees n q synod → Keeps synod seat before
    → Keeps (with_promise synod seat ballot) seat after × SaysPromise (with_promise synod seat ballot) seat ballot told

-- What an acceptance is to the Synod: where the ballot was proposed with that list, the vote is a step of the history, and what the acceptor keeps now is true
-- of the history after that.
abbrev pub IsVote : Kept (List BrickId) → Ballot → List BrickId → Kept (List BrickId) → Type 0
IsVote before ballot members after =
    (n q seat : ℕ) (synod : Synod (List BrickId)) → Agrees n q synod → Keeps synod seat before → synod.proposals ballot ≡ Some members
    → Keeps (with_acceptance synod seat ballot members) seat after × Agrees n q (with_acceptance synod seat ballot members)

-- a vote that promises is a promise of the Synod, to a ballot that is not below the one promised to
abbrev pub PromisesTruly : Vote → Kept (List BrickId) → Ballot → Kept (List BrickId) → Type 0
PromisesTruly (Vote.Promise told) before ballot after = (is_promised_above before ballot ≡ false) × IsPromise before ballot told after
PromisesTruly vote before ballot after = Unit {0}

-- a vote that accepts is a vote of the Synod, under a ballot that is not below the one promised to
abbrev pub AcceptsTruly : Vote → Kept (List BrickId) → Ballot → List BrickId → Kept (List BrickId) → Type 0
AcceptsTruly Vote.Accepted before ballot members after = (is_promised_above before ballot ≡ false) × IsVote before ballot members after
AcceptsTruly vote before ballot members after = Unit {0}
