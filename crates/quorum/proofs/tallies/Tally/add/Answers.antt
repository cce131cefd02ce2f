-- The write at the seat's place is the vote.
use Rattle.std.proofs.Common.{◌≡◌, ◌<◌, take, set, subst}
use Rattle.quorum.specs.Tallies.{Votes, with_vote}
use Rattle.quorum.proofs.TallyCounts.{votes_of, vote_within}
use Rattle.quorum.proofs.tallies.Tally.add.Goals as goal

pub returns-clause-vote : goal.returns-clause-vote
returns-clause-vote c =
    let inside = c.self.inside in
    let P : Votes → Type 0 = λ votes. c.args.seat < votes.n
    → votes_of inside.n inside.q (take inside.n (set inside.seats c.from-place.result c.after_reply.result)) ≡ with_vote votes c.args.seat c.args.mark in
    subst P c.self.view_is
    (λ within. rw (c.after_reply.ensures, c.from-place.ensures) (vote_within inside.n inside.q c.args.seat c.args.mark inside.seats within))
    c.requires
