-- The write at the seat's place takes the vote back.
use Rattle.std.proofs.Common.{◌≡◌, ◌<◌, take, set, subst}
use Rattle.quorum.specs.declared.seats.Seat.TheVariants.{Silent}
use Rattle.quorum.specs.Tallies.{Votes, without_vote}
use Rattle.quorum.proofs.TallyCounts.{votes_of, taken_within}
use Rattle.quorum.proofs.tallies.Tally.take_back.Goals as goal

pub returns-clause-taken : goal.returns-clause-taken
returns-clause-taken c =
    let inside = c.self.inside in
    let P : Votes → Type 0 = λ votes. c.args.seat < votes.n
    → votes_of inside.n inside.q (take inside.n (set inside.seats c.from.result Silent)) ≡ without_vote votes c.args.seat in
    subst P c.self.view_is (λ within. rw c.from.ensures (taken_within inside.n inside.q c.args.seat inside.seats within)) c.requires
