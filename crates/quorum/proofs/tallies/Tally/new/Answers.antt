-- The first n of the 32 silent seats.
use Rattle.std.proofs.Common.{ap}
use Rattle.std.proofs.lemmas.List.{take-replicate}
use Rattle.quorum.specs.declared.seats.Seat.TheVariants.{Silent}
use Rattle.quorum.specs.Quorums.{q_of}
use Rattle.quorum.proofs.TallyCounts.{votes_of}
use Rattle.quorum.proofs.tallies.Tally.new.Goals as goal

pub returns : goal.returns
returns c =
    let policy = c.args.policy in
    rw (c.n.ensures.value, c.q.ensures.value)
    (ap (votes_of policy.n (q_of policy.m policy.n)) (take-replicate policy.n 32 Silent c.n.ensures.limits.few_seats))
