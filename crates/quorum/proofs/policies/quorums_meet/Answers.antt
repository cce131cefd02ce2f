-- The law of counts, at these sizes.
use Rattle.quorum.proofs.Counts.{quorums_share}
use Rattle.quorum.proofs.policies.quorums_meet.Goals as goal

pub returns : goal.returns
returns c = quorums_share c.args.m c.args.n c.requires.enough_seats
