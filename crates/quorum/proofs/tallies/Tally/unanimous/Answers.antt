-- A stamp is agreed on exactly where the tally is unanimous.
use Rattle.quorum.specs.Tallies.{IsUnanimous}
use Rattle.quorum.proofs.Agreements.{some_exactly}
use Rattle.quorum.proofs.tallies.Tally.unanimous.Goals as goal

pub returns : goal.returns
returns c = rw c.is_some.ensures (some_exactly (IsUnanimous c.args.self.now) c.agreed.result c.agreed.ensures)
