-- A closed view stays closed.
use Rattle.view_laws.proofs.Closed.{closed_stays}
use Rattle.view_laws.proofs.laws.a_closed_view_stays_closed.Goals as goal

pub returns : goal.returns
returns c = closed_stays
