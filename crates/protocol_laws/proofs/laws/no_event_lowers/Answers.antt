-- No event lowers.
use Rattle.protocol_laws.proofs.ViewLaws.{no_event_lowers}
use Rattle.protocol_laws.proofs.laws.no_event_lowers.Goals as goal

pub returns : goal.returns
returns c = no_event_lowers
