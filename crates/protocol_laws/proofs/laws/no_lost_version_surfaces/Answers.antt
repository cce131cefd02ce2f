-- No lost version surfaces.
use Rattle.protocol_laws.proofs.ViewLaws.{never_surfaces}
use Rattle.protocol_laws.proofs.laws.no_lost_version_surfaces.Goals as goal

pub returns : goal.returns
returns c = never_surfaces
