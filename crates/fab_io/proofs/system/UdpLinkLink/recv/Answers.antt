use Rattle.std.proofs.Common.{rules}
use Rattle.fab_io.proofs.Given.{IsGiven-front}
use Rattle.fab_io.proofs.system.UdpLinkLink.recv.Goals as goal

pub returns-in-Ok-clause-takes : goal.returns-in-Ok-clause-takes
returns-in-Ok-clause-takes c = IsGiven-front _ _ _ (search rules)
