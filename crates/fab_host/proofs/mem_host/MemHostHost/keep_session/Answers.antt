use Rattle.std.proofs.Common.{ap, nat_eq}
use Rattle.fab_host.specs.InMemory.{HoldingsInMemory, IsSoundSession, seen_of}
use Rattle.fab_host.proofs.Lending.{AllHere-here}
use Rattle.fab_host.proofs.mem_host.MemHostHost.keep_session.Goals as goal

pub returns-clause-holds : goal.returns-clause-holds
returns-clause-holds c = ap (λ f. let h : HoldingsInMemory = record { sources = (seen_of c.args.self.now).held.sources; disks = (seen_of c.args.self.now).held.disks; links = (seen_of c.args.self.now).held.links; sessions = f; clock = (seen_of c.args.self.now).held.clock } in h) c.put_ported.ensures

pub returns-clause-sound : goal.returns-clause-sound
returns-clause-sound c = λ source sink s.
    record { unlisted = s.unlisted; sessions = AllHere-here nat_eq IsSoundSession _ _ c.args.port (record { source = c.args.source; sink = c.args.sink }) c.put_ported.ensures (source, sink) s.sessions; sources = s.sources; disks = s.disks; links = s.links; clock = s.clock }
