use Rattle.std.proofs.Common.{ap, nat_eq}
use Rattle.fab_io.specs.Calls.{NoneToFail}
use Rattle.fab_io.specs.Scripts.{LinkInMemory}
use Rattle.fab_host.specs.InMemory.{HoldingsInMemory, seen_of}
use Rattle.fab_host.proofs.Lending.{AllHere-here}
use Rattle.fab_host.proofs.mem_host.MemHostHost.keep_link.Goals as goal

pub returns-clause-holds : goal.returns-clause-holds
returns-clause-holds c = ap (λ f. let h : HoldingsInMemory = record { sources = (seen_of c.args.self.now).held.sources; disks = (seen_of c.args.self.now).held.disks; links = f; sessions = (seen_of c.args.self.now).held.sessions; clock = (seen_of c.args.self.now).held.clock } in h) c.put_ported.ensures

pub returns-clause-sound : goal.returns-clause-sound
returns-clause-sound c = λ has s.
    record { unlisted = s.unlisted; links = AllHere-here nat_eq (λ (x : LinkInMemory). NoneToFail x.calls) _ _ c.args.port c.args.link c.put_ported.ensures has s.links; sources = s.sources; disks = s.disks; sessions = s.sessions; clock = s.clock }
