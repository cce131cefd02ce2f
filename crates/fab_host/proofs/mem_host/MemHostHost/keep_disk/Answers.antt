use Rattle.std.proofs.Common.{ap}
use Rattle.std.specs.Str.{bytes_eq}
use Rattle.fab_disk.specs.MemDisk.{IsSound}
use Rattle.fab_host.specs.InMemory.{HoldingsInMemory, seen_of}
use Rattle.fab_host.proofs.Lending.{AllHere-here}
use Rattle.fab_host.proofs.mem_host.MemHostHost.keep_disk.Goals as goal

pub returns-clause-holds : goal.returns-clause-holds
returns-clause-holds c = ap (λ f. let h : HoldingsInMemory = record { sources = (seen_of c.args.self.now).held.sources; disks = f; links = (seen_of c.args.self.now).held.links; sessions = (seen_of c.args.self.now).held.sessions; clock = (seen_of c.args.self.now).held.clock } in h) c.put_named.ensures

pub returns-clause-sound : goal.returns-clause-sound
returns-clause-sound c = λ has s.
    record { unlisted = s.unlisted; disks = AllHere-here bytes_eq IsSound _ _ c.args.name.now c.args.disk c.put_named.ensures has s.disks; sources = s.sources; links = s.links; sessions = s.sessions; clock = s.clock }
