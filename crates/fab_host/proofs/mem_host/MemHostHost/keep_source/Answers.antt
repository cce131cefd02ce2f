use Rattle.std.proofs.Common.{ap}
use Rattle.std.specs.Str.{bytes_eq}
use Rattle.fab_io.specs.Calls.{NoneToFail}
use Rattle.fab_io.specs.Memory.{SourceInMemory}
use Rattle.fab_host.specs.InMemory.{HoldingsInMemory, seen_of}
use Rattle.fab_host.proofs.Lending.{AllHere-here}
use Rattle.fab_host.proofs.mem_host.MemHostHost.keep_source.Goals as goal

pub returns-clause-holds : goal.returns-clause-holds
returns-clause-holds c = ap (λ f. let h : HoldingsInMemory = record { sources = f; disks = (seen_of c.args.self.now).held.disks; links = (seen_of c.args.self.now).held.links; sessions = (seen_of c.args.self.now).held.sessions; clock = (seen_of c.args.self.now).held.clock } in h) c.put_named.ensures

pub returns-clause-sound : goal.returns-clause-sound
returns-clause-sound c = λ has s.
    record { unlisted = s.unlisted; sources = AllHere-here bytes_eq (λ (x : SourceInMemory). NoneToFail x.calls) _ _ c.args.name.now c.args.source c.put_named.ensures has s.sources; disks = s.disks; links = s.links; sessions = s.sessions; clock = s.clock }
