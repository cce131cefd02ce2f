use Rattle.std.proofs.Common.{ap}
use Rattle.fab_host.specs.InMemory.{HostInMemory, seen_of}
use Rattle.fab_host.proofs.Lending.{OnOk-with, OnErr-with}
use Rattle.fab_host.proofs.mem_host.MemHost.add_link.Goals as goal

pub returns-clause-ok : goal.returns-clause-ok
returns-clause-ok c = OnOk-with c.add_ported.result (ap (λ f. let h : HostInMemory = record { held = record { sources = (seen_of c.args.self.now).held.sources; disks = (seen_of c.args.self.now).held.disks; links = f; sessions = (seen_of c.args.self.now).held.sessions; clock = (seen_of c.args.self.now).held.clock }; asked = c.args.self.now.asked.items; calls = c.args.self.now.calls } in h)) c.add_ported.ensures.ok

pub returns-clause-err : goal.returns-clause-err
returns-clause-err c = OnErr-with c.add_ported.result (ap (λ f. let h : HostInMemory = record { held = record { sources = (seen_of c.args.self.now).held.sources; disks = (seen_of c.args.self.now).held.disks; links = f; sessions = (seen_of c.args.self.now).held.sessions; clock = (seen_of c.args.self.now).held.clock }; asked = c.args.self.now.asked.items; calls = c.args.self.now.calls } in h)) c.add_ported.ensures.err
