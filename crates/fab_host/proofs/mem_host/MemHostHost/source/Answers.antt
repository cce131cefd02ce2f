use Rattle.std.proofs.Common.{ap, sym, subst}
use Rattle.std.specs.Str.{bytes_eq}
use Rattle.fab_io.specs.Calls.{NoneToFail}
use Rattle.fab_io.specs.Memory.{SourceInMemory}
use Rattle.fab_host.specs.Held.{AllHere}
use Rattle.fab_host.specs.InMemory.{HoldingsInMemory, seen_of}
use Rattle.fab_host.proofs.Lending.{AllHere-lent, kept_lent, kept_refused}
use Rattle.fab_host.proofs.mem_host.MemHostHost.source.Goals as goal

pub returns-in-Some-clause-lends : goal.returns-in-Some-clause-lends
returns-in-Some-clause-lends c =
    (c.in-Some.ensures.0, ap (λ f. let h : HoldingsInMemory = record { sources = f; disks = (seen_of c.args.self.now).held.disks; links = (seen_of c.args.self.now).held.links; sessions = (seen_of c.args.self.now).held.sessions; clock = (seen_of c.args.self.now).held.clock } in h) c.in-Some.ensures.1)

pub returns-in-Some-clause-gives : goal.returns-in-Some-clause-gives
returns-in-Some-clause-gives c = λ s. s.sources c.args.name.now c.in-Some.source c.in-Some.ensures.0

pub returns-in-Some-clause-kept : goal.returns-in-Some-clause-kept
returns-in-Some-clause-kept c =
    kept_lent c.count.ensures.kept.later
    (λ s. record { unlisted = c.count.ensures.kept.stays s.unlisted; sources = AllHere-lent bytes_eq (λ (x : SourceInMemory). NoneToFail x.calls) _ _ c.args.name.now c.in-Some.ensures.1 s.sources; disks = s.disks; links = s.links; sessions = s.sessions; clock = s.clock }) (λ e. cc)

pub returns-in-None-clause-lends : goal.returns-in-None-clause-lends
returns-in-None-clause-lends c = ap (λ f. let h : HoldingsInMemory = record { sources = f; disks = (seen_of c.args.self.now).held.disks; links = (seen_of c.args.self.now).held.links; sessions = (seen_of c.args.self.now).held.sessions; clock = (seen_of c.args.self.now).held.clock } in h) c.in-None.ensures.1

pub returns-in-None-clause-kept : goal.returns-in-None-clause-kept
returns-in-None-clause-kept c =
    kept_refused c.count.ensures.kept.later c.refuse.ensures.later c.refuse.ensures.rose
    (λ s. record {
      unlisted = subst NoneToFail (sym c.refuse.ensures.counted) (c.count.ensures.kept.stays s.unlisted);
      sources = subst (AllHere (λ (x : SourceInMemory). NoneToFail x.calls)) (sym c.in-None.ensures.1) s.sources;
      disks = s.disks;
      links = s.links;
      sessions = s.sessions;
      clock = s.clock;
    })
    c.in-None.ensures.0
