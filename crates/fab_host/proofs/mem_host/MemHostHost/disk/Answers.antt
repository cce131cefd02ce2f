use Rattle.std.proofs.Common.{ap, sym, subst}
use Rattle.std.specs.Str.{bytes_eq}
use Rattle.fab_io.specs.Calls.{NoneToFail}
use Rattle.fab_disk.specs.MemDisk.{IsSound}
use Rattle.fab_host.specs.Held.{AllHere}
use Rattle.fab_host.specs.InMemory.{HoldingsInMemory, seen_of}
use Rattle.fab_host.proofs.Lending.{AllHere-lent, kept_lent, kept_refused}
use Rattle.fab_host.specs.Asking.{Asks}
use Rattle.fab_host.specs.declared.hosts.Asked.TheVariants.{Disk}
use Rattle.fab_host.proofs.mem_host.MemHostHost.disk.Goals as goal

pub returns-in-Some-clause-lends : goal.returns-in-Some-clause-lends
returns-in-Some-clause-lends c =
    λ e. (c.in-Some.ensures.0, ap (λ f. let h : HoldingsInMemory = record { sources = (seen_of c.args.self.now).held.sources; disks = f; links = (seen_of c.args.self.now).held.links; sessions = (seen_of c.args.self.now).held.sessions; clock = (seen_of c.args.self.now).held.clock } in h) c.in-Some.ensures.1)

pub returns-in-Some-clause-gives : goal.returns-in-Some-clause-gives
returns-in-Some-clause-gives c = λ s. s.disks c.args.name.now c.in-Some.disk c.in-Some.ensures.0

pub returns-in-Some-clause-kept : goal.returns-in-Some-clause-kept
returns-in-Some-clause-kept c =
    kept_lent c.count.ensures.kept.later
    (λ s. record { unlisted = c.count.ensures.kept.stays s.unlisted; disks = AllHere-lent bytes_eq IsSound _ _ c.args.name.now c.in-Some.ensures.1 s.disks; sources = s.sources; links = s.links; sessions = s.sessions; clock = s.clock }) (λ e. cc)

pub returns-in-None-clause-lends : goal.returns-in-None-clause-lends
returns-in-None-clause-lends c = λ e. ap (λ f. let h : HoldingsInMemory = record { sources = (seen_of c.args.self.now).held.sources; disks = f; links = (seen_of c.args.self.now).held.links; sessions = (seen_of c.args.self.now).held.sessions; clock = (seen_of c.args.self.now).held.clock } in h) c.in-None.ensures.1

pub returns-in-None-clause-kept : goal.returns-in-None-clause-kept
returns-in-None-clause-kept c =
    kept_refused c.count.ensures.kept.later c.refuse.ensures.later c.refuse.ensures.rose
    (λ s. record {
      unlisted = subst NoneToFail (sym c.refuse.ensures.counted) (c.count.ensures.kept.stays s.unlisted);
      disks = subst (AllHere IsSound) (sym c.in-None.ensures.1) s.disks;
      sources = s.sources;
      links = s.links;
      sessions = s.sessions;
      clock = s.clock;
    })
    (λ e. c.in-None.ensures.0, λ t. cc)

pub returns-then-fresh-clause-asked : goal.returns-then-fresh-clause-asked
returns-then-fresh-clause-asked c = subst (λ b. Asks c.args.self.now.asked.items c.make_disk.new.self.asked.items (Disk c.args.name.now b) c.make_disk.result) (sym c.if-fresh.true) c.make_disk.ensures.asked

pub returns-then-fresh-clause-makes : goal.returns-then-fresh-clause-makes
returns-then-fresh-clause-makes c = λ e. c.make_disk.ensures.makes

pub returns-then-fresh-clause-empty : goal.returns-then-fresh-clause-empty
returns-then-fresh-clause-empty c = λ e tells. c.make_disk.ensures.empty

pub returns-then-fresh-clause-gives : goal.returns-then-fresh-clause-gives
returns-then-fresh-clause-gives c = λ s. c.make_disk.ensures.gives

pub returns-then-fresh-clause-kept : goal.returns-then-fresh-clause-kept
returns-then-fresh-clause-kept c =
    let k = c.make_disk.ensures.kept in
    record { later = k.later; rose = k.rose; stays = k.stays; only = λ s f. (λ e. cc, λ e. k.only s f) }
