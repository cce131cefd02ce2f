-- What was opened is given back, from the last to the first.
use Rattle.std.proofs.Common.{sym, subst}
use Rattle.brick.specs.Hosts.{host_seen}
use Rattle.brick.specs.Openings.{GivesBack}
use Rattle.brick.proofs.Lending.{regains_told}
use Rattle.brick.proofs.openings.give_back.Goals as goal

pub returns-in-Linked-clause-gives : goal.returns-in-Linked-clause-gives
returns-in-Linked-clause-gives g c =
    let host = g.H.Host in
    let before = host_seen (host.faults c.args.host.now) (host.asked c.args.host.now) (host.holds c.args.host.now) in
    let link = c.keep_link in
    let disk = c.keep_disk-in-Linked in
    subst (λ equipment. GivesBack c.args.name.now c.args.port equipment before
    (host_seen (host.faults disk.new.self) (host.asked disk.new.self) (host.holds disk.new.self))) (sym c.in-Linked.is) (
      host_seen (host.faults link.new.self) (host.asked link.new.self) (host.holds link.new.self),
      record { asked = link.ensures.asked; faults = link.ensures.faults; regains = regains_told _ _ _ link.ensures.holds },
      record { asked = disk.ensures.asked; faults = disk.ensures.faults; regains = regains_told _ _ _ disk.ensures.holds },
    )

pub returns-in-Timed-clause-gives : goal.returns-in-Timed-clause-gives
returns-in-Timed-clause-gives g c =
    let host = g.H.Host in
    let before = host_seen (host.faults c.args.host.now) (host.asked c.args.host.now) (host.holds c.args.host.now) in
    let clock = c.keep_clock in
    let link = c.keep_link-in-Timed in
    let disk = c.keep_disk-in-Timed in
    subst (λ equipment. GivesBack c.args.name.now c.args.port equipment before
    (host_seen (host.faults disk.new.self) (host.asked disk.new.self) (host.holds disk.new.self))) (sym c.in-Timed.is) (
      host_seen (host.faults clock.new.self) (host.asked clock.new.self) (host.holds clock.new.self),
      record { asked = clock.ensures.asked; faults = clock.ensures.faults; regains = regains_told _ _ _ clock.ensures.holds },
      (
        host_seen (host.faults link.new.self) (host.asked link.new.self) (host.holds link.new.self),
        record { asked = link.ensures.asked; faults = link.ensures.faults; regains = regains_told _ _ _ link.ensures.holds },
        record { asked = disk.ensures.asked; faults = disk.ensures.faults; regains = regains_told _ _ _ disk.ensures.holds },
      ),
    )
