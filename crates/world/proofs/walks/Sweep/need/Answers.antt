-- The set has one version more, or none.
use Rattle.std.proofs.Common.{List, ◌++◌, subst}
use Rattle.fab_base.specs.declared.stamps.Stamp.{Stamp}
use Rattle.world.specs.Walks.{Holds}
use Rattle.world.proofs.EntryMaps.{holds_more}
use Rattle.world.proofs.walks.Sweep.need.Goals as goal

pub returns-in_ok-insert-in-Some-clause-needed : goal.returns-in_ok-insert-in-Some-clause-needed
returns-in_ok-insert-in-Some-clause-needed c needed holds =
    subst (λ (stamps : List Stamp). Holds c.insert.new.self (stamps ++ needed)) c.in-Some.ensures
    (holds_more _ _ c.in-Some.stamp needed c.in_ok-insert-in-Some.ensures.updates holds)

pub returns-in-None-clause-needed : goal.returns-in-None-clause-needed
returns-in-None-clause-needed c needed holds =
    subst (λ (stamps : List Stamp). Holds c.args.self.now.needed (stamps ++ needed)) c.in-None.ensures holds
