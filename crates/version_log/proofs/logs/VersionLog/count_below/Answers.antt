-- The versions below the bound stand in front, so bisection finds where they end.
use Rattle.std.proofs.Common.{◌≡◌, true, false, List, sym, subst, rules, tests}
use Rattle.std.specs.List.Sorted.{IsPartitionedBy, IsPartitionPoint}
use Rattle.std.proofs.lemmas.List.Sorted.{IsPartitionPoint-from_clause}
use Rattle.version_log.specs.declared.versions.Version.{Version}
use Rattle.version_log.specs.Versions.{is_below}
use Rattle.version_log.proofs.RisingLogs.{below_parted}
use Rattle.version_log.proofs.logs.VersionLog.count_below.Goals as goal

pub returns-clause-point : goal.returns-clause-point
returns-clause-point g c =
    let below = λ (v : Version g.row.B.Denot). is_below c.args.bound v in
    let parted = subst (λ (log : List (Version g.row.B.Denot)). IsPartitionedBy below log) (sym c.as_slice.ensures.value)
    (below_parted c.args.bound c.args.self.now.versions.items c.args.self.now.rising) in
    subst (λ (log : List (Version g.row.B.Denot)). IsPartitionPoint (λ v. below v ≡ true) (λ v. below v ≡ false) log c.partition_point.result)
    c.as_slice.ensures.value
    (IsPartitionPoint-from_clause below c.as_slice.result.now c.partition_point.result c.partition_point.ensures.partitioned parted
    (λ a r f k. search (rules, tests)))
