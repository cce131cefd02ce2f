-- The new version is above the newest, so above all.
use Rattle.std.proofs.Common.{List, sym, subst}
use Rattle.version_log.specs.declared.versions.Version.{Version}
use Rattle.version_log.specs.Versions.{IsRising, version}
use Rattle.version_log.proofs.RisingLogs.{IsRising-push}
use Rattle.version_log.proofs.logs.VersionLog.put.Goals as goal

pub invariant_of-self : goal.invariant_of-self
invariant_of-self g c = record {
  rising = subst (λ (log : List (Version g.row.B.Denot)). IsRising log) (sym c.push_reserved.ensures.items)
      (IsRising-push c.args.self.now.versions.items (version c.args.stamp c.args.block) c.args.self.now.rising c.requires.above);
}
