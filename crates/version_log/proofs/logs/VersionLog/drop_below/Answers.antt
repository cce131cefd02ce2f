-- What is left rises as before.
use Rattle.std.proofs.Common.{not, List, sym, subst}
use Rattle.version_log.specs.declared.versions.Version.{Version}
use Rattle.version_log.specs.Versions.{IsRising, is_below}
use Rattle.version_log.proofs.RisingLogs.{IsRising-filter}
use Rattle.version_log.proofs.logs.VersionLog.drop_below.Goals as goal

pub invariant_of-self : goal.invariant_of-self
invariant_of-self g c = record {
  rising = subst (λ (log : List (Version g.row.B.Denot)). IsRising log) (sym c.drop_below.ensures)
      (IsRising-filter (λ v. not (is_below c.args.stamp v)) c.args.self.now.versions.items c.args.self.now.rising);
}
