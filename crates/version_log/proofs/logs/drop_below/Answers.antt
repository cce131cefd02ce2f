-- What `retain` keeps is what passes the test.
use Rattle.std.proofs.Common.{not, rules, tests}
use Rattle.std.proofs.lemmas.Fn.{filter_same}
use Rattle.version_log.specs.declared.versions.Version.{Version}
use Rattle.version_log.specs.Versions.{is_below}
use Rattle.version_log.proofs.logs.drop_below.Goals as goal

pub returns : goal.returns
returns g c =
    filter_same _ (λ (v : Version g.row.B.Denot). not (is_below c.args.stamp v)) _
    (λ x b f' k. search (rules, tests)) c.args.versions.now.items c.retain.new.self.items c.retain.ensures.filtered
