-- There is one exactly where one is found.
use Rattle.std.proofs.Common.{ap, sym, ◌∙◌}
use Rattle.std.specs.List.{find}
use Rattle.std.specs.Option.{is_some}
use Rattle.version_log.specs.Versions.{has_stamp, block_of}
use Rattle.version_log.proofs.RisingLogs.{is_some-option_map, any_found}
use Rattle.version_log.proofs.logs.VersionLog.has.Goals as goal

pub returns-clause-any : goal.returns-clause-any
returns-clause-any g c =
    c.is_some.ensures ∙ sym (is_some-option_map _ c.at.result) ∙ ap is_some c.at.ensures
    ∙ is_some-option_map block_of (find (has_stamp c.args.stamp) c.args.self.now.versions.items)
    ∙ any_found (has_stamp c.args.stamp) c.args.self.now.versions.items
