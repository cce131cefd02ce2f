-- A version of the stamp is held where its block is found.
use Rattle.std.proofs.Common.{◌≡◌, Option, Some, None, Bor, refl, sym, ap, ◌∙◌}
use Rattle.std.specs.List.{find}
use Rattle.std.specs.Option.{is_some, option_copied}
use Rattle.fab_base.specs.declared.block_bytes.Bytes.{Bytes}
use Rattle.version_log.specs.Versions.{block_of, has_stamp}
use Rattle.version_log.proofs.RisingLogs.{is_some-option_map}
use Rattle.replica.proofs.Logs.{held_seen}
use Rattle.replica.proofs.members.is_held.Goals as goal

some_copied : (found : Option (Bor Bytes)) → is_some found ≡ is_some (option_copied found)
some_copied None = refl
some_copied (Some block) = refl

pub returns : goal.returns
returns c =
    let log = c.args.part.now.log in
    c.is_some.ensures ∙ some_copied c.at.result ∙ ap is_some c.at.ensures ∙ is_some-option_map block_of (find (has_stamp c.args.stamp) log)
    ∙ sym (held_seen c.args.stamp log)
