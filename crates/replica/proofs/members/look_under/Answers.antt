-- What the store finds is the newest version below the bound.
use Rattle.std.proofs.Common.{map, Bor, Option, sym, ap, ◌∙◌}
use Rattle.std.specs.Option.{option_map}
use Rattle.fab_base.specs.declared.block_bytes.Bytes.{Bytes}
use Rattle.fab_base.specs.declared.stamps.Stamp.{Stamp}
use Rattle.version_log.specs.Versions.{version}
use Rattle.protocol.specs.Replicas.{newest_of, under}
use Rattle.replica.specs.Parts.{as_version}
use Rattle.replica.proofs.Logs.{option_map-option_map, newest_seen, below_seen}
use Rattle.replica.proofs.members.look_under.Goals as goal

pub returns-in-None : goal.returns-in-None
returns-in-None c =
    let log = c.args.part.now.log in
    option_map-option_map as_version (λ (v : Stamp × Bor Bytes). version v.0 v.1.now) c.newest.result ∙ ap (option_map as_version) c.newest.ensures
    ∙ sym (newest_seen log) ∙ ap (λ (bound : Option Stamp). newest_of (under bound (map as_version log))) (sym c.in-None.is)

pub returns-in-Some : goal.returns-in-Some
returns-in-Some c =
    let log = c.args.part.now.log in
    option_map-option_map as_version (λ (v : Stamp × Bor Bytes). version v.0 v.1.now) c.below.result ∙ ap (option_map as_version) c.below.ensures
    ∙ sym (below_seen c.in-Some.stamp log) ∙ ap (λ (bound : Option Stamp). newest_of (under bound (map as_version log))) (sym c.in-Some.is)
