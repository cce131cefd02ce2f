-- What the store finds is what the machine looks up.
use Rattle.std.proofs.Common.{Some, None, map, Bor, sym, ap, ◌∙◌}
use Rattle.std.specs.Option.{option_map}
use Rattle.fab_base.specs.declared.block_bytes.Bytes.{Bytes}
use Rattle.fab_base.specs.declared.stamps.Stamp.{Stamp}
use Rattle.messages.specs.declared.requests.Look.{Look}
use Rattle.version_log.specs.Versions.{version}
use Rattle.protocol.specs.Replicas.{looked_up}
use Rattle.replica.specs.Parts.{as_version}
use Rattle.replica.proofs.Logs.{option_map-option_map, below_seen, found_at}
use Rattle.replica.proofs.members.look_up.Goals as goal

pub returns-in-Below : goal.returns-in-Below
returns-in-Below c =
    let log = c.args.part.now.log in
    option_map-option_map as_version (λ (v : Stamp × Bor Bytes). version v.0 v.1.now) c.below.result ∙ ap (option_map as_version) c.below.ensures
    ∙ sym (below_seen c.in-Below.bound log)
    ∙ ap (λ (look : Look). looked_up look (map as_version log)) (sym c.in-Below.is)

pub returns-in-Some : goal.returns-in-Some
returns-in-Some c =
    let log = c.args.part.now.log in
    found_at c.in-At.stamp log (Some c.in-Some.block.now) c.requires c.in-Some.ensures ∙ ap (λ (look : Look). looked_up look (map as_version log))
    (sym c.in-At.is)

pub returns-in-None : goal.returns-in-None
returns-in-None c =
    let log = c.args.part.now.log in
    found_at c.in-At.stamp log None c.requires c.in-None.ensures ∙ ap (λ (look : Look). looked_up look (map as_version log)) (sym c.in-At.is)
