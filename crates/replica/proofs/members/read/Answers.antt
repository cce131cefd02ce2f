-- The newest version of the log.
use Rattle.std.proofs.Common.{◌≡◌, Option, map, Bor, sym, ap, ◌∙◌}
use Rattle.std.specs.Option.{option_map}
use Rattle.fab_base.specs.declared.block_bytes.Bytes.{Bytes}
use Rattle.fab_base.specs.declared.stamps.Stamp.{Stamp}
use Rattle.messages.specs.declared.requests.Version.{Version}
use Rattle.messages.specs.declared.replies.Reply.TheVariants.{Found}
use Rattle.version_log.specs.Versions.{version}
use Rattle.protocol.specs.Replicas.{newest_of, stays, told_version}
use Rattle.replica.specs.Parts.{as_version, part_seen}
use Rattle.replica.proofs.Logs.{option_map-option_map, newest_seen}
use Rattle.replica.proofs.members.read.Goals as goal

pub returns-clause-plan : goal.returns-clause-plan
returns-clause-plan c = λ full start.
    let seen = c.args.part.now in
    let newest : c.in_ok-newest.newest ≡ told_version c.args.wanted (newest_of (map as_version seen.log))
    = c.in_ok-newest.ensures
    ∙ ap (told_version c.args.wanted) (option_map-option_map as_version (λ (v : Stamp × Bor Bytes). version v.0 v.1.now) c.newest.result
    ∙ ap (option_map as_version) c.newest.ensures ∙ sym (newest_seen seen.log)) in
    ap (λ (order : Stamp). stays (part_seen seen start) (Found order c.in_ok-newest.newest)) c.order.ensures
    ∙ ap (λ (v : Option Version). stays (part_seen seen start) (Found seen.order v)) newest
