-- A version is made of the newest one here, where that is its base.
use Rattle.std.proofs.Common.{◌≡◌, Option, Some, None, length, map, eqb, sym, subst, ◌∙◌}
use Rattle.messages.specs.declared.requests.Version.{Version}
use Rattle.version_log.specs.Versions.{version}
use Rattle.protocol.specs.Replicas.{newest_of}
use Rattle.replica.specs.Parts.{as_version, part_seen}
use Rattle.replica.specs.Plans.{IsStorable}
use Rattle.replica.proofs.Modifying.{newest_shown, modified_settled, modified_none, modified_behind, modified_made}
use Rattle.replica.proofs.members.modify.Goals as goal
use Rattle.replica.proofs.members.modify.Goals.{In-Some-newest}

-- the version that is found is the newest one
found_so : (c : In-Some-newest) → newest_of (map as_version c.args.part.now.log)
    ≡ Some (as_version (version c.in-Some-newest.newest c.in-Some-newest.block.now))
found_so c = newest_shown c.args.part.now.log (Some (version c.in-Some-newest.newest c.in-Some-newest.block.now)) c.in-Some-newest.ensures

pub returns-in-Some-clause-plan : goal.returns-in-Some-clause-plan
returns-in-Some-clause-plan c full start =
    modified_settled c.args.member full (part_seen c.args.part.now start) c.args.stamp c.args.base c.args.data_block c.args.delta.now _
    (c.in-Some.ensures.value start)

pub returns-in_default-newest-clause-plan : goal.returns-in_default-newest-clause-plan
returns-in_default-newest-clause-plan c full start =
    modified_none c.args.member full (part_seen c.args.part.now start) c.args.stamp c.args.base c.args.data_block c.args.delta.now
    (c.in_default.ensures.value start) (newest_shown c.args.part.now.log None c.in_default-newest.ensures)

pub returns-then-not-is_same-clause-plan : goal.returns-then-not-is_same-clause-plan
returns-then-not-is_same-clause-plan c full start =
    modified_behind c.args.member full (part_seen c.args.part.now start) c.args.stamp c.args.base c.args.data_block c.args.delta.now
    (c.in_default.ensures.value start) _ (found_so (goal.at.returns-then-not-is_same-clause-plan c).In-Some-newest)
    (sym c.is_same.ensures ∙ c.if-not-is_same.true)

pub returns-clause-plan : goal.returns-clause-plan
returns-clause-plan c full start =
    modified_made c.args.member full (part_seen c.args.part.now start) c.args.stamp c.args.base c.args.data_block c.args.delta.now
    (c.in_default.ensures.value start) _ (found_so (goal.at.returns-clause-plan c).In-Some-newest) (sym c.is_same.ensures ∙ c.if-not-is_same.false)
    c.in_ok-block.block c.in_ok-block.ensures.block

pub returns-clause-change : goal.returns-clause-change
returns-clause-change c start = (
  c.in_default.ensures.above,
  subst (λ (found : Option Version). IsStorable c.args.member.block (eqb (length c.args.delta.now) 0) found c.in_ok-block.block)
      (sym (found_so (goal.at.returns-clause-change c).In-Some-newest)) (c.in_ok-block.ensures.storable _),
)
