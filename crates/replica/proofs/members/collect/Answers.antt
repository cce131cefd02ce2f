-- Versions are dropped where one of the stamp is held, and one is found below it.
use Rattle.std.proofs.Common.{◌≡◌, Bool, Option, List, Bor, sym, ap, ◌∙◌}
use Rattle.std.specs.Option.{is_some, option_map}
use Rattle.fab_base.specs.declared.block_bytes.Bytes.{Bytes}
use Rattle.fab_base.specs.declared.stamps.Stamp.{Stamp}
use Rattle.version_log.specs.Versions.{Version as Kept, version, below}
use Rattle.version_log.proofs.RisingLogs.{is_some-option_map}
use Rattle.replica.specs.Parts.{part_seen}
use Rattle.replica.proofs.Dropping.{collected_other, collected_lowest, below_some, below_none}
use Rattle.replica.proofs.members.collect.Goals as goal
use Rattle.replica.proofs.members.collect.Goals.{else-is_held-via-then-is_held+else-is_some, else-is_held-via-else-is_held}

abbrev kept : Stamp × Bor Bytes → Kept
kept found = version found.0 found.1.now

-- a version is found below a stamp where the log has one
found_is : (found : Option (Stamp × Bor Bytes)) (t : Stamp) (log : List Kept) (some : Bool) → some ≡ is_some found
    → option_map kept found ≡ below t log → is_some (below t log) ≡ some
found_is found t log some tested is = sym (tested ∙ sym (is_some-option_map kept found) ∙ ap is_some is)

pub returns-then-is_some-clause-change : goal.returns-then-is_some-clause-change
returns-then-is_some-clause-change c = λ size shares start. (
  sym c.is_held.ensures ∙ c.if-is_held.true,
  below_some c.args.stamp c.args.part.now.log
      (found_is c.below.result c.args.stamp c.args.part.now.log c.is_some.result c.is_some.ensures c.below.ensures ∙ c.if-is_some.true),
)

pub returns-else-is_held-clause-plan : goal.returns-else-is_held-clause-plan
returns-else-is_held-clause-plan c = λ full start begun.
    elim c.else-is_held.branch [
      | else-is_held-via-then-is_held+else-is_some w ↦
          collected_lowest (part_seen c.args.part.now start) c.args.stamp begun (below_none c.args.stamp c.args.part.now.log
          (found_is w.below.result c.args.stamp c.args.part.now.log w.is_some.result w.is_some.ensures w.below.ensures ∙ w.if-is_some.false))
      | else-is_held-via-else-is_held w ↦ collected_other (part_seen c.args.part.now start) c.args.stamp (sym c.is_held.ensures ∙ w.if-is_held.false)
    ]
