-- The operation of the number changed, where there is one.
use Rattle.world.specs.Shown.{seen_kept}
use Rattle.world.proofs.HistoryLemmas.{changes_none, changes_past, changes_at}
use Rattle.world.proofs.histories.note_seen.Goals as goal

pub returns-then-number-eq0 : goal.returns-then-number-eq0
returns-then-number-eq0 c = changes_none c.args.operations.now c.args.number (seen_kept c.args.stamp) c.if-number-eq0.true

pub returns-then-place-operations : goal.returns-then-place-operations
returns-then-place-operations c =
    changes_past c.args.operations.now c.args.number (seen_kept c.args.stamp) c.if-number-eq0.false c.if-place-operations.true

pub returns : goal.returns
returns c = changes_at c.args.operations.now c.args.number _ (seen_kept c.args.stamp) c.if-number-eq0.false c.if-place-operations.false
