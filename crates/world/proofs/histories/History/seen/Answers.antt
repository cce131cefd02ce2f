-- The operation is that of the call.
use Rattle.std.proofs.Common.{◌∙◌}
use Rattle.world.specs.Shown.{seen_kept}
use Rattle.world.proofs.HistoryLemmas.{call_changes, call_stays}
use Rattle.world.proofs.histories.History.seen.Goals as goal

pub returns-in-Some : goal.returns-in-Some
returns-in-Some c =
    call_changes c.args.self.now c.args.brick.0 c.args.seq c.in-Some.number (seen_kept c.args.stamp) c.deref_mut.result.now _
    c.in-Some.ensures c.deref_mut.ensures.value (c.note_seen.auto.operations ∙ c.deref_mut.ensures.len) c.note_seen.ensures

pub returns-in_default : goal.returns-in_default
returns-in_default c = call_stays c.args.self.now c.args.brick.0 c.args.seq (seen_kept c.args.stamp) c.in_default.ensures
