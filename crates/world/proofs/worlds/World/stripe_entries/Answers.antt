-- The operations that are kept are those of the world that the run leaves.
use Rattle.std.proofs.Common.{sym, subst, List, ◌∙◌}
use Rattle.std.specs.Prelude.{IfOk}
use Rattle.std.proofs.lemmas.Result.{IfOk-weaker}
use Rattle.world.specs.Runs.{Run, world_of}
use Rattle.world.specs.Standing.{run_of}
use Rattle.world.specs.Walks.{KeepsAll, AreEntriesOf}
use Rattle.world.specs.declared.histories.OperationRecord.{OperationRecord}
use Rattle.world.proofs.KeptOperations.{kept_entries}
use Rattle.world.proofs.worlds.World.stripe_entries.Goals as goal

pub returns : goal.returns
returns c =
    let keeps : KeepsAll c.as_slice.result.now (world_of (run_of c.self.inside)) =
    subst (λ (kept : List OperationRecord). KeepsAll kept (world_of (run_of c.self.inside))) (sym c.as_slice.ensures.value)
    (record {
      begun = c.self.invariant.shows.history.begun;
      each = c.self.invariant.shows.history.operations;
    })
    in
    subst (λ (r : Run). IfOk c.gather.result (λ entries. AreEntriesOf entries (world_of r))) c.self.view_is
    (IfOk-weaker c.gather.result _ _
    (λ entries gathered g s. gathered g s ∙ kept_entries c.as_slice.result.now (world_of (run_of c.self.inside)) g s keeps) c.gather.ensures)
