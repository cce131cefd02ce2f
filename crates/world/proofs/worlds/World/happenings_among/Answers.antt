-- The operations that are kept are those of the world that the run leaves.
use Rattle.std.proofs.Common.{◌≡◌, sym, ap, subst, List, ◌∙◌}
use Rattle.std.specs.Prelude.{IfOk}
use Rattle.std.proofs.lemmas.Result.{IfOk-weaker}
use Rattle.reg_model.specs.declared.entries.Entry.{Entry}
use Rattle.protocol.specs.Happenings.{happenings_of}
use Rattle.world.specs.Runs.{Run, world_of}
use Rattle.world.specs.Standing.{run_of}
use Rattle.world.specs.Walks.{KeepsAll, AreEntriesOf, happenings_from}
use Rattle.world.specs.declared.histories.OperationRecord.{OperationRecord}
use Rattle.world.proofs.KeptOperations.{kept_happenings}
use Rattle.world.proofs.RunLaws.{begins_agree}
use Rattle.world.proofs.worlds.World.happenings_among.Goals as goal

pub returns : goal.returns
returns c =
    let keeps : KeepsAll c.as_slice.result.now (world_of (run_of c.self.inside)) =
    subst (λ (kept : List OperationRecord). KeepsAll kept (world_of (run_of c.self.inside))) (sym c.as_slice.ensures.value)
    (record {
      begun = c.self.invariant.shows.history.begun;
      each = c.self.invariant.shows.history.operations;
    })
    in
    let entries : AreEntriesOf c.args.entries.now (world_of (run_of c.self.inside)) =
    subst (λ (r : Run). AreEntriesOf c.args.entries.now (world_of r)) (sym c.self.view_is) c.requires
    in
    subst (λ (r : Run). IfOk c.happenings.result (λ happenings. happenings.items ≡ happenings_of
    (world_of r) c.args.group.0 c.args.stripe.0)) c.self.view_is
    (IfOk-weaker c.happenings.result _ _ (λ happenings told. told
    ∙ ap (λ (l : List Entry). happenings_from c.as_slice.result.now l) (c.of.ensures ∙ entries c.args.group.0 c.args.stripe.0)
    ∙ kept_happenings c.as_slice.result.now (world_of (run_of c.self.inside)) c.args.group.0 c.args.stripe.0 keeps
    (begins_agree (run_of c.self.inside))) c.happenings.ensures)
