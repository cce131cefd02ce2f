-- Each table that is read is one of the list's.
use Rattle.std.proofs.Common.{◌≡◌, List, ◌++◌, get_or, Ok, sym, ap, subst, ◌∙◌, rules, arith}
use Rattle.std.proofs.lemmas.Result.{err_from_is_err_and}
use Rattle.toml.specs.View.{table_view}
use Rattle.fab_base.specs.Layouts.{Volume}
use Rattle.layout.specs.Checks.{volume_in}
use Rattle.layout.specs.Runs.{HasRuns}
use Rattle.layout.specs.Segments.{segments_of}
use Rattle.layout.proofs.Readings.{volume_read, volume_refused, volumes_read, passed_on, not_ok, runs_more}
use Rattle.layout.proofs.TakenRuns.{no_runs}
use Rattle.layout.proofs.volume_tables.volumes_in.Goals as goal

pub loop-table-init : goal.loop-table-init
loop-table-init c =
    record {
      runs = subst (λ (volumes : List Volume). HasRuns c.new-ends.result (segments_of volumes)) (sym c.new-volumes.ensures.items)
          (no_runs c.new-ends.result (search rules));
      read = search rules;
    }

pub loop-table-preserved : goal.loop-table-preserved
loop-table-preserved c =
    let tables = c.args.tables.now in
    let i = c.loop-table.table-index in
    let table = c.table-item.result in
    let before = c.loop-table.volumes.items in
    let volume = c.in_ok-volume.volume in
    let read : volume_in c.args.groups.now before (table_view (get_or tables i table).now) ≡ Ok volume =
    ap (λ table. volume_in c.args.groups.now before (table_view table.now)) (sym c.table-item.is)
    ∙ ap (λ (volumes : List Volume). volume_in c.args.groups.now volumes (table_view table.now)) (sym c.as_slice.ensures.value)
    ∙ c.in_ok-volume.ensures.ok in
    record {
      runs = runs_more _ before volume _ c.in_ok-push.ensures.items
          (subst (λ (volumes : List Volume). HasRuns c.volume_in.new.ends (segments_of volumes ++ volume.segments)) c.as_slice.ensures.value
          c.in_ok-volume.ensures.runs);
      read = c.loop-table.invariant.read
          ∙ volume_read (λ table. table_view table.now) c.args.groups.now before tables i table volume _ c.in_ok-push.ensures.items (search rules) read;
    }

pub returns-in_err-volume-clause-ok : goal.returns-in_err-volume-clause-ok
returns-in_err-volume-clause-ok c =
    let q = err_from_is_err_and c.from_residual.result c.from_residual.ensures.1 in
    not_ok _ c.from_residual.result q.0 q.1

pub returns-in_err-volume-clause-err : goal.returns-in_err-volume-clause-err
returns-in_err-volume-clause-err c =
    let tables = c.args.tables.now in
    let i = c.loop-table.table-index in
    let table = c.table-item.result in
    let before = c.loop-table.volumes.items in
    let fault = c.in_err-volume.field-0.0 in
    let q = err_from_is_err_and c.from_residual.result c.from_residual.ensures.1 in
    passed_on _ c.from_residual.result fault q.0 q.1 q.2
    (λ known. c.loop-table.invariant.read
    ∙ volume_refused (λ table. table_view table.now) c.args.groups.now before tables i table fault (search rules)
    (ap (λ table. volume_in c.args.groups.now before (table_view table.now)) (sym c.table-item.is)
    ∙ ap (λ (volumes : List Volume). volume_in c.args.groups.now volumes (table_view table.now)) (sym c.as_slice.ensures.value)
    ∙ c.in_err-volume.ensures.err known))

pub returns-in_err-push-clause-ok : goal.returns-in_err-push-clause-ok
returns-in_err-push-clause-ok c =
    let q = err_from_is_err_and c.from_residual-in_err-push.result c.from_residual-in_err-push.ensures.1 in
    not_ok _ c.from_residual-in_err-push.result q.0 q.1

pub returns-clause-ok : goal.returns-clause-ok
returns-clause-ok c =
    c.loop-table.invariant.read
    ∙ volumes_read (λ table. table_view table.now) c.args.groups.now c.loop-table.volumes.items c.args.tables.now c.loop-table.table-index (omega arith)

pub returns-clause-err : goal.returns-clause-err
returns-clause-err c = tt
