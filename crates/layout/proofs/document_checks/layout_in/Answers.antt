-- What was read is within the limits, as all that the checks accept.
use Rattle.std.proofs.Common.{arith, rules}
use Rattle.std.proofs.lemmas.Grind.{common_steps}
use Rattle.toml.specs.View.{table_view}
use Rattle.fab_base.specs.Layouts.{Layout}
use Rattle.layout.specs.Checks.{layout_with}
use Rattle.layout.proofs.Accepted.{layout_is}
use Rattle.layout.proofs.document_checks.layout_in.Goals as goal

pub new-requires : goal.new-requires
new-requires c =
    let said : Layout =
    layout_with c.in_ok-block.field-0 c.in_ok-bricks.field-0 c.in_ok-records.records c.in_ok-port.field-0 c.in_ok-store.field-0
    c.in_ok-spares.spares.items c.in_ok-groups.groups.items c.in_ok-volumes.volumes.items in
    layout_is (table_view c.args.table.now) said (grind (arith, common_steps))

pub returns-in_err-block : goal.returns-in_err-block
returns-in_err-block c = search rules

pub returns-in_err-bricks : goal.returns-in_err-bricks
returns-in_err-bricks c = search rules

pub returns-in_err-records : goal.returns-in_err-records
returns-in_err-records c = search rules

pub returns-in_err-port : goal.returns-in_err-port
returns-in_err-port c = search rules

pub returns-in_err-store : goal.returns-in_err-store
returns-in_err-store c = search rules

pub returns-in_err-spares : goal.returns-in_err-spares
returns-in_err-spares c = search rules

pub returns-in_err-tables : goal.returns-in_err-tables
returns-in_err-tables c = search rules

pub returns-in_err-volume_tables : goal.returns-in_err-volume_tables
returns-in_err-volume_tables c = search rules

pub returns-in_err-groups : goal.returns-in_err-groups
returns-in_err-groups c = search rules

pub returns-in_err-volumes : goal.returns-in_err-volumes
returns-in_err-volumes c = search rules

pub returns-in_err-refuse_other : goal.returns-in_err-refuse_other
returns-in_err-refuse_other c = search rules
