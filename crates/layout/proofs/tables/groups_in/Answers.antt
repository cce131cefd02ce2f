-- Each table that is read is one of the list's.
use Rattle.std.proofs.Common.{◌≡◌, ◌+◌, get_or, drop, map, Ok, sym, ap, ◌∙◌, rules}
use Rattle.toml.specs.View.{table_view}
use Rattle.layout.specs.Checks.{group_in, groups_in}
use Rattle.layout.proofs.Readings.{after_groups, group_read}
use Rattle.layout.proofs.tables.groups_in.Goals as goal

pub loop-table-preserved : goal.loop-table-preserved
loop-table-preserved c =
    let tables = c.args.tables.now in
    let i = c.loop-table.table-index in
    let table = c.table-item.result in
    let read : group_in c.args.block c.args.bricks (table_view (get_or tables i table).now) ≡ Ok c.in_ok-group_in.field-0 =
    ap (λ table. group_in c.args.block c.args.bricks (table_view table.now)) (sym c.table-item.is) ∙ c.in_ok-group_in.ensures.ok in
    c.loop-table.invariant
    ∙ group_read (λ table. table_view table.now) c.args.block c.args.bricks tables i table c.loop-table.groups.items c.in_ok-group_in.field-0 (search rules) read
    ∙ ap (λ groups. after_groups groups (groups_in c.args.block c.args.bricks (map (λ table. table_view table.now) (drop (i + 1) tables))))
    (sym c.in_ok-push.ensures.items)
