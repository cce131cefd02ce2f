-- A number that was free has one entry more.
use Rattle.std.proofs.Common.{◌∙◌, ap}
use Rattle.std.specs.Option.{is_some}
use Rattle.std.specs.BTreeMap.{btree_map_len}
use Rattle.node.proofs.Tables.{one_more}
use Rattle.node.proofs.numbered.keep_open.Goals as goal

pub returns-clause-opened : goal.returns-clause-opened
returns-clause-opened g c =
    let m = c.args.values.now in
    let n = c.insert.new.self in
    let absent = ap is_some c.in_ok-insert.ensures.old ∙ c.requires.free in
    record {
      calls = c.in_ok-insert.ensures.updates.0;
      count = one_more c.in_ok-insert.field-0 (btree_map_len m) (btree_map_len n) absent c.in_ok-insert.ensures.len;
    }
