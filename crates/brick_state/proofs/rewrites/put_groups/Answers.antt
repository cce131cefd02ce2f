-- The groups that are left give the records that are left.
use Rattle.std.proofs.Common.{◌+◌, ◌++◌, drop, sym, ap, ◌∙◌, append_assoc, arith}
use Rattle.std.proofs.lemmas.List.{append-nil, drop_all}
use Rattle.brick_state.specs.Rewrites.{group_records, groups_records}
use Rattle.brick_state.proofs.LiveRecords.{groups_step, groups_none}
use Rattle.brick_state.proofs.rewrites.put_groups.Goals as goal

pub loop-number-preserved : goal.loop-number-preserved
loop-number-preserved c =
    let k = c.loop-number.number in
    let groups = c.args.groups.now in
    let group = c.index-groups-number.result in
    let done = c.loop-number.records.items in
    let rest = groups_records (k + 1) (drop (k + 1) groups) in
    ap (λ xs. xs ++ rest) c.in_ok-put_group.ensures
    ∙ append_assoc done (group_records k group) rest
    ∙ ap (λ xs. done ++ xs) (sym (groups_step k (k + 1) groups group (omega arith) c.loop-number-test.true c.index-groups-number.is))
    ∙ c.loop-number.invariant

pub returns : goal.returns
returns c =
    let k = c.loop-number.number in
    let done = c.loop-number.records.items in
    sym (append-nil done) ∙ ap (λ xs. done ++ xs)
    (sym (ap (groups_records k) (drop_all k c.args.groups.now c.loop-number-test.false) ∙ groups_none k))
    ∙ c.loop-number.invariant
