-- The list is changed, and then the index.
use Rattle.std.specs.Option.{option_map}
use Rattle.std.proofs.lemmas.Result.{err_from_is_err_and}
use Rattle.brick_state.specs.Indexes.{state_of, limits_of}
use Rattle.brick_store.specs.Steps.{changed, put_in}
use Rattle.brick_store.proofs.StateChanges.{unbegun, as_index}
use Rattle.brick_store.proofs.commits.commit.Goals as goal

pub returns-in_err-reserve-clause-change : goal.returns-in_err-reserve-clause-change
returns-in_err-reserve-clause-change g c =
    let st = state_of c.args.index.now in
    let p = err_from_is_err_and c.from_residual.result c.from_residual.ensures.1 in
    rw (p.1, p.2) (unbegun g.D.Disk g.met.D.Disk.only_now _ (option_map (λ b. put_in b.0 b.1.now) c.args.slot_block) st
    (changed (limits_of c.args.index.now) c.args.item.now st) c.args.frames.now)

pub returns-in_err-append_record-clause-change : goal.returns-in_err-append_record-clause-change
returns-in_err-append_record-clause-change g c =
    let p = err_from_is_err_and c.from_residual-in_err-append_record.result c.from_residual-in_err-append_record.ensures.1 in
    rw (p.1, p.2) (as_index g.D.Disk _ _ c.args.item.now (limits_of c.args.index.now) (limits_of c.reserve.new.self) (state_of c.args.index.now)
    (state_of c.reserve.new.self) c.args.frames.now c.append_record.new.frames.disk _ c.reserve.ensures.limits c.reserve.ensures.same
    c.in_err-append_record.ensures.change)

pub returns-clause-change : goal.returns-clause-change
returns-clause-change g c =
    as_index g.D.Disk _ _ c.args.item.now (limits_of c.args.index.now) (limits_of c.reserve.new.self) (state_of c.args.index.now)
    (state_of c.reserve.new.self) c.args.frames.now c.append_record.new.frames.disk _ c.reserve.ensures.limits c.reserve.ensures.same
    c.in_ok-append_record.ensures.change
