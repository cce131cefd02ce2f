-- The slot is none of those that versions name, so what is held under these stays.
use Rattle.std.proofs.Common.{rules, ◌≢◌}
use Rattle.brick_state.specs.Indexes.{state_of, stripes_of}
use Rattle.brick_state.proofs.UsedSlots.{each_slot}
use Rattle.brick_store.proofs.Adding.{same_others}
use Rattle.brick_store.proofs.additions.hold_new.Goals as goal

pub returns : goal.returns
returns c =
    let unnamed = (
    each_slot (λ other. other ≢ c.in_ok-slot.slot) (stripes_of c.args.index.now) c.in_ok-slot.ensures.unused
    ) in
    let same = (
    same_others c.args.blocks.now c.hold.new.self c.in_ok-slot.slot (state_of c.args.index.now) c.hold.ensures.others
    (each_slot (λ other. other ≢ c.in_ok-slot.slot) (stripes_of c.args.index.now) c.in_ok-slot.ensures.unused)
    ) in
    search (rules, unnamed, same)

pub returns-in_err-hold-clause-same : goal.returns-in_err-hold-clause-same
returns-in_err-hold-clause-same c = same_others c.args.blocks.now c.hold.new.self c.in_ok-slot.slot (state_of c.args.index.now) c.hold.ensures.others
    (each_slot (λ other. other ≢ c.in_ok-slot.slot) (stripes_of c.args.index.now) c.in_ok-slot.ensures.unused)
