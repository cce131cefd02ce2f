-- The blocks in the slots so far are held.
use Rattle.std.proofs.Common.{refl, ◌∙◌, arith}
use Rattle.fab_disk.proofs.Moments.{kept_both}
use Rattle.fab_disk.proofs.Plans.{keeps_both}
use Rattle.frame_store.proofs.Openings.{untouched_both}
use Rattle.brick_state.specs.Indexes.{state_of, limits_of}
use Rattle.brick_state.specs.Slots.{slots_of}
use Rattle.brick_state.proofs.UsedSlots.{kept_slots}
use Rattle.brick_store.proofs.HeldBlocks.{held_more, all_held, read_moved, same_both}
use Rattle.brick_store.proofs.caches.read_blocks.Goals as goal

pub loop-slot-preserved : goal.loop-slot-preserved
loop-slot-preserved g c =
    let d = g.D.Disk in
    let first = c.args.frames.now in
    let now = c.loop-slot.frames in
    let next = c.hold_block.new.frames in
    let so_far = c.loop-slot.invariant in
    let here = c.in_ok-hold_block.ensures in
    record {
      held = held_more (slots_of (state_of c.args.index.now)) c.loop-slot.blocks c.hold_block.new.blocks c.loop-slot.slot here.others here.held so_far.held;
      read = read_moved d.tells now.shape first.shape now.size first.size (d.seen now.disk)
          (d.seen first.disk) c.loop-slot.blocks c.hold_block.new.blocks so_far.same.shape so_far.same.size so_far.untouched.content here.read so_far.read;
      same = same_both first now next so_far.same here.same;
      untouched = untouched_both d.seen d.may_leave d.moment d.left_since g.met.D.Disk.counts_now first.disk now.disk next.disk so_far.untouched here.untouched;
      certain = here.certain ∙ so_far.certain;
      runs = here.still_runs refl;
      plan = keeps_both d.plan d.unlisted first.disk now.disk next.disk ⊥ ⊥ so_far.plan
          (record { same = here.plan.same; stays = here.plan.stays; never = λ free never. never });
      cause = kept_both (d.faults first.disk) (d.faults now.disk) (d.faults next.disk) (d.sound first.disk) (d.sound now.disk)
          (d.sound next.disk) ⊥ ⊥ so_far.cause
          (record { later = here.cause.later; rose = λ never. absurd never; stays = here.cause.stays; never = λ sound never. never });
    }

pub returns-clause-held : goal.returns-clause-held
returns-clause-held g c =
    let limits = limits_of c.args.index.now in
    let st = state_of c.args.index.now in
    all_held limits (slots_of st) c.loop-slot.blocks c.named_end-slot-end.result (kept_slots limits st c.requires.kept) c.named_end-slot-end.ensures.named
    (λ slot before there. c.loop-slot.invariant.held slot (omega (arith, before)) there)
