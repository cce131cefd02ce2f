-- The record of a version with a block of its own.
use Rattle.std.proofs.Common.{◌≡◌, true, Some, refl, ap, ◌∙◌}
use Rattle.std.proofs.lemmas.Result.{err_from_is_err_and}
use Rattle.brick_state.specs.Folds.{place}
use Rattle.brick_state.specs.Indexes.{state_of}
use Rattle.brick_store.specs.Blocks.{with_version}
use Rattle.brick_store.specs.Calls.{calls_of}
use Rattle.brick_store.specs.Standing.{Standing}
use Rattle.brick_store.proofs.Changed.{can_from}
use Rattle.brick_store.proofs.Changing.{Told, told_as, brick_of, told_refused}
use Rattle.brick_store.proofs.Adding.{brick_same, standing_same, told_stopped, no_slot_fault}
use Rattle.brick_store.proofs.PuttingVersions.{version_adds, version_put}
use Rattle.brick_store.proofs.Stepping.{refused}
use Rattle.brick_store.proofs.stores.BrickStore.add_block.Given.{Over}
use Rattle.brick_store.proofs.stores.BrickStore.add_block.Goals.{After-hold_new, After-forget_refused}
use Rattle.brick_store.proofs.stores.BrickStore.add_block.Goals as goal

pub returns-in_err-ready : goal.returns-in_err-ready
returns-in_err-ready g c =
    let x = c.self.inside in
    let f = c.in_err-ready.field-0.0 in
    let told = told_refused g.D.Disk g.met.D.Disk.only_now x.blocks x.zero x.frames x.index c.args.self.now
    (with_version c.args.self.now.shape.block (place c.args.group c.args.view c.args.stripe) c.args.stamp (Some c.args.block))
    (λ s. true) 35 true (calls_of c.args.self.now 35 5) f c.self.view_is refl c.self.invariant c.in_err-ready.ensures.refused in
    let q = err_from_is_err_and c.from_residual.result c.from_residual.ensures.1 in
    let both = told_as g.D.Disk _ _ _ _ _ _ c.from_residual.result (refused f) (q.1 ∙ ap refused q.2) told in
    record { change = both.0; answer = both.1 }

-- ---- the block is held in memory

-- the store stands with it
stands_so : (g : Over) (c : After-hold_new g) → (let x = c.self.inside in
    Standing g.D.Disk.tells g.D.Disk.seen g.D.Disk.may_leave x.frames x.index c.hold_new.new.blocks x.zero)
stands_so g c =
    let x = c.self.inside in
    standing_same g.D.Disk x.blocks c.hold_new.new.blocks x.zero x.frames x.index c.hold_new.ensures.same c.self.invariant

-- and a clause sees no difference
seen_so : (g : Over) (c : After-hold_new g)
    → brick_of c.hold_new.new.blocks c.self.inside.frames (state_of c.self.inside.index) ≡ c.args.self.now
seen_so g c =
    brick_same c.self.inside.blocks c.hold_new.new.blocks c.self.inside.frames (state_of c.self.inside.index) c.hold_new.ensures.same ∙ c.self.view_is

pub invariant_of-self : goal.invariant_of-self
invariant_of-self g c = stands_so g (goal.at.invariant_of-self g c).After-hold_new

pub returns-in_err-slot : goal.returns-in_err-slot
returns-in_err-slot g c =
    let d = (goal.at.returns-in_err-slot g c).After-hold_new in
    let f = c.in_err-slot.field-0.0 in
    let told = told_stopped g.D.Disk g.met.D.Disk.only_now c.hold_new.new.blocks c.self.inside.zero c.self.inside.frames c.self.inside.index c.args.self.now
    (with_version c.args.self.now.shape.block (place c.args.group c.args.view c.args.stripe) c.args.stamp (Some c.args.block) c.args.self.now.state)
    35 (calls_of c.args.self.now 35 5) f (seen_so g d) (no_slot_fault f c.in_err-slot.ensures.memory) (stands_so g d) c.in_ok-ready.ensures.runs
    (c.in_ok-ready.ensures.free refl) in
    let q = err_from_is_err_and c.from_residual-in_err-slot.result c.from_residual-in_err-slot.ensures.1 in
    let both = told_as g.D.Disk _ _ _ _ _ _ c.from_residual-in_err-slot.result (refused f) (q.1 ∙ ap refused q.2) told in
    record { change = both.0; answer = both.1 }

-- ---- its record is committed

pub commit-answer-requires-clause-can : goal.commit-answer-requires-clause-can
commit-answer-requires-clause-can g c =
    let x = c.self.inside in
    can_from _ _ _ _ (version_adds c.args.group c.args.view c.args.stripe c.args.stamp c.in_ok-slot.slot c.args.block x.blocks x.frames x.index c.args.self.now
    c.self.view_is c.requires.group (c.in_ok-ready.ensures.free refl) c.requires.above c.in_ok-slot.ensures.slot)

-- what the change of the list told, and that the store stands after it
put_so : (g : Over) (c : After-forget_refused g) → (let old = c.args.self.now in let new = c.commit-answer.new in
    Told g.D.Disk old (brick_of c.forget_refused.new.blocks new.frames (state_of new.index))
    (with_version old.shape.block (place c.args.group c.args.view c.args.stripe) c.args.stamp (Some c.args.block) old.state) 35 true (calls_of old 35 5)
    c.commit-answer.result
    × Standing g.D.Disk.tells g.D.Disk.seen g.D.Disk.may_leave new.frames new.index c.forget_refused.new.blocks c.self.inside.zero)
put_so g c =
    let x = c.self.inside in
    let slot = c.in_ok-slot.ensures in
    let call = c.commit-answer.ensures in
    version_put g.D.Disk c.args.group c.args.view c.args.stripe c.args.stamp c.in_ok-slot.slot c.args.block c.held_under.result.now x.blocks
    c.hold_new.new.blocks c.forget_refused.new.blocks x.zero x.frames c.commit-answer.new.frames x.index c.commit-answer.new.index c.args.self.now
    c.commit-answer.result c.self.view_is c.self.invariant c.hold_new.ensures.same c.in_ok-ready.ensures.runs (c.in_ok-ready.ensures.free refl)
    c.requires.group c.requires.above slot.slot slot.unnamed slot.held c.requires.block c.held_under.ensures call.limits call.step call.made
    call.not_made call.change c.forget_refused.ensures.added c.forget_refused.ensures.others

pub invariant_of-self-2 : goal.invariant_of-self-2
invariant_of-self-2 g c = (put_so g (goal.at.invariant_of-self-2 g c).After-forget_refused).1

pub returns : goal.returns
returns g c =
    let told = (put_so g (goal.at.returns g c).After-forget_refused).0 in
    let both = told_as g.D.Disk _ _ _ _ _ _ c.forget_refused.result c.commit-answer.result c.forget_refused.ensures.answer told in
    record { change = both.0; answer = both.1 }
