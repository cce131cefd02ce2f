-- A list that can be appended to needs nothing but room in memory and a sync.
use Rattle.std.proofs.Common.{rules, ◌≡◌, ◌≤◌, ◌∙◌, Bool, List, true, false, if◌then◌else◌, Ok, sym, ap, subst, arith}
use Rattle.std.proofs.lemmas.Result.{err_from_is_err_and}
use Rattle.frame_store.specs.declared.faults.FrameFault.{FrameFault}
use Rattle.frame_store.specs.declared.faults.FrameFault.TheVariants as frames
use Rattle.frame_store.specs.declared.frames.Frame.{Frame}
use Rattle.frame_store.specs.declared.shapes.Shape.{Shape}
use Rattle.frame_store.specs.Listed.{size_of}
use Rattle.brick_state.specs.States.{live}
use Rattle.brick_state.specs.Indexes.{state_of}
use Rattle.brick_store.specs.Bricks.{fault_of}
use Rattle.brick_store.specs.Calls.{is_appendable}
use Rattle.brick_store.specs.Ends.{end_of}
use Rattle.brick_store.specs.Lengths.{HasMadeRoom}
use Rattle.brick_store.specs.Openings.{Readies}
use Rattle.brick_store.proofs.Lengths.{renewed, room_there}
use Rattle.brick_store.proofs.OpeningLaws.{ready_by}
use Rattle.brick_store.proofs.Readying.{refused_ready, sync_ready}
use Rattle.brick_store.proofs.StateChanges.{cut_means, not_whole}
use Rattle.brick_store.proofs.Stepping.{ahead_new, not_halted, refused, reserved_new, room_less}
use Rattle.brick_store.proofs.fresh_lists.make_appendable.Goals as goal

-- the opening makes a call before its count
some : (b : Bool) → 1 ≤ (if b then 1 else 8)
some true = omega arith
some false = omega arith

pub returns-then-is_appendable-clause-room : goal.returns-then-is_appendable-clause-room
returns-then-is_appendable-clause-room g c =
    let mid = c.reserve.new.self in
    let made = c.in_ok-reserve.ensures in
    let call = c.in_ok-sync.ensures in
    let none : size_of c.new-none.result ≡ 0 = ap size_of c.new-none.ensures in
    room_less g.D.Disk.has_room g.met.D.Disk.room_for_less c.sync.new.self _ _ _ _ _ _ (omega arith)
    (omega (arith, none, ap (λ (s : Shape). s.block) call.same.shape)) (omega (arith, none)) (call.left 12 _ _
    (ahead_new g.D.Disk.has_room mid _ c.args.body (reserved_new c.args.frames.now mid c.requires.held.slotted made.same) made.room))

pub returns-then-is_appendable-clause-listed : goal.returns-then-is_appendable-clause-listed
returns-then-is_appendable-clause-listed g c =
    let old = c.args.frames.now in
    let there : is_appendable c.args.whole old c.args.body ≡ true = search rules in
    subst (λ (fs : List Frame). HasMadeRoom (is_appendable c.args.whole old c.args.body) (live (state_of c.args.index.now)) (size_of old.frames)
    (size_of fs)) (sym (c.in_ok-sync.ensures.same.frames ∙ c.in_ok-reserve.ensures.same.frames)) (room_there there)

pub returns-clause-listed : goal.returns-clause-listed
returns-clause-listed g c =
    let never : is_appendable c.args.whole c.args.frames.now c.args.body ≡ false = search rules in
    renewed _ _ _ _ c.renew.result never c.renew.ensures.listed

pub returns-then-is_appendable-clause-readies : goal.returns-then-is_appendable-clause-readies
returns-then-is_appendable-clause-readies g c =
    ready_by g.D.Disk g.met.D.Disk.only_now _ _ c.args.frames.now c.sync.new.self.disk (Ok tt) tt (search rules) (search rules)
    (λ told free closed is. absurd cc) (λ is. absurd cc) (search rules)

pub returns-in_err-reserve-clause-readies : goal.returns-in_err-reserve-clause-readies
returns-in_err-reserve-clause-readies g c =
    let f = c.in_err-reserve.field-0.0 in
    let p = err_from_is_err_and c.from_residual.result c.from_residual.ensures.1 in
    rw (p.1, p.2) (refused_ready g.D.Disk g.met.D.Disk.only_now _ c.args.frames.now _ c.reserve.new.self.disk (end_of (refused (fault_of f)))
    (refused f ≡ refused frames.Disk) (not_whole (fault_of f)) (cut_means f) c.in_err-reserve.ensures.still)

pub returns-in_err-sync-clause-readies : goal.returns-in_err-sync-clause-readies
returns-in_err-sync-clause-readies g c =
    let f = c.in_err-sync.field-0.0 in
    let made = c.in_ok-reserve.ensures in
    let call = c.in_err-sync.ensures in
    let p = err_from_is_err_and c.from_residual-in_err-sync.result c.from_residual-in_err-sync.ensures.1 in
    rw (p.1, p.2) (sync_ready g.D.Disk g.met.D.Disk.only_now _ c.args.frames.now _ c.requires.held g.met.D.Disk.counts_now _ c.reserve.new.self.disk
    c.sync.new.self.disk f _ (some (is_appendable c.args.whole c.args.frames.now c.args.body)) made.still made.certain call.content call.certain call.crash
    call.time call.run (λ is. call.no_memory (ap (refused {E = FrameFault}) is)) (not_halted f (made.answer.halts ∙ c.requires.held.runs) call.answer)
    call.cause)

pub returns-clause-readies : goal.returns-clause-readies
returns-clause-readies g c =
    let never : is_appendable c.args.whole c.args.frames.now c.args.body ≡ false = search rules in
    subst (λ (b : Bool). Readies g.D.Disk (if b then 1 else 8) (state_of c.args.index.now) c.args.frames.now c.renew.new.frames.disk (end_of c.renew.result))
    (sym never) c.renew.ensures.readies
