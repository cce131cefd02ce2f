-- Room is made in memory, and then the list is rewritten.
use Rattle.std.proofs.Common.{rules, ◌+◌, ◌≤◌, None, Result, Ok, Err, ap, arith}
use Rattle.std.proofs.lemmas.Result.{err_from_is_err_and}
use Rattle.frame_store.specs.declared.shapes.Shape.{Shape}
use Rattle.frame_store.specs.declared.faults.FrameFault.{FrameFault}
use Rattle.frame_store.specs.Listed.{size_of}
use Rattle.frame_store.specs.Stores.{HasRoom}
use Rattle.brick_state.specs.States.{live}
use Rattle.brick_state.specs.Indexes.{state_of}
use Rattle.brick_store.specs.Sizes.{most_listed}
use Rattle.brick_store.specs.Steps.{ListAnswer, HasAppendRoom}
use Rattle.brick_store.proofs.Stepping.{call_refused, room_less, ahead_new, reserved_new}
use Rattle.brick_store.proofs.StateChanges.{unbegun, reserve_failed}
use Rattle.brick_store.proofs.ListAnswers.{Made, raised, reserved_made}
use Rattle.brick_store.proofs.commits.rewrite.Given.{Over}
use Rattle.brick_store.proofs.commits.rewrite.Goals.{After-rewrite, In_ok-rewrite}
use Rattle.brick_store.proofs.commits.rewrite.Goals as goal

pub returns-in_err-live-clause-change : goal.returns-in_err-live-clause-change
returns-in_err-live-clause-change g c =
    let st = state_of c.args.index.now in
    let p = err_from_is_err_and c.from_residual.result c.from_residual.ensures.1 in
    rw (p.1, p.2) (unbegun g.D.Disk g.met.D.Disk.only_now 7 None st st c.args.frames.now)

pub returns-in_err-reserve : goal.returns-in_err-reserve
returns-in_err-reserve g c =
    let st = state_of c.args.index.now in
    let old = c.args.frames.now in
    let new = c.reserve.new.self in
    let fault = c.in_err-reserve.field-0.0 in
    let call = c.in_err-reserve.ensures in
    let p = err_from_is_err_and c.from_residual-in_err-reserve.result c.from_residual-in_err-reserve.ensures.1 in
    rw (p.1, p.2) (record {
      step = call_refused g.D.Disk st st _ old new fault c.requires.store.may call.same call.read call.answer;
      fits = tt;
      room = tt;
      change = reserve_failed g.D.Disk g.met.D.Disk.only_now g.met.D.Disk.certain_is_left 7 None st st old new.disk fault call.still call.certain (omega arith);
    })

-- what the answer of the list comes to, with the room that was made in memory
made_so : (g : Over) (c : After-rewrite g) (result : Result (Unit {0}) FrameFault)
    → ListAnswer g.D.Disk 7 c.in_ok-live.live None c.reserve.new.self c.rewrite.new.self result
    → (let st = state_of c.args.index.now in
    Made g.D.Disk 7 None st st (λ bytes. bytes ≤ most_listed (live st)) c.args.frames.now c.rewrite.new.self (raised result))
made_so g c result call =
    let reserved = c.in_ok-reserve.ensures in
    reserved_made g.D.Disk g.met.D.Disk.only_now g.met.D.Disk.counts_now c.in_ok-live.live (state_of c.args.index.now) c.args.frames.now
    c.reserve.new.self c.rewrite.new.self _ result c.requires.store.may c.requires.store.indexed.kept c.in_ok-live.ensures.read c.in_ok-live.ensures.size
    reserved.same reserved.still reserved.read reserved.answer.halts call

pub returns-in_err-rewrite : goal.returns-in_err-rewrite
returns-in_err-rewrite g c =
    let call = c.in_err-rewrite.ensures in
    let made = made_so g (goal.at.returns-in_err-rewrite g c).After-rewrite (Err c.in_err-rewrite.field-0.0)
    (record { change = call.change; ok = tt; answer = call.answer; refused = call.refused; read = call.read }) in
    let p = err_from_is_err_and c.from_residual-in_err-rewrite.result c.from_residual-in_err-rewrite.ensures.1 in
    rw (p.1, p.2) (record { step = made.step; fits = tt; room = tt; change = made.change })

-- with room for one append
room_so : (g : Over) (c : In_ok-rewrite g) → HasAppendRoom g.D.Disk.has_room c.rewrite.new.self c.args.body
room_so g c =
    let d = g.D.Disk in
    let mid = c.reserve.new.self in
    let new = c.rewrite.new.self in
    let live = c.in_ok-live.live in
    let call = c.in_ok-rewrite.ensures in
    let reserved = c.in_ok-reserve.ensures in
    let bytes = mid.shape.block + c.args.body + 7 in
    let before : HasRoom d.has_room mid (6 + 7) (bytes + (size_of live + 34)) (c.args.body + 6) =
    room_less d.has_room g.met.D.Disk.room_for_less mid _ _ _ _ _ _ (omega arith) (omega (arith, ap (λ (s : Shape). s.block) reserved.same.shape))
    (omega arith) (ahead_new d.has_room mid live c.args.body (reserved_new c.args.frames.now mid c.requires.store.may.slotted reserved.same)
    reserved.room) in
    room_less d.has_room g.met.D.Disk.room_for_less new _ _ _ _ _ _ (omega arith) (omega (arith, ap (λ (s : Shape). s.block) call.ok.shape)) (omega arith)
    (call.left 6 bytes (c.args.body + 6) before)

pub returns : goal.returns
returns g c =
    let call = c.in_ok-rewrite.ensures in
    let made = made_so g (goal.at.returns g c).After-rewrite (Ok tt)
    (record { change = call.change; ok = call.ok; answer = call.answer; refused = tt; read = call.read }) in
    record { step = made.step; fits = search rules; room = room_so g (goal.at.returns g c).In_ok-rewrite; change = made.change }
