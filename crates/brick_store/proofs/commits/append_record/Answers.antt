-- The append, after room was made for it.
use Rattle.std.proofs.Common.{◌≢◌, ℕ, [], ◌∷◌, ◌++◌, length, Result, Ok, Err, sym, ap, ◌∙◌, arith}
use Rattle.std.specs.Option.{option_map}
use Rattle.std.proofs.lemmas.Result.{err_from_is_err_and}
use Rattle.frame_store.specs.declared.faults.FrameFault.{FrameFault}
use Rattle.frame_store.specs.declared.faults.FrameFault.TheVariants.{NoMemory}
use Rattle.frame_store.specs.Listed.{size_of}
use Rattle.brick_state.specs.Indexes.{state_of, limits_of}
use Rattle.brick_store.specs.Calls.{calls_with, version_calls}
use Rattle.brick_store.specs.Steps.{ListAnswer, HasAppendRoom, changed, put_in}
use Rattle.brick_store.specs.Sizes.{body_size}
use Rattle.brick_store.proofs.Changing.{Longer}
use Rattle.brick_store.proofs.Counting.{room_then, some_calls}
use Rattle.brick_store.proofs.Stepping.{step_stopped}
use Rattle.brick_store.proofs.StateChanges.{unbegun, not_whole, first_stopped}
use Rattle.brick_store.proofs.ListAnswers.{Made, raised, record_made}
use Rattle.brick_store.proofs.commits.append_record.Given.{Over}
use Rattle.brick_store.proofs.commits.append_record.Goals.{After-append_frame}
use Rattle.brick_store.proofs.commits.append_record.Goals as goal

pub returns-in_err-frame-clause-change : goal.returns-in_err-frame-clause-change
returns-in_err-frame-clause-change g c =
    let st = state_of c.args.index.now in
    let p = err_from_is_err_and c.from_residual.result c.from_residual.ensures.1 in
    rw (p.1, p.2) (unbegun g.D.Disk g.met.D.Disk.only_now _ (option_map (λ b. put_in b.0 b.1.now) c.args.slot_block) st
    (changed (limits_of c.args.index.now) c.args.item.now st) c.args.frames.now)

pub returns-in_err-make_room : goal.returns-in_err-make_room
returns-in_err-make_room g c =
    let d = g.D.Disk in
    let st = state_of c.args.index.now in
    let next = changed (limits_of c.args.index.now) c.args.item.now st in
    let old = c.args.frames.now in
    let put = option_map (λ b. put_in b.0 b.1.now) c.args.slot_block in
    let fault = c.in_err-make_room.field-0.0 in
    let room = c.in_err-make_room.ensures in
    let body = c.len.ensures ∙ c.in_ok-frame.ensures.length in
    let sum = ap (λ (n : ℕ). calls_with old.shape (size_of old.frames) n (version_calls put)) (sym body)
    ∙ room_then old.shape (size_of old.frames) c.len.result (version_calls put) in
    let p = err_from_is_err_and c.from_residual-in_err-make_room.result c.from_residual-in_err-make_room.ensures.1 in
    rw (p.1, p.2) (record {
      step = step_stopped d st next _ _ old c.make_room.new.frames fault room.step;
      change = first_stopped d put st next old (calls_with old.shape (size_of old.frames) c.len.result 0) _ c.make_room.new.frames.disk _
          (omega (arith, sum, some_calls put)) (not_whole fault) room.change;
    })

-- what the answer of the append comes to, with the room that was made
made_so : (g : Over) (c : After-append_frame g) (result : Result (Unit {0}) FrameFault) → (let item = c.args.item.now in let st = state_of c.args.index.now in
    let old = c.args.frames.now in let mid = c.make_room.new.frames in let frame = c.in_ok-frame.frame in
    let put = option_map (λ b. put_in b.0 b.1.now) c.args.slot_block in
    (HasAppendRoom g.D.Disk.has_room mid (length frame.body) → result ≢ Err NoMemory)
    → ListAnswer g.D.Disk (version_calls put) (mid.frames ++ frame ∷ []) put mid c.append_frame.new.frames result
    → Made g.D.Disk (calls_with old.shape (size_of old.frames) (body_size item) (version_calls put)) put st (changed (limits_of c.args.index.now) item st)
    (Longer old st (body_size item)) old c.append_frame.new.frames (raised result))
made_so g c result never answer =
    let room = c.in_ok-make_room.ensures in
    record_made g.D.Disk (limits_of c.args.index.now) c.args.item.now c.in_ok-frame.frame _ (state_of c.args.index.now) c.args.frames.now
    c.make_room.new.frames c.append_frame.new.frames c.len.result result c.requires.store.may c.requires.store.indexed.limits_are
    c.in_ok-frame.ensures.read c.requires.can c.len.ensures c.in_ok-frame.ensures.length room.step room.change room.room never answer

pub returns-in_err-append_frame : goal.returns-in_err-append_frame
returns-in_err-append_frame g c =
    let call = c.in_err-append_frame.ensures in
    let made = made_so g (goal.at.returns-in_err-append_frame g c).After-append_frame (Err c.in_err-append_frame.field-0.0) call.room call.answer in
    let p = err_from_is_err_and c.from_residual-in_err-append_frame.result c.from_residual-in_err-append_frame.ensures.1 in
    rw (p.1, p.2) (record { step = made.step; change = made.change })

pub returns : goal.returns
returns g c =
    let call = c.in_ok-append_frame.ensures in
    let made = made_so g (goal.at.returns g c).After-append_frame (Ok tt) call.room call.answer in
    record { step = made.step; change = made.change }
