-- The append of a frame for which there is room.
use Rattle.std.proofs.Common.{◌≡◌, ◌+◌, ◌++◌, ◌∷◌, [], None, Result, Ok, Err, length, ap, arith, rules}
use Rattle.std.proofs.lemmas.Result.{err_from_is_err_and}
use Rattle.frame_store.specs.declared.faults.FrameFault.{FrameFault}
use Rattle.frame_store.specs.Listed.{size_of}
use Rattle.frame_store.proofs.Listing.{size_of-append}
use Rattle.brick_state.specs.Indexes.{state_of, limits_of}
use Rattle.brick_store.specs.Images as images
use Rattle.brick_store.specs.declared.faults.StoreFault.TheVariants.{NoMemory}
use Rattle.brick_store.specs.Bricks.{fault_of}
use Rattle.brick_store.specs.Sizes.{framed}
use Rattle.brick_store.specs.Steps.{ListAnswer, changed}
use Rattle.brick_store.proofs.Stepping.{leads_changed, memory_refused, refused}
use Rattle.brick_store.proofs.ListAnswers.{Made, made, raised}
use Rattle.brick_store.proofs.starts.append_count.Given.{Over}
use Rattle.brick_store.proofs.starts.append_count.Goals.{After-append_frame}
use Rattle.brick_store.proofs.starts.append_count.Goals as goal

-- what the append makes of the list, however it ended
appended : (g : Over) (c : After-append_frame g) (result : Result (Unit {0}) FrameFault)
    → ListAnswer g.D.Disk 4 (c.args.frames.now.frames ++ c.args.frame ∷ []) None c.args.frames.now c.append_frame.new.frames result
    → Made g.D.Disk 4 None (state_of c.args.index.now) (changed (limits_of c.args.index.now) c.args.item.now (state_of c.args.index.now))
    (λ bytes. bytes ≡ size_of c.args.frames.now.frames + framed (length c.args.frame.body)) c.args.frames.now c.append_frame.new.frames (raised result)
appended g c result call =
    let st = state_of c.args.index.now in
    let old = c.args.frames.now in
    let frame = c.args.frame in
    let leads = leads_changed (limits_of c.args.index.now) (images.limits_of old.shape) old.frames frame c.args.item.now st c.requires.limits
    c.requires.may.leads c.requires.read c.requires.can in
    let size : size_of (old.frames ++ frame ∷ []) ≡ size_of old.frames + framed (length frame.body) =
    omega (arith, size_of-append old.frames (frame ∷ [])) in
    made g.D.Disk 4 (old.frames ++ frame ∷ []) None st (changed (limits_of c.args.index.now) c.args.item.now st)
    (λ bytes. bytes ≡ size_of old.frames + framed (length frame.body)) old c.append_frame.new.frames result c.requires.may leads size call

pub returns-in_err-append_frame : goal.returns-in_err-append_frame
returns-in_err-append_frame g c =
    let f = c.in_err-append_frame.field-0.0 in
    let call = c.in_err-append_frame.ensures in
    let one = appended g (goal.at.returns-in_err-append_frame g c).After-append_frame (Err f) call.answer in
    let never = λ (is : refused (fault_of f) ≡ refused NoMemory). call.room c.requires.room (ap (refused {E = FrameFault}) (memory_refused f is)) in
    let p = err_from_is_err_and c.from_residual.result c.from_residual.ensures.1 in
    rw (p.1, p.2) (search (rules, one.step, one.change, never))

pub returns : goal.returns
returns g c =
    let one = appended g (goal.at.returns g c).After-append_frame (Ok tt) c.in_ok-append_frame.ensures.answer in
    search (rules, one.step, one.change)
