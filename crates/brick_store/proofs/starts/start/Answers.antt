-- The opening is counted.
use Rattle.std.proofs.Common.{◌≡◌, ◌+◌, ℕ, None, OnOk, if◌then◌else◌, sym, ap, subst, ◌∙◌}
use Rattle.std.proofs.lemmas.Result.{err_from_is_err_and}
use Rattle.frame_store.specs.Listed.{size_of}
use Rattle.brick_state.specs.Entries.{Entry}
use Rattle.brick_state.specs.States.{StateOf, live}
use Rattle.brick_state.specs.Indexes.{state_of}
use Rattle.brick_store.specs.Calls.{is_appendable, opening_calls}
use Rattle.brick_store.specs.Ends.{end_of}
use Rattle.brick_store.specs.Lengths.{HasMadeRoom}
use Rattle.brick_store.specs.Sizes.{framed}
use Rattle.brick_store.proofs.BootCounts.{next_count}
use Rattle.brick_store.proofs.CountedStarts.{counted_starts, unready_starts, untouched_starts}
use Rattle.brick_store.proofs.Counting.{start_sum}
use Rattle.brick_store.proofs.Lengths.{counted_on}
use Rattle.brick_store.proofs.OpeningLaws.{tried_ends}
use Rattle.brick_store.proofs.StateChanges.{not_whole, settled_after, slots_after}
use Rattle.brick_store.proofs.Stepping.{refused}
use Rattle.brick_store.proofs.starts.start.Given.{Over}
use Rattle.brick_store.proofs.starts.start.Goals.{After-make_appendable}
use Rattle.brick_store.proofs.starts.start.Goals as goal

-- its calls are those of the making ready, and four of the count
sum : (g : Over) (c : After-make_appendable g)
    → opening_calls (is_appendable c.args.whole c.args.frames.now 4) ≡ (if is_appendable c.args.whole c.args.frames.now c.len.result then 1 else 8) + 4
sum g c =
    start_sum (is_appendable c.args.whole c.args.frames.now 4)
    ∙ ap (λ (n : ℕ). (if is_appendable c.args.whole c.args.frames.now n then 1 else 8) + 4) (sym (c.len.ensures ∙ c.in_ok-frame.ensures.length))

pub returns-clause-made : goal.returns-clause-made
returns-clause-made g c =
    subst (λ (s : StateOf Entry). OnOk c.append_count.result (state_of c.append_count.new.index ≡ s)) (next_count _ _ _ c.boot.ensures)
    c.append_count.ensures.made

pub returns-in_err-frame-clause-starts : goal.returns-in_err-frame-clause-starts
returns-in_err-frame-clause-starts g c =
    let p = err_from_is_err_and c.from_residual.result c.from_residual.ensures.1 in
    rw (p.1, p.2) (untouched_starts g.D.Disk g.met.D.Disk.only_now c.args.whole (state_of c.args.index.now) c.args.frames.now)

pub returns-in_err-make_appendable-clause-starts : goal.returns-in_err-make_appendable-clause-starts
returns-in_err-make_appendable-clause-starts g c =
    let fault = c.in_err-make_appendable.field-0.0 in
    let p = err_from_is_err_and c.from_residual-in_err-make_appendable.result c.from_residual-in_err-make_appendable.ensures.1 in
    rw (p.1, p.2) (unready_starts g.D.Disk c.args.whole (state_of c.args.index.now) c.args.frames.now _
    (sum g (goal.at.returns-in_err-make_appendable-clause-starts g c).After-make_appendable) c.requires.boots c.make_appendable.new.frames.disk
    (end_of (refused fault)) (not_whole fault) c.in_err-make_appendable.ensures.readies)

pub returns-clause-starts : goal.returns-clause-starts
returns-clause-starts g c =
    let made = c.in_ok-make_appendable.ensures in
    let count = c.append_count.ensures in
    counted_starts g.D.Disk c.args.whole (state_of c.args.index.now) c.args.frames.now _ (sum g (goal.at.returns-clause-starts g c).After-make_appendable)
    c.requires.boots c.make_appendable.new.frames _ c.append_count.new.frames.disk (end_of c.append_count.result) made.readies made.slots
    c.make_appendable.ensures.shape made.may (next_count _ _ _ c.boot.ensures) count.change
    (tried_ends c.append_count.result count.step.only count.no_memory)

pub returns-clause-listed : goal.returns-clause-listed
returns-clause-listed g c =
    let old = c.args.frames.now in
    let mid = c.make_appendable.new.frames in
    let body = c.in_ok-frame.ensures.length in
    let room = subst (λ (n : ℕ). HasMadeRoom (is_appendable c.args.whole old n) (live (state_of c.args.index.now)) (size_of old.frames) (size_of mid.frames))
    (c.len.ensures ∙ body) c.in_ok-make_appendable.ensures.listed in
    counted_on _ _ c.append_count.result room
    (subst (λ (n : ℕ). OnOk c.append_count.result (size_of c.append_count.new.frames.frames ≡ size_of mid.frames + framed n)) body
    c.append_count.ensures.step.listed)

pub returns-clause-settled : goal.returns-clause-settled
returns-clause-settled g c =
    let count = c.append_count.ensures in
    settled_after g.D.Disk 4 None _ _ c.make_appendable.new.frames c.append_count.new.frames c.append_count.result c.in_ok-make_appendable.ensures.may
    count.step count.change

pub returns-clause-slots : goal.returns-clause-slots
returns-clause-slots g c = λ told.
    slots_after g.D.Disk 4 _ _ c.args.frames.now.shape (g.D.Disk.seen c.args.frames.now.disk) c.make_appendable.new.frames
    c.append_count.new.frames.disk c.append_count.result c.make_appendable.ensures.shape (c.in_ok-make_appendable.ensures.slots told)
    c.append_count.ensures.change told
