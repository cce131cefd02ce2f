-- What was read stands, and at each moment each image opens as it or was allowed before.
use Rattle.std.proofs.Common.{◌≡◌, ℕ, List, None, Err, sym, ap, subst, ◌∙◌, arith}
use Rattle.std.specs.Prelude.{replicate}
use Rattle.std.proofs.lemmas.Result.{err_from_is_err_and}
use Rattle.std.proofs.lemmas.Grind.{common_steps}
use Rattle.fab_disk.specs.Changing.{End, Whole}
use Rattle.frame_store.specs.declared.shapes.Shape.{Shape}
use Rattle.frame_store.specs.Images.{KeepsSlots}
use Rattle.frame_store.specs.Listed.{size_of}
use Rattle.brick_state.specs.Entries.{Entry}
use Rattle.brick_state.specs.States.{StateOf, empty}
use Rattle.brick_state.specs.Indexes.{state_of}
use Rattle.brick_state.specs.Indexes as indexes
use Rattle.brick_store.specs.Images.{limits_of}
use Rattle.brick_store.specs.Standing.{AllSlots, IsStored, Leads}
use Rattle.brick_store.specs.Openings.{Starts, found_in, is_whole, stopped_by}
use Rattle.brick_store.proofs.CountedStarts.{untouched_starts}
use Rattle.brick_store.proofs.Lengths.{counted_loaded}
use Rattle.brick_store.proofs.OpeningLaws.{cut_by, loaded_starts, never_whole, refused_starts, start_ends}
use Rattle.brick_store.proofs.Starting.{standing_from}
use Rattle.brick_store.proofs.taking_up.take_up.Given.{Over}
use Rattle.brick_store.proofs.taking_up.take_up.Goals.{After-start}
use Rattle.brick_store.proofs.taking_up.take_up.Goals as goal

-- the start of the store that was loaded, in words of the one that was read
started : (g : Over) (c : After-start g) (end : End)
    → Starts g.D.Disk c.args.folded.whole (state_of c.args.folded.index) c.load.new.frames c.start.new.frames.disk end
    → Starts g.D.Disk (is_whole (limits_of c.args.frames.now.shape) c.args.frames.now.frames empty)
    (found_in c.args.frames.now.shape c.args.frames.now.frames) c.args.frames.now c.start.new.frames.disk end
started g c end run =
    let here = c.load.ensures in
    let fold = c.in_ok-blocks.ensures.loaded.fold in
    loaded_starts g.D.Disk g.met.D.Disk.only_now g.met.D.Disk.counts_now c.args.folded.whole _ (state_of c.args.folded.index) _ c.args.frames.now
    c.load.new.frames c.start.new.frames.disk end _ here.same (record { untouched = here.untouched; plan = here.plan; cause = here.cause })
    here.certain fold.whole_is fold.found run

pub returns-in_err-vec-clause-starts : goal.returns-in_err-vec-clause-starts
returns-in_err-vec-clause-starts g c =
    let p = err_from_is_err_and c.from_residual.result c.from_residual.ensures.1 in
    rw (p.1, p.2) (untouched_starts g.D.Disk g.met.D.Disk.only_now _ _ c.args.frames.now)

pub returns-in_err-blocks-clause-starts : goal.returns-in_err-blocks-clause-starts
returns-in_err-blocks-clause-starts g c =
    let here = c.in_err-blocks.ensures in
    let fault = c.in_err-blocks.field-0.0 in
    let p = err_from_is_err_and c.from_residual-in_err-blocks.result c.from_residual-in_err-blocks.ensures.1 in
    rw (p.1, p.2) (refused_starts g.D.Disk g.met.D.Disk.only_now _ _ c.args.frames.now c.load.new.frames.disk (stopped_by fault) _ (never_whole fault)
    (λ is. ap Err (cut_by fault is)) (record { untouched = here.untouched; plan = here.plan; cause = here.cause }))

pub returns-in-Ok-clause-starts : goal.returns-in-Ok-clause-starts
returns-in-Ok-clause-starts g c = started g (goal.at.returns-in-Ok-clause-starts g c).After-start Whole c.in-Ok.ensures.starts

pub returns-clause-starts : goal.returns-clause-starts
returns-clause-starts g c =
    let made = subst (λ (end : End). Starts g.D.Disk c.args.folded.whole (state_of c.args.folded.index) c.load.new.frames
    c.start.new.frames.disk end) (start_ends c.in-Err.fault) c.in-Err.ensures.starts in
    rw c.refusal_of.ensures (started g (goal.at.returns-clause-starts g c).After-start _ made)

pub returns-in-Ok-clause-standing : goal.returns-in-Ok-clause-standing
returns-in-Ok-clause-standing g c =
    let d = g.D.Disk in
    let old = c.args.frames.now in
    let mid = c.load.new.frames in
    let new = c.start.new.frames in
    let index = c.args.folded.index in
    let here = c.in-Ok.ensures in
    let shape : mid.shape ≡ old.shape = c.load.ensures.same.shape in
    let zero_is : c.from_vec-zero.result ≡ replicate old.shape.block 0 = grind (arith, common_steps, c.requires.folded.block) in
    standing_from d new c.start.new.index c.in_ok-blocks.blocks c.from_vec-zero.result old.shape old.frames (d.seen old.disk)
    (indexes.limits_of index) (state_of index) c.args.folded.whole (c.start.ensures.shape ∙ shape) c.requires.folded.shape c.requires.folded.form c.in_ok-blocks.ensures.loaded
    zero_is c.start.ensures.limits here.made
    (subst (λ (s : Shape). Leads (limits_of s) new.frames empty (state_of c.start.new.index)) shape here.leads) here.settled
    (λ told. subst (λ (x : List ℕ). KeepsSlots old.shape None x (d.seen new.disk)) c.load.ensures.untouched.content
    (subst (λ (s : Shape). KeepsSlots s None (d.seen mid.disk) (d.seen new.disk)) shape (here.slots told)))

pub returns-in-Ok-clause-stored : goal.returns-in-Ok-clause-stored
returns-in-Ok-clause-stored g c = λ told.
    subst (λ (x : StateOf Entry). AllSlots (IsStored c.args.frames.now.shape c.in_ok-blocks.blocks (g.D.Disk.seen c.args.frames.now.disk)) x)
    (sym c.in_ok-blocks.ensures.loaded.fold.found) (c.in_ok-blocks.ensures.loaded.stored told)

pub returns-in-Ok-clause-listed : goal.returns-in-Ok-clause-listed
returns-in-Ok-clause-listed g c = λ ok.
    let fold = c.in_ok-blocks.ensures.loaded.fold in
    counted_loaded c.args.frames.now (size_of c.start.new.frames.frames) c.load.new.frames c.args.folded.whole _ (state_of c.args.folded.index) _
    c.load.ensures.same fold.whole_is fold.found c.in-Ok.ensures.listed

pub returns-in-Ok-clause-boots : goal.returns-in-Ok-clause-boots
returns-in-Ok-clause-boots g c = λ ok. omega (
  arith,
  c.in_ok-blocks.ensures.loaded.boots,
  ap (λ (x : StateOf Entry). x.boot) c.in_ok-blocks.ensures.loaded.fold.found,
)
