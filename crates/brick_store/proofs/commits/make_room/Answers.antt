-- Where a frame does not fit, the list is rewritten first, by seven calls.
use Rattle.std.proofs.Common.{rules, ◌≡◌, ℕ, None, true, false, sym, subst, ◌∙◌}
use Rattle.fab_disk.specs.Changing.{Whole}
use Rattle.frame_store.specs.Listed.{size_of}
use Rattle.brick_state.specs.Indexes.{state_of}
use Rattle.brick_store.specs.Ends.{end_of, StateChange}
use Rattle.brick_state.specs.States.{live}
use Rattle.brick_store.specs.Calls.{has_room_for}
use Rattle.brick_store.specs.Lengths.{HasMadeRoom}
use Rattle.brick_store.proofs.Counting.{no_room as renews, has_room as stays}
use Rattle.brick_store.proofs.Lengths.{fits_not, fits_there, room_made, room_there}
use Rattle.brick_store.proofs.Stepping.{step_made}
use Rattle.brick_store.proofs.StateChanges.{unchanged_stands}
use Rattle.brick_store.proofs.commits.make_room.Goals as goal

differ : true ≡ false → ⊥
differ e = cc

pub returns-then-fits : goal.returns-then-fits
returns-then-fits g c =
    let st = state_of c.args.index.now in
    let old = c.args.frames.now in
    let fits = c.fits.ensures.0 c.if-fits.true in
    let room : HasMadeRoom (has_room_for old.shape (size_of old.frames) c.args.body) (live st) (size_of old.frames) (size_of old.frames) =
    room_there (fits_there old.shape (size_of old.frames) c.args.body fits) in
    let change = subst (λ (n : ℕ). StateChange g.D.Disk n old None st st old.disk Whole) (stays old.shape (size_of old.frames) c.args.body 0 fits)
    (unchanged_stands g.D.Disk g.met.D.Disk.only_now st old c.requires.store.may) in
    search (rules, room, change)

pub returns : goal.returns
returns g c =
    let st = state_of c.args.index.now in
    let old = c.args.frames.now in
    let number = renews old.shape (size_of old.frames) c.args.body 0 (λ fits. differ (sym (c.fits.ensures.1 fits) ∙ c.if-fits.false)) in
    let change = subst (λ (n : ℕ). StateChange g.D.Disk n old None st st c.rewrite.new.frames.disk (end_of c.rewrite.result)) number
    c.rewrite.ensures.change in
    let none = fits_not old.shape (size_of old.frames) c.args.body (λ fits. differ (sym (c.fits.ensures.1 fits) ∙ c.if-fits.false)) in
    let Made = HasMadeRoom (has_room_for old.shape (size_of old.frames) c.args.body) (live st) (size_of old.frames) in
    let step = step_made g.D.Disk st st {Listed = Made} (λ bytes few. room_made none few) old c.rewrite.new.frames c.rewrite.result c.rewrite.ensures.step in
    search (rules, change, step)
