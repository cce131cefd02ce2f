use Rattle.std.proofs.Common.{rules, ◌≡◌, ◌≤◌, ◌+◌, ◌-◌, max, length, ℕ, List, true, false, None, refl, sym, ap, subst, arith, ◌∙◌}
use Rattle.fab_disk.specs.Changing.{End, Whole, Still}
use Rattle.frame_store.specs.declared.frames.Frame.{Frame}
use Rattle.frame_store.specs.declared.shapes.Half.{Half}
use Rattle.frame_store.specs.Ends.{ListChange}
use Rattle.frame_store.specs.Layouts.{half_at, header_at, store_end}
use Rattle.frame_store.specs.Listed.{closed_list, size_of}
use Rattle.frame_store.specs.Images.{InForce, generation_at}
use Rattle.frame_store.specs.Laid.{other, Laid, IsCounted, IsRenewed}
use Rattle.frame_store.specs.Steps.{next_of}
use Rattle.frame_store.specs.Stores.{Held, HasRoom}
use Rattle.frame_store.proofs.Changes.{laid_opens}
use Rattle.frame_store.proofs.Ends.{of_refused}
use Rattle.frame_store.proofs.Exits.{end_small, list_within, still_change}
use Rattle.frame_store.proofs.Writes.{RewriteRun, Written, rewritten}
use Rattle.frame_store.proofs.Headers.{renewed}
use Rattle.frame_store.proofs.Shutting.{length-closed_list, closing_short}
use Rattle.frame_store.proofs.stores.FrameStore.rewrite.Given.{Over}
use Rattle.frame_store.proofs.stores.FrameStore.rewrite.Goals.{After-deref, After-rewrite_gated}
use Rattle.frame_store.proofs.stores.FrameStore.rewrite.Goals as goal

-- the line that was staged, which ends within the store
line_is : (g : Over) (c : After-deref g) → c.deref.result.now ≡ closed_list c.args.list
line_is g c = c.deref.ensures.value ∙ c.in_ok-stage_list.ensures.line

within : (g : Over) (c : After-deref g) → c.half_at-at.result + length c.deref.result.now ≤ store_end c.self.inside.shape
within g c =
    list_within _ c.args.self.now c.other-other.result c.args.list c.deref.result.now c.half_at-at.result c.self.view_is
    c.requires.new c.requires.fits (line_is g c) c.half_at-at.ensures

-- what is written is no longer than what room was made for
short : (g : Over) (c : After-deref g)
    → length c.closing-shut.result.now + (length c.header_rest-rest.result + length c.deref.result.now + 1) ≤ size_of c.args.list + 34
short g c =
    omega (
      arith,
      ap length c.closing-shut.ensures,
      closing_short c.self.inside.other_shut,
      ap length c.header_rest-rest.ensures,
      ap length (line_is g c),
      length-closed_list c.args.list,
    )

-- what the new list makes of the store, however it ended
made : (g : Over) (c : After-rewrite_gated g) (end : End)
    → RewriteRun g.D.Disk c.header_at-gate.result c.closing-shut.result.now c.header_rest-rest.result c.half_at-at.result c.deref.result.now
    c.stage_list.new.disk c.rewrite_gated.new.disk end
    → Written g.D.Disk 7 (other c.self.inside.half) (next_of c.self.inside.generation) false (length c.deref.result.now - 1)
    (max c.self.inside.size (c.half_at-at.result + length c.deref.result.now)) c.self.inside.shape c.args.list c.args.list None
    c.args.self.now c.rewrite_gated.new.disk end
made g c end run =
    let x = c.self.inside in
    rewritten g.D.Disk g.met.D.Disk.only_now g.met.D.Disk.counts_now x.half x.generation x.other_shut x.used _ c.args.self.now
    c.stage_list.new.disk c.rewrite_gated.new.disk end c.self.view_is c.self.invariant.0 c.self.invariant.1 c.if-self.false c.requires.new c.stage_list.ensures.still
    c.args.list c.header_at-gate.result c.half_at-at.result c.closing-shut.result.now c.header_rest-rest.result c.deref.result.now
    c.requires.fits (omega arith) (c.header_at-gate.ensures ∙ ap header_at c.other-other.ensures)
    (c.half_at-at.ensures ∙ ap (half_at x.shape) c.other-other.ensures) c.closing-shut.ensures c.header_rest-rest.ensures
    (c.deref.ensures.value ∙ c.in_ok-stage_list.ensures.line) run

-- the new list is laid in the other half, and counted
pub invariant_of-self-in-Ok : goal.invariant_of-self-in-Ok
invariant_of-self-in-Ok g c =
    let x = c.self.inside in
    let made = made g (goal.at.invariant_of-self-in-Ok g c).After-rewrite_gated Whole c.in-Ok.ensures.change in
    let line = c.deref.result.now in
    let new = g.D.Disk.seen c.rewrite_gated.new.disk in
    let bytes : c.len-bytes.result ≡ length line = omega arith in
    let items = c.into_listing-listing.ensures in
    let size : c.max-self-inside.result ≡ max x.size (c.half_at-at.result + length line) = omega (arith, bytes, c.max-self-inside.ensures) in
    let used : length line - 1 ≡ c.len-bytes.result - 1 = omega (arith, bytes) in (
      subst (λ (n : ℕ). IsCounted x.shape c.into_listing-listing.result.frames n) used (subst (λ (l : List Frame). IsCounted x.shape l (length line - 1))
          (sym items) made.counted),
      λ told runs_now. (
        subst (λ (h : Half). Laid x.shape h (next_of x.generation) false c.into_listing-listing.result.frames true new) (sym c.other-other.ensures)
            (subst (λ (l : List Frame). Laid x.shape (other x.half) (next_of x.generation) false l true new) (sym items) (made.laid refl told).0),
        (made.laid refl told).1 ∙ sym size,
      ),
    )

pub returns-in-Ok-clause-change : goal.returns-in-Ok-clause-change
returns-in-Ok-clause-change g c =
    (made g (goal.at.returns-in-Ok-clause-change g c).After-rewrite_gated Whole c.in-Ok.ensures.change).change

pub returns-in-Ok-clause-read : goal.returns-in-Ok-clause-read
returns-in-Ok-clause-read g c = λ told runs.
    let now = (invariant_of-self-in-Ok g c).1 told runs in
    record {
      opens = laid_opens c.self.inside.shape c.other-other.result (next_of c.self.inside.generation) false c.into_listing-listing.result.frames true
          (g.D.Disk.seen c.rewrite_gated.new.disk) now.0;
      size = now.1;
    }

-- the generations of the halves, by what is laid before and after
pub returns-in-Ok-clause-renewed : goal.returns-in-Ok-clause-renewed
returns-in-Ok-clause-renewed g c = λ told.
    let x = c.self.inside in
    let d = g.D.Disk in
    let before = (c.self.invariant.1 told c.if-self.false).0 in
    let after = ((invariant_of-self-in-Ok g c).1 told c.if-self.false).0 in
    subst (λ (s : Held g.row.D.Denot). IsRenewed s.shape (d.seen s.disk) (d.seen c.rewrite_gated.new.disk)) c.self.view_is
    (renewed x.shape x.half x.generation (d.seen x.disk) (d.seen c.rewrite_gated.new.disk) before.in_force before.generation
    (subst (λ (h : Half). InForce x.shape h (d.seen c.rewrite_gated.new.disk)) c.other-other.ensures after.in_force)
    (subst (λ (h : Half). generation_at h (d.seen c.rewrite_gated.new.disk) ≡ next_of x.generation) c.other-other.ensures after.generation))

-- the list fits in its half, and so below the store's end
pub rewrite_gated-requires-clause-reach : goal.rewrite_gated-requires-clause-reach
rewrite_gated-requires-clause-reach g c =
    omega (arith, end_small c.self.inside.shape c.self.invariant.0.limits, within g (goal.at.rewrite_gated-requires-clause-reach g c).After-deref)

pub overflow_add-at : goal.overflow_add-at
overflow_add-at g c =
    let bytes : c.len-bytes.result ≡ length c.deref.result.now = omega arith in
    omega (arith, bytes, end_small c.self.inside.shape c.self.invariant.0.limits, within g (goal.at.overflow_add-at g c).After-deref)

pub rewrite_gated-requires-clause-room : goal.rewrite_gated-requires-clause-room
rewrite_gated-requires-clause-room g c =
    let d = (goal.at.rewrite_gated-requires-clause-room g c).After-deref in
    g.met.D.Disk.room_for_less c.stage_list.new.disk 7 (0 + (size_of c.args.list + 34)) c.end-end.result
    7 (length c.closing-shut.result.now + (length c.header_rest-rest.result + length c.deref.result.now + 1))
    (c.half_at-at.result + length c.deref.result.now) (omega arith) (omega (arith, short g d)) (omega (arith, c.end-end.ensures, within g d))
    c.in_ok-stage_list.ensures.made

-- what room there was beyond the call is left
pub returns-in-Ok-clause-left : goal.returns-in-Ok-clause-left
returns-in-Ok-clause-left g c = λ calls bytes written had.
    let d = (goal.at.returns-in-Ok-clause-left g c).After-deref in
    let fs = c.args.list in
    let end = store_end c.self.inside.shape in
    let before = subst (λ (s : Held g.row.D.Denot). HasRoom g.D.Disk.has_room s (calls + 7) (bytes + (size_of fs + 34)) written)
    (sym c.self.view_is) had in
    let kept = c.stage_list.ensures.room (calls + 7) (bytes + (size_of fs + 34)) end before.disk in
    let less = g.met.D.Disk.room_for_less c.stage_list.new.disk (calls + 7) (bytes + (size_of fs + 34)) end
    (calls + 7) (bytes + (length c.closing-shut.result.now + (length c.header_rest-rest.result + length c.deref.result.now + 1))) end (omega arith)
    (omega (arith, short g d)) (omega arith) kept in
    record { disk = c.in-Ok.ensures.left calls bytes end (within g d) less; line = omega (arith, before.line, c.stage_list.ensures.wide) }

pub returns-in_err-stage_list-clause-change : goal.returns-in_err-stage_list-clause-change
returns-in_err-stage_list-clause-change g c =
    let d = g.D.Disk in
    let s = c.args.self.now in
    of_refused (ListChange d 7 s c.args.list None c.stage_list.new.disk) c.from_residual.result (search rules)
    (still_change d g.met.D.Disk.only_now 7 s c.args.list None c.stage_list.new.disk
    (subst (λ (s : Held g.row.D.Denot). Still d s.disk c.stage_list.new.disk ⊥) c.self.view_is c.stage_list.ensures.still))

pub returns-in-Err-clause-change : goal.returns-in-Err-clause-change
returns-in-Err-clause-change g c =
    (made g (goal.at.returns-in-Err-clause-change g c).After-rewrite_gated _ c.in-Err.ensures.change).change
