use Rattle.std.proofs.Common.{rules, inl, ◌≡◌, ◌≤◌, ◌+◌, ◌-◌, max, length, ℕ, List, true, false, refl, sym, ap, subst, arith, ◌∙◌}
use Rattle.fab_disk.specs.Changing.{Whole, End, Still}
use Rattle.fab_disk.proofs.Changing.{still}
use Rattle.frame_store.specs.declared.frames.Frame.{Frame}
use Rattle.frame_store.specs.declared.shapes.Form.TheVariants.{Moved}
use Rattle.frame_store.specs.declared.shapes.Half.{Half}
use Rattle.frame_store.specs.declared.shapes.Shape.{Shape}
use Rattle.frame_store.specs.Ends.{BringsOver}
use Rattle.frame_store.specs.Layouts.{formed, half_at, header_at, header_rest, slot_at, store_end}
use Rattle.frame_store.specs.Listed.{closed_list, size_of}
use Rattle.frame_store.specs.Laid.{other, Laid, IsCounted}
use Rattle.frame_store.specs.Images.{OpensAs, IsBroughtOver}
use Rattle.frame_store.specs.Steps.{next_of}
use Rattle.frame_store.specs.Stores.{Held, HasRoom}
use Rattle.frame_store.proofs.Brought.{BringRun, Comes, Within, came, brought_within, brought_few}
use Rattle.frame_store.proofs.Changes.{laid_opens}
use Rattle.frame_store.proofs.Ends.{of_refused}
use Rattle.frame_store.proofs.Headers.{header_within}
use Rattle.frame_store.proofs.Exits.{end_small}
use Rattle.frame_store.proofs.Shutting.{length-closed_list, closing_short}
use Rattle.frame_store.proofs.stores.FrameStore.bring_over.Given.{Over}
use Rattle.frame_store.proofs.stores.FrameStore.bring_over.Goals.{After-deref, After-bring_gated}
use Rattle.frame_store.proofs.stores.FrameStore.bring_over.Goals as goal

-- where the list is laid in the new format, and the line of it that was staged
list_at : (g : Over) (c : After-deref g) → c.half_at-at.result ≡ half_at (formed Moved c.self.inside.shape) (other c.self.inside.half)
list_at g c = c.half_at-at.ensures ∙ ap (half_at c.formed-shape.result) c.other-other.ensures
    ∙ ap (λ (s : Shape). half_at s (other c.self.inside.half)) c.formed-shape.ensures

start_at : (g : Over) (c : After-deref g) → c.slot_at-start.result ≡ slot_at (formed Moved c.self.inside.shape) 0
start_at g c = c.slot_at-start.ensures ∙ ap (λ (s : Shape). slot_at s 0) c.formed-shape.ensures

line_is : (g : Over) (c : After-deref g) → c.deref.result.now ≡ closed_list c.args.frames
line_is g c = c.deref.ensures.value ∙ c.in_ok-stage_list.ensures.line

-- blocks, list and header lie below the store's end
within : (g : Over) (c : After-deref g) → Within c.self.inside.shape c.self.inside.half c.args.frames c.args.blocks.now
within g c = brought_within _ c.args.self.now c.self.inside.half c.args.frames c.args.blocks.now c.self.view_is c.requires.old c.requires.fits
    c.requires.blocks

-- what is written is no longer than what room was made for
short : (g : Over) (c : After-deref g)
    → length c.closing-shut.result.now + (length c.args.blocks.now + (length c.deref.result.now + length c.header_rest-rest.result) + 1)
    ≤ length c.args.blocks.now + (size_of c.args.frames + 34)
short g c =
    omega (
      arith,
      ap length c.closing-shut.ensures,
      closing_short c.self.inside.other_shut,
      ap length c.header_rest-rest.ensures,
      ap length (line_is g c),
      length-closed_list c.args.frames,
    )

-- what the blocks and the list make of the store, however it ended
made : (g : Over) (c : After-bring_gated g) (end : End)
    → BringRun g.D.Disk c.header_at-gate.result c.closing-shut.result.now c.slot_at-start.result c.args.blocks.now c.half_at-at.result
    c.deref.result.now c.header_rest-rest.result c.stage_list.new.disk c.bring_gated.new.disk end
    → Comes g.D.Disk (other c.self.inside.half) (next_of c.self.inside.generation) (length c.deref.result.now - 1)
    (max c.self.inside.size (c.half_at-at.result + length c.deref.result.now)) c.args.frames c.args.blocks.now c.self.inside.shape
    c.args.self.now c.bring_gated.new.disk end
made g c end run =
    let x = c.self.inside in
    came g.D.Disk g.met.D.Disk.only_now g.met.D.Disk.counts_now x.half x.generation x.other_shut x.used _ c.args.self.now
    c.stage_list.new.disk c.bring_gated.new.disk end c.self.view_is c.self.invariant.0 c.self.invariant.1 c.if-self.false c.requires.old
    c.stage_list.ensures.still c.args.frames c.args.blocks.now c.requires.fits c.requires.blocks (omega arith)
    c.header_at-gate.result c.slot_at-start.result c.half_at-at.result c.closing-shut.result.now c.header_rest-rest.result c.deref.result.now
    (c.header_at-gate.ensures ∙ ap header_at c.other-other.ensures) (c.slot_at-start.ensures ∙ ap (λ (s : Shape). slot_at s 0) c.formed-shape.ensures)
    (c.half_at-at.ensures ∙ ap (half_at c.formed-shape.result) c.other-other.ensures ∙ ap (λ (s : Shape). half_at s (other x.half)) c.formed-shape.ensures)
    c.closing-shut.ensures (c.header_rest-rest.ensures ∙ ap (λ (s : Shape). header_rest s (next_of x.generation)) c.formed-shape.ensures)
    (c.deref.ensures.value ∙ c.in_ok-stage_list.ensures.line) run

-- the new list is laid in the other half of the index, and counted
pub invariant_of-self-in-Ok : goal.invariant_of-self-in-Ok
invariant_of-self-in-Ok g c =
    let x = c.self.inside in
    let to : c.formed-shape.result ≡ formed Moved x.shape = c.formed-shape.ensures in
    let made = made g (goal.at.invariant_of-self-in-Ok g c).After-bring_gated Whole c.in-Ok.ensures.change in
    let line = c.deref.result.now in
    let new = g.D.Disk.seen c.bring_gated.new.disk in
    let moved = formed Moved x.shape in
    let bytes : c.len-bytes.result ≡ length line = omega arith in
    let items : c.into_listing-listing.result.frames ≡ c.args.frames = c.into_listing-listing.ensures in
    let size : c.max-self-inside.result ≡ max x.size (c.half_at-at.result + length line) = omega (arith, bytes, c.max-self-inside.ensures) in
    let used : length line - 1 ≡ c.len-bytes.result - 1 = omega (arith, bytes) in (
      subst (λ (s : Shape). IsCounted s c.into_listing-listing.result.frames (c.len-bytes.result - 1)) (sym to)
          (subst (λ (n : ℕ). IsCounted moved c.into_listing-listing.result.frames n) used
          (subst (λ (l : List Frame). IsCounted moved l (length line - 1)) (sym items) made.counted)),
      λ told runs_now. (
        subst (λ (s : Shape). Laid s c.other-other.result (next_of x.generation) false c.into_listing-listing.result.frames true new) (sym to)
            (subst (λ (h : Half). Laid moved h (next_of x.generation) false c.into_listing-listing.result.frames true new) (sym c.other-other.ensures)
            (subst (λ (l : List Frame). Laid moved (other x.half) (next_of x.generation) false l true new) (sym items) (made.laid refl told).0)),
        (made.laid refl told).1 ∙ sym size,
      ),
    )

pub returns-in-Ok-clause-change : goal.returns-in-Ok-clause-change
returns-in-Ok-clause-change g c =
    (made g (goal.at.returns-in-Ok-clause-change g c).After-bring_gated Whole c.in-Ok.ensures.change).change

pub returns-in-Ok-clause-read : goal.returns-in-Ok-clause-read
returns-in-Ok-clause-read g c = λ told runs.
    let now = (invariant_of-self-in-Ok g c).1 told runs in
    record {
      opens = laid_opens c.formed-shape.result c.other-other.result (next_of c.self.inside.generation) false c.into_listing-listing.result.frames true
          (g.D.Disk.seen c.bring_gated.new.disk) now.0;
      size = now.1;
    }

pub returns-in-Err-clause-change : goal.returns-in-Err-clause-change
returns-in-Err-clause-change g c =
    (made g (goal.at.returns-in-Err-clause-change g c).After-bring_gated _ c.in-Err.ensures.change).change

pub returns-in_err-stage_list-clause-change : goal.returns-in_err-stage_list-clause-change
returns-in_err-stage_list-clause-change g c =
    let d = g.D.Disk in
    let s = c.args.self.now in
    of_refused (BringsOver d s c.args.frames c.args.blocks.now c.stage_list.new.disk) c.from_residual.result (search rules)
    (still d g.met.D.Disk.only_now (OpensAs s.shape s.frames true) _ (λ image is. inl is) s.disk c.stage_list.new.disk ⊥
    (subst (λ (s : Held g.row.D.Denot). Still d s.disk c.stage_list.new.disk ⊥) c.self.view_is c.stage_list.ensures.still) 8
    (IsBroughtOver s.shape c.args.frames c.args.blocks.now))

-- the blocks are few
pub stage_list-requires-clause-few : goal.stage_list-requires-clause-few
stage_list-requires-clause-few g c =
    omega (arith, brought_few _ c.args.self.now c.args.frames c.args.blocks.now c.self.view_is c.self.invariant.0.limits c.requires.blocks)

pub overflow_add-at : goal.overflow_add-at
overflow_add-at g c =
    let d = (goal.at.overflow_add-at g c).After-deref in
    let bytes : c.len-bytes.result ≡ length c.deref.result.now = omega arith in
    omega (
      arith,
      bytes,
      ap length (line_is g d),
      length-closed_list c.args.frames,
      list_at g d,
      (within g d).list_below,
      end_small c.self.inside.shape c.self.invariant.0.limits,
    )

-- the eight calls have their room, and blocks, list and header lie below the store's end
pub bring_gated-requires : goal.bring_gated-requires
bring_gated-requires g c =
    let x = c.self.inside in
    let d = (goal.at.bring_gated-requires g c).After-deref in
    let gate_is = c.header_at-gate.ensures ∙ ap header_at c.other-other.ensures in
    let below = within g d in
    record {
      reach = omega (arith, c.end-end.ensures, end_small x.shape c.self.invariant.0.limits);
      shut = omega (arith, c.end-end.ensures, ap length c.closing-shut.ensures, closing_short x.other_shut, gate_is, header_within (other x.half), below.headers_below);
      blocks = omega (arith, c.end-end.ensures, start_at g d, below.blocks_below);
      list = omega (arith, c.end-end.ensures, list_at g d, ap length (line_is g d), length-closed_list c.args.frames, below.list_below);
      rest = omega (arith, c.end-end.ensures, gate_is, header_within (other x.half), below.headers_below);
      room = g.met.D.Disk.room_for_less c.stage_list.new.disk 8 (length c.args.blocks.now + (size_of c.args.frames + 34)) c.end-end.result 8
          (length c.closing-shut.result.now + (length c.args.blocks.now + (length c.deref.result.now + length c.header_rest-rest.result) + 1))
          c.end-end.result (omega arith) (omega (arith, short g d)) (omega arith) c.in_ok-stage_list.ensures.made;
    }

-- what room there was beyond the call is left
pub returns-in-Ok-clause-left : goal.returns-in-Ok-clause-left
returns-in-Ok-clause-left g c = λ calls bytes written had.
    let d = (goal.at.returns-in-Ok-clause-left g c).After-deref in
    let end = store_end c.self.inside.shape in
    let room = length c.args.blocks.now + (size_of c.args.frames + 34) in
    let all = length c.closing-shut.result.now + (length c.args.blocks.now + (length c.deref.result.now + length c.header_rest-rest.result) + 1) in
    let before = subst (λ (s : Held g.row.D.Denot). HasRoom g.D.Disk.has_room s (calls + 8) (bytes + room) written) (sym c.self.view_is) had in
    let less = g.met.D.Disk.room_for_less c.stage_list.new.disk (calls + 8) (bytes + room) end (calls + 8) (bytes + all) end (omega arith)
    (omega (arith, short g d)) (omega arith) (c.stage_list.ensures.room (calls + 8) (bytes + room) end before.disk) in
    let left = c.in-Ok.ensures.left calls bytes
    (subst (λ (e : ℕ). g.D.Disk.has_room c.stage_list.new.disk (calls + 8) (bytes + all) e) (sym c.end-end.ensures) less) in
    record {
      disk = subst (λ (e : ℕ). g.D.Disk.has_room c.bring_gated.new.disk calls bytes e) (c.end-end.ensures ∙ (within g d).end_is
          ∙ ap store_end (sym c.formed-shape.ensures)) left;
      line = omega (arith, before.line, c.stage_list.ensures.wide);
    }
