use Rattle.std.proofs.lemmas.Grind.{common_steps}
use Rattle.std.proofs.Common.{◌≡◌, ◌++◌, ◌∷◌, [], ◌+◌, max, length, ℕ, List, true, Some, refl, sym, ap, subst, rules, arith, ◌∙◌}
use Rattle.fab_disk.specs.Changing.{End, Whole, Still}
use Rattle.frame_store.specs.declared.frames.Frame.{Frame}
use Rattle.frame_store.specs.Ends.{ListChange}
use Rattle.frame_store.specs.Listed.{frame_of, line_of}
use Rattle.frame_store.specs.Laid.{Laid, IsCounted}
use Rattle.frame_store.specs.Stores.{Held}
use Rattle.frame_store.proofs.Changes.{laid_opens}
use Rattle.frame_store.proofs.Ends.{of_refused}
use Rattle.frame_store.proofs.Exits.{still_change}
use Rattle.frame_store.proofs.Writes.{PutRun, Written, put}
use Rattle.frame_store.proofs.stores.FrameStore.append_with.Given.{Over}
use Rattle.frame_store.proofs.stores.FrameStore.append_with.Goals.{After-write_both_gated}
use Rattle.frame_store.proofs.stores.FrameStore.append_with.Goals as goal

-- what the frame and its block make of the list, however it ended
made : (g : Over) (c : After-write_both_gated g) (end : End)
    → PutRun g.D.Disk (c.half_at.result + c.self.inside.used) c.deref.result.now c.slot_at-at.result c.args.block.now c.stage.new.disk c.write_both_gated.new.disk end
    → Written g.D.Disk 5 c.self.inside.half c.self.inside.generation c.self.inside.other_shut (c.self.inside.used + length c.deref.result.now)
    (max c.self.inside.size (c.half_at.result + c.self.inside.used + 1 + length c.deref.result.now)) c.self.inside.shape
    (c.self.inside.list.frames ++ c.args.frame ∷ []) (c.args.self.now.frames ++ c.args.frame ∷ []) (Some (c.args.slot, c.args.block.now)) c.args.self.now
    c.write_both_gated.new.disk end
made g c end run =
    let x = c.self.inside in
    let line_is = c.deref.ensures.value ∙ c.in_ok-stage.ensures.line
    ∙ ap (λ (body : List ℕ). line_of (frame_of c.args.frame.kind body)) c.as_slice-body.ensures.value in
    put g.D.Disk g.met.D.Disk.only_now g.met.D.Disk.counts_now x.half x.generation x.other_shut x.used _ c.args.self.now c.stage.new.disk
    c.write_both_gated.new.disk end c.self.view_is c.self.invariant.0 c.self.invariant.1 c.if-self.false c.requires.new c.stage.ensures.still (c.half_at.result + x.used)
    c.args.frame c.deref.result.now (ap (λ (n : ℕ). n + x.used) c.half_at.ensures) c.requires.fits line_is c.args.slot c.args.block.now
    c.slot_at-at.result c.requires.slot c.requires.block c.slot_at-at.ensures run

pub returns-in-Ok-clause-change : goal.returns-in-Ok-clause-change
returns-in-Ok-clause-change g c =
    (made g (goal.at.returns-in-Ok-clause-change g c).After-write_both_gated Whole c.in-Ok.ensures.change).change

-- the new list is laid, and counted
pub invariant_of-self-in-Ok : goal.invariant_of-self-in-Ok
invariant_of-self-in-Ok g c =
    let x = c.self.inside in
    let made = made g (goal.at.invariant_of-self-in-Ok g c).After-write_both_gated Whole c.in-Ok.ensures.change in
    let bytes : c.len-bytes.result ≡ length c.deref.result.now = omega arith in
    let items : c.with-self-inside.result.frames ≡ x.list.frames ++ c.args.frame ∷ [] = c.with-self-inside.ensures
    ∙ ap (λ (body : List ℕ). x.list.frames ++ frame_of c.args.frame.kind body ∷ []) c.as_slice-body.ensures.value in
    let size : c.max-self-inside.result ≡ max x.size (c.half_at.result + x.used + 1 + length c.deref.result.now) =
    omega (arith, bytes, c.max-self-inside.ensures) in
    let used : x.used + length c.deref.result.now ≡ x.used + c.len-bytes.result = omega (arith, bytes) in (
      subst (λ (n : ℕ). IsCounted x.shape c.with-self-inside.result.frames n) used
          (subst (λ (fs : List Frame). IsCounted x.shape fs (x.used + length c.deref.result.now)) (sym items) made.counted),
      λ told runs. (
        subst (λ (fs : List Frame). Laid x.shape x.half x.generation x.other_shut fs true (g.D.Disk.seen c.write_both_gated.new.disk)) (sym items)
            (made.laid refl told).0,
        (made.laid refl told).1 ∙ sym size,
      ),
    )

pub returns-in-Ok-clause-read : goal.returns-in-Ok-clause-read
returns-in-Ok-clause-read g c = λ told runs.
    let x = c.self.inside in
    let now = (invariant_of-self-in-Ok g c).1 told runs in
    record {
      opens = laid_opens x.shape x.half x.generation x.other_shut c.with-self-inside.result.frames true
          (g.D.Disk.seen c.write_both_gated.new.disk) now.0;
      size = now.1;
    }

pub returns-in_err-stage-clause-change : goal.returns-in_err-stage-clause-change
returns-in_err-stage-clause-change g c =
    let d = g.D.Disk in
    let s = c.args.self.now in
    let after = s.frames ++ c.args.frame ∷ [] in
    of_refused (ListChange d 5 s after (Some (c.args.slot, c.args.block.now)) c.stage.new.disk) c.from_residual.result (search rules)
    (still_change d g.met.D.Disk.only_now 5 s after (Some (c.args.slot, c.args.block.now)) c.stage.new.disk
    (subst (λ (s : Held g.row.D.Denot). Still d s.disk c.stage.new.disk ⊥) c.self.view_is c.stage.ensures.still))

pub returns-clause-change : goal.returns-clause-change
returns-clause-change g c =
    (made g (goal.at.returns-clause-change g c).After-write_both_gated _ c.in-Err.ensures.change).change

pub write_both_gated-requires-clause-reach : goal.write_both_gated-requires-clause-reach
write_both_gated-requires-clause-reach g c = grind (arith, common_steps)
