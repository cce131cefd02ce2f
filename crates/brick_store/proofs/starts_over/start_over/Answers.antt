-- The store is brought over, and its opening is counted.
use Rattle.std.proofs.Common.{None, ◌≡◌, ◌+◌, ℕ, max, true, false, OnOk, Result, Ok, Err, refl, sym, ap, subst, ◌∙◌, length, arith}
use Rattle.std.proofs.lemmas.Result.{err_from_is_err_and}
use Rattle.fab_disk.specs.Changing.{Whole}
use Rattle.frame_store.specs.declared.faults.FrameFault.{FrameFault}
use Rattle.frame_store.specs.declared.faults.FrameFault.TheVariants as frames
use Rattle.frame_store.specs.declared.shapes.Shape.{Shape}
use Rattle.frame_store.specs.Ends as lists
use Rattle.frame_store.specs.Images.{AreBlocks}
use Rattle.frame_store.specs.Layouts.{is_old}
use Rattle.frame_store.specs.Listed.{size_of}
use Rattle.frame_store.specs.Ends.{BringsOver}
use Rattle.frame_store.specs.Stores.{HasCome, HasRoom}
use Rattle.brick_state.specs.Entries.{Entry}
use Rattle.brick_state.specs.States.{StateOf}
use Rattle.brick_state.specs.Indexes.{state_of}
use Rattle.brick_store.specs.Bricks.{fault_of}
use Rattle.brick_store.specs.BringingOver.{cut_block}
use Rattle.brick_store.specs.Ends.{end_of}
use Rattle.brick_store.specs.Sizes.{framed}
use Rattle.brick_store.specs.Steps.{CanChange}
use Rattle.brick_store.proofs.BootCounts.{next_count}
use Rattle.brick_store.proofs.Counting.{disk_failed}
use Rattle.brick_store.proofs.HeldBlocks.{same_both}
use Rattle.brick_store.proofs.OldStarts.{ahead_old, few_boots, refused_over, sync_over, untouched_over}
use Rattle.brick_store.proofs.OldSynced.{count_synced, cut_synced, lie_counted, may_count}
use Rattle.brick_store.proofs.OpeningLaws.{tried_ends}
use Rattle.brick_store.proofs.StateChanges.{cut_means, not_whole, settled_after}
use Rattle.brick_store.proofs.Stepping.{refused, room_less}
use Rattle.brick_store.proofs.Synced.{IsSynced}
use Rattle.brick_store.proofs.starts_over.start_over.Given.{Over}
use Rattle.brick_store.proofs.starts_over.start_over.Goals.{After-bring_over}
use Rattle.brick_store.proofs.starts_over.start_over.Goals as goal

-- how it was left by the sync
synced : (g : Over) (c : After-bring_over g) → IsSynced g.D.Disk c.args.frames.now c.reserve.new.self c.sync.new.self
synced g c =
    let made = c.in_ok-reserve.ensures in
    let call = c.in_ok-sync.ensures in
    record {
      same = same_both c.args.frames.now c.reserve.new.self c.sync.new.self made.same call.same;
      runs = call.answer.halts ∙ made.answer.halts ∙ c.requires.runs;
      still = made.still;
      content = call.content;
      time = call.time;
      crash = call.crash;
      run = call.run;
      cause = call.cause;
      only = call.certain_now;
      read = call.read;
    }

-- the room that is left for the bringing over and for an append
ahead : (g : Over) (c : After-bring_over g)
    → HasRoom g.D.Disk.has_room c.sync.new.self 13
    (c.sync.new.self.shape.block + c.len.result + 7 + (length c.args.blocks.now + (size_of c.args.listed + 34)))
    (max (size_of c.args.listed + 1) (c.len.result + 6))
ahead g c =
    let made = c.in_ok-reserve.ensures in
    let are = subst (λ (s : Shape). AreBlocks s (length c.args.listed) c.args.blocks.now) (sym made.same.shape) c.requires.keeps.are in
    room_less g.D.Disk.has_room g.met.D.Disk.room_for_less c.sync.new.self _ _ _ _ _ _ (omega arith)
    (omega (arith, ap (λ (s : Shape). s.block) c.in_ok-sync.ensures.same.shape)) (omega arith)
    (c.in_ok-sync.ensures.left 13 _ _ (ahead_old g.D.Disk.has_room g.met.D.Disk.room_for_less c.reserve.new.self c.args.listed c.len.result
    c.args.blocks.now (subst (λ (s : Shape). is_old s ≡ true) (sym made.same.shape) c.requires.keeps.form) are made.room))

-- once it was brought over, it can be changed
may : (g : Over) (c : After-bring_over g) → HasCome c.args.listed c.sync.new.self c.bring_over.new.self
    → BringsOver g.D.Disk c.sync.new.self c.args.listed c.args.blocks.now c.bring_over.new.self.disk Whole
    → c.bring_over.new.self.halted ≡ c.sync.new.self.halted → CanChange g.D.Disk (state_of c.args.index.now) c.bring_over.new.self
may g c came change halts =
    may_count _ _ c.args.blocks.now _ c.requires.keeps g.D.Disk _ _ (synced g c) c.bring_over.new.self came change (halts ∙ (synced g c).runs)
    c.bring_over.ensures.read

-- ---- refused

pub returns-in_err-frame-clause-starts : goal.returns-in_err-frame-clause-starts
returns-in_err-frame-clause-starts g c =
    let p = err_from_is_err_and c.from_residual.result c.from_residual.ensures.1 in
    rw (p.1, p.2) (untouched_over g.D.Disk g.met.D.Disk.only_now g.met.D.Disk.counts_now c.args.frames.now c.requires.keeps.form)

pub returns-in_err-reserve-clause-starts : goal.returns-in_err-reserve-clause-starts
returns-in_err-reserve-clause-starts g c =
    let f = c.in_err-reserve.field-0.0 in
    let p = err_from_is_err_and c.from_residual-in_err-reserve.result c.from_residual-in_err-reserve.ensures.1 in
    rw (p.1, p.2) (refused_over g.D.Disk g.met.D.Disk.only_now g.met.D.Disk.counts_now c.args.frames.now c.requires.keeps.form c.reserve.new.self.disk
    (end_of (refused (fault_of f))) (refused f ≡ refused frames.Disk) (not_whole (fault_of f)) (cut_means f) c.in_err-reserve.ensures.still)

pub returns-in_err-sync-clause-starts : goal.returns-in_err-sync-clause-starts
returns-in_err-sync-clause-starts g c =
    let f = c.in_err-sync.field-0.0 in
    let made = c.in_ok-reserve.ensures in
    let call = c.in_err-sync.ensures in
    let few = few_boots (cut_block c.args.frames.now.shape.block c.args.blocks.now) (state_of c.args.index.now) _ c.requires.keeps.state c.requires.keeps.boots in
    let p = err_from_is_err_and c.from_residual-in_err-sync.result c.from_residual-in_err-sync.ensures.1 in
    rw (p.1, p.2) (sync_over g.D.Disk g.met.D.Disk.only_now g.met.D.Disk.counts_now c.args.frames.now c.requires.keeps.form c.reserve.new.self.disk _ made.still few
    c.sync.new.self.disk f (λ told. c.requires.read told c.requires.runs) made.certain call.content call.certain call.crash call.time call.run
    (λ is. call.no_memory (ap (refused {E = FrameFault}) is))
    (λ is. halted_not (sym (call.answer.only_then (ap (refused {E = FrameFault}) is)) ∙ made.answer.halts ∙ c.requires.runs)) call.cause)
  where
    halted_not : true ≡ false → ⊥
    halted_not e = cc

pub returns-in_err-bring_over-clause-starts : goal.returns-in_err-bring_over-clause-starts
returns-in_err-bring_over-clause-starts g c =
    let held = c.sync.new.self in
    let f = c.in_err-bring_over.field-0.0 in
    let call = c.in_err-bring_over.ensures in
    let at = (goal.at.returns-in_err-bring_over-clause-starts g c).After-bring_over in
    let never = call.room (room_less g.D.Disk.has_room g.met.D.Disk.room_for_less held _ _ _ _ _ _ (omega arith) (omega arith) (omega arith)
    (ahead g at)) in
    let is : f ≡ frames.Disk = disk_failed f held.halted (synced g at).runs call.answer.only_then never in
    let change = subst (λ (fault : FrameFault). BringsOver g.D.Disk held c.args.listed c.args.blocks.now c.bring_over.new.self.disk
    (lists.end_of (refused fault))) is call.change in
    let p = err_from_is_err_and c.from_residual-in_err-bring_over.result c.from_residual-in_err-bring_over.ensures.1 in
    rw (p.1, p.2, is) (cut_synced _ _ _ _ c.requires.keeps g.D.Disk _ _ (synced g at) g.met.D.Disk.only_now g.met.D.Disk.counts_now
    c.bring_over.new.self.disk change)

-- ---- the count

pub append_count-requires-clause-may : goal.append_count-requires-clause-may
append_count-requires-clause-may g c =
    let call = c.in_ok-bring_over.ensures in
    may g (goal.at.append_count-requires-clause-may g c).After-bring_over call.ok call.change call.answer.halts

pub append_count-requires-clause-room : goal.append_count-requires-clause-room
append_count-requires-clause-room g c =
    let call = c.in_ok-bring_over.ensures in
    let before : HasRoom g.D.Disk.has_room c.sync.new.self (5 + 8)
    (c.sync.new.self.shape.block + c.len.result + 7 + (length c.args.blocks.now + (size_of c.args.listed + 34))) (c.len.result + 6) =
    room_less g.D.Disk.has_room g.met.D.Disk.room_for_less c.sync.new.self _ _ _ _ _ _ (omega arith) (omega arith) (omega arith)
    (ahead g (goal.at.append_count-requires-clause-room g c).After-bring_over) in
    room_less g.D.Disk.has_room g.met.D.Disk.room_for_less c.bring_over.new.self _ _ _ _ _ _ (omega arith)
    (omega (arith, ap (λ (s : Shape). s.block) call.ok.shape, c.len.ensures)) (omega (arith, c.len.ensures))
    (call.left 5 _ _ before)

pub returns-clause-made : goal.returns-clause-made
returns-clause-made g c =
    subst (λ (s : StateOf Entry). OnOk c.append_count.result (state_of c.append_count.new.index ≡ s)) (next_count _ _ _ c.boot.ensures)
    c.append_count.ensures.made

pub returns-clause-listed : goal.returns-clause-listed
returns-clause-listed g c =
    let same : size_of c.bring_over.new.self.frames ≡ size_of c.args.listed = ap size_of c.in_ok-bring_over.ensures.ok.frames in
    let body = c.in_ok-frame.ensures.length in
    on_ok _ _ _ c.append_count.result
    (subst (λ (n : ℕ). OnOk c.append_count.result (size_of c.append_count.new.frames.frames ≡ size_of c.bring_over.new.self.frames + framed n)) body
    c.append_count.ensures.step.listed)
    (subst (λ (n : ℕ). size_of c.bring_over.new.self.frames + framed 4 ≡ n + framed 4) same refl)
  where
    on_ok : {E : Type 0} (a b e : ℕ) (r : Result (Unit {0}) E) → OnOk r (a ≡ b) → b ≡ e → OnOk r (a ≡ e)
    on_ok a b e (Ok value) is then = is ∙ then
    on_ok a b e (Err fault) is then = tt

pub returns-clause-lie : goal.returns-clause-lie
returns-clause-lie g c = λ told.
    let at = (goal.at.returns-clause-lie g c).After-bring_over in
    lie_counted _ _ _ _ c.requires.keeps g.D.Disk _ _ (synced g at) c.bring_over.new.self c.in_ok-bring_over.ensures.ok
    c.in_ok-bring_over.ensures.change _ c.append_count.new.frames.disk c.append_count.result c.append_count.ensures.change told

pub returns-clause-settled : goal.returns-clause-settled
returns-clause-settled g c =
    let here = c.in_ok-bring_over.ensures in
    settled_after g.D.Disk 4 None _ _ c.bring_over.new.self c.append_count.new.frames c.append_count.result
    (may g (goal.at.returns-clause-settled g c).After-bring_over here.ok here.change here.answer.halts) c.append_count.ensures.step
    c.append_count.ensures.change

pub returns-clause-starts : goal.returns-clause-starts
returns-clause-starts g c =
    let call = c.in_ok-bring_over.ensures in
    let count = c.append_count.ensures in
    let at = (goal.at.returns-clause-starts g c).After-bring_over in
    count_synced _ _ _ _ c.requires.keeps g.D.Disk _ _ (synced g at) g.met.D.Disk.only_now g.met.D.Disk.counts_now
    c.bring_over.new.self _ c.append_count.new.frames.disk (end_of c.append_count.result) call.ok
    (may g at call.ok call.change call.answer.halts) call.change
    (next_count _ _ _ c.boot.ensures) count.change (tried_ends c.append_count.result count.step.only count.no_memory)
