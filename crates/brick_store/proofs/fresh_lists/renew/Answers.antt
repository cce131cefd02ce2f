-- The frames of the live records bring the state back, and all memory is taken first.
use Rattle.std.proofs.Common.{rules, ◌≡◌, ℕ, ◌+◌, ◌≤◌, max, false, List, None, refl, sym, ap, subst, ◌∙◌, arith}
use Rattle.std.proofs.lemmas.Result.{err_from_is_err_and}
use Rattle.fab_disk.specs.Changing.{Cut, NotBegun, Whole}
use Rattle.frame_store.specs.declared.faults.FrameFault.{FrameFault}
use Rattle.frame_store.specs.declared.faults.FrameFault.TheVariants as frames
use Rattle.frame_store.specs.declared.frames.Frame.{Frame}
use Rattle.frame_store.specs.declared.shapes.Shape.{Shape}
use Rattle.frame_store.specs.Ends as lists
use Rattle.frame_store.specs.Ends.{ListChange}
use Rattle.frame_store.specs.Layouts.{is_old}
use Rattle.frame_store.specs.Listed.{size_of}
use Rattle.frame_store.specs.Stores.{HasRoom}
use Rattle.frame_store.proofs.Stills.{still_none}
use Rattle.brick_state.specs.States.{empty, live}
use Rattle.brick_state.specs.Indexes.{state_of}
use Rattle.brick_store.specs.Bricks.{fault_of}
use Rattle.brick_store.specs.Ends.{end_of}
use Rattle.brick_store.specs.Images.{limits_of}
use Rattle.brick_store.specs.Sizes.{most_listed}
use Rattle.brick_store.specs.Standing.{Leads}
use Rattle.brick_store.proofs.Counting.{disk_failed}
use Rattle.brick_store.proofs.FreshLists.{live_lead}
use Rattle.brick_store.proofs.HeldBlocks.{same_both}
use Rattle.brick_store.proofs.Readying.{refused_ready, rewritten_ready, sync_ready}
use Rattle.brick_store.proofs.StateChanges.{cut_means, not_whole}
use Rattle.brick_store.proofs.Stepping.{ahead_new, not_halted, refused, reserved_new, room_less}
use Rattle.brick_store.proofs.Synced.{IsSynced}
use Rattle.brick_store.proofs.fresh_lists.renew.Given.{Over}
use Rattle.brick_store.proofs.fresh_lists.renew.Goals.{After-rewrite}
use Rattle.brick_store.proofs.fresh_lists.renew.Goals as goal

-- the frames of the live records lead to the state
leads : (g : Over) (c : After-rewrite g) → Leads (limits_of c.args.frames.now.shape) c.in_ok-live.live empty (state_of c.args.index.now)
leads g c =
    live_lead (limits_of c.args.frames.now.shape) c.in_ok-live.live (state_of c.args.index.now) c.requires.held.kept c.in_ok-live.ensures.read

-- how the store was left by the sync
synced : (g : Over) (c : After-rewrite g) → IsSynced g.D.Disk c.args.frames.now c.reserve.new.self c.sync.new.self
synced g c =
    let made = c.in_ok-reserve.ensures in
    let call = c.in_ok-sync.ensures in
    record {
      same = same_both c.args.frames.now c.reserve.new.self c.sync.new.self made.same call.same;
      runs = call.answer.halts ∙ made.answer.halts ∙ c.requires.held.runs;
      still = made.still;
      content = call.content;
      time = call.time;
      crash = call.crash;
      run = call.run;
      cause = call.cause;
      only = call.certain_now;
      read = call.read;
    }

-- the room that is left for the rewriting and for an append
ahead : (g : Over) (c : After-rewrite g)
    → HasRoom g.D.Disk.has_room c.sync.new.self 12
    (c.sync.new.self.shape.block + c.args.body + 7 + (size_of c.in_ok-live.live + 34))
    (max (size_of c.in_ok-live.live + 1) (c.args.body + 6))
ahead g c =
    let made = c.in_ok-reserve.ensures in
    room_less g.D.Disk.has_room g.met.D.Disk.room_for_less c.sync.new.self _ _ _ _ _ _ (omega arith)
    (omega (arith, ap (λ (s : Shape). s.block) c.in_ok-sync.ensures.same.shape))
    (omega arith)
    (c.in_ok-sync.ensures.left 12 _ _ (ahead_new g.D.Disk.has_room c.reserve.new.self c.in_ok-live.live c.args.body
    (reserved_new c.args.frames.now c.reserve.new.self c.requires.held.slotted made.same) made.room))

-- ---- made ready, or not

pub returns-in_err-live-clause-readies : goal.returns-in_err-live-clause-readies
returns-in_err-live-clause-readies g c =
    let p = err_from_is_err_and c.from_residual.result c.from_residual.ensures.1 in
    rw (p.1, p.2) (refused_ready g.D.Disk g.met.D.Disk.only_now (state_of c.args.index.now) c.args.frames.now 8 c.args.frames.now.disk NotBegun ⊥
    (λ is. absurd cc) (λ is. absurd cc) (still_none g.D.Disk c.args.frames.now.disk))

pub returns-in_err-reserve-clause-readies : goal.returns-in_err-reserve-clause-readies
returns-in_err-reserve-clause-readies g c =
    let f = c.in_err-reserve.field-0.0 in
    let p = err_from_is_err_and c.from_residual-in_err-reserve.result c.from_residual-in_err-reserve.ensures.1 in
    rw (p.1, p.2) (refused_ready g.D.Disk g.met.D.Disk.only_now (state_of c.args.index.now) c.args.frames.now 8 c.reserve.new.self.disk
    (end_of (refused (fault_of f))) (refused f ≡ refused frames.Disk) (not_whole (fault_of f)) (cut_means f) c.in_err-reserve.ensures.still)

pub returns-in_err-sync-clause-readies : goal.returns-in_err-sync-clause-readies
returns-in_err-sync-clause-readies g c =
    let f = c.in_err-sync.field-0.0 in
    let made = c.in_ok-reserve.ensures in
    let call = c.in_err-sync.ensures in
    let p = err_from_is_err_and c.from_residual-in_err-sync.result c.from_residual-in_err-sync.ensures.1 in
    rw (p.1, p.2) (sync_ready g.D.Disk g.met.D.Disk.only_now (state_of c.args.index.now) c.args.frames.now _ c.requires.held g.met.D.Disk.counts_now 8
    c.reserve.new.self.disk c.sync.new.self.disk f _ (omega arith) made.still made.certain call.content call.certain call.crash call.time call.run
    (λ is. call.no_memory (ap (refused {E = FrameFault}) is)) (not_halted f (made.answer.halts ∙ c.requires.held.runs) call.answer) call.cause)

pub returns-in_err-rewrite-clause-readies : goal.returns-in_err-rewrite-clause-readies
returns-in_err-rewrite-clause-readies g c =
    let held = c.sync.new.self in
    let f = c.in_err-rewrite.field-0.0 in
    let call = c.in_err-rewrite.ensures in
    let at = (goal.at.returns-in_err-rewrite-clause-readies g c).After-rewrite in
    let never = call.room (room_less g.D.Disk.has_room g.met.D.Disk.room_for_less held _ _ _ _ _ _ (omega arith) (omega arith) (omega arith) (ahead g at)) in
    let is : f ≡ frames.Disk = disk_failed f held.halted (synced g at).runs call.answer.only_then never in
    let change = subst (λ (fault : FrameFault). ListChange g.D.Disk 7 held c.in_ok-live.live None c.rewrite.new.self.disk
    (lists.end_of (refused fault))) is call.change in
    let p = err_from_is_err_and c.from_residual-in_err-rewrite.result c.from_residual-in_err-rewrite.ensures.1 in
    rw (p.1, p.2, is) (rewritten_ready g.D.Disk g.met.D.Disk.only_now (state_of c.args.index.now) c.args.frames.now _ c.requires.held c.reserve.new.self held
    c.rewrite.new.self.disk c.in_ok-live.live Cut (synced g at) (leads g at) (λ whole cut. cut refl) (λ is. absurd cc) change)

pub returns-clause-readies : goal.returns-clause-readies
returns-clause-readies g c =
    let at = (goal.at.returns-clause-readies g c).After-rewrite in
    rewritten_ready g.D.Disk g.met.D.Disk.only_now (state_of c.args.index.now) c.args.frames.now _ c.requires.held c.reserve.new.self c.sync.new.self
    c.rewrite.new.self.disk c.in_ok-live.live Whole (synced g at) (leads g at) (λ whole cut. whole refl) (λ is. absurd cc) c.in_ok-rewrite.ensures.change

pub returns-clause-may : goal.returns-clause-may
returns-clause-may g c =
    let new = c.rewrite.new.self in
    let here = c.in_ok-rewrite.ensures in
    let at = (goal.at.returns-clause-may g c).After-rewrite in
    let shape : new.shape ≡ c.args.frames.now.shape = here.ok.shape ∙ (synced g at).same.shape in
    let runs : new.halted ≡ false = here.answer.halts ∙ (synced g at).runs in
    record {
      runs = runs;
      slotted = subst (λ (s : Shape). is_old s ≡ false) (sym shape) c.requires.held.slotted;
      leads = subst (λ (s : Shape). Leads (limits_of s) new.frames empty (state_of c.args.index.now)) (sym shape)
          (subst (λ (xs : List Frame). Leads (limits_of c.args.frames.now.shape) xs empty (state_of c.args.index.now)) (sym here.ok.frames) (leads g at));
      settled = λ told. record { only = (here.change.whole refl told).only; shows = here.read told runs; closed = here.ok.closed };
    }

pub returns-clause-room : goal.returns-clause-room
returns-clause-room g c =
    let mid = c.sync.new.self in
    let call = c.in_ok-rewrite.ensures in
    let before : HasRoom g.D.Disk.has_room mid (5 + 7) (mid.shape.block + c.args.body + 7 + (size_of c.in_ok-live.live + 34)) (c.args.body + 6) =
    room_less g.D.Disk.has_room g.met.D.Disk.room_for_less mid _ _ _ _ _ _ (omega arith) (omega arith) (omega arith)
    (ahead g (goal.at.returns-clause-room g c).After-rewrite) in
    room_less g.D.Disk.has_room g.met.D.Disk.room_for_less c.rewrite.new.self _ _ _ _ _ _ (omega arith)
    (omega (arith, ap (λ (s : Shape). s.block) call.ok.shape)) (omega arith) (call.left 5 _ _ before)

pub returns-clause-listed : goal.returns-clause-listed
returns-clause-listed g c =
    let few : ℕ = most_listed (live (state_of c.args.index.now)) in
    subst (λ (fs : List Frame). size_of fs ≤ few) (sym c.in_ok-rewrite.ensures.ok.frames) c.in_ok-live.ensures.size

pub returns-clause-slots : goal.returns-clause-slots
returns-clause-slots g c =
    let slots = λ (told : g.D.Disk.tells). (c.in_ok-rewrite.ensures.change.whole refl told).has.slots in
    search (rules, slots)
