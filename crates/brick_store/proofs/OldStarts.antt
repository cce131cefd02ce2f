-- An old store that is brought over and counted.
use Rattle.std.proofs.Common.{◌≡◌, ◌⊎◌, inl, inr, ⊎_elim, ℕ, ◌+◌, ◌*◌, ◌<◌, ◌≤◌, Bool, true, false, if◌then◌else◌, cond, eqb, None, List, length, refl, sym, ap, subst, ◌∙◌, arith}
use Rattle.std.specs.Prelude.{replicate, take, drop, min, max, IsOk}
use Rattle.std.proofs.Math.Nat.{mul-le-mul_right}
use Rattle.std.proofs.lemmas.Bool.{cases_lt}
use Rattle.fab_disk.specs.declared.disk.Disk as on_disk
use Rattle.fab_disk.specs.Disk.{Elapses, IsUntouched, Kept, LeavesOnly}
use Rattle.fab_disk.specs.Plan.{IsRun}
use Rattle.fab_disk.specs.Changing.{End, Whole, Cut, NotBegun, Change, Stands, Still}
use Rattle.fab_disk.proofs.Moments.{joined, kept_both, widened}
use Rattle.fab_disk.proofs.Plans.{run_after, run_as, run_both, run_cut, run_not_begun}
use Rattle.frame_store.specs.declared.faults.FrameFault.{FrameFault}
use Rattle.frame_store.specs.declared.faults.FrameFault.TheVariants as frames
use Rattle.frame_store.specs.declared.frames.Frame.{Frame}
use Rattle.frame_store.specs.declared.shapes.Form.TheVariants.{New, Moved}
use Rattle.frame_store.specs.declared.shapes.Shape.{Shape}
use Rattle.frame_store.specs.Images.{part, block_in, AreBlocks, IsBroughtOver, KeepsSlots, OpensAs}
use Rattle.frame_store.specs.Layouts.{IsShape, formed, is_old, slot_at}
use Rattle.frame_store.specs.Listed.{size_of}
use Rattle.frame_store.specs.Stores.{Held, HasRoom, HasRoomAhead, Shows}
use Rattle.frame_store.proofs.Openings.{untouched_both}
use Rattle.frame_store.proofs.Parts.{part_inside, part_of_part}
use Rattle.frame_store.proofs.Stills.{still_none}
use Rattle.version_log.specs.Versions.{Version}
use Rattle.brick_state.specs.Entries.{Entry}
use Rattle.brick_state.specs.States.{StateOf, booted, empty}
use Rattle.brick_store.specs.Blocks.{resolved}
use Rattle.brick_store.specs.Bricks.{fault_of}
use Rattle.brick_store.specs.BringingOver.{IsAmong, LiesIn, cut_block}
use Rattle.brick_store.specs.Ends.{end_of}
use Rattle.brick_store.specs.Images.{block_at, limits_of, StandsFor, StandsForEither}
use Rattle.brick_store.specs.OldLists.{old_state_in}
use Rattle.brick_store.specs.Openings.{IsAllowedOr, IsInside, StartsOver}
use Rattle.brick_store.specs.Standing.{AllSlots, Leads}
use Rattle.brick_store.specs.Steps.{CanChange, IsSettled, LeadsTo}
use Rattle.brick_store.proofs.Changing.{leads_folded}
use Rattle.brick_store.proofs.FailedSyncs.{failed_cause, failed_clock, failed_run}
use Rattle.brick_store.proofs.FreshLists.{synced_allowed}
use Rattle.brick_store.proofs.OldOpenings.{old_state}
use Rattle.brick_store.proofs.Opened.{kept_stands}
use Rattle.brick_store.proofs.OpeningLaws.{kept_for}
use Rattle.brick_store.proofs.Resolving.{boot-resolved, resolved_same, slots_imply}
use Rattle.brick_store.proofs.Starting.{kept_leads, still_allowed}
use Rattle.brick_store.proofs.StateChanges.{not_begun_so}
use Rattle.brick_store.proofs.Stepping.{refused, room_less, slots_same}

-- ---- images

-- an image of the old list stands for what that makes
pub before_over : (shape : Shape) (frames : List Frame) (image : List ℕ) → is_old shape ≡ true → OpensAs shape frames true image
    → StandsFor (formed New shape) (old_state_in shape.block shape.records frames) image
before_over shape frames image old opens =
    record { form = shape.form; frames = frames; opens = opens; state = old_state shape.form shape frames image old }

-- a block that was brought over lies in its slot
over_block : (shape : Shape) (blocks image : List ℕ) (slot : ℕ) → IsShape shape
    → part (slot_at (formed Moved shape) 0) (length blocks) image ≡ blocks → IsAmong shape.block (length blocks) slot
    → block_at (formed Moved shape) image slot ≡ cut_block shape.block blocks slot
over_block shape blocks image slot limits stand (inl zero_block) = rw zero_block refl
over_block shape blocks image slot limits stand (inr fits) =
    let start = slot_at (formed Moved shape) 0 in
    let size = shape.block in
    let inside = part_inside start (length blocks) image (omega (arith, fits, limits.some_bytes)) (ap length stand) in
    ap (λ (bytes : List ℕ). cond (eqb slot 4294967295) (replicate size 0) bytes)
    (sym (part_of_part start (length blocks) (slot * size) size (slot_at (formed Moved shape) slot) image fits inside (omega arith))
    ∙ ap (part (slot * size) size) stand)

-- an image of the store that was brought over stands for the state that its list leads to
pub after_over : (shape : Shape) (frames : List Frame) (blocks image : List ℕ) (st : StateOf Entry) → IsShape shape
    → Leads (limits_of shape) frames empty st → AllSlots (IsAmong shape.block (length blocks)) st → IsBroughtOver shape frames blocks image
    → StandsFor (formed New shape) (resolved (cut_block shape.block blocks) st) image
after_over shape frames blocks image st limits leads among is = record {
  form = Moved;
  frames = frames;
  opens = is.opens;
  state =
      ap (resolved (block_at (formed Moved shape) image)) (leads_folded (limits_of shape) frames empty st leads)
      ∙ resolved_same (block_at (formed Moved shape) image) (cut_block shape.block blocks) st
      (slots_imply (IsAmong shape.block (length blocks)) (λ slot. block_at (formed Moved shape) image slot ≡ cut_block shape.block blocks slot)
      (λ slot. over_block shape blocks image slot limits is.stand) st among);
}

-- its slot is one of the new store's
among_inside : (shape : Shape) (blocks image : List ℕ) (count slot : ℕ) → IsShape shape → length blocks ≡ count * shape.block → count ≤ shape.records
    → part (slot_at (formed Moved shape) 0) (length blocks) image ≡ blocks → IsAmong shape.block (length blocks) slot
    → IsInside (formed Moved shape) (length image) slot
among_inside shape blocks image count slot limits long few stand (inl zero_block) = inl zero_block
among_inside shape blocks image count slot limits long few stand (inr fits) =
    let inside = part_inside (slot_at (formed Moved shape) 0) (length blocks) image (omega (arith, fits, limits.some_bytes)) (ap length stand) in
    let below : slot < count = ⊎_elim (λ is. is) (λ past. absurd (never past)) (cases_lt slot count) in
    inr (record { is_slot = omega (arith, below, few); inside = omega (arith, inside, fits) })
  where
    never : count ≤ slot → ⊥
    never past = omega (arith, fits, long, mul-le-mul_right {m = count} {n = slot} shape.block past, limits.some_bytes)

-- An image of frames that lead to a state whose slots are those of the blocks stands for it, where the slots hold what they held as the store was brought over.
pub moved_stands : (shape : Shape) (blocks content image : List ℕ) (count : ℕ) (st : StateOf Entry) → IsShape shape → length blocks ≡ count * shape.block
    → count ≤ shape.records → part (slot_at (formed Moved shape) 0) (length blocks) content ≡ blocks → AllSlots (IsAmong shape.block (length blocks)) st
    → KeepsSlots (formed Moved shape) None content image → LeadsTo (formed Moved shape) st image
    → StandsFor (formed New shape) (resolved (cut_block shape.block blocks) st) image
moved_stands shape blocks content image count st limits long few stand among slots leads =
    let over = formed Moved shape in
    let is : resolved (block_at over content) st ≡ resolved (cut_block shape.block blocks) st =
    resolved_same (block_at over content) (cut_block shape.block blocks) st
    (slots_imply (IsAmong shape.block (length blocks)) (λ slot. block_at over content slot ≡ cut_block shape.block blocks slot)
    (λ slot. over_block shape blocks content slot limits stand) st among) in
    subst (λ (s : StateOf Version). StandsFor (formed New shape) s image) is
    (kept_stands over st content image refl
    (slots_imply (IsAmong shape.block (length blocks)) (IsInside over (length content))
    (λ slot. among_inside shape blocks content count slot limits long few stand) st among)
    (kept_leads over st content content image (slots_same over None content content refl) slots leads))

-- and each block lies in its slot
pub lies : (shape : Shape) (blocks content image : List ℕ) (count slot : ℕ) → IsShape shape → length blocks ≡ count * shape.block → count ≤ shape.records
    → part (slot_at (formed Moved shape) 0) (length blocks) content ≡ blocks → KeepsSlots (formed Moved shape) None content image
    → IsAmong shape.block (length blocks) slot → LiesIn (formed Moved shape) blocks image slot
lies shape blocks content image count slot limits long few stand kept among =
    by (eqb slot 4294967295) refl (among_inside shape blocks content count slot limits long few stand among)
  where
    over : Shape
    over = formed Moved shape

    zeros : List ℕ
    zeros = replicate shape.block 0

    cut : List ℕ
    cut = take shape.block (drop (slot * shape.block) blocks)

    same : cond (eqb slot 4294967295) zeros (block_in over slot content) ≡ cond (eqb slot 4294967295) zeros cut
    same = over_block shape blocks content slot limits stand among

    differ : {A : Type 0} → true ≡ false → A
    differ e = cc

    by : (b : Bool) → eqb slot 4294967295 ≡ b → IsInside over (length content) slot → LiesIn over blocks image slot
    by true is inside = inl is
    by false is (inl zero_block) = differ (sym zero_block ∙ is)
    by false is (inr has) =
        let there : block_in over slot content ≡ cut = subst (λ (e : Bool). cond e zeros (block_in over slot content) ≡ cond e zeros cut) is same in
        inr (
          record { is_slot = has.is_slot; inside = omega (arith, has.inside, kept.size) },
          kept.same slot has tt ∙ there ∙ ap (λ (e : Bool). cond e zeros cut) (sym is),
        )

-- ---- room

-- the room that was made for an old store, for a sync, these blocks and a list in the place of the old one, and an append
pub ahead_old : {D : Type 0} (has_room : D → ℕ → ℕ → ℕ → Type 0)
    → ((disk : D) (calls bytes end fewer less nearer : ℕ) → fewer ≤ calls → less ≤ bytes → nearer ≤ end → has_room disk calls bytes end
    → has_room disk fewer less nearer)
    → (s : Held D) (frames : List Frame) (body : ℕ) (blocks : List ℕ) → is_old s.shape ≡ true → AreBlocks s.shape (length frames) blocks
    → HasRoomAhead has_room s frames body
    → HasRoom has_room s 14 (s.shape.block + body + 7 + (length blocks + (size_of frames + 34))) (max (size_of frames + 1) (body + 6))
ahead_old has_room for_less s frames body blocks old are room =
    room_less has_room for_less s _ _ _ _ _ _ (omega arith) (omega (arith, are.long, most)) (omega arith)
    (subst (λ (b : Bool). HasRoom has_room s (if b then 14 else 13)
    ((if b then (min (length frames) s.shape.records * s.shape.block) else 0) + (size_of frames + 34) + (s.shape.block + body + 7))
    (max (size_of frames + 1) (body + 6))) old room)
  where
    most : are.count * s.shape.block ≤ min (length frames) s.shape.records * s.shape.block
    most = mul-le-mul_right {m = are.count} {n = min (length frames) s.shape.records} s.shape.block (omega (arith, are.few, are.slots))

-- ---- an old store that was read, and then was brought over

-- a state with blocks was opened as often as the one with slots
pub few_boots : (block : ℕ → List ℕ) (now : StateOf Entry) (st : StateOf Version) → resolved block now ≡ st → now.boot < 4294967295 → st.boot < 4294967295
few_boots block now st is few = omega (arith, few, boot-resolved block now, ap (λ (s : StateOf Version). s.boot) is)

-- the store that was brought over can be changed
pub may_over : {D : Type 0} (d : on_disk.Ghosts D) (shape : Shape) (listed : List Frame) (st : StateOf Entry) (new : Held D)
    → new.shape ≡ formed Moved shape → new.halted ≡ false → new.frames ≡ listed → Leads (limits_of shape) listed empty st → (d.tells → IsSettled d new)
    → CanChange d st new
may_over d shape listed st new is runs frames_are leads settled = record {
  runs = runs;
  slotted = subst (λ (s : Shape). is_old s ≡ false) (sym is) refl;
  leads = subst (λ (s : Shape). Leads (limits_of s) new.frames empty st) (sym is)
      (subst (λ (xs : List Frame). Leads (limits_of shape) xs empty st) (sym frames_are) leads);
  settled = settled;
}

module _ {D : Type 0} (d : on_disk.Ghosts D) (only_now : (disk : D) (image : List ℕ) → d.left_since disk (d.moment disk) image → d.may_leave disk image)
    (counts : (disk : D) (t : ℕ) (image : List ℕ) → t ≤ d.moment disk → d.may_leave disk image → d.left_since disk t image)
    (held : Held D) (old : is_old held.shape ≡ true) where
  abbrev st : StateOf Version
  st = old_state_in held.shape.block held.shape.records held.frames

  abbrev next : StateOf Version
  next = booted (st.boot + 1) st

  abbrev shape : Shape
  shape = formed New held.shape

  abbrev either : List ℕ → Type 0
  either = StandsForEither shape st next

  -- it was left alone
  pub refused_over : (new : D) (end : End) (F : Type 0) → (end ≡ Whole → ⊥) → (end ≡ Cut → F) → Still d held.disk new F → StartsOver d st held new end
  refused_over new end F not_whole failed still = record {
    moments = λ told closed. still_allowed d.seen d.may_leave d.moment d.left_since only_now held.disk new either still.untouched;
    run = run_not_begun d.tells d.moment d.plan d.unlisted _ held.disk new _ _ not_whole
        (record { same = still.plan.same; stays = still.plan.stays; never = λ free is. still.plan.never free (failed is) });
    not_worn = λ is free. absurd (still.plan.never free (failed is));
    cut = λ is told free. absurd (still.plan.never free (failed is));
    not_begun = λ is. still.untouched;
    cause = kept_for _ _ _ _ _ _ failed still.cause;
  }

  -- nothing was begun
  pub untouched_over : StartsOver d st held held.disk NotBegun
  untouched_over = refused_over held.disk NotBegun ⊥ (λ is. absurd cc) (λ is. absurd cc) (still_none d held.disk)

  before_is : (image : List ℕ) → OpensAs held.shape held.frames true image → StandsFor shape st image
  before_is image = before_over held.shape held.frames image old

  module _ (mid : D) (F : Type 0) (still : Still d held.disk mid F) (few : st.boot < 4294967295) where
    -- its sync failed
    pub sync_over : (new : D) (fault : FrameFault) → (d.tells → Shows d.seen held) → d.certain mid ≡ d.certain held.disk → d.seen new ≡ d.seen mid
        → d.certain new ≡ d.certain mid → ((image : List ℕ) → d.may_leave new image → d.may_leave mid image)
        → Elapses (d.moment mid) (d.moment new) (d.left_since mid) (d.left_since new) (d.may_leave new)
        → IsRun d.tells d.moment d.plan d.unlisted 1 mid new (IsOk (refused fault)) (refused fault ≡ refused frames.Disk)
        → (fault ≡ frames.NoMemory → IsUntouched d.seen d.may_leave d.moment d.left_since mid new) → (fault ≡ frames.Halted → ⊥)
        → Kept (d.faults mid) (d.faults new) (d.sound mid) (d.sound new) (refused fault ≡ refused frames.Disk)
        → StartsOver d st held new (end_of (refused (fault_of fault)))
    sync_over new fault shows certain content same crash time run memory runs cause = record {
      moments = λ told closed. synced_allowed d.tells d.seen d.may_leave d.moment d.left_since only_now held.disk mid new either still.untouched time crash;
      run = failed_run d held.disk mid new fault F still run 13 (omega arith);
      not_worn = λ is free. few;
      cut = λ is told free closed.
          let content_is : d.seen new ≡ d.seen held.disk = content ∙ still.untouched.content in
          let clock = failed_clock d held.disk mid new fault F still run told free is in
          record {
            clock = omega (arith, clock, still.untouched.clock);
            settled = inl (same ∙ certain);
            early = λ at. before_is (d.seen new) (subst (λ (x : List ℕ). OpensAs held.shape held.frames true x) (sym content_is)
                (subst (λ (b : Bool). OpensAs held.shape held.frames b (d.seen held.disk)) closed (shows told).opens));
            late = λ at. absurd (never (d.moment held.disk) (d.moment mid) (d.moment new) clock still.untouched.clock at);
          };
      not_begun = λ is. untouched_both d.seen d.may_leave d.moment d.left_since counts held.disk mid new still.untouched (not_begun_so fault runs memory is);
      cause = failed_cause d held.disk mid new fault F still run cause;
    }
      where
        never : (a b c : ℕ) → c ≤ b + 1 → b ≡ a → a + 13 < c + 2 → ⊥
        never a b c clock same at = omega (arith, clock, same, at)

    -- it was synced
    module _ (synced : D) (V E : Type 0) (made : V) (time : Elapses (d.moment mid) (d.moment synced) (d.left_since mid) (d.left_since synced) (d.may_leave synced))
        (crash : (image : List ℕ) → d.may_leave synced image → d.may_leave mid image)
        (run : IsRun d.tells d.moment d.plan d.unlisted 1 mid synced V E)
        (cause : Kept (d.faults mid) (d.faults synced) (d.sound mid) (d.sound synced) E)
        (stands : d.tells → held.closed ≡ true → Stands d (OpensAs held.shape held.frames true) synced)
        (After : List ℕ → Type 0) (after_is : (image : List ℕ) → After image → StandsFor shape st image) where
      over_moments : (new : D) (end : End) → Change d 8 (OpensAs held.shape held.frames true) After synced new end → d.tells → held.closed ≡ true
          → LeavesOnly d.moment d.left_since held.disk new (IsAllowedOr (d.may_leave held.disk) either)
      over_moments new end change told closed =
          joined d.moment d.left_since held.disk synced new (IsAllowedOr (d.may_leave held.disk) either)
          (synced_allowed d.tells d.seen d.may_leave d.moment d.left_since only_now held.disk mid synced either still.untouched time crash)
          (widened d.moment d.left_since synced new (λ image. OpensAs held.shape held.frames true image ⊎ After image)
          (IsAllowedOr (d.may_leave held.disk) either) (λ image is. inr (inl (⊎_elim (before_is image) (after_is image) is)))
          (change.moments told (stands told closed)))

      -- and the bringing over was cut short
      pub bring_cut : (new : D) → Change d 8 (OpensAs held.shape held.frames true) After synced new Cut → StartsOver d st held new Cut
      bring_cut new change = record {
        moments = over_moments new Cut change;
        run = run_after d.tells d.moment d.plan d.unlisted 13 held.disk mid new F _ _ still.plan still.untouched.clock
            (run_cut d.tells d.moment d.plan d.unlisted 9 13 mid new (Cut ≡ Whole) (Cut ≡ Cut) (omega arith) (λ is. cc) (λ no. absurd (no refl))
            (run_both d.tells d.moment d.plan d.unlisted 1 8 9 mid synced new V E ⊥ (Cut ≡ Cut) refl made (λ a b. b refl) run
            (run_as d.tells d.moment d.plan d.unlisted 8 synced new (Cut ≡ Whole) (Cut ≡ Cut) ⊥ (Cut ≡ Cut) (λ is. absurd is) (λ is. is)
            (λ a b. absurd (b refl)) change.run)));
        not_worn = λ is free. few;
        cut = λ is told free closed.
            let stops = change.cut refl told (stands told closed) in
            let synced_at : d.moment synced ≡ d.moment mid + 1 = run.counted told made in
            record {
              clock = omega (arith, stops.clock, synced_at, still.untouched.clock);
              settled = inr (before_is (d.certain new) stops.settled);
              early = λ at. ⊎_elim (λ late. after_is (d.seen new) (stops.late late)) (λ early. before_is (d.seen new) (stops.early early))
                  (cases_lt (d.moment synced + 8) (d.moment new + 2));
              late = λ at. absurd (never (d.moment held.disk) (d.moment mid) (d.moment synced) (d.moment new) stops.clock synced_at still.untouched.clock at);
            };
        not_begun = λ is. absurd cc;
        cause = kept_both (d.faults held.disk) (d.faults mid) (d.faults new) _ _ _ _ _ still.cause
            (kept_both (d.faults mid) (d.faults synced) (d.faults new) _ _ _ _ _ cause change.cause);
      }
        where
          never : (a b c e : ℕ) → e ≤ c + 8 → c ≡ b + 1 → b ≡ a → a + 13 < e + 2 → ⊥
          never a b c e clock second first at = omega (arith, clock, second, first, at)

      -- it was brought over, and then its opening was counted
      pub count_over : (over new : D) (end : End) (Before Later : List ℕ → Type 0)
          → Change d 8 (OpensAs held.shape held.frames true) After synced over Whole → Change d 4 Before Later over new end
          → (d.tells → (image : List ℕ) → Before image → StandsFor shape st image) → (d.tells → (image : List ℕ) → Later image → StandsFor shape next image)
          → (d.tells → Stands d Before over) → ((end ≡ Whole → ⊥) → (end ≡ Cut → ⊥) → ⊥) → (end ≡ NotBegun → ⊥)
          → StartsOver d st held new end
      count_over over new end Before Later change count so_far counted here ends begun = record {
        moments = λ told closed. joined d.moment d.left_since held.disk over new (IsAllowedOr (d.may_leave held.disk) either)
            (over_moments over Whole change told closed)
            (widened d.moment d.left_since over new (λ image. Before image ⊎ Later image) (IsAllowedOr (d.may_leave held.disk) either)
            (λ image is. inr (⊎_elim (λ was. inl (so_far told image was)) (λ now. inr (counted told image now)) is)) (count.moments told (here told)));
        run = run_after d.tells d.moment d.plan d.unlisted 13 held.disk mid new F _ _ still.plan still.untouched.clock
            (run_both d.tells d.moment d.plan d.unlisted 9 4 13 mid over new (Whole ≡ Whole) (Whole ≡ Cut) _ _ refl refl ends
            (run_both d.tells d.moment d.plan d.unlisted 1 8 9 mid synced over V E (Whole ≡ Whole) (Whole ≡ Cut) refl made (λ a b. a refl) run change.run)
            count.run);
        not_worn = λ is free. few;
        cut = λ is told free closed.
            let stops = count.cut is told (here told) in
            let synced_at : d.moment synced ≡ d.moment mid + 1 = run.counted told made in
            let over_at : d.moment over ≡ d.moment synced + 8 = change.run.counted told refl in
            record {
              clock = omega (arith, stops.clock, over_at, synced_at, still.untouched.clock);
              settled = inr (so_far told (d.certain new) stops.settled);
              early = λ at. so_far told (d.seen new) (stops.early (omega (arith, at, over_at, synced_at, still.untouched.clock)));
              late = λ at. counted told (d.seen new) (stops.late (omega (arith, at, over_at, synced_at, still.untouched.clock)));
            };
        not_begun = λ is. absurd (begun is);
        cause = kept_both (d.faults held.disk) (d.faults mid) (d.faults new) _ _ _ _ _ still.cause
            (kept_both (d.faults mid) (d.faults synced) (d.faults new) _ _ _ _ _ cause
            (kept_both (d.faults synced) (d.faults over) (d.faults new) _ _ _ _ _ change.cause count.cause));
      }
