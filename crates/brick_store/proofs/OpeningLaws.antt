-- The laws of openings.
use Rattle.std.proofs.Common.{◌≡◌, ◌⊎◌, inl, inr, ⊎_elim, ℕ, ◌+◌, ◌≤◌, Bool, true, false, not, ◌&&◌, if◌then◌else◌, List, Result, Ok, Err, OnErr, refl, sym, ap, subst, ◌∙◌, arith}
use Rattle.fab_disk.specs.declared.disk.Disk as on_disk
use Rattle.fab_disk.specs.Disk.{IsUntouched, Kept, LeavesOnly}
use Rattle.fab_disk.specs.Changing.{End, Whole, Cut, NotBegun, Still}
use Rattle.fab_disk.proofs.Moments.{widened, kept_both}
use Rattle.fab_disk.proofs.Plans.{run_after, run_as, run_calls, run_not_begun}
use Rattle.fab_disk.specs.Plan.{IsRun}
use Rattle.std.specs.Result.{IsOk}
use Rattle.frame_store.specs.declared.faults.OpenFault.{OpenFault as ListFault}
use Rattle.frame_store.specs.declared.faults.OpenFault.TheVariants as lists
use Rattle.frame_store.specs.declared.frames.Frame.{Frame}
use Rattle.frame_store.specs.declared.shapes.Shape.{Shape}
use Rattle.frame_store.specs.Images.{OpensAs}
use Rattle.frame_store.specs.Stores.{Held, IsSame, Shows}
use Rattle.frame_store.specs.declared.shapes.Form.{Form}
use Rattle.frame_store.specs.declared.shapes.Form.TheVariants.{Old, New, Moved}
use Rattle.frame_store.specs.Layouts.{formed, is_old, is_old_form}
use Rattle.frame_store.proofs.Openings.{opens_once, opens_in_one_form, untouched_both}
use Rattle.version_log.specs.Versions.{Version}
use Rattle.brick_state.specs.Entries.{Entry}
use Rattle.brick_state.specs.States.{StateOf, booted, empty}
use Rattle.brick_store.specs.declared.faults.StoreFault.{StoreFault}
use Rattle.brick_store.specs.declared.faults.StoreFault.TheVariants as stores
use Rattle.brick_store.specs.declared.faults.OpenFault.{OpenFault}
use Rattle.brick_store.specs.declared.faults.OpenFault.TheVariants as opens
use Rattle.brick_store.specs.Bricks.{open_fault_of, start_fault_of}
use Rattle.brick_store.specs.Ends.{end_of}
use Rattle.brick_store.specs.Calls.{is_appendable, opening_calls}
use Rattle.brick_store.specs.Images.{limits_of, StandsFor, StandsForEither}
use Rattle.brick_store.specs.Openings.{IsAllowedOr, IsCounted, IsKeptIn, IsKeptInEither, Opens, Readies, Starts, StopsOpening, StopsReadying, found_in, is_whole, calls_on_opening, stopped_by}
use Rattle.brick_store.proofs.Stepping.{refused}
use Rattle.brick_store.proofs.Counting.{opening_is}
use Rattle.brick_store.proofs.CutOpenings.{opening_cut, read_first}
use Rattle.brick_store.proofs.Opened.{boot_there, found_is, opening_moments}
use Rattle.brick_store.proofs.StateChanges.{not_whole}
use Rattle.brick_store.proofs.Starting.{still_allowed, then_allowed}

-- ---- ends

-- no fault ends an opening whole, and that of the disk alone cuts it short
pub never_whole : (fault : OpenFault) → stopped_by fault ≡ Whole → ⊥
never_whole opens.Disk is = cc
never_whole opens.NotAStore is = cc
never_whole opens.Worn is = cc
never_whole opens.NoMemory is = cc

pub cut_by : (fault : OpenFault) → stopped_by fault ≡ Cut → fault ≡ opens.Disk
cut_by opens.Disk is = refl
cut_by opens.NotAStore is = absurd cc
cut_by opens.Worn is = absurd cc
cut_by opens.NoMemory is = absurd cc

-- the cause of a fault, where it is told of less
pub kept_for : (a b : ℕ) (S T F G : Type 0) → (G → F) → Kept a b S T F → Kept a b S T G
kept_for a b S T F G less kept = record {
  later = kept.later;
  rose = λ is. kept.rose (less is);
  stays = kept.stays;
  never = λ sound is. kept.never sound (less is);
}

-- the start of an opening ended as the opening did
pub start_ends : (fault : StoreFault) → end_of (refused fault) ≡ stopped_by (start_fault_of fault)
start_ends stores.Disk = refl
start_ends (stores.Full live) = refl
start_ends stores.Halted = refl
start_ends stores.NoMemory = refl

-- the list was not read since its disk failed
pub read_meant : (fault : ListFault) → open_fault_of fault ≡ opens.Disk → fault ≡ lists.Disk
read_meant lists.Disk is = refl
read_meant lists.NotAStore is = absurd cc
read_meant lists.NoMemory is = absurd cc

-- what the end of the making ready means for its fault
cut_meant : (fault : StoreFault) → end_of (refused fault) ≡ Cut → fault ≡ stores.Disk
cut_meant stores.Disk is = refl
cut_meant (stores.Full live) is = absurd cc
cut_meant stores.Halted is = absurd cc
cut_meant stores.NoMemory is = absurd cc

memory_meant : (fault : StoreFault) → (refused fault ≡ refused stores.Disk) ⊎ (refused fault ≡ refused stores.NoMemory)
    → end_of (refused fault) ≡ NotBegun → fault ≡ stores.NoMemory
memory_meant stores.Disk only is = absurd cc
memory_meant (stores.Full live) (inl only) is = absurd cc
memory_meant (stores.Full live) (inr only) is = absurd cc
memory_meant stores.Halted (inl only) is = absurd cc
memory_meant stores.Halted (inr only) is = absurd cc
memory_meant stores.NoMemory only is = refl

-- a change that memory was not refused for was made whole or cut short
pub tried_ends : (r : Result (Unit {0}) StoreFault) → OnErr r ((r ≡ Err stores.Disk) ⊎ (r ≡ Err stores.NoMemory)) → (r ≡ Err stores.NoMemory → ⊥)
    → ((end_of r ≡ Whole → ⊥) → (end_of r ≡ Cut → ⊥) → ⊥) × (end_of r ≡ NotBegun → ⊥)
tried_ends (Ok value) only never = (λ not_whole not_cut. not_whole refl, λ is. absurd cc)
tried_ends (Err stores.Disk) only never = (λ not_whole not_cut. not_cut refl, λ is. absurd cc)
tried_ends (Err (stores.Full live)) only never = absurd (⊎_elim (λ is. cc) (λ is. cc) only)
tried_ends (Err stores.Halted) only never = absurd (⊎_elim (λ is. cc) (λ is. cc) only)
tried_ends (Err stores.NoMemory) only never = absurd (never refl)

-- what an opening counted is what the disk stood for
pub counted_is : (shape : Shape) (image : List ℕ) (now : StateOf Version) → IsCounted shape image now → (st : StateOf Version)
    → StandsFor shape st image → now ≡ booted (st.boot + 1) st
counted_is shape image now counted st stands =
    counted.counted ∙ ap (λ (x : StateOf Version). booted (x.boot + 1) x) (found_is shape counted.before st image counted.found stands)

module _ {D : Type 0} (d : on_disk.Ghosts D) (only_now : (disk : D) (image : List ℕ) → d.left_since disk (d.moment disk) image → d.may_leave disk image) where
  -- Where each image that the disk allowed stands for the state, each image of the opening stands for it, counted or not.
  pub opens_either : (shape : Shape) (old new : D) (end : End) → d.may_leave old (d.seen old) → Opens d shape old new end → d.tells
      → (st : StateOf Version) → ((image : List ℕ) → d.may_leave old image → StandsFor shape st image)
      → LeavesOnly d.moment d.left_since old new (StandsForEither shape st (booted (st.boot + 1) st))
  opens_either shape old new end seen_is_left run told st stands =
      let either = StandsForEither shape st (booted (st.boot + 1) st) in
      widened d.moment d.left_since old new (IsAllowedOr (d.may_leave old) either) either
      (λ image at. ⊎_elim (λ had. inl (stands image had)) (λ now. now) at) (run.moments told st (stands (d.seen old) seen_is_left))

  -- ---- a list that was made ready

  -- in the words of how it ended
  pub ready_by : (calls : ℕ) (st : StateOf Entry) (old : Held D) (new : D) (r : Result (Unit {0}) StoreFault)
      → OnErr r ((r ≡ Err stores.Disk) ⊎ (r ≡ Err stores.NoMemory))
      → (d.tells → old.closed ≡ true → LeavesOnly d.moment d.left_since old.disk new
      (IsAllowedOr (d.may_leave old.disk) (IsKeptIn old.shape st (d.seen old.disk))))
      → IsRun d.tells d.moment d.plan d.unlisted calls old.disk new (IsOk r) (r ≡ Err stores.Disk)
      → (d.tells → d.unlisted old.disk → old.closed ≡ true → r ≡ Err stores.Disk
      → StopsReadying d.seen d.certain d.moment calls old.disk new (IsKeptIn old.shape st (d.seen old.disk)))
      → (r ≡ Err stores.NoMemory → IsUntouched d.seen d.may_leave d.moment d.left_since old.disk new)
      → Kept (d.faults old.disk) (d.faults new) (d.sound old.disk) (d.sound new) (r ≡ Err stores.Disk) → Readies d calls st old new (end_of r)
  ready_by calls st old new (Ok value) only moments run cut memory cause = record {
    moments = moments;
    run = run_as d.tells d.moment d.plan d.unlisted calls old.disk new _ _ _ _ (λ is. refl) (λ is. absurd cc) (λ a b. absurd (a refl)) run;
    cut = λ is. absurd cc;
    not_begun = λ is. absurd cc;
    cause = kept_for _ _ _ _ _ _ (λ is. absurd cc) cause;
  }
  ready_by calls st old new (Err fault) only moments run cut memory cause = record {
    moments = moments;
    run = run_as d.tells d.moment d.plan d.unlisted calls old.disk new _ _ _ _ (λ is. absurd (not_whole fault is)) (λ is. ap refused (cut_meant fault is))
        (λ a b. run.waits (λ ok. absurd cc) (λ is. b (ap end_of is))) run;
    cut = λ is told free closed. cut told free closed (ap refused (cut_meant fault is));
    not_begun = λ is. memory (ap refused (memory_meant fault only is));
    cause = kept_for _ _ _ _ _ _ (λ is. ap refused (cut_meant fault is)) cause;
  }

  -- ---- an opening that was refused while it read

  pub refused_opens : (shape : Shape) (old new : D) (fault : OpenFault) (F : Type 0) → Still d old new F → (fault ≡ opens.Disk → F)
      → Opens d shape old new (stopped_by fault)
  refused_opens shape old new fault F still failed = record {
    moments = λ told st stands. still_allowed d.seen d.may_leave d.moment d.left_since only_now old new
        (StandsForEither shape st (booted (st.boot + 1) st)) still.untouched;
    run = λ told form frames closed opens. run_not_begun d.tells d.moment d.plan d.unlisted _ old new _ _ (never_whole fault)
        (record { same = still.plan.same; stays = still.plan.stays; never = λ free is. still.plan.never free (failed (cut_by fault is)) });
    not_worn = λ is told free. absurd (still.plan.never free (failed (cut_by fault is)));
    cut = λ is told free. absurd (still.plan.never free (failed (cut_by fault is)));
    not_begun = λ is. still.untouched;
    cause = kept_for _ _ _ _ _ _ (λ is. failed (cut_by fault is)) still.cause;
  }

  pub refused_starts : (whole : Bool) (st : StateOf Entry) (old : Held D) (new : D) (end : End) (F : Type 0) → (end ≡ Whole → ⊥) → (end ≡ Cut → F)
      → Still d old.disk new F → Starts d whole st old new end
  refused_starts whole st old new end F not_whole failed still = record {
    moments = λ told closed. still_allowed d.seen d.may_leave d.moment d.left_since only_now old.disk new
        (IsKeptInEither old.shape st (booted (st.boot + 1) st) (d.seen old.disk)) still.untouched;
    run = run_not_begun d.tells d.moment d.plan d.unlisted _ old.disk new _ _ not_whole
        (record { same = still.plan.same; stays = still.plan.stays; never = λ free is. still.plan.never free (failed is) });
    not_worn = λ is free. absurd (still.plan.never free (failed is));
    cut = λ is told free. absurd (still.plan.never free (failed is));
    not_begun = λ is. still.untouched;
    cause = kept_for _ _ _ _ _ _ failed still.cause;
  }

  -- ---- reading comes first

  pub read_starts : (counts : (disk : D) (t : ℕ) (image : List ℕ) → t ≤ d.moment disk → d.may_leave disk image → d.left_since disk t image)
      → (whole : Bool) (st : StateOf Entry) (old mid : Held D) (new : D) (end : End) (F : Type 0) → IsSame old mid → Still d old.disk mid.disk F
      → d.certain mid.disk ≡ d.certain old.disk → Starts d whole st mid new end → Starts d whole st old new end
  read_starts counts whole st old mid new end F same still certain run =
      let calls = opening_is mid whole whole old.shape old.frames old.closed refl same.shape same.frames same.closed in
      let untouched = still.untouched in
      record {
        moments = λ told closed. then_allowed d.seen d.may_leave d.moment d.left_since only_now old.disk mid.disk new
            (IsKeptInEither old.shape st (booted (st.boot + 1) st)) untouched
            (subst (λ (s : Shape). LeavesOnly d.moment d.left_since mid.disk new (IsAllowedOr (d.may_leave mid.disk)
            (IsKeptInEither s st (booted (st.boot + 1) st) (d.seen mid.disk)))) same.shape (run.moments told (same.closed ∙ closed)));
        run = run_after d.tells d.moment d.plan d.unlisted _ old.disk mid.disk new F _ _ still.plan untouched.clock
            (run_calls d.tells d.moment d.plan d.unlisted _ _ mid.disk new _ _ calls run.run);
        not_worn = λ is free. run.not_worn is (still.plan.stays free);
        cut = λ is told free closed. read_first d.seen d.certain d.may_leave d.moment d.left_since _ old.disk mid.disk new
            (IsKeptIn old.shape st) (IsKeptIn old.shape (booted (st.boot + 1) st)) untouched certain
            (subst (λ (s : Shape). StopsOpening d.seen d.certain d.moment (opening_calls (is_appendable whole old 4)) mid.disk new
            (IsKeptIn s st (d.seen mid.disk)) (IsKeptIn s (booted (st.boot + 1) st) (d.seen mid.disk))) same.shape
            (subst (λ (n : ℕ). StopsOpening d.seen d.certain d.moment n mid.disk new
            (IsKeptIn mid.shape st (d.seen mid.disk)) (IsKeptIn mid.shape (booted (st.boot + 1) st) (d.seen mid.disk))) calls
            (run.cut is told (still.plan.stays free) (same.closed ∙ closed))));
        not_begun = λ is. untouched_both d.seen d.may_leave d.moment d.left_since counts old.disk mid.disk new untouched (run.not_begun is);
        cause = kept_both (d.faults old.disk) (d.faults mid.disk) (d.faults new) _ _ _ _ _ still.cause run.cause;
      }

  -- in the words of what was read
  pub loaded_starts : (counts : (disk : D) (t : ℕ) (image : List ℕ) → t ≤ d.moment disk → d.may_leave disk image → d.left_since disk t image)
      → (whole now : Bool) (st found : StateOf Entry) (old mid : Held D) (new : D) (end : End) (F : Type 0) → IsSame old mid → Still d old.disk mid.disk F
      → d.certain mid.disk ≡ d.certain old.disk → whole ≡ now → found ≡ st → Starts d whole st mid new end → Starts d now found old new end
  loaded_starts counts whole now st found old mid new end F same still certain whole_is is run =
      subst (λ (b : Bool). Starts d b found old new end) whole_is
      (subst (λ (x : StateOf Entry). Starts d whole x old new end) (sym is)
      (read_starts counts whole st old mid new end F same still certain run))

  -- in the words of what the disk stands for
  pub started_opens : (counts : (disk : D) (t : ℕ) (image : List ℕ) → t ≤ d.moment disk → d.may_leave disk image → d.left_since disk t image)
      → (disk new : D) (held : Held D) (end : End) (F : Type 0) → (d.tells → Shows d.seen held) → is_old held.shape ≡ false → Still d disk held.disk F
      → d.certain held.disk ≡ d.certain disk
      → Starts d (is_whole (limits_of held.shape) held.frames empty) (found_in held.shape held.frames) held new end
      → Opens d (formed New held.shape) disk new end
  started_opens counts disk new held end F shows slotted still certain run = record {
    moments = λ told. opening_moments d.seen d.may_leave d.moment d.left_since only_now disk new held (shows told) slotted untouched (run.moments told);
    run = λ told form frames closed opens. run_after d.tells d.moment d.plan d.unlisted _ disk held.disk new F _ _ still.plan untouched.clock
        (run_calls d.tells d.moment d.plan d.unlisted _ _ held.disk new _ _ (calls told form frames closed opens) run.run);
    not_worn = λ is told free st stands. omega (
      arith,
      run.not_worn is (still.plan.stays free),
      boot_there d.seen held (shows told) slotted (d.seen disk) untouched.content st stands,
    );
    cut = λ is told free form frames closed opens. opening_cut d.seen d.certain d.may_leave d.moment d.left_since _ disk new held (shows told) slotted
        untouched certain
        (λ at. subst (λ (n : ℕ). StopsOpening d.seen d.certain d.moment n held.disk new (IsKeptIn held.shape found (d.seen held.disk))
        (IsKeptIn held.shape (booted (found.boot + 1) found) (d.seen held.disk))) (calls told form frames closed opens)
        (run.cut is told (still.plan.stays free) at));
    not_begun = λ is. untouched_both d.seen d.may_leave d.moment d.left_since counts disk held.disk new untouched (run.not_begun is);
    cause = kept_both (d.faults disk) (d.faults held.disk) (d.faults new) _ _ _ _ _ still.cause run.cause;
  }
    where
      untouched : IsUntouched d.seen d.may_leave d.moment d.left_since disk held.disk
      untouched = still.untouched

      found : StateOf Entry
      found = found_in held.shape held.frames

      calls : d.tells → (form : Form) (frames : List Frame) (closed : Bool) → OpensAs (formed form held.shape) frames closed (d.seen disk)
          → opening_calls (is_appendable (is_whole (limits_of held.shape) held.frames empty) held 4)
          ≡ calls_on_opening (formed form held.shape) frames closed
      calls told form frames closed opens =
          let shown = subst (OpensAs held.shape held.frames held.closed) untouched.content (shows told).opens in
          let same = opens_in_one_form held.shape held.shape.form form (d.seen disk) held.frames frames held.closed closed shown opens in
          let once = opens_once held.shape (d.seen disk) held.frames frames held.closed closed shown
          (subst (λ (f : Form). OpensAs (formed f held.shape) frames closed (d.seen disk)) (sym same) opens) in
          subst (λ (f : Form). opening_calls (is_appendable (is_whole (limits_of held.shape) held.frames empty) held 4)
          ≡ calls_on_opening (formed f held.shape) frames closed) same
          (new_calls held.shape.form _ _ (opening_is held _ _ held.shape frames closed (ap (λ (fs : List Frame). is_whole (limits_of held.shape) fs empty) once.0) refl once.0 once.1) slotted)
        where
          new_calls : (f : Form) (n : ℕ) (b : Bool) → n ≡ opening_calls b → is_old_form f ≡ false
              → n ≡ (if is_old_form f then 13 else opening_calls (not (is_old_form f) && b))
          new_calls Old n b is slotted = absurd cc
          new_calls New n b is slotted = is
          new_calls Moved n b is slotted = is
