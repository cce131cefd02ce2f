-- A list that is made ready for the count of an opening: it was refused, its sync failed, or it was written anew.
use Rattle.std.proofs.Common.{◌≡◌, ℕ, ◌≤◌, true, None, List, refl, ◌∙◌, arith}
use Rattle.std.specs.Result.{IsOk}
use Rattle.fab_disk.specs.declared.disk.Disk as on_disk
use Rattle.fab_disk.specs.Changing.{End, Whole, Cut, NotBegun, Still}
use Rattle.fab_disk.specs.Disk.{Elapses, IsUntouched, Kept}
use Rattle.fab_disk.specs.Plan.{IsRun}
use Rattle.fab_disk.proofs.Moments.{kept_both}
use Rattle.fab_disk.proofs.Plans.{run_after, run_both, run_not_begun}
use Rattle.frame_store.specs.declared.faults.FrameFault.{FrameFault}
use Rattle.frame_store.specs.declared.faults.FrameFault.TheVariants as frames
use Rattle.frame_store.specs.declared.frames.Frame.{Frame}
use Rattle.frame_store.specs.Ends.{ListChange}
use Rattle.frame_store.specs.Stores.{Held}
use Rattle.frame_store.proofs.Openings.{untouched_both}
use Rattle.frame_store.proofs.Words.{stands_of}
use Rattle.brick_state.specs.Entries.{Entry}
use Rattle.brick_state.specs.States.{StateOf, empty}
use Rattle.brick_state.specs.Folds.{Limits}
use Rattle.brick_store.specs.Bricks.{fault_of}
use Rattle.brick_store.specs.Ends.{end_of}
use Rattle.brick_store.specs.Images.{limits_of}
use Rattle.brick_store.specs.Openings.{IsKeptIn, Readies}
use Rattle.brick_store.specs.Standing.{Leads}
use Rattle.brick_store.specs.Steps.{IsReadAs}
use Rattle.brick_store.proofs.CutOpenings.{rewrite_cut, sync_cut}
use Rattle.brick_store.proofs.FailedSyncs.{failed_cause, failed_clock, failed_run}
use Rattle.brick_store.proofs.FreshLists.{renewed, synced_allowed}
use Rattle.brick_store.proofs.OpeningLaws.{kept_for}
use Rattle.brick_store.proofs.Starting.{still_allowed}
use Rattle.brick_store.proofs.StateChanges.{not_begun_so}
use Rattle.brick_store.proofs.Stepping.{refused}
use Rattle.brick_store.proofs.Synced.{IsSynced}

module _ {D : Type 0} (d : on_disk.Ghosts D) (only_now : (disk : D) (image : List ℕ) → d.left_since disk (d.moment disk) image → d.may_leave disk image)
    (st : StateOf Entry) (old : Held D) where
  -- it was left alone
  pub refused_ready : (calls : ℕ) (new : D) (end : End) (F : Type 0) → (end ≡ Whole → ⊥) → (end ≡ Cut → F) → Still d old.disk new F
      → Readies d calls st old new end
  refused_ready calls new end F not_whole failed still = record {
    moments = λ told closed. still_allowed d.seen d.may_leave d.moment d.left_since only_now old.disk new (IsKeptIn old.shape st (d.seen old.disk))
        still.untouched;
    run = run_not_begun d.tells d.moment d.plan d.unlisted calls old.disk new _ _ not_whole
        (record { same = still.plan.same; stays = still.plan.stays; never = λ free is. still.plan.never free (failed is) });
    cut = λ is told free closed. absurd (still.plan.never free (failed is));
    not_begun = λ is. still.untouched;
    cause = kept_for _ _ _ _ _ _ failed still.cause;
  }

  module _ (limits : Limits) (read : IsReadAs d limits st old) where
    -- its sync failed
    pub sync_ready : ((disk : D) (t : ℕ) (image : List ℕ) → t ≤ d.moment disk → d.may_leave disk image → d.left_since disk t image) → (calls : ℕ) (mid new : D)
        (fault : FrameFault) (F : Type 0) → 1 ≤ calls → Still d old.disk mid F → d.certain mid ≡ d.certain old.disk → d.seen new ≡ d.seen mid
        → d.certain new ≡ d.certain mid → ((image : List ℕ) → d.may_leave new image → d.may_leave mid image)
        → Elapses (d.moment mid) (d.moment new) (d.left_since mid) (d.left_since new) (d.may_leave new)
        → IsRun d.tells d.moment d.plan d.unlisted 1 mid new (IsOk (refused fault)) (refused fault ≡ refused frames.Disk)
        → (fault ≡ frames.NoMemory → IsUntouched d.seen d.may_leave d.moment d.left_since mid new) → (fault ≡ frames.Halted → ⊥)
        → Kept (d.faults mid) (d.faults new) (d.sound mid) (d.sound new) (refused fault ≡ refused frames.Disk)
        → Readies d calls st old new (end_of (refused (fault_of fault)))
    sync_ready counts calls mid new fault F some still certain content same crash time run memory runs cause = record {
      moments = λ told closed. synced_allowed d.tells d.seen d.may_leave d.moment d.left_since only_now old.disk mid new
          (IsKeptIn old.shape st (d.seen old.disk)) still.untouched time crash;
      run = failed_run d old.disk mid new fault F still run calls some;
      cut = λ is told free closed.
          let clock = failed_clock d old.disk mid new fault F still run told free is in
          sync_cut d.seen d.certain d.may_leave d.moment d.left_since calls old mid new st (read.read told read.runs) closed read.found still.untouched content
          certain same (omega (arith, clock, some));
      not_begun = λ is. untouched_both d.seen d.may_leave d.moment d.left_since counts old.disk mid new still.untouched (not_begun_so fault runs memory is);
      cause = failed_cause d old.disk mid new fault F still run cause;
    }

    -- it was synced, and then a list of the same state took its place, or that was cut short
    pub rewritten_ready : (mid held : Held D) (new : D) (after : List Frame) (end : End) → IsSynced d old mid held → Leads (limits_of old.shape) after empty st
        → ((end ≡ Whole → ⊥) → (end ≡ Cut → ⊥) → ⊥) → (end ≡ NotBegun → ⊥) → ListChange d 7 held after None new end → Readies d 8 st old new end
    rewritten_ready mid held new after end synced leads ends begun change =
        let stands = λ (told : d.tells) (closed : old.closed ≡ true).
        stands_of d held None synced.read synced.runs (synced.same.closed ∙ closed) told (synced.only told) in
        record {
          moments = λ told closed. renewed d.tells d.seen d.may_leave d.moment d.left_since only_now old held mid.disk new after st synced.still.untouched
              synced.time synced.crash synced.content synced.same.shape synced.same.frames read.found leads (change.moments told (stands told closed));
          run = run_after d.tells d.moment d.plan d.unlisted 8 old.disk mid.disk new _ _ _ synced.still.plan synced.still.untouched.clock
              (run_both d.tells d.moment d.plan d.unlisted 1 7 8 mid.disk held.disk new _ _ _ _ refl refl ends synced.run change.run);
          cut = λ is told free closed. rewrite_cut d.seen d.certain d.may_leave d.moment d.left_since old held mid.disk new after st synced.still.untouched
              synced.content (synced.run.counted told refl) synced.same.shape synced.same.frames read.found leads (change.cut is told (stands told closed));
          not_begun = λ is. absurd (begun is);
          cause = kept_both (d.faults old.disk) (d.faults mid.disk) (d.faults new) _ _ _ _ _ synced.still.cause
              (kept_both (d.faults mid.disk) (d.faults held.disk) (d.faults new) _ _ _ _ _ synced.cause change.cause);
        }
