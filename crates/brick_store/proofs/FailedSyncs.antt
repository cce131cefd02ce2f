-- A store whose sync failed, with no call of its disk made before it.
use Rattle.std.proofs.Common.{◌≡◌, ℕ, ◌+◌, ◌≤◌, true, false, Result, sym, ap, ◌∙◌}
use Rattle.std.specs.Result.{IsOk}
use Rattle.fab_disk.specs.declared.disk.Disk as on_disk
use Rattle.fab_disk.specs.Changing.{Whole, Cut, Still}
use Rattle.fab_disk.specs.Disk.{Kept}
use Rattle.fab_disk.specs.Plan.{IsRun}
use Rattle.fab_disk.proofs.Moments.{kept_both}
use Rattle.fab_disk.proofs.Plans.{run_after, run_as, run_cut}
use Rattle.frame_store.specs.declared.faults.FrameFault.{FrameFault}
use Rattle.frame_store.specs.declared.faults.FrameFault.TheVariants as frames
use Rattle.frame_store.specs.Ends as lists
use Rattle.brick_store.specs.Bricks.{fault_of}
use Rattle.brick_store.specs.Ends.{end_of}
use Rattle.brick_store.proofs.CutOpenings.{run_clock}
use Rattle.brick_store.proofs.OpeningLaws.{kept_for}
use Rattle.brick_store.proofs.StateChanges.{cut_means, ends_as, not_whole}
use Rattle.brick_store.proofs.Stepping.{refused}

err_not : false ≡ true → ⊥
err_not is = cc

module _ {D : Type 0} (d : on_disk.Ghosts D) (old mid new : D) (fault : FrameFault) (F : Type 0) (still : Still d old mid F)
    (run : IsRun d.tells d.moment d.plan d.unlisted 1 mid new (IsOk (refused fault)) (refused fault ≡ refused frames.Disk)) where
  -- of the calls that were to come one at most was made
  pub failed_run : (calls : ℕ) → 1 ≤ calls
      → IsRun d.tells d.moment d.plan d.unlisted calls old new (end_of (refused (fault_of fault)) ≡ Whole) (end_of (refused (fault_of fault)) ≡ Cut)
  failed_run calls some =
      run_after d.tells d.moment d.plan d.unlisted calls old mid new F _ _ still.plan still.untouched.clock
      (run_cut d.tells d.moment d.plan d.unlisted 1 calls mid new _ _ some (not_whole (fault_of fault)) waits
      (run_as d.tells d.moment d.plan d.unlisted 1 mid new (IsOk (refused fault)) (refused fault ≡ refused frames.Disk) ⊥
      (end_of (refused (fault_of fault)) ≡ Cut) (λ is. absurd is) (cut_means fault) (λ a b. waits b) run))
    where
      waits : (end_of (refused (fault_of fault)) ≡ Cut → ⊥) → d.plan new ≡ d.plan mid
      waits not_cut =
          run.waits (λ ok. absurd (err_not ok))
          (λ is. not_cut (sym (ends_as fault) ∙ ap (λ (r : Result (Unit {0}) FrameFault). lists.end_of r) is))

  pub failed_clock : d.tells → d.unlisted old → end_of (refused (fault_of fault)) ≡ Cut → d.moment new ≤ d.moment mid + 1
  failed_clock told free is =
      run_clock {whole = IsOk (refused fault)} {cut = refused fault ≡ refused frames.Disk} run told (still.plan.stays free) (cut_means fault is)

  -- and the failure has its cause
  pub failed_cause : Kept (d.faults mid) (d.faults new) (d.sound mid) (d.sound new) (refused fault ≡ refused frames.Disk)
      → Kept (d.faults old) (d.faults new) (d.sound old) (d.sound new) (end_of (refused (fault_of fault)) ≡ Cut)
  failed_cause cause =
      kept_both (d.faults old) (d.faults mid) (d.faults new) _ _ _ _ _ still.cause (kept_for _ _ _ _ _ _ (cut_means fault) cause)
