-- What a change of a store promises, in terms of what the call answered.
use Rattle.std.proofs.Common.{◌≡◌, ℕ, true, false, List, Option, Result, Err, ap, subst, Bool}
use Rattle.std.specs.Result.{IsOk}
use Rattle.fab_disk.specs.declared.disk.Disk as on_disk
use Rattle.fab_disk.specs.Disk.{Only, Kept}
use Rattle.fab_disk.specs.Plan.{IsRun}
use Rattle.fab_disk.specs.Changing.{Stands, Run}
use Rattle.fab_disk.proofs.Plans.{run_as}
use Rattle.frame_store.specs.declared.faults.FrameFault.{FrameFault}
use Rattle.frame_store.specs.declared.faults.FrameFault.TheVariants.{Disk}
use Rattle.frame_store.specs.Images.{OpensAs, Lists}
use Rattle.frame_store.specs.Stores.{Held, IsRead}
use Rattle.frame_store.specs.Ends.{end_of}
use Rattle.frame_store.proofs.Ends.{whole_ok, ok_whole, cut_disk}
use Rattle.frame_store.proofs.Standing.{slots_same}

module _ {D : Type 0} (d : on_disk.Ghosts D) where
  -- the calls that were made, and why they failed, by the answer
  pub run_by : (calls : ℕ) (Before During After : List ℕ → Type 0) (old new : D) (r : Result (Unit {0}) FrameFault)
      → Run d calls Before During After old new (end_of r) → IsRun d.tells d.moment d.plan d.unlisted calls old new (IsOk r) (r ≡ Err Disk)
  run_by calls Before During After old new r change =
      run_as d.tells d.moment d.plan d.unlisted calls old new _ _ _ _ (ok_whole r) (ap end_of)
      (λ a b. change.run.waits (λ is. a (whole_ok r is)) (λ is. b (cut_disk r is))) change.run

  pub cause_by : (calls : ℕ) (Before During After : List ℕ → Type 0) (old new : D) (r : Result (Unit {0}) FrameFault)
      → Run d calls Before During After old new (end_of r) → Kept (d.faults old) (d.faults new) (d.sound old) (d.sound new) (r ≡ Err Disk)
  cause_by calls Before During After old new r change = record {
    later = change.cause.later;
    rose = λ is. change.cause.rose (ap end_of is);
    stays = change.cause.stays;
    never = λ sound is. change.cause.never sound (ap end_of is);
  }

  -- a store that runs, with a closed gate behind its list, stands as the list where a crash leaves what a read gives
  pub stands_of : (s : Held D) (put : Option (ℕ × List ℕ)) → IsRead d.tells d.seen s → s.halted ≡ false → s.closed ≡ true → d.tells
      → Only (d.seen s.disk) (d.may_leave s.disk) → Stands d (Lists s.shape s.frames put (d.seen s.disk)) s.disk
  stands_of s put read runs closed told only = record {
    only = only;
    has = record {
      opens = subst (λ (b : Bool). OpensAs s.shape s.frames b (d.seen s.disk)) closed (read told runs).opens;
      slots = slots_same s.shape put (d.seen s.disk);
    };
  }
