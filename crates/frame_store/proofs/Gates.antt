-- Runs of writes that are synced, one after another.
use Rattle.std.proofs.Common.{◌≡◌, ◌≢◌, ℕ, ◌+◌, ◌≤◌, List, length, Result, Err, refl, sym, ◌∙◌, ap, subst}
use Rattle.std.specs.Result.{IsOk, IsOkUnless, OnOk}
use Rattle.fab_disk.specs.declared.disk.Disk as on_disk
use Rattle.fab_disk.specs.Disk.{LeavesOnly, StopsEarly, Kept}
use Rattle.fab_disk.specs.Plan.{IsRun}
use Rattle.fab_disk.specs.Changing.{End, Whole, Cut, NotBegun, Stands, Run}
use Rattle.fab_disk.proofs.Changing.{widen, then, cut_first}
use Rattle.fab_disk.proofs.Plans.{run_as, run_cut}
use Rattle.frame_store.specs.declared.faults.FrameFault.{FrameFault}
use Rattle.frame_store.specs.declared.faults.FrameFault.TheVariants.{Disk}
use Rattle.frame_store.specs.Ends.{end_of}
use Rattle.frame_store.specs.Steps.{IsStaged, IsStagedThrice, both_written, thrice_written}
use Rattle.frame_store.proofs.Ends.{begun, whole_ok, ok_whole, cut_disk, of_cut, at_cut, on_whole}

module _ {D : Type 0} (d : on_disk.Ghosts D) where
  -- a run, from what is known of it by the answer
  pub run_of : (calls : ℕ) (Before During After : List ℕ → Type 0) (old new : D) (r : Result (Unit {0}) FrameFault) → IsOkUnless r Disk
      → (d.tells → Stands d Before old → LeavesOnly d.moment d.left_since old new During) → (d.tells → OnOk r (Stands d After new))
      → (d.tells → Stands d Before old → r ≡ Err Disk → StopsEarly d.seen d.certain d.moment calls old new Before After)
      → IsRun d.tells d.moment d.plan d.unlisted calls old new (IsOk r) (r ≡ Err Disk)
      → Kept (d.faults old) (d.faults new) (d.sound old) (d.sound new) (r ≡ Err Disk) → Run d calls Before During After old new (end_of r)
  run_of calls Before During After old new r only moments made cut run cause = record {
    moments = moments;
    whole = λ is told. on_whole r (made told) is;
    cut = λ is told stands. cut told stands (cut_disk r is);
    not_begun = λ is. absurd (begun r only is);
    run = run_as d.tells d.moment d.plan d.unlisted calls old new _ _ _ _ (whole_ok r) (cut_disk r)
        (λ a b. run.waits (λ is. a (ok_whole r is)) (λ is. b (ap end_of is))) run;
    cause = record {
      later = cause.later;
      rose = λ is. cause.rose (cut_disk r is);
      stays = cause.stays;
      never = λ sound is. cause.never sound (cut_disk r is);
    };
  }

  -- a run of which the first calls alone were begun, by the answer of the last of these, which failed
  pub cut_of : (first calls : ℕ) (Before During After : List ℕ → Type 0) (old new : D) (r : Result (Unit {0}) FrameFault) → r ≡ Err Disk → first ≤ calls
      → (d.tells → Stands d Before old → LeavesOnly d.moment d.left_since old new During)
      → (d.tells → Stands d Before old → StopsEarly d.seen d.certain d.moment calls old new Before After)
      → IsRun d.tells d.moment d.plan d.unlisted first old new (IsOk r) (r ≡ Err Disk)
      → Kept (d.faults old) (d.faults new) (d.sound old) (d.sound new) (r ≡ Err Disk) → Run d calls Before During After old new Cut
  cut_of first calls Before During After old new r failed few moments cut run cause = record {
    moments = moments;
    whole = λ is. absurd cc;
    cut = λ is. cut;
    not_begun = λ is. absurd cc;
    run = run_cut d.tells d.moment d.plan d.unlisted first calls old new _ _ few (λ is. absurd cc) (λ not. absurd (not refl))
        (run_as d.tells d.moment d.plan d.unlisted first old new _ _ ⊥ (Cut ≡ Cut) (λ is. absurd is) (λ is. failed) (λ a b. absurd (b refl)) run);
    cause = record {
      later = cause.later;
      rose = λ is. cause.rose failed;
      stays = cause.stays;
      never = λ sound is. cause.never sound failed;
    };
  }

  -- the runs of three writes, and of two, that are synced
  abbrev pub ThriceRun : ℕ → List ℕ → ℕ → List ℕ → ℕ → List ℕ → D → D → End → Type 0
  ThriceRun start first from second at third old new end =
      Run d 4 (IsStagedThrice start (length first) from (length second) at (length third) (d.seen old))
      (IsStagedThrice start (length first) from (length second) at (length third) (d.seen old))
      (λ image. image ≡ thrice_written start first from second at third (d.seen old)) old new end

  abbrev pub BothRun : ℕ → List ℕ → ℕ → List ℕ → D → D → End → Type 0
  BothRun from first at second old new end =
      Run d 3 (IsStaged from (length first) at (length second) (d.seen old)) (IsStaged from (length first) at (length second) (d.seen old))
      (λ image. image ≡ both_written from first at second (d.seen old)) old new end

  -- a run that makes this content, and then a run on it
  pub then_on : (first second calls : ℕ) (B C : List ℕ → Type 0) (content : List ℕ) (Q W : List ℕ → List ℕ → Type 0) (R : List ℕ → List ℕ)
      (Before During : List ℕ → Type 0) (old mid new : D) (end : End) → calls ≡ first + second → end ≢ NotBegun
      → B (d.seen old) → ((image : List ℕ) → B image → Before image) → ((image : List ℕ) → C image → During image) → Before content
      → Q content content → ((image : List ℕ) → Q content image → Before image) → ((image : List ℕ) → W content image → During image)
      → Run d first B C (λ image. image ≡ content) old mid Whole → Run d second (Q (d.seen mid)) (W (d.seen mid)) (λ image. image ≡ R (d.seen mid)) mid new end
      → Run d calls Before During (λ image. image ≡ R content) old new end
  then_on first second calls B C content Q W R Before During old mid new end sum begun from before during between onward before_then during_then one two =
      let After : List ℕ → Type 0 = λ image. image ≡ R content in
      then d first second calls Before During After old mid new end sum begun
      (widen d first _ _ _ Before During Before old mid Whole (λ told has. from) (λ told has. before) (λ told has. during)
      (λ told image is. subst Before (sym is) between) one)
      (widen d second _ _ _ Before During After mid new end
      (λ told has. subst (λ (c : List ℕ). Q c c) (sym (made told)) onward)
      (λ told has image q. before_then image (subst (λ (c : List ℕ). Q c image) (made told) q))
      (λ told has image w. during_then image (subst (λ (c : List ℕ). W c image) (made told) w))
      (λ told image is. is ∙ ap R (made told)) two)
    where
      made : d.tells → d.seen mid ≡ content
      made told = (one.whole refl told).has

  -- the first of the two was cut short, and so was the whole
  pub cut_on : (first calls : ℕ) (B C : List ℕ → Type 0) (content : List ℕ) (Before During After : List ℕ → Type 0) (old new : D)
      (r answer : Result (Unit {0}) FrameFault) → r ≡ Err Disk → answer ≡ Err Disk → first + 2 ≤ calls
      → B (d.seen old) → ((image : List ℕ) → B image → Before image) → ((image : List ℕ) → C image → During image) → Before content
      → Run d first B C (λ image. image ≡ content) old new (end_of r) → Run d calls Before During After old new (end_of answer)
  cut_on first calls B C content Before During After old new r answer failed is long from before during between one =
      of_cut (Run d calls Before During After old new) answer is
      (cut_first d first calls Before During After old new long
      (widen d first _ _ _ Before During Before old new Cut (λ told has. from) (λ told has. before) (λ told has. during)
      (λ told image made. subst Before (sym made) between)
      (at_cut (Run d first B C (λ image. image ≡ content) old new) r failed one)))
