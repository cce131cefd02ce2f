-- Calls that change nothing, one after the other.
use Rattle.std.proofs.Common.{inl, ◌∙◌, ℕ, ◌≤◌, List, refl, arith}
use Rattle.fab_disk.specs.declared.disk.Disk as on_disk
use Rattle.fab_disk.specs.Disk.{IsUntouched}
use Rattle.fab_disk.specs.Changing.{Still}
use Rattle.fab_disk.proofs.Moments.{kept_both}
use Rattle.frame_store.proofs.Openings.{untouched_both}

module _ {D : Type 0} (d : on_disk.Ghosts D)
    (counts : (disk : D) (t : ℕ) (image : List ℕ) → t ≤ d.moment disk → d.may_leave disk image → d.left_since disk t image) (old mid new : D)
    (F G : Type 0) where
  -- calls that did not fail, and then one; both fail where it does
  pub still_then : (G → F) → Still d old mid ⊥ → Still d mid new F → Still d old new G
  still_then by first second =
      let both = kept_both (d.faults old) (d.faults mid) (d.faults new) (d.sound old) (d.sound mid) (d.sound new) ⊥ F first.cause second.cause in
      record {
        untouched = untouched_both d.seen d.may_leave d.moment d.left_since counts old mid new first.untouched second.untouched;
        plan = record {
          same = second.plan.same ∙ first.plan.same;
          stays = λ free. second.plan.stays (first.plan.stays free);
          never = λ free failed. second.plan.never (first.plan.stays free) (by failed);
        };
        cause = record {
          later = both.later;
          rose = λ failed. both.rose (by failed);
          stays = both.stays;
          never = λ sound failed. both.never sound (by failed);
        };
      }

-- none was made yet
pub still_none : {D : Type 0} (d : on_disk.Ghosts D)
    → (disk : D) → Still d disk disk ⊥
still_none d disk = record {
  untouched = untouched_same;
  plan = record { same = refl; stays = λ free. free; never = λ free failed. failed };
  cause = record { later = omega arith; rose = λ failed. absurd failed; stays = λ sound. sound; never = λ sound failed. failed };
}
  where
    untouched_same : IsUntouched d.seen d.may_leave d.moment d.left_since disk disk
    untouched_same = record {
      content = refl;
      crash = λ image left. left;
      clock = refl;
      time = record { later = omega arith; nothing_else = λ t image le since. inl since; keeps = λ t image le since. since };
    }
