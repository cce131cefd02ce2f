-- A call that does nothing leaves the disk as it was.
use Rattle.std.proofs.Common.{ℕ, List, inl, refl, arith}
use Rattle.fab_disk.specs.Disk.{IsUntouched}

-- what is not touched is as it was
pub untouched_same : {D : Type 0} (moment : D → ℕ) (left_since : D → ℕ → List ℕ → Type 0) (seen : D → List ℕ) (may_leave : D → List ℕ → Type 0)
    (disk : D) → IsUntouched seen may_leave moment left_since disk disk
untouched_same moment left_since seen may_leave disk =
    record {
      content = refl;
      crash = λ image left. left;
      clock = refl;
      time = record { later = omega arith; nothing_else = λ t image early left. inl left; keeps = λ t image early left. left };
    }
