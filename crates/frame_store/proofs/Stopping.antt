-- What runs of writes and syncs leave where they are cut short.
use Rattle.std.proofs.Common.{◌≡◌, inl, inr, ℕ, ◌+◌, ◌≤◌, List, length, refl, ◌∙◌, sym, subst, arith}
use Rattle.fab_disk.specs.Disk.{written, Only, StopsEarly, IsWrittenOrNot}
use Rattle.fab_disk.proofs.Writes.{written_torn}
use Rattle.frame_store.specs.Steps.{IsStaged, IsStagedThrice, both_written, thrice_written}
use Rattle.frame_store.proofs.Runs.{torn_same}

module _ {D : Type 0} (seen certain : D → List ℕ) (moment : D → ℕ) where
  abbrev pub Stops : ℕ → D → D → (List ℕ → Type 0) → (List ℕ → Type 0) → Type 0
  Stops calls old new Before After = StopsEarly seen certain moment calls old new Before After

  module _ (may_leave : D → List ℕ → Type 0) (certain_is_left : (disk : D) → may_leave disk (certain disk)) where
    -- what is certain, where a crash leaves what a read gives
    pub certain_seen : (disk : D) → Only (seen disk) (may_leave disk) → certain disk ≡ seen disk
    certain_seen disk only = only (certain disk) (certain_is_left disk)

    -- a write with so many calls before it, which is not the last
    pub stops_middle : (calls made : ℕ) (old mid new : D) (changed : List ℕ) (Before After : List ℕ → Type 0) → made + 3 ≤ calls
        → Only (seen old) (may_leave old) → Before (seen old) → Before (seen mid) → Before changed → certain mid ≡ certain old
        → moment mid ≡ moment old + made → certain new ≡ certain mid
        → IsWrittenOrNot (moment mid) (moment new) (seen mid) (seen new) changed → Stops calls old new Before After
    stops_middle calls made old mid new changed Before After long only here now there kept counted same (inl not_made) = record {
      clock = omega (arith, not_made.0, counted);
      settled = subst Before (sym (same ∙ kept ∙ certain_seen old only)) here;
      early = λ is. subst Before (sym not_made.1) now;
      late = λ is. absurd (omega (arith, not_made.0, counted));
    }
    stops_middle calls made old mid new changed Before After long only here now there kept counted same (inr was_made) = record {
      clock = omega (arith, was_made.0, counted);
      settled = subst Before (sym (same ∙ kept ∙ certain_seen old only)) here;
      early = λ is. subst Before (sym was_made.1) there;
      late = λ is. absurd (omega (arith, was_made.0, counted));
    }

    -- the first write, which is not the last
    pub stops_early : (calls : ℕ) (old new : D) (changed : List ℕ) (Before After : List ℕ → Type 0) → 3 ≤ calls → Only (seen old) (may_leave old)
        → Before (seen old) → Before changed → certain new ≡ certain old
        → IsWrittenOrNot (moment old) (moment new) (seen old) (seen new) changed → Stops calls old new Before After
    stops_early calls old new changed Before After long only here there same written_or =
        stops_middle calls 0 old old new changed Before After long only here here there refl (omega arith) same written_or

    -- the last write before the sync
    pub stops_write : (calls : ℕ) (old mid new : D) (changed : List ℕ) (Before : List ℕ → Type 0) → Only (seen old) (may_leave old) → Before (seen old)
        → Before (seen mid) → certain mid ≡ certain old → moment mid + 2 ≡ moment old + calls → certain new ≡ certain mid
        → IsWrittenOrNot (moment mid) (moment new) (seen mid) (seen new) changed → Stops calls old new Before (λ image. image ≡ changed)
    stops_write calls old mid new changed Before only here there kept counted same (inl not_made) = record {
      clock = omega (arith, counted, not_made.0);
      settled = subst Before (sym (same ∙ kept ∙ certain_seen old only)) here;
      early = λ is. subst Before (sym not_made.1) there;
      late = λ is. absurd (omega (arith, counted, not_made.0));
    }
    stops_write calls old mid new changed Before only here there kept counted same (inr made) = record {
      clock = omega (arith, counted, made.0);
      settled = subst Before (sym (same ∙ kept ∙ certain_seen old only)) here;
      early = λ is. absurd (omega (arith, counted, made.0));
      late = λ is. made.1;
    }

    -- a write that is neither the first nor the last, where what stood before it is known
    pub stops_between : (calls made : ℕ) (old mid new : D) (here : List ℕ) (step : List ℕ → List ℕ) (Before After : List ℕ → Type 0) → made + 3 ≤ calls
        → Only (seen old) (may_leave old) → Before (seen old) → Before here → Before (step here) → seen mid ≡ here → certain mid ≡ certain old
        → moment mid ≡ moment old + made → certain new ≡ certain mid
        → IsWrittenOrNot (moment mid) (moment new) (seen mid) (seen new) (step (seen mid)) → Stops calls old new Before After
    stops_between calls made old mid new here step Before After long only first now there is kept counted same written_or =
        stops_middle calls made old mid new (step (seen mid)) Before After long only first (subst Before (sym is) now)
        (subst (λ (x : List ℕ). Before (step x)) (sym is) there) kept counted same written_or

    -- the last write before the sync, where what stood before it is known
    pub stops_last : (calls : ℕ) (old mid new : D) (here : List ℕ) (step : List ℕ → List ℕ) (Before : List ℕ → Type 0)
        → Only (seen old) (may_leave old) → Before (seen old) → Before here → seen mid ≡ here → certain mid ≡ certain old
        → moment mid + 2 ≡ moment old + calls → certain new ≡ certain mid
        → IsWrittenOrNot (moment mid) (moment new) (seen mid) (seen new) (step (seen mid))
        → Stops calls old new Before (λ image. image ≡ step here)
    stops_last calls old mid new here step Before only first now is kept counted same written_or =
        subst (λ (x : List ℕ). Stops calls old new Before (λ (image : List ℕ). image ≡ step x)) is
        (stops_write calls old mid new (step (seen mid)) Before only first (subst Before (sym is) now) kept counted same written_or)

    -- the sync behind the writes of a run, which make a change
    pub stops_sync : (calls : ℕ) (old mid new : D) (changed : List ℕ) (Before : List ℕ → Type 0) → Only (seen old) (may_leave old) → Before (seen old)
        → certain mid ≡ certain old → seen mid ≡ changed → moment mid + 1 ≡ moment old + calls
        → certain new ≡ certain mid → seen new ≡ seen mid → moment mid ≤ moment new → moment new ≤ moment mid + 1
        → Stops calls old new Before (λ image. image ≡ changed)
    stops_sync calls old mid new changed Before only here kept made counted same still later clock = record {
      clock = omega (arith, counted, clock);
      settled = subst Before (sym (same ∙ kept ∙ certain_seen old only)) here;
      early = λ is. absurd (omega (arith, counted, later));
      late = λ is. still ∙ made;
    }

-- nothing written, and the first of two writes
pub staged_none : (from n at k : ℕ) (content : List ℕ) → IsStaged from n at k content content
staged_none from n at k content = record { between = content; first = torn_same from n content; second = torn_same at k content }

pub staged_one : (from at k : ℕ) (first content : List ℕ) → IsStaged from (length first) at k content (written from first content)
staged_one from at k first content = record {
  between = written from first content;
  first = written_torn from first content;
  second = torn_same at k (written from first content);
}

pub staged_both : (from at : ℕ) (first second content : List ℕ) → IsStaged from (length first) at (length second) content
    (both_written from first at second content)
staged_both from at first second content = record {
  between = written from first content;
  first = written_torn from first content;
  second = written_torn at second (written from first content);
}

-- of three writes: none, one, two and all
module _ (start from at : ℕ) (first second third content : List ℕ) where
  abbrev Staged : List ℕ → Type 0
  Staged = IsStagedThrice start (length first) from (length second) at (length third) content

  pub thrice_none : Staged content
  thrice_none = record {
    between = content;
    first = torn_same start (length first) content;
    rest = staged_none from (length second) at (length third) content;
  }

  pub thrice_one : Staged (written start first content)
  thrice_one = record {
    between = written start first content;
    first = written_torn start first content;
    rest = staged_none from (length second) at (length third) (written start first content);
  }

  pub thrice_two : Staged (both_written start first from second content)
  thrice_two = record {
    between = written start first content;
    first = written_torn start first content;
    rest = staged_one from at (length third) second (written start first content);
  }

  pub thrice_all : Staged (thrice_written start first from second at third content)
  thrice_all = record {
    between = written start first content;
    first = written_torn start first content;
    rest = staged_both from at second third (written start first content);
  }
