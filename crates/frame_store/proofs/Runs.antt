-- What a crash leaves in a run of writes that begins on a disk with nothing unsynced.
use Rattle.std.proofs.Common.{◌≡◌, ℕ, List, Result, Ok, Err, refl, sym, ap, subst, arith}
use Rattle.std.specs.Result.{IsOk, IsOkUnless}
use Rattle.frame_store.specs.declared.faults.FrameFault.{FrameFault}
use Rattle.frame_store.specs.declared.faults.FrameFault.TheVariants.{Disk}
use Rattle.fab_disk.specs.Disk.{Torn, Follows, Only, Elapses, LeavesOnly}
use Rattle.fab_disk.proofs.Moments.{started, goes_on}
use Rattle.frame_store.specs.Steps.{IsStaged, IsStagedThrice}

-- a call that answers Ok or Disk is made whole or cut short
pub made_or_cut : (r : Result (Unit {0}) FrameFault) → IsOkUnless r Disk → (IsOk r → ⊥) → (r ≡ Err Disk → ⊥) → ⊥
made_or_cut (Ok u) only not_whole not_cut = not_whole refl
made_or_cut (Err f) only not_whole not_cut = not_cut (ap Err only)

-- nothing is torn
pub torn_same : (at n : ℕ) (content : List ℕ) → Torn at n content content
torn_same at n content = record { kept = λ i lt out. refl; no_shorter = omega arith; no_longer = omega arith }

pub torn_is : (at n : ℕ) (content image : List ℕ) → image ≡ content → Torn at n content image
torn_is at n content image is = subst (Torn at n content) (sym is) (torn_same at n content)

-- a write after which a crash leaves the one content torn
pub torn_from : (at n : ℕ) (content : List ℕ) (old new : List ℕ → Type 0) → Only content old → Follows (Torn at n) old new → (image : List ℕ)
    → new image → Torn at n content image
torn_from at n content old new only follows image left =
    let from = follows image left in
    subst (λ (d : List ℕ). Torn at n d image) (only from.0 from.1) from.2

module _ {D : Type 0} (may_leave : D → List ℕ → Type 0) (moment : D → ℕ) (left_since : D → ℕ → List ℕ → Type 0)
    (only_now : (disk : D) (image : List ℕ) → left_since disk (moment disk) image → may_leave disk image) where
  -- before the first call, where the one content has P
  pub begun : (disk : D) (content : List ℕ) (P : List ℕ → Type 0) → Only content (may_leave disk) → P content
      → LeavesOnly moment left_since disk disk P
  begun disk content P only here = started moment left_since disk P (λ image left. subst P (sym (only image (only_now disk image left))) here)

  -- a write
  pub write_one : (old mid : D) (content : List ℕ) (at n : ℕ) → Only content (may_leave old) → Follows (Torn at n) (may_leave old) (may_leave mid)
      → Elapses (moment old) (moment mid) (left_since old) (left_since mid) (may_leave mid) → LeavesOnly moment left_since old mid (Torn at n content)
  write_one old mid content at n only follows time =
      goes_on moment left_since old old mid (Torn at n content) (may_leave mid) (begun old content (Torn at n content) only (torn_same at n content)) time
      (torn_from at n content (may_leave old) (may_leave mid) only follows)

  -- a write and a sync
  pub write_then_sync : (old mid new : D) (content : List ℕ) (at n : ℕ) → Only content (may_leave old) → Follows (Torn at n) (may_leave old)
      (may_leave mid)
      → Elapses (moment old) (moment mid) (left_since old) (left_since mid) (may_leave mid)
      → ((image : List ℕ) → may_leave new image → may_leave mid image)
      → Elapses (moment mid) (moment new) (left_since mid) (left_since new) (may_leave new) → LeavesOnly moment left_since old new (Torn at n content)
  write_then_sync old mid new content at n only follows time fewer later =
      goes_on moment left_since old mid new (Torn at n content) (may_leave new) (write_one old mid content at n only follows time) later
      (λ image left. torn_from at n content (may_leave old) (may_leave mid) only follows image (fewer image left))

  -- the first of two writes
  pub write_first : (old mid : D) (content : List ℕ) (from n at k : ℕ) → Only content (may_leave old) → Follows (Torn from n) (may_leave old)
      (may_leave mid)
      → Elapses (moment old) (moment mid) (left_since old) (left_since mid) (may_leave mid) → LeavesOnly moment left_since old mid
      (IsStaged from n at k content)
  write_first old mid content from n at k only follows time =
      let P : List ℕ → Type 0 = IsStaged from n at k content in
      let none = torn_same from n content in
      let first = begun old content P only (record { between = content; first = none; second = torn_same at k content }) in
      goes_on moment left_since old old mid P (may_leave mid) first time
      (λ image left. record {
        between = image;
        first = torn_from from n content (may_leave old)
            (may_leave mid) only follows image left;
        second = torn_same at k image;
      })

  -- what both of them leave
  pub staged_now : (old mid new : D) (content : List ℕ) (from n at k : ℕ) → Only content (may_leave old) → Follows (Torn from n) (may_leave old)
      (may_leave mid)
      → Follows (Torn at k) (may_leave mid) (may_leave new) → (image : List ℕ) → may_leave new image → IsStaged from n at k content image
  staged_now old mid new content from n at k only follows follows_then image left =
      let came = follows_then image left in
      record { between = came.0; first = torn_from from n content (may_leave old) (may_leave mid) only follows came.0 came.1; second = came.2 }

  -- two writes
  pub write_twice : (old mid new : D) (content : List ℕ) (from n at k : ℕ) → Only content (may_leave old) → Follows (Torn from n) (may_leave old)
      (may_leave mid)
      → Elapses (moment old) (moment mid) (left_since old) (left_since mid) (may_leave mid) → Follows (Torn at k) (may_leave mid) (may_leave new)
      → Elapses (moment mid) (moment new) (left_since mid) (left_since new) (may_leave new) → LeavesOnly moment left_since old new
      (IsStaged from n at k content)
  write_twice old mid new content from n at k only follows time follows_then later =
      goes_on moment left_since old mid new (IsStaged from n at k content) (may_leave new)
      (write_first old mid content from n at k only follows time) later
      (staged_now old mid new content from n at k only follows follows_then)

  -- and a sync, which leaves no more
  pub then_sync : (old mid new : D) (P : List ℕ → Type 0) → LeavesOnly moment left_since old mid P
      → ((image : List ℕ) → may_leave mid image → P image)
      → ((image : List ℕ) → may_leave new image → may_leave mid image) → Elapses (moment mid) (moment new) (left_since mid) (left_since new)
      (may_leave new)
      → LeavesOnly moment left_since old new P
  then_sync old mid new P so_far now fewer later = goes_on moment left_since old mid new P (may_leave new) so_far later
      (λ image left. now image (fewer image left))

  -- three writes: what the first, the first two and all of them leave
  module _ (old one : D) (content : List ℕ) (start n from k at m : ℕ) (only : Only content (may_leave old))
      (first : Follows (Torn start n) (may_leave old) (may_leave one))
      (time_one : Elapses (moment old) (moment one) (left_since old) (left_since one) (may_leave one)) where
    abbrev Staged : List ℕ → Type 0
    Staged = IsStagedThrice start n from k at m content

    nothing : Staged content
    nothing = record {
      between = content;
      first = torn_same start n content;
      rest = record { between = content; first = torn_same from k content; second = torn_same at m content };
    }

    pub thrice_first : LeavesOnly moment left_since old one Staged
    thrice_first = goes_on moment left_since old old one Staged (may_leave one) (begun old content Staged only nothing) time_one (λ image left. record {
      between = image;
      first = torn_from start n content (may_leave old) (may_leave one) only first image left;
      rest = record { between = image; first = torn_same from k image; second = torn_same at m image };
    })

    module _ (two : D) (second : Follows (Torn from k) (may_leave one) (may_leave two))
        (time_two : Elapses (moment one) (moment two) (left_since one) (left_since two) (may_leave two)) where
      pub thrice_second : LeavesOnly moment left_since old two Staged
      thrice_second = goes_on moment left_since old one two Staged (may_leave two) thrice_first time_two (λ image left.
          let came = second image left in
          record {
            between = came.0;
            first = torn_from start n content (may_leave old) (may_leave one) only first came.0 came.1;
            rest = record { between = image; first = came.2; second = torn_same at m image };
          })

      module _ (three : D) (third : Follows (Torn at m) (may_leave two) (may_leave three))
          (time_three : Elapses (moment two) (moment three) (left_since two) (left_since three) (may_leave three)) where
        pub thrice_now : (image : List ℕ) → may_leave three image → Staged image
        thrice_now image left =
            let last = third image left in
            let came = second last.0 last.1 in
            record {
              between = came.0;
              first = torn_from start n content (may_leave old) (may_leave one) only first came.0 came.1;
              rest = record { between = last.0; first = came.2; second = last.2 };
            }

        pub thrice_third : LeavesOnly moment left_since old three Staged
        thrice_third = goes_on moment left_since old two three Staged (may_leave three) thrice_second time_three thrice_now
