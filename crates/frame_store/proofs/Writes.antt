-- What a write of the list leaves at each of its exits: in the words of a clause, and of the store's fields.
use Rattle.std.proofs.Common.{◌≡◌, ℕ, ◌+◌, ◌-◌, ◌^◌, ◌<◌, ◌≤◌, max, Bool, true, false, List, [], ◌∷◌, ◌++◌, length, Option, Some, None, sym, subst}
use Rattle.fab_disk.specs.declared.disk.Disk as on_disk
use Rattle.fab_disk.specs.Disk.{written, Torn}
use Rattle.fab_disk.specs.Changing.{End, Whole, Still, Run}
use Rattle.frame_store.specs.declared.frames.Frame.{Frame}
use Rattle.frame_store.specs.declared.shapes.Half.{Half}
use Rattle.frame_store.specs.declared.shapes.Shape.{Shape}
use Rattle.frame_store.specs.Layouts.{is_old, open_gate, header_at, header_rest, half_at, index_half_size, slot_at}
use Rattle.frame_store.specs.Listed.{size_of, line_of, closed_list, Fits}
use Rattle.frame_store.specs.Laid.{other, Laid, IsCounted}
use Rattle.frame_store.specs.Steps.{IsStaged, IsShutFirst, IsGated, IsBothGated, IsRewritten, both_written, closing, next_of}
use Rattle.frame_store.specs.Stores.{Held}
use Rattle.frame_store.specs.Ends.{ListChange}
use Rattle.frame_store.proofs.Exits.{Ready, append_change, append_laid, append_counted, put_change, put_laid, rewrite_change, rewrite_laid, rewrite_counted}

-- the runs that write a frame, a block and its frame, and a whole list
abbrev pub AppendRun : {D : Type 0} → on_disk.Ghosts D → ℕ → List ℕ → D → D → End → Type 0
AppendRun d p line mid new end =
    Run d 4 (Torn (p + 1) (length line) (d.seen mid)) (IsGated (p + 1) line p (d.seen mid))
    (λ image. image ≡ written p (open_gate ∷ []) (written (p + 1) line (d.seen mid))) mid new end

abbrev pub PutRun : {D : Type 0} → on_disk.Ghosts D → ℕ → List ℕ → ℕ → List ℕ → D → D → End → Type 0
PutRun d p line at block mid new end =
    Run d 5 (IsStaged at (length block) (p + 1) (length line) (d.seen mid)) (IsBothGated at block (p + 1) line p (d.seen mid))
    (λ image. image ≡ written p (open_gate ∷ []) (both_written at block (p + 1) line (d.seen mid))) mid new end

abbrev pub RewriteRun : {D : Type 0} → on_disk.Ghosts D → ℕ → List ℕ → List ℕ → ℕ → List ℕ → D → D → End → Type 0
RewriteRun d gate shut behind at line mid new end =
    Run d 7 (IsShutFirst gate shut behind at line (d.seen mid)) (IsRewritten gate shut behind at line (d.seen mid))
    (λ image. image ≡ written gate (open_gate ∷ []) (both_written (gate + 1) behind at line (written gate shut (d.seen mid)))) mid new end

module _ {D : Type 0} (d : on_disk.Ghosts D) where
  -- the list is changed so, and where that was made whole, what the store keeps of it is true
  pub record Written (calls : ℕ) (half : Half) (number : ℕ) (other_shut : Bool) (used size : ℕ) (shape : Shape) (listed after : List Frame)
      (put : Option (ℕ × List ℕ)) (s : Held D) (new : D) (end : End) : Type 0 where
    pub change : ListChange d calls s after put new end
    pub counted : IsCounted shape listed used
    pub laid : end ≡ Whole → d.tells → Laid shape half number other_shut listed true (d.seen new) × (length (d.seen new) ≡ size)

module _ {D : Type 0} (d : on_disk.Ghosts D) (only_now : (disk : D) (image : List ℕ) → d.left_since disk (d.moment disk) image → d.may_leave disk image)
    (counts : (disk : D) (t : ℕ) (image : List ℕ) → t ≤ d.moment disk → d.may_leave disk image → d.left_since disk t image) where
  -- Nothing was done yet but to make room, and the store is what a clause sees.
  module _ (half : Half) (number : ℕ) (other_shut : Bool) (used : ℕ) (held s : Held D) (mid new : D) (end : End) (view : held ≡ s)
      (counted : IsCounted held.shape held.frames used)
      (invariant : d.tells → held.halted ≡ false → Laid held.shape half number other_shut held.frames held.closed (d.seen held.disk)
      × (length (d.seen held.disk) ≡ held.size)) (runs : held.halted ≡ false) (slotted : is_old s.shape ≡ false) (rest : Still d held.disk mid ⊥) where
    ready : Ready d half number other_shut used mid held
    ready = record {
      counted = counted;
      invariant = invariant;
      runs = runs;
      rest = rest;
    }

    slotted_held : is_old held.shape ≡ false
    slotted_held = subst (λ (h : Held D). is_old h.shape ≡ false) (sym view) slotted

    -- an append
    module _ (p : ℕ) (frame : Frame) (line : List ℕ) (place : p ≡ half_at held.shape half + used) (fits : Fits s.shape s.frames (length frame.body))
        (line_is : line ≡ line_of frame) where
      fits_held : Fits held.shape held.frames (length frame.body)
      fits_held = subst (λ (h : Held D). Fits h.shape h.frames (length frame.body)) (sym view) fits

      pub appended : AppendRun d p line mid new end
          → Written d 4 half number other_shut (used + length line) (max held.size (p + 1 + length line)) held.shape (held.frames ++ frame ∷ []) (s.frames ++ frame ∷ []) None s new end
      appended run = record {
        change = subst (λ (h : Held D). ListChange d 4 h (h.frames ++ frame ∷ []) None new end) view
            (append_change d held half number other_shut used mid new ready slotted_held p frame line place fits_held line_is only_now counts end run);
        counted = append_counted d held half number other_shut used mid new ready slotted_held p frame line place fits_held line_is;
        laid = λ is. append_laid d held half number other_shut used mid new ready slotted_held p frame line place fits_held line_is (λ told. (run.whole is told).has);
      }

      pub put : (slot : ℕ) (block : List ℕ) (at : ℕ) → slot < s.shape.records → length block ≡ s.shape.block → at ≡ slot_at held.shape slot
          → PutRun d p line at block mid new end
          → Written d 5 half number other_shut (used + length line) (max held.size (p + 1 + length line)) held.shape (held.frames ++ frame ∷ [])
          (s.frames ++ frame ∷ []) (Some (slot, block)) s new end
      put slot block at is_slot whole at_is run =
          let here = subst (λ (h : Held D). slot < h.shape.records) (sym view) is_slot in
          let long = subst (λ (h : Held D). length block ≡ h.shape.block) (sym view) whole in
          record {
            change = subst (λ (h : Held D). ListChange d 5 h (h.frames ++ frame ∷ []) (Some (slot, block)) new end) view
                (put_change d held half number other_shut used mid new ready slotted_held p frame line place fits_held line_is slot block here long at at_is only_now
                counts end run);
            counted = append_counted d held half number other_shut used mid new ready slotted_held p frame line place fits_held line_is;
            laid = λ is. put_laid d held half number other_shut used mid new ready slotted_held p frame line place fits_held line_is slot block here long at at_is
                (λ told. (run.whole is told).has);
          }

    -- a rewrite
    pub rewritten : (fs : List Frame) (gate at : ℕ) (shut behind line : List ℕ) → size_of fs + 1 ≤ index_half_size s.shape → number < 2 ^ 64
        → gate ≡ header_at (other half) → at ≡ half_at held.shape (other half) → shut ≡ closing other_shut
        → behind ≡ header_rest held.shape (next_of number) → line ≡ closed_list fs
        → RewriteRun d gate shut behind at line mid new end
        → Written d 7 (other half) (next_of number) false (length line - 1) (max held.size (at + length line)) held.shape fs fs None s new end
    rewritten fs gate at shut behind line fits small gate_is at_is shut_is behind_is line_is run =
        let here = subst (λ (h : Held D). size_of fs + 1 ≤ index_half_size h.shape) (sym view) fits in
        record {
          change = subst (λ (h : Held D). ListChange d 7 h fs None new end) view
              (rewrite_change d held half number other_shut used mid new ready slotted_held fs gate at shut behind line here small gate_is at_is shut_is behind_is
              line_is only_now counts end run);
          counted = rewrite_counted d held half number other_shut used mid new ready slotted_held fs gate at shut behind line here small gate_is at_is shut_is
              behind_is line_is;
          laid = λ is. rewrite_laid d held half number other_shut used mid new ready slotted_held fs gate at shut behind line here small gate_is at_is shut_is
              behind_is line_is (λ told. (run.whole is told).has);
        }
