-- The count of an opening is appended to the list of a store.
use Rattle.std.proofs.Common.{◌≡◌, ℕ, ◌+◌, None, ap, subst, ◌∙◌}
use Rattle.fab_disk.specs.declared.disk.Disk as on_disk
use Rattle.fab_disk.specs.Changing.{End, Change, Stands}
use Rattle.frame_store.specs.declared.shapes.Shape.{Shape}
use Rattle.frame_store.specs.Stores.{Held}
use Rattle.stamp_store.specs.declared.kept_records.Kept.TheVariants.{Boot}
use Rattle.brick_state.specs.declared.records.Record.TheVariants as forms
use Rattle.brick_state.specs.Entries.{Entry}
use Rattle.brick_state.specs.States.{StateOf, booted}
use Rattle.brick_state.specs.Folds.{Limits}
use Rattle.brick_store.specs.Ends.{StateChange}
use Rattle.brick_store.specs.Steps.{CanChange, IsChanged, IsUnchanged, changed}
use Rattle.brick_store.proofs.Starting.{counted}
use Rattle.brick_store.proofs.StateChanges.{stands_before}

-- the next count is that of one opening more
pub next_count : (limits : Limits) (count : ℕ) (st : StateOf Entry) → count ≡ st.boot
    → changed limits (forms.Kept (Boot (count + 1))) st ≡ booted (st.boot + 1) st
next_count limits count st is = counted limits (count + 1) st ∙ ap (λ (n : ℕ). booted (n + 1) st) is

module _ {D : Type 0} (d : on_disk.Ghosts D) (shape : Shape) (st : StateOf Entry) (mid : Held D) (same : mid.shape ≡ shape) where
  -- a store of this shape that can be changed stands as before its count
  pub count_stands : CanChange d st mid → d.tells → Stands d (IsUnchanged shape None st (d.seen mid.disk)) mid.disk
  count_stands may told =
      subst (λ (s : Shape). Stands d (IsUnchanged s None st (d.seen mid.disk)) mid.disk) same (stands_before d None st mid may told)

  -- and its count is a change of a list of this shape, to the state that it makes
  pub count_change : (after next : StateOf Entry) (new : D) (end : End) → after ≡ next → StateChange d 4 mid None st after new end
      → Change d 4 (IsUnchanged shape None st (d.seen mid.disk)) (IsChanged shape None next (d.seen mid.disk)) mid.disk new end
  count_change after next new end is change =
      subst (λ (s : StateOf Entry). Change d 4 (IsUnchanged shape None st (d.seen mid.disk)) (IsChanged shape None s (d.seen mid.disk)) mid.disk new end) is
      (subst (λ (s : Shape). Change d 4 (IsUnchanged s None st (d.seen mid.disk)) (IsChanged s None after (d.seen mid.disk)) mid.disk new end) same change)
