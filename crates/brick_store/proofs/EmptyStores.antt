-- A list of no frames stands for a brick that keeps nothing.
use Rattle.std.proofs.Common.{◌≡◌, ◌⊎◌, inl, inr, ℕ, true, List, [], Err, refl}
use Rattle.fab_disk.specs.declared.disk.Disk as on_disk
use Rattle.fab_disk.specs.Changing.{End, IsAny, Run}
use Rattle.fab_disk.proofs.Changing.{widen}
use Rattle.frame_store.specs.declared.faults.FrameFault.{FrameFault}
use Rattle.frame_store.specs.declared.faults.FrameFault.TheVariants as lists
use Rattle.frame_store.specs.Ends.{end_of}
use Rattle.frame_store.specs.declared.shapes.Form.{Form}
use Rattle.frame_store.specs.declared.shapes.Form.TheVariants.{Old, New, Moved}
use Rattle.frame_store.specs.declared.shapes.Shape.{Shape}
use Rattle.frame_store.specs.Layouts.{formed}
use Rattle.frame_store.specs.Images.{IsEmptyStore, OpensAs}
use Rattle.brick_state.specs.States.{empty}
use Rattle.brick_state.specs.Folds.{folded}
use Rattle.brick_store.specs.Blocks.{resolved}
use Rattle.brick_store.specs.Images.{StandsFor, records_of, state_by}
use Rattle.brick_store.specs.OldLists.{old_folded}
use Rattle.brick_store.specs.Openings.{making_end, write_fault_of}
use Rattle.brick_store.proofs.Stepping.{refused}

empty_in : (form : Form) (shape : Shape) (image : List ℕ) → state_by form shape [] image ≡ empty
unfolding records_of old_folded folded resolved
empty_in Old shape image = refl
empty_in New shape image = refl
empty_in Moved shape image = refl

pub stands_empty : (form : Form) (shape : Shape) (image : List ℕ) → OpensAs (formed form shape) [] true image → StandsFor shape empty image
stands_empty form shape image opens = record { form = form; frames = []; opens = opens; state = empty_in form (formed form shape) image }

module _ {D : Type 0} (d : on_disk.Ghosts D) (form : Form) (shape : Shape) (old new : D) where
  -- a format, in the words of what its disk stands for
  pub made_empty : (end : End) → Run d 5 IsAny IsAny (IsEmptyStore (formed form shape)) old new end → Run d 5 IsAny IsAny (StandsFor shape empty) old new end
  made_empty end = widen d 5 IsAny IsAny (IsEmptyStore (formed form shape)) IsAny IsAny (StandsFor shape empty) old new end (λ told has. has)
      (λ told has image before. before) (λ told has image during. during) (λ told image after. stands_empty form shape image after.opens)

  -- and by its own fault
  pub made_ends : (fault : FrameFault) → (refused fault ≡ refused lists.Disk) ⊎ (refused fault ≡ refused lists.NoMemory)
      → Run d 5 IsAny IsAny (StandsFor shape empty) old new (end_of (refused fault))
      → Run d 5 IsAny IsAny (StandsFor shape empty) old new (making_end (Err (write_fault_of fault)))
  made_ends lists.Disk only run = run
  made_ends lists.NoMemory only run = run
  made_ends lists.Halted (inl is) run = absurd cc
  made_ends lists.Halted (inr is) run = absurd cc
