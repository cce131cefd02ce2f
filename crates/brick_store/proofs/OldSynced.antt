-- An old store that was synced is brought over, and its opening counted.
use Rattle.std.proofs.Common.{◌≡◌, ℕ, ◌+◌, ◌<◌, ◌≤◌, Bool, true, false, None, List, length, Result, Ok, Err, OnOk, refl, ap, subst, ◌∙◌}
use Rattle.fab_disk.specs.declared.disk.Disk as on_disk
use Rattle.fab_disk.specs.Changing.{End, Whole, Cut, NotBegun, Change, Stands}
use Rattle.frame_store.specs.declared.frames.Frame.{Frame}
use Rattle.frame_store.specs.declared.shapes.Form.TheVariants.{New, Moved}
use Rattle.frame_store.specs.declared.shapes.Shape.{Shape}
use Rattle.frame_store.specs.Ends.{BringsOver}
use Rattle.frame_store.specs.Images.{IsBroughtOver, KeepsSlots, OpensAs}
use Rattle.frame_store.specs.Layouts.{formed}
use Rattle.frame_store.specs.Stores.{HasCome, Held, IsRead}
use Rattle.version_log.specs.Versions.{Version}
use Rattle.brick_state.specs.Entries.{Entry}
use Rattle.brick_state.specs.States.{StateOf, booted}
use Rattle.brick_store.specs.declared.faults.StoreFault.{StoreFault}
use Rattle.brick_store.specs.Blocks.{resolved}
use Rattle.brick_store.specs.BringingOver.{IsAmong, LiesIn, cut_block}
use Rattle.brick_store.specs.Ends.{StateChange, end_of}
use Rattle.brick_store.specs.Images.{StandsFor}
use Rattle.brick_store.specs.Openings.{StartsOver}
use Rattle.brick_store.specs.ReadStores.{KeepsOldState, old_state_of}
use Rattle.brick_store.specs.Standing.{AllSlots}
use Rattle.brick_store.specs.Steps.{CanChange, LeadsTo}
use Rattle.brick_store.proofs.BootCounts.{count_change, count_stands}
use Rattle.brick_store.proofs.OldStarts.{after_over, bring_cut, count_over, few_boots, lies, may_over, moved_stands}
use Rattle.brick_store.proofs.Opened.{counted_seen}
use Rattle.brick_store.proofs.Resolving.{slots_imply}
use Rattle.brick_store.proofs.StateChanges.{slots_after}
use Rattle.brick_store.proofs.Stepping.{slots_same}
use Rattle.brick_store.proofs.Synced.{IsSynced}

on_each : {E P Q : Type 0} (r : Result (Unit {0}) E) → OnOk r P → (P → Q) → OnOk r Q
on_each (Ok value) is then = then is
on_each (Err fault) is then = tt

module _ {D : Type 0} (old : Held D) (listed : List Frame) (blocks : List ℕ) (st : StateOf Entry) (to : KeepsOldState old listed blocks st) where
  abbrev before : StateOf Version
  before = old_state_of old

  abbrev moved : Shape
  moved = formed Moved old.shape

  -- it was opened less often than it can be
  few_before : before.boot < 4294967295
  few_before = few_boots (cut_block old.shape.block blocks) st _ to.state to.boots

  -- an image of it once it was brought over stands for the state
  brought_stands : (image : List ℕ) → IsBroughtOver old.shape listed blocks image → StandsFor (formed New old.shape) before image
  brought_stands image at =
      subst (λ (s : StateOf Version). StandsFor (formed New old.shape) s image) to.state
      (after_over old.shape listed blocks image st to.shape to.leads to.slots at)

  module _ (d : on_disk.Ghosts D) (mid held : Held D) (synced : IsSynced d old mid held) where
    -- the bringing over, in words of the store that was read
    brought : (new : D) (end : End) → BringsOver d held listed blocks new end
        → Change d 8 (OpensAs old.shape old.frames true) (IsBroughtOver old.shape listed blocks) held.disk new end
    brought new end change =
        subst (λ (fs : List Frame). Change d 8 (OpensAs old.shape fs true) (IsBroughtOver old.shape listed blocks) held.disk new end) synced.same.frames
        (subst (λ (s : Shape). Change d 8 (OpensAs s held.frames true) (IsBroughtOver s listed blocks) held.disk new end) synced.same.shape change)

    -- until then it stands as the old list
    old_stands : d.tells → old.closed ≡ true → Stands d (OpensAs old.shape old.frames true) held.disk
    old_stands told closed = record {
      only = synced.only told;
      has = subst (λ (b : Bool). OpensAs old.shape old.frames b (d.seen held.disk)) (synced.same.closed ∙ closed)
          (subst (λ (fs : List Frame). OpensAs old.shape fs held.closed (d.seen held.disk)) synced.same.frames
          (subst (λ (s : Shape). OpensAs s held.frames held.closed (d.seen held.disk)) synced.same.shape (synced.read told synced.runs).opens));
    }

    module _ (over : Held D) (came : HasCome listed held over) (change : BringsOver d held listed blocks over.disk Whole) where
      over_shape : over.shape ≡ moved
      over_shape = came.shape ∙ ap (formed Moved) synced.same.shape

      -- once it was brought over, it can be changed
      pub may_count : over.halted ≡ false → IsRead d.tells d.seen over → CanChange d st over
      may_count runs read =
          may_over d old.shape listed st over over_shape runs came.frames to.leads
          (λ told. record { only = (change.whole refl told).only; shows = read told runs; closed = came.closed })

      -- an image of frames that lead to a state with slots of these blocks stands for it
      moved_on : d.tells → (now : StateOf Entry) (image : List ℕ) → AllSlots (IsAmong old.shape.block (length blocks)) now
          → KeepsSlots moved None (d.seen over.disk) image → LeadsTo moved now image
          → StandsFor (formed New old.shape) (resolved (cut_block old.shape.block blocks) now) image
      moved_on told now image among slots leads =
          moved_stands old.shape blocks (d.seen over.disk) image to.are.count now to.shape to.are.long to.are.slots
          ((brought over.disk Whole change).whole refl told).has.stand among slots leads

      -- its blocks still lie in their slots once its opening was counted
      pub lie_counted : (after : StateOf Entry) (new : D) (result : Result (Unit {0}) StoreFault) → StateChange d 4 over None st after new (end_of result)
          → d.tells → OnOk result (AllSlots (LiesIn moved blocks (d.seen new)) st)
      lie_counted after new result count told =
          on_each result
          (slots_after d 4 st after moved (d.seen over.disk) over new result over_shape
          (slots_same moved None (d.seen over.disk) (d.seen over.disk) refl) count told)
          (λ kept. slots_imply (IsAmong old.shape.block (length blocks)) (LiesIn moved blocks (d.seen new))
          (λ slot. lies old.shape blocks (d.seen over.disk) (d.seen new) to.are.count slot to.shape to.are.long to.are.slots
          ((brought over.disk Whole change).whole refl told).has.stand kept) st to.slots)

    module _ (only_now : (disk : D) (image : List ℕ) → d.left_since disk (d.moment disk) image → d.may_leave disk image)
        (counts : (disk : D) (t : ℕ) (image : List ℕ) → t ≤ d.moment disk → d.may_leave disk image → d.left_since disk t image) where
      -- its bringing over was cut short
      pub cut_synced : (new : D) → BringsOver d held listed blocks new Cut → StartsOver d before old new Cut
      cut_synced new change =
          bring_cut d only_now counts old to.form mid.disk _ synced.still few_before held.disk _ _ refl synced.time synced.crash synced.run
          synced.cause old_stands (IsBroughtOver old.shape listed blocks) brought_stands new (brought new Cut change)

      -- it was brought over, and its opening was counted or that was cut short
      pub count_synced : (over : Held D) (after : StateOf Entry) (new : D) (end : End) → HasCome listed held over → CanChange d st over
          → BringsOver d held listed blocks over.disk Whole → after ≡ booted (st.boot + 1) st → StateChange d 4 over None st after new end
          → ((end ≡ Whole → ⊥) → (end ≡ Cut → ⊥) → ⊥) × (end ≡ NotBegun → ⊥) → StartsOver d before old new end
      count_synced over after new end came may change is count ends =
          count_over d only_now counts old to.form mid.disk _ synced.still few_before held.disk _ _ refl synced.time synced.crash synced.run
          synced.cause old_stands (IsBroughtOver old.shape listed blocks) brought_stands over.disk new end _ _ (brought over.disk Whole change)
          (count_change d moved st over (over_shape over came change) after (booted (st.boot + 1) st) new end is count)
          (λ told image at. subst (λ (s : StateOf Version). StandsFor (formed New old.shape) s image) to.state
          (moved_on over came change told st image to.slots at.slots at.opens))
          (λ told image at. subst (λ (s : StateOf Version). StandsFor (formed New old.shape) s image)
          (counted_seen (cut_block old.shape.block blocks) st ∙ ap (λ (s : StateOf Version). booted (s.boot + 1) s) to.state)
          (moved_on over came change told (booted (st.boot + 1) st) image to.slots at.slots at.opens))
          (count_stands d moved st over (over_shape over came change) may) ends.0 ends.1
