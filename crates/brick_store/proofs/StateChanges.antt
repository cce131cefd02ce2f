-- A change of what a list of frames leads to, as one change of the disk.
use Rattle.std.proofs.Common.{◌≡◌, ◌≢◌, ◌⊎◌, inl, inr, ⊎_elim, ℕ, ◌+◌, ◌≤◌, Bool, false, Option, Some, None, List, [], ◌∷◌, ◌++◌, Result, Ok, Err, refl, sym, subst}
use Rattle.std.specs.Option.{IsSome}
use Rattle.std.specs.Result.{OnOk}
use Rattle.fab_disk.specs.declared.disk.Disk as on_disk
use Rattle.fab_disk.specs.Changing.{End, Whole, Cut, NotBegun, Stands, Still, Run, Change}
use Rattle.fab_disk.proofs.Changing.{widen, then, cut_first, idle, behind, same, none, refused_any}
use Rattle.frame_store.specs.declared.frames.Frame.{Frame}
use Rattle.frame_store.specs.declared.shapes.Shape.{Shape}
use Rattle.frame_store.specs.Layouts.{is_old}
use Rattle.frame_store.specs.declared.faults.FrameFault.{FrameFault}
use Rattle.frame_store.specs.declared.faults.FrameFault.TheVariants as frames
use Rattle.frame_store.specs.Images.{OpensAs, KeepsSlots, Lists, ListsWith}
use Rattle.frame_store.specs.Stores.{Held}
use Rattle.frame_store.specs.Ends.{ListChange}
use Rattle.frame_store.specs.Ends as lists
use Rattle.brick_state.specs.declared.records.Record.{Record}
use Rattle.brick_state.specs.Entries.{Entry}
use Rattle.brick_state.specs.States.{StateOf, empty}
use Rattle.brick_state.specs.Folds.{Limits, applied}
use Rattle.brick_store.specs.declared.faults.StoreFault.{StoreFault}
use Rattle.brick_store.specs.declared.faults.StoreFault.TheVariants as StoreFaults
use Rattle.brick_store.specs.Bricks.{fault_of}
use Rattle.brick_store.specs.Images.{record_of, limits_of}
use Rattle.brick_store.specs.Standing.{Leads}
use Rattle.brick_store.specs.Steps.{changed, IsUnchanged, IsChanged, IsSettled, Step, CanChange}
use Rattle.brick_store.specs.Ends.{end_of, StateChange}
use Rattle.brick_store.proofs.Stepping.{refused, slots_same, slots_then, slots_wider, leads_changed}

-- ---- images

-- the frames of a store before a change lead to its state, and so do those after it
unchanged_from : (shape : Shape) (put : Option (ℕ × List ℕ)) (listed : List Frame) (st : StateOf Entry) (content image : List ℕ)
    → Leads (limits_of shape) listed empty st → Lists shape listed put content image → IsUnchanged shape put st content image
unchanged_from shape put listed st content image leads is =
    record { opens = record { frames = listed; opens = is.opens; leads = leads }; slots = is.slots }

changed_from : (shape : Shape) (put : Option (ℕ × List ℕ)) (listed : List Frame) (st : StateOf Entry) (content image : List ℕ)
    → Leads (limits_of shape) listed empty st → ListsWith shape listed put content image → IsChanged shape put st content image
changed_from shape put listed st content image leads is =
    record { opens = record { frames = listed; opens = is.opens; leads = leads }; stands = is.stands; slots = is.slots }

-- a list that is written anew and leads to the same state
wider_from : (shape : Shape) (put : Option (ℕ × List ℕ)) (st : StateOf Entry) (content image : List ℕ) → IsUnchanged shape None st content image
    → IsUnchanged shape put st content image
wider_from shape put st content image is = record { opens = is.opens; slots = slots_wider shape put content image is.slots }

wider_changed : (shape : Shape) (put : Option (ℕ × List ℕ)) (st : StateOf Entry) (content image : List ℕ) → IsChanged shape None st content image
    → IsUnchanged shape put st content image
wider_changed shape put st content image is = record { opens = is.opens; slots = slots_wider shape put content image is.slots }

-- ---- ends

-- a call of the list ended as the change did
pub ends_as : (fault : FrameFault) → lists.end_of (refused fault) ≡ end_of (refused (fault_of fault))
ends_as frames.Disk = refl
ends_as frames.NoMemory = refl
ends_as frames.Halted = refl

-- it was not begun for want of memory alone
pub not_begun_so : {P : Type 0} (fault : FrameFault) → (fault ≡ frames.Halted → ⊥) → (fault ≡ frames.NoMemory → P)
    → end_of (refused (fault_of fault)) ≡ NotBegun → P
not_begun_so frames.Disk halted memory is = absurd cc
not_begun_so frames.NoMemory halted memory is = memory refl
not_begun_so frames.Halted halted memory is = absurd (halted refl)

-- a fault ends no change whole
pub not_whole : (fault : StoreFault) → end_of (refused fault) ≡ Whole → ⊥
not_whole StoreFaults.Disk is = cc
not_whole (StoreFaults.Full n) is = cc
not_whole StoreFaults.Halted is = cc
not_whole StoreFaults.NoMemory is = cc

-- the disk failed where the change was cut short
pub cut_means : (fault : FrameFault) → end_of (refused (fault_of fault)) ≡ Cut → refused fault ≡ refused frames.Disk
cut_means frames.Disk is = refl
cut_means frames.NoMemory is = absurd cc
cut_means frames.Halted is = absurd cc

module _ {D : Type 0} (d : on_disk.Ghosts D) where
  -- a change in the words of an equal index
  pub as_index : (calls : ℕ) (put : Option (ℕ × List ℕ)) (item : Record) (limits other : Limits) (st now : StateOf Entry) (old : Held D) (new : D)
      (end : End) → other ≡ limits → now ≡ st → StateChange d calls old put now (changed other item now) new end
      → StateChange d calls old put st (changed limits item st) new end
  as_index calls put item limits other st now old new end same is change =
      subst (λ (l : Limits). StateChange d calls old put st (changed l item st) new end) same
      (subst (λ (s : StateOf Entry). StateChange d calls old put s (changed other item s) new end) is change)

  -- a change that was refused at once
  pub unbegun : ((disk : D) (image : List ℕ) → d.left_since disk (d.moment disk) image → d.may_leave disk image) → (calls : ℕ)
      (put : Option (ℕ × List ℕ)) (before after : StateOf Entry) (old : Held D) → StateChange d calls old put before after old.disk NotBegun
  unbegun only_now calls put before after old =
      same d only_now calls (IsUnchanged old.shape put before (d.seen old.disk)) _ (IsChanged old.shape put after (d.seen old.disk))
      (λ image is. inl is) old.disk

  -- a change before which room in memory was refused, or the disk failed
  pub reserve_failed : ((disk : D) (image : List ℕ) → d.left_since disk (d.moment disk) image → d.may_leave disk image)
      → ((disk : D) → d.may_leave disk (d.certain disk)) → (calls : ℕ) (put : Option (ℕ × List ℕ)) (before after : StateOf Entry) (old : Held D)
      (mid : D) (fault : FrameFault) → Still d old.disk mid (refused fault ≡ refused frames.Disk) → d.certain mid ≡ d.certain old.disk → 2 ≤ calls
      → StateChange d calls old put before after mid (end_of (refused (fault_of fault)))
  reserve_failed only_now certain_is_left calls put before after old mid fault rest certain long =
      idle d only_now (IsUnchanged old.shape put before (d.seen old.disk)) _ (λ image is. inl is) old.disk mid _ rest certain_is_left certain calls
      (IsChanged old.shape put after (d.seen old.disk)) (end_of (refused (fault_of fault))) long (not_whole (fault_of fault)) (cut_means fault)

  -- room in memory was made, and then came the change
  pub reserved_then : ((disk : D) (image : List ℕ) → d.left_since disk (d.moment disk) image → d.may_leave disk image)
      → ((disk : D) (t : ℕ) (image : List ℕ) → t ≤ d.moment disk → d.may_leave disk image → d.left_since disk t image) → (calls : ℕ)
      (put : Option (ℕ × List ℕ)) (before after : StateOf Entry) (old mid : Held D) (new : D) (end : End) (F : Type 0) → mid.shape ≡ old.shape
      → Still d old.disk mid.disk F → StateChange d calls mid put before after new end → StateChange d calls old put before after new end
  reserved_then only_now counts_now calls put before after old mid new end F shape rest change =
      behind d only_now (IsUnchanged old.shape put before (d.seen old.disk)) _ (λ image is. inl is) old.disk mid.disk F rest counts_now calls
      (IsChanged old.shape put after (d.seen old.disk)) new end
      (subst (λ (s : Shape). Change d calls (IsUnchanged s put before (d.seen old.disk)) (IsChanged s put after (d.seen old.disk)) mid.disk new end)
      shape
      (subst (λ (content : List ℕ). Change d calls (IsUnchanged mid.shape put before content) (IsChanged mid.shape put after content) mid.disk new end)
      rest.untouched.content change))

  -- a change of the list, by what the frames lead to
  pub state_change : (calls : ℕ) (put : Option (ℕ × List ℕ)) (before after : StateOf Entry) (listed : List Frame) (old : Held D) (new : D) (end : End)
      → CanChange d before old → Leads (limits_of old.shape) listed empty after → ListChange d calls old listed put new end
      → StateChange d calls old put before after new end
  state_change calls put before after listed old new end may leads change =
      widen d calls (Lists old.shape old.frames put (d.seen old.disk)) _ (ListsWith old.shape listed put (d.seen old.disk))
      (IsUnchanged old.shape put before (d.seen old.disk)) _ (IsChanged old.shape put after (d.seen old.disk)) old.disk new end
      (λ told here. record {
        opens = subst (λ (b : Bool). OpensAs old.shape old.frames b (d.seen old.disk)) (may.settled told).closed (may.settled told).shows.opens;
        slots = slots_same old.shape put (d.seen old.disk) (d.seen old.disk) refl;
      })
      (λ told here image. unchanged_from old.shape put old.frames before (d.seen old.disk) image may.leads)
      (λ told here image. ⊎_elim (λ is. inl (unchanged_from old.shape put old.frames before (d.seen old.disk) image may.leads is))
      (λ is. inr (changed_from old.shape put listed after (d.seen old.disk) image leads is)))
      (λ told image. changed_from old.shape put listed after (d.seen old.disk) image leads)
      change

  -- a change that was refused by the list
  pub at_fault : (calls : ℕ) (put : Option (ℕ × List ℕ)) (before after : StateOf Entry) (old : Held D) (new : D) (fault : FrameFault)
      → StateChange d calls old put before after new (lists.end_of (refused fault))
      → StateChange d calls old put before after new (end_of (refused (fault_of fault)))
  at_fault calls put before after old new fault change = subst (λ (e : End). StateChange d calls old put before after new e) (ends_as fault) change

  -- after a change that was made the store can be changed again
  pub may_go_on : {Listed : ℕ → Type 0} (calls : ℕ) (put : Option (ℕ × List ℕ)) (before after : StateOf Entry) (old new : Held D)
      → CanChange d before old → Step d before after Listed old new (Ok tt) → StateChange d calls old put before after new.disk Whole → CanChange d after new
  may_go_on calls put before after old new may step change = record {
    runs = step.halts;
    slotted = subst (λ (s : Shape). is_old s ≡ false) (sym step.shape) may.slotted;
    leads = subst (λ (s : Shape). Leads (limits_of s) new.frames empty after) (sym step.shape) step.made;
    settled = λ told. record {
      only = (change.whole refl told).only;
      shows = step.shows told step.halts;
      closed = step.closed (may.settled told).closed;
    };
  }

  -- so that it is settled after it
  pub settled_after : {Listed : ℕ → Type 0} (calls : ℕ) (put : Option (ℕ × List ℕ)) (before after : StateOf Entry) (old new : Held D)
      (result : Result (Unit {0}) StoreFault) → CanChange d before old → Step d before after Listed old new result → StateChange d calls old put before after new.disk (end_of result) → d.tells
      → OnOk result (IsSettled d new)
  settled_after calls put before after old new (Ok u) may step change told = (may_go_on calls put before after old new may step change).settled told
  settled_after calls put before after old new (Err e) may step change told = tt

  -- the slots that a content had hold what they held
  pub slots_after : (calls : ℕ) (before after : StateOf Entry) (shape : Shape) (content : List ℕ) (old : Held D) (new : D)
      (result : Result (Unit {0}) StoreFault) → old.shape ≡ shape → KeepsSlots shape None content (d.seen old.disk)
      → StateChange d calls old None before after new (end_of result) → d.tells → OnOk result (KeepsSlots shape None content (d.seen new))
  slots_after calls before after shape content old new (Ok u) same slots change told =
      slots_then shape None content (d.seen old.disk) (d.seen new) slots
      (subst (λ (s : Shape). KeepsSlots s None (d.seen old.disk) (d.seen new)) same (change.whole refl told).has.slots)
  slots_after calls before after shape content old new (Err e) same slots change told = tt

  -- a store that can be changed stands as before the change
  pub stands_before : (put : Option (ℕ × List ℕ)) (before : StateOf Entry) (old : Held D) → CanChange d before old → d.tells
      → Stands d (IsUnchanged old.shape put before (d.seen old.disk)) old.disk
  stands_before put before old may told = record {
    only = (may.settled told).only;
    has = record {
      opens = record {
        frames = old.frames;
        opens = subst (λ (b : Bool). OpensAs old.shape old.frames b (d.seen old.disk)) (may.settled told).closed (may.settled told).shows.opens;
        leads = may.leads;
      };
      slots = slots_same old.shape put (d.seen old.disk) (d.seen old.disk) refl;
    };
  }

  -- nothing is to be changed
  pub unchanged_stands : ((disk : D) (image : List ℕ) → d.left_since disk (d.moment disk) image → d.may_leave disk image) → (st : StateOf Entry)
      (old : Held D) → CanChange d st old → StateChange d 0 old None st st old.disk Whole
  unchanged_stands only_now st old may =
      none d only_now (IsUnchanged old.shape None st (d.seen old.disk)) _ (IsChanged old.shape None st (d.seen old.disk)) (λ image is. inl is) old.disk
      (λ told. let stands = stands_before None st old may told in
      record { only = stands.only; has = record { opens = stands.has.opens; stands = tt; slots = stands.has.slots } })

  -- and the frame of a record that can be leads to what the record makes of the state
  pub change_leads : (limits : Limits) (item : Record) (st : StateOf Entry) (old mid : Held D) (frame : Frame) → CanChange d st mid
      → mid.shape ≡ old.shape → limits ≡ limits_of old.shape → record_of frame ≡ Some item → IsSome (applied limits item st)
      → Leads (limits_of mid.shape) (mid.frames ++ frame ∷ []) empty (changed limits item st)
  change_leads limits item st old mid frame may shape is read can =
      leads_changed limits (limits_of mid.shape) mid.frames frame item st (subst (λ (s : Shape). limits ≡ limits_of s) (sym shape) is)
      may.leads read can

  -- ---- the list is written anew, for want of room, and then the change is made

  module _ (put : Option (ℕ × List ℕ)) (st next : StateOf Entry) (old : Held D) where
    -- the rewrite, as a part of the change
    rewritten : (first : ℕ) (new : D) (end : End) → StateChange d first old None st st new end
        → Run d first (IsUnchanged old.shape put st (d.seen old.disk))
        (λ image. IsUnchanged old.shape put st (d.seen old.disk) image ⊎ IsChanged old.shape put next (d.seen old.disk) image)
        (IsUnchanged old.shape put st (d.seen old.disk)) old.disk new end
    rewritten first new end one =
        widen d first (IsUnchanged old.shape None st (d.seen old.disk)) _ (IsChanged old.shape None st (d.seen old.disk))
        (IsUnchanged old.shape put st (d.seen old.disk))
        (λ image. IsUnchanged old.shape put st (d.seen old.disk) image ⊎ IsChanged old.shape put next (d.seen old.disk) image)
        (IsUnchanged old.shape put st (d.seen old.disk)) old.disk new end
        (λ told here. record { opens = here.opens; slots = slots_same old.shape None (d.seen old.disk) (d.seen old.disk) refl })
        (λ told here image. wider_from old.shape put st (d.seen old.disk) image)
        (λ told here image. ⊎_elim (λ is. inl (wider_from old.shape put st (d.seen old.disk) image is))
        (λ is. inl (wider_changed old.shape put st (d.seen old.disk) image is)))
        (λ told image. wider_changed old.shape put st (d.seen old.disk) image)
        one

    -- it was refused or cut short, and so was the change
    pub first_stopped : (first calls : ℕ) (new : D) (end : End) → first + 2 ≤ calls → (end ≡ Whole → ⊥) → StateChange d first old None st st new end
        → StateChange d calls old put st next new end
    first_stopped first calls new Whole long made one = absurd (made refl)
    first_stopped first calls new Cut long made one =
        cut_first d first calls (IsUnchanged old.shape put st (d.seen old.disk)) _ (IsChanged old.shape put next (d.seen old.disk)) old.disk new long
        (rewritten first new Cut one)
    first_stopped first calls new NotBegun long made one =
        refused_any d first calls (IsUnchanged old.shape put st (d.seen old.disk)) _ (IsUnchanged old.shape put st (d.seen old.disk))
        (IsChanged old.shape put next (d.seen old.disk)) old.disk new (rewritten first new NotBegun one)

    module _ (mid : Held D) (shape : mid.shape ≡ old.shape) where
      -- it was made, and then the change was
      then_changed : (first second calls : ℕ) (new : D) (end : End) → calls ≡ first + second → end ≢ NotBegun
          → StateChange d first old None st st mid.disk Whole → StateChange d second mid put st next new end → StateChange d calls old put st next new end
      then_changed first second calls new end sum begun one two =
          then d first second calls (IsUnchanged old.shape put st (d.seen old.disk)) _ (IsChanged old.shape put next (d.seen old.disk)) old.disk
          mid.disk new end sum begun (rewritten first mid.disk Whole one)
          (widen d second (IsUnchanged old.shape put st (d.seen mid.disk)) _ (IsChanged old.shape put next (d.seen mid.disk))
          (IsUnchanged old.shape put st (d.seen old.disk)) _ (IsChanged old.shape put next (d.seen old.disk)) mid.disk new end
          (λ told here. record { opens = here.opens; slots = slots_same old.shape put (d.seen mid.disk) (d.seen mid.disk) refl })
          (λ told here. before told)
          (λ told here image. ⊎_elim (λ is. inl (before told image is)) (λ is. inr (after told image is)))
          after
          (subst (λ (s : Shape). Change d second (IsUnchanged s put st (d.seen mid.disk)) (IsChanged s put next (d.seen mid.disk)) mid.disk new end)
          shape two))
        where
          kept : d.tells → KeepsSlots old.shape None (d.seen old.disk) (d.seen mid.disk)
          kept told = (one.whole refl told).has.slots

          before : d.tells → (image : List ℕ) → IsUnchanged old.shape put st (d.seen mid.disk) image
              → IsUnchanged old.shape put st (d.seen old.disk) image
          before told image is =
              record { opens = is.opens; slots = slots_then old.shape put (d.seen old.disk) (d.seen mid.disk) image (kept told) is.slots }

          after : d.tells → (image : List ℕ) → IsChanged old.shape put next (d.seen mid.disk) image
              → IsChanged old.shape put next (d.seen old.disk) image
          after told image is = record {
            opens = is.opens;
            stands = is.stands;
            slots = slots_then old.shape put (d.seen old.disk) (d.seen mid.disk) image (kept told) is.slots;
          }

      -- The change that comes then is refused only where there was room from the first.
      pub room_then_changed : (first second calls : ℕ) (new : D) (end : End) → calls ≡ first + second → (end ≡ NotBegun → mid ≡ old)
          → StateChange d first old None st st mid.disk Whole → StateChange d second mid put st next new end → StateChange d calls old put st next new end
      room_then_changed first second calls new Whole sum same one two = then_changed first second calls new Whole sum (λ is. absurd cc) one two
      room_then_changed first second calls new Cut sum same one two = then_changed first second calls new Cut sum (λ is. absurd cc) one two
      room_then_changed first second calls new NotBegun sum same one two =
          refused_any d second calls (IsUnchanged old.shape put st (d.seen old.disk)) _ (IsChanged old.shape put next (d.seen old.disk))
          (IsChanged old.shape put next (d.seen old.disk)) old.disk new
          (subst (λ (s : Held D). StateChange d second s put st next new NotBegun) (same refl) two)
