-- A store that goes on once it was read.
use Rattle.std.proofs.Common.{◌≡◌, ◌⊎◌, inl, inr, ℕ, ◌+◌, Bool, false, None, List, refl, sym, ap, subst, ◌∙◌, IsSome}
use Rattle.std.specs.Prelude.{replicate}
use Rattle.std.specs.List.{AllByRecursion}
use Rattle.fab_disk.specs.declared.disk.Disk as on_disk
use Rattle.fab_disk.specs.Disk.{IsUntouched, LeavesOnly}
use Rattle.fab_disk.proofs.Moments.{started, goes_on, widened, joined}
use Rattle.stamp_store.specs.declared.kept_records.Kept.TheVariants.{Boot}
use Rattle.frame_store.specs.declared.frames.Frame.{Frame}
use Rattle.frame_store.specs.declared.shapes.Shape.{Shape}
use Rattle.frame_store.specs.Layouts.{IsShape, is_old}
use Rattle.frame_store.specs.Stores.{Held}
use Rattle.frame_store.specs.Images.{KeepsSlots}
use Rattle.brick_state.specs.declared.records.Record.TheVariants as forms
use Rattle.brick_state.specs.Entries.{Entry}
use Rattle.brick_state.specs.States.{StateOf, booted, empty}
use Rattle.brick_state.specs.Folds.{Limits, applied}
use Rattle.brick_state.specs.declared.indexes.Index.{Index}
use Rattle.brick_state.specs.Indexes.{state_of}
use Rattle.brick_state.specs.Indexes as indexes
use Rattle.brick_state.specs.KeptStates.{IsKeptState}
use Rattle.brick_state.proofs.Keeping.{boot_kept}
use Rattle.brick_store.specs.BlockTables.{SlotBlocks}
use Rattle.brick_store.specs.Images.{limits_of}
use Rattle.brick_store.specs.Standing.{AllSlots, GroupHasMembers, IsCached, IsStored, Leads, Standing}
use Rattle.brick_store.specs.Steps.{LeadsTo, IsUnchanged, IsChanged, IsSettled, changed}
use Rattle.brick_store.specs.Openings.{IsKeptIn, IsKeptInEither, IsAllowedOr, IsLoaded}
use Rattle.brick_store.proofs.Stepping.{slots_then}
use Rattle.brick_store.proofs.Changing.{leads_folded, stored_still}
use Rattle.brick_store.proofs.Resolving.{slots_imply}

-- a boot count is a change that can be
pub counts : (limits : Limits) (n : ℕ) (st : StateOf Entry) → IsSome (applied limits (forms.Kept (Boot n)) st)
unfolding applied
counts limits n st = refl

pub counted : (limits : Limits) (n : ℕ) (st : StateOf Entry) → changed limits (forms.Kept (Boot n)) st ≡ booted n st
unfolding applied changed
counted limits n st = refl

-- frames that lead to a state are its
pub kept_leads : (shape : Shape) (st : StateOf Entry) (a b image : List ℕ) → KeepsSlots shape None a b → KeepsSlots shape None b image
    → LeadsTo shape st image → IsKeptIn shape st a image
kept_leads shape st a b image first second leads = record {
  frames = leads.frames;
  opens = leads.opens;
  state = leads_folded (limits_of shape) leads.frames empty st leads.leads;
  slots = slots_then shape None a b image first second;
}

-- the image is that of a list before a change that puts no block, or after it
abbrev pub Between : Shape → StateOf Entry → StateOf Entry → List ℕ → List ℕ → Type 0
Between shape st next content image = IsUnchanged shape None st content image ⊎ IsChanged shape None next content image

moment_kept : (shape : Shape) (st next : StateOf Entry) (a b image : List ℕ) → KeepsSlots shape None a b → Between shape st next b image
    → IsKeptInEither shape st next a image
moment_kept shape st next a b image first (inl before) = inl (kept_leads shape st a b image first before.slots before.opens)
moment_kept shape st next a b image first (inr after) = inr (kept_leads shape next a b image first after.slots after.opens)

module _ {D : Type 0} (moment : D → ℕ) (left_since : D → ℕ → List ℕ → Type 0) (allowed : List ℕ → Type 0) (shape : Shape) (st next : StateOf Entry)
    (content : List ℕ) where
  -- the disk was synced, and the list is the one that it was or one of the same state
  pub settled_moments : (old new : D) → LeavesOnly moment left_since old new (IsAllowedOr allowed (IsKeptIn shape st content))
      → LeavesOnly moment left_since old new (IsAllowedOr allowed (IsKeptInEither shape st next content))
  settled_moments old new run = widened moment left_since old new (IsAllowedOr allowed (IsKeptIn shape st content))
      (IsAllowedOr allowed (IsKeptInEither shape st next content)) wider run
    where
      wider : (image : List ℕ) → IsAllowedOr allowed (IsKeptIn shape st content) image
          → IsAllowedOr allowed (IsKeptInEither shape st next content) image
      wider image (inl had) = inl had
      wider image (inr now) = inr (inl now)

  -- and then the opening was counted
  pub counted_moments : (old mid new : D) (later : List ℕ) → KeepsSlots shape None content later → LeavesOnly moment left_since old mid
      (IsAllowedOr allowed (IsKeptIn shape st content)) → LeavesOnly moment left_since mid new (Between shape st next later)
      → LeavesOnly moment left_since old new (IsAllowedOr allowed (IsKeptInEither shape st next content))
  counted_moments old mid new later slots first second =
      joined moment left_since old mid new (IsAllowedOr allowed (IsKeptInEither shape st next content)) (settled_moments old mid first)
      (widened moment left_since mid new (Between shape st next later) (IsAllowedOr allowed (IsKeptInEither shape st next content))
      (λ image at. inr (moment_kept shape st next content later image slots at)) second)

-- ---- reading comes first

module _ {D : Type 0} (seen : D → List ℕ) (may_leave : D → List ℕ → Type 0) (moment : D → ℕ) (left_since : D → ℕ → List ℕ → Type 0)
    (only_now : (disk : D) (image : List ℕ) → left_since disk (moment disk) image → may_leave disk image) where
  -- a disk that was left alone
  pub still_allowed : (old mid : D) (P : List ℕ → Type 0) → IsUntouched seen may_leave moment left_since old mid
      → LeavesOnly moment left_since old mid (IsAllowedOr (may_leave old) P)
  still_allowed old mid P untouched =
      goes_on moment left_since old old mid (IsAllowedOr (may_leave old) P) (may_leave mid)
      (started moment left_since old (IsAllowedOr (may_leave old) P) (λ image left. inl (only_now old image left))) untouched.time
      (λ image left. inl (untouched.crash image left))

  -- and then was not
  pub then_allowed : (old mid new : D) (Q : List ℕ → List ℕ → Type 0) → IsUntouched seen may_leave moment left_since old mid
      → LeavesOnly moment left_since mid new (IsAllowedOr (may_leave mid) (Q (seen mid))) → LeavesOnly moment left_since old new
      (IsAllowedOr (may_leave old) (Q (seen old)))
  then_allowed old mid new Q untouched run =
      joined moment left_since old mid new (IsAllowedOr (may_leave old) (Q (seen old))) (still_allowed old mid (Q (seen old)) untouched)
      (widened moment left_since mid new (IsAllowedOr (may_leave mid) (Q (seen mid))) (IsAllowedOr (may_leave old) (Q (seen old))) wider run)
    where
      wider : (image : List ℕ) → IsAllowedOr (may_leave mid) (Q (seen mid)) image → IsAllowedOr (may_leave old) (Q (seen old)) image
      wider image (inl had) = inl (untouched.crash image had)
      wider image (inr now) = inr (subst (λ (c : List ℕ). Q c image) untouched.content now)

-- ---- a store that stands

module _ {D : Type 0} (d : on_disk.Ghosts D) where
  -- so stands a store that was read, and then counted
  pub standing_from : (new : Held D) (index : Index) (blocks : SlotBlocks) (zero_block : List ℕ) (shape : Shape) (frames : List Frame)
      (content : List ℕ) (limits : Limits) (st : StateOf Entry) (whole : Bool)
      → new.shape ≡ shape → IsShape shape → is_old shape ≡ false → IsLoaded d.tells shape frames content limits st whole blocks → zero_block ≡ replicate shape.block 0
      → indexes.limits_of index ≡ limits → state_of index ≡ booted (st.boot + 1) st
      → Leads (limits_of shape) new.frames empty (state_of index) → (d.tells → IsSettled d new)
      → (d.tells → KeepsSlots shape None content (d.seen new.disk))
      → Standing d.tells d.seen d.may_leave new index blocks zero_block
  standing_from new index blocks zero_block shape frames content limits st whole is shape_ok slotted loaded zero_is index_limits now leads settled slots =
      let to : shape ≡ new.shape = sym is in
      let back : booted (st.boot + 1) st ≡ state_of index = sym now in
      record {
        limits = subst IsShape to shape_ok;
        slotted = subst (λ (s : Shape). is_old s ≡ false) to slotted;
        indexed = record {
          limits_are = index_limits ∙ loaded.limits_are ∙ ap limits_of to;
          leads = subst (λ (s : Shape). Leads (limits_of s) new.frames empty (state_of index)) to leads;
          kept = subst (λ (s : Shape). IsKeptState (limits_of s) (state_of index)) to
              (subst (λ (x : StateOf Entry). IsKeptState (limits_of shape) x) back (boot_kept (limits_of shape) (st.boot + 1) st loaded.kept));
          members = subst (λ (x : StateOf Entry). AllByRecursion GroupHasMembers x.groups) back loaded.fold.members;
        };
        cached_all = subst (λ (s : Shape). AllSlots (IsCached s.block blocks) (state_of index)) to
            (subst (λ (x : StateOf Entry). AllSlots (IsCached shape.block blocks) x) back loaded.held);
        zero_is = zero_is ∙ ap (λ (s : Shape). replicate s.block 0) to;
        on_disk = λ told runs. record {
          only = (settled told).only;
          shows = (settled told).shows;
          closed = (settled told).closed;
          stored = subst (λ (s : Shape). AllSlots (IsStored s blocks (d.seen new.disk)) (state_of index)) to
              (subst (λ (x : StateOf Entry). AllSlots (IsStored shape blocks (d.seen new.disk)) x) back
              (slots_imply (IsStored shape blocks content) (IsStored shape blocks (d.seen new.disk))
              (λ slot stored. stored_still shape None blocks content (d.seen new.disk) (slots told) slot tt stored) st (loaded.stored told)));
        };
      }
