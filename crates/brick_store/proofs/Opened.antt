-- What an opening makes of what the disk held.
use Rattle.std.proofs.Common.{◌≡◌, inl, inr, ⊎_elim, ℕ, ◌+◌, ◌<◌, Bool, true, false, cond, eqb, None, List, length, refl, sym, ap, subst, ◌∙◌, arith}
use Rattle.std.specs.Prelude.{replicate}
use Rattle.std.specs.List.{AllByRecursion}
use Rattle.fab_disk.specs.Disk.{IsUntouched, LeavesOnly}
use Rattle.fab_disk.proofs.Moments.{widened}
use Rattle.frame_store.specs.declared.frames.Frame.{Frame}
use Rattle.frame_store.specs.declared.shapes.Shape.{Shape}
use Rattle.frame_store.specs.Images.{OpensAs, KeepsSlots}
use Rattle.frame_store.specs.Stores.{Held, Shows}
use Rattle.frame_store.specs.declared.shapes.Form.{Form}
use Rattle.frame_store.specs.declared.shapes.Form.TheVariants.{New}
use Rattle.frame_store.specs.Layouts.{formed, is_old}
use Rattle.frame_store.proofs.Openings.{opens_once, opens_in_one_form}
use Rattle.version_log.specs.Versions.{Version}
use Rattle.brick_state.specs.Entries.{Entry}
use Rattle.brick_state.specs.Slots.{slots_of}
use Rattle.brick_state.specs.States.{StateOf, booted, empty}
use Rattle.brick_state.proofs.Keeping.{empty_kept, folded_keeps}
use Rattle.brick_state.proofs.UsedSlots.{each_slot}
use Rattle.brick_store.specs.BlockTables.{SlotBlocks}
use Rattle.brick_store.specs.Blocks.{cached, resolved}
use Rattle.brick_store.specs.Images.{records_of, limits_of, block_at, state_in, IsFound, StandsFor, StandsForEither}
use Rattle.brick_store.specs.Standing.{AllSlots, IsStored}
use Rattle.brick_store.specs.Openings.{found_in, IsCounted, IsWornOut, IsInside, IsKeptIn, IsKeptInEither, IsAllowedOr}
use Rattle.brick_store.proofs.Changing.{slot_state, stored_same}
use Rattle.brick_store.proofs.Loads.{none_outside}
use Rattle.brick_store.proofs.Resolving.{resolved_same, slots_imply, booted-resolved, boot-resolved}
use Rattle.brick_store.proofs.Starting.{then_allowed}

-- ---- images

-- An image that stands for a state is read as that state, in whichever form, and its list did not end early.
pub finds : (shape : Shape) (st : StateOf Version) (content : List ℕ) (form : Form) (frames : List Frame) (closed : Bool)
    → OpensAs (formed form shape) frames closed content → StandsFor shape st content → (closed ≡ true) × (state_in (formed form shape) frames content ≡ st)
finds shape st content form frames closed opens stands =
    let same : form ≡ stands.form = opens_in_one_form shape form stands.form content frames stands.frames closed true opens stands.opens in
    let here : OpensAs (formed form shape) stands.frames true content = subst (λ (f : Form). OpensAs (formed f shape) stands.frames true content) (sym same)
    stands.opens in
    let state : state_in (formed form shape) stands.frames content ≡ st = subst (λ (f : Form). state_in (formed f shape) stands.frames content ≡ st) (sym same)
    stands.state in
    let once = opens_once (formed form shape) content frames stands.frames closed true opens here in
    (once.1, ap (λ (fs : List Frame). state_in (formed form shape) fs content) once.0 ∙ state)

pub found_is : (shape : Shape) (found st : StateOf Version) (content : List ℕ) → IsFound shape found content → StandsFor shape st content → found ≡ st
found_is shape found st content was stands = sym was.state ∙ (finds shape st content was.form was.frames was.closed was.opens stands).1

-- what lies in a slot that is kept is what lay there
kept_at : (shape : Shape) (content image : List ℕ) → KeepsSlots shape None content image → (slot : ℕ) → IsInside shape (length content) slot
    → block_at shape image slot ≡ block_at shape content slot
kept_at shape content image kept slot (inl zero_block) = rw zero_block refl
kept_at shape content image kept slot (inr has) = ap (λ (bytes : List ℕ). cond (eqb slot 4294967295) (replicate shape.block 0) bytes)
    (kept.same slot has tt)

-- An image of the same slots and of frames of this state stands for what is read of the content.
pub kept_stands : (shape : Shape) (st : StateOf Entry) (content image : List ℕ) → is_old shape ≡ false → AllSlots (IsInside shape (length content)) st
    → IsKeptIn shape st content image → StandsFor (formed New shape) (resolved (block_at shape content) st) image
kept_stands shape st content image slotted inside kept = record {
  form = shape.form;
  frames = kept.frames;
  opens = kept.opens;
  state =
      slot_state shape.form shape kept.frames image slotted
      ∙ ap (resolved (block_at shape image)) kept.state
      ∙ resolved_same (block_at shape image) (block_at shape content) st
      (slots_imply (IsInside shape (length content)) (λ slot. block_at shape image slot ≡ block_at shape content slot)
      (kept_at shape content image kept.slots) st inside);
}

-- a state read with its blocks, counted
pub counted_seen : (block : ℕ → List ℕ) (st : StateOf Entry) → resolved block (booted (st.boot + 1) st) ≡ booted ((resolved block st).boot + 1)
    (resolved block st)
counted_seen block st = booted-resolved block (st.boot + 1) st ∙ ap (λ (n : ℕ). booted (n + 1) (resolved block st)) (sym (boot-resolved block st))

-- ---- the store that was read

module _ {D : Type 0} (seen : D → List ℕ) (held : Held D) (shows : Shows seen held) (slotted : is_old held.shape ≡ false) where
  -- the state that the list and the slots make
  abbrev found : StateOf Version
  found = state_in held.shape held.frames (seen held.disk)

  found_slots : found ≡ resolved (block_at held.shape (seen held.disk)) (found_in held.shape held.frames)
  found_slots = slot_state held.shape.form held.shape held.frames (seen held.disk) slotted

  -- no slot that a version names is past the end of the file
  all_inside_file : AllSlots (IsInside held.shape (length (seen held.disk))) (found_in held.shape held.frames)
  all_inside_file =
      let st = found_in held.shape held.frames in
      let kept = folded_keeps (limits_of held.shape) (records_of held.frames) empty (empty_kept (limits_of held.shape)) in
      let here : AllByRecursion (IsInside held.shape held.size) (slots_of st) = none_outside seen held st slotted shows kept refl in
      let long : AllByRecursion (IsInside held.shape (length (seen held.disk))) (slots_of st) = subst
      (λ (n : ℕ). AllByRecursion (IsInside held.shape n) (slots_of st)) (sym shows.size) here in
      each_slot (IsInside held.shape (length (seen held.disk))) st.stripes long

  -- An opening finds it: what is in memory is that state, counted.
  pub found_counted : (blocks : SlotBlocks) (size : ℕ) (now : StateOf Entry) → size ≡ held.shape.block
      → AllSlots (IsStored held.shape blocks (seen held.disk)) (found_in held.shape held.frames)
      → now ≡ booted ((found_in held.shape held.frames).boot + 1) (found_in held.shape held.frames) → resolved (cached size blocks) now ≡ booted
      (found.boot + 1) found
  found_counted blocks size now size_is stored is =
      let st = found_in held.shape held.frames in
      let on_disk = block_at held.shape (seen held.disk) in
      let in_memory = cached held.shape.block blocks in
      let same : resolved on_disk st ≡ resolved in_memory st =
      resolved_same on_disk in_memory st (slots_imply (IsStored held.shape blocks (seen held.disk)) (λ slot. on_disk slot ≡ in_memory slot)
      (stored_same held.shape blocks (seen held.disk)) st stored) in
      ap (λ (n : ℕ). resolved (cached n blocks) now) size_is ∙ ap (resolved in_memory) is ∙ counted_seen in_memory st
      ∙ ap (λ (x : StateOf Version). booted (x.boot + 1) x) (sym same ∙ sym found_slots)

  -- the disk held a store, and this state was found
  is_found : (content : List ℕ) → seen held.disk ≡ content → IsFound (formed New held.shape) found content
  is_found content content_is = subst (λ (x : List ℕ). IsFound (formed New held.shape) found x) content_is
      (record { form = held.shape.form; frames = held.frames; closed = held.closed; opens = shows.opens; state = refl })

  -- with this count of openings
  found_boot : found.boot ≡ (found_in held.shape held.frames).boot
  found_boot = ap (λ (x : StateOf Version). x.boot) found_slots ∙ boot-resolved (block_at held.shape (seen held.disk)) (found_in held.shape held.frames)

  pub found_there : (content : List ℕ) → seen held.disk ≡ content → (blocks : SlotBlocks) (size : ℕ) (now : StateOf Entry)
      → size ≡ held.shape.block
      → AllSlots (IsStored held.shape blocks (seen held.disk)) (found_in held.shape held.frames)
      → now ≡ booted ((found_in held.shape held.frames).boot + 1) (found_in held.shape held.frames)
      → (found_in held.shape held.frames).boot < 4294967295
      → IsCounted (formed New held.shape) content (resolved (cached size blocks) now)
  found_there content content_is blocks size now size_is stored is few = record {
    before = found;
    found = is_found content content_is;
    not_worn = omega (arith, few, found_boot);
    counted = found_counted blocks size now size_is stored is;
  }

  -- a store that is worn
  pub worn_there : (content : List ℕ) → seen held.disk ≡ content → (found_in held.shape held.frames).boot ≡ 4294967295
      → IsWornOut (formed New held.shape) content
  worn_there content content_is worn = record { before = found; found = is_found content content_is; worn = found_boot ∙ worn }

  -- the list did not end early where the disk held a store
  pub closed_there : (st : StateOf Version) → StandsFor (formed New held.shape) st (seen held.disk) → held.closed ≡ true
  closed_there st stands = (finds (formed New held.shape) st (seen held.disk) held.shape.form held.frames held.closed shows.opens stands).0

  -- with this count of openings where the disk held a store of this state
  pub boot_there : (content : List ℕ) → seen held.disk ≡ content → (st : StateOf Version) → StandsFor (formed New held.shape) st content
      → st.boot ≡ (found_in held.shape held.frames).boot
  boot_there content content_is st stands =
      let here : StandsFor (formed New held.shape) st (seen held.disk) = subst (λ (x : List ℕ). StandsFor (formed New held.shape) st x) (sym content_is) stands in
      sym (ap (λ (x : StateOf Version). x.boot) (finds (formed New held.shape) st (seen held.disk) held.shape.form held.frames held.closed shows.opens here).1) ∙ found_boot

  -- An image of a moment of the opening stands for the state before the opening was counted, or afterwards.
  pub before_stands : (st : StateOf Version) → StandsFor (formed New held.shape) st (seen held.disk) → (image : List ℕ)
      → IsKeptIn held.shape (found_in held.shape held.frames) (seen held.disk) image → StandsFor (formed New held.shape) st image
  before_stands st stands image before =
      subst (λ (x : StateOf Version). StandsFor (formed New held.shape) x image)
      (sym found_slots ∙ (finds (formed New held.shape) st (seen held.disk) held.shape.form held.frames held.closed shows.opens stands).1)
      (kept_stands held.shape (found_in held.shape held.frames) (seen held.disk) image slotted all_inside_file before)

  pub after_stands : (st : StateOf Version) → StandsFor (formed New held.shape) st (seen held.disk) → (image : List ℕ)
      → IsKeptIn held.shape (booted ((found_in held.shape held.frames).boot + 1) (found_in held.shape held.frames)) (seen held.disk) image
      → StandsFor (formed New held.shape) (booted (st.boot + 1) st) image
  after_stands st stands image after =
      let old = found_in held.shape held.frames in
      let here : StandsFor (formed New held.shape) (resolved (block_at held.shape (seen held.disk)) (booted (old.boot + 1) old)) image = kept_stands held.shape
      (booted (old.boot + 1) old) (seen held.disk) image slotted all_inside_file after in
      subst (λ (x : StateOf Version). StandsFor (formed New held.shape) x image)
      (counted_seen (block_at held.shape (seen held.disk)) old ∙ ap (λ (x : StateOf Version). booted (x.boot + 1) x)
      (sym found_slots ∙ (finds (formed New held.shape) st (seen held.disk) held.shape.form held.frames held.closed shows.opens stands).1)) here

  either_stands : (st : StateOf Version) → StandsFor (formed New held.shape) st (seen held.disk) → (image : List ℕ)
      → IsKeptInEither held.shape (found_in held.shape held.frames)
      (booted ((found_in held.shape held.frames).boot + 1) (found_in held.shape held.frames)) (seen held.disk) image
      → StandsForEither (formed New held.shape) st (booted (st.boot + 1) st) image
  either_stands st stands image (inl before) = inl (before_stands st stands image before)
  either_stands st stands image (inr after) = inr (after_stands st stands image after)

-- ---- moments

module _ {D : Type 0} (seen : D → List ℕ) (may_leave : D → List ℕ → Type 0) (moment : D → ℕ) (left_since : D → ℕ → List ℕ → Type 0)
    (only_now : (disk : D) (image : List ℕ) → left_since disk (moment disk) image → may_leave disk image)
    (disk new : D) (held : Held D) (shows : Shows seen held) (slotted : is_old held.shape ≡ false) (untouched : IsUntouched seen may_leave moment left_since disk held.disk) where
  -- At each moment of an opening the image is one that the disk allowed before, or it stands for the state, counted or not.
  pub opening_moments : (held.closed ≡ true → LeavesOnly moment left_since held.disk new (IsAllowedOr (may_leave held.disk)
      (IsKeptInEither held.shape (found_in held.shape held.frames)
      (booted ((found_in held.shape held.frames).boot + 1) (found_in held.shape held.frames)) (seen held.disk))))
      → (st : StateOf Version) → StandsFor (formed New held.shape) st (seen disk) → LeavesOnly moment left_since disk new
      (IsAllowedOr (may_leave disk) (StandsForEither (formed New held.shape) st (booted (st.boot + 1) st)))
  opening_moments run st stands =
      let old = found_in held.shape held.frames in
      let either = IsKeptInEither held.shape old (booted (old.boot + 1) old) in
      let here : StandsFor (formed New held.shape) st (seen held.disk) = subst (λ (x : List ℕ). StandsFor (formed New held.shape) st x) (sym untouched.content) stands in
      widened moment left_since disk new (IsAllowedOr (may_leave disk) (either (seen disk)))
      (IsAllowedOr (may_leave disk) (StandsForEither (formed New held.shape) st (booted (st.boot + 1) st)))
      (λ image at. ⊎_elim (λ had. inl had) (λ now. inr
      (either_stands seen held shows slotted st here image (subst (λ (x : List ℕ). either x image) (sym untouched.content) now))) at)
      (then_allowed seen may_leave moment left_since only_now disk held.disk new either untouched (run (closed_there seen held shows slotted st here)))
