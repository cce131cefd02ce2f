-- What an opening reads of a store.
use Rattle.std.proofs.Common.{◌≡◌, ◌⊎◌, inl, inr, ℕ, ◌-◌, ◌^◌, ◌<◌, ◌≤◌, Bool, true, false, cond, eqb, ltb, Option, Some, None, Result, Ok, Err, List, [], ◌∷◌, length, drop, refl, sym, ap, subst, ◌∙◌, arith, length-take, length-drop}
use Rattle.std.specs.Prelude.{replicate}
use Rattle.std.specs.List.{AllByRecursion}
use Rattle.std.specs.Option.{IsSome, unwrap_or}
use Rattle.std.specs.Result.{IfOk}
use Rattle.std.proofs.lemmas.Bool.{or_cases, ltb-true, cases_lt}
use Rattle.std.proofs.lemmas.List.{nil_from_length}
use Rattle.frame_store.specs.declared.frames.Frame.{Frame}
use Rattle.frame_store.specs.declared.shapes.Shape.{Shape}
use Rattle.frame_store.specs.declared.shapes.Half.{Half}
use Rattle.frame_store.specs.declared.shapes.Half.TheVariants.{A, B}
use Rattle.frame_store.specs.Layouts.{is_old, half_at, half_size, slot_at}
use Rattle.frame_store.specs.Listed.{frames_of, frames_in}
use Rattle.frame_store.specs.Images.{OpensAs, HasSlot, half_bytes}
use Rattle.frame_store.specs.Stores.{Held, Shows}
use Rattle.frame_store.proofs.Slots.{first_is, slot_before_half}
use Rattle.brick_state.specs.Entries.{Entry}
use Rattle.brick_state.specs.States.{StateOf, empty}
use Rattle.brick_state.specs.Folds.{Limits, is_slot, folded}
use Rattle.brick_state.specs.Slots.{slots_in, slots_of}
use Rattle.brick_state.specs.KeptStates.{IsKeptState}
use Rattle.brick_state.proofs.Keeping.{empty_kept, folded_keeps}
use Rattle.brick_state.proofs.UsedSlots.{kept_slots, each_slot}
use Rattle.brick_store.specs.BlockTables.{SlotBlocks, block_under}
use Rattle.brick_store.specs.declared.faults.OpenFault.{OpenFault}
use Rattle.brick_store.specs.Blocks.{cached}
use Rattle.brick_store.specs.Images.{records_of, limits_of}
use Rattle.brick_store.specs.Standing.{AllSlots, IsCached, IsStored}
use Rattle.brick_store.specs.Openings.{IsFold, IsHeld, AreRead, IsInside, IsLoaded}

-- ---- a file that has a frame has all slots

no_bytes : (shape : Shape) (half : Half) (image : List ℕ) → length image ≤ half_at shape half → half_bytes shape half image ≡ []
no_bytes shape half image short = nil_from_length (half_bytes shape half image)
    (omega (arith, length-take (half_size shape) (drop (half_at shape half) image), length-drop (half_at shape half) image))

no_frames : (bytes : List ℕ) → bytes ≡ [] → frames_of bytes ≡ []
unfolding frames_in
no_frames bytes none = ap frames_of none

pub past_half : (shape : Shape) (frame : Frame) (frames : List Frame) (closed : Bool) (image : List ℕ) → is_old shape ≡ false
    → OpensAs shape (frame ∷ frames) closed image → slot_at shape shape.records < length image
past_half shape frame frames closed image slotted opens = by opens.half (cases_lt (half_at shape opens.half) (length image))
  where
    none_some : [] ≡ frame ∷ frames → ⊥
    none_some h = cc

    by : (half : Half) → (half_at shape opens.half < length image) ⊎ (length image ≤ half_at shape opens.half)
        → slot_at shape shape.records < length image
    by half (inl long) = at opens.half long
      where
        at : (h : Half) → half_at shape h < length image → slot_at shape shape.records < length image
        at A lt = omega (arith, first_is shape slotted)
        at B lt = omega (arith, first_is shape slotted)
    by half (inr short) = absurd (none_some (sym (no_frames (half_bytes shape opens.half image) (no_bytes shape opens.half image short))
        ∙ opens.listed))

pub all_inside : (shape : Shape) (size : ℕ) (slots : List ℕ) → is_old shape ≡ false → slot_at shape shape.records < size
    → AllByRecursion (λ slot. is_slot (limits_of shape) slot ≡ true) slots → AllByRecursion (IsInside shape size) slots
all_inside shape size [] slotted long all = tt
all_inside shape size (slot ∷ slots) slotted long all = (
  one (or_cases (eqb slot 4294967295) (ltb slot shape.records) all.0),
  all_inside shape size slots slotted long all.1,
)
  where
    one : ((eqb slot 4294967295 ≡ true) ⊎ (ltb slot shape.records ≡ true)) → IsInside shape size slot
    one (inl zero_block) = inl zero_block
    one (inr there) = inr (has (ltb-true slot shape.records there))
      where
        has : slot < shape.records → HasSlot shape size slot
        has lt = record { is_slot = lt; inside = omega (arith, slot_before_half shape A slot slotted lt, long, first_is shape slotted) }

-- so no slot that a version names is past the end of the file
pub none_outside : {D : Type 0} (seen : D → List ℕ) (held : Held D) (st : StateOf Entry) → is_old held.shape ≡ false → Shows seen held → IsKeptState (limits_of held.shape) st
    → folded (limits_of held.shape) (records_of held.frames) empty ≡ st
    → AllByRecursion (IsInside held.shape held.size) (slots_of st)
unfolding slots_in records_of folded
none_outside seen held st slotted shows kept found = by held.frames refl
  where
    by : (frames : List Frame) → held.frames ≡ frames → AllByRecursion (IsInside held.shape held.size) (slots_of st)
    by [] none =
        let nothing : empty ≡ st = ap (λ (fs : List Frame). folded (limits_of held.shape) (records_of fs) empty) (sym none) ∙ found in
        subst (λ (s : StateOf Entry). AllByRecursion (IsInside held.shape held.size) (slots_of s)) nothing tt
    by (frame ∷ frames) some =
        let opens : OpensAs held.shape (frame ∷ frames) held.closed (seen held.disk) = subst
        (λ (fs : List Frame). OpensAs held.shape fs held.closed (seen held.disk)) some shows.opens in
        let long : slot_at held.shape held.shape.records < held.size = omega
        (arith, past_half held.shape frame frames held.closed (seen held.disk) slotted opens, shows.size) in
        all_inside held.shape held.size (slots_of st) slotted long (kept_slots (limits_of held.shape) st kept)

-- ---- what is held is cached

module _ (tells : Type 0) (shape : Shape) (size : ℕ) (content : List ℕ) (blocks : SlotBlocks)
    (read : AreRead tells shape size content blocks) where
  held_cached : (slot : ℕ) → IsHeld blocks slot → IsCached shape.block blocks slot
  held_cached slot (inl zero_block) = inl zero_block
  held_cached slot (inr some) = by (block_under blocks slot) refl some
    where
      by : (found : Option (List ℕ)) → block_under blocks slot ≡ found → IsSome found → IsCached shape.block blocks slot
      by None at is = absurd cc
      by (Some bytes) at is = inr (bytes, at, (read slot bytes at).len)

  held_stored : tells → length content ≡ size → (slot : ℕ) → IsHeld blocks slot → IsStored shape blocks content slot
  held_stored told long slot (inl zero_block) = inl zero_block
  held_stored told long slot (inr some) = by (block_under blocks slot) refl some (eqb slot 4294967295) refl
    where
      by : (found : Option (List ℕ)) → block_under blocks slot ≡ found → IsSome found → (zero_block : Bool) → eqb slot 4294967295 ≡ zero_block
          → IsStored shape blocks content slot
      by None at is zero_block which = absurd cc
      by (Some bytes) at is true which = inl which
      by (Some bytes) at is false which =
          let here = read slot bytes at in
          let in_memory : cached shape.block blocks slot ≡ bytes = ap
          (λ (b : Bool). cond b (replicate shape.block 0) (unwrap_or (block_under blocks slot) [])) which
          ∙ ap (λ (o : Option (List ℕ)). unwrap_or o []) at in
          inr (subst (λ (n : ℕ). HasSlot shape n slot) (sym long) here.has, sym (here.told told) ∙ sym in_memory)

  all_step : (P Q : ℕ → Type 0) (xs : List ℕ) → ((x : ℕ) → P x → Q x) → AllByRecursion P xs → AllByRecursion Q xs
  all_step P Q [] step all = tt
  all_step P Q (x ∷ xs) step all = (step x all.0, all_step P Q xs step all.1)

  pub all_cached : (st : StateOf Entry) → AllByRecursion (IsHeld blocks) (slots_of st) → AllSlots (IsCached shape.block blocks) st
  all_cached st all = each_slot (IsCached shape.block blocks) st.stripes
      (all_step (IsHeld blocks) (IsCached shape.block blocks) (slots_of st) held_cached all)

  pub all_stored : tells → length content ≡ size → (st : StateOf Entry) → AllByRecursion (IsHeld blocks) (slots_of st)
      → AllSlots (IsStored shape blocks content) st
  all_stored told long st all = each_slot (IsStored shape blocks content) st.stripes
      (all_step (IsHeld blocks) (IsStored shape blocks content) (slots_of st) (held_stored told long) all)

-- ---- all of it

module _ {D : Type 0} (tells : Type 0) (seen : D → List ℕ) (held : Held D) (st : StateOf Entry) (whole : Bool)
    (fold : IsFold (limits_of held.shape) held.frames st whole) where
  pub kept_in_shape : IsKeptState (limits_of held.shape) st
  kept_in_shape = subst (λ (s : StateOf Entry). IsKeptState (limits_of held.shape) s) fold.found
      (folded_keeps (limits_of held.shape) (records_of held.frames) empty (empty_kept (limits_of held.shape)))

  -- what was read of a store that is not worn
  loaded_from : (limits : Limits) (blocks : SlotBlocks) → limits ≡ limits_of held.shape → AllByRecursion (IsHeld blocks) (slots_of st)
      → AreRead tells held.shape held.size (seen held.disk) blocks
      → (tells → Shows seen held) → st.boot < 2 ^ 32 - 1
      → IsLoaded tells held.shape held.frames (seen held.disk) limits st whole blocks
  loaded_from limits blocks limits_are all read shows boots = record {
    limits_are = limits_are;
    fold = fold;
    kept = kept_in_shape;
    held = all_cached tells held.shape held.size (seen held.disk) blocks read st all;
    stored = λ told. all_stored tells held.shape held.size (seen held.disk) blocks read told (shows told).size st all;
    boots = boots;
  }

  -- the same of a reading of the blocks that may have failed
  pub loaded_if : (limits : Limits) (r : Result SlotBlocks OpenFault) → limits ≡ limits_of held.shape
      → IfOk r (λ blocks. AllByRecursion (IsHeld blocks) (slots_of st)) → IfOk r (λ blocks. AreRead tells held.shape held.size (seen held.disk) blocks)
      → (tells → Shows seen held) → st.boot < 2 ^ 32 - 1
      → IfOk r (λ blocks. IsLoaded tells held.shape held.frames (seen held.disk) limits st whole blocks)
  loaded_if limits (Ok blocks) limits_are all read shows boots = loaded_from limits blocks limits_are all read shows boots
  loaded_if limits (Err fault) limits_are all read shows boots = tt

  -- no slot is past the end of the file
  pub inside_from : is_old held.shape ≡ false → Shows seen held → AllByRecursion (IsInside held.shape held.size) (slots_of st)
  inside_from slotted shows = none_outside seen held st slotted shows kept_in_shape fold.found
