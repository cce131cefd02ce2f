-- Slots, where they lie and what writes leave of them.
use Rattle.std.proofs.Common.{◌≡◌, ◌≢◌, inl, inr, ℕ, ◌+◌, ◌*◌, ◌<◌, ◌≤◌, true, false, List, Option, Some, None, refl, ◌∙◌, arith}
use Rattle.std.proofs.Math.Nat.{mul-le-mul_left, mul-le-mul_right}
use Rattle.std.proofs.lemmas.Bool.{cases_lt}
use Rattle.fab_disk.specs.Disk.{Torn}
use Rattle.frame_store.specs.declared.shapes.Shape.{Shape}
use Rattle.frame_store.specs.declared.shapes.Form.{Form}
use Rattle.frame_store.specs.declared.shapes.Form.TheVariants.{Old, New, Moved}
use Rattle.frame_store.specs.declared.shapes.Half.{Half}
use Rattle.frame_store.specs.declared.shapes.Half.TheVariants.{A, B}
use Rattle.frame_store.specs.Layouts.{IsShape, old_half_size, formed, is_old, is_old_form, start_in, slot_at, first_half_in, half_size_in, half_size, index_half_size, half_at}
use Rattle.frame_store.specs.Images.{StandsIn, IsOther, KeepsSlots}
use Rattle.frame_store.proofs.Parts.{IsClear, below, above, part_kept}

-- a slot ends where the next one begins
pub slot_end : (shape : Shape) (slot : ℕ) → slot_at shape slot + shape.block ≡ slot_at shape (slot + 1)
slot_end shape slot = step (start_in shape.form shape) slot shape.block
  where
    step : (a s b : ℕ) → a + s * b + b ≡ a + (s + 1) * b
    step a s b = grind arith

-- a slot of a lower number ends before one of a higher begins
pub slots_apart : (shape : Shape) (low high : ℕ) → low < high → slot_at shape low + shape.block ≤ slot_at shape high
slots_apart shape low high lt = omega (arith, slot_end shape low, mul-le-mul_right {m = low + 1} {n = high} shape.block (omega arith))

-- the slots begin behind the headers, and so do the halves
start_behind : (form : Form) (shape : Shape) → 64 ≤ start_in form shape
start_behind Old shape = omega arith
start_behind New shape = omega arith
start_behind Moved shape = omega arith

first_behind : (form : Form) (shape : Shape) → 64 ≤ first_half_in form shape
first_behind Old shape = omega arith
first_behind New shape = omega (arith, start_behind shape.form shape)
first_behind Moved shape = omega (arith, start_behind shape.form shape)

pub slot_behind : (shape : Shape) (slot : ℕ) → 64 ≤ slot_at shape slot
slot_behind shape slot = omega (arith, start_behind shape.form shape)

pub half_behind : (shape : Shape) (half : Half) → 64 ≤ half_at shape half
half_behind shape A = first_behind shape.form shape
half_behind shape B = omega (arith, first_behind shape.form shape)

-- a half has some bytes
pub half_some : (shape : Shape) → 0 < half_size shape
half_some shape = each shape.form
  where
    each : (form : Form) → 0 < half_size_in form shape
    each Old = omega arith
    each New = omega arith
    each Moved = omega arith

-- in a store of the new format the halves are those of the index, and lie behind the slots
pub half_is : (shape : Shape) → is_old shape ≡ false → half_size shape ≡ index_half_size shape
half_is shape slotted = each shape.form slotted
  where
    each : (form : Form) → is_old_form form ≡ false → half_size_in form shape ≡ index_half_size shape
    each Old is = absurd cc
    each New is = refl
    each Moved is = refl

pub first_is : (shape : Shape) → is_old shape ≡ false → half_at shape A ≡ slot_at shape shape.records
first_is shape slotted = each shape.form slotted
  where
    each : (form : Form) → is_old_form form ≡ false → first_half_in form shape ≡ slot_at shape shape.records
    each Old is = absurd cc
    each New is = refl
    each Moved is = refl

pub slot_before_half : (shape : Shape) (half : Half) (slot : ℕ) → is_old shape ≡ false → slot < shape.records
    → slot_at shape slot + shape.block ≤ half_at shape half
slot_before_half shape A slot slotted lt = omega (arith, slots_apart shape slot shape.records lt, first_is shape slotted)
slot_before_half shape B slot slotted lt = omega (arith, slots_apart shape slot shape.records lt, first_is shape slotted)

-- the halves of an old store end where the slots will begin
pub old_before : (shape : Shape) (half : Half) → is_old shape ≡ true → half_at shape half + half_size shape ≤ slot_at (formed Moved shape) 0
old_before shape half old = each shape.form half old
  where
    each : (form : Form) (half : Half) → is_old_form form ≡ true → half_at (formed form shape) half + half_size (formed form shape)
        ≤ slot_at (formed Moved shape) 0
    each Old A is = omega arith
    each Old B is = omega arith
    each New h is = absurd cc
    each Moved h is = absurd cc

-- a write that leaves the slots that are kept alone
pub slots_kept : (shape : Shape) (put : Option (ℕ × List ℕ)) (content old new : List ℕ) (from k : ℕ) → Torn from k old new
    → ((slot : ℕ) → slot < shape.records → IsOther put slot → IsClear from k (slot_at shape slot) shape.block)
    → KeepsSlots shape put content old → KeepsSlots shape put content new
slots_kept shape put content old new from k torn clear kept = record {
  size = omega (arith, kept.size, torn.no_shorter);
  same = λ slot has other.
      part_kept from k old new (slot_at shape slot) shape.block torn (omega (arith, has.inside, kept.size)) (clear slot has.is_slot other)
      ∙ kept.same slot has other;
}

-- a write in or behind the halves, one in the headers, and one in the slot that a block is put in
pub clear_behind : (shape : Shape) (half : Half) (from k slot : ℕ) → is_old shape ≡ false → half_at shape half ≤ from → slot < shape.records
    → IsClear from k (slot_at shape slot) shape.block
clear_behind shape half from k slot slotted behind is = below (omega (arith, slot_before_half shape half slot slotted is))

pub clear_header : (shape : Shape) (from k slot : ℕ) → from + k ≤ 64 → IsClear from k (slot_at shape slot) shape.block
clear_header shape from k slot before = above (omega (arith, slot_behind shape slot))

pub clear_slot : (shape : Shape) (put slot : ℕ) → slot ≢ put → IsClear (slot_at shape put) shape.block (slot_at shape slot) shape.block
clear_slot shape put slot differs = elim (cases_lt slot put) [
  | inl lower ↦ below (slots_apart shape slot put lower)
  | inr higher ↦ above (slots_apart shape put slot (omega arith))
]

-- the block that was put in its slot stays there, where a write leaves that slot alone
pub put_kept : (shape : Shape) (slot : ℕ) (block old new : List ℕ) (from k : ℕ) → Torn from k old new
    → IsClear from k (slot_at shape slot) shape.block
    → StandsIn shape (Some (slot, block)) old → StandsIn shape (Some (slot, block)) new
put_kept shape slot block old new from k torn clear (has, stands) = (
  record { is_slot = has.is_slot; inside = omega (arith, has.inside, torn.no_shorter) },
  part_kept from k old new (slot_at shape slot) shape.block torn has.inside clear ∙ stands,
)

-- a write behind the halves' beginning keeps what is put in a slot
pub stands_behind : (shape : Shape) (half : Half) (put : Option (ℕ × List ℕ)) (old new : List ℕ) (from k : ℕ) → Torn from k old new
    → is_old shape ≡ false → half_at shape half ≤ from
    → StandsIn shape put old → StandsIn shape put new
stands_behind shape half None old new from k torn slotted behind stands = tt
stands_behind shape half (Some (slot, block)) old new from k torn slotted behind (has, stands) =
    put_kept shape slot block old new from k torn (clear_behind shape half from k slot slotted behind has.is_slot) (has, stands)

-- each half ends well below 2^48
pub half_reach : (shape : Shape) (half : Half) → IsShape shape → half_at shape half + half_size shape ≤ 281474976710656
half_reach shape half limits = each shape.form half
  where
    halves : old_half_size shape ≤ (2 * shape.records + 512) * 4352
    halves = mul-le-mul_left {m = shape.block + 256} {n = 4352} (2 * shape.records + 512) (omega (arith, limits.few_bytes))

    slots : shape.records * shape.block ≤ shape.records * 4096
    slots = mul-le-mul_left {m = shape.block} {n = 4096} shape.records limits.few_bytes

    each : (form : Form) (half : Half) → half_at (formed form shape) half + half_size (formed form shape) ≤ 281474976710656
    each Old A = omega (arith, halves, limits.few_slots)
    each Old B = omega (arith, halves, limits.few_slots)
    each New A = omega (arith, slots, limits.few_slots)
    each New B = omega (arith, slots, limits.few_slots)
    each Moved A = omega (arith, halves, slots, limits.few_slots)
    each Moved B = omega (arith, halves, slots, limits.few_slots)
