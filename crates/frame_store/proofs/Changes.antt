-- What the moments of an append leave of a store.
use Rattle.std.proofs.Common.{◌≡◌, ◌⊎◌, inl, inr, ℕ, ◌+◌, ◌<◌, ◌≤◌, Bool, true, false, List, [], ◌∷◌, ◌++◌, length, Option, Some, None, subst, arith}
use Rattle.fab_disk.specs.Disk.{Torn, written}
use Rattle.fab_disk.proofs.Writes.{written_torn}
use Rattle.frame_store.specs.declared.frames.Frame.{Frame}
use Rattle.frame_store.specs.declared.shapes.Shape.{Shape}
use Rattle.frame_store.specs.declared.shapes.Half.{Half}
use Rattle.frame_store.specs.Layouts.{IsShape, is_old, half_at, slot_at}
use Rattle.frame_store.specs.Listed.{size_of, line_of, Fits}
use Rattle.frame_store.specs.Laid.{Laid}
use Rattle.frame_store.specs.Images.{part, StandsIn, KeepsSlots, OpensAs, Lists, ListsWith}
use Rattle.frame_store.specs.Steps.{IsStaged, IsGated, IsBothGated}
use Rattle.frame_store.proofs.Parts.{above, part_written, length-written}
use Rattle.frame_store.proofs.Indexes.{Index, index_opens, index_kept}
use Rattle.frame_store.proofs.Slots.{slots_kept, slot_behind, clear_behind, clear_slot, slot_before_half, stands_behind}
use Rattle.frame_store.proofs.Standing.{slots_same}
use Rattle.frame_store.proofs.Appending.{index_staged, index_gated, appended, appended_laid, Rooted, rooted_kept}

-- a list that is known to be laid opens
pub laid_opens : (shape : Shape) (half : Half) (number : ℕ) (other_shut : Bool) (frames : List Frame) (closed : Bool) (image : List ℕ)
    → Laid shape half number other_shut frames closed image → OpensAs shape frames closed image
laid_opens shape half number other_shut frames closed image laid =
    record { half = half; in_force = laid.in_force; listed = laid.listed; ended = laid.ended; not_ended = laid.not_ended }

module _ (shape : Shape) (half : Half) (frames : List Frame) (frame : Frame) (p : ℕ) (limits : IsShape shape)
    (slotted : is_old shape ≡ false) (place : p ≡ half_at shape half + size_of frames)
    (fits : Fits shape frames (length frame.body)) (put : Option (ℕ × List ℕ)) (content : List ℕ) where
  -- before the gate is opened
  pub still_before : (d image : List ℕ) → Index shape half frames d → KeepsSlots shape put content d → Torn (p + 1) (length (line_of frame)) d image
      → Lists shape frames put content image
  still_before d image index slots torn = record {
    opens = index_opens shape half frames image (index_staged shape half frames frame p limits slotted place fits d image index torn);
    slots = slots_kept shape put content d image (p + 1) (length (line_of frame)) torn
        (λ slot is other. clear_behind shape half (p + 1) (length (line_of frame)) slot slotted (omega (arith, place)) is) slots;
  }

  pub moment_before : (d image : List ℕ) → Index shape half frames d → KeepsSlots shape put content d → Torn (p + 1) (length (line_of frame)) d image
      → Lists shape frames put content image ⊎ ListsWith shape (frames ++ frame ∷ []) put content image
  moment_before d image index slots torn = inl (still_before d image index slots torn)

  -- while it is opened
  pub moment_gated : (staged image : List ℕ) → Index shape half frames staged → KeepsSlots shape put content staged → StandsIn shape put staged
      → Torn p 1 (written (p + 1) (line_of frame) staged) image → Lists shape frames put content image ⊎ ListsWith shape (frames ++ frame ∷ []) put content image
  moment_gated staged image index slots stands torn =
      let behind = written (p + 1) (line_of frame) staged in
      let torn_behind = written_torn (p + 1) (line_of frame) staged in
      let slots_behind = slots_kept shape put content staged behind (p + 1) (length (line_of frame)) torn_behind
      (λ slot is other. clear_behind shape half (p + 1) (length (line_of frame)) slot slotted (omega (arith, place)) is) slots in
      let stands_now = stands_behind shape half put behind image p 1 torn slotted (omega (arith, place))
      (stands_behind shape half put staged behind (p + 1) (length (line_of frame)) torn_behind slotted (omega (arith, place)) stands) in
      let slots_now = slots_kept shape put content behind image p 1 torn
      (λ slot is other. clear_behind shape half p 1 slot slotted (omega (arith, place)) is) slots_behind in
      elim (index_gated shape half frames frame p limits slotted place fits staged image index torn) [
        | inl before ↦ inl (record { opens = index_opens shape half frames image before; slots = slots_now })
        | inr after ↦ inr (record {
          opens = index_opens shape half (frames ++ frame ∷ []) image after;
          stands = stands_now;
          slots = slots_now;
        })
      ]

  -- and afterwards
  pub after_append : (number : ℕ) (other_shut : Bool) (staged : List ℕ) → Rooted shape half number other_shut frames staged
      → KeepsSlots shape put content staged → StandsIn shape put staged
      → ListsWith shape (frames ++ frame ∷ []) put content (appended shape half frames frame p limits slotted place fits staged)
  after_append number other_shut staged rooted slots stands =
      let behind = written (p + 1) (line_of frame) staged in
      let image = appended shape half frames frame p limits slotted place fits staged in
      let torn_behind = written_torn (p + 1) (line_of frame) staged in
      let torn = written_torn p (165 ∷ []) behind in
      let slots_behind = slots_kept shape put content staged behind (p + 1) (length (line_of frame)) torn_behind
      (λ slot is other. clear_behind shape half (p + 1) (length (line_of frame)) slot slotted (omega (arith, place)) is) slots in
      record {
        opens = laid_opens shape half number other_shut (frames ++ frame ∷ []) true image
            (appended_laid shape half frames frame p limits slotted place fits number other_shut staged rooted);
        stands = stands_behind shape half put behind image p 1 torn slotted (omega (arith, place))
            (stands_behind shape half put staged behind (p + 1) (length (line_of frame)) torn_behind slotted (omega (arith, place)) stands);
        slots = slots_kept shape put content behind image p 1 torn
            (λ slot is other. clear_behind shape half p 1 slot slotted (omega (arith, place)) is) slots_behind;
      }

-- an append without a block
module _ (shape : Shape) (half : Half) (frames : List Frame) (frame : Frame) (p : ℕ) (limits : IsShape shape)
    (slotted : is_old shape ≡ false) (place : p ≡ half_at shape half + size_of frames)
    (fits : Fits shape frames (length frame.body)) (content : List ℕ) where
  pub append_before : (image : List ℕ) → Index shape half frames content → Torn (p + 1) (length (line_of frame)) content image
      → Lists shape frames None content image
  append_before image index torn =
      still_before shape half frames frame p limits slotted place fits None content content image index (slots_same shape None content) torn

  pub append_moment : (image : List ℕ) → Index shape half frames content → IsGated (p + 1) (line_of frame) p content image
      → Lists shape frames None content image ⊎ ListsWith shape (frames ++ frame ∷ []) None content image
  append_moment image index (inl torn) = moment_before shape half frames frame p limits slotted place fits None content content image index
      (slots_same shape None content) torn
  append_moment image index (inr torn) = moment_gated shape half frames frame p limits slotted place fits None content content image index
      (slots_same shape None content) tt torn

  pub append_after : (number : ℕ) (other_shut : Bool) → Rooted shape half number other_shut frames content
      → ListsWith shape (frames ++ frame ∷ []) None content (appended shape half frames frame p limits slotted place fits content)
  append_after number other_shut rooted = after_append shape half frames frame p limits slotted place fits None content number other_shut content rooted
      (slots_same shape None content) tt

-- an append with a block
module _ (shape : Shape) (half : Half) (frames : List Frame) (frame : Frame) (p : ℕ) (limits : IsShape shape)
    (slotted : is_old shape ≡ false) (place : p ≡ half_at shape half + size_of frames)
    (fits : Fits shape frames (length frame.body)) (content : List ℕ) (slot : ℕ) (block : List ℕ) (is_slot : slot < shape.records)
    (whole : length block ≡ shape.block) where
  abbrev put : Option (ℕ × List ℕ)
  put = Some (slot, block)

  apart : slot_at shape slot + length block ≤ half_at shape half
  apart = omega (arith, slot_before_half shape half slot slotted is_slot)

  slots_put : (image : List ℕ) → Torn (slot_at shape slot) (length block) content image → KeepsSlots shape put content image
  slots_put image torn =
      slots_kept shape put content content image (slot_at shape slot) shape.block
      (subst (λ (n : ℕ). Torn (slot_at shape slot) n content image) whole torn)
      (λ s is other. clear_slot shape slot s other) (slots_same shape put content)

  index_put : (image : List ℕ) → Index shape half frames content → Torn (slot_at shape slot) (length block) content image
      → Index shape half frames image
  index_put image index torn =
      index_kept shape half frames content image (slot_at shape slot) (length block) torn (slot_behind shape slot) (above apart)
      (above (omega (arith, apart))) index

  stands_put : StandsIn shape put (written (slot_at shape slot) block content)
  stands_put =
      let size = length-written (slot_at shape slot) block content (omega (arith, whole, limits.some_bytes)) in (
        record { is_slot = is_slot; inside = omega (arith, size, whole) },
        subst (λ (n : ℕ). part (slot_at shape slot) n (written (slot_at shape slot) block content) ≡ block) whole
            (part_written (slot_at shape slot) block content),
      )

  pub put_before : (image : List ℕ) → Index shape half frames content
      → IsStaged (slot_at shape slot) (length block) (p + 1) (length (line_of frame)) content image → Lists shape frames put content image
  put_before image index staged =
      still_before shape half frames frame p limits slotted place fits put content staged.between image (index_put staged.between index staged.first)
      (slots_put staged.between staged.first) staged.second

  pub put_moment : (image : List ℕ) → Index shape half frames content → IsBothGated (slot_at shape slot) block (p + 1) (line_of frame) p content image
      → Lists shape frames put content image ⊎ ListsWith shape (frames ++ frame ∷ []) put content image
  put_moment image index (inl staged) =
      moment_before shape half frames frame p limits slotted place fits put content staged.between image (index_put staged.between index staged.first)
      (slots_put staged.between staged.first) staged.second
  put_moment image index (inr torn) =
      let now = written (slot_at shape slot) block content in
      let torn_put = written_torn (slot_at shape slot) block content in
      moment_gated shape half frames frame p limits slotted place fits put content now image (index_put now index torn_put)
      (slots_put now torn_put) stands_put torn

  pub rooted_put : (number : ℕ) (other_shut : Bool) → Rooted shape half number other_shut frames content → Rooted shape half number other_shut frames
      (written (slot_at shape slot) block content)
  rooted_put number other_shut rooted =
      rooted_kept shape half number other_shut frames content (written (slot_at shape slot) block content) (slot_at shape slot) (length block)
      (written_torn (slot_at shape slot) block content) (slot_behind shape slot) (above apart) rooted

  pub put_after : (number : ℕ) (other_shut : Bool) → Rooted shape half number other_shut frames content
      → ListsWith shape (frames ++ frame ∷ []) put content
      (appended shape half frames frame p limits slotted place fits (written (slot_at shape slot) block content))
  put_after number other_shut rooted =
      after_append shape half frames frame p limits slotted place fits put content number other_shut (written (slot_at shape slot) block content)
      (rooted_put number other_shut rooted)
      (slots_put (written (slot_at shape slot) block content) (written_torn (slot_at shape slot) block content)) stands_put
