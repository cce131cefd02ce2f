-- What the calls of a store leave at each of their exits.
use Rattle.std.proofs.Common.{◌≡◌, ◌⊎◌, inl, inr, ℕ, ◌+◌, ◌-◌, ◌*◌, ◌^◌, ◌<◌, ◌≤◌, max, Bool, true, false, List, [], ◌∷◌, ◌++◌, length, Option, Some, None, refl, sym, ◌∙◌, ap, subst, arith}
use Rattle.std.proofs.Math.Nat.{mul-le-mul_left}
use Rattle.fab_disk.specs.declared.disk.Disk as on_disk
use Rattle.fab_disk.specs.Disk.{written, Torn}
use Rattle.fab_disk.specs.Changing.{End, NotBegun, Still, Run, Change}
use Rattle.fab_disk.proofs.Changing.{widen, still, same, behind}
use Rattle.frame_store.specs.declared.frames.Frame.{Frame}
use Rattle.frame_store.specs.declared.shapes.Shape.{Shape}
use Rattle.frame_store.specs.declared.shapes.Form.{Form}
use Rattle.frame_store.specs.declared.shapes.Form.TheVariants.{Old, New, Moved}
use Rattle.frame_store.specs.declared.shapes.Half.{Half}
use Rattle.frame_store.specs.declared.shapes.Half.TheVariants.{A, B}
use Rattle.frame_store.specs.Layouts.{IsShape, is_old, start_in, header_at, header_rest, half_at, half_size, index_half_size, slot_at, store_end}
use Rattle.frame_store.specs.Listed.{size_of, line_of, closed_list, Fits}
use Rattle.frame_store.specs.Laid.{other, Laid, IsCounted}
use Rattle.frame_store.specs.Images.{OpensAs, Lists, ListsWith}
use Rattle.frame_store.specs.Steps.{IsStaged, IsShutFirst, IsGated, IsBothGated, IsRewritten, both_written, closing, next_of}
use Rattle.frame_store.specs.Stores.{Held}
use Rattle.frame_store.specs.Ends.{ListChange}
use Rattle.frame_store.proofs.Runs.{torn_same}
use Rattle.frame_store.proofs.Stopping.{staged_none}
use Rattle.frame_store.proofs.Parts.{length-written}
use Rattle.frame_store.proofs.Listing.{size_of-append}
use Rattle.frame_store.proofs.Slots.{half_behind, half_is, first_is, slot_before_half}
use Rattle.frame_store.proofs.Indexes.{Index}
use Rattle.frame_store.proofs.Openings.{opens_once}
use Rattle.frame_store.proofs.Appending.{Rooted, length-line, index_of, rooted_of, appended_laid}
use Rattle.frame_store.proofs.Headers.{header_within}
use Rattle.frame_store.proofs.Shutting.{length-closed_list}
use Rattle.frame_store.proofs.Rewriting.{rewrite_first, rewrite_before, rewrite_then, rewritten_laid, rewrite_after}
use Rattle.frame_store.proofs.Changes.{laid_opens, append_before, append_moment, append_after, put_before, put_moment, put_after, rooted_put}

-- the whole store lies below 2^48
start_small : (form : Form) (shape : Shape) → IsShape shape → start_in form shape ≤ 2 ^ 36
start_small form shape limits =
    let wide : (2 * shape.records + 512) * (shape.block + 256) ≤ (2 * shape.records + 512) * 4352 =
    mul-le-mul_left {m = shape.block + 256} {n = 4352} (2 * shape.records + 512) (omega (arith, limits.few_bytes)) in
    each form wide
  where
    each : (form : Form) → (2 * shape.records + 512) * (shape.block + 256) ≤ (2 * shape.records + 512) * 4352 → start_in form shape ≤ 2 ^ 36
    each Old wide = omega (arith, wide, limits.few_slots)
    each New wide = omega arith
    each Moved wide = omega (arith, wide, limits.few_slots)

pub end_small : (shape : Shape) → IsShape shape → store_end shape ≤ 2 ^ 40
end_small shape limits =
    let wide : shape.records * shape.block ≤ shape.records * 4096 = mul-le-mul_left {m = shape.block} {n = 4096} shape.records limits.few_bytes in
    omega (arith, wide, limits.few_slots, start_small shape.form shape limits)

-- each half of the new format ends within it
pub half_within : (shape : Shape) (half : Half) → is_old shape ≡ false → half_at shape half + half_size shape ≤ store_end shape
half_within shape A slotted = omega (arith, first_is shape slotted, half_is shape slotted)
half_within shape B slotted = omega (arith, first_is shape slotted, half_is shape slotted)

-- a list that fits in its half, as a clause sees the store, ends within it
pub list_within : {D : Type 0} (held s : Held D) (half : Half) (frames : List Frame) (line : List ℕ) (at : ℕ) → held ≡ s → is_old s.shape ≡ false
    → size_of frames + 1 ≤ index_half_size s.shape → line ≡ closed_list frames → at ≡ half_at held.shape half → at + length line ≤ store_end held.shape
list_within held s half frames line at view slotted fits line_is at_is =
    let here = subst (λ h. size_of frames + 1 ≤ index_half_size h.shape) (sym view) fits in
    let new = subst (λ h. is_old h.shape ≡ false) (sym view) slotted in
    omega (arith, at_is, half_within held.shape half new, half_is held.shape new, here, ap length line_is, length-closed_list frames)

-- shutting a gate makes the content no longer
pub size_shut : (half : Half) (b : Bool) (content : List ℕ) → 64 ≤ length content → length (written (header_at half) (closing b) content) ≡ length content
size_shut half true content whole = refl
size_shut half false content whole = omega (arith, length-written (header_at half) (0 ∷ []) content (omega arith), header_within half)

-- the index of a closed list
pub index_now : (shape : Shape) (half : Half) (number : ℕ) (other_shut : Bool) (frames : List Frame) (closed : Bool) (content : List ℕ)
    → Laid shape half number other_shut frames closed content → closed ≡ true → Index shape half frames content
index_now shape half number other_shut frames closed content laid is =
    index_of shape half number other_shut frames content (rooted_of shape half number other_shut frames closed content laid) (laid.ended is)

-- how long the content is after an append
pub appended_size : (p : ℕ) (line content : List ℕ) → 0 < length line → length (written p (165 ∷ []) (written (p + 1) line content)) ≡ max
    (length content) (p + 1 + length line)
appended_size p line content some =
    omega (arith, length-written (p + 1) line content some, length-written p (165 ∷ []) (written (p + 1) line content) (omega arith))

-- a list that opens with a closed gate behind it is known to be closed
pub closed_is : (shape : Shape) (half : Half) (number : ℕ) (other_shut : Bool) (frames : List Frame) (closed : Bool) (image : List ℕ)
    → Laid shape half number other_shut frames closed image → OpensAs shape frames true image → closed ≡ true
closed_is shape half number other_shut frames closed image laid opens =
    (opens_once shape image frames frames closed true (laid_opens shape half number other_shut frames closed image laid) opens).1

module _ {D : Type 0} (d : on_disk.Ghosts D) where
  -- a call that was refused once room was being made
  pub still_change : ((disk : D) (image : List ℕ) → d.left_since disk (d.moment disk) image → d.may_leave disk image) → (calls : ℕ) (s : Held D)
      (after : List Frame) (put : Option (ℕ × List ℕ)) (mid : D) → Still d s.disk mid ⊥ → ListChange d calls s after put mid NotBegun
  still_change only_now calls s after put mid rest =
      still d only_now (Lists s.shape s.frames put (d.seen s.disk)) _ (λ image is. inl is) s.disk mid ⊥ rest calls
      (ListsWith s.shape after put (d.seen s.disk))

  -- and one that was refused at once
  pub same_change : ((disk : D) (image : List ℕ) → d.left_since disk (d.moment disk) image → d.may_leave disk image) → (calls : ℕ) (s : Held D)
      (after : List Frame) (put : Option (ℕ × List ℕ)) → ListChange d calls s after put s.disk NotBegun
  same_change only_now calls s after put =
      same d only_now calls (Lists s.shape s.frames put (d.seen s.disk)) _ (ListsWith s.shape after put (d.seen s.disk)) (λ image is. inl is) s.disk

  -- What is known of a store that is about to be changed: its numbers, what it keeps true of its disk, that it runs, and that
  -- nothing was done yet but to make room.
  pub record Ready (half : Half) (number : ℕ) (other_shut : Bool) (used : ℕ) (mid : D) (s : Held D) : Type 0 where
    pub counted : IsCounted s.shape s.frames used
    pub invariant : d.tells → s.halted ≡ false → Laid s.shape half number other_shut s.frames s.closed (d.seen s.disk) × (length (d.seen s.disk) ≡ s.size)
    pub runs : s.halted ≡ false
    pub rest : Still d s.disk mid ⊥

  module _ (s : Held D) (half : Half) (number : ℕ) (other_shut : Bool) (used : ℕ) (mid new : D) (ready : Ready half number other_shut used mid s) where
    pub laid : d.tells → Laid s.shape half number other_shut s.frames s.closed (d.seen s.disk)
    laid told = (ready.invariant told ready.runs).0

    pub size : d.tells → length (d.seen s.disk) ≡ s.size
    size told = (ready.invariant told ready.runs).1

    pub rooted : d.tells → Rooted s.shape half number other_shut s.frames (d.seen s.disk)
    rooted told = rooted_of s.shape half number other_shut s.frames s.closed (d.seen s.disk) (laid told)

    pub content_same : d.seen mid ≡ d.seen s.disk
    content_same = ready.rest.untouched.content

    module _ (only_now : (disk : D) (image : List ℕ) → d.left_since disk (d.moment disk) image → d.may_leave disk image)
        (counts : (disk : D) (t : ℕ) (image : List ℕ) → t ≤ d.moment disk → d.may_leave disk image → d.left_since disk t image) (end : End) where
      -- a run that began once room was made, by what it means for the content from before it
      pub change_by : (calls : ℕ) (Before After : List ℕ → Type 0) (Q W : List ℕ → List ℕ → Type 0) (R : List ℕ → List ℕ)
          → ((image : List ℕ) → Before image → OpensAs s.shape s.frames true image)
          → ((content : List ℕ) → Q content content)
          → (d.tells → Index s.shape half s.frames (d.seen s.disk) → (image : List ℕ) → Q (d.seen s.disk) image → Before image)
          → (d.tells → Index s.shape half s.frames (d.seen s.disk) → (image : List ℕ) → W (d.seen s.disk) image → Before image ⊎ After image)
          → (d.tells → After (R (d.seen s.disk)))
          → Run d calls (Q (d.seen mid)) (W (d.seen mid)) (λ image. image ≡ R (d.seen mid)) mid new end → Change d calls Before After s.disk new end
      change_by calls Before After Q W R opens begun before during done run =
          behind d only_now Before _ (λ image is. inl is) s.disk mid ⊥ ready.rest counts calls After new end
          (widen d calls _ _ _ Before _ After mid new end
          (λ told here. begun (d.seen mid))
          (λ told here image is. before told (index told here) image (subst (λ (c : List ℕ). Q c image) content_same is))
          (λ told here image is. during told (index told here) image (subst (λ (c : List ℕ). W c image) content_same is))
          (λ told image is. subst After (sym (is ∙ ap R content_same)) (done told))
          run)
        where
          index : d.tells → Before (d.seen mid) → Index s.shape half s.frames (d.seen s.disk)
          index told here =
              index_now s.shape half number other_shut s.frames s.closed (d.seen s.disk) (laid told)
              (closed_is s.shape half number other_shut s.frames s.closed (d.seen s.disk) (laid told)
              (subst (OpensAs s.shape s.frames true) content_same (opens (d.seen mid) here)))

      list_change : (calls : ℕ) (after : List Frame) (put : Option (ℕ × List ℕ)) (Q W : List ℕ → List ℕ → Type 0) (R : List ℕ → List ℕ)
          → ((content : List ℕ) → Q content content)
          → (d.tells → Index s.shape half s.frames (d.seen s.disk) → (image : List ℕ) → Q (d.seen s.disk) image → Lists s.shape s.frames put (d.seen s.disk) image)
          → (d.tells → Index s.shape half s.frames (d.seen s.disk) → (image : List ℕ) → W (d.seen s.disk) image
          → Lists s.shape s.frames put (d.seen s.disk) image ⊎ ListsWith s.shape after put (d.seen s.disk) image)
          → (d.tells → ListsWith s.shape after put (d.seen s.disk) (R (d.seen s.disk)))
          → Run d calls (Q (d.seen mid)) (W (d.seen mid)) (λ image. image ≡ R (d.seen mid)) mid new end → ListChange d calls s after put new end
      list_change calls after put Q W R begun before during done run =
          change_by calls (Lists s.shape s.frames put (d.seen s.disk)) (ListsWith s.shape after put (d.seen s.disk)) Q W R (λ image is. is.opens)
          begun before during done run

    module _ (slotted : is_old s.shape ≡ false) (p : ℕ) (frame : Frame) (line : List ℕ) (place : p ≡ half_at s.shape half + used) (fits : Fits s.shape s.frames (length frame.body))
        (line_is : line ≡ line_of frame) where
      gate_is : p ≡ half_at s.shape half + size_of s.frames
      gate_is = omega (arith, place, ready.counted.used_is)

      some : 0 < length line
      some = omega (arith, ap length line_is, length-line frame)

      -- an append
      pub append_change : ((disk : D) (image : List ℕ) → d.left_since disk (d.moment disk) image → d.may_leave disk image)
          → ((disk : D) (t : ℕ) (image : List ℕ) → t ≤ d.moment disk → d.may_leave disk image → d.left_since disk t image) → (end : End)
          → Run d 4 (Torn (p + 1) (length line) (d.seen mid)) (IsGated (p + 1) line p (d.seen mid))
          (λ image. image ≡ written p (165 ∷ []) (written (p + 1) line (d.seen mid))) mid new end
          → ListChange d 4 s (s.frames ++ frame ∷ []) None new end
      append_change only_now counts end run =
          list_change only_now counts end 4 (s.frames ++ frame ∷ []) None (Torn (p + 1) (length (line_of frame))) (IsGated (p + 1) (line_of frame) p)
          (λ c. written p (165 ∷ []) (written (p + 1) (line_of frame) c)) (torn_same (p + 1) (length (line_of frame)))
          (λ told index image torn. append_before s.shape half s.frames frame p ready.counted.limits slotted gate_is fits (d.seen s.disk) image index torn)
          (λ told index image gated. append_moment s.shape half s.frames frame p ready.counted.limits slotted gate_is fits (d.seen s.disk) image index gated)
          (λ told. append_after s.shape half s.frames frame p ready.counted.limits slotted gate_is fits (d.seen s.disk) number other_shut (rooted told))
          (subst (λ (l : List ℕ). Run d 4 (Torn (p + 1) (length l) (d.seen mid)) (IsGated (p + 1) l p (d.seen mid))
          (λ image. image ≡ written p (165 ∷ []) (written (p + 1) l (d.seen mid))) mid new end) line_is run)

      pub append_laid : (d.tells → d.seen new ≡ written p (165 ∷ []) (written (p + 1) line (d.seen mid))) → d.tells
          → Laid s.shape half number other_shut (s.frames ++ frame ∷ []) true (d.seen new) × (length (d.seen new) ≡ max s.size (p + 1 + length line))
      append_laid is told = (
        subst (λ (c : List ℕ). Laid s.shape half number other_shut (s.frames ++ frame ∷ []) true c)
            (sym (is told ∙ ap (λ (c : List ℕ). written p (165 ∷ []) (written (p + 1) line c)) content_same
            ∙ ap (λ (l : List ℕ). written p (165 ∷ []) (written (p + 1) l (d.seen s.disk))) line_is))
            (appended_laid s.shape half s.frames frame p ready.counted.limits slotted gate_is fits number other_shut (d.seen s.disk) (rooted told)),
        omega (arith, ap length (is told), appended_size p line (d.seen mid) some, ap length content_same, size told),
      )

      pub append_counted : IsCounted s.shape (s.frames ++ frame ∷ []) (used + length line)
      append_counted =
          let long = size_of-append s.frames (frame ∷ []) in
          record {
            limits = ready.counted.limits;
            used_is = omega (arith, long, ready.counted.used_is, ap length line_is, length-line frame);
            within = omega (arith, long, half_is s.shape slotted);
          }

      -- an append with a block
      module _ (slot : ℕ) (block : List ℕ) (is_slot : slot < s.shape.records) (whole : length block ≡ s.shape.block) (at : ℕ)
          (at_is : at ≡ slot_at s.shape slot) where
        abbrev Put : ℕ → List ℕ → End → Type 0
        Put a l end =
            Run d 5 (IsStaged a (length block) (p + 1) (length l) (d.seen mid)) (IsBothGated a block (p + 1) l p (d.seen mid))
            (λ image. image ≡ written p (165 ∷ []) (both_written a block (p + 1) l (d.seen mid))) mid new end

        pub put_change : ((disk : D) (image : List ℕ) → d.left_since disk (d.moment disk) image → d.may_leave disk image)
            → ((disk : D) (t : ℕ) (image : List ℕ) → t ≤ d.moment disk → d.may_leave disk image → d.left_since disk t image) → (end : End)
            → Run d 5 (IsStaged at (length block) (p + 1) (length line) (d.seen mid)) (IsBothGated at block (p + 1) line p (d.seen mid))
            (λ image. image ≡ written p (165 ∷ []) (both_written at block (p + 1) line (d.seen mid))) mid new end
            → ListChange d 5 s (s.frames ++ frame ∷ []) (Some (slot, block)) new end
        put_change only_now counts end run =
            list_change only_now counts end 5 (s.frames ++ frame ∷ []) (Some (slot, block))
            (IsStaged (slot_at s.shape slot) (length block) (p + 1) (length (line_of frame)))
            (IsBothGated (slot_at s.shape slot) block (p + 1) (line_of frame) p)
            (λ c. written p (165 ∷ []) (both_written (slot_at s.shape slot) block (p + 1) (line_of frame) c))
            (staged_none (slot_at s.shape slot) (length block) (p + 1) (length (line_of frame)))
            (λ told index image staged. put_before s.shape half s.frames frame p ready.counted.limits slotted gate_is fits (d.seen s.disk) slot block is_slot whole image index staged)
            (λ told index image gated. put_moment s.shape half s.frames frame p ready.counted.limits slotted gate_is fits (d.seen s.disk) slot block is_slot whole image index gated)
            (λ told. put_after s.shape half s.frames frame p ready.counted.limits slotted gate_is fits (d.seen s.disk) slot block is_slot whole number other_shut (rooted told))
            (subst (λ (l : List ℕ). Put (slot_at s.shape slot) l end) line_is (subst (λ (a : ℕ). Put a line end) at_is run))

        put_is : (d.tells → d.seen new ≡ written p (165 ∷ []) (both_written at block (p + 1) line (d.seen mid))) → d.tells
            → d.seen new ≡ written p (165 ∷ []) (both_written (slot_at s.shape slot) block (p + 1) line (d.seen mid))
        put_is is told = is told ∙ ap (λ (a : ℕ). written p (165 ∷ []) (both_written a block (p + 1) line (d.seen mid))) at_is

        pub put_laid : (d.tells → d.seen new ≡ written p (165 ∷ []) (both_written at block (p + 1) line (d.seen mid))) → d.tells
            → Laid s.shape half number other_shut (s.frames ++ frame ∷ []) true (d.seen new) × (length (d.seen new) ≡ max s.size (p + 1 + length line))
        put_laid is told =
            let before = length-written (slot_at s.shape slot) block (d.seen mid) (omega (arith, whole, ready.counted.limits.some_bytes)) in (
              subst (λ (c : List ℕ). Laid s.shape half number other_shut (s.frames ++ frame ∷ []) true c)
                  (sym (put_is is told
                  ∙ ap (λ (c : List ℕ). written p (165 ∷ []) (written (p + 1) line (written (slot_at s.shape slot) block c))) content_same
                  ∙ ap (λ (l : List ℕ). written p (165 ∷ []) (written (p + 1) l (written (slot_at s.shape slot) block (d.seen s.disk)))) line_is))
                  (appended_laid s.shape half s.frames frame p ready.counted.limits slotted gate_is fits number other_shut
                  (written (slot_at s.shape slot) block (d.seen s.disk))
                  (rooted_put s.shape half s.frames frame p ready.counted.limits slotted gate_is fits (d.seen s.disk) slot block is_slot whole number other_shut
                  (rooted told))),
              omega (
                arith,
                ap length (put_is is told),
                appended_size p line (written (slot_at s.shape slot) block (d.seen mid)) some,
                before,
                ap length content_same,
                size told,
                slot_before_half s.shape half slot slotted is_slot,
                whole,
                gate_is,
              ),
            )

    -- a rewrite
    module _ (slotted : is_old s.shape ≡ false) (fs : List Frame) (gate at : ℕ) (shut rest line : List ℕ) (fits : size_of fs + 1 ≤ index_half_size s.shape) (small : number < 2 ^ 64)
        (gate_is : gate ≡ header_at (other half)) (at_is : at ≡ half_at s.shape (other half)) (shut_is : shut ≡ closing other_shut)
        (rest_is : rest ≡ header_rest s.shape (next_of number)) (line_is : line ≡ closed_list fs) where
      abbrev Rewritten : ℕ → ℕ → List ℕ → List ℕ → List ℕ → End → Type 0
      Rewritten g a x r l end =
          Run d 7 (IsShutFirst g x r a l (d.seen mid)) (IsRewritten g x r a l (d.seen mid))
          (λ image. image ≡ written g (165 ∷ []) (both_written (g + 1) r a l (written g x (d.seen mid)))) mid new end

      abbrev content_after : List ℕ → List ℕ
      content_after content = written (header_at (other half)) (165 ∷ [])
          (both_written (header_at (other half) + 1) (header_rest s.shape (next_of number)) (half_at s.shape (other half)) (closed_list fs)
          (written (header_at (other half)) (closing other_shut) content))

      rewrite_means : d.tells → Index s.shape half s.frames (d.seen s.disk) → (image : List ℕ)
          → IsRewritten (header_at (other half)) (closing other_shut) (header_rest s.shape (next_of number)) (half_at s.shape (other half))
          (closed_list fs) (d.seen s.disk) image
          → Lists s.shape s.frames None (d.seen s.disk) image ⊎ ListsWith s.shape fs None (d.seen s.disk) image
      rewrite_means told index image (inl first) =
          rewrite_first s.shape half number other_shut s.frames fs (d.seen s.disk) ready.counted.limits slotted small fits (rooted told) index image first
      rewrite_means told index image (inr then) =
          rewrite_then s.shape half number other_shut s.frames fs (d.seen s.disk) ready.counted.limits slotted small fits (rooted told) index image then

      pub rewrite_change : ((disk : D) (image : List ℕ) → d.left_since disk (d.moment disk) image → d.may_leave disk image)
          → ((disk : D) (t : ℕ) (image : List ℕ) → t ≤ d.moment disk → d.may_leave disk image → d.left_since disk t image) → (end : End)
          → Run d 7 (IsShutFirst gate shut rest at line (d.seen mid)) (IsRewritten gate shut rest at line (d.seen mid))
          (λ image. image ≡ written gate (165 ∷ []) (both_written (gate + 1) rest at line (written gate shut (d.seen mid)))) mid new end
          → ListChange d 7 s fs None new end
      rewrite_change only_now counts end run =
          list_change only_now counts end 7 fs None
          (IsShutFirst (header_at (other half)) (closing other_shut) (header_rest s.shape (next_of number)) (half_at s.shape (other half)) (closed_list fs))
          (IsRewritten (header_at (other half)) (closing other_shut) (header_rest s.shape (next_of number)) (half_at s.shape (other half)) (closed_list fs))
          content_after (λ content. inl (torn_same (header_at (other half)) (length (closing other_shut)) content))
          (λ told index. rewrite_before s.shape half number other_shut s.frames fs (d.seen s.disk) ready.counted.limits slotted small fits (rooted told) index)
          rewrite_means
          (λ told. rewrite_after s.shape half number other_shut s.frames fs (d.seen s.disk) ready.counted.limits slotted small fits (rooted told))
          (subst (λ (l : List ℕ). Rewritten (header_at (other half)) (half_at s.shape (other half)) (closing other_shut) (header_rest s.shape (next_of number)) l end) line_is
          (subst (λ (r : List ℕ). Rewritten (header_at (other half)) (half_at s.shape (other half)) (closing other_shut) r line end) rest_is
          (subst (λ (x : List ℕ). Rewritten (header_at (other half)) (half_at s.shape (other half)) x rest line end) shut_is
          (subst (λ (a : ℕ). Rewritten (header_at (other half)) a shut rest line end) at_is
          (subst (λ (g : ℕ). Rewritten g at shut rest line end) gate_is run)))))

      same_content : (content : List ℕ) → written gate (165 ∷ []) (both_written (gate + 1) rest at line (written gate shut content)) ≡ content_after content
      same_content content =
          ap (λ (x : ℕ). written x (165 ∷ []) (both_written (x + 1) rest at line (written x shut content))) gate_is
          ∙ ap (λ (x : List ℕ). written (header_at (other half)) (165 ∷ [])
          (both_written (header_at (other half) + 1) rest at line (written (header_at (other half)) x content))) shut_is
          ∙ ap (λ (x : List ℕ). written (header_at (other half)) (165 ∷ [])
          (both_written (header_at (other half) + 1) x at line (written (header_at (other half)) (closing other_shut) content))) rest_is
          ∙ ap (λ (x : ℕ). written (header_at (other half)) (165 ∷ [])
          (both_written (header_at (other half) + 1) (header_rest s.shape (next_of number)) x line
          (written (header_at (other half)) (closing other_shut) content))) at_is
          ∙ ap (λ (x : List ℕ). written (header_at (other half)) (165 ∷ [])
          (both_written (header_at (other half) + 1) (header_rest s.shape (next_of number)) (half_at s.shape (other half)) x
          (written (header_at (other half)) (closing other_shut) content))) line_is

      pub rewrite_laid : (d.tells → d.seen new ≡ written gate (165 ∷ []) (both_written (gate + 1) rest at line (written gate shut (d.seen mid)))) → d.tells
          → Laid s.shape (other half) (next_of number) false fs true (d.seen new) × (length (d.seen new) ≡ max s.size (at + length line))
      rewrite_laid is told =
          let is_content : d.seen new ≡ content_after (d.seen s.disk) = is told ∙ same_content (d.seen mid) ∙ ap content_after content_same in
          let shut_content = written (header_at (other half)) (closing other_shut) (d.seen s.disk) in
          let first = size_shut (other half) other_shut (d.seen s.disk) (rooted told).whole in
          let rest_content = written (header_at (other half) + 1) (header_rest s.shape (next_of number)) shut_content in
          let second = length-written (header_at (other half) + 1) (header_rest s.shape (next_of number)) shut_content (omega arith) in
          let list = closed_list fs in
          let long = length-closed_list fs in
          let third = length-written (half_at s.shape (other half)) list rest_content (omega (arith, long)) in
          let fourth = length-written (header_at (other half)) (165 ∷ []) (written (half_at s.shape (other half)) list rest_content) (omega arith) in (
            subst (λ (c : List ℕ). Laid s.shape (other half) (next_of number) false fs true c) (sym is_content)
                (rewritten_laid s.shape half number other_shut s.frames fs (d.seen s.disk) ready.counted.limits slotted small fits (rooted told)),
            omega (
              arith,
              ap length is_content,
              first,
              second,
              third,
              fourth,
              size told,
              header_within (other half),
              (rooted told).whole,
              at_is,
              ap length line_is,
              half_behind s.shape (other half),
            ),
          )

      pub rewrite_counted : IsCounted s.shape fs (length line - 1)
      rewrite_counted = record { limits = ready.counted.limits; used_is = omega (arith, ap length line_is, length-closed_list fs); within = omega (arith, half_is s.shape slotted) }
