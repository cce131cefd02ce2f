-- A list in the other half, in the place of the one that is there.
use Rattle.std.proofs.Common.{◌≡◌, ◌⊎◌, inl, inr, ℕ, ◌+◌, ◌^◌, ◌<◌, ◌≤◌, Bool, true, false, List, [], ◌∷◌, length, get_or, None, sym, ◌∙◌, ap, subst, arith}
use Rattle.std.proofs.lemmas.Bool.{cases_eq}
use Rattle.fab_disk.specs.Disk.{Torn, written}
use Rattle.fab_disk.proofs.Writes.{written_torn}
use Rattle.frame_store.specs.declared.frames.Frame.{Frame}
use Rattle.frame_store.specs.declared.shapes.Shape.{Shape}
use Rattle.frame_store.specs.declared.shapes.Half.{Half}
use Rattle.frame_store.specs.declared.shapes.Half.TheVariants.{A, B}
use Rattle.frame_store.specs.Layouts.{IsShape, is_old, header_at, half_at, half_size, index_half_size, header_rest}
use Rattle.frame_store.specs.Listed.{size_of, closed_list, AreShort}
use Rattle.frame_store.specs.Laid.{other, Laid}
use Rattle.frame_store.specs.Images.{part, IsShut, EndsClosed, Lists, ListsWith, KeepsSlots}
use Rattle.frame_store.specs.Steps.{IsStaged, IsShutFirst, IsBothGated, both_written, closing, next_of}
use Rattle.frame_store.proofs.Parts.{IsClear, below, above, part_kept, part_written, written_get, length-written}
use Rattle.frame_store.proofs.Listing.{are_short}
use Rattle.frame_store.proofs.Headers.{header_within}
use Rattle.frame_store.proofs.Shutting.{length-closed_list, apart_headers, closing_short, shut_kept, index_closing, is_shut, torn_shut, own_shut, index_header, index_unopened, taken_over, taken_ends}
use Rattle.frame_store.proofs.Indexes.{Index, half_small, index_opens, index_kept}
use Rattle.frame_store.proofs.Slots.{half_behind, half_is, slots_kept, clear_behind, clear_header}
use Rattle.frame_store.proofs.Standing.{slots_same}
use Rattle.frame_store.proofs.Appending.{Rooted, laid_of}
use Rattle.frame_store.proofs.Changes.{laid_opens}

-- the other half does not lie on the frames of one's own, where these leave room for a gate
apart_halves : (shape : Shape) (half : Half) (size k n : ℕ) → size + n ≤ half_size shape → k ≤ half_size shape
    → IsClear (half_at shape (other half)) k (half_at shape half + size) n
apart_halves shape A size k n within fits = below (omega arith)
apart_halves shape B size k n within fits = above (omega arith)

module _ (shape : Shape) (half : Half) (number : ℕ) (other_shut : Bool) (frames new : List Frame) (content : List ℕ) (limits : IsShape shape)
    (slotted : is_old shape ≡ false) (small : number < 2 ^ 64)
    (fits : size_of new + 1 ≤ index_half_size shape) (rooted : Rooted shape half number other_shut frames content) where
  abbrev pub gate_at : ℕ
  gate_at = header_at (other half)

  abbrev pub list_at : ℕ
  list_at = half_at shape (other half)

  -- the content once the other header's gate is shut
  abbrev pub shut_content : List ℕ
  shut_content = written gate_at (closing other_shut) content

  -- and once the header's rest and the list are written
  abbrev pub behind_content : List ℕ
  behind_content = both_written (gate_at + 1) (header_rest shape (next_of number)) list_at (closed_list new) shut_content

  -- and once its gate is open
  abbrev pub rewritten : List ℕ
  rewritten = written gate_at (165 ∷ []) behind_content

  fits_half : size_of new + 1 ≤ half_size shape
  fits_half = omega (arith, fits, half_is shape slotted)

  within : gate_at + 32 ≤ 64
  within = header_within (other half)

  closed : (image : List ℕ) → Index shape half frames content → Torn gate_at (length (closing other_shut)) content image → Index shape half frames image
  closed = index_closing shape half number other_shut frames content rooted

  header_kept : (old image : List ℕ) → Index shape half frames old → IsShut gate_at old → Torn (gate_at + 1) 31 old image → Index shape half frames image
  header_kept = index_header shape half number other_shut frames content rooted

  shut_now : IsShut gate_at shut_content
  shut_now = is_shut shape half number other_shut frames content rooted

  index_list : (old image : List ℕ) → Index shape half frames old → Torn list_at (length (closed_list new)) old image → Index shape half frames image
  index_list old image index torn =
      let long = length-closed_list new in
      let none : half_at shape half ≡ half_at shape half + 0 = omega arith in
      index_kept shape half frames old image list_at (length (closed_list new)) torn (half_behind shape (other half))
      (subst (λ (x : ℕ). IsClear list_at (length (closed_list new)) x (size_of frames)) (sym none)
      (apart_halves shape half 0 (length (closed_list new)) (size_of frames) (omega (arith, index.ends.within_half)) (omega (arith, long, fits_half))))
      (apart_halves shape half (size_of frames) (length (closed_list new)) 1 (omega (arith, index.ends.within_half)) (omega (arith, long, fits_half))) index

  -- while header and list are written
  index_written : (image : List ℕ) → Index shape half frames shut_content → IsStaged (gate_at + 1) 31 list_at
      (length (closed_list new)) shut_content image → Index shape half frames image
  index_written image index staged =
      index_list staged.between image (header_kept shut_content staged.between index shut_now staged.first) staged.second

  long_list : length (closed_list new) ≡ size_of new + 1
  long_list = length-closed_list new

  -- what stands behind the other header's gate once all is written
  abbrev header_written : List ℕ
  header_written = written (gate_at + 1) (header_rest shape (next_of number)) shut_content

  shut_torn : Torn gate_at (length (closing other_shut)) content shut_content
  shut_torn = torn_shut shape half number other_shut frames content rooted

  torn_header : Torn (gate_at + 1) 31 shut_content header_written
  torn_header = written_torn (gate_at + 1) (header_rest shape (next_of number)) shut_content

  torn_list : Torn list_at (length (closed_list new)) header_written behind_content
  torn_list = written_torn list_at (closed_list new) header_written

  list_long : list_at + length (closed_list new) ≤ length behind_content
  list_long = omega (arith, length-written list_at (closed_list new) header_written (omega (arith, long_list)))

  whole_behind : 64 ≤ length behind_content
  whole_behind = omega (arith, rooted.whole, shut_torn.no_shorter, torn_header.no_shorter, torn_list.no_shorter)

  shut_behind : IsShut gate_at behind_content
  shut_behind =
      shut_kept (other half) header_written behind_content list_at (length (closed_list new)) torn_list (omega (arith, within, half_behind shape (other half)))
      (omega (arith, rooted.whole, shut_torn.no_shorter, torn_header.no_shorter))
      (shut_kept (other half) shut_content header_written (gate_at + 1) 31 torn_header (omega arith) (omega (arith, rooted.whole, shut_torn.no_shorter))
      shut_now)

  rest_behind : part (gate_at + 1) 31 behind_content ≡ header_rest shape (next_of number)
  rest_behind =
      part_kept list_at (length (closed_list new)) header_written behind_content (gate_at + 1) 31 torn_list
      (omega (arith, within, rooted.whole, shut_torn.no_shorter, torn_header.no_shorter))
      (below (omega (arith, within, half_behind shape (other half))))
      ∙ part_written (gate_at + 1) (header_rest shape (next_of number)) shut_content

  own_behind : part (header_at half) 26 behind_content ≡ part (header_at half) 26 content
  own_behind =
      part_kept list_at (length (closed_list new)) header_written behind_content (header_at half) 26 torn_list
      (omega (arith, header_within half, rooted.whole, shut_torn.no_shorter, torn_header.no_shorter))
      (below (omega (arith, header_within half, half_behind shape (other half))))
      ∙ part_kept (gate_at + 1) 31 shut_content header_written (header_at half) 26 torn_header
      (omega (arith, header_within half, rooted.whole, shut_torn.no_shorter)) (apart_headers half (gate_at + 1) 31 (omega arith) (omega arith))
      ∙ own_shut shape half number other_shut frames content rooted

  -- where the other header's gate is open, the new list is there
  opened : (image : List ℕ) → Torn gate_at 1 behind_content image → get_or image gate_at 0 ≡ 165
      → Rooted shape (other half) (next_of number) false new image × EndsClosed shape (other half) new image
  opened image torn gate = (
    taken_over shape half number other_shut frames content rooted shape new image small short fits_half whole gate rest own long list,
    taken_ends shape half number other_shut frames content rooted shape new image small short fits_half whole gate rest own long list,
  )
    where
      short : AreShort new
      short = are_short new (omega (arith, half_small shape limits))

      whole : 64 ≤ length image
      whole = omega (arith, whole_behind, torn.no_shorter)

      rest : part (gate_at + 1) 31 image ≡ header_rest shape (next_of number)
      rest = part_kept gate_at 1 behind_content image (gate_at + 1) 31 torn (omega (arith, within, whole_behind)) (above (omega arith)) ∙ rest_behind

      own : part (header_at half) 26 image ≡ part (header_at half) 26 content
      own =
          part_kept gate_at 1 behind_content image (header_at half) 26 torn (omega (arith, header_within half, whole_behind))
          (apart_headers half gate_at 1 (omega arith) (omega arith)) ∙ own_behind

      long : list_at + size_of new + 1 ≤ length image
      long = omega (arith, list_long, long_list, torn.no_shorter)

      list : part list_at (length (closed_list new)) image ≡ closed_list new
      list =
          part_kept gate_at 1 behind_content image list_at (length (closed_list new)) torn list_long
          (above (omega (arith, within, half_behind shape (other half))))
          ∙ part_written list_at (closed_list new) header_written

  -- the slots are as they were
  slots_shut : (image : List ℕ) → Torn gate_at (length (closing other_shut)) content image → KeepsSlots shape None content image
  slots_shut image torn =
      slots_kept shape None content content image gate_at (length (closing other_shut)) torn
      (λ slot is any. clear_header shape gate_at (length (closing other_shut)) slot (omega (arith, within, closing_short other_shut)))
      (slots_same shape None content)

  slots_header : (old image : List ℕ) → KeepsSlots shape None content old → Torn (gate_at + 1) 31 old image → KeepsSlots shape None content image
  slots_header old image slots torn = slots_kept shape None content old image (gate_at + 1) 31 torn
      (λ slot is any. clear_header shape (gate_at + 1) 31 slot (omega (arith, within))) slots

  slots_list : (old image : List ℕ) → KeepsSlots shape None content old → Torn list_at (length (closed_list new)) old image
      → KeepsSlots shape None content image
  slots_list old image slots torn = slots_kept shape None content old image list_at (length (closed_list new)) torn
      (λ slot is any. clear_behind shape (other half) list_at (length (closed_list new)) slot slotted (omega arith) is) slots

  slots_behind : KeepsSlots shape None content behind_content
  slots_behind = slots_list header_written behind_content
      (slots_header shut_content header_written (slots_shut shut_content shut_torn) torn_header) torn_list

  slots_gate : (image : List ℕ) → Torn gate_at 1 behind_content image → KeepsSlots shape None content image
  slots_gate image torn = slots_kept shape None content behind_content image gate_at 1 torn
      (λ slot is any. clear_header shape gate_at 1 slot (omega (arith, within))) slots_behind

  -- the moments of a rewrite: while the other header's gate is shut, and afterwards
  pub rewrite_first : Index shape half frames content → (image : List ℕ) → Torn gate_at (length (closing other_shut)) content image
      → Lists shape frames None content image ⊎ ListsWith shape new None content image
  rewrite_first index image torn = inl (record {
    opens = index_opens shape half frames image (closed image index torn);
    slots = slots_shut image torn;
  })

  -- before it is opened again
  pub rewrite_before : Index shape half frames content → (image : List ℕ)
      → IsShutFirst gate_at (closing other_shut) (header_rest shape (next_of number)) list_at (closed_list new) content image
      → Lists shape frames None content image
  rewrite_before index image (inl torn) =
      record { opens = index_opens shape half frames image (closed image index torn); slots = slots_shut image torn }
  rewrite_before index image (inr staged) = record {
    opens = index_opens shape half frames image (index_written image (closed shut_content index shut_torn) staged);
    slots = slots_list staged.between image (slots_header shut_content staged.between (slots_shut shut_content shut_torn) staged.first) staged.second;
  }

  pub rewrite_then : Index shape half frames content → (image : List ℕ) → IsBothGated (gate_at + 1) (header_rest shape (next_of number)) list_at
      (closed_list new) gate_at shut_content image
      → Lists shape frames None content image ⊎ ListsWith shape new None content image
  rewrite_then index image (inl staged) = inl (record {
    opens = index_opens shape half frames image (index_written image (closed shut_content index shut_torn) staged);
    slots = slots_list staged.between image (slots_header shut_content staged.between (slots_shut shut_content shut_torn) staged.first) staged.second;
  })
  rewrite_then index image (inr torn) = elim (cases_eq (get_or image gate_at 0) 165) [
    | inl is_open ↦
        let now = opened image torn is_open in
        inr (record {
          opens = index_opens shape (other half) new image
              (record { whole = now.0.whole; in_force = now.0.in_force; short = now.0.short; stands = now.0.stands; ends = now.1 });
          stands = tt;
          slots = slots_gate image torn;
        })
    | inr shut ↦
        let before = index_list header_written behind_content (header_kept shut_content header_written (closed shut_content index shut_torn)
        shut_now torn_header) torn_list in
        inl (record {
          opens = index_opens shape half frames image
              (index_unopened shape half number other_shut frames content rooted behind_content image before shut torn);
          slots = slots_gate image torn;
        })
  ]

  -- and the content at its end
  torn_gate : Torn gate_at 1 behind_content rewritten
  torn_gate = written_torn gate_at (165 ∷ []) behind_content

  gate_open : get_or rewritten gate_at 0 ≡ 165
  gate_open =
      let same : gate_at ≡ gate_at + 0 = omega arith in
      ap (λ (i : ℕ). get_or rewritten i 0) same ∙ written_get gate_at (165 ∷ []) behind_content 0 (omega arith)

  pub rewritten_laid : Laid shape (other half) (next_of number) false new true rewritten
  rewritten_laid =
      let now = opened rewritten torn_gate gate_open in
      laid_of shape (other half) (next_of number) false new rewritten now.0 now.1

  pub rewrite_after : ListsWith shape new None content rewritten
  rewrite_after = record {
    opens = laid_opens shape (other half) (next_of number) false new true rewritten rewritten_laid;
    stands = tt;
    slots = slots_gate rewritten torn_gate;
  }
