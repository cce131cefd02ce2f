-- A disk after a format.
use Rattle.std.proofs.Common.{◌≡◌, ℕ, ◌+◌, ◌<◌, ◌≤◌, true, false, List, [], ◌∷◌, ◌++◌, length, get_or, refl, sym, ◌∙◌, ap, arith}
use Rattle.fab_disk.specs.Disk.{written}
use Rattle.fab_disk.proofs.Writes.{written_torn}
use Rattle.frame_store.specs.declared.shapes.Shape.{Shape}
use Rattle.frame_store.specs.declared.shapes.Half.TheVariants.{A, B}
use Rattle.frame_store.specs.Layouts.{formed, is_old, header_rest, half_at}
use Rattle.frame_store.specs.Images.{part, OpensAs, HasSlot}
use Rattle.frame_store.specs.Steps.{both_written}
use Rattle.frame_store.proofs.Parts.{below, above, part_get, part_kept, byte_kept, part_of_part, part_written, written_get, length-written}
use Rattle.frame_store.proofs.Headers.{header_is_open, shut_is_not_open}
use Rattle.frame_store.proofs.Indexes.{index_opens}
use Rattle.frame_store.proofs.Slots.{half_behind, half_some, slot_before_half}

-- both headers, their gates shut
abbrev pub shut_pair : Shape → List ℕ
shut_pair shape = (0 ∷ header_rest shape 1) ++ (0 ∷ header_rest shape 0)

-- the content after a format of this one
abbrev pub formatted : Shape → List ℕ → List ℕ
formatted shape content = written 0 (165 ∷ []) (both_written 0 (shut_pair shape) (half_at shape A) (0 ∷ []) content)

module _ (shape : Shape) (content : List ℕ) where
  behind : 64 ≤ half_at shape A
  behind = half_behind shape A

  size_first : 64 ≤ length (written 0 (shut_pair shape) content)
  size_first = omega (arith, length-written 0 (shut_pair shape) content (omega arith))

  size_second : half_at shape A + 1 ≤ length (both_written 0 (shut_pair shape) (half_at shape A) (0 ∷ []) content)
  size_second = omega (arith, length-written (half_at shape A) (0 ∷ []) (written 0 (shut_pair shape) content) (omega arith))

  pub size_last : half_at shape A + 1 ≤ length (formatted shape content)
  size_last = omega (arith, size_second, (written_torn 0 (165 ∷ []) (both_written 0 (shut_pair shape) (half_at shape A) (0 ∷ []) content)).no_shorter)

  -- the headers but for the first gate
  pair_second : part 1 63 (both_written 0 (shut_pair shape) (half_at shape A) (0 ∷ []) content) ≡ header_rest shape 1 ++ (0 ∷ header_rest shape 0)
  pair_second =
      part_kept (half_at shape A) 1 (written 0 (shut_pair shape) content) (both_written 0 (shut_pair shape) (half_at shape A) (0 ∷ []) content) 1 63
      (written_torn (half_at shape A) (0 ∷ []) (written 0 (shut_pair shape) content)) (omega (arith, size_first)) (below (omega (arith, behind)))
      ∙ sym (part_of_part 0 64 1 63 1 (written 0 (shut_pair shape) content) (omega arith) (omega (arith, size_first)) refl)
      ∙ ap (part 1 63) (part_written 0 (shut_pair shape) content)

  pair_last : part 1 63 (formatted shape content) ≡ header_rest shape 1 ++ (0 ∷ header_rest shape 0)
  pair_last =
      part_kept 0 1 (both_written 0 (shut_pair shape) (half_at shape A) (0 ∷ []) content) (formatted shape content) 1 63
      (written_torn 0 (165 ∷ []) (both_written 0 (shut_pair shape) (half_at shape A) (0 ∷ []) content)) (omega (arith, size_second, behind))
      (above (omega arith))
      ∙ pair_second

  rest_last : part 1 31 (formatted shape content) ≡ header_rest shape 1
  rest_last = sym (part_of_part 1 63 0 31 1 (formatted shape content) (omega arith) (omega (arith, size_last, behind)) refl) ∙ ap (part 0 31) pair_last

  gate_last : get_or (formatted shape content) 0 0 ≡ 165
  gate_last = written_get 0 (165 ∷ []) (both_written 0 (shut_pair shape) (half_at shape A) (0 ∷ []) content) 0 (omega arith)

  other_last : get_or (formatted shape content) 32 0 ≡ 0
  other_last = sym (part_get 1 63 (formatted shape content) 31 (omega arith)) ∙ ap (λ (l : List ℕ). get_or l 31 0) pair_last

  list_last : get_or (formatted shape content) (half_at shape A + 0) 0 ≡ 0
  list_last =
      byte_kept 0 1 (both_written 0 (shut_pair shape) (half_at shape A) (0 ∷ []) content) (formatted shape content) (half_at shape A + 0)
      (written_torn 0 (165 ∷ []) (both_written 0 (shut_pair shape) (half_at shape A) (0 ∷ []) content)) (omega (arith, size_second))
      (above (omega (arith, behind)))
      ∙ written_get (half_at shape A) (0 ∷ []) (written 0 (shut_pair shape) content) 0 (omega arith)

  -- it opens as a store with no frames
  pub formatted_opens : OpensAs shape [] true (formatted shape content)
  formatted_opens = index_opens shape A [] (formatted shape content) (record {
    whole = omega (arith, size_last, behind);
    in_force = (
      header_is_open shape A 1 (formatted shape content) (omega (arith, size_last, behind)) gate_last rest_last,
      λ form is later. shut_is_not_open (formed form shape) B (formatted shape content) (λ gate. let clash : 0 ≡ 165 = sym other_last ∙ gate in omega (arith, clash)) is,
    );
    short = tt;
    stands = refl;
    ends = record {
      within_half = half_some shape;
      within_file = omega (arith, size_last);
      shut = λ gate. let clash : 0 ≡ 165 = sym list_last ∙ gate in omega (arith, clash);
    };
  })

  -- with all its slots
  pub formatted_slots : is_old shape ≡ false → (slot : ℕ) → slot < shape.records → HasSlot shape (length (formatted shape content)) slot
  formatted_slots slotted slot is = record { is_slot = is; inside = omega (arith, slot_before_half shape A slot slotted is, size_last) }
