-- The other header, which is shut, written and opened: until then an image is read as it was, and then by the other half.
use Rattle.std.proofs.Common.{◌≡◌, inl, inr, ℕ, ◌+◌, ◌-◌, ◌^◌, ◌<◌, ◌≤◌, Bool, true, false, List, [], ◌∷◌, length, get_or, refl, sym, ◌∙◌, ap, subst, arith, length-append}
use Rattle.std.proofs.lemmas.Bool.{cases_eq}
use Rattle.std.proofs.lemmas.List.{take_at}
use Rattle.std.proofs.Math.Seq.{get_or-append_right}
use Rattle.fab_disk.specs.Disk.{Torn, written}
use Rattle.fab_disk.proofs.Writes.{written_torn}
use Rattle.frame_store.specs.declared.frames.Frame.{Frame}
use Rattle.frame_store.specs.declared.shapes.Form.{Form}
use Rattle.frame_store.specs.declared.shapes.Shape.{Shape}
use Rattle.frame_store.specs.declared.shapes.Half.{Half}
use Rattle.frame_store.specs.declared.shapes.Half.TheVariants.{A, B}
use Rattle.frame_store.specs.Layouts.{formed, header_at, half_at, half_size, header_rest}
use Rattle.frame_store.specs.Listed.{spelled, size_of, closed_list, AreShort}
use Rattle.frame_store.specs.Laid.{other}
use Rattle.frame_store.specs.Images.{part, IsOpen, InForce, IsLater, IsShut, EndsClosed, generation_at}
use Rattle.frame_store.specs.Steps.{closing, next_of}
use Rattle.frame_store.proofs.Parts.{IsClear, below, above, unwritten, part_get, part_kept, same_part, byte_kept, part_of_part, written_get}
use Rattle.frame_store.proofs.Listing.{length-spelled}
use Rattle.frame_store.proofs.Headers.{header_within, gate_of_open, shut_is_not_open, generation_kept, header_is_open, header_generation, next_is_later, not_later_than_next}
use Rattle.frame_store.proofs.Indexes.{Index, index_kept_header}
use Rattle.frame_store.proofs.Appending.{Rooted}

pub length-closed_list : (frames : List Frame) → length (closed_list frames) ≡ size_of frames + 1
length-closed_list frames = omega (arith, length-append (spelled frames) (0 ∷ []), length-spelled frames)

-- a list and its closed gate, found where they were written
pub closed_list_stands : (at : ℕ) (frames : List Frame) (image : List ℕ) → at + size_of frames + 1 ≤ length image
    → part at (length (closed_list frames)) image ≡ closed_list frames
    → part at (size_of frames) image ≡ spelled frames
closed_list_stands at frames image fits line =
    let long = length-closed_list frames in
    sym (part_of_part at (length (closed_list frames)) 0 (size_of frames) at image (omega (arith, long)) (omega (arith, long)) (omega arith))
    ∙ ap (part 0 (size_of frames)) line ∙ take_at (spelled frames) (0 ∷ []) (size_of frames) (length-spelled frames)

pub closed_list_ends : (shape : Shape) (half : Half) (frames : List Frame) (image : List ℕ) → half_at shape half + size_of frames + 1 ≤ length image
    → size_of frames + 1 ≤ half_size shape → part (half_at shape half) (length (closed_list frames)) image ≡ closed_list frames
    → EndsClosed shape half frames image
closed_list_ends shape half frames image fits within line =
    let long = length-closed_list frames in
    let gate : get_or image (half_at shape half + size_of frames) 0 ≡ 0 =
    sym (part_get (half_at shape half) (length (closed_list frames)) image (size_of frames) (omega (arith, long)))
    ∙ ap (λ (l : List ℕ). get_or l (size_of frames) 0) line ∙ last in
    record {
      within_half = omega arith;
      within_file = omega arith;
      shut = λ is_open. let clash : 0 ≡ 165 = sym gate ∙ is_open in omega (arith, clash);
    }
  where
    last : get_or (closed_list frames) (size_of frames) 0 ≡ 0
    last =
        let none : size_of frames - length (spelled frames) ≡ 0 = omega (arith, length-spelled frames) in
        get_or-append_right (spelled frames) (0 ∷ []) (size_of frames) 0 (omega (arith, length-spelled frames))
        ∙ ap (λ (i : ℕ). get_or (0 ∷ []) i 0) none

-- the half whose header is a generation ahead is the one that an image is read by
pub takes_over : (shape : Shape) (half : Half) (number : ℕ) (image : List ℕ) → number < 2 ^ 64 → IsOpen shape (other half) image
    → generation_at (other half) image ≡ next_of number
    → ((form : Form) → IsOpen (formed form shape) half image → generation_at half image ≡ number) → InForce shape (other half) image
takes_over shape A number image small is next was = (is, λ form first. later (was form first))
  where
    later : generation_at A image ≡ number → IsLater (generation_at A image) (generation_at B image)
    later same = subst (λ (g : ℕ). IsLater g (generation_at B image)) (sym same)
        (subst (λ (g : ℕ). IsLater number g) (sym next) (next_is_later number small))
takes_over shape B number image small is next was = (is, λ form second later. not_later (was form second) later)
  where
    not_later : generation_at B image ≡ number → IsLater (generation_at A image) (generation_at B image) → ⊥
    not_later same later = not_later_than_next number small
        (subst (λ (g : ℕ). IsLater g number) next (subst (λ (g : ℕ). IsLater (generation_at A image) g) same later))

other_other : (half : Half) → other (other half) ≡ half
other_other A = refl
other_other B = refl

-- the other header does not lie in one's own
pub apart_headers : (half : Half) (from k : ℕ) → header_at (other half) ≤ from → from + k ≤ header_at (other half) + 32
    → IsClear from k (header_at half) 26
apart_headers A from k low high = below (omega arith)
apart_headers B from k low high = above (omega arith)

-- what shuts a gate is a byte at most
pub closing_short : (b : Bool) → length (closing b) ≤ 1
closing_short true = omega arith
closing_short false = omega arith

-- a write behind a shut gate leaves it so
pub shut_kept : (half : Half) (old image : List ℕ) (from k : ℕ) → Torn from k old image → header_at half < from → 64 ≤ length old
    → IsShut (header_at half) old → IsShut (header_at half) image
shut_kept half old image from k torn behind whole shut is_open =
    shut (sym (byte_kept from k old image (header_at half) torn (omega (arith, header_within half)) (below (omega arith))) ∙ is_open)

module _ (shape : Shape) (half : Half) (number : ℕ) (other_shut : Bool) (frames : List Frame) (content : List ℕ)
    (rooted : Rooted shape half number other_shut frames content) where
  abbrev pub gate_at : ℕ
  gate_at = header_at (other half)

  -- the content once the other header's gate is shut
  abbrev pub shut_content : List ℕ
  shut_content = written gate_at (closing other_shut) content

  within : gate_at + 32 ≤ 64
  within = header_within (other half)

  -- while the gate is being shut, an open one was open before
  same_header : (b : Bool) → b ≡ other_shut → (image : List ℕ) → Torn gate_at (length (closing b)) content image
      → (form : Form) → IsOpen (formed form shape) (other half) image
      → part gate_at 26 image ≡ part gate_at 26 content
  same_header true is image torn form is_open = part_kept gate_at 0 content image gate_at 26 torn (omega (arith, within, rooted.whole)) (unwritten refl)
  same_header false is image torn form is_open =
      same_part gate_at 26 content image (omega (arith, within, rooted.whole)) (omega (arith, within, is_open.whole))
      (λ i low high. place i (omega (arith, within, rooted.whole)) low)
    where
      place : (i : ℕ) → i < length content → gate_at ≤ i → get_or image i 0 ≡ get_or content i 0
      place i lt low = elim (cases_eq i gate_at) [
        | inl here ↦ ap (λ (j : ℕ). get_or image j 0) here ∙ gate_of_open (formed form shape) (other half) image is_open ∙ sym (rooted.unshut (sym is)) ∙ ap (λ (j : ℕ). get_or content j 0) (sym here)
        | inr further ↦ byte_kept gate_at 1 content image i torn lt (above (omega arith))
      ]

  pub index_closing : (image : List ℕ) → Index shape half frames content → Torn gate_at (length (closing other_shut)) content image
      → Index shape half frames image
  index_closing image index torn =
      index_kept_header shape half frames content image gate_at (length (closing other_shut)) torn (omega arith)
      (omega (arith, closing_short other_shut)) (same_header other_shut refl image torn) index

  -- then it is shut
  shut_by : (b : Bool) → b ≡ other_shut → IsShut gate_at (written gate_at (closing b) content)
  shut_by true is = rooted.shut (sym is)
  shut_by false is = λ is_open.
      let same : gate_at ≡ gate_at + 0 = omega arith in
      let gate : get_or (written gate_at (0 ∷ []) content) gate_at 0 ≡ 0 = ap (λ (i : ℕ). get_or (written gate_at (0 ∷ []) content) i 0) same
      ∙ written_get gate_at (0 ∷ []) content 0 (omega arith) in
      let clash : 0 ≡ 165 = sym gate ∙ is_open in
      omega (arith, clash)

  pub is_shut : IsShut gate_at shut_content
  is_shut = shut_by other_shut refl

  pub torn_shut : Torn gate_at (length (closing other_shut)) content shut_content
  torn_shut = written_torn gate_at (closing other_shut) content

  -- one's own header is not written
  pub own_shut : part (header_at half) 26 shut_content ≡ part (header_at half) 26 content
  own_shut =
      part_kept gate_at (length (closing other_shut)) content shut_content (header_at half) 26 torn_shut
      (omega (arith, header_within half, rooted.whole)) (apart_headers half gate_at (length (closing other_shut)) (omega arith)
      (omega (arith, closing_short other_shut)))

  -- while the header behind a shut gate is written
  pub index_header : (old image : List ℕ) → Index shape half frames old → IsShut gate_at old → Torn (gate_at + 1) 31 old image
      → Index shape half frames image
  index_header old image index shut torn =
      index_kept_header shape half frames old image (gate_at + 1) 31 torn (omega arith) (omega arith)
      (λ form is_open. absurd (shut_is_not_open (formed form shape) (other half) image
      (shut_kept (other half) old image (gate_at + 1) 31 torn (omega arith) index.whole shut) is_open)) index

  -- and while its gate is opened, where that is not done
  pub index_unopened : (old image : List ℕ) → Index shape half frames old → IsShut gate_at image → Torn gate_at 1 old image → Index shape half frames image
  index_unopened old image index shut torn =
      index_kept_header shape half frames old image gate_at 1 torn (omega arith) (omega arith)
      (λ form is_open. absurd (shut_is_not_open (formed form shape) (other half) image shut is_open)) index

  -- Where the other header's gate is open, an image is read by the other half, in the form that the header tells.
  module _ (to : Shape) (new : List Frame) (image : List ℕ) (small : number < 2 ^ 64) (short : AreShort new) (fits : size_of new + 1 ≤ half_size to)
      (whole : 64 ≤ length image) (gate : get_or image gate_at 0 ≡ 165) (rest : part (gate_at + 1) 31 image ≡ header_rest to (next_of number))
      (own : part (header_at half) 26 image ≡ part (header_at half) 26 content) (long : half_at to (other half) + size_of new + 1 ≤ length image)
      (list : part (half_at to (other half)) (length (closed_list new)) image ≡ closed_list new) where
    own_open : (half : Half) → InForce shape half content → IsOpen shape half content
    own_open A (is, rest) = is
    own_open B (is, rest) = is

    own_gate : get_or image (header_at (other (other half))) 0 ≡ 165
    own_gate =
        let same : header_at half ≡ header_at half + 0 = omega arith in
        ap (λ (h : Half). get_or image (header_at h) 0) (other_other half)
        ∙ ap (λ (i : ℕ). get_or image i 0) same ∙ sym (part_get (header_at half) 26 image 0 (omega arith)) ∙ ap (λ (l : List ℕ). get_or l 0 0) own
        ∙ part_get (header_at half) 26 content 0 (omega arith) ∙ ap (λ (i : ℕ). get_or content i 0) (sym same)
        ∙ gate_of_open shape half content (own_open half rooted.in_force)

    generation : generation_at half image ≡ number
    generation = generation_kept shape half content image rooted.whole whole own ∙ rooted.generation

    next : generation_at (other half) image ≡ next_of number
    next = header_generation to (other half) (next_of number) image whole gate rest (omega arith)

    pub taken_over : Rooted to (other half) (next_of number) false new image
    taken_over = record {
      whole = whole;
      in_force = takes_over to half number image small (header_is_open to (other half) (next_of number) image whole gate rest) next
          (λ form first. generation);
      generation = next;
      short = short;
      stands = closed_list_stands (half_at to (other half)) new image long list;
      shut = λ is. absurd cc;
      unshut = λ is. own_gate;
    }

    pub taken_ends : EndsClosed to (other half) new image
    taken_ends = closed_list_ends to (other half) new image long fits list
