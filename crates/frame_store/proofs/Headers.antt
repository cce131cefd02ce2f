-- Which headers are open, and by which half an image is read.
use Rattle.std.proofs.Common.{◌≡◌, ℕ, ◌+◌, ◌^◌, ◌%◌, ◌<◌, ◌≤◌, List, ◌∷◌, ◌++◌, length, get_or, take, replicate, refl, sym, ◌∙◌, ap, subst, arith}
use Rattle.std.proofs.lemmas.List.{take_at, drop_at}
use Rattle.std.proofs.lemmas.Nat.{from_be_bytes-to_be_bytes_8}
use Rattle.std.specs.Int.{w64, to_be_bytes, from_be_bytes}
use Rattle.frame_store.specs.declared.shapes.Shape.{Shape}
use Rattle.frame_store.specs.declared.shapes.Form.{Form}
use Rattle.frame_store.specs.declared.shapes.Form.TheVariants.{Old, New, Moved}
use Rattle.frame_store.specs.declared.shapes.Half.{Half}
use Rattle.frame_store.specs.declared.shapes.Half.TheVariants.{A, B}
use Rattle.frame_store.specs.Layouts.{formed, header_at, format_of, place_of, identity, header_rest}
use Rattle.frame_store.specs.Laid.{other, IsRenewed}
use Rattle.frame_store.specs.Steps.{next_of}
use Rattle.frame_store.specs.Images.{part, Tells, IsOpen, InForce, IsLater, IsShut, generation_at}
use Rattle.frame_store.proofs.Parts.{part_get, part_of_part, part_join, part_one}

-- both headers lie in the first 64 bytes
pub header_within : (half : Half) → header_at half + 32 ≤ 64
header_within A = omega arith
header_within B = omega arith

-- the gate of an open header is
pub gate_of_open : (shape : Shape) (half : Half) (image : List ℕ) → IsOpen shape half image → get_or image (header_at half) 0 ≡ 165
gate_of_open shape half image is =
    let same : header_at half ≡ header_at half + 0 = omega arith in
    ap (λ (i : ℕ). get_or image i 0) same ∙ sym (part_get (header_at half) 17 image 0 (omega arith)) ∙ ap (λ (l : List ℕ). get_or l 0 0) is.front

-- a header whose gate is not open is not
pub shut_is_not_open : (shape : Shape) (half : Half) (image : List ℕ) → IsShut (header_at half) image → IsOpen shape half image → ⊥
shut_is_not_open shape half image shut is = shut (gate_of_open shape half image is)

-- the parts of a header that are looked at are those of its first 26 bytes
front_of : (half : Half) (image : List ℕ) → 64 ≤ length image → part 0 17 (part (header_at half) 26 image) ≡ part (header_at half) 17 image
front_of half image whole = part_of_part (header_at half) 26 0 17 (header_at half) image (omega arith) (omega (arith, header_within half))
    (omega arith)

number_of : (half : Half) (image : List ℕ) → 64 ≤ length image → part 17 8 (part (header_at half) 26 image) ≡ part (header_at half + 17) 8 image
number_of half image whole = part_of_part (header_at half) 26 17 8 (header_at half + 17) image (omega arith) (omega (arith, header_within half)) refl

place_byte : (half : Half) (image : List ℕ) → get_or (part (header_at half) 26 image) 25 0 ≡ get_or image (header_at half + 25) 0
place_byte half image = part_get (header_at half) 26 image 25 (omega arith)

module _ (shape : Shape) (half : Half) (old new : List ℕ) (whole_old : 64 ≤ length old) (whole_new : 64 ≤ length new)
    (same : part (header_at half) 26 new ≡ part (header_at half) 26 old) where
  same_place : get_or new (header_at half + 25) 0 ≡ get_or old (header_at half + 25) 0
  same_place = sym (place_byte half new) ∙ ap (λ (l : List ℕ). get_or l 25 0) same ∙ place_byte half old

  -- a header with the same bytes is as open, and of the same generation
  pub open_kept : IsOpen shape half old → IsOpen shape half new
  open_kept is = record {
    whole = whole_new;
    front = sym (front_of half new whole_new) ∙ ap (part 0 17) same ∙ front_of half old whole_old
        ∙ is.front;
    place = subst (Tells shape.form) (sym same_place) is.place;
  }

  pub open_back : IsOpen shape half new → IsOpen shape half old
  open_back is = record {
    whole = whole_old;
    front = sym (front_of half old whole_old) ∙ ap (part 0 17) (sym same) ∙ front_of half new whole_new
        ∙ is.front;
    place = subst (Tells shape.form) same_place is.place;
  }

  pub generation_kept : generation_at half new ≡ generation_at half old
  generation_kept = ap (from_be_bytes w64) (sym (number_of half new whole_new) ∙ ap (part 17 8) same ∙ number_of half old whole_old)

-- An image is read by the half that it was read by, where that one's header is the same, and the other's is the same or not open.
pub in_force_kept : (shape : Shape) (half : Half) (old new : List ℕ) → 64 ≤ length old → 64 ≤ length new
    → part (header_at half) 26 new ≡ part (header_at half) 26 old
    → ((form : Form) → IsOpen (formed form shape) (other half) new → part (header_at (other half)) 26 new ≡ part (header_at (other half)) 26 old)
    → InForce shape half old → InForce shape half new
in_force_kept shape A old new whole_old whole_new same same_other (is, not_later) = (
  open_kept shape A old new whole_old whole_new same is,
  λ form second later.
      let same_second = same_other form second in
      not_later form (open_back (formed form shape) B old new whole_old whole_new same_second second)
      (subst (λ (g : ℕ). IsLater (generation_at A old) g) (generation_kept shape B old new whole_old whole_new same_second)
      (subst (λ (g : ℕ). IsLater g (generation_at B new)) (generation_kept shape A old new whole_old whole_new same) later)),
)
in_force_kept shape B old new whole_old whole_new same same_other (is, later) = (
  open_kept shape B old new whole_old whole_new same is,
  λ form first.
      let same_first = same_other form first in
      subst (λ (g : ℕ). IsLater (generation_at A new) g) (sym (generation_kept shape B old new whole_old whole_new same))
      (subst (λ (g : ℕ). IsLater g (generation_at B old)) (sym (generation_kept shape A old new whole_old whole_new same_first))
      (later form (open_back (formed form shape) A old new whole_old whole_new same_first first))),
)

-- the place byte of a form is one of that form
tells_own : (form : Form) → Tells form (place_of form)
tells_own Old = tt
tells_own New = λ is. absurd cc
tells_own Moved = refl

-- an open gate before the rest of a header
module _ (shape : Shape) (half : Half) (number : ℕ) (image : List ℕ) (whole : 64 ≤ length image) (gate : get_or image (header_at half) 0 ≡ 165)
    (rest : part (header_at half + 1) 31 image ≡ header_rest shape number) where
  identity_there : part (header_at half + 1) 16 image ≡ identity shape
  identity_there =
      sym (part_of_part (header_at half + 1) 31 0 16 (header_at half + 1) image (omega arith) (omega (arith, header_within half)) (omega arith))
      ∙ ap (part 0 16) rest ∙ take_at (identity shape) (to_be_bytes w64 number ++ (place_of shape.form ∷ replicate 6 0)) 16 refl

  place_there : get_or image (header_at half + 25) 0 ≡ place_of shape.form
  place_there =
      let same : header_at half + 25 ≡ header_at half + 1 + 24 = omega arith in
      ap (λ (i : ℕ). get_or image i 0) same ∙ sym (part_get (header_at half + 1) 31 image 24 (omega arith)) ∙ ap (λ (l : List ℕ). get_or l 24 0) rest

  pub header_is_open : IsOpen shape half image
  header_is_open = record {
    whole = whole;
    front = part_join (header_at half) 1 16 (header_at half + 1) image (omega (arith, header_within half)) refl
        ∙ ap (λ (l : List ℕ). l ++ part (header_at half + 1) 16 image) (part_one (header_at half) image (omega (arith, header_within half)))
        ∙ ap (λ (g : ℕ). g ∷ part (header_at half + 1) 16 image) gate ∙ ap (λ (l : List ℕ). 165 ∷ l) identity_there;
    place = subst (Tells shape.form) (sym place_there) (tells_own shape.form);
  }

  pub header_generation : number < 2 ^ 64 → generation_at half image ≡ number
  header_generation small =
      let bytes : part (header_at half + 17) 8 image ≡ to_be_bytes w64 number =
      sym (part_of_part (header_at half + 1) 31 16 8 (header_at half + 17) image (omega arith) (omega (arith, header_within half)) (omega arith))
      ∙ ap (part 16 8) rest ∙ number_bytes in
      ap (from_be_bytes w64) bytes ∙ from_be_bytes-to_be_bytes_8 number small
    where
      number_bytes : part 16 8 (header_rest shape number) ≡ to_be_bytes w64 number
      number_bytes = ap (take 8) (drop_at (identity shape) (to_be_bytes w64 number ++ (place_of shape.form ∷ replicate 6 0)) 16 refl) ∙ take_at (to_be_bytes w64 number)
          (place_of shape.form ∷ replicate 6 0) 8 refl

-- the generation after another is later, and the other is not
pub next_is_later : (g : ℕ) → g < 2 ^ 64 → IsLater g ((g + 1) % 2 ^ 64)
next_is_later g small = record { ahead_some = omega arith; ahead_less = omega arith }

pub not_later_than_next : (g : ℕ) → g < 2 ^ 64 → IsLater ((g + 1) % 2 ^ 64) g → ⊥
not_later_than_next g small later = omega (arith, later.ahead_less)

-- an image is read by one half
one_half : (shape : Shape) (image : List ℕ) → InForce shape A image → InForce shape B image → ⊥
one_half shape image first second = first.1 shape.form second.0 (second.1 shape.form first.0)

-- an image that is read by the other half, one generation later
pub renewed : (shape : Shape) (half : Half) (number : ℕ) (old new : List ℕ) → InForce shape half old → generation_at half old ≡ number
    → InForce shape (other half) new → generation_at (other half) new ≡ next_of number → IsRenewed shape old new
renewed shape A number old new was number_was now number_now A force = (now, number_now ∙ ap next_of (sym number_was))
renewed shape A number old new was number_was now number_now B force = absurd (one_half shape old was force)
renewed shape B number old new was number_was now number_now A force = absurd (one_half shape old force was)
renewed shape B number old new was number_was now number_now B force = (now, number_now ∙ ap next_of (sym number_was))

-- An open header is of one form: its format and its place byte tell which.
format_at : (shape : Shape) (half : Half) (image : List ℕ) → IsOpen shape half image → get_or (part (header_at half) 17 image) 8 0 ≡ format_of shape.form
format_at shape half image is = ap (λ (l : List ℕ). get_or l 8 0) is.front

pub form_once : (shape : Shape) (f g : Form) (half : Half) (image : List ℕ) → IsOpen (formed f shape) half image → IsOpen (formed g shape) half image
    → f ≡ g
form_once shape f g half image first second =
    each f g (sym (format_at (formed f shape) half image first) ∙ format_at (formed g shape) half image second) first.place second.place
  where
    each : (x y : Form) → format_of x ≡ format_of y → Tells x (get_or image (header_at half + 25) 0) → Tells y (get_or image (header_at half + 25) 0) → x ≡ y
    each Old Old same a b = refl
    each Old New same a b = absurd cc
    each Old Moved same a b = absurd cc
    each New Old same a b = absurd cc
    each New New same a b = refl
    each New Moved same a b = absurd (a b)
    each Moved Old same a b = absurd cc
    each Moved New same a b = absurd (b a)
    each Moved Moved same a b = refl
