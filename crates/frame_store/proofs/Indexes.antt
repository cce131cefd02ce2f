-- The list of frames in the half by which an image is read.
use Rattle.std.proofs.Common.{◌≡◌, ℕ, ◌+◌, ◌^◌, ◌<◌, ◌≤◌, true, List, ◌∷◌, ◌++◌, length, get_or, take, drop, refl, sym, ◌∙◌, ap, arith, length-take, length-drop, take-append-drop}
use Rattle.std.proofs.lemmas.Grind.{same_number_lists}
use Rattle.std.proofs.lemmas.List.{places, drop_more}
use Rattle.fab_disk.specs.Disk.{Torn}
use Rattle.frame_store.specs.declared.frames.Frame.{Frame}
use Rattle.frame_store.specs.declared.shapes.Shape.{Shape}
use Rattle.frame_store.specs.declared.shapes.Form.{Form}
use Rattle.frame_store.specs.declared.shapes.Half.{Half}
use Rattle.frame_store.specs.declared.shapes.Half.TheVariants.{A, B}
use Rattle.frame_store.specs.Layouts.{IsShape, formed, header_at, half_at, half_size, index_half_size}
use Rattle.frame_store.specs.Listed.{spelled, size_of, AreShort, frames_of}
use Rattle.frame_store.specs.Laid.{other}
use Rattle.frame_store.specs.Images.{part, IsOpen, InForce, EndsClosed, OpensAs, half_bytes}
use Rattle.frame_store.proofs.Parts.{IsClear, below, above, part_get, part_kept, byte_kept}
use Rattle.frame_store.proofs.Listing.{frames_of-spelled}
use Rattle.frame_store.proofs.Headers.{header_within, in_force_kept}
use Rattle.frame_store.proofs.Slots.{half_behind}

-- An image is read by this half and holds these frames there, with a closed gate after them.
pub record Index (shape : Shape) (half : Half) (frames : List Frame) (image : List ℕ) : Type 0 where
  pub whole : 64 ≤ length image
  pub in_force : InForce shape half image
  pub short : AreShort frames
  pub stands : part (half_at shape half) (size_of frames) image ≡ spelled frames
  pub ends : EndsClosed shape half frames image

-- a half of the index is small
pub half_small : (shape : Shape) → IsShape shape → index_half_size shape < 2 ^ 32
half_small shape limits = omega (arith, limits.few_slots)

-- the frames and the closed gate, in the half's bytes
half_split : (at size : ℕ) (length_of : ℕ) (image : List ℕ) → length_of < size → at + length_of < length image
    → part at size image ≡ part at length_of image ++ get_or image (at + length_of) 0 ∷ drop (length_of + 1) (part at size image)
half_split at size n image within inside =
    let long : n < length (part at size image) = omega (arith, length-take size (drop at image), length-drop at image) in
    let front : take n (part at size image) ≡ part at n image = take_twice n size (drop at image) (omega arith) in
    let gate : get_or (part at size image) n 0 ≡ get_or image (at + n) 0 = part_get at size image n within in
    sym (take-append-drop n (part at size image))
    ∙ ap (λ (l : List ℕ). l ++ drop n (part at size image)) front
    ∙ ap (λ (l : List ℕ). part at n image ++ l) (drop_more (part at size image) n 0 long)
    ∙ ap (λ (g : ℕ). part at n image ++ g ∷ drop (n + 1) (part at size image)) gate
  where
    take_twice : (n m : ℕ) (l : List ℕ) → n ≤ m → take n (take m l) ≡ take n l
    take_twice n m l le = same_number_lists (take n (take m l)) (take n l) (omega (arith, length-take n (take m l), length-take m l, length-take n l))
        (λ k lt. grind (arith, places))

-- what is read of a half with a closed gate after its frames
pub listed_closed : (shape : Shape) (half : Half) (frames : List Frame) (image : List ℕ) → AreShort frames
    → part (half_at shape half) (size_of frames) image ≡ spelled frames
    → EndsClosed shape half frames image → frames_of (half_bytes shape half image) ≡ frames
listed_closed shape half frames image short stands ends =
    let at = half_at shape half in
    let gate = get_or image (at + size_of frames) 0 in
    let rest = drop (size_of frames + 1) (part at (half_size shape) image) in
    let split : half_bytes shape half image ≡ spelled frames ++ gate ∷ rest =
    half_split at (half_size shape) (size_of frames) image ends.within_half ends.within_file ∙ ap (λ (l : List ℕ). l ++ gate ∷ rest) stands in
    ap frames_of split ∙ frames_of-spelled frames gate rest short ends.shut

pub index_opens : (shape : Shape) (half : Half) (frames : List Frame) (image : List ℕ) → Index shape half frames image → OpensAs shape frames true image
index_opens shape half frames image index = record {
  half = half;
  in_force = index.in_force;
  listed = listed_closed shape half frames image index.short index.stands index.ends;
  ended = λ is. index.ends;
  not_ended = λ ends. refl;
}

-- what a write keeps of a list, if it leaves the half's frames and the gate after them alone
pub ends_kept : (shape : Shape) (half : Half) (frames : List Frame) (old new : List ℕ) (from k : ℕ) → Torn from k old new
    → IsClear from k (half_at shape half + size_of frames) 1 → EndsClosed shape half frames old → EndsClosed shape half frames new
ends_kept shape half frames old new from k torn clear ends = record {
  within_half = ends.within_half;
  within_file = omega (arith, ends.within_file, torn.no_shorter);
  shut = λ gate. ends.shut (sym (byte_kept from k old new (half_at shape half + size_of frames) torn ends.within_file clear) ∙ gate);
}

pub stands_kept : (shape : Shape) (half : Half) (frames : List Frame) (old new : List ℕ) (from k : ℕ) → Torn from k old new
    → IsClear from k (half_at shape half) (size_of frames) → half_at shape half + size_of frames ≤ length old
    → part (half_at shape half) (size_of frames) old ≡ spelled frames → part (half_at shape half) (size_of frames) new ≡ spelled frames
stands_kept shape half frames old new from k torn clear fits stands = part_kept from k old new (half_at shape half) (size_of frames) torn fits clear
    ∙ stands

-- a write behind the headers, and behind or before the list
pub index_kept : (shape : Shape) (half : Half) (frames : List Frame) (old new : List ℕ) (from k : ℕ) → Torn from k old new → 64 ≤ from
    → IsClear from k (half_at shape half) (size_of frames) → IsClear from k (half_at shape half + size_of frames) 1 → Index shape half frames old
    → Index shape half frames new
index_kept shape half frames old new from k torn behind clear clear_gate index = record {
  whole = omega (arith, index.whole, torn.no_shorter);
  in_force = in_force_kept shape half old new index.whole (omega (arith, index.whole, torn.no_shorter))
      (part_kept from k old new (header_at half) 26 torn (omega (arith, header_within half, index.whole)) (below (omega (arith, header_within half))))
      (λ form other_open. part_kept from k old new (header_at (other half)) 26 torn (omega (arith, header_within (other half), index.whole))
      (below (omega (arith, header_within (other half)))))
      index.in_force;
  short = index.short;
  stands = stands_kept shape half frames old new from k torn clear (omega (arith, index.ends.within_file)) index.stands;
  ends = ends_kept shape half frames old new from k torn clear_gate index.ends;
}

-- a write before the halves, in a header that is the other's, after which that is not open or as it was
pub index_kept_header : (shape : Shape) (half : Half) (frames : List Frame) (old new : List ℕ) (from k : ℕ) → Torn from k old new
    → header_at (other half) ≤ from → from + k ≤ header_at (other half) + 32
    → ((form : Form) → IsOpen (formed form shape) (other half) new → part (header_at (other half)) 26 new ≡ part (header_at (other half)) 26 old)
    → Index shape half frames old → Index shape half frames new
index_kept_header shape half frames old new from k torn low high same_other index = record {
  whole = omega (arith, index.whole, torn.no_shorter);
  in_force = in_force_kept shape half old new index.whole (omega (arith, index.whole, torn.no_shorter))
      (part_kept from k old new (header_at half) 26 torn (omega (arith, header_within half, index.whole)) (apart half low high))
      same_other index.in_force;
  short = index.short;
  stands = stands_kept shape half frames old new from k torn (above (omega (arith, high, header_within (other half), half_behind shape half)))
      (omega (arith, index.ends.within_file)) index.stands;
  ends = ends_kept shape half frames old new from k torn (above (omega (arith, high, header_within (other half), half_behind shape half))) index.ends;
}
  where
    apart : (half : Half) → header_at (other half) ≤ from → from + k ≤ header_at (other half) + 32 → IsClear from k (header_at half) 26
    apart A low high = below (omega arith)
    apart B low high = above (omega arith)
