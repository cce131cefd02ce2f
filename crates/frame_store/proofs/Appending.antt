-- A frame behind a list.
use Rattle.std.proofs.Common.{◌≡◌, ◌⊎◌, inl, inr, ℕ, ◌+◌, ◌-◌, ◌≤◌, Bool, true, false, List, [], ◌∷◌, ◌++◌, length, get_or, refl, sym, ◌∙◌, ap, subst, arith, length-append}
use Rattle.std.proofs.lemmas.Bool.{cases_eq}
use Rattle.std.proofs.lemmas.List.{append-nil, take_at}
use Rattle.std.proofs.Math.Seq.{get_or-append_right}
use Rattle.fab_disk.specs.Disk.{Torn, written}
use Rattle.fab_disk.proofs.Writes.{written_torn}
use Rattle.frame_store.specs.declared.frames.Frame.{Frame}
use Rattle.frame_store.specs.declared.shapes.Shape.{Shape}
use Rattle.frame_store.specs.declared.shapes.Half.{Half}
use Rattle.frame_store.specs.declared.shapes.Half.TheVariants.{A, B}
use Rattle.frame_store.specs.Layouts.{IsShape, is_old, header_at, half_at}
use Rattle.frame_store.specs.Listed.{spelled, size_of, AreShort, frame_rest, line_of, Fits}
use Rattle.frame_store.specs.Laid.{other, Laid}
use Rattle.frame_store.specs.Images.{part, InForce, IsShut, EndsClosed, generation_at}
use Rattle.frame_store.proofs.Parts.{IsClear, below, above, part_get, part_kept, part_stays, byte_kept, part_join, part_one, part_of_part, part_written, written_get, length-written}
use Rattle.frame_store.proofs.Listing.{length-spelled, size_of-append, spelled-append, are_short-append}
use Rattle.frame_store.proofs.Headers.{header_within, in_force_kept, generation_kept}
use Rattle.frame_store.proofs.Indexes.{Index, half_small, index_kept, listed_closed}
use Rattle.frame_store.proofs.Slots.{half_behind, half_is}

-- how many bytes an append writes behind the gate
pub length-line : (frame : Frame) → length (line_of frame) ≡ length frame.body + 6
length-line frame = omega (arith, length-append (frame_rest frame) (0 ∷ []))

-- the frames' bytes, an open gate and the rest of a frame are the bytes of one frame more
pub stands_more : (at p : ℕ) (frames : List Frame) (frame : Frame) (image : List ℕ) → p ≡ at + size_of frames
    → p + 1 + length (line_of frame) ≤ length image
    → part at (size_of frames) image ≡ spelled frames → get_or image p 0 ≡ 165 → part (p + 1) (length (line_of frame)) image ≡ line_of frame
    → part at (size_of (frames ++ frame ∷ [])) image ≡ spelled (frames ++ frame ∷ [])
stands_more at p frames frame image is fits stands gate line =
    let n = length (frame_rest frame) in
    let long = length-append (frame_rest frame) (0 ∷ []) in
    let size : size_of (frames ++ frame ∷ []) ≡ size_of frames + (1 + n) = omega (arith, size_of-append frames (frame ∷ [])) in
    let rest : part (p + 1) n image ≡ frame_rest frame =
    sym (part_of_part (p + 1) (length (line_of frame)) 0 n (p + 1) image (omega (arith, long)) fits (omega arith))
    ∙ ap (part 0 n) line ∙ take_at (frame_rest frame) (0 ∷ []) n refl in
    let one : part p (1 + n) image ≡ 165 ∷ frame_rest frame =
    part_join p 1 n (p + 1) image (omega (arith, long)) refl
    ∙ ap (λ (l : List ℕ). l ++ part (p + 1) n image) (part_one p image (omega arith) ∙ ap (λ (g : ℕ). g ∷ []) gate)
    ∙ ap (λ (l : List ℕ). 165 ∷ l) rest in
    ap (λ (k : ℕ). part at k image) size
    ∙ part_join at (size_of frames) (1 + n) p image (omega (arith, long)) is
    ∙ ap (λ (l : List ℕ). l ++ part p (1 + n) image) stands
    ∙ ap (λ (l : List ℕ). spelled frames ++ l) (one ∙ ap (λ (l : List ℕ). 165 ∷ l) (sym (append-nil (frame_rest frame))))
    ∙ sym (spelled-append frames (frame ∷ []))

-- behind the frame a closed gate stands
pub ends_more : (shape : Shape) (half : Half) (p : ℕ) (frames : List Frame) (frame : Frame) (image : List ℕ) → is_old shape ≡ false
    → p ≡ half_at shape half + size_of frames → p + 1 + length (line_of frame) ≤ length image → Fits shape frames (length frame.body)
    → part (p + 1) (length (line_of frame)) image ≡ line_of frame
    → EndsClosed shape half (frames ++ frame ∷ []) image
ends_more shape half p frames frame image slotted is fits within line =
    let n = length (frame_rest frame) in
    let long = length-append (frame_rest frame) (0 ∷ []) in
    let size = size_of-append frames (frame ∷ []) in
    let place : half_at shape half + size_of (frames ++ frame ∷ []) ≡ p + 1 + n = omega (arith, size) in
    let gate : get_or image (p + 1 + n) 0 ≡ 0 =
    sym (part_get (p + 1) (length (line_of frame)) image n (omega (arith, long))) ∙ ap (λ (l : List ℕ). get_or l n 0) line
    ∙ last (frame_rest frame) n refl in
    record {
      within_half = omega (arith, size, half_is shape slotted);
      within_file = omega (arith, place, long);
      shut = λ open_gate. let clash : 0 ≡ 165 = sym gate ∙ ap (λ (i : ℕ). get_or image i 0) (sym place) ∙ open_gate in omega (arith, clash);
    }
  where
    last : (front : List ℕ) (n : ℕ) → n ≡ length front → get_or (front ++ 0 ∷ []) n 0 ≡ 0
    last front n is =
        let none : n - length front ≡ 0 = omega arith in
        get_or-append_right front (0 ∷ []) n 0 (omega arith) ∙ ap (λ (i : ℕ). get_or (0 ∷ []) i 0) none

-- What holds of an image that is read by a half and has the bytes of frames there, whatever stands behind them.
pub record Rooted (shape : Shape) (half : Half) (number : ℕ) (other_shut : Bool) (frames : List Frame) (image : List ℕ) : Type 0 where
  pub whole : 64 ≤ length image
  pub in_force : InForce shape half image
  pub generation : generation_at half image ≡ number
  pub short : AreShort frames
  pub stands : part (half_at shape half) (size_of frames) image ≡ spelled frames
  pub shut : other_shut ≡ true → IsShut (header_at (other half)) image
  pub unshut : other_shut ≡ false → get_or image (header_at (other half)) 0 ≡ 165

in_force_whole : (shape : Shape) (half : Half) (image : List ℕ) → InForce shape half image → 64 ≤ length image
in_force_whole shape A image (is, rest) = is.whole
in_force_whole shape B image (is, rest) = is.whole

pub rooted_of : (shape : Shape) (half : Half) (number : ℕ) (other_shut : Bool) (frames : List Frame) (closed : Bool) (image : List ℕ)
    → Laid shape half number other_shut frames closed image → Rooted shape half number other_shut frames image
rooted_of shape half number other_shut frames closed image laid = record {
  whole = in_force_whole shape half image laid.in_force;
  in_force = laid.in_force;
  generation = laid.generation;
  short = laid.short;
  stands = laid.stands;
  shut = laid.shut;
  unshut = laid.unshut;
}

pub index_of : (shape : Shape) (half : Half) (number : ℕ) (other_shut : Bool) (frames : List Frame) (image : List ℕ)
    → Rooted shape half number other_shut frames image → EndsClosed shape half frames image → Index shape half frames image
index_of shape half number other_shut frames image rooted ends = record { whole = rooted.whole; in_force = rooted.in_force; short = rooted.short; stands = rooted.stands; ends = ends }

pub laid_of : (shape : Shape) (half : Half) (number : ℕ) (other_shut : Bool) (frames : List Frame) (image : List ℕ)
    → Rooted shape half number other_shut frames image → EndsClosed shape half frames image → Laid shape half number other_shut frames true image
laid_of shape half number other_shut frames image rooted ends = record {
  in_force = rooted.in_force;
  generation = rooted.generation;
  listed = listed_closed shape half frames image rooted.short rooted.stands ends;
  short = rooted.short;
  stands = rooted.stands;
  shut = rooted.shut;
  unshut = rooted.unshut;
  ended = λ is. ends;
  not_ended = λ is. refl;
}

-- the frames' bytes stay
stands_any : (shape : Shape) (half : Half) (frames : List Frame) (old new : List ℕ) (from k : ℕ) → Torn from k old new
    → IsClear from k (half_at shape half) (size_of frames)
    → part (half_at shape half) (size_of frames) old ≡ spelled frames → part (half_at shape half) (size_of frames) new ≡ spelled frames
stands_any shape half frames old new from k torn clear stands =
    subst (λ (n : ℕ). part (half_at shape half) n new ≡ spelled frames) (length-spelled frames)
    (part_stays from k old new (half_at shape half) (spelled frames) torn
    (subst (λ (n : ℕ). IsClear from k (half_at shape half) n) (sym (length-spelled frames)) clear)
    (subst (λ (n : ℕ). part (half_at shape half) n old ≡ spelled frames) (sym (length-spelled frames)) stands))

pub rooted_kept : (shape : Shape) (half : Half) (number : ℕ) (other_shut : Bool) (frames : List Frame) (old new : List ℕ) (from k : ℕ)
    → Torn from k old new → 64 ≤ from
    → IsClear from k (half_at shape half) (size_of frames) → Rooted shape half number other_shut frames old
    → Rooted shape half number other_shut frames new
rooted_kept shape half number other_shut frames old new from k torn behind clear rooted =
    let longer : 64 ≤ length new = omega (arith, rooted.whole, torn.no_shorter) in
    let same = part_kept from k old new (header_at half) 26 torn (omega (arith, header_within half, rooted.whole))
    (below (omega (arith, header_within half))) in
    let gate = byte_kept from k old new (header_at (other half)) torn (omega (arith, header_within (other half), rooted.whole))
    (below (omega (arith, header_within (other half)))) in
    record {
      whole = longer;
      in_force = in_force_kept shape half old new rooted.whole longer same
          (λ form other_open. part_kept from k old new (header_at (other half)) 26 torn (omega (arith, header_within (other half), rooted.whole))
          (below (omega (arith, header_within (other half)))))
          rooted.in_force;
      generation = generation_kept shape half old new rooted.whole longer same ∙ rooted.generation;
      short = rooted.short;
      stands = stands_any shape half frames old new from k torn clear rooted.stands;
      shut = λ is open_gate. rooted.shut is (sym gate ∙ open_gate);
      unshut = λ is. gate ∙ rooted.unshut is;
    }

-- An append, from a content S in which these frames stand: p is the place of their gate.
module _ (shape : Shape) (half : Half) (frames : List Frame) (frame : Frame) (p : ℕ) (limits : IsShape shape)
    (slotted : is_old shape ≡ false) (place : p ≡ half_at shape half + size_of frames)
    (fits : Fits shape frames (length frame.body)) where
  -- the frame's body is short, as those of the frames before it are
  more_short : AreShort frames → AreShort (frames ++ frame ∷ [])
  more_short short = are_short-append frames (frame ∷ []) short (omega (arith, half_small shape limits), tt)

  behind : 64 ≤ p
  behind = omega (arith, place, half_behind shape half)

  -- while the frame is written behind the closed gate, the frames are as they were
  pub index_staged : (content image : List ℕ) → Index shape half frames content → Torn (p + 1) (length (line_of frame)) content image
      → Index shape half frames image
  index_staged content image index torn =
      index_kept shape half frames content image (p + 1) (length (line_of frame)) torn (omega (arith, behind)) (below (omega (arith, place)))
      (below (omega (arith, place))) index

  -- while the gate is opened, the frame is there or it is not
  pub index_gated : (content image : List ℕ) → Index shape half frames content → Torn p 1 (written (p + 1) (line_of frame) content) image
      → Index shape half frames image ⊎ Index shape half (frames ++ frame ∷ []) image
  index_gated content image index torn =
      let staged = written (p + 1) (line_of frame) content in
      let some = length-line frame in
      let size = length-written (p + 1) (line_of frame) content (omega (arith, some)) in
      let here : Index shape half frames staged = index_staged content staged index (written_torn (p + 1) (line_of frame) content) in
      let in_force : InForce shape half image =
      in_force_kept shape half staged image here.whole (omega (arith, here.whole, torn.no_shorter))
      (part_kept p 1 staged image (header_at half) 26 torn (omega (arith, header_within half, here.whole))
      (below (omega (arith, header_within half, behind))))
      (λ form other_open. part_kept p 1 staged image (header_at (other half)) 26 torn (omega (arith, header_within (other half), here.whole))
      (below (omega (arith, header_within (other half), behind))))
      here.in_force in
      let stands : part (half_at shape half) (size_of frames) image ≡ spelled frames =
      part_kept p 1 staged image (half_at shape half) (size_of frames) torn (omega (arith, place, here.ends.within_file))
      (below (omega (arith, place))) ∙ here.stands in
      let whole : 64 ≤ length image = omega (arith, here.whole, torn.no_shorter) in
      let long : p + 1 + length (line_of frame) ≤ length image = omega (arith, size, torn.no_shorter) in
      let line : part (p + 1) (length (line_of frame)) image ≡ line_of frame =
      part_kept p 1 staged image (p + 1) (length (line_of frame)) torn (omega (arith, size)) (above (omega arith))
      ∙ part_written (p + 1) (line_of frame) content in
      elim (cases_eq (get_or image p 0) 165) [
        | inl is_open ↦ inr (record {
          whole = whole;
          in_force = in_force;
          short = more_short here.short;
          stands = stands_more (half_at shape half) p frames frame image place long stands is_open line;
          ends = ends_more shape half p frames frame image slotted place long fits line;
        })
        | inr is_shut ↦ inl (record {
          whole = whole;
          in_force = in_force;
          short = here.short;
          stands = stands;
          ends = record {
            within_half = here.ends.within_half;
            within_file = omega (arith, place, long);
            shut = λ is_open. is_shut (ap (λ (i : ℕ). get_or image i 0) place ∙ is_open);
          };
        })
      ]

  -- the content after the append
  abbrev pub appended : List ℕ → List ℕ
  appended content = written p (165 ∷ []) (written (p + 1) (line_of frame) content)

  pub appended_laid : (number : ℕ) (other_shut : Bool) (content : List ℕ) → Rooted shape half number other_shut frames content
      → Laid shape half number other_shut (frames ++ frame ∷ []) true (appended content)
  appended_laid number other_shut content rooted =
      let staged = written (p + 1) (line_of frame) content in
      let image = appended content in
      let some = length-line frame in
      let size = length-written (p + 1) (line_of frame) content (omega (arith, some)) in
      let torn = written_torn p (165 ∷ []) staged in
      let here = rooted_kept shape half number other_shut frames content staged (p + 1) (length (line_of frame))
      (written_torn (p + 1) (line_of frame) content) (omega (arith, behind)) (below (omega (arith, place))) rooted in
      let now = rooted_kept shape half number other_shut frames staged image p 1 torn behind (below (omega (arith, place))) here in
      let long : p + 1 + length (line_of frame) ≤ length image = omega (arith, size, torn.no_shorter) in
      let line : part (p + 1) (length (line_of frame)) image ≡ line_of frame =
      part_kept p 1 staged image (p + 1) (length (line_of frame)) torn (omega (arith, size)) (above (omega arith))
      ∙ part_written (p + 1) (line_of frame) content in
      let same : p ≡ p + 0 = omega arith in
      let gate : get_or image p 0 ≡ 165 = ap (λ (i : ℕ). get_or image i 0) same ∙ written_get p (165 ∷ []) staged 0 (omega arith) in
      let more : Rooted shape half number other_shut (frames ++ frame ∷ []) image = record {
        whole = now.whole;
        in_force = now.in_force;
        generation = now.generation;
        short = more_short now.short;
        stands = stands_more (half_at shape half) p frames frame image place long now.stands gate line;
        shut = now.shut;
        unshut = now.unshut;
      } in
      laid_of shape half number other_shut (frames ++ frame ∷ []) image more (ends_more shape half p frames frame image slotted place long fits line)
