-- A list of frames that is read piece by piece.
use Rattle.std.proofs.Common.{◌≡◌, ◌⊎◌, inl, inr, ℕ, ◌+◌, ◌-◌, ◌<◌, ◌≤◌, min, Bool, true, List, [], ◌∷◌, ◌++◌, length, get_or, take, drop, None, refl, sym, ◌∙◌, ap, arith, append_assoc, length-take, length-drop}
use Rattle.std.proofs.lemmas.Grind.{same_number_lists}
use Rattle.std.proofs.lemmas.List.{take_at, drop_at, append-nil}
use Rattle.frame_store.specs.declared.frames.Frame.{Frame}
use Rattle.frame_store.specs.Listed.{frame_rest, spelled, size_of, AreShort, frame_at, frames_of}
use Rattle.frame_store.specs.Images.{part}
use Rattle.frame_store.specs.Reading.{IsFront, IsShutAt, IsListOf}
use Rattle.frame_store.proofs.Listing.{length-spelled, size_of-append, are_short-append, spelled-append, frame_at-spelled, frame_at-shut, frames_of-more, frames_of-none}
use Rattle.frame_store.proofs.Openings.{take_twice}
use Rattle.frame_store.proofs.Parts.{part_get, length-part, part_join}

-- a row that was lent whole and comes back as long as it was
pub lent_back : (size : ℕ) (old new : List ℕ) → length new ≡ length old → length old ≡ size → take size (new ++ drop (length new) old) ≡ new
lent_back size old new same long = take_at new (drop (length new) old) size (same ∙ long)

-- a part, as far as the content goes
pub part_within : (at n size : ℕ) (image : List ℕ) → length image ≡ size → part (min at size) (min n (size - min at size)) image ≡ part at n image
part_within at n size image long =
    let left = length-take (min n (size - min at size)) (drop (min at size) image) in
    let left_rest = length-drop (min at size) image in
    let right = length-take n (drop at image) in
    let right_rest = length-drop at image in
    same_number_lists (part (min at size) (min n (size - min at size)) image) (part at n image) (omega (arith, left, left_rest, right, right_rest))
    (λ k lt. part_get (min at size) (min n (size - min at size)) image k (omega (arith, left))
    ∙ index k (omega (arith, left, left_rest))
    ∙ sym (part_get at n image k (omega (arith, left, left_rest))))
  where
    index : (k : ℕ) → at < size → get_or image (min at size + k) 0 ≡ get_or image (at + k) 0
    index k lt = let same : min at size + k ≡ at + k = omega arith in ap (λ (i : ℕ). get_or image i 0) same

-- whole frames, and then the list of what stands behind them
pub frames_of-then : (frames : List Frame) (rest : List ℕ) → AreShort frames → frames_of (spelled frames ++ rest) ≡ frames ++ frames_of rest
frames_of-then [] rest short = refl
frames_of-then (f ∷ frames) rest (first, short) =
    let split : spelled (f ∷ frames) ++ rest ≡ 165 ∷ (frame_rest f ++ (spelled frames ++ rest)) = ap (λ (l : List ℕ). 165 ∷ l)
    (append_assoc (frame_rest f) (spelled frames) rest) in
    ap frames_of split
    ∙ frames_of-more (165 ∷ (frame_rest f ++ (spelled frames ++ rest))) (f, spelled frames ++ rest)
    (frame_at-spelled f (spelled frames ++ rest) first)
    ∙ ap (λ (l : List Frame). f ∷ l) (frames_of-then frames rest short)

-- no frame stands where a gate is not open
pub frame_at-closed : (bytes : List ℕ) → IsShutAt bytes 0 → frame_at bytes ≡ None
frame_at-closed [] shut = absurd (omega (arith, shut.within))
frame_at-closed (gate ∷ rest) shut = frame_at-shut gate rest shut.shut

-- The bytes from `from` to `limit` are those of a list. Its first frames end at `at`. A piece of n bytes begins there, and more frames of it are at its front.
module _ (image : List ℕ) (from limit at n used : ℕ) (frames more : List Frame) (low : from ≤ at) (high : at ≤ limit) (inside : limit ≤ length image)
    (short : AreShort frames) (piece : n ≤ limit - at) (place : from + size_of frames ≡ at)
    (read : part from (limit - from) image ≡ spelled frames ++ part at (limit - at) image) (front : IsFront (part at n image) more used) where
  size : length (part at n image) ≡ n
  size = length-part at n image (omega arith)

  fits : used ≤ n
  fits = omega (arith, front.within, size)

  rest : List ℕ
  rest = part (at + used) (limit - (at + used)) image

  more_there : part at used image ≡ spelled more
  more_there = sym (take_twice used n (drop at image) fits) ∙ front.stands

  -- the frames so far, and what stands behind them
  pub read_on : part from (limit - from) image ≡ spelled (frames ++ more) ++ part (at + used) (limit - (at + used)) image
  read_on =
      let long : limit - at ≡ used + (limit - (at + used)) = omega (arith, fits) in
      read
      ∙ ap (λ (k : ℕ). spelled frames ++ part at k image) long
      ∙ ap (λ (l : List ℕ). spelled frames ++ l) (part_join at used (limit - (at + used)) (at + used) image (omega (arith, fits)) refl
      ∙ ap (λ (l : List ℕ). l ++ part (at + used) (limit - (at + used)) image) more_there)
      ∙ sym (append_assoc (spelled frames) (spelled more) (part (at + used) (limit - (at + used)) image))
      ∙ ap (λ (l : List ℕ). l ++ part (at + used) (limit - (at + used)) image) (sym (spelled-append frames more))

  pub counted_on : from + size_of (frames ++ more) ≡ at + used
  counted_on = omega (arith, size_of-append frames more, place, front.size)

  module _ (closed : Bool) (shut_then : closed ≡ true → IsShutAt (part at n image) used) (then_shut : IsShutAt (part at n image) used → closed ≡ true)
      (ends : (closed ≡ true) ⊎ (at + n ≡ limit)) where
    whole : length (part from (limit - from) image) ≡ limit - from
    whole = length-part from (limit - from) image (omega arith)

    behind : length (part (at + used) (limit - (at + used)) image) ≡ limit - (at + used)
    behind = length-part (at + used) (limit - (at + used)) image (omega (arith, fits))

    -- the byte behind the frames, in the piece, behind them, and in the list
    byte : used < n → get_or (part at n image) used 0 ≡ get_or image (at + used) 0
    byte lt = part_get at n image used lt

    byte_behind : used < n → get_or (part (at + used) (limit - (at + used)) image) 0 0 ≡ get_or (part at n image) used 0
    byte_behind lt =
        let same : at + used + 0 ≡ at + used = omega arith in
        part_get (at + used) (limit - (at + used)) image 0 (omega arith) ∙ ap (λ (i : ℕ). get_or image i 0) same ∙ sym (byte lt)

    byte_whole : used < n → get_or (part from (limit - from) image) (at + used - from) 0 ≡ get_or (part at n image) used 0
    byte_whole lt =
        let same : from + (at + used - from) ≡ at + used = omega arith in
        part_get from (limit - from) image (at + used - from) (omega arith) ∙ ap (λ (i : ℕ). get_or image i 0) same ∙ sym (byte lt)

    none : frame_at (part (at + used) (limit - (at + used)) image) ≡ None
    none = elim ends [
      | inl is ↦ none_shut (shut_then is)
      | inr is ↦ none_more is
    ]
      where
        none_shut : IsShutAt (part at n image) used → frame_at (part (at + used) (limit - (at + used)) image) ≡ None
        none_shut shut =
            let lt : used < n = omega (arith, shut.within, size) in
            frame_at-closed (part (at + used) (limit - (at + used)) image)
            (record { within = omega (arith, behind); shut = λ is. shut.shut (sym (byte_behind lt) ∙ is) })

        none_more : at + n ≡ limit → frame_at (part (at + used) (limit - (at + used)) image) ≡ None
        none_more is =
            let split : part at (used + (limit - (at + used))) image ≡ part at used image ++ part (at + used) (limit - (at + used)) image
            = part_join at used (limit - (at + used)) (at + used) image (omega (arith, fits)) refl in
            let all : part at n image ≡ part at used image ++ part (at + used) (limit - (at + used)) image
            = (let long : n ≡ used + (limit - (at + used)) = omega (arith, fits) in ap (λ (k : ℕ). part at k image) long) ∙ split in
            let first : used ≡ length (part at used image) = sym (length-part at used image (omega (arith, fits))) in
            ap frame_at (sym (ap (drop used) all ∙ drop_at (part at used image) (part (at + used) (limit - (at + used)) image) used (sym first))) ∙ front.ended

    -- the list of what was read, where a gate that is not open stands behind it, or all was read
    pub list_read : IsListOf (part from (limit - from) image) (frames ++ more) (at + used - from) closed
    list_read = record {
      listed = ap frames_of read_on ∙ frames_of-then (frames ++ more) (part (at + used) (limit - (at + used)) image) (are_short-append frames more short front.short)
          ∙ ap (λ (l : List Frame). (frames ++ more) ++ l) (frames_of-none (part (at + used) (limit - (at + used)) image) none)
          ∙ append-nil (frames ++ more);
      short = are_short-append frames more short front.short;
      stands = ap (take (at + used - from)) read_on ∙ take_at (spelled (frames ++ more)) (part (at + used) (limit - (at + used)) image) (at + used - from)
          (omega (arith, length-spelled (frames ++ more), counted_on));
      within = omega (arith, whole, fits);
      ended = λ is.
          let shut = shut_then is in
          let lt : used < n = omega (arith, shut.within, size) in
          record { within = omega (arith, whole, lt); shut = λ is_open. shut.shut (sym (byte_whole lt) ∙ is_open) };
      not_ended = λ shut. elim ends [
        | inl is ↦ is
        | inr is ↦ then_shut (last is shut)
      ];
    }
      where
        last : at + n ≡ limit → IsShutAt (part from (limit - from) image) (at + used - from) → IsShutAt (part at n image) used
        last is shut =
            let lt : used < n = omega (arith, is, shut.within, whole) in
            record { within = omega (arith, lt, size); shut = λ is_open. shut.shut (byte_whole lt ∙ is_open) }
