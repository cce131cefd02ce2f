-- Parts of a content, before and after a write.
use Rattle.std.proofs.Common.{◌≡◌, inl, inr, ℕ, zero, suc, ◌+◌, ◌-◌, ◌<◌, ◌≤◌, max, List, [], ◌∷◌, ◌++◌, length, get_or, drop, replicate, refl, sym, ◌∙◌, ap, arith, length-append}
use Rattle.std.proofs.lemmas.Bool.{cases_lt}
use Rattle.std.proofs.lemmas.Grind.{same_number_lists}
use Rattle.std.proofs.lemmas.List.{places, get_or-take, get_or-drop, get_or_append_left, length-replicate}
use Rattle.std.proofs.Math.Seq.{get_or-append_right}
use Rattle.fab_disk.specs.Disk.{padded, overlaid, written, Torn, IsOutside}
use Rattle.fab_disk.proofs.Writes.{written_some}
use Rattle.frame_store.specs.Images.{part}

-- a byte of a part
pub part_get : (at n : ℕ) (image : List ℕ) (i : ℕ) → i < n → get_or (part at n image) i 0 ≡ get_or image (at + i) 0
part_get at n image i lt = get_or-take n (drop at image) i 0 lt ∙ get_or-drop at image i 0

-- the length of a part that lies within the content
pub length-part : (at n : ℕ) (image : List ℕ) → at + n ≤ length image → length (part at n image) ≡ n
length-part at n image fits = grind (arith, places)

-- two contents have the same part where they have the same bytes there
pub same_part : (at n : ℕ) (old new : List ℕ) → at + n ≤ length old → at + n ≤ length new
    → ((i : ℕ) → at ≤ i → i < at + n → get_or new i 0 ≡ get_or old i 0)
    → part at n new ≡ part at n old
same_part at n old new fits fits_new same =
    let len = length-part at n old fits in
    let len_new = length-part at n new fits_new in
    same_number_lists (part at n new) (part at n old) (len_new ∙ sym len)
    (λ k lt. part_get at n new k (omega (arith, len_new)) ∙ same (at + k) (omega arith) (omega (arith, len_new))
    ∙ sym (part_get at n old k (omega (arith, len_new))))

-- the n bytes from at on lie outside the k bytes from from on
pub data IsClear (from k at n : ℕ) : Type 0 where
  below : at + n ≤ from → IsClear from k at n
  above : from + k ≤ at → IsClear from k at n
  unwritten : k ≡ 0 → IsClear from k at n

outside : (from k at n i : ℕ) → IsClear from k at n → at ≤ i → i < at + n → IsOutside from k i
outside from k at n i (below le) low high = inl (omega arith)
outside from k at n i (above le) low high = inr (omega arith)
outside from k at n i (unwritten nothing) low high = elim (cases_lt i from) [ inl lt ↦ inl lt | inr ge ↦ inr (omega arith) ]

-- a part outside a write is as it was, whatever the write was torn to
pub part_kept : (from k : ℕ) (old new : List ℕ) (at n : ℕ) → Torn from k old new → at + n ≤ length old → IsClear from k at n
    → part at n new ≡ part at n old
part_kept from k old new at n torn fits clear =
    same_part at n old new fits (omega (arith, torn.no_shorter)) (λ i low high. torn.kept i (omega arith) (outside from k at n i clear low high))

-- a part that is as long as was asked lies in the content
pub part_inside : (at n : ℕ) (image : List ℕ) → 0 < n → length (part at n image) ≡ n → at + n ≤ length image
part_inside at n image some size = omega (arith, size, shorter)
  where
    shorter : length (part at n image) ≤ length image - at
    shorter = grind (arith, places)

-- so bytes that stand there stay, none or some
pub part_stays : (from k : ℕ) (old new : List ℕ) (at : ℕ) (bytes : List ℕ) → Torn from k old new → IsClear from k at (length bytes)
    → part at (length bytes) old ≡ bytes → part at (length bytes) new ≡ bytes
part_stays from k old new at [] torn clear is = refl
part_stays from k old new at (b ∷ bytes) torn clear is =
    part_kept from k old new at (length (b ∷ bytes)) torn (part_inside at (length (b ∷ bytes)) old (omega arith) (ap length is)) clear ∙ is

-- so is a byte
pub byte_kept : (from k : ℕ) (old new : List ℕ) (at : ℕ) → Torn from k old new → at < length old → IsClear from k at 1
    → get_or new at 0 ≡ get_or old at 0
byte_kept from k old new at torn fits clear = torn.kept at fits (outside from k at 1 at clear (omega arith) (omega arith))

-- how long a content is after a write
pub length-written : (at : ℕ) (bytes old : List ℕ) → 0 < length bytes → length (written at bytes old) ≡ max (length old) (at + length bytes)
length-written at bytes old some =
    let is = ap length (written_some at bytes old some) in
    let size = length-append old (replicate (at + length bytes - length old) 0) in
    let zeros = length-replicate {A = ℕ} (at + length bytes - length old) 0 in
    let over : length (overlaid at bytes (padded (at + length bytes) old)) ≡ length (padded (at + length bytes) old) = overlaid_long
    (padded (at + length bytes) old) (omega arith) in
    omega (arith, is, size, zeros, over)
  where
    overlaid_long : (whole : List ℕ) → at + length bytes ≤ length whole → length (overlaid at bytes whole) ≡ length whole
    overlaid_long whole fits = grind (arith, places)

-- a byte that was written
pub written_get : (at : ℕ) (bytes old : List ℕ) (i : ℕ) → i < length bytes → get_or (written at bytes old) (at + i) 0 ≡ get_or bytes i 0
written_get at bytes old i lt =
    let size = length-append old (replicate (at + length bytes - length old) 0) in
    let zeros = length-replicate {A = ℕ} (at + length bytes - length old) 0 in
    ap (λ (l : List ℕ). get_or l (at + i) 0) (written_some at bytes old (omega arith)) ∙ over (padded (at + length bytes) old) (omega arith)
  where
    over : (whole : List ℕ) → at + length bytes ≤ length whole → get_or (overlaid at bytes whole) (at + i) 0 ≡ get_or bytes i 0
    over whole fits = grind (arith, places)

-- what was written stands there
pub part_written : (at : ℕ) (bytes old : List ℕ) → part at (length bytes) (written at bytes old) ≡ bytes
part_written at [] old = refl
part_written at (byte ∷ bytes) old =
    let size = length-written at (byte ∷ bytes) old (omega arith) in
    let len = length-part at (length (byte ∷ bytes)) (written at (byte ∷ bytes) old) (omega (arith, size)) in
    same_number_lists (part at (length (byte ∷ bytes)) (written at (byte ∷ bytes) old)) (byte ∷ bytes) len
    (λ k lt. part_get at (length (byte ∷ bytes)) (written at (byte ∷ bytes) old) k (omega (arith, len)) ∙ written_get at (byte ∷ bytes) old k
    (omega (arith, len)))

-- a part of a part
pub part_of_part : (at n from k to : ℕ) (image : List ℕ) → from + k ≤ n → at + n ≤ length image → to ≡ at + from
    → part from k (part at n image) ≡ part to k image
part_of_part at n from k to image within fits is =
    let len = length-part at n image fits in
    let inner = length-part from k (part at n image) (omega (arith, len)) in
    let outer = length-part to k image (omega arith) in
    same_number_lists (part from k (part at n image)) (part to k image) (inner ∙ sym outer)
    (λ i lt. part_get from k (part at n image) i (omega (arith, inner)) ∙ part_get at n image (from + i) (omega (arith, inner)) ∙ index i
    ∙ sym (part_get to k image i (omega (arith, inner))))
  where
    index : (i : ℕ) → get_or image (at + (from + i)) 0 ≡ get_or image (to + i) 0
    index i = let same : at + (from + i) ≡ to + i = omega arith in ap (λ (j : ℕ). get_or image j 0) same

-- two parts side by side
pub part_join : (at n k to : ℕ) (image : List ℕ) → at + n + k ≤ length image → to ≡ at + n
    → part at (n + k) image ≡ part at n image ++ part to k image
part_join at n k to image fits is =
    let whole = length-part at (n + k) image (omega arith) in
    let left = length-part at n image (omega arith) in
    let right = length-part to k image (omega arith) in
    let both = length-append (part at n image) (part to k image) in
    same_number_lists (part at (n + k) image) (part at n image ++ part to k image) (omega arith) (λ i lt. place i (omega arith) left)
  where
    further : (i : ℕ) → n ≤ i → get_or image (at + i) 0 ≡ get_or image (to + (i - n)) 0
    further i high = let same : at + i ≡ to + (i - n) = omega arith in ap (λ (j : ℕ). get_or image j 0) same

    behind : (i : ℕ) → n ≤ i → length (part at n image) ≡ n → get_or (part at n image ++ part to k image) i 0 ≡ get_or (part to k image) (i - n) 0
    behind i high left =
        let same : i - length (part at n image) ≡ i - n = omega (arith, left) in
        get_or-append_right (part at n image) (part to k image) i 0 (omega (arith, left)) ∙ ap (λ (j : ℕ). get_or (part to k image) j 0) same

    place : (i : ℕ) → i < n + k → length (part at n image) ≡ n → get_or (part at (n + k) image) i 0 ≡ get_or (part at n image ++ part to k image) i 0
    place i lt left = elim (cases_lt i n) [
      | inl low ↦ part_get at (n + k) image i lt ∙ sym (part_get at n image i low) ∙ sym (get_or_append_left (part at n image) (part to k image) 0 i (omega (arith, left)))
      | inr high ↦ part_get at (n + k) image i lt ∙ further i high ∙ sym (part_get to k image (i - n) (omega arith)) ∙ sym (behind i high left)
    ]

-- a part of one byte
pub part_one : (at : ℕ) (image : List ℕ) → at < length image → part at 1 image ≡ get_or image at 0 ∷ []
part_one at image lt =
    let len = length-part at 1 image (omega arith) in
    same_number_lists (part at 1 image) (get_or image at 0 ∷ []) len (λ i within. at_zero i (omega (arith, len)))
  where
    at_zero : (i : ℕ) → i < 1 → get_or (part at 1 image) i 0 ≡ get_or (get_or image at 0 ∷ []) i 0
    at_zero zero lt_one = part_get at 1 image 0 lt_one ∙ (let same : at + 0 ≡ at = omega arith in ap (λ (j : ℕ). get_or image j 0) same)
    at_zero (suc i) lt_one = absurd (omega arith)
