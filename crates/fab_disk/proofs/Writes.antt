-- What a write leaves, and how it is undone.
use Rattle.std.proofs.Common.{◌≡◌, inl, inr, ℕ, ◌+◌, ◌-◌, ◌<◌, ◌≤◌, List, [], ◌∷◌, ◌++◌, length, get_or, min, take, drop, replicate, slice_range, refl, ◌∙◌, ap, subst, arith}
use Rattle.std.proofs.lemmas.Bool.{cases_lt}
use Rattle.std.proofs.lemmas.Grind.{same_number_lists}
use Rattle.std.proofs.lemmas.List.{append-nil, take_all, places, length-append, length-replicate, get_or_append_left, get_or-take, get_or-drop}
use Rattle.fab_disk.specs.Disk.{padded, overlaid, written, Torn, IsOutside}
use Rattle.fab_disk.specs.Past.{PastWrite, undone, IsPlaced}
use Rattle.fab_disk.specs.PastLaws.{length-undone, undone_below, undone_within, undone_above}

-- what is long enough is not padded
pub padded_enough : (size : ℕ) (old : List ℕ) → size ≤ length old → padded size old ≡ old
padded_enough size old enough =
    let none : size - length old ≡ 0 = omega arith in
    ap (λ (n : ℕ). old ++ replicate n 0) none ∙ append-nil old

-- what is too short is filled up
pub padded_short : (size : ℕ) (old : List ℕ) → length old ≤ size → take size old ++ replicate (size - length old) 0 ≡ padded size old
padded_short size old short = ap (λ (front : List ℕ). front ++ replicate (size - length old) 0) (take_all size old short)

-- some bytes, written
pub written_some : (at : ℕ) (bytes old : List ℕ) → 0 < length bytes → written at bytes old ≡ overlaid at bytes (padded (at + length bytes) old)
written_some at [] old some = absurd (omega arith)
written_some at (byte ∷ bytes) old some = refl

-- no bytes, written
pub written_none : (at : ℕ) (bytes old : List ℕ) → length bytes ≡ 0 → written at bytes old ≡ old
written_none at [] old none = refl
written_none at (byte ∷ bytes) old none = absurd (omega arith)

-- each byte outside, after an overlay
overlaid_get : (at : ℕ) (bytes whole : List ℕ) (i : ℕ) → at + length bytes ≤ length whole → IsOutside at (length bytes) i
    → get_or (overlaid at bytes whole) i 0 ≡ get_or whole i 0
overlaid_get at bytes whole i fits (inl below) = grind (arith, places)
overlaid_get at bytes whole i fits (inr above) = grind (arith, places)

overlaid_torn : (at : ℕ) (bytes old whole : List ℕ) → whole ≡ padded (at + length bytes) old → Torn at (length bytes) old (overlaid at bytes whole)
overlaid_torn at bytes old whole is =
    let size : length whole ≡ length old + (at + length bytes - length old) = omega (
      arith,
      ap length is,
      length-append old (replicate (at + length bytes - length old) 0),
      length-replicate {A = ℕ}
          (at + length bytes - length old) 0,
    ) in
    let long : length (overlaid at bytes whole) ≡ length whole = grind (arith, places) in
    record {
      kept = λ i lt out. overlaid_get at bytes whole i (omega arith) out ∙ ap (λ (l : List ℕ). get_or l i 0) is
          ∙ get_or_append_left old (replicate (at + length bytes - length old) 0) 0 i lt;
      no_shorter = omega arith;
      no_longer = omega arith;
    }

-- a write is torn at the worst
pub written_torn : (at : ℕ) (bytes old : List ℕ) → Torn at (length bytes) old (written at bytes old)
written_torn at [] old = record { kept = λ i lt out. refl; no_shorter = omega arith; no_longer = omega arith }
written_torn at (byte ∷ bytes) old = overlaid_torn at (byte ∷ bytes) old (padded (at + length (byte ∷ bytes)) old) refl

-- a write is undone by what stood there before
pub undone_back : (at n : ℕ) (old new : List ℕ) (w : PastWrite) → Torn at n old new → w.at ≡ min at (length new)
    → w.before ≡ slice_range old (min at (length old)) (min (at + n) (length old)) → w.length_before ≡ length old → undone w new ≡ old
undone_back at n old new w torn starts stood size =
    let kept : length w.before ≡ min (at + n) (length old) - min at (length old) = ap length stood ∙ grind (arith, places) in
    let fits : w.at + length w.before ≤ length new = omega (arith, torn.no_shorter) in
    let long : w.length_before ≤ length new = omega (arith, torn.no_shorter) in
    let same : length (undone w new) ≡ length old = length-undone w new fits long ∙ size in
    same_number_lists (undone w new) old same (λ k lt. place k (omega arith) fits (omega arith))
  where
    saved : (k : ℕ) → k < length old → length w.before ≡ min (at + n) (length old) - min at (length old) → w.at ≤ k → k < w.at + length w.before
        → get_or (slice_range old (min at (length old)) (min (at + n) (length old))) (k - w.at) 0 ≡ get_or old k 0
    saved k lt kept high within =
        let from : min at (length old) ≡ w.at = omega (arith, torn.no_shorter) in
        get_or-take (min (at + n) (length old) - min at (length old)) (drop (min at (length old)) old) (k - w.at) 0 (omega arith)
        ∙ get_or-drop (min at (length old)) old (k - w.at) 0
        ∙ ap (λ (i : ℕ). get_or old i 0) (let same : min at (length old) + (k - w.at) ≡ k = omega arith in same)

    place : (k : ℕ) → k < length old → w.at + length w.before ≤ length new → length w.before ≡ min (at + n) (length old) - min at (length old)
        → get_or (undone w new) k 0 ≡ get_or old k 0
    place k lt fits kept = elim (cases_lt k w.at) [
      | inl below ↦ undone_below w new k fits (omega arith) below ∙ torn.kept k lt (inl (omega arith))
      | inr high ↦ elim (cases_lt k (w.at + length w.before)) [
        | inl within ↦ undone_within w new k fits (omega arith) high within ∙ ap (λ (l : List ℕ). get_or l (k - w.at) 0) stood ∙ saved k lt kept high within
        | inr above ↦ undone_above w new k fits (omega arith) above ∙ torn.kept k lt (inr (omega arith))
      ]
    ]

-- the lengths of a write fit
pub is_placed : (at n : ℕ) (old new : List ℕ) (w : PastWrite) → Torn at n old new → w.at ≡ min at (length new) → w.len ≡ n
    → w.before ≡ slice_range old (min at (length old)) (min (at + n) (length old)) → w.length_before ≡ length old → (1 ≤ n → at + n ≤ length new)
    → IsPlaced w (length new)
is_placed at n old new w torn starts len stood size reach =
    let kept : length w.before ≡ min (at + n) (length old) - min at (length old) = ap length stood ∙ grind (arith, places) in
    record {
      no_more = omega arith;
      no_shorter = omega (arith, torn.no_shorter);
      reach = inside;
      within = omega (arith, torn.no_shorter);
      all_kept = omega (arith, torn.no_shorter);
      no_longer = omega (arith, torn.no_longer);
    }
  where
    inside : w.at + w.len ≤ length new
    inside = elim (cases_lt 0 n) [ inl some ↦ omega (arith, reach some) | inr none ↦ omega arith ]

-- what tears the range that is remembered tears the range that was written
pub same_range : (at size : ℕ) (bytes old : List ℕ) (before image : List ℕ) → size ≡ length (written at bytes old)
    → Torn (min at size) (length bytes) before image → Torn at (length bytes) before image
same_range at size [] old before image is torn = record {
  kept = λ i lt out. torn.kept i lt (elim (cases_lt i (min at size)) [ inl low ↦ inl low | inr high ↦ inr (omega arith) ]);
  no_shorter = torn.no_shorter;
  no_longer = omega (arith, torn.no_longer);
}
same_range at size (byte ∷ bytes) old before image is torn =
    let long : at ≤ length (written at (byte ∷ bytes) old) = grind (arith, places) in
    let same : min at size ≡ at = omega arith in
    subst (λ (a : ℕ). Torn a (length (byte ∷ bytes)) before image) same torn

-- how many bytes stood in the range
pub length-stood : (at n : ℕ) (old : List ℕ) → length (slice_range old (min at (length old)) (min (at + n) (length old)))
    ≡ min (at + n) (length old) - min at (length old)
length-stood at n old = grind (arith, places)
