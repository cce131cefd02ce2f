-- Bytes that are drawn in one part after another.
use Rattle.std.proofs.Common.{◌≡◌, inl, inr, ℕ, zero, suc, ◌+◌, ◌*◌, ◌-◌, ◌%◌, ◌<◌, ◌≤◌, Bool, true, false, List, [], ◌∷◌, ◌++◌, length, take, drop, min, get_or, set, refl, sym, ◌∙◌, ap, arith, rules, if◌then◌else◌}
use Rattle.std.proofs.lemmas.Bool.{cases_Bool}
use Rattle.std.proofs.lemmas.List.{append_assoc, append-nil, same_lists, places, take_all, drop_all, length-take}
use Rattle.rand_pcg.specs.Lcg.{Lcg}
use Rattle.rand_pcg.specs.Pcg.{pcg32}
use Rattle.fab_disk.specs.Disk.{overlaid}
use Rattle.fab_disk.specs.Draws.{drawn, skipped}
use Rattle.fab_disk.specs.Pages.{page_bytes, spread}
use Rattle.fab_disk.specs.declared.pages.Page.{Page}
use Rattle.fab_disk.specs.Settled.{filled, left_over}
use Rattle.fab_disk.proofs.Filled.{filled_drawn, filled_kept, length-filled}
use Rattle.fab_disk.proofs.Spreads.{length-page, put_in_page, part_of_page}

-- the generator after one place
abbrev pub after_place : Bool → Lcg → Lcg
after_place drawn random = if drawn then (pcg32 random).1 else random

left_first : (uncertain : ℕ → Bool) (random : Lcg) (i n : ℕ) (is : Bool) → uncertain i ≡ is
    → left_over uncertain random i (suc n) ≡ left_over uncertain (after_place is random) (i + 1) n
left_first uncertain random i n true is =
    ap (λ (b : Bool). if b then left_over uncertain (pcg32 random).1 (i + 1) n else left_over uncertain random (i + 1) n) is
left_first uncertain random i n false is =
    ap (λ (b : Bool). if b then left_over uncertain (pcg32 random).1 (i + 1) n else left_over uncertain random (i + 1) n) is

left_suc : (uncertain : ℕ → Bool) (random : Lcg) (i n : ℕ)
    → left_over uncertain random i (suc n) ≡ after_place (uncertain (i + n)) (left_over uncertain random i n)
left_suc uncertain random i zero = ap (λ (k : ℕ). after_place (uncertain k) random) (let same : i ≡ i + 0 = omega arith in same)
left_suc uncertain random i (suc n) =
    let next : Lcg = after_place (uncertain i) random in
    left_first uncertain random i (suc n) (uncertain i) refl ∙ left_suc uncertain next (i + 1) n
    ∙ ap (λ (k : ℕ). after_place (uncertain k) (left_over uncertain next (i + 1) n)) (let same : i + 1 + n ≡ i + suc n = omega arith in same)
    ∙ ap (λ (r : Lcg). after_place (uncertain (i + suc n)) r) (sym (left_first uncertain random i n (uncertain i) refl))

-- one place more
pub left_more : (uncertain : ℕ → Bool) (random : Lcg) (i n : ℕ)
    → left_over uncertain random i (n + 1) ≡ after_place (uncertain (i + n)) (left_over uncertain random i n)
left_more uncertain random i n =
    ap (λ (k : ℕ). left_over uncertain random i k) (let same : n + 1 ≡ suc n = omega arith in same) ∙ left_suc uncertain random i n

-- one part, and then another
pub filled_append : (uncertain : ℕ → Bool) (random : Lcg) (i : ℕ) (first second : List ℕ) → filled uncertain random i (first ++ second)
    ≡ filled uncertain random i first ++ filled uncertain (left_over uncertain random i (length first)) (i + length first) second
filled_append uncertain random i [] second = ap (λ (k : ℕ). filled uncertain random k second) (let same : i ≡ i + 0 = omega arith in same)
filled_append uncertain random i (byte ∷ first) second = elim (cases_Bool (uncertain i)) [
  | inl is ↦ filled_drawn uncertain random i byte (first ++ second) is
      ∙ ap (λ (l : List ℕ). ((pcg32 random).0 % 256) ∷ l) (filled_append uncertain (pcg32 random).1 (i + 1) first second)
      ∙ ap (λ (l : List ℕ). l ++ filled uncertain (left_over uncertain (pcg32 random).1 (i + 1) (length first)) (i + 1 + length first) second)
      (sym (filled_drawn uncertain random i byte first is))
      ∙ ap (λ (r : Lcg). filled uncertain random i (byte ∷ first) ++ filled uncertain r (i + 1 + length first) second)
      (sym (left_first uncertain random i (length first) true is))
      ∙ ap (λ (k : ℕ). filled uncertain random i (byte ∷ first) ++ filled uncertain (left_over uncertain random i (suc (length first))) k second)
      (let same : i + 1 + length first ≡ i + suc (length first) = omega arith in same)
  | inr is ↦ filled_kept uncertain random i byte (first ++ second) is
      ∙ ap (λ (l : List ℕ). byte ∷ l) (filled_append uncertain random (i + 1) first second)
      ∙ ap (λ (l : List ℕ). l ++ filled uncertain (left_over uncertain random (i + 1) (length first)) (i + 1 + length first) second)
      (sym (filled_kept uncertain random i byte first is))
      ∙ ap (λ (r : Lcg). filled uncertain random i (byte ∷ first) ++ filled uncertain r (i + 1 + length first) second)
      (sym (left_first uncertain random i (length first) false is))
      ∙ ap (λ (k : ℕ). filled uncertain random i (byte ∷ first) ++ filled uncertain (left_over uncertain random i (suc (length first))) k second)
      (let same : i + 1 + length first ≡ i + suc (length first) = omega arith in same)
]

-- each place is drawn
pub filled_all : (uncertain : ℕ → Bool) (random : Lcg) (i : ℕ) (bytes : List ℕ) → ((k : ℕ) → k < length bytes → uncertain (i + k) ≡ true)
    → filled uncertain random i bytes ≡ drawn (length bytes) random
unfolding drawn
filled_all uncertain random i [] all = refl
filled_all uncertain random i (byte ∷ bytes) all =
    filled_drawn uncertain random i byte bytes (ap uncertain (let same : i ≡ i + 0 = omega arith in same) ∙ all 0 (omega arith))
    ∙ ap (λ (l : List ℕ). ((pcg32 random).0 % 256) ∷ l) (filled_all uncertain (pcg32 random).1 (i + 1) bytes
    (λ k lt. ap uncertain (let same : i + 1 + k ≡ i + (k + 1) = omega arith in same) ∙ all (k + 1) (omega arith)))

pub left_all : (uncertain : ℕ → Bool) (random : Lcg) (i n : ℕ) → ((k : ℕ) → k < n → uncertain (i + k) ≡ true)
    → left_over uncertain random i n ≡ skipped n random
unfolding skipped
left_all uncertain random i zero all = refl
left_all uncertain random i (suc n) all =
    left_first uncertain random i n true (ap uncertain (let same : i ≡ i + 0 = omega arith in same) ∙ all 0 (omega arith))
    ∙ left_all uncertain (pcg32 random).1 (i + 1) n
    (λ k lt. ap uncertain (let same : i + 1 + k ≡ i + (k + 1) = omega arith in same) ∙ all (k + 1) (omega arith))

-- none is
pub filled_none : (uncertain : ℕ → Bool) (random : Lcg) (i : ℕ) (bytes : List ℕ) → ((k : ℕ) → k < length bytes → uncertain (i + k) ≡ false)
    → filled uncertain random i bytes ≡ bytes
filled_none uncertain random i [] none = refl
filled_none uncertain random i (byte ∷ bytes) none =
    filled_kept uncertain random i byte bytes (ap uncertain (let same : i ≡ i + 0 = omega arith in same) ∙ none 0 (omega arith))
    ∙ ap (λ (l : List ℕ). byte ∷ l) (filled_none uncertain random (i + 1) bytes
    (λ k lt. ap uncertain (let same : i + 1 + k ≡ i + (k + 1) = omega arith in same) ∙ none (k + 1) (omega arith)))

pub left_none : (uncertain : ℕ → Bool) (random : Lcg) (i n : ℕ) → ((k : ℕ) → k < n → uncertain (i + k) ≡ false)
    → left_over uncertain random i n ≡ random
left_none uncertain random i zero none = refl
left_none uncertain random i (suc n) none =
    left_first uncertain random i n false (ap uncertain (let same : i ≡ i + 0 = omega arith in same) ∙ none 0 (omega arith))
    ∙ left_none uncertain random (i + 1) n
    (λ k lt. ap uncertain (let same : i + 1 + k ≡ i + (k + 1) = omega arith in same) ∙ none (k + 1) (omega arith))

-- a part of a content is drawn, and then what is behind it
pub part_drawn : (uncertain : ℕ → Bool) (random : Lcg) (old new part : List ℕ) (i n : ℕ) → i + n ≤ length old → take n (drop i old) ≡ part
    → take (i + n) new ≡ take i old ++ filled uncertain random i part → drop (i + n) new ≡ drop (i + n) old
    → take (i + n) new ++ filled uncertain (left_over uncertain random i n) (i + n) (drop (i + n) new)
    ≡ take i old ++ filled uncertain random i (drop i old)
part_drawn uncertain random old new part i n fits is front behind =
    let rest : List ℕ = drop (i + n) old in
    let size : length part ≡ n = sym (ap length is) ∙ within old i n fits in
    ap (λ (l : List ℕ). l ++ filled uncertain (left_over uncertain random i n) (i + n) (drop (i + n) new)) front
    ∙ ap (λ (l : List ℕ). (take i old ++ filled uncertain random i part) ++ filled uncertain (left_over uncertain random i n) (i + n) l) behind
    ∙ append_assoc (take i old) (filled uncertain random i part) (filled uncertain (left_over uncertain random i n) (i + n) rest)
    ∙ ap (λ (k : ℕ). take i old ++ (filled uncertain random i part ++ filled uncertain (left_over uncertain random i k) (i + k) rest)) (sym size)
    ∙ ap (λ (l : List ℕ). take i old ++ l) (sym (filled_append uncertain random i part rest))
    ∙ ap (λ (l : List ℕ). take i old ++ filled uncertain random i l) (ap (λ (l : List ℕ). l ++ rest) (sym is) ∙ joined old i n fits)
  where
    within : (old : List ℕ) (i n : ℕ) → i + n ≤ length old → length (take n (drop i old)) ≡ n
    within old i n fits = grind (arith, places)

    joined : (old : List ℕ) (i n : ℕ) → i + n ≤ length old → take n (drop i old) ++ drop (i + n) old ≡ drop i old
    joined old i n fits = same_lists _ _ (search (rules, places)) (λ k d h. grind (arith, places))

-- a content of which one page was overlaid
pub overlaid_front : (all page : List ℕ) (start n size : ℕ) → n ≡ min (size - start) (length page) → start < size → size ≤ length all
    → take (start + n) (take size (overlaid start page all)) ≡ take start (take size all) ++ take n page
overlaid_front all page start n size is below fits = same_lists _ _ (search (rules, places)) (λ k d h. grind (arith, places))

pub overlaid_behind : (all page : List ℕ) (start n size : ℕ) → n ≡ min (size - start) (length page) → start < size → size ≤ length all
    → drop (start + n) (take size (overlaid start page all)) ≡ drop (start + n) (take size all)
overlaid_behind all page start n size is below fits = same_lists _ _ (search (rules, places)) (λ k d h. grind (arith, places))

-- bytes over all that stood there
pub overlaid_whole : (page new : List ℕ) → length new ≡ length page → new ≡ overlaid 0 new page
overlaid_whole page new size = same_lists _ _ (search (rules, places)) (λ k d h. grind (arith, places))

-- a content of which the first bytes were replaced
pub first_front : (part front rest : List ℕ) (n size : ℕ) → length part ≡ n → n ≤ size → n ≤ length front
    → take n (take size ((part ++ drop n front) ++ rest)) ≡ part
first_front part front rest n size is fits long = same_lists _ _ (search (rules, places)) (λ k d h. grind (arith, places))

pub first_behind : (part front rest : List ℕ) (n size : ℕ) → length part ≡ n → n ≤ length front
    → drop n (take size ((part ++ drop n front) ++ rest)) ≡ drop n (take size (front ++ rest))
first_behind part front rest n size is long = same_lists _ _ (search (rules, places)) (λ k d h. grind (arith, places))

pub first_part : (front rest : List ℕ) (n size : ℕ) → n ≤ size → n ≤ length front → take n (drop 0 (take size (front ++ rest))) ≡ take n front
first_part front rest n size fits long = same_lists _ _ (search (rules, places)) (λ k d h. grind (arith, places))

-- what lies in one piece is drawn
pub start_drawn : (uncertain : ℕ → Bool) (random after : Lcg) (front now rest : List ℕ) (n size pos : ℕ) → n ≡ min (length front) size → pos ≡ n
    → size ≤ length (front ++ rest) → now ≡ filled uncertain random 0 (take n front) ++ drop n front → after ≡ left_over uncertain random 0 n
    → take pos (take size (now ++ rest)) ++ filled uncertain after pos (drop pos (take size (now ++ rest))) ≡ filled uncertain random 0 (take size (front ++ rest))
start_drawn uncertain random after front now rest n size pos few here long is goes =
    let part : List ℕ = filled uncertain random 0 (take n front) in
    let part_size : length part ≡ n = omega (arith, length-filled uncertain random 0 (take n front), length-take n front) in
    let new : List ℕ = take size ((part ++ drop n front) ++ rest) in
    let zero_more : 0 + n ≡ n = omega arith in
    ap (λ (l : List ℕ). take pos (take size (l ++ rest)) ++ filled uncertain after pos (drop pos (take size (l ++ rest)))) is
    ∙ ap (λ (k : ℕ). take k new ++ filled uncertain after k (drop k new)) (here ∙ sym zero_more)
    ∙ ap (λ (r : Lcg). take (0 + n) new ++ filled uncertain r (0 + n) (drop (0 + n) new)) goes
    ∙ part_drawn uncertain random (take size (front ++ rest)) new (take n front) 0 n (omega (arith, length-take size (front ++ rest)))
    (first_part front rest n size (omega arith) (omega arith))
    (ap (λ (k : ℕ). take k new) zero_more ∙ first_front part front rest n size part_size (omega arith) (omega arith))
    (ap (λ (k : ℕ). drop k new) zero_more ∙ first_behind part front rest n size part_size (omega arith)
    ∙ ap (λ (k : ℕ). drop k (take size (front ++ rest))) (sym zero_more))

-- one page is drawn
pub page_drawn : (uncertain : ℕ → Bool) (random after : Lcg) (front : List ℕ) (pages : List Page) (k : ℕ) (d new : Page) (start n size pos up : ℕ)
    → k < length pages → start ≡ length front + 4096 * k → start < size → n ≡ min (size - start) 4096 → pos ≡ start → up ≡ start + n
    → size ≤ length (front ++ spread pages)
    → take n (page_bytes new) ≡ filled uncertain random start (take n (page_bytes (get_or pages k d)))
    → after ≡ left_over uncertain random start n
    → take up (take size (front ++ spread (set pages k new))) ++ filled uncertain after up (drop up (take size (front ++ spread (set pages k new))))
    ≡ take pos (take size (front ++ spread pages)) ++ filled uncertain random pos (drop pos (take size (front ++ spread pages)))
page_drawn uncertain random after front pages k d new start n size pos up lt place below few here top long drawn goes =
    let all : List ℕ = front ++ spread pages in
    let old : List ℕ = take size all in
    let whole = length-page new in
    let put : front ++ spread (set pages k new) ≡ overlaid start (page_bytes new) all =
    put_in_page front pages k d new 0 start (page_bytes new) lt (omega (arith, whole)) (omega arith)
    (overlaid_whole (page_bytes (get_or pages k d)) (page_bytes new) (whole ∙ sym (length-page (get_or pages k d)))) in
    let now : List ℕ = take size (overlaid start (page_bytes new) all) in
    let few_new : n ≡ min (size - start) (length (page_bytes new)) = omega (arith, whole) in
    let part : take n (drop start old) ≡ take n (page_bytes (get_or pages k d)) =
    within all start n size (omega arith) ∙ sym (part_of_page front pages k d 0 start n lt (omega arith) (omega arith)) in
    ap (λ (l : List ℕ). take up (take size l) ++ filled uncertain after up (drop up (take size l))) put
    ∙ ap (λ (i : ℕ). take i now ++ filled uncertain after i (drop i now)) top
    ∙ ap (λ (r : Lcg). take (start + n) now ++ filled uncertain r (start + n) (drop (start + n) now)) goes
    ∙ part_drawn uncertain random old now (take n (page_bytes (get_or pages k d))) start n (omega (arith, length-take size all)) part
    (overlaid_front all (page_bytes new) start n size few_new below long ∙ ap (λ (l : List ℕ). take start old ++ l) drawn)
    (overlaid_behind all (page_bytes new) start n size few_new below long)
    ∙ ap (λ (i : ℕ). take i old ++ filled uncertain random i (drop i old)) (sym here)
  where
    within : (all : List ℕ) (start n size : ℕ) → start + n ≤ size → take n (drop start (take size all)) ≡ take n (drop start all)
    within all start n size fits = same_lists _ _ (search (rules, places)) (λ k d h. grind (arith, places))

-- all of it is
pub end_drawn_at : (uncertain : ℕ → Bool) (random : Lcg) (content : List ℕ) (start pos : ℕ) → length content ≤ pos
    → take pos content ++ filled uncertain random (start + pos) (drop pos content) ≡ content
end_drawn_at uncertain random content start pos long =
    ap (λ (l : List ℕ). take pos content ++ filled uncertain random (start + pos) l) (drop_all pos content long)
    ∙ append-nil (take pos content) ∙ take_all pos content long

pub end_drawn : (uncertain : ℕ → Bool) (random : Lcg) (content : List ℕ) (pos : ℕ) → length content ≤ pos
    → take pos content ++ filled uncertain random pos (drop pos content) ≡ content
end_drawn uncertain random content pos long =
    ap (λ (i : ℕ). take pos content ++ filled uncertain random i (drop pos content)) (let same : pos ≡ 0 + pos = omega arith in same)
    ∙ end_drawn_at uncertain random content 0 pos long
