-- Where the bytes of pages stand.
use Rattle.std.proofs.Common.{inl, inr, subst, IsTrue, slice_range, replicate, ◌-◌, ◌≡◌, ℕ, zero, suc, ◌+◌, ◌*◌, ◌<◌, ◌≤◌, List, [], ◌∷◌, ◌++◌, length, get_or, set, take, drop, refl, sym, ◌∙◌, ap, arith, rules}
use Rattle.std.proofs.lemmas.List.{same_lists, places, length-append, length-replicate, drop_at, take_at, take_all, length-take, length-set, append-nil, append_assoc}
use Rattle.std.proofs.lemmas.Bool.{cases_lt}
use Rattle.fab_disk.specs.Disk.{overlaid, padded}
use Rattle.fab_disk.specs.declared.pages.Page.{Page}
use Rattle.fab_disk.specs.declared.pages.Page.TheVariants.{Zero}
use Rattle.fab_disk.specs.Pages.{page_bytes, spread, is_held, held_at}
use Rattle.rand_pcg.specs.Lcg.{Lcg}
use Rattle.fab_disk.specs.Draws.{drawn, skipped}
pub use Rattle.fab_disk.specs.PageLaws.{length-page, length-spread, length-shown}
use Rattle.fab_disk.proofs.Draws.{length-drawn, drawn_add}

-- a part of the first of two lists, and of the second
pub part_first : (first second : List ℕ) (at n : ℕ) → at + n ≤ length first → take n (drop at (first ++ second)) ≡ take n (drop at first)
part_first first second at n fits = same_lists _ _ (search (rules, places)) (λ k d h. grind (arith, places))

pub part_second : (first second : List ℕ) (at n : ℕ) → take n (drop (length first + at) (first ++ second)) ≡ take n (drop at second)
part_second first second at n = same_lists _ _ (search (rules, places)) (λ k d h. grind (arith, places))

-- bytes that are put in the first of two lists, and in the second
pub put_first : (first second bytes : List ℕ) (at : ℕ) → at + length bytes ≤ length first
    → overlaid at bytes (first ++ second) ≡ overlaid at bytes first ++ second
put_first first second bytes at fits = same_lists _ _ (search (rules, places)) (λ k d h. grind (arith, places))

pub put_second : (first second bytes : List ℕ) (at : ℕ) → at + length bytes ≤ length second
    → overlaid (length first + at) bytes (first ++ second) ≡ first ++ overlaid at bytes second
put_second first second bytes at fits = same_lists _ _ (search (rules, places)) (λ k d h. grind (arith, places))

-- a part of one page
pub spread_part : (pages : List Page) (k : ℕ) (d : Page) (at n : ℕ) → k < length pages → at + n ≤ 4096
    → take n (drop (4096 * k + at) (spread pages)) ≡ take n (drop at (page_bytes (get_or pages k d)))
spread_part [] k d at n lt fits = absurd (omega arith)
spread_part (page ∷ pages) zero d at n lt fits =
    ap (λ (i : ℕ). take n (drop i (page_bytes page ++ spread pages))) (let same : 4096 * 0 + at ≡ at = omega arith in same)
    ∙ part_first (page_bytes page) (spread pages) at n (omega (arith, length-page page))
spread_part (page ∷ pages) (suc k) d at n lt fits =
    ap (λ (i : ℕ). take n (drop i (page_bytes page ++ spread pages))) (let same : 4096 * suc k + at ≡ length (page_bytes page) + (4096 * k + at) = omega (arith, length-page page) in same)
    ∙ part_second (page_bytes page) (spread pages) (4096 * k + at) n ∙ spread_part pages k d at n (omega arith) fits

-- bytes that are put in one page
pub spread_put : (pages : List Page) (k : ℕ) (d new : Page) (at : ℕ) (bytes : List ℕ) → k < length pages → at + length bytes ≤ 4096
    → page_bytes new ≡ overlaid at bytes (page_bytes (get_or pages k d))
    → spread (set pages k new) ≡ overlaid (4096 * k + at) bytes (spread pages)
spread_put [] k d new at bytes lt fits is = absurd (omega arith)
spread_put (page ∷ pages) zero d new at bytes lt fits is =
    ap (λ (l : List ℕ). l ++ spread pages) is
    ∙ sym (put_first (page_bytes page) (spread pages) bytes at (omega (arith, length-page page)))
    ∙ ap (λ (i : ℕ). overlaid i bytes (page_bytes page ++ spread pages)) (let same : at ≡ 4096 * 0 + at = omega arith in same)
spread_put (page ∷ pages) (suc k) d new at bytes lt fits is =
    ap (λ (l : List ℕ). page_bytes page ++ l) (spread_put pages k d new at bytes (omega arith) fits is)
    ∙ sym (put_second (page_bytes page) (spread pages) bytes (4096 * k + at) (omega (arith, length-spread pages)))
    ∙ ap (λ (i : ℕ). overlaid i bytes (page_bytes page ++ spread pages)) (let same : length (page_bytes page) + (4096 * k + at) ≡ 4096 * suc k + at = omega (arith, length-page page) in same)

-- a part of zeros, and of bytes that are drawn
pub zeros_part : (size at n : ℕ) → at + n ≤ size → slice_range {X = ℕ} (replicate size 0) at (at + n) ≡ replicate n 0
zeros_part size at n fits = same_lists _ _ (search (rules, places)) (λ k d h. grind (arith, places))

pub drawn_part : (size at n : ℕ) (random : Lcg) → at + n ≤ size → slice_range (drawn size random) at (at + n) ≡ drawn n (skipped at random)
drawn_part size at n random fits =
    let rest : ℕ = size - (at + n) in
    let all : drawn size random ≡ drawn at random ++ (drawn n (skipped at random) ++ drawn rest (skipped n (skipped at random))) =
    ap (λ (k : ℕ). drawn k random) (let same : size ≡ at + (n + rest) = omega arith in same)
    ∙ drawn_add at (n + rest) random ∙ ap (λ (l : List ℕ). drawn at random ++ l) (drawn_add n rest (skipped at random)) in
    ap (λ (l : List ℕ). take (at + n - at) (drop at l)) all
    ∙ ap (λ (l : List ℕ). take (at + n - at) l) (drop_at (drawn at random) _ at (length-drawn at random))
    ∙ take_at (drawn n (skipped at random)) _ (at + n - at) (omega (arith, length-drawn n (skipped at random)))

-- a whole page
pub page_whole : (page : Page) → slice_range (page_bytes page) 0 (0 + 4096) ≡ page_bytes page
page_whole page = take_all 4096 (page_bytes page) (omega (arith, length-page page))

-- a page by its number, whatever stands for those that are not there
pub same_page : (pages : List Page) (k : ℕ) (d other : Page) → k < length pages → get_or pages k d ≡ get_or pages k other
same_page [] k d other lt = absurd (omega arith)
same_page (page ∷ pages) zero d other lt = refl
same_page (page ∷ pages) (suc k) d other lt = same_page pages k d other (omega arith)

-- which pages have memory, after one of them changed
pub held_set : (pages : List Page) (i : ℕ) (new : Page) → is_held new ≡ held_at pages i → (k : ℕ) → held_at (set pages i new) k ≡ held_at pages k
held_set [] i new same k = refl
held_set (page ∷ pages) zero new same zero = same
held_set (page ∷ pages) zero new same (suc k) = refl
held_set (page ∷ pages) (suc i) new same zero = refl
held_set (page ∷ pages) (suc i) new same (suc k) = held_set pages i new same k

-- the bytes of what lies in one piece and of pages, after bytes were put in one page
pub put_in_page : (front : List ℕ) (pages : List Page) (k : ℕ) (d new : Page) (within at : ℕ) (bytes : List ℕ) → k < length pages
    → within + length bytes ≤ 4096 → at ≡ length front + (4096 * k + within)
    → page_bytes new ≡ overlaid within bytes (page_bytes (get_or pages k d))
    → front ++ spread (set pages k new) ≡ overlaid at bytes (front ++ spread pages)
put_in_page front pages k d new within at bytes lt fits place is =
    ap (λ (l : List ℕ). front ++ l) (spread_put pages k d new within bytes lt fits is)
    ∙ sym (put_second front (spread pages) bytes (4096 * k + within) (omega (arith, length-spread pages)))
    ∙ ap (λ (i : ℕ). overlaid i bytes (front ++ spread pages)) (sym place)

-- and a part of them that lies in one page
pub part_of_page : (front : List ℕ) (pages : List Page) (k : ℕ) (d : Page) (within at n : ℕ) → k < length pages
    → within + n ≤ 4096 → at ≡ length front + (4096 * k + within)
    → take n (drop within (page_bytes (get_or pages k d))) ≡ take n (drop at (front ++ spread pages))
part_of_page front pages k d within at n lt fits place =
    sym (spread_part pages k d within n lt fits) ∙ sym (part_second front (spread pages) (4096 * k + within) n)
    ∙ ap (λ (i : ℕ). take n (drop i (front ++ spread pages))) (sym place)

-- bytes that are read, one part after another
pub read_goes_on : (into all piece : List ℕ) (at done n : ℕ) → done + n ≤ length into → at + length into ≤ length all
    → piece ≡ take n (drop (at + done) all) ++ drop n (take (length into - done) (drop done into)) → take done into ≡ take done (drop at all)
    → take (done + n) (take done into ++ (piece ++ drop (length into - done) (drop done into))) ≡ take (done + n) (drop at all)
read_goes_on into all piece at done n fits within is so_far =
    let rest : List ℕ = drop n (take (length into - done) (drop done into)) in
    let behind : List ℕ = drop (length into - done) (drop done into) in
    ap (λ (l : List ℕ). take (done + n) (take done into ++ (l ++ behind))) is
    ∙ ap (λ (l : List ℕ). take (done + n) (l ++ ((take n (drop (at + done) all) ++ rest) ++ behind))) so_far
    ∙ plain all rest behind at done n (omega arith)
  where
    plain : (all rest behind : List ℕ) (at done n : ℕ) → at + (done + n) ≤ length all
        → take (done + n) (take done (drop at all) ++ ((take n (drop (at + done) all) ++ rest) ++ behind)) ≡ take (done + n) (drop at all)
    plain all rest behind at done n fits = same_lists _ _ (search (rules, places)) (λ k d h. grind (arith, places))

pub read_ends : (into all : List ℕ) (at done n len : ℕ) → length into ≡ n → n ≤ done → done ≤ length into → at + n ≤ len
    → take done into ≡ take done (drop at all) → into ≡ take (at + n - at) (drop at (take len all))
read_ends into all at done n len size long few fits so_far =
    sym (take_all done into (omega arith)) ∙ so_far ∙ plain all at n done len (omega arith) fits
  where
    plain : (all : List ℕ) (at n done len : ℕ) → n ≡ done → at + n ≤ len → take done (drop at all) ≡ take (at + n - at) (drop at (take len all))
    plain all at n done len is fits = same_lists _ _ (search (rules, places)) (λ k d h. grind (arith, places))

-- bytes that are put, one part after another
pub put_goes_on : (from all new : List ℕ) (at done n : ℕ) → done + n ≤ length from → at + length from ≤ length all
    → new ≡ overlaid (at + done) (take n (take (length from - done) (drop done from))) all
    → overlaid (at + (done + n)) (drop (done + n) from) new ≡ overlaid (at + done) (drop done from) all
put_goes_on from all new at done n fits within is =
    ap (λ (l : List ℕ). overlaid (at + (done + n)) (drop (done + n) from) l) is ∙ plain from all at done n fits within
  where
    plain : (from all : List ℕ) (at done n : ℕ) → done + n ≤ length from → at + length from ≤ length all
        → overlaid (at + (done + n)) (drop (done + n) from) (overlaid (at + done) (take n (take (length from - done) (drop done from))) all)
        ≡ overlaid (at + done) (drop done from) all
    plain from all at done n fits within = same_lists _ _ (search (rules, places)) (λ k d h. grind (arith, places))

pub put_ends : (from all new : List ℕ) (at done len : ℕ) → length from ≤ done → at + length from ≤ len → len ≤ length all
    → overlaid (at + done) (drop done from) new ≡ overlaid at from all → take len new ≡ overlaid at from (take len all)
put_ends from all new at done len long fits within left = ap (take len) (nothing from new at done long ∙ left) ∙ plain from all at len fits within
  where
    nothing : (from new : List ℕ) (at done : ℕ) → length from ≤ done → new ≡ overlaid (at + done) (drop done from) new
    nothing from new at done long = same_lists _ _ (search (rules, places)) (λ k d h. grind (arith, places))

    plain : (from all : List ℕ) (at len : ℕ) → at + length from ≤ len → len ≤ length all → take len (overlaid at from all) ≡ overlaid at from (take len all)
    plain from all at len fits within = same_lists _ _ (search (rules, places)) (λ k d h. grind (arith, places))

-- a page that holds the same bytes
pub spread_same : (pages : List Page) (i : ℕ) (d new : Page) → i < length pages → page_bytes new ≡ page_bytes (get_or pages i d)
    → spread (set pages i new) ≡ spread pages
spread_same [] i d new lt same = refl
spread_same (page ∷ pages) zero d new lt same = ap (λ (l : List ℕ). l ++ spread pages) same
spread_same (page ∷ pages) (suc i) d new lt same = ap (λ (l : List ℕ). page_bytes page ++ l) (spread_same pages i d new (omega arith) same)

take_nil : (n : ℕ) → take {A = ℕ} n [] ≡ []
take_nil zero = refl
take_nil (suc n) = refl

-- the first pages
pub spread_take : (n : ℕ) (pages : List Page) → spread (take n pages) ≡ take (4096 * n) (spread pages)
spread_take zero pages = refl
spread_take (suc n) [] = sym (take_nil (4096 * suc n))
spread_take (suc n) (page ∷ pages) =
    ap (λ (l : List ℕ). page_bytes page ++ l) (spread_take n pages)
    ∙ front_whole (page_bytes page) (spread pages) (4096 * n) (4096 * suc n) (omega (arith, length-page page))
  where
    front_whole : (front rest : List ℕ) (n m : ℕ) → m ≡ length front + n → front ++ take n rest ≡ take m (front ++ rest)
    front_whole front rest n m is = same_lists _ _ (search (rules, places)) (λ k d h. grind (arith, places))

-- memory that a page has stays where other pages change, and where a page gets memory
pub held_up : (pages : List Page) (i : ℕ) (new : Page) → IsTrue (is_held new) → (k : ℕ) → IsTrue (held_at pages k) → IsTrue (held_at (set pages i new) k)
held_up [] i new held k was = was
held_up (page ∷ pages) zero new held zero was = held
held_up (page ∷ pages) zero new held (suc k) was = was
held_up (page ∷ pages) (suc i) new held zero was = was
held_up (page ∷ pages) (suc i) new held (suc k) was = held_up pages i new held k was

pub held_there : (pages : List Page) (i : ℕ) (new : Page) → i < length pages → IsTrue (is_held new) → IsTrue (held_at (set pages i new) i)
held_there [] i new lt held = absurd (omega arith)
held_there (page ∷ pages) zero new lt held = held
held_there (page ∷ pages) (suc i) new lt held = held_there pages i new (omega arith) held

-- what lies behind the end is left out, or made zero
pub tail_cut : (front : List ℕ) (pages : List Page) (n len : ℕ) → len ≡ length front + 4096 * n → n ≤ length pages
    → front ++ spread (take n pages) ≡ take len (front ++ spread pages) ++ replicate (length (front ++ spread (take n pages)) - len) 0
tail_cut front pages n len is few =
    let all = length-spread pages in
    let cut : front ++ spread (take n pages) ≡ front ++ take (4096 * n) (spread pages) = ap (λ (l : List ℕ). front ++ l) (spread_take n pages) in
    cut ∙ plain front (spread pages) (4096 * n) len is (omega arith)
    ∙ ap (λ (l : List ℕ). take len (front ++ spread pages) ++ replicate (length l - len) 0) (sym cut)
  where
    plain : (front rest : List ℕ) (n len : ℕ) → len ≡ length front + n → n ≤ length rest
        → front ++ take n rest ≡ take len (front ++ rest) ++ replicate (length (front ++ take n rest) - len) 0
    plain front rest n len is few = same_lists _ _ (search (rules, places)) (λ k d h. grind (arith, places))

tail_plain : (all : List ℕ) (len more : ℕ) → len + more ≡ length all
    → overlaid len (replicate more 0) all ≡ take len all ++ replicate (length (overlaid len (replicate more 0) all) - len) 0
tail_plain all len more is = same_lists _ _ (search (rules, places)) (λ k d h. grind (arith, places))

zeros_put : (page : List ℕ) (at : ℕ) → at ≤ length page → take at page ++ replicate (length page - at) 0 ≡ overlaid at (replicate (length page - at) 0) page
zeros_put page at fits = same_lists _ _ (search (rules, places)) (λ k d h. grind (arith, places))

take_front : (front rest : List ℕ) (n len : ℕ) → len ≤ length front + n → take len (front ++ take n rest) ≡ take len (front ++ rest)
take_front front rest n len fits = same_lists _ _ (search (rules, places)) (λ k d h. grind (arith, places))

pub tail_cleared : (front : List ℕ) (pages : List Page) (k at len : ℕ) (d e held cleared : Page) → k < length pages → at ≤ 4096
    → len ≡ length front + (4096 * k + at) → page_bytes held ≡ page_bytes (get_or (take (k + 1) pages) k d)
    → page_bytes cleared ≡ take at (page_bytes (get_or (set (take (k + 1) pages) k held) k e)) ++ replicate (4096 - at) 0
    → front ++ spread (set (set (take (k + 1) pages) k held) k cleared)
    ≡ take len (front ++ spread pages) ++ replicate (length (front ++ spread (set (set (take (k + 1) pages) k held) k cleared)) - len) 0
tail_cleared front pages k at len d e held cleared lt fits is same zeros =
    let short : List Page = set (take (k + 1) pages) k held in
    let few : length (take (k + 1) pages) ≡ k + 1 = omega (arith, length-take (k + 1) pages) in
    let size : length short ≡ k + 1 = omega (arith, few, length-set (take (k + 1) pages) k held) in
    let whole = length-page (get_or short k e) in
    let put : page_bytes cleared ≡ overlaid at (replicate (4096 - at) 0) (page_bytes (get_or short k e)) =
    zeros ∙ ap (λ (n : ℕ). take at (page_bytes (get_or short k e)) ++ replicate (n - at) 0) (sym whole)
    ∙ zeros_put (page_bytes (get_or short k e)) at (omega arith)
    ∙ ap (λ (n : ℕ). overlaid at (replicate (n - at) 0) (page_bytes (get_or short k e))) whole in
    let new : front ++ spread (set short k cleared) ≡ overlaid len (replicate (4096 - at) 0) (front ++ spread short) =
    put_in_page front short k e cleared at len (replicate (4096 - at) 0) (omega arith) (omega (arith, length-replicate {A = ℕ} (4096 - at) 0)) is put in
    let all : front ++ spread short ≡ front ++ take (4096 * (k + 1)) (spread pages) =
    ap (λ (l : List ℕ). front ++ l) (spread_same (take (k + 1) pages) k d held (omega arith) same ∙ spread_take (k + 1) pages) in
    let ends : len + (4096 - at) ≡ length (front ++ spread short) = omega (arith, length-append front (spread short), length-spread short) in
    new ∙ tail_plain (front ++ spread short) len (4096 - at) ends
    ∙ ap (λ (l : List ℕ). l ++ replicate (length (overlaid len (replicate (4096 - at) 0) (front ++ spread short)) - len) 0)
    (ap (take len) all ∙ take_front front (spread pages) (4096 * (k + 1)) len (omega arith))
    ∙ ap (λ (l : List ℕ). take len (front ++ spread pages) ++ replicate (length l - len) 0) (sym new)

-- a content that is longer by zeros
pub grown : (old all : List ℕ) (n end : ℕ) → all ≡ old ++ replicate n 0 → end ≤ length all → length old ≤ end → take end all ≡ padded end old
grown old all n end is fits longer = ap (take end) is ∙ plain old n end (omega (arith, ap length is)) longer
  where
    plain : (old : List ℕ) (n end : ℕ) → end ≤ length (old ++ replicate n 0) → length old ≤ end → take end (old ++ replicate n 0) ≡ padded end old
    plain old n end fits longer = same_lists _ _ (search (rules, places)) (λ k d h. grind (arith, places))

pub zeros_more : (old all : List ℕ) (len : ℕ) → all ≡ old ++ replicate (length all - len) 0 → len ≤ length all
    → all ++ replicate 4096 0 ≡ old ++ replicate (length (all ++ replicate 4096 0) - len) 0
zeros_more old all len is fits =
    ap (λ (l : List ℕ). l ++ replicate 4096 0) is ∙ plain old (length all - len) 4096
    ∙ ap (λ (n : ℕ). old ++ replicate n 0) (let same : length all - len + 4096 ≡ length (all ++ replicate 4096 0) - len = omega
    (arith, length-append all (replicate 4096 0), length-replicate {A = ℕ} 4096 0) in same)
  where
    plain : (old : List ℕ) (n more : ℕ) → (old ++ replicate n 0) ++ replicate more 0 ≡ old ++ replicate (n + more) 0
    plain old n more = same_lists _ _ (search (rules, places)) (λ k d h. grind (arith, places))

-- one page of zeros more
pub spread_push : (front : List ℕ) (pages : List Page) → front ++ spread (pages ++ Zero ∷ []) ≡ (front ++ spread pages) ++ replicate 4096 0
spread_push front pages = ap (λ (l : List ℕ). front ++ l) (pushed pages) ∙ sym (append_assoc front (spread pages) (replicate 4096 0))
  where
    pushed : (pages : List Page) → spread (pages ++ Zero ∷ []) ≡ spread pages ++ replicate 4096 0
    pushed [] = append-nil (replicate 4096 0)
    pushed (page ∷ pages) = ap (λ (l : List ℕ). page_bytes page ++ l) (pushed pages) ∙ sym (append_assoc (page_bytes page) (spread pages) (replicate 4096 0))

pub held_more : (pages : List Page) (from i : ℕ) (new : Page) → i < length pages → IsTrue (is_held new)
    → ((k : ℕ) → from ≤ k → k < i → IsTrue (held_at pages k)) → (k : ℕ) → from ≤ k → k < i + 1 → IsTrue (held_at (set pages i new) k)
held_more pages from i new lt held below k low high = elim (cases_lt k i) [
  | inl less ↦ held_up pages i new held k (below k low less)
  | inr more ↦ subst (λ (n : ℕ). IsTrue (held_at (set pages i new) n)) (let same : i ≡ k = omega arith in same) (held_there pages i new lt held)
]

pub held_push : (pages : List Page) (k : ℕ) → IsTrue (held_at pages k) → IsTrue (held_at (pages ++ Zero ∷ []) k)
held_push [] zero was = was
held_push [] (suc k) was = was
held_push (page ∷ pages) zero was = was
held_push (page ∷ pages) (suc k) was = held_push pages k was

-- the content is what it was where what lies behind it is zero
pub shown_cleared : (old all : List ℕ) (len n : ℕ) → length old ≡ len → all ≡ old ++ replicate n 0 → take len all ≡ old
shown_cleared old all len n size is = ap (take len) is ∙ take_at old (replicate n 0) len size

pub drawn_front : (n : ℕ) (random : Lcg) → n ≤ 4096 → take n (drawn 4096 random) ≡ drawn n random
drawn_front n random fits =
    ap (λ (k : ℕ). take n (drawn k random)) (let same : 4096 ≡ n + (4096 - n) = omega arith in same)
    ∙ ap (take n) (drawn_add n (4096 - n) random) ∙ take_at (drawn n random) _ n (length-drawn n random)
