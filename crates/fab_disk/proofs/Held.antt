-- Pages without memory of their own are drawn whole, or not at all.
use Rattle.std.proofs.Common.{◌≡◌, inl, inr, ℕ, ◌+◌, ◌*◌, ◌<◌, ◌≤◌, Bool, false, ◌||◌, ◌&&◌, List, [], ◌∷◌, min, refl, sym, ◌∙◌, ap, subst, arith, nat_lt}
use Rattle.std.specs.Prelude.{nat_le}
use Rattle.std.proofs.lemmas.Bool.{cases_lt, false≢true}
use Rattle.std.proofs.lemmas.Bool.Decides.{nat_tests}
use Rattle.fab_disk.specs.declared.pages.Page.{Page}
use Rattle.fab_disk.specs.Pages.{held_at}
use Rattle.fab_disk.specs.Past.{PastWrite, Past, wrote, synced, past_of, Fits}
use Rattle.fab_disk.specs.declared.medium.Step.{Step}
use Rattle.fab_disk.proofs.Uncertain.{same_places}
use Rattle.fab_disk.specs.Held.{settled_size, HoldsWritten, HoldsSeam}
use Rattle.fab_disk.specs.Settled.{is_uncertain}
use Rattle.fab_disk.specs.Stored.{HoldsRange, HoldsEnd, KeepsHeld}
use Rattle.fab_disk.specs.Uncertain.{IsSameWithin}

outside : (at len i : ℕ) → (at ≤ i → i < at + len → ⊥) → (nat_le at i && nat_lt i (at + len)) ≡ false
outside at len i not = elim (cases_lt i at) [
  | inl low ↦ grind (arith, nat_tests)
  | inr high ↦ elim (cases_lt i (at + len)) [
    | inl within ↦ absurd (not high within)
    | inr above ↦ grind (arith, nat_tests)
  ]
]

-- a place of a page without memory is uncertain where it lies behind the end that the content had at the last sync
pub unheld_place : (front : ℕ) (pages : List Page) (past : List Past) (size k j : ℕ) → HoldsWritten front pages past → held_at pages k ≡ false
    → j < 4096 → is_uncertain past size (front + (4096 * k + j)) ≡ nat_le (settled_size past size) (front + (4096 * k + j))
unheld_place front pages [] size k j held none lt = refl
unheld_place front pages (synced ∷ older) size k j held none lt = refl
unheld_place front pages (wrote w ∷ older) size k j held none lt =
    ap (λ (b : Bool). b || is_uncertain older w.length_before (front + (4096 * k + j)))
    (outside w.at w.len (front + (4096 * k + j)) (λ low high. false≢true (sym none ∙ held.0 k j lt low high)))
    ∙ unheld_place front pages older w.length_before k j held.1 none lt

pub unheld_page : (front : ℕ) (pages : List Page) (past : List Past) (size k : ℕ) → HoldsWritten front pages past → HoldsSeam front pages past size
    → held_at pages k ≡ false → IsSameWithin (is_uncertain past size) (front + 4096 * k) size
unheld_page front pages past size k held seam none = λ j lt within.
    let settled : ℕ = settled_size past size in
    let here : is_uncertain past size (front + 4096 * k + j) ≡ nat_le settled (front + 4096 * k + j) =
    ap (is_uncertain past size) (let same : front + 4096 * k + j ≡ front + (4096 * k + j) = omega arith in same)
    ∙ unheld_place front pages past size k j held none lt
    ∙ ap (nat_le settled) (let same : front + (4096 * k + j) ≡ front + 4096 * k + j = omega arith in same) in
    let first : is_uncertain past size (front + 4096 * k) ≡ nat_le settled (front + 4096 * k) =
    ap (is_uncertain past size) (let same : front + 4096 * k ≡ front + (4096 * k + 0) = omega arith in same)
    ∙ unheld_place front pages past size k 0 held none (omega arith)
    ∙ ap (nat_le settled) (let same : front + (4096 * k + 0) ≡ front + 4096 * k = omega arith in same) in
    here ∙ both settled (front + 4096 * k) j (λ low high. false≢true (sym none ∙ seam (omega arith) k low (omega arith))) ∙ sym first
  where
    both : (settled start j : ℕ) → (start < settled → settled ≤ start + j → ⊥) → nat_le settled (start + j) ≡ nat_le settled start
    both settled start j not = elim (cases_lt start settled) [
      | inl less ↦ elim (cases_lt (start + j) settled) [
        | inl before ↦ grind (arith, nat_tests)
        | inr behind ↦ absurd (not less behind)
      ]
      | inr more ↦ grind (arith, nat_tests)
    ]

-- the same, whatever was saved
pub unheld_by_steps : (front : ℕ) (pages : List Page) (steps : List Step) (saved : List ℕ) (size k : ℕ)
    → HoldsWritten front pages (past_of steps saved) → HoldsSeam front pages (past_of steps saved) size → held_at pages k ≡ false
    → IsSameWithin (is_uncertain (past_of steps []) size) (front + 4096 * k) size
unheld_by_steps front pages steps saved size k held seam none = λ j lt within.
    same_places steps [] saved size (front + 4096 * k + j)
    ∙ unheld_page front pages (past_of steps saved) size k held seam none j lt within
    ∙ same_places steps saved [] size (front + 4096 * k)

-- no sync was of a longer content
settled_le : (past : List Past) (size : ℕ) → Fits past size → settled_size past size ≤ size
settled_le [] size fits = omega arith
settled_le (synced ∷ older) size fits = omega arith
settled_le (wrote w ∷ older) size fits = omega (arith, settled_le older w.length_before fits.1, fits.0.no_shorter)

-- what was written goes on having memory
written_on : (front : ℕ) (pages new : List Page) (past : List Past) (size : ℕ) → Fits past size → KeepsHeld front size pages new
    → HoldsWritten front pages past → HoldsWritten front new past
written_on front pages new [] size fits keeps held = tt
written_on front pages new (synced ∷ older) size fits keeps held = tt
written_on front pages new (wrote w ∷ older) size fits keeps held = (
  λ k j lt low high. keeps k (omega (arith, fits.0.reach)) (held.0 k j lt low high),
  written_on front pages new older w.length_before fits.1 (λ k lt. keeps k (omega (arith, fits.0.no_shorter))) held.1,
)

pub written_more : (front : ℕ) (pages new : List Page) (past : List Past) (w : PastWrite) (at n size size_after : ℕ) → Fits past size
    → HoldsWritten front pages past → KeepsHeld front size pages new → HoldsRange front new at (at + n) → w.at ≡ min at size_after → w.len ≡ n
    → (1 ≤ n → at + n ≤ size_after) → HoldsWritten front new (wrote w ∷ past)
written_more front pages new past w at n size size_after fits held keeps range starts len reach = (
  λ k j lt low high. let some : 1 ≤ n = omega arith in range k j lt (omega (arith, reach some)) (omega (arith, reach some)),
  written_on front pages new past size fits keeps held,
)

pub seam_more : (front : ℕ) (pages new : List Page) (past : List Past) (w : PastWrite) (size size_after : ℕ) → Fits past size → w.length_before ≡ size
    → HoldsSeam front pages past size → KeepsHeld front size pages new → (size < size_after → HoldsEnd front size new)
    → size ≤ size_after → HoldsSeam front new (wrote w ∷ past) size_after
seam_more front pages new past w size size_after fits before seam keeps edge longer =
    subst (λ (n : ℕ). settled_size past n < size_after → HoldsEnd front (settled_size past n) new) (sym before) at_size
  where
    at_size : settled_size past size < size_after → HoldsEnd front (settled_size past size) new
    at_size less = elim (cases_lt (settled_size past size) size) [
      | inl behind ↦ λ k low high. keeps k (omega arith) (seam behind k low high)
      | inr all ↦ subst (λ (n : ℕ). HoldsEnd front n new) (let same : size ≡ settled_size past size = omega (arith, settled_le past size fits) in same)
          (edge (omega (arith, settled_le past size fits)))
    ]

-- and so it does after the newest write was undone
pub same_written : (front : ℕ) (pages new : List Page) (past : List Past) → ((k : ℕ) → held_at new k ≡ held_at pages k) → HoldsWritten front pages past
    → HoldsWritten front new past
same_written front pages new [] same held = tt
same_written front pages new (synced ∷ older) same held = tt
same_written front pages new (wrote w ∷ older) same held =
    (λ k j lt low high. same k ∙ held.0 k j lt low high, same_written front pages new older same held.1)

pub undone_fits : (past older : List Past) (w : PastWrite) (size now : ℕ) → past ≡ wrote w ∷ older → Fits past size → now ≡ min w.length_before size
    → Fits older now
undone_fits past older w size now is fits short =
    let both : Fits (wrote w ∷ older) size = subst (λ (p : List Past). Fits p size) is fits in
    subst (Fits older) (let same : w.length_before ≡ now = omega (arith, both.0.no_shorter) in same) both.1

pub undone_written : (front : ℕ) (pages new : List Page) (past older : List Past) (w : PastWrite) → past ≡ wrote w ∷ older
    → HoldsWritten front pages past → ((k : ℕ) → held_at new k ≡ held_at pages k) → HoldsWritten front new older
undone_written front pages new past older w is held same =
    let both : HoldsWritten front pages (wrote w ∷ older) = subst (λ (p : List Past). HoldsWritten front pages p) is held in
    same_written front pages new older same both.1

pub undone_seam : (front : ℕ) (pages new : List Page) (past older : List Past) (w : PastWrite) (size now : ℕ) → past ≡ wrote w ∷ older → Fits past size
    → HoldsSeam front pages past size → now ≡ min w.length_before size → ((k : ℕ) → held_at new k ≡ held_at pages k)
    → HoldsSeam front new older now
undone_seam front pages new past older w size now is fits seam short same =
    let both : Fits (wrote w ∷ older) size = subst (λ (p : List Past). Fits p size) is fits in
    let had : HoldsSeam front pages (wrote w ∷ older) size = subst (λ (p : List Past). HoldsSeam front pages p size) is seam in
    subst (λ (n : ℕ). HoldsSeam front new older n) (let equal : w.length_before ≡ now = omega (arith, both.0.no_shorter) in equal)
    (λ less k low high. same k ∙ had (omega (arith, both.0.no_shorter, less)) k low high)

-- the bytes that stood there before go back into pages that have memory
pub undone_range : (front : ℕ) (pages : List Page) (past older : List Past) (w : PastWrite) (size n : ℕ) → past ≡ wrote w ∷ older → Fits past size
    → HoldsWritten front pages past → n ≤ w.len → HoldsRange front pages w.at (w.at + n)
undone_range front pages past older w size n is fits held few =
    let both : HoldsWritten front pages (wrote w ∷ older) = subst (λ (p : List Past). HoldsWritten front pages p) is held in
    λ k j lt low high. both.0 k j lt low (omega arith)

pub same_seam : (front : ℕ) (pages new : List Page) (past : List Past) (size : ℕ) → ((k : ℕ) → held_at new k ≡ held_at pages k)
    → HoldsSeam front pages past size → HoldsSeam front new past size
same_seam front pages new past size same seam = λ less k low high. same k ∙ seam less k low high
