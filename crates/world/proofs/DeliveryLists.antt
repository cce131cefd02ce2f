-- Notes by place: which messages were delivered, and which are left.
use Rattle.std.proofs.Common.{◌≡◌, ℕ, zero, suc, ◌+◌, ◌<◌, ◌≤◌, Bool, false, List, [], ◌∷◌, ◌++◌, get_or, refl, subst, ⊎_elim, arith}
use Rattle.std.proofs.lemmas.Bool.{cases_lt}

-- a place past the end reads as no note
pub padded : (xs : List Bool) (k : ℕ) → get_or (xs ++ false ∷ []) k false ≡ get_or xs k false
padded [] zero = refl
padded [] (suc k) = refl
padded (x ∷ xs) zero = refl
padded (x ∷ xs) (suc k) = padded xs k

-- one place more, or the last
pub next_place : (P : ℕ → Type 0) (place : ℕ) → ((k : ℕ) → k < place → P k) → P place → (k : ℕ) → k < place + 1 → P k
next_place P place before here k less = ⊎_elim
    (λ (earlier : k < place). before k earlier)
    (λ (later : place ≤ k). subst P (let same : place ≡ k = omega arith in same) here)
    (cases_lt k place)
