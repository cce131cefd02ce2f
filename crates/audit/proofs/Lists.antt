-- An element of a list by its place, where the list grows or changes.
use Rattle.std.proofs.Common.{◌≡◌, ◌≢◌, ℕ, zero, suc, ◌+◌, ◌<◌, ◌≤◌, List, [], ◌∷◌, ◌++◌, length, take, ◌⊎◌, inl, inr, Some, None, refl, ap, arith}
use Rattle.std.specs.Prelude.{slice_get, slice_set}

-- an element of what stood there before
pub get_front : {A : Type 0} (xs ys : List A) (k : ℕ) → k < length xs → slice_get (xs ++ ys) k ≡ slice_get xs k
get_front [] ys k lt = absurd (omega arith)
get_front (x ∷ xs) ys zero lt = refl
get_front (x ∷ xs) ys (suc k) lt = get_front xs ys k (omega arith)

pub get_found : {A : Type 0} (xs ys : List A) (k : ℕ) (x : A) → slice_get xs k ≡ Some x → slice_get (xs ++ ys) k ≡ Some x
get_found [] ys k x is = absurd (let never : None ≡ Some x = is in cc)
get_found (y ∷ xs) ys zero x is = is
get_found (y ∷ xs) ys (suc k) x is = get_found xs ys k x is

-- the last element
pub get_last : {A : Type 0} (xs : List A) (y : A) (k : ℕ) → k ≡ length xs → slice_get (xs ++ y ∷ []) k ≡ Some y
get_last [] y zero is = refl
get_last [] y (suc k) is = absurd (omega arith)
get_last (x ∷ xs) y zero is = absurd (omega arith)
get_last (x ∷ xs) y (suc k) is = get_last xs y k (omega arith)

-- nothing behind the last
pub get_past : {A : Type 0} (xs : List A) (k : ℕ) → length xs ≤ k → slice_get xs k ≡ None
get_past [] k le = refl
get_past (x ∷ xs) zero le = absurd (omega arith)
get_past (x ∷ xs) (suc k) le = get_past xs k (omega arith)

pub get_within : {A : Type 0} (xs : List A) (k : ℕ) (x : A) → slice_get xs k ≡ Some x → k < length xs
get_within [] k x is = absurd (let never : None ≡ Some x = is in cc)
get_within (y ∷ xs) zero x is = omega arith
get_within (y ∷ xs) (suc k) x is = let rest : k < length xs = get_within xs k x is in omega arith

pub get_beyond : {A : Type 0} (xs : List A) (k : ℕ) → slice_get xs k ≡ None → length xs ≤ k
get_beyond [] k is = omega arith
get_beyond (y ∷ xs) zero is = absurd (let never : Some y ≡ None = is in cc)
get_beyond (y ∷ xs) (suc k) is = let rest : length xs ≤ k = get_beyond xs k is in omega arith

-- an element that was put in, and the others
pub get_set : {A : Type 0} (xs : List A) (k : ℕ) (y : A) → k < length xs → slice_get (slice_set xs k y) k ≡ Some y
get_set [] k y lt = absurd (omega arith)
get_set (x ∷ xs) zero y lt = refl
get_set (x ∷ xs) (suc k) y lt = get_set xs k y (omega arith)

pub get_other : {A : Type 0} (xs : List A) (j k : ℕ) (y : A) → j ≢ k → slice_get (slice_set xs k y) j ≡ slice_get xs j
get_other [] j k y other = refl
get_other (x ∷ xs) zero zero y other = absurd (other refl)
get_other (x ∷ xs) zero (suc k) y other = refl
get_other (x ∷ xs) (suc j) zero y other = refl
get_other (x ∷ xs) (suc j) (suc k) y other = get_other xs j k y (λ e. other (ap suc e))

pub length_set : {A : Type 0} (xs : List A) (k : ℕ) (y : A) → length (slice_set xs k y) ≡ length xs
length_set [] k y = refl
length_set (x ∷ xs) zero y = refl
length_set (x ∷ xs) (suc k) y = let rest : length (slice_set xs k y) ≡ length xs = length_set xs k y in omega arith

pub length_push : {A : Type 0} (xs : List A) (y : A) → length (xs ++ y ∷ []) ≡ length xs + 1
length_push [] y = refl
length_push (x ∷ xs) y = let rest : length (xs ++ y ∷ []) ≡ length xs + 1 = length_push xs y in omega arith

pub same_some : {A : Type 0} (a b : A) → Some a ≡ Some b → a ≡ b
same_some a b e = cc

-- an element of a list that has one more at its end: it stood there before, with the same before it, or it is the last
pub push_cases : {A : Type 0} (xs : List A) (y x : A) (k : ℕ) → slice_get (xs ++ y ∷ []) k ≡ Some x
    → ((slice_get xs k ≡ Some x) × (take k (xs ++ y ∷ []) ≡ take k xs)) ⊎ ((y ≡ x) × (take k (xs ++ y ∷ []) ≡ xs) × (k ≡ length xs))
push_cases [] y x zero is = inr (same_some y x is, refl, refl)
push_cases [] y x (suc k) is = absurd (let never : None ≡ Some x = is in cc)
push_cases (z ∷ xs) y x zero is = inl (is, refl)
push_cases (z ∷ xs) y x (suc k) is =
    onto z (push_cases xs y x k is)
  where
    onto : (z : _) → ((slice_get xs k ≡ Some x) × (take k (xs ++ y ∷ []) ≡ take k xs)) ⊎ ((y ≡ x) × (take k (xs ++ y ∷ []) ≡ xs) × (k ≡ length xs))
        → ((slice_get xs k ≡ Some x) × (z ∷ take k (xs ++ y ∷ []) ≡ z ∷ take k xs)) ⊎ ((y ≡ x) × (z ∷ take k (xs ++ y ∷ []) ≡ z ∷ xs) × (suc k ≡ length (z ∷ xs)))
    onto z (inl h) = inl (h.0, ap (λ l. z ∷ l) h.1)
    onto z (inr h) = inr (h.0, ap (λ l. z ∷ l) h.1, ap suc h.2)

-- nothing is put in behind the last
pub set_past : {A : Type 0} (xs : List A) (k : ℕ) (y : A) → length xs ≤ k → slice_set xs k y ≡ xs
set_past [] k y le = refl
set_past (x ∷ xs) zero y le = absurd (omega arith)
set_past (x ∷ xs) (suc k) y le = ap (λ l. x ∷ l) (set_past xs k y (omega arith))
