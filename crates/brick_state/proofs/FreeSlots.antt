-- A slot that no version names.
use Rattle.std.proofs.Common.{◌≡◌, ◌≢◌, ◌⊎◌, inl, inr, ⊎_elim, ℕ, zero, suc, ◌+◌, ◌<◌, ◌≤◌, Bool, true, false, cond, ltb, not, Option, Some, None, List, [], ◌∷◌, length, map, get_or, set, replicate, refl, sym, ap, subst, ◌∙◌, arith}
use Rattle.std.specs.List.{AllByRecursion, Contains, position, position_or_len}
use Rattle.std.specs.Map.{values_of}
use Rattle.std.proofs.lemmas.Bool.Decides.{nat_tests}
use Rattle.std.proofs.lemmas.List.{length-append, length-map, length-set, length-replicate}
use Rattle.std.proofs.lemmas.List.Sums.{sum_by-cons, fails_before_first, passes_at_first}
use Rattle.brick_state.specs.Entries.{Entry}
use Rattle.brick_state.specs.States.{Place, StripeOf, weight, live_in}
use Rattle.brick_state.specs.Slots.{slot_of, slots_in, IsFree}

-- no more slots are named than there are live records
pub slots_few : (stripes : List (Place × StripeOf Entry)) → length (slots_in stripes) ≤ live_in stripes
unfolding slots_in
slots_few [] = omega arith
slots_few (e ∷ stripes) = omega (
  arith,
  slots_few stripes,
  length-append (map slot_of e.1.added) (slots_in stripes),
  length-map e.1.added slot_of,
  sum_by-cons weight e.1 (values_of stripes),
)

-- the flags of these slots are set
unfoldable marked : List Bool → List ℕ → List Bool
marked flags [] = flags
marked flags (slot ∷ slots) = marked (set flags slot true) slots

-- flags that are not set
abbrev unset : List Bool → ℕ
unset [] = 0
unset (true ∷ flags) = unset flags
unset (false ∷ flags) = unset flags + 1

unset_set : (flags : List Bool) (i : ℕ) → unset flags ≤ unset (set flags i true) + 1
unset_set [] zero = omega arith
unset_set [] (suc i) = omega arith
unset_set (true ∷ flags) zero = omega arith
unset_set (false ∷ flags) zero = omega arith
unset_set (true ∷ flags) (suc i) = unset_set flags i
unset_set (false ∷ flags) (suc i) = omega (arith, unset_set flags i)

marked_few : (flags : List Bool) (used : List ℕ) → unset flags ≤ unset (marked flags used) + length used
unfolding marked
marked_few flags [] = omega arith
marked_few flags (slot ∷ used) = omega (arith, marked_few (set flags slot true) used, unset_set flags slot)

none_unset : (flags : List Bool) → ((k : ℕ) → k < length flags → not (get_or flags k true) ≡ false) → unset flags ≡ 0
none_unset [] all = refl
none_unset (true ∷ flags) all = none_unset flags (λ k lt. all (suc k) (omega (arith, lt)))
none_unset (false ∷ flags) all = absurd (differ (all 0 (omega arith)))
  where
    differ : not false ≡ false → ⊥
    differ h = cc

unset_all : (n : ℕ) → unset (replicate n false) ≡ n
unset_all zero = refl
unset_all (suc n) = omega (arith, unset_all n)

marked_length : (flags : List Bool) (used : List ℕ) → length (marked flags used) ≡ length flags
unfolding marked
marked_length flags [] = refl
marked_length flags (slot ∷ used) = marked_length (set flags slot true) used ∙ length-set flags slot true

-- a flag once set stays so
set_keeps : (flags : List Bool) (i k : ℕ) → get_or flags k true ≡ true → get_or (set flags i true) k true ≡ true
set_keeps [] zero k h = h
set_keeps [] (suc i) k h = h
set_keeps (b ∷ flags) zero zero h = refl
set_keeps (b ∷ flags) zero (suc k) h = h
set_keeps (b ∷ flags) (suc i) zero h = h
set_keeps (b ∷ flags) (suc i) (suc k) h = set_keeps flags i k h

set_here : (flags : List Bool) (i : ℕ) → get_or (set flags i true) i true ≡ true
set_here [] zero = refl
set_here [] (suc i) = refl
set_here (b ∷ flags) zero = refl
set_here (b ∷ flags) (suc i) = set_here flags i

marked_keeps : (flags : List Bool) (used : List ℕ) (k : ℕ) → get_or flags k true ≡ true → get_or (marked flags used) k true ≡ true
unfolding marked
marked_keeps flags [] k h = h
marked_keeps flags (slot ∷ used) k h = marked_keeps (set flags slot true) used k (set_keeps flags slot k h)

unused_of : (flags : List Bool) (used : List ℕ) (k : ℕ) → get_or (marked flags used) k true ≡ false → AllByRecursion (λ other. other ≢ k) used
unfolding marked
unused_of flags [] k h = tt
unused_of flags (slot ∷ used) k h = (other, unused_of (set flags slot true) used k h)
  where
    differ : true ≡ false → ⊥
    differ e = cc

    other : slot ≡ k → ⊥
    other is = differ (sym (marked_keeps (set flags slot true) used k (subst (λ (n : ℕ). get_or (set flags slot true) n true ≡ true) is
        (set_here flags slot))) ∙ h)

-- only the flags of used slots are set
set_only : (flags : List Bool) (i k : ℕ) → get_or (set flags i true) k false ≡ true → (i ≡ k) ⊎ (get_or flags k false ≡ true)
set_only [] zero k h = inr h
set_only [] (suc i) k h = inr h
set_only (b ∷ flags) zero zero h = inl refl
set_only (b ∷ flags) zero (suc k) h = inr h
set_only (b ∷ flags) (suc i) zero h = inr h
set_only (b ∷ flags) (suc i) (suc k) h = ⊎_elim (λ e. inl (ap suc e)) (λ e. inr e) (set_only flags i k h)

used_of : (flags : List Bool) (used : List ℕ) (k : ℕ) → get_or (marked flags used) k false ≡ true → (get_or flags k false ≡ true) ⊎ Contains used k
unfolding marked
used_of flags [] k h = inl h
used_of flags (slot ∷ used) k h = ⊎_elim (λ set. ⊎_elim (λ is. inr (0, omega arith, is)) (λ was. inl was) (set_only flags slot k set))
    (λ more. inr (suc more.0, omega (arith, more.1), more.2)) (used_of (set flags slot true) used k h)

none_set : (n k : ℕ) → get_or (replicate n false) k false ≡ false
none_set zero zero = refl
none_set zero (suc k) = refl
none_set (suc n) zero = refl
none_set (suc n) (suc k) = none_set n k

-- the first flag that is not set is that of the least free slot, and with fewer used slots than flags there is one
free_of : (slots : ℕ) (used : List ℕ) (i : ℕ) → position not (marked (replicate slots false) used) ≡ Some i → IsFree slots used i
free_of slots used i h = by (ltb p (length flags)) refl h
  where
    flags : List Bool
    flags = marked (replicate slots false) used

    p : ℕ
    p = position_or_len not flags

    len : length flags ≡ slots
    len = marked_length (replicate slots false) used ∙ length-replicate slots false

    of_not : (b : Bool) → not b ≡ true → b ≡ false
    of_not false e = refl
    of_not true e = absurd cc

    is_set : (b : Bool) → not b ≡ false → b ≡ true
    is_set true e = refl
    is_set false e = absurd cc

    differ : true ≡ false → ⊥
    differ e = cc

    lower : (k : ℕ) → k < p → Contains used k
    lower k before =
        ⊎_elim (λ set. absurd (differ (sym set ∙ none_set slots k))) (λ more. more)
        (used_of (replicate slots false) used k (is_set (get_or flags k false) (fails_before_first not flags k false before)))

    by : (b : Bool) → ltb p (length flags) ≡ b → cond b (Some p) None ≡ Some i → IsFree slots used i
    by false at is = absurd cc
    by true at is =
        let lt : p < length flags = grind (arith, nat_tests, at) in
        let same : p ≡ i = cc in
        subst (λ (k : ℕ). IsFree slots used k) same (record {
          is_slot = omega (arith, lt, len);
          unused = unused_of (replicate slots false) used p (of_not (get_or flags p true) (passes_at_first not flags true lt));
          least = lower;
        })

some_free : (slots : ℕ) (used : List ℕ) → length used < slots → position not (marked (replicate slots false) used) ≡ None → ⊥
some_free slots used few h = by (ltb p (length flags)) refl h
  where
    flags : List Bool
    flags = marked (replicate slots false) used

    p : ℕ
    p = position_or_len not flags

    by : (b : Bool) → ltb p (length flags) ≡ b → cond b (Some p) None ≡ None → ⊥
    by true at is = cc
    by false at is =
        let past : length flags ≤ p = grind (arith, nat_tests, at) in
        let none : unset flags ≡ 0 = none_unset flags (λ k lt. fails_before_first not flags k true (omega (arith, lt, past))) in
        omega (arith, none, few, marked_few (replicate slots false) used, unset_all slots)

-- with fewer used slots than there are, there is a free one
pub any_free : (slots : ℕ) (used : List ℕ) → length used < slots → (i : ℕ) × IsFree slots used i
any_free slots used few = by (position not (marked (replicate slots false) used)) refl
  where
    by : (found : Option ℕ) → position not (marked (replicate slots false) used) ≡ found → (i : ℕ) × IsFree slots used i
    by None at = absurd (some_free slots used few at)
    by (Some i) at = (i, free_of slots used i at)
