-- Records of several kinds, each read by the row of its number.
use Rattle.std.proofs.Common.{◌≡◌, ℕ, eqb, List, ◌++◌, Option, Some, None, Ok, refl, sym, ap, subst, ◌∙◌, inl, inr}
use Rattle.std.proofs.lemmas.Bool.{eqb-true}
use Rattle.fields.specs.Parts.{Part, spelled, AllFit}
use Rattle.fields.specs.Reading.{Reads}
use Rattle.fields.specs.Laws.{IsBytes, Takes, IsField, takes}
use Rattle.fields.specs.Numbers.{chosen}
use Rattle.stamp_store.specs.Reading.{row_at, row, no_row}

-- the values that each byte stands for, and how they are read
pub record Rows {X : Type 0} (number : X → ℕ) (parts : X → List Part) (rows : ℕ → Option (Reads X)) : Type 0 where
  pub at_row : (n : ℕ) (at : Reads X) → rows n ≡ Some at → IsField (λ x. number x ≡ n) parts at

abbrev pub made : {A : Type 0} → A → Option A
made x = Some x

some_is : {A : Type 0} (x y : A) → made x ≡ made y → x ≡ y
some_is x y e = cc

pub none_not_some : {A : Type 0} (x : A) → None ≡ made x → ⊥
none_not_some x e = cc

pub with_row : {X : Type 0} {number : X → ℕ} {parts : X → List Part} {at : Reads X} {others : ℕ → Option (Reads X)} (value : ℕ)
    → IsField (λ x. number x ≡ value) parts at → Rows number parts others → Rows number parts (row value at others)
with_row {X} {number} {parts} {at} {others} value field rest = record {
  at_row = λ n found e.
      elim (chosen (eqb n value) (made at) (others n) (made found) e) [
        | inl w ↦
            let here : value ≡ n = sym (eqb-true n value w.0) in
            subst (λ (k : ℕ). IsField (λ x. number x ≡ k) parts found) here
            (subst (λ (a : Reads X). IsField (λ x. number x ≡ value) parts a) (some_is at found w.1) field)
        | inr w ↦ rest.at_row n found w.1
      ];
}

pub without_rows : {X : Type 0} {number : X → ℕ} {parts : X → List Part} → Rows number parts no_row
without_rows {X} {number} {parts} = record { at_row = λ n found e. absurd (none_not_some found e) }

-- the byte has a row
pub record HasRow {X : Type 0} (rows : ℕ → Option (Reads X)) (n : ℕ) : Type 0 where
  pub at : Reads X
  pub is : rows n ≡ Some at

row_read : {X : Type 0} {number : X → ℕ} {parts : X → List Part} {rows : ℕ → Option (Reads X)} → Rows number parts rows → (n here : ℕ)
    (bytes : List ℕ) (x : X) (rest : List ℕ) (found : Option (Reads X)) → rows n ≡ found → IsBytes bytes → row_at found here bytes ≡ Ok (x, rest)
    → (number x ≡ n) × Takes bytes (parts x) rest
row_read known n here bytes x rest None is isb e = absurd cc
row_read known n here bytes x rest (Some at) is isb e = takes (known.at_row n at is) bytes x rest isb e

-- what the row of a number reads
pub rows_read : {X : Type 0} {number : X → ℕ} {parts : X → List Part} {rows : ℕ → Option (Reads X)} → Rows number parts rows → (n here : ℕ)
    (bytes : List ℕ) (x : X) (rest : List ℕ) → IsBytes bytes → row_at (rows n) here bytes ≡ Ok (x, rest)
    → (number x ≡ n) × Takes bytes (parts x) rest
rows_read {rows = rows} known n here bytes x rest isb e = row_read known n here bytes x rest (rows n) refl isb e

-- what is spelled is read by the row of its number
pub rows_again : {X : Type 0} {number : X → ℕ} {parts : X → List Part} {rows : ℕ → Option (Reads X)} → Rows number parts rows
    → (here : ℕ) (x : X) (rest : List ℕ) → HasRow rows (number x) → AllFit (parts x)
    → row_at (rows (number x)) here (spelled (parts x) ++ rest) ≡ Ok (x, rest)
rows_again {X} {number} {parts} {rows} known here x rest has fits =
    ap (λ (found : Option (Reads X)). row_at found here (spelled (parts x) ++ rest)) has.is
    ∙ (known.at_row (number x) has.at has.is).again x rest refl fits
