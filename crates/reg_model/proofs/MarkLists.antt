-- One mark more: the numbers that begin, and whether an operation has begun.
use Rattle.std.proofs.Common.{◌≡◌, ℕ, ◌+◌, nat_eq, ◌⊎◌, ◌↔◌, inl, inr, List, ◌∷◌, ◌++◌, Option, Some, IsSome, MatchOption, refl, sym, subst}
use Rattle.std.specs.Bool.{⊤}
use Rattle.std.specs.Option.{option_to_list}
use Rattle.std.specs.List.Sorted.{IsStrictlyIncreasing}
use Rattle.std.proofs.Common.{◌<◌}
use Rattle.std.proofs.lemmas.Bool.{cond_both, eqb-true}
use Rattle.fab_base.specs.declared.asks.Ask.{Ask}
use Rattle.fab_base.specs.declared.identities.BrickId.{BrickId}
use Rattle.reg_model.specs.declared.marks.Mark.{Mark}
use Rattle.reg_model.specs.declared.marks.Mark.TheVariants.{Begin, End, Crash}
use Rattle.reg_model.specs.Marks.{Life, life_of, ending_of, begun_numbers}
use Rattle.reg_model.proofs.Places.{rises-next}

-- a mark that is no Begin adds no number
pub begun_numbers-other : (mark : Mark) (marks : List Mark) → ((p k : ℕ) (b : BrickId) (ask : Ask) → mark ≡ Begin p k b ask → ⊥)
    → begun_numbers (mark ∷ marks) ≡ begun_numbers marks
begun_numbers-other (Begin p k b ask) marks other = absurd (other p k b ask refl)
begun_numbers-other (End p k answer) marks other = refl
begun_numbers-other (Crash p b) marks other = refl

-- and begins no operation
pub life_of-other : (mark : Mark) (marks : List Mark) (n : ℕ) → ((p k : ℕ) (b : BrickId) (ask : Ask) → mark ≡ Begin p k b ask → ⊥)
    → life_of (mark ∷ marks) n ≡ life_of marks n
life_of-other (Begin p k b ask) marks n other = absurd (other p k b ask refl)
life_of-other (End p k answer) marks n other = refl
life_of-other (Crash p b) marks n other = refl

-- an operation that begins in marks after a Begin is that Begin's, or begins in the rest
pub life_of-begin : (p k : ℕ) (b : BrickId) (ask : Ask) (marks : List Mark) (n : ℕ) → IsSome (life_of (Begin p k b ask ∷ marks) n)
    → (k ≡ n) ⊎ IsSome (life_of marks n)
life_of-begin p k b ask marks n =
    cond_both (nat_eq k n) (Some (record { begin = p; brick = b.0; ask = ask; ending = ending_of marks n b.0 (p + 1) })) (life_of marks n)
    (λ (life : Option Life). IsSome life → (k ≡ n) ⊎ IsSome (life_of marks n))
    (λ same begun. inl (eqb-true k n same))
    (λ other begun. inr begun)

-- a number that is above the last one is the last one from then on
pub rises_on : (all here rest : List ℕ) (last later : Option ℕ) (n : ℕ)
    → IsStrictlyIncreasing all ↔ IsStrictlyIncreasing (option_to_list last ++ here)
    → here ≡ n ∷ rest → MatchOption last ⊤ (λ l. l < n) → later ≡ Some n
    → IsStrictlyIncreasing all ↔ IsStrictlyIncreasing (option_to_list later ++ rest)
rises_on all here rest last later n so_far next above is =
    let step = rises-next last n rest above in
    let Rises : List ℕ → Type 0 = λ xs. IsStrictlyIncreasing (option_to_list last ++ xs) in
    let After : Option ℕ → Type 0 = λ o. IsStrictlyIncreasing (option_to_list o ++ rest) in (
      λ up. subst After (sym is) (step.0 (subst Rises next (so_far.0 up))),
      λ up. so_far.1 (subst Rises (sym next) (step.1 (subst After is up))),
    )

-- a mark that adds no number leaves the last one
pub rises_same : (all here rest : List ℕ) (last later : Option ℕ) → IsStrictlyIncreasing all ↔ IsStrictlyIncreasing (option_to_list last ++ here)
    → here ≡ rest → later ≡ last → IsStrictlyIncreasing all ↔ IsStrictlyIncreasing (option_to_list later ++ rest)
rises_same all here rest last later so_far next is =
    let Rises : List ℕ → Type 0 = λ xs. IsStrictlyIncreasing (option_to_list last ++ xs) in
    let After : Option ℕ → Type 0 = λ o. IsStrictlyIncreasing (option_to_list o ++ rest) in
    (λ up. subst After (sym is) (subst Rises next (so_far.0 up)), λ up. so_far.1 (subst Rises (sym next) (subst After is up)))
