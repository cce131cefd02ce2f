-- Blocks of a buffer, written in their places.
use Rattle.std.proofs.Common.{◌≡◌, ◌≢◌, ℕ, suc, ◌+◌, ◌-◌, ◌*◌, ◌<◌, ◌≤◌, ◌++◌, List, length, get_or, inl, inr, sym, ap, ◌∙◌, arith}
use Rattle.std.proofs.Math.Nat.{mul-le-mul_right}
use Rattle.std.proofs.lemmas.Nat.{mul-add-lt}
use Rattle.std.proofs.lemmas.Bool.{cases_lt}
use Rattle.std.proofs.lemmas.List.{get_or_append_left, get_or-append_right}
use Rattle.rs_code.specs.Stripes.{byte_of, WritesBlock, WritesBlocks}

-- past the front and a part of this length, what comes behind
get_or-behind : (front part back : List ℕ) (at size n : ℕ) → length front ≡ at → length part ≡ size → at + size ≤ n
    → get_or (front ++ (part ++ back)) n 0 ≡ get_or back (n - at - size) 0
get_or-behind front part back at size n before long past =
    get_or-append_right front (part ++ back) at n 0 before (omega arith)
    ∙ get_or-append_right part back size (n - at) 0 long (omega arith)

-- where a part of a block's length is replaced, that block is written
pub block-written : (size k : ℕ) (byte : ℕ → ℕ) (old front part block back : List ℕ) → old ≡ front ++ (part ++ back) → length front ≡ k * size
    → length part ≡ size → length block ≡ size → ((t : ℕ) → t < size → get_or block t 0 ≡ byte t)
    → WritesBlock size k byte old (front ++ (block ++ back))
block-written size k byte old front part block back whole at long new_long bytes = record {
  own = λ t h.
      let place : k * size + t - k * size ≡ t = omega arith in
      get_or-append_right front (block ++ back) (k * size) (k * size + t) 0 at (omega arith)
      ∙ ap (λ n. get_or (block ++ back) n 0) place ∙ get_or_append_left block back 0 t (omega arith) ∙ bytes t h;
  others = λ i t other h.
      elim (cases_lt i k) as (λ _. get_or (front ++ (block ++ back)) (i * size + t) 0 ≡ byte_of size old t i) [
        | inl low ↦
            let place : i * size + t < size * k = mul-add-lt i size t k low h in
            get_or_append_left front (block ++ back) 0 (i * size + t) (omega arith)
            ∙ sym (get_or_append_left front (part ++ back) 0 (i * size + t) (omega arith)) ∙ ap (λ l. get_or l (i * size + t) 0) (sym whole)
        | inr high ↦
            let next : suc k * size ≤ i * size = mul-le-mul_right size (omega arith) in
            get_or-behind front block back (k * size) size (i * size + t) at new_long (omega arith)
            ∙ sym (get_or-behind front part back (k * size) size (i * size + t) at long (omega arith)) ∙ ap (λ l. get_or l (i * size + t) 0) (sym whole)
      ];
}

-- one block and then another
pub blocks-written : (size h k : ℕ) (first second : ℕ → ℕ) (old mid new : List ℕ) → h ≢ k → WritesBlock size h first old mid
    → WritesBlock size k second mid new → WritesBlocks size h k first second old new
blocks-written size h k first second old mid new apart a b = record {
  first_own = λ t l. b.others h t apart l ∙ a.own t l;
  second_own = b.own;
  others = λ i t not_h not_k l. b.others i t not_k l ∙ a.others i t not_h l;
}
