-- The tokens of a line, from its front.
use Rattle.std.proofs.Common.{◌≡◌, ◌==◌, ℕ, ◌+◌, ◌<◌, ◌≤◌, All, Bool, true, false, not, cond, List, [], ◌∷◌, ◌++◌, length, refl, sym, ap, ◌∙◌, arith, take, drop, get_or, take-append-drop, append_assoc, eqb-true}
use Rattle.std.specs.List.{filter}
use Rattle.memchr.specs.Find.{Nowhere, Passes, is_byte}
use Rattle.std.proofs.lemmas.List.{take_more, get_or-take, get_or_default, length-take-le}
use Rattle.std.proofs.lemmas.List.Splits.{slice_split_none, slice_split_at}
use Rattle.lines.specs.Tokens.{tokens}
use Rattle.lines.specs.Splits.{one_token}

-- the last token, where no space is left
pub tokens-last : (piece : List ℕ) → All (λ byte. (byte == 32) ≡ false) piece → tokens piece ≡ one_token piece
tokens-last piece none = ap (filter (λ (p : List ℕ). not (length p == 0))) (slice_split_none (λ (byte : ℕ). byte == 32) piece none)

-- and one in front of a space
pub tokens-next : (piece more : List ℕ) → All (λ byte. (byte == 32) ≡ false) piece → tokens (piece ++ 32 ∷ more) ≡ one_token piece ++ tokens more
tokens-next piece more none =
    ap (filter (λ (p : List ℕ). not (length p == 0))) (slice_split_at (λ (byte : ℕ). byte == 32) piece 32 more none refl)
    ∙ first (not (length piece == 0)) piece (tokens more)
  where
    first : (b : Bool) (p : List ℕ) (rest : List (List ℕ)) → cond b (p ∷ rest) rest ≡ cond b (p ∷ []) [] ++ rest
    first true p rest = refl
    first false p rest = refl

to_false : (b : Bool) → (b ≡ true → ⊥) → b ≡ false
to_false true h = absurd (h refl)
to_false false h = refl

-- no byte up to a place is a space
pub none_before : (xs : List ℕ) (j : ℕ) → j ≤ length xs → Nowhere (Passes (is_byte 32) xs) 0 j → All (λ byte. (byte == 32) ≡ false) (take j xs)
none_before xs j within none = λ k d lt.
    let below : k < j = omega (arith, lt, length-take-le j xs within) in
    let same : get_or (take j xs) k d ≡ get_or xs k 0 = get_or-take j xs k d below ∙ get_or_default xs k d 0 (omega (arith, below, within)) in
    ap (λ (x : ℕ). x == 32) same ∙ to_false (get_or xs k 0 == 32) (none k (omega arith) below)

-- a line around its first space
pub tokens-at : (xs more : List ℕ) (j : ℕ) → j < length xs → Nowhere (Passes (is_byte 32) xs) 0 j → (get_or xs j 0 == 32) ≡ true
    → more ≡ drop (j + 1) xs → tokens xs ≡ one_token (take j xs) ++ tokens more
tokens-at xs more j lt none hit is =
    let split : xs ≡ take j xs ++ 32 ∷ more =
    sym (take-append-drop (j + 1) xs) ∙ ap (λ (l : List ℕ). l ++ drop (j + 1) xs) (take_more xs j 0 lt)
    ∙ append_assoc (take j xs) (get_or xs j 0 ∷ []) (drop (j + 1) xs) ∙ ap (λ (x : ℕ). take j xs ++ x ∷ drop (j + 1) xs) (eqb-true (get_or xs j 0) 32 hit)
    ∙ ap (λ (l : List ℕ). take j xs ++ 32 ∷ l) (sym is) in
    ap tokens split ∙ tokens-next (take j xs) more (none_before xs j (omega (arith, lt)) none)
