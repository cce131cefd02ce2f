-- The numbers that a list of tokens spells, token by token, and how many may name bricks.
use Rattle.std.proofs.Common.{◌≡◌, ◌≢◌, ℕ, ◌+◌, ◌<◌, ◌≤◌, ◌&&◌, true, false, nat_lt, nat_le, List, [], ◌∷◌, ◌++◌, length, drop, append-nil, append_assoc, Option, Some, None, ◌⊎◌, inl, inr, ⊎_elim, refl, sym, ap, ◌∙◌, Bor, arith}
use Rattle.std.specs.Option.{option_map}
use Rattle.std.proofs.lemmas.Bool.Decides.{nat_tests}
use Rattle.std.proofs.lemmas.List.{drop_more, drop_all, length-map}
use Rattle.lines.specs.Tokens.{number}
use Rattle.lines.specs.Grammar.{numbers, brick_list}
use Rattle.lines.proofs.Arguments.{words, word_at}

-- numbers that were found, before those that are left
abbrev pub onto : List ℕ → Option (List ℕ) → Option (List ℕ)
onto found left = option_map (λ more. found ++ more) left

-- a token that spells a number, and those behind it
numbers_first : (token : List ℕ) (n : ℕ) (tokens : List (List ℕ)) (found : List ℕ) (left : Option (List ℕ)) → number token ≡ Some n
    → numbers tokens ≡ left → onto found (numbers (token ∷ tokens)) ≡ onto (found ++ n ∷ []) left
unfolding numbers
numbers_first token n tokens found None spells is = rw (spells, is) refl
numbers_first token n tokens found (Some more) spells is = rw (spells, is) (ap Some (sym (append_assoc found (n ∷ []) more)))

-- one number more was found
pub numbers_more : (all : Option (List ℕ)) (tokens : List (Bor (List ℕ))) (i n : ℕ) (found : List ℕ) → i < length tokens
    → number (word_at tokens i) ≡ Some n → onto found (numbers (words (drop i tokens))) ≡ all
    → onto (found ++ n ∷ []) (numbers (words (drop (i + 1) tokens))) ≡ all
numbers_more all tokens i n found within spells so_far =
    sym (numbers_first (word_at tokens i) n (words (drop (i + 1) tokens)) found (numbers (words (drop (i + 1) tokens))) spells refl)
    ∙ ap (λ (left : List (Bor (List ℕ))). onto found (numbers (words left))) (sym (drop_more tokens i (record { ref_ptr = (0, 0); now = [] }) within))
    ∙ so_far

-- a token that spells none
none_first : (token : List ℕ) (tokens : List (List ℕ)) (found : List ℕ) → number token ≡ None → onto found (numbers (token ∷ tokens)) ≡ None
unfolding numbers
none_first token tokens found none = rw none refl

pub numbers_none : (all : Option (List ℕ)) (tokens : List (Bor (List ℕ))) (i : ℕ) (found : List ℕ) → i < length tokens
    → number (word_at tokens i) ≡ None → onto found (numbers (words (drop i tokens))) ≡ all → None ≡ all
numbers_none all tokens i found within none so_far =
    sym (none_first (word_at tokens i) (words (drop (i + 1) tokens)) found none)
    ∙ ap (λ (left : List (Bor (List ℕ))). onto found (numbers (words left))) (sym (drop_more tokens i (record { ref_ptr = (0, 0); now = [] }) within))
    ∙ so_far

-- no token is left
pub numbers_all : (all : Option (List ℕ)) (tokens : List (Bor (List ℕ))) (i : ℕ) (found : List ℕ) → length tokens ≤ i
    → onto found (numbers (words (drop i tokens))) ≡ all → Some found ≡ all
unfolding numbers
numbers_all all tokens i found past so_far =
    sym (ap (λ (left : List (Bor (List ℕ))). onto found (numbers (words left))) (drop_all i tokens past) ∙ ap Some (append-nil found)) ∙ so_far

-- before any token
pub numbers_none_yet : (left : Option (List ℕ)) → onto [] left ≡ left
numbers_none_yet None = refl
numbers_none_yet (Some more) = refl

-- there are as many words as tokens
pub length_words : (found : List (Bor (List ℕ))) → length (words found) ≡ length found
length_words found = length-map found (λ token. token.now)

-- too few tokens, or too many, name no bricks
pub brick_list_off : (found : List (Bor (List ℕ))) → (length found ≡ 0) ⊎ (64 < length found) → None ≡ brick_list (words found)
unfolding brick_list
brick_list_off found bad =
    let same : length (words found) ≡ length found = length_words found in
    let off : nat_lt 0 (length (words found)) && nat_le (length (words found)) 64 ≡ false = refused (length (words found))
    (⊎_elim (λ none. inl (same ∙ none)) (λ many. inr (omega arith)) bad) in
    rw off refl
  where
    refused : (n : ℕ) → (n ≡ 0) ⊎ (64 < n) → nat_lt 0 n && nat_le n 64 ≡ false
    refused n (inl none) = grind (arith, nat_tests)
    refused n (inr many) = grind (arith, nat_tests)

-- 1 to 64 of them name those that they spell
pub brick_list_on : (found : List (Bor (List ℕ))) → length found ≢ 0 → length found ≤ 64 → brick_list (words found) ≡ numbers (words found)
unfolding brick_list
brick_list_on found least most =
    let same : length (words found) ≡ length found = length_words found in
    let on : nat_lt 0 (length (words found)) && nat_le (length (words found)) 64 ≡ true = taken (length (words found)) (omega arith) (omega arith) in
    rw on refl
  where
    taken : (n : ℕ) → 0 < n → n ≤ 64 → nat_lt 0 n && nat_le n 64 ≡ true
    taken n least most = grind (arith, nat_tests)
