-- The happenings that a list of tokens spells, token by token.
use Rattle.std.proofs.Common.{◌≡◌, ℕ, ◌+◌, ◌<◌, ◌≤◌, List, [], ◌∷◌, ◌++◌, length, drop, append-nil, append_assoc, map, get_or, Option, Some, None, refl, sym, ap, ◌∙◌, Bor}
use Rattle.std.specs.Option.{option_map}
use Rattle.std.proofs.lemmas.List.{drop_more, drop_all}
use Rattle.reg_model.specs.declared.marks.Happening.{Happening}
use Rattle.transcript.specs.Forms.{happening_of, happenings_of_tokens}

-- the tokens that stand in a slice
abbrev pub tokens_in : List (Bor (List ℕ)) → List (List ℕ)
tokens_in found = map (λ token. token.now) found

abbrev pub token_at : List (Bor (List ℕ)) → ℕ → List ℕ
token_at found place = (get_or found place (record { ref_ptr = (0, 0); now = [] })).now

-- happenings that were found, before those that are left
abbrev pub onto : List Happening → Option (List Happening) → Option (List Happening)
onto found left = option_map (λ more. found ++ more) left

-- a token that spells a happening, and those behind it
spelled_first : (token : List ℕ) (h : Happening) (tokens : List (List ℕ)) (found : List Happening) (left : Option (List Happening))
    → happening_of token ≡ Some h → happenings_of_tokens tokens ≡ left
    → onto found (happenings_of_tokens (token ∷ tokens)) ≡ onto (found ++ h ∷ []) left
unfolding happenings_of_tokens
spelled_first token h tokens found None spells is = rw (spells, is) refl
spelled_first token h tokens found (Some more) spells is = rw (spells, is) (ap Some (sym (append_assoc found (h ∷ []) more)))

-- one happening more was found
pub spelled_more : (all : Option (List Happening)) (tokens : List (Bor (List ℕ))) (i : ℕ) (h : Happening) (found : List Happening) → i < length tokens
    → happening_of (token_at tokens i) ≡ Some h → onto found (happenings_of_tokens (tokens_in (drop i tokens))) ≡ all
    → onto (found ++ h ∷ []) (happenings_of_tokens (tokens_in (drop (i + 1) tokens))) ≡ all
spelled_more all tokens i h found within spells so_far =
    sym (spelled_first (token_at tokens i) h (tokens_in (drop (i + 1) tokens)) found (happenings_of_tokens (tokens_in (drop (i + 1) tokens))) spells refl)
    ∙ ap (λ (left : List (Bor (List ℕ))). onto found (happenings_of_tokens (tokens_in left))) (sym (drop_more tokens i (record { ref_ptr = (0, 0); now = [] }) within))
    ∙ so_far

-- a token that spells none
none_first : (token : List ℕ) (tokens : List (List ℕ)) (found : List Happening) → happening_of token ≡ None
    → onto found (happenings_of_tokens (token ∷ tokens)) ≡ None
unfolding happenings_of_tokens
none_first token tokens found none = rw none refl

pub spelled_none : (all : Option (List Happening)) (tokens : List (Bor (List ℕ))) (i : ℕ) (found : List Happening) → i < length tokens
    → happening_of (token_at tokens i) ≡ None → onto found (happenings_of_tokens (tokens_in (drop i tokens))) ≡ all → None ≡ all
spelled_none all tokens i found within none so_far =
    sym (none_first (token_at tokens i) (tokens_in (drop (i + 1) tokens)) found none)
    ∙ ap (λ (left : List (Bor (List ℕ))). onto found (happenings_of_tokens (tokens_in left))) (sym (drop_more tokens i (record { ref_ptr = (0, 0); now = [] }) within))
    ∙ so_far

-- no token is left
pub spelled_all : (all : Option (List Happening)) (tokens : List (Bor (List ℕ))) (i : ℕ) (found : List Happening) → length tokens ≤ i
    → onto found (happenings_of_tokens (tokens_in (drop i tokens))) ≡ all → Some found ≡ all
unfolding happenings_of_tokens
spelled_all all tokens i found past so_far =
    sym (ap (λ (left : List (Bor (List ℕ))). onto found (happenings_of_tokens (tokens_in left))) (drop_all i tokens past) ∙ ap Some (append-nil found)) ∙ so_far

-- before any token
pub spelled_none_yet : (left : Option (List Happening)) → onto [] left ≡ left
spelled_none_yet None = refl
spelled_none_yet (Some more) = refl
