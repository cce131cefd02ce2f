-- What the first word of a line decides.
use Rattle.std.proofs.Common.{◌≡◌, ℕ, ◌-◌, ◌<◌, ◌≤◌, nat_eq, true, false, List, [], ◌∷◌, length, take, drop, Bor, Some, refl, arith, take_all, codes}
use Rattle.std.specs.List.{starts_with}
use Rattle.lines.specs.Grammar.{line_of_tokens, form}
use Rattle.lines.specs.declared.forms.Line.TheVariants.{Nothing}
use Rattle.lines.proofs.Arguments.{words, word_at}

-- a line of no words says nothing
pub no_word : (found : List (Bor (List ℕ))) → length found < 1 → Some Nothing ≡ line_of_tokens (words found)
unfolding line_of_tokens
no_word [] none = refl
no_word (word ∷ rest) none = absurd (omega arith)

-- nor does one whose first word begins with `#`
pub comment : (found : List (Bor (List ℕ))) → 1 ≤ length found → starts_with nat_eq (word_at found 0) (codes "#") ≡ true
    → Some Nothing ≡ line_of_tokens (words found)
unfolding line_of_tokens
comment [] some hash = absurd (omega arith)
comment (word ∷ rest) some hash = rw hash refl

-- else the first word tells the form
pub first_word : (found : List (Bor (List ℕ))) → 1 ≤ length found → starts_with nat_eq (word_at found 0) (codes "#") ≡ false
    → line_of_tokens (words found) ≡ form (word_at found 0) (words (take (length found - 1) (drop 1 found)))
unfolding line_of_tokens
first_word [] some hash = absurd (omega arith)
first_word (word ∷ rest) some hash =
    let behind : take (length (word ∷ rest) - 1) rest ≡ rest = take_all _ _ (omega arith) in
    rw (hash, behind) refl
