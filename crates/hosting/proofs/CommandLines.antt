-- What the length, the first word and the count of words of a line decide.
use Rattle.std.proofs.Common.{◌≡◌, ◌≢◌, ℕ, ◌-◌, ◌<◌, ◌≤◌, nat_eq, true, false, List, [], ◌∷◌, length, take, drop, Bor, Some, None, refl, arith, take_all, codes}
use Rattle.std.specs.List.{starts_with}
use Rattle.std.proofs.lemmas.Bool.Decides.{nat_tests}
use Rattle.lines.specs.Tokens.{tokens}
use Rattle.lines.proofs.Arguments.{words, word_at}
use Rattle.hosting.specs.Commands.{line_of, line_of_tokens, form}
use Rattle.hosting.specs.declared.commands.Line.TheVariants.{Nothing}

-- a line past 70,000 bytes is a bad line
pub line_of-long : (content : List ℕ) → 70000 < length content → line_of content ≡ None
unfolding line_of
line_of-long content long = grind (arith, nat_tests)

-- one within them says what its tokens say
pub line_of-short : (content : List ℕ) → length content ≤ 70000 → line_of content ≡ line_of_tokens (tokens content)
unfolding line_of
line_of-short content short = grind (arith, nat_tests)

-- a line of no words says nothing
pub no_word : (found : List (Bor (List ℕ))) → length found < 1 → Some Nothing ≡ line_of_tokens (words found)
unfolding line_of_tokens
no_word [] none = refl
no_word (word ∷ rest) none = absurd (omega arith)

-- nor does one whose first word begins with `#`
pub comment : (found : List (Bor (List ℕ))) → 1 ≤ length found → starts_with nat_eq (word_at found 0) (codes "#") ≡ true
    → Some Nothing ≡ line_of_tokens (words found)
unfolding line_of_tokens
comment [] some hash = absurd (omega arith)
comment (word ∷ rest) some hash = rw hash refl

-- else the first word tells the form
pub first_word : (found : List (Bor (List ℕ))) → 1 ≤ length found → starts_with nat_eq (word_at found 0) (codes "#") ≡ false
    → line_of_tokens (words found) ≡ form (word_at found 0) (words (take (length found - 1) (drop 1 found)))
unfolding line_of_tokens
first_word [] some hash = absurd (omega arith)
first_word (word ∷ rest) some hash =
    let behind : take (length (word ∷ rest) - 1) rest ≡ rest = take_all _ _ (omega arith) in
    rw (hash, behind) refl

-- with another count of words than four there is no command
pub form_count : (word : List ℕ) (found : List (Bor (List ℕ))) → length found ≢ 4 → None ≡ form word (words found)
unfolding form
form_count word [] other = refl
form_count word (b ∷ []) other = refl
form_count word (b ∷ v ∷ []) other = refl
form_count word (b ∷ v ∷ at ∷ []) other = refl
form_count word (b ∷ v ∷ at ∷ l ∷ []) other = absurd (other refl)
form_count word (b ∷ v ∷ at ∷ l ∷ a ∷ more) other = refl
