-- Words that begin with `-` are no request.
use Rattle.std.proofs.Common.{◌≡◌, ℕ, ◌&&◌, ◌||◌, ◌^◌, Bool, true, false, nat_lt, nat_le, List, [], ◌∷◌, length, Option, Some, None, refl, sym, ap, subst, codes, eqb-true}
use Rattle.std.specs.Prelude.{if◌then◌else◌}
use Rattle.std.specs.Str.{bytes_eq}
use Rattle.std.specs.Str.Parse.{digits_value}
use Rattle.lines.specs.Grammar.{◌>>=◌}
use Rattle.lines.specs.Tokens.{number}
use Rattle.replay_words.specs.declared.requests.Request.{Request}
use Rattle.replay_words.specs.declared.requests.Request.TheVariants.{Make}
use Rattle.plain_words.specs.Readings.{is_flag, has_flag}
use Rattle.replay_words.specs.Requests.{one_word, made_by, three_words, request_of}

-- one of two holds
one_of : (p q : Bool) (A : Type 0) → (p || q) ≡ true → (p ≡ true → A) → (q ≡ true → A) → A
one_of true q A some left right = left refl
one_of false q A some left right = right some

-- a word that begins so
hyphen : (P : List ℕ → Type 0) (word : List ℕ) → is_flag word ≡ true → ((rest : List ℕ) → P (45 ∷ rest)) → P word
hyphen P [] is behind = absurd (cc)
hyphen P (byte ∷ rest) is behind = subst (λ (b : ℕ). P (b ∷ rest)) (sym (eqb-true byte 45 is)) (behind rest)

-- it is no number
no_number : (rest : List ℕ) → number (45 ∷ rest) ≡ None
unfolding number
no_number rest = by (nat_lt 0 (length (45 ∷ rest)) && nat_le (length (45 ∷ rest)) 20) (nat_lt (digits_value 10 (45 ∷ rest)) (2 ^ 64)) (digits_value 10 (45 ∷ rest))
  where
    by : (p q : Bool) (value : ℕ) → (if (p && false) && q then Some value else None) ≡ None
    by true q value = refl
    by false q value = refl

-- nor one of a schedule's
no_seed : (rest lines : List ℕ) → made_by (45 ∷ rest) lines ≡ None
no_seed rest lines = ap (λ (found : Option ℕ). found >>= (λ s. number lines >>= (λ n. if nat_le n 1048576 then Some (Make s n) else None))) (no_number rest)

no_lines : (seed rest : List ℕ) → made_by seed (45 ∷ rest) ≡ None
no_lines seed rest = by (number seed)
  where
    by : (found : Option ℕ) → (found >>= (λ s. number (45 ∷ rest) >>= (λ n. if nat_le n 1048576 then Some (Make s n) else None))) ≡ None
    by None = refl
    by (Some s) = ap (λ (behind : Option ℕ). behind >>= (λ n. if nat_le n 1048576 then Some (Make s n) else None)) (no_number rest)

-- nothing either way
either_none : (b : Bool) (request : Option Request) → request ≡ None → (if b then request else None) ≡ None
either_none true request none = none
either_none false request none = refl

-- three words, one of which begins with `-`
three_none : (word seed lines : List ℕ) → (is_flag word || (is_flag seed || (is_flag lines || false))) ≡ true → three_words word seed lines ≡ None
three_none word seed lines some =
    one_of (is_flag word) (is_flag seed || (is_flag lines || false)) (three_words word seed lines ≡ None) some
    (λ is. hyphen (λ w. three_words w seed lines ≡ None) word is (λ rest. refl))
    (λ more. one_of (is_flag seed) (is_flag lines || false) (three_words word seed lines ≡ None) more
    (λ is. hyphen (λ s. three_words word s lines ≡ None) seed is (λ rest. either_none (bytes_eq word (codes "make")) _ (no_seed rest lines)))
    (λ last. one_of (is_flag lines) false (three_words word seed lines ≡ None) last
    (λ is. hyphen (λ n. three_words word seed n ≡ None) lines is (λ rest. either_none (bytes_eq word (codes "make")) _ (no_lines seed rest)))
    (λ bad. absurd (cc))))

-- words, one of which begins with `-`
pub flag_none : (words : List (List ℕ)) → has_flag words ≡ true → request_of words ≡ None
flag_none [] some = refl
flag_none (word ∷ []) some =
    one_of (is_flag word) false (one_word word ≡ None) some (λ is. hyphen (λ w. one_word w ≡ None) word is (λ rest. refl)) (λ bad. absurd (cc))
flag_none (word ∷ (seed ∷ [])) some = refl
flag_none (word ∷ (seed ∷ (lines ∷ []))) some = three_none word seed lines some
flag_none (word ∷ (seed ∷ (lines ∷ (more ∷ words)))) some = refl
