-- Numbers and bytes as they are printed: what their text is made of, and that it reads back.
use Rattle.std.proofs.Common.{◌≡◌, ℕ, zero, suc, ◌+◌, ◌*◌, ◌/◌, ◌%◌, ◌<◌, ◌≤◌, ◌^◌, ◌==◌, ◌⊎◌, inl, inr, Bool, true, false, not, cond, nat_lt, nat_eq, ◌&&◌, ◌||◌, List, [], ◌∷◌, ◌++◌, length, take, drop, get_or, Option, Some, None, Ok, refl, sym, ap, ◌∙◌, arith, rules, length-append}
use Rattle.std.specs.Prelude.{slice_index, option_and_then}
use Rattle.std.specs.List.{list_all, list_any, position, position_or_len, slice_split, onto_first}
use Rattle.std.specs.Char.{is_ascii_digit, is_ascii_uppercase}
use Rattle.std.specs.Fmt.{decimal}
use Rattle.std.specs.Str.{bytes_eq}
use Rattle.std.specs.Str.Parse.{digits_value}
use Rattle.std.proofs.lemmas.Bool.{and_parts, cases_lt}
use Rattle.std.proofs.lemmas.Bool.Decides.{nat_tests}
use Rattle.std.proofs.lemmas.Fmt.{digits_decimal, digits_value-decimal, decimal_nonempty, decimal_digit, length-decimal-le, first_decimal}
use Rattle.std.proofs.lemmas.List.{take_at, drop_at}
use Rattle.std.proofs.lemmas.Slice.Eq.{bytes_eq-Decides}
use Rattle.std.proofs.lemmas.Str.Parse.{IsDigitsTest, IsNumeralModel, numerals_by_value}
use Rattle.hex.specs.Hex.{encode_lower, encode_with, lower_digits, IsBytes, decode_of}
use Rattle.hex.proofs.HexLemmas.{decode_of-encode_lower, length-encode_with}
use Rattle.lines.specs.Grammar.{◌>>=◌}
use Rattle.lines.specs.Tokens.{number, bytes_of_hex}
use Rattle.transcript.specs.Tokens.{behind, cut, plain_number, number_before, lower_hex}
use Rattle.transcript.specs.Words.{or_else}

-- steps of a reading, by what is found
pub bind_some : {A B : Type 0} (found : Option A) (x : A) (next : A → Option B) → found ≡ Some x → (found >>= next) ≡ next x
bind_some found x next is = ap (option_and_then next) is

-- one reading was found
pub or_some : {A B : Type 0} (found : Option A) (x : A) (here : A → B) (there : B) → found ≡ Some x → or_else found here there ≡ here x
or_some found x here there is = ap (λ (o : Option _). or_else o here there) is

-- it was not
pub or_none : {A B : Type 0} (found : Option A) (here : A → B) (there : B) → found ≡ None → or_else found here there ≡ there
or_none found here there is = ap (λ (o : Option _). or_else o here there) is

-- a test of each byte
pub all_both : (p : ℕ → Bool) (xs ys : List ℕ) → list_all p xs ≡ true → list_all p ys ≡ true → list_all p (xs ++ ys) ≡ true
all_both p [] ys one other = other
all_both p (x ∷ xs) ys one other =
    let parts = and_parts (p x) (list_all p xs) one in
    ap (λ (b : Bool). b && list_all p (xs ++ ys)) parts.0 ∙ all_both p xs ys parts.1 other

-- a test that passes more
pub all_then : (p q : ℕ → Bool) (xs : List ℕ) → ((b : ℕ) → p b ≡ true → q b ≡ true) → list_all p xs ≡ true → list_all q xs ≡ true
all_then p q [] then all = refl
all_then p q (x ∷ xs) then all =
    let parts = and_parts (p x) (list_all p xs) all in
    ap (λ (b : Bool). b && list_all q xs) (then x parts.0) ∙ all_then p q xs then parts.1

-- no byte passes a test that all fail
none_any : (p : ℕ → Bool) (xs : List ℕ) → list_all (λ b. not (p b)) xs ≡ true → list_any p xs ≡ false
none_any p [] all = refl
none_any p (x ∷ xs) all =
    let parts = and_parts (not (p x)) (list_all (λ b. not (p b)) xs) all in
    ap (λ (b : Bool). b || list_any p xs) (by (p x) parts.0) ∙ none_any p xs parts.1
  where
    by : (b : Bool) → not b ≡ true → b ≡ false
    by true h = sym h
    by false h = refl

-- a byte that is neither a line feed nor a carriage return, nor any other below a space
abbrev pub is_clear : ℕ → Bool
is_clear byte = nat_lt 31 byte

-- bytes of one line, at most so many
pub record IsPiece (most : ℕ) (text : List ℕ) : Type 0 where
  pub clear : list_all is_clear text ≡ true
  pub short : length text ≤ most

-- two pieces
pub piece_both : (a b : ℕ) (xs ys : List ℕ) → IsPiece a xs → IsPiece b ys → IsPiece (a + b) (xs ++ ys)
piece_both a b xs ys one other =
    record { clear = all_both is_clear xs ys one.clear other.clear; short = omega (arith, length-append xs ys, one.short, other.short) }

-- so many are at most as many as more
pub piece_most : (a b : ℕ) (xs : List ℕ) → a ≤ b → IsPiece a xs → IsPiece b xs
piece_most a b xs le one = record { clear = one.clear; short = omega (arith, one.short) }

-- the digits of a number

-- bytes that are digits alone
abbrev AreDigits : List ℕ → Type 0
AreDigits token = list_all is_ascii_digit token ≡ true

-- the test of it
tells : IsDigitsTest AreDigits
tells = search rules

-- they spell a number
model : IsNumeralModel AreDigits (digits_value 10)
model = numerals_by_value AreDigits tells

-- a number's text is digits
pub digits_of : (n : ℕ) → n < 2 ^ 64 → AreDigits (decimal n)
digits_of n small = digits_decimal model n small

-- a digit is clear
digit_clear : (b : ℕ) → is_ascii_digit b ≡ true → is_clear b ≡ true
digit_clear b is = grind (arith, nat_tests)

-- a number's text is at most 20 bytes
pub digits_piece : (n : ℕ) → n < 2 ^ 64 → IsPiece 20 (decimal n)
digits_piece n small = record {
  clear = all_then is_ascii_digit is_clear (decimal n) digit_clear (digits_of n small);
  short = length-decimal-le 20 n (omega arith) (omega arith) small;
}

-- a number of few digits
pub digits_few : (k n : ℕ) → 0 < k → n < 10 ^ k → n < 2 ^ 64 → IsPiece k (decimal n)
digits_few k n some few small = record {
  clear = all_then is_ascii_digit is_clear (decimal n) digit_clear (digits_of n small);
  short = length-decimal-le k n some few small;
}

-- a number's text begins with a digit
pub record BeginsDigit (text : List ℕ) : Type 0 where
  pub first : ℕ
  pub rest : List ℕ
  pub is : text ≡ first ∷ rest
  pub low : 48 ≤ first
  pub high : first ≤ 57

-- a digit is from 48 to 57
digit_range : (b : ℕ) → is_ascii_digit b ≡ true → (48 ≤ b) × (b ≤ 57)
digit_range b is = (grind (arith, nat_tests), grind (arith, nat_tests))

-- digits begin with one
first_digit : (token : List ℕ) → AreDigits token → 0 < length token → BeginsDigit token
first_digit [] digits some = absurd (omega arith)
first_digit (b ∷ rest) digits some =
    let range = digit_range b (and_parts (is_ascii_digit b) (list_all is_ascii_digit rest) digits).0 in
    record { first = b; rest = rest; is = refl; low = range.0; high = range.1 }

-- a text that begins with a number
pub begins_digit : (n : ℕ) (rest : List ℕ) → n < 2 ^ 64 → BeginsDigit (decimal n ++ rest)
begins_digit n rest small =
    let first = first_digit (decimal n) (digits_of n small) (decimal_nonempty n small) in
    record {
      first = first.first;
      rest = first.rest ++ rest;
      is = ap (λ (l : List ℕ). l ++ rest) first.is;
      low = first.low;
      high = first.high;
    }

-- it reads back

-- digits that spell a number
number_is : (token : List ℕ) (n : ℕ) → length token ≤ 20 → AreDigits token → 0 < length token → digits_value 10 token ≡ n → n < 2 ^ 64
    → number token ≡ Some n
unfolding number
number_is token n short digits some is small = grind (arith, nat_tests)

-- no zero stands before other digits
plain_is : (token : List ℕ) → (48 < get_or token 0 0) ⊎ (length token ≡ 1) → plain_number token ≡ number token
unfolding plain_number
plain_is [] (inl first) = absurd (omega arith)
plain_is (b ∷ rest) (inl first) = grind (arith, nat_tests)
plain_is token (inr one) = grind (arith, nat_tests)

-- nor does it in what is printed
first_or_one : (n : ℕ) → n < 2 ^ 64 → (48 < get_or (decimal n) 0 0) ⊎ (length (decimal n) ≡ 1)
first_or_one n small =
    elim (cases_lt 0 n) [
      | inl some ↦ inl (first_decimal n some small)
      | inr none ↦ inr (ap (λ (l : List ℕ). length l) (decimal_digit n (omega arith)))
    ]

-- a number reads back
pub plain_back : (n : ℕ) → n < 2 ^ 64 → plain_number (decimal n) ≡ Some n
plain_back n small =
    plain_is (decimal n) (first_or_one n small)
    ∙ number_is (decimal n) n (length-decimal-le 20 n (omega arith) (omega arith) small) (digits_of n small) (decimal_nonempty n small)
    (digits_value-decimal model n small) small

-- the first byte of a value stands behind bytes of other values
place_of : (end : ℕ) (xs rest : List ℕ) → list_all (λ byte. not (byte == end)) xs ≡ true
    → position_or_len (λ byte. byte == end) (xs ++ (end ∷ rest)) ≡ length xs
place_of end [] rest lacks = grind (arith, nat_tests)
place_of end (x ∷ xs) rest lacks =
    let parts = and_parts (not (x == end)) (list_all (λ byte. not (byte == end)) xs) lacks in
    let more = place_of end xs rest parts.1 in
    grind (arith, nat_tests)

-- so it is found there
pub found_at : (end : ℕ) (xs rest : List ℕ) → list_all (λ byte. not (byte == end)) xs ≡ true
    → position (λ byte. byte == end) (xs ++ (end ∷ rest)) ≡ Some (length xs)
found_at end xs rest lacks =
    let place = place_of end xs rest lacks in
    let long = length-append xs (end ∷ rest) in
    grind (arith, nat_tests)

-- and cuts the text
pub cut_at : (end : ℕ) (xs rest : List ℕ) → list_all (λ byte. not (byte == end)) xs ≡ true → cut end (xs ++ (end ∷ rest)) ≡ Some (xs, rest)
unfolding cut
cut_at end xs rest lacks =
    let first : take (length xs) (xs ++ (end ∷ rest)) ≡ xs = take_at xs (end ∷ rest) (length xs) refl in
    let behind_it : drop (length xs + 1) (xs ++ (end ∷ rest)) ≡ rest = past xs in
    rw (found_at end xs rest lacks, first, behind_it) refl
  where
    past : (ys : List ℕ) → drop (length ys + 1) (ys ++ (end ∷ rest)) ≡ rest
    past [] = refl
    past (y ∷ ys) = let next : length (y ∷ ys) + 1 ≡ suc (length ys + 1) = omega arith in rw next (past ys)

-- where it is not among them nothing is cut
no_place : (end : ℕ) (xs : List ℕ) → list_all (λ byte. not (byte == end)) xs ≡ true → position (λ byte. byte == end) xs ≡ None
no_place end [] lacks = refl
no_place end (x ∷ xs) lacks =
    let parts = and_parts (not (x == end)) (list_all (λ byte. not (byte == end)) xs) lacks in
    let more = no_place end xs parts.1 in
    grind (arith, nat_tests)

pub cut_none : (end : ℕ) (xs : List ℕ) → list_all (λ byte. not (byte == end)) xs ≡ true → cut end xs ≡ None
unfolding cut
cut_none end xs lacks = rw (no_place end xs lacks) refl

-- a byte that ends a number
abbrev pub IsNoDigit : ℕ → Type 0
IsNoDigit end = is_ascii_digit end ≡ false

-- which no digit is
digit_other : (end b : ℕ) → IsNoDigit end → is_ascii_digit b ≡ true → not (b == end) ≡ true
digit_other end b none is = grind (arith, nat_tests)

-- a number before it reads back
pub before_back : (end n : ℕ) (rest : List ℕ) → IsNoDigit end → n < 2 ^ 64 → number_before end (decimal n ++ (end ∷ rest)) ≡ Some (n, rest)
unfolding number_before
before_back end n rest none small =
    bind_some (cut end (decimal n ++ (end ∷ rest))) (decimal n, rest) _
    (cut_at end (decimal n) rest (all_then is_ascii_digit (λ byte. not (byte == end)) (decimal n) (λ b is. digit_other end b none is)
    (digits_of n small)))
    ∙ bind_some (plain_number (decimal n)) n _ (plain_back n small)

-- words

-- bytes are equal to themselves
bytes_same : (xs : List ℕ) → bytes_eq xs xs ≡ true
bytes_same xs = (bytes_eq-Decides xs xs).1 refl

-- what stands behind a word
pub behind_front : (front rest : List ℕ) → behind front (front ++ rest) ≡ Some rest
unfolding behind
behind_front front rest =
    ap (λ (l : List ℕ). cond (bytes_eq l front) (Some (drop (length front) (front ++ rest))) None) (take_at front rest (length front) refl)
    ∙ ap (λ (b : Bool). cond b (Some (drop (length front) (front ++ rest))) None) (bytes_same front)
    ∙ ap (λ (l : List ℕ). Some l) (drop_at front rest (length front) refl)

-- a word that begins otherwise
pub behind_other : (c d : ℕ) (cs ds : List ℕ) → nat_eq d c ≡ false → behind (c ∷ cs) (d ∷ ds) ≡ None
unfolding behind
behind_other c d cs ds other = rw other refl

-- bytes in hex

-- a test of each digit of a table
pub hex_digit_at : (p : ℕ → Bool) (table : List ℕ) (i : ℕ) → list_all p table ≡ true → i < length table → p (slice_index table i) ≡ true
hex_digit_at p [] i all within = absurd (omega arith)
hex_digit_at p (x ∷ table) zero all within = (and_parts (p x) (list_all p table) all).0
hex_digit_at p (x ∷ table) (suc i) all within = hex_digit_at p table i (and_parts (p x) (list_all p table) all).1 (omega arith)

-- and of each digit of a text
hex_all : (p : ℕ → Bool) (bytes : List ℕ) → list_all p lower_digits ≡ true → IsBytes bytes → list_all p (encode_lower bytes) ≡ true
unfolding encode_with
hex_all p [] digits are = refl
hex_all p (b ∷ bytes) digits are =
    let byte : b < 256 = are 0 in
    let high : p (slice_index lower_digits (b / 16)) ≡ true = hex_digit_at p lower_digits (b / 16) digits (omega arith) in
    let low : p (slice_index lower_digits (b % 16)) ≡ true = hex_digit_at p lower_digits (b % 16) digits (omega arith) in
    ap (λ (t : Bool). t && (p (slice_index lower_digits (b % 16)) && list_all p (encode_lower bytes))) high
    ∙ ap (λ (t : Bool). t && list_all p (encode_lower bytes)) low
    ∙ hex_all p bytes digits (λ i. are (suc i))

-- the text of bytes is twice as long
pub hex_piece : (most : ℕ) (bytes : List ℕ) → IsBytes bytes → length bytes ≤ most → IsPiece (2 * most) (encode_lower bytes)
hex_piece most bytes are few = record {
  clear = hex_all is_clear bytes refl are;
  short = omega (arith, length-encode_with lower_digits bytes);
}

-- two digits or more, of lower case, spell bytes
hex_long : (token bytes : List ℕ) → 2 ≤ length token → list_any is_ascii_uppercase token ≡ false → decode_of token ≡ Ok bytes
    → lower_hex token ≡ Some bytes
unfolding lower_hex bytes_of_hex
hex_long token bytes long lower is =
    let test : nat_lt (length token) 2 ≡ false = grind (arith, nat_tests) in
    rw (lower, test, is) refl

-- bytes read back
pub hex_back : (bytes : List ℕ) → IsBytes bytes → 1 ≤ length bytes → lower_hex (encode_lower bytes) ≡ Some bytes
hex_back bytes are some =
    hex_long (encode_lower bytes) bytes (omega (arith, length-encode_with lower_digits bytes))
    (none_any is_ascii_uppercase (encode_lower bytes) (hex_all (λ b. not (is_ascii_uppercase b)) bytes refl are))
    (decode_of-encode_lower bytes are)

-- a text is split at its first space
pub split_first : (xs rest : List ℕ) → list_all (λ byte. not (byte == 32)) xs ≡ true
    → slice_split (λ byte. byte == 32) (xs ++ (32 ∷ rest)) ≡ xs ∷ slice_split (λ byte. byte == 32) rest
split_first [] rest lacks = refl
split_first (x ∷ xs) rest lacks =
    let parts = and_parts (not (x == 32)) (list_all (λ byte. not (byte == 32)) xs) lacks in
    ap (λ (b : Bool). cond b ([] ∷ slice_split (λ byte. byte == 32) (xs ++ (32 ∷ rest)))
    (onto_first x (slice_split (λ byte. byte == 32) (xs ++ (32 ∷ rest))))) (isnt (x == 32) parts.0)
    ∙ ap (onto_first x) (split_first xs rest parts.1)
  where
    isnt : (b : Bool) → not b ≡ true → b ≡ false
    isnt true h = sym h
    isnt false h = refl

-- and a text with none is one token
pub split_alone : (xs : List ℕ) → list_all (λ byte. not (byte == 32)) xs ≡ true → slice_split (λ byte. byte == 32) xs ≡ xs ∷ []
split_alone [] lacks = refl
split_alone (x ∷ xs) lacks =
    let parts = and_parts (not (x == 32)) (list_all (λ byte. not (byte == 32)) xs) lacks in
    ap (λ (b : Bool). cond b ([] ∷ slice_split (λ byte. byte == 32) xs) (onto_first x (slice_split (λ byte. byte == 32) xs))) (isnt (x == 32) parts.0)
    ∙ ap (onto_first x) (split_alone xs parts.1)
  where
    isnt : (b : Bool) → not b ≡ true → b ≡ false
    isnt true h = sym h
    isnt false h = refl

-- no digit is a space
pub digits_no_space : (n : ℕ) → n < 2 ^ 64 → list_all (λ byte. not (byte == 32)) (decimal n) ≡ true
digits_no_space n small = all_then is_ascii_digit (λ byte. not (byte == 32)) (decimal n) (λ b is. digit_other 32 b refl is) (digits_of n small)
