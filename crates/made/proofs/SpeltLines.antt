-- A line that is drawn reads back as it is spelt.
use Rattle.std.proofs.Common.{◌≡◌, ℕ, zero, suc, ◌+◌, ◌*◌, ◌/◌, ◌%◌, ◌<◌, ◌≤◌, ◌^◌, ◌==◌, All, Bool, true, false, not, nat_eq, ◌&&◌, List, [], ◌∷◌, ◌++◌, length, Some, None, refl, sym, ap, ◌∙◌, arith, rules, length-append, codes}
use Rattle.std.specs.Prelude.{slice_index}
use Rattle.std.specs.List.{list_all, starts_with}
use Rattle.std.specs.Char.{is_ascii_digit}
use Rattle.std.specs.Fmt.{decimal}
use Rattle.std.specs.Str.Parse.{digits_value}
use Rattle.std.proofs.lemmas.Bool.{and_parts}
use Rattle.std.proofs.lemmas.Bool.Decides.{nat_tests}
use Rattle.std.proofs.lemmas.Fmt.{digits_decimal, digits_value-decimal, decimal_nonempty, length-decimal-le}
use Rattle.std.proofs.lemmas.Str.Parse.{IsDigitsTest, IsNumeralModel, numerals_by_value}
use Rattle.hex.specs.Hex.{encode_lower, encode_with, lower_digits, IsBytes}
use Rattle.hex.proofs.HexLemmas.{decode_of-encode_lower, length-encode_with}
use Rattle.lines.specs.Grammar.{line_of, line_of_tokens, form, write_block, read_block, write_all, read_all, invoke, one_brick, start, fault, clock, sync, propose, brick_list, numbers, deliver, cut, call_number}
use Rattle.lines.specs.Splits.{one_token}
use Rattle.lines.specs.Tokens.{tokens, number, bytes_of_hex}
use Rattle.lines.specs.declared.forms.Line.{Line}
use Rattle.lines.specs.declared.forms.Line.TheVariants.{Invoke, Deliver, SetClock, Tick, Crash, Start, Propose, Sync}
use Rattle.lines.specs.declared.forms.Access.TheVariants.{WriteBlock, ReadBlock, WriteStripe, ReadStripe}
use Rattle.lines.specs.declared.forms.Fault.TheVariants.{Cut}
use Rattle.lines.proofs.HexTokens.{hex_decoded}
use Rattle.lines.proofs.LineLengths.{line_of-short}
use Rattle.lines.proofs.Splits.{tokens-last, tokens-next}
use Rattle.made.specs.Spellings.{spaced}

-- a word: some bytes, at most 20, and no space among them
pub record IsWord (word : List ℕ) : Type 0 where
  pub some : 0 < length word
  pub short : length word ≤ 20
  pub clear : All (λ byte. (byte == 32) ≡ false) word

-- each of these is one
pub data AreWords : List (List ℕ) → Type 0 where
  NoWords : AreWords []
  Words : {word : List ℕ} {words : List (List ℕ)} → IsWord word → AreWords words → AreWords (word ∷ words)

-- one token
word_token : (word : List ℕ) → IsWord word → one_token word ≡ word ∷ []
word_token word is = let none : (length word == 0) ≡ false = grind (arith, nat_tests, is.some) in rw none refl

-- words between spaces are the tokens
pub spaced_tokens : (word : List ℕ) (words : List (List ℕ)) → IsWord word → AreWords words → tokens (spaced word words) ≡ word ∷ words
unfolding spaced
spaced_tokens word [] is NoWords = tokens-last word is.clear ∙ word_token word is
spaced_tokens word (next ∷ words) is (Words one more) =
    tokens-next word (spaced next words) is.clear
    ∙ ap (λ (l : List (List ℕ)). l ++ tokens (spaced next words)) (word_token word is)
    ∙ ap (λ (l : List (List ℕ)). word ∷ l) (spaced_tokens next words one more)

-- and they are short
pub spaced_short : (word : List ℕ) (words : List (List ℕ)) → IsWord word → AreWords words → length (spaced word words) ≤ 21 * (length words + 1)
unfolding spaced
spaced_short word [] is NoWords = omega (arith, is.short)
spaced_short word (next ∷ words) is (Words one more) =
    let rest = spaced_short next words one more in
    omega (arith, is.short, rest, length-append word (32 ∷ spaced next words))

-- a line of few words, the first of which begins no comment
pub line_back : (word : List ℕ) (words : List (List ℕ)) (line : Line) → IsWord word → AreWords words → length words ≤ 100
    → starts_with nat_eq word (codes "#") ≡ false → form word words ≡ Some line → line_of (spaced word words) ≡ Some line
unfolding line_of_tokens
line_back word words line is are few plain says =
    let short = spaced_short word words is are in
    line_of-short (spaced word words) (omega (arith, short, few))
    ∙ ap line_of_tokens (spaced_tokens word words is are)
    ∙ first plain
    ∙ says
  where
    first : starts_with nat_eq word (codes "#") ≡ false → line_of_tokens (word ∷ words) ≡ form word words
    first plain = rw plain refl

-- the digits of a number

-- bytes that are digits alone
abbrev AreDigits : List ℕ → Type 0
AreDigits token = list_all is_ascii_digit token ≡ true

-- the test of it
tells : IsDigitsTest AreDigits
tells = search rules

-- they spell a number
model : IsNumeralModel AreDigits (digits_value 10)
model = numerals_by_value AreDigits tells

-- a test that passes more
all_then : (p q : ℕ → Bool) (xs : List ℕ) → ((b : ℕ) → p b ≡ true → q b ≡ true) → list_all p xs ≡ true → list_all q xs ≡ true
all_then p q [] then all = refl
all_then p q (x ∷ xs) then all =
    let parts = and_parts (p x) (list_all p xs) all in
    ap (λ (b : Bool). b && list_all q xs) (then x parts.0) ∙ all_then p q xs then parts.1

-- bytes none of which is a space
pub clear_of : (xs : List ℕ) → list_all (λ byte. not (byte == 32)) xs ≡ true → All (λ byte. (byte == 32) ≡ false) xs
clear_of [] all = λ k d within. absurd (omega arith)
clear_of (x ∷ xs) all =
    let parts = and_parts (not (x == 32)) (list_all (λ byte. not (byte == 32)) xs) all in
    each (isnt (x == 32) parts.0) (clear_of xs parts.1)
  where
    isnt : (b : Bool) → not b ≡ true → b ≡ false
    isnt true h = sym h
    isnt false h = refl

    each : (x == 32) ≡ false → All (λ byte. (byte == 32) ≡ false) xs → All (λ byte. (byte == 32) ≡ false) (x ∷ xs)
    each one more zero d within = one
    each one more (suc k) d within = more k d (omega arith)

-- a digit is no space
digit_clear : (b : ℕ) → is_ascii_digit b ≡ true → not (b == 32) ≡ true
digit_clear b is = grind (arith, nat_tests)

-- a number's text is a word
pub decimal_word : (n : ℕ) → n < 2 ^ 64 → IsWord (decimal n)
decimal_word n small = record {
  some = decimal_nonempty n small;
  short = length-decimal-le 20 n (omega arith) (omega arith) small;
  clear = clear_of (decimal n) (all_then is_ascii_digit (λ byte. not (byte == 32)) (decimal n) digit_clear (digits_decimal model n small));
}

-- digits that spell a number
number_is : (token : List ℕ) (n : ℕ) → length token ≤ 20 → AreDigits token → 0 < length token → digits_value 10 token ≡ n → n < 2 ^ 64
    → number token ≡ Some n
unfolding number
number_is token n short digits some is small = grind (arith, nat_tests)

-- a number reads back
pub number_back : (n : ℕ) → n < 2 ^ 64 → number (decimal n) ≡ Some n
number_back n small =
    number_is (decimal n) n (length-decimal-le 20 n (omega arith) (omega arith) small) (digits_decimal model n small) (decimal_nonempty n small)
    (digits_value-decimal model n small) small

-- bytes in hex

-- a test of each digit of a table
hex_digit_at : (p : ℕ → Bool) (table : List ℕ) (i : ℕ) → list_all p table ≡ true → i < length table → p (slice_index table i) ≡ true
hex_digit_at p [] i all within = absurd (omega arith)
hex_digit_at p (x ∷ table) zero all within = (and_parts (p x) (list_all p table) all).0
hex_digit_at p (x ∷ table) (suc i) all within = hex_digit_at p table i (and_parts (p x) (list_all p table) all).1 (omega arith)

-- and of each digit of a text
hex_all : (p : ℕ → Bool) (bytes : List ℕ) → list_all p lower_digits ≡ true → IsBytes bytes → list_all p (encode_lower bytes) ≡ true
unfolding encode_with
hex_all p [] digits are = refl
hex_all p (b ∷ bytes) digits are =
    let byte : b < 256 = are 0 in
    let high : p (slice_index lower_digits (b / 16)) ≡ true = hex_digit_at p lower_digits (b / 16) digits (omega arith) in
    let low : p (slice_index lower_digits (b % 16)) ≡ true = hex_digit_at p lower_digits (b % 16) digits (omega arith) in
    ap (λ (t : Bool). t && (p (slice_index lower_digits (b % 16)) && list_all p (encode_lower bytes))) high
    ∙ ap (λ (t : Bool). t && list_all p (encode_lower bytes)) low
    ∙ hex_all p bytes digits (λ i. are (suc i))

-- a few bytes are a word
pub hex_word : (bytes : List ℕ) → IsBytes bytes → 1 ≤ length bytes → length bytes ≤ 10 → IsWord (encode_lower bytes)
hex_word bytes are some few = record {
  some = omega (arith, length-encode_with lower_digits bytes);
  short = omega (arith, length-encode_with lower_digits bytes);
  clear = clear_of (encode_lower bytes) (hex_all (λ byte. not (byte == 32)) bytes refl are);
}

-- and read back
pub hex_back : (bytes : List ℕ) → IsBytes bytes → 1 ≤ length bytes → bytes_of_hex (encode_lower bytes) ≡ Some bytes
hex_back bytes are some =
    sym (hex_decoded (encode_lower bytes) bytes (omega (arith, length-encode_with lower_digits bytes)) (decode_of-encode_lower bytes are))

-- the forms

-- `write B G S J HEX`
pub write_back : (b g s j : ℕ) (bytes : List ℕ) → b < 2 ^ 64 → g < 2 ^ 64 → s < 2 ^ 64 → j < 2 ^ 64 → IsBytes bytes → 1 ≤ length bytes
    → form (codes "write") (decimal b ∷ decimal g ∷ decimal s ∷ decimal j ∷ encode_lower bytes ∷ []) ≡ Some (Invoke b g s (WriteBlock j bytes))
unfolding form write_block invoke
write_back b g s j bytes hb hg hs hj are some = rw (number_back j hj, hex_back bytes are some, number_back b hb, number_back g hg, number_back s hs) refl

-- `read B G S J`
pub read_back : (b g s j : ℕ) → b < 2 ^ 64 → g < 2 ^ 64 → s < 2 ^ 64 → j < 2 ^ 64
    → form (codes "read") (decimal b ∷ decimal g ∷ decimal s ∷ decimal j ∷ []) ≡ Some (Invoke b g s (ReadBlock j))
unfolding form read_block invoke
read_back b g s j hb hg hs hj = rw (number_back j hj, number_back b hb, number_back g hg, number_back s hs) refl

-- `writeall B G S HEX`
pub write_all_back : (b g s : ℕ) (bytes : List ℕ) → b < 2 ^ 64 → g < 2 ^ 64 → s < 2 ^ 64 → IsBytes bytes → 1 ≤ length bytes
    → form (codes "writeall") (decimal b ∷ decimal g ∷ decimal s ∷ encode_lower bytes ∷ []) ≡ Some (Invoke b g s (WriteStripe bytes))
unfolding form write_all invoke
write_all_back b g s bytes hb hg hs are some = rw (hex_back bytes are some, number_back b hb, number_back g hg, number_back s hs) refl

-- `readall B G S`
pub read_all_back : (b g s : ℕ) → b < 2 ^ 64 → g < 2 ^ 64 → s < 2 ^ 64
    → form (codes "readall") (decimal b ∷ decimal g ∷ decimal s ∷ []) ≡ Some (Invoke b g s ReadStripe)
unfolding form read_all invoke
read_all_back b g s hb hg hs = rw (number_back b hb, number_back g hg, number_back s hs) refl

-- `tick B`
pub tick_back : (b : ℕ) → b < 2 ^ 64 → form (codes "tick") (decimal b ∷ []) ≡ Some (Tick b)
unfolding form one_brick
tick_back b hb = rw (number_back b hb) refl

-- `crash B`
pub crash_back : (b : ℕ) → b < 2 ^ 64 → form (codes "crash") (decimal b ∷ []) ≡ Some (Crash b)
unfolding form one_brick
crash_back b hb = rw (number_back b hb) refl

-- `start B`
pub start_back : (b : ℕ) → b < 2 ^ 64 → form (codes "start") (decimal b ∷ []) ≡ Some (Start b None)
unfolding form start fault
start_back b hb = rw (number_back b hb) refl

-- `clock B V`
pub clock_back : (b v : ℕ) → b < 2 ^ 64 → v < 2 ^ 64 → form (codes "clock") (decimal b ∷ decimal v ∷ []) ≡ Some (SetClock b v)
unfolding form clock
clock_back b v hb hv = rw (number_back b hb, number_back v hv) refl

-- `sync B G`
pub sync_back : (b g : ℕ) → b < 2 ^ 64 → g < 2 ^ 64 → form (codes "sync") (decimal b ∷ decimal g ∷ []) ≡ Some (Sync b g)
unfolding form sync
sync_back b g hb hg = rw (number_back b hb, number_back g hg) refl

-- `view B G M M M M`
pub propose_back : (b g i j k l : ℕ) → b < 2 ^ 64 → g < 2 ^ 64 → i < 2 ^ 64 → j < 2 ^ 64 → k < 2 ^ 64 → l < 2 ^ 64
    → form (codes "view") (decimal b ∷ decimal g ∷ decimal i ∷ decimal j ∷ decimal k ∷ decimal l ∷ []) ≡ Some (Propose b g (i ∷ j ∷ k ∷ l ∷ []))
unfolding form propose brick_list numbers
propose_back b g i j k l hb hg hi hj hk hl =
    rw (number_back b hb, number_back g hg, number_back i hi, number_back j hj, number_back k hk, number_back l hl) refl

-- `deliver K`
pub deliver_back : (k : ℕ) → k < 2 ^ 64 → form (codes "deliver") (decimal k ∷ []) ≡ Some (Deliver k None)
unfolding form deliver fault
deliver_back k hk = rw (number_back k hk) refl

-- `deliver K cut C pick P`
pub cut_back : (k c p : ℕ) → k < 2 ^ 64 → 1 ≤ c → c < 2 ^ 64 → p < 2 ^ 64
    → form (codes "deliver") (decimal k ∷ codes "cut" ∷ decimal c ∷ codes "pick" ∷ decimal p ∷ []) ≡ Some (Deliver k (Some (Cut c p)))
unfolding form deliver fault cut call_number
cut_back k c p hk some hc hp =
    let none : nat_eq c 0 ≡ false = grind (arith, nat_tests) in
    rw (number_back k hk, number_back c hc, none, number_back p hp) refl
