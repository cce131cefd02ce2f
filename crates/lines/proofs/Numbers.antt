-- What std's parsing of a number finds in a token of decimal digits.
use Rattle.std.proofs.Common.{◌≡◌, ℕ, ◌<◌, ◌≤◌, ◌^◌, true, false, List, [], ◌∷◌, length, Some, None, Result, Ok, Err, sym, ap, ◌∙◌, arith, rules, inl, inr}
use Rattle.std.specs.List.{list_all}
use Rattle.std.specs.Char.{is_ascii_digit}
use Rattle.std.specs.Str.{IsAscii, IsUtf8}
use Rattle.std.specs.Result.{result_ok, OkIff}
use Rattle.std.specs.Str.Parse.{digits_value, ParsesUnsigned}
use Rattle.std.proofs.lemmas.Str.{IsUtf8-from_ascii}
use Rattle.std.proofs.lemmas.Str.Ascii.{IsAscii-nil, IsAscii-cons}
use Rattle.std.proofs.lemmas.Str.Parse.{IsDigitsTest, IsNumeralModel, numerals_by_value, parse_digits}
use Rattle.std.proofs.lemmas.Bool.{and_parts, cases_lt}
use Rattle.std.proofs.lemmas.Bool.Decides.{nat_tests}
use Rattle.lines.specs.Tokens.{number}

-- a token has decimal digits alone
abbrev AllDigits : List ℕ → Type 0
AllDigits token = list_all is_ascii_digit token ≡ true

tells_digits : IsDigitsTest AllDigits
tells_digits = search rules

decimal : IsNumeralModel AllDigits (digits_value 10)
decimal = numerals_by_value AllDigits tells_digits

-- a digit is below 128
digit_ascii : (byte : ℕ) → is_ascii_digit byte ≡ true → byte < 128
digit_ascii byte digit = grind (arith, nat_tests)

ascii : (token : List ℕ) → AllDigits token → IsAscii token
ascii [] digits = IsAscii-nil
ascii (byte ∷ rest) digits =
    let parts = and_parts (is_ascii_digit byte) (list_all is_ascii_digit rest) digits in
    IsAscii-cons byte rest (digit_ascii byte parts.0) (ascii rest parts.1)

-- digits are text
pub utf8 : (token : List ℕ) → AllDigits token → IsUtf8 token
utf8 token digits = IsUtf8-from_ascii token (ascii token digits)

-- a token with too many digits is no number
pub number_too_long : (token : List ℕ) → 20 < length token → number token ≡ None
unfolding number
number_too_long token long = grind (arith, nat_tests)

-- a token with another byte is no number
pub number_other : (token : List ℕ) → list_all is_ascii_digit token ≡ false → number token ≡ None
unfolding number
number_other token other = grind (arith, nat_tests)

-- what a token of digits spells, by its length and its value
number_within : (token : List ℕ) → length token ≤ 20 → AllDigits token → 0 < length token → digits_value 10 token < 2 ^ 64
    → number token ≡ Some (digits_value 10 token)
unfolding number
number_within token short digits some fits = grind (arith, nat_tests)

number_beyond : (token : List ℕ) → ¬ ((0 < length token) × (digits_value 10 token < 2 ^ 64)) → number token ≡ None
unfolding number
number_beyond token beyond =
    elim (cases_lt 0 (length token)) [
      | inl some ↦
          elim (cases_lt (digits_value 10 token) (2 ^ 64)) [
            | inl fits ↦ absurd (beyond (some, fits))
            | inr large ↦ grind (arith, nat_tests)
          ]
      | inr none ↦ grind (arith, nat_tests)
    ]

number_from_cases : {E : Type 0} (token : List ℕ) (r : Result ℕ E) → length token ≤ 20 → AllDigits token
    → OkIff r ((0 < length token) × (digits_value 10 token < 2 ^ 64)) (digits_value 10 token) → result_ok r ≡ number token
number_from_cases token (Ok n) short digits h = ap Some h.1 ∙ sym (number_within token short digits h.0.0 h.0.1)
number_from_cases token (Err e) short digits h = sym (number_beyond token h)

-- the number of a short token of digits is what parsing it gives
pub number_parsed : {E : Type 0} (token : List ℕ) (r : Result ℕ E) → length token ≤ 20 → AllDigits token → ParsesUnsigned 64 10 token r
    → result_ok r ≡ number token
number_parsed token r short digits parses = number_from_cases token r short digits (parse_digits decimal 64 token r parses digits)
