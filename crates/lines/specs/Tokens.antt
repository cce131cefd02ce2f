-- The tokens of a line, and what a token alone can say.
use Rattle.std.specs.Prelude.{ℕ, ◌==◌, ◌^◌, ◌&&◌, nat_lt, nat_le, not, Bool, if◌then◌else◌, List, length, filter, Option, Some, None}
use Rattle.std.specs.List.{slice_split, list_all}
use Rattle.std.specs.Result.{result_ok}
use Rattle.std.specs.Char.{is_ascii_digit}
use Rattle.std.specs.Str.Parse.{digits_value}
use Rattle.hex.specs.Hex.{decode_of}

-- the bytes of a line between its spaces; pieces without a byte are left out
abbrev pub tokens : List ℕ → List (List ℕ)
tokens content = filter (λ piece. not (length piece == 0)) (slice_split (λ byte. byte == 32) content)

-- a number is 1 to 20 decimal digits with a value below 2^64
abbrev pub is_number : List ℕ → Bool
is_number token =
    nat_lt 0 (length token) && nat_le (length token) 20 && list_all is_ascii_digit token && nat_lt (digits_value 10 token) (2 ^ 64)

-- the number that a token spells
unfoldable pub number : List ℕ → Option ℕ
number token = if is_number token then Some (digits_value 10 token) else None

-- the bytes that a token spells as an even number, at least 2, of hex digits of either case
unfoldable pub bytes_of_hex : List ℕ → Option (List ℕ)
bytes_of_hex token = if nat_lt (length token) 2 then None else result_ok (decode_of token)
