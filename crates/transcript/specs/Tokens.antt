-- What stands at the front of a line, or alone: in one spelling, with no leading zero and no letter of upper case.
use Rattle.std.specs.Prelude.{ℕ, ◌+◌, ◌==◌, nat_lt, ◌&&◌, Bool, if◌then◌else◌, List, length, take, drop, codes, Option, Some, None, option_map}
use Rattle.std.specs.List.{starts_with, slice_split, list_all, list_any, position}
use Rattle.std.specs.Option.{is_some}
use Rattle.std.specs.Prelude.{nat_eq}
use Rattle.std.specs.Borrow.{Bor}
use Rattle.std.specs.Str.{bytes_eq}
use Rattle.std.specs.Char.{is_ascii_uppercase}
use Rattle.lines.specs.Tokens.{number, bytes_of_hex}
use Rattle.lines.specs.Grammar.{◌>>=◌}

-- what stands behind these bytes, where the text begins with them
unfoldable pub behind : List ℕ → List ℕ → Option (List ℕ)
behind front text = if bytes_eq (take (length front) text) front then Some (drop (length front) text) else None

-- what stands before the first byte of this value, and what behind it
unfoldable pub cut : ℕ → List ℕ → Option (List ℕ × List ℕ)
cut end text = option_map (λ at. (take at text, drop (at + 1) text)) (position (λ byte. byte == end) text)

-- two texts that are pointed to
abbrev pub cut_shown : (Bor (List ℕ) × Bor (List ℕ)) → List ℕ × List ℕ
cut_shown parts = (parts.0.now, parts.1.now)

-- the number that a token spells with no leading zero
unfoldable pub plain_number : List ℕ → Option ℕ
plain_number token = if nat_lt 1 (length token) && starts_with nat_eq token (codes "0") then None else number token

unfoldable pub is_plain : List ℕ → Bool
is_plain token = is_some (plain_number token)

-- each token of a text is such a number, with single spaces between them
unfoldable pub are_plain : List ℕ → Bool
are_plain text = list_all is_plain (slice_split (λ byte. byte == 32) text)

-- the number before the first byte of this value, and what stands behind that
unfoldable pub number_before : ℕ → List ℕ → Option (ℕ × List ℕ)
number_before end text = do
  parts ← cut end text
  n ← plain_number parts.0
  Some (n, parts.1)

-- a number, and a text that is pointed to
abbrev pub number_shown : (ℕ × Bor (List ℕ)) → ℕ × List ℕ
number_shown parts = (parts.0, parts.1.now)

-- the bytes that a token spells in hex of lower case: at least one
unfoldable pub lower_hex : List ℕ → Option (List ℕ)
lower_hex token = if list_any is_ascii_uppercase token then None else bytes_of_hex token
