-- What decoding a token of hex digits says of the bytes that it spells.
use Rattle.std.proofs.Common.{◌≡◌, ℕ, ◌<◌, ◌≤◌, List, length, Some, None, Ok, Err, ap, arith}
use Rattle.std.specs.Result.{result_ok}
use Rattle.std.proofs.lemmas.Bool.Decides.{nat_tests}
use Rattle.hex.specs.Hex.{decode_of}
use Rattle.hex.specs.declared.error.FromHexError.{FromHexError}
use Rattle.lines.specs.Tokens.{bytes_of_hex}

-- one digit, or none, spells no bytes
pub hex_short : (token : List ℕ) → length token < 2 → None ≡ bytes_of_hex token
unfolding bytes_of_hex
hex_short token short = grind (arith, nat_tests)

long_enough : (token : List ℕ) → 2 ≤ length token → bytes_of_hex token ≡ result_ok (decode_of token)
unfolding bytes_of_hex
long_enough token long = grind (arith, nat_tests)

pub hex_decoded : (token bytes : List ℕ) → 2 ≤ length token → decode_of token ≡ Ok bytes → Some bytes ≡ bytes_of_hex token
hex_decoded token bytes long e = let same = long_enough token long in let decoded = ap result_ok e in cc

pub hex_refused : (token : List ℕ) (error : FromHexError) → 2 ≤ length token → decode_of token ≡ Err error → None ≡ bytes_of_hex token
hex_refused token error long e = let same = long_enough token long in let decoded = ap result_ok e in cc
