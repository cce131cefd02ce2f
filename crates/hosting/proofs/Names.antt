-- Names in ASCII.
use Rattle.std.proofs.Common.{◌≡◌, ℕ, nat_lt, ◌<◌, true, List, [], ◌∷◌, arith}
use Rattle.std.specs.List.{list_all}
use Rattle.std.specs.Str.{IsAscii, IsUtf8}
use Rattle.std.proofs.lemmas.Str.{IsUtf8-from_ascii}
use Rattle.std.proofs.lemmas.Str.Ascii.{IsAscii-nil, IsAscii-cons}
use Rattle.std.proofs.lemmas.Bool.{and_parts}
use Rattle.std.proofs.lemmas.Bool.Decides.{nat_tests}
use Rattle.hosting.specs.Commanded.{is_ascii, name_of}

below_128 : (byte : ℕ) → nat_lt byte 128 ≡ true → byte < 128
below_128 byte test = grind (arith, nat_tests)

ascii : (name : List ℕ) → is_ascii name ≡ true → IsAscii name
ascii [] test = IsAscii-nil
ascii (byte ∷ rest) test =
    let parts = and_parts (nat_lt byte 128) (list_all (λ b. nat_lt b 128) rest) test in
    IsAscii-cons byte rest (below_128 byte parts.0) (ascii rest parts.1)

-- they are text
pub utf8 : (name : List ℕ) → is_ascii name ≡ true → IsUtf8 name
utf8 name test = IsUtf8-from_ascii name (ascii name test)

-- and the names of volumes
pub name_known : (name : List ℕ) → is_ascii name ≡ true → name_of name ≡ name
name_known name test = grind (arith, nat_tests, test)
