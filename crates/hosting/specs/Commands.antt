-- What a line of commands says.
use Rattle.std.specs.Prelude.{ℕ, nat_eq, nat_le, if◌then◌else◌, List, [], ◌∷◌, length, codes, Option, Some, None}
use Rattle.std.specs.List.{starts_with}
use Rattle.std.specs.Option.{option_map}
use Rattle.std.specs.Str.{bytes_eq}
use Rattle.lines.specs.Grammar.{◌>>=◌}
use Rattle.lines.specs.Tokens.{tokens, number, bytes_of_hex}
use Rattle.hosting.specs.declared.commands.Access.{Access}
use Rattle.hosting.specs.declared.commands.Access.TheVariants.{Read, Write}
use Rattle.hosting.specs.declared.commands.Line.{Line}
use Rattle.hosting.specs.declared.commands.Line.TheVariants.{Nothing, Run}

-- what is done: `read`, with LENGTH, or `write`, with HEX
unfoldable pub access_of : List ℕ → List ℕ → Option Access
access_of word last =
    if bytes_eq word (codes "read") then option_map Read (number last)
    else if bytes_eq word (codes "write") then option_map Write (bytes_of_hex last)
    else None

-- `read B VOLUME BYTE LENGTH` or `write B VOLUME BYTE HEX`: the first word, and the words behind it. Nothing else is a command.
unfoldable pub form : List ℕ → List (List ℕ) → Option Line
form word (b ∷ volume ∷ at ∷ last ∷ []) = do
  access ← access_of word last
  brick ← number b
  byte ← number at
  Some (Run (record { brick = brick; volume = volume; byte = byte; access = access }))
form word _ = None

-- what the tokens of a line say: nothing where there is none or the first begins with `#`
unfoldable pub line_of_tokens : List (List ℕ) → Option Line
line_of_tokens [] = Some Nothing
line_of_tokens (word ∷ arguments) = if starts_with nat_eq word (codes "#") then Some Nothing else form word arguments

-- what a line says that has these bytes before its line feed and the one carriage return before that; none has more than 70,000
unfoldable pub line_of : List ℕ → Option Line
line_of content = if nat_le (length content) 70000 then line_of_tokens (tokens content) else None
