-- What the length of a line decides.
use Rattle.std.proofs.Common.{◌≡◌, ℕ, ◌<◌, ◌≤◌, List, length, None, arith}
use Rattle.std.proofs.lemmas.Bool.Decides.{nat_tests}
use Rattle.lines.specs.Tokens.{tokens}
use Rattle.lines.specs.Grammar.{line_of, line_of_tokens}

-- a line past 70,000 bytes is a bad line
pub line_of-long : (content : List ℕ) → 70000 < length content → line_of content ≡ None
unfolding line_of
line_of-long content long = grind (arith, nat_tests)

-- one within them says what its tokens say
pub line_of-short : (content : List ℕ) → length content ≤ 70000 → line_of content ≡ line_of_tokens (tokens content)
unfolding line_of
line_of-short content short = grind (arith, nat_tests)
