-- The tokens that were found, and those of the rest, are those of the line.
use Rattle.std.proofs.Common.{◌≡◌, ◌++◌, map, length}
use Rattle.lines.specs.Tokens.{tokens}
use Rattle.lines.proofs.tokens.split.Given as goal

abbrev pub invariant-loop-found : goal.invariant-loop-found
invariant-loop-found l = map (λ token. token.now) l.found.items ++ tokens l.rest ≡ tokens l.content

abbrev pub decreases-loop-found : goal.decreases-loop-found
decreases-loop-found l = length l.rest
