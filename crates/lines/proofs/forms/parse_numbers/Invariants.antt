-- the numbers so far, before those of the tokens that are left, are those of all
use Rattle.std.proofs.Common.{◌≡◌, drop}
use Rattle.lines.specs.Grammar.{numbers}
use Rattle.lines.proofs.Arguments.{words}
use Rattle.lines.proofs.BrickTokens.{onto}
use Rattle.lines.proofs.forms.parse_numbers.Given as goal

abbrev pub invariant-loop-token : goal.invariant-loop-token
invariant-loop-token l = onto l.found.items (numbers (words (drop l.token-index l.tokens))) ≡ numbers (words l.tokens)
