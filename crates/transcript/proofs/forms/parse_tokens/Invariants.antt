-- the happenings so far, before those of the tokens that are left, are those of all
use Rattle.std.proofs.Common.{◌≡◌, drop}
use Rattle.transcript.specs.Forms.{happenings_of_tokens}
use Rattle.transcript.proofs.Happenings.{tokens_in, onto}
use Rattle.transcript.proofs.forms.parse_tokens.Given as goal

abbrev pub invariant-loop-token : goal.invariant-loop-token
invariant-loop-token l = onto l.found.items (happenings_of_tokens (tokens_in (drop l.token-index l.tokens))) ≡ happenings_of_tokens (tokens_in l.tokens)
