-- whether the tokens that are left spell numbers is whether all do
use Rattle.std.proofs.Common.{◌≡◌, ◌==◌, length, drop}
use Rattle.std.specs.List.{list_all, slice_split}
use Rattle.transcript.specs.Tokens.{is_plain}
use Rattle.transcript.proofs.tokens.are_plain.Given as goal

abbrev pub invariant-loop-token : goal.invariant-loop-token
invariant-loop-token l =
    list_all is_plain (drop (length l.yielded) (slice_split (λ byte. byte == 32) l.text)) ≡ list_all is_plain (slice_split (λ byte. byte == 32) l.text)
