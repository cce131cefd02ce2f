use Rattle.std.proofs.Common.{◌≡◌, ℕ, ◌<◌, get_or}
use Rattle.std.specs.Prelude.{bit_xor}
use Rattle.stripe_code.proofs.blocks.delta.Given as goal

abbrev pub invariant-loop-t : goal.invariant-loop-t
invariant-loop-t l = (k : ℕ) → k < l.t → get_or l.byte-items k 0 ≡ bit_xor (get_or l.old k 0) (get_or l.new k 0)
