use Rattle.std.proofs.Common.{◌≡◌, ℕ, ◌<◌, length, get_or}
use Rattle.gf_field.specs.Polynomials.{weight_of}
use Rattle.rs_code.proofs.code.data_weights.Given as goal

abbrev pub invariant-loop-j : goal.invariant-loop-j
invariant-loop-j l = (length l.weights ≡ 16) × ((h : ℕ) → h < l.j → get_or l.weights h 0 ≡ weight_of l.m (λ i. i) h l.k)
