use Rattle.std.proofs.Common.{◌≡◌, ℕ, ◌<◌, length, get_or}
use Rattle.gf_field.specs.Polynomials.{weight_of}
use Rattle.rs_code.proofs.code.seat_weights.Given as goal

abbrev pub invariant-loop-i : goal.invariant-loop-i
invariant-loop-i l =
    (length l.weights ≡ 16) × ((h : ℕ) → h < l.i → get_or l.weights h 0 ≡ weight_of (length l.seats) (λ i. get_or l.seats i 0) h l.j)
