use Rattle.std.proofs.Common.{◌≡◌, ℕ, ◌-◌, ◌/◌, ◌^◌, ◌<◌, get_or}
use Rattle.std.specs.Prelude.{bit_xor}
use Rattle.gf_field.specs.BitPolynomials.{bits_of}
use Rattle.gf_field.specs.Field.{field_mul}
use Rattle.gf_field.proofs.Doubling.{times}
use Rattle.gf_lanes.proofs.mul_lanes.Given as goal

abbrev pub invariant-loop-i : goal.invariant-loop-i
invariant-loop-i l =
    (k : ℕ) → k < 32 → bit_xor (get_or l.product k 0) (times (bits_of (8 - l.i) (l.c / 2 ^ l.i)) (get_or l.power k 0)) ≡ field_mul l.c
    (get_or l.fn.v k 0)
