-- Powers of the element x.
use Rattle.std.specs.Prelude.{ℕ, zero, suc}
use Rattle.gf_field.specs.Field.{field_mul}

-- x to the power n
unfoldable pub power_of : ℕ → ℕ
power_of zero = 1
power_of (suc n) = field_mul 2 (power_of n)
