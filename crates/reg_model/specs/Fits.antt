-- Which registers an operation fits.
use Rattle.std.specs.Prelude.{◌≡◌, ℕ, ◌*◌, List, length}
use Rattle.fab_base.specs.declared.asks.Op.{Op}
use Rattle.reg_model.specs.Strict.{OpFits}

-- the registers are some number of blocks, and the operation fits them
abbrev pub FitsRegisters : ℕ → List ℕ → Op → Type 0
FitsRegisters block registers op = (m : ℕ) × (length registers ≡ m * block) × OpFits m block op
