-- A stripe's registers: m data blocks of equal length, one after the other, all zero at first.
use Rattle.std.specs.Prelude.{ℕ, ◌+◌, ◌*◌, List, ◌++◌, take, drop, replicate, Option, Some, None}
use Rattle.fab_base.specs.declared.asks.Op.{Op}
use Rattle.fab_base.specs.declared.asks.Op.TheVariants.{ReadBlock, WriteBlock, ReadStripe, WriteStripe}

-- before anything is written
abbrev pub zero_registers : ℕ → ℕ → List ℕ
zero_registers m block = replicate (m * block) 0

-- data block j
abbrev pub block_of : ℕ → ℕ → List ℕ → List ℕ
block_of block j registers = take block (drop (j * block) registers)

-- the registers with data block j replaced
abbrev pub with_block : ℕ → ℕ → List ℕ → List ℕ → List ℕ
with_block block j bytes registers = take (j * block) registers ++ (bytes ++ drop ((j + 1) * block) registers)

-- what the registers hold after an operation
abbrev pub after_op : ℕ → Op → List ℕ → List ℕ
after_op block (ReadBlock j) registers = registers
after_op block (WriteBlock j bytes) registers = with_block block j bytes registers
after_op block ReadStripe registers = registers
after_op block (WriteStripe bytes) registers = bytes

-- what a read gives, data block j or all blocks in order; a write gives nothing
abbrev pub read_of : ℕ → Op → List ℕ → Option (List ℕ)
read_of block (ReadBlock j) registers = Some (block_of block j registers)
read_of block (WriteBlock j bytes) registers = None
read_of block ReadStripe registers = Some registers
read_of block (WriteStripe bytes) registers = None
