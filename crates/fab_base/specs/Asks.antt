-- What operations do.
use Rattle.std.specs.Prelude.{ℕ, List, []}
use Rattle.fab_base.specs.declared.asks.Op.{Op}
use Rattle.fab_base.specs.declared.asks.Op.TheVariants.{ReadBlock, WriteBlock, ReadStripe, WriteStripe}

-- the bytes that an operation writes; a read writes none
abbrev pub bytes_by : Op → List ℕ
bytes_by (ReadBlock j) = []
bytes_by (WriteBlock j bytes) = bytes
bytes_by ReadStripe = []
bytes_by (WriteStripe bytes) = bytes
