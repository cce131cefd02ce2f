-- What a range writes.
use Rattle.std.specs.Prelude.{ℕ, List, Option, None, Some}
use Rattle.front.specs.declared.pieces.Content.{Content}
use Rattle.front.specs.declared.pieces.Content.TheVariants.{Nothing, Kept, Lent}

-- the bytes that are written, if it is a write
abbrev pub written_by : Content → Option (List ℕ)
written_by Nothing = None
written_by (Kept bytes) = Some bytes
written_by (Lent bytes) = Some bytes.now
