-- What becomes of bytes that were read when a line is taken from their front.
use Rattle.std.specs.Prelude.{◌≡◌, ℕ, ◌<◌, ◌≤◌, List, [], ◌++◌, length, take, drop, Option}
use Rattle.std.specs.Io.KnownBytes.{Consumes}
use Rattle.lines.specs.Lines.{content}
use Rattle.lines.specs.declared.reader.NextLine.{NextLine}
use Rattle.lines.specs.declared.reader.NextLine.TheVariants.{Whole, Last, Long, Ended}

-- the first so many bytes are taken as a line where it is within the limit
abbrev pub Takes : ℕ → ℕ → List ℕ → List ℕ → NextLine → Type 0
Takes limit len old new (Whole line) = (line ≡ take len old) × (new ≡ drop len old) × (length (content line) ≤ limit)
Takes limit len old new (Last line) = ⊥
Takes limit len old new Long = (new ≡ old) × (limit < length (content (take len old)))
Takes limit len old new Ended = ⊥

-- all the bytes are taken as the last line, where there are any
abbrev pub TakesLast : ℕ → List ℕ → List ℕ → NextLine → Type 0
TakesLast limit old new (Whole line) = ⊥
TakesLast limit old new (Last line) = (0 < length old) × (line ≡ old) × (new ≡ []) × (length (content line) ≤ limit)
TakesLast limit old new Long = (0 < length old) × (new ≡ old) × (limit < length (content old))
TakesLast limit old new Ended = (old ≡ []) × (new ≡ [])

-- bytes were read behind these, and no more than the last read gave
abbrev pub Fills : List ℕ → List ℕ → Option (List ℕ) → Option (List ℕ) → ℕ → Type 0
Fills old new told told_after came =
    (bytes : List ℕ) × Consumes told told_after bytes × (new ≡ old ++ bytes) × (length bytes ≤ came)
