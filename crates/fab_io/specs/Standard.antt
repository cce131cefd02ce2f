-- What is seen of an adapter over a reader or a writer of std.
use Rattle.std.specs.Prelude.{ℕ, List, Option}

-- the bytes that the reader tells, where it does, how many the last read gave, and the faults counted
pub record ReaderAdapter : Type 0 where
  pub told : Option (List ℕ)
  pub came : ℕ
  pub faults : ℕ

-- the bytes that the writer tells, where it does, and the faults counted
pub record WriterAdapter : Type 0 where
  pub told : Option (List ℕ)
  pub faults : ℕ
