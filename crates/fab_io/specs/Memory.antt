-- What is seen of a source and of a sink in memory.
use Rattle.std.specs.Prelude.{ℕ, ◌-◌, ◌^◌, min, List, [], ◌++◌, length, take, drop}
use Rattle.fab_io.specs.Calls.{CallCount, no_calls, after_call, after_failed_call}

-- the bytes not given yet, the most that one read gives, how many the last read gave, and the calls made
pub record SourceInMemory : Type 0 where
  pub left : List ℕ
  pub piece : ℕ
  pub came : ℕ
  pub calls : CallCount

-- a source of these bytes, of which no read was asked yet
abbrev pub source_of : List ℕ → SourceInMemory
source_of bytes = record { left = bytes; piece = 2 ^ 64 - 1; came = 0; calls = no_calls }

-- how many bytes a read into this much room gives
abbrev pub given : SourceInMemory → ℕ → ℕ
given s room = min s.piece (min room (length s.left))

-- after a read that gave n bytes
abbrev pub after_read : SourceInMemory → ℕ → SourceInMemory
after_read s n = record s { left = drop n s.left; came = n; calls = after_call s.calls }

-- after a read that failed
abbrev pub after_failed_read : SourceInMemory → SourceInMemory
after_failed_read s = record s { came = 0; calls = after_failed_call s.calls }

-- the bytes taken, the most that a write takes where it fails, and the calls made
pub record SinkInMemory : Type 0 where
  pub taken : List ℕ
  pub part : ℕ
  pub calls : CallCount

-- a sink that took nothing yet
abbrev pub empty_sink : SinkInMemory
empty_sink = record { taken = []; part = 0; calls = no_calls }

-- after a write of these bytes
abbrev pub after_write : SinkInMemory → List ℕ → SinkInMemory
after_write s from = record s { taken = s.taken ++ from; calls = after_call s.calls }

-- after a write of these bytes that failed
abbrev pub after_failed_write : SinkInMemory → List ℕ → SinkInMemory
after_failed_write s from = record s { taken = s.taken ++ take s.part from; calls = after_failed_call s.calls }
