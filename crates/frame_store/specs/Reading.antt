-- What a reading of a list tells of the bytes that it went through.
use Rattle.std.specs.Prelude.{◌≡◌, ◌≢◌, ℕ, ◌<◌, ◌≤◌, Bool, true, List, length, get_or, drop, take, None}
use Rattle.frame_store.specs.declared.frames.Frame.{Frame}
use Rattle.frame_store.specs.Layouts.{open_gate}
use Rattle.frame_store.specs.Listed.{spelled, size_of, AreShort, frame_at, frames_of}

-- these frames stand at the front of the bytes, and no whole frame behind them
pub record IsFront (bytes : List ℕ) (frames : List Frame) (used : ℕ) : Type 0 where
  pub size : used ≡ size_of frames
  pub short : AreShort frames
  pub within : used ≤ length bytes
  pub stands : take used bytes ≡ spelled frames
  pub ended : frame_at (drop used bytes) ≡ None

-- a gate that is not open stands at this place
pub record IsShutAt (bytes : List ℕ) (at : ℕ) : Type 0 where
  pub within : at < length bytes
  pub shut : get_or bytes at 0 ≢ open_gate

-- these frames stand at the front of a piece of a list; closed says whether a gate that is not open stands behind them
pub record IsPiece (bytes : List ℕ) (frames : List Frame) (used : ℕ) (closed : Bool) : Type 0 where
  pub front : IsFront bytes frames used
  pub ended : closed ≡ true → IsShutAt bytes used
  pub not_ended : IsShutAt bytes used → closed ≡ true

-- The list of these bytes has these frames, which are so many bytes; closed says whether a gate that is not open stands behind them.
pub record IsListOf (bytes : List ℕ) (frames : List Frame) (used : ℕ) (closed : Bool) : Type 0 where
  pub listed : frames_of bytes ≡ frames
  pub short : AreShort frames
  pub stands : take used bytes ≡ spelled frames
  pub within : used ≤ length bytes
  pub ended : closed ≡ true → IsShutAt bytes used
  pub not_ended : IsShutAt bytes used → closed ≡ true
