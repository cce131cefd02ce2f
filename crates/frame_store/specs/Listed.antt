-- A list of frames as bytes: each an open gate, a kind, the body's length and the body.
use Rattle.std.specs.Prelude.{ℕ, zero, suc, ◌+◌, ◌^◌, ◌<◌, ◌≤◌, ◌&&◌, nat_le, ◌==◌, if◌then◌else◌, List, [], ◌∷◌, ◌++◌, length, take, drop, Option, Some, None}
use Rattle.std.specs.Int.{w32, to_be_bytes, from_be_bytes}
use Rattle.frame_store.specs.declared.frames.Frame.{Frame}
use Rattle.frame_store.specs.declared.shapes.Shape.{Shape}
use Rattle.frame_store.specs.Layouts.{index_half_size, open_gate}

-- a frame after its gate
abbrev pub frame_rest : Frame → List ℕ
frame_rest frame = frame.kind ∷ (to_be_bytes w32 (length frame.body) ++ frame.body)

-- frames with open gates, one after the other
abbrev pub spelled : List Frame → List ℕ
spelled [] = []
spelled (frame ∷ frames) = open_gate ∷ (frame_rest frame ++ spelled frames)

-- what is written behind a gate for a frame: the rest of it, and the next gate, which is closed
abbrev pub line_of : Frame → List ℕ
line_of frame = frame_rest frame ++ 0 ∷ []

-- a list, and a closed gate
abbrev pub closed_list : List Frame → List ℕ
closed_list frames = spelled frames ++ 0 ∷ []

-- how many bytes the frames are
abbrev pub size_of : List Frame → ℕ
size_of [] = 0
size_of (frame ∷ frames) = 6 + length frame.body + size_of frames

-- the length of each body fits its field
abbrev pub AreShort : List Frame → Type 0
AreShort [] = Unit {0}
AreShort (frame ∷ frames) = (length frame.body < 2 ^ 32) × AreShort frames

-- after these frames, one with a body of this length and a closed gate fit in a half of the index
abbrev pub Fits : Shape → List Frame → ℕ → Type 0
Fits shape frames len = size_of frames + 6 + len + 1 ≤ index_half_size shape

abbrev pub frame_of : ℕ → List ℕ → Frame
frame_of kind body = record { kind = kind; body = body }

-- The frame at the front, and the bytes after it. None where the gate is not open, or where the bytes end within the frame.
unfoldable pub frame_at : List ℕ → Option (Frame × List ℕ)
frame_at (gate ∷ kind ∷ a ∷ b ∷ c ∷ d ∷ rest) =
    let len = from_be_bytes w32 (a ∷ b ∷ c ∷ d ∷ []) in
    if (gate == open_gate) && nat_le len (length rest) then Some (frame_of kind (take len rest), drop len rest) else None
frame_at bytes = None

abbrev pub onto : {X : Type 0} → Option (Frame × X) → (X → List Frame) → List Frame
onto None more = []
onto (Some found) more = found.0 ∷ more found.1

-- at most n frames from the front on
unfoldable pub frames_in : ℕ → List ℕ → List Frame
frames_in zero bytes = []
frames_in (suc n) bytes = onto (frame_at bytes) (frames_in n)

-- The frames from the front on. The list ends before the first gate that is not open, or where the bytes end.
abbrev pub frames_of : List ℕ → List Frame
frames_of bytes = frames_in (length bytes) bytes
