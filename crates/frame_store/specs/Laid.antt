-- What a store keeps true of the bytes of its disk.
use Rattle.std.specs.Prelude.{◌≡◌, ℕ, ◌≤◌, Bool, true, false, List, get_or}
use Rattle.frame_store.specs.declared.frames.Frame.{Frame}
use Rattle.frame_store.specs.declared.shapes.Shape.{Shape}
use Rattle.frame_store.specs.declared.shapes.Half.{Half}
use Rattle.frame_store.specs.declared.shapes.Half.TheVariants.{A, B}
use Rattle.frame_store.specs.Layouts.{IsShape, open_gate, header_at, half_at, half_size}
use Rattle.frame_store.specs.Listed.{frames_of, size_of, spelled, AreShort}
use Rattle.frame_store.specs.Steps.{next_of}
use Rattle.frame_store.specs.Images.{part, InForce, IsShut, EndsClosed, generation_at, half_bytes}

abbrev pub other : Half → Half
other A = B
other B = A

-- the new image is read by the other half than the old one, and of the generation after its
abbrev pub IsRenewed : Shape → List ℕ → List ℕ → Type 0
IsRenewed shape old new = (half : Half) → InForce shape half old
    → InForce shape (other half) new × (generation_at (other half) new ≡ next_of (generation_at half old))

-- The image is read by this half, whose header has this generation, and gives these frames. It is known whether the other
-- header's gate is shut, and whether a closed gate stands after the list.
pub record Laid (shape : Shape) (half : Half) (number : ℕ) (other_shut : Bool) (frames : List Frame) (closed : Bool) (image : List ℕ) : Type 0 where
  pub in_force : InForce shape half image
  pub generation : generation_at half image ≡ number
  pub listed : frames_of (half_bytes shape half image) ≡ frames
  pub short : AreShort frames
  pub stands : part (half_at shape half) (size_of frames) image ≡ spelled frames
  pub shut : other_shut ≡ true → IsShut (header_at (other half)) image
  pub unshut : other_shut ≡ false → get_or image (header_at (other half)) 0 ≡ open_gate
  pub ended : closed ≡ true → EndsClosed shape half frames image
  pub not_ended : EndsClosed shape half frames image → closed ≡ true

-- the numbers that a store keeps
pub record IsCounted (shape : Shape) (frames : List Frame) (used : ℕ) : Type 0 where
  pub limits : IsShape shape
  pub used_is : used ≡ size_of frames
  pub within : size_of frames ≤ half_size shape
