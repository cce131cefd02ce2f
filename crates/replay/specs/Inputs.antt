-- What an input is to the program: the text of a layout, the line that ends it, and the lines of a schedule.
use Rattle.std.specs.Prelude.{◌≡◌, ℕ, nat_lt, if◌then◌else◌, List, length, ⊤, Option, Some, None}
use Rattle.lines.specs.Lines.{Parts, parts}

-- the most bytes of a layout's text
abbrev pub most_layout_bytes : ℕ
most_layout_bytes = 1048576

-- A layout's text, and what stands on the lines of the schedule behind it; or an input whose layout's text is
-- too long; or one without a line that ends its layout.
pub data Input : Type 0 where
  Parted : (layout : List ℕ) → (schedule : List (List ℕ)) → Input
  TooLong : Input
  Endless : Input

-- an input whose layout has this text
abbrev pub unless_long : List ℕ → Input → Input
unless_long text input = if nat_lt most_layout_bytes (length text) then TooLong else input

-- an input by its parts; where no line ends the layout, all of it is the layout's text
abbrev pub input_in : List ℕ → Option Parts → Input
input_in bytes None = unless_long bytes Endless
input_in bytes (Some p) = unless_long p.layout (Parted p.layout p.schedule)

-- what an input is, by its bytes
unfoldable pub input_of : List ℕ → Input
input_of bytes = input_in bytes (parts bytes)

-- the input is this, where the source tells its bytes
abbrev pub IsInput : Option (List ℕ) → Input → Type 0
IsInput None input = ⊤
IsInput (Some bytes) input = input_of bytes ≡ input
