-- What the text of a trace tells of what `replay` prints.
use Rattle.std.specs.Prelude.{◌≡◌, ℕ, ◌==◌, ◌&&◌, not, Bool, if◌then◌else◌, List, [], ◌∷◌, ◌++◌, drop, filter, map, slice_index}
use Rattle.std.specs.List.{concat}
use Rattle.lines.specs.Lines.{is_line_feed, raw_lines}
use Rattle.protocol.specs.Settings.{Setting}
use Rattle.protocol.specs.Worlds.{World}
use Rattle.world.specs.Runs.{Step}
use Rattle.fab_base.specs.Texts.{newline}
use Rattle.world.specs.Texts.{step_text}

-- whether exactly two spaces stand before a line
abbrev pub is_told : List ℕ → Bool
is_told line = slice_index line 0 == 32 && slice_index line 1 == 32 && not (slice_index line 2 == 32)

-- the lines of a text before which exactly two spaces stand, without these
unfoldable pub told_in : List ℕ → List ℕ
told_in text = concat (map (drop 2) (filter is_told (raw_lines text)))

-- a text of whole lines, which tells this, whatever stands behind it
abbrev pub IsTold : List ℕ → List ℕ → Type 0
IsTold text told = (more : List ℕ) → told_in (text ++ more) ≡ told ++ told_in more

-- a text is what `replay` prints for a line
abbrev pub IsStepText : List ℕ → Type 0
IsStepText text = (setting : Setting) × (w : World) × (step : Step) × (text ≡ step_text setting w step)

-- a byte, behind two spaces where it begins a line
abbrev pub behind_spaces : Bool → ℕ → List ℕ
behind_spaces begins byte = if begins then 32 ∷ 32 ∷ byte ∷ [] else byte ∷ []

-- a text, whose first byte begins a line or not, with two spaces before each line
abbrev pub indented : Bool → List ℕ → List ℕ
indented begins [] = []
indented begins (byte ∷ text) = behind_spaces begins byte ++ indented (is_line_feed byte) text

-- a byte that is no line feed
abbrev pub is_inside : ℕ → Bool
is_inside byte = not (is_line_feed byte)

-- a line of a text, without its line feeds, behind a margin
abbrev pub with_margin : List ℕ → List ℕ → List ℕ
with_margin margin text = margin ++ (filter is_inside text ++ newline)
