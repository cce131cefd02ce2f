-- How the bytes of an input split into lines, and its lines into a layout and a schedule.
use Rattle.std.specs.Prelude.{ℕ, ◌-◌, ◌==◌, not, Bool, if◌then◌else◌, List, [], ◌∷◌, ◌++◌, length, take, slice_index, codes, filter, map, Option, Some, None}
use Rattle.std.specs.List.{onto_first, concat}
use Rattle.std.specs.Option.{option_map}
use Rattle.std.specs.Str.{bytes_eq}
use Rattle.std.specs.Str.Lines.{strip_carriage_return}

-- a line feed is the byte 10
abbrev pub is_line_feed : ℕ → Bool
is_line_feed byte = byte == 10

-- the lines of an input, each with its line feed, which the last may lack
abbrev pub raw_lines : List ℕ → List (List ℕ)
raw_lines [] = []
raw_lines (byte ∷ rest) = if is_line_feed byte then (byte ∷ []) ∷ raw_lines rest else onto_first byte (raw_lines rest)

-- whether a line has its line feed
abbrev pub has_line_feed : List ℕ → Bool
has_line_feed line = is_line_feed (slice_index line (length line - 1))

-- a line without its line feed and the one carriage return before that; a line that lacks the line feed is whole
abbrev pub content : List ℕ → List ℕ
content line = if has_line_feed line then strip_carriage_return (take (length line - 1) line) else line

-- the lines of an input that have their line feed
abbrev pub whole_lines : List ℕ → List (List ℕ)
whole_lines bytes = filter has_line_feed (raw_lines bytes)

-- the bytes behind the last line feed of an input
abbrev pub begun_line : List ℕ → List ℕ
begun_line bytes = concat (filter (λ line. not (has_line_feed line)) (raw_lines bytes))

-- whether a line is the one that ends a layout, exactly `---`
abbrev pub ends_layout : List ℕ → Bool
ends_layout line = bytes_eq (content line) (codes "---")

-- the bytes of a layout, and what stands on the lines of the schedule behind it
pub record Parts : Type 0 where
  pub layout : List ℕ
  pub schedule : List (List ℕ)

-- a line before those of the layout
abbrev pub onto_layout : List ℕ → Parts → Parts
onto_layout line parts = record parts { layout = line ++ parts.layout }

-- the lines before the first that ends a layout, and those behind it; none where no line ends a layout
abbrev pub parts_of_lines : List (List ℕ) → Option Parts
parts_of_lines [] = None
parts_of_lines (line ∷ rest) =
    if ends_layout line then Some (record { layout = []; schedule = map content rest })
    else option_map (onto_layout line) (parts_of_lines rest)

-- the layout and the schedule of an input
abbrev pub parts : List ℕ → Option Parts
parts input = parts_of_lines (raw_lines input)
