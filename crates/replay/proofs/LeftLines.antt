-- Which lines are left of a source.
use Rattle.std.proofs.Common.{◌≡◌, ℕ, List, [], ◌∷◌, ◌++◌, map, Option, Some, None, IfSome, refl, ap, ◌∙◌}
use Rattle.std.proofs.lemmas.List.{map-append}
use Rattle.std.specs.Io.KnownBytes.{IsAtEnd}
use Rattle.lines.specs.Grammar.{line_of, line_of_tokens, form}
use Rattle.lines.specs.Lines.{raw_lines, content}
use Rattle.lines.specs.Reading.{Passes, BeginsLong, Says}
use Rattle.lines.specs.declared.reader.NextLine.{NextLine}
use Rattle.lines.specs.declared.reader.NextLine.TheVariants.{Whole, Last, Long, Ended}
use Rattle.lines.proofs.LineLengths.{line_of-long}
use Rattle.replay.specs.Turns.{AreLinesOf}

-- some lines are left
pub some_lines : (left : Option (List ℕ)) → (contents : List (List ℕ)) × AreLinesOf left contents
some_lines None = ([], tt)
some_lines (Some bytes) = (map content (raw_lines bytes), refl)

-- at the end there are none
pub no_lines : (left : Option (List ℕ)) → IsAtEnd left → AreLinesOf left []
no_lines None end = tt
no_lines (Some bytes) end = ap (λ l. map content (raw_lines l)) end

-- lines that were taken, and those that are left
pub taken_lines : (left rest : Option (List ℕ)) (lines contents : List (List ℕ)) → Passes left rest lines → AreLinesOf rest contents
    → AreLinesOf left (map content lines ++ contents)
taken_lines None rest lines contents p q = tt
taken_lines (Some x) None lines contents p q = absurd p
taken_lines (Some x) (Some y) lines contents p q =
    ap (λ l. map content l) p ∙ map-append content lines (raw_lines y) ∙ ap (λ l. map content lines ++ l) q

-- a line was taken
pub first_line : (left rest : Option (List ℕ)) (line : List ℕ) → Passes left rest (line ∷ [])
    → (contents : List (List ℕ)) × AreLinesOf left (content line ∷ contents)
first_line left rest line p =
    let more = some_lines rest in
    (more.0, taken_lines left rest (line ∷ []) more.0 p more.1)

-- a line that is no line: `x`
bad_example : line_of (120 ∷ []) ≡ None
unfolding line_of line_of_tokens form
bad_example = refl

-- a line past the limit stands first, and it is no line
pub long_line : (left : Option (List ℕ)) → IfSome left (BeginsLong 70000)
    → (line : List ℕ) × (contents : List (List ℕ)) × AreLinesOf left (line ∷ contents) × (line_of line ≡ None)
long_line None p = (120 ∷ [], [], tt, bad_example)
long_line (Some x) (line, rest, e, over) = (content line, map content rest, ap (λ l. map content l) e, line_of-long (content line) over)

-- what came next is not the end, so some line is left
pub some_line : (left rest : Option (List ℕ)) (piece : NextLine) → Says 70000 left rest piece → (piece ≡ Ended → ⊥) → (line : List ℕ)
    × (contents : List (List ℕ)) × AreLinesOf left (line ∷ contents)
some_line left rest (Whole bytes) says more = let first = first_line left rest bytes says.1 in (content bytes, first.0, first.1)
some_line left rest (Last bytes) says more = let first = first_line left rest bytes says.1 in (content bytes, first.0, first.1)
some_line left rest Long says more = let long = long_line left says.1 in (long.0, long.1, long.2)
some_line left rest Ended says more = absurd (more refl)
