-- The lines of a schedule, taken one after another.
use Rattle.std.proofs.Common.{◌≡◌, ℕ, ◌≤◌, List, [], ◌∷◌, ◌++◌, map, Option, Some, None, IfSome, sym, ap, ◌∙◌, append_assoc, append-nil, arith}
use Rattle.std.specs.Io.KnownBytes.{Keeps, IsAtEnd}
use Rattle.lines.specs.Grammar.{line_of}
use Rattle.lines.specs.Lines.{Parts, raw_lines, content, parts}
use Rattle.lines.specs.Reading.{Passes, BeginsLong, ReadsSchedule, GoesOn}
use Rattle.lines.proofs.LineLengths.{line_of-long}

-- an input's parts, by its schedule
abbrev parted : List ℕ → List (List ℕ) → Option Parts
parted layout schedule = Some (record { layout = layout; schedule = schedule })

-- one more line was taken
pub ReadsSchedule-line : (a b c : Option (List ℕ)) (layout : List ℕ) (lines : List (List ℕ)) (line : List ℕ) → ReadsSchedule a b layout lines
    → Passes b c (line ∷ []) → ReadsSchedule a c layout (lines ++ content line ∷ [])
ReadsSchedule-line None b c layout lines line h next = tt
ReadsSchedule-line (Some x) None c layout lines line h next = absurd h
ReadsSchedule-line (Some x) (Some y) None layout lines line h next = absurd next
ReadsSchedule-line (Some x) (Some y) (Some z) layout lines line h next =
    h ∙ ap (λ l. parted layout (lines ++ map content l)) next
    ∙ ap (parted layout) (sym (append_assoc lines (content line ∷ []) (map content (raw_lines z))))

-- a call took nothing
pub ReadsSchedule-kept : (a b c : Option (List ℕ)) (layout : List ℕ) (lines : List (List ℕ)) → ReadsSchedule a b layout lines → Keeps b c
    → ReadsSchedule a c layout lines
ReadsSchedule-kept None b c layout lines h k = tt
ReadsSchedule-kept (Some x) None c layout lines h k = absurd h
ReadsSchedule-kept (Some x) (Some y) None layout lines h k = absurd k
ReadsSchedule-kept (Some x) (Some y) (Some z) layout lines h k = h ∙ ap (λ l. parted layout (lines ++ map content (raw_lines l))) (sym k)

-- no line is left: these are all lines of the schedule
pub ReadsSchedule-ended : (a b : Option (List ℕ)) (layout : List ℕ) (lines : List (List ℕ)) → ReadsSchedule a b layout lines → IsAtEnd b
    → IfSome a (λ input. parts input ≡ Some (record { layout = layout; schedule = lines }))
ReadsSchedule-ended None b layout lines h end = tt
ReadsSchedule-ended (Some x) None layout lines h end = absurd h
ReadsSchedule-ended (Some x) (Some y) layout lines h end =
    h ∙ ap (λ l. parted layout (lines ++ map content (raw_lines l))) end ∙ ap (parted layout) (append-nil lines)

-- a line was taken that stands behind these
pub GoesOn-line : (a b c : Option (List ℕ)) (layout : List ℕ) (lines : List (List ℕ)) (line : List ℕ) → ReadsSchedule a b layout lines
    → Passes b c (line ∷ []) → IfSome a (GoesOn layout lines (content line))
GoesOn-line None b c layout lines line h next = tt
GoesOn-line (Some x) None c layout lines line h next = absurd h
GoesOn-line (Some x) (Some y) None layout lines line h next = absurd next
GoesOn-line (Some x) (Some y) (Some z) layout lines line h next =
    (map content (raw_lines z), h ∙ ap (λ l. parted layout (lines ++ map content l)) next)

-- a line past a limit of at least 70,000 bytes stands behind these, and it is a bad line
pub GoesOn-long : (limit : ℕ) (a b : Option (List ℕ)) (layout : List ℕ) (lines : List (List ℕ)) → 70000 ≤ limit → ReadsSchedule a b layout lines
    → IfSome b (BeginsLong limit) → IfSome a (λ input. (line : List ℕ) × GoesOn layout lines line input × (line_of line ≡ None))
GoesOn-long limit None b layout lines wide h long = tt
GoesOn-long limit (Some x) None layout lines wide h long = absurd h
GoesOn-long limit (Some x) (Some y) layout lines wide h (line, rest, first, over) = (
  content line,
  (map content rest, h ∙ ap (λ l. parted layout (lines ++ map content l)) first),
  line_of-long (content line) (omega arith),
)
