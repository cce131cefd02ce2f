-- What an input is, once some lines of its layout were taken.
use Rattle.std.proofs.Common.{◌≡◌, ℕ, ◌+◌, ◌-◌, ◌<◌, ◌≤◌, ◌==◌, Bool, true, false, List, [], ◌∷◌, ◌++◌, length, take, slice_index, Option, Some, None, IfSome, refl, sym, ap, ◌∙◌, subst, arith, lt-ltb, le-ltb, length-append, length-take, codes}
use Rattle.std.specs.Prelude.{⊤}
use Rattle.std.specs.List.{list_any, concat}
use Rattle.std.specs.Option.{option_map}
use Rattle.std.specs.Str.Lines.{strip_carriage_return}
use Rattle.std.specs.Io.KnownBytes.{IsAtEnd}
use Rattle.std.proofs.lemmas.Bool.{cond_both, or_parts}
use Rattle.std.proofs.lemmas.List.Folds.{list_any-append}
use Rattle.std.proofs.lemmas.Slice.Eq.{bytes_eq-Decides}
use Rattle.lines.specs.Lines.{Parts, is_line_feed, raw_lines, content, ends_layout, parts, parts_of_lines, onto_layout}
use Rattle.lines.specs.Reading.{BeginsLong, ReadsHead}
use Rattle.lines.proofs.RawLines.{concat-raw_lines}
use Rattle.lines.proofs.HeadLines.{ReadsHead-ended}
use Rattle.replay.specs.Inputs.{Input, Parted, TooLong, Endless, most_layout_bytes, unless_long, input_in, input_of, IsInput}

-- a text past the limit is too long
past : (text : List ℕ) (input : Input) → most_layout_bytes < length text → unless_long text input ≡ TooLong
past text input over = rw (lt-ltb most_layout_bytes (length text) over) refl

-- a text within the limit is not
pub within : (text : List ℕ) (input : Input) → length text ≤ most_layout_bytes → unless_long text input ≡ input
within text input under = rw (le-ltb most_layout_bytes (length text) under) refl

-- the layout of an input's parts, if it has them, has at least so many bytes
abbrev LayoutHas : ℕ → Option Parts → Type 0
LayoutHas n None = ⊤
LayoutHas n (Some p) = n ≤ length p.layout

-- a line before the layout
layout_has-line : (line : List ℕ) (n : ℕ) (p : Option Parts) → LayoutHas n p → LayoutHas (length line + n) (option_map (onto_layout line) p)
layout_has-line line n None has = tt
layout_has-line line n (Some p) has = omega (arith, length-append line p.layout, has)

-- lines none of which ends the layout belong to it
layout_has : (lines rest : List (List ℕ)) → list_any ends_layout lines ≡ false → LayoutHas (length (concat lines)) (parts_of_lines (lines ++ rest))
layout_has [] rest none = of_parts (parts_of_lines rest)
  where
    of_parts : (p : Option Parts) → LayoutHas 0 p
    of_parts None = tt
    of_parts (Some p) = omega arith
layout_has (line ∷ lines) rest none =
    let both = or_parts (ends_layout line) (list_any ends_layout lines) none in
    let more = layout_has-line line (length (concat lines)) (parts_of_lines (lines ++ rest)) (layout_has lines rest both.1) in
    rw (both.0) (subst (λ (k : ℕ). LayoutHas k (option_map (onto_layout line) (parts_of_lines (lines ++ rest))))
    (sym (length-append line (concat lines))) more)

-- some of the lines have no more bytes than all
some_of_all : (lines rest : List (List ℕ)) → length (concat lines) ≤ length (concat (lines ++ rest))
some_of_all [] rest = omega arith
some_of_all (line ∷ lines) rest =
    omega (arith, length-append line (concat lines), length-append line (concat (lines ++ rest)), some_of_all lines rest)

-- lines none of which ends the layout are past the limit
too_long-lines : (bytes : List ℕ) (lines rest : List (List ℕ)) → raw_lines bytes ≡ lines ++ rest → list_any ends_layout lines ≡ false
    → most_layout_bytes < length (concat lines) → input_of bytes ≡ TooLong
unfolding input_of
too_long-lines bytes lines rest is none over =
    by_parts (parts bytes) (subst (λ (l : List (List ℕ)). LayoutHas (length (concat lines)) (parts_of_lines l)) (sym is) (layout_has lines rest none))
  where
    all : length bytes ≡ length (concat (lines ++ rest))
    all = ap length (sym (concat-raw_lines bytes) ∙ ap concat is)

    by_parts : (p : Option Parts) → LayoutHas (length (concat lines)) p → input_in bytes p ≡ TooLong
    by_parts None has = past bytes Endless (omega (arith, all, some_of_all lines rest, over))
    by_parts (Some p) has = past p.layout (Parted p.layout p.schedule) (omega (arith, has, over))

-- the lines that were taken are past the limit
pub too_long : (start now : Option (List ℕ)) (head : List ℕ) → ReadsHead start now head → most_layout_bytes < length head → IsInput start TooLong
too_long None now head h over = tt
too_long (Some x) None head (lines, taken, none, is) over = absurd taken
too_long (Some x) (Some y) head (lines, taken, none, is) over =
    too_long-lines x lines (raw_lines y) taken none (subst (λ (k : List ℕ). most_layout_bytes < length k) is over)

-- a line has at least the bytes that stand on it
content_within : (line : List ℕ) → length (content line) ≤ length line
content_within line =
    cond_both (is_line_feed (slice_index line (length line - 1))) (strip_carriage_return (take (length line - 1) line)) line
    (λ (x : List ℕ). length x ≤ length line)
    (λ e. omega (arith, stripped (take (length line - 1) line), length-take (length line - 1) line)) (λ e. omega arith)
  where
    stripped : (l : List ℕ) → length (strip_carriage_return l) ≤ length l
    stripped l =
        cond_both (slice_index l (length l - 1) == 13) (take (length l - 1) l) l (λ (x : List ℕ). length x ≤ length l)
        (λ e. omega (arith, length-take (length l - 1) l)) (λ e. omega arith)

-- a long line does not end the layout
long_ends : (line : List ℕ) → most_layout_bytes < length (content line) → ends_layout line ≡ false
long_ends line over = of_test (ends_layout line) (bytes_eq-Decides (content line) (codes "---")).0
  where
    of_test : (b : Bool) → (b ≡ true → content line ≡ codes "---") → b ≡ false
    of_test false same = refl
    of_test true same = absurd (let three : length (content line) ≡ 3 = ap length (same refl) in omega (arith, three, over))

-- the next line is past the limit
pub too_long-next : (start now : Option (List ℕ)) (head : List ℕ) → ReadsHead start now head → IfSome now (BeginsLong most_layout_bytes)
    → IsInput start TooLong
too_long-next None now head h next = tt
too_long-next (Some x) None head (lines, taken, none, is) next = absurd taken
too_long-next (Some x) (Some y) head (lines, taken, none, is) (line, rest, first, over) =
    too_long-lines x (lines ++ line ∷ []) rest
    (taken ∙ ap (λ l. lines ++ l) first ∙ sym (append_line lines))
    (list_any-append ends_layout lines (line ∷ []) ∙ rw (none, long_ends line over) refl)
    (omega (arith, over, content_within line, last_of lines))
  where
    append_line : (lines : List (List ℕ)) → (lines ++ line ∷ []) ++ rest ≡ lines ++ (line ∷ rest)
    append_line [] = refl
    append_line (l ∷ lines) = ap (λ more. l ∷ more) (append_line lines)

    last_of : (lines : List (List ℕ)) → length line ≤ length (concat (lines ++ line ∷ []))
    last_of [] = omega (arith, length-append line [])
    last_of (l ∷ lines) = omega (arith, length-append l (concat (lines ++ line ∷ [])), last_of lines)

-- no line is left, and those that were taken are within the limit
pub endless : (start now : Option (List ℕ)) (head : List ℕ) → ReadsHead start now head → IsAtEnd now → length head ≤ most_layout_bytes
    → IsInput start Endless
unfolding input_of
endless None now head h end under = tt
endless (Some x) None head (lines, taken, none, is) end under = absurd taken
endless (Some x) (Some y) head (lines, taken, none, is) end under =
    rw (ReadsHead-ended (Some x) (Some y) head (lines, taken, none, is) end) (within x Endless (omega (arith, all, under)))
  where
    append_nil : (l : List (List ℕ)) → l ++ [] ≡ l
    append_nil [] = refl
    append_nil (line ∷ l) = ap (λ more. line ∷ more) (append_nil l)

    all : length x ≡ length head
    all = ap length (sym (concat-raw_lines x) ∙ ap concat (taken ∙ ap (λ l. lines ++ raw_lines l) end ∙ append_nil lines) ∙ sym is)
