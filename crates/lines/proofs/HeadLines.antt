-- The lines of a layout, taken one after another.
use Rattle.std.proofs.Common.{◌≡◌, ℕ, Bool, true, false, ◌||◌, List, [], ◌∷◌, ◌++◌, map, Option, Some, None, IfSome, refl, sym, ap, ◌∙◌, append_assoc, append-nil}
use Rattle.std.specs.List.{list_any, concat}
use Rattle.std.specs.Io.KnownBytes.{Keeps, IsAtEnd}
use Rattle.lines.specs.Lines.{raw_lines, content, ends_layout, parts, parts_of_lines}
use Rattle.lines.specs.Reading.{Passes, ReadsHead, ReadsSchedule}
use Rattle.lines.proofs.Passing.{Passes-nil, Passes-trans, Passes-kept, Passes-all}

-- no line ends the layout: none of these, and not this one
none_ends : (line : List ℕ) (lines : List (List ℕ)) → (ends_layout line || list_any ends_layout lines) ≡ false
    → (ends_layout line ≡ false) × (list_any ends_layout lines ≡ false)
none_ends line lines e = or_both (ends_layout line) (list_any ends_layout lines) e
  where
    or_both : (a b : Bool) → (a || b) ≡ false → (a ≡ false) × (b ≡ false)
    or_both true b e = cc
    or_both false b e = (refl, e)

none_ends-push : (lines : List (List ℕ)) (line : List ℕ) → list_any ends_layout lines ≡ false → ends_layout line ≡ false
    → list_any ends_layout (lines ++ line ∷ []) ≡ false
none_ends-push [] line none other = rw other refl
none_ends-push (first ∷ lines) line none other =
    let both = none_ends first lines none in
    rw (both.0, none_ends-push lines line both.1 other) refl

-- where no line ends the layout there are no parts
pub parts-none : (lines : List (List ℕ)) → list_any ends_layout lines ≡ false → parts_of_lines lines ≡ None
parts-none [] none = refl
parts-none (line ∷ lines) none =
    let both = none_ends line lines none in
    rw (both.0, parts-none lines both.1) refl

-- the first line that ends the layout divides an input
pub parts-found : (lines : List (List ℕ)) (line : List ℕ) (rest : List (List ℕ)) → list_any ends_layout lines ≡ false → ends_layout line ≡ true
    → parts_of_lines (lines ++ line ∷ rest) ≡ Some (record { layout = concat lines; schedule = map content rest })
parts-found [] line rest none found = rw found refl
parts-found (first ∷ lines) line rest none found =
    let both = none_ends first lines none in
    rw (both.0, parts-found lines line rest both.1 found) refl

-- nothing was taken yet
pub ReadsHead-start : (start now : Option (List ℕ)) → Keeps start now → ReadsHead start now []
ReadsHead-start start now k = ([], Passes-nil start now k, refl, refl)

-- one more line was taken
pub ReadsHead-line : (a b c : Option (List ℕ)) (head line : List ℕ) → ReadsHead a b head → Passes b c (line ∷ []) → ends_layout line ≡ false
    → ReadsHead a c (head ++ line)
ReadsHead-line a b c head line (lines, taken, none, is) next other = (
  lines ++ line ∷ [],
  Passes-trans a b c lines (line ∷ []) taken next,
  none_ends-push lines line none other,
  ap (λ l. l ++ line) is ∙ concat-push lines line,
)
  where
    concat-push : (lines : List (List ℕ)) (line : List ℕ) → concat lines ++ line ≡ concat (lines ++ line ∷ [])
    concat-push [] line = sym (append-nil line)
    concat-push (first ∷ lines) line = append_assoc first (concat lines) line ∙ ap (λ l. first ++ l) (concat-push lines line)

-- a call took nothing
pub ReadsHead-kept : (a b c : Option (List ℕ)) (head : List ℕ) → ReadsHead a b head → Keeps b c → ReadsHead a c head
ReadsHead-kept a b c head (lines, taken, none, is) k = (lines, Passes-kept a b c lines taken k, none, is)

-- no line is left: the input has no line that ends a layout
pub ReadsHead-ended : (a b : Option (List ℕ)) (head : List ℕ) → ReadsHead a b head → IsAtEnd b → IfSome a (λ input. parts input ≡ None)
ReadsHead-ended None b head h end = tt
ReadsHead-ended (Some x) b head (lines, taken, none, is) end =
    ap parts_of_lines (Passes-all (Some x) b lines taken end) ∙ parts-none lines none

-- the line that ends the layout was taken
pub ReadsSchedule-start : (a b c : Option (List ℕ)) (head line : List ℕ) → ReadsHead a b head → Passes b c (line ∷ []) → ends_layout line ≡ true
    → ReadsSchedule a c head []
ReadsSchedule-start None b c head line h next found = tt
ReadsSchedule-start (Some x) None c head line (lines, taken, none, is) next found = absurd taken
ReadsSchedule-start (Some x) (Some y) None head line h next found = absurd next
ReadsSchedule-start (Some x) (Some y) (Some z) head line (lines, taken, none, is) next found =
    ap parts_of_lines (taken ∙ ap (λ l. lines ++ l) next) ∙ parts-found lines line (raw_lines z) none found
    ∙ ap (λ l. Some (record { layout = l; schedule = map content (raw_lines z) })) (sym is)
