-- What whole lines tell.
use Rattle.std.proofs.Common.{◌≡◌, ℕ, ◌<◌, ◌==◌, ◌&&◌, not, true, false, cond, List, [], ◌∷◌, ◌++◌, drop, map, refl, sym, ap, ◌∙◌, subst, arith, append_assoc, append-nil}
use Rattle.std.specs.Prelude.{filter}
use Rattle.std.specs.List.{list_all, concat, onto_first}
use Rattle.std.proofs.lemmas.Bool.{cond_both, and_parts}
use Rattle.std.proofs.lemmas.Bool.Decides.{nat_tests}
use Rattle.std.proofs.lemmas.List.Folds.{list_all-append}
use Rattle.lines.specs.Lines.{is_line_feed, raw_lines}
use Rattle.trace.specs.Told.{is_told, told_in, IsTold, is_inside}

-- no byte of a text is a line feed
abbrev pub IsInside : List ℕ → Type 0
IsInside text = list_all is_inside text ≡ true

-- a byte that is no line feed
pub no_feed : (b : ℕ) → is_inside b ≡ true → is_line_feed b ≡ false
no_feed b inside =
    (elim (is_line_feed b) as (λ t. not t ≡ true → t ≡ false) [
      | true ↦ λ h. cc
      | false ↦ λ h. refl
    ]) inside

pub inside_byte : (b : ℕ) → 32 < b → is_inside b ≡ true
inside_byte b above = let other : (b == 10) ≡ false = grind (arith, nat_tests) in ap not other

-- the parts of such a text
pub inside_first : (b : ℕ) (text : List ℕ) → IsInside (b ∷ text) → is_inside b ≡ true
inside_first b text inside = (and_parts (is_inside b) (list_all is_inside text) inside).0

pub inside_rest : (b : ℕ) (text : List ℕ) → IsInside (b ∷ text) → IsInside text
inside_rest b text inside = (and_parts (is_inside b) (list_all is_inside text) inside).1

pub inside-cons : (b : ℕ) (text : List ℕ) → is_inside b ≡ true → IsInside text → IsInside (b ∷ text)
inside-cons b text one rest = ap (λ t. t && list_all is_inside text) one ∙ rest

pub inside-both : (a b : List ℕ) → IsInside a → IsInside b → IsInside (a ++ b)
inside-both a b first then = list_all-append is_inside a b ∙ ap (λ t. t && list_all is_inside b) first ∙ then

pub inside-filter : (text : List ℕ) → IsInside (filter is_inside text)
inside-filter [] = refl
inside-filter (b ∷ text) =
    cond_both (is_inside b) (b ∷ filter is_inside text) (filter is_inside text) IsInside
    (λ e. inside-cons b (filter is_inside text) e (inside-filter text)) (λ e. inside-filter text)

-- a line that ends with its only line feed is the first, whatever stands behind it
raw_lines-line : (body more : List ℕ) → IsInside body → raw_lines (body ++ 10 ∷ more) ≡ (body ++ 10 ∷ []) ∷ raw_lines more
raw_lines-line [] more inside = refl
raw_lines-line (b ∷ body) more inside =
    ap (λ t. cond t ((b ∷ []) ∷ raw_lines (body ++ 10 ∷ more)) (onto_first b (raw_lines (body ++ 10 ∷ more))))
    (no_feed b (inside_first b body inside))
    ∙ ap (onto_first b) (raw_lines-line body more (inside_rest b body inside))

-- what lines tell, by the first of them
abbrev told_of : List (List ℕ) → List ℕ
told_of lines = concat (map (drop 2) (filter is_told lines))

-- a line that does not count tells nothing
pub told-other : (body more : List ℕ) → IsInside body → is_told (body ++ 10 ∷ []) ≡ false → told_in (body ++ 10 ∷ more) ≡ told_in more
unfolding told_in
told-other body more inside other =
    ap told_of (raw_lines-line body more inside)
    ∙ ap (λ t. concat (map (drop 2) (cond t ((body ++ 10 ∷ []) ∷ filter is_told (raw_lines more)) (filter is_told (raw_lines more))))) other

-- one that counts tells what stands behind its spaces
pub told-own : (body more : List ℕ) → IsInside body → is_told (body ++ 10 ∷ []) ≡ true
    → told_in (body ++ 10 ∷ more) ≡ drop 2 (body ++ 10 ∷ []) ++ told_in more
unfolding told_in
told-own body more inside own =
    ap told_of (raw_lines-line body more inside)
    ∙ ap (λ t. concat (map (drop 2) (cond t ((body ++ 10 ∷ []) ∷ filter is_told (raw_lines more)) (filter is_told (raw_lines more))))) own

-- a text alone tells what it tells before others
pub told-alone : (text told : List ℕ) → IsTold text told → told_in text ≡ told
unfolding told_in
told-alone text told p = ap told_in (sym (append-nil text)) ∙ p [] ∙ append-nil told

-- no text, and one text after another
pub told-none : IsTold [] []
told-none more = refl

pub told-after : (a b s t : List ℕ) → IsTold a s → IsTold b t → IsTold (a ++ b) (s ++ t)
told-after a b s t p q more =
    ap told_in (append_assoc a b more) ∙ p (b ++ more) ∙ ap (λ (l : List ℕ). s ++ l) (q more) ∙ sym (append_assoc s t (told_in more))

-- a text that tells nothing, behind another
pub told-beside : (a b s : List ℕ) → IsTold b [] → IsTold a s → IsTold (a ++ b) s
told-beside a b s q p = subst (IsTold (a ++ b)) (append-nil s) (told-after a b s [] p q)
