-- Lines behind a margin tell nothing, but behind two spaces.
use Rattle.std.proofs.Common.{◌≡◌, ℕ, ◌<◌, ◌==◌, ◌&&◌, not, false, cond, List, [], ◌∷◌, ◌++◌, Result, Ok, Err, OnOk, refl, sym, ap, ◌∙◌, subst, arith, append_assoc, slice_index}
use Rattle.std.specs.Prelude.{filter}
use Rattle.std.proofs.lemmas.Bool.Decides.{nat_tests}
use Rattle.fab_base.specs.Texts.{newline}
use Rattle.trace.specs.Told.{told_in, IsTold, is_inside, with_margin}
use Rattle.trace.proofs.WholeTexts.{inside_byte, inside-cons, inside-filter, told-other, told-beside}

-- a line feed at the end of a text, before more
ends_before : (body more : List ℕ) → (body ++ newline) ++ more ≡ body ++ 10 ∷ more
ends_before body more = append_assoc body newline more

-- four spaces
pub note-told : (text : List ℕ) → IsTold (with_margin (32 ∷ 32 ∷ 32 ∷ 32 ∷ []) text) []
note-told text more =
    let body : List ℕ = 32 ∷ 32 ∷ 32 ∷ 32 ∷ filter is_inside text in
    ap told_in (ends_before body more) ∙ told-other body more (inside-filter text) refl

-- no margin, before a byte that is no space
pub head-told : (text : List ℕ) → 32 < slice_index text 0 → IsTold (with_margin [] text) []
head-told [] solid more = absurd (omega arith)
head-told (b ∷ text) solid more =
    let body : List ℕ = b ∷ filter is_inside text in
    let kept : filter is_inside (b ∷ text) ≡ body = ap (λ t. cond t body (filter is_inside text)) (inside_byte b solid) in
    let other : (b == 32) ≡ false = grind (arith, nat_tests) in
    ap (λ (l : List ℕ). told_in ((l ++ newline) ++ more)) kept ∙ ap told_in (ends_before body more)
    ∙ told-other body more (inside-cons b (filter is_inside text) (inside_byte b solid) (inside-filter text))
    (ap (λ t. t && slice_index (body ++ newline) 1 == 32 && not (slice_index (body ++ newline) 2 == 32)) other)

-- what holds where a call succeeded, from what it ensures then
pub on_ok : {T E : Type 0} (r : Result T E) (P Q : Type 0) → (P → Q) → OnOk r P → OnOk r Q
on_ok (Ok x) P Q f h = f h
on_ok (Err e) P Q f h = tt

-- a text and such a line behind it
pub note-after : (old new margin text : List ℕ) → margin ≡ 32 ∷ 32 ∷ 32 ∷ 32 ∷ [] → new ≡ old ++ with_margin margin text
    → (told : List ℕ) → IsTold old told → IsTold new told
note-after old new margin text same is told h =
    subst (λ (l : List ℕ). IsTold l told) (sym is)
    (told-beside old (with_margin margin text) told (subst (λ (m : List ℕ). IsTold (with_margin m text) []) (sym same) (note-told text)) h)

pub head-after : (old new margin text : List ℕ) → margin ≡ [] → 32 < slice_index text 0 → new ≡ old ++ with_margin margin text
    → (told : List ℕ) → IsTold old told → IsTold new told
head-after old new margin text same solid is told h =
    subst (λ (l : List ℕ). IsTold l told) (sym is)
    (told-beside old (with_margin margin text) told (subst (λ (m : List ℕ). IsTold (with_margin m text) []) (sym same) (head-told text solid)) h)
