-- The stripes of a text rise.
use Rattle.std.proofs.Common.{◌≡◌, ℕ, zero, suc, ◌-◌, ◌<◌, Bool, true, false, cond, nat_eq, ◌&&◌, List, [], ◌∷◌, ◌++◌, length, ◌⊎◌, inl, inr, ⊎_elim, Option, Some, None, refl, sym, ap, ◌∙◌, subst, arith}
use Rattle.std.specs.Prelude.{slice_get}
use Rattle.std.specs.Option.{is_none}
use Rattle.std.proofs.lemmas.Bool.{and_parts, cases_eq}
use Rattle.std.proofs.lemmas.Bool.Decides.{nat_tests}
use Rattle.transcript.specs.declared.claims.Counts.{Counts}
use Rattle.transcript.specs.declared.claims.StripeLine.{StripeLine}
use Rattle.transcript.specs.declared.claims.Entry.{Entry}
use Rattle.transcript.specs.declared.claims.Entry.TheVariants.{Mark, Other, Happened, Counted}
use Rattle.transcript.specs.Said.{Transcribed}
use Rattle.transcript.specs.Transcripts.{stripe_before, is_behind, is_next, is_in_marks, position_said, after_entry, after_line, text_at_end, StripesRise, RisesWhole}

same_some : {A : Type 0} (a b : A) → Some a ≡ Some b → a ≡ b
same_some a b e = cc

-- an element of a list that has one more at its end
pushed : {A : Type 0} (xs : List A) (y x : A) (k : ℕ) → slice_get (xs ++ y ∷ []) k ≡ Some x → (slice_get xs k ≡ Some x) ⊎ ((y ≡ x) × (k ≡ length xs))
pushed [] y x zero is = inr (same_some y x is, refl)
pushed [] y x (suc k) is = absurd (let never : None ≡ Some x = is in cc)
pushed (z ∷ xs) y x zero is = inl is
pushed (z ∷ xs) y x (suc k) is = ⊎_elim (λ (old : slice_get xs k ≡ Some x). inl old)
    (λ (last : (y ≡ x) × (k ≡ length xs)). inr (last.0, ap suc last.1)) (pushed xs y x k is)

within : {A : Type 0} (xs : List A) (k : ℕ) (x : A) → slice_get xs k ≡ Some x → k < length xs
within [] k x is = absurd (let never : None ≡ Some x = is in cc)
within (y ∷ xs) zero x is = omega arith
within (y ∷ xs) (suc k) x is = let rest : k < length xs = within xs k x is in omega arith

trans_before : (a b c : StripeLine) → stripe_before a b ≡ true → stripe_before b c ≡ true → stripe_before a c ≡ true
trans_before a b c one two = grind (arith, nat_tests)

-- the last of some stripes, where there is one
last_of : (stripes : List StripeLine) (i : ℕ) (a : StripeLine) → slice_get stripes i ≡ Some a → (last : StripeLine) × (slice_get stripes (length stripes - 1) ≡ Some last)
last_of [] i a is = absurd (let never : None ≡ Some a = is in cc)
last_of (x ∷ []) i a is = (x, refl)
last_of (x ∷ y ∷ stripes) i a is =
    let rest = last_of (y ∷ stripes) 0 y refl in
    (rest.0, ap (slice_get (x ∷ y ∷ stripes)) (let same : length (x ∷ y ∷ stripes) - 1 ≡ suc (length (y ∷ stripes) - 1) = omega arith in same) ∙ rest.1)

-- a stripe behind all that were said
rise_push : (stripes : List StripeLine) (line : StripeLine) → StripesRise stripes → is_behind (slice_get stripes (length stripes - 1)) line ≡ true
    → StripesRise (stripes ++ line ∷ [])
rise_push stripes line rise behind i j a b lt one two = ⊎_elim
    (λ (old : slice_get stripes j ≡ Some b).
    let short : j < length stripes = within stripes j b old in
    ⊎_elim (λ (old_too : slice_get stripes i ≡ Some a). rise i j a b lt old_too old)
    (λ (last : (line ≡ a) × (i ≡ length stripes)). absurd (let place : i ≡ length stripes = last.1 in omega arith))
    (pushed stripes line a i one))
    (λ (here : (line ≡ b) × (j ≡ length stripes)).
    ⊎_elim
    (λ (old : slice_get stripes i ≡ Some a).
    let last = last_of stripes i a old in
    let after : stripe_before last.0 line ≡ true = subst (λ (o : Option StripeLine). is_behind o line ≡ true) last.1 behind in
    subst (λ (x : StripeLine). stripe_before a x ≡ true) here.0
    (⊎_elim
    (λ (same : i ≡ length stripes - 1).
    subst (λ (x : StripeLine). stripe_before x line ≡ true) (same_some last.0 a (sym last.1 ∙ ap (slice_get stripes) (sym same) ∙ old)) after)
    (λ (other : i ≡ length stripes - 1 → ⊥).
    let short : i < length stripes = within stripes i a old in
    trans_before a last.0 line (rise i (length stripes - 1) a last.0 (below i (length stripes) short other) old last.1) after)
    (cases_eq i (length stripes - 1))))
    (λ (last : (line ≡ a) × (i ≡ length stripes)). absurd (let place : i ≡ length stripes = last.1 in let end : j ≡ length stripes = here.1 in omega arith))
    (pushed stripes line a i one))
    (pushed stripes line b j two)
  where
    below : (m n : ℕ) → m < n → (m ≡ n - 1 → ⊥) → m < n - 1
    below m n short other = omega arith

chosen : {A : Type 0} (t : Bool) (x y : A) → cond t (Some x) None ≡ Some y → (t ≡ true) × (x ≡ y)
chosen true x y is = (refl, same_some x y is)
chosen false x y is = absurd (let never : None ≡ Some y = is in cc)

rise_entry : (old new : Transcribed) (entry : Entry) → StripesRise old.stripes → after_entry old entry ≡ Some new → StripesRise new.stripes
unfolding after_entry
rise_entry old new (Mark claim) rise is =
    let parts = chosen (is_in_marks old && nat_eq (position_said claim) (length old.claims)) (record old { claims = old.claims ++ claim ∷ [] }) new is in
    subst (λ (t : Transcribed). StripesRise t.stripes) parts.1 rise
rise_entry old new Other rise is =
    let parts = chosen (is_in_marks old) old new is in subst (λ (t : Transcribed). StripesRise t.stripes) parts.1 rise
rise_entry old new (Happened line) rise is =
    let parts = chosen (is_next old line) (record old { stripes = old.stripes ++ line ∷ [] }) new is in
    let next = and_parts (is_none old.counts) (is_behind (slice_get old.stripes (length old.stripes - 1)) line) parts.0 in
    subst (λ (t : Transcribed). StripesRise t.stripes) parts.1 (rise_push old.stripes line rise next.1)
rise_entry old new (Counted counts) rise is =
    let parts = chosen (is_none old.counts) (record old { counts = Some counts }) new is in
    subst (λ (t : Transcribed). StripesRise t.stripes) parts.1 rise

-- they rise still, once a line leads on
pub rise_line : (old new : Transcribed) (entry : Option Entry) → StripesRise old.stripes → after_line old entry ≡ Some new → StripesRise new.stripes
rise_line old new None rise is = absurd (let never : None ≡ Some new = is in cc)
rise_line old new (Some entry) rise is = rise_entry old new entry rise is

-- and in a whole text
pub rises_whole : (n : ℕ) (said : Transcribed) (counts : Option Counts) → StripesRise said.stripes → RisesWhole (text_at_end n said counts)
rises_whole n said None rise = tt
rises_whole n said (Some counts) rise = rise
