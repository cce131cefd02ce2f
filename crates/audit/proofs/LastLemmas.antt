-- One past the last mark of each stripe, mark by mark.
use Rattle.std.proofs.Common.{◌≡◌, ℕ, zero, suc, ◌+◌, ◌-◌, ◌<◌, Bool, true, false, cond, List, [], ◌∷◌, ◌++◌, take, drop, Option, Some, None, refl, sym, ap, ◌∙◌, arith}
use Rattle.std.specs.Prelude.{slice_get}
use Rattle.std.specs.List.{filter}
use Rattle.std.specs.Option.{option_map}
use Rattle.std.proofs.lemmas.List.{take-append-drop}
use Rattle.fab_base.specs.Layouts.{Layout}
use Rattle.reg_model.specs.declared.marks.Mark.{Mark}
use Rattle.reg_model.specs.declared.marks.Mark.TheVariants.{Begin, End, Crash}
use Rattle.reg_model.specs.Marks.{Life, life_of, IsOpen, is_of_stripe, concerns, stripe_marks, position_of}
use Rattle.reg_model.proofs.GrowingLives.{life_onward, life_of-append}
use Rattle.transcript.specs.declared.claims.ParsedMark.{ParsedMark}
use Rattle.transcript.specs.Marks.{mark_of}
use Rattle.audit.specs.declared.operations.Operation.{Operation}
use Rattle.audit.specs.Checks.{MarksHold}
use Rattle.audit.specs.Operations.{Index, life_in, Shows}
use Rattle.audit.specs.Lasts.{past_behind, is_of, touches}

-- one mark more
pub past_push : (past : ℕ) (marks : List Mark) (mark : Mark) → past_behind past (marks ++ mark ∷ []) ≡ position_of mark + 1
past_push past [] mark = refl
past_push past (x ∷ marks) mark = past_push (position_of x + 1) marks mark

filter_push : (test : Mark → Bool) (marks : List Mark) (mark : Mark)
    → filter test (marks ++ mark ∷ []) ≡ filter test marks ++ cond (test mark) (mark ∷ []) []
filter_push test [] mark = refl
filter_push test (x ∷ marks) mark =
    elim (test x) as (λ t. cond t (x ∷ filter test (marks ++ mark ∷ [])) (filter test (marks ++ mark ∷ []))
    ≡ cond t (x ∷ filter test marks) (filter test marks) ++ cond (test mark) (mark ∷ []) [])
    [ true ↦ ap (λ l. x ∷ l) (filter_push test marks mark) | false ↦ filter_push test marks mark ]

filter_same : (p q : Mark → Bool) (marks : List Mark) → ((i : ℕ) (x : Mark) → slice_get marks i ≡ Some x → p x ≡ q x) → filter p marks ≡ filter q marks
filter_same p q [] same = refl
filter_same p q (x ∷ marks) same =
    ap (λ (t : Bool). cond t (x ∷ filter p marks) (filter p marks)) (same 0 x refl)
    ∙ ap (λ (l : List Mark). cond (q x) (x ∷ l) l) (filter_same p q marks (λ i y is. same (suc i) y is))

-- a life that goes on asks what it asked
onward_of : (g s : ℕ) (life : Option Life) (l : Life) (more : List Mark) (n : ℕ) → life ≡ Some l
    → is_of_stripe g s (life_onward life more n) ≡ is_of_stripe g s life
onward_of g s None l more n is = absurd (let never : None ≡ Some l = is in cc)
onward_of g s (Some x) l more n is = refl

open_known : (life : Option Life) → IsOpen life → (l : Life) × (life ≡ Some l)
open_known None h = absurd h
open_known (Some l) h = (l, refl)

onward_known : (life : Option Life) (l : Life) (more : List Mark) (n : ℕ) → life ≡ Some l → (m : Life) × (life_onward life more n ≡ Some m)
onward_known None l more n is = absurd (let never : None ≡ Some l = is in cc)
onward_known (Some x) l more n is = (_, refl)

-- the operation of an End has a life
end_known : (layout : Layout) (marks : List Mark) (i p n : ℕ) (answer : _) → MarksHold layout marks → slice_get marks i ≡ Some (End p n answer)
    → (l : Life) × (life_of marks n ≡ Some l)
end_known layout marks i p n answer hold is =
    let before = open_known (life_of (take i marks) n) (hold.well_formed.ends_are_of_open i p n answer is) in
    let after = onward_known (life_of (take i marks) n) before.0 (drop i marks) n before.1 in (
      after.0,
      ap (λ (l : List Mark). life_of l n) (sym (take-append-drop i marks)) ∙ life_of-append (take i marks) (drop i marks) n ∙ after.1,
    )

-- a mark concerns the stripes that it did, once one more has come
concerns_same : (layout : Layout) (g s : ℕ) (marks : List Mark) (mark : Mark) → MarksHold layout marks → (i : ℕ) (x : Mark) → slice_get marks i ≡ Some x
    → concerns g s (marks ++ mark ∷ []) x ≡ concerns g s marks x
concerns_same layout g s marks mark hold i (Begin p n b ask) is = refl
concerns_same layout g s marks mark hold i (End p n answer) is =
    let life = end_known layout marks i p n answer hold is in
    ap (is_of_stripe g s) (life_of-append marks (mark ∷ []) n) ∙ onward_of g s (life_of marks n) life.0 (mark ∷ []) n life.1
concerns_same layout g s marks mark hold i (Crash p b) is = refl

past_choice : (past : ℕ) (marks : List Mark) (mark : Mark) (t : Bool)
    → past_behind past (marks ++ cond t (mark ∷ []) []) ≡ cond t (position_of mark + 1) (past_behind past marks)
past_choice past marks mark true = past_push past marks mark
past_choice past marks mark false = ap (past_behind past) (append_none marks)
  where
    append_none : (xs : List Mark) → xs ++ [] ≡ xs
    append_none [] = refl
    append_none (x ∷ xs) = ap (λ l. x ∷ l) (append_none xs)

-- one past the last mark of a stripe, once one more has come
pub last_push : (layout : Layout) (g s : ℕ) (marks : List Mark) (mark : Mark) → MarksHold layout marks
    → past_behind 0 (stripe_marks g s (marks ++ mark ∷ []))
    ≡ cond (concerns g s (marks ++ mark ∷ []) mark) (position_of mark + 1) (past_behind 0 (stripe_marks g s marks))
last_push layout g s marks mark hold =
    ap (past_behind 0) (filter_push (concerns g s (marks ++ mark ∷ [])) marks mark)
    ∙ ap (λ (l : List Mark). past_behind 0 (l ++ cond (concerns g s (marks ++ mark ∷ []) mark) (mark ∷ []) []))
    (filter_same (concerns g s (marks ++ mark ∷ [])) (concerns g s marks) marks (concerns_same layout g s marks mark hold))
    ∙ past_choice 0 (stripe_marks g s marks) mark (concerns g s (marks ++ mark ∷ []) mark)

of_kept : (claims : List ParsedMark) (crashes : List (List ℕ)) (past g s : ℕ) (o : Option Operation)
    → is_of g s o ≡ is_of_stripe g s (option_map (life_in claims crashes past) o)
of_kept claims crashes past g s None = refl
of_kept claims crashes past g s (Some o) = refl

one_less : (k : ℕ) → suc k - 1 ≡ k
one_less k = omega arith

-- whether a mark that was taken is one of a stripe, by what is kept
pub touches_is : (claims : List ParsedMark) (marks : List Mark) (past : ℕ) (index : Index) (claim : ParsedMark) (g s : ℕ)
    → Shows claims (marks ++ mark_of claim ∷ []) past index → ((p n : ℕ) (answer : _) → mark_of claim ≡ End p n answer → 0 < n)
    → touches index.found claim g s ≡ concerns g s (marks ++ mark_of claim ∷ []) (mark_of claim)
touches_is claims marks past index (ParsedMark.Begin p n b group stripe access) g s shows one = refl
touches_is claims marks past index (ParsedMark.End p zero outcome) g s shows one = absurd (let never : 0 < 0 = one _ _ _ refl in omega arith)
touches_is claims marks past index (ParsedMark.End p (suc k) outcome) g s shows one =
    ap (λ (j : ℕ). is_of g s (slice_get index.found j)) (one_less k)
    ∙ of_kept claims index.crashes past g s (slice_get index.found k) ∙ ap (is_of_stripe g s) (sym (shows.lives (suc k)))
touches_is claims marks past index (ParsedMark.Crash p b) g s shows one = refl
