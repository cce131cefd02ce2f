-- Which stripe is the first whose happenings do not hold.
use Rattle.std.proofs.Common.{◌≡◌, ℕ, zero, suc, ◌+◌, ◌-◌, ◌<◌, ◌≤◌, Bool, true, false, cond, nat_eq, ◌&&◌, List, [], ◌∷◌, length, get_or, take, ◌⊎◌, inl, inr, ⊎_elim, Option, Some, None, refl, sym, ap, ◌∙◌, subst, arith}
use Rattle.std.specs.Prelude.{slice_get}
use Rattle.std.specs.List.{All, IsDistinct}
use Rattle.std.specs.Option.{option_map}
use Rattle.std.proofs.lemmas.Bool.{and_parts, eqb-true, eq-eqb, cases_lt}
use Rattle.std.proofs.lemmas.Bool.Decides.{nat_tests}
use Rattle.std.proofs.lemmas.List.Elements.{All-nil}
use Rattle.std.proofs.lemmas.Option.{slice_get-get_or}
use Rattle.fab_base.specs.Layouts.{Layout, Group, group_of}
use Rattle.fab_base.specs.declared.asks.Ask.{Ask}
use Rattle.fab_base.specs.declared.asks.Op.{Op}
use Rattle.fab_base.specs.declared.identities.BrickId.{BrickId}
use Rattle.reg_model.specs.declared.marks.Mark.{Mark}
use Rattle.reg_model.specs.declared.marks.Mark.TheVariants.{Begin, End, Crash}
use Rattle.reg_model.specs.declared.marks.Happening.{Happening}
use Rattle.reg_model.specs.Marks.{Answered, ending_of, Life, life_of, stripe_marks}
use Rattle.reg_model.specs.Registers.{zero_registers}
use Rattle.reg_model.specs.Strict.{IsAnswered, WasAnswered, IsInTime, IsStrict}
use Rattle.transcript.specs.declared.claims.ParsedMark.{ParsedMark}
use Rattle.transcript.specs.declared.claims.ParsedAnswer.{ParsedAnswer}
use Rattle.transcript.specs.declared.claims.ParsedAnswer.TheVariants.{Data, Done, Aborted}
use Rattle.transcript.specs.declared.claims.StripeLine.{StripeLine}
use Rattle.transcript.specs.Marks.{marks_of, answer_of}
use Rattle.transcript.specs.Transcripts.{stripe_before, StripesRise}
use Rattle.audit.specs.declared.operations.Operation.{Operation}
use Rattle.audit.specs.declared.reviews.Review.{Review}
use Rattle.audit.specs.Checks.{GroupFits, happenings_said, HasStripe, IsNamed, HoldsIn, StripeHolds}
use Rattle.audit.specs.Operations.{ending_with, crash_after, life_in, outcome_at}
use Rattle.audit.specs.Walks.{has_happened, of_stripe, GoOn, walk_from}
use Rattle.audit.specs.Lasts.{last_at}
use Rattle.audit.specs.Reviews.{Reviews}
use Rattle.audit.specs.Sweeps.{happened_along, says_answer, lives_at, GoesIn, LineGoes, LinesGo, happened_in, none_happened, was_answered}
use Rattle.audit.proofs.Lists.{same_some, get_within}
use Rattle.audit.proofs.WalkLemmas.{AreKnown, alive, never_back, once, in_time, reads_right, goes_on}
use Rattle.audit.proofs.LineGoing.{Kept, kept, lives_here}
use Rattle.audit.proofs.Marking.{Names, names_contains, contains_names, length_along, none_yet, length_none, lines_mark, lines_named, goes_at}

-- the happenings said of a stripe: none, where it has no line, or those of its first line
said_cases : (lines : List StripeLine) (g s : ℕ)
    → ((happenings_said lines g s ≡ []) × ((i : ℕ) (line : StripeLine) → slice_get lines i ≡ Some line → line.group ≡ g → line.stripe ≡ s → ⊥))
    ⊎ ((i : ℕ) × (line : StripeLine) × (slice_get lines i ≡ Some line) × (line.group ≡ g) × (line.stripe ≡ s)
    × (happenings_said lines g s ≡ line.happenings))
said_cases [] g s = inl (refl, λ i line is group stripe. let never : None ≡ Some line = is in cc)
said_cases (x ∷ lines) g s = by_test (nat_eq x.group g && nat_eq x.stripe s) refl (said_cases lines g s)
  where
    by_test : (t : Bool) → (nat_eq x.group g && nat_eq x.stripe s) ≡ t
        → ((happenings_said lines g s ≡ []) × ((i : ℕ) (line : StripeLine) → slice_get lines i ≡ Some line → line.group ≡ g → line.stripe ≡ s → ⊥))
        ⊎ ((i : ℕ) × (line : StripeLine) × (slice_get lines i ≡ Some line) × (line.group ≡ g) × (line.stripe ≡ s)
        × (happenings_said lines g s ≡ line.happenings))
        → ((cond t x.happenings (happenings_said lines g s) ≡ [])
        × ((i : ℕ) (line : StripeLine) → slice_get (x ∷ lines) i ≡ Some line → line.group ≡ g → line.stripe ≡ s → ⊥))
        ⊎ ((i : ℕ) × (line : StripeLine) × (slice_get (x ∷ lines) i ≡ Some line) × (line.group ≡ g) × (line.stripe ≡ s)
        × (cond t x.happenings (happenings_said lines g s) ≡ line.happenings))
    by_test true is rest = let parts = and_parts (nat_eq x.group g) (nat_eq x.stripe s) is in
        inr (0, x, refl, eqb-true x.group g parts.0, eqb-true x.stripe s parts.1, refl)
    by_test false is (inl none) = inl (none.0, λ i line at group stripe. not_here i line at group stripe)
      where
        both : (a b : Bool) → a ≡ true → b ≡ true → (a && b) ≡ true
        both true b p q = q
        both false b p q = p

        not_here : (i : ℕ) (line : StripeLine) → slice_get (x ∷ lines) i ≡ Some line → line.group ≡ g → line.stripe ≡ s → ⊥
        not_here zero line at group stripe =
            let same : x ≡ line = same_some x line at in
            let yes : (nat_eq x.group g && nat_eq x.stripe s) ≡ true =
            both (nat_eq x.group g) (nat_eq x.stripe s) (eq-eqb x.group g (ap (λ (l : StripeLine). l.group) same ∙ group))
            (eq-eqb x.stripe s (ap (λ (l : StripeLine). l.stripe) same ∙ stripe)) in
            let never : true ≡ false = sym yes ∙ is in cc
        not_here (suc i) line at group stripe = none.1 i line at group stripe
    by_test false is (inr found) = inr (suc found.0, found.1, found.2, found.3, found.4, found.5)

-- of two lines of one stripe there is one
not_both_ways : (a b : StripeLine) → a.group ≡ b.group → a.stripe ≡ b.stripe → stripe_before a b ≡ true → ⊥
not_both_ways a b group stripe before = grind (arith, nat_tests)

unique : (lines : List StripeLine) → StripesRise lines → (i j : ℕ) (a b : StripeLine) → slice_get lines i ≡ Some a → slice_get lines j ≡ Some b
    → a.group ≡ b.group → a.stripe ≡ b.stripe → i ≡ j
unique lines rise i j a b one two group stripe =
    ⊎_elim
    (λ (lt : i < j). absurd (not_both_ways a b group stripe (rise i j a b lt one two)))
    (λ (le : j ≤ i). ⊎_elim
    (λ (lt : j < i). absurd (not_both_ways b a (sym group) (sym stripe) (rise j i b a lt two one)))
    (λ (le' : i ≤ j). omega arith) (cases_lt j i))
    (cases_lt i j)

-- the lines up to a place
take_get : {A : Type 0} (xs : List A) (p i : ℕ) (x : A) → slice_get (take p xs) i ≡ Some x → (slice_get xs i ≡ Some x) × (i < p)
take_get xs zero i x is = absurd (nothing xs i is)
  where
    nothing : {A : Type 0} {x : A} (xs : List A) (i : ℕ) → slice_get (take 0 xs) i ≡ Some x → ⊥
    nothing {A} {x} [] i is = let never : None ≡ Some x = is in cc
    nothing {A} {x} (y ∷ xs) i is = let never : None ≡ Some x = is in cc
take_get [] (suc p) i x is = absurd (let never : None ≡ Some x = is in cc)
take_get (y ∷ xs) (suc p) zero x is = (is, omega arith)
take_get (y ∷ xs) (suc p) (suc i) x is = let rest = take_get xs p i x is in (rest.0, omega arith)

get_take : {A : Type 0} (xs : List A) (p i : ℕ) (x : A) → slice_get xs i ≡ Some x → i < p → slice_get (take p xs) i ≡ Some x
get_take [] p i x is lt = absurd (let never : None ≡ Some x = is in cc)
get_take (y ∷ xs) zero i x is lt = absurd (omega arith)
get_take (y ∷ xs) (suc p) zero x is lt = is
get_take (y ∷ xs) (suc p) (suc i) x is lt = get_take xs p i x is (omega arith)

take_take : {A : Type 0} (xs : List A) (p i : ℕ) → i ≤ p → take i (take p xs) ≡ take i xs
take_take [] zero zero le = refl
take_take [] zero (suc i) le = refl
take_take [] (suc p) zero le = refl
take_take [] (suc p) (suc i) le = refl
take_take (y ∷ xs) p zero le = refl
take_take (y ∷ xs) zero (suc i) le = absurd (omega arith)
take_take (y ∷ xs) (suc p) (suc i) le = ap (λ l. y ∷ l) (take_take xs p i (omega arith))

pub length_in : (flags : List Bool) (lines : List StripeLine) → length (happened_in flags lines) ≡ length flags
length_in flags [] = refl
length_in flags (line ∷ lines) = length_in (happened_along flags line.happenings) lines ∙ length_along flags line.happenings

-- an answered ending, by its End
answered_test : (claims : List ParsedMark) (e c : Option ℕ) (past : ℕ) → IsAnswered (ending_with claims e c past) → was_answered claims e ≡ true
answered_test claims None None past h = absurd h
answered_test claims None (Some p) past h = absurd h
answered_test claims (Some p) c past h = by_outcome (outcome_at claims p) h
  where
    by_outcome : (outcome : ParsedAnswer) → IsAnswered (Answered p (answer_of outcome)) → says_answer outcome ≡ true
    by_outcome (Data bytes) h = refl
    by_outcome Done h = refl
    by_outcome (Aborted reason) h = absurd h

test_answered : (claims : List ParsedMark) (e c : Option ℕ) (past : ℕ) → was_answered claims e ≡ true → IsAnswered (ending_with claims e c past)
test_answered claims None c past is = absurd (let never : false ≡ true = is in cc)
test_answered claims (Some p) c past is = by_outcome (outcome_at claims p) is
  where
    by_outcome : (outcome : ParsedAnswer) → says_answer outcome ≡ true → IsAnswered (Answered p (answer_of outcome))
    by_outcome (Data bytes) is = tt
    by_outcome Done is = tt
    by_outcome (Aborted reason) is = absurd (let never : false ≡ true = is in cc)

was_alive : (life : Option Life) → WasAnswered life → (l : Life) × (life ≡ Some l) × IsAnswered l.ending
was_alive None h = absurd h
was_alive (Some l) h = (l, refl, h)

-- an operation that is alive in a stripe
own_parts : (claims : List ParsedMark) (crashes : List (List ℕ)) (past g s : ℕ) (found : Option Operation) (life : Life)
    → option_map (life_in claims crashes past) (of_stripe g s found) ≡ Some life
    → (o : Operation) × (found ≡ Some o) × (o.group ≡ g) × (o.stripe ≡ s) × (life ≡ life_in claims crashes past o)
own_parts claims crashes past g s None life is = absurd (let never : None ≡ Some life = is in cc)
own_parts claims crashes past g s (Some o) life is = by_test (nat_eq o.group g && nat_eq o.stripe s) refl is
  where
    by_test : (t : Bool) → (nat_eq o.group g && nat_eq o.stripe s) ≡ t → option_map (life_in claims crashes past) (cond t (Some o) None) ≡ Some life
        → (x : Operation) × (Some o ≡ Some x) × (x.group ≡ g) × (x.stripe ≡ s) × (life ≡ life_in claims crashes past x)
    by_test true of e = let parts = and_parts (nat_eq o.group g) (nat_eq o.stripe s) of in
        (o, refl, eqb-true o.group g parts.0, eqb-true o.stripe s parts.1, sym (same_some (life_in claims crashes past o) life e))
    by_test false of e = absurd (let never : None ≡ Some life = e in cc)

pub alive_own : (claims : List ParsedMark) (review : Review) (g s n : ℕ) (life : Life) → lives_at claims review g s n ≡ Some life
    → (j : ℕ) × (o : Operation) × (n ≡ suc j) × (slice_get review.operations.found j ≡ Some o) × (o.group ≡ g) × (o.stripe ≡ s)
    × (life ≡ life_in claims review.operations.crashes (last_at review.lasts g s) o)
alive_own claims review g s zero life is = absurd (let never : None ≡ Some life = is in cc)
alive_own claims review g s (suc j) life is =
    let parts = own_parts claims review.operations.crashes (last_at review.lasts g s) g s (slice_get review.operations.found j) life is in
    (j, parts.0, refl, parts.1, parts.2, parts.3, parts.4)

pub known : (claims : List ParsedMark) (review : Review) (g s : ℕ) → AreKnown (lives_at claims review g s) (length review.operations.found)
known claims review g s = record {
  each = λ n life is.
      (let own = alive_own claims review g s n life is in
      let number : n ≡ suc own.0 = own.2 in
      let within : own.0 < length review.operations.found = get_within review.operations.found own.0 own.1 own.3 in
      (omega arith, omega arith));
}

same_stripe : (claims : List ParsedMark) (review : Review) (g s h t n : ℕ) (l m : Life) → lives_at claims review g s n ≡ Some l
    → lives_at claims review h t n ≡ Some m → (g ≡ h) × (s ≡ t)
same_stripe claims review g s h t n l m one two =
    let a = alive_own claims review g s n l one in
    let b = alive_own claims review h t n m two in
    let place : a.0 ≡ b.0 = (let p : n ≡ suc a.0 = a.2 in let q : n ≡ suc b.0 = b.2 in omega arith) in
    let same : a.1 ≡ b.1 = same_some a.1 b.1 (sym a.3 ∙ ap (slice_get review.operations.found) place ∙ b.3) in
    (sym a.4 ∙ ap (λ (o : Operation). o.group) same ∙ b.4, sym a.5 ∙ ap (λ (o : Operation). o.stripe) same ∙ b.5)

-- what holds is strict
held_strict : (block g s : ℕ) (marks : List Mark) (given : Option Group) (hs : List Happening) → HoldsIn given block g s marks hs
    → (group : Group) × IsStrict group.m block (stripe_marks g s marks) hs
held_strict block g s marks None hs held = absurd held
held_strict block g s marks (Some group) hs held = (group, held.1)

both_true : (a b : Bool) → a ≡ true → b ≡ true → (a && b) ≡ true
both_true true b p q = q
both_true false b p q = p

-- an operation of a stripe is alive in it
lives_own : (claims : List ParsedMark) (review : Review) (g s j : ℕ) (o : Operation) → slice_get review.operations.found j ≡ Some o → o.group ≡ g → o.stripe ≡ s
    → lives_at claims review g s (suc j) ≡ Some (life_in claims review.operations.crashes (last_at review.lasts g s) o)
lives_own claims review g s j o at group stripe =
    ap (λ (x : Option Operation). option_map (life_in claims review.operations.crashes (last_at review.lasts g s)) (of_stripe g s x)) at
    ∙ ap (λ (t : Bool). option_map (life_in claims review.operations.crashes (last_at review.lasts g s)) (cond t (Some o) None))
    (both_true (nat_eq o.group g) (nat_eq o.stripe s) (eq-eqb o.group g group) (eq-eqb o.stripe s stripe))

-- what is strict goes on, where none of it has happened
back_in : (layout : Layout) (claims : List ParsedMark) (review : Review) → Kept layout claims review → (g s : ℕ) (given : Option Group) (happened : List Bool)
    (hs : List Happening) → length happened ≡ length review.operations.found
    → ((n : ℕ) (life : Life) → lives_at claims review g s n ≡ Some life → Names hs n → has_happened happened n ≡ false)
    → HoldsIn given layout.block g s (marks_of claims) hs → GoesIn given layout.block (lives_at claims review g s) happened s hs
back_in layout claims review k g s None happened hs room free held = absurd held
back_in layout claims review k g s (Some group) happened hs room free held =
    let lives : ℕ → Option Life = lives_at claims review g s in
    let same : (n : ℕ) → lives_at claims review g s n ≡ life_of (stripe_marks g s (marks_of claims)) n = λ n. lives_here layout claims review g s n k in
    let timely : All (λ (h : Happening). IsInTime (lives_at claims review g s h.operation) h.position) hs =
    λ i d lt. subst (λ (l : Option Life). IsInTime l (get_or hs i d).position) (sym (same (get_or hs i d).operation)) (held.1.in_time i d lt) in (
      held.0,
      goes_on layout.block lives (stripe_marks g s (marks_of claims)) same (walk_from happened (zero_registers group.m layout.block)) hs
          (subst (λ (c : ℕ). AreKnown lives c) (sym room) (known claims review g s)) (λ i d lt. omega arith)
          (λ i d lt. let life = alive (lives (get_or hs i d).operation) (get_or hs i d).position (timely i d lt) in
          free (get_or hs i d).operation life.0 life.1 (i, get_or hs i d, slice_get-get_or hs i d lt, refl))
          held.1.never_back held.1.once timely held.1.reads_right,
    )

-- the Begin of a life
begin_at : (marks : List Mark) (n : ℕ) (life : Life) → life_of marks n ≡ Some life
    → (i : ℕ) × (q : ℕ) × (b : BrickId) × (slice_get marks i ≡ Some (Begin q n b life.ask))
begin_at [] n life is = absurd (let never : None ≡ Some life = is in cc)
begin_at (Begin q m b ask ∷ marks) n life is =
    by_test (nat_eq m n) refl is (λ e. begin_at marks n life e)
  where
    by_test : (t : Bool) → nat_eq m n ≡ t
        → cond t (Some (record { begin = q; brick = b.0; ask = ask; ending = ending_of marks n b.0 (q + 1) })) (life_of marks n) ≡ Some life
        → (life_of marks n ≡ Some life → (i : ℕ) × (r : ℕ) × (c : BrickId) × (slice_get marks i ≡ Some (Begin r n c life.ask)))
        → (i : ℕ) × (r : ℕ) × (c : BrickId) × (slice_get (Begin q m b ask ∷ marks) i ≡ Some (Begin r n c life.ask))
    by_test true same e rest =
        let asked : ask ≡ life.ask = ap (λ (l : Life). l.ask)
        (same_some (record { begin = q; brick = b.0; ask = ask; ending = ending_of marks n b.0 (q + 1) }) life e) in
        (0, q, b, ap (λ (k : ℕ). Some (Begin q k b ask)) (eqb-true m n same) ∙ ap (λ (a : Ask). Some (Begin q n b a)) asked)
    by_test false same e rest = let found = rest e in (suc found.0, found.1, found.2, found.3)
begin_at (End q m answer ∷ marks) n life is = let found = begin_at marks n life is in (suc found.0, found.1, found.2, found.3)
begin_at (Crash q b ∷ marks) n life is = let found = begin_at marks n life is in (suc found.0, found.1, found.2, found.3)

fits_has : (given : Option Group) (block s : ℕ) (op : Op) → GroupFits given block s op → HasStripe given s
fits_has None block s op fits = absurd fits
fits_has (Some group) block s op fits = fits.0

-- the stripe of an operation is one of the layout
pub own_stripe : (layout : Layout) (claims : List ParsedMark) (review : Review) → Kept layout claims review → (g s j : ℕ) (o : Operation)
    → slice_get review.operations.found j ≡ Some o → o.group ≡ g → o.stripe ≡ s → HasStripe (group_of layout g) s
own_stripe layout claims review k g s j o at group stripe =
    let life : Life = life_in claims review.operations.crashes (length claims) o in
    let is : life_of (marks_of claims) (suc j) ≡ Some life =
    k.shows.lives (suc j) ∙ ap (option_map (life_in claims review.operations.crashes (length claims))) at in
    let begin = begin_at (marks_of claims) (suc j) life is in
    let fits = k.hold.begins_fit begin.0 (Begin begin.1 (suc j) begin.2 life.ask) begin.3 in
    subst (λ (h : ℕ). HasStripe (group_of layout h) s) group
    (subst (λ (t : ℕ). HasStripe (group_of layout o.group) t) stripe (fits_has (group_of layout o.group) layout.block o.stripe life.ask.op fits.1))

module _ (layout : Layout) (claims : List ParsedMark) (review : Review) (reviews : Reviews layout claims review) (lines : List StripeLine) (rise : StripesRise lines) (p : ℕ)
    (went : LinesGo layout claims review (none_happened (length review.operations.found)) (take p lines)) where
  -- an answered operation that is not missing is named on a line of its stripe that went on
  answered_named : (h t n : ℕ) → WasAnswered (life_of (stripe_marks h t (marks_of claims)) n)
      → ((j : ℕ) (o : Operation) → slice_get review.operations.found j ≡ Some o → o.group ≡ h → o.stripe ≡ t → was_answered claims o.end ≡ true
      → get_or (happened_in (none_happened (length review.operations.found)) (take p lines)) j false ≡ true)
      → (i : ℕ) × (line : StripeLine) × (slice_get lines i ≡ Some line) × (i < p) × (line.group ≡ h) × (line.stripe ≡ t) × Names line.happenings n
  answered_named h t n was flagged =
      let k = kept layout claims review reviews in
      let alive = was_alive (life_of (stripe_marks h t (marks_of claims)) n) was in
      let here : lives_at claims review h t n ≡ Some alive.0 = lives_here layout claims review h t n k ∙ alive.1 in
      let own = alive_own claims review h t n alive.0 here in
      let test : was_answered claims own.1.end ≡ true =
      answered_test claims own.1.end (crash_after review.operations.crashes own.1) (last_at review.lasts h t)
      (subst (λ (l : Life). IsAnswered l.ending) own.6 alive.2) in
      let flag = flagged own.0 own.1 own.3 own.4 own.5 test in
      let number : n ≡ suc own.0 = own.2 in
      let place : n - 1 ≡ own.0 = omega arith in
      let happened : has_happened (happened_in (none_happened (length review.operations.found)) (take p lines)) n ≡ true =
      ap (λ (j : ℕ). get_or (happened_in (none_happened (length review.operations.found)) (take p lines)) j false) place ∙ flag in
      ⊎_elim
      (λ (old : has_happened (none_happened (length review.operations.found)) n ≡ true).
      absurd (let never : true ≡ false = sym old ∙ none_yet (length review.operations.found) (n - 1) in cc))
      (λ (found : (i : ℕ) × (line : StripeLine) × (slice_get (take p lines) i ≡ Some line) × Names line.happenings n
      × ((life : Life) × (lives_at claims review line.group line.stripe n ≡ Some life))).
      let stripe = same_stripe claims review found.1.group found.1.stripe h t n found.4.0 alive.0 found.4.1 here in
      let at = take_get lines p found.0 found.1 found.2 in
      (found.0, found.1, at.0, at.1, stripe.0, stripe.1, found.3))
      (lines_mark layout claims review (length review.operations.found) (known claims review) (none_happened (length review.operations.found)) (take p lines) n
      (length_none (length review.operations.found)) went (omega arith) happened)

  -- the happenings of a stripe that go on are strict, where no answered operation is left out
  strict_from : (g s : ℕ) (group : Group) (happened : List Bool) (hs : List Happening) → length happened ≡ length review.operations.found
      → GoOn layout.block (lives_at claims review g s) (walk_from happened (zero_registers group.m layout.block)) hs
      → ((n : ℕ) → WasAnswered (life_of (stripe_marks g s (marks_of claims)) n) → Names hs n)
      → IsStrict group.m layout.block (stripe_marks g s (marks_of claims)) hs
  strict_from g s group happened hs room goes named =
      let k = kept layout claims review reviews in
      let walk = walk_from happened (zero_registers group.m layout.block) in
      let lives = lives_at claims review g s in
      let same : (n : ℕ) → lives_at claims review g s n ≡ life_of (stripe_marks g s (marks_of claims)) n = λ n. lives_here layout claims review g s n k in
      record {
        never_back = never_back layout.block lives walk hs goes;
        once = once layout.block lives walk hs (subst (λ (c : ℕ). AreKnown lives c) (sym room) (known claims review g s)) goes;
        in_time = λ i d lt. subst (λ (l : Option Life). IsInTime l (get_or hs i d).position) (same (get_or hs i d).operation)
            (in_time layout.block lives walk hs goes i d lt);
        answered_happen = λ n was. names_contains hs n (named n was);
        reads_right = reads_right layout.block lives (stripe_marks g s (marks_of claims)) same walk hs goes;
      }

  strict_none : (m : ℕ) (all : List Mark) → ((n : ℕ) → WasAnswered (life_of all n) → ⊥) → IsStrict m layout.block all []
  unfolding IsDistinct
  strict_none m all never = record {
    never_back = λ i j d le lt. absurd (omega arith);
    once = tt;
    in_time = All-nil (λ (h : Happening). IsInTime (life_of all h.operation) h.position);
    answered_happen = λ n was. absurd (never n was);
    reads_right = tt;
  }

  -- a stripe's happenings hold, where its line went on, if it has one, and none of its operations is missing
  in_line : (g s : ℕ) (given : Option Group) (happened : List Bool) (hs : List Happening) → length happened ≡ length review.operations.found
      → GoesIn given layout.block (lives_at claims review g s) happened s hs
      → ((n : ℕ) → WasAnswered (life_of (stripe_marks g s (marks_of claims)) n) → Names hs n) → HoldsIn given layout.block g s (marks_of claims) hs
  in_line g s None happened hs room goes named = absurd goes
  in_line g s (Some group) happened hs room goes named = (goes.0, strict_from g s group happened hs room goes.1 named)

  in_none : (g s : ℕ) (given : Option Group) → HasStripe given s → ((n : ℕ) → WasAnswered (life_of (stripe_marks g s (marks_of claims)) n) → ⊥)
      → HoldsIn given layout.block g s (marks_of claims) []
  in_none g s None has never = absurd has
  in_none g s (Some group) has never = (has, strict_none group.m (stripe_marks g s (marks_of claims)) never)

  pub holds : (g s : ℕ) → IsNamed layout lines g s
      → ((i : ℕ) (line : StripeLine) → slice_get lines i ≡ Some line → line.group ≡ g → line.stripe ≡ s → i < p)
      → ((j : ℕ) (o : Operation) → slice_get review.operations.found j ≡ Some o → o.group ≡ g → o.stripe ≡ s → was_answered claims o.end ≡ true
      → get_or (happened_in (none_happened (length review.operations.found)) (take p lines)) j false ≡ true)
      → StripeHolds layout (marks_of claims) lines g s
  holds g s named passed flagged = ⊎_elim
      (λ (none : (happenings_said lines g s ≡ []) × ((i : ℕ) (line : StripeLine) → slice_get lines i ≡ Some line → line.group ≡ g → line.stripe ≡ s → ⊥)).
      subst (λ (hs : List Happening). HoldsIn (group_of layout g) layout.block g s (marks_of claims) hs) (sym none.0)
      (in_none g s (group_of layout g)
      (⊎_elim (λ (has : HasStripe (group_of layout g) s). has)
      (λ (line : (i : ℕ) × (line : StripeLine) × (slice_get lines i ≡ Some line) × (line.group ≡ g) × (line.stripe ≡ s)).
      absurd (none.1 line.0 line.1 line.2 line.3 line.4)) named)
      (λ n was. let at = answered_named g s n was flagged in none.1 at.0 at.1 at.2 at.4 at.5)))
      (λ (found : (i : ℕ) × (line : StripeLine) × (slice_get lines i ≡ Some line) × (line.group ≡ g) × (line.stripe ≡ s)
      × (happenings_said lines g s ≡ line.happenings)).
      let lt : found.0 < p = passed found.0 found.1 found.2 found.3 found.4 in
      let goes = goes_at layout claims review (length review.operations.found) (known claims review) (none_happened (length review.operations.found)) (take p lines)
      found.0 found.1 went (get_take lines p found.0 found.1 found.2 lt) in
      let there : GoesIn (group_of layout g) layout.block (lives_at claims review g s)
      (happened_in (none_happened (length review.operations.found)) (take found.0 (take p lines))) s found.1.happenings =
      subst (λ (h : ℕ). GoesIn (group_of layout h) layout.block (lives_at claims review h s)
      (happened_in (none_happened (length review.operations.found)) (take found.0 (take p lines))) s found.1.happenings) found.3
      (subst (λ (t : ℕ). GoesIn (group_of layout found.1.group) layout.block (lives_at claims review found.1.group t)
      (happened_in (none_happened (length review.operations.found)) (take found.0 (take p lines))) t found.1.happenings) found.4 goes) in
      subst (λ (hs : List Happening). HoldsIn (group_of layout g) layout.block g s (marks_of claims) hs) (sym found.5)
      (in_line g s (group_of layout g) (happened_in (none_happened (length review.operations.found)) (take found.0 (take p lines))) found.1.happenings
      (length_in (none_happened (length review.operations.found)) (take found.0 (take p lines)) ∙ length_none (length review.operations.found)) there
      (λ n was. let at = answered_named g s n was flagged in
      let same : at.0 ≡ found.0 = unique lines rise at.0 found.0 at.1 found.1 at.2 found.2 (at.4 ∙ sym found.3) (at.5 ∙ sym found.4) in
      let line : at.1 ≡ found.1 = same_some at.1 found.1 (sym at.2 ∙ ap (slice_get lines) same ∙ found.2) in
      subst (λ (l : StripeLine). Names l.happenings n) line at.6)))
      (said_cases lines g s)

  -- they do not hold where an operation of the stripe is missing, and its line, if it has one, went on
  pub misses : (g s : ℕ) → ((i : ℕ) (line : StripeLine) → slice_get lines i ≡ Some line → line.group ≡ g → line.stripe ≡ s → i < p)
      → (j : ℕ) (o : Operation) → slice_get review.operations.found j ≡ Some o → o.group ≡ g → o.stripe ≡ s → was_answered claims o.end ≡ true
      → get_or (happened_in (none_happened (length review.operations.found)) (take p lines)) j false ≡ false
      → StripeHolds layout (marks_of claims) lines g s → ⊥
  misses g s passed j o at group stripe was flag held =
      let k = kept layout claims review reviews in
      let strict = held_strict layout.block g s (marks_of claims) (group_of layout g) (happenings_said lines g s) held in
      let alive : lives_at claims review g s (suc j) ≡ Some (life_in claims review.operations.crashes (last_at review.lasts g s) o) = lives_own claims review g s j o at group stripe in
      let answered : WasAnswered (life_of (stripe_marks g s (marks_of claims)) (suc j)) =
      subst (λ (l : Option Life). WasAnswered l) (sym alive ∙ lives_here layout claims review g s (suc j) k)
      (test_answered claims o.end (crash_after review.operations.crashes o) (last_at review.lasts g s) was) in
      let named = contains_names (happenings_said lines g s) (suc j) (strict.1.answered_happen (suc j) answered) in
      ⊎_elim
      (λ (none : (happenings_said lines g s ≡ []) × ((i : ℕ) (line : StripeLine) → slice_get lines i ≡ Some line → line.group ≡ g → line.stripe ≡ s → ⊥)).
      not_named (suc j) (subst (λ (hs : List Happening). Names hs (suc j)) none.0 named))
      (λ (found : (i : ℕ) × (line : StripeLine) × (slice_get lines i ≡ Some line) × (line.group ≡ g) × (line.stripe ≡ s)
      × (happenings_said lines g s ≡ line.happenings)).
      let lt : found.0 < p = passed found.0 found.1 found.2 found.3 found.4 in
      let happened = lines_named layout claims review (length review.operations.found) (known claims review) (none_happened (length review.operations.found))
      (take p lines) found.0 found.1 (suc j) (length_none (length review.operations.found)) went (get_take lines p found.0 found.1 found.2 lt)
      (subst (λ (hs : List Happening). Names hs (suc j)) found.5 named) in
      let place : suc j - 1 ≡ j = omega arith in
      let never : false ≡ true = sym flag ∙ ap (λ (i : ℕ). get_or (happened_in (none_happened (length review.operations.found)) (take p lines)) i false) (sym place)
      ∙ happened in cc)
      (said_cases lines g s)
    where
      not_named : (n : ℕ) → Names [] n → ⊥
      not_named n (i, h, is, same) = let never : None ≡ Some h = is in cc

  -- they do not hold where the line of the stripe is the first that does not go on
  pub stopped : (line : StripeLine) → slice_get lines p ≡ Some line
      → (LineGoes layout claims review (happened_in (none_happened (length review.operations.found)) (take p lines)) line → ⊥)
      → StripeHolds layout (marks_of claims) lines line.group line.stripe → ⊥
  stopped line at not_go held = ⊎_elim
      (λ (none : (happenings_said lines line.group line.stripe ≡ [])
      × ((i : ℕ) (l : StripeLine) → slice_get lines i ≡ Some l → l.group ≡ line.group → l.stripe ≡ line.stripe → ⊥)). none.1 p line at refl refl)
      (λ (found : (i : ℕ) × (l : StripeLine) × (slice_get lines i ≡ Some l) × (l.group ≡ line.group) × (l.stripe ≡ line.stripe)
      × (happenings_said lines line.group line.stripe ≡ l.happenings)).
      let same : found.0 ≡ p = unique lines rise found.0 p found.1 line found.2 at found.3 found.4 in
      let which : found.1 ≡ line = same_some found.1 line (sym found.2 ∙ ap (slice_get lines) same ∙ at) in
      let said : happenings_said lines line.group line.stripe ≡ line.happenings = found.5 ∙ ap (λ (l : StripeLine). l.happenings) which in
      not_go (back_in layout claims review (kept layout claims review reviews) line.group line.stripe (group_of layout line.group)
      (happened_in (none_happened (length review.operations.found)) (take p lines)) line.happenings
      (length_in (none_happened (length review.operations.found)) (take p lines) ∙ length_none (length review.operations.found))
      (λ n life is named. free_by n life is (has_happened (happened_in (none_happened (length review.operations.found)) (take p lines)) n) refl)
      (subst (λ (hs : List Happening). HoldsIn (group_of layout line.group) layout.block line.group line.stripe (marks_of claims) hs) said held)))
      (said_cases lines line.group line.stripe)
    where
      free_by : (n : ℕ) (life : Life) → lives_at claims review line.group line.stripe n ≡ Some life → (t : Bool)
          → has_happened (happened_in (none_happened (length review.operations.found)) (take p lines)) n ≡ t
          → has_happened (happened_in (none_happened (length review.operations.found)) (take p lines)) n ≡ false
      free_by n life is false e = e
      free_by n life is true e =
          let own = alive_own claims review line.group line.stripe n life is in
          let number : n ≡ suc own.0 = own.2 in
          ⊎_elim
          (λ (old : has_happened (none_happened (length review.operations.found)) n ≡ true).
          absurd (let never : true ≡ false = sym old ∙ none_yet (length review.operations.found) (n - 1) in cc))
          (λ (found : (i : ℕ) × (l : StripeLine) × (slice_get (take p lines) i ≡ Some l) × Names l.happenings n
          × ((x : Life) × (lives_at claims review l.group l.stripe n ≡ Some x))).
          let stripe = same_stripe claims review found.1.group found.1.stripe line.group line.stripe n found.4.0 life found.4.1 is in
          let here = take_get lines p found.0 found.1 found.2 in
          let same : found.0 ≡ p = unique lines rise found.0 p found.1 line here.0 at stripe.0 stripe.1 in
          absurd (let lt : found.0 < p = here.1 in omega arith))
          (lines_mark layout claims review (length review.operations.found) (known claims review) (none_happened (length review.operations.found)) (take p lines)
          n (length_none (length review.operations.found)) went (omega arith) e)
