-- A mark is taken where it follows those before it, and what is kept shows it then.
use Rattle.std.proofs.Common.{◌≡◌, ℕ, zero, suc, ◌+◌, ◌-◌, ◌*◌, ◌<◌, Bool, true, false, cond, nat_eq, nat_lt, ◌&&◌, List, [], ◌∷◌, ◌++◌, length, Option, Some, None, refl, sym, ap, ◌∙◌, subst, arith}
use Rattle.std.specs.Prelude.{slice_get, slice_set}
use Rattle.std.specs.Option.{option_map}
use Rattle.std.proofs.lemmas.Bool.{and_parts, eqb-true, eq-eqb}
use Rattle.std.proofs.lemmas.Bool.Decides.{nat_tests}
use Rattle.lines.specs.declared.forms.Access.{Access}
use Rattle.lines.specs.declared.forms.Access.TheVariants.{ReadBlock, WriteBlock, ReadStripe, WriteStripe}
use Rattle.fab_base.specs.Layouts.{Layout, Group, group_of}
use Rattle.reg_model.specs.declared.marks.Mark.{Mark}
use Rattle.reg_model.specs.Marks.{Life, life_of, position_of, IsUnended, IsOpen}
use Rattle.reg_model.specs.Strict.{OpFits}
use Rattle.transcript.specs.declared.claims.ParsedMark.{ParsedMark}
use Rattle.transcript.specs.declared.claims.ParsedMark.TheVariants.{Begin, End, Crash}
use Rattle.transcript.specs.declared.claims.ParsedAnswer.{ParsedAnswer}
use Rattle.transcript.specs.declared.claims.ParsedAnswer.TheVariants.{Data, Done, Aborted}
use Rattle.transcript.specs.Marks.{mark_of, answer_of, op_of}
use Rattle.audit.specs.declared.operations.Operation.{Operation}
use Rattle.audit.specs.Checks.{GroupFits, WordFits, AnswerFits}
use Rattle.audit.specs.Operations.{Index, access_at, access_fits, group_fits, begin_fits, word_fits, ending_with, crashes_of, crash_after, life_in, is_nowhere, is_open, ended, begun, may_end, change_at, crashed_at, begins_next, ends_at, crashes_at, after_claim, Shows}
use Rattle.audit.proofs.Lists.{length_set}
use Rattle.audit.proofs.Indexes.{shows_begin, shows_end, shows_crash}
use Rattle.audit.proofs.Steps.{Follows}

-- a choice that gave something, or nothing
cond_some : {A : Type 0} (t : Bool) (x : Option A) (y : A) → cond t x None ≡ Some y → (t ≡ true) × (x ≡ Some y)
cond_some true x y is = (refl, is)
cond_some false x y is = absurd (let never : None ≡ Some y = is in cc)

cond_true : {A : Type 0} (t : Bool) (x y : A) → t ≡ true → cond t x y ≡ x
cond_true true x y is = refl
cond_true false x y is = absurd (let never : false ≡ true = is in cc)

both : (a b : Bool) → a ≡ true → b ≡ true → (a && b) ≡ true
both true true p q = refl
both true false p q = q
both false b p q = p

-- what fits by the test fits, and the other way round
access_fits_is : (m block : ℕ) (access : Access) → access_fits m block access ≡ true → OpFits m block (op_of access)
access_fits_is m block (ReadBlock j) is = grind (arith, nat_tests)
access_fits_is m block (WriteBlock j bytes) is =
    let parts = and_parts (nat_lt j m) (nat_eq (length bytes) block) is in
    (below j m parts.0, eqb-true (length bytes) block parts.1)
  where
    below : (a b : ℕ) → nat_lt a b ≡ true → a < b
    below a b h = grind (arith, nat_tests)
access_fits_is m block ReadStripe is = tt
access_fits_is m block (WriteStripe bytes) is = eqb-true (length bytes) (m * block) is

access_fits_if : (m block : ℕ) (access : Access) → OpFits m block (op_of access) → access_fits m block access ≡ true
access_fits_if m block (ReadBlock j) fits = above j m fits
  where
    above : (a b : ℕ) → a < b → nat_lt a b ≡ true
    above a b h = grind (arith, nat_tests)
access_fits_if m block (WriteBlock j bytes) fits = both (nat_lt j m) (nat_eq (length bytes) block) (above j m fits.0) (eq-eqb (length bytes) block fits.1)
  where
    above : (a b : ℕ) → a < b → nat_lt a b ≡ true
    above a b h = grind (arith, nat_tests)
access_fits_if m block ReadStripe fits = refl
access_fits_if m block (WriteStripe bytes) fits = eq-eqb (length bytes) (m * block) fits

is_below : (a b : ℕ) → nat_lt a b ≡ true → a < b
is_below a b h = grind (arith, nat_tests)

below_is : (a b : ℕ) → a < b → nat_lt a b ≡ true
below_is a b h = grind (arith, nat_tests)

group_fits_is : (group : Option Group) (block s : ℕ) (access : Access) → group_fits group block s access ≡ true → GroupFits group block s (op_of access)
group_fits_is None block s access is = absurd (let never : false ≡ true = is in cc)
group_fits_is (Some group) block s access is =
    let parts = and_parts (nat_lt s group.stripes) (access_fits group.m block access) is in
    (is_below s group.stripes parts.0, access_fits_is group.m block access parts.1)

group_fits_if : (group : Option Group) (block s : ℕ) (access : Access) → GroupFits group block s (op_of access) → group_fits group block s access ≡ true
group_fits_if None block s access fits = absurd fits
group_fits_if (Some group) block s access fits =
    both (nat_lt s group.stripes) (access_fits group.m block access) (below_is s group.stripes fits.0) (access_fits_if group.m block access fits.1)

word_fits_is : (access : Access) (outcome : ParsedAnswer) → word_fits access outcome ≡ true → WordFits (op_of access) (answer_of outcome)
word_fits_is (ReadBlock j) (Data bytes) is = tt
word_fits_is (ReadBlock j) Done is = absurd (let never : false ≡ true = is in cc)
word_fits_is (ReadBlock j) (Aborted reason) is = tt
word_fits_is (WriteBlock j written) (Data bytes) is = absurd (let never : false ≡ true = is in cc)
word_fits_is (WriteBlock j written) Done is = tt
word_fits_is (WriteBlock j written) (Aborted reason) is = tt
word_fits_is ReadStripe (Data bytes) is = tt
word_fits_is ReadStripe Done is = absurd (let never : false ≡ true = is in cc)
word_fits_is ReadStripe (Aborted reason) is = tt
word_fits_is (WriteStripe written) (Data bytes) is = absurd (let never : false ≡ true = is in cc)
word_fits_is (WriteStripe written) Done is = tt
word_fits_is (WriteStripe written) (Aborted reason) is = tt

word_fits_if : (access : Access) (outcome : ParsedAnswer) → WordFits (op_of access) (answer_of outcome) → word_fits access outcome ≡ true
word_fits_if (ReadBlock j) (Data bytes) fits = refl
word_fits_if (ReadBlock j) Done fits = absurd fits
word_fits_if (ReadBlock j) (Aborted reason) fits = refl
word_fits_if (WriteBlock j written) (Data bytes) fits = absurd fits
word_fits_if (WriteBlock j written) Done fits = refl
word_fits_if (WriteBlock j written) (Aborted reason) fits = refl
word_fits_if ReadStripe (Data bytes) fits = refl
word_fits_if ReadStripe Done fits = absurd fits
word_fits_if ReadStripe (Aborted reason) fits = refl
word_fits_if (WriteStripe written) (Data bytes) fits = absurd fits
word_fits_if (WriteStripe written) Done fits = refl
word_fits_if (WriteStripe written) (Aborted reason) fits = refl

-- an operation is open by the test where its life is
nowhere_none : (o : Option ℕ) → is_nowhere o ≡ true → o ≡ None
nowhere_none None is = refl
nowhere_none (Some p) is = absurd (let never : false ≡ true = is in cc)

unended_nowhere : (claims : List ParsedMark) (e c : Option ℕ) (past : ℕ) → IsUnended (ending_with claims e c past) → (is_nowhere e && is_nowhere c) ≡ true
unended_nowhere claims (Some p) c past open' = absurd open'
unended_nowhere claims None (Some p) past open' = absurd open'
unended_nowhere claims None None past open' = refl

nowhere_unended : (claims : List ParsedMark) (e c : Option ℕ) (past : ℕ) → e ≡ None → c ≡ None → IsUnended (ending_with claims e c past)
nowhere_unended claims (Some p) c past none gone = absurd (let never : Some p ≡ None = none in cc)
nowhere_unended claims None (Some p) past none gone = absurd (let never : Some p ≡ None = gone in cc)
nowhere_unended claims None None past none gone = tt

-- What is kept after a mark that was taken: it is in its place, it follows the marks before it, and what is kept shows it.
pub record Takes (layout : Layout) (claims : List ParsedMark) (marks : List Mark) (i : ℕ) (claim : ParsedMark) (index : Index) : Type 0 where
  pub place : position_of (mark_of claim) ≡ i
  pub follows : Follows layout marks (mark_of claim)
  pub shows : Shows claims (marks ++ mark_of claim ∷ []) (i + 1) index
  pub bricks : length index.crashes ≡ layout.bricks

-- a Begin that was taken
takes_begin : (layout : Layout) (claims : List ParsedMark) (marks : List Mark) (i : ℕ) (index later : Index) (q n b g s : ℕ) (access : Access)
    → Shows claims marks i index → length index.crashes ≡ layout.bricks → slice_get claims i ≡ Some (Begin q n b g s access) → q ≡ i
    → n ≡ length index.found + 1 → begin_fits layout b g s access ≡ true
    → later ≡ record { found = index.found ++ begun i b g s (crashes_of index.crashes b) ∷ []; crashes = index.crashes }
    → Takes layout claims marks i (Begin q n b g s access) later
takes_begin layout claims marks i index later q n b g s access shows bricks at place number fits is =
    let parts = and_parts (nat_lt b layout.bricks) (group_fits (group_of layout g) layout.block s access) fits in
    let below : b < layout.bricks = is_below b layout.bricks parts.0 in
    let next : suc (length index.found) ≡ n = omega arith in
    let new : Index = record { found = index.found ++ begun i b g s (crashes_of index.crashes b) ∷ []; crashes = index.crashes } in
    let P : ℕ → ℕ → Type 0 = λ p m. slice_get claims i ≡ Some (Begin p m b g s access)
    → Shows claims (marks ++ mark_of (Begin p m b g s access) ∷ []) (i + 1) new in
    let shown : P q n = subst (λ (p : ℕ). P p n) (sym place) (subst (λ (m : ℕ). P i m) next
    (λ here. shows_begin claims marks i index b g s access shows here (omega arith))) in
    record {
      place = place;
      follows = (number ∙ ap (λ (k : ℕ). k + 1) (sym shows.count), (below, group_fits_is (group_of layout g) layout.block s access parts.1));
      shows = subst (λ (x : Index). Shows claims (marks ++ mark_of (Begin q n b g s access) ∷ []) (i + 1) x) (sym is) (shown at);
      bricks = ap (λ (x : Index). length x.crashes) is ∙ bricks;
    }

-- an End that was taken
takes_end : (layout : Layout) (claims : List ParsedMark) (marks : List Mark) (i : ℕ) (index later : Index) (q k : ℕ) (outcome : ParsedAnswer) (mine : Operation)
    → Shows claims marks i index → length index.crashes ≡ layout.bricks → slice_get claims i ≡ Some (End q (suc k) outcome) → q ≡ i
    → slice_get index.found k ≡ Some mine → is_open index.crashes mine ≡ true → word_fits (access_at claims mine.begin) outcome ≡ true
    → later ≡ record { found = slice_set index.found k (ended i mine); crashes = index.crashes }
    → Takes layout claims marks i (End q (suc k) outcome) later
takes_end layout claims marks i index later q k outcome mine shows bricks at place found open' word is =
    let parts = and_parts (is_nowhere mine.end) (is_nowhere (crash_after index.crashes mine)) open' in
    let no_end : mine.end ≡ None = nowhere_none mine.end parts.0 in
    let no_crash : crash_after index.crashes mine ≡ None = nowhere_none (crash_after index.crashes mine) parts.1 in
    let life : life_of marks (suc k) ≡ Some (life_in claims index.crashes i mine) =
    shows.lives (suc k) ∙ ap (option_map (life_in claims index.crashes i)) found in
    let new : Index = record { found = slice_set index.found k (ended i mine); crashes = index.crashes } in
    let P : ℕ → Type 0 = λ p. slice_get claims i ≡ Some (End p (suc k) outcome)
    → Shows claims (marks ++ mark_of (End p (suc k) outcome) ∷ []) (i + 1) new in
    let shown : P q = subst P (sym place) (λ here. shows_end claims marks i index k mine outcome shows here found no_end no_crash) in
    record {
      place = place;
      follows = (
        subst (λ (l : Option Life). IsOpen l) (sym life) (nowhere_unended claims mine.end (crash_after index.crashes mine) i no_end no_crash),
        subst (λ (l : Option Life). AnswerFits l (answer_of outcome)) (sym life) (word_fits_is (access_at claims mine.begin) outcome word),
      );
      shows = subst (λ (x : Index). Shows claims (marks ++ mark_of (End q (suc k) outcome) ∷ []) (i + 1) x) (sym is) (shown at);
      bricks = ap (λ (x : Index). length x.crashes) is ∙ bricks;
    }

one_less : (k : ℕ) → suc k - 1 ≡ k
one_less k = omega arith

-- the choice of an End, by what was found
end_found : (layout : Layout) (claims : List ParsedMark) (marks : List Mark) (i : ℕ) (index later : Index) (q k : ℕ) (outcome : ParsedAnswer) (mine : Option Operation)
    → Shows claims marks i index → length index.crashes ≡ layout.bricks → slice_get claims i ≡ Some (End q (suc k) outcome) → q ≡ i
    → slice_get index.found k ≡ mine → may_end claims index.crashes mine outcome ≡ true
    → later ≡ record { found = change_at index.found k (option_map (ended i) mine); crashes = index.crashes }
    → Takes layout claims marks i (End q (suc k) outcome) later
end_found layout claims marks i index later q k outcome None shows bricks at place found may is = absurd (let never : false ≡ true = may in cc)
end_found layout claims marks i index later q k outcome (Some mine) shows bricks at place found may is =
    let parts = and_parts (is_open index.crashes mine) (word_fits (access_at claims mine.begin) outcome) may in
    takes_end layout claims marks i index later q k outcome mine shows bricks at place found parts.0 parts.1 is

-- a mark that was taken
pub takes : (layout : Layout) (claims : List ParsedMark) (marks : List Mark) (i : ℕ) (index later : Index) (claim : ParsedMark) → Shows claims marks i index
    → length index.crashes ≡ layout.bricks → slice_get claims i ≡ Some claim → after_claim layout claims index i claim ≡ Some later
    → Takes layout claims marks i claim later
unfolding after_claim begins_next ends_at crashes_at
takes layout claims marks i index later (Begin q n b g s access) shows bricks at is =
    let first = cond_some _ _ later is in
    let parts = and_parts (nat_eq q i) (begin_fits layout b g s access) first.0 in
    let second = cond_some _ _ later first.1 in
    takes_begin layout claims marks i index later q n b g s access shows bricks at (eqb-true q i parts.0)
    (eqb-true n (length index.found + 1) second.0) parts.1 (same second.1)
  where
    same : {a b : Index} → Some a ≡ Some b → b ≡ a
    same e = cc
takes layout claims marks i index later (End q zero outcome) shows bricks at is =
    let first = cond_some _ _ later is in
    absurd (let never : None ≡ Some later = first.1 in cc)
takes layout claims marks i index later (End q (suc k) outcome) shows bricks at is =
    let first = cond_some _ _ later is in
    let second = cond_some _ _ later first.1 in
    let parts = and_parts (nat_lt 0 (suc k)) (may_end claims index.crashes (slice_get index.found (suc k - 1)) outcome) second.0 in
    end_found layout claims marks i index later q k outcome (slice_get index.found k) shows bricks at (eqb-true q i first.0) refl
    (subst (λ (j : ℕ). may_end claims index.crashes (slice_get index.found j) outcome ≡ true) (one_less k) parts.1)
    (subst (λ (j : ℕ). later ≡ record { found = change_at index.found j (option_map (ended i) (slice_get index.found j)); crashes = index.crashes })
    (one_less k) (same second.1))
  where
    same : {a b : Index} → Some a ≡ Some b → b ≡ a
    same e = cc
takes layout claims marks i index later (Crash q b) shows bricks at is =
    let first = cond_some _ _ later is in
    let place : q ≡ i = eqb-true q i first.0 in
    let new : Index = record { found = index.found; crashes = crashed_at index.crashes b i } in
    let which : later ≡ new = same first.1 in
    let shown : Shows claims (marks ++ mark_of (Crash q b) ∷ []) (i + 1) new =
    subst (λ (p : ℕ). Shows claims (marks ++ mark_of (Crash p b) ∷ []) (i + 1) new) (sym place) (shows_crash claims marks i index b shows) in
    record {
      place = place;
      follows = tt;
      shows = subst (λ (x : Index). Shows claims (marks ++ mark_of (Crash q b) ∷ []) (i + 1) x) (sym which) shown;
      bricks = ap (λ (x : Index). length x.crashes) which ∙ length_set index.crashes b (crashes_of index.crashes b ++ i ∷ []) ∙ bricks;
    }
  where
    same : {a b : Index} → Some a ≡ Some b → b ≡ a
    same e = cc

-- an End that follows may end
may_follow : (claims : List ParsedMark) (marks : List Mark) (i : ℕ) (index : Index) (k : ℕ) (outcome : ParsedAnswer) (mine : Option Operation)
    → life_of marks (suc k) ≡ option_map (life_in claims index.crashes i) mine → IsOpen (life_of marks (suc k))
    → AnswerFits (life_of marks (suc k)) (answer_of outcome) → may_end claims index.crashes mine outcome ≡ true
may_follow claims marks i index k outcome None life open' fits = absurd (subst (λ (l : Option Life). IsOpen l) life open')
may_follow claims marks i index k outcome (Some mine) life open' fits =
    both (is_open index.crashes mine) (word_fits (access_at claims mine.begin) outcome)
    (unended_nowhere claims mine.end (crash_after index.crashes mine) i (subst (λ (l : Option Life). IsOpen l) life open'))
    (word_fits_if (access_at claims mine.begin) outcome (subst (λ (l : Option Life). AnswerFits l (answer_of outcome)) life fits))

-- a mark that follows is taken
pub refuses : (layout : Layout) (claims : List ParsedMark) (marks : List Mark) (i : ℕ) (index : Index) (claim : ParsedMark) → Shows claims marks i index
    → after_claim layout claims index i claim ≡ None → position_of (mark_of claim) ≡ i → Follows layout marks (mark_of claim) → ⊥
unfolding after_claim begins_next ends_at crashes_at
refuses layout claims marks i index (Begin q n b g s access) shows is place follows =
    let fits : begin_fits layout b g s access ≡ true =
    both (nat_lt b layout.bricks) (group_fits (group_of layout g) layout.block s access) (below_is b layout.bricks follows.1.0)
    (group_fits_if (group_of layout g) layout.block s access follows.1.1) in
    let number : n ≡ length index.found + 1 = follows.0 ∙ ap (λ (k : ℕ). k + 1) shows.count in
    let taken = cond_true (nat_eq q i && begin_fits layout b g s access) _ None (both (nat_eq q i) (begin_fits layout b g s access) (eq-eqb q i place) fits)
    ∙ cond_true (nat_eq n (length index.found + 1)) _ None (eq-eqb n (length index.found + 1) number) in
    never _ (sym taken ∙ is)
  where
    never : (x : Index) → Some x ≡ None → ⊥
    never x e = cc
refuses layout claims marks i index (End q zero outcome) shows is place follows =
    subst (λ (l : Option Life). IsOpen l) (shows.lives zero) follows.0
refuses layout claims marks i index (End q (suc k) outcome) shows is place follows =
    let may : may_end claims index.crashes (slice_get index.found k) outcome ≡ true =
    may_follow claims marks i index k outcome (slice_get index.found k) (shows.lives (suc k)) follows.0 follows.1 in
    let may_here : may_end claims index.crashes (slice_get index.found (suc k - 1)) outcome ≡ true =
    subst (λ (j : ℕ). may_end claims index.crashes (slice_get index.found j) outcome ≡ true) (sym (one_less k)) may in
    let taken = cond_true (nat_eq q i) _ None (eq-eqb q i place)
    ∙ cond_true (nat_lt 0 (suc k) && may_end claims index.crashes (slice_get index.found (suc k - 1)) outcome) _ None
    (both (nat_lt 0 (suc k)) (may_end claims index.crashes (slice_get index.found (suc k - 1)) outcome) (below_is 0 (suc k) (omega arith)) may_here) in
    never _ (sym taken ∙ is)
  where
    never : (x : Index) → Some x ≡ None → ⊥
    never x e = cc
refuses layout claims marks i index (Crash q b) shows is place follows =
    never _ (sym (cond_true (nat_eq q i) _ None (eq-eqb q i place)) ∙ is)
  where
    never : (x : Index) → Some x ≡ None → ⊥
    never x e = cc
