-- What is kept of operations shows their lives, mark by mark.
use Rattle.std.proofs.Common.{◌≡◌, ◌≢◌, ℕ, zero, suc, ◌+◌, ◌<◌, ◌≤◌, Bool, cond, List, [], ◌∷◌, ◌++◌, length, take, ◌⊎◌, inl, inr, ⊎_elim, Option, Some, None, refl, sym, ap, ◌∙◌, subst, arith}
use Rattle.std.specs.Prelude.{slice_get, slice_set}
use Rattle.std.specs.Option.{option_map}
use Rattle.std.proofs.lemmas.Bool.{eq-eqb, ne_eqb, cases_eq}
use Rattle.std.proofs.lemmas.List.{get_or-set_same, get_or-set_other}
use Rattle.lines.specs.declared.forms.Access.{Access}
use Rattle.fab_base.specs.declared.identities.BrickId.{BrickId}
use Rattle.fab_base.specs.declared.asks.Ask.{Ask}
use Rattle.fab_base.specs.declared.answers.Answer.{Answer}
use Rattle.reg_model.specs.declared.marks.Mark.{Mark}
use Rattle.reg_model.specs.declared.marks.Mark.TheVariants.{Begin, End, Crash}
use Rattle.reg_model.specs.Marks.{Ending, Answered, Interrupted, Unended, Life, life_of, begun_numbers}
use Rattle.reg_model.proofs.GrowingLives.{onward, life_onward, life_of-append, with_ending}
use Rattle.transcript.specs.declared.claims.ParsedMark.{ParsedMark}
use Rattle.transcript.specs.declared.claims.ParsedAnswer.{ParsedAnswer}
use Rattle.transcript.specs.Marks.{mark_of, answer_of, op_of}
use Rattle.audit.specs.declared.operations.Operation.{Operation}
use Rattle.audit.specs.Operations.{access_or, access_of, outcome_or, outcome_of, ending_with, crashes_of, crash_after, life_in, Index, ended, begun, crashed_at, life_at, Shows}
use Rattle.audit.proofs.Lists.{get_found, get_last, get_past, get_within, get_beyond, get_set, get_other, length_set, length_push, push_cases, same_some}

-- the numbers that begin, with one mark more
pub begun_push : (marks : List Mark) (mark : Mark) → begun_numbers (marks ++ mark ∷ []) ≡ begun_numbers marks ++ begun_numbers (mark ∷ [])
begun_push [] mark = refl
begun_push (Begin p n b ask ∷ marks) mark = ap (λ l. n ∷ l) (begun_push marks mark)
begun_push (End p n answer ∷ marks) mark = begun_push marks mark
begun_push (Crash p b ∷ marks) mark = begun_push marks mark

-- a life, once a mark that is not its operation's has come
onward_begin : (claims : List ParsedMark) (e c : Option ℕ) (i n m brick : ℕ) (b : BrickId) (ask : Ask)
    → onward (ending_with claims e c i) (Begin i n b ask ∷ []) m brick ≡ ending_with claims e c (i + 1)
onward_begin claims (Some p) c i n m brick b ask = refl
onward_begin claims None (Some p) i n m brick b ask = refl
onward_begin claims None None i n m brick b ask = refl

onward_end : (claims : List ParsedMark) (e c : Option ℕ) (i n m brick : ℕ) (answer : Answer) → n ≢ m
    → onward (ending_with claims e c i) (End i n answer ∷ []) m brick ≡ ending_with claims e c (i + 1)
onward_end claims (Some p) c i n m brick answer other = refl
onward_end claims None (Some p) i n m brick answer other = refl
onward_end claims None None i n m brick answer other = ap (λ (t : Bool). cond t (Answered i answer) (Unended (i + 1))) (ne_eqb n m other)

onward_crash : (claims : List ParsedMark) (e c : Option ℕ) (i m brick : ℕ) (b : BrickId) → b.0 ≢ brick
    → onward (ending_with claims e c i) (Crash i b ∷ []) m brick ≡ ending_with claims e c (i + 1)
onward_crash claims (Some p) c i m brick b other = refl
onward_crash claims None (Some p) i m brick b other = refl
onward_crash claims None None i m brick b other = ap (λ (t : Bool). cond t (Interrupted i) (Unended (i + 1))) (ne_eqb b.0 brick other)

-- the life of an operation that was found, once a mark has come that leaves its crashes and its End as they were
other_life : (claims : List ParsedMark) (crashes later : List (List ℕ)) (i m : ℕ) (o : Operation) (mark : Mark)
    → onward (ending_with claims o.end (crash_after crashes o) i) (mark ∷ []) m o.brick ≡ ending_with claims o.end (crash_after later o) (i + 1)
    → life_onward (Some (life_in claims crashes i o)) (mark ∷ []) m ≡ Some (life_in claims later (i + 1) o)
other_life claims crashes later i m o mark is = ap (λ (e : Ending). Some (with_ending (life_in claims crashes i o) e)) is

-- the life of the operation that begins
new_life : (claims : List ParsedMark) (crashes : List (List ℕ)) (i n b g s : ℕ) (access : Access)
    → slice_get claims i ≡ Some (ParsedMark.Begin i n b g s access)
    → life_in claims crashes (i + 1) (begun i b g s (crashes_of crashes b))
    ≡ record { begin = i; brick = b; ask = record { group = record { 0 = g }; stripe = record { 0 = s }; op = op_of access }; ending = Unended (i + 1) }
new_life claims crashes i n b g s access is =
    let asked : Option ParsedMark → Life = λ c. record {
      begin = i;
      brick = b;
      ask = record { group = record { 0 = g }; stripe = record { 0 = s }; op = op_of (access_or (access_of c)) };
      ending = ending_with claims None (slice_get (crashes_of crashes b) (length (crashes_of crashes b))) (i + 1);
    } in
    let open' : Option ℕ → Life = λ c. record {
      begin = i;
      brick = b;
      ask = record { group = record { 0 = g }; stripe = record { 0 = s }; op = op_of access };
      ending = ending_with claims None c (i + 1);
    } in
    ap asked is ∙ ap open' (get_past (crashes_of crashes b) (length (crashes_of crashes b)) (omega arith))

-- the operation that begins, or one that was found
begin_lives : (claims : List ParsedMark) (marks : List Mark) (i : ℕ) (index : Index) (b g s : ℕ) (access : Access)
    → Shows claims marks i index → slice_get claims i ≡ Some (ParsedMark.Begin i (suc (length index.found)) b g s access) → (k : ℕ) (o : Option Operation)
    → slice_get index.found k ≡ o
    → life_onward (option_map (life_in claims index.crashes i) o) (mark_of (ParsedMark.Begin i (suc (length index.found)) b g s access) ∷ []) (suc k)
    ≡ option_map (life_in claims index.crashes (i + 1)) (slice_get (index.found ++ begun i b g s (crashes_of index.crashes b) ∷ []) k)
begin_lives claims marks i index b g s access shows at k (Some o) is =
    let n : ℕ = suc (length index.found) in
    other_life claims index.crashes index.crashes i (suc k) o (mark_of (ParsedMark.Begin i n b g s access))
    (onward_begin claims o.end (crash_after index.crashes o) i n (suc k) o.brick (record { 0 = b })
    (record { group = record { 0 = g }; stripe = record { 0 = s }; op = op_of access }))
    ∙ ap (option_map (life_in claims index.crashes (i + 1)))
    (sym (get_found index.found (begun i b g s (crashes_of index.crashes b) ∷ []) k o is))
begin_lives claims marks i index b g s access shows at k None is =
    elim (cases_eq (length index.found) k) [
      | inl same ↦
          ap (λ (t : Bool). cond t (Some born) None) (eq-eqb (suc (length index.found)) (suc k) (ap suc same))
          ∙ ap (λ (l : Life). Some l) (sym (new_life claims index.crashes i (suc (length index.found)) b g s access at))
          ∙ ap (option_map (life_in claims index.crashes (i + 1))) (sym (get_last index.found (begun i b g s (crashes_of index.crashes b)) k (sym same)))
      | inr other ↦
          ap (λ (t : Bool). cond t (Some born) None) (ne_eqb (suc (length index.found)) (suc k) (λ e. other (omega arith)))
          ∙ ap (option_map (life_in claims index.crashes (i + 1)))
          (sym (get_past (index.found ++ begun i b g s (crashes_of index.crashes b) ∷ []) k
          (let long = length_push index.found (begun i b g s (crashes_of index.crashes b)) in let past = get_beyond index.found k is in omega arith)))
    ]
  where
    born : Life
    born = record {
      begin = i;
      brick = b;
      ask = record { group = record { 0 = g }; stripe = record { 0 = s }; op = op_of access };
      ending = Unended (i + 1);
    }

-- what is kept once an operation has begun
pub shows_begin : (claims : List ParsedMark) (marks : List Mark) (i : ℕ) (index : Index) (b g s : ℕ) (access : Access) → Shows claims marks i index
    → slice_get claims i ≡ Some (ParsedMark.Begin i (suc (length index.found)) b g s access) → b < length index.crashes
    → Shows claims (marks ++ mark_of (ParsedMark.Begin i (suc (length index.found)) b g s access) ∷ []) (i + 1)
    (record { found = index.found ++ begun i b g s (crashes_of index.crashes b) ∷ []; crashes = index.crashes })
shows_begin claims marks i index b g s access shows at brick = record {
  lives = λ n. life_of-append marks (mark ∷ []) n ∙ ap (λ (l : Option Life). life_onward l (mark ∷ []) n) (shows.lives n) ∙ by_number n;
  count = ap length (begun_push marks mark) ∙ length_push (begun_numbers marks) (suc (length index.found))
      ∙ ap (λ (n : ℕ). n + 1) shows.count ∙ sym (length_push index.found new);
  bounded = λ k o is. ⊎_elim
      (λ (old : (slice_get index.found k ≡ Some o) × (take k (index.found ++ new ∷ []) ≡ take k index.found)). shows.bounded k o old.0)
      (λ (here : (new ≡ o) × (take k (index.found ++ new ∷ []) ≡ index.found) × (k ≡ length index.found)).
      subst (λ (x : Operation). (x.brick < length index.crashes) × (x.crashes ≤ length (crashes_of index.crashes x.brick))) here.0 (brick, omega arith))
      (push_cases index.found new o k is);
}
  where
    mark : Mark
    mark = mark_of (ParsedMark.Begin i (suc (length index.found)) b g s access)

    new : Operation
    new = begun i b g s (crashes_of index.crashes b)

    by_number : (n : ℕ) → life_onward (life_at claims index i n) (mark ∷ []) n
        ≡ life_at claims (record { found = index.found ++ new ∷ []; crashes = index.crashes }) (i + 1) n
    by_number zero =
        ap (λ (t : Bool). cond t (Some (record {
          begin = i;
          brick = b;
          ask = record { group = record { 0 = g }; stripe = record { 0 = s }; op = op_of access };
          ending = Unended (i + 1);
        })) None)
        (ne_eqb (suc (length index.found)) 0 (λ e. omega arith))
    by_number (suc k) = begin_lives claims marks i index b g s access shows at k (slice_get index.found k) refl

-- what becomes of the operations when one ends
end_lives : (claims : List ParsedMark) (i : ℕ) (index : Index) (k0 : ℕ) (mine : Operation) (outcome : ParsedAnswer)
    → slice_get claims i ≡ Some (ParsedMark.End i (suc k0) outcome) → slice_get index.found k0 ≡ Some mine → mine.end ≡ None
    → crash_after index.crashes mine ≡ None → (k : ℕ) (o : Option Operation) → slice_get index.found k ≡ o
    → life_onward (option_map (life_in claims index.crashes i) o) (End i (suc k0) (answer_of outcome) ∷ []) (suc k)
    ≡ option_map (life_in claims index.crashes (i + 1)) (slice_get (slice_set index.found k0 (ended i mine)) k)
end_lives claims i index k0 mine outcome at is no_end no_crash k None none =
    ap (option_map (life_in claims index.crashes (i + 1)))
    (sym (get_past (slice_set index.found k0 (ended i mine)) k
    (let long = length_set index.found k0 (ended i mine) in let past = get_beyond index.found k none in omega arith)))
end_lives claims i index k0 mine outcome at is no_end no_crash k (Some o) found =
    elim (cases_eq k0 k) [
      | inl same ↦
          ap (λ (l : Option Life). life_onward l (End i (suc k0) (answer_of outcome) ∷ []) (suc k))
          (ap (λ (x : Option Operation). option_map (life_in claims index.crashes i) x) (sym found ∙ ap (slice_get index.found) (sym same) ∙ is))
          ∙ ap (λ (e : Ending). Some (with_ending (life_in claims index.crashes i mine) e))
          (ap (λ (e : Option ℕ). onward (ending_with claims e (crash_after index.crashes mine) i) (End i (suc k0) (answer_of outcome) ∷ []) (suc k) mine.brick) no_end
          ∙ ap (λ (c : Option ℕ). onward (ending_with claims None c i) (End i (suc k0) (answer_of outcome) ∷ []) (suc k) mine.brick) no_crash
          ∙ ap (λ (t : Bool). cond t (Answered i (answer_of outcome)) (Unended (i + 1))) (eq-eqb (suc k0) (suc k) (ap suc same))
          ∙ ap (λ (c : Option ParsedMark). Answered i (answer_of (outcome_or (outcome_of c)))) (sym at))
          ∙ ap (option_map (life_in claims index.crashes (i + 1)))
          (sym (ap (slice_get (slice_set index.found k0 (ended i mine))) (sym same) ∙ get_set index.found k0 (ended i mine) (get_within index.found k0 mine is)))
      | inr other ↦
          other_life claims index.crashes index.crashes i (suc k) o (End i (suc k0) (answer_of outcome))
          (onward_end claims o.end (crash_after index.crashes o) i (suc k0) (suc k) o.brick (answer_of outcome) (λ e. other (omega arith)))
          ∙ ap (option_map (life_in claims index.crashes (i + 1)))
          (sym (get_other index.found k k0 (ended i mine) (λ e. other (sym e)) ∙ found))
    ]

-- what is kept once an operation has ended
pub shows_end : (claims : List ParsedMark) (marks : List Mark) (i : ℕ) (index : Index) (k0 : ℕ) (mine : Operation) (outcome : ParsedAnswer)
    → Shows claims marks i index → slice_get claims i ≡ Some (ParsedMark.End i (suc k0) outcome) → slice_get index.found k0 ≡ Some mine
    → mine.end ≡ None → crash_after index.crashes mine ≡ None
    → Shows claims (marks ++ mark_of (ParsedMark.End i (suc k0) outcome) ∷ []) (i + 1)
    (record { found = slice_set index.found k0 (ended i mine); crashes = index.crashes })
shows_end claims marks i index k0 mine outcome shows at is no_end no_crash = record {
  lives = λ n. life_of-append marks (mark ∷ []) n ∙ ap (λ (l : Option Life). life_onward l (mark ∷ []) n) (shows.lives n) ∙ by_number n;
  count = ap length (begun_push marks mark) ∙ ap length (append_none (begun_numbers marks)) ∙ shows.count
      ∙ sym (length_set index.found k0 (ended i mine));
  bounded = λ k o found. by_place k o found (cases_eq k k0);
}
  where
    mark : Mark
    mark = End i (suc k0) (answer_of outcome)

    append_none : (xs : List ℕ) → xs ++ [] ≡ xs
    append_none [] = refl
    append_none (x ∷ xs) = ap (λ l. x ∷ l) (append_none xs)

    by_number : (n : ℕ) → life_onward (life_at claims index i n) (mark ∷ []) n
        ≡ life_at claims (record { found = slice_set index.found k0 (ended i mine); crashes = index.crashes }) (i + 1) n
    by_number zero = refl
    by_number (suc k) = end_lives claims i index k0 mine outcome at is no_end no_crash k (slice_get index.found k) refl

    by_place : (k : ℕ) (o : Operation) → slice_get (slice_set index.found k0 (ended i mine)) k ≡ Some o → (k ≡ k0) ⊎ (k ≢ k0)
        → (o.brick < length index.crashes) × (o.crashes ≤ length (crashes_of index.crashes o.brick))
    by_place k o found (inl same) =
        let put : Some (ended i mine) ≡ Some o =
        sym (get_set index.found k0 (ended i mine) (get_within index.found k0 mine is)) ∙ ap (slice_get (slice_set index.found k0 (ended i mine))) (sym same) ∙ found in
        let which : ended i mine ≡ o = same_some (ended i mine) o put in
        subst (λ (x : Operation). (x.brick < length index.crashes) × (x.crashes ≤ length (crashes_of index.crashes x.brick))) which (shows.bounded k0 mine is)
    by_place k o found (inr other) = shows.bounded k o (sym (get_other index.found k k0 (ended i mine) other) ∙ found)

-- the crashes of a brick, once one more has come
crashes_same : (crashes : List (List ℕ)) (b i : ℕ) → b < length crashes → crashes_of (crashed_at crashes b i) b ≡ crashes_of crashes b ++ i ∷ []
crashes_same crashes b i lt = get_or-set_same crashes b (crashes_of crashes b ++ i ∷ []) [] lt

crashes_other : (crashes : List (List ℕ)) (b i a : ℕ) → a ≢ b → crashes_of (crashed_at crashes b i) a ≡ crashes_of crashes a
crashes_other crashes b i a other = get_or-set_other crashes b a (crashes_of crashes b ++ i ∷ []) [] other

-- a brick's crash interrupts its operations that are open
crash_mine : (claims : List ParsedMark) (xs : List ℕ) (e c : Option ℕ) (place i m brick : ℕ) (b : BrickId) → place ≤ length xs → slice_get xs place ≡ c
    → b.0 ≡ brick
    → onward (ending_with claims e c i) (Crash i b ∷ []) m brick ≡ ending_with claims e (slice_get (xs ++ i ∷ []) place) (i + 1)
crash_mine claims xs (Some p) c place i m brick b within is same = refl
crash_mine claims xs None (Some p) place i m brick b within is same =
    ap (λ (c : Option ℕ). ending_with claims None c (i + 1)) (sym (get_found xs (i ∷ []) place p is))
crash_mine claims xs None None place i m brick b within is same =
    ap (λ (t : Bool). cond t (Interrupted i) (Unended (i + 1))) (eq-eqb b.0 brick same)
    ∙ ap (λ (c : Option ℕ). ending_with claims None c (i + 1))
    (sym (get_last xs i place (let beyond : length xs ≤ place = get_beyond xs place is in omega arith)))

crash_lives : (claims : List ParsedMark) (i : ℕ) (index : Index) (b : ℕ) (k : ℕ) (o : Option Operation)
    → ((x : Operation) → o ≡ Some x → (x.brick < length index.crashes) × (x.crashes ≤ length (crashes_of index.crashes x.brick)))
    → life_onward (option_map (life_in claims index.crashes i) o) (Crash i (record { 0 = b }) ∷ []) (suc k)
    ≡ option_map (life_in claims (crashed_at index.crashes b i) (i + 1)) o
crash_lives claims i index b k None bounded = refl
crash_lives claims i index b k (Some o) bounded =
    other_life claims index.crashes (crashed_at index.crashes b i) i (suc k) o (Crash i (record { 0 = b }))
    (elim (cases_eq b o.brick) [
      | inl same ↦
          crash_mine claims (crashes_of index.crashes o.brick) o.end (crash_after index.crashes o) o.crashes i (suc k) o.brick (record { 0 = b })
          (bounded o refl).1 refl same
          ∙ ap (λ (xs : List ℕ). ending_with claims o.end (slice_get xs o.crashes) (i + 1))
          (sym (ap (λ (a : ℕ). crashes_of (crashed_at index.crashes a i) o.brick) same
          ∙ crashes_same index.crashes o.brick i (bounded o refl).0))
      | inr other ↦
          onward_crash claims o.end (crash_after index.crashes o) i (suc k) o.brick (record { 0 = b }) other
          ∙ ap (λ (xs : List ℕ). ending_with claims o.end (slice_get xs o.crashes) (i + 1))
          (sym (crashes_other index.crashes b i o.brick (λ e. other (sym e))))
    ])

-- what is kept once a brick has crashed
pub shows_crash : (claims : List ParsedMark) (marks : List Mark) (i : ℕ) (index : Index) (b : ℕ) → Shows claims marks i index
    → Shows claims (marks ++ mark_of (ParsedMark.Crash i b) ∷ []) (i + 1) (record { found = index.found; crashes = crashed_at index.crashes b i })
shows_crash claims marks i index b shows = record {
  lives = λ n. life_of-append marks (mark ∷ []) n ∙ ap (λ (l : Option Life). life_onward l (mark ∷ []) n) (shows.lives n) ∙ by_number n;
  count = ap length (begun_push marks mark) ∙ ap length (append_none (begun_numbers marks)) ∙ shows.count;
  bounded = λ k o found.
      (let old = shows.bounded k o found in (
        subst (λ (l : ℕ). o.brick < l) (sym (length_set index.crashes b (crashes_of index.crashes b ++ i ∷ []))) old.0,
        by_brick o old (cases_eq o.brick b),
      ));
}
  where
    mark : Mark
    mark = Crash i (record { 0 = b })

    append_none : (xs : List ℕ) → xs ++ [] ≡ xs
    append_none [] = refl
    append_none (x ∷ xs) = ap (λ l. x ∷ l) (append_none xs)

    by_number : (n : ℕ) → life_onward (life_at claims index i n) (mark ∷ []) n
        ≡ life_at claims (record { found = index.found; crashes = crashed_at index.crashes b i }) (i + 1) n
    by_number zero = refl
    by_number (suc k) = crash_lives claims i index b k (slice_get index.found k) (λ x is. shows.bounded k x is)

    by_brick : (o : Operation) → (o.brick < length index.crashes) × (o.crashes ≤ length (crashes_of index.crashes o.brick))
        → (o.brick ≡ b) ⊎ (o.brick ≢ b) → o.crashes ≤ length (crashes_of (crashed_at index.crashes b i) o.brick)
    by_brick o old (inl same) =
        subst (λ (xs : List ℕ). o.crashes ≤ length xs)
        (sym (ap (λ (a : ℕ). crashes_of (crashed_at index.crashes a i) o.brick) (sym same) ∙ crashes_same index.crashes o.brick i old.0))
        (let long = length_push (crashes_of index.crashes o.brick) i in let most = old.1 in omega arith)
    by_brick o old (inr other) = subst (λ (xs : List ℕ). o.crashes ≤ length xs) (sym (crashes_other index.crashes b i o.brick other)) old.1

-- nothing is kept before any mark
pub shows_none : (claims : List ParsedMark) (index : Index) → index.found ≡ [] → Shows claims [] 0 index
shows_none claims index none = record {
  lives = lives;
  count = sym (ap length none);
  bounded = λ k o found. absurd (let never : None ≡ Some o = ap (λ (l : List Operation). slice_get l k) (sym none) ∙ found in cc);
}
  where
    lives : (n : ℕ) → life_of [] n ≡ life_at claims index 0 n
    lives zero = refl
    lives (suc k) = ap (λ (l : List Operation). option_map (life_in claims index.crashes 0) (slice_get l k)) (sym none)
