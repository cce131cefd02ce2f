-- Happenings that go on, one after another, are those that are strict but for the answered operations that are not among them.
use Rattle.std.proofs.Common.{◌≡◌, ◌≢◌, ℕ, zero, suc, ◌-◌, ◌<◌, ◌≤◌, Bool, true, false, eqb, List, [], ◌∷◌, length, map, set, Option, Some, None, refl, sym, ap, ◌∙◌, subst, arith}
use Rattle.std.specs.List.{All, AllByRecursion, IsDistinct}
use Rattle.std.specs.List.Sorted.{IsNonDecreasing}
use Rattle.std.proofs.lemmas.Bool.{eq-eqb, ne_eqb}
use Rattle.std.proofs.lemmas.List.{get_or-set_same, get_or-set_other}
use Rattle.std.proofs.lemmas.List.Elements.{All-nil, All-cons, All-head, All-tail}
use Rattle.reg_model.specs.declared.marks.Mark.{Mark}
use Rattle.reg_model.specs.declared.marks.Happening.{Happening}
use Rattle.reg_model.specs.Marks.{Life, life_of}
use Rattle.reg_model.specs.Strict.{IsInTime, ReadsRight, ReadsRightAlong, after_life}
use Rattle.audit.specs.Walks.{Walk, has_happened, walked, GoOn}

-- the operations of lives are numbered from one, and each has a place
pub record AreKnown (lives : ℕ → Option Life) (places : ℕ) : Type 0 where
  pub each : (n : ℕ) (life : Life) → lives n ≡ Some life → (0 < n) × (n - 1 < places)

-- what happens in time has a life
pub alive : (life : Option Life) (p : ℕ) → IsInTime life p → (l : Life) × (life ≡ Some l)
alive None p h = absurd h
alive (Some l) p h = (l, refl)

-- whether operations have happened, once one more has
set_same : (happened : List Bool) (n : ℕ) → n - 1 < length happened → has_happened (set happened (n - 1) true) n ≡ true
set_same happened n lt = get_or-set_same happened (n - 1) true false lt

set_other : (happened : List Bool) (n m : ℕ) → 0 < n → 0 < m → n ≢ m → has_happened (set happened (m - 1) true) n ≡ has_happened happened n
set_other happened n m one two other = get_or-set_other happened (m - 1) (n - 1) true false (λ e. other (let same : n - 1 ≡ m - 1 = e in omega arith))

pub length_set : (xs : List Bool) (k : ℕ) (y : Bool) → length (set xs k y) ≡ length xs
length_set [] k y = refl
length_set (x ∷ xs) zero y = refl
length_set (x ∷ xs) (suc k) y = let rest : length (set xs k y) ≡ length xs = length_set xs k y in omega arith

-- one more position that does not fall, and one less
falls_not : (x : ℕ) (xs : List ℕ) → All (λ y. x ≤ y) xs → IsNonDecreasing xs → IsNonDecreasing (x ∷ xs)
falls_not x xs low rest zero zero d le lt = omega arith
falls_not x xs low rest zero (suc j) d le lt = low j d (omega arith)
falls_not x xs low rest (suc i) zero d le lt = absurd (omega arith)
falls_not x xs low rest (suc i) (suc j) d le lt = rest i j d (omega arith) (omega arith)

back_tail : (x : ℕ) (xs : List ℕ) → IsNonDecreasing (x ∷ xs) → IsNonDecreasing xs
back_tail x xs all i j d le lt = all (suc i) (suc j) d (omega arith) (omega arith)

back_skip : (x y : ℕ) (xs : List ℕ) → IsNonDecreasing (x ∷ y ∷ xs) → IsNonDecreasing (x ∷ xs)
back_skip x y xs all =
    falls_not x xs (λ j d lt. all 0 (suc (suc j)) d (omega arith) (omega arith)) (back_tail y xs (back_tail x (y ∷ xs) all))

low_after : (p : ℕ) (is : List Happening) → IsNonDecreasing (p ∷ map (λ i. i.position) is) → All (λ i. p ≤ i.position) is
low_after p [] all = All-nil (λ i. p ≤ i.position)
low_after p (i ∷ is) all =
    All-cons (λ x. p ≤ x.position) i is (all 0 1 0 (omega arith) (omega arith))
    (low_after p is (back_skip p i.position (map (λ x. x.position) is) all))

apart_numbers : (a b : ℕ) → eqb a b ≡ false → a ≡ b → ⊥
apart_numbers a b differ e = let never : true ≡ false = sym (eq-eqb a b e) ∙ differ in cc

module _ (block : ℕ) (lives : ℕ → Option Life) where
  -- positions never fall
  low_all : (p : ℕ) (walk : Walk) (hs : List Happening) → p ≤ walk.last → GoOn block lives walk hs → All (λ y. p ≤ y) (map (λ h. h.position) hs)
  low_all p walk [] le goes = All-nil (λ y. p ≤ y)
  low_all p walk (h ∷ hs) le goes =
      let first : walk.last ≤ h.position = goes.0.0 in
      All-cons (λ y. p ≤ y) h.position (map (λ x. x.position) hs) (omega arith) (low_all p (walked block lives walk h) hs (omega arith) goes.1)

  pub never_back : (walk : Walk) (hs : List Happening) → GoOn block lives walk hs → IsNonDecreasing (map (λ h. h.position) hs)
  never_back walk [] goes = λ i j d le lt. absurd (omega arith)
  never_back walk (h ∷ hs) goes =
      falls_not h.position (map (λ x. x.position) hs) (low_all h.position (walked block lives walk h) hs (omega arith) goes.1)
      (never_back (walked block lives walk h) hs goes.1)

  -- an operation that has happened does not happen again
  apart : (walk : Walk) (hs : List Happening) (n : ℕ) → AreKnown lives (length walk.happened) → 0 < n → has_happened walk.happened n ≡ true
      → GoOn block lives walk hs → AllByRecursion (λ y. eqb n y ≡ false) (map (λ h. h.operation) hs)
  apart walk [] n known one has goes = tt
  apart walk (h ∷ hs) n known one has goes =
      let life = alive (lives h.operation) h.position goes.0.2 in
      let place = known.each h.operation life.0 life.1 in
      let other : n ≢ h.operation = λ e.
      (let never : true ≡ false = sym has ∙ ap (has_happened walk.happened) e ∙ goes.0.1 in cc) in (
        ne_eqb n h.operation other,
        apart (walked block lives walk h) hs n
            (subst (λ (k : ℕ). AreKnown lives k) (sym (length_set walk.happened (h.operation - 1) true)) known) one
            (set_other walk.happened n h.operation one place.0 other ∙ has) goes.1,
      )

  -- no operation stands twice
  pub once : (walk : Walk) (hs : List Happening) → AreKnown lives (length walk.happened) → GoOn block lives walk hs
      → IsDistinct eqb (map (λ h. h.operation) hs)
  unfolding IsDistinct
  once walk [] known goes = tt
  once walk (h ∷ hs) known goes =
      let life = alive (lives h.operation) h.position goes.0.2 in
      let place = known.each h.operation life.0 life.1 in
      let still : AreKnown lives (length (set walk.happened (h.operation - 1) true)) =
      subst (λ (k : ℕ). AreKnown lives k) (sym (length_set walk.happened (h.operation - 1) true)) known in (
        apart (walked block lives walk h) hs h.operation still place.0 (set_same walk.happened h.operation place.1) goes.1,
        once (walked block lives walk h) hs still goes.1,
      )

  -- each is in time
  pub in_time : (walk : Walk) (hs : List Happening) → GoOn block lives walk hs → All (λ h. IsInTime (lives h.operation) h.position) hs
  in_time walk [] goes = All-nil (λ h. IsInTime (lives h.operation) h.position)
  in_time walk (h ∷ hs) goes =
      All-cons (λ i. IsInTime (lives i.operation) i.position) h hs goes.0.2 (in_time (walked block lives walk h) hs goes.1)

  -- each answered read gives what the registers hold
  pub reads_right : (marks : List Mark) → ((n : ℕ) → lives n ≡ life_of marks n) → (walk : Walk) (hs : List Happening) → GoOn block lives walk hs
      → ReadsRightAlong block marks hs walk.registers
  reads_right marks same walk [] goes = tt
  reads_right marks same walk (h ∷ hs) goes = (
    subst (λ (l : Option Life). ReadsRight block walk.registers l) (same h.operation) goes.0.3,
    subst (λ (r : List ℕ). ReadsRightAlong block marks hs r) (ap (λ (l : Option Life). after_life block walk.registers l) (same h.operation))
        (reads_right marks same (walked block lives walk h) hs goes.1),
  )

  -- those behind a happening have not happened after it
  free_after : (flags : List Bool) (n : ℕ) (is : List Happening) → AreKnown lives (length flags) → 0 < n → AllByRecursion (λ y. eqb n y ≡ false) (map (λ i. i.operation) is)
      → All (λ i. IsInTime (lives i.operation) i.position) is → All (λ i. has_happened flags i.operation ≡ false) is
      → All (λ i. has_happened (set flags (n - 1) true) i.operation ≡ false) is
  free_after flags n [] known one others timely free = All-nil (λ i. has_happened (set flags (n - 1) true) i.operation ≡ false)
  free_after flags n (i ∷ is) known one others timely free =
      let alive_here = alive (lives i.operation) i.position (All-head (λ x. IsInTime (lives x.operation) x.position) i is timely) in
      let place = known.each i.operation alive_here.0 alive_here.1 in
      All-cons (λ x. has_happened (set flags (n - 1) true) x.operation ≡ false) i is
      (set_other flags i.operation n place.0 one (λ e. apart_numbers n i.operation others.0 (sym e))
      ∙ All-head (λ x. has_happened flags x.operation ≡ false) i is free)
      (free_after flags n is known one others.1 (All-tail (λ x. IsInTime (lives x.operation) x.position) i is timely)
      (All-tail (λ x. has_happened flags x.operation ≡ false) i is free))

  -- the other way round: what is strict goes on
  pub goes_on : (marks : List Mark) → ((n : ℕ) → lives n ≡ life_of marks n) → (walk : Walk) (hs : List Happening)
      → AreKnown lives (length walk.happened) → All (λ h. walk.last ≤ h.position) hs → All (λ h. has_happened walk.happened h.operation ≡ false) hs
      → IsNonDecreasing (map (λ h. h.position) hs) → IsDistinct eqb (map (λ h. h.operation) hs) → All (λ h. IsInTime (lives h.operation) h.position) hs
      → ReadsRightAlong block marks hs walk.registers → GoOn block lives walk hs
  unfolding IsDistinct
  goes_on marks same walk [] known low free back distinct timely reads = tt
  goes_on marks same walk (h ∷ hs) known low free back distinct timely reads =
      let time = All-head (λ i. IsInTime (lives i.operation) i.position) h hs timely in
      let rest_time = All-tail (λ i. IsInTime (lives i.operation) i.position) h hs timely in
      let life = alive (lives h.operation) h.position time in
      let place = known.each h.operation life.0 life.1 in (
        (
          All-head (λ i. walk.last ≤ i.position) h hs low,
          All-head (λ i. has_happened walk.happened i.operation ≡ false) h hs free,
          time,
          subst (λ (l : Option Life). ReadsRight block walk.registers l) (sym (same h.operation)) reads.0,
        ),
        goes_on marks same (walked block lives walk h) hs
            (subst (λ (k : ℕ). AreKnown lives k) (sym (length_set walk.happened (h.operation - 1) true)) known)
            (low_after h.position hs back)
            (free_after walk.happened h.operation hs known place.0 distinct.0 rest_time (All-tail (λ i. has_happened walk.happened i.operation ≡ false) h hs free))
            (back_tail h.position (map (λ i. i.position) hs) back) distinct.1 rest_time
            (subst (λ (r : List ℕ). ReadsRightAlong block marks hs r) (ap (λ (l : Option Life). after_life block walk.registers l) (sym (same h.operation))) reads.1),
      )
