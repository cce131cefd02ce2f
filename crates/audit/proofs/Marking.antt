-- Which operations have happened along happenings and lines.
use Rattle.std.proofs.Common.{◌≡◌, ◌≢◌, ℕ, zero, suc, ◌-◌, ◌<◌, Bool, true, false, List, [], ◌∷◌, length, map, get_or, set, take, ◌⊎◌, inl, inr, ⊎_elim, Option, Some, None, refl, sym, ap, ◌∙◌, subst, arith}
use Rattle.std.specs.Prelude.{slice_get}
use Rattle.std.specs.List.{Contains}
use Rattle.std.proofs.lemmas.Bool.{cases_eq}
use Rattle.std.proofs.lemmas.List.{get_or-set_same, get_or-set_other}
use Rattle.reg_model.specs.declared.marks.Happening.{Happening}
use Rattle.reg_model.specs.Marks.{Life}
use Rattle.reg_model.specs.Registers.{zero_registers}
use Rattle.fab_base.specs.Layouts.{Layout, Group, group_of}
use Rattle.transcript.specs.declared.claims.ParsedMark.{ParsedMark}
use Rattle.transcript.specs.declared.claims.StripeLine.{StripeLine}
use Rattle.audit.specs.declared.reviews.Review.{Review}
use Rattle.audit.specs.Walks.{Walk, has_happened, walked, GoOn, walked_along, walk_from}
use Rattle.audit.specs.Sweeps.{happened_along, lives_at, GoesIn, LineGoes, LinesGo, StopsAt, happened_in, none_happened}
use Rattle.audit.proofs.Lists.{same_some}
use Rattle.audit.proofs.WalkLemmas.{AreKnown, alive, length_set}

-- happenings name an operation
abbrev pub Names : List Happening → ℕ → Type 0
Names hs n = (i : ℕ) × (h : Happening) × (slice_get hs i ≡ Some h) × (h.operation ≡ n)

pub names_contains : (hs : List Happening) (n : ℕ) → Names hs n → Contains (map (λ h. h.operation) hs) n
names_contains [] n (i, h, is, same) = absurd (let never : None ≡ Some h = is in cc)
names_contains (x ∷ hs) n (zero, h, is, same) = (0, omega arith, ap (λ (y : Happening). y.operation) (same_some x h is) ∙ same)
names_contains (x ∷ hs) n (suc i, h, is, same) =
    let rest = names_contains hs n (i, h, is, same) in (suc rest.0, omega arith, rest.2)

pub contains_names : (hs : List Happening) (n : ℕ) → Contains (map (λ h. h.operation) hs) n → Names hs n
contains_names [] n (k, lt, is) = absurd (omega arith)
contains_names (x ∷ hs) n (zero, lt, is) = (0, x, refl, is)
contains_names (x ∷ hs) n (suc k, lt, is) = let rest = contains_names hs n (k, omega arith, is) in (suc rest.0, rest.1, rest.2, rest.3)

-- a mark stays
set_true : (flags : List Bool) (j i : ℕ) → get_or flags i false ≡ true → get_or (set flags j true) i false ≡ true
set_true [] j i is = is
set_true (b ∷ flags) zero zero is = refl
set_true (b ∷ flags) zero (suc i) is = is
set_true (b ∷ flags) (suc j) zero is = is
set_true (b ∷ flags) (suc j) (suc i) is = set_true flags j i is

pub along_stays : (flags : List Bool) (hs : List Happening) (n : ℕ) → has_happened flags n ≡ true → has_happened (happened_along flags hs) n ≡ true
along_stays flags [] n is = is
along_stays flags (h ∷ hs) n is = along_stays (set flags (h.operation - 1) true) hs n (set_true flags (h.operation - 1) (n - 1) is)

pub in_stays : (flags : List Bool) (lines : List StripeLine) (n : ℕ) → has_happened flags n ≡ true → has_happened (happened_in flags lines) n ≡ true
in_stays flags [] n is = is
in_stays flags (line ∷ lines) n is =
    in_stays (happened_along flags line.happenings) lines n (along_stays flags line.happenings n is)

pub length_along : (flags : List Bool) (hs : List Happening) → length (happened_along flags hs) ≡ length flags
length_along flags [] = refl
length_along flags (h ∷ hs) = length_along (set flags (h.operation - 1) true) hs ∙ length_set flags (h.operation - 1) true

-- what a walk leaves
pub walked_marks : (block : ℕ) (lives : ℕ → Option Life) (walk : Walk) (hs : List Happening)
    → (walked_along block lives walk hs).happened ≡ happened_along walk.happened hs
walked_marks block lives walk [] = refl
walked_marks block lives walk (h ∷ hs) = walked_marks block lives (walked block lives walk h) hs

-- an operation that has happened along happenings had happened before, or is named
pub marked_from : (block : ℕ) (lives : ℕ → Option Life) (walk : Walk) (hs : List Happening) (n : ℕ) → AreKnown lives (length walk.happened)
    → GoOn block lives walk hs → 0 < n → has_happened (happened_along walk.happened hs) n ≡ true → (has_happened walk.happened n ≡ true) ⊎ Names hs n
marked_from block lives walk [] n known goes one is = inl is
marked_from block lives walk (h ∷ hs) n known goes one is =
    let life = alive (lives h.operation) h.position goes.0.2 in
    let place = known.each h.operation life.0 life.1 in
    ⊎_elim
    (λ (before : has_happened (set walk.happened (h.operation - 1) true) n ≡ true).
    first n h place.0 one before (cases_eq n h.operation))
    (λ (named : Names hs n). inr (suc named.0, named.1, named.2, named.3))
    (marked_from block lives (walked block lives walk h) hs n
    (subst (λ (k : ℕ). AreKnown lives k) (sym (length_set walk.happened (h.operation - 1) true)) known) goes.1 one is)
  where
    first : (m : ℕ) (x : Happening) → 0 < x.operation → 0 < m → has_happened (set walk.happened (x.operation - 1) true) m ≡ true
        → (m ≡ x.operation) ⊎ (m ≢ x.operation) → (has_happened walk.happened m ≡ true) ⊎ Names (x ∷ hs) m
    first m x one two before (inl same) = inr (0, x, refl, sym same)
    first m x one two before (inr other) =
        inl (sym (get_or-set_other walk.happened (x.operation - 1) (m - 1) true false
        (λ e. other (let same : m - 1 ≡ x.operation - 1 = e in omega arith))) ∙ before)

-- what is named has happened
pub marked_named : (block : ℕ) (lives : ℕ → Option Life) (walk : Walk) (hs : List Happening) (n : ℕ) → AreKnown lives (length walk.happened)
    → GoOn block lives walk hs → Names hs n → has_happened (happened_along walk.happened hs) n ≡ true
marked_named block lives walk [] n known goes (i, h, is, same) = absurd (let never : None ≡ Some h = is in cc)
marked_named block lives walk (x ∷ hs) n known goes (zero, h, is, same) =
    let life = alive (lives x.operation) x.position goes.0.2 in
    let place = known.each x.operation life.0 life.1 in
    let which : x.operation ≡ n = ap (λ (y : Happening). y.operation) (same_some x h is) ∙ same in
    along_stays (set walk.happened (x.operation - 1) true) hs n
    (subst (λ (m : ℕ). has_happened (set walk.happened (x.operation - 1) true) m ≡ true) which
    (get_or-set_same walk.happened (x.operation - 1) true false place.1))
marked_named block lives walk (x ∷ hs) n known goes (suc i, h, is, same) =
    marked_named block lives (walked block lives walk x) hs n
    (subst (λ (k : ℕ). AreKnown lives k) (sym (length_set walk.happened (x.operation - 1) true)) known) goes.1 (i, h, is, same)

-- what is named is alive
pub named_alive : (block : ℕ) (lives : ℕ → Option Life) (walk : Walk) (hs : List Happening) (n : ℕ) → GoOn block lives walk hs → Names hs n
    → (life : Life) × (lives n ≡ Some life)
named_alive block lives walk [] n goes (i, h, is, same) = absurd (let never : None ≡ Some h = is in cc)
named_alive block lives walk (x ∷ hs) n goes (zero, h, is, same) =
    let life = alive (lives x.operation) x.position goes.0.2 in
    (life.0, ap lives (sym (ap (λ (y : Happening). y.operation) (same_some x h is) ∙ same)) ∙ life.1)
named_alive block lives walk (x ∷ hs) n goes (suc i, h, is, same) = named_alive block lives (walked block lives walk x) hs n goes.1 (i, h, is, same)

-- nothing has happened at first
pub none_yet : (count n : ℕ) → get_or (none_happened count) n false ≡ false
none_yet zero n = refl
none_yet (suc count) zero = refl
none_yet (suc count) (suc n) = none_yet count n

pub length_none : (count : ℕ) → length (none_happened count) ≡ count
length_none zero = refl
length_none (suc count) = let rest : length (none_happened count) ≡ count = length_none count in omega arith

-- a line that goes on, in its group
pub in_group : (given : Option Group) (block s : ℕ) (lives : ℕ → Option Life) (happened : List Bool) (hs : List Happening) → GoesIn given block lives happened s hs
    → (group : Group) × (given ≡ Some group) × (s < group.stripes) × GoOn block lives (walk_from happened (zero_registers group.m block)) hs
in_group None block s lives happened hs goes = absurd goes
in_group (Some group) block s lives happened hs goes = (group, refl, goes.0, goes.1)

module _ (layout : Layout) (claims : List ParsedMark) (review : Review) (places : ℕ) (known : (g s : ℕ) → AreKnown (lives_at claims review g s) places) where
  -- what is named on a line that goes on is alive in its stripe
  pub line_alive : (flags : List Bool) (line : StripeLine) (n : ℕ) → LineGoes layout claims review flags line → Names line.happenings n
      → (life : Life) × (lives_at claims review line.group line.stripe n ≡ Some life)
  line_alive flags line n goes named =
      let parts = in_group (group_of layout line.group) layout.block line.stripe (lives_at claims review line.group line.stripe) flags line.happenings goes in
      named_alive layout.block (lives_at claims review line.group line.stripe) (walk_from flags (zero_registers parts.0.m layout.block)) line.happenings n
      parts.3 named

  -- an operation that has happened along lines had happened before, or is named on one of them, which goes on
  pub lines_mark : (flags : List Bool) (lines : List StripeLine) (n : ℕ) → length flags ≡ places → LinesGo layout claims review flags lines → 0 < n
      → has_happened (happened_in flags lines) n ≡ true
      → (has_happened flags n ≡ true)
      ⊎ ((i : ℕ) × (line : StripeLine) × (slice_get lines i ≡ Some line) × Names line.happenings n
      × ((life : Life) × (lives_at claims review line.group line.stripe n ≡ Some life)))
  lines_mark flags [] n room goes one is = inl is
  lines_mark flags (line ∷ lines) n room goes one is =
      let parts = in_group (group_of layout line.group) layout.block line.stripe (lives_at claims review line.group line.stripe) flags line.happenings goes.0 in
      ⊎_elim
      (λ (before : has_happened (happened_along flags line.happenings) n ≡ true).
      ⊎_elim (λ (old : has_happened flags n ≡ true). inl old)
      (λ (named : Names line.happenings n). inr (0, line, refl, named, line_alive flags line n goes.0 named))
      (marked_from layout.block (lives_at claims review line.group line.stripe) (walk_from flags (zero_registers parts.0.m layout.block)) line.happenings n
      (subst (λ (k : ℕ). AreKnown (lives_at claims review line.group line.stripe) k) (sym room) (known line.group line.stripe)) parts.3 one before))
      (λ (rest : (i : ℕ) × (found : StripeLine) × (slice_get lines i ≡ Some found) × Names found.happenings n
      × ((life : Life) × (lives_at claims review found.group found.stripe n ≡ Some life))). inr (suc rest.0, rest.1, rest.2, rest.3, rest.4))
      (lines_mark (happened_along flags line.happenings) lines n (length_along flags line.happenings ∙ room) goes.1 one is)

  -- what is named on a line that goes on has happened along the lines
  pub lines_named : (flags : List Bool) (lines : List StripeLine) (i : ℕ) (line : StripeLine) (n : ℕ) → length flags ≡ places
      → LinesGo layout claims review flags lines → slice_get lines i ≡ Some line → Names line.happenings n → has_happened (happened_in flags lines) n ≡ true
  lines_named flags [] i line n room goes is named = absurd (let never : None ≡ Some line = is in cc)
  lines_named flags (x ∷ lines) zero line n room goes is named =
      let parts = in_group (group_of layout x.group) layout.block x.stripe (lives_at claims review x.group x.stripe) flags x.happenings goes.0 in
      in_stays (happened_along flags x.happenings) lines n
      (marked_named layout.block (lives_at claims review x.group x.stripe) (walk_from flags (zero_registers parts.0.m layout.block)) x.happenings n
      (subst (λ (k : ℕ). AreKnown (lives_at claims review x.group x.stripe) k) (sym room) (known x.group x.stripe)) parts.3
      (subst (λ (l : StripeLine). Names l.happenings n) (sym (same_some x line is)) named))
  lines_named flags (x ∷ lines) (suc i) line n room goes is named =
      lines_named (happened_along flags x.happenings) lines i line n (length_along flags x.happenings ∙ room) goes.1 is named

  -- each line that went on did so after those before it
  pub goes_at : (flags : List Bool) (lines : List StripeLine) (i : ℕ) (line : StripeLine) → LinesGo layout claims review flags lines
      → slice_get lines i ≡ Some line → LineGoes layout claims review (happened_in flags (take i lines)) line
  goes_at flags [] i line goes is = absurd (let never : None ≡ Some line = is in cc)
  goes_at flags (x ∷ lines) zero line goes is = subst (λ (l : StripeLine). LineGoes layout claims review flags l) (same_some x line is) goes.0
  goes_at flags (x ∷ lines) (suc i) line goes is = goes_at (happened_along flags x.happenings) lines i line goes.1 is

  -- the lines before the first that does not go on go on
  pub stops_parts : (flags : List Bool) (lines : List StripeLine) (k : ℕ) → StopsAt layout claims review flags lines k
      → LinesGo layout claims review flags (take k lines)
      × ((line : StripeLine) × (slice_get lines k ≡ Some line) × (LineGoes layout claims review (happened_in flags (take k lines)) line → ⊥))
  stops_parts flags [] k stops = absurd stops
  stops_parts flags (x ∷ lines) zero stops = (tt, (x, refl, stops))
  stops_parts flags (x ∷ lines) (suc k) stops =
      let rest = stops_parts (happened_along flags x.happenings) lines k stops.1 in ((stops.0, rest.0), rest.1)
