-- What stands under the keys of slots, when one of them is changed.
use Rattle.std.proofs.Common.{◌≡◌, ℕ, zero, suc, ◌+◌, ◌<◌, ◌≤◌, Bool, true, false, cond, List, [], ◌∷◌, ◌++◌, Option, Some, None, IsSome, IsNone, length, slice_index_or, slice_set, ap, sym, ◌∙◌, subst, arith, refl, position, inl, inr, nat_eq}
use Rattle.std.proofs.lemmas.Bool.{cases_Bool}
use Rattle.std.proofs.lemmas.Grind.{common_steps}
use Rattle.std.proofs.lemmas.List.Quantifiers.{position-Some}
use Rattle.std.proofs.Math.Path.{fun_ext}
use Rattle.std.specs.List.{position_or_len}
use Rattle.std.specs.Str.{bytes_eq}
use Rattle.std.proofs.lemmas.Slice.Eq.{bytes_eq-Decides}
use Rattle.std.specs.Cmp.{unsigned_Decides}
use Rattle.fab_host.specs.declared.slots.Slot.{Slot}
use Rattle.fab_host.specs.Held.{Held, absent, lent, here, at_key, IsMissing, IsKnown}
use Rattle.fab_host.specs.Slots.{held_in, under, TakesOut}

-- a test that tells equal keys
abbrev pub IsExact : {K : Type 0} → (K → K → Bool) → Type 0
IsExact {K} same = (a b : K) → same a b ≡ true → a ≡ b

-- what stands under a key is in the first slot that has it
under_here : {K T : Type 0} (same : K → K → Bool) (slots : List (Slot K T)) (key : K) (i : ℕ) (d : Slot K T) → i < length slots
    → same (slice_index_or slots i d).key key ≡ true
    → ((k : ℕ) → k < i → same (slice_index_or slots k d).key key ≡ false)
    → under same slots key ≡ held_in (slice_index_or slots i d).thing
under_here same [] key i d within hit miss = absurd (omega (arith, within))
under_here same (s ∷ ss) key zero d within hit miss = rw hit refl
under_here same (s ∷ ss) key (suc i) d within hit miss =
    rw (miss 0 (omega arith)) (under_here same ss key i d (omega (arith, within)) hit (λ k below. miss (suc k) (omega (arith, below))))

-- a thing is under its key
pub under_at : {K T : Type 0} (same : K → K → Bool) (slots : List (Slot K T)) (key : K) (i : ℕ) (d : Slot K T)
    → position (λ (slot : Slot K T). same slot.key key) slots ≡ Some i
    → under same slots key ≡ held_in (slice_index_or slots i d).thing
under_at same slots key i d at =
    let first = position-Some (λ (slot : Slot _ _). same slot.key key) slots i d at in
    under_here same slots key i d first.0 first.1 first.2

-- nothing stands under a key that no slot has, by the place at which it was looked for
under_nowhere : {K T : Type 0} (same : K → K → Bool) (slots : List (Slot K T)) (key : K)
    → length slots ≤ position_or_len (λ (slot : Slot K T). same slot.key key) slots
    → under same slots key ≡ absent
under_nowhere same [] key past = refl
under_nowhere {K} {T} same (s ∷ ss) key past =
    elim (cases_Bool (same s.key key)) [
      | inl hit ↦
          let at : position_or_len (λ (slot : Slot K T). same slot.key key) (s ∷ ss) ≡ 0 = rw hit refl in absurd (omega (arith, past, at))
      | inr miss ↦
          let at : position_or_len (λ (slot : Slot K T). same slot.key key) (s ∷ ss) ≡ 1 + position_or_len (λ (slot : Slot K T). same slot.key key) ss = rw miss refl in
          rw miss (under_nowhere same ss key (omega (arith, past, at)))
    ]

-- no slot has this key
pub under_none : {K T : Type 0} (same : K → K → Bool) (slots : List (Slot K T)) (key : K)
    → position (λ (slot : Slot K T). same slot.key key) slots ≡ None
    → under same slots key ≡ absent
under_none {K} {T} same slots key at =
    let past : length slots ≤ position_or_len (λ (slot : Slot K T). same slot.key key) slots = grind (arith, common_steps) in
    under_nowhere same slots key past

-- a key that is the same as one is not the same as another
apart : {K : Type 0} (same : K → K → Bool) (exact : IsExact same) (a b other : K) → same a b ≡ false → same a other ≡ true → same b other ≡ false
apart same exact a b other miss own =
    elim (cases_Bool (same b other)) [
      | inl yours ↦ absurd (let hit : same a b ≡ true = subst (λ k. same a k ≡ true) (sym (exact b other yours)) own in cc (hit, miss))
      | inr far ↦ far
    ]

-- what stands under each key where a slot that was found holds another thing
under_changed : {K T : Type 0} (same : K → K → Bool) (exact : IsExact same) (slots : List (Slot K T)) (key : K) (i : ℕ) (d : Slot K T) (thing : Option T)
    (other : K) → i < length slots
    → same (slice_index_or slots i d).key key ≡ true
    → ((k : ℕ) → k < i → same (slice_index_or slots k d).key key ≡ false)
    → under same (slice_set slots i (record { key = (slice_index_or slots i d).key; thing = thing })) other ≡ at_key same (under same slots) key (held_in thing) other
under_changed same exact [] key i d thing other within hit miss = absurd (omega (arith, within))
under_changed same exact (s ∷ ss) key zero d thing other within hit miss =
    let is : s.key ≡ key = exact s.key key hit in
    elim (cases_Bool (same key other)) [
      | inl yours ↦ let own : same s.key other ≡ true = subst (λ k. same k other ≡ true) (sym is) yours in rw yours (rw own refl)
      | inr other's ↦ let own : same s.key other ≡ false = subst (λ k. same k other ≡ false) (sym is) other's in rw other's (rw own refl)
    ]
under_changed same exact (s ∷ ss) key (suc i) d thing other within hit miss =
    elim (cases_Bool (same s.key other)) [
      | inl own ↦ rw (apart same exact s.key key other (miss 0 (omega arith)) own) (rw own refl)
      | inr far ↦
          rw far (under_changed same exact ss key i d thing other (omega (arith, within)) hit (λ k below. miss (suc k) (omega (arith, below))))
    ]

-- what is in a slot that was found becomes this
pub under_put : {K T : Type 0} (same : K → K → Bool) (exact : IsExact same) (slots : List (Slot K T)) (key : K) (i : ℕ) (d : Slot K T) (thing : Option T)
    → position (λ (slot : Slot K T). same slot.key key) slots ≡ Some i
    → under same (slice_set slots i (record { key = (slice_index_or slots i d).key; thing = thing })) ≡ at_key same (under same slots) key (held_in thing)
under_put {K} {T} same exact slots key i d thing at =
    let first = position-Some (λ (slot : Slot K T). same slot.key key) slots i d at in
    fun_ext (λ other. under_changed same exact slots key i d thing other first.0 first.1 first.2)

-- a slot is never absent
held_in_known : {T : Type 0} (thing : Option T) → held_in thing ≡ absent → ⊥
held_in_known None e = cc
held_in_known (Some x) e = cc

-- what stands under each key where a slot is added
under_more : {K T : Type 0} (same : K → K → Bool) (exact : IsExact same) (slots : List (Slot K T)) (s : Slot K T) (other : K)
    → under same slots s.key ≡ absent
    → under same (slots ++ s ∷ []) other ≡ at_key same (under same slots) s.key (held_in s.thing) other
under_more same exact [] s other none = refl
under_more {K} {T} same exact (x ∷ xs) s other none =
    elim (cases_Bool (same x.key s.key)) [
      | inl hit ↦ absurd (held_in_known x.thing (let h : cond (same x.key s.key) (held_in x.thing) (under same xs s.key) ≡ held_in x.thing = rw hit refl in sym h ∙ none))
      | inr miss ↦
          let h : cond (same x.key s.key) (held_in x.thing) (under same xs s.key) ≡ under same xs s.key = rw miss refl in
          let rest : under same xs s.key ≡ absent = sym h ∙ none in
          elim (cases_Bool (same x.key other)) [
            | inl own ↦ rw (apart same exact x.key s.key other miss own) (rw own refl)
            | inr far ↦ rw far (under_more same exact xs s other rest)
          ]
    ]

-- a slot is added for a key that none had
pub under_push : {K T : Type 0} (same : K → K → Bool) (exact : IsExact same) (slots : List (Slot K T)) (s : Slot K T)
    → under same slots s.key ≡ absent
    → under same (slots ++ s ∷ []) ≡ at_key same (under same slots) s.key (held_in s.thing)
under_push same exact slots s none = fun_ext (λ other. under_more same exact slots s other none)

-- what was put where it stood already changes nothing
pub at_key-same : {K T : Type 0} (same : K → K → Bool) (exact : IsExact same) (held : K → Held T) (key : K) (now : Held T) → held key ≡ now
    → at_key same held key now ≡ held
at_key-same same exact held key now is =
    fun_ext (λ other.
    elim (cases_Bool (same key other)) [
      | inl yours ↦ rw yours (sym is ∙ ap held (exact key other yours))
      | inr far ↦ rw far refl
    ])

-- a slot that was found is emptied
pub TakesOut-at : {K T : Type 0} (same : K → K → Bool) (exact : IsExact same) (slots : List (Slot K T)) (key : K) (i : ℕ) (d : Slot K T) (r left : Option T)
    → position (λ (slot : Slot K T). same slot.key key) slots ≡ Some i
    → r ≡ (slice_index_or slots i d).thing
    → left ≡ None
    → TakesOut same (under same slots) (under same (slice_set slots i (record { key = (slice_index_or slots i d).key; thing = left }))) key r
TakesOut-at {K} {T} same exact slots key i d None left at is gone =
    let empty : under same slots key ≡ lent = under_at same slots key i d at ∙ ap held_in (sym is) in (
      subst IsMissing (sym empty) tt,
      under_put same exact slots key i d left at ∙ ap (λ t. at_key same (under same slots) key (held_in t)) gone
          ∙ at_key-same same exact (under same slots) key lent empty,
    )
TakesOut-at {K} {T} same exact slots key i d (Some thing) left at is gone = (
  under_at same slots key i d at ∙ ap held_in (sym is),
  under_put same exact slots key i d left at ∙ ap (λ t. at_key same (under same slots) key (held_in t)) gone,
)

-- there is no slot to be emptied
pub TakesOut-none : {K T : Type 0} (same : K → K → Bool) (slots : List (Slot K T)) (key : K)
    → position (λ (slot : Slot K T). same slot.key key) slots ≡ None
    → IsMissing (under same slots key) × (under same slots ≡ under same slots)
TakesOut-none same slots key at = (subst IsMissing (sym (under_none same slots key at)) tt, refl)

-- a key that is known has a slot
pub IsKnown-found : {K T : Type 0} (same : K → K → Bool) (slots : List (Slot K T)) (key : K) → IsKnown (under same slots key)
    → position (λ (slot : Slot K T). same slot.key key) slots ≡ None
    → ⊥
IsKnown-found same slots key known at = subst IsKnown (under_none same slots key at) known

-- names are told apart
pub names_exact : IsExact bytes_eq
names_exact a b e = (bytes_eq-Decides a b).0 e

-- and ports
pub ports_exact : IsExact nat_eq
ports_exact a b e = (unsigned_Decides a b).0 e

-- what a look finds in a slot
pub here-at : {K T : Type 0} (same : K → K → Bool) (slots : List (Slot K T)) (key : K) (i : ℕ) (d : Slot K T) (thing : T)
    → position (λ (slot : Slot K T). same slot.key key) slots ≡ Some i
    → (slice_index_or slots i d).thing ≡ Some thing
    → under same slots key ≡ here thing
here-at same slots key i d thing at is = under_at same slots key i d at ∙ ap held_in is

-- and that nothing is in one
pub lent-at : {K T : Type 0} (same : K → K → Bool) (slots : List (Slot K T)) (key : K) (i : ℕ) (d : Slot K T)
    → position (λ (slot : Slot K T). same slot.key key) slots ≡ Some i
    → (slice_index_or slots i d).thing ≡ None
    → IsMissing (under same slots key)
lent-at same slots key i d at is = subst IsMissing (sym (under_at same slots key i d at ∙ ap held_in is)) tt

-- and that there is none
pub missing-none : {K T : Type 0} (same : K → K → Bool) (slots : List (Slot K T)) (key : K)
    → position (λ (slot : Slot K T). same slot.key key) slots ≡ None
    → IsMissing (under same slots key)
missing-none same slots key at = subst IsMissing (sym (under_none same slots key at)) tt

-- a slot is known
held_in-IsKnown : {T : Type 0} (thing : Option T) → IsKnown (held_in thing)
held_in-IsKnown None = tt
held_in-IsKnown (Some x) = tt

-- a key for which a slot was found is known
pub known_where_found : {K T : Type 0} (same : K → K → Bool) (slots : List (Slot K T)) (key : K) (r : Option ℕ)
    → r ≡ position (λ (slot : Slot K T). same slot.key key) slots
    → IsSome r
    → IsKnown (under same slots key)
known_where_found same [] key (Some i) at some = cc
known_where_found same (s ∷ ss) key (Some i) at some =
    subst IsKnown (sym (under_at same (s ∷ ss) key i s (sym at))) (held_in-IsKnown (slice_index_or (s ∷ ss) i s).thing)
known_where_found same slots key None at some = cc

-- and absent where none was found
pub absent_where_not : {K T : Type 0} (same : K → K → Bool) (slots : List (Slot K T)) (key : K) (r : Option ℕ)
    → r ≡ position (λ (slot : Slot K T). same slot.key key) slots
    → IsNone r
    → under same slots key ≡ absent
absent_where_not same slots key (Some i) at none = cc
absent_where_not same slots key None at none = under_none same slots key (sym at)

-- the same, where the slot that was found is known by itself
pub under_replaced : {K T : Type 0} (same : K → K → Bool) (exact : IsExact same) (slots : List (Slot K T)) (key : K) (i : ℕ) (old : Slot K T) (thing : Option T)
    → position (λ (slot : Slot K T). same slot.key key) slots ≡ Some i
    → old ≡ slice_index_or slots i old
    → under same (slice_set slots i (record { key = old.key; thing = thing })) ≡ at_key same (under same slots) key (held_in thing)
under_replaced {K} {T} same exact slots key i old thing at from =
    subst (λ (z : Slot K T). under same (slice_set slots i (record { key = z.key; thing = thing })) ≡ at_key same (under same slots) key (held_in thing))
    (sym from) (under_put same exact slots key i old thing at)

-- and one that is known by itself is emptied
pub TakesOut-replaced : {K T : Type 0} (same : K → K → Bool) (exact : IsExact same) (slots : List (Slot K T)) (key : K) (i : ℕ) (old : Slot K T) (r left : Option T)
    → position (λ (slot : Slot K T). same slot.key key) slots ≡ Some i
    → old ≡ slice_index_or slots i old
    → r ≡ old.thing
    → left ≡ None
    → TakesOut same (under same slots) (under same (slice_set slots i (record { key = old.key; thing = left }))) key r
TakesOut-replaced {K} {T} same exact slots key i old r left at from is gone =
    subst (λ (z : Slot K T). TakesOut same (under same slots) (under same (slice_set slots i (record { key = z.key; thing = left }))) key r)
    (sym from) (TakesOut-at same exact slots key i old r left at (is ∙ ap (λ (z : Slot K T). z.thing) from) gone)
