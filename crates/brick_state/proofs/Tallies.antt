-- What is counted of the stripes, after each change of them.
use Rattle.std.proofs.Common.{◌≡◌, ◌≢◌, ℕ, zero, suc, ◌+◌, ◌-◌, ◌<◌, ◌≤◌, Bool, true, false, not, ◌&&◌, cond, eqb, leb, List, [], ◌∷◌, ◌++◌, length, get_or, set, map, refl, sym, ap, subst, ◌∙◌, ◌⊎◌, inl, inr, ⊎_elim, Option, Some, None, Bor, arith}
use Rattle.std.specs.List.{AllByRecursion, Contains, count_by, sum_by, filter}
use Rattle.std.specs.List.Sorted.{IsStrictlySortedBy}
use Rattle.std.specs.Map.{keys_of, values_of, lookup, remove_entry}
use Rattle.std.specs.BTreeMap.{is_at}
use Rattle.std.specs.Option.{IfSome}
use Rattle.std.proofs.lemmas.Bool.{cases_eq, cases_lt, eqb-true, eq-eqb, leb-false}
use Rattle.std.proofs.lemmas.Option.{same_Some, none-some}
use Rattle.std.proofs.lemmas.List.{get_or-set_same, get_or-set_other, length-set, length_push}
use Rattle.std.proofs.Math.ListN.{get_or-eq_default}
use Rattle.std.proofs.lemmas.List.Sums.{sum_by-cons, sum_by-append, count_by-le-length}
use Rattle.std.proofs.lemmas.List.Filters.{sum_by-filter_both}
use Rattle.brick_state.specs.Entries.{Entry}
use Rattle.brick_state.specs.States.{Place, StripeOf, place_cmp, first_stripe, stripe_in, stamp_of, put, weight, live_in, with_added, with_bottom, with_order, with_collected, newest_entry}
use Rattle.brick_state.specs.Maps.{ViewKey, view_cmp, flat, listed}
use Rattle.brick_state.specs.declared.view_tables.ViewTable.{ViewTable}
use Rattle.brick_state.specs.ViewStripes.{live_of}
use Rattle.fab_base.specs.declared.stamps.Stamp.{Stamp}
use Rattle.fab_base.specs.Stamps.{stamp_below, stamp_same, first_stamp}
use Rattle.brick_state.proofs.StripeMaps.{weight_none}
use Rattle.brick_state.proofs.ViewMaps.{sum-removed}
use Rattle.brick_state.specs.Slots.{slot_of, slots_in, IsFree}
use Rattle.brick_state.specs.SlotTrees.{IsLeastUnused}
use Rattle.brick_state.specs.Tallies.{names_of, names_in, AreNames, NoneBeyond, HasSlotRoom, order_weight}
use Rattle.brick_state.specs.Rewrites.{start_of}
use Rattle.brick_state.proofs.SoundStripes.{newest_of, newest_entry_is}
use Rattle.brick_state.proofs.FreeSlots.{any_free, slots_few}
use Rattle.brick_state.proofs.Preserving.{sum-put, live-put}

abbrev Stripes : Type 0
Stripes = List (Place × StripeOf Entry)

-- ---- one slot in lists of versions

names-cons : (slot : ℕ) (e : Entry) (es : List Entry) → names_of slot (e ∷ es) ≡ cond (eqb e.block slot) 1 0 + names_of slot es
names-cons slot e es = sum_by-cons (λ (v : Entry). cond (eqb v.block slot) 1 0) e es

names-append : (slot : ℕ) (xs ys : List Entry) → names_of slot (xs ++ ys) ≡ names_of slot xs + names_of slot ys
names-append slot xs ys = sum_by-append (λ (v : Entry). cond (eqb v.block slot) 1 0) xs ys

-- the stripe without its versions
abbrev with_bottom_none : StripeOf Entry → StripeOf Entry
with_bottom_none s = record { order = s.order; from_start = s.from_start; added = [] }

-- ---- the slots that are named

abbrev named : ℕ → List ℕ → ℕ
named slot xs = count_by (λ other. eqb other slot) xs

named-map : (slot : ℕ) (es : List Entry) → named slot (map slot_of es) ≡ names_of slot es
named-map slot [] = refl
named-map slot (e ∷ es) = omega (
  arith,
  named-map slot es,
  names-cons slot e es,
  sum_by-cons (λ (other : ℕ). cond (eqb other slot) 1 0) e.block (map slot_of es),
)

names-slots : (slot : ℕ) (stripes : Stripes) → names_in slot stripes ≡ named slot (slots_in stripes)
unfolding slots_in
names-slots slot [] = refl
names-slots slot (e ∷ stripes) = omega (
  arith,
  names-slots slot stripes,
  named-map slot e.1.added,
  sum_by-cons (λ (s : StripeOf Entry). names_of slot s.added) e.1 (values_of stripes),
  sum_by-append (λ (other : ℕ). cond (eqb other slot) 1 0) (map slot_of e.1.added) (slots_in stripes),
)

differs : (a b : ℕ) → a ≢ b → eqb a b ≡ false
differs a b other = by (eqb a b) refl
  where
    by : (t : Bool) → eqb a b ≡ t → t ≡ false
    by false at = refl
    by true at = absurd (other (eqb-true a b at))

-- none of the slots is this one
none_named : (slot : ℕ) (xs : List ℕ) → AllByRecursion (λ other. other ≢ slot) xs → named slot xs ≡ 0
none_named slot [] all = refl
none_named slot (x ∷ xs) all = omega (
  arith,
  none_named slot xs all.1,
  ap {B = ℕ} (λ (b : Bool). cond b 1 0) (differs x slot all.0),
  sum_by-cons (λ (other : ℕ). cond (eqb other slot) 1 0) x xs,
)

not_named : (slot : ℕ) (xs : List ℕ) → named slot xs ≡ 0 → AllByRecursion (λ other. other ≢ slot) xs
not_named slot [] none = tt
not_named slot (x ∷ xs) none = (other, not_named slot xs (omega (arith, none, step)))
  where
    step : named slot (x ∷ xs) ≡ cond (eqb x slot) 1 0 + named slot xs
    step = sum_by-cons (λ (y : ℕ). cond (eqb y slot) 1 0) x xs

    other : x ≡ slot → ⊥
    other is = omega (arith, none, step, ap {B = ℕ} (λ (b : Bool). cond b 1 0) (eq-eqb x slot is))

contains_not : (slot : ℕ) (xs : List ℕ) → AllByRecursion (λ other. other ≢ slot) xs → Contains xs slot → ⊥
contains_not slot [] all (k, lt, e) = absurd (omega (arith, lt))
contains_not slot (x ∷ xs) all (zero, lt, e) = all.0 e
contains_not slot (x ∷ xs) all (suc k, lt, e) = contains_not slot xs all.1 (k, omega (arith, lt), e)

-- a count past the end is 0
count_past : (counts : List ℕ) (slot : ℕ) → length counts ≤ slot → get_or counts slot 0 ≡ 0
count_past counts slot past = get_or-eq_default counts 0 {n = slot} past

-- each slot's count, past the end too
counted_at : (slots : ℕ) (stripes : Stripes) (counts : List ℕ) → AreNames stripes counts → NoneBeyond slots stripes counts
    → (slot : ℕ) → slot < slots → get_or counts slot 0 ≡ names_in slot stripes
counted_at slots stripes counts are beyond slot is_slot = ⊎_elim (λ within. are slot within)
    (λ past. count_past counts slot past ∙ sym (beyond slot past is_slot)) (cases_lt slot (length counts))

-- the least slot whose count is 0 is the least that no version names
pub least_free : (slots : ℕ) (stripes : Stripes) (counts : List ℕ) (slot : ℕ) → AreNames stripes counts → NoneBeyond slots stripes counts
    → live_in stripes < slots → IsLeastUnused counts slot → IsFree slots (slots_in stripes) slot
least_free slots stripes counts slot are beyond few is =
    let some = any_free slots (slots_in stripes) (omega (arith, few, slots_few stripes)) in
    found some.0 some.1
  where
    found : (i : ℕ) → IsFree slots (slots_in stripes) i → IsFree slots (slots_in stripes) slot
    found i free =
        let unused : get_or counts i 0 ≡ 0 = counted_at slots stripes counts are beyond i free.is_slot ∙ names-slots i stripes
        ∙ none_named i (slots_in stripes) free.unused in
        let lower : slot ≤ i = is.least i unused in
        let here : slot < slots = omega (arith, lower, free.is_slot) in
        let none = not_named slot (slots_in stripes)
        (sym (names-slots slot stripes) ∙ sym (counted_at slots stripes counts are beyond slot here) ∙ is.unused) in
        ⊎_elim (λ below. absurd (contains_not slot (slots_in stripes) none (free.least slot below)))
        (λ past. subst (λ (s : ℕ). IsFree slots (slots_in stripes) s) (omega (arith, past, lower)) free)
        (cases_lt slot i)

-- the counts of a longer table
pub names-grown : (slots : ℕ) (stripes : Stripes) (counts grown : List ℕ) → AreNames stripes counts → NoneBeyond slots stripes counts
    → ((slot : ℕ) → get_or grown slot 0 ≡ get_or counts slot 0) → length grown ≤ slots → AreNames stripes grown
names-grown slots stripes counts grown are beyond same most slot within =
    same slot ∙ counted_at slots stripes counts are beyond slot (omega (arith, within, most))

pub beyond-grown : (slots : ℕ) (stripes : Stripes) (counts grown : List ℕ) → NoneBeyond slots stripes counts → length counts ≤ length grown
    → NoneBeyond slots stripes grown
beyond-grown slots stripes counts grown beyond longer slot past is_slot = beyond slot (omega (arith, past, longer)) is_slot

-- ---- changes of a stripe

names_none : (slot : ℕ) (p : Place) → names_of slot (first_stripe {E = Entry} p).added ≡ 0
names_none slot p = refl

-- a stripe has no more than all of them
pub live_within : (stripes : Stripes) (p : Place) → IsStrictlySortedBy place_cmp (keys_of stripes) → weight (stripe_in stripes p) ≤ live_in stripes
live_within stripes p sorted = omega (arith, live-put p (first_stripe p) stripes sorted, weight_none p)

names_within : (slot : ℕ) (stripes : Stripes) (p : Place) → IsStrictlySortedBy place_cmp (keys_of stripes)
    → names_of slot (stripe_in stripes p).added ≤ names_in slot stripes
names_within slot stripes p sorted = omega (
  arith,
  sum-put (λ s. names_of slot s.added) (names_none slot) p (first_stripe p) stripes sorted,
  names_none slot p,
)

-- the counts after a stripe was put in place
pub names-put : (stripes : Stripes) (counts counts' : List ℕ) (p : Place) (s : StripeOf Entry) → IsStrictlySortedBy place_cmp (keys_of stripes)
    → AreNames stripes counts → length counts' ≡ length counts
    → ((slot : ℕ) → slot < length counts → names_of slot (stripe_in stripes p).added ≤ get_or counts slot 0
    → get_or counts' slot 0 + names_of slot (stripe_in stripes p).added ≡ get_or counts slot 0 + names_of slot s.added)
    → AreNames (put p s stripes) counts'
names-put stripes counts counts' p s sorted are size counted slot within =
    let old : slot < length counts = omega (arith, within, size) in
    let few : names_of slot (stripe_in stripes p).added ≤ get_or counts slot 0 = omega (arith, are slot old, names_within slot stripes p sorted) in
    omega (arith, counted slot old few, are slot old, sum-put (λ t. names_of slot t.added) (names_none slot) p s stripes sorted)

-- past the counts too, where the stripe that was put in place names no more slots there than the one before
pub beyond-put : (slots : ℕ) (stripes : Stripes) (counts counts' : List ℕ) (p : Place) (s : StripeOf Entry) → IsStrictlySortedBy place_cmp (keys_of stripes)
    → NoneBeyond slots stripes counts → length counts' ≡ length counts
    → ((slot : ℕ) → length counts ≤ slot → slot < slots → names_of slot s.added ≤ names_of slot (stripe_in stripes p).added)
    → NoneBeyond slots (put p s stripes) counts'
beyond-put slots stripes counts counts' p s sorted beyond size fewer slot past is_slot =
    let old : length counts ≤ slot = omega (arith, past, size) in
    omega (arith, beyond slot old is_slot, fewer slot old is_slot, sum-put (λ t. names_of slot t.added) (names_none slot) p s stripes sorted)

-- a version whose slot has a count names none past the counts
other_named : (slots : ℕ) (counts : List ℕ) (e : Entry) (slot : ℕ) → HasSlotRoom slots counts e.block → length counts ≤ slot → slot < slots
    → names_of slot (e ∷ []) ≡ 0
other_named slots counts e slot room past is_slot = omega (
  arith,
  names-cons slot e [],
  ap {B = ℕ} (λ (b : Bool). cond b 1 0)
      (differs e.block slot (λ is. omega (arith, past, room (subst (λ (n : ℕ). n < slots) (sym is) is_slot), is))),
)

pub beyond-added : (slots : ℕ) (stripes : Stripes) (counts counts' : List ℕ) (p : Place) (e : Entry) → IsStrictlySortedBy place_cmp (keys_of stripes)
    → NoneBeyond slots stripes counts → length counts' ≡ length counts → HasSlotRoom slots counts e.block
    → NoneBeyond slots (put p (with_added e (stripe_in stripes p)) stripes) counts'
beyond-added slots stripes counts counts' p e sorted beyond size room =
    beyond-put slots stripes counts counts' p (with_added e (stripe_in stripes p)) sorted beyond size
    (λ slot past is_slot. omega (arith, names-append slot (stripe_in stripes p).added (e ∷ []), other_named slots counts e slot room past is_slot))

pub beyond-bottom : (slots : ℕ) (stripes : Stripes) (counts counts' : List ℕ) (p : Place) (e : Entry) → IsStrictlySortedBy place_cmp (keys_of stripes)
    → NoneBeyond slots stripes counts → length counts' ≡ length counts → HasSlotRoom slots counts e.block
    → NoneBeyond slots (put p (with_bottom e (stripe_in stripes p)) stripes) counts'
beyond-bottom slots stripes counts counts' p e sorted beyond size room =
    beyond-put slots stripes counts counts' p (with_bottom e (stripe_in stripes p)) sorted beyond size
    (λ slot past is_slot. omega (arith, other_named slots counts e slot room past is_slot))

-- the newest version's slot has a count
newest_one : (slots : ℕ) (stripes : Stripes) (counts : List ℕ) (p : Place) (e : Entry) → slots ≤ 4294967295
    → IsStrictlySortedBy place_cmp (keys_of stripes) → NoneBeyond slots stripes counts → Some e ≡ newest_entry (stripe_in stripes p)
    → HasSlotRoom slots counts e.block
newest_one slots stripes counts p e few sorted beyond at is_slot = ⊎_elim (λ within. within)
    (λ past. absurd (omega (arith, named_once, names_within e.block stripes p sorted, beyond e.block past is_slot)))
    (cases_lt e.block (length counts))
  where
    named_or : (under : Option Entry) (added : List Entry) → newest_of under added ≡ Some e → (under ≡ Some e) ⊎ (1 ≤ names_of e.block added)
    named_or under [] h = inl h
    named_or under (x ∷ added) h = ⊎_elim
        (λ same. inr (omega (
          arith,
          names-cons e.block x added,
          ap {B = ℕ} (λ (b : Bool). cond b 1 0)
              (eq-eqb x.block e.block (ap (λ (v : Entry). v.block) (same_Some _ _ same))),
        )))
        (λ more. inr (omega (arith, more, names-cons e.block x added)))
        (named_or (Some x) added h)

    not_start : (from : Bool) → start_of from ≡ Some e → ⊥
    not_start true h = omega (arith, few, is_slot, ap (λ (v : Entry). v.block) (same_Some _ _ h))
    not_start false h = none-some e h

    named_once : 1 ≤ names_of e.block (stripe_in stripes p).added
    named_once = ⊎_elim (λ start. absurd (not_start (stripe_in stripes p).from_start start)) (λ more. more)
        (named_or (start_of (stripe_in stripes p).from_start) (stripe_in stripes p).added (sym (newest_entry_is (stripe_in stripes p)) ∙ sym at))

pub newest_counted : (slots : ℕ) (stripes : Stripes) (counts : List ℕ) (p : Place) → slots ≤ 4294967295
    → IsStrictlySortedBy place_cmp (keys_of stripes) → NoneBeyond slots stripes counts → (found : Option Entry)
    → found ≡ newest_entry (stripe_in stripes p) → IfSome found (λ e. HasSlotRoom slots counts e.block)
newest_counted slots stripes counts p few sorted beyond None at = tt
newest_counted slots stripes counts p few sorted beyond (Some e) at = newest_one slots stripes counts p e few sorted beyond at

-- the count of a slot after a version more
pub count_more : (counts : List ℕ) (e : Entry) (slot : ℕ) → slot < length counts
    → get_or (set counts e.block (get_or counts e.block 0 + 1)) slot 0 ≡ get_or counts slot 0 + names_of slot (e ∷ [])
count_more counts e slot within = ⊎_elim same other (cases_eq slot e.block)
  where
    one : names_of slot (e ∷ []) ≡ cond (eqb e.block slot) 1 0 + 0
    one = names-cons slot e []

    same : slot ≡ e.block → get_or (set counts e.block (get_or counts e.block 0 + 1)) slot 0 ≡ get_or counts slot 0 + names_of slot (e ∷ [])
    same is = omega (
      arith,
      one,
      ap {B = ℕ} (λ (b : Bool). cond b 1 0) (eq-eqb e.block slot (sym is)),
      subst (λ (n : ℕ). get_or (set counts e.block (get_or counts e.block 0 + 1)) n 0 ≡ get_or counts n 0 + 1) (sym is)
          (get_or-set_same counts e.block (get_or counts e.block 0 + 1) 0 (omega (arith, within, is))),
    )

    other : slot ≢ e.block → get_or (set counts e.block (get_or counts e.block 0 + 1)) slot 0 ≡ get_or counts slot 0 + names_of slot (e ∷ [])
    other is = omega (
      arith,
      one,
      ap {B = ℕ} (λ (b : Bool). cond b 1 0) (differs e.block slot (λ (h : e.block ≡ slot). is (sym h))),
      get_or-set_other counts e.block slot (get_or counts e.block 0 + 1) 0 is,
    )

-- and after one less
pub count_less : (counts : List ℕ) (e : Entry) (rest : List Entry) (slot : ℕ) → slot < length counts
    → get_or (set counts e.block (get_or counts e.block 0 - 1)) slot 0 - names_of slot rest ≡ get_or counts slot 0 - names_of slot (e ∷ rest)
count_less counts e rest slot within = ⊎_elim same other (cases_eq slot e.block)
  where
    one : names_of slot (e ∷ rest) ≡ cond (eqb e.block slot) 1 0 + names_of slot rest
    one = names-cons slot e rest

    same : slot ≡ e.block → get_or (set counts e.block (get_or counts e.block 0 - 1)) slot 0 - names_of slot rest ≡ get_or counts slot 0 - names_of slot (e ∷ rest)
    same is = omega (
      arith,
      one,
      ap {B = ℕ} (λ (b : Bool). cond b 1 0) (eq-eqb e.block slot (sym is)),
      subst (λ (n : ℕ). get_or (set counts e.block (get_or counts e.block 0 - 1)) n 0 ≡ get_or counts n 0 - 1) (sym is)
          (get_or-set_same counts e.block (get_or counts e.block 0 - 1) 0 (subst (λ (n : ℕ). n < length counts) is within)),
    )

    other : slot ≢ e.block → get_or (set counts e.block (get_or counts e.block 0 - 1)) slot 0 - names_of slot rest ≡ get_or counts slot 0 - names_of slot (e ∷ rest)
    other is = omega (
      arith,
      one,
      ap {B = ℕ} (λ (b : Bool). cond b 1 0) (differs e.block slot (λ (h : e.block ≡ slot). is (sym h))),
      get_or-set_other counts e.block slot (get_or counts e.block 0 - 1) 0 is,
    )

-- no slot is named more often than there are live records
pub names_few : (slot : ℕ) (stripes : Stripes) → names_in slot stripes ≤ live_in stripes
names_few slot [] = omega arith
names_few slot (e ∷ stripes) = omega (
  arith,
  names_few slot stripes,
  sum_by-cons (λ (s : StripeOf Entry). names_of slot s.added) e.1 (values_of stripes),
  sum_by-cons weight e.1 (values_of stripes),
  count_by-le-length (λ (v : Entry). eqb v.block slot) e.1.added,
)

-- the counts after a version was added
pub names-added : (stripes : Stripes) (counts : List ℕ) (p : Place) (e : Entry) → IsStrictlySortedBy place_cmp (keys_of stripes)
    → AreNames stripes counts → AreNames (put p (with_added e (stripe_in stripes p)) stripes) (set counts e.block (get_or counts e.block 0 + 1))
names-added stripes counts p e sorted are =
    names-put stripes counts (set counts e.block (get_or counts e.block 0 + 1)) p (with_added e (stripe_in stripes p)) sorted are
    (length-set counts e.block (get_or counts e.block 0 + 1))
    (λ slot within few. omega (arith, count_more counts e slot within, names-append slot (stripe_in stripes p).added (e ∷ [])))

pub live-added : (stripes : Stripes) (p : Place) (e : Entry) → IsStrictlySortedBy place_cmp (keys_of stripes)
    → live_in (put p (with_added e (stripe_in stripes p)) stripes) ≡ live_in stripes + 1
live-added stripes p e sorted = omega (arith, live-put p (with_added e (stripe_in stripes p)) stripes sorted, length_push (stripe_in stripes p).added e)

-- a count fits
pub count_fits : (stripes : Stripes) (counts : List ℕ) (slot : ℕ) → AreNames stripes counts → live_in stripes < 4294967295
    → get_or counts slot 0 < 4294967295
count_fits stripes counts slot are few = ⊎_elim
    (λ within. omega (arith, are slot within, names_few slot stripes, few))
    (λ past. omega (arith, get_or-eq_default counts 0 {n = slot} past))
    (cases_lt slot (length counts))

-- after an order stamp was set
pub names-ordered : (stripes : Stripes) (counts : List ℕ) (p : Place) (t : Stamp) → IsStrictlySortedBy place_cmp (keys_of stripes)
    → AreNames stripes counts → AreNames (put p (with_order t (stripe_in stripes p)) stripes) counts
names-ordered stripes counts p t sorted are =
    names-put stripes counts counts p (with_order t (stripe_in stripes p)) sorted are refl (λ slot within few. refl)

pub live-ordered : (stripes : Stripes) (p : Place) (t : Stamp) → IsStrictlySortedBy place_cmp (keys_of stripes)
    → live_in (put p (with_order t (stripe_in stripes p)) stripes) + order_weight (stripe_in stripes p).order ≡ live_in stripes + order_weight t
live-ordered stripes p t sorted = omega (arith, live-put p (with_order t (stripe_in stripes p)) stripes sorted)

pub order_within : (stripes : Stripes) (p : Place) → IsStrictlySortedBy place_cmp (keys_of stripes)
    → order_weight (stripe_in stripes p).order ≤ live_in stripes
order_within stripes p sorted = omega (arith, live_within stripes p sorted)

-- after a version was added in the place of all
pub names-bottom : (stripes : Stripes) (counts less : List ℕ) (p : Place) (e : Entry) → IsStrictlySortedBy place_cmp (keys_of stripes)
    → AreNames stripes counts → length less ≡ length counts
    → ((slot : ℕ) → slot < length counts → get_or less slot 0 ≡ get_or counts slot 0 - names_of slot (stripe_in stripes p).added)
    → AreNames (put p (with_bottom e (stripe_in stripes p)) stripes) (set less e.block (get_or less e.block 0 + 1))
names-bottom stripes counts less p e sorted are size released =
    names-put stripes counts (set less e.block (get_or less e.block 0 + 1)) p (with_bottom e (stripe_in stripes p)) sorted are
    (length-set less e.block (get_or less e.block 0 + 1) ∙ size)
    (λ slot within few. omega (arith, count_more less e slot (omega (arith, within, size)), released slot within, few))

pub live-bottom : (stripes : Stripes) (p : Place) (e : Entry) → IsStrictlySortedBy place_cmp (keys_of stripes)
    → live_in (put p (with_bottom e (stripe_in stripes p)) stripes) + length (stripe_in stripes p).added ≡ live_in stripes + 1
live-bottom stripes p e sorted = omega (arith, live-put p (with_bottom e (stripe_in stripes p)) stripes sorted)

pub added_within : (stripes : Stripes) (p : Place) → IsStrictlySortedBy place_cmp (keys_of stripes)
    → length (stripe_in stripes p).added ≤ live_in stripes
added_within stripes p sorted = omega (arith, live_within stripes p sorted)

-- a count after versions less fits as it did
pub less_fits : (stripes : Stripes) (counts less : List ℕ) (p : Place) (slot : ℕ) → IsStrictlySortedBy place_cmp (keys_of stripes)
    → AreNames stripes counts → live_in stripes ≤ 4294967295
    → (length (stripe_in stripes p).added ≡ 0 → live_in stripes < 4294967295) → length less ≡ length counts
    → ((s : ℕ) → s < length counts → get_or less s 0 ≡ get_or counts s 0 - names_of s (stripe_in stripes p).added)
    → get_or less slot 0 < 4294967295
less_fits stripes counts less p slot sorted are most few size released = ⊎_elim inside
    (λ past. omega (arith, get_or-eq_default less 0 {n = slot} (omega (arith, past, size))))
    (cases_lt slot (length counts))
  where
    -- without this stripe's versions there are so many names at most
    others : names_in slot (put p (with_bottom_none (stripe_in stripes p)) stripes) ≤ live_in (put p (with_bottom_none (stripe_in stripes p)) stripes)
    others = names_few slot (put p (with_bottom_none (stripe_in stripes p)) stripes)

    inside : slot < length counts → get_or less slot 0 < 4294967295
    inside within = ⊎_elim
        (λ none. omega (arith, released slot within, are slot within, names_few slot stripes, few (omega (arith, none))))
        (λ some. omega (
          arith,
          released slot within,
          are slot within,
          others,
          sum-put (λ t. names_of slot t.added) (names_none slot) p (with_bottom_none (stripe_in stripes p)) stripes sorted,
          live-put p (with_bottom_none (stripe_in stripes p)) stripes sorted,
          most,
        ))
        (cases_lt (length (stripe_in stripes p).added) 1)

-- ---- versions and stripes that are dropped

abbrev is_old : Stamp → Entry → Bool
is_old t e = stamp_below e.stamp t

abbrev is_kept : Stamp → Entry → Bool
is_kept t e = not (stamp_below e.stamp t)

names_split : (slot : ℕ) (t : Stamp) (es : List Entry) → names_of slot (filter (is_old t) es) + names_of slot (filter (is_kept t) es) ≡ names_of slot es
names_split slot t es = sum_by-filter_both (is_old t) (is_kept t) (λ x. refl) (λ (v : Entry). cond (eqb v.block slot) 1 0) es

length_split : (t : Stamp) (es : List Entry) → length (filter (is_old t) es) + length (filter (is_kept t) es) ≡ length es
length_split t [] = refl
length_split t (e ∷ es) = by (stamp_below e.stamp t) (length_split t es)
  where
    by : (b : Bool) → length (filter (is_old t) es) + length (filter (is_kept t) es) ≡ length es
        → length (cond b (e ∷ filter (is_old t) es) (filter (is_old t) es)) + length (cond (not b) (e ∷ filter (is_kept t) es) (filter (is_kept t) es))
        ≡ suc (length es)
    by true h = omega (arith, h)
    by false h = omega (arith, h)

-- after the versions below a stamp were dropped
pub names-collected : (stripes : Stripes) (counts less : List ℕ) (p : Place) (t : Stamp) → IsStrictlySortedBy place_cmp (keys_of stripes)
    → AreNames stripes counts → length less ≡ length counts
    → ((slot : ℕ) → slot < length counts → get_or less slot 0 ≡ get_or counts slot 0 - names_of slot (filter (is_old t) (stripe_in stripes p).added))
    → AreNames (put p (with_collected stamp_of t (stripe_in stripes p)) stripes) less
names-collected stripes counts less p t sorted are size released =
    names-put stripes counts less p (with_collected stamp_of t (stripe_in stripes p)) sorted are size
    (λ slot within few. omega (arith, released slot within, few, names_split slot t (stripe_in stripes p).added))

pub beyond-collected : (slots : ℕ) (stripes : Stripes) (counts less : List ℕ) (p : Place) (t : Stamp) → IsStrictlySortedBy place_cmp (keys_of stripes)
    → NoneBeyond slots stripes counts → length less ≡ length counts
    → NoneBeyond slots (put p (with_collected stamp_of t (stripe_in stripes p)) stripes) less
beyond-collected slots stripes counts less p t sorted beyond size =
    beyond-put slots stripes counts less p (with_collected stamp_of t (stripe_in stripes p)) sorted beyond size
    (λ slot past is_slot. omega (arith, names_split slot t (stripe_in stripes p).added))

pub live-collected : (stripes : Stripes) (p : Place) (t : Stamp) → IsStrictlySortedBy place_cmp (keys_of stripes)
    → live_in (put p (with_collected stamp_of t (stripe_in stripes p)) stripes) + length (filter (is_old t) (stripe_in stripes p).added) ≡ live_in stripes
live-collected stripes p t sorted = omega (
  arith,
  live-put p (with_collected stamp_of t (stripe_in stripes p)) stripes sorted,
  length_split t (stripe_in stripes p).added,
)

-- a stripe has no more live records once versions of it are dropped
pub weight_collected : (t : Stamp) (s : StripeOf Entry) → weight (with_collected stamp_of t s) ≤ weight s
weight_collected t s = omega (arith, length_split t s.added)

-- a sum over what references point to
pub sum-borrowed : {X : Type 0} (f : X → ℕ) (xs : List (Bor X)) → sum_by (λ x. f x.now) xs ≡ sum_by f (map (λ x. x.now) xs)
sum-borrowed f [] = refl
sum-borrowed {X} f (x ∷ xs) = omega (
  arith,
  sum-borrowed f xs,
  sum_by-cons (λ (y : Bor X). f y.now) x xs,
  sum_by-cons f x.now (map (λ (y : Bor X). y.now) xs),
)

-- after a view was taken away
pub names-removed : (k : ViewKey) (t : ViewTable) (views : List (ViewKey × ViewTable)) (counts less : List ℕ) → lookup (is_at (view_cmp k)) views ≡ Some t
    → AreNames (listed (flat views)) counts → length less ≡ length counts
    → ((slot : ℕ) → slot < length counts → get_or less slot 0 ≡ get_or counts slot 0 - sum_by (λ s. names_of slot s.added.versions.items) (values_of t.stripes.entries))
    → AreNames (listed (flat (remove_entry (is_at (view_cmp k)) views))) less
names-removed k t views counts less found are size released slot within =
    let old : slot < length counts = omega (arith, within, size) in
    omega (arith, released slot old, are slot old, sum-removed (λ s. names_of slot s.added) (names_none slot) k t views found)

pub beyond-removed : (slots : ℕ) (k : ViewKey) (t : ViewTable) (views : List (ViewKey × ViewTable)) (counts less : List ℕ) → lookup (is_at (view_cmp k)) views ≡ Some t
    → NoneBeyond slots (listed (flat views)) counts → length less ≡ length counts
    → NoneBeyond slots (listed (flat (remove_entry (is_at (view_cmp k)) views))) less
beyond-removed slots k t views counts less found beyond size slot past is_slot =
    omega (arith, beyond slot (omega (arith, past, size)) is_slot, sum-removed (λ s. names_of slot s.added) (names_none slot) k t views found)

pub live-removed : (k : ViewKey) (t : ViewTable) (views : List (ViewKey × ViewTable)) → lookup (is_at (view_cmp k)) views ≡ Some t
    → live_in (listed (flat (remove_entry (is_at (view_cmp k)) views))) + live_of t.stripes.entries ≡ live_in (listed (flat views))
live-removed k t views found = sum-removed weight weight_none k t views found

-- no stripes, and no names
pub names-none : (stripes : Stripes) (counts : List ℕ) → length counts ≡ 0 → AreNames stripes counts
names-none stripes counts none slot within = absurd (omega (arith, within, none))

pub beyond-none : (slots : ℕ) (stripes : Stripes) (counts : List ℕ) → stripes ≡ [] → NoneBeyond slots stripes counts
beyond-none slots stripes counts none slot past is_slot = ap (names_in slot) none

-- the number of live records goes on fitting
pub order_fits : (live before now : ℕ) (t old : Stamp) → before ≡ order_weight old → now ≡ order_weight t
    → ((stamp_same old first_stamp && not (stamp_same t first_stamp)) ≡ true → live < 4294967295) → live ≤ 4294967295 → before ≤ live
    → live - before + now ≤ 4294967295
order_fits live before now t old p q adds most some = by (stamp_same old first_stamp) (stamp_same t first_stamp) p q adds
  where
    by : (a b : Bool) → before ≡ cond a 0 1 → now ≡ cond b 0 1 → ((a && not b) ≡ true → live < 4294967295) → live - before + now ≤ 4294967295
    by true true p q adds = omega (arith, p, q, most)
    by true false p q adds = omega (arith, p, q, adds refl)
    by false true p q adds = omega (arith, p, q, most)
    by false false p q adds = omega (arith, p, q, most, some)

pub bottom_fits : (live dropped : ℕ) → (dropped ≡ 0 → live < 4294967295) → live ≤ 4294967295 → dropped ≤ live → live - dropped + 1 ≤ 4294967295
bottom_fits live dropped few most some = ⊎_elim (λ none. omega (arith, few (omega (arith, none)))) (λ one. omega (arith, one, most, some)) (cases_lt dropped 1)

pub full_fits : (records : ℕ) (stripes : Stripes) → leb records (live_in stripes) ≡ false → records ≤ 4294967295 → live_in stripes < 4294967295
full_fits records stripes free few = omega (arith, leb-false records (live_in stripes) free, few)

-- ---- which slots are named

some_named : (slot : ℕ) (xs : List ℕ) → 0 < named slot xs → Contains xs slot
some_named slot [] some = absurd (omega (arith, some))
some_named slot (x ∷ xs) some = by (eqb x slot) refl (λ more. some_named slot xs more)
  where
    step : named slot (x ∷ xs) ≡ cond (eqb x slot) 1 0 + named slot xs
    step = sum_by-cons (λ (y : ℕ). cond (eqb y slot) 1 0) x xs

    later : Contains xs slot → Contains (x ∷ xs) slot
    later (k, lt, e) = (suc k, omega (arith, lt), e)

    by : (b : Bool) → eqb x slot ≡ b → (0 < named slot xs → Contains xs slot) → Contains (x ∷ xs) slot
    by true at rest = (0, omega arith, eqb-true x slot at)
    by false at rest = later (rest (omega (arith, some, step, ap {B = ℕ} (λ (b : Bool). cond b 1 0) at)))

named_some : (slot : ℕ) (xs : List ℕ) → Contains xs slot → 0 < named slot xs
named_some slot [] (k, lt, e) = absurd (omega (arith, lt))
named_some slot (x ∷ xs) (zero, lt, e) = omega (
  arith,
  sum_by-cons (λ (y : ℕ). cond (eqb y slot) 1 0) x xs,
  ap {B = ℕ} (λ (b : Bool). cond b 1 0) (eq-eqb x slot e),
)
named_some slot (x ∷ xs) (suc k, lt, e) = omega (
  arith,
  sum_by-cons (λ (y : ℕ). cond (eqb y slot) 1 0) x xs,
  named_some slot xs (k, omega (arith, lt), e),
)

module _ (slots : ℕ) (stripes : Stripes) (counts : List ℕ) (are : AreNames stripes counts) (beyond : NoneBeyond slots stripes counts) (slot : ℕ)
    (is_slot : slot < slots) where
  -- a slot whose count is not 0 is named
  pub taken_named : 0 < get_or counts slot 0 → Contains (slots_in stripes) slot
  taken_named some = some_named slot (slots_in stripes)
      (omega (arith, some, counted_at slots stripes counts are beyond slot is_slot, names-slots slot stripes))

  pub named_taken : Contains (slots_in stripes) slot → 0 < get_or counts slot 0
  named_taken there = omega (
    arith,
    named_some slot (slots_in stripes) there,
    counted_at slots stripes counts are beyond slot is_slot,
    names-slots slot stripes,
  )

  -- and it has a count
  pub named_within : Contains (slots_in stripes) slot → slot < length counts
  named_within there = ⊎_elim (λ within. within)
      (λ past. absurd (omega (arith, named_taken there, count_past counts slot past))) (cases_lt slot (length counts))
