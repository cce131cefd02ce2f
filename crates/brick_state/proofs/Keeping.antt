-- The states that records lead to are kept states.
use Rattle.std.proofs.Common.{◌≡◌, ℕ, zero, suc, ◌+◌, ◌-◌, ◌<◌, ◌≤◌, Bool, true, false, not, ◌&&◌, cond, ltb, leb, Option, Some, None, List, [], ◌∷◌, length, set, get_or, refl, sym, ap, subst, ◌∙◌, arith}
use Rattle.std.specs.Prelude.{replicate}
use Rattle.std.specs.List.{AllByRecursion, filter}
use Rattle.std.specs.List.Sorted.{IsStrictlySortedBy}
use Rattle.std.specs.Map.{keys_of, values_of}
use Rattle.std.proofs.lemmas.Bool.{and_parts, leb-true, ltb-true, leb-false}
use Rattle.std.proofs.lemmas.List.{length-set}
use Rattle.std.proofs.lemmas.List.Sums.{sum_by-cons}
use Rattle.std.proofs.lemmas.List.Kept.{IsStrictlySortedBy-filter}
use Rattle.fab_base.specs.declared.stamps.Stamp.{Stamp}
use Rattle.fab_base.specs.declared.stamps.Ballot.{Ballot}
use Rattle.fab_base.specs.declared.identities.BrickId.{BrickId}
use Rattle.fab_base.specs.declared.member_lists.View.{View}
use Rattle.fab_base.specs.Stamps.{stamp_same, first_stamp}
use Rattle.stamp_store.specs.declared.kept_records.Kept.TheVariants.{Boot, Ballots, Order}
use Rattle.stamp_store.specs.declared.kept_records.Kept.TheVariants as kinds
use Rattle.stamp_store.specs.declared.log_records.Logged.{Logged}
use Rattle.brick_state.specs.declared.groups.Group.{Group}
use Rattle.brick_state.specs.declared.records.Record.{Record}
use Rattle.brick_state.specs.declared.records.Record.TheVariants as forms
use Rattle.brick_state.specs.Entries.{Entry}
use Rattle.brick_state.specs.States.{Place, StripeOf, StateOf, place_cmp, stripe_at, with_stripe, with_order, weight, live, live_in, no_group, group_at, with_view, with_ballots, viewed, balloted, booted, ordered, empty, is_of_view}
use Rattle.brick_state.specs.Folds.{Limits, applied, folded, log_changed, placed, place, is_full, adds_order, onward}
use Rattle.brick_state.specs.KeptStates.{IsKeptStripe, IsLearnt, IsKeptState}
use Rattle.brick_state.proofs.Listings.{all_filter}
use Rattle.brick_state.proofs.Preserving.{live-put, sorted-put, all-put}
use Rattle.brick_state.proofs.SoundStripes.{IsSound, sound_at, order_sound, kept_from_sound}
use Rattle.brick_state.proofs.SoundChanges.{Changed, log_changed_keeps}

-- ---- a stripe in a state

some_same : {X : Type 0} {a b : X} → Some a ≡ Some b → a ≡ b
some_same h = cc

-- a stripe that is sound in its place, and no live record too many
put_kept : (limits : Limits) (p : Place) (s : StripeOf Entry) (st : StateOf Entry) → p.0 < 64 → IsKeptState limits st → IsSound limits p s
    → live st + weight s ≤ limits.records + weight (stripe_at st p) → IsKeptState limits (with_stripe p s st)
put_kept limits p s st group kept sound room = record {
  all_groups = kept.all_groups;
  groups = kept.groups;
  sorted = sorted-put p s st.stripes kept.sorted;
  stripes = all-put limits p s st.stripes (kept_from_sound limits p s group sound) kept.stripes;
  within = omega (arith, live-put p s st.stripes kept.sorted);
}

full_means : (limits : Limits) (st : StateOf Entry) → is_full limits st ≡ false → live st < limits.records
full_means limits st h = leb-false limits.records (live st) h

-- where a record of a log changes it
abbrev place_of : Logged → Place
place_of r = place r.group r.view r.stripe

log_kept : (limits : Limits) (r : Logged) (st next : StateOf Entry) → r.group.0 < 64 → IsKeptState limits st
    → placed (place r.group r.view r.stripe) st (log_changed limits (is_full limits st) r.change r.stamp
    (stripe_at st (place r.group r.view r.stripe))) ≡ Some next → IsKeptState limits next
log_kept limits r st next group kept h = by (log_changed limits (is_full limits st) r.change r.stamp (stripe_at st (place_of r))) refl h
  where
    room : (full : Bool) → is_full limits st ≡ full → (s : StripeOf Entry) → Changed limits full (place_of r) (stripe_at st (place_of r)) s
        → live st + weight s ≤ limits.records + weight (stripe_at st (place_of r))
    room true at s changed = omega (arith, changed.bounded refl, kept.within)
    room false at s changed = omega (arith, changed.grows, full_means limits st at)

    by : (answer : Option (StripeOf Entry)) → log_changed limits (is_full limits st) r.change r.stamp (stripe_at st (place_of r)) ≡ answer
        → placed (place_of r) st answer ≡ Some next → IsKeptState limits next
    by None at is = absurd cc
    by (Some s) at is =
        let changed = log_changed_keeps limits (place_of r) r.stamp (stripe_at st (place_of r)) (sound_at limits (place_of r) st.stripes kept.stripes)
        (is_full limits st) r.change s at in
        subst (λ (n : StateOf Entry). IsKeptState limits n) (some_same is)
        (put_kept limits (place_of r) s st group kept changed.sound (room (is_full limits st) refl s changed))

order_weight : (t : Stamp) (s : StripeOf Entry) (adds : Bool) → adds_order t s ≡ adds → weight (with_order t s) ≤ cond adds (weight s + 1) (weight s)
order_weight t s adds at = by (stamp_same s.order first_stamp) (stamp_same t first_stamp) adds at
  where
    by : (had has adds : Bool) → (had && not has) ≡ adds → cond has 0 1 + length s.added ≤ cond adds (cond had 0 1 + length s.added + 1)
        (cond had 0 1 + length s.added)
    by true true true h = absurd cc
    by true true false h = omega arith
    by true false true h = omega arith
    by true false false h = absurd cc
    by false true true h = absurd cc
    by false true false h = omega arith
    by false false true h = absurd cc
    by false false false h = omega arith

order_kept : (limits : Limits) (p : Place) (t : Stamp) (st next : StateOf Entry) → p.0 < 64 → IsKeptState limits st
    → cond (adds_order t (stripe_at st p) && is_full limits st) None (Some (ordered p t st)) ≡ Some next → IsKeptState limits next
order_kept limits p t st next group kept h = by (adds_order t (stripe_at st p)) (is_full limits st) refl refl h
  where
    made : live st + weight (with_order t (stripe_at st p)) ≤ limits.records + weight (stripe_at st p) → IsKeptState limits (ordered p t st)
    made room = put_kept limits p (with_order t (stripe_at st p)) st group kept
        (order_sound limits p t (stripe_at st p) (sound_at limits p st.stripes kept.stripes)) room

    by : (adds full : Bool) → adds_order t (stripe_at st p) ≡ adds → is_full limits st ≡ full
        → cond (adds && full) None (Some (ordered p t st)) ≡ Some next → IsKeptState limits next
    by true true at at_full is = absurd cc
    by true false at at_full is =
        subst (λ (n : StateOf Entry). IsKeptState limits n) (some_same is)
        (made (omega (arith, order_weight t (stripe_at st p) true at, full_means limits st at_full)))
    by false full at at_full is =
        subst (λ (n : StateOf Entry). IsKeptState limits n) (some_same is)
        (made (omega (arith, order_weight t (stripe_at st p) false at, kept.within)))

-- ---- groups

pub all_set : {X : Type 0} (P : X → Type 0) (xs : List X) (i : ℕ) (x : X) → P x → AllByRecursion P xs → AllByRecursion P (set xs i x)
all_set P [] i x here all = tt
all_set P (y ∷ ys) zero x here all = (here, all.1)
all_set P (y ∷ ys) (suc i) x here all = (all.0, all_set P ys i x here all.1)

pub all_at : {X : Type 0} (P : X → Type 0) (xs : List X) (i : ℕ) (d : X) → P d → AllByRecursion P xs → P (get_or xs i d)
all_at P [] i d none all = none
all_at P (y ∷ ys) zero d none all = all.0
all_at P (y ∷ ys) (suc i) d none all = all_at P ys i d none all.1

live-filter : (keep : Place × StripeOf Entry → Bool) (stripes : List (Place × StripeOf Entry)) → live_in (filter keep stripes) ≤ live_in stripes
live-filter keep [] = omega arith
live-filter keep (e ∷ stripes) = by (keep e) (live-filter keep stripes)
  where
    by : (b : Bool) → live_in (filter keep stripes) ≤ live_in stripes → live_in (cond b (e ∷ filter keep stripes) (filter keep stripes)) ≤ live_in
        (e ∷ stripes)
    by true h = omega (arith, sum_by-cons weight e.1 (values_of (filter keep stripes)), sum_by-cons weight e.1 (values_of stripes))
    by false h = omega (arith, sum_by-cons weight e.1 (values_of stripes))

keys_filter : (keep : Place → Bool) (stripes : List (Place × StripeOf Entry)) → keys_of (filter (λ e. keep e.0) stripes) ≡ filter keep
    (keys_of stripes)
keys_filter keep [] = refl
keys_filter keep (e ∷ stripes) = by (keep e.0) (keys_filter keep stripes)
  where
    by : (b : Bool) → keys_of (filter (λ f. keep f.0) stripes) ≡ filter keep (keys_of stripes)
        → keys_of (cond b (e ∷ filter (λ f. keep f.0) stripes) (filter (λ f. keep f.0) stripes)) ≡ cond b (e.0 ∷ filter keep (keys_of stripes))
        (filter keep (keys_of stripes))
    by true h = ap (λ (ks : List Place). e.0 ∷ ks) h
    by false h = h

-- the places that a view leaves
abbrev stays : ℕ → View → Bool → Place → Bool
stays g view synced p = not (is_of_view g (cond synced view.number.0 (view.number.0 - 1)) p)

view_kept : (limits : Limits) (g : ℕ) (view : View) (synced : Bool) (st : StateOf Entry) → 2 ≤ view.number.0 → IsKeptState limits st
    → IsKeptState limits (viewed g view synced st)
view_kept limits g view synced st above kept = record {
  all_groups = length-set st.groups g (with_view view synced (group_at st g)) ∙ kept.all_groups;
  groups = all_set (λ (group : Group). IsLearnt group.known) st.groups g (with_view view synced (group_at st g)) above kept.groups;
  sorted = subst (λ (ks : List Place). IsStrictlySortedBy place_cmp ks) (sym (keys_filter (stays g view synced) st.stripes))
      (IsStrictlySortedBy-filter place_cmp (stays g view synced) (keys_of st.stripes) kept.sorted);
  stripes = all_filter (λ e. IsKeptStripe limits e.0 e.1) (λ e. stays g view synced e.0) st.stripes kept.stripes;
  within = omega (arith, live-filter (λ e. stays g view synced e.0) st.stripes, kept.within);
}

ballots_kept : (limits : Limits) (g : ℕ) (promised : Ballot) (accepted : Option (Ballot × List BrickId)) (st : StateOf Entry) → IsKeptState limits st
    → IsKeptState limits (balloted g promised accepted st)
ballots_kept limits g promised accepted st kept = record {
  all_groups = length-set st.groups g (with_ballots promised accepted (group_at st g)) ∙ kept.all_groups;
  groups = all_set (λ (group : Group). IsLearnt group.known) st.groups g (with_ballots promised accepted (group_at st g))
      (all_at (λ (group : Group). IsLearnt group.known) st.groups g no_group tt kept.groups) kept.groups;
  sorted = kept.sorted;
  stripes = kept.stripes;
  within = kept.within;
}

pub boot_kept : (limits : Limits) (n : ℕ) (st : StateOf Entry) → IsKeptState limits st → IsKeptState limits (booted n st)
boot_kept limits n st kept = record { all_groups = kept.all_groups; groups = kept.groups; sorted = kept.sorted; stripes = kept.stripes; within = kept.within }

-- ---- records

-- what a test lets through
let_through : {X : Type 0} (b : Bool) (x y : X) → cond b (Some x) None ≡ Some y → (b ≡ true) × (x ≡ y)
let_through true x y h = (refl, some_same h)
let_through false x y h = absurd cc

let_on : {X : Type 0} (b : Bool) (next : Option X) (y : X) → cond b next None ≡ Some y → (b ≡ true) × (next ≡ Some y)
let_on true next y h = (refl, h)
let_on false next y h = absurd cc

-- a record that can be leads from a kept state to one
pub applied_keeps : (limits : Limits) (r : Record) (st next : StateOf Entry) → IsKeptState limits st → applied limits r st ≡ Some next
    → IsKeptState limits next
unfolding applied
applied_keeps limits (forms.Kept (Boot count)) st next kept h = subst (λ (n : StateOf Entry). IsKeptState limits n) (some_same h)
    (boot_kept limits count st kept)
applied_keeps limits (forms.Kept (kinds.View g view synced)) st next kept h =
    let passed = let_through (ltb g.0 64 && leb 2 view.number.0) (viewed g.0 view synced st) next h in
    let both = and_parts (ltb g.0 64) (leb 2 view.number.0) passed.0 in
    subst (λ (n : StateOf Entry). IsKeptState limits n) passed.1 (view_kept limits g.0 view synced st (leb-true 2 view.number.0 both.1) kept)
applied_keeps limits (forms.Kept (Ballots g v promised accepted)) st next kept h =
    let passed = let_through (ltb g.0 64) (balloted g.0 promised accepted st) next h in
    subst (λ (n : StateOf Entry). IsKeptState limits n) passed.1 (ballots_kept limits g.0 promised accepted st kept)
applied_keeps limits (forms.Kept (Order g v s t)) st next kept h =
    let passed = let_on (ltb g.0 64) (cond (adds_order t (stripe_at st (place g v s)) && is_full limits st) None
    (Some (ordered (place g v s) t st))) next h in
    order_kept limits (place g v s) t st next (ltb-true g.0 64 passed.0) kept passed.1
applied_keeps limits (forms.Logged r) st next kept h =
    let passed = let_on (ltb r.group.0 64) (placed (place r.group r.view r.stripe) st
    (log_changed limits (is_full limits st) r.change r.stamp (stripe_at st (place r.group r.view r.stripe)))) next h in
    log_kept limits r st next (ltb-true r.group.0 64 passed.0) kept passed.1

-- nothing kept is a kept state
pub empty_kept : (limits : Limits) → IsKeptState limits empty
unfolding IsStrictlySortedBy
empty_kept limits = record { all_groups = refl; groups = all_none 64; sorted = sorted_none; stripes = tt; within = omega arith }
  where
    all_none : (n : ℕ) → AllByRecursion (λ (group : Group). IsLearnt group.known) (replicate n no_group)
    all_none zero = tt
    all_none (suc n) = (tt, all_none n)

    sorted_none : IsStrictlySortedBy place_cmp []
    sorted_none = tt

-- so what records make of a kept state is one
pub folded_keeps : (limits : Limits) (records : List Record) (st : StateOf Entry) → IsKeptState limits st
    → IsKeptState limits (folded limits records st)
unfolding folded
folded_keeps limits [] st kept = kept
folded_keeps limits (first ∷ records) st kept = by (applied limits first st) refl (λ next. folded_keeps limits records next)
  where
    by : (answer : Option (StateOf Entry)) → applied limits first st ≡ answer
        → ((next : StateOf Entry) → IsKeptState limits next → IsKeptState limits (folded limits records next))
        → IsKeptState limits (onward answer st (folded limits records))
    by None at ih = kept
    by (Some next) at ih = ih next (applied_keeps limits first st next kept at)
