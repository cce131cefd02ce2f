-- A state with other slots: what its records name, and what they are.
use Rattle.std.proofs.Common.{◌≡◌, inl, inr, ℕ, suc, ◌+◌, ◌<◌, ◌≤◌, Bool, true, false, not, ◌&&◌, ◌||◌, cond, eqb, Option, Some, None, List, [], ◌∷◌, ◌++◌, length, get_or, map, refl, sym, ap, subst, ◌∙◌, arith}
use Rattle.std.specs.List.{AllByRecursion}
use Rattle.std.specs.List.Sorted.{IsStrictlySortedBy}
use Rattle.std.specs.Map.{keys_of, values_of}
use Rattle.std.specs.Option.{option_map}
use Rattle.std.proofs.lemmas.Bool.{eqb-true, lt-ltb}
use Rattle.std.proofs.lemmas.Bool.Decides.{nat_tests}
use Rattle.std.proofs.lemmas.List.{length-map, map-append}
use Rattle.std.proofs.lemmas.List.Sums.{sum_by-cons}
use Rattle.fab_base.specs.declared.identities.BrickId.{BrickId}
use Rattle.fab_base.specs.declared.member_lists.View.{View}
use Rattle.fab_base.specs.declared.stamps.Ballot.{Ballot}
use Rattle.fab_base.specs.declared.stamps.Stamp.{Stamp}
use Rattle.fab_base.specs.Stamps.{stamp_same, first_stamp}
use Rattle.stamp_store.specs.declared.log_records.LogChange.{LogChange}
use Rattle.stamp_store.specs.declared.log_records.LogChange.TheVariants.{Same, Slot}
use Rattle.brick_state.specs.declared.groups.Group.{Group}
use Rattle.brick_state.specs.declared.records.Record.{Record}
use Rattle.brick_state.specs.declared.records.Record.TheVariants as forms
use Rattle.brick_state.specs.Entries.{Entry}
use Rattle.brick_state.specs.States.{Place, StripeOf, StateOf, place_cmp, is_first, weight, live, live_in}
use Rattle.brick_state.specs.Folds.{Limits, is_slot, slot_named}
use Rattle.brick_state.specs.KeptStates.{IsAbove, Rises, IsKeptStripe, IsKeptState}
use Rattle.brick_state.specs.Rewrites.{learnt_number, view_records, ballot_records, group_records, groups_records, order_record, order_records, version_record, version_records, start_of, stripes_records, live_records}
use Rattle.brick_state.specs.Slots.{slot_of, slots_in, slots_of}
use Rattle.brick_state.proofs.FreeSlots.{slots_few}
use Rattle.brick_store.specs.Renumbering.{numbers_of, slot_for, entry_over, stripe_over, brought, place_of, has_place, given_with, change_over, record_over, number_in}
use Rattle.brick_store.proofs.Numbers.{given_all, given_append, named_again, placed_now, IsPlaced, each_given, all_given, all_placed, all_long, at_place}

-- ---- what records name

-- to name what these records name gives nothing
abbrev NameNone : List Record → Type 0
NameNone records = (given : List ℕ) → given_all given (map number_in records) ≡ given

none_append : (xs ys : List Record) → NameNone xs → NameNone ys → NameNone (xs ++ ys)
none_append xs ys first second given =
    ap (given_all given) (map-append number_in xs ys)
    ∙ given_append given (map number_in xs) (map number_in ys)
    ∙ ap (λ (g : List ℕ). given_all g (map number_in ys)) (first given) ∙ second given

view_none : (g : ℕ) (known : Option (View × Bool)) → NameNone (view_records g known)
unfolding given_all
view_none g None given = refl
view_none g (Some known) given = refl

ballots_none : (g v : ℕ) (ballots : Option (Ballot × Option (Ballot × List BrickId))) → NameNone (ballot_records g v ballots)
unfolding given_all
ballots_none g v None given = refl
ballots_none g v (Some b) given = refl

groups_none : (g : ℕ) (groups : List Group) → NameNone (groups_records g groups)
unfolding given_all groups_records
groups_none g [] given = refl
groups_none g (group ∷ groups) given =
    none_append (group_records g group) (groups_records (suc g) groups)
    (none_append (view_records g group.known) (ballot_records g (learnt_number group.known) group.ballots) (view_none g group.known)
    (ballots_none g (learnt_number group.known) group.ballots)) (groups_none (suc g) groups) given

order_none : (p : Place) (t : Stamp) → NameNone (order_records p t)
unfolding given_all
order_none p t = by (stamp_same t first_stamp)
  where
    by : (b : Bool) → NameNone (cond b [] (order_record p t ∷ []))
    by true given = refl
    by false given = refl

-- the block of the version below was named before
abbrev IsNamed : List ℕ → Option Entry → Type 0
IsNamed given None = Unit {0}
IsNamed given (Some under) = given_with given under.block ≡ given

versions_name : (p : Place) (under : Option Entry) (entries : List Entry) (given : List ℕ) → IsNamed given under
    → given_all given (map number_in (version_records p under entries)) ≡ given_all given (map slot_of entries)
unfolding given_all version_records
versions_name p under [] given named = refl
versions_name p None (e ∷ entries) given named =
    versions_name p (Some e) entries (given_with given e.block) (named_again (given_with given e.block) e.block (placed_now given e.block))
versions_name p (Some under) (e ∷ entries) given named =
    by (eqb under.block e.block) refl (versions_name p (Some e) entries)
  where
    by : (b : Bool) → eqb under.block e.block ≡ b
        → ((g : List ℕ) → IsNamed g (Some e) → given_all g (map number_in (version_records p (Some e) entries)) ≡ given_all g (map slot_of entries))
        → given_all (given_with given (number_in (forms.Logged (record {
          group = record { 0 = p.0 };
          view = record { 0 = p.1 };
          stripe = record { 0 = p.2 };
          stamp = e.stamp;
          change = cond b Same (Slot false e.block);
        })))) (map number_in (version_records p (Some e) entries)) ≡ given_all (given_with given e.block) (map slot_of entries)
    by true is rest =
        let again : given_with given e.block ≡ given = ap (given_with given) (sym (eqb-true under.block e.block is)) ∙ named in
        rest given again ∙ ap (λ (g : List ℕ). given_all g (map slot_of entries)) (sym again)
    by false is rest = rest (given_with given e.block) (named_again (given_with given e.block) e.block (placed_now given e.block))

start_named : (from_start : Bool) (given : List ℕ) → IsNamed given (start_of from_start)
start_named true given = refl
start_named false given = tt

stripes_name : (stripes : List (Place × StripeOf Entry)) (given : List ℕ)
    → given_all given (map number_in (stripes_records stripes)) ≡ given_all given (slots_in stripes)
unfolding stripes_records slots_in
stripes_name [] given = refl
stripes_name (e ∷ stripes) given =
    let orders = order_records e.0 e.1.order in
    let versions = version_records e.0 (start_of e.1.from_start) e.1.added in
    let now = given_all given (map slot_of e.1.added) in
    ap (given_all given) (map-append number_in (orders ++ versions) (stripes_records stripes))
    ∙ given_append given (map number_in (orders ++ versions)) (map number_in (stripes_records stripes))
    ∙ ap (λ (g : List ℕ). given_all g (map number_in (stripes_records stripes)))
    (ap (given_all given) (map-append number_in orders versions)
    ∙ given_append given (map number_in orders) (map number_in versions)
    ∙ ap (λ (g : List ℕ). given_all g (map number_in versions)) (order_none e.0 e.1.order given)
    ∙ versions_name e.0 (start_of e.1.from_start) e.1.added given (start_named e.1.from_start given))
    ∙ stripes_name stripes now
    ∙ sym (given_append given (map slot_of e.1.added) (slots_in stripes))

-- the numbers that the records of a state name are those of its versions
pub records_name : (st : StateOf Entry) → given_all [] (map number_in (live_records st)) ≡ numbers_of st
unfolding given_all
records_name st = rest ∙ each_given (slots_of st)
  where
    rest : given_all [] (map number_in (groups_records 0 st.groups ++ stripes_records st.stripes)) ≡ given_all [] (slots_of st)
    rest =
        ap (given_all []) (map-append number_in (groups_records 0 st.groups) (stripes_records st.stripes))
        ∙ given_append [] (map number_in (groups_records 0 st.groups)) (map number_in (stripes_records st.stripes))
        ∙ ap (λ (g : List ℕ). given_all g (map number_in (stripes_records st.stripes))) (groups_none 0 st.groups [])
        ∙ stripes_name st.stripes []

-- each version's number is among them, and there are no more than live records
pub slots_placed : (st : StateOf Entry) → AllByRecursion (IsPlaced (numbers_of st)) (slots_of st)
slots_placed st = subst (λ (given : List ℕ). AllByRecursion (IsPlaced given) (slots_of st)) (each_given (slots_of st)) (all_placed [] (slots_of st))

pub numbers_few : (st : StateOf Entry) → length (numbers_of st) ≤ live st
numbers_few st = omega (arith, ap length (each_given (slots_of st)), all_long [] (slots_of st), slots_few st.stripes)

-- what holds of the number of each version, and of the zero block's, holds of what the records name
module _ (P : ℕ → Type 0) (zero_has : P 4294967295) where
  abbrev Names : List Record → Type 0
  Names records = AllByRecursion (λ r. P (number_in r)) records

  names_append : (xs ys : List Record) → Names xs → Names ys → Names (xs ++ ys)
  names_append [] ys first second = second
  names_append (r ∷ xs) ys first second = (first.0, names_append xs ys first.1 second)

  view_names : (g : ℕ) (known : Option (View × Bool)) → Names (view_records g known)
  view_names g None = tt
  view_names g (Some known) = (zero_has, tt)

  ballots_names : (g v : ℕ) (ballots : Option (Ballot × Option (Ballot × List BrickId))) → Names (ballot_records g v ballots)
  ballots_names g v None = tt
  ballots_names g v (Some b) = (zero_has, tt)

  groups_names : (g : ℕ) (groups : List Group) → Names (groups_records g groups)
  unfolding groups_records
  groups_names g [] = tt
  groups_names g (group ∷ groups) =
      names_append (group_records g group) (groups_records (suc g) groups)
      (names_append (view_records g group.known) (ballot_records g (learnt_number group.known) group.ballots) (view_names g group.known)
      (ballots_names g (learnt_number group.known) group.ballots)) (groups_names (suc g) groups)

  order_names : (p : Place) (t : Stamp) → Names (order_records p t)
  order_names p t = by (stamp_same t first_stamp)
    where
      by : (b : Bool) → Names (cond b [] (order_record p t ∷ []))
      by true = tt
      by false = (zero_has, tt)

  version_names : (p : Place) (under : Option Entry) (e : Entry) → P e.block → P (number_in (version_record p under e))
  version_names p None e has = has
  version_names p (Some u) e has = by (eqb u.block e.block)
    where
      by : (b : Bool) → P (slot_named (cond b Same (Slot false e.block)))
      by true = zero_has
      by false = has

  versions_names : (p : Place) (under : Option Entry) (entries : List Entry) (more : List ℕ) → AllByRecursion P (map slot_of entries ++ more)
      → Names (version_records p under entries) × AllByRecursion P more
  unfolding version_records
  versions_names p under [] more all = (tt, all)
  versions_names p under (e ∷ entries) more all =
      let rest = versions_names p (Some e) entries more all.1 in ((version_names p under e all.0, rest.0), rest.1)

  stripes_names : (stripes : List (Place × StripeOf Entry)) → AllByRecursion P (slots_in stripes) → Names (stripes_records stripes)
  unfolding stripes_records slots_in
  stripes_names [] all = tt
  stripes_names (e ∷ stripes) all =
      let both = versions_names e.0 (start_of e.1.from_start) e.1.added (slots_in stripes) all in
      names_append (order_records e.0 e.1.order ++ version_records e.0 (start_of e.1.from_start) e.1.added) (stripes_records stripes)
      (names_append (order_records e.0 e.1.order) (version_records e.0 (start_of e.1.from_start) e.1.added) (order_names e.0 e.1.order) both.0)
      (stripes_names stripes both.1)

  pub records_names : (st : StateOf Entry) → AllByRecursion P (slots_of st) → Names (live_records st)
  records_names st all =
      (zero_has, names_append (groups_records 0 st.groups) (stripes_records st.stripes) (groups_names 0 st.groups) (stripes_names st.stripes all))

-- and of the numbers that are given
pub numbers_have : (P : ℕ → Type 0) (st : StateOf Entry) → AllByRecursion P (slots_of st) → AllByRecursion P (numbers_of st)
numbers_have P st all = subst (AllByRecursion P) (each_given (slots_of st)) (all_given P [] (slots_of st) tt all)

-- what holds of each version's slot holds of the slots
entries_slots : (P : ℕ → Type 0) (entries : List Entry) (more : List ℕ) → AllByRecursion (λ v. P v.block) entries → AllByRecursion P more
    → AllByRecursion P (map slot_of entries ++ more)
entries_slots P [] more all rest = rest
entries_slots P (e ∷ entries) more all rest = (all.0, entries_slots P entries more all.1 rest)

pub stripes_slots : (P : ℕ → Type 0) (stripes : List (Place × StripeOf Entry)) → AllByRecursion (λ e. AllByRecursion (λ v. P v.block) e.1.added) stripes
    → AllByRecursion P (slots_in stripes)
unfolding slots_in
stripes_slots P [] all = tt
stripes_slots P (e ∷ stripes) all = entries_slots P e.1.added (slots_in stripes) all.0 (stripes_slots P stripes all.1)

-- ---- slots tell numbers apart

module _ (numbers : List ℕ) (few : length numbers ≤ 4294967295) where
  -- a number that has a place has a slot, and one that has a slot is not the zero block's
  pub slot_within : (n : ℕ) → eqb n 4294967295 ≡ false → has_place numbers n ≡ true → slot_for numbers n < length numbers
  slot_within n other has = rw other (grind (arith, nat_tests))

  pub same_slots : (a b : ℕ) → IsPlaced numbers a → IsPlaced numbers b → eqb (slot_for numbers a) (slot_for numbers b) ≡ eqb a b
  same_slots a b left right = by (eqb a 4294967295) refl (eqb b 4294967295) refl left right
    where
      by : (x : Bool) → eqb a 4294967295 ≡ x → (y : Bool) → eqb b 4294967295 ≡ y → IsPlaced numbers a → IsPlaced numbers b
          → eqb (cond x 4294967295 (place_of numbers a)) (cond y 4294967295 (place_of numbers b)) ≡ eqb a b
      by true at true is left right = grind (arith, nat_tests)
      by true at false is left (inl zero_block) = absurd cc
      by true at false is left (inr has) = grind (arith, nat_tests)
      by false at true is (inl zero_block) right = absurd cc
      by false at true is (inr has) right = grind (arith, nat_tests)
      by false at false is (inl zero_block) right = absurd cc
      by false at false is left (inl zero_block) = absurd cc
      by false at false is (inr first) (inr second) = apart (eqb (place_of numbers a) (place_of numbers b)) refl (eqb a b) refl
        where
          apart : (c : Bool) → eqb (place_of numbers a) (place_of numbers b) ≡ c → (d : Bool) → eqb a b ≡ d → c ≡ d
          apart true there true here = refl
          apart true there false here = absurd (differ (sym same ∙ here))
            where
              same : eqb a b ≡ true
              same = let p : place_of numbers a ≡ place_of numbers b = eqb-true _ _ there in
                  let q = at_place numbers a first in let r = at_place numbers b second in
                  let e : a ≡ b = sym q ∙ ap (λ (i : ℕ). get_or numbers i 0) p ∙ r in grind (arith, nat_tests)

              differ : true ≡ false → ⊥
              differ e = cc
          apart false there true here =
              let e : a ≡ b = eqb-true a b here in let p : place_of numbers a ≡ place_of numbers b = ap (place_of numbers) e in grind (arith, nat_tests)
          apart false there false here = refl

  -- ---- records with these slots

  -- what holds of the versions of a stripe, and of the one below them
  abbrev AllPlaced : List Entry → Type 0
  AllPlaced entries = AllByRecursion (IsPlaced numbers) (map slot_of entries)

  abbrev UnderPlaced : Option Entry → Type 0
  UnderPlaced None = Unit {0}
  UnderPlaced (Some under) = IsPlaced numbers under.block

  under_over : Option Entry → Option Entry
  under_over under = option_map (entry_over numbers) under

  version_over : (p : Place) (under : Option Entry) (e : Entry) → UnderPlaced under → IsPlaced numbers e.block
      → version_record p (option_map (entry_over numbers) under) (entry_over numbers e) ≡ record_over numbers (version_record p under e)
  version_over p None e below placed = refl
  version_over p (Some under) e below placed =
      ap (λ (b : Bool). logged (cond b Same (Slot false (slot_for numbers e.block)))) (same_slots under.block e.block below placed)
      ∙ by (eqb under.block e.block)
    where
      logged : LogChange → Record
      logged change = forms.Logged (record {
        group = record { 0 = p.0 };
        view = record { 0 = p.1 };
        stripe = record { 0 = p.2 };
        stamp = e.stamp;
        change = change;
      })

      by : (b : Bool) → logged (cond b Same (Slot false (slot_for numbers e.block))) ≡ logged (change_over numbers (cond b Same (Slot false e.block)))
      by true = refl
      by false = refl

  versions_over : (p : Place) (under : Option Entry) (entries : List Entry) → UnderPlaced under → AllPlaced entries
      → version_records p (option_map (entry_over numbers) under) (map (entry_over numbers) entries)
      ≡ map (record_over numbers) (version_records p under entries)
  unfolding version_records
  versions_over p under [] below placed = refl
  versions_over p under (e ∷ entries) below placed =
      ap (λ (r : Record). r ∷ version_records p (Some (entry_over numbers e)) (map (entry_over numbers) entries)) (version_over p under e below placed.0)
      ∙ ap (λ (rs : List Record). record_over numbers (version_record p under e) ∷ rs) (versions_over p (Some e) entries placed.0 placed.1)

  order_over : (p : Place) (t : Stamp) → map (record_over numbers) (order_records p t) ≡ order_records p t
  order_over p t = by (stamp_same t first_stamp)
    where
      by : (b : Bool) → map (record_over numbers) (cond b [] (order_record p t ∷ [])) ≡ cond b [] (order_record p t ∷ [])
      by true = refl
      by false = refl

  start_over : (from_start : Bool) → option_map (entry_over numbers) (start_of from_start) ≡ start_of from_start
  start_over true = refl
  start_over false = refl

  start_placed : (from_start : Bool) → UnderPlaced (start_of from_start)
  start_placed true = inl refl
  start_placed false = tt

  all_split : (P : ℕ → Type 0) (xs ys : List ℕ) → AllByRecursion P (xs ++ ys) → AllByRecursion P xs × AllByRecursion P ys
  all_split P [] ys all = (tt, all)
  all_split P (x ∷ xs) ys all = let rest = all_split P xs ys all.1 in ((all.0, rest.0), rest.1)

  abbrev stripes_over : List (Place × StripeOf Entry) → List (Place × StripeOf Entry)
  stripes_over stripes = map (λ e. (e.0, stripe_over numbers e.1)) stripes

  stripes_records_over : (stripes : List (Place × StripeOf Entry)) → AllByRecursion (IsPlaced numbers) (slots_in stripes)
      → stripes_records (stripes_over stripes) ≡ map (record_over numbers) (stripes_records stripes)
  unfolding stripes_records slots_in
  stripes_records_over [] placed = refl
  stripes_records_over (e ∷ stripes) placed =
      let s = e.1 in
      let split = all_split (IsPlaced numbers) (map slot_of s.added) (slots_in stripes) placed in
      let orders = order_records e.0 s.order in
      let versions = version_records e.0 (start_of s.from_start) s.added in
      ap (λ (u : Option Entry). (orders ++ version_records e.0 u (map (entry_over numbers) s.added)) ++ stripes_records (stripes_over stripes))
      (sym (start_over s.from_start))
      ∙ ap (λ (rs : List Record). (orders ++ rs) ++ stripes_records (stripes_over stripes))
      (versions_over e.0 (start_of s.from_start) s.added (start_placed s.from_start) split.0)
      ∙ ap (λ (rs : List Record). (rs ++ map (record_over numbers) versions) ++ stripes_records (stripes_over stripes)) (sym (order_over e.0 s.order))
      ∙ ap (λ (rs : List Record). (map (record_over numbers) orders ++ map (record_over numbers) versions) ++ rs) (stripes_records_over stripes split.1)
      ∙ ap (λ (rs : List Record). rs ++ map (record_over numbers) (stripes_records stripes)) (sym (map-append (record_over numbers) orders versions))
      ∙ sym (map-append (record_over numbers) (orders ++ versions) (stripes_records stripes))

  view_over : (g : ℕ) (known : Option (View × Bool)) → map (record_over numbers) (view_records g known) ≡ view_records g known
  view_over g None = refl
  view_over g (Some known) = refl

  ballots_over : (g v : ℕ) (ballots : Option (Ballot × Option (Ballot × List BrickId))) → map (record_over numbers) (ballot_records g v ballots) ≡ ballot_records g v ballots
  ballots_over g v None = refl
  ballots_over g v (Some b) = refl

  groups_over : (g : ℕ) (groups : List Group) → map (record_over numbers) (groups_records g groups) ≡ groups_records g groups
  unfolding groups_records
  groups_over g [] = refl
  groups_over g (group ∷ groups) =
      let views = view_records g group.known in
      let ballots = ballot_records g (learnt_number group.known) group.ballots in
      map-append (record_over numbers) (views ++ ballots) (groups_records (suc g) groups)
      ∙ ap (λ (rs : List Record). rs ++ map (record_over numbers) (groups_records (suc g) groups))
      (map-append (record_over numbers) views ballots
      ∙ ap (λ (rs : List Record). rs ++ map (record_over numbers) ballots) (view_over g group.known)
      ∙ ap (λ (rs : List Record). views ++ rs) (ballots_over g (learnt_number group.known) group.ballots))
      ∙ ap (λ (rs : List Record). (views ++ ballots) ++ rs) (groups_over (suc g) groups)

  parts_over : (groups : List Group) (stripes : List (Place × StripeOf Entry)) → AllByRecursion (IsPlaced numbers) (slots_in stripes)
      → groups_records 0 groups ++ stripes_records (stripes_over stripes) ≡ map (record_over numbers) (groups_records 0 groups ++ stripes_records stripes)
  parts_over groups stripes placed =
      ap (λ (rs : List Record). groups_records 0 groups ++ rs) (stripes_records_over stripes placed)
      ∙ ap (λ (rs : List Record). rs ++ map (record_over numbers) (stripes_records stripes)) (sym (groups_over 0 groups))
      ∙ sym (map-append (record_over numbers) (groups_records 0 groups) (stripes_records stripes))

  -- ---- a state with these slots

  slot_over : (limits : Limits) (n : ℕ) → length numbers ≤ limits.slots → IsPlaced numbers n → is_slot limits (slot_for numbers n) ≡ true
  slot_over limits n enough (inl zero_block) = rw zero_block refl
  slot_over limits n enough (inr has) = by (eqb n 4294967295) refl
    where
      or_true : (b : Bool) {c : Bool} → c ≡ true → (b || c) ≡ true
      or_true true is = refl
      or_true false is = is

      by : (z : Bool) → eqb n 4294967295 ≡ z → is_slot limits (cond z 4294967295 (place_of numbers n)) ≡ true
      by true is = refl
      by false is = or_true (eqb (place_of numbers n) 4294967295) (lt-ltb (place_of numbers n) limits.slots (grind (arith, nat_tests)))

  rises_over : (limits now : Limits) (under : Option Entry) (entries : List Entry) → length numbers ≤ now.slots → AllPlaced entries
      → Rises limits under entries → Rises now (option_map (entry_over numbers) under) (map (entry_over numbers) entries)
  rises_over limits now under [] enough placed rises = tt
  rises_over limits now under (e ∷ entries) enough placed rises =
      (above under rises.0, (slot_over now e.block enough placed.0, rises_over limits now (Some e) entries enough placed.1 rises.1.1))
    where
      above : (u : Option Entry) → IsAbove u e → IsAbove (option_map (entry_over numbers) u) (entry_over numbers e)
      above None is = tt
      above (Some u) is = is

  first_over : (p : Place) (s : StripeOf Entry) → is_first p (stripe_over numbers s) ≡ is_first p s
  first_over p s =
      ap (λ (n : ℕ). stamp_same s.order first_stamp && ((eqb n 0) && ((s.from_start && (eqb p.1 1)) || (not s.from_start && not (eqb p.1 1)))))
      (length-map s.added (entry_over numbers))

  stripe_kept : (limits now : Limits) (p : Place) (s : StripeOf Entry) → length numbers ≤ now.slots → AllPlaced s.added
      → IsKeptStripe limits p s → IsKeptStripe now p (stripe_over numbers s)
  stripe_kept limits now p s enough placed kept = record {
    group = kept.group;
    changed = first_over p s ∙ kept.changed;
    start = kept.start;
    no_start = λ is none. kept.no_start is (empty s.added none);
    rises = subst (λ (u : Option Entry). Rises now u (map (entry_over numbers) s.added)) (start_over s.from_start)
        (rises_over limits now (start_of s.from_start) s.added enough placed kept.rises);
  }
    where
      empty : (entries : List Entry) → map (entry_over numbers) entries ≡ [] → entries ≡ []
      empty [] is = refl
      empty (e ∷ entries) is = absurd cc

  stripes_kept : (limits now : Limits) (stripes : List (Place × StripeOf Entry)) → length numbers ≤ now.slots
      → AllByRecursion (IsPlaced numbers) (slots_in stripes) → AllByRecursion (λ e. IsKeptStripe limits e.0 e.1) stripes
      → AllByRecursion (λ e. IsKeptStripe now e.0 e.1) (stripes_over stripes)
  unfolding slots_in
  stripes_kept limits now [] enough placed kept = tt
  stripes_kept limits now (e ∷ stripes) enough placed kept =
      let split = all_split (IsPlaced numbers) (map slot_of e.1.added) (slots_in stripes) placed in
      (stripe_kept limits now e.0 e.1 enough split.0 kept.0, stripes_kept limits now stripes enough split.1 kept.1)

  keys_over : (stripes : List (Place × StripeOf Entry)) → keys_of (stripes_over stripes) ≡ keys_of stripes
  keys_over [] = refl
  keys_over (e ∷ stripes) = ap (λ (ks : List Place). e.0 ∷ ks) (keys_over stripes)

  weight_over : (s : StripeOf Entry) → weight (stripe_over numbers s) ≡ weight s
  weight_over s = ap (λ (n : ℕ). cond (stamp_same s.order first_stamp) 0 1 + n) (length-map s.added (entry_over numbers))

  live_over : (stripes : List (Place × StripeOf Entry)) → live_in (stripes_over stripes) ≡ live_in stripes
  live_over [] = refl
  live_over (e ∷ stripes) =
      sum_by-cons weight (stripe_over numbers e.1) (values_of (stripes_over stripes))
      ∙ (ap (λ (n : ℕ). n + live_in (stripes_over stripes)) (weight_over e.1) ∙ ap (λ (n : ℕ). weight e.1 + n) (live_over stripes))
      ∙ sym (sum_by-cons weight e.1 (values_of stripes))

-- ---- the state that is brought over

pub brought_live : (st : StateOf Entry) → live st ≤ 4294967295 → live (brought st) ≡ live st
brought_live st few = live_over (numbers_of st) (omega (arith, numbers_few st, few)) st.stripes

pub brought_records : (st : StateOf Entry) → live st ≤ 4294967295
    → groups_records 0 (brought st).groups ++ stripes_records (brought st).stripes
    ≡ map (record_over (numbers_of st)) (groups_records 0 st.groups ++ stripes_records st.stripes)
brought_records st few = parts_over (numbers_of st) (omega (arith, numbers_few st, few)) st.groups st.stripes (slots_placed st)

pub brought_kept : (limits now : Limits) (st : StateOf Entry) → now.records ≡ limits.records → limits.records ≤ now.slots → limits.records ≤ 4294967295
    → IsKeptState limits st → IsKeptState now (brought st)
brought_kept limits now st records enough few kept =
    let long : length (numbers_of st) ≤ 4294967295 = omega (arith, numbers_few st, kept.within, few) in
    record {
      all_groups = kept.all_groups;
      groups = kept.groups;
      sorted = subst (λ (ks : List Place). IsStrictlySortedBy place_cmp ks) (sym (keys_over (numbers_of st) long st.stripes)) kept.sorted;
      stripes = stripes_kept (numbers_of st) long limits now st.stripes (omega (arith, numbers_few st, kept.within, enough)) (slots_placed st) kept.stripes;
      within = omega (arith, brought_live st (omega (arith, kept.within, few)), kept.within, records);
    }
