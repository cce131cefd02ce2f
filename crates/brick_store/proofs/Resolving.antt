-- A change of a state with slots is that change of the state with their blocks.
use Rattle.std.proofs.Common.{◌≡◌, ℕ, ◌+◌, ◌-◌, max, Bool, true, false, not, ◌&&◌, ◌||◌, cond, eqb, Option, Some, None, List, [], ◌∷◌, map, refl, sym, ap, ◌∙◌}
use Rattle.std.specs.List.{AllByRecursion}
use Rattle.std.specs.Map.{lookup, remove_entry, values_of}
use Rattle.std.specs.BTreeMap.{insert_entry, is_at}
use Rattle.std.specs.Option.{unwrap_or, option_map}
use Rattle.std.proofs.lemmas.List.{length-map, map-append}
use Rattle.std.proofs.lemmas.List.Sums.{sum_by-cons}
use Rattle.std.proofs.lemmas.Map.Made.{lookup-map_values}
use Rattle.version_log.proofs.RisingLogs.{filter-map}
use Rattle.fab_base.specs.declared.stamps.Stamp.{Stamp}
use Rattle.fab_base.specs.declared.stamps.Ballot.{Ballot}
use Rattle.fab_base.specs.declared.identities.BrickId.{BrickId}
use Rattle.fab_base.specs.declared.member_lists.View.{View}
use Rattle.fab_base.specs.Stamps.{stamp_below, stamp_same, first_stamp}
use Rattle.version_log.specs.Versions.{Version, version}
use Rattle.brick_state.specs.Entries.{Entry}
use Rattle.brick_state.specs.States.{Place, StripeOf, StateOf, place_cmp, first_stripe, is_first, stripe_at, put, weight, live, live_in, stamp_of, with_stripe, with_order, with_added, with_collected, ordered, added, collected, viewed, balloted, booted, is_of_view}
use Rattle.brick_state.specs.Times.{greatest, stripe_time, top_time}
use Rattle.brick_state.proofs.Greatest.{greatest-map}
use Rattle.brick_state.proofs.Listings.{map_values, map_values-insert_entry, map_values-remove_entry, map_values-filter}
use Rattle.brick_store.specs.Blocks.{resolved, resolved_stripe, version_stamp}
use Rattle.brick_store.specs.Standing.{AllSlots}

module _ (block : ℕ → List ℕ) where
  -- the version of an entry
  abbrev pub version_of : Entry → Version
  version_of e = version e.stamp (block e.block)

  abbrev stripes_of : List (Place × StripeOf Entry) → List (Place × StripeOf Version)
  stripes_of stripes = map_values (resolved_stripe block) stripes

  -- ---- a stripe

  -- nothing happened to it, or to the one with blocks
  is_first-resolved : (p : Place) (s : StripeOf Entry) → is_first p (resolved_stripe block s) ≡ is_first p s
  is_first-resolved p s =
      ap (λ (n : ℕ). stamp_same s.order first_stamp && ((eqb n 0) && ((s.from_start && (eqb p.1 1)) || (not s.from_start && not (eqb p.1 1)))))
      (length-map s.added version_of)

  put-resolved : (p : Place) (s : StripeOf Entry) (stripes : List (Place × StripeOf Entry)) → stripes_of (put p s stripes) ≡ put p
      (resolved_stripe block s) (stripes_of stripes)
  put-resolved p s stripes = by (is_first p s) ∙ ap (λ (b : Bool). cond b (remove_entry (is_at (place_cmp p)) (stripes_of stripes))
      (insert_entry place_cmp (stripes_of stripes) p (resolved_stripe block s))) (sym (is_first-resolved p s))
    where
      by : (b : Bool) → stripes_of (cond b (remove_entry (is_at (place_cmp p)) stripes) (insert_entry place_cmp stripes p s))
          ≡ cond b (remove_entry (is_at (place_cmp p)) (stripes_of stripes)) (insert_entry place_cmp (stripes_of stripes) p (resolved_stripe block s))
      by true = map_values-remove_entry (resolved_stripe block) (is_at (place_cmp p)) stripes
      by false = map_values-insert_entry (resolved_stripe block) place_cmp stripes p s

  found_first : (p : Place) (found : Option (StripeOf Entry)) → unwrap_or (option_map (resolved_stripe block) found)
      (first_stripe p) ≡ resolved_stripe block (unwrap_or found (first_stripe p))
  found_first p None = refl
  found_first p (Some s) = refl

  -- the stripe at a place
  pub stripe_at-resolved : (st : StateOf Entry) (p : Place) → stripe_at (resolved block st) p ≡ resolved_stripe block (stripe_at st p)
  unfolding resolved
  stripe_at-resolved st p =
      ap (λ (found : Option (StripeOf Version)). unwrap_or found (first_stripe p))
      (lookup-map_values (resolved_stripe block) (is_at (place_cmp p)) st.stripes)
      ∙ found_first p (lookup (is_at (place_cmp p)) st.stripes)

  -- a stripe put in place
  pub with_stripe-resolved : (p : Place) (s : StripeOf Entry) (st : StateOf Entry) → resolved block (with_stripe p s st) ≡ with_stripe p
      (resolved_stripe block s) (resolved block st)
  unfolding resolved
  with_stripe-resolved p s st = ap (λ (stripes : List (Place × StripeOf Version)). record { boot = st.boot; groups = st.groups; stripes = stripes })
      (put-resolved p s st.stripes)

  -- ---- changes of a stripe

  stripe_of : Stamp → Bool → List Version → StripeOf Version
  stripe_of order from versions = record { order = order; from_start = from; added = versions }

  pub with_added-resolved : (e : Entry) (s : StripeOf Entry) → resolved_stripe block (with_added e s) ≡ with_added (version_of e)
      (resolved_stripe block s)
  unfolding stripe_of
  with_added-resolved e s = ap (stripe_of s.order s.from_start) (map-append version_of s.added (e ∷ []))

  pub with_collected-resolved : (c : Stamp) (s : StripeOf Entry)
      → resolved_stripe block (with_collected stamp_of c s) ≡ with_collected version_stamp c (resolved_stripe block s)
  unfolding stripe_of
  with_collected-resolved c s = ap (stripe_of s.order (s.from_start && not (stamp_below first_stamp c)))
      (sym (filter-map version_of (λ v. not (stamp_below (version_stamp v) c)) s.added))

  pub ordered-resolved : (p : Place) (t : Stamp) (st : StateOf Entry) → resolved block (ordered p t st) ≡ ordered p t (resolved block st)
  ordered-resolved p t st =
      with_stripe-resolved p (with_order t (stripe_at st p)) st
      ∙ ap (λ (s : StripeOf Version). with_stripe p (with_order t s) (resolved block st)) (sym (stripe_at-resolved st p))

  pub added-resolved : (p : Place) (e : Entry) (st : StateOf Entry) → resolved block (added p e st) ≡ added p (version e.stamp (block e.block))
      (resolved block st)
  added-resolved p e st =
      with_stripe-resolved p (with_added e (stripe_at st p)) st
      ∙ ap (λ (s : StripeOf Version). with_stripe p s (resolved block st)) (with_added-resolved e (stripe_at st p))
      ∙ ap (λ (s : StripeOf Version). with_stripe p (with_added (version_of e) s) (resolved block st)) (sym (stripe_at-resolved st p))

  pub collected-resolved : (p : Place) (c : Stamp) (st : StateOf Entry) → resolved block (collected stamp_of p c st) ≡ collected version_stamp p c
      (resolved block st)
  collected-resolved p c st =
      with_stripe-resolved p (with_collected stamp_of c (stripe_at st p)) st
      ∙ ap (λ (s : StripeOf Version). with_stripe p s (resolved block st)) (with_collected-resolved c (stripe_at st p))
      ∙ ap (λ (s : StripeOf Version). with_stripe p (with_collected version_stamp c s) (resolved block st)) (sym (stripe_at-resolved st p))

  -- ---- changes of groups, and the boot count

  pub viewed-resolved : (g : ℕ) (view : View) (synced : Bool) (st : StateOf Entry) → resolved block (viewed g view synced st) ≡ viewed g view synced
      (resolved block st)
  unfolding resolved
  viewed-resolved g view synced st =
      ap (λ (stripes : List (Place × StripeOf Version)). record (viewed g view synced (resolved block st)) { stripes = stripes })
      (map_values-filter (resolved_stripe block) (λ (p : Place). not (is_of_view g (cond synced view.number.0 (view.number.0 - 1)) p)) st.stripes)

  pub balloted-resolved : (g : ℕ) (promised : Ballot) (accepted : Option (Ballot × List BrickId)) (st : StateOf Entry)
      → resolved block (balloted g promised accepted st) ≡ balloted g promised accepted (resolved block st)
  unfolding resolved
  balloted-resolved g promised accepted st = refl

  pub booted-resolved : (n : ℕ) (st : StateOf Entry) → resolved block (booted n st) ≡ booted n (resolved block st)
  unfolding resolved
  booted-resolved n st = refl

  pub boot-resolved : (st : StateOf Entry) → (resolved block st).boot ≡ st.boot
  unfolding resolved
  boot-resolved st = refl

  pub groups-resolved : (st : StateOf Entry) → (resolved block st).groups ≡ st.groups
  unfolding resolved
  groups-resolved st = refl

  -- ---- live records

  weight-resolved : (s : StripeOf Entry) → weight (resolved_stripe block s) ≡ weight s
  weight-resolved s = ap (λ (n : ℕ). cond (stamp_same s.order first_stamp) 0 1 + n) (length-map s.added version_of)

  live_in-resolved : (stripes : List (Place × StripeOf Entry)) → live_in (stripes_of stripes) ≡ live_in stripes
  live_in-resolved [] = refl
  live_in-resolved (e ∷ stripes) =
      sum_by-cons weight (resolved_stripe block e.1) (values_of (stripes_of stripes))
      ∙ (ap (λ (n : ℕ). n + live_in (stripes_of stripes)) (weight-resolved e.1) ∙ ap (λ (n : ℕ). weight e.1 + n) (live_in-resolved stripes))
      ∙ sym (sum_by-cons weight e.1 (values_of stripes))

  pub live-resolved : (st : StateOf Entry) → live (resolved block st) ≡ live st
  unfolding resolved
  live-resolved st = live_in-resolved st.stripes

-- ---- other blocks

-- a state is seen the same by blocks that agree on its slots
added_same : (block other : ℕ → List ℕ) (entries : List Entry) → AllByRecursion (λ v. block v.block ≡ other v.block) entries
    → map (version_of block) entries ≡ map (version_of other) entries
added_same block other [] same = refl
added_same block other (e ∷ entries) same =
    ap (λ (b : List ℕ). version e.stamp b ∷ map (version_of block) entries) same.0 ∙ ap (λ (vs : List Version). version_of other e ∷ vs)
    (added_same block other entries same.1)

stripes_same : (block other : ℕ → List ℕ) (stripes : List (Place × StripeOf Entry))
    → AllByRecursion (λ e. AllByRecursion (λ v. block v.block ≡ other v.block) e.1.added) stripes
    → map_values (resolved_stripe block) stripes ≡ map_values (resolved_stripe other) stripes
stripes_same block other [] same = refl
stripes_same block other (e ∷ stripes) same =
    ap (λ (vs : List Version). (e.0, resolved_with e.1.order e.1.from_start vs) ∷ map_values (resolved_stripe block) stripes)
    (added_same block other e.1.added same.0)
    ∙ ap (λ (es : List (Place × StripeOf Version)). (e.0, resolved_stripe other e.1) ∷ es) (stripes_same block other stripes same.1)
  where
    resolved_with : Stamp → Bool → List Version → StripeOf Version
    resolved_with order from vs = record { order = order; from_start = from; added = vs }

pub resolved_same : (block other : ℕ → List ℕ) (st : StateOf Entry) → AllSlots (λ slot. block slot ≡ other slot) st
    → resolved block st ≡ resolved other st
unfolding resolved
resolved_same block other st same = ap (λ (stripes : List
    (Place × StripeOf Version)). record { boot = st.boot; groups = st.groups; stripes = stripes }) (stripes_same block other st.stripes same)

-- what holds of each slot is so of what follows from it
entries_imply : (P Q : ℕ → Type 0) → ((slot : ℕ) → P slot → Q slot) → (entries : List Entry) → AllByRecursion (λ v. P v.block) entries
    → AllByRecursion (λ v. Q v.block) entries
entries_imply P Q step [] all = tt
entries_imply P Q step (e ∷ entries) all = (step e.block all.0, entries_imply P Q step entries all.1)

stripes_imply : (P Q : ℕ → Type 0) → ((slot : ℕ) → P slot → Q slot) → (stripes : List (Place × StripeOf Entry))
    → AllByRecursion (λ e. AllByRecursion (λ v. P v.block) e.1.added) stripes → AllByRecursion (λ e. AllByRecursion (λ v. Q v.block) e.1.added) stripes
stripes_imply P Q step [] all = tt
stripes_imply P Q step (e ∷ stripes) all = (entries_imply P Q step e.1.added all.0, stripes_imply P Q step stripes all.1)

pub slots_imply : (P Q : ℕ → Type 0) → ((slot : ℕ) → P slot → Q slot) → (st : StateOf Entry) → AllSlots P st → AllSlots Q st
slots_imply P Q step st all = stripes_imply P Q step st.stripes all

-- ---- times

stripe_time-resolved : (block : ℕ → List ℕ) (s : StripeOf Entry) → stripe_time version_stamp (resolved_stripe block s) ≡ stripe_time stamp_of s
stripe_time-resolved block s = ap (max s.order.time) (greatest-map (λ v. (version_stamp v).time) (version_of block) s.added)

times-resolved : (block : ℕ → List ℕ) (stripes : List (Place × StripeOf Entry))
    → greatest (stripe_time version_stamp) (values_of (map_values (resolved_stripe block) stripes)) ≡ greatest (stripe_time stamp_of)
    (values_of stripes)
unfolding greatest
times-resolved block [] = refl
times-resolved block (e ∷ stripes) =
    ap (λ (n : ℕ). max n (greatest (stripe_time version_stamp) (values_of (map_values (resolved_stripe block) stripes))))
    (stripe_time-resolved block e.1)
    ∙ ap (max (stripe_time stamp_of e.1)) (times-resolved block stripes)

pub top_time-resolved : (block : ℕ → List ℕ) (st : StateOf Entry) → top_time version_stamp (resolved block st) ≡ top_time stamp_of st
unfolding resolved
top_time-resolved block st = times-resolved block st.stripes
