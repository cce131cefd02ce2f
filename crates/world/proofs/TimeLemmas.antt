-- When all times of a brick are early: as its greatest times tell.
use Rattle.std.proofs.Common.{◌≡◌, ℕ, zero, suc, ◌<◌, Bool, true, false, cond, nat_lt, max, List, [], ◌∷◌, ◌++◌, Option, Some, None, refl, sym, ap, ◌∙◌, subst, arith}
use Rattle.std.specs.Prelude.{slice_get, unwrap_or, replicate}
use Rattle.std.specs.Map.{lookup, keys_of, values_of}
use Rattle.std.specs.BTreeMap.{is_at}
use Rattle.std.specs.Bool.{Decides}
use Rattle.std.specs.List.Sorted.{IsStrictlySortedBy}
use Rattle.std.specs.Option.{option_map}
use Rattle.std.proofs.lemmas.Bool.{cond_both}
use Rattle.std.proofs.lemmas.Bool.Decides.{nat_tests}
use Rattle.std.proofs.lemmas.Cmp.{eq_by_cmp_equiv}
use Rattle.std.proofs.lemmas.Map.Keys.{IsDistinct-from_sorted}
use Rattle.std.proofs.lemmas.Map.Entries.{lookup_from_place}
use Rattle.std.proofs.lemmas.Option.{slice_get-map, same_Some}
use Rattle.fab_base.specs.Stamps.{first_stamp}
use Rattle.messages.specs.declared.requests.Version.{Version as Told}
use Rattle.version_log.specs.Versions.{Version}
use Rattle.brick_state.specs.States.{Place, StateOf, StripeOf, place_cmp, first_stripe, stripe_at}
use Rattle.brick_state.specs.Times.{greatest, stripe_time, top_time}
use Rattle.brick_state.proofs.StripeMaps.{place_total}
use Rattle.brick_store.specs.Blocks.{log_of, log_at, version_stamp}
use Rattle.replica.specs.Parts.{as_version, part_in}
use Rattle.protocol.specs.Nodes.{Node}
use Rattle.protocol.specs.Calms.{IsEarly, early}

-- what is below a bound at each of a list is so at the greatest, and the other way round
below_each : {X : Type 0} (f : X → ℕ) (bound : ℕ) (xs : List X) → greatest f xs < bound
    → (k : ℕ) (x : X) → slice_get xs k ≡ Some x → f x < bound
unfolding greatest
below_each f bound [] less k x is = absurd (let never : None ≡ Some x = is in cc)
below_each f bound (y ∷ xs) less zero x is = subst (λ z. f z < bound) (same_Some y x is) (omega arith)
below_each f bound (y ∷ xs) less (suc k) x is = below_each f bound xs (omega arith) k x is

each_below : {X : Type 0} (f : X → ℕ) (bound : ℕ) (xs : List X) → 0 < bound
    → ((k : ℕ) (x : X) → slice_get xs k ≡ Some x → f x < bound) → greatest f xs < bound
unfolding greatest
each_below f bound [] some each = some
each_below f bound (y ∷ xs) some each =
    let first : f y < bound = each 0 y refl in
    let others : greatest f xs < bound = each_below f bound xs some (λ k x is. each (suc k) x is) in
    omega arith

-- what a look-up finds is one of the values
found_value : {K X : Type 0} (test : K → Bool) (entries : List (K × X)) (x : X) → lookup test entries ≡ Some x
    → (k : ℕ) × (slice_get (values_of entries) k ≡ Some x)
found_value test [] x is = absurd (let never : None ≡ Some x = is in cc)
found_value test (e ∷ entries) x is =
    cond_both (test e.0) (Some e.1) (lookup test entries) (λ found. found ≡ Some x → (k : ℕ) × (slice_get (values_of (e ∷ entries)) k ≡ Some x))
    (λ here at. (0, at))
    (λ there at. let more = found_value test entries x at in (suc more.0, more.1)) is

-- all times of a stripe's part are early
abbrev pub IsEarlyStripe : ℕ → StripeOf Version → Type 0
IsEarlyStripe block s = (s.order.time < early) × ((k : ℕ) (version : Version) → slice_get (log_of block s) k ≡ Some version → version.stamp.time < early)

stripe_early : (block : ℕ) (s : StripeOf Version) → stripe_time version_stamp s < early → IsEarlyStripe block s
stripe_early block s less = (omega arith, logged s.from_start)
  where
    added : (k : ℕ) (version : Version) → slice_get s.added k ≡ Some version → version.stamp.time < early
    added k version is = below_each (λ (e : Version). e.stamp.time) early s.added (omega arith) k version is

    logged : (from_start : Bool) (k : ℕ) (version : Version)
        → slice_get (cond from_start (record { stamp = first_stamp; block = replicate block 0 } ∷ []) [] ++ s.added) k ≡ Some version → version.stamp.time < early
    logged true zero version is = subst (λ (v : Version). v.stamp.time < early) (same_Some _ version is) (omega arith)
    logged true (suc k) version is = added k version is
    logged false k version is = added k version is

early_stripe : (block : ℕ) (s : StripeOf Version) → IsEarlyStripe block s → stripe_time version_stamp s < early
early_stripe block s is =
    let versions : greatest (λ (e : Version). e.stamp.time) s.added < early = each_below (λ (e : Version). e.stamp.time) early s.added (omega arith) (added s.from_start is.1) in
    let order : s.order.time < early = is.0 in
    omega arith
  where
    added : (from_start : Bool) → ((k : ℕ) (version : Version)
        → slice_get (cond from_start (record { stamp = first_stamp; block = replicate block 0 } ∷ []) [] ++ s.added) k ≡ Some version → version.stamp.time < early)
        → (k : ℕ) (version : Version) → slice_get s.added k ≡ Some version → version.stamp.time < early
    added true logged k version at = logged (suc k) version at
    added false logged k version at = logged k version at

-- a stripe of which nothing is kept
first_early : (s : StripeOf Version) → s.order ≡ first_stamp → s.added ≡ [] → stripe_time version_stamp s < early
unfolding greatest
first_early s order added = rw (order, added) (omega arith)

-- the stripe of a place is one that is kept, or as at first
stripe_cases : (st : StateOf Version) (block : ℕ) (p : Place) → top_time version_stamp st < early → IsEarlyStripe block (stripe_at st p)
stripe_cases st block p less = by_found (lookup (is_at (place_cmp p)) st.stripes) refl
  where
    by_found : (found : Option (StripeOf Version)) → lookup (is_at (place_cmp p)) st.stripes ≡ found → IsEarlyStripe block (unwrap_or found (first_stripe p))
    by_found None is = stripe_early block (first_stripe p) (first_early (first_stripe p) refl refl)
    by_found (Some s) is =
        let at = found_value (is_at (place_cmp p)) st.stripes s is in
        stripe_early block s (below_each (stripe_time version_stamp) early (values_of st.stripes) less at.0 s at.1)

-- where the greatest is early, the times of all parts are
parts_early : (st : StateOf Version) (block : ℕ) → top_time version_stamp st < early → (g e s : ℕ)
    → ((part_in block st g e s).order.time < early)
    × ((k : ℕ) (version : Told) → slice_get (part_in block st g e s).log k ≡ Some version → version.stamp.time < early)
parts_early st block less g e s =
    let is = stripe_cases st block (g, e, s) less in
    (is.0, λ k version at. told k version (slice_get (log_at block st (g, e, s)) k) refl (sym (slice_get-map as_version (log_at block st (g, e, s)) k) ∙ at))
  where
    told : (k : ℕ) (version : Told) (found : Option Version) → slice_get (log_at block st (g, e, s)) k ≡ found → option_map as_version found ≡ Some version
        → version.stamp.time < early
    told k version None at e' = absurd (let never : None ≡ Some version = e' in cc)
    told k version (Some v) at e' =
        subst (λ (x : Told). x.stamp.time < early) (same_Some (as_version v) version e') ((stripe_cases st block (g, e, s) less).1 k v at)

-- and the other way round, where stripes stand in order
stripe_kept : (st : StateOf Version) (block k : ℕ) (p : Place) (s : StripeOf Version) → IsStrictlySortedBy place_cmp (keys_of st.stripes) → slice_get st.stripes k ≡ Some (p, s)
    → stripe_at st p ≡ s
stripe_kept st block k p s ordered at =
    ap (λ (found : Option (StripeOf Version)). unwrap_or found (first_stripe p))
    (lookup_from_place (eq_by_cmp_equiv place_total) st.stripes k p s (IsDistinct-from_sorted place_cmp (keys_of st.stripes) ordered) at)

early_parts : (st : StateOf Version) (block : ℕ) → IsStrictlySortedBy place_cmp (keys_of st.stripes)
    → ((g e s : ℕ) → (part_in block st g e s).order.time < early)
    → ((g e s k : ℕ) (version : Told) → slice_get (part_in block st g e s).log k ≡ Some version → version.stamp.time < early)
    → top_time version_stamp st < early
early_parts st block ordered orders logs =
    each_below (stripe_time version_stamp) early (values_of st.stripes) (omega arith) (λ k s at. at_place k s (slice_get st.stripes k) refl (sym (slice_get-map (λ x. x.1) st.stripes k) ∙ at))
  where
    at_place : (k : ℕ) (s : StripeOf Version) (found : Option (Place × StripeOf Version)) → slice_get st.stripes k ≡ found
        → option_map (λ x. x.1) found ≡ Some s → stripe_time version_stamp s < early
    at_place k s None is e' = absurd (let never : None ≡ Some s = e' in cc)
    at_place k s (Some (p, x)) is e' =
        let same : x ≡ s = same_Some x s e' in
        let kept : stripe_at st p ≡ s = stripe_kept st block k p x ordered is ∙ same in
        subst (λ (y : StripeOf Version). stripe_time version_stamp y < early) kept
        (early_stripe block (stripe_at st p) (
          orders p.0 p.1 p.2,
          λ j version logged. logs p.0 p.1 p.2 j (as_version version)
              (slice_get-map as_version (log_at block st p) j ∙ ap (option_map as_version) logged),
        ))

-- so the greatest time decides
pub times_decide : (node : Node) (st : StateOf Version) (block known top : ℕ) → IsStrictlySortedBy place_cmp (keys_of st.stripes) → node.known ≡ known
    → top ≡ top_time version_stamp st → ((g e s : ℕ) → node.replicas g e s ≡ part_in block st g e s)
    → Decides (nat_lt (max known top) early) (IsEarly node)
times_decide node st block known top ordered knows is parts = (
  λ both.
      (let all : max known top < early = grind (arith, nat_tests, both) in
      let less : top_time version_stamp st < early = omega (arith, all, is) in
      record {
        known = omega (arith, all, knows);
        orders = λ g e s. subst (λ x. x.order.time < early) (sym (parts g e s)) (parts_early st block less g e s).0;
        logs = λ g e s k version at. (parts_early st block less g e s).1 k version (ap (λ x. slice_get x.log k) (sym (parts g e s)) ∙ at);
      }),
  λ holds.
      (let own : known < early = subst (λ (n : ℕ). n < early) knows holds.known in
      let less : top_time version_stamp st < early = early_parts st block ordered
      (λ g e s. subst (λ x. x.order.time < early) (parts g e s) (holds.orders g e s))
      (λ g e s k version at. holds.logs g e s k version (ap (λ x. slice_get x.log k) (parts g e s) ∙ at)) in
      let all : max known top < early = omega (arith, own, less, is) in
      grind (arith, nat_tests)),
)
