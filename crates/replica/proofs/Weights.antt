-- Live records of each view, once a stripe is put in its place.
use Rattle.std.proofs.Common.{◌≡◌, ℕ, ◌+◌, ◌-◌, Bool, true, false, not, cond, eqb, List, [], ◌∷◌, refl, sym, ap, subst, ◌∙◌, arith, eq-eqb}
use Rattle.std.specs.Prelude.{◌&&◌}
use Rattle.std.specs.List.{filter}
use Rattle.std.specs.List.Sorted.{IsStrictlySortedBy}
use Rattle.std.specs.Map.{values_of, keys_of, remove_entry}
use Rattle.std.specs.Ordering.{is_eq, match_ordering}
use Rattle.std.specs.declared.cmp.Ordering.{Ordering}
use Rattle.std.specs.declared.cmp.Ordering.TheVariants.{Less, Equal, Greater}
use Rattle.std.specs.BTreeMap.{insert_entry, is_at}
use Rattle.std.proofs.lemmas.Bool.{and_from, eqb-true, ne_eqb}
use Rattle.std.proofs.lemmas.List.Sums.{sum_by-cons}
use Rattle.messages.specs.declared.calls.Call.{Call}
use Rattle.version_log.specs.Versions.{Version}
use Rattle.brick_state.specs.States.{Place, StripeOf, StateOf, place_cmp, stripe_at, with_stripe, is_first, put, weight, live_in}
use Rattle.brick_state.proofs.StripeMaps.{place_exact}
use Rattle.protocol.specs.Replicas.{Reaction}
use Rattle.protocol.specs.Nodes as machine
use Rattle.protocol.specs.Nodes.{with_live}
use Rattle.replica.specs.Parts.{is_in_view, live_at}
use Rattle.replica.specs.Reactions.{place_of}
use Rattle.replica.proofs.Places.{live_put}
use Rattle.replica.proofs.Viewing.{live_cons}

differ : {A : Type 0} → false ≡ true → A
differ h = absurd cc

abbrev Stripes : Type 0
Stripes = List (Place × StripeOf Version)

-- ---- stripes that do not pass a test

module _ (keep : Place → Bool) (p : Place) (s : StripeOf Version) (out : keep p ≡ false) where
  abbrev kept : Stripes → Stripes
  kept es = filter (λ x. keep x.0) es

  -- one of them more or less is not seen
  skip : (x : Place × StripeOf Version) (es : Stripes) → keep x.0 ≡ false → kept (x ∷ es) ≡ kept es
  skip x es none = ap (λ (b : Bool). cond b (x ∷ kept es) (kept es)) none

  here : (q : Place) → place_cmp p q ≡ Equal → keep q ≡ false
  here q at = subst (λ (x : Place). keep x ≡ false) (place_exact p q at) out

  inserted : (es : Stripes) → kept (insert_entry place_cmp es p s) ≡ kept es
  inserted [] = skip (p, s) [] out
  inserted (e ∷ es) = by (place_cmp p e.0) refl (inserted es)
    where
      by : (r : Ordering) → place_cmp p e.0 ≡ r → kept (insert_entry place_cmp es p s) ≡ kept es
          → kept (match_ordering r ((p, s) ∷ e ∷ es) ((e.0, s) ∷ es) (e ∷ insert_entry place_cmp es p s)) ≡ kept (e ∷ es)
      by Less at rest = skip (p, s) (e ∷ es) out
      by Equal at rest = skip (e.0, s) es (here e.0 at) ∙ sym (skip e es (here e.0 at))
      by Greater at rest = ap (λ (xs : Stripes). cond (keep e.0) (e ∷ xs) xs) rest

  removed : (es : Stripes) → kept (remove_entry (is_at (place_cmp p)) es) ≡ kept es
  removed [] = refl
  removed (e ∷ es) = by (place_cmp p e.0) refl (removed es)
    where
      by : (r : Ordering) → place_cmp p e.0 ≡ r → kept (remove_entry (is_at (place_cmp p)) es) ≡ kept es
          → kept (cond (is_eq r) es (e ∷ remove_entry (is_at (place_cmp p)) es)) ≡ kept (e ∷ es)
      by Less at rest = ap (λ (xs : Stripes). cond (keep e.0) (e ∷ xs) xs) rest
      by Greater at rest = ap (λ (xs : Stripes). cond (keep e.0) (e ∷ xs) xs) rest
      by Equal at rest = sym (skip e es (here e.0 at))

  put_away : (es : Stripes) → kept (put p s es) ≡ kept es
  put_away es = by (is_first p s)
    where
      by : (b : Bool) → kept (cond b (remove_entry (is_at (place_cmp p)) es) (insert_entry place_cmp es p s)) ≡ kept es
      by true = removed es
      by false = inserted es

-- ---- live records

-- those that pass a test and those that do not are all
live_parted : (keep : Place → Bool) (es : Stripes)
    → live_in (filter (λ x. keep x.0) es) + live_in (filter (λ x. not (keep x.0)) es) ≡ live_in es
live_parted keep [] = refl
live_parted keep (x ∷ es) =
    let left = live_cons (λ y. keep y.0) x es in
    let right = live_cons (λ y. not (keep y.0)) x es in
    let all = sum_by-cons weight x.1 (values_of es) in
    let rest = live_parted keep es in
    let both = either (keep x.0) (weight x.1) in
    omega (arith, left, right, all, rest, both)
  where
    either : (b : Bool) (w : ℕ) → cond b w 0 + cond (not b) w 0 ≡ w
    either true w = omega arith
    either false w = omega arith

module _ (call : Call) (new : StripeOf Version) (st : StateOf Version) (sorted : IsStrictlySortedBy place_cmp (keys_of st.stripes)) (reaction : Reaction)
    (change : (now was : ℕ) → now + weight (stripe_at st (place_of call)) ≡ was + weight new → now ≡ was + reaction.adds - reaction.drops) where
  abbrev g : ℕ
  g = call.group.0

  abbrev e : ℕ
  e = call.view.0

  abbrev in_view : ℕ → ℕ → Place → Bool
  in_view h v q = eqb q.0 h && eqb q.1 v

  abbrev after : Stripes
  after = put (place_of call) new st.stripes

  -- the place's own view
  own : live_in (filter (is_in_view g e) after) ≡ live_at st g e + reaction.adds - reaction.drops
  own =
      let inside : in_view g e (place_of call) ≡ true = and_from _ _ (eq-eqb g g refl) (eq-eqb e e refl) in
      let rest = put_away (λ q. not (in_view g e q)) (place_of call) new (ap not inside) st.stripes in
      let before_all = live_parted (in_view g e) st.stripes in
      let after_all = live_parted (in_view g e) after in
      let whole = live_put (place_of call) new st.stripes sorted in
      let others : live_in (filter (λ x. not (in_view g e x.0)) after) ≡ live_in (filter (λ x. not (in_view g e x.0)) st.stripes) =
      ap live_in rest in
      change (live_in (filter (is_in_view g e) after)) (live_at st g e) (omega (arith, before_all, after_all, whole, others))

  -- another
  away : (h v : ℕ) → in_view h v (place_of call) ≡ false → live_in (filter (is_in_view h v) after) ≡ live_at st h v
  away h v other = ap live_in (put_away (in_view h v) (place_of call) new other st.stripes)

  -- so those of the call's view change by what the reaction adds and drops, and no others
  pub live_in_put : (h v : ℕ) → live_at (with_stripe (place_of call) new st) h v ≡ with_live (live_at st) call reaction h v
  live_in_put h v = by (eqb h g) refl
    where
      now : ℕ → ℕ → ℕ
      now = live_at (with_stripe (place_of call) new st)

      swap : (a b : ℕ) → eqb a b ≡ false → eqb b a ≡ false
      swap a b h' = ne_eqb b a (λ same. differ (sym h' ∙ eq-eqb a b (sym same)))

      view_out : (b : Bool) → (b && false) ≡ false
      view_out true = refl
      view_out false = refl

      inside : (d : Bool) → eqb v e ≡ d → now g v ≡ cond d (live_at st g e + reaction.adds - reaction.drops) (live_at st g v)
      inside true is = ap (now g) (eqb-true v e is) ∙ own
      inside false is = away g v (ap (λ (b : Bool). eqb g g && b) (swap v e is) ∙ view_out (eqb g g))

      by : (b : Bool) → eqb h g ≡ b
          → now h v ≡ cond b (machine.put (live_at st g) e (live_at st g e + reaction.adds - reaction.drops)) (live_at st h) v
      by true is = ap (λ (i : ℕ). now i v) (eqb-true h g is) ∙ inside (eqb v e) refl
      by false is = away h v (ap (λ (b : Bool). b && eqb e v) (swap h g is))

-- a reaction that adds and drops nothing changes none
pub live_in_same : (f : ℕ → ℕ → ℕ) (call : Call) (reaction : Reaction) → reaction.adds ≡ 0 → reaction.drops ≡ 0 → (h v : ℕ)
    → f h v ≡ with_live f call reaction h v
live_in_same f call reaction adds drops h v = by (eqb h g) refl
  where
    g : ℕ
    g = call.group.0

    e : ℕ
    e = call.view.0

    here : f g e ≡ f g e + reaction.adds - reaction.drops
    here = omega (arith, adds, drops)

    inside : (d : Bool) → eqb v e ≡ d → f g v ≡ cond d (f g e + reaction.adds - reaction.drops) (f g v)
    inside true is = ap (f g) (eqb-true v e is) ∙ here
    inside false is = refl

    by : (b : Bool) → eqb h g ≡ b → f h v ≡ cond b (machine.put (f g) e (f g e + reaction.adds - reaction.drops)) (f h) v
    by true is = ap (λ (i : ℕ). f i v) (eqb-true h g is) ∙ inside (eqb v e) refl
    by false is = refl
