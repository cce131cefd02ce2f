-- A stripe that grows, past all stripes that are done.
use Rattle.std.proofs.Common.{◌≡◌, ℕ, ◌+◌, ◌<◌, Bool, true, false, cond, Option, Some, None, List, [], ◌∷◌, ◌++◌, refl, sym, ap, ◌∙◌, arith}
use Rattle.std.specs.List.{sum_by}
use Rattle.std.specs.Map.{remove_entry, values_of}
use Rattle.std.specs.BTreeMap.{insert_entry, is_at}
use Rattle.std.specs.Option.{unwrap_or}
use Rattle.std.proofs.lemmas.Bool.{lt-ltb, lt-leb}
use Rattle.std.proofs.lemmas.List.{map-append}
use Rattle.std.proofs.lemmas.List.Sums.{sum_by-append, sum_by-cons}
use Rattle.brick_state.specs.declared.groups.Group.{Group}
use Rattle.brick_state.specs.Entries.{Entry}
use Rattle.brick_state.specs.States.{Place, StripeOf, StateOf, place_cmp, first_stripe, is_first, stripe_in, stripe_at, put, weight, live_in}
use Rattle.brick_state.specs.Folds.{Limits, applied, log_changed, is_full, placed}
use Rattle.brick_state.specs.Rewrites.{version_change, version_record}
use Rattle.brick_state.proofs.Listings.{AllBelow, insert_last, insert_again, lookup_last, lookup_above, remove_above, remove_last}
use Rattle.brick_state.proofs.StripeMaps.{place_total, is_first-true, weight_first}

abbrev pub Stripes : Type 0
Stripes = List (Place × StripeOf Entry)

-- a state of these parts
abbrev pub parts : ℕ → List Group → Stripes → StateOf Entry
parts n groups stripes = record { boot = n; groups = groups; stripes = stripes }

abbrev pub IsPast : Place → Stripes → Type 0
IsPast p done = AllBelow place_total p done

-- the stripes that are done, and this one where something happened to it
abbrev pub with_last : Place → StripeOf Entry → Stripes → Stripes
with_last p s done = cond (is_first p s) done (done ++ (p, s) ∷ [])

-- it is there
pub stripe_last : (p : Place) (s : StripeOf Entry) (done : Stripes) → IsPast p done → stripe_in (with_last p s done) p ≡ s
stripe_last p s done past = by (is_first p s) refl
  where
    by : (b : Bool) → is_first p s ≡ b → stripe_in (cond b done (done ++ (p, s) ∷ [])) p ≡ s
    by true at = ap (λ (found : Option (StripeOf Entry)). unwrap_or found (first_stripe p)) (lookup_above place_total p done past)
        ∙ sym (is_first-true p s at)
    by false at = ap (λ (found : Option (StripeOf Entry)). unwrap_or found (first_stripe p)) (lookup_last place_total p s done past)

-- another one in its place
pub put_last : (p : Place) (s next : StripeOf Entry) (done : Stripes) → IsPast p done → put p next (with_last p s done) ≡ with_last p next done
put_last p s next done past = by (is_first p s) (is_first p next)
  where
    by : (b d : Bool) → cond d (remove_entry (is_at (place_cmp p)) (cond b done (done ++ (p, s) ∷ [])))
        (insert_entry place_cmp (cond b done (done ++ (p, s) ∷ [])) p next) ≡ cond d done (done ++ (p, next) ∷ [])
    by true true = remove_above place_total p done past
    by true false = insert_last place_total p next done past
    by false true = remove_last place_total p s done past
    by false false = insert_again place_total p s next done past

-- its live records
pub live_last : (p : Place) (s : StripeOf Entry) (done : Stripes) → live_in (with_last p s done) ≡ live_in done + weight s
live_last p s done = by (is_first p s) refl
  where
    one : sum_by weight (values_of done ++ s ∷ []) ≡ live_in done + weight s
    one = sum_by-append weight (values_of done) (s ∷ []) ∙ ap (λ n. live_in done + n) (sum_by-cons weight s [] ∙ omega arith)

    by : (b : Bool) → is_first p s ≡ b → live_in (cond b done (done ++ (p, s) ∷ [])) ≡ live_in done + weight s
    by true at = omega (arith, weight_first p s at)
    by false at = ap (sum_by weight) (map-append (λ (e : Place × StripeOf Entry). e.1) done ((p, s) ∷ [])) ∙ one

-- a change of its log that can be
pub changed_last : (limits : Limits) (n : ℕ) (groups : List Group) (p : Place) (s next : StripeOf Entry) (done : Stripes) (under : Option Entry)
    (e : Entry) → p.0 < 64 → IsPast p done
    → live_in done + weight s < limits.records → log_changed limits false (version_change under e) e.stamp s ≡ Some next
    → applied limits (version_record p under e) (parts n groups (with_last p s done)) ≡ Some (parts n groups (with_last p next done))
unfolding applied
changed_last limits n groups p s next done under e group past room change =
    let st = parts n groups (with_last p s done) in
    let here : stripe_at st p ≡ s = stripe_last p s done past in
    let free : is_full limits st ≡ false = lt-leb _ _ (omega (arith, live_last p s done, room)) in
    let changed : log_changed limits (is_full limits st) (version_change under e) e.stamp (stripe_at st p) ≡ Some next
    = ap (λ (b : Bool). log_changed limits b (version_change under e) e.stamp (stripe_at st p)) free
    ∙ ap (log_changed limits false (version_change under e) e.stamp) here ∙ change in
    ap (λ (b : Bool). cond b (placed p st (log_changed limits (is_full limits st) (version_change under e) e.stamp (stripe_at st p))) None)
    (lt-ltb p.0 64 group)
    ∙ ap (placed p st) changed
    ∙ ap (λ (stripes : Stripes). Some (parts n groups stripes)) (put_last p s next done past)
