-- What stays of the stripes that a store keeps, and of their live records, where it drops a group's views below one.
use Rattle.std.proofs.Common.{◌≡◌, ℕ, zero, suc, ◌+◌, Bool, true, false, not, cond, eqb, ltb, Option, None, List, [], ◌∷◌, refl, sym, ap, ◌∙◌, arith}
use Rattle.std.specs.Prelude.{◌&&◌}
use Rattle.std.specs.List.{filter}
use Rattle.std.specs.Map.{lookup, values_of}
use Rattle.std.specs.Option.{unwrap_or}
use Rattle.std.specs.Ordering.{is_eq}
use Rattle.std.specs.declared.cmp.Ordering.{Ordering}
use Rattle.std.specs.declared.cmp.Ordering.TheVariants.{Less, Equal, Greater}
use Rattle.std.specs.BTreeMap.{is_at}
use Rattle.std.proofs.lemmas.Bool.{and_parts, eqb-true}
use Rattle.std.proofs.lemmas.Bool.Decides.{nat_tests}
use Rattle.std.proofs.lemmas.List.Sums.{sum_by-cons}
use Rattle.std.proofs.lemmas.Map.Entries.{lookup-filter-keys}
use Rattle.fab_base.specs.Stamps.{first_stamp}
use Rattle.version_log.specs.Versions.{Version}
use Rattle.brick_state.specs.States.{Place, StripeOf, place_cmp, first_stripe, weight, live_in, is_of_view}
use Rattle.brick_state.specs.States as states
use Rattle.brick_state.proofs.StripeMaps.{place_exact}
use Rattle.brick_store.specs.Blocks.{log_of}
use Rattle.protocol.specs.Replicas.{fresh_replica}
use Rattle.protocol.specs.Nodes.{live_before}
use Rattle.replica.specs.Parts.{part_of, is_in_view}

differ : {A : Type 0} → false ≡ true → A
differ h = absurd cc

abbrev Stripes : Type 0
Stripes = List (Place × StripeOf Version)

-- ---- live records

-- of the stripes that pass a test, with one more stripe
pub live_cons : (keep : Place × StripeOf Version → Bool) (x : Place × StripeOf Version) (es : Stripes)
    → live_in (filter keep (x ∷ es)) ≡ cond (keep x) (weight x.1) 0 + live_in (filter keep es)
live_cons keep x es = by (keep x)
  where
    by : (b : Bool) → live_in (cond b (x ∷ filter keep es) (filter keep es)) ≡ cond b (weight x.1) 0 + live_in (filter keep es)
    by true = sum_by-cons weight x.1 (values_of (filter keep es))
    by false = omega arith

-- sums over the views before one
pub before_same : (first : ℕ) (f k : ℕ → ℕ) → ((e : ℕ) → f e ≡ k e) → live_before first f ≡ live_before first k
before_same zero f k same = refl
before_same (suc first) f k same = λ i. before_same first f k same i + same first i

before_none : (first : ℕ) → live_before first (λ e. 0) ≡ 0
before_none zero = refl
before_none (suc first) = omega (arith, before_none first)

-- with one stripe more in a view
one_more : (b less here : Bool) (w : ℕ) → (less ≡ true → here ≡ false)
    → cond (b && less) w 0 + cond (b && here) w 0 ≡ cond (b && cond less true here) w 0
one_more false less here w apart = refl
one_more true true here w apart = rw (apart refl) (omega arith)
one_more true false true w apart = omega arith
one_more true false false w apart = refl

before_more : (first : ℕ) (f : ℕ → ℕ) (b : Bool) (v w : ℕ)
    → live_before first (λ e. cond (b && eqb v e) w 0 + f e) ≡ cond (b && ltb v first) w 0 + live_before first f
before_more zero f b v w =
    let none : ltb v zero ≡ false = grind (arith, nat_tests) in
    let no : (b && false) ≡ false = by b in
    sym (ap (λ (x : Bool). cond (b && x) w 0 + 0) none ∙ ap (λ (x : Bool). cond x w 0 + 0) no)
  where
    by : (b : Bool) → (b && false) ≡ false
    by true = refl
    by false = refl
before_more (suc first) f b v w =
    let less : ltb v (suc first) ≡ cond (ltb v first) true (eqb v first) = grind (arith, nat_tests) in
    let apart : ltb v first ≡ true → eqb v first ≡ false = λ h. grind (arith, nat_tests, h) in
    let sum = one_more b (ltb v first) (eqb v first) w apart in
    let rest = before_more first f b v w in
    let whole : cond (b && ltb v (suc first)) w 0 ≡ cond (b && cond (ltb v first) true (eqb v first)) w 0 =
    ap (λ (x : Bool). cond (b && x) w 0) less in
    omega (arith, rest, sum, whole)

module _ (g first : ℕ) where
  -- what stays of the stripes
  abbrev stays : Place × StripeOf Version → Bool
  stays x = not (is_of_view g first x.0)

  either : (d : Bool) (w : ℕ) → w ≡ cond (not d) w 0 + cond d w 0
  either true w = omega arith
  either false w = omega arith

  -- the live records that stay, and those of the views that are dropped
  pub stay_sum : (es : Stripes) → live_in (filter stays es) + live_before first (λ e. live_in (filter (is_in_view g e) es)) ≡ live_in es
  stay_sum [] = ap (λ (n : ℕ). 0 + n) (before_none first)
  stay_sum (x ∷ es) =
      let in_view = λ (e : ℕ). live_in (filter (is_in_view g e) es) in
      let here : Bool = eqb x.0.0 g in
      let kept = live_cons stays x es in
      let views = before_same first (λ e. live_in (filter (is_in_view g e) (x ∷ es))) (λ e. cond (here && eqb x.0.1 e) (weight x.1) 0 + in_view e)
      (λ e. live_cons (is_in_view g e) x es) in
      let more = before_more first in_view here x.0.1 (weight x.1) in
      let all = sum_by-cons weight x.1 (values_of es) in
      let rest = stay_sum es in
      let both = either (here && ltb x.0.1 first) (weight x.1) in
      omega (arith, kept, views, more, all, rest, both)

  -- what stays of a group's view is all of it, or nothing
  pub views_left : (h e : ℕ) (es : Stripes)
      → live_in (filter (is_in_view h e) (filter stays es)) ≡ cond (eqb h g && ltb e first) 0 (live_in (filter (is_in_view h e) es))
  views_left h e [] = by (eqb h g && ltb e first)
    where
      by : (b : Bool) → ◌≡◌ {A = ℕ} 0 (cond b 0 0)
      by true = refl
      by false = refl
  views_left h e (x ∷ es) =
      by (is_in_view h e x) refl (stays x) refl (views_left h e es)
      ∙ ap (cond (eqb h g && ltb e first) 0) (sym (live_cons (is_in_view h e) x es))
    where
      d : Bool
      d = eqb h g && ltb e first

      left : ℕ
      left = live_in (filter (is_in_view h e) (filter stays es))

      whole : ℕ
      whole = live_in (filter (is_in_view h e) es)

      same : is_in_view h e x ≡ true → is_of_view g first x.0 ≡ d
      same inside =
          let p = and_parts (eqb x.0.0 h) (eqb x.0.1 e) inside in
          λ i. eqb (eqb-true x.0.0 h p.0 i) g && ltb (eqb-true x.0.1 e p.1 i) first

      skip : (b : Bool) → cond b 0 whole ≡ cond b 0 (0 + whole)
      skip true = refl
      skip false = omega arith

      alone : 0 + left ≡ left
      alone = omega arith

      add : (b : Bool) → left ≡ cond b 0 whole → not b ≡ true → weight x.1 + left ≡ cond b 0 (weight x.1 + whole)
      add true is h = differ h
      add false is h = omega (arith, is)

      none : (b : Bool) → left ≡ cond b 0 whole → not b ≡ false → left ≡ cond b 0 (weight x.1 + whole)
      none true is h = is
      none false is h = differ (sym h)

      inside_kept : (inside : Bool) → is_in_view h e x ≡ inside → stays x ≡ true → left ≡ cond d 0 whole
          → live_in (filter (is_in_view h e) (x ∷ filter stays es)) ≡ cond d 0 (cond inside (weight x.1) 0 + whole)
      inside_kept true at stay is =
          live_cons (is_in_view h e) x (filter stays es) ∙ ap (λ (b : Bool). cond b (weight x.1) 0 + left) at
          ∙ add d is (sym (ap not (same at)) ∙ stay)
      inside_kept false at stay is =
          live_cons (is_in_view h e) x (filter stays es) ∙ ap (λ (b : Bool). cond b (weight x.1) 0 + left) at
          ∙ alone ∙ is ∙ skip d

      inside_left : (inside : Bool) → is_in_view h e x ≡ inside → stays x ≡ false → left ≡ cond d 0 whole
          → left ≡ cond d 0 (cond inside (weight x.1) 0 + whole)
      inside_left true at stay is = none d is (sym (ap not (same at)) ∙ stay)
      inside_left false at stay is = is ∙ skip d

      by : (inside : Bool) → is_in_view h e x ≡ inside → (stay : Bool) → stays x ≡ stay → left ≡ cond d 0 whole
          → live_in (filter (is_in_view h e) (cond stay (x ∷ filter stays es) (filter stays es))) ≡ cond d 0 (cond (is_in_view h e x) (weight x.1) 0 + whole)
      by inside at true stay is = inside_kept inside at stay is ∙ ap (λ (b : Bool). cond d 0 (cond b (weight x.1) 0 + whole)) (sym at)
      by inside at false stay is = inside_left inside at stay is ∙ ap (λ (b : Bool). cond d 0 (cond b (weight x.1) 0 + whole)) (sym at)

  -- ---- stripes

  -- a stripe stays, or is as one that nothing happened to
  pub stripe_left : (p : Place) (es : Stripes)
      → states.stripe_in (filter stays es) p ≡ cond (is_of_view g first p) (first_stripe p) (states.stripe_in es p)
  stripe_left p es =
      ap (λ (found : Option (StripeOf Version)). unwrap_or found (first_stripe p))
      (lookup-filter-keys (is_at (place_cmp p)) (λ q. not (is_of_view g first q)) (not (is_of_view g first p)) (λ q at. kept q at) es)
      ∙ by (is_of_view g first p)
    where
      exact : (q : Place) (r : Ordering) → place_cmp p q ≡ r → is_eq r ≡ true → p ≡ q
      exact q Less at h = differ h
      exact q Equal at h = place_exact p q at
      exact q Greater at h = differ h

      kept : (q : Place) → is_at (place_cmp p) q ≡ true → not (is_of_view g first q) ≡ not (is_of_view g first p)
      kept q at = ap (λ (x : Place). not (is_of_view g first x)) (sym (exact q (place_cmp p q) refl at))

      by : (b : Bool) → unwrap_or (cond (not b) (lookup (is_at (place_cmp p)) es) None) (first_stripe p) ≡ cond b (first_stripe p) (states.stripe_in es p)
      by true = refl
      by false = refl

-- a stripe that nothing happened to is a part as it begins
pub fresh_part : (block : ℕ) (p : Place) → part_of (first_stripe {E = Version} p).order (log_of block (first_stripe p)) (first_stripe {E = Version} p).from_start ≡ fresh_replica block p.1
fresh_part block p = by (eqb p.1 1)
  where
    by : (b : Bool) → part_of first_stamp (log_of block (record { order = first_stamp; from_start = b; added = [] })) b ≡ cond b (fresh_replica block 1) (record { order = first_stamp; log = []; from_start = false })
    by true = refl
    by false = refl
