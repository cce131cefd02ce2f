-- No version's base chain crosses another's: of two neighbours among the effective versions, what was made on a base was made on
-- the lower one.
use Rattle.std.proofs.Common.{◌≡◌, ℕ, ◌<◌, ◌≤◌, ◌+◌, ◌-◌, true, false, inl, inr, ⊎_elim, List, ◌∷◌, length, get_or, Option, Some, None, refl, sym, ◌∙◌, ap, subst, arith, zero, suc}
use Rattle.std.specs.List.{Contains}
use Rattle.std.proofs.lemmas.Bool.{cases_Bool, cases_lt, cases_eq, both_ways}
use Rattle.std.proofs.lemmas.List.{get_or_default}
use Rattle.std.proofs.lemmas.Option.{same_Some}
use Rattle.fab_base.specs.declared.stamps.Stamp.{Stamp}
use Rattle.fab_base.specs.Stamps.{stamp_below, first_stamp}
use Rattle.fab_base.proofs.StampOrder.{stamp_below_irrefl, stamp_below_asym, stamp_below_trans, stamp_below_first, stamp_neither_below}
use Rattle.reg_model.proofs.Bases.{EachNext, Ascends, IsBetween, IsMadeOn, BaseFacts, IsEffective, Standing, BaseOf, AreEffective}

-- the version at a place, the first version being at 0
abbrev pub version_at : List Stamp → ℕ → Stamp
version_at versions k = get_or (first_stamp ∷ versions) k first_stamp

-- a version further on is above, n + 1 places on
further : (versions : List Stamp) → Ascends versions → (i n : ℕ) → i + (n + 1) < length (first_stamp ∷ versions)
    → stamp_below (version_at versions i) (version_at versions (i + (n + 1))) ≡ true
further versions up i zero inside = up i first_stamp inside
further versions up i (suc n) inside =
    let next : i + (suc n + 1) ≡ i + (n + 1) + 1 = omega arith in
    subst (λ (k : ℕ). stamp_below (version_at versions i) (version_at versions k) ≡ true) (sym next)
    (stamp_below_trans _ _ _ (further versions up i n (omega arith)) (up (i + (n + 1)) first_stamp (omega arith)))

-- a version at a higher place is above
pub rises_far : (versions : List Stamp) → Ascends versions → (i j : ℕ) → i < j → j < length (first_stamp ∷ versions)
    → stamp_below (version_at versions i) (version_at versions j) ≡ true
rises_far versions up i j less inside =
    let n : ℕ = j - (i + 1) in
    let there : i + (n + 1) ≡ j = omega arith in
    subst (λ (k : ℕ). stamp_below (version_at versions i) (version_at versions k) ≡ true) there (further versions up i n (omega arith))

-- a version that is not below another is at no lower place
pub place_after : (versions : List Stamp) → Ascends versions → (i j : ℕ) → j < length (first_stamp ∷ versions)
    → stamp_below (version_at versions i) (version_at versions j) ≡ false → j ≤ i
place_after versions up i j inside not_below =
    ⊎_elim
    (λ (less : i < j). absurd (both_ways (stamp_below (version_at versions i) (version_at versions j)) not_below
    (rises_far versions up i j less inside)))
    (λ (after : j ≤ i). after)
    (cases_lt i j)

-- versions at two places differ
pub places_differ : (versions : List Stamp) → Ascends versions → (i j : ℕ) → i < j → j < length (first_stamp ∷ versions)
    → version_at versions i ≡ version_at versions j → ⊥
places_differ versions up i j less inside same =
    both_ways (stamp_below (version_at versions j) (version_at versions j)) (stamp_below_irrefl (version_at versions j))
    (subst (λ (s : Stamp). stamp_below s (version_at versions j) ≡ true) same (rises_far versions up i j less inside))

module _ (Stands : Stamp → Type 0) (base : Stamp → Option Stamp) (facts : BaseFacts Stands base) where
  -- the first version has no base
  pub first_has_no_base : (b : Stamp) → base first_stamp ≡ Some b → ⊥
  first_has_no_base b is = both_ways (stamp_below b first_stamp) (stamp_below_first b) (facts.below first_stamp b is)

  -- u does not lie between t and its base
  abbrev IsOutside : Stamp → Stamp → Type 0
  IsOutside u t = (b : Stamp) → base t ≡ Some b → IsBetween b u t → ⊥

  -- w was made on u: where neither w nor t lies between the other and its base, u does not lie between t and its base
  base_outside : (w u t : Stamp) → base w ≡ Some u → IsOutside w t → IsOutside t w → IsOutside u t
  base_outside w u t on outside crossed b is between =
      ⊎_elim
      (λ (under : stamp_below w t ≡ true). outside b is (stamp_below_trans b u w between.0 (facts.below w u on), under))
      (λ (not_under : stamp_below w t ≡ false).
      ⊎_elim
      (λ (over : stamp_below t w ≡ true). crossed u on (between.1, over))
      (λ (not_over : stamp_below t w ≡ false).
      let same : w ≡ t = stamp_neither_below w t not_under not_over in
      let one : u ≡ b = same_Some u b (sym on ∙ ap base same ∙ is) in
      both_ways (stamp_below b b) (stamp_below_irrefl b) (subst (λ (s : Stamp). stamp_below b s ≡ true) one between.0))
      (cases_Bool (stamp_below t w)))
      (cases_Bool (stamp_below w t))

  -- where u lies between no effective version and its base, no effective version lies between u and its base: by the chain down to t
  all_outside : (u : Stamp) → ((t : Stamp) → IsEffective Stands base t → IsOutside u t) → (t : Stamp) → IsEffective Stands base t → IsOutside t u
  all_outside u outside t (Standing _ stands) = λ b is between. facts.none_between u b t is stands between
  all_outside u outside t (BaseOf w _ effective on) = base_outside w t u on (all_outside u outside w effective) (outside w effective)

  -- neither of two effective versions lies between the other and its base: by the chain down to u
  both_outside : (u : Stamp) → IsEffective Stands base u → (t : Stamp) → IsEffective Stands base t → IsOutside u t × IsOutside t u
  both_outside u (Standing _ stands) t effective = (
    λ b is between. facts.none_between t b u is stands between,
    all_outside u (λ x _ b is between. facts.none_between x b u is stands between) t effective,
  )
  both_outside u (BaseOf w _ made on) t effective = (
    base_outside w u t on (both_outside w made t effective).0 (both_outside w made t effective).1,
    all_outside u (λ x e. base_outside w u x on (both_outside w made x e).0 (both_outside w made x e).1) t effective,
  )

  -- no effective version lies between an effective version and its base
  pub no_crossing : (t b u : Stamp) → IsEffective Stands base t → base t ≡ Some b → IsEffective Stands base u → IsBetween b u t → ⊥
  no_crossing t b u effective is other between = (both_outside u other t effective).0 b is between

  -- a version at a place is effective, where it is above some stamp
  effective_at : (versions : List Stamp) → AreEffective Stands base versions → (k : ℕ) → k < length (first_stamp ∷ versions)
      → (b : Stamp) → stamp_below b (version_at versions k) ≡ true → IsEffective Stands base (version_at versions k)
  effective_at versions are zero inside b above = absurd (both_ways (stamp_below b first_stamp) (stamp_below_first b) above)
  effective_at versions are (suc k) inside b above = are.effective k first_stamp (omega arith)

  -- an effective version that is above some stamp is the version at a place
  place_of : (versions : List Stamp) → AreEffective Stands base versions → (u b : Stamp) → IsEffective Stands base b → stamp_below u b ≡ true
      → (i : ℕ) × (i < length (first_stamp ∷ versions)) × (version_at versions i ≡ b)
  place_of versions are u b effective above =
      ⊎_elim
      (λ (over : stamp_below first_stamp b ≡ true).
      let place : Contains versions b = are.complete b effective over in
      (suc place.0, omega (arith, place.1), get_or_default versions place.0 first_stamp b place.1 ∙ place.2))
      (λ (not_over : stamp_below first_stamp b ≡ false).
      (0, omega arith, stamp_neither_below first_stamp b not_over (stamp_below_first b)))
      (cases_Bool (stamp_below first_stamp b))

  -- a version's base is at or below the version before it
  base_not_above : (versions : List Stamp) → AreEffective Stands base versions → (k : ℕ) → k + 1 < length (first_stamp ∷ versions)
      → (b : Stamp) → IsEffective Stands base b → stamp_below b (version_at versions (k + 1)) ≡ true → stamp_below (version_at versions k) b ≡ false
  base_not_above versions are k inside b effective below_next =
      ⊎_elim
      (λ (over : stamp_below (version_at versions k) b ≡ true).
      let place = place_of versions are (version_at versions k) b effective over in
      let low : stamp_below (version_at versions (k + 1)) (version_at versions place.0) ≡ false =
      subst (λ (s : Stamp). stamp_below (version_at versions (k + 1)) s ≡ false) (sym place.2)
      (stamp_below_asym b (version_at versions (k + 1)) below_next) in
      let high : stamp_below (version_at versions place.0) (version_at versions k) ≡ false =
      subst (λ (s : Stamp). stamp_below s (version_at versions k) ≡ false) (sym place.2) (stamp_below_asym (version_at versions k) b over) in
      let at_most : place.0 ≤ k + 1 = place_after versions are.ascend (k + 1) place.0 place.1 low in
      let at_least : k ≤ place.0 = place_after versions are.ascend place.0 k (omega arith) high in
      ⊎_elim
      (λ (here : place.0 ≡ k).
      let same : version_at versions k ≡ b = ap (version_at versions) (sym here) ∙ place.2 in
      subst (λ (s : Stamp). stamp_below s b ≡ false) (sym same) (stamp_below_irrefl b))
      (λ (differ : place.0 ≡ k → ⊥).
      let there : place.0 ≡ k + 1 = omega arith in
      let same : version_at versions (k + 1) ≡ b = ap (version_at versions) (sym there) ∙ place.2 in
      absurd (both_ways (stamp_below b b) (stamp_below_irrefl b) (subst (λ (s : Stamp). stamp_below b s ≡ true) same below_next)))
      (cases_eq place.0 k))
      (λ (not_over : stamp_below (version_at versions k) b ≡ false). not_over)
      (cases_Bool (stamp_below (version_at versions k) b))

  -- a version's base is at or above the version before it
  base_not_below : (versions : List Stamp) → AreEffective Stands base versions → (k : ℕ) → k + 1 < length (first_stamp ∷ versions)
      → (b : Stamp) → IsEffective Stands base (version_at versions (k + 1)) → base (version_at versions (k + 1)) ≡ Some b
      → stamp_below b (version_at versions k) ≡ false
  base_not_below versions are k inside b effective is =
      ⊎_elim
      (λ (under : stamp_below b (version_at versions k) ≡ true).
      absurd (no_crossing (version_at versions (k + 1)) b (version_at versions k) effective is
      (effective_at versions are k (omega arith) b under) (under, are.ascend k first_stamp inside)))
      (λ (not_under : stamp_below b (version_at versions k) ≡ false). not_under)
      (cases_Bool (stamp_below b (version_at versions k)))

  -- so the version at a place above 0 has no base, or the one before it
  made_on_at : (versions : List Stamp) → AreEffective Stands base versions → (k : ℕ) → k + 1 < length (first_stamp ∷ versions)
      → IsEffective Stands base (version_at versions (k + 1)) × IsMadeOn base (version_at versions k) (version_at versions (k + 1))
  made_on_at versions are k inside = (effective, by (base (version_at versions (k + 1))) refl)
    where
      effective : IsEffective Stands base (version_at versions (k + 1))
      effective = effective_at versions are (k + 1) inside (version_at versions k) (are.ascend k first_stamp inside)

      by : (o : Option Stamp) → base (version_at versions (k + 1)) ≡ o → IsMadeOn base (version_at versions k) (version_at versions (k + 1))
      by None is = inl is
      by (Some b) is =
          let not_below = base_not_below versions are k inside b effective is in
          let not_above = base_not_above versions are k inside b (BaseOf (version_at versions (k + 1)) b effective is)
          (facts.below (version_at versions (k + 1)) b is) in
          inr (is ∙ ap Some (stamp_neither_below b (version_at versions k) not_below not_above))

  -- what holds of each effective version and any version that it may have been made on holds along the versions
  pub each_next_from_made : (R : Stamp → Stamp → Type 0) (versions : List Stamp) → AreEffective Stands base versions
      → ((u v : Stamp) → IsEffective Stands base v → IsMadeOn base u v → R u v) → EachNext R versions
  each_next_from_made R versions are holds k d inside =
      let made = made_on_at versions are k inside in
      subst (λ (s : Stamp). R s (get_or (first_stamp ∷ versions) (k + 1) d)) (get_or_default (first_stamp ∷ versions) k first_stamp d (omega arith))
      (subst (λ (s : Stamp). R (version_at versions k) s) (get_or_default (first_stamp ∷ versions) (k + 1) first_stamp d inside)
      (holds (version_at versions k) (version_at versions (k + 1)) made.0 made.1))

  -- of two neighbours among the effective versions, the upper has no base, or was made on the lower
  pub made_on_neighbour : (versions : List Stamp) → AreEffective Stands base versions → EachNext (IsMadeOn base) versions
  made_on_neighbour versions are = each_next_from_made (IsMadeOn base) versions are (λ u v effective made. made)
