-- The stripes of a group that have entries, from one number on and below another.
use Rattle.std.proofs.Common.{◌≡◌, ℕ, ◌<◌, ◌≤◌, false, List, [], ◌∷◌, Option, Some, None, option_map, unwrap_or, Vec, refl, sym, ap, subst, arith}
use Rattle.std.specs.Prelude.{IsSome, IfSome, IfNone, map, slice_get}
use Rattle.std.specs.Ordering.{is_gt}
use Rattle.std.specs.declared.cmp.Ordering.TheVariants.{Less}
use Rattle.std.specs.BTreeMap.{BTreeMap, get}
use Rattle.std.specs.BTreeMap.Range.{IsRangeOf, IsEntryInRange, IsLeBy}
use Rattle.std.specs.declared.ops.Bound.TheVariants.{Included, Excluded}
use Rattle.std.proofs.lemmas.Bool.Decides.{nat_tests}
use Rattle.fab_base.specs.declared.identities.StripeNo.{StripeNo}
use Rattle.protocol.specs.Happenings.{ascending, by_mark, effect_of, entries_to, happenings_of, walk_of}
use Rattle.reg_model.specs.Marks.{stripe_marks}
use Rattle.protocol.specs.Worlds.{World}
use Rattle.reg_model.specs.Walk.{positioned}
use Rattle.reg_model.specs.declared.entries.Entry.{Entry}
use Rattle.world.specs.Shown.{pair_cmp}

-- a pair between two of one group is of that group
between : (g from end a b : ℕ) → is_gt (pair_cmp (g, from) (a, b)) ≡ false → pair_cmp (a, b) (g, end) ≡ Less → (a ≡ g) × ((from ≤ b) × (b < end))
between g from end a b least most = (grind (arith, nat_tests), (grind (arith, nat_tests), grind (arith, nat_tests)))

-- of two of one group the first is not past the second
not_past : (g b s : ℕ) → is_gt (pair_cmp (g, b) (g, s)) ≡ false → b ≤ s
not_past g b s least = grind (arith, nat_tests)

-- a pair of the group and of such a number is between the two
inside : (g from end s : ℕ) → from ≤ s → s < end → (is_gt (pair_cmp (g, from) (g, s)) ≡ false) × (pair_cmp (g, s) (g, end) ≡ Less)
inside g from end s least most = (grind (arith, nat_tests), grind (arith, nat_tests))

module _ {Z : Type 0} (m : BTreeMap (ℕ × ℕ) (Vec Entry Z)) (g from end : ℕ) (r : List ((ℕ × ℕ) × Vec Entry Z))
    (range : IsRangeOf pair_cmp (Included (g, from)) (Excluded (g, end)) m r) where
  abbrev items_at : ℕ → List Entry
  items_at s = unwrap_or (option_map (λ (v : Vec Entry Z). v.items) (get pair_cmp m (g, s))) []

  -- none has
  pub none_between : r ≡ [] → (s : ℕ) → from ≤ s → s < end → items_at s ≡ []
  none_between empty s least most =
      ap (λ (found : Option (Vec Entry Z)). unwrap_or (option_map (λ (v : Vec Entry Z). v.items) found) [])
      (range.5 empty (g, s) (inside g from end s least most))

  -- this is the first that has
  module _ (e : (ℕ × ℕ) × Vec Entry Z) (rest : List ((ℕ × ℕ) × Vec Entry Z)) (steps : r ≡ e ∷ rest) where
    pub first_between : (from ≤ e.0.1) × (e.0.1 < end) × ((s : ℕ) → from ≤ s → s < e.0.1 → items_at s ≡ [])
    first_between =
        let first : slice_get r 0 ≡ Some e = ap (λ (l : List ((ℕ × ℕ) × Vec Entry Z)). slice_get l 0) steps in
        let there : IsEntryInRange pair_cmp (Included (g, from)) (Excluded (g, end)) m e =
        subst (λ (found : Option ((ℕ × ℕ) × Vec Entry Z)). IfSome found (IsEntryInRange pair_cmp (Included (g, from)) (Excluded (g, end)) m)) first range.1
        in
        let parts = between g from end e.0.0 e.0.1 there.0.0 there.0.1 in (
          parts.1.0,
          parts.1.1,
          λ s least less. (by_found s least less parts.0 parts.1.1 first (get pair_cmp m (g, s)) refl),
        )
      where
        by_found : (s : ℕ) → from ≤ s → s < e.0.1 → e.0.0 ≡ g → e.0.1 < end → slice_get r 0 ≡ Some e → (found : Option (Vec Entry Z))
            → get pair_cmp m (g, s) ≡ found → items_at s ≡ []
        by_found s least less group under first None is =
            ap (λ (found : Option (Vec Entry Z)). unwrap_or (option_map (λ (v : Vec Entry Z). v.items) found) []) is
        by_found s least less group under first (Some v) is =
            let has : IsSome (get pair_cmp m (g, s)) = subst (λ (found : Option (Vec Entry Z)). IsSome found) (sym is) refl in
            let later = subst (λ (found : Option ((ℕ × ℕ) × Vec Entry Z)). IfSome found (λ x. IsLeBy pair_cmp x.0 (g, s))) first
            (range.2 (g, s) (inside g from end s least (omega (arith, less, under))) has) in
            let no : e.0.1 ≤ s = not_past g e.0.1 s (subst (λ (i : ℕ). is_gt (pair_cmp (i, e.0.1) (g, s)) ≡ false) group later) in
            absurd (omega (arith, no, less))

-- a stripe without entries has no happenings
pub no_happenings : (w : World) (g s : ℕ) → entries_to w.operations g s w.begun ≡ [] → happenings_of w g s ≡ []
unfolding happenings_of walk_of
no_happenings w g s none =
    ap (λ (entries : List Entry). positioned (stripe_marks g s w.marks) 0
    (map (by_mark w.operations) (effect_of w.operations (ascending entries)).told)) none

-- so it is with each of some, of whatever was found
pub none_happens : (found : Option StripeNo) {P Q : Type 0} → (P → Q) → IfNone found P → IfNone found Q
none_happens None goes p = goes p
none_happens (Some stripe) goes p = p
