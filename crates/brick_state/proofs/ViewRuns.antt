-- The views of a group below one stand next to each other.
use Rattle.std.proofs.Common.{◌≡◌, ℕ, Bool, true, false, cond, Some, List, [], ◌∷◌, refl, sym, ap, subst, ◌∙◌, arith}
use Rattle.std.specs.declared.ops.Bound.TheVariants.{Included, Excluded}
use Rattle.std.specs.Ordering.{is_eq}
use Rattle.std.specs.List.{filter}
use Rattle.std.specs.Map.{lookup}
use Rattle.std.specs.BTreeMap.{is_at}
use Rattle.std.specs.Option.{IsSome}
use Rattle.std.proofs.lemmas.Cmp.{tied_itself}
use Rattle.std.specs.BTreeMap.Range.{entries_between, range_contains}
use Rattle.std.proofs.lemmas.Bool.Decides.{nat_tests}
use Rattle.brick_state.specs.declared.view_tables.ViewTable.{ViewTable}
use Rattle.brick_state.specs.Maps.{ViewKey, view_cmp, is_below_view}
use Rattle.brick_state.proofs.ViewMaps.{view_total}

in_run : (group first g v : ℕ) → is_below_view group first (g, v) ≡ range_contains view_cmp (Included (group, 0)) (Excluded (group, first)) (g, v)
in_run group first g v = grind (arith, nat_tests)

-- they are what a range of the map has
pub run_is : (group first : ℕ) (views : List (ViewKey × ViewTable))
    → filter (λ e. is_below_view group first e.0) views ≡ entries_between view_cmp (Included (group, 0)) (Excluded (group, first)) views
run_is group first [] = refl
run_is group first (e ∷ views) =
    ap (λ (b : Bool). cond b (e ∷ filter (λ x. is_below_view group first x.0) views) (filter (λ x. is_below_view group first x.0) views)) (in_run group first e.0.0 e.0.1)
    ∙ ap (λ (es : List (ViewKey × ViewTable)). cond (range_contains view_cmp (Included (group, 0)) (Excluded (group, first)) e.0) (e ∷ es) es) (run_is group first views)

heads : {X : Type 0} {x y : X} {xs ys : List X} → x ∷ xs ≡ y ∷ ys → x ≡ y
heads h = cc

-- the first of them is below, and the map has it
pub head_below : (group first : ℕ) (views rest : List (ViewKey × ViewTable)) (k : ViewKey) (t : ViewTable)
    → filter (λ e. is_below_view group first e.0) views ≡ (k, t) ∷ rest → is_below_view group first k ≡ true
head_below group first [] rest k t head = absurd cc
head_below group first (e ∷ views) rest k t head = by (is_below_view group first e.0) refl head (head_below group first views rest k t)
  where
    by : (b : Bool) → is_below_view group first e.0 ≡ b
        → cond b (e ∷ filter (λ x. is_below_view group first x.0) views) (filter (λ x. is_below_view group first x.0) views) ≡ (k, t) ∷ rest
        → (filter (λ x. is_below_view group first x.0) views ≡ (k, t) ∷ rest → is_below_view group first k ≡ true) → is_below_view group first k ≡ true
    by true at head later = subst (λ (x : ViewKey × ViewTable). is_below_view group first x.0 ≡ true) (heads head) at
    by false at head later = later head

pub head_there : (group first : ℕ) (views rest : List (ViewKey × ViewTable)) (k : ViewKey) (t : ViewTable)
    → filter (λ e. is_below_view group first e.0) views ≡ (k, t) ∷ rest → IsSome (lookup (is_at (view_cmp k)) views)
head_there group first [] rest k t head = absurd cc
head_there group first (e ∷ views) rest k t head = by (is_below_view group first e.0) head (head_there group first views rest k t)
  where
    either : (b : Bool) → IsSome (lookup (is_at (view_cmp k)) views) → IsSome (cond b (Some e.1) (lookup (is_at (view_cmp k)) views))
    either true some = refl
    either false some = some

    here : e ≡ (k, t) → IsSome (cond (is_eq (view_cmp k e.0)) (Some e.1) (lookup (is_at (view_cmp k)) views))
    here is = subst (λ (b : Bool). IsSome (cond b (Some e.1) (lookup (is_at (view_cmp k)) views)))
        (sym (ap (λ (x : ViewKey × ViewTable). is_eq (view_cmp k x.0)) is ∙ ap is_eq (tied_itself view_total k))) refl

    by : (b : Bool) → cond b (e ∷ filter (λ x. is_below_view group first x.0) views) (filter (λ x. is_below_view group first x.0) views) ≡ (k, t) ∷ rest
        → (filter (λ x. is_below_view group first x.0) views ≡ (k, t) ∷ rest → IsSome (lookup (is_at (view_cmp k)) views))
        → IsSome (cond (is_eq (view_cmp k e.0)) (Some e.1) (lookup (is_at (view_cmp k)) views))
    by true head later = here (heads head)
    by false head later = either (is_eq (view_cmp k e.0)) (later head)
