-- The records of what is kept, one part after the other.
use Rattle.std.proofs.Common.{◌≡◌, ℕ, suc, ◌<◌, Bool, true, false, not, cond, Option, Some, List, [], ◌∷◌, ◌++◌, length, get_or, drop, refl, sym, ap, subst, ◌∙◌, append_assoc}
use Rattle.std.proofs.Math.Seq.{drop-cons}
use Rattle.fab_base.specs.Stamps.{first_stamp}
use Rattle.fab_base.proofs.StampOrder.{stamp_same_refl}
use Rattle.brick_state.specs.declared.groups.Group.{Group}
use Rattle.brick_state.specs.Entries.{Entry}
use Rattle.brick_state.specs.declared.stripes.Stripe.{Stripe}
use Rattle.brick_state.specs.States.{Place, StripeOf, first_stripe, is_first, stripe_of}
use Rattle.brick_state.specs.Maps.{ViewKey, placed, flat, listed}
use Rattle.brick_state.specs.declared.view_tables.ViewTable.{ViewTable}
use Rattle.brick_state.specs.Rewrites.{group_records, groups_records, stripe_records, stripes_records, version_record, version_records}
use Rattle.brick_state.proofs.StripeMaps.{is_first-true}
use Rattle.brick_state.proofs.ViewMaps.{listed-append}

-- a stripe that nothing happened to needs no records
none_first : (p : Place) → stripe_records p (first_stripe p) ≡ []
unfolding version_records
none_first p = rw (stamp_same_refl first_stamp) refl

pub stripes_step : (p : Place) (s : Stripe) (rest : List (Place × Stripe)) → stripes_records (listed ((p, s) ∷ rest)) ≡ stripe_records p
    (stripe_of s) ++ stripes_records (listed rest)
unfolding listed stripes_records
stripes_step p s rest = by (is_first p (stripe_of s)) refl
  where
    nothing : is_first p (stripe_of s) ≡ true → stripe_records p (stripe_of s) ≡ []
    nothing at = ap (stripe_records p) (is_first-true p (stripe_of s) at) ∙ none_first p

    by : (b : Bool) → is_first p (stripe_of s) ≡ b
        → stripes_records (cond (not b) ((p, stripe_of s) ∷ listed rest) (listed rest)) ≡ stripe_records p (stripe_of s) ++ stripes_records
        (listed rest)
    by true at = sym (ap (λ records. records ++ stripes_records (listed rest)) (nothing at))
    by false at = refl

pub stripes_none : stripes_records (listed []) ≡ []
unfolding listed stripes_records
stripes_none = refl

-- those of one list of stripes after another
stripes-append : (xs ys : List (Place × StripeOf Entry)) → stripes_records (xs ++ ys) ≡ stripes_records xs ++ stripes_records ys
unfolding stripes_records
stripes-append [] ys = refl
stripes-append (e ∷ xs) ys = ap (λ records. stripe_records e.0 e.1 ++ records) (stripes-append xs ys)
    ∙ sym (append_assoc (stripe_records e.0 e.1) (stripes_records xs) (stripes_records ys))

-- those of a view, and then those of the others
pub records-view : (e : ViewKey × ViewTable) (views : List (ViewKey × ViewTable)) → stripes_records (listed (flat (e ∷ views)))
    ≡ stripes_records (listed (placed e.0 e.1.stripes.entries)) ++ stripes_records (listed (flat views))
unfolding flat
records-view e views = ap stripes_records (listed-append (placed e.0 e.1.stripes.entries) (flat views))
    ∙ stripes-append (listed (placed e.0 e.1.stripes.entries)) (listed (flat views))

-- the groups from one on: that one, and those after it
pub groups_step : (g n : ℕ) (groups : List Group) (group : Group) → n ≡ suc g → g < length groups → group ≡ get_or groups g group
    → groups_records g (drop g groups) ≡ group_records g group ++ groups_records n (drop n groups)
unfolding groups_records
groups_step g n groups group next within is =
    subst (λ (m : ℕ). groups_records g (drop g groups) ≡ group_records g group ++ groups_records m (drop m groups)) (sym next)
    (ap (groups_records g) (drop-cons groups g group within ∙ ap (λ x. x ∷ drop (suc g) groups) (sym is)))

pub groups_none : (g : ℕ) → groups_records g [] ≡ []
unfolding groups_records
groups_none g = refl

-- and the versions of a stripe
pub versions_step : (p : Place) (under : Option Entry) (k n : ℕ) (entries : List Entry) (none : Entry) → n ≡ suc k → k < length entries
    → version_records p under (drop k entries) ≡ version_record p under (get_or entries k none) ∷ version_records p (Some (get_or entries k none))
    (drop n entries)
unfolding version_records
versions_step p under k n entries none next within =
    subst (λ (m : ℕ). version_records p under (drop k entries) ≡ version_record p under (get_or entries k none) ∷ version_records p
    (Some (get_or entries k none)) (drop m entries)) (sym next)
    (ap (version_records p under) (drop-cons entries k none within))

pub versions_none : (p : Place) (under : Option Entry) → version_records p under [] ≡ []
unfolding version_records
versions_none p under = refl
