-- What a map of stripes says.
use Rattle.std.specs.Prelude.{◌≡◌, ℕ, Bool, true, false, not, ◌&&◌, ◌==◌, nat_lt, Option, Some, None, List, [], ◌∷◌, ◌++◌, map, filter}
use Rattle.std.specs.declared.cmp.Ordering.{Ordering}
use Rattle.std.specs.Ordering.{nat_cmp, ordering_then}
use Rattle.std.specs.BTreeMap.{BTreeMap, get}
use Rattle.fab_base.specs.declared.stamps.Stamp.{Stamp}
use Rattle.brick_state.specs.Entries.{Entry}
use Rattle.brick_state.specs.declared.stripes.Stripe.{Stripe}
use Rattle.brick_state.specs.declared.view_tables.ViewTable.{ViewTable}
use Rattle.brick_state.specs.States.{Place, StripeOf, is_first, newest_entry, put, stripe_in, stripe_of, with_added, with_order}
use Rattle.brick_state.specs.Folds.{is_above}
use Rattle.brick_state.specs.ViewStripes.{HasRoomAt}

-- a view of a group; views compare by group, then by number
abbrev pub ViewKey : Type 0
ViewKey = ℕ × ℕ

abbrev pub view_cmp : ViewKey → ViewKey → Ordering
view_cmp x y = ordering_then (nat_cmp x.0 y.0) (nat_cmp x.1 y.1)

abbrev pub key_of : Place → ViewKey
key_of p = (p.0, p.1)

-- the view is one of the group below this one
abbrev pub is_below_view : ℕ → ℕ → ViewKey → Bool
is_below_view group first k = (k.0 == group) && nat_lt k.1 first

-- the stripes of a view, and those of all views, by their places
unfoldable pub placed : ViewKey → List (ℕ × Stripe) → List (Place × Stripe)
placed k [] = []
placed k (e ∷ entries) = ((k.0, k.1, e.0), e.1) ∷ placed k entries

unfoldable pub flat : List (ViewKey × ViewTable) → List (Place × Stripe)
flat [] = []
flat (e ∷ views) = placed e.0 e.1.stripes.entries ++ flat views

-- the entries of a map, and of these the ones where something happened
abbrev pub seen_entry : Place × Stripe → Place × StripeOf Entry
seen_entry e = (e.0, stripe_of e.1)

abbrev pub is_listed : Place × StripeOf Entry → Bool
is_listed e = not (is_first e.0 e.1)

unfoldable pub listed : List (Place × Stripe) → List (Place × StripeOf Entry)
listed entries = filter is_listed (map seen_entry entries)

abbrev pub listed_in : BTreeMap ViewKey ViewTable → List (Place × StripeOf Entry)
listed_in views = listed (flat views.entries)

-- there is room for one version more at this place
pub record HasRoom (views : BTreeMap ViewKey ViewTable) (p : Place) : Type 0 where
  pub table : ViewTable
  pub there : get view_cmp views (key_of p) ≡ Some table
  pub at : HasRoomAt table.stripes p.2

-- the answer of a change at a place: it was made, or it can't be, and nothing is changed
abbrev pub AnswersAt : Place → List (Place × StripeOf Entry) → List (Place × StripeOf Entry) → Option (StripeOf Entry) → Bool → Type 0
AnswersAt p old new None answer = (answer ≡ false) × (new ≡ old)
AnswersAt p old new (Some s) answer = (answer ≡ true) × (new ≡ put p s old)

-- a version above the newest one is added to the stripe at a place
pub record IsExtendedAt (p : Place) (e : Entry) (old new : List (Place × StripeOf Entry)) : Type 0 where
  pub is : new ≡ put p (with_added e (stripe_in old p)) old
  pub above : is_above (newest_entry (stripe_in old p)) e.stamp ≡ true

-- the order stamp of the stripe at a place is set in the place of another one
pub record IsReorderedAt (p : Place) (t replaced : Stamp) (old new : List (Place × StripeOf Entry)) : Type 0 where
  pub is : new ≡ put p (with_order t (stripe_in old p)) old
  pub was : replaced ≡ (stripe_in old p).order
