-- What a brick keeps: how often its store was opened; per group the greatest view learnt and its ballots; and per group, view
-- and stripe an order stamp and a log of versions.
use Rattle.std.specs.Prelude.{ℕ, ◌+◌, ◌-◌, Bool, false, not, ◌&&◌, ◌||◌, nat_lt, ◌==◌, if◌then◌else◌, Option, Some, None, unwrap_or, List, [], ◌∷◌, ◌++◌, length, filter, sum_by, slice_get, slice_set, slice_index_or, replicate}
use Rattle.std.specs.declared.cmp.Ordering.{Ordering}
use Rattle.std.specs.Ordering.{nat_cmp, ordering_then}
use Rattle.std.specs.Map.{lookup, remove_entry, values_of}
use Rattle.std.specs.BTreeMap.{insert_entry, is_at}
use Rattle.std.specs.List.{list_any}
use Rattle.fab_base.specs.declared.stamps.Stamp.{Stamp}
use Rattle.fab_base.specs.declared.stamps.Ballot.{Ballot}
use Rattle.fab_base.specs.declared.identities.BrickId.{BrickId}
use Rattle.fab_base.specs.declared.member_lists.View.{View}
use Rattle.fab_base.specs.Stamps.{stamp_below, stamp_same, first_stamp}
use Rattle.fab_base.specs.Layouts.{most_groups}
use Rattle.brick_state.specs.declared.groups.Group.{Group}
use Rattle.brick_state.specs.Entries.{Entry}
use Rattle.brick_state.specs.declared.stripes.Stripe.{Stripe}

-- a stripe of a group in a view: group, view, stripe
abbrev pub Place : Type 0
Place = ℕ × ℕ × ℕ

-- places compare by group, then by view, then by stripe
abbrev pub place_cmp : Place → Place → Ordering
place_cmp x y = ordering_then (ordering_then (nat_cmp x.0 y.0) (nat_cmp x.1 y.1)) (nat_cmp x.2 y.2)

-- What is kept of a stripe: its order stamp; whether the version that a stripe of view 1 begins with, the zero block of the
-- first stamp, is still there; and the versions that were added and not dropped since.
pub record StripeOf (E : Type 0) : Type 0 where
  pub order : Stamp
  pub from_start : Bool
  pub added : List E

-- what a brick keeps
pub record StateOf (E : Type 0) : Type 0 where
  pub boot : ℕ
  pub groups : List Group
  pub stripes : List (Place × StripeOf E)

-- a stripe that nothing happened to
abbrev pub first_stripe : {E : Type 0} → Place → StripeOf E
first_stripe p = record { order = first_stamp; from_start = p.1 == 1; added = [] }

abbrev pub is_first : {E : Type 0} → Place → StripeOf E → Bool
is_first p s = stamp_same s.order first_stamp && ((length s.added == 0) && ((s.from_start && (p.1 == 1)) || (not s.from_start && not (p.1 == 1))))

-- the stripe at a place; places where nothing happened are not listed
abbrev pub stripe_in : {E : Type 0} → List (Place × StripeOf E) → Place → StripeOf E
stripe_in stripes p = unwrap_or (lookup (is_at (place_cmp p)) stripes) (first_stripe p)

abbrev pub stripe_at : {E : Type 0} → StateOf E → Place → StripeOf E
stripe_at st p = stripe_in st.stripes p

-- the stripes with this one at this place
abbrev pub put : {E : Type 0} → Place → StripeOf E → List (Place × StripeOf E) → List (Place × StripeOf E)
put p s stripes = if is_first p s then remove_entry (is_at (place_cmp p)) stripes else insert_entry place_cmp stripes p s

abbrev pub with_stripe : {E : Type 0} → Place → StripeOf E → StateOf E → StateOf E
with_stripe p s st = record st { stripes = put p s st.stripes }

-- live records: order stamps other than the first, and versions added
abbrev pub weight : {E : Type 0} → StripeOf E → ℕ
weight s = (if stamp_same s.order first_stamp then 0 else 1) + length s.added

abbrev pub live_in : {E : Type 0} → List (Place × StripeOf E) → ℕ
live_in stripes = sum_by weight (values_of stripes)

abbrev pub live : {E : Type 0} → StateOf E → ℕ
live st = live_in st.stripes

-- a version with the slot of its block
abbrev pub stamp_of : Entry → Stamp
stamp_of e = e.stamp

-- what happens to a stripe: an order stamp; a version added; one added, and all below it dropped; the versions below a stamp dropped
abbrev pub with_order : {E : Type 0} → Stamp → StripeOf E → StripeOf E
with_order t s = record { order = t; from_start = s.from_start; added = s.added }

abbrev pub with_added : {E : Type 0} → E → StripeOf E → StripeOf E
with_added e s = record { order = s.order; from_start = s.from_start; added = s.added ++ e ∷ [] }

abbrev pub with_bottom : {E : Type 0} → E → StripeOf E → StripeOf E
with_bottom e s = record { order = s.order; from_start = false; added = e ∷ [] }

abbrev pub with_collected : {E : Type 0} → (E → Stamp) → Stamp → StripeOf E → StripeOf E
with_collected stamp c s = record { order = s.order; from_start = s.from_start && not (stamp_below first_stamp c); added = filter (λ e. not (stamp_below (stamp e) c)) s.added }

-- what happens at a place
abbrev pub ordered : {E : Type 0} → Place → Stamp → StateOf E → StateOf E
ordered p t st = with_stripe p (with_order t (stripe_at st p)) st

abbrev pub added : {E : Type 0} → Place → E → StateOf E → StateOf E
added p e st = with_stripe p (with_added e (stripe_at st p)) st

abbrev pub collected : {E : Type 0} → (E → Stamp) → Place → Stamp → StateOf E → StateOf E
collected stamp p c st = with_stripe p (with_collected stamp c (stripe_at st p)) st

-- the last of a list
abbrev pub last : {X : Type 0} → List X → Option X
last xs = slice_get xs (length xs - 1)

-- the stamp and the slot of the newest version of a stripe, if there is one; the start's slot is the zero block's
abbrev pub newest_entry : StripeOf Entry → Option Entry
newest_entry s = last ((if s.from_start then record { stamp = first_stamp; block = 4294967295 } ∷ [] else []) ++ s.added)

-- the stripe has a version of this stamp
abbrev pub has_version : Stamp → StripeOf Entry → Bool
has_version t s = (s.from_start && stamp_same first_stamp t) || list_any (λ e. stamp_same e.stamp t) s.added

-- what a value in memory says
abbrev pub stripe_of : Stripe → StripeOf Entry
stripe_of s = record { order = s.order; from_start = s.from_start; added = s.added.versions.items }

-- the place is of a view of the group below this one
abbrev pub is_of_view : ℕ → ℕ → Place → Bool
is_of_view group first p = (p.0 == group) && nat_lt p.1 first

-- a group that nothing is kept of
abbrev pub no_group : Group
no_group = record { known = None; ballots = None }

abbrev pub group_at : {E : Type 0} → StateOf E → ℕ → Group
group_at st g = slice_index_or st.groups g no_group

-- nothing is kept: the state of a store that was just made
abbrev pub empty : {E : Type 0} → StateOf E
empty = record { boot = 0; groups = replicate most_groups no_group; stripes = [] }

-- a boot count
abbrev pub booted : {E : Type 0} → ℕ → StateOf E → StateOf E
booted n st = record { boot = n; groups = st.groups; stripes = st.stripes }

-- A view. What was promised and accepted for the successor of another view is forgotten, and the logs of the views before its
-- predecessor are dropped, with their order stamps; those of the predecessor too where all stripes are known to be in the view.
abbrev pub is_numbered : Option (View × Bool) → ℕ → Bool
is_numbered None n = false
is_numbered (Some known) n = known.0.number.0 == n

abbrev pub with_view : View → Bool → Group → Group
with_view view synced group = record { known = Some (view, synced); ballots = if is_numbered group.known view.number.0 then group.ballots else None }

abbrev pub viewed : {E : Type 0} → ℕ → View → Bool → StateOf E → StateOf E
viewed g view synced st = record {
  boot = st.boot;
  groups = slice_set st.groups g (with_view view synced (group_at st g));
  stripes = filter (λ e. not (is_of_view g (if synced then view.number.0 else (view.number.0 - 1)) e.0)) st.stripes;
}

-- ballots
abbrev pub with_ballots : Ballot → Option (Ballot × List BrickId) → Group → Group
with_ballots promised accepted group = record { known = group.known; ballots = Some (promised, accepted) }

abbrev pub balloted : {E : Type 0} → ℕ → Ballot → Option (Ballot × List BrickId) → StateOf E → StateOf E
balloted g promised accepted st = record { boot = st.boot; groups = slice_set st.groups g (with_ballots promised accepted (group_at st g)); stripes = st.stripes }
