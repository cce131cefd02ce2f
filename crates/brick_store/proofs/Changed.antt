-- What records make of a state: its slots, its lists of members, and that they can be.
use Rattle.std.proofs.Common.{◌≡◌, ◌≢◌, ℕ, zero, suc, ◌≤◌, ◌<◌, set, get_or, map, ◌||◌, Bool, true, false, ◌&&◌, cond, Option, Some, None, List, [], ◌∷◌, ◌++◌, length, refl, sym, ap, subst, ◌∙◌, arith}
use Rattle.std.specs.declared.cmp.Ordering.{Ordering}
use Rattle.std.specs.declared.cmp.Ordering.TheVariants.{Less, Equal, Greater}
use Rattle.std.specs.Ordering.{is_eq}
use Rattle.std.specs.Option.{IsSome, unwrap_or, option_and_then, option_map}
use Rattle.std.specs.Prelude.{replicate}
use Rattle.std.specs.List.{AllByRecursion, find, list_any}
use Rattle.std.specs.Map.{lookup, remove_entry}
use Rattle.std.specs.BTreeMap.{insert_entry, is_at}
use Rattle.std.proofs.lemmas.Bool.{lt-ltb, le-leb}
use Rattle.fab_base.specs.declared.stamps.Stamp.{Stamp}
use Rattle.fab_base.specs.declared.stamps.Ballot.{Ballot}
use Rattle.fab_base.specs.declared.identities.BrickId.{BrickId}
use Rattle.fab_base.specs.declared.member_lists.View.{View}
use Rattle.fab_base.specs.declared.identities.GroupId.{GroupId}
use Rattle.fab_base.specs.declared.identities.ViewNo.{ViewNo}
use Rattle.fab_base.specs.declared.identities.StripeNo.{StripeNo}
use Rattle.fab_base.specs.Stamps.{stamp_same, first_stamp}
use Rattle.stamp_store.specs.declared.log_records.LogChange.TheVariants.{Collect}
use Rattle.version_log.specs.Versions.{version, has_stamp}
use Rattle.stamp_store.specs.declared.kept_records.Kept.TheVariants.{Boot, Ballots, Order}
use Rattle.stamp_store.specs.declared.kept_records.Kept.TheVariants as kinds
use Rattle.stamp_store.specs.Spelling.{AcceptedHasMembers}
use Rattle.brick_state.specs.declared.groups.Group.{Group}
use Rattle.brick_state.specs.KeptStates.{IsLearnt, IsKeptState}
use Rattle.brick_state.specs.Rewrites.{learnt_number}
use Rattle.brick_state.specs.declared.records.Record.{Record}
use Rattle.brick_state.specs.declared.records.Record.TheVariants as forms
use Rattle.brick_state.specs.Entries.{Entry}
use Rattle.brick_state.specs.States.{Place, StripeOf, StateOf, place_cmp, first_stripe, is_first, stripe_in, stripe_at, with_stripe, ordered, with_order, live, no_group, group_at, is_numbered, with_view, with_ballots, viewed, balloted, collected, with_collected, stamp_of, has_version}
use Rattle.brick_state.specs.Folds.{Limits, applied, log_changed, place, is_full, adds_order}
use Rattle.brick_state.proofs.Listings.{all_insert, all_remove, all_filter}
use Rattle.brick_state.proofs.StripeMaps.{place_exact}
use Rattle.brick_store.specs.Blocks.{accepted_of, learnt_view, resolved_stripe, log_of, HasStamp}
use Rattle.brick_store.specs.Standing.{AllSlots, KnownHasMembers, BallotsHaveMembers, GroupHasMembers}
use Rattle.brick_store.specs.Steps.{changed}

-- ---- slots

-- the slots of the stripe at a place
pub slots_at : (P : ℕ → Type 0) (p : Place) (stripes : List (Place × StripeOf Entry))
    → AllByRecursion (λ e. AllByRecursion (λ v. P v.block) e.1.added) stripes → AllByRecursion (λ v. P v.block) (stripe_in stripes p).added
slots_at P p [] all = tt
slots_at P p (e ∷ stripes) all = by (place_cmp p e.0) (slots_at P p stripes all.1)
  where
    by : (r : Ordering) → AllByRecursion (λ v. P v.block) (stripe_in stripes p).added → AllByRecursion (λ v. P v.block)
        (unwrap_or (cond (is_eq r) (Some e.1) (lookup (is_at (place_cmp p)) stripes)) (first_stripe p)).added
    by Less rest = rest
    by Greater rest = rest
    by Equal rest = all.0

-- and of a stripe that is put there
pub slots_put : (P : ℕ → Type 0) (p : Place) (s : StripeOf Entry) (st : StateOf Entry) → AllByRecursion (λ v. P v.block) s.added → AllSlots P st
    → AllSlots P (with_stripe p s st)
slots_put P p s st here all = by (is_first p s)
  where
    by : (b : Bool) → AllByRecursion (λ (e : Place × StripeOf Entry). AllByRecursion (λ v. P v.block) e.1.added)
        (cond b (remove_entry (is_at (place_cmp p)) st.stripes) (insert_entry place_cmp st.stripes p s))
    by true = all_remove (λ e. AllByRecursion (λ v. P v.block) e.1.added) (is_at (place_cmp p)) st.stripes all
    by false = all_insert (λ e. AllByRecursion (λ v. P v.block) e.1.added) place_cmp place_exact p s st.stripes here all

pub slots_ordered : (P : ℕ → Type 0) (p : Place) (t : Stamp) (st : StateOf Entry) → AllSlots P st → AllSlots P (ordered p t st)
slots_ordered P p t st all = slots_put P p (with_order t (stripe_at st p)) st (slots_at P p st.stripes all) all

-- ---- records that can be

-- a record that makes this of a state can be
pub can_from : (limits : Limits) (r : Record) (st next : StateOf Entry) → applied limits r st ≡ Some next → IsSome (applied limits r st)
can_from limits r st next is = subst (λ (o : Option (StateOf Entry)). IsSome o) (sym is) refl

pub changed_to : (limits : Limits) (r : Record) (st next : StateOf Entry) → applied limits r st ≡ Some next → changed limits r st ≡ next
unfolding changed
changed_to limits r st next is = ap (λ (o : Option (StateOf Entry)). unwrap_or o st) is

pub order_applied : (limits : Limits) (g : GroupId) (v : ViewNo) (s : StripeNo) (t : Stamp) (st : StateOf Entry) → g.0 < 64
    → (adds_order t (stripe_at st (place g v s)) ≡ true → is_full limits st ≡ false)
    → applied limits (forms.Kept (Order g v s t)) st ≡ Some (ordered (place g v s) t st)
unfolding applied
order_applied limits g v s t st group free =
    rw (lt-ltb g.0 64 group) (by (adds_order t (stripe_at st (place g v s))) (is_full limits st) free)
  where
    by : (adds full : Bool) → (adds ≡ true → full ≡ false) → cond (adds && full) None (Some (ordered (place g v s) t st)) ≡ Some
        (ordered (place g v s) t st)
    by false full free = refl
    by true false free = refl
    by true true free = absurd (differ (free refl))
      where
        differ : true ≡ false → ⊥
        differ e = cc

-- fewer live records than there may be
pub not_full : (limits : Limits) (st : StateOf Entry) → is_full limits st ≡ false → live st ≢ limits.records
not_full limits st free is = absurd (differ (sym free ∙ full))
  where
    differ : false ≡ true → ⊥
    differ e = cc

    full : is_full limits st ≡ true
    full = le-leb limits.records (live st) (omega (arith, is))

-- ---- groups

all_set : (P : Group → Type 0) (groups : List Group) (g : ℕ) (group : Group) → P group → AllByRecursion P groups
    → AllByRecursion P (set groups g group)
all_set P [] zero group here all = all
all_set P [] (suc g) group here all = all
all_set P (x ∷ groups) zero group here all = (here, all.1)
all_set P (x ∷ groups) (suc g) group here all = (all.0, all_set P groups g group here all.1)

all_at : (P : Group → Type 0) (groups : List Group) (g : ℕ) → P no_group → AllByRecursion P groups → P (get_or groups g no_group)
all_at P [] zero none all = none
all_at P [] (suc g) none all = none
all_at P (x ∷ groups) zero none all = all.0
all_at P (x ∷ groups) (suc g) none all = all_at P groups g none all.1

-- the lists of members in a group
pub members_at : (g : ℕ) (st : StateOf Entry) → AllByRecursion GroupHasMembers st.groups → GroupHasMembers (group_at st g)
members_at g st all = all_at GroupHasMembers st.groups g (tt, tt) all

accepted_has : (ballots : Option (Ballot × Option (Ballot × List BrickId))) → BallotsHaveMembers ballots
    → AcceptedHasMembers (option_and_then (λ b. b.1) ballots)
accepted_has None has = tt
accepted_has (Some b) has = has

pub accepted_members : (g : ℕ) (st : StateOf Entry) → AllByRecursion GroupHasMembers st.groups → AcceptedHasMembers (accepted_of (group_at st g))
accepted_members g st all = accepted_has (group_at st g).ballots (members_at g st all).1

pub members_balloted : (g : ℕ) (promised : Ballot) (accepted : Option (Ballot × List BrickId)) (st : StateOf Entry) → AcceptedHasMembers accepted
    → AllByRecursion GroupHasMembers st.groups → AllByRecursion GroupHasMembers (balloted g promised accepted st).groups
members_balloted g promised accepted st has all = all_set GroupHasMembers st.groups g (with_ballots promised accepted (group_at st g))
    ((members_at g st all).0, has) all

pub members_viewed : (g : ℕ) (view : View) (synced : Bool) (st : StateOf Entry) → 1 ≤ length view.members → 1 ≤ length view.prior
    → AllByRecursion GroupHasMembers st.groups → AllByRecursion GroupHasMembers (viewed g view synced st).groups
members_viewed g view synced st some prior all = all_set GroupHasMembers st.groups g (with_view view synced (group_at st g))
    ((some, prior), by (is_numbered (group_at st g).known view.number.0)) all
  where
    by : (b : Bool) → BallotsHaveMembers (cond b (group_at st g).ballots None)
    by true = (members_at g st all).1
    by false = tt

pub slots_viewed : (P : ℕ → Type 0) (g : ℕ) (view : View) (synced : Bool) (st : StateOf Entry) → AllSlots P st → AllSlots P (viewed g view synced st)
slots_viewed P g view synced st all = all_filter (λ (e : Place × StripeOf Entry). AllByRecursion (λ v. P v.block) e.1.added) _ st.stripes all

pub ballots_applied : (limits : Limits) (g : GroupId) (v : ViewNo) (promised : Ballot) (accepted : Option (Ballot × List BrickId))
    (st : StateOf Entry) → g.0 < 64
    → applied limits (forms.Kept (Ballots g v promised accepted)) st ≡ Some (balloted g.0 promised accepted st)
unfolding applied
ballots_applied limits g v promised accepted st group = rw (lt-ltb g.0 64 group) refl

pub view_applied : (limits : Limits) (g : GroupId) (view : View) (synced : Bool) (st : StateOf Entry) → g.0 < 64 → 2 ≤ view.number.0
    → applied limits (forms.Kept (kinds.View g view synced)) st ≡ Some (viewed g.0 view synced st)
unfolding applied
view_applied limits g view synced st group above = rw (lt-ltb g.0 64 group) (rw (le-leb 2 view.number.0 above) refl)

-- a view that was learnt has a number above 1, and so has each one above the learnt one
learnt_some : (known : Option (View × Bool)) → IsLearnt known → 1 ≤ learnt_number known
learnt_some None h = omega arith
learnt_some (Some known) h = omega (arith, h)

pub learnt_at : (limits : Limits) (g : ℕ) (st : StateOf Entry) → IsKeptState limits st → IsLearnt (group_at st g).known
learnt_at limits g st kept = all_at (λ (group : Group). IsLearnt group.known) st.groups g tt kept.groups

pub above_learnt : (limits : Limits) (g n : ℕ) (st : StateOf Entry) → IsKeptState limits st → learnt_number (group_at st g).known < n → 2 ≤ n
above_learnt limits g n st kept above = omega (arith, learnt_some (group_at st g).known (learnt_at limits g st kept), above)

-- the view that a group learnt: its number, and its lists of members
known_view : (known : Option (View × Bool)) (view : View) → option_map (λ k. k.0) known ≡ Some view → IsLearnt known → KnownHasMembers known
    → (2 ≤ view.number.0) × ((1 ≤ length view.members) × (1 ≤ length view.prior))
known_view None view is learnt has = absurd cc
known_view (Some known) view is learnt has = subst (λ (v : View). (2 ≤ v.number.0) × ((1 ≤ length v.members) × (1 ≤ length v.prior))) (same is)
    (learnt, has)
  where
    same : Some known.0 ≡ Some view → known.0 ≡ view
    same h = cc

pub learnt_view_is : (limits : Limits) (g : ℕ) (st : StateOf Entry) (view : View) → learnt_view (group_at st g) ≡ Some view → IsKeptState limits st
    → AllByRecursion GroupHasMembers st.groups
    → (2 ≤ view.number.0) × ((1 ≤ length view.members) × (1 ≤ length view.prior))
learnt_view_is limits g st view is kept all = known_view (group_at st g).known view is (learnt_at limits g st kept) (members_at g st all).0

-- ---- logs

pub slots_collected : (P : ℕ → Type 0) (p : Place) (t : Stamp) (st : StateOf Entry) → AllSlots P st → AllSlots P (collected stamp_of p t st)
slots_collected P p t st all = slots_put P p (with_collected stamp_of t (stripe_at st p)) st
    (all_filter (λ (v : Entry). P v.block) _ (stripe_at st p).added (slots_at P p st.stripes all)) all

pub collect_applied : (limits : Limits) (g : GroupId) (v : ViewNo) (s : StripeNo) (t : Stamp) (st : StateOf Entry) → g.0 < 64
    → has_version t (stripe_at st (place g v s)) ≡ true
    → applied limits (forms.Logged (record { group = g; view = v; stripe = s; stamp = t; change = Collect })) st ≡ Some
    (collected stamp_of (place g v s) t st)
unfolding applied log_changed
collect_applied limits g v s t st group held = rw (lt-ltb g.0 64 group) (rw held refl)

-- a version of this stamp among those of a log with blocks is one among those with slots
any_of : (block : ℕ → List ℕ) (t : Stamp) (entries : List Entry) → IsSome (find (has_stamp t) (map (λ e. version e.stamp (block e.block)) entries))
    → list_any (λ e. stamp_same e.stamp t) entries ≡ true
any_of block t [] found = absurd cc
any_of block t (e ∷ entries) found = by (stamp_same e.stamp t) (any_of block t entries) found
  where
    by : (b : Bool) → (IsSome (find (has_stamp t) (map (λ x. version x.stamp (block x.block)) entries))
        → list_any (λ x. stamp_same x.stamp t) entries ≡ true)
        → IsSome (cond b (Some (version e.stamp (block e.block))) (find (has_stamp t) (map (λ x. version x.stamp (block x.block)) entries)))
        → (b || list_any (λ x. stamp_same x.stamp t) entries) ≡ true
    by true more h = refl
    by false more h = more h

pub held_of : (size : ℕ) (block : ℕ → List ℕ) (t : Stamp) (s : StripeOf Entry) → HasStamp t (log_of size (resolved_stripe block s))
    → has_version t s ≡ true
held_of size block t s found = by s.from_start (stamp_same first_stamp t) (shown s.from_start found)
  where
    shown : (from : Bool) → IsSome (find (has_stamp t) (cond from (version first_stamp (replicate size 0) ∷ []) [] ++ map
        (λ e. version e.stamp (block e.block)) s.added))
        → IsSome (cond from (cond (stamp_same first_stamp t) (Some (version first_stamp (replicate size 0)))
        (find (has_stamp t) (map (λ e. version e.stamp (block e.block)) s.added)))
        (find (has_stamp t) (map (λ e. version e.stamp (block e.block)) s.added)))
    shown true h = h
    shown false h = h

    by : (from same : Bool) → IsSome (cond from (cond same (Some (version first_stamp (replicate size 0)))
        (find (has_stamp t) (map (λ e. version e.stamp (block e.block)) s.added)))
        (find (has_stamp t) (map (λ e. version e.stamp (block e.block)) s.added)))
        → ((from && same) || list_any (λ e. stamp_same e.stamp t) s.added) ≡ true
    by true true h = refl
    by true false h = any_of block t s.added h
    by false same h = any_of block t s.added h
