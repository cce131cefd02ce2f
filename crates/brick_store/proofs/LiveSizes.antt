-- The records that bring back a kept state: their frames are few bytes, and each list of members in them has members.
use Rattle.std.proofs.Common.{◌≡◌, ℕ, suc, ◌+◌, ◌*◌, ◌≤◌, Bool, true, false, cond, Option, Some, None, List, [], ◌∷◌, ◌++◌, length, refl, arith}
use Rattle.std.specs.List.{AllByRecursion}
use Rattle.std.specs.Map.{values_of}
use Rattle.std.proofs.lemmas.List.Sums.{sum_by-cons}
use Rattle.fab_base.specs.declared.identities.BrickId.{BrickId}
use Rattle.fab_base.specs.declared.member_lists.View.{View}
use Rattle.fab_base.specs.declared.stamps.Stamp.{Stamp}
use Rattle.fab_base.specs.declared.stamps.Ballot.{Ballot}
use Rattle.fab_base.specs.Stamps.{stamp_same, first_stamp}
use Rattle.brick_state.specs.declared.groups.Group.{Group}
use Rattle.brick_state.specs.declared.records.Record.{Record}
use Rattle.brick_state.specs.Entries.{Entry}
use Rattle.brick_state.specs.States.{Place, StripeOf, StateOf, weight, live, live_in}
use Rattle.brick_state.specs.Rewrites.{learnt_number, view_records, ballot_records, groups_records, order_records, order_record, version_records, start_of, stripe_records, stripes_records, live_records}
use Rattle.brick_store.specs.Sizes.{most_of}
use Rattle.brick_store.specs.Standing.{KnownHasMembers, BallotsHaveMembers, GroupHasMembers}
use Rattle.brick_store.specs.Steps.{RecordHasMembers}

most_of-append : (a b : List Record) → most_of (a ++ b) ≡ most_of a + most_of b
unfolding most_of
most_of-append [] b = omega arith
most_of-append (r ∷ a) b = omega (arith, most_of-append a b)

all_append : (P : Record → Type 0) (a b : List Record) → AllByRecursion P a → AllByRecursion P b → AllByRecursion P (a ++ b)
all_append P [] b first second = second
all_append P (r ∷ a) b first second = (first.0, all_append P a b first.1 second)

-- ---- groups

view_most : (g : ℕ) (known : Option (View × Bool)) → most_of (view_records g known) ≤ 145
unfolding most_of
view_most g None = omega arith
view_most g (Some known) = omega arith

ballots_most : (g v : ℕ) (ballots : Option (Ballot × Option (Ballot × List BrickId))) → most_of (ballot_records g v ballots) ≤ 100
unfolding most_of
ballots_most g v None = omega arith
ballots_most g v (Some b) = omega arith

groups_most : (g : ℕ) (groups : List Group) → most_of (groups_records g groups) ≤ 245 * length groups
unfolding groups_records most_of
groups_most g [] = omega arith
groups_most g (group ∷ groups) =
    let views = view_records g group.known in
    let ballots = ballot_records g (learnt_number group.known) group.ballots in
    omega (
      arith,
      most_of-append (views ++ ballots) (groups_records (suc g) groups),
      most_of-append views ballots,
      view_most g group.known,
      ballots_most g (learnt_number group.known) group.ballots,
      groups_most (suc g) groups,
    )

view_named : (g : ℕ) (known : Option (View × Bool)) → KnownHasMembers known → AllByRecursion RecordHasMembers (view_records g known)
view_named g None named = tt
view_named g (Some known) named = (named, tt)

ballots_named : (g v : ℕ) (ballots : Option (Ballot × Option (Ballot × List BrickId))) → BallotsHaveMembers ballots → AllByRecursion RecordHasMembers
    (ballot_records g v ballots)
ballots_named g v None named = tt
ballots_named g v (Some b) named = (named, tt)

groups_named : (g : ℕ) (groups : List Group) → AllByRecursion GroupHasMembers groups → AllByRecursion RecordHasMembers (groups_records g groups)
unfolding groups_records
groups_named g [] named = tt
groups_named g (group ∷ groups) named =
    let views = view_records g group.known in
    let ballots = ballot_records g (learnt_number group.known) group.ballots in
    all_append RecordHasMembers (views ++ ballots) (groups_records (suc g) groups)
    (all_append RecordHasMembers views ballots (view_named g group.known named.0.0)
    (ballots_named g (learnt_number group.known) group.ballots named.0.1))
    (groups_named (suc g) groups named.1)

-- ---- stripes

versions_most : (p : Place) (under : Option Entry) (entries : List Entry) → most_of (version_records p under entries) ≡ 41 * length entries
unfolding version_records most_of
versions_most p under [] = refl
versions_most p under (e ∷ entries) = omega (arith, versions_most p (Some e) entries)

order_most : (p : Place) (t : Stamp) (b : Bool) → most_of (cond b [] (order_record p t ∷ [])) ≤ 41 * cond b 0 1
unfolding most_of
order_most p t true = omega arith
order_most p t false = omega arith

stripe_most : (p : Place) (s : StripeOf Entry) → most_of (stripe_records p s) ≤ 41 * weight s
stripe_most p s =
    omega (
      arith,
      most_of-append (order_records p s.order) (version_records p (start_of s.from_start) s.added),
      order_most p s.order
          (stamp_same s.order first_stamp),
      versions_most p (start_of s.from_start) s.added,
    )

stripes_most : (stripes : List (Place × StripeOf Entry)) → most_of (stripes_records stripes) ≤ 41 * live_in stripes
unfolding stripes_records most_of
stripes_most [] = omega arith
stripes_most (e ∷ stripes) =
    let more : live_in (e ∷ stripes) ≡ weight e.1 + live_in stripes = sum_by-cons weight e.1 (values_of stripes) in
    omega (arith, more, most_of-append (stripe_records e.0 e.1) (stripes_records stripes), stripe_most e.0 e.1, stripes_most stripes)

versions_named : (p : Place) (under : Option Entry) (entries : List Entry) → AllByRecursion RecordHasMembers (version_records p under entries)
unfolding version_records
versions_named p under [] = tt
versions_named p under (e ∷ entries) = (tt, versions_named p (Some e) entries)

order_named : (p : Place) (t : Stamp) (b : Bool) → AllByRecursion RecordHasMembers (cond b [] (order_record p t ∷ []))
order_named p t true = tt
order_named p t false = (tt, tt)

stripes_named : (stripes : List (Place × StripeOf Entry)) → AllByRecursion RecordHasMembers (stripes_records stripes)
unfolding stripes_records
stripes_named [] = tt
stripes_named (e ∷ stripes) =
    all_append RecordHasMembers (stripe_records e.0 e.1) (stripes_records stripes)
    (all_append RecordHasMembers (order_records e.0 e.1.order) (version_records e.0 (start_of e.1.from_start) e.1.added)
    (order_named e.0 e.1.order (stamp_same e.1.order first_stamp)) (versions_named e.0 (start_of e.1.from_start) e.1.added))
    (stripes_named stripes)

-- ---- all of it

pub live_most : (st : StateOf Entry) → length st.groups ≡ 64 → most_of (live_records st) ≤ 15690 + 41 * live st
unfolding most_of
live_most st all = omega (
  arith,
  most_of-append (groups_records 0 st.groups) (stripes_records st.stripes),
  groups_most 0 st.groups,
  stripes_most st.stripes,
  all,
)

pub live_named : (st : StateOf Entry) → AllByRecursion GroupHasMembers st.groups → AllByRecursion RecordHasMembers (live_records st)
live_named st named = (
  tt,
  all_append RecordHasMembers (groups_records 0 st.groups) (stripes_records st.stripes) (groups_named 0 st.groups named)
      (stripes_named st.stripes),
)
