-- Lists of members that may keep a group: they have a member, and only bricks of the disk.
use Rattle.std.proofs.Common.{◌≡◌, ℕ, ◌<◌, ◌≤◌, true, List, [], ◌∷◌, length, arith, nat_lt}
use Rattle.std.specs.Prelude.{nat_le, ◌==◌, ◌&&◌}
use Rattle.std.specs.List.{list_all}
use Rattle.std.proofs.lemmas.Bool.{and_parts, ltb-true, ne_eqb, not_from_false}
use Rattle.fab_base.specs.declared.identities.BrickId.{BrickId}
use Rattle.fab_base.specs.declared.member_lists.View.{View}
use Rattle.fab_base.specs.Layouts.{Layout, Group, first_view}
use Rattle.layout.specs.Limits.{IsGroup}
use Rattle.quorum.specs.Memberships.{are_distinct, is_membership}
use Rattle.quorum.proofs.MembershipSizes.{membership_is_long}
use Rattle.protocol.specs.Views.{is_view}
use Rattle.serving.specs.Spellings.{has_some}
use Rattle.serving.proofs.Fitting.{AreBricks, ViewFits}

-- a list that is long enough has a member
long_enough : (m : ℕ) (members : List BrickId) → 1 ≤ m → m ≤ length members → has_some members ≡ true
long_enough m [] some long = absurd (omega (arith, some, long))
long_enough m (member ∷ members) some long = not_from_false (length (member ∷ members) == 0) (ne_eqb (length (member ∷ members)) 0 (λ none. omega (arith, none)))

-- a list that may keep a group has a member
pub names_some : (m bricks : ℕ) (members : List BrickId) → 1 ≤ m → is_membership m bricks members ≡ true → has_some members ≡ true
names_some m bricks members some is = long_enough m members some (membership_is_long m bricks members is)

-- and only bricks of the layout
all_below : (layout : Layout) (members : List BrickId) → list_all (λ brick. nat_lt brick.0 layout.bricks) members ≡ true → AreBricks layout members
all_below layout [] all = tt
all_below layout (member ∷ members) all =
    let parts = and_parts (nat_lt member.0 layout.bricks) (list_all (λ brick. nat_lt brick.0 layout.bricks) members) all in
    (ltb-true member.0 layout.bricks parts.0, all_below layout members parts.1)

of_bricks : (layout : Layout) (m : ℕ) (members : List BrickId) → is_membership m layout.bricks members ≡ true → AreBricks layout members
unfolding is_membership
of_bricks layout m members is =
    let bricks = and_parts (nat_le m (length members) && nat_le (length members) 32)
    (are_distinct members && list_all (λ brick. nat_lt brick.0 layout.bricks) members) is in
    all_below layout members (and_parts (are_distinct members) (list_all (λ brick. nat_lt brick.0 layout.bricks) members) bricks.1).1

-- so a view whose lists may keep a group can be told
pub view_fits : (layout : Layout) (m : ℕ) (view : View) → 1 ≤ m → is_view m layout.bricks view ≡ true → ViewFits layout view
view_fits layout m view some is =
    let lists = and_parts (is_membership m layout.bricks view.members) (is_membership m layout.bricks view.prior) is in
    record {
      members = of_bricks layout m view.members lists.0;
      some = names_some m layout.bricks view.members some lists.0;
      before = of_bricks layout m view.prior lists.1;
      prior = λ later. names_some m layout.bricks view.prior some lists.1;
    }

-- and so can a layout's own
pub first_fits : (layout : Layout) (group : Group) → IsGroup layout.block layout.bricks group → ViewFits layout (first_view group.members)
first_fits layout group is =
    record {
      members = is.below;
      some = long_enough group.m group.members is.limits.some_block is.limits.enough_seats;
      before = tt;
      prior = λ later. (let never : 1 < 1 = ltb-true 1 1 later in absurd (omega (arith, never)));
    }
