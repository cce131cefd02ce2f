-- What lines leave that speak of suspicions: a list that a brick proposes by them may keep its group.
use Rattle.std.proofs.Common.{◌≡◌, ℕ, ◌<◌, ◌≤◌, Bool, true, false, cond, ◌&&◌, ◌||◌, nat_lt, nat_le, nat_eq, List, [], ◌∷◌, ◌++◌, length, append-nil, Option, Some, None, refl, sym, ap, ◌∙◌, subst, arith}
use Rattle.std.specs.Prelude.{not, is_some, map, Ok, Err}
use Rattle.std.specs.List.{IsDistinct, AllByRecursion, list_all}
use Rattle.std.proofs.lemmas.Bool.{and_parts, and_from, or_parts, not-true, false≢true}
use Rattle.std.proofs.lemmas.Bool.Decides.{nat_tests}
use Rattle.fab_base.specs.declared.answers.Refusal.{Refusal}
use Rattle.fab_base.specs.declared.answers.Refusal.TheVariants.{Down, NoStripe, Busy}
use Rattle.fab_base.specs.declared.identities.BrickId.{BrickId}
use Rattle.fab_base.specs.declared.member_lists.View.{View}
use Rattle.fab_base.specs.Layouts.{Layout, Group, group_of}
use Rattle.fab_disk.specs.declared.mem_disk.MemDisk.{MemDisk}
use Rattle.layout.specs.Limits.{IsGroup, IsLayout}
use Rattle.lines.specs.declared.forms.Line.{Line}
use Rattle.lines.specs.declared.forms.Line.TheVariants.{Suspect, Trust, Spare}
use Rattle.quorum.specs.Memberships.{stands_in, are_distinct, is_membership}
use Rattle.stripe_code.specs.Codes.{coding}
use Rattle.stripe_code.proofs.Soundness.{coding_is_sound}
use Rattle.protocol.specs.declared.tellings.Report.TheVariants as report
use Rattle.protocol.specs.declared.tellings.ViewAnswer.TheVariants as answer
use Rattle.protocol.specs.Nodes.{Node, proposal_refusal_in, proposal_refusal, proposed}
use Rattle.protocol.specs.Views.{members_of}
use Rattle.protocol.specs.Worlds.{World, Event, Proposes, is_up, may_propose, world_stepped, happens, run}
use Rattle.spares.specs.Suspicions.{Suspicions}
use Rattle.spares.specs.Replacements.{AreBricks, IsReplacement, list_for}
use Rattle.spares.proofs.Soundness.{list_for-sound}
use Rattle.view_laws.proofs.Histories.{ViewWorld, IsNamed, view_world, name_has_number, known_taught}
use Rattle.view_laws.proofs.Deciding.{first_is}
use Rattle.view_laws.proofs.Agreeing.{Agreed}
use Rattle.view_laws.proofs.Agreements.{always_agreed}
use Rattle.view_laws.proofs.Ended.{bad_members_end}
use Rattle.world.specs.Runs.{Run, Step, world_of, all_events, brick_of, group_no, member_no}
use Rattle.world.specs.Suspected.{suspicions_of, proposer_in, proposer_at, list_to_propose, spare_list, proposing_line, meant}
use Rattle.world.specs.Faults.{IsEventsOf}
use Rattle.world.specs.Disks.{KeepsDisks}
use Rattle.world.specs.Steps.{Runs, ChangesNothing, LeavesAside}
use Rattle.world.proofs.RunLemmas.{world_of-with_step}
use Rattle.world.proofs.Suspecting.{bricks_of}

-- ---- lists that may keep a group

-- a brick is none of these
none_stands : (brick : BrickId) (members : List BrickId)
    → AllByRecursion (λ (n : ℕ). nat_eq brick.0 n ≡ false) (map (λ (member : BrickId). member.0) members) → stands_in members brick ≡ false
none_stands brick [] none = refl
none_stands brick (member ∷ members) none =
    ap (λ (t : Bool). t || stands_in members brick) none.0 ∙ none_stands brick members none.1

stands_none : (brick : BrickId) (members : List BrickId) → stands_in members brick ≡ false
    → AllByRecursion (λ (n : ℕ). nat_eq brick.0 n ≡ false) (map (λ (member : BrickId). member.0) members)
stands_none brick [] none = tt
stands_none brick (member ∷ members) none =
    let parts = or_parts (nat_eq brick.0 member.0) (stands_in members brick) none in
    (parts.0, stands_none brick members parts.1)

-- no brick stands twice
distinct_is : (members : List BrickId) → IsDistinct nat_eq (map (λ (member : BrickId). member.0) members) → are_distinct members ≡ true
unfolding IsDistinct
distinct_is [] distinct = refl
distinct_is (brick ∷ members) distinct =
    and_from (not (stands_in members brick)) (are_distinct members) (ap not (none_stands brick members distinct.0)) (distinct_is members distinct.1)

is_distinct : (members : List BrickId) → are_distinct members ≡ true → IsDistinct nat_eq (map (λ (member : BrickId). member.0) members)
unfolding IsDistinct
is_distinct [] once = tt
is_distinct (brick ∷ members) once =
    let parts = and_parts (not (stands_in members brick)) (are_distinct members) once in
    (stands_none brick members (not-true (stands_in members brick) parts.0), is_distinct members parts.1)

-- all are bricks of the disk
below_is : (bricks : ℕ) (members : List BrickId) → AllByRecursion (λ (member : BrickId). member.0 < bricks) members
    → list_all (λ brick. nat_lt brick.0 bricks) members ≡ true
below_is bricks [] below = refl
below_is bricks (member ∷ members) below =
    and_from (nat_lt member.0 bricks) (list_all (λ brick. nat_lt brick.0 bricks) members) (let here = below.0 in grind (arith, nat_tests, here))
    (below_is bricks members below.1)

is_below : (bricks : ℕ) (members : List BrickId) → list_all (λ brick. nat_lt brick.0 bricks) members ≡ true
    → AllByRecursion (λ (member : BrickId). member.0 < bricks) members
is_below bricks [] all = tt
is_below bricks (member ∷ members) all =
    let parts = and_parts (nat_lt member.0 bricks) (list_all (λ brick. nat_lt brick.0 bricks) members) all in
    let here = parts.0 in
    (grind (arith, nat_tests, here), is_below bricks members parts.1)

-- what a list is that may keep a group
record MayKeep (m bricks : ℕ) (members : List BrickId) : Type 0 where
  enough : m ≤ length members
  few : length members ≤ 32
  are : AreBricks bricks members

may_keep : (m bricks : ℕ) (members : List BrickId) → MayKeep m bricks members → is_membership m bricks members ≡ true
unfolding is_membership
may_keep m bricks members may =
    let enough = may.enough in
    let few = may.few in
    and_from (nat_le m (length members) && nat_le (length members) 32) (are_distinct members && list_all (λ brick. nat_lt brick.0 bricks) members)
    (and_from (nat_le m (length members)) (nat_le (length members) 32) (grind (arith, nat_tests, enough)) (grind (arith, nat_tests, few)))
    (and_from (are_distinct members) (list_all (λ brick. nat_lt brick.0 bricks) members) (distinct_is members may.are.distinct) (below_is bricks members may.are.below))

keeps : (m bricks : ℕ) (members : List BrickId) → is_membership m bricks members ≡ true → MayKeep m bricks members
unfolding is_membership
keeps m bricks members is =
    let parts = and_parts (nat_le m (length members) && nat_le (length members) 32) (are_distinct members && list_all (λ brick. nat_lt brick.0 bricks) members) is in
    let sizes = and_parts (nat_le m (length members)) (nat_le (length members) 32) parts.0 in
    let some = and_parts (are_distinct members) (list_all (λ brick. nat_lt brick.0 bricks) members) parts.1 in
    record {
      enough = grind (arith, nat_tests, sizes);
      few = grind (arith, nat_tests, sizes);
      are = record { distinct = is_distinct members some.0; below = is_below bricks members some.1 };
    }

-- a group's own members may keep it
group_keeps : (block bricks : ℕ) (group : Group) → IsGroup block bricks group → is_membership group.m bricks group.members ≡ true
group_keeps block bricks group is =
    may_keep group.m bricks group.members
    (record { enough = is.limits.enough_seats; few = is.limits.few_seats; are = record { distinct = is.distinct; below = is.below } })

-- the members of a known view may keep its group
named_keeps : (layout : Layout) (v : ViewWorld) (g : ℕ) (view : View) (base : Group) → IsLayout layout → Agreed layout v → IsNamed layout v.packets g view
    → group_of layout g ≡ Some base → is_membership base.m layout.bricks view.members ≡ true
named_keeps layout v g view base is agreed named found = by (nat_lt 1 view.number.0) refl
  where
    by : (t : Bool) → nat_lt 1 view.number.0 ≡ t → is_membership base.m layout.bricks view.members ≡ true
    by true later = (known_taught layout v g view agreed.says named (grind (arith, nat_tests, later))).1.fits base found
    by false isnt =
        let some = (name_has_number layout v.packets g view.number.0 view named).1 in
        let one : view.number.0 ≡ 1 = grind (arith, nat_tests, isnt, some) in
        let members : base.members ≡ view.members
        = sym (ap members_of found) ∙ ap (λ (z : View). z.members) (first_is layout v.packets g view.number.0 view one named) in
        subst (λ (l : List BrickId). is_membership base.m layout.bricks l ≡ true) members (group_keeps layout.block layout.bricks base (is.each g base found))

-- so may those of a view that a brick has learnt
learnt_keeps : (r : Run) (b g : ℕ) (base : Group) → IsLayout r.layout → group_of r.layout g ≡ Some base
    → is_membership base.m r.layout.bricks (((world_of r).nodes b).learnt g).view.members ≡ true
learnt_keeps r b g base is found =
    let agreed = (always_agreed (coding r.layout) (coding_is_sound r.layout is) (all_events r.steps)).agreed in
    named_keeps r.layout (view_world (world_of r)) g (((world_of r).nodes b).learnt g).view base is agreed (agreed.learnt b g) found

-- and so may a list in which some of them are replaced
replaced_keeps : (s : Suspicions) (by : BrickId) (m : ℕ) (members next : List BrickId) → is_membership m s.bricks members ≡ true
    → list_for s by members ≡ Some next → is_membership m s.bricks next ≡ true
replaced_keeps s by m members next is list =
    let were = keeps m s.bricks members is in
    let enough = were.enough in
    let few = were.few in
    let sound : IsReplacement s by members next = list_for-sound s by members (Some next) (sym list) were.are in
    let long = sound.long in
    may_keep m s.bricks next (record { enough = omega (arith, long, enough); few = omega (arith, long, few); are = sound.bricks })

-- ---- a line `spare` reports nothing

-- where nothing is refused, the first reason is not so
first_not : (t : Bool) (first : Refusal) (rest : Option Refusal) → is_some (cond t (Some first) rest) ≡ false → t ≡ false
first_not true first rest none = absurd (false≢true (sym none))
first_not false first rest none = refl

-- a proposal that is not refused is of a group, by a brick that has none
unrefused_in : (node : Node) (g : ℕ) (found : Option Group) → is_some (proposal_refusal_in node g found) ≡ false
    → (base : Group) × (found ≡ Some base) × (is_some node.proposal ≡ false)
unrefused_in node g None none = absurd (false≢true (sym none))
unrefused_in node g (Some base) none = (base, refl, first_not (is_some node.proposal) Busy _ none)

unrefused : (layout : Layout) (node : Node) (g : ℕ) → is_some (proposal_refusal layout node g) ≡ false
    → (base : Group) × (group_of layout g ≡ Some base) × (is_some node.proposal ≡ false)
unfolding proposal_refusal
unrefused layout node g none = unrefused_in node g (group_of layout g) none

-- a brick may be asked for a proposal, and its view is this
asked_view : (r : Run) (b g : ℕ) (base : Group) → is_up r.layout (world_of r) (brick_of b) ≡ true → group_of r.layout g ≡ Some base
    → is_some ((world_of r).nodes b).proposal ≡ false → proposer_at r b g ≡ Ok (((world_of r).nodes b).learnt g).view
asked_view r b g base up found free =
    ap (λ (t : Bool). cond t (cond (is_some (group_of r.layout g)) (proposer_in ((world_of r).nodes b) g) (Err NoStripe)) (Err Down)) up
    ∙ ap (λ (o : Option Group). cond (is_some o) (proposer_in ((world_of r).nodes b) g) (Err NoStripe)) found
    ∙ ap (λ (t : Bool). cond t (Err Busy) (Ok (((world_of r).nodes b).learnt g).view)) free

-- bricks are asked for by their numbers
same_members : (bricks : ℕ) (members : List BrickId) → bricks ≤ 64 → AllByRecursion (λ (member : BrickId). member.0 < bricks) members
    → map member_no (map (λ (member : BrickId). member.0) members) ≡ members
same_members bricks [] few below = refl
same_members bricks (member ∷ members) few below =
    let here = below.0 in
    let small : nat_lt member.0 65536 ≡ true = grind (arith, nat_tests, here, few) in
    let one : member_no member.0 ≡ member = ap (λ (t : Bool). brick_of (cond t member.0 65535)) small in
    ap (λ (z : BrickId). z ∷ map member_no (map (λ (x : BrickId). x.0) members)) one
    ∙ ap (λ (l : List BrickId). member ∷ l) (same_members bricks members few below.1)

-- a proposal of such a list reports nothing
quiet_proposal : (r : Run) (b g : ℕ) (members : List BrickId) → IsLayout r.layout → spare_list r b g ≡ Some members
    → (happens (coding r.layout) (world_of r) (Proposes (brick_of b) (group_no g) (map member_no (map (λ (member : BrickId). member.0) members)))).choices.reports
    ≡ (world_of r).choices.reports
unfolding happens
quiet_proposal r b g members is list = by (may_propose (coding r.layout) (world_of r) (brick_of b) (group_no g)) refl
  where
    asked : List BrickId
    asked = map member_no (map (λ (member : BrickId). member.0) members)

    by : (t : Bool) → may_propose (coding r.layout) (world_of r) (brick_of b) (group_no g) ≡ t
        → (happens (coding r.layout) (world_of r) (Proposes (brick_of b) (group_no g) asked)).choices.reports ≡ (world_of r).choices.reports
    by false not_so =
        ap (λ (t : Bool). (cond t (world_stepped (coding r.layout) (world_of r) (brick_of b)
        (proposed (coding r.layout) (brick_of b) ((world_of r).nodes b) (group_no g) asked)) (world_of r)).choices.reports) not_so
    by true may =
        let w : World = world_of r in
        let s : Suspicions = suspicions_of r in
        let parts = and_parts (is_up r.layout w (brick_of b)) (not (is_some (proposal_refusal r.layout (w.nodes b) g))) may in
        let (base, found, free) = unrefused r.layout (w.nodes b) g (not-true (is_some (proposal_refusal r.layout (w.nodes b) g)) parts.1) in
        let view : View = ((w.nodes b).learnt g).view in
        let bricks : s.bricks ≡ r.layout.bricks = bricks_of r in
        let few : s.bricks ≤ 64 = subst (λ (n : ℕ). n ≤ 64) (sym bricks) is.few_bricks in
        let given : list_for s (brick_of b) view.members ≡ Some members
        = sym (ap (list_to_propose s (brick_of b)) (asked_view r b g base parts.0 found free)) ∙ list in
        let may_keep_it : is_membership base.m s.bricks members ≡ true =
        replaced_keeps s (brick_of b) base.m view.members members
        (subst (λ (n : ℕ). is_membership base.m n view.members ≡ true) (sym bricks) (learnt_keeps r b g base is found)) given in
        let same : asked ≡ members = same_members s.bricks members few (keeps base.m s.bricks members may_keep_it).are.below in
        let is_list : is_membership base.m r.layout.bricks asked ≡ true =
        subst (λ (n : ℕ). is_membership base.m n asked ≡ true) bricks
        (subst (λ (l : List BrickId). is_membership base.m s.bricks l ≡ true) (sym same) may_keep_it) in
        bad_members_end (coding r.layout) w (brick_of b) (group_no g) asked base may found
        ∙ ap (λ (t : Bool). w.choices.reports ++ cond t [] ((brick_of b, report.View (group_no g) None answer.BadMembers) ∷ [])) is_list
        ∙ append-nil w.choices.reports

-- nor does the line
quiet_line : (r : Run) (b g : ℕ) (new : List MemDisk) (events : List Event) → IsLayout r.layout
    → IsEventsOf r.layout (world_of r) r.disks new (meant r (Spare b g)) events
    → (run (coding r.layout) events (world_of r)).choices.reports ≡ (world_of r).choices.reports
quiet_line r b g new events is = by (spare_list r b g) refl
  where
    by : (o : Option (List BrickId)) → spare_list r b g ≡ o → IsEventsOf r.layout (world_of r) r.disks new (proposing_line b g o) events
        → (run (coding r.layout) events (world_of r)).choices.reports ≡ (world_of r).choices.reports
    by None none are = ap (λ (l : List Event). (run (coding r.layout) l (world_of r)).choices.reports) are
    by (Some members) list are =
        ap (λ (l : List Event). (run (coding r.layout) l (world_of r)).choices.reports) are ∙ quiet_proposal r b g members is list

-- ---- what each line leaves

-- a step of no event changes nothing
still : (old new : Run) (line : Line) (step : Step) → Runs old new line step → step.events ≡ [] → ChangesNothing old new
still old new line step runs none = record {
  world = ap world_of runs.run ∙ world_of-with_step old step new.disks
      ∙ ap (λ (l : List Event). run (coding old.layout) l (world_of old)) none;
  disks = subst (λ (l : List Event). KeepsDisks (coding old.layout) (world_of old) l old.disks new.disks) none runs.disks;
}

pub aside_left : (old new : Run) (line : Line) (step : Step) → IsLayout old.layout → Runs old new line step → LeavesAside old new line
aside_left old new (Suspect b c) step is runs = still old new (Suspect b c) step runs runs.events_are
aside_left old new (Trust b c) step is runs = still old new (Trust b c) step runs runs.events_are
aside_left old new (Spare b g) step is runs =
    ap (λ (r : Run). (world_of r).choices.reports) runs.run ∙ ap (λ (w : World). w.choices.reports) (world_of-with_step old step new.disks)
    ∙ quiet_line old b g new.disks step.events is runs.events_are
aside_left old new line step is runs = tt
