-- Every run follows its views: the members of a view that is known are those that its name tells, and where a view is known, a quorum of each view before has closed it.
use Rattle.std.proofs.Common.{◌≡◌, ℕ, zero, suc, ◌+◌, ◌-◌, ◌<◌, ◌≤◌, Bool, true, false, cond, ◌&&◌, ⊎_elim, List, [], ◌∷◌, ◌++◌, length, map, Option, Some, None, refl, sym, ap, ◌∙◌, subst, arith, nat_lt, nat_eq, is_some}
use Rattle.std.specs.Prelude.{not, ◌^◌}
use Rattle.std.specs.Option.{option_map, unwrap_or}
use Rattle.std.specs.List.{IsDistinct, AllByRecursion, list_all}
use Rattle.std.proofs.lemmas.Bool.{cond_both, and_parts, and_from, or_left, or_right, or_parts, or_cases, not-true, eqb-true}
use Rattle.std.proofs.lemmas.Bool.Decides.{nat_tests}
use Rattle.std.proofs.lemmas.Option.{same_Some}
use Rattle.fab_base.specs.declared.identities.BrickId.{BrickId}
use Rattle.fab_base.specs.declared.member_lists.View.{View}
use Rattle.fab_base.specs.declared.stamps.Ballot.{Ballot}
use Rattle.fab_base.specs.declared.stamps.Stamp.{Stamp}
use Rattle.fab_base.specs.Stamps.{stamp_below, first_stamp}
use Rattle.fab_base.specs.Layouts.{Layout, Group, group_of, first_view, brick_at}
use Rattle.fab_base.proofs.StampOrder.{stamp_below_irrefl, stamp_below_asym, stamp_not_below_trans}
use Rattle.messages.specs.declared.packets.Message.{Message}
use Rattle.messages.specs.declared.packets.Packet.{Packet}
use Rattle.quorum.specs.Quorums.{IsWithinLimits}
use Rattle.quorum.specs.Memberships.{stands_in, are_distinct, is_membership}
use Rattle.quorum.proofs.Counts.{count_monotone}
use Rattle.synod_laws.specs.Synods.{Kept, IsAtMost, last_of}
use Rattle.protocol.specs.Settings.{Setting, IsSound}
use Rattle.protocol.specs.Views.{members_of, layout_views, floor_of, group_kept, group_in, learn_in, first_learn, views_in}
use Rattle.protocol.specs.Replicas.{stamp_max, top_of}
use Rattle.protocol.specs.Nodes.{Node, view_at, has_accepted, view_floor, top_at}
use Rattle.protocol.specs.Worlds.{World, Event, first_world, run}
use Rattle.protocol.proofs.Events.{run-append}
use Rattle.view_laws.specs.Following.{IsGuarded, Follows, EveryRunFollowsItsViews}
use Rattle.view_laws.specs.Successors.{has_closed}
use Rattle.view_laws.proofs.FirstTold.{either, first_told}
use Rattle.view_laws.proofs.Histories.{ViewWorld, view_world, IsNamed, named_in, IsDecided, Extends, kept_is, name_has_number, name_is, known_taught}
use Rattle.view_laws.proofs.Agreeing.{Agreed}
use Rattle.view_laws.proofs.Deciding.{view_limits, first_is}
use Rattle.view_laws.proofs.Agreements.{always_agreed}
use Rattle.view_laws.proofs.Extending.{run_extends}

-- ---- the members of views

-- what the first message names that teaches a view, by packets
first_learn_is : (g e : ℕ) (packets : List Packet) → first_learn g e packets ≡ first_told (λ packet. learn_in g e packet.message) packets
first_learn_is g e [] = refl
first_learn_is g e (packet ∷ packets) =
    by packet.message ∙ ap (either (learn_in g e packet.message)) (first_learn_is g e packets)
  where
    by : (message : Message) → first_learn g e (record { from = packet.from; to = packet.to; message = message } ∷ packets)
        ≡ either (learn_in g e message) (first_learn g e packets)
    by (Message.Learn group view) = refl
    by (Message.Request call request) = refl
    by (Message.Reply call said) = refl
    by (Message.Synced group view) = refl
    by (Message.Client ask) = refl
    by (Message.ClientReply id answered) = refl

-- the members of a view that has a name are those that it tells
pub views_of_name : (layout : Layout) (packets : List Packet) (g e : ℕ) (view : View) → named_in layout packets g e ≡ Some view
    → views_in layout packets g e ≡ view.members
views_of_name layout packets g e view named = by (nat_lt 1 e) refl
  where
    by : (t : Bool) → nat_lt 1 e ≡ t → views_in layout packets g e ≡ view.members
    by true later =
        let first : first_told (λ packet. learn_in g e packet.message) packets ≡ Some view
        = sym (ap (λ (t : Bool). cond t (first_told (λ packet. learn_in g e packet.message) packets)
        (cond (nat_eq e 1) (Some (first_view (members_of (group_of layout g)))) None)) later) ∙ named in
        ap (λ (t : Bool). cond t (unwrap_or (option_map (λ (z : View). z.members) (first_learn g e packets)) (layout_views layout g e)) (layout_views layout g e)) later
        ∙ ap (λ (z : Option View). unwrap_or (option_map (λ (y : View). y.members) z) (layout_views layout g e)) (first_learn_is g e packets ∙ first)
    by false isnt =
        let some = (name_has_number layout packets g e view named).1 in
        let one : e ≡ 1 = grind (arith, nat_tests, isnt, some) in
        ap (λ (t : Bool). cond t (unwrap_or (option_map (λ (z : View). z.members) (first_learn g e packets)) (layout_views layout g e)) (layout_views layout g e)) isnt
        ∙ ap (λ (z : View). z.members) (first_is layout packets g e view one named)

-- those of another are the layout's
pub views_of_none : (layout : Layout) (packets : List Packet) (g e : ℕ) → named_in layout packets g e ≡ None
    → views_in layout packets g e ≡ members_of (group_of layout g)
views_of_none layout packets g e none = by (nat_lt 1 e) refl
  where
    by : (t : Bool) → nat_lt 1 e ≡ t → views_in layout packets g e ≡ members_of (group_of layout g)
    by true later =
        let first : first_told (λ packet. learn_in g e packet.message) packets ≡ None
        = sym (ap (λ (t : Bool). cond t (first_told (λ packet. learn_in g e packet.message) packets)
        (cond (nat_eq e 1) (Some (first_view (members_of (group_of layout g)))) None)) later) ∙ none in
        ap (λ (t : Bool). cond t (unwrap_or (option_map (λ (z : View). z.members) (first_learn g e packets)) (layout_views layout g e)) (layout_views layout g e)) later
        ∙ ap (λ (z : Option View). unwrap_or (option_map (λ (y : View). y.members) z) (layout_views layout g e)) (first_learn_is g e packets ∙ first)
    by false isnt =
        ap (λ (t : Bool). cond t (unwrap_or (option_map (λ (z : View). z.members) (first_learn g e packets)) (layout_views layout g e)) (layout_views layout g e)) isnt

-- the group of a view, by what it tells
pub group_of_name : (layout : Layout) (packets : List Packet) (g e : ℕ) (view : View) → named_in layout packets g e ≡ Some view
    → group_in layout (views_in layout packets) g e ≡ group_kept layout view.members g
group_of_name layout packets g e view named = ap (λ (members : List BrickId). group_kept layout members g) (views_of_name layout packets g e view named)

-- no other has the brick's number
none_equal : (brick : BrickId) (members : List BrickId) → stands_in members brick ≡ false
    → AllByRecursion (λ n. nat_eq brick.0 n ≡ false) (map (λ (member : BrickId). member.0) members)
none_equal brick [] none = tt
none_equal brick (member ∷ members) none =
    let parts = or_parts (nat_eq brick.0 member.0) (stands_in members brick) none in
    (parts.0, none_equal brick members parts.1)

-- where no brick stands twice, their numbers are distinct
numbers_distinct : (members : List BrickId) → are_distinct members ≡ true → IsDistinct nat_eq (map (λ (member : BrickId). member.0) members)
unfolding IsDistinct
numbers_distinct [] once = tt
numbers_distinct (brick ∷ members) once =
    let parts = and_parts (not (stands_in members brick)) (are_distinct members) once in
    (none_equal brick members (not-true (stands_in members brick) parts.0), numbers_distinct members parts.1)

-- the members of a list that may keep a group are distinct
membership_distinct : (m bricks : ℕ) (members : List BrickId) → is_membership m bricks members ≡ true
    → IsDistinct nat_eq (map (λ (member : BrickId). member.0) members)
unfolding is_membership
membership_distinct m bricks members is =
    let parts = and_parts _ (are_distinct members && list_all (λ brick. nat_lt brick.0 bricks) members) is in
    numbers_distinct members (and_parts (are_distinct members) (list_all (λ brick. nat_lt brick.0 bricks) members) parts.1).0

-- the members of a known view are distinct
view_distinct : (setting : Setting) (v : ViewWorld) (g : ℕ) (view : View) (base : Group) → IsSound setting → Agreed setting.layout v
    → IsNamed setting.layout v.packets g view → group_of setting.layout g ≡ Some base
    → IsDistinct nat_eq (map (λ (member : BrickId). member.0) view.members)
view_distinct setting v g view base sound agreed named is = by (nat_lt 1 view.number.0) refl
  where
    by : (t : Bool) → nat_lt 1 view.number.0 ≡ t → IsDistinct nat_eq (map (λ (member : BrickId). member.0) view.members)
    by true later =
        membership_distinct base.m setting.layout.bricks view.members
        ((known_taught setting.layout v g view agreed.says named (grind (arith, nat_tests, later))).1.fits base is)
    by false isnt =
        let some = (name_has_number setting.layout v.packets g view.number.0 view named).1 in
        let one : view.number.0 ≡ 1 = grind (arith, nat_tests, isnt, some) in
        let members : base.members ≡ view.members
        = sym (ap members_of is) ∙ ap (λ (z : View). z.members) (first_is setting.layout v.packets g view.number.0 view one named) in
        subst (λ (l : List BrickId). IsDistinct nat_eq (map (λ (member : BrickId). member.0) l)) members (sound.distinct g base is)

-- ---- closed views

-- what is promised or accepted last for a view is there
kept_there : (t : Bool) (kept : Kept (List BrickId)) (b : Ballot) → IsAtMost b (last_of (cond t kept None)) → (t ≡ true) × (is_some (last_of kept) ≡ true)
kept_there false kept b most = absurd most
kept_there true None b most = absurd most
kept_there true (Some (promised, None)) b most = absurd most
kept_there true (Some (promised, Some accepted)) b most = (refl, refl)

-- a brick that has accepted a list to follow a view has closed it
pub voter_closed : (layout : Layout) (v : ViewWorld) (i g e : ℕ) (b : Ballot) (members : List BrickId) → Agreed layout v → v.votes i g e b ≡ Some members
    → has_closed (v.nodes i) g e ≡ true
voter_closed layout v i g e b members agreed voted = by (nat_lt e (view_at (v.nodes i) g)) refl
  where
    by : (t : Bool) → nat_lt e (view_at (v.nodes i) g) ≡ t → has_closed (v.nodes i) g e ≡ true
    by true later = or_left (nat_lt e (view_at (v.nodes i) g)) _ later
    by false isnt =
        let le : view_at (v.nodes i) g ≤ e = grind (arith, nat_tests, isnt) in
        let there = kept_there (nat_eq e (view_at (v.nodes i) g)) ((v.nodes i).ballots g) b ((agreed.keeps i g e le).covers b members voted) in
        let same : e ≡ view_at (v.nodes i) g = eqb-true e (view_at (v.nodes i) g) there.0 in
        or_right (nat_lt e (view_at (v.nodes i) g)) (nat_eq e (view_at (v.nodes i) g) && has_accepted (v.nodes i) g)
        (and_from (nat_eq e (view_at (v.nodes i) g)) (has_accepted (v.nodes i) g) there.0
        (and_from (nat_lt (view_at (v.nodes i) g) (2 ^ 32 - 1)) (is_some (last_of ((v.nodes i).ballots g)))
        (subst (λ (z : ℕ). nat_lt z (2 ^ 32 - 1) ≡ true) same (agreed.fits i g e b members voted).successor) there.1))

-- of two stamps the greater is not below the first
max_above : (a b : Stamp) → stamp_below (stamp_max a b) a ≡ false
max_above a b = cond_both (stamp_below a b) b a (λ (z : Stamp). stamp_below z a ≡ false) (λ is. stamp_below_asym a b is) (λ isnt. stamp_below_irrefl a)

-- the floor of a later view is not below that of a view
pub floors_rise : (e f : ℕ) → 1 < e → e ≤ f → stamp_below (floor_of f) (floor_of e) ≡ false
unfolding stamp_below
floors_rise e f later le =
    cond_both (nat_lt 1 f) (record { view = record { 0 = f }; time = 0; brick = record { 0 = 0 }; boot = 0 }) first_stamp
    (λ (z : Stamp). stamp_below z (floor_of e) ≡ false)
    (λ above.
    cond_both (nat_lt 1 e) (record { view = record { 0 = e }; time = 0; brick = record { 0 = 0 }; boot = 0 }) first_stamp
    (λ (z : Stamp). stamp_below (record { view = record { 0 = f }; time = 0; brick = record { 0 = 0 }; boot = 0 }) z ≡ false)
    (λ over. grind (arith, nat_tests, le)) (λ isnt. absurd (grind (arith, nat_tests, isnt, later))))
    (λ isnt. absurd (grind (arith, nat_tests, isnt, later, le)))

-- a brick that has closed a view takes nothing below the next
pub closed_above : (node : Node) (g e s : ℕ) → 1 ≤ e → has_closed node g e ≡ true → stamp_below (top_at node g s) (floor_of (e + 1)) ≡ false
unfolding top_at
closed_above node g e s some closed =
    stamp_not_below_trans (floor_of (e + 1)) (view_floor node g) (top_at node g s)
    (⊎_elim
    (λ (later : nat_lt e (view_at node g) ≡ true).
    let less : e < view_at node g = grind (arith, nat_tests, later) in
    cond_both (has_accepted node g) (view_at node g + 1) (view_at node g) (λ (z : ℕ). stamp_below (floor_of z) (floor_of (e + 1)) ≡ false)
    (λ has. floors_rise (e + 1) (view_at node g + 1) (omega (arith, some)) (omega (arith, less)))
    (λ hasnt. floors_rise (e + 1) (view_at node g) (omega (arith, some)) (omega (arith, less))))
    (λ (now : (nat_eq e (view_at node g) && has_accepted node g) ≡ true).
    let parts = and_parts (nat_eq e (view_at node g)) (has_accepted node g) now in
    let same : e ≡ view_at node g = eqb-true e (view_at node g) parts.0 in
    subst (λ (t : Bool). stamp_below (floor_of (cond t (view_at node g + 1) (view_at node g))) (floor_of (e + 1)) ≡ false) (sym parts.1)
    (floors_rise (e + 1) (view_at node g + 1) (omega (arith, some)) (omega (arith, same))))
    (or_cases (nat_lt e (view_at node g)) (nat_eq e (view_at node g) && has_accepted node g) closed))
    (max_above (view_floor node g) (top_of (node.replicas g (view_at node g) s)))

-- where a view is known, the view after each one before it is known
pub below_known : (layout : Layout) (v : ViewWorld) (g e d : ℕ) (view : View) → Agreed layout v → 1 ≤ e → view.number.0 ≡ e + 1 + d → IsNamed layout v.packets g view
    → (next : View) × (IsNamed layout v.packets g next) × (next.number.0 ≡ e + 1)
below_known layout v g e zero view agreed some number named = (view, named, omega (arith, number))
below_known layout v g e (suc d) view agreed some number named =
    let decided : IsDecided layout v g view = (known_taught layout v g view agreed.says named (omega (arith, number, some))).1 in
    let next = decided.next in
    below_known layout v g e d decided.before agreed some (omega (arith, number, next)) decided.named

-- ---- following

-- each list of the members that are named is within the limits of its group, and distinct
pub named_fits : (setting : Setting) (w : World) (g e : ℕ) (group : Group) → IsSound setting → Agreed setting.layout (view_world w)
    → group_in setting.layout (views_in setting.layout w.packets) g e ≡ Some group
    → IsWithinLimits group.m (length group.members) × IsDistinct nat_eq (map (λ (member : BrickId). member.0) group.members)
named_fits setting w g e group sound agreed is = by (named_in setting.layout w.packets g e) refl
  where
    by : (z : Option View) → named_in setting.layout w.packets g e ≡ z
        → IsWithinLimits group.m (length group.members) × IsDistinct nat_eq (map (λ (member : BrickId). member.0) group.members)
    by (Some view) named =
        let kept = kept_is setting.layout view.members g group (sym (group_of_name setting.layout w.packets g e view named) ∙ is) in
        let known = name_is setting.layout w.packets g e view named in
        subst (λ (z : Group). IsWithinLimits z.m (length z.members) × IsDistinct nat_eq (map (λ (member : BrickId). member.0) z.members)) (sym kept.2) (
          view_limits setting.layout (view_world w) g view kept.0 sound.limits agreed.says known kept.1,
          view_distinct setting (view_world w) g view kept.0 sound agreed known kept.1,
        )
    by None none =
        let kept = kept_is setting.layout (members_of (group_of setting.layout g)) g group
        (sym (ap (λ (members : List BrickId). group_kept setting.layout members g) (views_of_none setting.layout w.packets g e none)) ∙ is) in
        let members : members_of (group_of setting.layout g) ≡ kept.0.members = ap members_of kept.1 in
        subst (λ (z : Group). IsWithinLimits z.m (length z.members) × IsDistinct nat_eq (map (λ (member : BrickId). member.0) z.members)) (sym kept.2)
        (subst (λ (l : List BrickId). IsWithinLimits kept.0.m (length l) × IsDistinct nat_eq (map (λ (member : BrickId). member.0) l)) (sym members)
        (sound.limits g kept.0 kept.1, sound.distinct g kept.0 kept.1))

-- where a list was chosen to follow a view, a quorum of the view's members takes nothing below the next
decided_guards : (layout : Layout) (w : World) (g e s : ℕ) (view : View) → Agreed layout (view_world w) → 1 ≤ e → (decided : IsDecided layout (view_world w) g view)
    → decided.before.number.0 ≡ e → IsGuarded w g s decided.group (floor_of (e + 1))
decided_guards layout w g e s view agreed some decided number =
    let group : Group = decided.group in
    let seats : ℕ → Bool = decided.chosen.0 in
    let many = decided.chosen.1 in
    let more = count_monotone (length group.members) seats (λ seat. not (stamp_below (top_at (w.nodes (brick_at group seat)) g s) (floor_of (e + 1))))
    (λ k below member.
    ap not (closed_above (w.nodes (brick_at group k)) g e s some
    (voter_closed layout (view_world w) (brick_at group k) g e decided.ballot view.members agreed
    (subst (λ (z : ℕ). w.choices.votes (brick_at group k) g z decided.ballot ≡ Some view.members) number (decided.chosen.2 k below member))))) in
    omega (arith, many, more)

-- a view's prior members are those of the view before, which has a name
prior_named : (layout : Layout) (packets : List Packet) (g e : ℕ) (view before : View) → view.prior ≡ before.members
    → named_in layout packets g e ≡ Some before → view.prior ≡ views_in layout packets g e
prior_named layout packets g e view before prior named = prior ∙ sym (views_of_name layout packets g e before named)

-- the group that the members of a view keep is the one of its name
same_group_named : (layout : Layout) (packets : List Packet) (g e : ℕ) (view : View) (one other : Group) → group_kept layout view.members g ≡ Some one
    → named_in layout packets g e ≡ Some view → group_in layout (views_in layout packets) g e ≡ Some other → one ≡ other
same_group_named layout packets g e view one other kept named found =
    same_Some one other (sym kept ∙ sym (group_of_name layout packets g e view named) ∙ found)

-- a world follows the members that the packets of a later one name
pub follows_later : (setting : Setting) (w later : World) → IsSound setting → Agreed setting.layout (view_world w) → Agreed setting.layout (view_world later)
    → Extends setting.layout (view_world w) (view_world later) → Follows setting.layout (views_in setting.layout later.packets) w
follows_later setting w later sound agreed agreed_later extends = record {
  limits = λ g e group found. (named_fits setting later g e group sound agreed_later found).0;
  distinct = λ g e group found. (named_fits setting later g e group sound agreed_later found).1;
  learnt = λ i g. sym (views_of_name setting.layout later.packets g (view_at (w.nodes i) g) ((w.nodes i).learnt g).view
      (extends.named g (view_at (w.nodes i) g) ((w.nodes i).learnt g).view (agreed.learnt i g)));
  prior = λ i g above.
      let decided : IsDecided setting.layout (view_world w) g ((w.nodes i).learnt g).view
      = (known_taught setting.layout (view_world w) g ((w.nodes i).learnt g).view agreed.says (agreed.learnt i g) above).1 in
      let next = decided.next in
      let number : decided.before.number.0 ≡ view_at (w.nodes i) g - 1 = omega (arith, next) in
      prior_named setting.layout later.packets g (view_at (w.nodes i) g - 1) ((w.nodes i).learnt g).view decided.before decided.prior
      (subst (λ (z : ℕ). named_in setting.layout later.packets g z ≡ Some decided.before) number
      (extends.named g decided.before.number.0 decided.before decided.named));
  passed = λ i g e s group some before found.
      let known = below_known setting.layout (view_world w) g e (view_at (w.nodes i) g - (e + 1)) ((w.nodes i).learnt g).view agreed some
      (omega (arith, before)) (agreed.learnt i g) in
      let number = known.2 in
      let decided : IsDecided setting.layout (view_world w) g known.0
      = (known_taught setting.layout (view_world w) g known.0 agreed.says known.1 (omega (arith, number, some))).1 in
      let next = decided.next in
      let number_before : decided.before.number.0 ≡ e = omega (arith, next, number) in
      let named : named_in setting.layout later.packets g e ≡ Some decided.before
      = subst (λ (z : ℕ). named_in setting.layout later.packets g z ≡ Some decided.before) number_before
      (extends.named g decided.before.number.0 decided.before decided.named) in
      let same : decided.group ≡ group
      = same_group_named setting.layout later.packets g e decided.before decided.group group decided.group_is named found in
      subst (λ (z : Group). IsGuarded w g s z (floor_of (e + 1))) same
      (decided_guards setting.layout w g e s known.0 agreed some decided number_before);
}

-- every run follows its views
pub every_run_follows : EveryRunFollowsItsViews
every_run_follows setting events sound earlier later is =
    let first : World = first_world setting.layout in
    let same : run setting events first ≡ run setting later (run setting earlier first)
    = ap (λ (l : List Event). run setting l first) is ∙ run-append setting first earlier later in
    subst (λ (x : World). Follows setting.layout (views_in setting.layout x.packets) (run setting earlier first)) (sym same)
    (follows_later setting (run setting earlier first) (run setting later (run setting earlier first)) sound (always_agreed setting sound earlier).agreed
    (subst (λ (x : World). Agreed setting.layout (view_world x)) (run-append setting first earlier later) (always_agreed setting sound (earlier ++ later)).agreed)
    (run_extends setting sound earlier later))
