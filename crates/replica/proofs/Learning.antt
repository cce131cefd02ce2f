-- A view that is learnt, or known to be synced, as a change of what a store keeps.
use Rattle.std.proofs.Common.{◌≡◌, ℕ, ◌-◌, ◌<◌, Bool, true, false, cond, eqb, ltb, Option, Some, None, length, refl, sym, ap, subst, ◌∙◌, arith, eq-eqb}
use Rattle.std.specs.Prelude.{◌&&◌, ◌||◌, not, nat_lt, is_some}
use Rattle.std.specs.Option.{option_map}
use Rattle.std.proofs.lemmas.Bool.{and_from, and_parts, eqb-true, ne_eqb}
use Rattle.std.proofs.lemmas.Bool.Decides.{nat_tests}
use Rattle.fab_base.specs.declared.identities.GroupId.{GroupId}
use Rattle.fab_base.specs.declared.identities.ViewNo.{ViewNo}
use Rattle.fab_base.specs.declared.member_lists.View.{View}
use Rattle.fab_base.specs.Layouts.{Layout, Group, group_of}
use Rattle.version_log.specs.Versions.{Version}
use Rattle.brick_state.specs.declared.groups.Group.{Group as KeptGroup}
use Rattle.brick_state.specs.States.{StripeOf, StateOf, first_stripe, stripe_in, group_at, live, is_numbered, with_view, viewed}
use Rattle.brick_store.specs.Blocks.{accepted_of, learnt_of, log_of}
use Rattle.brick_store.specs.Calls.{append_of, append_calls}
use Rattle.brick_store.specs.Sizes.{view_size}
use Rattle.protocol.specs.Replicas.{Replica, fresh_replica}
use Rattle.protocol.specs.Views.{Learnt, first_learnt, first_kept, is_later, is_unsynced, learns, may_be_taught, notes_synced}
use Rattle.protocol.specs.Nodes.{Node, put, live_before, may_teach, with_learnt, node_taught, node_synced}
use Rattle.replica.specs.Parts.{part_of, part_in, learnt_or, learnt_in, ballots_in, live_at, is_to_note, may_be_accepted, lists_stand, IsPartsOf, ListsStand}
use Rattle.replica.specs.Handling.{KeepsAll}
use Rattle.replica.specs.Calls.{same_learnt, learnt_append}
use Rattle.replica.proofs.CourseSteps.{number_learnt}
use Rattle.replica.proofs.Voting.{group_put}
use Rattle.replica.proofs.Viewing.{before_same, stay_sum, views_left, stripe_left, fresh_part}

differ : {A : Type 0} → false ≡ true → A
differ h = absurd cc

-- what was learnt is no more than itself
same_itself : (l : Learnt) → same_learnt l l ≡ true
same_itself l = and_from _ _ (eq-eqb l.view.number.0 l.view.number.0 refl) (either l.synced)
  where
    either : (b : Bool) → (b || not b) ≡ true
    either true = refl
    either false = refl

-- so nothing is appended for it
pub learnt_append_none : (l : Learnt) → learnt_append l l ≡ None
learnt_append_none l = ap (λ (b : Bool). cond b None (Some (append_of (view_size l.view) append_calls))) (same_itself l)

module _ (layout : Layout) (st : StateOf Version) (g : ℕ) (view : View) (synced : Bool) (long : length st.groups ≡ 64) (few : g < 64)
    (numbered : eqb view.number.0 (learnt_in layout st g).view.number.0 ≡ is_numbered (group_at st g).known view.number.0) where
  abbrev after : StateOf Version
  after = viewed g view synced st

  abbrev new : KeptGroup
  new = with_view view synced (group_at st g)

  abbrev learnt_new : Learnt
  learnt_new = record { view = view; synced = synced }

  abbrev first : ℕ
  first = first_kept learnt_new

  at : (h : ℕ) → group_at after h ≡ cond (eqb h g) new (group_at st h)
  at h = group_put st.groups g new h long few

  -- so much is learnt of the group then
  learnt_after : (other : Layout) → learnt_in other after g ≡ learnt_new
  learnt_after other =
      ap (λ (x : KeptGroup). learnt_or (first_learnt other g) x.known) (at g ∙ ap (λ (b : Bool). cond b new (group_at st g)) (eq-eqb g g refl))

  -- each brick of the machine that keeps what the store keeps
  module _ (node : Node) (parts : IsPartsOf layout st node) where
    live_now : node.live - live_before first (node.live_in g) ≡ live after
    live_now =
        let sum = stay_sum g first st.stripes in
        let same = before_same first (node.live_in g) (live_at st g) (parts.live_in g) in
        omega (arith, parts.live, sum, same)

    live_there : (h e : ℕ) → put node.live_in g (λ v. cond (nat_lt v first) 0 (node.live_in g v)) h e ≡ live_at after h e
    live_there h e = by (eqb h g) refl ∙ sym (views_left g first h e st.stripes)
      where
        inside : h ≡ g → (b : Bool) → cond b 0 (node.live_in g e) ≡ cond b 0 (live_at st h e)
        inside is true = refl
        inside is false = parts.live_in g e ∙ ap (λ (k : ℕ). live_at st k e) (sym is)

        by : (b : Bool) → eqb h g ≡ b
            → cond b (λ (v : ℕ). cond (nat_lt v first) 0 (node.live_in g v)) (node.live_in h) e ≡ cond (b && ltb e first) 0 (live_at st h e)
        by true is = inside (eqb-true h g is) (ltb e first)
        by false is = parts.live_in h e

    learnt_now : (h : ℕ) → put node.learnt g learnt_new h ≡ learnt_in layout after h
    learnt_now h = by (eqb h g) ∙ sym (ap (λ (x : KeptGroup). learnt_or (first_learnt layout h) x.known) (at h))
      where
        by : (b : Bool) → cond b learnt_new (node.learnt h) ≡ learnt_or (first_learnt layout h) (cond b new (group_at st h)).known
        by true = refl
        by false = parts.learnt h

    -- ballots are kept for the successor of the view that was learnt before
    ballots_here : cond (eqb view.number.0 (node.learnt g).view.number.0) (node.ballots g) None ≡ new.ballots
    ballots_here =
        (λ k. cond (eqb view.number.0 (parts.learnt g k).view.number.0) (parts.ballots g k) None)
        ∙ ap (λ (b : Bool). cond b (ballots_in st g) None) numbered

    ballots_now : (h : ℕ) → put node.ballots g (cond (eqb view.number.0 (node.learnt g).view.number.0) (node.ballots g) None) h ≡ ballots_in after h
    ballots_now h = by (eqb h g) ∙ sym (ap (λ (x : KeptGroup). x.ballots) (at h))
      where
        by : (b : Bool) → cond b (cond (eqb view.number.0 (node.learnt g).view.number.0) (node.ballots g) None) (node.ballots h)
            ≡ (cond b new (group_at st h)).ballots
        by true = ballots_here
        by false = parts.ballots h

    parts_now : (h e s : ℕ) → put node.replicas g (λ v i. cond (nat_lt v first) (fresh_replica layout.block v) (node.replicas g v i)) h e s
        ≡ part_in layout.block after h e s
    parts_now h e s = by (eqb h g) refl ∙ sym (ap part_from (stripe_left g first (h, e, s) st.stripes))
      where
        part_from : StripeOf Version → Replica
        part_from x = part_of x.order (log_of layout.block x) x.from_start

        inside : h ≡ g → (b : Bool)
            → cond b (fresh_replica layout.block e) (node.replicas g e s) ≡ part_from (cond b (first_stripe (h, e, s)) (stripe_in st.stripes (h, e, s)))
        inside is true = sym (fresh_part layout.block (h, e, s))
        inside is false = parts.replicas g e s ∙ ap (λ (k : ℕ). part_in layout.block st k e s) (sym is)

        by : (b : Bool) → eqb h g ≡ b
            → cond b (λ (v i : ℕ). cond (nat_lt v first) (fresh_replica layout.block v) (node.replicas g v i)) (node.replicas h) e s
            ≡ part_from (cond (b && ltb e first) (first_stripe (h, e, s)) (stripe_in st.stripes (h, e, s)))
        by true is = inside (eqb-true h g is) (ltb e first)
        by false is = parts.replicas h e s

    -- keeps what the store keeps once both have learnt so much
    pub parts_learnt : IsPartsOf layout after (with_learnt layout.block g node learnt_new)
    parts_learnt = record {
      boot = parts.boot;
      live = live_now;
      live_in = live_there;
      learnt = learnt_now;
      ballots = ballots_now;
      replicas = parts_now;
    }

    -- and a record of the view is appended, where that is more than was learnt
    pub view_appended : same_learnt (learnt_in layout st g) learnt_new ≡ false
        → learnt_append (node.learnt g) (put node.learnt g learnt_new g) ≡ Some (append_of (view_size view) append_calls)
    view_appended more =
        let there : put node.learnt g learnt_new g ≡ learnt_new = ap (λ (b : Bool). cond b learnt_new (node.learnt g)) (eq-eqb g g refl) in
        ap (learnt_append (node.learnt g)) there
        ∙ ap (λ (b : Bool). cond b None (Some (append_of (view_size view) append_calls))) (ap (λ (l : Learnt). same_learnt l learnt_new) (parts.learnt g) ∙ more)

  -- where that is more than was learnt, what is kept is not as it was
  pub learnt_moves : ((other : Layout) → same_learnt (learnt_in other st g) learnt_new ≡ false) → (other : Layout) (block : ℕ) → KeepsAll other block st after → ⊥
  learnt_moves more other block same =
      differ (sym (more other) ∙ ap (λ (l : Learnt). same_learnt l learnt_new) (sym (same.learnt g) ∙ learnt_after other) ∙ same_itself learnt_new)

  -- the lists that are kept may keep the layout's groups, where those of this group may
  pub lists_learnt : ((group : Group) → group_of layout g ≡ Some group → lists_stand group.m layout.bricks (group_at st g) ≡ true
      → lists_stand group.m layout.bricks new ≡ true) → ListsStand layout st → ListsStand layout after
  lists_learnt may stand h group is =
      subst (λ (x : KeptGroup). lists_stand group.m layout.bricks x ≡ true) (sym (at h)) (by (eqb h g) refl)
    where
      by : (b : Bool) → eqb h g ≡ b → lists_stand group.m layout.bricks (cond b new (group_at st h)) ≡ true
      by true same =
          let same_group = eqb-true h g same in
          may group (ap (group_of layout) (sym same_group) ∙ is)
          (subst (λ (k : ℕ). lists_stand group.m layout.bricks (group_at st k) ≡ true) same_group (stand h group is))
      by false other = stand h group is

-- ---- a view that is learnt

module _ (layout : Layout) (st : StateOf Version) (g : ℕ) (view : View) (above : learnt_of (group_at st g) < view.number.0) where
  -- its number is another than that of the view that was learnt before
  unnumbered : is_numbered (group_at st g).known view.number.0 ≡ false
  unnumbered = by (group_at st g).known above
    where
      number : Option (View × Bool) → ℕ
      number known = learnt_of (record { known = known; ballots = (group_at st g).ballots })

      by : (known : Option (View × Bool)) → number known < view.number.0 → is_numbered known view.number.0 ≡ false
      by None less = refl
      by (Some known) less = ne_eqb known.0.number.0 view.number.0 (λ same. omega (arith, less, same))

  pub numbered_later : eqb view.number.0 (learnt_in layout st g).view.number.0 ≡ is_numbered (group_at st g).known view.number.0
  numbered_later =
      ne_eqb view.number.0 (learnt_in layout st g).view.number.0 (λ same. omega (arith, same, number_learnt layout st g, above)) ∙ sym unnumbered

  abbrev taught : Learnt
  taught = record { view = view; synced = false }

  pub more_later : (other : Layout) → same_learnt (learnt_in other st g) taught ≡ false
  more_later other =
      ap (λ (b : Bool). b && ((learnt_in other st g).synced || true))
      (ne_eqb (learnt_in other st g).view.number.0 view.number.0 (λ same. omega (arith, same, number_learnt other st g, above)))

  -- what was accepted for another successor is forgotten, and its lists may keep the group
  pub lists_later : may_teach layout (Some view) (group_of layout g) ≡ true → (group : Group) → group_of layout g ≡ Some group
      → lists_stand group.m layout.bricks (group_at st g) ≡ true → lists_stand group.m layout.bricks (with_view view false (group_at st g)) ≡ true
  lists_later may group is stand =
      and_from _ _ (subst (λ (found : Option Group). may_teach layout (Some view) found ≡ true) is may)
      (ap (λ (b : Bool). may_be_accepted group.m layout.bricks
      (accepted_of (record { known = Some (view, false); ballots = cond b (group_at st g).ballots None }))) unnumbered)

  -- each brick of the machine that keeps what the store keeps learns it
  module _ (node : Node) (parts : IsPartsOf layout st node) where
    later : is_later (node.learnt g) view ≡ true
    later =
        let number : (node.learnt g).view.number.0 ≡ learnt_of (group_at st g) =
        ap (λ (l : Learnt). l.view.number.0) (parts.learnt g) ∙ number_learnt layout st g in
        grind (arith, nat_tests, number, above)

    learns_it : learns (node.learnt g) view ≡ taught
    unfolding learns
    learns_it = ap (λ (b : Bool). cond b taught (node.learnt g)) later

    pub taught_is : node_taught layout.block g node view ≡ with_learnt layout.block g node taught
    unfolding node_taught
    taught_is = ap (λ (b : Bool). cond b (with_learnt layout.block g node (learns (node.learnt g) view)) node) later
        ∙ ap (with_learnt layout.block g node) learns_it

-- ---- a view that is known to be synced

module _ (layout : Layout) (st : StateOf Version) (g : ℕ) (view : View) (known : (group_at st g).known ≡ Some (view, false)) where
  abbrev noted : Learnt
  noted = record { view = view; synced = true }

  abbrev unsynced : Learnt
  unsynced = record { view = view; synced = false }

  -- it is the one that was learnt
  learnt_there : (other : Layout) → learnt_in other st g ≡ unsynced
  learnt_there other = ap (learnt_or (first_learnt other g)) known

  numbered_so : is_numbered (group_at st g).known view.number.0 ≡ true
  numbered_so = ap (λ (k : Option (View × Bool)). is_numbered k view.number.0) known ∙ eq-eqb view.number.0 view.number.0 refl

  pub numbered_synced : eqb view.number.0 (learnt_in layout st g).view.number.0 ≡ is_numbered (group_at st g).known view.number.0
  numbered_synced =
      ap (λ (l : Learnt). eqb view.number.0 l.view.number.0) (learnt_there layout) ∙ eq-eqb view.number.0 view.number.0 refl ∙ sym numbered_so

  pub more_synced : (other : Layout) → same_learnt (learnt_in other st g) noted ≡ false
  more_synced other =
      ap (λ (l : Learnt). same_learnt l noted) (learnt_there other) ∙ ap (λ (b : Bool). b && false) (eq-eqb view.number.0 view.number.0 refl)

  -- the lists that are kept stay
  pub lists_synced : (group : Group) → group_of layout g ≡ Some group → lists_stand group.m layout.bricks (group_at st g) ≡ true
      → lists_stand group.m layout.bricks (with_view view true (group_at st g)) ≡ true
  lists_synced group is stand =
      let were = and_parts _ _ stand in
      and_from _ _ (subst (λ (k : Option (View × Bool)). may_be_taught group.m layout.bricks (option_map (λ l. l.0) k) ≡ true) known were.0)
      (subst (λ (b : Bool). may_be_accepted group.m layout.bricks
      (accepted_of (record { known = Some (view, true); ballots = cond b (group_at st g).ballots None })) ≡ true) (sym numbered_so) were.1)

  -- each brick of the machine that keeps what the store keeps notes it
  pub noted_is : (group : GroupId) (number : ViewNo) → group.0 ≡ g → is_to_note layout st group.0 number.0 ≡ true → (node : Node) → IsPartsOf layout st node
      → node_synced layout node group number ≡ with_learnt layout.block group.0 node noted
  unfolding node_synced notes_synced
  noted_is group number same to_note node parts =
      let test = λ (l : Learnt). is_some (group_of layout group.0) && is_unsynced l number.0 in
      let here = ap test (parts.learnt group.0) ∙ to_note in
      let unsynced_here = (and_parts (is_some (group_of layout group.0)) (is_unsynced (node.learnt group.0) number.0) here).1 in
      let learnt_here : node.learnt group.0 ≡ unsynced = ap node.learnt same ∙ parts.learnt g ∙ learnt_there layout in
      ap (λ (b : Bool). cond b (with_learnt layout.block group.0 node (notes_synced (node.learnt group.0) number.0)) node) here
      ∙ ap (λ (b : Bool). with_learnt layout.block group.0 node (cond b (record (node.learnt group.0) { synced = true }) (node.learnt group.0))) unsynced_here
      ∙ ap (λ (l : Learnt). with_learnt layout.block group.0 node (record l { synced = true })) learnt_here
