-- All that is asked holds, or something does not.
use Rattle.std.proofs.Common.{◌≡◌, ℕ, ◌≤◌, Bool, true, false, not, ◌&&◌, nat_lt, List, length, map, Option, Some, None, refl, sym, ap, ◌∙◌, subst}
use Rattle.std.specs.Prelude.{slice_get}
use Rattle.std.specs.Bool.{Decides}
use Rattle.std.specs.List.{list_any}
use Rattle.std.specs.Option.{option_map}
use Rattle.std.proofs.lemmas.Option.{same_Some}
use Rattle.fab_base.specs.declared.asks.Ask.{Ask}
use Rattle.fab_base.specs.declared.identities.BrickId.{BrickId}
use Rattle.fab_base.specs.declared.identities.GroupId.{GroupId}
use Rattle.fab_base.specs.declared.member_lists.View.{View}
use Rattle.fab_base.specs.Layouts.{Layout, Group, group_of}
use Rattle.fab_disk.specs.declared.mem_disk.MemDisk.{MemDisk}
use Rattle.layout.specs.Limits.{IsLayout}
use Rattle.messages.specs.declared.packets.Packet.{Packet}
use Rattle.node.specs.Running.{Running}
use Rattle.protocol.specs.Calms.{knows_synced, may_ask_prior}
use Rattle.protocol.specs.Coordinators.{Coordinator}
use Rattle.protocol.specs.Nodes.{Node, view_in}
use Rattle.protocol.specs.Worlds.{World, Operation, is_up}
use Rattle.quorum.specs.Quorums.{q_of}
use Rattle.world.specs.Deliveries.{IsUntouchedAt}
use Rattle.world.specs.Runs.{brick_of}
use Rattle.world.specs.Shown.{Shows, ShowsBricks, IsReachedBy, OpensAs, IsAble, IsInTime, open_record, open_view, node_view, running_at, node_knows_synced, may_ask_prior_at, world_in}
use Rattle.world.proofs.SimulationLemmas.{come_to}
use Rattle.world.specs.declared.bricks.Brick.{Brick}
use Rattle.world.specs.declared.histories.OperationRecord.{OperationRecord}
use Rattle.world.specs.declared.simulations.Simulation.{Simulation}
use Rattle.world.proofs.BrickListLemmas.{running_shown, running_not}
use Rattle.world.proofs.CalmLemmas.{Here, among_numbers, calm_of, parts_of, open_here, group_is, able_shown, in_time_shown, synced_shown}
use Rattle.world.proofs.CalmRuns.{untouched_as, touched_as}
use Rattle.world.proofs.OpenRecords.{opens_as}
use Rattle.world.proofs.RunLaws.{reached_books, reached_bricks, reached_knows, reached_numbers}
use Rattle.world.proofs.simulations.Simulation.is_calm.Goals as goal

-- what does not hold of an operation that may run alone decides against it
against : (P : Type 0) (b : Bool) → b ≡ false → (P → b ≡ true) → Decides false P
against P b off on = (λ e. absurd (let never : false ≡ true = e in cc), λ holds. absurd (let never : true ≡ false = sym (on holds) ∙ off in cc))

-- the operation that was found open
here_of : (layout : Layout) (w : World) (state : Simulation) (n : ℕ) (kept : OperationRecord) → IsReachedBy layout w → Shows layout state w
    → Some kept ≡ open_record state n → Here layout w n kept
here_of layout w state n kept reached shows is =
    let opened : OpensAs state w n (Some kept) = opens_as layout w state n (Some kept) is reached shows in
    open_here layout w n state.history kept (reached_books layout w reached) (reached_bricks layout w reached)
    shows.history opened.0 opened.1

-- the view of the operation is that of its coordinator
view_here : (layout : Layout) (w : World) (state : Simulation) (n : ℕ) (kept : OperationRecord) (found : Option View) (here : Here layout w n kept)
    → Shows layout state w → found ≡ open_view state kept → found ≡ Some (view_in here.coordinator)
view_here layout w state n kept found here shows is = is ∙ by_node (running_at state.bricks.items kept.brick.0) refl
  where
    up : is_up layout w (brick_of kept.brick.0) ≡ true
    up = ap (λ (b : BrickId). is_up layout w b) here.same.brick ∙ here.up

    by_node : (on : Option (Running MemDisk)) → running_at state.bricks.items kept.brick.0 ≡ on → node_view kept.seq on ≡ Some (view_in here.coordinator)
    by_node None none = absurd (let never : true ≡ false = sym up ∙ running_not layout state.bricks.items w kept.brick.0 shows.bricks none in cc)
    by_node (Some node) on =
        let its = running_shown layout state.bricks.items w kept.brick.0 node shows.bricks on in
        ap (option_map view_in)
        (ap (λ (x : Node). x.calls kept.seq) its.1.state_is ∙ ap (λ (b : BrickId). (w.nodes b.0).calls kept.seq) here.same.brick
        ∙ ap (λ (k : ℕ). (w.nodes here.at.operation.brick.0).calls k) here.same.seq ∙ here.at.call)

-- an operation that is not open may not
pub returns-in_default : goal.returns-in_default
returns-in_default c =
    let w : World = world_in c.args.layout.now c.args.self.now in (
      λ on. absurd (let never : false ≡ true = on in cc),
      λ calm. absurd (let never : None ≡ Some calm.coordinator = sym (opens_as c.args.layout.now w c.args.self.now c.args.operation _ c.in_default.ensures (come_to c.args.layout.now c.args.self.now) c.requires) ∙ calm.open_is in cc),
    )

-- it has a view
pub returns-in_default-open_view : goal.returns-in_default-open_view
returns-in_default-open_view c =
    let w : World = world_in c.args.layout.now c.args.self.now in
    let here = here_of c.args.layout.now w c.args.self.now c.args.operation c.in-Some.record (come_to c.args.layout.now c.args.self.now) c.requires c.in-Some.ensures in
    absurd (let never : None ≡ Some (view_in here.coordinator) =
    view_here c.args.layout.now w c.args.self.now c.args.operation c.in-Some.record None here c.requires c.in_default-open_view.ensures in cc)

-- there is its group
pub returns-in_default-group : goal.returns-in_default-group
returns-in_default-group c =
    let w : World = world_in c.args.layout.now c.args.self.now in
    let here = here_of c.args.layout.now w c.args.self.now c.args.operation c.in-Some.record (come_to c.args.layout.now c.args.self.now) c.requires c.in-Some.ensures in
    let group = group_is c.args.layout.now w c.args.operation c.in-Some.record here c.bricks.ensures.limits (come_to c.args.layout.now c.args.self.now) in
    absurd (let never : None ≡ Some group.0 = c.in_default-group.ensures.found ∙ group.1 in cc)

pub returns-then-not-are_distinct : goal.returns-then-not-are_distinct
returns-then-not-are_distinct c =
    let w : World = world_in c.args.layout.now c.args.self.now in
    let here = here_of c.args.layout.now w c.args.self.now c.args.operation c.in-Some.record (come_to c.args.layout.now c.args.self.now) c.requires c.in-Some.ensures in
    against _ c.are_distinct.result c.if-not-are_distinct.true
    (λ calm. c.are_distinct.ensures.1 (parts_of c.args.layout.now w c.args.operation c.args.bricks.now here.coordinator here.opens here.at here.up calm).distinct)

-- What was found of an open operation: its view, and of how many data blocks its group is.
record IsFound (layout : Layout) (w : World) (n : ℕ) (kept : OperationRecord) (view : View) (m : ℕ) : Type 0 where
  here : Here layout w n kept
  view_is : view ≡ view_in here.coordinator
  m_is : m ≡ here.coordinator.group.m

found_of : (layout : Layout) (w : World) (state : Simulation) (n : ℕ) (kept : OperationRecord) (view : View) (group : Group) (m : ℕ) → IsLayout layout
    → IsReachedBy layout w → Shows layout state w → Some kept ≡ open_record state n → Some view ≡ open_view state kept
    → Some group ≡ group_of layout kept.group.0 → m ≡ group.m → IsFound layout w n kept view m
found_of layout w state n kept view group m is reached shows opens viewed own count =
    let here = here_of layout w state n kept reached shows opens in
    let known = group_is layout w n kept here is reached in
    record {
      here = here;
      view_is = same_Some view (view_in here.coordinator) (view_here layout w state n kept (Some view) here shows viewed);
      m_is = count ∙ ap (λ (g : Group). g.m) (same_Some group known.0 (own ∙ known.1)) ∙ sym known.2;
    }

-- a quorum of as many members
enough_as : (m k : ℕ) (members others : List BrickId) (numbers : List ℕ) → m ≡ k → members ≡ others
    → q_of m (length members) ≤ among_numbers members numbers → q_of k (length others) ≤ among_numbers others numbers
enough_as m k members others numbers count same enough =
    subst (λ (l : List BrickId). q_of k (length l) ≤ among_numbers l numbers) same
    (subst (λ (x : ℕ). q_of x (length members) ≤ among_numbers members numbers) count enough)

module _ (layout : Layout) (w : World) (n : ℕ) (kept : OperationRecord) (view : View) (m : ℕ) (found : IsFound layout w n kept view m) where
  abbrev coordinator : Coordinator
  coordinator = found.here.coordinator

  abbrev operation : Operation
  operation = found.here.at.operation

  members_is : view.members ≡ coordinator.group.members
  members_is = ap (λ (v : View). v.members) found.view_is

  prior_is : view.prior ≡ coordinator.prior
  prior_is = ap (λ (v : View). v.prior) found.view_is

  number_is : view.number.0 ≡ coordinator.stamp.view.0
  number_is = ap (λ (v : View). v.number.0) found.view_is

  group_same : kept.group.0 ≡ coordinator.call.group.0
  group_same =
      ap (λ (g : GroupId). g.0) (found.here.same.group ∙ sym (ap (λ (a : Ask). a.group) found.here.at.ask) ∙ sym found.here.at.group)

  -- the bricks that are able are those of the operation's group and view
  able_as : (number : ℕ) → IsAble layout w kept.group.0 view.number.0 number → IsAble layout w operation.ask.group.0 coordinator.stamp.view.0 number
  able_as number able =
      subst (λ (v : ℕ). IsAble layout w operation.ask.group.0 v number) number_is
      (subst (λ (g : GroupId). IsAble layout w g.0 view.number.0 number) found.here.same.group able)

  able_back : (number : ℕ) → IsAble layout w operation.ask.group.0 coordinator.stamp.view.0 number → IsAble layout w kept.group.0 view.number.0 number
  able_back number able =
      subst (λ (v : ℕ). IsAble layout w kept.group.0 v number) (sym number_is)
      (subst (λ (g : GroupId). IsAble layout w g.0 coordinator.stamp.view.0 number) (sym found.here.same.group) able)

  -- it may have to ask the members before as the bricks tell
  may_as : (bricks : List Brick) (numbers : List ℕ) → ShowsBricks layout bricks w.nodes w.after w.up w.clocks
      → ((k number : ℕ) → slice_get numbers k ≡ Some number → is_up layout w (brick_of number) ≡ true)
      → may_ask_prior_at bricks kept.group.0 view.number.0 numbers ≡ may_ask_prior w coordinator (map brick_of numbers)
  may_as bricks numbers shows ups =
      ap (λ (v : ℕ). nat_lt 1 v && not (list_any (λ number. node_knows_synced kept.group.0 (running_at bricks number)) numbers)) number_is
      ∙ ap (λ (b : Bool). nat_lt 1 coordinator.stamp.view.0 && not b) (synced_shown layout kept.group.0 bricks w numbers shows ups)
      ∙ ap (λ (g : ℕ). nat_lt 1 coordinator.stamp.view.0 && not (list_any (knows_synced w g) (map brick_of numbers))) group_same

pub returns-then-not-has_quorum : goal.returns-then-not-has_quorum
returns-then-not-has_quorum c =
    let w : World = world_in c.args.layout.now c.args.self.now in
    let found = found_of c.args.layout.now w c.args.self.now c.args.operation c.in-Some.record c.in-Some-open_view.view c.in-Some-group.group.now c.m.result
    c.bricks.ensures.limits (come_to c.args.layout.now c.args.self.now) c.requires c.in-Some.ensures c.in-Some-open_view.ensures c.in-Some-group.ensures.found c.m.ensures in
    against _ c.has_quorum.result c.if-not-has_quorum.true
    (λ calm. c.has_quorum.ensures.1 (enough_as _ _ _ _ c.args.bricks.now (sym found.m_is) (sym (members_is _ _ _ _ _ _ found))
    (parts_of c.args.layout.now w c.args.operation c.args.bricks.now found.here.coordinator found.here.opens found.here.at found.here.up calm).members))

pub returns-then-not-is_in_time : goal.returns-then-not-is_in_time
returns-then-not-is_in_time c =
    let w : World = world_in c.args.layout.now c.args.self.now in
    let here = here_of c.args.layout.now w c.args.self.now c.args.operation c.in-Some.record (come_to c.args.layout.now c.args.self.now) c.requires c.in-Some.ensures in
    let bricks : ShowsBricks c.args.layout.now c.deref.result.now w.nodes w.after w.up w.clocks =
    subst (λ (l : List Brick). ShowsBricks c.args.layout.now l w.nodes w.after w.up w.clocks) (sym c.deref.ensures.value) c.requires.bricks in
    against _ c.is_in_time.result c.if-not-is_in_time.true
    (λ calm. c.is_in_time.ensures.1 ((in_time_shown c.args.layout.now c.deref.result.now w c.from.result bricks).1
    (subst (λ (b : ℕ). IsInTime c.args.layout.now w b) (sym (c.from.ensures ∙ ap (λ (b : BrickId). b.0) here.same.brick))
    (parts_of c.args.layout.now w c.args.operation c.args.bricks.now here.coordinator here.opens here.at here.up calm).in_time)))

pub returns-then-not-are_able : goal.returns-then-not-are_able
returns-then-not-are_able c =
    let w : World = world_in c.args.layout.now c.args.self.now in
    let found = found_of c.args.layout.now w c.args.self.now c.args.operation c.in-Some.record c.in-Some-open_view.view c.in-Some-group.group.now c.m.result
    c.bricks.ensures.limits (come_to c.args.layout.now c.args.self.now) c.requires c.in-Some.ensures c.in-Some-open_view.ensures c.in-Some-group.ensures.found c.m.ensures in
    let bricks : ShowsBricks c.args.layout.now c.deref-2.result.now w.nodes w.after w.up w.clocks =
    subst (λ (l : List Brick). ShowsBricks c.args.layout.now l w.nodes w.after w.up w.clocks) (sym c.deref-2.ensures.value) c.requires.bricks in
    against _ c.are_able.result c.if-not-are_able.true
    (λ calm. c.are_able.ensures.1 (λ k number at.
    (able_shown c.args.layout.now c.in-Some.record.group.0 c.in-Some-open_view.view.number.0 c.deref-2.result.now w number bricks).1
    (able_back _ _ _ _ _ _ found number
    ((parts_of c.args.layout.now w c.args.operation c.args.bricks.now found.here.coordinator found.here.opens found.here.at found.here.up calm).able k number at))))

pub returns-then-not-has_prior_quorum : goal.returns-then-not-has_prior_quorum
returns-then-not-has_prior_quorum c =
    let w : World = world_in c.args.layout.now c.args.self.now in
    let found = found_of c.args.layout.now w c.args.self.now c.args.operation c.in-Some.record c.in-Some-open_view.view c.in-Some-group.group.now c.m-2.result
    c.bricks.ensures.limits (come_to c.args.layout.now c.args.self.now) c.requires c.in-Some.ensures c.in-Some-open_view.ensures c.in-Some-group.ensures.found c.m-2.ensures in
    let bricks : ShowsBricks c.args.layout.now c.deref-3.result.now w.nodes w.after w.up w.clocks =
    subst (λ (l : List Brick). ShowsBricks c.args.layout.now l w.nodes w.after w.up w.clocks) (sym c.deref-3.ensures.value) c.requires.bricks in
    against _ c.has_prior_quorum.result c.if-not-has_prior_quorum.true
    (λ calm.
    let parts = parts_of c.args.layout.now w c.args.operation c.args.bricks.now found.here.coordinator found.here.opens found.here.at found.here.up calm in
    c.has_prior_quorum.ensures.1 (λ may. enough_as _ _ _ _ c.args.bricks.now (sym found.m_is) (sym (prior_is _ _ _ _ _ _ found))
    (parts.prior (sym (may_as _ _ _ _ _ _ found c.deref-3.result.now c.args.bricks.now bricks (λ k number at. (parts.able k number at).up)) ∙ may))))

pub returns : goal.returns
returns c =
    let w : World = world_in c.args.layout.now c.args.self.now in
    let found = found_of c.args.layout.now w c.args.self.now c.args.operation c.in-Some.record c.in-Some-open_view.view c.in-Some-group.group.now c.m.result
    c.bricks.ensures.limits (come_to c.args.layout.now c.args.self.now) c.requires c.in-Some.ensures c.in-Some-open_view.ensures c.in-Some-group.ensures.found c.m.ensures in
    let here = found.here in
    let first : ShowsBricks c.args.layout.now c.deref.result.now w.nodes w.after w.up w.clocks =
    subst (λ (l : List Brick). ShowsBricks c.args.layout.now l w.nodes w.after w.up w.clocks) (sym c.deref.ensures.value) c.requires.bricks in
    let second : ShowsBricks c.args.layout.now c.deref-2.result.now w.nodes w.after w.up w.clocks =
    subst (λ (l : List Brick). ShowsBricks c.args.layout.now l w.nodes w.after w.up w.clocks) (sym c.deref-2.ensures.value) c.requires.bricks in
    let third : ShowsBricks c.args.layout.now c.deref-3.result.now w.nodes w.after w.up w.clocks =
    subst (λ (l : List Brick). ShowsBricks c.args.layout.now l w.nodes w.after w.up w.clocks) (sym c.deref-3.ensures.value) c.requires.bricks in
    let able : (k number : ℕ) → slice_get c.args.bricks.now k ≡ Some number
    → IsAble c.args.layout.now w here.at.operation.ask.group.0 here.coordinator.stamp.view.0 number =
    (λ k number at. able_as _ _ _ _ _ _ found number
    ((able_shown c.args.layout.now c.in-Some.record.group.0 c.in-Some-open_view.view.number.0 c.deref-2.result.now w number second).0
    (c.are_able.ensures.0 c.if-not-are_able.false k number at))) in
    let sent : c.args.self.now.history.sent.packets.items ≡ w.packets = c.requires.history.packets in (
      λ on. calm_of c.args.layout.now w c.args.operation c.args.bricks.now here.coordinator here.opens here.at
          (record {
            distinct = c.are_distinct.ensures.0 c.if-not-are_distinct.false;
            members = enough_as _ _ _ _ c.args.bricks.now found.m_is (members_is _ _ _ _ _ _ found) (c.has_quorum.ensures.0 c.if-not-has_quorum.false);
            prior = λ may. enough_as _ _ _ _ c.args.bricks.now (c.m-2.ensures ∙ sym c.m.ensures ∙ found.m_is) (prior_is _ _ _ _ _ _ found)
                (c.has_prior_quorum.ensures.0 c.if-not-has_prior_quorum.false
                (may_as _ _ _ _ _ _ found c.deref-3.result.now c.args.bricks.now third (λ k number at. (able k number at).up) ∙ may));
            in_time = subst (λ (b : ℕ). IsInTime c.args.layout.now w b) (c.from.ensures ∙ ap (λ (b : BrickId). b.0) here.same.brick)
                ((in_time_shown c.args.layout.now c.deref.result.now w c.from.result first).0 (c.is_in_time.ensures.0 c.if-not-is_in_time.false));
            able = able;
            untouched = untouched_as w c.args.operation here.at.operation (reached_numbers c.args.layout.now w (come_to c.args.layout.now c.args.self.now)) (reached_knows c.args.layout.now w (come_to c.args.layout.now c.args.self.now))
                here.some here.at.is c.args.self.now.history c.in-Some.record c.requires.history here.same c.args.self.now.history.sent.packets.items sent
                (subst (λ (b : Bool). IsUntouchedAt c.args.self.now.history.delivered.reached.items c.args.self.now.history.sent.packets.items c.in-Some.record b) on c.is_untouched.ensures);
          }),
      λ calm. by_untouched c.args.self.now.history.delivered.reached.items c.args.self.now.history.sent.packets.items c.in-Some.record c.is_untouched.result c.is_untouched.ensures
          (λ touched. touched_as w c.args.operation here.at.operation (reached_numbers c.args.layout.now w (come_to c.args.layout.now c.args.self.now)) (reached_knows c.args.layout.now w (come_to c.args.layout.now c.args.self.now))
          here.some here.at.is c.args.self.now.history c.in-Some.record c.requires.history here.same c.args.self.now.history.sent.packets.items sent touched
          calm.untouched),
    )
  where
    by_untouched : (reached : List Bool) (packets : List Packet) (kept : OperationRecord) (b : Bool) → IsUntouchedAt reached packets kept b
        → (IsUntouchedAt reached packets kept false → ⊥) → b ≡ true
    by_untouched reached packets kept true is never = refl
    by_untouched reached packets kept false is never = absurd (never is)
