-- What closes on the scene closes in the world: each step of the one is a delivery in the other.
use Rattle.messages.specs.declared.requests.Version.{Version}
use Rattle.fab_base.specs.declared.identities.ViewNo.{ViewNo}
use Rattle.fab_base.specs.declared.identities.GroupId.{GroupId}
use Rattle.fab_base.specs.declared.identities.StripeNo.{StripeNo}
use Rattle.protocol.specs.Views.{first_kept}
use Rattle.messages.specs.declared.requests.Request.{Request}
use Rattle.fab_base.specs.declared.stamps.Stamp.{Stamp}
use Rattle.protocol_laws.proofs.Books.{version_after}
use Rattle.std.proofs.Common.{Bool, arith, false, not, ◌&&◌, List, None, Option, Some, [], ap, cond, refl, subst, suc, sym, true, zero, ℕ, ⊎_elim, ◌++◌, ◌+◌, ◌<◌, ◌∙◌, ◌∷◌, ◌≡◌, ◌≢◌}
use Rattle.std.proofs.lemmas.Bool.{and_parts, cases_eq, eq-eqb, or_from, false≢true, ltb-true, le-ltb, lt-ltb, ne_eqb, eqb-false}
use Rattle.std.proofs.lemmas.Bool.Decides.{nat_tests}
use Rattle.std.specs.Prelude.{filter, is_some, nat_eq, nat_lt, ◌-◌, ◌||◌}
use Rattle.calm_laws.proofs.Queues.{IsHead, head_of}
use Rattle.calm_laws.proofs.Scenes.{Each, Fits, IsSeated, Part, Scene, Seated, Stage, asked, asked_of, asking, part_after, reaction, replies_from, replying, EndsAt, SameCall, IsInView, call_of, IsBack, IsSeatedBack, found_back}
use Rattle.calm_laws.proofs.Shows.{IsMove, IsPart, Shows, delivers_so, open_at_is, put_field, world_by, IsMember, IsOld}
use Rattle.protocol.proofs.Puts.{put_other}
use Rattle.protocol.proofs.Tables.{put_same, put_each}
use Rattle.fab_base.specs.Layouts.{Group, seat_in}
use Rattle.fab_base.specs.declared.identities.BrickId.{BrickId}
use Rattle.messages.specs.declared.calls.Call.{Call}
use Rattle.messages.specs.declared.packets.Packet.{Packet}
use Rattle.messages.specs.declared.replies.Reply.{Reply}
use Rattle.protocol.specs.Calms.{RunsAlone, goes_among, is_left, is_one_of, open_at, open_call, operation_of, Ended}
use Rattle.protocol.specs.Coordinators.{Coordinator, looks_back}
use Rattle.protocol.specs.Nodes.{Node, NodeStep, fits, full_at, group_at, has_accepted, is_now, is_void, moved_at, no_step, put, reacted, received, replica_at, reply_packets, requested, requested_as, requested_at, requested_in, seat_now, served_unless, view_at, with_replica, collect_packets, old_reply, sending}
use Rattle.protocol.specs.Ballots.{moved_to}
use Rattle.protocol.specs.Settings.{Setting}
use Rattle.protocol.specs.Coordinators.{request_of}
use Rattle.protocol.specs.declared.phases.Phase.{Phase}
use Rattle.protocol.specs.declared.phases.Phase.TheVariants.{Looks, LooksAt, Orders, OrdersAt, Recovers, Descends, Modifies, Bases, Stores, LooksBack}
use Rattle.messages.specs.declared.replies.Reply.TheVariants.{Moved, Old, Retired}
use Rattle.protocol.specs.Replicas.{Reaction, Replica, handle, under, newest_of}
use Rattle.protocol.specs.Worlds.{Delivers, Event, Operation, World, happens, is_up, number_of, run}
use Rattle.protocol.specs.Calms.{Next as Goes_on}

-- The operation has ended, and was answered: the world before its last delivery, its coordinator there, and how that answers. What it made is what it
-- had made, its version is what it had or what it saw at once, and what the bricks keep of its stripe stays. The last delivery sends its Collects, and what follows:
-- where it was a read of a synchronisation, that may go on.
pub record HasEnded (stage : Stage) (n : ℕ) (c : Coordinator) (w last : World) : Type 0 where
  pub closed : open_call last n ≡ None
  pub operation : Operation
  pub is : last.operations n ≡ Some operation
  pub answered : operation.answered ≡ true
  pub brick : operation.brick ≡ stage.me
  pub boot : operation.boot ≡ c.call.boot
  pub seq : operation.seq ≡ c.call.seq
  pub events : List Event
  pub coordinator : Coordinator
  pub same : SameCall c coordinator
  pub before : Operation
  pub was : (run stage.setting events w).operations n ≡ Some before
  pub call : ((run stage.setting events w).nodes stage.me.0).calls coordinator.call.seq ≡ Some coordinator
  pub number : number_of (run stage.setting events w) stage.me.0 coordinator.call.seq ≡ n
  pub seen : Option Stamp
  pub stored : Option Stamp
  pub made : operation.made ≡ before.made
  pub version : operation.version ≡ version_after before.version seen
  pub parts : ℕ → Part
  pub ends : EndsAt stage coordinator.phase coordinator.stamp parts seen stored
  pub members : (brick : BrickId) → is_one_of stage.bricks brick ≡ true → IsMember stage last stage.call brick
  pub kept : (brick : BrickId) → is_one_of stage.bricks brick ≡ true → replica_at (last.nodes brick.0) stage.call ≡ (parts brick.0).replica
  pub more : List Packet
  pub packets : last.packets ≡ (run stage.setting events w).packets ++ (collect_packets stage.me coordinator stored ++ more)

-- The operation's deliveries come to their end, and it is answered.
pub record Finishes (stage : Stage) (n : ℕ) (c : Coordinator) (w : World) : Type 0 where
  pub events : List Event
  pub last : World
  pub alone : RunsAlone stage.setting n stage.bricks w events last
  pub end : HasEnded stage n c w last

-- coordinators of one operation
same_then : (c d e : Coordinator) → SameCall c d → SameCall d e → SameCall c e
same_then c d e first second = record {
  group = second.group ∙ first.group;
  prior = second.prior ∙ first.prior;
  only = second.only ∙ first.only;
  boot = second.boot ∙ first.boot;
  seq = second.seq ∙ first.seq;
  of_group = second.of_group ∙ first.of_group;
  view = second.view ∙ first.view;
  stripe = second.stripe ∙ first.stripe;
}

-- what has ended from the next world has ended from this one
ended_from : (stage : Stage) (n : ℕ) (c d : Coordinator) (w last : World) (event : Event) → SameCall c d
    → HasEnded stage n d (happens stage.setting w event) last → HasEnded stage n c w last
ended_from stage n c d w last event same end = record {
  closed = end.closed;
  operation = end.operation;
  is = end.is;
  answered = end.answered;
  brick = end.brick;
  boot = end.boot ∙ same.boot;
  seq = end.seq ∙ same.seq;
  events = event ∷ end.events;
  coordinator = end.coordinator;
  same = same_then c d end.coordinator same end.same;
  before = end.before;
  was = end.was;
  call = end.call;
  number = end.number;
  seen = end.seen;
  stored = end.stored;
  made = end.made;
  version = end.version;
  parts = end.parts;
  ends = end.ends;
  members = end.members;
  kept = end.kept;
  more = end.more;
  packets = end.packets;
}

-- in a world that shows a scene the operation is open
opened_so : (stage : Stage) (n : ℕ) (w : World) (s : Scene) → Shows stage n w s → is_some (open_call w n) ≡ true
opened_so stage n w s shows =
    let up_me = (and_parts (nat_lt stage.me.0 stage.setting.layout.bricks) (w.up stage.me.0) shows.up).1 in
    let open_is : open_call w n ≡ Some s.c
    = ap (λ (z : Option Operation). open_at w z) shows.is
    ∙ open_at_is w shows.operation stage.me s.c.call.boot s.c.call.seq shows.brick shows.boot shows.seq up_me shows.node_boot ∙ shows.call in
    ap (λ (z : Option Coordinator). is_some z) open_is

-- the next message is delivered, by the step that the delivery makes
delivered_by : (P : World → Type 0) (stage : Stage) (n : ℕ) (w : World) (s : Scene) (packet : Packet) (rest : List Packet) → Shows stage n w s
    → s.queue ≡ packet ∷ rest → is_up stage.setting.layout w packet.to ≡ true
    → (step : NodeStep) → received stage.setting packet.to (w.clocks packet.to.0) (w.nodes packet.to.0) packet ≡ step
    → ((head : IsHead (is_left w n stage.bricks) 1 w.packets packet rest) → P (world_by stage w (1 + head.place) packet step))
    → (head : IsHead (is_left w n stage.bricks) 1 w.packets packet rest) × P (happens stage.setting w (Delivers (1 + head.place)))
delivered_by P stage n w s packet rest shows queue up step step_is then =
    let head = head_of (is_left w n stage.bricks) 1 w.packets packet rest (shows.queue ∙ queue) in (
      head,
      subst (λ (z : World). P z)
          (sym (delivers_so stage w head.place packet head.stands up
          ∙ ap (λ (z : NodeStep). world_by stage w (1 + head.place) packet z) step_is))
          (then head),
    )

-- then the world finishes, where the next one does
pub finishes_by : (stage : Stage) (n : ℕ) (w : World) (s : Scene) (d : Coordinator) (packet : Packet) (rest : List Packet) → (shows : Shows stage n w s)
    → SameCall s.c d → (queue : s.queue ≡ packet ∷ rest) → is_up stage.setting.layout w packet.to ≡ true
    → (step : NodeStep) → received stage.setting packet.to (w.clocks packet.to.0) (w.nodes packet.to.0) packet ≡ step
    → ((head : IsHead (is_left w n stage.bricks) 1 w.packets packet rest) → Finishes stage n d (world_by stage w (1 + head.place) packet step))
    → Finishes stage n s.c w
finishes_by stage n w s d packet rest shows same queue up step step_is then =
    let next = delivered_by (Finishes stage n d) stage n w s packet rest shows queue up step step_is then in
    record {
      events = Delivers (1 + next.0.place) ∷ next.1.events;
      last = next.1.last;
      alone = Goes_on w next.1.last (1 + next.0.place) next.1.events (opened_so stage n w s shows) next.0.first next.1.alone;
      end = ended_from stage n s.c d w next.1.last (Delivers (1 + next.0.place)) same next.1.end;
    }

-- or where the operation has ended in the next one
pub ends_by : (stage : Stage) (n : ℕ) (w : World) (s : Scene) (packet : Packet) (rest : List Packet) → (shows : Shows stage n w s)
    → (queue : s.queue ≡ packet ∷ rest) → is_up stage.setting.layout w packet.to ≡ true
    → (step : NodeStep) → received stage.setting packet.to (w.clocks packet.to.0) (w.nodes packet.to.0) packet ≡ step
    → ((head : IsHead (is_left w n stage.bricks) 1 w.packets packet rest)
    → HasEnded stage n s.c w (world_by stage w (1 + head.place) packet step))
    → Finishes stage n s.c w
ends_by stage n w s packet rest shows queue up step step_is then =
    let next = delivered_by (HasEnded stage n s.c w) stage n w s packet rest shows queue up step step_is then in
    let last : World = happens stage.setting w (Delivers (1 + next.0.place)) in
    record {
      events = Delivers (1 + next.0.place) ∷ [];
      last = last;
      alone = Goes_on w last (1 + next.0.place) [] (opened_so stage n w s shows) next.0.first (Ended last next.1.closed);
      end = next.1;
    }

-- a request of a stripe, which a member of the learnt view handles
abbrev pub IsHandled : Request → Type 0
IsHandled (Request.OldRead bound) = ⊥
IsHandled (Request.Prepare ballot) = ⊥
IsHandled (Request.Accept ballot members) = ⊥
IsHandled request = Unit {0}

-- a member handles a request of a stripe at its seat, where it serves the view of the call
handled_at : (setting : Setting) (group : Group) (me from : BrickId) (node : Node) (call : Call) (request : Request) (seat : ℕ) → IsHandled request
    → seat_now me node call group ≡ Some seat → moved_at node call ≡ None
    → requested_as setting group me from node call request ≡ requested_at setting group.m me from node call request (Some seat)
handled_at setting group me from node call request seat handled seated serves = by request handled
  where
    at_seat : (r : Request) → served_unless setting group.m me from node call r (seat_now me node call group) (moved_at node call)
        ≡ requested_at setting group.m me from node call r (Some seat)
    at_seat r =
        ap (λ (z : Option Reply). served_unless setting group.m me from node call r (seat_now me node call group) z) serves
        ∙ ap (λ (z : Option ℕ). requested_at setting group.m me from node call r z) seated

    by : (r : Request) → IsHandled r → requested_as setting group me from node call r ≡ requested_at setting group.m me from node call r (Some seat)
    by (Request.Read want) is = at_seat (Request.Read want)
    by (Request.Order t) is = at_seat (Request.Order t)
    by (Request.OrderRead t look want) is = at_seat (Request.OrderRead t look want)
    by (Request.Write t block) is = at_seat (Request.Write t block)
    by (Request.Modify t base j delta) is = at_seat (Request.Modify t base j delta)
    by (Request.Collect t) is = ap (λ (z : Option ℕ). requested_at setting group.m me from node call (Request.Collect t) z) seated
    by (Request.OldRead bound) is = absurd is
    by (Request.Prepare ballot) is = absurd is
    by (Request.Accept ballot members) is = absurd is

-- a member handles a request of a stripe that fits
pub member_step : (stage : Stage) (w : World) (from : BrickId) (call : Call) (x : Seated) (request : Request) → IsMember stage w call x.brick
    → seat_in stage.group.members x.brick.0 ≡ Some x.seat → IsHandled request → fits stage.setting.layout stage.group.m call request (Some x.seat) ≡ true
    → requested stage.setting x.brick from (w.nodes x.brick.0) call request
    ≡ reacted x.brick from (w.nodes x.brick.0) call (handle stage.setting.code stage.group.m
    (full_at stage.setting.layout.records (w.nodes x.brick.0).live) x.seat (replica_at (w.nodes x.brick.0) call) request)
unfolding requested
member_step stage w from call x request member seat handled fitting =
    ap (λ (z : Option Group). requested_in stage.setting x.brick from node call request z) member.group
    ∙ ap (λ (b : Bool). cond b (no_step node) (requested_as stage.setting stage.group x.brick from node call request)) served
    ∙ handled_at stage.setting stage.group x.brick from node call request x.seat handled seated unmoved
  where
    node : Node
    node = w.nodes x.brick.0

    now : is_now node call ≡ true
    now = eq-eqb call.view.0 (view_at node call.group.0) (sym member.view)

    seated : seat_now x.brick node call stage.group ≡ Some x.seat
    seated = ap (λ (b : Bool). cond b (seat_in stage.group.members x.brick.0) None) now ∙ seat

    no_later : nat_lt call.view.0 (view_at node call.group.0) ≡ false
    no_later = let same = member.view in grind (arith, nat_tests, same)

    known : nat_lt (view_at node call.group.0) call.view.0 ≡ false
    known = let same = member.view in grind (arith, nat_tests, same)

    unmoved : moved_at node call ≡ None
    unmoved =
        ap (λ (b : Bool). cond b (Some (moved_to (node.learnt call.group.0).view))
        (cond (has_accepted node call.group.0) (Some (Moved (record { 0 = call.view.0 + 1 }) None)) None)) no_later
        ∙ ap (λ (b : Bool). cond b (Some (Moved (record { 0 = call.view.0 + 1 }) None)) None) member.free

    served : is_void stage.setting.layout x.brick node call request stage.group ≡ false
    served =
        or_from (not (nat_lt call.stripe.0 stage.group.stripes)) _ (ap (λ (b : Bool). not b) member.stripe)
        (or_from (nat_eq call.view.0 0) _ member.from_one
        (or_from (nat_lt (view_at node call.group.0) call.view.0) _ known
        (or_from (is_now node call && not (is_some (seat_now x.brick node call stage.group)))
        (not (fits stage.setting.layout stage.group.m call request (seat_now x.brick node call stage.group)))
        (ap (λ (b : Bool). b && not (is_some (seat_now x.brick node call stage.group))) now ∙ ap (λ (z : Option ℕ). not (is_some z)) seated)
        (ap (λ (z : Option ℕ). not (fits stage.setting.layout stage.group.m call request z)) seated ∙ ap (λ (b : Bool). not b) fitting))))

-- what a coordinator asks in its own view is a request of a stripe
asks_of_stripe : (stage : Stage) (c : Coordinator) (x : Seated) → looks_back c.phase ≡ false → IsHandled (asked_of stage c x)
unfolding request_of
asks_of_stripe stage c x = by c.phase
  where
    by : (phase : Phase) → looks_back phase ≡ false → IsHandled (asked_of stage (record c { phase = phase }) x)
    by Looks ahead = tt
    by (LooksAt j) ahead = tt
    by Orders ahead = tt
    by (OrdersAt j) ahead = tt
    by Recovers ahead = tt
    by (Descends bound) ahead = tt
    by (LooksBack bound) ahead = absurd (false≢true (sym ahead))
    by (Modifies base j) ahead = tt
    by (Bases base) ahead = tt
    by Stores ahead = tt

-- a member serves the operation's call in each phase
pub member_in : (stage : Stage) (w : World) (c : Coordinator) (brick : BrickId) → c.call ≡ record stage.call { phase = c.call.phase }
    → IsMember stage w stage.call brick → IsMember stage w c.call brick
member_in stage w c brick is member =
    subst (λ (call : Call). IsMember stage w call brick) (sym is) (record {
      up = member.up;
      group = member.group;
      stripe = member.stripe;
      from_one = member.from_one;
      view = member.view;
      free = member.free;
    })

-- and so what the coordinator asks of it
pub asked_step : (stage : Stage) (n : ℕ) (w : World) (s : Scene) (x : Seated) → Shows stage n w s → IsSeated stage x → Fits stage s.c x
    → IsInView stage s.c → received stage.setting x.brick (w.clocks x.brick.0) (w.nodes x.brick.0) (asking stage s.c x)
    ≡ reacted x.brick stage.me (w.nodes x.brick.0) s.c.call (reaction stage s.c (s.parts x.brick.0) x)
unfolding received
asked_step stage n w s x shows seated fitting in_view =
    let part = shows.parts x.brick seated.1 in
    member_step stage w stage.me s.c.call x (asked_of stage s.c x) (member_in stage w s.c x.brick (call_of stage s.c shows.of in_view.own) (shows.members x.brick seated.1))
    seated.0 (asks_of_stripe stage s.c x in_view.ahead) fitting
    ∙ ap (λ (l : ℕ). reacted x.brick stage.me (w.nodes x.brick.0) s.c.call (handle stage.setting.code stage.group.m
    (full_at stage.setting.layout.records l) x.seat (replica_at (w.nodes x.brick.0) s.c.call) (asked_of stage s.c x))) part.live
    ∙ ap (λ (r : Replica). reacted x.brick stage.me (w.nodes x.brick.0) s.c.call (handle stage.setting.code stage.group.m
    (full_at stage.setting.layout.records (s.parts x.brick.0).live) x.seat r (asked_of stage s.c x)))
    (ap (λ (call : Call). replica_at (w.nodes x.brick.0) call) (call_of stage s.c shows.of in_view.own) ∙ part.replica)

-- the part that changed
pub part_put : (node : Node) (call : Call) (r : Reaction) → replica_at (with_replica node call r) call ≡ r.replica
part_put node call r =
    ap (λ (f : ℕ → ℕ → Replica). f call.view.0 call.stripe.0)
    (put_same node.replicas call.group.0
    (put (node.replicas call.group.0) call.view.0 (put (node.replicas call.group.0 call.view.0) call.stripe.0 r.replica)))
    ∙ ap (λ (f : ℕ → Replica). f call.stripe.0)
    (put_same (node.replicas call.group.0) call.view.0 (put (node.replicas call.group.0 call.view.0) call.stripe.0 r.replica))
    ∙ put_same (node.replicas call.group.0 call.view.0) call.stripe.0 r.replica

-- the parts of another view stay
part_other : (node : Node) (call : Call) (r : Reaction) (g f s : ℕ) → f ≢ call.view.0
    → (with_replica node call r).replicas g f s ≡ node.replicas g f s
part_other node call r g f s other =
    put_each (λ h (table : ℕ → ℕ → Replica). table f s ≡ node.replicas h f s) node.replicas call.group.0
    (put (node.replicas call.group.0) call.view.0 (put (node.replicas call.group.0 call.view.0) call.stripe.0 r.replica))
    (ap (λ (row : ℕ → Replica). row s)
    (put_other (node.replicas call.group.0) call.view.0 (put (node.replicas call.group.0 call.view.0) call.stripe.0 r.replica) f other))
    (λ h different. refl) g

-- a member of the view before tells what it keeps there
pub back_step : (stage : Stage) (n : ℕ) (w : World) (s : Scene) (x : Seated) (bound : Option Stamp) → Shows stage n w s → IsSeatedBack stage x
    → IsBack stage s.c bound → stage.may_ask ≡ true → nat_lt 1 stage.call.view.0 ≡ true
    → received stage.setting x.brick (w.clocks x.brick.0) (w.nodes x.brick.0) (asking stage s.c x)
    ≡ sending (w.nodes x.brick.0) (reply_packets x.brick stage.me s.c.call (Some (Old (found_back stage bound x))))
unfolding received requested request_of
back_step stage n w s x bound shows seated back may later =
    ap (λ (p : Phase). requested stage.setting x.brick stage.me node s.c.call (asked_of stage (record s.c { phase = p }) x)) back.phase
    ∙ ap (λ (z : Option Group). requested_in stage.setting x.brick stage.me node s.c.call (Request.OldRead bound) z) group_is
    ∙ ap (λ (b : Bool). cond b (no_step node) (sending node (reply_packets x.brick stage.me s.c.call (old_reply node s.c.call bound)))) unvoid
    ∙ ap (λ (z : Option Reply). sending node (reply_packets x.brick stage.me s.c.call z)) replies
  where
    node : Node
    node = w.nodes x.brick.0

    member : IsMember stage w stage.call x.brick
    member = shows.members x.brick seated.1

    old : IsOld stage w x.brick
    old = shows.olds may x.brick seated.1

    of_group : s.c.call.group.0 ≡ stage.call.group.0
    of_group = ap (λ (g : GroupId). g.0) shows.of.of_group

    -- the call's view is the one before that which the member has learnt
    view : s.c.call.view.0 ≡ stage.call.view.0 - 1
    view = ap (λ (e : ViewNo). e.0) back.own ∙ ap (λ (e : ViewNo). e.0 - 1) shows.of.view

    learnt : view_at node s.c.call.group.0 ≡ stage.call.view.0
    learnt = ap (λ (g : ℕ). view_at node g) of_group ∙ member.view

    group_is : group_at stage.setting.layout node s.c.call.group.0 ≡ Some stage.group
    group_is = ap (λ (g : ℕ). group_at stage.setting.layout node g) of_group ∙ member.group

    above : 1 < stage.call.view.0
    above = ltb-true 1 stage.call.view.0 later

    not_now : is_now node s.c.call ≡ false
    not_now = ne_eqb s.c.call.view.0 (view_at node s.c.call.group.0) (λ same. omega (arith, same, view, learnt, above))

    unvoid : is_void stage.setting.layout x.brick node s.c.call (Request.OldRead bound) stage.group ≡ false
    unvoid =
        or_from (not (nat_lt s.c.call.stripe.0 stage.group.stripes)) _
        (ap (λ (k : StripeNo). not (nat_lt k.0 stage.group.stripes)) shows.of.stripe ∙ ap (λ (b : Bool). not b) member.stripe)
        (or_from (nat_eq s.c.call.view.0 0) _ (ne_eqb s.c.call.view.0 0 (λ none. omega (arith, none, view, above)))
        (or_from (nat_lt (view_at node s.c.call.group.0) s.c.call.view.0) _
        (le-ltb (view_at node s.c.call.group.0) s.c.call.view.0 (omega (arith, view, learnt, above)))
        (ap (λ (b : Bool). (b && not (is_some (seat_now x.brick node s.c.call stage.group))) || false) not_now)))

    first : first_kept (node.learnt s.c.call.group.0) ≡ stage.call.view.0 - 1
    first =
        ap (λ (g : ℕ). first_kept (node.learnt g)) of_group
        ∙ ap (λ (b : Bool). cond b (view_at node stage.call.group.0) (view_at node stage.call.group.0 - 1)) old.unsynced
        ∙ ap (λ (e : ℕ). e - 1) member.view

    moved : is_some (moved_at node s.c.call) ≡ true
    moved =
        ap (λ (b : Bool). is_some (cond b (Some (moved_to (node.learnt s.c.call.group.0).view))
        (cond (has_accepted node s.c.call.group.0) (Some (Moved (record { 0 = s.c.call.view.0 + 1 }) None)) None)))
        (lt-ltb s.c.call.view.0 (view_at node s.c.call.group.0) (omega (arith, view, learnt, above)))

    log : (replica_at node s.c.call).log ≡ stage.old x.brick.0
    log =
        ap (λ (g : ℕ). (node.replicas g s.c.call.view.0 s.c.call.stripe.0).log) of_group
        ∙ ap (λ (e : ℕ). (node.replicas stage.call.group.0 e s.c.call.stripe.0).log) view
        ∙ ap (λ (k : StripeNo). (node.replicas stage.call.group.0 (stage.call.view.0 - 1) k.0).log) shows.of.stripe ∙ old.log

    replies : old_reply node s.c.call bound ≡ Some (Old (found_back stage bound x))
    replies =
        ap (λ (b : Bool). cond b (Some Retired) (cond (is_some (moved_at node s.c.call)) (Some (Old (newest_of (under bound (replica_at node s.c.call).log)))) None))
        (le-ltb s.c.call.view.0 (first_kept (node.learnt s.c.call.group.0)) (omega (arith, view, first)))
        ∙ ap (λ (b : Bool). cond b (Some (Old (newest_of (under bound (replica_at node s.c.call).log)))) None) moved
        ∙ ap (λ (l : List Version). Some (Old (newest_of (under bound l)))) log

-- a reply of one of the bricks goes among them
reply_goes : (stage : Stage) (brick : BrickId) (call : Call) (z : Option Reply) → is_one_of stage.bricks brick ≡ true
    → filter (goes_among stage.bricks) (reply_packets brick stage.me call z) ≡ reply_packets brick stage.me call z
reply_goes stage brick call None one = refl
reply_goes stage brick call (Some reply) one =
    ap (λ (b : Bool). cond b (replying stage brick call reply ∷ []) []) one

-- and is the operation's
reply_own : (stage : Stage) (w : World) (n : ℕ) (brick : BrickId) (call : Call) (z : Option Reply) → w.numbers stage.me.0 call.boot call.seq ≡ n
    → Each (λ packet. operation_of w packet ≡ n) (reply_packets brick stage.me call z)
reply_own stage w n brick call None number = tt
reply_own stage w n brick call (Some reply) number = (number, tt)

-- a request is delivered
pub asked_move : (stage : Stage) (n : ℕ) (w : World) (s : Scene) (x : Seated) (rest : List Packet) (number : ℕ) → (shows : Shows stage n w s)
    → IsSeated stage x → IsInView stage s.c
    → IsMove stage n w
    (world_by stage w number (asking stage s.c x)
    (reacted x.brick stage.me (w.nodes x.brick.0) s.c.call (reaction stage s.c (s.parts x.brick.0) x)))
    s (asked stage s x rest) shows.operation number rest (replies_from stage s.c (s.parts x.brick.0) x)
asked_move stage n w s x rest number shows seated in_view = record {
  operation_later = shows.operation;
  is = shows.is;
  brick = refl;
  boot = refl;
  seq = refl;
  up = refl;
  clocks = refl;
  begun = refl;
  node_boot = put_field (λ (z : Node). z.boot) w.nodes x.brick.0 node refl stage.me.0;
  node_seq = put_field (λ (z : Node). z.seq) w.nodes x.brick.0 node refl stage.me.0;
  call = put_field (λ (z : Node). z.calls s.c.call.seq) w.nodes x.brick.0 node refl stage.me.0 ∙ shows.call;
  known = put_field (λ (z : Node). z.known) w.nodes x.brick.0 node refl stage.me.0 ∙ shows.known;
  learnt = put_field (λ (z : Node). z.learnt) w.nodes x.brick.0 node refl;
  ballots = put_field (λ (z : Node). z.ballots) w.nodes x.brick.0 node refl;
  parts = λ brick one. ⊎_elim (here brick) (elsewhere brick one) (cases_eq brick.0 x.brick.0);
  olds = λ i.
      put_field (λ (z : Node). z.replicas stage.call.group.0 (stage.call.view.0 - 1) stage.call.stripe.0) w.nodes x.brick.0 node
      (part_other (w.nodes x.brick.0) s.c.call change stage.call.group.0 (stage.call.view.0 - 1) stage.call.stripe.0 other_view) i;
  delivery = record {
    numbers = refl;
    reached = refl;
    packets = refl;
    own = reply_own stage w n x.brick s.c.call change.reply shows.number;
  };
  queue = ap (λ (l : List Packet). rest ++ l) (sym (reply_goes stage x.brick s.c.call change.reply seated.1));
  same = record { group = refl; prior = refl; only = refl; boot = refl; seq = refl; of_group = refl; view = refl; stripe = refl };
}
  where
    change : Reaction
    change = reaction stage s.c (s.parts x.brick.0) x

    node : Node
    node = with_replica (w.nodes x.brick.0) s.c.call change

    part : Part
    part = part_after stage s.c (s.parts x.brick.0) x

    -- the view before is another than that of the call
    other_view : (stage.call.view.0 - 1) ≢ s.c.call.view.0
    other_view same =
        let some = eqb-false stage.call.view.0 0 (shows.members x.brick seated.1).from_one in
        let own : s.c.call.view.0 ≡ stage.call.view.0 = ap (λ (call : Call). call.view.0) (call_of stage s.c shows.of in_view.own) in
        by_zero stage.call.view.0 some (omega (arith, same, own))
      where
        by_zero : (e : ℕ) → (e ≡ 0 → ⊥) → (e - 1) ≡ e → ⊥
        by_zero zero none is = none refl
        by_zero (suc f) none is = omega (arith, is)

    here : (brick : BrickId) → brick.0 ≡ x.brick.0 → IsPart (put w.nodes x.brick.0 node brick.0) stage.call (put s.parts x.brick.0 part brick.0)
    here brick same =
        subst (λ (i : ℕ). IsPart (put w.nodes x.brick.0 node i) stage.call (put s.parts x.brick.0 part i)) (sym same)
        (subst (λ (z : Node). IsPart z stage.call (put s.parts x.brick.0 part x.brick.0)) (sym (put_same w.nodes x.brick.0 node))
        (subst (λ (p : Part). IsPart node stage.call p) (sym (put_same s.parts x.brick.0 part)) (record {
          replica = ap (λ (call : Call). replica_at node call) (sym (call_of stage s.c shows.of in_view.own)) ∙ part_put (w.nodes x.brick.0) s.c.call change;
          live = ap (λ (l : ℕ). l + change.adds - change.drops) (shows.parts x.brick seated.1).live;
        })))

    elsewhere : (brick : BrickId) → is_one_of stage.bricks brick ≡ true → brick.0 ≢ x.brick.0
        → IsPart (put w.nodes x.brick.0 node brick.0) stage.call (put s.parts x.brick.0 part brick.0)
    elsewhere brick one other =
        subst (λ (z : Node). IsPart z stage.call (put s.parts x.brick.0 part brick.0)) (sym (put_other w.nodes x.brick.0 node brick.0 other))
        (subst (λ (p : Part). IsPart (w.nodes brick.0) stage.call p) (sym (put_other s.parts x.brick.0 part brick.0 other)) (shows.parts brick one))

-- a request to look back is delivered
pub back_move : (stage : Stage) (n : ℕ) (w : World) (s : Scene) (x : Seated) (rest : List Packet) (reply : Reply) (number : ℕ) → (shows : Shows stage n w s)
    → is_one_of stage.bricks x.brick ≡ true
    → IsMove stage n w
    (world_by stage w number (asking stage s.c x) (sending (w.nodes x.brick.0) (reply_packets x.brick stage.me s.c.call (Some reply))))
    s (record s { queue = rest ++ (replying stage x.brick s.c.call reply ∷ []) }) shows.operation number rest
    (reply_packets x.brick stage.me s.c.call (Some reply))
back_move stage n w s x rest reply number shows one = record {
  operation_later = shows.operation;
  is = shows.is;
  brick = refl;
  boot = refl;
  seq = refl;
  up = refl;
  clocks = refl;
  begun = refl;
  node_boot = put_field (λ (z : Node). z.boot) w.nodes x.brick.0 (w.nodes x.brick.0) refl stage.me.0;
  node_seq = put_field (λ (z : Node). z.seq) w.nodes x.brick.0 (w.nodes x.brick.0) refl stage.me.0;
  call = put_field (λ (z : Node). z.calls s.c.call.seq) w.nodes x.brick.0 (w.nodes x.brick.0) refl stage.me.0 ∙ shows.call;
  known = put_field (λ (z : Node). z.known) w.nodes x.brick.0 (w.nodes x.brick.0) refl stage.me.0 ∙ shows.known;
  learnt = put_field (λ (z : Node). z.learnt) w.nodes x.brick.0 (w.nodes x.brick.0) refl;
  ballots = put_field (λ (z : Node). z.ballots) w.nodes x.brick.0 (w.nodes x.brick.0) refl;
  parts = λ brick among. record {
    replica = put_field (λ (z : Node). replica_at z stage.call) w.nodes x.brick.0 (w.nodes x.brick.0) refl brick.0 ∙ (shows.parts brick among).replica;
    live = put_field (λ (z : Node). z.live) w.nodes x.brick.0 (w.nodes x.brick.0) refl brick.0 ∙ (shows.parts brick among).live;
  };
  olds = put_field (λ (z : Node). z.replicas stage.call.group.0 (stage.call.view.0 - 1) stage.call.stripe.0) w.nodes x.brick.0 (w.nodes x.brick.0) refl;
  delivery = record {
    numbers = refl;
    reached = refl;
    packets = refl;
    own = reply_own stage w n x.brick s.c.call (Some reply) shows.number;
  };
  queue = ap (λ (l : List Packet). rest ++ l) (sym (reply_goes stage x.brick s.c.call (Some reply) one));
  same = record { group = refl; prior = refl; only = refl; boot = refl; seq = refl; of_group = refl; view = refl; stripe = refl };
}
