-- A world shows a scene: its coordinator, what its brick knows, the members' parts, and the messages that wait. A delivery of the first of these
-- leads to a world that shows the next scene.
use Rattle.protocol.specs.Replicas.{Replica}
use Rattle.synod_laws.specs.Synods.{Kept}
use Rattle.std.proofs.Common.{false, Bool, List, None, Option, Some, ap, arith, cond, length, subst, suc, sym, true, ℕ, ⊎_elim, ◌&&◌, ◌++◌, ◌+◌, ◌<◌, ◌≤◌, ◌∙◌, ◌≡◌}
use Rattle.std.proofs.lemmas.Bool.{eq-eqb, ne_eqb}
use Rattle.std.proofs.lemmas.List.{length-append}
use Rattle.std.proofs.lemmas.Option.{slice_get_within}
use Rattle.std.specs.Prelude.{filter, nat_eq, nat_lt, slice_get, ◌-◌}
use Rattle.calm_laws.proofs.Asking.{put_cases}
use Rattle.calm_laws.proofs.Queues.{IsDelivered, IsHead, IsUnsent, delivered_queue, waiting}
use Rattle.calm_laws.proofs.Scenes.{Part, SameCall, Scene, Stage, sent, IsOf, of_same}
use Rattle.fab_base.specs.declared.identities.BrickId.{BrickId}
use Rattle.messages.specs.declared.calls.Call.{Call}
use Rattle.messages.specs.declared.packets.Packet.{Packet}
use Rattle.protocol.specs.Calms.{goes_among, is_left, is_one_of, open_at}
use Rattle.protocol.specs.Nodes.{Node, NodeStep, group_at, put, received, replica_at, view_at, has_accepted}
use Rattle.protocol.specs.Views.{Learnt, group_kept}
use Rattle.protocol.specs.Worlds.{Delivers, Operation, World, delivered, happens, is_up, packet_of, replies_with, voiced, world_stepped}

-- what the changed value has in common with the old one
pub put_field : {A B : Type 0} (g : A → B) (f : ℕ → A) (k : ℕ) (v : A) → g v ≡ g (f k) → (i : ℕ) → g (put f k v i) ≡ g (f i)
put_field g f k v same i = ⊎_elim
    (λ (here : (i ≡ k) × (put f k v i ≡ v)). ap g here.1 ∙ same ∙ ap (λ (j : ℕ). g (f j)) (sym here.0))
    (λ (other : put f k v i ≡ f i). ap g other)
    (put_cases f k v i)

-- a brick that hears the coordinator is up, and serves the call's view, which is none before the first; and the call's stripe is one of the group
pub record IsMember (stage : Stage) (w : World) (call : Call) (brick : BrickId) : Type 0 where
  pub up : is_up stage.setting.layout w brick ≡ true
  pub group : group_at stage.setting.layout (w.nodes brick.0) call.group.0 ≡ Some stage.group
  pub stripe : nat_lt call.stripe.0 stage.group.stripes ≡ true
  pub from_one : nat_eq call.view.0 0 ≡ false
  pub view : view_at (w.nodes brick.0) call.group.0 ≡ call.view.0
  pub free : has_accepted (w.nodes brick.0) call.group.0 ≡ false

-- the brick's part
pub record IsPart (node : Node) (call : Call) (part : Part) : Type 0 where
  pub replica : replica_at node call ≡ part.replica
  pub live : node.live ≡ part.live

-- What a brick keeps of the stripe in the view before the operation's, while it does not know all stripes to be kept in that: this log.
pub record IsOld (stage : Stage) (w : World) (brick : BrickId) : Type 0 where
  pub log : ((w.nodes brick.0).replicas stage.call.group.0 (stage.call.view.0 - 1) stage.call.stripe.0).log ≡ stage.old brick.0
  pub unsynced : ((w.nodes brick.0).learnt stage.call.group.0).synced ≡ false

pub record Shows (stage : Stage) (n : ℕ) (w : World) (s : Scene) : Type 0 where
  pub operation : Operation
  pub is : w.operations n ≡ Some operation
  pub brick : operation.brick ≡ stage.me
  pub boot : operation.boot ≡ s.c.call.boot
  pub seq : operation.seq ≡ s.c.call.seq
  pub up : is_up stage.setting.layout w stage.me ≡ true
  pub node_boot : (w.nodes stage.me.0).boot ≡ s.c.call.boot
  pub call : (w.nodes stage.me.0).calls s.c.call.seq ≡ Some s.c
  pub number : w.numbers stage.me.0 s.c.call.boot s.c.call.seq ≡ n
  pub begun : n ≤ w.begun
  pub within : s.c.call.seq ≤ (w.nodes stage.me.0).seq
  pub clock : w.clocks stage.me.0 ≡ stage.now
  pub known : (w.nodes stage.me.0).known ≡ s.known
  pub of : IsOf stage s.c
  pub members : (brick : BrickId) → is_one_of stage.bricks brick ≡ true → IsMember stage w stage.call brick
  pub parts : (brick : BrickId) → is_one_of stage.bricks brick ≡ true → IsPart (w.nodes brick.0) stage.call (s.parts brick.0)
  pub olds : stage.may_ask ≡ true → (brick : BrickId) → is_one_of stage.bricks brick ≡ true → IsOld stage w brick
  pub queue : waiting w n stage.bricks ≡ s.queue
  pub unsent : IsUnsent w

-- What a delivery changes, where the scene goes on: the coordinator, what its brick knows, parts, and the packets that are sent.
pub record IsMove (stage : Stage) (n : ℕ) (w later : World) (s next : Scene) (operation : Operation) (number : ℕ) (rest sent : List Packet) : Type 0 where
  pub operation_later : Operation
  pub is : later.operations n ≡ Some operation_later
  pub brick : operation_later.brick ≡ operation.brick
  pub boot : operation_later.boot ≡ operation.boot
  pub seq : operation_later.seq ≡ operation.seq
  pub up : later.up ≡ w.up
  pub clocks : later.clocks ≡ w.clocks
  pub begun : later.begun ≡ w.begun
  pub node_boot : (later.nodes stage.me.0).boot ≡ (w.nodes stage.me.0).boot
  pub node_seq : (later.nodes stage.me.0).seq ≡ (w.nodes stage.me.0).seq
  pub call : (later.nodes stage.me.0).calls s.c.call.seq ≡ Some next.c
  pub known : (later.nodes stage.me.0).known ≡ next.known
  pub learnt : (i : ℕ) → (later.nodes i).learnt ≡ (w.nodes i).learnt
  pub ballots : (i : ℕ) → (later.nodes i).ballots ≡ (w.nodes i).ballots
  pub parts : (brick : BrickId) → is_one_of stage.bricks brick ≡ true → IsPart (later.nodes brick.0) stage.call (next.parts brick.0)
  pub olds : (i : ℕ) → (later.nodes i).replicas stage.call.group.0 (stage.call.view.0 - 1) stage.call.stripe.0
      ≡ (w.nodes i).replicas stage.call.group.0 (stage.call.view.0 - 1) stage.call.stripe.0
  pub delivery : IsDelivered w later n number sent
  pub queue : next.queue ≡ rest ++ filter (goes_among stage.bricks) sent
  pub same : SameCall s.c next.c

-- a member serves it as before
pub serves_on : (stage : Stage) (w later : World) (call : Call) (brick : BrickId) → later.up ≡ w.up
    → ((i : ℕ) → (later.nodes i).learnt ≡ (w.nodes i).learnt) → ((i : ℕ) → (later.nodes i).ballots ≡ (w.nodes i).ballots)
    → IsMember stage w call brick → IsMember stage later call brick
serves_on stage w later call brick up learnt ballots member = record {
  up = ap (λ (f : ℕ → Bool). nat_lt brick.0 stage.setting.layout.bricks && f brick.0) up ∙ member.up;
  group = ap (λ (f : ℕ → Learnt). group_kept stage.setting.layout (f call.group.0).view.members call.group.0) (learnt brick.0) ∙ member.group;
  stripe = member.stripe;
  from_one = member.from_one;
  view = ap (λ (f : ℕ → Learnt). (f call.group.0).view.number.0) (learnt brick.0) ∙ member.view;
  free =
      ap (λ (f : ℕ → Learnt). has_accepted (record (later.nodes brick.0) { learnt = f }) call.group.0) (learnt brick.0)
      ∙ ap (λ (f : ℕ → Kept (List BrickId)). has_accepted (record (w.nodes brick.0) { ballots = f }) call.group.0) (ballots brick.0) ∙ member.free;
}

-- then the later world shows the next scene
pub shows_next : (stage : Stage) (n : ℕ) (w later : World) (s next : Scene) (packet : Packet) (rest sent : List Packet)
    → (shows : Shows stage n w s) → (head : IsHead (is_left w n stage.bricks) 1 w.packets packet rest)
    → IsMove stage n w later s next shows.operation (1 + head.place) rest sent → Shows stage n later next
shows_next stage n w later s next packet rest sent shows head move = record {
  operation = move.operation_later;
  is = move.is;
  brick = move.brick ∙ shows.brick;
  boot = move.boot ∙ shows.boot ∙ sym move.same.boot;
  seq = move.seq ∙ shows.seq ∙ sym move.same.seq;
  up = ap (λ (f : ℕ → Bool). nat_lt stage.me.0 stage.setting.layout.bricks && f stage.me.0) move.up ∙ shows.up;
  node_boot = move.node_boot ∙ shows.node_boot ∙ sym move.same.boot;
  call = ap (λ (k : ℕ). (later.nodes stage.me.0).calls k) move.same.seq ∙ move.call;
  number = ap (λ (f : ℕ → ℕ → ℕ → ℕ). f stage.me.0 next.c.call.boot next.c.call.seq) move.delivery.numbers
      ∙ ap (λ (b : ℕ). w.numbers stage.me.0 b next.c.call.seq) move.same.boot
      ∙ ap (λ (k : ℕ). w.numbers stage.me.0 s.c.call.boot k) move.same.seq ∙ shows.number;
  begun = subst (λ (k : ℕ). n ≤ k) (sym move.begun) shows.begun;
  within = let calls = move.same.seq in let nodes = move.node_seq in let was = shows.within in omega (arith, calls, nodes, was);
  clock = ap (λ (f : ℕ → ℕ). f stage.me.0) move.clocks ∙ shows.clock;
  known = move.known;
  of = of_same stage s.c next.c move.same shows.of;
  members = λ brick one. serves_on stage w later stage.call brick move.up move.learnt move.ballots (shows.members brick one);
  parts = λ brick one. move.parts brick one;
  olds = λ may brick one. record {
    log = ap (λ (r : Replica). r.log) (move.olds brick.0) ∙ (shows.olds may brick one).log;
    unsynced = ap (λ (f : ℕ → Learnt). (f stage.call.group.0).synced) (move.learnt brick.0) ∙ (shows.olds may brick one).unsynced;
  };
  queue = delivered_queue w later n stage.bricks packet rest sent shows.unsent head move.delivery ∙ sym move.queue;
  unsent = λ k above.
      let inside : head.place < length w.packets = slice_get_within w.packets head.place packet head.stands in
      let long : length later.packets ≡ length w.packets + length sent
      = ap (λ (l : List Packet). length l) move.delivery.packets ∙ length-append w.packets sent in
      ap (λ (f : ℕ → Bool). f k) move.delivery.reached
      ∙ ap (λ (b : Bool). cond b true (w.reached k)) (ne_eqb k (1 + head.place) (λ e. omega (arith, e, inside, above, long)))
      ∙ shows.unsent k (omega (arith, above, long));
}

-- the operation's coordinator, where its brick is up and was not started since
pub open_at_is : (w : World) (o : Operation) (me : BrickId) (boot seq : ℕ) → o.brick ≡ me → o.boot ≡ boot → o.seq ≡ seq → w.up me.0 ≡ true
    → (w.nodes me.0).boot ≡ boot → open_at w (Some o) ≡ (w.nodes me.0).calls seq
open_at_is w o me boot seq brick_is boot_is seq_is up node_boot =
    ap (λ (b : BrickId). cond (w.up b.0 && nat_eq (w.nodes b.0).boot o.boot) ((w.nodes b.0).calls o.seq) None) brick_is
    ∙ ap (λ (b : Bool). cond (b && nat_eq (w.nodes me.0).boot o.boot) ((w.nodes me.0).calls o.seq) None) up
    ∙ ap (λ (b : Bool). cond b ((w.nodes me.0).calls o.seq) None) (eq-eqb (w.nodes me.0).boot o.boot (node_boot ∙ sym boot_is))
    ∙ ap (λ (k : ℕ). (w.nodes me.0).calls k) seq_is

-- the world once a packet was delivered to a brick that is up, by the step that this makes
abbrev pub world_by : Stage → World → ℕ → Packet → NodeStep → World
world_by stage w number packet step =
    world_stepped stage.setting (record w { replies = replies_with stage.setting w packet; choices = voiced stage.setting w packet; reached = put w.reached number true }) packet.to step

pub delivers_so : (stage : Stage) (w : World) (place : ℕ) (packet : Packet) → slice_get w.packets place ≡ Some packet
    → is_up stage.setting.layout w packet.to ≡ true
    → happens stage.setting w (Delivers (1 + place))
    ≡ world_by stage w (1 + place) packet (received stage.setting packet.to (w.clocks packet.to.0) (w.nodes packet.to.0) packet)
unfolding happens
delivers_so stage w place packet stands up =
    let next : 1 + place ≡ suc place = omega arith in
    ap (λ (z : Option Packet). delivered stage.setting w (1 + place) z)
    (ap (λ (k : ℕ). packet_of w.packets k) next ∙ stands)
    ∙ ap (λ (b : Bool). cond b (world_by stage w (1 + place) packet
    (received stage.setting packet.to (w.clocks packet.to.0) (w.nodes packet.to.0) packet)) w) up
