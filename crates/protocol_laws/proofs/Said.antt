-- What the messages, the logs, the operations and the marks of a world say: the invariant behind the laws. The stamp of each phase of each
-- brick's calls is remembered beside the world.
use Rattle.quorum.specs.Quorums.{IsWithinLimits}
use Rattle.std.specs.List.{IsDistinct}
use Rattle.std.proofs.Common.{◌≡◌, ℕ, ◌<◌, ◌≤◌, ◌⊎◌, Bool, true, false, not, List, [], ◌∷◌, length, Option, Some, None, ◌+◌, ◌-◌}
use Rattle.std.specs.Prelude.{slice_get, nat_eq, map}
use Rattle.fab_base.specs.declared.identities.BrickId.{BrickId}
use Rattle.fab_base.specs.declared.stamps.Stamp.{Stamp}
use Rattle.fab_base.specs.declared.asks.Op.{Op}
use Rattle.fab_base.specs.declared.asks.Op.TheVariants.{ReadBlock, WriteBlock, ReadStripe, WriteStripe}
use Rattle.fab_base.specs.declared.answers.Answer.{Answer}
use Rattle.fab_base.specs.declared.answers.Answer.TheVariants.{Data, Done, Aborted}
use Rattle.fab_base.specs.Stamps.{stamp_below, stamp_same, first_stamp}
use Rattle.messages.specs.declared.calls.Call.{Call}
use Rattle.messages.specs.declared.packets.Message.{Message}
use Rattle.messages.specs.declared.packets.Packet.{Packet}
use Rattle.messages.specs.declared.requests.Request.{Request}
use Rattle.messages.specs.declared.requests.Version.{Version}
use Rattle.messages.specs.declared.requests.Look.{Look}
use Rattle.messages.specs.declared.requests.Look.TheVariants.{Below, At}
use Rattle.messages.specs.declared.requests.Want.{Want}
use Rattle.messages.specs.declared.requests.Want.TheVariants.{Seat, All}
use Rattle.messages.specs.declared.replies.Reply.{Reply}
use Rattle.reg_model.specs.declared.marks.Mark.TheVariants.{End}
use Rattle.reg_model.specs.Marks.{life_of}
use Rattle.reg_model.specs.Walk.{last_of}
use Rattle.reg_model.specs.Registers.{after_op, read_of}
use Rattle.fab_base.specs.Layouts.{Group, group_of, seat_in}
use Rattle.protocol.specs.Views.{Views, group_in, view_of, floor_of}
use Rattle.protocol.specs.Settings.{Setting}
use Rattle.protocol.specs.Replicas.{top_of, stamp_max, modified_block, is_wanted}
use Rattle.protocol.specs.declared.phases.Phase.{Phase}
use Rattle.protocol.specs.declared.phases.Phase.TheVariants.{Looks, LooksAt, Orders, OrdersAt, Recovers, Descends, Modifies, Bases, Stores, LooksBack}
use Rattle.protocol.specs.declared.phases.Counted.{Counted}
use Rattle.protocol.specs.Coordinators.{Coordinator, answers_phase, has_seat, request_of, delta_at, old_bound, asked_group, looks_back}
use Rattle.protocol.specs.Jobs.{Job}
use Rattle.protocol.specs.Nodes.{Node, given_content, view_at}
use Rattle.protocol.specs.Worlds.{World, Operation, zero_content}
use Rattle.protocol.specs.Happenings.{writes}
use Rattle.fab_base.specs.Layouts.{brick_at}
use Rattle.protocol_laws.specs.Laws.{WasSent, RequestSent, AskedAt, AtQuorum, IsModified, stamp_stored, IsGuarded, IsBlocked, top_in, part_in, first_kept_in}
use Rattle.protocol_laws.proofs.Books.{IsOperation, IsCall, IsReadable}
use Rattle.protocol_laws.proofs.Blocking.{LogsFit}
use Rattle.protocol_laws.proofs.Logs.{IsWithin}
use Rattle.protocol.proofs.Blocks.{IsContent}

-- a phase that was begun: its stamp, and what it does
pub record Begun : Type 0 where
  pub stamp : Stamp
  pub phase : Phase

-- each phase that was begun, by brick, boot, call number and phase number
abbrev pub Stamping : Type 0
Stamping = ℕ → ℕ → ℕ → ℕ → Option Begun

-- phase p of brick i's call k of boot b does this, with stamp t
abbrev pub IsBegun : Stamping → ℕ → ℕ → ℕ → ℕ → Phase → Stamp → Type 0
IsBegun stamps i b k p phase t = stamps i b k p ≡ Some (record { stamp = t; phase = phase })

-- t is the stamp of phase p of brick i's call k of boot b
abbrev pub IsStamped : Stamping → ℕ → ℕ → ℕ → ℕ → Stamp → Type 0
IsStamped stamps i b k p t = (phase : Phase) × IsBegun stamps i b k p phase t

-- the version that a phase of stamp t looks for at each member as it orders, or in the view before, if it looks for one
abbrev pub look_of : Phase → Stamp → Option Look
look_of (OrdersAt j) t = Some (Below t)
look_of Recovers t = Some (Below t)
look_of (Descends bound) t = Some (Below bound)
look_of (LooksBack bound) t = Some (Below (old_bound t bound))
look_of (Bases base) t = Some (At base)
look_of phase t = None

-- and whose block it wants
abbrev pub want_of : Phase → Want
want_of (LooksAt j) = Seat j
want_of (OrdersAt j) = Seat j
want_of phase = All

-- a stamp is looked for
abbrev pub is_looked : Look → Stamp → Bool
is_looked (Below bound) d = stamp_below d bound
is_looked (At base) d = stamp_same d base

-- a quorum of the version's view holds it
abbrev pub Stands : Setting → Views → World → ℕ → ℕ → Stamp → Type 0
Stands setting views w g s v =
    (group : Group) → group_in setting.layout views g (view_of v) ≡ Some group → AtQuorum group (λ seat. w.held (brick_at group seat) g s v)

-- no quorum of its view holds a stamp of these, or ever will
abbrev pub AreBlocked : Setting → Views → World → ℕ → ℕ → (Stamp → Type 0) → Type 0
AreBlocked setting views w g s Q =
    (d : Stamp) (group : Group) → group_in setting.layout views g (view_of d) ≡ Some group → Q d → IsBlocked w g s group d

-- the version is the first one, or an operation of this stripe made it
abbrev pub IsMadeOrFirst : World → ℕ → ℕ → Stamp → Type 0
IsMadeOrFirst w g s t =
    (t ≡ first_stamp)
    ⊎ ((n : ℕ) × (o : Operation) × IsOperation w n o × (o.ask.group.0 ≡ g) × (o.ask.stripe.0 ≡ s) × (o.made ≡ true) × (o.version ≡ Some t))

-- the stamp is the first one, or that of a phase which was begun
abbrev pub IsKnown : Stamping → Stamp → Type 0
IsKnown stamps t = (t ≡ first_stamp) ⊎ ((j b l p : ℕ) × IsStamped stamps j b l p t)

-- a stamp of brick i's boot b: where that is its present boot, the brick knows this time
pub record IsStampOf (node : Node) (i b : ℕ) (t : Stamp) : Type 0 where
  pub view : 1 ≤ t.view.0
  pub boot : t.boot ≡ b
  pub booted : b ≤ node.boot
  pub brick : t.brick.0 ≡ i
  pub positive : 1 ≤ t.time
  pub bounded : b ≡ node.boot → t.time ≤ node.known

-- the stamps of a world: each is its brick's and its boot's, calls that have one were begun, and no two calls of a boot share one
pub record StampsSay (w : World) (stamps : Stamping) : Type 0 where
  pub are : (i b k p : ℕ) (t : Stamp) → IsStamped stamps i b k p t → IsStampOf (w.nodes i) i b t
  pub begun : (i b k p : ℕ) (t : Stamp) → IsStamped stamps i b k p t → (1 ≤ k) × (b ≡ (w.nodes i).boot → k ≤ (w.nodes i).seq)
  pub apart : (i b k l p q : ℕ) (t : Stamp) → IsStamped stamps i b k p t → IsStamped stamps i b l q t → k ≡ l

-- at a quorum of seats the operation's floor is at most t
abbrev pub FloorsAtMost : Operation → Group → Stamp → Type 0
FloorsAtMost o group t = AtQuorum group (λ seat. not (stamp_below t (o.floor (brick_at group seat))))

-- at a quorum of seats the operation's floor is at least t
abbrev pub FloorsAtLeast : Operation → Group → Stamp → Type 0
FloorsAtLeast o group t = AtQuorum group (λ seat. not (stamp_below (o.floor (brick_at group seat)) t))

-- How far the bricks had come when an operation began, once its stripe had version u: a quorum of the view of u had come to u, and one of each view before
-- that to the floor of the next.
pub record FloorsAbove (setting : Setting) (views : Views) (o : Operation) (u : Stamp) : Type 0 where
  pub own : (group : Group) → group_in setting.layout views o.ask.group.0 (view_of u) ≡ Some group → FloorsAtLeast o group u
  pub before : (e : ℕ) (group : Group) → 1 ≤ e → e < view_of u → group_in setting.layout views o.ask.group.0 e ≡ Some group
      → FloorsAtLeast o group (floor_of (e + 1))

-- a request or reply's call is that of an operation of brick i
pub record IsCalled (w : World) (i : ℕ) (call : Call) (o : Operation) : Type 0 where
  pub is : IsOperation w (w.numbers i call.boot call.seq) o
  pub brick : o.brick.0 ≡ i
  pub boot : o.boot ≡ call.boot
  pub seq : o.seq ≡ call.seq
  pub group : o.ask.group.0 ≡ call.group.0
  pub stripe : o.ask.stripe.0 ≡ call.stripe.0

-- a block is the block of version t of a stripe at the seat of brick i in view e
abbrev pub IsBlockOf : Setting → Views → World → ℕ → ℕ → ℕ → ℕ → Stamp → List ℕ → Type 0
IsBlockOf setting views w g e s i t block =
    (group : Group) (seat : ℕ) → group_in setting.layout views g e ≡ Some group → seat_in group.members i ≡ Some seat
    → block ≡ setting.code.encode group.m (w.contents g s t) seat

-- a coordinator is in a phase of its operation
abbrev pub FitsPhase : Phase → Op → Type 0
FitsPhase Looks op = op ≡ ReadStripe
FitsPhase (LooksAt j) op = op ≡ ReadBlock j
FitsPhase Orders op = (bytes : List ℕ) × (op ≡ WriteStripe bytes)
FitsPhase (OrdersAt j) op = (bytes : List ℕ) × (op ≡ WriteBlock j bytes)
FitsPhase Recovers op = writes op ≡ false
FitsPhase (Descends bound) op = (bytes : List ℕ) → op ≡ WriteStripe bytes → ⊥
FitsPhase (LooksBack bound) op = (bytes : List ℕ) → op ≡ WriteStripe bytes → ⊥
FitsPhase (Modifies base j) op = (bytes : List ℕ) × (op ≡ WriteBlock j bytes)
FitsPhase (Bases base) op = (j : ℕ) × (bytes : List ℕ) × (op ≡ WriteBlock j bytes)
FitsPhase Stores op = Unit {0}

-- a phase that looks below a bound looks no higher than at its operation's stamp, and a read's looks lower
pub record DescendsFrom (phase : Phase) (op : Op) (t : Stamp) : Type 0 where
  pub most : (bound : Stamp) → phase ≡ Descends bound → stamp_below t bound ≡ false
  pub lower : (bound : Stamp) → phase ≡ Descends bound → writes op ≡ false → stamp_below bound t ≡ true

module _ (setting : Setting) (views : Views) (w : World) where
  -- a version that brick i keeps in view e
  pub record VersionSays (g e s i : ℕ) (version : Version) : Type 0 where
    pub made : IsMadeOrFirst w g s version.stamp
    pub block : IsBlockOf setting views w g e s i version.stamp version.block

  -- a version that brick i told of view e, where this was wanted: its block, unless that was not wanted
  pub record ToldSays (want : Want) (g e s i : ℕ) (version : Version) : Type 0 where
    pub of : view_of version.stamp ≡ e
    pub made : IsMadeOrFirst w g s version.stamp
    pub block : (version.block ≡ []) ⊎ IsBlockOf setting views w g e s i version.stamp version.block
    pub wanted : (group : Group) (seat : ℕ) → group_in setting.layout views g e ≡ Some group → seat_in group.members i ≡ Some seat
        → is_wanted want seat ≡ true → version.block ≡ setting.code.encode group.m (w.contents g s version.stamp) seat

  -- a request, of this phase of its call, to store version t, which its operation made
  pub record MakerSays (stamps : Stamping) (from to : ℕ) (call : Call) (phase : Phase) (t : Stamp) : Type 0 where
    pub operation : Operation
    pub called : IsCalled w from call operation
    pub begun : IsBegun stamps from call.boot call.seq call.phase phase t
    pub made : operation.made ≡ true
    pub version : operation.version ≡ Some t
    pub member : (group : Group) → group_in setting.layout views call.group.0 call.view.0 ≡ Some group → (seat : ℕ) × (seat_in group.members to ≡ Some seat)
    pub guarded : (group : Group) → group_in setting.layout views call.group.0 (view_of t) ≡ Some group → IsGuarded w call.group.0 call.stripe.0 group t

  -- a write of a version
  pub record WriteSays (stamps : Stamping) (from to : ℕ) (call : Call) (t : Stamp) (block : List ℕ) : Type 0 where
    pub maker : MakerSays stamps from to call Stores t
    pub is_block : IsBlockOf setting views w call.group.0 call.view.0 call.stripe.0 to t block

-- what the member at a seat is sent of a change makes of its block of the base its block of version t
pub record ChangesBlock (setting : Setting) (w : World) (g s : ℕ) (t base : Stamp) (j : ℕ) (sent : List ℕ) (group : Group) (seat : ℕ) : Type 0 where
  pub delta : List ℕ
  pub sent_is : sent ≡ delta_at group.m j seat delta
  pub is : IsModified setting w g s t base j delta
  pub makes : modified_block setting.code group.m j seat sent (setting.code.encode group.m (w.contents g s base) seat)
      ≡ setting.code.encode group.m (w.contents g s t) seat

-- a request to modify a version's base
pub record ModifySays (setting : Setting) (views : Views) (w : World) (stamps : Stamping) (from to : ℕ) (call : Call) (t base : Stamp) (j : ℕ) (sent : List ℕ) : Type 0 where
  pub maker : MakerSays setting views w stamps from to call (Modifies base j) t
  pub base_made : IsMadeOrFirst w call.group.0 call.stripe.0 base
  pub changes : (group : Group) (seat : ℕ) → group_in setting.layout views call.group.0 call.view.0 ≡ Some group → seat_in group.members to ≡ Some seat
      → ChangesBlock setting w call.group.0 call.stripe.0 t base j sent group seat

-- a request for the newest version, of a phase of its call
pub record ReadSays (w : World) (stamps : Stamping) (i : ℕ) (call : Call) (want : Want) : Type 0 where
  pub operation : Operation
  pub called : IsCalled w i call operation
  pub phase : Phase
  pub stamp : Stamp
  pub begun : IsBegun stamps i call.boot call.seq call.phase phase stamp
  pub want_is : want_of phase ≡ want

-- an order, of a phase of its call, that tells the version looked for
pub record OrderReadSays (w : World) (stamps : Stamping) (i : ℕ) (call : Call) (t : Stamp) (look : Look) (want : Want) : Type 0 where
  pub operation : Operation
  pub called : IsCalled w i call operation
  pub phase : Phase
  pub begun : IsBegun stamps i call.boot call.seq call.phase phase t
  pub ahead : looks_back phase ≡ false
  pub look_is : look_of phase t ≡ Some look
  pub want_is : want_of phase ≡ want
  pub fits : FitsPhase phase operation.ask.op
  pub from : DescendsFrom phase operation.ask.op t
  pub below : (d : Stamp) → is_looked look d ≡ true → stamp_below d t ≡ true

-- an order of stamp t, which only a stripe write sends
pub record OrderSays (w : World) (stamps : Stamping) (i : ℕ) (call : Call) (t : Stamp) : Type 0 where
  pub operation : Operation
  pub called : IsCalled w i call operation
  pub begun : IsBegun stamps i call.boot call.seq call.phase Orders t
  pub fits : FitsPhase Orders operation.ask.op

-- a request for what a member keeps in the view before that of the operation
pub record OldReadSays (stamps : Stamping) (i : ℕ) (call : Call) (bound : Option Stamp) : Type 0 where
  pub stamp : Stamp
  pub begun : IsBegun stamps i call.boot call.seq call.phase (LooksBack bound) stamp
  pub view : stamp.view.0 ≡ call.view.0 + 1

-- a request to drop what is below version c: its operation made that, and was answered
pub record CollectSays (w : World) (i : ℕ) (call : Call) (c : Stamp) : Type 0 where
  pub operation : Operation
  pub called : IsCalled w i call operation
  pub made : operation.made ≡ true
  pub version : operation.version ≡ Some c
  pub answered : operation.answered ≡ true

-- a member was sent word to drop what is below version c of a stripe
pub record WasCollected (w : World) (g s : ℕ) (c : Stamp) : Type 0 where
  pub call : Call
  pub from : BrickId
  pub to : BrickId
  pub sent : RequestSent w call from to (Request.Collect c)
  pub group : call.group.0 ≡ g
  pub stripe : call.stripe.0 ≡ s

-- version d lies below one of view e that was collected, which is not looked for, and is no higher than t
pub record IsPassedOver (w : World) (g e s : ℕ) (look : Look) (t d : Stamp) : Type 0 where
  pub at : Stamp
  pub of : view_of at ≡ e
  pub above : stamp_below d at ≡ true
  pub unlooked : is_looked look at ≡ false
  pub most : stamp_below t at ≡ false
  pub collected : WasCollected w g s at

-- what a request of brick i to brick j says
abbrev pub RequestSays : Setting → Views → World → Stamping → ℕ → ℕ → Call → Request → Type 0
RequestSays setting views w stamps i j call (Request.Read want) = ReadSays w stamps i call want
RequestSays setting views w stamps i j call (Request.Order t) = OrderSays w stamps i call t
RequestSays setting views w stamps i j call (Request.OrderRead t look want) = OrderReadSays w stamps i call t look want
RequestSays setting views w stamps i j call (Request.Write t block) = WriteSays setting views w stamps i j call t block
RequestSays setting views w stamps i j call (Request.Modify t base d delta) = ModifySays setting views w stamps i j call t base d delta
RequestSays setting views w stamps i j call (Request.Collect c) = CollectSays w i call c
RequestSays setting views w stamps i j call (Request.OldRead bound) = OldReadSays stamps i call bound
RequestSays setting views w stamps i j call request = Unit {0}

-- an order that brick j answered
pub record OrderedSays (w : World) (stamps : Stamping) (j i : ℕ) (call : Call) : Type 0 where
  pub operation : Operation
  pub called : IsCalled w i call operation
  pub stamp : Stamp
  pub stamp_is : IsBegun stamps i call.boot call.seq call.phase Orders stamp
  pub promised : stamp_below (top_in w call.group.0 call.stripe.0 j) stamp ≡ false
  pub floor : stamp_below stamp (operation.floor j) ≡ false

module _ (setting : Setting) (views : Views) (w : World) where
  -- what brick j found, when it promised the stamp of a phase that looks for a version: each version of the call's view that is looked for, and that it
  -- has held, is at most that, or is passed over
  pub record OrderedReadSays (stamps : Stamping) (j i : ℕ) (call : Call) (found : Option Version) : Type 0 where
    pub operation : Operation
    pub called : IsCalled w i call operation
    pub stamp : Stamp
    pub look : Look
    pub phase : Phase
    pub begun : IsBegun stamps i call.boot call.seq call.phase phase stamp
    pub look_is : look_of phase stamp ≡ Some look
    pub below : (d : Stamp) → is_looked look d ≡ true → stamp_below d stamp ≡ true
    pub view : stamp.view.0 ≡ call.view.0
    pub promised : stamp_below (top_in w call.group.0 call.stripe.0 j) stamp ≡ false
    pub floor : stamp_below stamp (operation.floor j) ≡ false
    pub newest : (d : Stamp) → view_of d ≡ call.view.0 → w.held j call.group.0 call.stripe.0 d ≡ true → is_looked look d ≡ true
        → IsWithin found d ⊎ IsPassedOver w call.group.0 call.view.0 call.stripe.0 look stamp d
    pub held : (version : Version) → found ≡ Some version → w.held j call.group.0 call.stripe.0 version.stamp ≡ true
    pub says : (version : Version) → found ≡ Some version → ToldSays setting views w (want_of phase) call.group.0 call.view.0 call.stripe.0 j version

  -- What brick j found in the call's view, which it serves no more: it takes nothing below the first stamp of the next view; each version of the call's view
  -- that is looked for, and that it has held, is at most what it found, or is passed over.
  pub record OldSays (stamps : Stamping) (j i : ℕ) (call : Call) (found : Option Version) : Type 0 where
    pub bound : Option Stamp
    pub request : OldReadSays stamps i call bound
    pub passed : stamp_below (top_in w call.group.0 call.stripe.0 j) (floor_of request.stamp.view.0) ≡ false
    pub newest : (d : Stamp) → view_of d ≡ call.view.0 → w.held j call.group.0 call.stripe.0 d ≡ true → stamp_below d (old_bound request.stamp bound) ≡ true
        → IsWithin found d ⊎ IsPassedOver w call.group.0 call.view.0 call.stripe.0 (Below (old_bound request.stamp bound)) request.stamp d
    pub held : (version : Version) → found ≡ Some version → w.held j call.group.0 call.stripe.0 version.stamp ≡ true
    pub says : (version : Version) → found ≡ Some version → ToldSays setting views w All call.group.0 call.view.0 call.stripe.0 j version

  -- what brick j found
  pub record FoundSays (stamps : Stamping) (j i : ℕ) (call : Call) (order : Stamp) (version : Version) : Type 0 where
    pub operation : Operation
    pub called : IsCalled w i call operation
    pub phase : Phase
    pub stamp : Stamp
    pub begun : IsBegun stamps i call.boot call.seq call.phase phase stamp
    pub top : stamp_below (top_in w call.group.0 call.stripe.0 j) (stamp_max order version.stamp) ≡ false
    pub floor : stamp_below (stamp_max order version.stamp) (operation.floor j) ≡ false
    pub held : w.held j call.group.0 call.stripe.0 version.stamp ≡ true
    pub says : ToldSays setting views w (want_of phase) call.group.0 call.view.0 call.stripe.0 j version

  -- what a reply of brick `from` to brick `to` says
  abbrev pub ReplySays : Stamping → BrickId → BrickId → Call → Reply → Type 0
  ReplySays stamps from to call (Reply.Found order (Some version)) = FoundSays stamps from.0 to.0 call order version
  ReplySays stamps from to call Reply.Ordered = OrderedSays w stamps from.0 to.0 call
  ReplySays stamps from to call (Reply.OrderedRead found) = OrderedReadSays stamps from.0 to.0 call found
  ReplySays stamps from to call Reply.Stored =
      (t : Stamp) × (request : Request) × RequestSent w call to from request × (stamp_stored request ≡ Some t)
      × (w.held from.0 call.group.0 call.stripe.0 t ≡ true)
  ReplySays stamps from to call (Reply.Later x) = (t : Stamp) × AskedAt w call to from t × (stamp_below t x ≡ true)
  ReplySays stamps from to call (Reply.Full live) = live ≡ setting.layout.records
  ReplySays stamps from to call (Reply.Old found) = OldSays stamps from.0 to.0 call found
  ReplySays stamps from to call reply = Unit {0}

  -- each stripe of the group, and stripe 0, has a version of the view that stands
  abbrev pub SyncedSays : ℕ → ℕ → Type 0
  SyncedSays g e = (s : ℕ) (group : Group) → group_of setting.layout g ≡ Some group → IsReadable group s
      → (v : Stamp) × (view_of v ≡ e) × Stands setting views w g s v

  abbrev pub MessageSays : Stamping → BrickId → BrickId → Message → Type 0
  MessageSays stamps from to (Message.Request call request) = RequestSays setting views w stamps from.0 to.0 call request
  MessageSays stamps from to (Message.Reply call reply) = ReplySays stamps from to call reply
  MessageSays stamps from to (Message.Synced group number) = SyncedSays group.0 number.0
  MessageSays stamps from to message = Unit {0}

  abbrev pub PacketSays : Stamping → Packet → Type 0
  PacketSays stamps packet = MessageSays stamps packet.from packet.to packet.message

  -- an operation's version
  pub record HasVersion (o : Operation) (v : Stamp) : Type 0 where
    pub made : IsMadeOrFirst w o.ask.group.0 o.ask.stripe.0 v
    pub of : view_of v ≡ o.view
    pub reader : o.made ≡ false → writes o.ask.op ≡ false
    pub guarded : (group : Group) → group_in setting.layout views o.ask.group.0 (view_of v) ≡ Some group → IsGuarded w o.ask.group.0 o.ask.stripe.0 group v
    pub floors : (group : Group) → group_in setting.layout views o.ask.group.0 (view_of v) ≡ Some group → FloorsAtMost o group v

  -- the operation made version v on a base, which it read back or modified
  pub record ReadsBack (o : Operation) (v : Stamp) : Type 0 where
    pub base : Stamp
    pub base_is : o.base ≡ Some base
    pub op : (bytes : List ℕ) → o.ask.op ≡ WriteStripe bytes → ⊥
    pub below : stamp_below base v ≡ true
    pub made : IsMadeOrFirst w o.ask.group.0 o.ask.stripe.0 base
    pub content : w.contents o.ask.group.0 o.ask.stripe.0 v ≡ after_op setting.layout.block o.ask.op (w.contents o.ask.group.0 o.ask.stripe.0 base)
    pub blocked : AreBlocked setting views w o.ask.group.0 o.ask.stripe.0 (λ d. (stamp_below base d ≡ true) × (stamp_below d v ≡ true))

-- the operation made version v by writing it whole
abbrev pub WritesWhole : World → Operation → Stamp → Type 0
WritesWhole w o v = (o.base ≡ None) × (o.ask.op ≡ WriteStripe (w.contents o.ask.group.0 o.ask.stripe.0 v))

-- a quorum of each view of a group before this one takes nothing below the first stamp of the next
abbrev pub ArePassed : Setting → Views → World → ℕ → ℕ → Type 0
ArePassed setting views w g most =
    (e s : ℕ) (group : Group) → 1 ≤ e → e < most → group_in setting.layout views g e ≡ Some group → IsGuarded w g s group (floor_of (e + 1))

-- operation n
pub record OperationSays (setting : Setting) (views : Views) (w : World) (stamps : Stamping) (n : ℕ) (o : Operation) : Type 0 where
  pub begin : o.begin ≤ length w.marks
  pub view : (1 ≤ o.view) × (o.view ≤ view_at (w.nodes o.brick.0) o.ask.group.0)
  pub passed : ArePassed setting views w o.ask.group.0 o.view
  pub floors : (i : ℕ) → stamp_below (top_in w o.ask.group.0 o.ask.stripe.0 i) (o.floor i) ≡ false
  pub floors_known : (i : ℕ) → IsKnown stamps (o.floor i) ⊎ ((o.floor i).time ≡ 0)
  pub fresh : (i p : ℕ) → IsStamped stamps o.brick.0 o.boot o.seq p (o.floor i) → ⊥
  pub made : o.made ≡ true → (v : Stamp) × (p : ℕ) × (o.version ≡ Some v) × IsStamped stamps o.brick.0 o.boot o.seq p v
  pub maker : (v : Stamp) → o.made ≡ true → o.version ≡ Some v → WritesWhole w o v ⊎ ReadsBack setting views w o v
  pub content : (v : Stamp) → o.made ≡ true → o.version ≡ Some v → (group : Group) → group_of setting.layout o.ask.group.0 ≡ Some group
      → IsContent group.m setting.layout.block (w.contents o.ask.group.0 o.ask.stripe.0 v)
  pub stands : (v : Stamp) → o.version ≡ Some v → (o.made ≡ false) ⊎ (o.answered ≡ true) → Stands setting views w o.ask.group.0 o.ask.stripe.0 v
  pub version : (v : Stamp) → o.version ≡ Some v → HasVersion setting views w o v
  pub answered : o.answered ≡ true → writes o.ask.op ≡ true → o.made ≡ true

-- a reply that counts at a coordinator of brick i
pub record CountedSays (setting : Setting) (views : Views) (w : World) (i : ℕ) (c : Coordinator) (x : Counted) : Type 0 where
  pub sent : WasSent w (record { from = x.brick; to = record { 0 = i }; message = Message.Reply c.call x.reply })
  pub answers : answers_phase setting.layout.block c.stamp x.seat c.phase x.reply ≡ true
  pub seat : seat_in (asked_group c).members x.brick.0 ≡ Some x.seat

-- each reply that counts
abbrev pub EachCounted : (Counted → Type 0) → List Counted → Type 0
EachCounted P [] = Unit {0}
EachCounted P (x ∷ counted) = P x × EachCounted P counted

-- no seat counts twice
abbrev pub AreOnce : List Counted → Type 0
AreOnce [] = Unit {0}
AreOnce (x ∷ counted) = (has_seat x.seat counted ≡ false) × AreOnce counted

-- Where an operation has made its version on a base: that is of its view, a quorum has held it, and the version's content is what it makes of the base's.
pub record MadeOn (setting : Setting) (views : Views) (w : World) (c : Coordinator) (base : Stamp) : Type 0 where
  pub base_is : c.base ≡ Some base
  pub of : view_of base ≡ c.stamp.view.0
  pub below : stamp_below base c.stamp ≡ true
  pub base_made : IsMadeOrFirst w c.ask.group.0 c.ask.stripe.0 base
  pub stands : Stands setting views w c.ask.group.0 c.ask.stripe.0 base
  pub made : IsMadeOrFirst w c.ask.group.0 c.ask.stripe.0 c.stamp
  pub content : w.contents c.ask.group.0 c.ask.stripe.0 c.stamp
      ≡ after_op setting.layout.block c.ask.op (w.contents c.ask.group.0 c.ask.stripe.0 base)

-- the base that a phase modifies, or reads back
abbrev pub base_in : Phase → Option Stamp
base_in (Modifies base j) = Some base
base_in (Bases base) = Some base
base_in phase = None

-- the bound below which a phase of stamp t looks for a version, where no quorum will ever hold one from there up to the stamp
abbrev pub bound_in : Phase → Stamp → Option Stamp
bound_in (Descends bound) t = Some bound
bound_in (LooksBack bound) t = Some (old_bound t bound)
bound_in phase t = None

-- An operation of brick i that looks back, below this bound: it has a view before its own, of which the bound is; and a quorum of its own view's members has promised its
-- stamp, which is at or above how far they had come when it began.
pub record BackSays (setting : Setting) (views : Views) (w : World) (i : ℕ) (c : Coordinator) (bound : Option Stamp) : Type 0 where
  pub view : 1 < c.stamp.view.0
  pub bounded : (b : Stamp) → bound ≡ Some b → view_of b + 1 ≡ c.stamp.view.0
  pub operation : Operation
  pub called : IsCalled w i c.call operation
  pub guarded : (group : Group) → group_in setting.layout views c.call.group.0 (view_of c.stamp) ≡ Some group
      → IsGuarded w c.call.group.0 c.call.stripe.0 group c.stamp
  pub floors : (group : Group) → group_in setting.layout views c.call.group.0 (view_of c.stamp) ≡ Some group → FloorsAtMost operation group c.stamp

-- the open operation of brick i's call k. Its group is as its view's members keep it, and those before them are of the view before; its present phase is the last that
-- was begun, and each member that it asks was sent its request; where it looks below a bound, no quorum will ever hold a version from there up to its stamp, and in its own
-- view the bound is above the first stamp; and where it stores, it stores the content of its version; and a stripe write orders with what it was given.
pub record CallSays (setting : Setting) (views : Views) (w : World) (stamps : Stamping) (i k : ℕ) (c : Coordinator) : Type 0 where
  pub group : group_in setting.layout views c.call.group.0 c.stamp.view.0 ≡ Some c.group
  pub prior : 1 < c.stamp.view.0 → c.prior ≡ views c.call.group.0 (c.stamp.view.0 - 1)
  pub begun : IsBegun stamps i (w.nodes i).boot k c.call.phase c.phase c.stamp
  pub last : (p : ℕ) → c.call.phase < p → stamps i (w.nodes i).boot k p ≡ None
  pub asked : (seat : ℕ) (member : BrickId) → slice_get (asked_group c).members seat ≡ Some member
      → WasSent w (record { from = record { 0 = i }; to = member; message = Message.Request c.call (request_of setting.code c seat) })
  pub fits : FitsPhase c.phase c.ask.op
  pub unbased : c.phase ≡ Orders → c.base ≡ None
  pub given : c.phase ≡ Orders → c.content ≡ given_content c.ask.op
  pub above : (bound : Stamp) → c.phase ≡ Descends bound → stamp_below first_stamp bound ≡ true
  pub from : DescendsFrom c.phase c.ask.op c.stamp
  pub back : (bound : Option Stamp) → c.phase ≡ LooksBack bound → BackSays setting views w i c bound
  pub covered : (bound : Stamp) → bound_in c.phase c.stamp ≡ Some bound
      → AreBlocked setting views w c.ask.group.0 c.ask.stripe.0 (λ d. (stamp_below d bound ≡ false) × (stamp_below d c.stamp ≡ true))
  pub stores : c.phase ≡ Stores
      → IsMadeOrFirst w c.ask.group.0 c.ask.stripe.0 c.stamp × (c.content ≡ w.contents c.ask.group.0 c.ask.stripe.0 c.stamp)
  pub based : (base : Stamp) → base_in c.phase ≡ Some base → MadeOn setting views w c base
  pub counted : EachCounted (CountedSays setting views w i c) c.counted
  pub once : AreOnce c.counted

-- the operation whose marks have number n reads, and the data that it was answered are what it reads of its version
pub record DataShown (setting : Setting) (w : World) (n : ℕ) (bytes : List ℕ) : Type 0 where
  pub operation : Operation
  pub number : ℕ
  pub is : IsOperation w number operation
  pub mark : operation.mark ≡ n
  pub version : Stamp
  pub version_is : operation.version ≡ Some version
  pub bytes_are : read_of setting.layout.block operation.ask.op (w.contents operation.ask.group.0 operation.ask.stripe.0 version) ≡ Some bytes

-- the end, by this answer, of the operation whose marks have number n
abbrev pub EndShows : Setting → World → ℕ → Answer → Type 0
EndShows setting w n (Data bytes) = DataShown setting w n bytes
EndShows setting w n Done = (a : ℕ) × (o : Operation) × IsOperation w a o × (o.mark ≡ n) × (writes o.ask.op ≡ true)
EndShows setting w n (Aborted cause) = (a : ℕ) × (o : Operation) × IsOperation w a o × (o.mark ≡ n)

-- where one operation with marks has a version, the bricks had come as far when another of its stripe began, or that began no later than the first may end
abbrev pub IsInOrder : Setting → Views → World → Type 0
IsInOrder setting views w =
    (a b : ℕ) (earlier later : Operation) (u : Stamp) → IsOperation w a earlier → IsOperation w b later
    → earlier.ask.group.0 ≡ later.ask.group.0 → earlier.ask.stripe.0 ≡ later.ask.stripe.0 → 1 ≤ earlier.mark → earlier.version ≡ Some u
    → FloorsAbove setting views later u ⊎ (later.begin ≤ last_of (life_of w.marks earlier.mark))

-- nothing of view e that is below t was ever held
abbrev pub IsBottom : World → ℕ → ℕ → ℕ → ℕ → Stamp → Type 0
IsBottom w g e s i t = (d : Stamp) → view_of d ≡ e → stamp_below d t ≡ true → w.held i g s d ≡ true → ⊥

-- The synchronisation of brick i is of a view that the brick has learnt, whose members and those before them are as they are assigned; and it has read each stripe
-- before that of its present try: of each of these a version of its view stands.
pub record JobSays (setting : Setting) (views : Views) (w : World) (i : ℕ) (job : Job) : Type 0 where
  pub known : (1 ≤ job.view.number.0) × (job.view.number.0 ≤ view_at (w.nodes i) job.group.0)
  pub members : job.view.members ≡ views job.group.0 job.view.number.0
  pub prior : 1 < job.view.number.0 → job.view.prior ≡ views job.group.0 (job.view.number.0 - 1)
  pub passed : ArePassed setting views w job.group.0 job.view.number.0
  pub read : (s : ℕ) → s < job.attempt.stripe → (v : Stamp) × (view_of v ≡ job.view.number.0) × Stands setting views w job.group.0 s v

-- The invariant.
pub record Said (setting : Setting) (views : Views) (w : World) (stamps : Stamping) : Type 0 where
  pub limits : (g e : ℕ) (group : Group) → group_in setting.layout views g e ≡ Some group → IsWithinLimits group.m (length group.members)
  pub distinct : (g e : ℕ) (group : Group) → group_in setting.layout views g e ≡ Some group → IsDistinct nat_eq (map (λ member. member.0) group.members)
  pub stamps_say : StampsSay w stamps
  pub tops : (g e s i : ℕ) → IsKnown stamps (top_of (part_in w g e s i))
  pub first_held : (g s i : ℕ) → w.held i g s first_stamp ≡ true
  pub logs : (g e s i k : ℕ) (version : Version) → slice_get (part_in w g e s i).log k ≡ Some version → VersionSays setting views w g e s i version
  pub lowest : (g e s i : ℕ) (x : Version) (log : List Version) → first_kept_in w g i ≤ e → (part_in w g e s i).log ≡ x ∷ log
      → IsBottom w g e s i x.stamp ⊎ WasCollected w g s x.stamp
  pub held_made : (g s i : ℕ) (t : Stamp) → w.held i g s t ≡ true → IsMadeOrFirst w g s t
  pub packets : (k : ℕ) (packet : Packet) → slice_get w.packets k ≡ Some packet → PacketSays setting views w stamps packet
  pub operations : (n : ℕ) (o : Operation) → IsOperation w n o → OperationSays setting views w stamps n o
  pub calls : (i k : ℕ) (c : Coordinator) → IsCall w i k c → CallSays setting views w stamps i k c
  pub jobs : (i : ℕ) (job : Job) → (w.nodes i).job ≡ Some job → JobSays setting views w i job
  pub ends : (k p n : ℕ) (answer : Answer) → slice_get w.marks k ≡ Some (End p n answer) → EndShows setting w n answer
  pub order : IsInOrder setting views w
  pub logged : LogsFit w
  pub first : (g s : ℕ) → w.contents g s first_stamp ≡ zero_content setting.layout.block (group_of setting.layout g)

-- what is said of a world, by some stamps of its phases
abbrev pub IsSaid : Setting → Views → World → Type 0
IsSaid setting views w = (stamps : Stamping) × Said setting views w stamps
