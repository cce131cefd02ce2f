-- The laws of the disk, as they hold in every world that a run reaches. Quorums are counted by seat.
use Rattle.std.specs.Prelude.{◌≡◌, ℕ, ◌+◌, ◌<◌, ◌≤◌, Bool, true, false, not, ◌&&◌, List, [], ◌++◌, length, ◌⊎◌, Option, Some, None, is_some, slice_get}
use Rattle.fab_base.specs.declared.identities.BrickId.{BrickId}
use Rattle.fab_base.specs.declared.identities.GroupId.{GroupId}
use Rattle.fab_base.specs.declared.identities.ViewNo.{ViewNo}
use Rattle.fab_base.specs.declared.stamps.Ballot.{Ballot}
use Rattle.fab_base.specs.declared.stamps.Stamp.{Stamp}
use Rattle.fab_base.specs.declared.asks.Op.TheVariants.{WriteStripe}
use Rattle.fab_base.specs.declared.answers.Answer.TheVariants.{Aborted}
use Rattle.fab_base.specs.declared.answers.Cause.{Cause}
use Rattle.fab_base.specs.Stamps.{stamp_below, first_stamp}
use Rattle.messages.specs.declared.calls.Call.{Call}
use Rattle.messages.specs.declared.packets.Message.{Message}
use Rattle.messages.specs.declared.packets.Packet.{Packet}
use Rattle.messages.specs.declared.requests.Version.{Version}
use Rattle.messages.specs.declared.requests.Request.{Request}
use Rattle.messages.specs.declared.requests.Want.{Want}
use Rattle.messages.specs.declared.replies.Reply.{Reply}
use Rattle.quorum.specs.Quorums.{count}
use Rattle.reg_model.specs.declared.marks.Mark.TheVariants.{End}
use Rattle.reg_model.specs.Marks.{life_of, IsOpen, stripe_marks, IsWellFormed}
use Rattle.reg_model.specs.Registers.{zero_registers, block_of, with_block}
use Rattle.reg_model.specs.Strict.{IsStrict}
use Rattle.reg_model.specs.Walk.{last_of}
use Rattle.fab_base.specs.Layouts.{Group, group_of, seat_in, brick_at}
use Rattle.quorum.specs.Quorums.{quorum_of}
use Rattle.protocol.specs.Settings.{Setting, IsSound}
use Rattle.protocol.specs.Views.{Views, first_kept, view_of, group_in}
use Rattle.protocol.specs.Replicas.{Replica, is_held, is_wanted}
use Rattle.protocol.specs.declared.phases.Counted.{Counted}
use Rattle.protocol.specs.declared.phases.Phase.TheVariants.{Bases, LooksBack}
use Rattle.protocol.specs.Coordinators.{Coordinator, greatest_refuser, greatest_found, lowest_full, lowest_mover, lowest_dropper, told_in, asked_group, counts_at, with_reply, pieces_at, delta_at}
use Rattle.protocol.specs.Nodes.{view_at, has_accepted}
use Rattle.protocol.specs.Worlds.{World, Event, Operation, content_on, first_world, happens, run}
use Rattle.protocol.specs.Happenings.{is_of, effect_in, happenings_of}
pub use Rattle.view_laws.specs.Following.{WasSent, top_in, AtQuorum, IsGuarded, Follows, RunFollows}
pub use Rattle.protocol_laws.specs.Evidence.{RequestSent, stamp_asked, order_of, AskedAt, IsCallOf, IsLastRound, IsLastPhase, LaterEvidence, FullEvidence, MovedEvidence, GoneEvidence, Evidence}
use Rattle.protocol_laws.specs.ScrubEnds.{ScrubsShow}
use Rattle.protocol_laws.specs.SyncEnds.{SyncsShow}
use Rattle.protocol_laws.specs.Marked.{WordsFit, AreWithoutGaps, OwnMarks}

-- a brick's part of a stripe in a view
abbrev pub part_in : World → ℕ → ℕ → ℕ → ℕ → Replica
part_in w group view stripe brick = (w.nodes brick).replicas group view stripe

-- the first view of a group whose versions a brick keeps
abbrev pub first_kept_in : World → ℕ → ℕ → ℕ
first_kept_in w group brick = first_kept ((w.nodes brick).learnt group)

-- the stamp under which a request has its member store
abbrev pub stamp_stored : Request → Option Stamp
stamp_stored (Request.Write stamp block) = Some stamp
stamp_stored (Request.Modify stamp base j delta) = Some stamp
stamp_stored request = None

-- what a version modifies of its base: data block j, by this, and no other data block
pub record IsModified (setting : Setting) (w : World) (group stripe : ℕ) (version base : Stamp) (j : ℕ) (delta : List ℕ) : Type 0 where
  pub delta_is : delta ≡ setting.code.delta (block_of setting.layout.block j (w.contents group stripe base)) (block_of setting.layout.block j (w.contents group stripe version))
  pub others : w.contents group stripe version ≡ with_block setting.layout.block j (block_of setting.layout.block j (w.contents group stripe version)) (w.contents group stripe base)

-- whose block a request wants to be told, if it has a version told
abbrev pub want_in : Request → Option Want
want_in (Request.Read want) = Some want
want_in (Request.OrderRead t look want) = Some want
want_in (Request.OldRead bound) = Some Want.All
want_in request = None

-- One stamp has one content: each block of a version that was sent, or was found, or is kept is its seat's
-- block of the version's content, the seat being one of the view of the message, or of the part; but one that was found and not wanted may be empty. What a
-- member is sent to modify a base by is what data block j changes by from the base's content to the version's, where that changes its seat's block, and
-- else nothing; all other data blocks are the base's.
pub record OneContent (setting : Setting) (views : Views) (w : World) : Type 0 where
  pub sent : (call : Call) (from to : BrickId) (stamp : Stamp) (block : List ℕ) (group : Group)
      → group_in setting.layout views call.group.0 call.view.0 ≡ Some group → RequestSent w call from to (Request.Write stamp block)
      → (seat : ℕ) × (seat < length group.members) × (brick_at group seat ≡ to.0)
      × (block ≡ setting.code.encode group.m (w.contents call.group.0 call.stripe.0 stamp) seat)
  pub changed : (call : Call) (from to : BrickId) (stamp base : Stamp) (j : ℕ) (sent : List ℕ) (group : Group)
      → group_in setting.layout views call.group.0 call.view.0 ≡ Some group → RequestSent w call from to (Request.Modify stamp base j sent)
      → (seat : ℕ) × (seat < length group.members) × (brick_at group seat ≡ to.0)
      × ((delta : List ℕ) × (sent ≡ delta_at group.m j seat delta) × IsModified setting w call.group.0 call.stripe.0 stamp base j delta)
  pub found : (call : Call) (from to : BrickId) (seat : ℕ) (reply : Reply) (version : Version) (group : Group)
      → group_in setting.layout views call.group.0 call.view.0 ≡ Some group → seat_in group.members from.0 ≡ Some seat
      → WasSent w (record { from = from; to = to; message = Message.Reply call reply }) → told_in reply ≡ Some version
      → (version.block ≡ []) ⊎ (version.block ≡ setting.code.encode group.m (w.contents call.group.0 call.stripe.0 version.stamp) seat)
  pub wanted : (call : Call) (from to : BrickId) (seat : ℕ) (request : Request) (want : Want) (reply : Reply) (version : Version) (group : Group)
      → group_in setting.layout views call.group.0 call.view.0 ≡ Some group → seat_in group.members from.0 ≡ Some seat
      → RequestSent w call to from request → want_in request ≡ Some want → is_wanted want seat ≡ true
      → WasSent w (record { from = from; to = to; message = Message.Reply call reply }) → told_in reply ≡ Some version
      → version.block ≡ setting.code.encode group.m (w.contents call.group.0 call.stripe.0 version.stamp) seat
  pub kept : (number view stripe brick seat k : ℕ) (version : Version) (group : Group) → group_in setting.layout views number view ≡ Some group
      → seat_in group.members brick ≡ Some seat → slice_get (part_in w number view stripe brick).log k ≡ Some version
      → version.block ≡ setting.code.encode group.m (w.contents number stripe version.stamp) seat

-- At so many seats that with a quorum they are more than all, the brick takes nothing at or below the version, which
-- was never held there: no quorum has held it, or ever will.
abbrev pub IsBlocked : World → ℕ → ℕ → Group → Stamp → Type 0
IsBlocked w number stripe group version =
    length group.members < quorum_of group
    + count (length group.members) (λ seat. stamp_below version (top_in w number stripe (brick_at group seat)) && not (w.held (brick_at group seat) number stripe version))

-- the content of each version is what its maker makes of its base's
abbrev pub ContentsAreMade : Setting → World → Type 0
ContentsAreMade setting w =
    (n : ℕ) (o : Operation) (version : Stamp) → w.operations n ≡ Some o → o.made ≡ true → o.version ≡ Some version
    → w.contents o.ask.group.0 o.ask.stripe.0 version ≡ content_on setting.layout.block (w.contents o.ask.group.0 o.ask.stripe.0) o.ask.op o.base

-- An operation that made a version on a base writes no stripe whole; the base is below the version; and no quorum of its view has held a
-- version between the two, or ever will.
abbrev pub BasesAreNewest : Setting → Views → World → Type 0
BasesAreNewest setting views w =
    (n : ℕ) (o : Operation) (version base : Stamp) → w.operations n ≡ Some o → o.made ≡ true → o.version ≡ Some version → o.base ≡ Some base
    → ((bytes : List ℕ) → o.ask.op ≡ WriteStripe bytes → ⊥)
    × (stamp_below base version ≡ true)
    × ((between : Stamp) (group : Group) → group_in setting.layout views o.ask.group.0 (view_of between) ≡ Some group
    → stamp_below base between ≡ true → stamp_below between version ≡ true → IsBlocked w o.ask.group.0 o.ask.stripe.0 group between)

-- an operation of the stripe made this version: it is a stripe write, which has no base, or it has this base
abbrev pub WasMadeOn : World → ℕ → ℕ → Stamp → Stamp → Type 0
WasMadeOn w group stripe base version =
    (n : ℕ) × (o : Operation) × (w.operations n ≡ Some o) × (is_of group stripe o ≡ true) × (o.made ≡ true) × (o.version ≡ Some version)
    × (((bytes : List ℕ) × (o.ask.op ≡ WriteStripe bytes)) ⊎ (o.base ≡ Some base))

-- of two neighbours among the effective versions, the upper was written whole, or was made on the lower
abbrev pub NeighboursFollow : World → ℕ → ℕ → Type 0
NeighboursFollow w group stripe =
    (k : ℕ) (lower upper : Stamp) → slice_get (effect_in w group stripe).versions k ≡ Some lower → slice_get (effect_in w group stripe).versions (k + 1) ≡ Some upper
    → (lower ≡ upper) ⊎ WasMadeOn w group stripe lower upper

-- the lowest of the effective versions is the first one, or was written whole, or was made on the first one
abbrev pub LowestFollows : World → ℕ → ℕ → Type 0
LowestFollows w group stripe = (version : Stamp) → slice_get (effect_in w group stripe).versions 0 ≡ Some version → (version ≡ first_stamp) ⊎ WasMadeOn w group stripe first_stamp version

-- the content of the first version is zero
abbrev pub FirstIsZero : Setting → World → Type 0
FirstIsZero setting w =
    (number stripe : ℕ) (group : Group) → group_of setting.layout number ≡ Some group → w.contents number stripe first_stamp ≡ zero_registers group.m setting.layout.block

-- Before a request to store a version was sent, a quorum of its view took nothing below it, and has so ever since.
abbrev pub WritesAreGuarded : Setting → Views → World → Type 0
WritesAreGuarded setting views w =
    (call : Call) (from to : BrickId) (request : Request) (version : Stamp) (group : Group)
    → group_in setting.layout views call.group.0 (view_of version) ≡ Some group → RequestSent w call from to request → stamp_stored request ≡ Some version
    → IsGuarded w call.group.0 call.stripe.0 group version

-- a quorum of the group has held this version of the stripe
abbrev pub IsHeldByQuorum : World → ℕ → ℕ → Group → Stamp → Type 0
IsHeldByQuorum w number stripe group version = AtQuorum group (λ seat. w.held (brick_at group seat) number stripe version)

-- A member was sent word to drop what is below a version only after a quorum of its view had held that.
abbrev pub CollectsStand : Setting → Views → World → Type 0
CollectsStand setting views w =
    (call : Call) (from to : BrickId) (version : Stamp) (group : Group) → group_in setting.layout views call.group.0 (view_of version) ≡ Some group
    → RequestSent w call from to (Request.Collect version) → IsHeldByQuorum w call.group.0 call.stripe.0 group version

-- A version that a member has held, of a view whose versions it keeps, it keeps, or it keeps a later one that a quorum of that one's view has held.
abbrev pub DropsOnlyOlder : Setting → Views → World → Type 0
DropsOnlyOlder setting views w =
    (number stripe brick : ℕ) (version : Stamp) → first_kept_in w number brick ≤ view_of version → w.held brick number stripe version ≡ true
    → (is_held version (part_in w number (view_of version) stripe brick).log ≡ true)
    ⊎ ((later : Stamp) × (is_held later (part_in w number (view_of version) stripe brick).log ≡ true) × (stamp_below version later ≡ true)
    × ((group : Group) → group_in setting.layout views number (view_of later) ≡ Some group → IsHeldByQuorum w number stripe group later))

-- What a member dropped with a view is replaced: where it keeps no versions of a view any more, a quorum of the next view's members has held a version of that, of each
-- stripe.
abbrev pub DroppedAreReplaced : Setting → Views → World → Type 0
DroppedAreReplaced setting views w =
    (number view stripe brick : ℕ) (group next : Group) → view < first_kept_in w number brick → group_of setting.layout number ≡ Some group → stripe < group.stripes
    → group_in setting.layout views number (view + 1) ≡ Some next
    → (version : Stamp) × (view_of version ≡ view + 1) × IsHeldByQuorum w number stripe next version

-- Each message that all stripes of a group are kept in a view is true: of each stripe a quorum of the view's members has held a version of that view.
abbrev pub SyncedStand : Setting → Views → World → Type 0
SyncedStand setting views w =
    (from to : BrickId) (number : GroupId) (view : ViewNo) (stripe : ℕ) (kept group : Group)
    → WasSent w (record { from = from; to = to; message = Message.Synced number view })
    → group_of setting.layout number.0 ≡ Some kept → stripe < kept.stripes → group_in setting.layout views number.0 view.0 ≡ Some group
    → (version : Stamp) × (view_of version ≡ view.0) × IsHeldByQuorum w number.0 stripe group version

-- no step lowers the stamp below which a brick takes nothing
abbrev pub NeverFalls : World → World → Type 0
NeverFalls old new = (group stripe brick : ℕ) → stamp_below (top_in new group stripe brick) (top_in old group stripe brick) ≡ false

-- no brick adds a version to a log of a view whose versions it keeps, below the stamp below which it takes nothing
abbrev pub AddsNothingBelow : World → World → Type 0
AddsNothingBelow old new =
    (group view stripe brick : ℕ) (version : Stamp) → first_kept_in new group brick ≤ view → is_held version (part_in new group view stripe brick).log ≡ true
    → (is_held version (part_in old group view stripe brick).log ≡ true) ⊎ (stamp_below version (top_in old group stripe brick) ≡ false)

-- no order stamp of a view whose versions a brick keeps is replaced by one of an earlier time
abbrev pub OrdersRise : World → World → Type 0
OrdersRise old new = (group view stripe brick : ℕ) → first_kept_in new group brick ≤ view → (part_in old group view stripe brick).order.time ≤ (part_in new group view stripe brick).order.time

-- a member says that it stored a version only where it was asked to, and has held it
abbrev pub StoredIsHeld : World → Type 0
StoredIsHeld w =
    (call : Call) (from to : BrickId) → WasSent w (record { from = from; to = to; message = Message.Reply call Reply.Stored })
    → (version : Stamp) × (request : Request) × RequestSent w call to from request × (stamp_stored request ≡ Some version)
    × (w.held from.0 call.group.0 call.stripe.0 version ≡ true)

-- Versions follow real time: where one operation of a stripe, which has marks, ended before another began, its version is below
-- the other's, or it is the version that the other read.
abbrev pub FollowsRealTime : World → ℕ → ℕ → Type 0
FollowsRealTime w group stripe =
    (a b : ℕ) (earlier later : Operation) (version next : Stamp) → w.operations a ≡ Some earlier → w.operations b ≡ Some later
    → is_of group stripe earlier ≡ true → is_of group stripe later ≡ true → earlier.version ≡ Some version → later.version ≡ Some next
    → 1 ≤ earlier.mark → last_of (life_of w.marks earlier.mark) < later.begin
    → (stamp_below version next ≡ true) ⊎ ((version ≡ next) × (later.made ≡ false))

-- each reply that counted in a phase of an operation was sent to it, as a reply to that phase
abbrev pub CountedWereSent : World → Type 0
CountedWereSent w =
    (n phase k : ℕ) (x : Counted) → slice_get (w.replies n phase) k ≡ Some x
    → (o : Operation) × (w.operations n ≡ Some o)
    × ((call : Call) × IsCallOf call o × (call.phase ≡ phase)
    × WasSent w (record { from = x.brick; to = o.brick; message = Message.Reply call x.reply }))

-- A message that was sent says what was so of its brick then, where it refuses: of a later stamp, that the brick took nothing below just that
-- stamp for the stripe; of a full store, that it kept so many live records; of a later view with its members, that it had learnt just that; of one
-- without, that it had learnt the call's view, and accepted a list to follow it; that it dropped the call's view, that it kept versions of later views alone; of a view that is not synced, that it had learnt the call's view, and did
-- not know all stripes to be kept in it; of a greater ballot, that it had learnt the call's view, and promised to that ballot.
abbrev pub RefusalIsTrue : World → BrickId → Message → Type 0
RefusalIsTrue w from (Message.Reply call (Reply.Later x)) = top_in w call.group.0 call.stripe.0 from.0 ≡ x
RefusalIsTrue w from (Message.Reply call (Reply.Full live)) = (w.nodes from.0).live ≡ live
RefusalIsTrue w from (Message.Reply call (Reply.Moved number (Some lineage))) =
    (call.view.0 < number.0)
    × (((w.nodes from.0).learnt call.group.0).view ≡ record { number = number; members = lineage.members; prior = lineage.prior })
RefusalIsTrue w from (Message.Reply call (Reply.Moved number None)) =
    (number.0 ≡ call.view.0 + 1) × (view_at (w.nodes from.0) call.group.0 ≡ call.view.0) × (has_accepted (w.nodes from.0) call.group.0 ≡ true)
RefusalIsTrue w from (Message.Reply call Reply.NotSynced) =
    (view_at (w.nodes from.0) call.group.0 ≡ call.view.0) × (((w.nodes from.0).learnt call.group.0).synced ≡ false)
RefusalIsTrue w from (Message.Reply call (Reply.Outbid ballot)) =
    (view_at (w.nodes from.0) call.group.0 ≡ call.view.0)
    × ((accepted : Option (Ballot × List BrickId)) × ((w.nodes from.0).ballots call.group.0 ≡ Some (ballot, accepted)))
RefusalIsTrue w from (Message.Reply call Reply.Retired) = call.view.0 < first_kept_in w call.group.0 from.0
RefusalIsTrue w from message = Unit {0}

-- A moment of the run that led to a world: the one just before the event that sent the packet of a place among those sent.
pub record Sending (setting : Setting) (w : World) (k : ℕ) : Type 0 where
  pub earlier : List Event
  pub event : Event
  pub later : List Event
  pub moment : World
  pub moment_is : moment ≡ run setting earlier (first_world setting.layout)
  pub world_is : w ≡ run setting later (happens setting moment event)
  pub unsent : length moment.packets ≤ k
  pub sent : k < length (happens setting moment event).packets

-- Operation n has not ended: its marks show no end, or it has no marks and was not closed.
pub record HasNotEnded (w : World) (n : ℕ) : Type 0 where
  pub operation : Operation
  pub is : w.operations n ≡ Some operation
  pub marked : 1 ≤ operation.mark → IsOpen (life_of w.marks operation.mark)
  pub unmarked : operation.mark ≡ 0 → operation.closed ≡ None

-- Each request to store a version was sent at a moment when a quorum of its view took nothing below it, and the operation of its call had not ended.
abbrev pub WritesWereGuarded : Setting → Views → World → Type 0
WritesWereGuarded setting views w =
    (k : ℕ) (call : Call) (from to : BrickId) (request : Request) (version : Stamp) (group : Group)
    → slice_get w.packets k ≡ Some (record { from = from; to = to; message = Message.Request call request }) → stamp_stored request ≡ Some version
    → group_in setting.layout views call.group.0 (view_of version) ≡ Some group
    → (sending : Sending setting w k) × IsGuarded sending.moment call.group.0 call.stripe.0 group version
    × HasNotEnded sending.moment (sending.moment.numbers from.0 call.boot call.seq)

-- each refusal was true of the member that told it when it was sent
abbrev pub RefusalsWereTrue : Setting → World → Type 0
RefusalsWereTrue setting w =
    (k : ℕ) (packet : Packet) → slice_get w.packets k ≡ Some packet
    → (sending : Sending setting w k) × RefusalIsTrue sending.moment packet.from packet.message

-- every abort shows its evidence: that of the operation whose marks have its number
abbrev pub AbortsShow : World → Type 0
AbortsShow w =
    (k p n : ℕ) (cause : Cause) → slice_get w.marks k ≡ Some (End p n (Aborted cause))
    → (a : ℕ) × (o : Operation) × (w.operations a ≡ Some o) × (o.mark ≡ n) × Evidence w a o cause

-- a member says that its store is full only with as many live records as a brick may keep
abbrev pub FullIsFull : Setting → World → Type 0
FullIsFull setting w =
    (call : Call) (from to : BrickId) (live : ℕ) → WasSent w (record { from = from; to = to; message = Message.Reply call (Reply.Full live) })
    → live ≡ setting.layout.records

-- A write of a block that reads its base back finds it: once a quorum of replies counts in that phase, at least m of them tell blocks of the base. So
-- it never waits for more.
abbrev pub BasesAreFound : Setting → World → Type 0
BasesAreFound setting w =
    (i k seat : ℕ) (c : Coordinator) (base : Stamp) (from : BrickId) (reply : Reply) → (w.nodes i).calls k ≡ Some c → c.phase ≡ Bases base
    → WasSent w (record { from = from; to = record { 0 = i }; message = Message.Reply c.call reply })
    → counts_at setting.layout.block c from.0 c.call reply ≡ Some seat
    → quorum_of c.group ≤ length (with_reply c seat from reply).counted
    → (is_some (greatest_refuser (with_reply c seat from reply).counted) ≡ false) → (is_some (lowest_full (with_reply c seat from reply).counted) ≡ false)
    → (is_some (lowest_mover (with_reply c seat from reply).counted) ≡ false)
    → c.group.m ≤ length (pieces_at base (with_reply c seat from reply).counted)

-- An operation that looks back finds a version: once a quorum of replies of the members of the view before counts, of which none tells that its member has
-- dropped what it kept, one of them tells a version. So it never waits for more.
abbrev pub OldVersionsAreFound : Setting → World → Type 0
OldVersionsAreFound setting w =
    (i k seat : ℕ) (c : Coordinator) (bound : Option Stamp) (from : BrickId) (reply : Reply) → (w.nodes i).calls k ≡ Some c → c.phase ≡ LooksBack bound
    → WasSent w (record { from = from; to = record { 0 = i }; message = Message.Reply c.call reply })
    → counts_at setting.layout.block c from.0 c.call reply ≡ Some seat
    → quorum_of (asked_group c) ≤ length (with_reply c seat from reply).counted
    → (is_some (lowest_dropper (with_reply c seat from reply).counted) ≡ false)
    → is_some (greatest_found (with_reply c seat from reply).counted) ≡ true

-- The laws of a world, for an assignment of members to views.
pub record Laws (setting : Setting) (views : Views) (w : World) : Type 0 where
  pub one_content : OneContent setting views w
  pub first_is_zero : FirstIsZero setting w
  pub contents_are_made : ContentsAreMade setting w
  pub guarded : WritesAreGuarded setting views w
  pub guarded_when_sent : WritesWereGuarded setting views w
  pub stored : StoredIsHeld w
  pub collects : CollectsStand setting views w
  pub drops : DropsOnlyOlder setting views w
  pub replaced : DroppedAreReplaced setting views w
  pub synced : SyncedStand setting views w
  pub bases : BasesAreNewest setting views w
  pub bases_found : BasesAreFound setting w
  pub old_found : OldVersionsAreFound setting w
  pub neighbours : (number stripe : ℕ) → NeighboursFollow w number stripe
  pub lowest : (number stripe : ℕ) → LowestFollows w number stripe
  pub real_time : (number stripe : ℕ) → FollowsRealTime w number stripe
  pub counted : CountedWereSent w
  pub aborts : AbortsShow w
  pub stopped : SyncsShow w
  pub scrubbed : ScrubsShow setting views w
  pub own_marks : OwnMarks w
  pub refusals : RefusalsWereTrue setting w
  pub full : FullIsFull setting w
  pub well_formed : IsWellFormed w.marks
  pub without_gaps : AreWithoutGaps w.marks
  pub words : WordsFit setting.layout w.marks
  pub stripe_well_formed : (number stripe : ℕ) → IsWellFormed (stripe_marks number stripe w.marks)
  pub strict : (number stripe : ℕ) (group : Group) → group_of setting.layout number ≡ Some group
      → IsStrict group.m setting.layout.block (stripe_marks number stripe w.marks) (happenings_of w number stripe)

-- A version of the stripe is lost: a quorum of the group's members takes nothing below a stamp that is above it, and fewer than m of these have
-- held it.
pub record IsLost (w : World) (number stripe : ℕ) (group : Group) (version : Stamp) : Type 0 where
  pub seats : ℕ → Bool
  pub stamp : Stamp
  pub quorum : AtQuorum group seats
  pub passed : (seat : ℕ) → seats seat ≡ true → stamp_below (top_in w number stripe (brick_at group seat)) stamp ≡ false
  pub above : stamp_below version stamp ≡ true
  pub few : count (length group.members) (λ seat. seats seat && w.held (brick_at group seat) number stripe version) < group.m

-- Whatever happens after a version was lost to its view's members, no quorum of them will ever have held it: for every assignment of members to
-- views that the whole run follows.
abbrev pub NeverSurfaces : Type 0
NeverSurfaces =
    (setting : Setting) (views : Views) (events more : List Event) (number stripe : ℕ) (group : Group) (version : Stamp) → IsSound setting
    → RunFollows setting views (events ++ more) → group_in setting.layout views number (view_of version) ≡ Some group
    → (let w = run setting events (first_world setting.layout) in
    IsLost w number stripe group version → IsHeldByQuorum (run setting more w) number stripe group version → ⊥)

-- the laws hold in every world that a run reaches, for every layout within the limits, every code that gives back what it encodes, and every
-- assignment of members to views that the run follows
abbrev pub EveryRunKeepsTheLaws : Type 0
EveryRunKeepsTheLaws =
    (setting : Setting) (views : Views) (events : List Event) → IsSound setting → RunFollows setting views events
    → Laws setting views (run setting events (first_world setting.layout))

-- What an event leaves of a world: the stamp below which a brick takes nothing for a stripe is no lower, no version was added below that, and no order
-- stamp has an earlier time.
pub record NothingFalls (old new : World) : Type 0 where
  pub tops : NeverFalls old new
  pub adds : AddsNothingBelow old new
  pub orders : OrdersRise old new

-- no event of any run lowers any of these, whatever the layout and the code are
abbrev pub NoEventLowers : Type 0
NoEventLowers =
    (setting : Setting) (events : List Event) (event : Event)
    → (let w = run setting events (first_world setting.layout) in NothingFalls w (happens setting w event))
