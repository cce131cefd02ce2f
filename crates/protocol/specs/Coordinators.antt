-- What a coordinator does with the replies to a phase (Frølund 2004, write-stripe, read-stripe and recover).
use Rattle.std.specs.Prelude.{ℕ, ◌+◌, ◌-◌, ◌^◌, ◌≤◌, Bool, true, false, not, nat_eq, nat_lt, ◌&&◌, ◌||◌, if◌then◌else◌, List, [], ◌∷◌, ◌++◌, length, Option, Some, None, is_some, filter}
use Rattle.std.specs.Option.{option_map}
use Rattle.fab_base.specs.declared.identities.BrickId.{BrickId}
use Rattle.fab_base.specs.declared.identities.ViewNo.{ViewNo}
use Rattle.fab_base.specs.declared.stamps.Stamp.{Stamp}
use Rattle.fab_base.specs.declared.asks.Ask.{Ask}
use Rattle.fab_base.specs.declared.asks.Op.{Op}
use Rattle.fab_base.specs.declared.asks.Op.TheVariants.{ReadBlock, WriteBlock, ReadStripe, WriteStripe}
use Rattle.fab_base.specs.declared.answers.Answer.{Answer}
use Rattle.fab_base.specs.declared.answers.Answer.TheVariants.{Data, Done, Aborted}
use Rattle.fab_base.specs.declared.answers.Cause.TheVariants as Cause
use Rattle.fab_base.specs.Stamps.{stamp_below, stamp_same}
use Rattle.messages.specs.declared.calls.Call.{Call}
use Rattle.messages.specs.declared.requests.Look.TheVariants.{Below, At}
use Rattle.messages.specs.declared.requests.Version.{Version}
use Rattle.messages.specs.declared.requests.Want.TheVariants.{Seat, All}
use Rattle.messages.specs.declared.requests.Request.{Request}
use Rattle.messages.specs.declared.requests.Request.TheVariants.{Read, Order, OrderRead, Write, Modify, OldRead}
use Rattle.messages.specs.declared.replies.Reply.{Reply}
use Rattle.messages.specs.declared.replies.Reply.TheVariants.{Found, Ordered, OrderedRead, Stored, Behind, Later, Full, Moved, Old, Retired}
pub use Rattle.protocol.specs.declared.phases.Phase.{Phase}
pub use Rattle.protocol.specs.declared.phases.Phase.TheVariants.{Looks, LooksAt, Orders, OrdersAt, Recovers, Descends, LooksBack, Modifies, Bases, Stores}
pub use Rattle.protocol.specs.declared.phases.Counted.{Counted}
pub use Rattle.protocol.specs.declared.phases.Refuser.{Refuser}
pub use Rattle.protocol.specs.declared.phases.FullMember.{FullMember}
pub use Rattle.protocol.specs.declared.phases.Mover.{Mover}
pub use Rattle.protocol.specs.declared.phases.Dropper.{Dropper}
use Rattle.fab_base.specs.Layouts.{Group, seat_in}
use Rattle.quorum.specs.Quorums.{quorum_of}
use Rattle.reg_model.specs.Registers.{read_of, after_op}
use Rattle.protocol.specs.Settings.{Code, Piece}
use Rattle.protocol.specs.Views.{floor_of, kept_by}
use Rattle.protocol.specs.Replicas.{is_changed}

-- An open operation at its coordinator: the group, with the members of the operation's view; the members of the view before that; the members of its own view
-- that alone count, of a scrub; what is asked; its stamp; how many rounds of ordering it has begun; the version that it makes its own on, once it found one; the content that it stores, once it knows that, or what its data
-- block changes by, while it modifies; the call of its present phase; and the replies that count in it.
pub record Coordinator : Type 0 where
  pub group : Group
  pub prior : List BrickId
  pub only : Option (List BrickId)
  pub ask : Ask
  pub stamp : Stamp
  pub round : ℕ
  pub base : Option Stamp
  pub content : List ℕ
  pub call : Call
  pub phase : Phase
  pub counted : List Counted

-- a phase looks back: it asks the members of the view before the operation's, and each other phase asks those of the operation's own
abbrev pub looks_back : Phase → Bool
looks_back (LooksBack bound) = true
looks_back phase = false

-- the view whose members a phase of an operation of this stamp asks
abbrev pub asked_view : Stamp → Phase → ViewNo
asked_view t phase = if looks_back phase then record { 0 = t.view.0 - 1 } else t.view

-- the group as the members keep it that the present phase asks
abbrev pub asked_group : Coordinator → Group
asked_group c = if looks_back c.phase then kept_by c.prior c.group else c.group

-- a phase that each member is to answer whom a scrub brings to one version: it finds what they keep, has them promise, or has them store
abbrev pub asks_each : Phase → Bool
asks_each Looks = true
asks_each Recovers = true
asks_each Stores = true
asks_each phase = false

-- how many replies decide a phase that asks this group: a quorum of those who are asked; or all of the members that alone count, where it is for each of them
abbrev pub needed_of : Group → Phase → Option (List BrickId) → ℕ
needed_of group phase None = quorum_of group
needed_of group phase (Some only) = if asks_each phase then length only else quorum_of group

-- how many replies decide the present phase
abbrev pub needed : Coordinator → ℕ
needed c = needed_of (asked_group c) c.phase c.only

-- where some members of a group alone count, they are at least a quorum of it
abbrev pub AreEnough : Group → Option (List BrickId) → Type 0
AreEnough group None = Unit {0}
AreEnough group (Some only) = quorum_of group ≤ length only

-- a member's reply may count in a phase: where some alone count, it is one of them, or the phase looks back
abbrev pub may_count_in : Phase → Option (List BrickId) → ℕ → Bool
may_count_in phase None brick = true
may_count_in phase (Some only) brick = looks_back phase || is_some (seat_in only brick)

-- a member's reply may count in the present phase
abbrev pub may_count : Coordinator → ℕ → Bool
may_count c brick = may_count_in c.phase c.only brick

-- the seat of a brick whose reply may count: it is one of those who are asked
abbrev pub counting_seat : Coordinator → ℕ → Option ℕ
counting_seat c brick = if may_count c brick then seat_in (asked_group c).members brick else None

-- the stamp below which a phase that looks back finds versions: its bound, or the first stamp of the operation's view, which all of the view before are below
abbrev pub old_bound : Stamp → Option Stamp → Stamp
old_bound t None = floor_of t.view.0
old_bound t (Some bound) = bound

-- two calls are the same, phase and all
unfoldable pub call_same : Call → Call → Bool
call_same a b =
    nat_eq a.boot b.boot && (nat_eq a.seq b.seq && (nat_eq a.phase b.phase
    && (nat_eq a.group.0 b.group.0 && (nat_eq a.view.0 b.view.0 && nat_eq a.stripe.0 b.stripe.0))))

-- a version that was found has the length of a block, and is below the phase's bound
abbrev pub may_be_found : ℕ → Stamp → Option Version → Bool
may_be_found block bound None = true
may_be_found block bound (Some version) = nat_eq (length version.block) block && stamp_below version.stamp bound

-- a version that was found has the length of a block, and is the phase's base
abbrev pub may_be_base : ℕ → Stamp → Option Version → Bool
may_be_base block base None = true
may_be_base block base (Some version) = nat_eq (length version.block) block && stamp_same version.stamp base

-- how many bytes a seat tells of a version, where those of data block j are wanted alone
abbrev pub told_length : ℕ → ℕ → ℕ → ℕ
told_length block j seat = if nat_eq j seat then block else 0

-- A seat's reply of this kind answers the request of a phase of an operation of this stamp.
abbrev pub answers_phase : ℕ → Stamp → ℕ → Phase → Reply → Bool
answers_phase block t seat Looks (Found order None) = true
answers_phase block t seat Looks (Found order (Some version)) = nat_eq (length version.block) block
answers_phase block t seat (LooksAt j) (Found order None) = true
answers_phase block t seat (LooksAt j) (Found order (Some version)) = nat_eq (length version.block) (told_length block j seat)
answers_phase block t seat Orders Ordered = true
answers_phase block t seat Orders (Later x) = true
answers_phase block t seat Orders (Full live) = true
answers_phase block t seat (OrdersAt j) (OrderedRead found) = may_be_found (told_length block j seat) t found
answers_phase block t seat (OrdersAt j) (Later x) = true
answers_phase block t seat (OrdersAt j) (Full live) = true
answers_phase block t seat Recovers (OrderedRead found) = may_be_found block t found
answers_phase block t seat Recovers (Later x) = true
answers_phase block t seat Recovers (Full live) = true
answers_phase block t seat (Descends bound) (OrderedRead found) = may_be_found block bound found
answers_phase block t seat (Descends bound) (Later x) = true
answers_phase block t seat (Descends bound) (Full live) = true
answers_phase block t seat (Modifies base j) Stored = true
answers_phase block t seat (Modifies base j) (Behind newest) = true
answers_phase block t seat (Modifies base j) (Later x) = true
answers_phase block t seat (Modifies base j) (Full live) = true
answers_phase block t seat (Bases base) (OrderedRead found) = may_be_base block base found
answers_phase block t seat (Bases base) (Later x) = true
answers_phase block t seat (Bases base) (Full live) = true
answers_phase block t seat Stores Stored = true
answers_phase block t seat Stores (Later x) = true
answers_phase block t seat Stores (Full live) = true
answers_phase block t seat (LooksBack bound) (Old found) = may_be_found block (old_bound t bound) found
answers_phase block t seat (LooksBack bound) Retired = true
answers_phase block t seat (LooksBack bound) reply = false
answers_phase block t seat phase (Moved view lineage) = true
answers_phase block t seat phase reply = false

-- a seat has a reply that counts
abbrev pub has_seat : ℕ → List Counted → Bool
has_seat seat [] = false
has_seat seat (c ∷ counted) = nat_eq c.seat seat || has_seat seat counted

-- the seat, where it has no reply that counts yet
abbrev pub new_seat : List Counted → Option ℕ → Option ℕ
new_seat counted None = None
new_seat counted (Some seat) = if has_seat seat counted then None else Some seat

-- the seat, where this reply of it answers the coordinator's phase
abbrev pub answering_seat : ℕ → Coordinator → Reply → Option ℕ → Option ℕ
answering_seat block c reply None = None
answering_seat block c reply (Some seat) = if answers_phase block c.stamp seat c.phase reply then Some seat else None

-- The seat at which a brick's reply counts: it may count, is to this very phase, answers it, and is its seat's first.
-- In the last phase that a call can number nothing counts.
unfoldable pub counts_at : ℕ → Coordinator → ℕ → Call → Reply → Option ℕ
counts_at block c from call reply =
    if call_same call c.call && nat_lt c.call.phase (2 ^ 32 - 1)
    then new_seat c.counted (answering_seat block c reply (counting_seat c from))
    else None

-- the version that a reply tells
abbrev pub told_in : Reply → Option Version
told_in (Found order version) = version
told_in (OrderedRead version) = version
told_in (Old version) = version
told_in reply = None

-- the stamp of the version that a reply tells
abbrev pub told_stamp : Reply → Option Stamp
told_stamp reply = option_map (λ version. version.stamp) (told_in reply)

-- a reply tells version v as its member's newest, and no order above it
abbrev pub tells : Stamp → Reply → Bool
tells v (Found order (Some version)) = stamp_same version.stamp v && not (stamp_below v order)
tells v reply = false

abbrev pub all_tell : Stamp → List Counted → Bool
all_tell v [] = true
all_tell v (c ∷ counted) = tells v c.reply && all_tell v counted

-- the stamp, where all replies tell it
abbrev pub told_by_all : Option Stamp → List Counted → Option Stamp
told_by_all None counted = None
told_by_all (Some v) counted = if all_tell v counted then Some v else None

-- the version that a read may answer at once: the one that all replies tell
unfoldable pub fast_version : List Counted → Option Stamp
fast_version [] = None
fast_version (c ∷ counted) = told_by_all (told_stamp c.reply) (c ∷ counted)

-- the same, for a read of data block j: its seat has replied
unfoldable pub fast_version_at : ℕ → List Counted → Option Stamp
fast_version_at j counted = if has_seat j counted then fast_version counted else None

-- the bytes of the version that a reply tells
abbrev pub bytes_of : Option Version → List ℕ
bytes_of None = []
bytes_of (Some version) = version.block

abbrev pub found_bytes : Reply → List ℕ
found_bytes reply = bytes_of (told_in reply)

-- the bytes that the reply of a seat tells
abbrev pub bytes_at : ℕ → List Counted → List ℕ
bytes_at seat [] = []
bytes_at seat (c ∷ counted) = if nat_eq c.seat seat then found_bytes c.reply else bytes_at seat counted

-- the blocks that the replies tell, by seat
abbrev pub pieces_of : List Counted → List Piece
pieces_of [] = []
pieces_of (c ∷ counted) = record { seat = c.seat; bytes = found_bytes c.reply } ∷ pieces_of counted

-- the greater of two stamps, where there are some
abbrev pub greater_stamp : Option Stamp → Option Stamp → Option Stamp
greater_stamp None b = b
greater_stamp (Some a) None = Some a
greater_stamp (Some a) (Some b) = if stamp_below a b then Some b else Some a

-- the greatest version that the replies tell, if they tell one
abbrev pub greatest_found : List Counted → Option Stamp
greatest_found [] = None
greatest_found (c ∷ counted) = greater_stamp (told_stamp c.reply) (greatest_found counted)

-- the reply tells this version
abbrev pub finds : Stamp → Counted → Bool
finds v c = is_stamp (told_stamp c.reply)
  where
    is_stamp : Option Stamp → Bool
    is_stamp None = false
    is_stamp (Some u) = stamp_same u v

-- the blocks of a version that the replies tell, by seat
abbrev pub pieces_at : Stamp → List Counted → List Piece
pieces_at v counted = pieces_of (filter (finds v) counted)

abbrev pub all_find : Stamp → List Counted → Bool
all_find v [] = true
all_find v (c ∷ counted) = finds v c && all_find v counted

-- the stamp, where all replies find it
abbrev pub found_by_all : Option Stamp → List Counted → Option Stamp
found_by_all None counted = None
found_by_all (Some v) counted = if all_find v counted then Some v else None

-- the version that all replies find
unfoldable pub common_version : List Counted → Option Stamp
common_version [] = None
common_version (c ∷ counted) = found_by_all (told_stamp c.reply) (c ∷ counted)

-- the same, for a write of data block j: its seat has replied
unfoldable pub common_version_at : ℕ → List Counted → Option Stamp
common_version_at j counted = if has_seat j counted then common_version counted else None

-- a member's newest version is another than the one that was to be modified
abbrev pub is_behind : Reply → Bool
is_behind (Behind newest) = true
is_behind reply = false

abbrev pub some_behind : List Counted → Bool
some_behind [] = false
some_behind (c ∷ counted) = is_behind c.reply || some_behind counted

-- the member that told a later stamp, if this one did
abbrev pub refuser_of : Counted → Option Refuser
refuser_of c = refuser_with c.reply
  where
    refuser_with : Reply → Option Refuser
    refuser_with (Later t) = Some (record { seat = c.seat; brick = c.brick; stamp = t })
    refuser_with reply = None

-- the refuser of the greater stamp; of equals, the one of the lower seat
abbrev pub greater_refuser : Option Refuser → Option Refuser → Option Refuser
greater_refuser None b = b
greater_refuser (Some a) None = Some a
greater_refuser (Some a) (Some b) =
    if stamp_below a.stamp b.stamp then Some b
    else if stamp_below b.stamp a.stamp then Some a
    else if nat_lt b.seat a.seat then Some b
    else Some a

-- the member that told the greatest later stamp, if one did; of equals, the one of the lowest seat
abbrev pub greatest_refuser : List Counted → Option Refuser
greatest_refuser [] = None
greatest_refuser (c ∷ counted) = greater_refuser (refuser_of c) (greatest_refuser counted)

-- the member that told that its store is full, if this one did
abbrev pub full_member_of : Counted → Option FullMember
full_member_of c = full_member_with c.reply
  where
    full_member_with : Reply → Option FullMember
    full_member_with (Full live) = Some (record { seat = c.seat; brick = c.brick; live = live })
    full_member_with reply = None

-- of two such members the one of the lower seat
abbrev pub lower_full : Option FullMember → Option FullMember → Option FullMember
lower_full None b = b
lower_full (Some a) None = Some a
lower_full (Some a) (Some b) = if nat_lt b.seat a.seat then Some b else Some a

-- the member of the lowest seat that told that its store is full, if one did
abbrev pub lowest_full : List Counted → Option FullMember
lowest_full [] = None
lowest_full (c ∷ counted) = lower_full (full_member_of c) (lowest_full counted)

-- the member that told a later view, if this one did
abbrev pub mover_of : Counted → Option Mover
mover_of c = mover_with c.reply
  where
    mover_with : Reply → Option Mover
    mover_with (Moved view lineage) = Some (record { seat = c.seat; brick = c.brick; view = view })
    mover_with reply = None

-- of two such members the one of the lower seat
abbrev pub lower_mover : Option Mover → Option Mover → Option Mover
lower_mover None b = b
lower_mover (Some a) None = Some a
lower_mover (Some a) (Some b) = if nat_lt b.seat a.seat then Some b else Some a

-- the member of the lowest seat that told a later view, if one did
abbrev pub lowest_mover : List Counted → Option Mover
lowest_mover [] = None
lowest_mover (c ∷ counted) = lower_mover (mover_of c) (lowest_mover counted)

-- the member that told that it has dropped the versions of the view before, if this one did
abbrev pub dropper_of : Counted → Option Dropper
dropper_of c = dropper_with c.reply
  where
    dropper_with : Reply → Option Dropper
    dropper_with Retired = Some (record { seat = c.seat; brick = c.brick })
    dropper_with reply = None

-- of two such members the one of the lower seat
abbrev pub lower_dropper : Option Dropper → Option Dropper → Option Dropper
lower_dropper None b = b
lower_dropper (Some a) None = Some a
lower_dropper (Some a) (Some b) = if nat_lt b.seat a.seat then Some b else Some a

-- the member of the lowest seat that told that it has dropped the versions of the view before, if one did
abbrev pub lowest_dropper : List Counted → Option Dropper
lowest_dropper [] = None
lowest_dropper (c ∷ counted) = lower_dropper (dropper_of c) (lowest_dropper counted)

-- what a seat is told that data block j changed by: nothing, where its block stays as it is
abbrev pub delta_at : ℕ → ℕ → ℕ → List ℕ → List ℕ
delta_at m j seat delta = if is_changed m j seat then delta else []

-- what the phase asks of the member at a seat
unfoldable pub request_of : Code → Coordinator → ℕ → Request
request_of code c seat = request_in c.phase
  where
    request_in : Phase → Request
    request_in Looks = Read All
    request_in (LooksAt j) = Read (Seat j)
    request_in Orders = Order c.stamp
    request_in (OrdersAt j) = OrderRead c.stamp (Below c.stamp) (Seat j)
    request_in Recovers = OrderRead c.stamp (Below c.stamp) All
    request_in (Descends bound) = OrderRead c.stamp (Below bound) All
    request_in (LooksBack bound) = OldRead bound
    request_in (Modifies base j) = Modify c.stamp base j (delta_at c.group.m j seat c.content)
    request_in (Bases base) = OrderRead c.stamp (At base) All
    request_in Stores = Write c.stamp (code.encode c.group.m c.content seat)

-- What a coordinator does with a reply: it leaves it out, waits for more, begins its next phase, makes its
-- version by beginning to store or to modify, or ends. An end tells the version that a fast read saw, and the one that
-- was stored, which may now be collected.
pub data Next : Type 0 where
  Ignores : Next
  Waits : (c : Coordinator) → Next
  Sends : (c : Coordinator) → Next
  Makes : (c : Coordinator) → Next
  Ends : (answer : Answer) → (seen : Option Stamp) → (stored : Option Stamp) → Next

-- the next phase of a call
abbrev pub next_phase : Call → Call
next_phase call = record call { phase = call.phase + 1 }

-- the coordinator in its next phase, whose call is of the view whose members that asks
abbrev pub in_phase : Coordinator → Phase → Coordinator
in_phase c phase = record c { call = record (next_phase c.call) { view = asked_view c.stamp phase }; phase = phase; counted = [] }

-- the coordinator in its store phase, where it read this version back: what it stores is what the operation makes of that content
abbrev pub restoring : ℕ → Coordinator → Stamp → List ℕ → Coordinator
restoring block c v content = record (in_phase c Stores) { base = Some v; content = after_op block c.ask.op content }

-- the bytes that a write of a data block writes
abbrev pub block_written : Op → List ℕ
block_written (ReadBlock j) = []
block_written (WriteBlock j bytes) = bytes
block_written ReadStripe = []
block_written (WriteStripe bytes) = []

-- the coordinator as it begins to modify this version in data block j, by what the block that was found there changes by
abbrev pub modifying : Code → Coordinator → Stamp → ℕ → Coordinator
modifying code c v j =
    record (in_phase c (Modifies v j)) { base = Some v; content = code.delta (bytes_at j c.counted) (block_written c.ask.op) }

-- the coordinator in its next round of ordering, with a new stamp
abbrev pub reordering : Coordinator → Stamp → Coordinator
reordering c t = record (in_phase c c.phase) { stamp = t; round = c.round + 1 }

-- the coordinator, once it forgot the replies that counted
abbrev pub forgetting : Coordinator → Coordinator
forgetting c = record c { counted = [] }

-- how many rounds of ordering an operation may begin
abbrev pub most_rounds : ℕ
most_rounds = 4

-- the operation is aborted, since this member told a later stamp
abbrev pub aborted_by : Refuser → Next
aborted_by r = Ends (Aborted (Cause.Later r.brick r.stamp)) None None

-- the operation is aborted, since this member's store is full
abbrev pub aborted_full : FullMember → Next
aborted_full f = Ends (Aborted (Cause.Full f.brick f.live)) None None

-- the operation is aborted, since this member serves its view no more
abbrev pub aborted_moved : Mover → Next
aborted_moved m = Ends (Aborted (Cause.Moved m.brick m.view)) None None

-- the operation is aborted, since this member has dropped the versions of the view before
abbrev pub aborted_gone : Dropper → Next
aborted_gone d = Ends (Aborted (Cause.Gone d.brick)) None None

-- a member that serves the view no more aborts the operation; else it goes on so
abbrev pub unless_told_moved : Option Mover → Next → Next
unless_told_moved None next = next
unless_told_moved (Some m) next = aborted_moved m

-- a member that has dropped the versions of the view before aborts the operation; else it goes on so
abbrev pub unless_told_gone : Option Dropper → Next → Next
unless_told_gone None next = next
unless_told_gone (Some d) next = aborted_gone d

-- a member whose store is full aborts the operation; else it goes on so
abbrev pub unless_told_full : Option FullMember → Next → Next
unless_told_full None next = next
unless_told_full (Some f) next = aborted_full f

-- a member that told a later stamp aborts the operation; else it goes on so
abbrev pub unless_refused : Option Refuser → Next → Next
unless_refused None next = next
unless_refused (Some r) next = aborted_by r

-- an order that was refused is tried again with a new stamp, while there is one, and a round is left
abbrev pub ordered_again : Option Stamp → Coordinator → Refuser → Next
ordered_again None c r = aborted_by r
ordered_again (Some t) c r = if nat_lt c.round most_rounds then Sends (reordering c t) else aborted_by r

-- an order that no counted reply refuses goes on so
abbrev pub once_ordered : Option Stamp → Coordinator → Option Refuser → Next → Next
once_ordered fresh c None next = next
once_ordered fresh c (Some r) next = ordered_again fresh c r

-- a read is answered where its version is told by all, and else recovers
abbrev pub answered_fast : Code → Coordinator → Option Stamp → Next
answered_fast code c None = Sends (in_phase c Recovers)
answered_fast code c (Some v) = Ends (Data (code.decode c.group.m (pieces_of c.counted))) (Some v) None

-- a read of data block j is answered where its version is told by all, and the block's seat replied, and else recovers
abbrev pub answered_fast_at : Coordinator → ℕ → Option Stamp → Next
answered_fast_at c j None = Sends (in_phase c Recovers)
answered_fast_at c j (Some v) = Ends (Data (bytes_at j c.counted)) (Some v) None

-- the phase in which a recovery looks below a version: in the view before, once it looks back
abbrev pub lower_phase : Phase → Stamp → Phase
lower_phase (LooksBack bound) v = LooksBack (Some v)
lower_phase phase v = Descends v

-- an operation has a view before its own, and has not looked back yet
abbrev pub may_look_back : Coordinator → Bool
may_look_back c = nat_lt 1 c.stamp.view.0 && not (looks_back c.phase)

-- A recovery reads back the greatest version found, where there are enough blocks of it, and else looks below
-- it. Where nothing was found, it looks back; where there is no view before its own, or it looked back already, it forgets the replies, and waits for more.
abbrev pub read_back : ℕ → Code → Coordinator → Option Stamp → Next
read_back block code c None = if may_look_back c then Sends (in_phase c (LooksBack None)) else Waits (forgetting c)
read_back block code c (Some v) =
    if nat_lt (length (pieces_at v c.counted)) c.group.m then Sends (in_phase c (lower_phase c.phase v))
    else Makes (restoring block c v (code.decode c.group.m (pieces_at v c.counted)))

-- a write of data block j modifies the version that all found, where the block's seat replied, and else looks for the greatest below its own stamp
abbrev pub modified_if : Code → Coordinator → ℕ → Option Stamp → Next
modified_if code c j None = Sends (in_phase c (Descends c.stamp))
modified_if code c j (Some v) = Makes (modifying code c v j)

-- a write is done once a quorum has modified its version; where a member was behind, its base is read back
abbrev pub once_modified : Coordinator → Stamp → Next
once_modified c base = if some_behind c.counted then Sends (in_phase c (Bases base)) else Ends Done None (Some c.stamp)

-- A write reads its base back, where there are enough blocks of it, and stores what it makes of that. Where there are too few, it forgets the
-- replies, and waits for more.
abbrev pub rebuilt : ℕ → Code → Coordinator → Stamp → Next
rebuilt block code c base =
    if nat_lt (length (pieces_at base c.counted)) c.group.m then Waits (forgetting c)
    else Sends (restoring block c base (code.decode c.group.m (pieces_at base c.counted)))

-- what an operation is answered where a read of it gives these bytes, if it reads
abbrev pub answer_with : Option (List ℕ) → Answer
answer_with None = Done
answer_with (Some bytes) = Data bytes

-- what as many replies decide as are needed, where a new round would have this fresh stamp
unfoldable pub decided : ℕ → Code → Option Stamp → Coordinator → Next
decided block code fresh c =
    unless_told_moved (lowest_mover c.counted)
    (unless_told_gone (lowest_dropper c.counted) (unless_told_full (lowest_full c.counted) (decided_in c.phase)))
  where
    decided_in : Phase → Next
    decided_in Looks = answered_fast code c (fast_version c.counted)
    decided_in (LooksAt j) = answered_fast_at c j (fast_version_at j c.counted)
    decided_in Orders = once_ordered fresh c (greatest_refuser c.counted) (Makes (in_phase c Stores))
    decided_in (OrdersAt j) = once_ordered fresh c (greatest_refuser c.counted) (modified_if code c j (common_version_at j c.counted))
    decided_in Recovers = once_ordered fresh c (greatest_refuser c.counted) (read_back block code c (greatest_found c.counted))
    decided_in (Descends bound) = unless_refused (greatest_refuser c.counted) (read_back block code c (greatest_found c.counted))
    decided_in (LooksBack bound) = read_back block code c (greatest_found c.counted)
    decided_in (Modifies base j) = unless_refused (greatest_refuser c.counted) (once_modified c base)
    decided_in (Bases base) = unless_refused (greatest_refuser c.counted) (rebuilt block code c base)
    decided_in Stores = unless_refused (greatest_refuser c.counted) (Ends (answer_with (read_of block c.ask.op c.content)) None (Some c.stamp))

-- the coordinator with one more reply
abbrev pub with_reply : Coordinator → ℕ → BrickId → Reply → Coordinator
with_reply c seat brick reply = record c { counted = c.counted ++ (record { seat = seat; brick = brick; reply = reply } ∷ []) }

-- with as many replies as are needed the phase is decided
abbrev pub once_full : ℕ → Code → Option Stamp → Coordinator → Next
once_full block code fresh c = if nat_lt (length c.counted) (needed c) then Waits c else decided block code fresh c

-- the coordinator once it heard a reply, which counts at this seat, if it does
abbrev pub hearing : Coordinator → BrickId → Reply → Option ℕ → Coordinator
hearing c from reply None = c
hearing c from reply (Some seat) = with_reply c seat from reply

abbrev pub counted_at : ℕ → Code → Option Stamp → Coordinator → BrickId → Reply → Option ℕ → Next
counted_at block code fresh c from reply None = Ignores
counted_at block code fresh c from reply (Some seat) = once_full block code fresh (with_reply c seat from reply)

-- what a coordinator does with a reply, where a new round would have this fresh stamp
unfoldable pub on_reply : ℕ → Code → Option Stamp → Coordinator → BrickId → Call → Reply → Next
on_reply block code fresh c from call reply = counted_at block code fresh c from reply (counts_at block c from.0 call reply)
