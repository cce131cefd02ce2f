-- An operation that runs alone: its messages among some bricks are delivered, one after another, until it has ended. Nothing else happens meanwhile.
use Rattle.std.specs.Prelude.{◌≡◌, ℕ, zero, suc, ◌+◌, ◌^◌, ◌<◌, ◌≤◌, Bool, true, false, not, nat_eq, nat_lt, ◌&&◌, if◌then◌else◌, List, [], ◌∷◌, length, map, Option, Some, None, is_some, slice_get, filter}
use Rattle.std.specs.List.{IsDistinct, list_any}
use Rattle.fab_base.specs.declared.identities.BrickId.{BrickId}
use Rattle.messages.specs.declared.packets.Message.{Message}
use Rattle.messages.specs.declared.packets.Packet.{Packet}
use Rattle.messages.specs.declared.requests.Request.{Request}
use Rattle.messages.specs.declared.requests.Version.{Version}
use Rattle.quorum.specs.Quorums.{quorum_of}
use Rattle.fab_base.specs.Layouts.{seat_in}
use Rattle.protocol.specs.Settings.{Setting}
use Rattle.protocol.specs.Views.{kept_by}
use Rattle.protocol.specs.Coordinators.{Coordinator}
use Rattle.protocol.specs.Nodes.{Node, view_at, has_accepted}
use Rattle.protocol.specs.Worlds.{World, Operation, Event, Delivers, is_up, packet_of, happens}
use Rattle.protocol.specs.Happenings.{is_marked}

-- the number of the operation that a packet is a message of, 0 where it is none's
abbrev pub operation_of : World → Packet → ℕ
operation_of w packet = belongs packet.message
  where
    belongs : Message → ℕ
    belongs (Message.Request call request) = w.numbers packet.from.0 call.boot call.seq
    belongs (Message.Reply call reply) = w.numbers packet.to.0 call.boot call.seq
    belongs message = 0

-- the operation has marks of this number
abbrev pub has_mark : ℕ → Option Operation → Bool
has_mark mark None = false
has_mark mark (Some o) = is_marked o && nat_eq o.mark mark

-- of the operations 1 to n the number of the one whose marks have this number, 0 if there is none
abbrev pub number_marked : (ℕ → Option Operation) → ℕ → ℕ → ℕ
number_marked operations mark zero = 0
number_marked operations mark (suc n) = if has_mark mark (operations (suc n)) then suc n else number_marked operations mark n

-- the number of the operation whose marks have this number
abbrev pub operation_marked : World → ℕ → ℕ
operation_marked w mark = number_marked w.operations mark w.begun

-- the coordinator of an operation, where that is open: its brick is up, and was not started since
abbrev pub open_at : World → Option Operation → Option Coordinator
open_at w None = None
open_at w (Some o) = if w.up o.brick.0 && nat_eq (w.nodes o.brick.0).boot o.boot then (w.nodes o.brick.0).calls o.seq else None

abbrev pub open_call : World → ℕ → Option Coordinator
open_call w n = open_at w (w.operations n)

-- one of these bricks
abbrev pub is_one_of : List BrickId → BrickId → Bool
is_one_of bricks brick = list_any (λ one. nat_eq one.0 brick.0) bricks

-- a packet is a request to one of these bricks, but no Collect, or a reply of one of them
abbrev pub goes_among : List BrickId → Packet → Bool
goes_among bricks packet = goes packet.message
  where
    goes : Message → Bool
    goes (Message.Request call (Request.Collect t)) = false
    goes (Message.Request call request) = is_one_of bricks packet.to
    goes (Message.Reply call reply) = is_one_of bricks packet.from
    goes message = false

-- the packet of this number is a message of operation n among these bricks that was not delivered yet
abbrev pub is_left : World → ℕ → List BrickId → ℕ → Packet → Bool
is_left w n bricks number packet = nat_eq (operation_of w packet) n && (not (w.reached number) && goes_among bricks packet)

-- the first number of these packets that passes a test, where the first of them has this number
abbrev pub first_number : (ℕ → Packet → Bool) → ℕ → List Packet → Option ℕ
first_number test number [] = None
first_number test number (packet ∷ packets) = if test number packet then Some number else first_number test (suc number) packets

-- the message that is delivered next
abbrev pub next_delivery : World → ℕ → List BrickId → Option ℕ
next_delivery w n bricks = first_number (is_left w n bricks) 1 w.packets

-- no message of the operation was delivered
abbrev pub IsUntouched : World → ℕ → Type 0
IsUntouched w n = (k : ℕ) (packet : Packet) → packet_of w.packets k ≡ Some packet → operation_of w packet ≡ n → w.reached k ≡ false

-- the times at which an operation may run alone
abbrev pub early : ℕ
early = 2 ^ 63

-- every time that a brick knows, or keeps in a stamp, is early
pub record IsEarly (node : Node) : Type 0 where
  pub known : node.known < early
  pub orders : (group view stripe : ℕ) → (node.replicas group view stripe).order.time < early
  pub logs : (group view stripe k : ℕ) (version : Version) → slice_get (node.replicas group view stripe).log k ≡ Some version → version.stamp.time < early

-- a brick of the layout is up, serves the view of the operation, and has room for two more records, and its times are early
pub record IsReady (setting : Setting) (w : World) (c : Coordinator) (brick : BrickId) : Type 0 where
  pub up : is_up setting.layout w brick ≡ true
  pub view : view_at (w.nodes brick.0) c.call.group.0 ≡ c.stamp.view.0
  pub serves : has_accepted (w.nodes brick.0) c.call.group.0 ≡ false
  pub room : (w.nodes brick.0).live + 2 ≤ setting.layout.records
  pub times : IsEarly (w.nodes brick.0)

-- how many of these bricks are among these members
abbrev pub members_among : List BrickId → List BrickId → ℕ
members_among members bricks = length (filter (λ brick. is_some (seat_in members brick.0)) bricks)

-- a brick knows that all stripes of a group are kept in the view that it has learnt
abbrev pub knows_synced : World → ℕ → BrickId → Bool
knows_synced w group brick = ((w.nodes brick.0).learnt group).synced

-- An operation may have to ask the members of the view before: it is in a later view than 1, and none of these bricks knows that all stripes are kept in
-- that.
abbrev pub may_ask_prior : World → Coordinator → List BrickId → Bool
may_ask_prior w c bricks = nat_lt 1 c.stamp.view.0 && not (list_any (knows_synced w c.call.group.0) bricks)

-- Operation n may run alone among these bricks: it is open, and no message of it was delivered; the bricks are distinct and ready; a quorum of its
-- view's members is among them, and a quorum of the members before where it may have to ask these; and the times of its coordinator are early.
pub record IsCalm (setting : Setting) (w : World) (n : ℕ) (bricks : List BrickId) : Type 0 where
  pub operation : Operation
  pub is : w.operations n ≡ Some operation
  pub coordinator : Coordinator
  pub open_is : open_call w n ≡ Some coordinator
  pub untouched : IsUntouched w n
  pub distinct : IsDistinct nat_eq (map (λ brick. brick.0) bricks)
  pub ready : (k : ℕ) (brick : BrickId) → slice_get bricks k ≡ Some brick → IsReady setting w coordinator brick
  pub members : quorum_of coordinator.group ≤ members_among coordinator.group.members bricks
  pub prior : may_ask_prior w coordinator bricks ≡ true
      → quorum_of (kept_by coordinator.prior coordinator.group) ≤ members_among coordinator.prior bricks
  pub clock : w.clocks operation.brick.0 < early
  pub times : IsEarly (w.nodes operation.brick.0)

-- The deliveries that an operation makes alone, and the world that they leave: one after another, until it is not open, or none of its messages is
-- left.
pub data RunsAlone (setting : Setting) (n : ℕ) (bricks : List BrickId) : World → List Event → World → Type 0 where
  Ended : (w : World) → open_call w n ≡ None → RunsAlone setting n bricks w [] w
  Stuck : (w : World) → is_some (open_call w n) ≡ true → next_delivery w n bricks ≡ None → RunsAlone setting n bricks w [] w
  Next : (w last : World) (number : ℕ) (events : List Event) → is_some (open_call w n) ≡ true → next_delivery w n bricks ≡ Some number
      → RunsAlone setting n bricks (happens setting w (Delivers number)) events last → RunsAlone setting n bricks w (Delivers number ∷ events) last
