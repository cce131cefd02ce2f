-- An operation in a phase, at its coordinator.
use Rattle.std.specs.Prelude.{◌≡◌, ℕ, ◌-◌, ◌*◌, ◌<◌, Bool, true, false, not, ◌&&◌, nat_lt, List, [], ◌∷◌, length, take, Option, Some, None, is_some}
use Rattle.std.specs.List.{list_all, list_any}
use Rattle.fab_base.specs.declared.identities.BrickId.{BrickId}
use Rattle.fab_base.specs.declared.identities.CallId.{CallId}
use Rattle.fab_base.specs.declared.identities.GroupId.{GroupId}
use Rattle.fab_base.specs.declared.identities.StripeNo.{StripeNo}
use Rattle.fab_base.specs.declared.identities.ViewNo.{ViewNo}
use Rattle.fab_base.specs.declared.stamps.Stamp.{Stamp}
use Rattle.fab_base.specs.Stamps.{first_stamp}
use Rattle.fab_base.specs.declared.asks.Ask.{Ask}
use Rattle.fab_base.specs.declared.asks.Op.{Op}
use Rattle.fab_base.specs.declared.member_lists.View.{View}
use Rattle.messages.specs.declared.calls.Call.{Call}
use Rattle.messages.specs.declared.packets.Message.{Message}
use Rattle.coord_phase.specs.declared.operations.Stage.{Stage}
use Rattle.coord_phase.specs.declared.operations.OnBase.{OnBase}
use Rattle.coord_phase.specs.declared.operations.News.{News}
use Rattle.fab_base.specs.Layouts.{Layout, Group}
use Rattle.quorum.specs.Quorums.{IsWithinLimits}
use Rattle.protocol.specs.Views.{group_kept}
use Rattle.protocol.specs.declared.phases.Phase.{Phase}
use Rattle.protocol.specs.declared.phases.Phase.TheVariants.{Looks, LooksAt, Orders, OrdersAt, Recovers, Descends, LooksBack, Modifies, Bases, Stores}
use Rattle.protocol.specs.declared.phases.Counted.{Counted}
use Rattle.protocol.specs.Coordinators.{Coordinator, AreEnough, answers_phase, asked_group, block_written, counts_at, has_seat, with_reply}
use Rattle.protocol.specs.Nodes.{has_block, has_length, first_phase, given_content}
use Rattle.protocol.specs.Scrubs.{scrub_ask}

-- an operation: the bytes of a block, how far the machine's coordinator is, and what the last reply that it heard made new of a version
pub record Operation : Type 0 where
  pub block : ℕ
  pub state : Coordinator
  pub news : News

-- the operation, once its coordinator is this far
abbrev pub with_state : Operation → Coordinator → Operation
with_state op c = record { block = op.block; state = c; news = op.news }

-- the operation, once its coordinator is this far, with this news
abbrev pub telling : Operation → Coordinator → News → Operation
telling op c news = record { block = op.block; state = c; news = news }

-- the version that a read is answered at once
abbrev pub seen_in : News → Option Stamp
seen_in News.Nothing = None
seen_in News.Made = None
seen_in (News.Seen version) = Some version
seen_in News.Stored = None

-- the operation's version, of this stamp, where a quorum holds it
abbrev pub stored_in : News → Stamp → Option Stamp
stored_in News.Nothing stamp = None
stored_in News.Made stamp = None
stored_in (News.Seen version) stamp = None
stored_in News.Stored stamp = Some stamp

-- the coordinator without the last reply that counts
abbrev pub without_last : Coordinator → Coordinator
without_last c = record c { counted = take (length c.counted - 1) c.counted }

-- an operation stays what it is: its blocks' length, its group, the members before these, those that alone count, and what it is asked
pub record StaysAsked (before after : Operation) : Type 0 where
  pub block : after.block ≡ before.block
  pub group : after.state.group ≡ before.state.group
  pub prior : after.state.prior ≡ before.state.prior
  pub only : after.state.only ≡ before.state.only
  pub ask : after.state.ask ≡ before.state.ask

-- a group, or one without data blocks
abbrev pub group_or_none : Option Group → Group
group_or_none None = record { members = []; m = 0; stripes = 0 }
group_or_none (Some group) = group

-- the group of this number, kept by the members of a view; a group that the layout lacks has no data block
abbrev pub group_in_view : Layout → List BrickId → ℕ → Group
group_in_view layout members g = group_or_none (group_kept layout members g)

-- the version that the operation makes its own on, if it found one
abbrev pub base_in : Option OnBase → Option Stamp
base_in None = None
base_in (Some on) = Some on.base

-- what an operation stores, or what its data block changes by while it modifies: what it made of its base, where it found one, and else what it was
-- given
abbrev pub content_in : Op → Option OnBase → List ℕ
content_in op None = given_content op
content_in op (Some on) = on.content

-- a call's phase of this number, in a view
abbrev pub call_in : CallId → ℕ → Ask → ViewNo → Call
call_in call number ask view =
    record { boot = call.boot; seq = call.seq; phase = number; group = ask.group; view = view; stripe = ask.stripe }

-- an operation in its first round, in the first phase of its call, which is this one, asked of the members of a view, of whom these alone count, or all: it has
-- found no base
abbrev pub opened_op : Layout → View → CallId → Ask → Stamp → Phase → Option (List BrickId) → Operation
opened_op layout view call ask stamp phase only =
    record {
      block = layout.block;
      state = record {
        group = group_in_view layout view.members ask.group.0;
        prior = view.prior;
        only = only;
        ask = ask;
        stamp = stamp;
        round = 1;
        base = None;
        content = given_content ask.op;
        call = call_in call 1 ask view.number;
        phase = phase;
        counted = [];
      };
      news = News.Nothing;
    }

-- a new operation, asked of the members of a view
abbrev pub first_op : Layout → View → CallId → Ask → Stamp → Operation
first_op layout view call ask stamp = opened_op layout view call ask stamp (first_phase ask.op) None

-- a new scrub of these members of a stripe, asked of all members of a view
abbrev pub scrub_op : Layout → View → CallId → GroupId → StripeNo → Stamp → List BrickId → Operation
scrub_op layout view call group stripe stamp only = opened_op layout view call (scrub_ask group stripe) stamp Looks (Some only)

-- the coordinator as it begins a stage, in which no reply counts yet
abbrev pub at_stage : Coordinator → Stage → Coordinator
at_stage c stage =
    record c { stamp = stage.stamp; round = stage.round; call = stage.call; phase = stage.phase; counted = [] }

-- the coordinator, where it makes its version on this one, of this content
abbrev pub on_base : Coordinator → Stamp → List ℕ → Coordinator
on_base c base content = record c { base = Some base; content = content }

-- the phases are the same, whatever their bounds and data blocks
abbrev pub same_phase : Phase → Phase → Bool
same_phase Looks Looks = true
same_phase (LooksAt j) (LooksAt other) = true
same_phase Orders Orders = true
same_phase (OrdersAt j) (OrdersAt other) = true
same_phase Recovers Recovers = true
same_phase (Descends bound) (Descends other) = true
same_phase (LooksBack bound) (LooksBack other) = true
same_phase (Modifies base j) (Modifies other k) = true
same_phase (Bases base) (Bases other) = true
same_phase Stores Stores = true
same_phase phase other = false

-- the phase is one of these, whatever its bound and data block
abbrev pub is_among : List Phase → Phase → Bool
is_among phases phase = list_any (same_phase phase) phases

-- the phase asks for an order, and may be asked again in another round
abbrev pub is_ordering : Phase → Bool
is_ordering = is_among (Orders ∷ OrdersAt 0 ∷ Recovers ∷ [])

-- the phase has members keep the operation's version: it may end the operation with a version that may be collected
abbrev pub is_storing : Phase → Bool
is_storing = is_among (Modifies first_stamp 0 ∷ Stores ∷ [])

-- whoever tells a version tells the bytes of its block
abbrev pub wants_all : Phase → Bool
wants_all (LooksAt j) = false
wants_all (OrdersAt j) = false
wants_all phase = true

-- no two of the replies are of one seat
abbrev pub are_apart : List Counted → Bool
are_apart [] = true
are_apart (c ∷ counted) = not (has_seat c.seat counted) && are_apart counted

-- What an operation stores is m blocks, in the phases that store it, or make it ready to be stored; and what it is to write of a data block is a
-- block, where it orders that.
abbrev pub StoresBlocks : ℕ → ℕ → Op → List ℕ → Phase → Type 0
StoresBlocks block m op content Orders = length content ≡ m * block
StoresBlocks block m op content (OrdersAt j) = length (block_written op) ≡ block
StoresBlocks block m op content Stores = length content ≡ m * block
StoresBlocks block m op content phase = Unit {0}

-- where there is a view before one of this number, its members are within the limits of a quorum of m data blocks
pub record PriorIsWithinLimits (m : ℕ) (view : ViewNo) (prior : List BrickId) : Type 0 where
  pub limits : 1 < view.0 → IsWithinLimits m (length prior)

-- there is a view whose members a phase asks: one that looks back has a view before its own
abbrev pub MayAsk : ViewNo → Phase → Type 0
MayAsk view (LooksBack bound) = 1 < view.0
MayAsk view phase = Unit {0}

-- What is true of an operation in each phase: the data block that it asks for is one of m, and what it is given to write has its length; what it
-- stores is m blocks; there are members whom the phase asks, and enough of them count; and each reply that counts is of a seat of these, answers the phase, and is
-- its seat's only one.
pub record IsInPhase (block : ℕ) (c : Coordinator) : Type 0 where
  pub fits : has_block c.group.m c.ask.op ≡ true
  pub long : has_length c.group.m block c.ask.op ≡ true
  pub content : StoresBlocks block c.group.m c.ask.op c.content c.phase
  pub prior : PriorIsWithinLimits c.group.m c.stamp.view c.prior
  pub asks : MayAsk c.stamp.view c.phase
  pub enough : AreEnough c.group c.only
  pub seats : list_all (λ reply. nat_lt reply.seat (length (asked_group c).members)) c.counted ≡ true
  pub answers : list_all (λ reply. answers_phase block c.stamp reply.seat c.phase reply.reply) c.counted ≡ true
  pub apart : are_apart c.counted ≡ true

-- the seat at which a message counts, if it does: only a reply may
unfoldable pub seat_told : Operation → ℕ → Message → Option ℕ
seat_told op from (Message.Reply call reply) = counts_at op.block op.state from call reply
seat_told op from message = None

-- the message counts
abbrev pub counts : Operation → BrickId → Message → Bool
counts op from message = is_some (seat_told op from.0 message)

-- the operation, once a message that may count at this seat was heard
abbrev pub heard_at : Operation → BrickId → Message → Option ℕ → Operation
heard_at op from (Message.Reply call reply) (Some seat) = with_state op (with_reply op.state seat from reply)
heard_at op from message seat = op

abbrev pub heard : Operation → BrickId → Message → Operation
heard op from message = heard_at op from message (seat_told op from.0 message)
