-- A synchronisation as a run of the whole machine: a group of two stripes, of one data block each, has gone over from bricks 0, 1 and 2 to 1, 2 and 3, and
-- brick 1 reads both stripes in the new view.
use Rattle.std.proofs.Common.{◌≡◌, ℕ, List, [], ◌∷◌, ◌++◌, Option, Some, None, refl, length, drop}
use Rattle.std.specs.Option.{option_map}
use Rattle.fab_base.specs.declared.identities.BrickId.{BrickId}
use Rattle.fab_base.specs.declared.identities.GroupId.{GroupId}
use Rattle.fab_base.specs.declared.asks.Op.TheVariants.{ReadStripe}
use Rattle.fab_base.specs.declared.answers.Cause.{Cause}
use Rattle.fab_base.specs.declared.answers.Cause.TheVariants.{Full}
use Rattle.fab_base.specs.declared.member_lists.View.{View}
use Rattle.fab_base.specs.declared.stamps.Stamp.{Stamp}
use Rattle.messages.specs.declared.calls.Call.{Call}
use Rattle.messages.specs.declared.packets.Packet.{Packet}
use Rattle.messages.specs.declared.packets.Message.TheVariants as message
use Rattle.messages.specs.declared.requests.Request.TheVariants as request
use Rattle.messages.specs.declared.requests.Want.TheVariants.{All}
use Rattle.fab_base.specs.Layouts.{Layout}
use Rattle.fab_base.specs.Stamps.{stamp_below, stamp_same, ballot_below}
use Rattle.quorum.specs.Memberships.{is_membership}
use Rattle.synod_laws.specs.Synods.{ballot_same}
use Rattle.protocol.specs.Settings.{Piece, Setting}
use Rattle.protocol.specs.Views.{learns, notes_synced}
use Rattle.protocol.specs.Ballots.{voting}
use Rattle.protocol.specs.Jobs.{Job}
use Rattle.protocol.specs.Proposals.{seat_voting, ballot_decided}
use Rattle.protocol.specs.Replicas.{top_of, handle}
use Rattle.protocol.specs.Coordinators.{call_same, counts_at, fast_version, request_of, decided, on_reply}
use Rattle.protocol.specs.declared.tellings.Report.TheVariants as report
use Rattle.protocol.specs.declared.tellings.SyncAnswer.TheVariants as answer
use Rattle.protocol.specs.Nodes.{top_at, refusal_of, invoked, requested, node_taught, node_learnt, node_synced, replied, received, proposal_refusal, proposed, sync_refusal, synced_at, ticked}
use Rattle.protocol.specs.Worlds.{World, Operation, Event, Invokes, Proposes, Syncs, Delivers, Ticks, first_world, happens, run}
use Rattle.protocol.specs.Happenings.{effect_in}

abbrev brick : ℕ → BrickId
brick i = record { 0 = i }

abbrev group : GroupId
group = record { 0 = 0 }

abbrev old_members : List BrickId
old_members = brick 0 ∷ (brick 1 ∷ (brick 2 ∷ []))

abbrev new_members : List BrickId
new_members = brick 1 ∷ (brick 2 ∷ (brick 3 ∷ []))

-- a store keeps so many live records
abbrev layout : ℕ → Layout
layout records = record {
  block = 1;
  bricks = 4;
  records = records;
  port = 0;
  store = 2;
  spares = [];
  groups = record { members = old_members; m = 1; stripes = 2 } ∷ [];
  volumes = [];
}

-- one data block, of which each seat keeps a copy
abbrev first_bytes : List Piece → List ℕ
first_bytes [] = []
first_bytes (piece ∷ pieces) = piece.bytes

abbrev setting : ℕ → Setting
setting records = record {
  layout = layout records;
  code = record { encode = λ m content seat. content; decode = λ m pieces. first_bytes pieces; delta = λ old new. new; modify = λ m j seat delta block. delta };
}

abbrev delivers : List ℕ → List Event
delivers [] = []
delivers (number ∷ numbers) = Delivers number ∷ delivers numbers

abbrev after_with : ℕ → List Event → World
after_with records events = run (setting records) events (first_world (layout records))

abbrev after : List Event → World
after events = after_with 10 events

-- the last messages that were sent, from a number on
abbrev sent_from : ℕ → List Event → List Packet
sent_from number events = drop number (after events).packets

unfoldable machine : Type 0
unfolding stamp_below stamp_same ballot_below is_membership ballot_same learns voting seat_voting ballot_decided top_of handle call_same counts_at fast_version request_of decided on_reply top_at refusal_of invoked requested node_taught node_learnt notes_synced node_synced replied received ticked proposal_refusal proposed sync_refusal synced_at happens
machine = Unit {0}

-- all bricks have learnt the new view, and brick 1 begins
abbrev begins : List Event
begins =
    Proposes (brick 3) group new_members
    ∷ (delivers (2 ∷ (3 ∷ (4 ∷ (5 ∷ (7 ∷ (8 ∷ (9 ∷ (10 ∷ (11 ∷ (12 ∷ (13 ∷ (14 ∷ []))))))))))))
    ++ (Syncs (brick 1) group ∷ []))

-- it looks at stripe 0
abbrev read_call : ℕ → ℕ → Call
read_call seq stripe = record { boot = 1; seq = seq; phase = 1; group = group; view = record { 0 = 2 }; stripe = record { 0 = stripe } }

abbrev looks_at : Call → ℕ → Packet
looks_at call i = record { from = brick 1; to = brick i; message = message.Request call (request.Read All) }

begins_so : sent_from 14 begins ≡ (looks_at (read_call 1 0) 1 ∷ (looks_at (read_call 1 0) 2 ∷ (looks_at (read_call 1 0) 3 ∷ [])))
unfolding machine
begins_so = refl

-- a tick sends the read again after a later operation, each message right after one that teaches the view
abbrev taught_view : View
taught_view = record { number = record { 0 = 2 }; members = new_members; prior = old_members }

abbrev each_taught_to : List Packet → List Packet
each_taught_to [] = []
each_taught_to (packet ∷ packets) =
    record { from = brick 1; to = packet.to; message = message.Learn group taught_view } ∷ (packet ∷ each_taught_to packets)

abbrev looks_again : Call → List Packet
looks_again call = each_taught_to (looks_at call 1 ∷ (looks_at call 2 ∷ (looks_at call 3 ∷ [])))

read_last : sent_from 20 (begins ++ (Invokes (brick 1) (record { group = group; stripe = record { 0 = 1 }; op = ReadStripe }) ∷ (Ticks (brick 1) ∷ [])))
    ≡ looks_again (read_call 2 1) ++ looks_again (read_call 1 0)
unfolding machine
read_last = refl

-- It finds nothing in the new view, looks back, and stores what it found. Then it reads stripe 1 in the same way, right after the Collect of the first read's
-- version.
abbrev first_read : List Event
first_read =
    begins ++ delivers (15 ∷ (16 ∷ (18 ∷ (19 ∷ (20 ∷ (21 ∷ (23 ∷ (24 ∷ (25 ∷ (26 ∷ (28 ∷ (29 ∷ (30 ∷ (31 ∷ (33 ∷ (34 ∷ []))))))))))))))))

abbrev stamp : ℕ → Stamp
stamp time = record { view = record { 0 = 2 }; time = time; brick = brick 1; boot = 1 }

abbrev collects : Call → Stamp → ℕ → Packet
collects call t i = record { from = brick 1; to = brick i; message = message.Request call (request.Collect t) }

abbrev stored_call : ℕ → ℕ → Call
stored_call seq stripe = record { boot = 1; seq = seq; phase = 4; group = group; view = record { 0 = 2 }; stripe = record { 0 = stripe } }

next_read : sent_from 34 first_read
    ≡ (collects (stored_call 1 0) (stamp 1) 1 ∷ (collects (stored_call 1 0) (stamp 1) 2 ∷ (collects (stored_call 1 0) (stamp 1) 3
    ∷ (looks_at (read_call 2 1) 1 ∷ (looks_at (read_call 2 1) 2 ∷ (looks_at (read_call 2 1) 3 ∷ []))))))
unfolding machine
next_read = refl

-- Once that is answered too, all bricks are told, and it is reported.
abbrev ends : List Event
ends =
    first_read ++ delivers (38 ∷ (39 ∷ (41 ∷ (42 ∷ (43 ∷ (44 ∷ (46 ∷ (47 ∷ (48 ∷ (49 ∷ (51 ∷ (52 ∷ (53 ∷ (54 ∷ (56 ∷ (57 ∷ []))))))))))))))))

abbrev synced_to : ℕ → Packet
synced_to i = record { from = brick 1; to = brick i; message = message.Synced group (record { 0 = 2 }) }

tells_all : sent_from 60 ends ≡ (synced_to 0 ∷ (synced_to 1 ∷ (synced_to 2 ∷ (synced_to 3 ∷ []))))
unfolding machine
tells_all = refl

reported : drop 1 (after ends).choices.reports ≡ ((brick 1, report.Sync group (answer.Synced (record { 0 = 2 }))) ∷ [])
unfolding machine
reported = refl

-- the reads are operations of the world, but have no marks, and nothing is told of them
abbrev how_closed : Option Operation → Option (Option (Option Cause))
how_closed o = option_map (λ (operation : Operation). operation.closed) o

closed_both : (after ends).begun ≡ 2
unfolding machine
closed_both = refl

closed_first : how_closed ((after ends).operations 1) ≡ Some (Some None)
unfolding machine
closed_first = refl

no_marks : (after ends).marks ≡ []
unfolding machine
no_marks = refl

none_told : (effect_in (after ends) 0 0).told ≡ []
unfolding machine
none_told = refl

-- a brick that has heard that the view is synced answers that at once, and sends nothing
abbrev once_more : List Event
once_more = ends ++ (Delivers 62 ∷ (Syncs (brick 1) group ∷ []))

at_once : drop 2 (after once_more).choices.reports ≡ ((brick 1, report.Sync group (answer.Synced (record { 0 = 2 }))) ∷ [])
unfolding machine
at_once = refl

sends_nothing : length (after once_more).packets ≡ 64
unfolding machine
sends_nothing = refl

-- If a store may keep one record, a member that promised a stamp has no room for the version. The read is aborted, and stripe 0 is tried again.
tried_again : drop 34 (after_with 1 first_read).packets ≡ (looks_at (read_call 2 0) 1 ∷ (looks_at (read_call 2 0) 2 ∷ (looks_at (read_call 2 0) 3 ∷ [])))
unfolding machine
tried_again = refl

second_try : option_map (λ (job : Job). job.attempt) ((after_with 1 first_read).nodes 1).job ≡ Some (record { stripe = 0; tries = 2 })
unfolding machine
second_try = refl

closed_aborted : how_closed ((after_with 1 first_read).operations 1) ≡ Some (Some (Some (Full (brick 1) 1)))
unfolding machine
closed_aborted = refl
