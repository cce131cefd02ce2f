-- A scrub as a run of the whole machine: a group of one data block on bricks 0, 1 and 2. A write has reached bricks 0 and 1, and brick 0 scrubs all three.
use Rattle.std.proofs.Common.{◌≡◌, ℕ, List, [], ◌∷◌, ◌++◌, Option, Some, None, refl, length, drop}
use Rattle.std.specs.Option.{option_map}
use Rattle.fab_base.specs.declared.identities.BrickId.{BrickId}
use Rattle.fab_base.specs.declared.identities.GroupId.{GroupId}
use Rattle.fab_base.specs.declared.asks.Op.TheVariants.{WriteStripe}
use Rattle.fab_base.specs.declared.answers.Cause.{Cause}
use Rattle.fab_base.specs.declared.stamps.Stamp.{Stamp}
use Rattle.messages.specs.declared.calls.Call.{Call}
use Rattle.messages.specs.declared.packets.Packet.{Packet}
use Rattle.messages.specs.declared.packets.Message.TheVariants as message
use Rattle.messages.specs.declared.requests.Look.TheVariants.{Below}
use Rattle.messages.specs.declared.requests.Request.{Request}
use Rattle.messages.specs.declared.requests.Request.TheVariants as request
use Rattle.messages.specs.declared.requests.Want.TheVariants.{All}
use Rattle.fab_base.specs.Layouts.{Layout}
use Rattle.reg_model.specs.Walk.{entry_below}
use Rattle.fab_base.specs.Stamps.{stamp_below, stamp_same, ballot_below}
use Rattle.quorum.specs.Memberships.{is_membership}
use Rattle.synod_laws.specs.Synods.{ballot_same}
use Rattle.protocol.specs.Settings.{Piece, Setting}
use Rattle.protocol.specs.Views.{learns, notes_synced}
use Rattle.protocol.specs.Ballots.{voting}
use Rattle.protocol.specs.Scrubs.{Scrub}
use Rattle.protocol.specs.Proposals.{seat_voting, ballot_decided}
use Rattle.protocol.specs.Replicas.{top_of, handle}
use Rattle.protocol.specs.Coordinators.{call_same, counts_at, fast_version, request_of, decided, on_reply}
use Rattle.protocol.specs.declared.tellings.Report.TheVariants as report
use Rattle.protocol.specs.declared.tellings.ScrubAnswer.TheVariants as answer
use Rattle.protocol.specs.Nodes.{top_at, refusal_of, invoked, requested, node_taught, node_learnt, node_synced, replied, received, proposal_refusal, proposed, scrub_refusal, scrubbed_at, ticked}
use Rattle.protocol.specs.Worlds.{World, Operation, Event, Invokes, Scrubs, Delivers, Ticks, first_world, happens, run}
use Rattle.protocol.specs.Happenings.{effect_in}

abbrev brick : ℕ → BrickId
brick i = record { 0 = i }

abbrev group : GroupId
group = record { 0 = 0 }

abbrev layout : Layout
layout = record {
  block = 1;
  bricks = 3;
  records = 10;
  port = 0;
  store = 2;
  spares = [];
  groups = record { members = brick 0 ∷ (brick 1 ∷ (brick 2 ∷ [])); m = 1; stripes = 1 } ∷ [];
  volumes = [];
}

-- one data block, of which each seat keeps a copy
abbrev first_bytes : List Piece → List ℕ
first_bytes [] = []
first_bytes (piece ∷ pieces) = piece.bytes

abbrev setting : Setting
setting = record {
  layout = layout;
  code = record { encode = λ m content seat. content; decode = λ m pieces. first_bytes pieces; delta = λ old new. new; modify = λ m j seat delta block. delta };
}

abbrev delivers : List ℕ → List Event
delivers [] = []
delivers (number ∷ numbers) = Delivers number ∷ delivers numbers

abbrev after : List Event → World
after events = run setting events (first_world layout)

-- the last messages that were sent, from a number on
abbrev sent_from : ℕ → List Event → List Packet
sent_from number events = drop number (after events).packets

unfoldable machine : Type 0
unfolding stamp_below stamp_same ballot_below is_membership ballot_same learns voting seat_voting ballot_decided top_of handle call_same counts_at fast_version request_of decided on_reply top_at refusal_of invoked requested node_taught node_learnt notes_synced node_synced replied received ticked proposal_refusal proposed scrub_refusal scrubbed_at happens
machine = Unit {0}

-- a write is stored at bricks 0 and 1, and is done; its Collects are not delivered
abbrev written : List Event
written = Invokes (brick 0) (record { group = group; stripe = record { 0 = 0 }; op = WriteStripe (65 ∷ []) })
    ∷ delivers (1 ∷ (2 ∷ (4 ∷ (5 ∷ (6 ∷ (7 ∷ (9 ∷ (10 ∷ []))))))))

abbrev members : List BrickId
members = brick 0 ∷ (brick 1 ∷ (brick 2 ∷ []))

abbrev scrubs : List Event
scrubs = written ++ (Scrubs (brick 0) group (record { 0 = 0 }) members ∷ [])

abbrev scrub_call : ℕ → Call
scrub_call phase = record { boot = 1; seq = 2; phase = phase; group = group; view = record { 0 = 1 }; stripe = record { 0 = 0 } }

abbrev asks : ℕ → Request → ℕ → Packet
asks phase what i = record { from = brick 0; to = brick i; message = message.Request (scrub_call phase) what }

-- it looks
looks_so : sent_from 13 scrubs ≡ (asks 1 (request.Read All) 0 ∷ (asks 1 (request.Read All) 1 ∷ (asks 1 (request.Read All) 2 ∷ [])))
unfolding machine
looks_so = refl

-- two replies, which are a quorum, do not end its look; and a tick sends it again to the brick that has not replied, last of all
abbrev looked : List Event
looked = scrubs ++ delivers (14 ∷ (15 ∷ (16 ∷ (17 ∷ (18 ∷ [])))))

waits : sent_from 19 (looked ++ (Ticks (brick 0) ∷ [])) ≡ (asks 1 (request.Read All) 2 ∷ [])
unfolding machine
waits = refl

-- With the third it is known that brick 2 lags, and it orders, with the stamp that it was given at its beginning.
abbrev apart : List Event
apart = looked ++ delivers (19 ∷ [])

abbrev stamp : Stamp
stamp = record { view = record { 0 = 1 }; time = 2; brick = brick 0; boot = 1 }

orders_so : sent_from 19 apart
    ≡ (asks 2 (request.OrderRead stamp (Below stamp) All) 0 ∷ (asks 2 (request.OrderRead stamp (Below stamp) All) 1 ∷ (asks 2 (request.OrderRead stamp (Below stamp) All) 2 ∷ [])))
unfolding machine
orders_so = refl

who_lags : option_map (λ (scrub : Scrub). scrub.lagging) ((after apart).nodes 0).scrub ≡ Some (brick 2 ∷ [])
unfolding machine
who_lags = refl

-- Once all have promised, and then stored, it has repaired, and all may collect.
abbrev repaired : List Event
repaired = apart ++ delivers (20 ∷ (21 ∷ (22 ∷ (23 ∷ (24 ∷ (25 ∷ (26 ∷ (27 ∷ (28 ∷ (29 ∷ (30 ∷ (31 ∷ []))))))))))))

reported : (after repaired).choices.reports ≡ ((brick 0, report.Scrub (scrub_call 3) members (answer.Repaired stamp (brick 2 ∷ []))) ∷ [])
unfolding machine
reported = refl

collects_so : sent_from 31 repaired ≡ (asks 3 (request.Collect stamp) 0 ∷ (asks 3 (request.Collect stamp) 1 ∷ (asks 3 (request.Collect stamp) 2 ∷ [])))
unfolding machine
collects_so = refl

no_scrub : ((after repaired).nodes 0).scrub ≡ None
unfolding machine
no_scrub = refl

-- It is an operation of the world without marks, which read nothing back for anybody: of its version nothing happens.
abbrev how_closed : Option Operation → Option (Option (Option Cause))
how_closed o = option_map (λ (operation : Operation). operation.closed) o

closed : how_closed ((after repaired).operations 2) ≡ Some (Some None)
unfolding machine
closed = refl

one_begin : length (after repaired).marks ≡ 2
unfolding machine
one_begin = refl

only_the_write : length (effect_in (after repaired) 0 0).told ≡ 1
unfolding machine entry_below
only_the_write = refl

-- A second scrub is clean: nothing but its look is sent.
abbrev again : List Event
again = repaired ++ (Scrubs (brick 1) group (record { 0 = 0 }) members ∷ delivers (35 ∷ (36 ∷ (37 ∷ (38 ∷ (39 ∷ (40 ∷ [])))))))

abbrev second_call : Call
second_call = record { boot = 1; seq = 1; phase = 1; group = group; view = record { 0 = 1 }; stripe = record { 0 = 0 } }

clean : drop 1 (after again).choices.reports ≡ ((brick 1, report.Scrub second_call members answer.Clean) ∷ [])
unfolding machine
clean = refl

sends_its_look : length (after again).packets ≡ 40
unfolding machine
sends_its_look = refl
