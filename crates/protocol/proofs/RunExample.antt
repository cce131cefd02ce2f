-- A change of members as a run of the whole machine: a group of one data block on bricks 0, 1 and 2 of four goes over to 1, 2 and 3, a read that
-- begins in the view before ends, and one in the new view looks back.
use Rattle.std.proofs.Common.{◌≡◌, ℕ, List, [], ◌∷◌, ◌++◌, Some, None, refl, length, drop}
use Rattle.fab_base.specs.declared.identities.BrickId.{BrickId}
use Rattle.fab_base.specs.declared.asks.Ask.{Ask}
use Rattle.fab_base.specs.declared.asks.Op.TheVariants.{ReadStripe}
use Rattle.fab_base.specs.declared.member_lists.View.{View}
use Rattle.messages.specs.declared.calls.Call.{Call}
use Rattle.messages.specs.declared.packets.Packet.{Packet}
use Rattle.messages.specs.declared.packets.Message.TheVariants as message
use Rattle.messages.specs.declared.requests.Request.TheVariants as request
use Rattle.messages.specs.declared.replies.Reply.{Reply}
use Rattle.messages.specs.declared.replies.Reply.TheVariants as reply
use Rattle.fab_base.specs.declared.answers.Answer.TheVariants.{Data, Aborted}
use Rattle.fab_base.specs.declared.answers.Cause.TheVariants as cause
use Rattle.fab_base.specs.Layouts.{Layout}
use Rattle.fab_base.specs.Stamps.{stamp_below, stamp_same, ballot_below}
use Rattle.quorum.specs.Memberships.{is_membership}
use Rattle.reg_model.specs.declared.marks.Mark.TheVariants.{Begin, End}
use Rattle.synod_laws.specs.Synods.{ballot_same}
use Rattle.protocol.specs.Settings.{Piece, Setting}
use Rattle.protocol.specs.Views.{learns, notes_synced}
use Rattle.protocol.specs.Ballots.{voting}
use Rattle.protocol.specs.Proposals.{seat_voting, ballot_decided}
use Rattle.protocol.specs.Replicas.{top_of, handle}
use Rattle.protocol.specs.Coordinators.{call_same, counts_at, fast_version, request_of, decided, on_reply}
use Rattle.protocol.specs.declared.tellings.Report.TheVariants as report
use Rattle.protocol.specs.declared.tellings.ViewAnswer.TheVariants as answer
use Rattle.protocol.specs.Nodes.{Node, NodeStep, Answered, Report, view_at, top_at, refusal_of, invoked, requested, node_taught, node_learnt, node_synced, replied, received, proposal_refusal, proposed, ticked}
use Rattle.protocol.specs.Worlds.{World, Event, Invokes, Proposes, Delivers, Ticks, first_world, happens, run}

abbrev brick : ℕ → BrickId
brick i = record { 0 = i }

abbrev layout : Layout
layout = record {
  block = 1;
  bricks = 4;
  records = 10;
  port = 0;
  store = 2;
  spares = [];
  groups = record { members = brick 0 ∷ (brick 1 ∷ (brick 2 ∷ [])); m = 1; stripes = 4 } ∷ [];
  volumes = [];
}

-- one data block, of which each seat keeps a copy
abbrev first_bytes : List Piece → List ℕ
first_bytes [] = []
first_bytes (piece ∷ pieces) = piece.bytes

abbrev setting : Setting
setting = record {
  layout = layout;
  code = record { encode = λ m content seat. content; decode = λ m pieces. first_bytes pieces; delta = λ old new. new; modify = λ m j seat delta block. delta };
}

abbrev delivers : List ℕ → List Event
delivers [] = []
delivers (number ∷ numbers) = Delivers number ∷ delivers numbers

abbrev after : List Event → World
after events = run setting events (first_world layout)

-- brick 3 proposes; bricks 1 and 2 promise and accept; the list is decided
abbrev change : List Event
change =
    Proposes (brick 3) (record { 0 = 0 }) (brick 1 ∷ (brick 2 ∷ (brick 3 ∷ [])))
    ∷ delivers (2 ∷ (3 ∷ (4 ∷ (5 ∷ (7 ∷ (8 ∷ (9 ∷ (10 ∷ []))))))))

unfoldable machine : Type 0
unfolding stamp_below stamp_same ballot_below is_membership ballot_same learns voting seat_voting ballot_decided top_of handle call_same counts_at fast_version request_of decided on_reply view_at top_at refusal_of invoked requested node_taught node_learnt notes_synced node_synced replied received ticked proposal_refusal proposed happens
machine = Unit {0}

-- what is decided is reported, by the call of the second phase
decided_is : (after change).choices.reports
    ≡ ((
      brick 3,
      report.View (record { 0 = 0 })
          (Some (record { boot = 1; seq = 1; phase = 2; group = record { 0 = 0 }; view = record { 0 = 1 }; stripe = record { 0 = 0 } }))
          (answer.Decided (record { 0 = 2 }) (brick 1 ∷ (brick 2 ∷ (brick 3 ∷ [])))),
    ) ∷ [])
unfolding machine
decided_is = refl

-- all bricks are taught the new view
taught : length (after change).packets ≡ 14
unfolding machine
taught = refl

-- a read that brick 0 begins in the old view is aborted: brick 1 has accepted a list to follow that
abbrev read : List Event
read = Invokes (brick 0) (record { group = record { 0 = 0 }; stripe = record { 0 = 0 }; op = ReadStripe }) ∷ delivers (15 ∷ (16 ∷ (18 ∷ (19 ∷ []))))

aborted : (after (change ++ read)).marks
    ≡ (Begin 0 1 (brick 0) (record { group = record { 0 = 0 }; stripe = record { 0 = 0 }; op = ReadStripe })
    ∷ (End 1 1 (Aborted (cause.Moved (brick 1) (record { 0 = 2 }))) ∷ []))
unfolding machine
aborted = refl

-- a brick that is taught the new view has learnt it, and no other has
abbrev learnt_at : List Event → ℕ → ℕ
learnt_at events i = view_at ((after events).nodes i) 0

learns_it : learnt_at (change ++ delivers (11 ∷ (12 ∷ []))) 1 ≡ 2
unfolding machine
learns_it = refl

learns_not : learnt_at (change ++ delivers (11 ∷ (12 ∷ []))) 2 ≡ 1
unfolding machine
learns_not = refl

-- in the new view a brick does not vote before that is synced, and a list that may not keep the group is refused at once
abbrev taught_all : List Event
taught_all = change ++ delivers (11 ∷ (12 ∷ (13 ∷ (14 ∷ []))))

abbrev again : List BrickId → List Event
again members = taught_all ++ (Proposes (brick 1) (record { 0 = 0 }) members ∷ delivers (15 ∷ (16 ∷ (18 ∷ (19 ∷ [])))))

-- the last report of a run
abbrev last_report : List (BrickId × Report) → List (BrickId × Report)
last_report [] = []
last_report (one ∷ []) = one ∷ []
last_report (one ∷ (next ∷ more)) = last_report (next ∷ more)

not_synced : last_report (after (again (brick 0 ∷ (brick 1 ∷ (brick 2 ∷ []))))).choices.reports
    ≡ ((
      brick 1,
      report.View (record { 0 = 0 })
          (Some (record { boot = 1; seq = 1; phase = 1; group = record { 0 = 0 }; view = record { 0 = 2 }; stripe = record { 0 = 0 } }))
          (answer.NotSynced (brick 1)),
    ) ∷ [])
unfolding machine
not_synced = refl

bad_members : last_report (after (again (brick 1 ∷ (brick 1 ∷ (brick 2 ∷ []))))).choices.reports
    ≡ ((brick 1, report.View (record { 0 = 0 }) None answer.BadMembers) ∷ [])
unfolding machine
bad_members = refl

-- of two proposals the one of the greater ballot bars the other
abbrev both : List Event
both =
    Proposes (brick 0) (record { 0 = 0 }) (brick 1 ∷ (brick 2 ∷ (brick 3 ∷ [])))
    ∷ (delivers (2 ∷ (3 ∷ []))
    ++ (Proposes (brick 3) (record { 0 = 0 }) (brick 1 ∷ (brick 2 ∷ (brick 3 ∷ [])))
    ∷ delivers (7 ∷ (8 ∷ (4 ∷ (5 ∷ (12 ∷ (13 ∷ (14 ∷ (15 ∷ []))))))))))

outbid : (after both).choices.reports
    ≡ ((
      brick 0,
      report.View (record { 0 = 0 })
          (Some (record { boot = 1; seq = 1; phase = 2; group = record { 0 = 0 }; view = record { 0 = 1 }; stripe = record { 0 = 0 } }))
          (answer.Outbid (record { round = 1; brick = brick 3; boot = 1 })),
    ) ∷ [])
unfolding machine
outbid = refl

-- A read in the new view finds nothing there, and nothing as it orders. So it asks the members of the view before, each right after a message that teaches it the
-- new view where it asks again; it stores what it found, and ends.
abbrev ask_there : Ask
ask_there = record { group = record { 0 = 0 }; stripe = record { 0 = 0 }; op = ReadStripe }

abbrev looks_there : List Event
looks_there = taught_all ++ (Invokes (brick 1) ask_there ∷ delivers (15 ∷ (16 ∷ (18 ∷ (19 ∷ (20 ∷ (21 ∷ (23 ∷ (24 ∷ [])))))))))

-- the last messages that were sent, from a number on
abbrev sent_from : ℕ → List Event → List Packet
sent_from number events = drop number (after events).packets

abbrev old_call : Call
old_call = record { boot = 1; seq = 1; phase = 3; group = record { 0 = 0 }; view = record { 0 = 1 }; stripe = record { 0 = 0 } }

abbrev old_read : ℕ → Packet
old_read i = record { from = brick 1; to = brick i; message = message.Request old_call (request.OldRead None) }

asks_before : sent_from 24 looks_there ≡ (old_read 0 ∷ (old_read 1 ∷ (old_read 2 ∷ [])))
unfolding machine
asks_before = refl

abbrev new_view : View
new_view = record { number = record { 0 = 2 }; members = brick 1 ∷ (brick 2 ∷ (brick 3 ∷ [])); prior = brick 0 ∷ (brick 1 ∷ (brick 2 ∷ [])) }

abbrev teaches : ℕ → Packet
teaches i = record { from = brick 1; to = brick i; message = message.Learn (record { 0 = 0 }) new_view }

asks_again : sent_from 27 (looks_there ++ (Ticks (brick 1) ∷ []))
    ≡ (teaches 0 ∷ (old_read 0 ∷ (teaches 1 ∷ (old_read 1 ∷ (teaches 2 ∷ (old_read 2 ∷ []))))))
unfolding machine
asks_again = refl

reads_before : (after (looks_there ++ delivers (25 ∷ (26 ∷ (28 ∷ (29 ∷ (30 ∷ (31 ∷ (33 ∷ (34 ∷ [])))))))))).marks
    ≡ (Begin 0 1 (brick 1) ask_there ∷ (End 1 1 (Data (0 ∷ [])) ∷ []))
unfolding machine
reads_before = refl

-- A member that hears that all stripes are kept in the new view drops what it kept in the one before, and says so. Such a reply ends the operation.
abbrev synced_there : Node
synced_there = node_synced layout ((after taught_all).nodes 0) (record { 0 = 0 }) (record { 0 = 2 })

dropped : (requested setting (brick 0) (brick 1) synced_there old_call (request.OldRead None)).packets
    ≡ (record { from = brick 0; to = brick 1; message = message.Reply old_call reply.Retired } ∷ [])
unfolding machine
dropped = refl

-- the answers of the operation that looks back, once the members at these bricks have replied so
abbrev replied_by : Node → List ℕ → Reply → List Answered
replied_by node [] said = []
replied_by node (i ∷ bricks) said = (let step : NodeStep = replied setting (brick 1) 0 (brick i) node old_call said in step.answers ++ replied_by step.node bricks said)

gone : replied_by ((after looks_there).nodes 1) (2 ∷ (0 ∷ [])) reply.Retired ≡ (record { seq = 1; answer = Aborted (cause.Gone (brick 0)) } ∷ [])
unfolding machine
gone = refl
