-- What is said is so in every world that a run reaches.
use Rattle.protocol_laws.proofs.Growth.{stays_packet}
use Rattle.protocol_laws.proofs.OwnStamps.{own_view}
use Rattle.protocol_laws.proofs.OldReads.{old_reply_says}
use Rattle.protocol_laws.proofs.Blocking.{first_fits}
use Rattle.std.proofs.Common.{◌≡◌, ℕ, ◌<◌, ◌≤◌, ◌+◌, inl, true, false, List, [], ◌∷◌, ◌++◌, length, replicate, Option, Some, None, refl, sym, ap, ◌∙◌, subst, ⊎_elim, arith, ◌⊎◌, append_assoc}
use Rattle.std.specs.Prelude.{slice_get, nat_eq, not, is_some}
use Rattle.std.proofs.lemmas.List.{length-append}
use Rattle.std.proofs.lemmas.Bool.{false≢true, or_left, or_cases, cond_both, and_parts}
use Rattle.fab_base.specs.declared.identities.BrickId.{BrickId}
use Rattle.fab_base.specs.declared.identities.ViewNo.{ViewNo}
use Rattle.fab_base.specs.declared.stamps.Stamp.{Stamp}
use Rattle.fab_base.specs.declared.asks.Ask.{Ask}
use Rattle.fab_base.specs.Stamps.{stamp_below, stamp_same, first_stamp}
use Rattle.fab_base.proofs.StampOrder.{stamp_same_refl, stamp_same_true, stamp_below_first}
use Rattle.messages.specs.declared.calls.Call.{Call}
use Rattle.messages.specs.declared.packets.Message.{Message}
use Rattle.messages.specs.declared.packets.Packet.{Packet}
use Rattle.messages.specs.declared.requests.Request.{Request}
use Rattle.messages.specs.declared.requests.Version.{Version}
use Rattle.messages.specs.declared.replies.Reply.{Reply}
use Rattle.reg_model.specs.declared.marks.Mark.{Mark}
use Rattle.reg_model.specs.declared.marks.Mark.TheVariants.{End, Crash}
use Rattle.fab_base.specs.Layouts.{Group, group_of, Layout}
use Rattle.protocol.specs.Settings.{Setting, IsSound}
use Rattle.protocol.specs.Replicas.{Reaction, first_replica, top_of, handle, is_held, Replica}
use Rattle.protocol.specs.Coordinators.{Coordinator, Next, Ignores, Waits, Sends, Makes, Ends, on_reply}
use Rattle.protocol.specs.Jobs.{Job, sync_refusal_in, abort_cause}
use Rattle.protocol.specs.Nodes.{Node, NodeStep, put, with_known, with_replica, replica_at, reacted, full_at, reply_packets, ticked, stopped, restarted, new_stamp, fresh_stamp, no_step, began, invoked, requested, known_after, replied_at, received, group_at, view_at, moved_at, vote_at, heard, with_round, proposed, node_taught_by, view_counted, lists_fit, carried_out, job_reading, sync_refusal, scrub_of, scrubbed_at, members_alone}
use Rattle.protocol.specs.Worlds.{World, Found, Before, After, Event, replies_with, first_world, is_up, zero_content, world_ticked, left_after, packet_during, world_stopped, world_found, world_started, may_begin, world_began, world_stepped, run, reached_during, voiced}
use Rattle.protocol_laws.specs.Laws.{WasSent, Follows, RunFollows}
use Rattle.protocol_laws.proofs.Books.{Books, IsCall, ForJob, ForScrub, own_seq}
use Rattle.protocol_laws.proofs.Left.{IsLeft, kept_of, Leaves, always_leaves, packet_was_sent}
use Rattle.protocol_laws.proofs.Said.{Stamping, Said, IsSaid, IsStampOf, VersionSays, PacketSays, WasCollected, IsMadeOrFirst, IsBottom}
use Rattle.protocol_laws.proofs.BooksEvents.{known_grows, fresh_is, BeginFits, begin_fits, start_fits, books_found, books, books_beside, books_kept, hearing_keeps, group_there, fits_at, books_closing}
use Rattle.protocol.proofs.Tables.{put_same, get_one, get_kept, get_grown}
use Rattle.reg_model.proofs.GrowingLives.{last_grows}
use Rattle.protocol_laws.proofs.Stampings.{ages_within, stamps_same}
use Rattle.protocol_laws.proofs.Reactions.{handle_after, handle_says, top_is_order}
use Rattle.protocol_laws.proofs.Steps.{quiet, said_beside, said_added, said_idle, quiet_grows, keeps_same}
use Rattle.protocol_laws.proofs.Requests.{said_after_request, reply_packets_say}
use Rattle.protocol.proofs.Served.{request_each, IsServed, IsTold, TellsOld}
use Rattle.protocol.proofs.Packets.{OfEach, each_none, each_one}
use Rattle.protocol_laws.proofs.SaidQuiet.{first_top, zero_kept, said_placed, said_voted, said_reports, said_kept, said_taught, said_learnt, said_synced}
use Rattle.protocol_laws.proofs.Hearing.{kept_world, taught_by, hearing_each}
use Rattle.protocol_laws.proofs.Votes.{vote_each, moved_each}
use Rattle.protocol_laws.proofs.Proposing.{AreOfViews, of_views_each, ballot_each, proposed_each}
use Rattle.protocol.specs.declared.tellings.Report.{Report}
use Rattle.protocol_laws.proofs.BooksKept.{KeepsCalls, keeps_itself, call_marked, reading_is, scrub_is, job_seq, scrub_seq, own_books, call_unmarked}
use Rattle.protocol.specs.Ballots.{Voted}
use Rattle.protocol.specs.Proposals.{Proposal}
use Rattle.fab_base.specs.declared.identities.GroupId.{GroupId}
use Rattle.fab_base.specs.declared.stamps.Ballot.{Ballot}
use Rattle.protocol_laws.proofs.Sends.{ticked_was_sent}
use Rattle.protocol_laws.proofs.Replies.{said_known, Goes, reply_goes}
use Rattle.protocol_laws.proofs.Begins.{said_began, said_scrub}
use Rattle.protocol_laws.proofs.Ends.{said_ended, said_closed}
use Rattle.protocol_laws.proofs.Closing.{ClosesNone, closing_each, closed_world, closed_no_read}
use Rattle.protocol_laws.proofs.SaidReads.{said_after_read, said_syncs, said_scrubless}
use Rattle.protocol.proofs.Events.{EventCases, world_handled, world_counting, run_along}
use Rattle.protocol_laws.proofs.StampViews.{StampViews, always_views}
use Rattle.protocol.specs.Views.{Views, view_of, group_in, group_kept, view_told}
use Rattle.protocol.specs.Scrubs.{Scrub, scrub_answer}
use Rattle.fab_base.specs.declared.identities.StripeNo.{StripeNo}
use Rattle.protocol_laws.proofs.Noting.{noted_by, replied_noted, noting_each, noted_keeps, noted_places}
use Rattle.view_laws.proofs.SyncReads.{scrubbed_at_each}

-- the world after a brick's step
abbrev stepped : Setting → World → BrickId → NodeStep → World
stepped setting w me step = world_stepped setting w me step

-- a step that does nothing
nothing_said : (setting : Setting) (views : Views) (w : World) (stamps : Stamping) (me : BrickId) → Books setting w → Said setting views w stamps
    → Said setting views (stepped setting w me (no_step (w.nodes me.0))) stamps
nothing_said setting views w stamps me books said = said_known setting views w stamps me (w.nodes me.0).known books said (omega arith)

-- what a brick has learnt of a group is what the assignment has
group_learnt : (layout : Layout) (views : Views) (w : World) (i g : ℕ) → Follows layout views w
    → group_in layout views g (view_at (w.nodes i) g) ≡ group_at layout (w.nodes i) g
group_learnt layout views w i g follows = ap (λ (members : List BrickId). group_kept layout members g) (sym (follows.learnt i g))

-- a brick handles a request at its seat
module _ (setting : Setting) (views : Views) (w : World) (stamps : Stamping) (me from : BrickId) (call : Call) (request : Request) (books : Books setting w)
    (stamped : StampViews setting.layout w) (follows : Follows setting.layout views w) (said : Said setting views w stamps)
    (sent : WasSent w (record { from = from; to = me; message = Message.Request call request })) (group : Group) (seat : ℕ) (here : group_at setting.layout (w.nodes me.0) call.group.0 ≡ Some group)
    (served : IsServed setting.layout me (w.nodes me.0) call request group seat) where
  abbrev full : Option ℕ
  full = full_at setting.layout.records (w.nodes me.0).live

  abbrev reaction : Reaction
  reaction = handle setting.code group.m full seat (replica_at (w.nodes me.0) call) request

  abbrev replies : List Packet
  replies = reply_packets me from call reaction.reply

  group_is : group_in setting.layout views call.group.0 call.view.0 ≡ Some group
  group_is = ap (λ (e : ℕ). group_in setting.layout views call.group.0 e) served.view ∙ group_learnt setting.layout views w me.0 call.group.0 follows ∙ here

  handled_said : Said setting views (stepped setting w me (reacted me from (w.nodes me.0) call reaction)) stamps
  handled_said =
      let after = handle_after setting.code group.m seat full (replica_at (w.nodes me.0) call) request in
      said_after_request setting views w stamps me from call request books stamped group seat group_is served.seat_is served.view served.free said sent reaction replies after
      (reply_packets_say setting views w stamps me from call request books stamped group seat group_is served.seat_is served.view served.free said sent reaction replies after
      reaction.reply (handle_says setting.code group.m full seat (replica_at (w.nodes me.0) call) request))

  kept_said : Said setting views (quiet w me (with_replica (w.nodes me.0) call reaction) []) stamps
  kept_said =
      said_after_request setting views w stamps me from call request books stamped group seat group_is served.seat_is served.view served.free said sent reaction []
      (handle_after setting.code group.m seat full (replica_at (w.nodes me.0) call) request) (λ k packet at. cc)

-- a fresh stamp is its brick's, and above all that it knows
fresh_says : (setting : Setting) (w : World) (me : BrickId) (view : ViewNo) (now known : ℕ) (t : Stamp) → 1 ≤ view.0 → Books setting w
    → (w.nodes me.0).known ≤ known → fresh_stamp me view now (w.nodes me.0).boot known ≡ Some t
    → IsStampOf (with_known (w.nodes me.0) t.time) me.0 (w.nodes me.0).boot t × ((w.nodes me.0).known < t.time)
fresh_says setting w me view now known t of books more is =
    let new : Stamp = new_stamp me view now (w.nodes me.0).boot known in
    subst (λ (z : Stamp). IsStampOf (with_known (w.nodes me.0) z.time) me.0 (w.nodes me.0).boot z × ((w.nodes me.0).known < z.time))
    (sym (fresh_is me view now (w.nodes me.0).boot known t is).0)
    (record { view = of; boot = refl; booted = omega arith; brick = refl; positive = omega arith; bounded = λ now. omega arith }, omega arith)

-- a brick handles a reply, and its proposal goes on, ends or begins
module _ (setting : Setting) (views : Views) (w : World) (stamps : Stamping) (books : Books setting w) (said : Said setting views w stamps) where
  -- a brick's proposal, its call number, its round and the time that it knows change, and it sends what is of views
  aside_said : (me : BrickId) (known seq round : ℕ) (proposal : Option Proposal) (packets : List Packet) (reports : List Report) → (w.nodes me.0).known ≤ known
      → (w.nodes me.0).seq ≤ seq → AreOfViews packets
      → Said setting views (stepped setting w me (record {
        node = record (w.nodes me.0) { known = known; seq = seq; round = round; proposal = proposal };
        packets = packets;
        told = [];
        answers = [];
        reports = reports;
      })) stamps
  aside_said me known seq round proposal packets reports knows more are =
      let node : Node = record (w.nodes me.0) { known = known; seq = seq; round = round; proposal = proposal } in
      let keeps : KeepsCalls (w.nodes me.0) node = (record { boot = refl; seq = more; known = knows }, λ l. refl, refl, refl) in
      said_reports setting views w stamps me books said node packets reports keeps
      (said_placed setting views w stamps me books said node packets (refl, refl, refl) keeps
      (of_views_each (PacketSays setting views (quiet w me node packets) stamps) (λ from to group view. tt) (λ from to call ballot. tt)
      (λ from to call ballot members. tt) packets are))

  -- so where it begins a proposal
  proposed_said : (me : BrickId) (group : GroupId) (members : List BrickId)
      → Said setting views (stepped setting w me (proposed setting me (w.nodes me.0) group members)) stamps
  proposed_said me group members =
      proposed_each (λ (step : NodeStep). Said setting views (stepped setting w me step) stamps) setting me (w.nodes me.0) group members
      (λ seq round proposal packets reports more are. aside_said me (w.nodes me.0).known seq round proposal packets reports (omega arith) more are)

  -- a brick does what it does with a reply to an open operation, once it has noted who lagged, or to its proposal
  noted_said : (me from : BrickId) (now : ℕ) (call : Call) (reply : Reply) (found : Option Coordinator) → IsSound setting
      → WasSent w (record { from = from; to = me; message = Message.Reply call reply }) → (w.nodes me.0).calls call.seq ≡ found
      → IsSaid setting views (stepped setting w me (replied_noted setting me now from (w.nodes me.0) call reply found))
  noted_said me from now call reply None sound sent none =
      let known : ℕ = known_after (w.nodes me.0).known reply in (
        stamps,
        ballot_each (λ (step : NodeStep). Said setting views (stepped setting w me step) stamps) setting.layout me from (with_known (w.nodes me.0) known) call reply
            (w.nodes me.0).proposal (λ seq round proposal packets reports more are.
            aside_said me known seq round proposal packets reports (known_grows (w.nodes me.0).known reply) more are),
      )
  noted_said me from now call reply (Some c) sound sent is =
      let seq : c.call.seq ≡ call.seq = (books.calls me.0 call.seq c is).call_seq in
      in_call (subst (λ (k : ℕ). IsCall w me.0 k c) (sym seq) is)
    where
      some : IsCall w me.0 c.call.seq c → 1 ≤ c.stamp.view.0
      some is = own_view setting views w stamps books said me.0 c.call.seq c is

      known : ℕ
      known = known_after (w.nodes me.0).known reply

      fresh : Option Stamp
      fresh = fresh_stamp me c.stamp.view now (w.nodes me.0).boot known

      reading : Option Job
      reading = job_reading (w.nodes me.0).job c.call.seq

      scrub : Option Scrub
      scrub = scrub_of (w.nodes me.0).scrub c.call.seq

      decision : Next
      decision = on_reply setting.layout.block setting.code fresh c from call reply

      -- what is well of a decision
      IsWell : IsCall w me.0 c.call.seq c → Next → Type 0
      IsWell is =
          Goes setting views sound w stamps me c known books said is (known_grows (w.nodes me.0).known reply) fresh
          (λ t new. fresh_says setting w me c.stamp.view now known t (some is) books (known_grows (w.nodes me.0).known reply) new)
          (λ t new. ap (λ (z : Stamp). z.view) (fresh_is me c.stamp.view now (w.nodes me.0).boot known t new).0)

      goes : (is : IsCall w me.0 c.call.seq c) → IsWell is decision
      goes is =
          reply_goes setting views sound w stamps me c known books said is (known_grows (w.nodes me.0).known reply) fresh
          (λ t new. fresh_says setting w me c.stamp.view now known t (some is) books (known_grows (w.nodes me.0).known reply) new)
          (λ t new. ap (λ (z : Stamp). z.view) (fresh_is me c.stamp.view now (w.nodes me.0).boot known t new).0) from call reply sent

      -- it is carried out
      carries : (is : IsCall w me.0 c.call.seq c) (z : Next) → IsWell is z → ClosesNone reading scrub z
          → IsSaid setting views (stepped setting w me (carried_out setting me (w.nodes me.0) known c z))
      carries is Ignores well none = well
      carries is (Waits d) well none = well
      carries is (Sends d) well none = well
      carries is (Makes d) well none = well
      carries is (Ends answer seen stored) well none =
          (let neither = none answer seen stored refl in (
            stamps,
            said_ended setting views w stamps me c known books said is (known_grows (w.nodes me.0).known reply) answer seen stored
                (call_marked setting w me.0 c.call.seq c (books.calls me.0 c.call.seq c is) neither.0 neither.1) well,
          ))

      in_call : IsCall w me.0 c.call.seq c
          → IsSaid setting views (stepped setting w me (replied_noted setting me now from (w.nodes me.0) call reply (Some c)))
      in_call is =
          closing_each (IsSaid setting views) setting w me now known c decision reading scrub (carries is decision (goes is))
          (λ job reads answer seen stored ends.
          let mine = reading_is (w.nodes me.0).job c.call.seq job reads in
          said_after_read setting views w stamps me now c known books said is (known_grows (w.nodes me.0).known reply) answer seen stored job reads
          (subst (λ (z : Next). IsWell is z) ends (goes is))
          (books_closing setting w me now from call reply c books is ForJob (job_seq (w.nodes me.0).job job c.call.seq mine.0 mine.1) answer seen stored ends))
          (λ s none found answer seen stored ends.
          let mine = scrub_is (w.nodes me.0).scrub c.call.seq s found in
          let seq : own_seq (w.nodes me.0) ForScrub ≡ Some c.call.seq = scrub_seq (w.nodes me.0).scrub s c.call.seq mine.0 mine.1 in
          let unmarked = call_unmarked setting w me.0 c.call.seq c (books.calls me.0 c.call.seq c is) (own_books setting w books me.0 c.call.seq ForScrub seq) in (
            stamps,
            said_scrubless setting views (closed_world setting w me known c answer seen stored) stamps me now
                (books_closing setting w me now from call reply c books is ForScrub seq answer seen stored ends)
                (said_closed setting views w stamps me c known books said is (known_grows (w.nodes me.0).known reply) answer seen stored unmarked
                (subst (λ (z : Next). IsWell is z) ends (goes is)))
                (closed_no_read setting w me known c answer seen stored ForScrub seq) c.call (members_alone c.only)
                (scrub_answer s.lagging (abort_cause answer) stored),
          ))

-- a brick does what it does with a reply to an open operation, or to its proposal
replied_said : (setting : Setting) (views : Views) (w : World) (stamps : Stamping) → Books setting w → Said setting views w stamps → (me from : BrickId) (now : ℕ)
    (call : Call) (reply : Reply) (found : Option Coordinator) → IsSound setting
    → WasSent w (record { from = from; to = me; message = Message.Reply call reply }) → (w.nodes me.0).calls call.seq ≡ found
    → IsSaid setting views (stepped setting w me (replied_at setting me now from (w.nodes me.0) call reply found))
replied_said setting views w stamps books said me from now call reply found sound sent is =
    noting_each (IsSaid setting views) setting w me now from call reply found
    (let node : Node = noted_by setting me now from (w.nodes me.0) call reply found in
    let keeps = noted_keeps setting me now from (w.nodes me.0) call reply found in
    noted_said setting views (kept_world w me node) stamps (books_kept setting w me node books keeps)
    (said_kept setting views w stamps me books said node
    (said_placed setting views w stamps me books said node [] (noted_places setting me now from (w.nodes me.0) call reply found) keeps
    (each_none (PacketSays setting views _ stamps))))
    me from now call reply found sound sent
    (ap (λ (n : Node). n.calls call.seq) (put_same w.nodes me.0 node) ∙ keeps.1 call.seq ∙ is))

module _ (setting : Setting) (views : Views) (w : World) (stamps : Stamping) (books : Books setting w) (stamped : StampViews setting.layout w)
    (follows : Follows setting.layout views w) (said : Said setting views w stamps) where
  -- a brick tells that it serves the view of a call no more
  moved_says : (me from : BrickId) (call : Call) (moved : Reply) (next : World) → moved_at (w.nodes me.0) call ≡ Some moved
      → OfEach (PacketSays setting views next stamps) (reply_packets me from call (Some moved))
  moved_says me from call moved next is =
      each_one (PacketSays setting views next stamps) (record { from = me; to = from; message = Message.Reply call moved }) []
      (moved_each (λ (r : Reply). PacketSays setting views next stamps (record { from = me; to = from; message = Message.Reply call r })) (w.nodes me.0) call moved
      (λ later. tt) (λ most has. tt) is)
      (each_none (PacketSays setting views next stamps))

  -- or what it keeps in that
  told_says : (me from : BrickId) (call : Call) (request : Request) (said_so : Reply) → WasSent w (record { from = from; to = me; message = Message.Request call request })
      → IsTold (w.nodes me.0) call request said_so
      → OfEach (PacketSays setting views (quiet w me (w.nodes me.0) (reply_packets me from call (Some said_so))) stamps) (reply_packets me from call (Some said_so))
  told_says me from call request said_so sent = ⊎_elim
      (λ (moved : moved_at (w.nodes me.0) call ≡ Some said_so). moved_says me from call said_so _ moved)
      (λ (old : TellsOld (w.nodes me.0) call request said_so).
      let next : World = quiet w me (w.nodes me.0) (reply_packets me from call (Some said_so)) in
      each_one (PacketSays setting views next stamps) (record { from = me; to = from; message = Message.Reply call said_so }) []
      (stays_packet setting views w next stamps stamps books
      (quiet_grows w stamps stamps me (w.nodes me.0) (reply_packets me from call (Some said_so)) (stamps_same stamps) said.logged
      (keeps_same (w.nodes me.0) (w.nodes me.0) (refl, refl, refl)))
      (record { from = me; to = from; message = Message.Reply call said_so })
      (old_reply_says setting views w stamps me from call stamped said old.bound
      (subst (λ (r : Request). WasSent w (record { from = from; to = me; message = Message.Request call r })) old.asked sent)
      said_so old.known old.says))
      (each_none (PacketSays setting views next stamps)))

  -- and its vote on a ballot
  vote_says : (me from : BrickId) (call : Call) (ballot : Ballot) (asked : Option (List BrickId)) (next : World)
      → OfEach (PacketSays setting views next stamps) (reply_packets me from call (Some (vote_at (w.nodes me.0) call ballot asked).reply))
  vote_says me from call ballot asked next =
      each_one (PacketSays setting views next stamps) (record { from = me; to = from; message = Message.Reply call (vote_at (w.nodes me.0) call ballot asked).reply }) []
      (vote_each (λ (v : Voted). PacketSays setting views next stamps (record { from = me; to = from; message = Message.Reply call v.reply })) call.view.0
      ((w.nodes me.0).learnt call.group.0) ((w.nodes me.0).ballots call.group.0) ballot asked (λ later. tt) (λ most not. tt) (λ greater most is. tt) tt
      (λ list is. tt))
      (each_none (PacketSays setting views next stamps))

  -- a request is delivered
  request_said : (me from : BrickId) (call : Call) (request : Request) → WasSent w (record { from = from; to = me; message = Message.Request call request })
      → Said setting views (stepped setting w me (requested setting me from (w.nodes me.0) call request)) stamps
  request_said me from call request sent =
      request_each (λ step. Said setting views (stepped setting w me step) stamps) setting me from (w.nodes me.0) call request
      (nothing_said setting views w stamps me books said)
      (λ moved is. said_placed setting views w stamps me books said (w.nodes me.0) (reply_packets me from call (Some moved)) (refl, refl, refl)
      (keeps_itself (w.nodes me.0)) (told_says me from call request moved sent is))
      (handled_said setting views w stamps me from call request books stamped follows said sent)
      (λ group ballot asked here. said_voted setting views w stamps me books said call ballot asked
      (reply_packets me from call (Some (vote_at (w.nodes me.0) call ballot asked).reply)) (vote_says me from call ballot asked _))

  -- a request is handled, and its reply is lost
  request_kept : (me from : BrickId) (call : Call) (request : Request) → WasSent w (record { from = from; to = me; message = Message.Request call request })
      → Said setting views (quiet w me (requested setting me from (w.nodes me.0) call request).node []) stamps
  request_kept me from call request sent =
      request_each (λ step. Said setting views (quiet w me step.node []) stamps) setting me from (w.nodes me.0) call request
      (nothing_said setting views w stamps me books said) (λ moved is. nothing_said setting views w stamps me books said)
      (kept_said setting views w stamps me from call request books stamped follows said sent)
      (λ group ballot asked here. said_voted setting views w stamps me books said call ballot asked [] (each_none (PacketSays setting views _ stamps)))

  -- a reply is delivered
  reply_said : (me from : BrickId) (now : ℕ) (call : Call) (reply : Reply) → IsSound setting
      → WasSent w (record { from = from; to = me; message = Message.Reply call reply })
      → IsSaid setting views (stepped setting w me (heard setting me now from (w.nodes me.0) call reply))
  reply_said me from now call reply sound sent =
      hearing_each (IsSaid setting views) setting w me now from call reply (
        stamps,
        said_placed setting views w stamps me books said (with_known (with_round (w.nodes me.0) reply) (known_after (w.nodes me.0).known reply)) []
            (refl, refl, refl) (record { boot = refl; seq = omega arith; known = known_grows (w.nodes me.0).known reply }, λ l. refl, refl, refl)
            (each_none (PacketSays setting views _ stamps)),
      )
      (λ fit.
      let node : Node = taught_by setting w me from call reply in
      let keeps = hearing_keeps setting w me from call reply in
      replied_said setting views (kept_world w me node) stamps (books_kept setting w me node books keeps)
      (said_kept setting views w stamps me books said node
      (said_taught setting views w stamps me books said sound (stamped.nodes me.0) call.group.0 (with_round (w.nodes me.0) reply).round
      (view_counted setting.layout from (w.nodes me.0) call reply)))
      me from now call reply ((w.nodes me.0).calls call.seq) sound sent
      (ap (λ (n : Node). n.calls call.seq) (put_same w.nodes me.0 node) ∙ keeps.1 call.seq))

  -- a message is delivered
  message_said : (me from : BrickId) (now : ℕ) (message : Message) → IsSound setting → WasSent w (record { from = from; to = me; message = message })
      → IsSaid setting views (stepped setting w me (received setting me now (w.nodes me.0) (record { from = from; to = me; message = message })))
  unfolding received
  message_said me from now (Message.Request call request) sound sent = (stamps, request_said me from call request sent)
  message_said me from now (Message.Reply call reply) sound sent = reply_said me from now call reply sound sent
  message_said me from now (Message.Learn group view) sound sent =
      (stamps, said_learnt setting views w stamps me books said sound (stamped.nodes me.0) group view)
  message_said me from now (Message.Synced group number) sound sent =
      (stamps, said_synced setting views w stamps me books said sound (stamped.nodes me.0) group number)
  message_said me from now message sound sent = (stamps, nothing_said setting views w stamps me books said)

  -- what a brick keeps of a message
  kept_message_said : (me from to : BrickId) (message : Message) → IsSound setting → WasSent w (record { from = from; to = me; message = message })
      → Said setting views (quiet w me (kept_of setting me (w.nodes me.0) (record { from = from; to = to; message = message })) []) stamps
  unfolding kept_of
  kept_message_said me from to (Message.Request call request) sound sent = request_kept me from call request sent
  kept_message_said me from to (Message.Reply call reply) sound sent =
      cond_both (lists_fit setting.layout call reply) (node_taught_by setting.layout.block call.group.0 (w.nodes me.0) (view_told reply)) (w.nodes me.0)
      (λ (n : Node). Said setting views (quiet w me n []) stamps)
      (λ fit. said_taught setting views w stamps me books said sound (stamped.nodes me.0) call.group.0 (w.nodes me.0).round (view_told reply))
      (λ isnt. nothing_said setting views w stamps me books said)
  kept_message_said me from to (Message.Learn group view) sound sent =
      said_learnt setting views w stamps me books said sound (stamped.nodes me.0) group view
  kept_message_said me from to (Message.Synced group number) sound sent =
      said_synced setting views w stamps me books said sound (stamped.nodes me.0) group number
  kept_message_said me from to message sound sent = nothing_said setting views w stamps me books said

  -- what the store of a stopped brick may hold says what it should
  left_said : (me : BrickId) (node : Node) → IsSound setting → IsLeft setting w me.0 node → Said setting views (quiet w me node []) stamps
  left_said me node sound left = ⊎_elim
      (λ (same : node ≡ w.nodes me.0).
      subst (λ (z : Node). Said setting views (quiet w me z []) stamps) (sym same) (nothing_said setting views w stamps me books said))
      (λ (handled : (packet : Packet) × (packet.to ≡ me) × WasSent w packet × (node ≡ kept_of setting me (w.nodes me.0) packet)).
      let packet : Packet = handled.0 in
      subst (λ (z : Node). Said setting views (quiet w me z []) stamps) (sym handled.3)
      (kept_message_said me packet.from packet.to packet.message sound
      (subst (λ (to : BrickId). WasSent w (record { from = packet.from; to = to; message = packet.message })) handled.1 handled.2)))
      left

  -- so does the brick that starts with it
  found_said : (me : BrickId) (found : Found) → IsSound setting → w.up me.0 ≡ false → Leaves setting w
      → Said setting views (world_found w me found) stamps
  found_said me Before sound down leaves = said
  found_said me After sound down leaves =
      said_kept setting views w stamps me books said (w.after me.0) (left_said me (w.after me.0) sound (leaves me.0 down))

-- a brick that may begin a synchronisation has none
pub no_job : (job : Option Job) (group : Option Group) → not (is_some (sync_refusal_in job group)) ≡ true → job ≡ None
no_job None group may = refl
no_job (Some job) None may = absurd (false≢true may)
no_job (Some job) (Some group) may = absurd (false≢true may)

module _ (setting : Setting) (views : Views) where
  -- a packet is delivered
  delivery_said : (w : World) (stamps : Stamping) (number : ℕ) (packet : Packet) → IsSound setting → Books setting w → StampViews setting.layout w
      → Follows setting.layout views w → Said setting views w stamps → WasSent w packet → IsSaid setting views (world_handled setting w number packet)
  delivery_said w stamps number packet sound books stamped follows said sent =
      message_said setting views (world_counting setting w number packet) stamps
      (books_beside setting w (replies_with setting w packet) (put w.reached number true) (voiced setting w packet) books)
      (record { nodes = stamped.nodes; after = stamped.after; packets = stamped.packets })
      (record { limits = follows.limits; distinct = follows.distinct; learnt = follows.learnt; prior = follows.prior; passed = follows.passed })
      (said_beside setting views w stamps w.clocks (replies_with setting w packet) (put w.reached number true) (voiced setting w packet) books said)
      packet.to packet.from (w.clocks packet.to.0) packet.message sound sent

  -- a brick's clock ticks
  ticked_said : (w : World) (stamps : Stamping) (me : BrickId) → Books setting w → Said setting views w stamps
      → Said setting views (world_ticked setting w me) stamps
  ticked_said w stamps me books said =
      let more : List Packet = ticked setting me (w.nodes me.0) in
      said_added setting views w stamps w.clocks w.replies w.reached (w.packets ++ more) w.choices books said
      (λ packet sent. (sent.0, get_kept w.packets more sent.0 packet sent.1))
      (λ packet sent. ⊎_elim
      (λ (old : slice_get w.packets sent.0 ≡ Some packet). inl (sent.0, old))
      (λ (new : (j : ℕ) × (slice_get more j ≡ Some packet)).
      ticked_was_sent setting views w (record w { packets = w.packets ++ more }) stamps me said new.0 packet new.1)
      (get_grown w.packets more sent.0 packet sent.1))

  -- a brick stops
  stopped_said : (w : World) (stamps : Stamping) (me : BrickId) (during : Option ℕ) → Books setting w → Said setting views w stamps
      → Said setting views (world_stopped setting w me during) stamps
  unfolding stopped
  stopped_said w stamps me during books said =
      let crash : Mark = Crash (length w.marks) me in
      let longer : length (w.marks ++ (crash ∷ [])) ≡ length w.marks + 1 = length-append w.marks (crash ∷ []) in
      said_idle setting views w stamps me.0 (stopped (w.nodes me.0))
      (put w.after me.0 (left_after setting me (w.nodes me.0) (packet_during w.packets during))) (put w.up me.0 false) w.past (w.marks ++ (crash ∷ []))
      (reached_during w me during) books said (refl, refl, refl) (λ k. refl) refl
      (ages_within (w.nodes me.0) (stopped (w.nodes me.0)) refl (omega arith) (omega arith)) (omega arith)
      (λ a. last_grows w.marks crash a (λ k mark at. let place = books.places k mark at in omega (arith, place)) refl)
      (λ k p n answer at. ⊎_elim
      (λ (old : slice_get w.marks k ≡ Some (End p n answer)). old)
      (λ (new : (j : ℕ) × (slice_get (crash ∷ []) j ≡ Some (End p n answer))).
      let bad : crash ≡ End p n answer = get_one crash (End p n answer) new.0 new.1 in absurd (let never : ⊥ = cc in never))
      (get_grown w.marks (crash ∷ []) k (End p n answer) at))

  -- a stopped brick is started again: no stamp of its new boot is known
  started_said : (w : World) (stamps : Stamping) (me : BrickId) (openings : ℕ) → Books setting w → Said setting views w stamps
      → 1 ≤ openings → Said setting views (world_started w me openings) stamps
  unfolding restarted
  started_said w stamps me openings books said some =
      said_idle setting views w stamps me.0 (restarted openings (w.nodes me.0)) w.after (put w.up me.0 true)
      (put w.past me.0 (put (w.past me.0) (w.nodes me.0).boot (w.nodes me.0).known)) w.marks w.reached books said (refl, refl, refl) (λ k. refl) refl
      (record { boot = omega arith; known = λ same. absurd (omega arith); seq = λ same. absurd (omega arith) }) (omega arith) (λ a. omega arith)
      (λ k p n answer at. at)

  -- an operation is invoked
  invoked_said : (w : World) (stamps : Stamping) (me : BrickId) (ask : Ask) → Books setting w → StampViews setting.layout w
      → Follows setting.layout views w → Said setting views w stamps → may_begin setting w me ask ≡ true → IsSaid setting views (world_began w me ask (invoked setting me (w.clocks me.0) (w.nodes me.0) ask))
  unfolding invoked
  invoked_said w stamps me ask books stamped follows said may =
      let fits : BeginFits setting ask = begin_fits setting w me ask may in
      let here : group_at setting.layout (w.nodes me.0) ask.group.0 ≡ Some (group_there (w.nodes me.0) ask fits.group) = fits_at setting (w.nodes me.0) ask fits in
      subst (λ (z : Option Group). IsSaid setting views (world_began w me ask (began setting me (w.clocks me.0) (w.nodes me.0) ask z)))
      (sym here) (said_began setting views w stamps me ask (group_there (w.nodes me.0) ask fits.group) books ((stamped.nodes me.0).views ask.group.0) follows said (group_learnt setting.layout views w me.0 ask.group.0 follows ∙ here))

  -- a scrub begins
  scrub_said : (w : World) (stamps : Stamping) (me : BrickId) (now : ℕ) (number : GroupId) (stripe : StripeNo) (members : List BrickId) → Books setting w
      → StampViews setting.layout w → Follows setting.layout views w → Said setting views w stamps
      → IsSaid setting views (world_stepped setting w me (scrubbed_at setting me now (w.nodes me.0) number stripe members))
  scrub_said w stamps me now number stripe members books stamped follows said =
      scrubbed_at_each (λ (step : NodeStep). IsSaid setting views (world_stepped setting w me step)) setting me now (w.nodes me.0) number stripe members
      (stamps, said_known setting views w stamps me (w.nodes me.0).known books said (omega arith))
      (λ kept is.
      said_scrub setting views w stamps me now number stripe members kept books said ((stamped.nodes me.0).views number.0) follows
      (group_learnt setting.layout views w me.0 number.0 follows ∙ is))

  -- every event keeps the invariant
  said_cases : IsSound setting → (w : World) → Leaves setting w × Books setting w × Follows setting.layout views w × StampViews setting.layout w → IsSaid setting views w
      → EventCases setting w (IsSaid setting views)
  unfolding sync_refusal
  said_cases sound w known said =
      let books : Books setting w = known.1 in
      record {
        begins = λ brick ask may. invoked_said w said.0 brick ask books known.3 known.2 said.1 may;
        proposes = λ brick group members may. (said.0, proposed_said setting views w said.0 books said.1 brick group members);
        syncs = λ brick group may.
            said_syncs setting views w said.0 brick (w.clocks brick.0) books said.1 group
            (no_job (w.nodes brick.0).job (group_of setting.layout group.0)
            (and_parts (is_up setting.layout w brick) (not (is_some (sync_refusal setting.layout (w.nodes brick.0) group.0))) may).1)
            ((known.3.nodes brick.0).views group.0) known.2;
        scrubs = λ brick group stripe members may.
            scrub_said w said.0 brick (w.clocks brick.0) group stripe members books known.3 known.2 said.1;
        handles = λ number packet at up. delivery_said w said.0 number packet sound books known.3 known.2 said.1 (packet_was_sent w number packet at);
        sets = λ brick time is. (said.0, said_beside setting views w said.0 (put w.clocks brick.0 time) w.replies w.reached w.choices books said.1);
        ticks = λ brick up. (said.0, ticked_said w said.0 brick books said.1);
        stops = λ brick during up. (said.0, stopped_said w said.0 brick during books said.1);
        starts = λ brick openings found may.
            (let fits = start_fits setting w brick openings may in (
              said.0,
              started_said (world_found w brick found) said.0 brick openings (books_found setting w brick found fits.0 known.0 books)
                  (found_said setting views w said.0 books known.3 known.2 said.1 brick found sound fits.0 known.0) fits.1,
            ));
      }

-- the first world
module _ (setting : Setting) (views : Views) where
  said_first : IsSound setting → Follows setting.layout views (first_world setting.layout)
      → IsSaid setting views (first_world setting.layout)
  said_first sound follows = (
    (λ i b k p. None),
    record {
      limits = follows.limits;
      distinct = follows.distinct;
      stamps_say = record { are = λ i b k p t is. cc; begun = λ i b k p t is. cc; apart = λ i b k l p q t is its. cc };
      tops = λ g e s i. inl (cond_both (nat_eq e 1) (first_replica setting.layout.block) _ (λ (r : Replica). top_of r ≡ first_stamp)
          (λ one. first_top setting.layout.block) (λ other. top_is_order _ refl));
      first_held = λ g s i. or_left (stamp_same first_stamp first_stamp) false (stamp_same_refl first_stamp);
      logs = λ g e s i k version.
          cond_both (nat_eq e 1) (first_replica setting.layout.block) _
          (λ (r : Replica). slice_get r.log k ≡ Some version → VersionSays setting views (first_world setting.layout) g e s i version)
          (λ one is.
          let same : record { stamp = first_stamp; block = replicate setting.layout.block 0 } ≡ version
          = get_one (record { stamp = first_stamp; block = replicate setting.layout.block 0 }) version k is in
          subst (λ (z : Version). VersionSays setting views (first_world setting.layout) g e s i z) same (record {
            made = inl refl;
            block = λ group seat group_is at.
                sym (sound.zero_blocks group.m (length group.members) seat (follows.limits g e group group_is))
                ∙ ap (λ (z : Option Group). setting.code.encode group.m (zero_content setting.layout.block z) seat) (sym group_is)
                ∙ ap (λ (l : List ℕ). setting.code.encode group.m l seat) (zero_kept setting.layout.block (views g e) (group_of setting.layout g));
          }))
          (λ other is. absurd (let never : None ≡ Some version = is in cc));
      packets = λ k packet is. cc;
      operations = λ n o is. cc;
      calls = λ i k c is. cc;
      jobs = λ i job is. cc;
      ends = λ k p n answer is. cc;
      order = λ a b earlier late u earlier_is late_is groups stripes marked version. cc;
      first = λ g s. refl;
      lowest = λ g e s i x log within.
          cond_both (nat_eq e 1) (first_replica setting.layout.block) _
          (λ (r : Replica). r.log ≡ x ∷ log → IsBottom (first_world setting.layout) g e s i x.stamp ⊎ WasCollected (first_world setting.layout) g s x.stamp)
          (λ one is.
          let same : record { stamp = first_stamp; block = replicate setting.layout.block 0 } ≡ x = cc in
          inl (λ d of less held. false≢true (sym (stamp_below_first d) ∙ subst (λ (z : Version). stamp_below d z.stamp ≡ true) (sym same) less)))
          (λ other is. absurd (let never : [] ≡ x ∷ log = is in cc));
      held_made = λ g s i t.
          cond_both (nat_eq (view_of t) 1) (first_replica setting.layout.block) _
          (λ (r : Replica). is_held t r.log ≡ true → IsMadeOrFirst (first_world setting.layout) g s t)
          (λ one there. ⊎_elim
          (λ (first : stamp_same first_stamp t ≡ true). inl (sym (stamp_same_true first_stamp t first)))
          (λ (none : false ≡ true). absurd (false≢true none))
          (or_cases (stamp_same first_stamp t) false there))
          (λ other there. absurd (false≢true there));
      logged = first_fits setting;
    },
  )

  -- what a run follows, its front follows
  pub follows_front : (events earlier later : List Event) → RunFollows setting views events → events ≡ earlier ++ later
      → RunFollows setting views earlier
  follows_front events earlier later follows is front rest at =
      follows front (rest ++ later) (is ∙ ap (λ (l : List Event). l ++ later) at ∙ append_assoc front rest later)

  -- the invariant holds in every world that a run reaches, for every assignment of members to views that it follows
  pub always_said : (events : List Event) → IsSound setting → RunFollows setting views events
      → IsSaid setting views (run setting events (first_world setting.layout))
  always_said events sound follows =
      run_along (IsSaid setting views) (λ w. Leaves setting w × Books setting w × Follows setting.layout views w × StampViews setting.layout w) setting
      (said_cases setting views sound) events (first_world setting.layout)
      (λ earlier later is. (always_leaves setting earlier, books setting earlier, follows earlier later is, always_views setting earlier))
      (said_first sound (follows [] events refl))
