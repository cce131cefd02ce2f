-- Every event keeps the history of replies.
use Rattle.std.proofs.lemmas.List.{append-nil}
use Rattle.std.proofs.Common.{◌≡◌, ◌≢◌, ℕ, ◌+◌, ◌≤◌, inl, ⊎_elim, true, false, ap, Option, Some, None, List, [], ◌∷◌, ◌++◌, length, refl, sym, ◌∙◌, subst, arith, Bool}
use Rattle.std.specs.Prelude.{slice_get, if◌then◌else◌, not, is_some}
use Rattle.std.proofs.lemmas.Bool.{cases_eq, and_parts, false≢true}
use Rattle.fab_base.specs.declared.identities.BrickId.{BrickId}
use Rattle.fab_base.specs.declared.asks.Ask.{Ask}
use Rattle.fab_base.specs.declared.stamps.Stamp.{Stamp}
use Rattle.fab_base.specs.declared.answers.Answer.TheVariants.{Aborted}
use Rattle.messages.specs.declared.calls.Call.{Call}
use Rattle.messages.specs.declared.packets.Message.{Message}
use Rattle.messages.specs.declared.packets.Packet.{Packet}
use Rattle.messages.specs.declared.requests.Request.{Request}
use Rattle.messages.specs.declared.replies.Reply.{Reply}
use Rattle.reg_model.specs.declared.marks.Mark.{Mark}
use Rattle.reg_model.specs.declared.marks.Mark.TheVariants.{Begin, End, Crash}
use Rattle.fab_base.specs.Layouts.{Layout, Group, group_of}
use Rattle.protocol.specs.Views.{Views}
use Rattle.protocol.specs.Settings.{Setting, Code, IsSound}
use Rattle.protocol.specs.Replicas.{handle}
use Rattle.protocol.specs.Jobs.{Job, begun_job, job_after, abort_cause}
use Rattle.protocol.specs.Coordinators.{Coordinator, Next, Ignores, Ends, with_reply, once_full, counted_at, counts_at, on_reply, asked_group, dropper_of, request_of, hearing}
use Rattle.protocol.specs.Nodes.{Node, NodeStep, ticked, new_coordinator, put, no_step, fresh_stamp, began_in, began, opened, phase_packets, top_at, job_reading, sync_refusal, synced_at, invoked, with_replica, replica_at, full_at, reply_packets, requested, known_after, with_known, replied_at, replied, heard, received, vote_at, with_round, proposed, node_learnt, node_synced, lists_fit, scrub_of, scrubbed_at, members_alone, stopped, view_counted}
use Rattle.protocol.specs.Worlds.{World, is_up, world_stepped, Found, Before, After, Event, first_world, may_begin, number_of, world_stopped, world_found, world_started, world_began, counted_after, replies_at, replies_with, run, with_held, Choices, voiced}
use Rattle.protocol_laws.specs.Laws.{WasSent, RequestSent, RunFollows}
use Rattle.protocol.proofs.Served.{request_each}
use Rattle.protocol_laws.proofs.Books.{Books, IsCall, ForJob, ForScrub, own_seq}
use Rattle.protocol_laws.proofs.Left.{Leaves, always_leaves, found_down, packet_was_sent}
use Rattle.protocol_laws.proofs.BooksKept.{KeepsNumbers, KeepsCalls, keeps_all, keeps_itself, keeps_known, call_marked, reading_is, same_reads, scrub_is, job_seq, scrub_seq, own_called}
use Rattle.protocol_laws.proofs.Votes.{with_vote}
use Rattle.protocol_laws.proofs.Proposing.{ballot_each, proposed_each}
use Rattle.protocol_laws.proofs.Hearing.{kept_world, taught_by, replying_each}
use Rattle.protocol.specs.declared.phases.Counted.{Counted}
use Rattle.protocol.specs.declared.phases.Phase.{Phase}
use Rattle.protocol.specs.declared.phases.Phase.TheVariants.{LooksBack}
use Rattle.protocol.specs.Ballots.{Voted}
use Rattle.protocol.specs.declared.tellings.Report.{Report}
use Rattle.fab_base.specs.declared.identities.GroupId.{GroupId}
use Rattle.fab_base.specs.declared.identities.ViewNo.{ViewNo}
use Rattle.view_laws.proofs.Syncing.{synced_each}
use Rattle.protocol_laws.proofs.BooksQuiet.{started_calls, unstarted, started_known}
use Rattle.protocol_laws.proofs.BooksEnds.{stopped_keeps, stopped_calls, unstopped_calls}
use Rattle.protocol_laws.proofs.BooksEvents.{keeps_put, stepped, known_grows, BeginFits, begin_fits, found_keeps, books_found, books_kept, hearing_keeps, learnt_keeps, start_fits, books_beside, books, group_there, fits_at, books_closing, scrub_fits}
use Rattle.protocol_laws.proofs.Outcomes.{NextFits, once_full_fits}
use Rattle.protocol_laws.proofs.Said.{Stamping, Said, IsSaid, CountedSays}
use Rattle.protocol_laws.proofs.SaidAlways.{always_said, follows_front, no_job}
use Rattle.protocol_laws.proofs.OwnStamps.{asked_is, orders_alone, in_round}
use Rattle.protocol_laws.proofs.Counting.{each_then}
use Rattle.protocol.proofs.CountsAt.{CountsAt, counts_facts}
use Rattle.protocol.proofs.Tables.{put_each, put_same, get_kept, get_grown, get_one}
use Rattle.protocol_laws.proofs.Tallies.{Tallied, MessagesShow}
use Rattle.protocol_laws.proofs.TalliesKept.{call_tallied_on, known_kept, tallied_on, LagsAs, lags_same}
use Rattle.protocol_laws.proofs.TalliesReads.{tallied_quiet, tallied_opened, tallied_read, tallied_idle, tallied_after_close, tallied_scrub, tallied_after_scrub}
use Rattle.protocol_laws.proofs.Closing.{closing_each, closed_world, closed_no_read, carried_noted}
use Rattle.view_laws.proofs.SyncReads.{synced_at_each, scrubbed_at_each}
use Rattle.protocol_laws.proofs.TalliesCounts.{dropper_ahead, tallied_counted, tallied_closed}
use Rattle.protocol.proofs.Events.{EventCases, world_handled, run_along}
use Rattle.protocol.specs.Scrubs.{Scrub, scrub_answer, lagging_of}
use Rattle.fab_base.specs.declared.identities.StripeNo.{StripeNo}
use Rattle.protocol_laws.proofs.Noting.{noted_by, replied_noted, noting_each, noted_keeps, IsNoted, noted_is, noted_lags}
use Rattle.std.specs.Option.{option_map}
use Rattle.protocol_laws.proofs.Teaching.{told_each, learnt_each}
use Rattle.protocol.proofs.Puts.{put_other}

module _ (setting : Setting) (w : World) (books : Books setting w) (tallied : Tallied w) where
  -- a step that tells nothing and keeps a brick's calls and numbers, whatever it reports
  tallied_silent : (me : BrickId) (node : Node) (packets : List Packet) (reports : List Report) → KeepsCalls (w.nodes me.0) node
      → node.scrub ≡ (w.nodes me.0).scrub
      → (let step : NodeStep = record { node = node; packets = packets; told = []; answers = []; reports = reports } in
      MessagesShow (stepped setting w w.replies me step) → Tallied (stepped setting w w.replies me step))
  tallied_silent me node packets reports keeps scrubs shows =
      tallied_quiet setting w books tallied (put w.nodes me.0 node) (with_held w.held me.0 node) w.clocks (w.packets ++ packets) w.reached _ shows.orders_alone (keeps_put w me.0 node keeps.0)
      (λ j l. put_each (λ (x : ℕ) (y : Node). y.calls l ≡ (w.nodes x).calls l) w.nodes me.0 node (keeps.1 l) (λ x other. refl) j)
      (λ j l c is. lags_same (w.nodes j).scrub (put w.nodes me.0 node j).scrub c
      (put_each (λ (x : ℕ) (y : Node). y.scrub ≡ (w.nodes x).scrub) w.nodes me.0 node scrubs (λ x other. refl) j))
      (λ packet sent. (sent.0, get_kept w.packets packets sent.0 packet sent.1))

  tallied_no_step : (me : BrickId) → MessagesShow (stepped setting w w.replies me (no_step (w.nodes me.0)))
      → Tallied (stepped setting w w.replies me (no_step (w.nodes me.0)))
  tallied_no_step me = tallied_silent me (w.nodes me.0) [] [] (keeps_itself (w.nodes me.0)) refl

  -- a brick learns of a time
  tallied_known : (me : BrickId) (known : ℕ) → (w.nodes me.0).known ≤ known
      → MessagesShow (stepped setting w w.replies me (no_step (with_known (w.nodes me.0) known)))
      → Tallied (stepped setting w w.replies me (no_step (with_known (w.nodes me.0) known)))
  tallied_known me known grows = tallied_silent me (with_known (w.nodes me.0) known) [] [] (keeps_known (w.nodes me.0) known grows, λ l. refl, refl, refl) refl

  -- a request
  tallied_requested : (me from : BrickId) (call : Call) (request : Request)
      → MessagesShow (stepped setting w w.replies me (requested setting me from (w.nodes me.0) call request))
      → Tallied (stepped setting w w.replies me (requested setting me from (w.nodes me.0) call request))
  tallied_requested me from call request =
      request_each (λ (step : NodeStep). MessagesShow (stepped setting w w.replies me step) → Tallied (stepped setting w w.replies me step)) setting
      me from (w.nodes me.0) call request (tallied_no_step me)
      (λ moved is. tallied_silent me (w.nodes me.0) (reply_packets me from call (Some moved)) [] (keeps_itself (w.nodes me.0)) refl)
      (λ group seat here served.
      let reaction = handle setting.code group.m (full_at setting.layout.records (w.nodes me.0).live) seat (replica_at (w.nodes me.0) call) request in
      tallied_silent me (with_replica (w.nodes me.0) call reaction) (reply_packets me from call reaction.reply) []
      (record { boot = refl; seq = omega arith; known = omega arith }, λ l. refl, refl, refl) refl)
      (λ group ballot asked here.
      let vote : Voted = vote_at (w.nodes me.0) call ballot asked in
      tallied_silent me (with_vote (w.nodes me.0) call vote) (reply_packets me from call (Some vote.reply)) []
      (record { boot = refl; seq = omega arith; known = omega arith }, λ l. refl, refl, refl) refl)

  -- a brick begins a proposal
  tallied_proposed : (me : BrickId) (group : GroupId) (members : List BrickId)
      → MessagesShow (stepped setting w w.replies me (proposed setting me (w.nodes me.0) group members))
      → Tallied (stepped setting w w.replies me (proposed setting me (w.nodes me.0) group members))
  tallied_proposed me group members =
      proposed_each (λ (step : NodeStep). MessagesShow (stepped setting w w.replies me step) → Tallied (stepped setting w w.replies me step)) setting me
      (w.nodes me.0) group members (λ seq round proposal packets reports more are.
      tallied_silent me (record (w.nodes me.0) { seq = seq; round = round; proposal = proposal }) packets reports
      (record { boot = refl; seq = more; known = omega arith }, λ l. refl, refl, refl) refl)

  -- a reply to an open operation, once it is noted who lagged, or to a proposal
  tallied_noted : (me : BrickId) (now : ℕ) (from : BrickId) (call : Call) (reply : Reply) (found : Option Coordinator) → MessagesShow w
      → ((c : Coordinator) → found ≡ Some c → IsNoted setting me now from (w.nodes me.0) call reply c)
      → WasSent w (record { from = from; to = me; message = Message.Reply call reply }) → (w.nodes me.0).calls call.seq ≡ found
      → MessagesShow (stepped setting w (replies_at setting w me from call reply found) me (replied_noted setting me now from (w.nodes me.0) call reply found))
      → Tallied (stepped setting w (replies_at setting w me from call reply found) me (replied_noted setting me now from (w.nodes me.0) call reply found))
  unfolding on_reply
  tallied_noted me now from call reply found shows noted sent = at_call found noted
    where
      known : ℕ
      known = known_after (w.nodes me.0).known reply

      IsTalliedNext : World → Type 0
      IsTalliedNext next = MessagesShow next → Tallied next

      fresh : Coordinator → Option Stamp
      fresh c = fresh_stamp me c.stamp.view now (w.nodes me.0).boot known

      -- the world where this reply counts
      counting : ℕ → Call → Option ℕ → World
      counting n k z = record w { replies = counted_after w.replies n from k reply z }

      at_seat : (c : Coordinator) → IsCall w me.0 c.call.seq c → IsNoted setting me now from (w.nodes me.0) call reply c → (z : Option ℕ) → counts_at setting.layout.block c from.0 call reply ≡ z
          → IsTalliedNext (world_stepped setting (counting (number_of w me.0 call.seq) call z) me
          (carried_noted setting me now (w.nodes me.0) known c (counted_at setting.layout.block setting.code (fresh c) c from reply z)
          (job_reading (w.nodes me.0).job c.call.seq) (scrub_of (w.nodes me.0).scrub c.call.seq)))
      at_seat c is is_noted None none =
          closing_each IsTalliedNext setting (counting (number_of w me.0 call.seq) call None) me now known c Ignores (job_reading (w.nodes me.0).job c.call.seq)
          (scrub_of (w.nodes me.0).scrub c.call.seq)
          (λ isnt. tallied_known me known (known_grows (w.nodes me.0).known reply))
          (λ job reads answer seen stored ends. absurd (let never : Ignores ≡ Ends answer seen stored = ends in cc))
          (λ s reads scrubs answer seen stored ends. absurd (let never : Ignores ≡ Ends answer seen stored = ends in cc))
      at_seat c is is_noted (Some seat) counts =
          let facts : CountsAt setting.layout.block c from.0 call reply seat = counts_facts setting.layout.block c from.0 call reply seat counts in
          let next : Next = once_full setting.layout.block setting.code (fresh c) (with_reply c seat from reply) in
          let reading : Option Job = job_reading (w.nodes me.0).job c.call.seq in
          let scrub : Option Scrub = scrub_of (w.nodes me.0).scrub c.call.seq in
          let heard : World = counting (number_of w me.0 c.call.seq) c.call (Some seat) in
          let booked = books_beside setting w (counted_after w.replies (number_of w me.0 c.call.seq) from c.call reply (Some seat)) w.reached w.choices books in
          let decides : on_reply setting.layout.block setting.code (fresh c) c from call reply ≡ next
          = ap (λ (z : Option ℕ). counted_at setting.layout.block setting.code (fresh c) c from reply z) counts in
          let fits = once_full_fits setting.layout.block setting.code (fresh c) (with_reply c seat from reply) in
          let sent_it = subst (λ (k : Call). WasSent w (record { from = from; to = me; message = Message.Reply k reply })) facts.call_is sent in
          let its = books.calls me.0 c.call.seq c is in
          subst (λ (k : Call). IsTalliedNext (world_stepped setting (counting (number_of w me.0 k.seq) k (Some seat)) me
          (carried_noted setting me now (w.nodes me.0) known c next reading scrub))) (sym facts.call_is)
          (closing_each IsTalliedNext setting heard me now known c next reading scrub
          (λ none.
          tallied_counted setting w me now known c from reply seat books tallied shows is sent_it (known_grows (w.nodes me.0).known reply) facts.answers facts.may next fits
          (λ answer seen stored ends.
          let neither = none answer seen stored ends in
          call_marked setting w me.0 c.call.seq c its neither.0 neither.1)
          (λ s d sends at seq look.
          is_noted s d (decides ∙ sends) at seq look
          ∙ ap (λ (z : Option ℕ). lagging_of c.group.members (hearing c from reply z).counted) counts))
          (λ job reads answer seen stored ends.
          let mine = reading_is (w.nodes me.0).job c.call.seq job reads in
          let seq : own_seq (w.nodes me.0) ForJob ≡ Some c.call.seq = job_seq (w.nodes me.0).job job c.call.seq mine.0 mine.1 in
          tallied_after_close setting (closed_world setting heard me known c answer seen stored) me now job
          (job_after c.group.stripes job.attempt (abort_cause answer))
          (books_closing setting heard me now from call reply c booked is ForJob seq answer seen stored (decides ∙ ends))
          (closed_no_read setting heard me known c answer seen stored ForJob seq)
          (tallied_closed setting w me now known c from reply seat books tallied shows is sent_it (known_grows (w.nodes me.0).known reply) facts.answers facts.may answer
          seen stored (subst (λ (z : Next). NextFits (fresh c) (with_reply c seat from reply) z) ends fits).1))
          (λ s reads scrubs answer seen stored ends.
          let mine = scrub_is (w.nodes me.0).scrub c.call.seq s scrubs in
          let seq : own_seq (w.nodes me.0) ForScrub ≡ Some c.call.seq = scrub_seq (w.nodes me.0).scrub s c.call.seq mine.0 mine.1 in
          tallied_after_scrub setting (closed_world setting heard me known c answer seen stored) me c.call (members_alone c.only)
          (scrub_answer s.lagging (abort_cause answer) stored)
          (books_closing setting heard me now from call reply c booked is ForScrub seq answer seen stored (decides ∙ ends))
          (tallied_closed setting w me now known c from reply seat books tallied shows is sent_it (known_grows (w.nodes me.0).known reply) facts.answers facts.may answer
          seen stored (subst (λ (z : Next). NextFits (fresh c) (with_reply c seat from reply) z) ends fits).1)))

      at_call : (z : Option Coordinator) → ((c : Coordinator) → z ≡ Some c → IsNoted setting me now from (w.nodes me.0) call reply c)
          → (w.nodes me.0).calls call.seq ≡ z
          → MessagesShow (stepped setting w (replies_at setting w me from call reply z) me (replied_noted setting me now from (w.nodes me.0) call reply z))
          → Tallied (stepped setting w (replies_at setting w me from call reply z) me (replied_noted setting me now from (w.nodes me.0) call reply z))
      at_call None is_noted none =
          ballot_each (λ (step : NodeStep). MessagesShow (stepped setting w w.replies me step) → Tallied (stepped setting w w.replies me step)) setting.layout me from
          (with_known (w.nodes me.0) known) call reply (w.nodes me.0).proposal (λ seq round proposal packets reports more are.
          tallied_silent me (record (w.nodes me.0) { known = known; seq = seq; round = round; proposal = proposal }) packets reports
          (record { boot = refl; seq = more; known = known_grows (w.nodes me.0).known reply }, λ l. refl, refl, refl) refl)
      at_call (Some c) is_noted is =
          at_seat c (subst (λ (l : ℕ). IsCall w me.0 l c) (sym (books.calls me.0 call.seq c is).call_seq) is) (is_noted c refl) (counts_at setting.layout.block c from.0 call reply) refl

-- what messages show does not change where a brick keeps what it is now, and has the calls that it had
shows_kept : (w : World) (me : BrickId) (node : Node) → ((i k : ℕ) → ((kept_world w me node).nodes i).calls k ≡ (w.nodes i).calls k) → MessagesShow w
    → MessagesShow (kept_world w me node)
shows_kept w me node calls shows = record {
  later = shows.later;
  orders_alone = shows.orders_alone;
  in_round = λ i k c to t is. shows.in_round i k c to t (sym (calls i k) ∙ is);
  counted = λ i k c is. shows.counted i k c (sym (calls i k) ∙ is);
  kept = λ i k c is. shows.kept i k c (sym (calls i k) ∙ is);
  asks_back = λ i k c is. shows.asks_back i k c (sym (calls i k) ∙ is);
}

-- the replies that count are as they would be in the world in which a brick keeps what it is now, where it has the boot that it had
replies_kept : (setting : Setting) (w : World) (me : BrickId) (node : Node) (from : BrickId) (call : Call) (reply : Reply) (found : Option Coordinator)
    → node.boot ≡ (w.nodes me.0).boot → replies_at setting (kept_world w me node) me from call reply found ≡ replies_at setting w me from call reply found
replies_kept setting w me node from call reply None same = refl
replies_kept setting w me node from call reply (Some c) same =
    ap (λ (b : ℕ). counted_after w.replies (w.numbers me.0 b call.seq) from call reply (counts_at setting.layout.block c from.0 call reply))
    (ap (λ (n : Node). n.boot) (put_same w.nodes me.0 node) ∙ same)

-- a brick that hears that a view is synced has the calls that it had
synced_calls : (layout : Layout) (node : Node) (group : GroupId) (number : ViewNo) → KeepsCalls node (node_synced layout node group number)
synced_calls layout node group number =
    synced_each (λ (n : Node). KeepsCalls node n) layout node group number (keeps_itself node)
    (λ now unsynced. (record { boot = refl; seq = omega arith; known = omega arith }, λ l. refl, refl, refl))

module _ (setting : Setting) (w : World) (books : Books setting w) (tallied : Tallied w) where
  tallied_kept : (me : BrickId) (node : Node) → KeepsCalls (w.nodes me.0) node
      → ((c : Coordinator) → IsCall w me.0 c.call.seq c → LagsAs (w.nodes me.0).scrub node.scrub c) → MessagesShow w → MessagesShow (kept_world w me node) × Tallied (kept_world w me node)
  tallied_kept me node keeps lags shows =
      let calls : (i k : ℕ) → ((kept_world w me node).nodes i).calls k ≡ (w.nodes i).calls k
      = λ j l. put_each (λ (x : ℕ) (y : Node). y.calls l ≡ (w.nodes x).calls l) w.nodes me.0 node (keeps.1 l) (λ x other. refl) j in
      let shown = shows_kept w me node calls shows in (
        shown,
        tallied_quiet setting w books tallied (put w.nodes me.0 node) (with_held w.held me.0 node) w.clocks w.packets w.reached _ shown.orders_alone
            (keeps_put w me.0 node keeps.0) calls
            (λ j l c is.
            let at : IsCall w j c.call.seq c = subst (λ (m : ℕ). IsCall w j m c) (sym (books.calls j l c is).call_seq) is in
            put_each (λ (x : ℕ) (y : Node). IsCall w x c.call.seq c → LagsAs (w.nodes x).scrub y.scrub c) w.nodes me.0 node (λ mine. lags c mine)
            (λ x other mine. lags_same (w.nodes x).scrub (w.nodes x).scrub c refl) j at)
            (λ packet sent. sent),
      )

module _ (setting : Setting) (w : World) (books : Books setting w) (tallied : Tallied w) where
  -- a reply to an open operation, or to a proposal
  tallied_replied : (me : BrickId) (now : ℕ) (from : BrickId) (call : Call) (reply : Reply) (found : Option Coordinator) → MessagesShow w
      → WasSent w (record { from = from; to = me; message = Message.Reply call reply }) → (w.nodes me.0).calls call.seq ≡ found
      → MessagesShow (stepped setting w (replies_at setting w me from call reply found) me (replied_at setting me now from (w.nodes me.0) call reply found))
      → Tallied (stepped setting w (replies_at setting w me from call reply found) me (replied_at setting me now from (w.nodes me.0) call reply found))
  tallied_replied me now from call reply found shows sent is =
      let counted : ℕ → ℕ → List Counted = replies_at setting w me from call reply found in
      let node : Node = noted_by setting me now from (w.nodes me.0) call reply found in
      let keeps = noted_keeps setting me now from (w.nodes me.0) call reply found in
      let kept = tallied_kept setting w books tallied me node keeps (λ c at. noted_lags setting w books me now from call reply found c is at) shows in
      let y : World = kept_world w me node in
      noting_each (λ (next : World). MessagesShow next → Tallied next) setting (record w { replies = counted }) me now from call reply found
      (subst
      (λ (r : ℕ → ℕ → List Counted).
      MessagesShow (stepped setting y r me (replied_noted setting me now from (y.nodes me.0) call reply found))
      → Tallied (stepped setting y r me (replied_noted setting me now from (y.nodes me.0) call reply found)))
      (replies_kept setting w me node from call reply found keeps.0.boot)
      (tallied_noted setting y (books_kept setting w me node books keeps) kept.1 me now from call reply found kept.0
      (λ c found_is. subst (λ (n : Node). IsNoted setting me now from n call reply c) (sym (put_same w.nodes me.0 node))
      (subst (λ (z : Option Coordinator). IsNoted setting me now from (noted_by setting me now from (w.nodes me.0) call reply z) call reply c) (sym found_is)
      (noted_is setting w books me now from call reply c))) sent
      (ap (λ (n : Node). n.calls call.seq) (put_same w.nodes me.0 node) ∙ keeps.1 call.seq ∙ is)))

module _ (setting : Setting) (w : World) (books : Books setting w) (tallied : Tallied w) where
  -- a reply is heard
  tallied_heard : (me : BrickId) (now : ℕ) (from : BrickId) (call : Call) (reply : Reply) → MessagesShow w
      → WasSent w (record { from = from; to = me; message = Message.Reply call reply })
      → (let replies = if lists_fit setting.layout call reply then replies_at setting w me from call reply ((w.nodes me.0).calls call.seq) else w.replies in
      MessagesShow (stepped setting w replies me (heard setting me now from (w.nodes me.0) call reply))
      → Tallied (stepped setting w replies me (heard setting me now from (w.nodes me.0) call reply)))
  tallied_heard me now from call reply shows sent = by (lists_fit setting.layout call reply)
    where
      known : ℕ
      known = known_after (w.nodes me.0).known reply

      unheard : NodeStep
      unheard = no_step (with_known (with_round (w.nodes me.0) reply) known)

      counted : ℕ → ℕ → List Counted
      counted = replies_at setting w me from call reply ((w.nodes me.0).calls call.seq)

      IsTalliedNext : World → Type 0
      IsTalliedNext next = MessagesShow next → Tallied next

      replies_heard : IsTalliedNext (stepped setting w counted me (replied setting me now from (w.nodes me.0) call reply))
      replies_heard =
          let node : Node = taught_by setting w me from call reply in
          let keeps = hearing_keeps setting w me from call reply in
          let kept = tallied_kept setting w books tallied me node keeps
          (λ c at. lags_same (w.nodes me.0).scrub node.scrub c
          (told_each (λ (n : Node). n.scrub ≡ (w.nodes me.0).scrub) setting.layout.block call.group.0 (with_round (w.nodes me.0) reply)
          (view_counted setting.layout from (w.nodes me.0) call reply) refl (λ v later. refl))) shows in
          let x : World = kept_world w me node in
          let found : Option Coordinator = (w.nodes me.0).calls call.seq in
          replying_each IsTalliedNext setting (record w { replies = counted }) me now from call reply
          (subst (λ (r : ℕ → ℕ → List Counted). IsTalliedNext (stepped setting x r me (replied_at setting me now from (x.nodes me.0) call reply found)))
          (replies_kept setting w me node from call reply found keeps.0.boot)
          (tallied_replied setting x (books_kept setting w me node books keeps) kept.1 me now from call reply found kept.0 sent
          (ap (λ (n : Node). n.calls call.seq) (put_same w.nodes me.0 node) ∙ keeps.1 call.seq)))

      by : (fit : Bool)
          → IsTalliedNext (stepped setting w (if fit then counted else w.replies) me (if fit then replied setting me now from (w.nodes me.0) call reply else unheard))
      by true = replies_heard
      by false =
          tallied_silent setting w books tallied me (with_known (with_round (w.nodes me.0) reply) known) [] []
          (record { boot = refl; seq = omega arith; known = known_grows (w.nodes me.0).known reply }, λ l. refl, refl, refl) refl

  -- a message
  tallied_received : (now : ℕ) (from to : BrickId) (message : Message) → MessagesShow w → WasSent w (record { from = from; to = to; message = message })
      → (let packet : Packet = record { from = from; to = to; message = message } in
      MessagesShow (stepped setting w (replies_with setting w packet) to (received setting to now (w.nodes to.0) packet))
      → Tallied (stepped setting w (replies_with setting w packet) to (received setting to now (w.nodes to.0) packet)))
  unfolding received
  tallied_received now from to (Message.Request call request) shows sent = tallied_requested setting w books tallied to from call request
  tallied_received now from to (Message.Reply call reply) shows sent = tallied_heard to now from call reply shows sent
  tallied_received now from to (Message.Learn group view) shows sent =
      tallied_silent setting w books tallied to (node_learnt setting.layout (w.nodes to.0) group view) [] [] (learnt_keeps setting.layout (w.nodes to.0) group view)
      (learnt_each (λ (n : Node). n.scrub ≡ (w.nodes to.0).scrub) setting.layout (w.nodes to.0) group view refl (λ later. refl))
  tallied_received now from to (Message.Synced group number) shows sent =
      tallied_silent setting w books tallied to (node_synced setting.layout (w.nodes to.0) group number) [] [] (synced_calls setting.layout (w.nodes to.0) group number)
      (synced_each (λ (n : Node). n.scrub ≡ (w.nodes to.0).scrub) setting.layout (w.nodes to.0) group number refl (λ same unsynced. refl))
  tallied_received now from to message shows sent = tallied_no_step setting w books tallied to

-- what messages show does not change with those that were delivered, or with choices
shows_reached : (w : World) (reached : ℕ → Bool) (choices : Choices) → MessagesShow w → MessagesShow (record w { reached = reached; choices = choices })
shows_reached w reached choices shows = record {
  later = shows.later;
  orders_alone = shows.orders_alone;
  in_round = shows.in_round;
  counted = shows.counted;
  kept = shows.kept;
  asks_back = shows.asks_back;
}

module _ (setting : Setting) (w : World) (books : Books setting w) (tallied : Tallied w) where
  tallied_handled : (number : ℕ) (packet : Packet) → MessagesShow w → WasSent w packet → MessagesShow (world_handled setting w number packet) → Tallied (world_handled setting w number packet)
  tallied_handled number packet shows sent =
      let reached : ℕ → Bool = put w.reached number true in
      let choices : Choices = voiced setting w packet in
      let noted : World = record w { reached = reached; choices = choices } in
      let noted_shows : MessagesShow noted = shows_reached w reached choices shows in
      tallied_received setting noted (books_beside setting w w.replies reached choices books)
      (tallied_quiet setting w books tallied w.nodes w.held w.clocks w.packets reached choices noted_shows.orders_alone (λ i. keeps_all (w.nodes i)) (λ i k. refl)
      (λ i k c is. lags_same (w.nodes i).scrub (w.nodes i).scrub c refl) (λ other was. was)) (w.clocks packet.to.0) packet.from packet.to packet.message noted_shows sent

  -- an operation begins
  tallied_began : (brick : BrickId) (now : ℕ) (ask : Ask) (group : Group)
      → MessagesShow (world_began w brick ask (began_in setting brick (w.nodes brick.0) (new_coordinator (group_there (w.nodes brick.0) ask group) brick now (w.nodes brick.0) ask)))
      → Tallied (world_began w brick ask (began_in setting brick (w.nodes brick.0) (new_coordinator (group_there (w.nodes brick.0) ask group) brick now (w.nodes brick.0) ask)))
  tallied_began brick now ask group shows =
      let its : Coordinator = new_coordinator (group_there (w.nodes brick.0) ask group) brick now (w.nodes brick.0) ask in
      let begin_mark : Mark = Begin (length w.marks) (w.marked + 1) brick ask in
      tallied_opened setting w books tallied brick now ask (group_there (w.nodes brick.0) ask group) ((w.nodes brick.0).learnt ask.group.0).view None (opened (w.nodes brick.0) its) w.held
      (w.packets ++ phase_packets setting brick its) (w.marks ++ (begin_mark ∷ [])) (w.marked + 1) (w.marked + 1)
      (λ i. top_at (w.nodes i) ask.group.0 ask.stripe.0) w.choices (record {
        boot = refl;
        seq = refl;
        known = refl;
        calls = refl;
        reads = same_reads (w.nodes brick.0) (opened (w.nodes brick.0) its) refl refl;
      })
      shows.orders_alone
      (λ s is seq. absurd (let made = own_called setting w brick.0 s.seq books (books.scrubs brick.0 s.seq (ap (option_map (λ (z : Scrub). z.seq)) is)) in omega (arith, made, seq))) (λ s is. inl is)
      (λ packet sent. (sent.0, get_kept w.packets (phase_packets setting brick its) sent.0 packet sent.1))
      (λ a p m cause is. ⊎_elim
      (λ (old : slice_get w.marks a ≡ Some (End p m (Aborted cause))). old)
      (λ (new : (q : ℕ) × (slice_get (begin_mark ∷ []) q ≡ Some (End p m (Aborted cause)))).
      absurd (let never : begin_mark ≡ End p m (Aborted cause) = get_one begin_mark (End p m (Aborted cause)) new.0 new.1 in cc))
      (get_grown w.marks (begin_mark ∷ []) a (End p m (Aborted cause)) is))

  tallied_invoked : (brick : BrickId) (now : ℕ) (ask : Ask) → may_begin setting w brick ask ≡ true
      → MessagesShow (world_began w brick ask (invoked setting brick now (w.nodes brick.0) ask))
      → Tallied (world_began w brick ask (invoked setting brick now (w.nodes brick.0) ask))
  unfolding invoked
  tallied_invoked brick now ask may =
      let fits : BeginFits setting ask = begin_fits setting w brick ask may in
      subst (λ (found : Option Group). MessagesShow (world_began w brick ask (began setting brick now (w.nodes brick.0) ask found))
      → Tallied (world_began w brick ask (began setting brick now (w.nodes brick.0) ask found)))
      (sym (fits_at setting (w.nodes brick.0) ask fits))
      (tallied_began brick now ask fits.group)

  -- a brick stops
  tallied_stopped : (brick : BrickId) (during : Option ℕ) → MessagesShow (world_stopped setting w brick during) → Tallied (world_stopped setting w brick during)
  tallied_stopped brick during shows =
      let next : World = world_stopped setting w brick during in
      let keeps : (i : ℕ) → KeepsNumbers (w.nodes i) (next.nodes i) = stopped_keeps setting w brick during books in
      tallied_on setting w next books tallied shows.orders_alone
      (record {
        sent = λ packet sent. sent;
        known = known_kept w next (λ i b. refl) (λ i. (keeps i).boot) (λ i. (keeps i).known);
        operations = λ n o is. (o, is, record { brick = refl; boot = refl; seq = refl; ask = refl; mark = refl });
        replies = λ n. inl (λ p. refl);
      })
      (λ i k c is. ⊎_elim
      (λ (mine : i ≡ brick.0).
      let none : (next.nodes i).calls k ≡ None = ap (λ (x : ℕ). (next.nodes x).calls k) mine ∙ stopped_calls setting w brick during books k in
      absurd (let never : None ≡ Some c = sym none ∙ is in cc))
      (λ (other : i ≢ brick.0).
      let old : IsCall w i k c = sym (unstopped_calls setting w brick during books i k other) ∙ is in
      call_tallied_on w.packets w.packets w.replies w.replies i (number_of w i k) (number_of next i k) (w.nodes i).scrub (next.nodes i).scrub c (λ packet sent. sent)
      (ap (λ (b : ℕ). w.numbers i b k) (keeps i).boot) (λ p. refl)
      (lags_same (w.nodes i).scrub (next.nodes i).scrub c (ap (λ (x : Node). x.scrub) (put_other w.nodes brick.0 (stopped (w.nodes brick.0)) i other)))
      (tallied.calls i k c old))
      (cases_eq i brick.0))
      tallied.unbegun (λ n phase k x is. inl is)
      (λ k p n cause is. ⊎_elim
      (λ (old : slice_get w.marks k ≡ Some (End p n (Aborted cause))). inl old)
      (λ (new : (q : ℕ) × (slice_get (Crash (length w.marks) brick ∷ []) q ≡ Some (End p n (Aborted cause)))).
      absurd (let never : Crash (length w.marks) brick ≡ End p n (Aborted cause)
      = get_one (Crash (length w.marks) brick) (End p n (Aborted cause)) new.0 new.1 in cc))
      (get_grown w.marks (Crash (length w.marks) brick ∷ []) k (End p n (Aborted cause)) is))
      (λ n p cause is ended. inl (p, is, ended))

  -- a stopped brick is started again
  tallied_started : (brick : BrickId) (openings : ℕ) → w.up brick.0 ≡ false → 1 ≤ openings
      → MessagesShow (world_started w brick openings) → Tallied (world_started w brick openings)
  tallied_started brick openings down once shows =
      let next : World = world_started w brick openings in
      tallied_on setting w next books tallied shows.orders_alone
      (record {
        sent = λ packet sent. sent;
        known = started_known setting w brick openings books down once;
        operations = λ n o is. (o, is, record { brick = refl; boot = refl; seq = refl; ask = refl; mark = refl });
        replies = λ n. inl (λ p. refl);
      })
      (λ i k c is. ⊎_elim
      (λ (mine : i ≡ brick.0).
      let none : (next.nodes i).calls k ≡ None = ap (λ (x : ℕ). (next.nodes x).calls k) mine
      ∙ started_calls setting w brick openings books down once k in
      absurd (let never : None ≡ Some c = sym none ∙ is in cc))
      (λ (other : i ≢ brick.0).
      let same : next.nodes i ≡ w.nodes i = unstarted setting w brick openings books down once i other in
      let old : IsCall w i k c = sym (ap (λ (x : Node). x.calls k) same) ∙ is in
      call_tallied_on w.packets w.packets w.replies w.replies i (number_of w i k) (number_of next i k) (w.nodes i).scrub (next.nodes i).scrub c (λ packet sent. sent)
      (ap (λ (x : Node). w.numbers i x.boot k) same) (λ p. refl) (lags_same (w.nodes i).scrub (next.nodes i).scrub c (ap (λ (x : Node). x.scrub) same))
      (tallied.calls i k c old))
      (cases_eq i brick.0))
      tallied.unbegun (λ n phase k x is. inl is) (λ k p n cause is. inl is) (λ n p cause is ended. inl (p, is, ended))

-- a brick starts with what its store is found to hold: it has the calls that it had
tallied_found : (setting : Setting) (w : World) (brick : BrickId) (found : Found) → w.up brick.0 ≡ false → Leaves setting w → Books setting w
    → Tallied w → MessagesShow w → Tallied (world_found w brick found)
tallied_found setting w brick Before down leaves books tallied shows = tallied
tallied_found setting w brick After down leaves books tallied shows =
    let keeps : (i : ℕ) → KeepsCalls (w.nodes i) ((world_found w brick After).nodes i) = found_keeps setting w brick After down leaves in
    tallied_quiet setting w books tallied (put w.nodes brick.0 (w.after brick.0)) (with_held w.held brick.0 (w.after brick.0)) w.clocks w.packets w.reached _
    (shows_kept w brick (w.after brick.0) (λ i. (keeps i).1) shows).orders_alone (λ i. (keeps i).0) (λ i. (keeps i).1)
    (λ i k c is. put_each (λ (x : ℕ) (y : Node). w.up x ≡ true → LagsAs (w.nodes x).scrub y.scrub c) w.nodes brick.0 (w.after brick.0)
    (λ up. absurd (false≢true (sym down ∙ up))) (λ x other up. lags_same (w.nodes x).scrub (w.nodes x).scrub c refl) i (books.calls i k c is).up)
    (λ packet sent. sent)

-- a brick begins a synchronisation
tallied_syncs : (setting : Setting) (w : World) → Books setting w → Tallied w → (me : BrickId) (now : ℕ) (group : GroupId) → (w.nodes me.0).job ≡ None
    → (let next : World = world_stepped setting w me (synced_at setting me now (w.nodes me.0) group) in
    MessagesShow next → Tallied next)
tallied_syncs setting w books tallied me now group none =
    synced_at_each (λ (step : NodeStep). MessagesShow (world_stepped setting w me step) → Tallied (world_stepped setting w me step)) setting me now (w.nodes me.0) group
    (λ shows. tallied_idle setting w books tallied me (w.nodes me.0).job (w.nodes me.0).scrub [] [] (λ s is. is) shows.orders_alone)
    (λ answer shows.
    tallied_idle setting w books tallied me (w.nodes me.0).job (w.nodes me.0).scrub [] (Report.Sync group answer ∷ []) (λ s is. is) shows.orders_alone)
    (λ answer shows. tallied_idle setting w books tallied me None (w.nodes me.0).scrub [] (Report.Sync group answer ∷ []) (λ s is. is) shows.orders_alone)
    (λ kept is shows.
    tallied_read setting w books tallied me now (begun_job group ((w.nodes me.0).learnt group.0).view) kept
    (λ k has. absurd (let never : None ≡ Some k = ap (option_map (λ (z : Job). z.seq)) (sym none) ∙ has in cc)) shows.orders_alone)

-- a brick begins a scrub
tallied_scrubs : (setting : Setting) (w : World) → Books setting w → Tallied w → (me : BrickId) (now : ℕ) (group : GroupId) (stripe : StripeNo)
    (members : List BrickId) → (w.nodes me.0).scrub ≡ None
    → (let next : World = world_stepped setting w me (scrubbed_at setting me now (w.nodes me.0) group stripe members) in
    MessagesShow next → Tallied next)
tallied_scrubs setting w books tallied me now group stripe members none =
    scrubbed_at_each (λ (step : NodeStep). MessagesShow (world_stepped setting w me step) → Tallied (world_stepped setting w me step)) setting me now (w.nodes me.0)
    group stripe members (λ shows. tallied_idle setting w books tallied me (w.nodes me.0).job (w.nodes me.0).scrub [] [] (λ s is. is) shows.orders_alone)
    (λ kept is shows.
    tallied_scrub setting w books tallied me now group stripe members kept
    (λ k has. absurd (let never : None ≡ Some k = ap (option_map (λ (z : Scrub). z.seq)) (sym none) ∙ has in cc)) shows.orders_alone)

-- a world whose messages show what they should has its history of replies: so does the next
abbrev IsTalliedThere : World → Type 0
IsTalliedThere w = MessagesShow w → Tallied w

-- every event keeps the history of replies
tallied_cases : (setting : Setting) (w : World) → Leaves setting w × Books setting w × MessagesShow w → IsTalliedThere w
    → EventCases setting w IsTalliedThere
unfolding sync_refusal
tallied_cases setting w known there =
    let leaves : Leaves setting w = known.0 in
    let books : Books setting w = known.1 in
    let shows : MessagesShow w = known.2 in
    let tallied : Tallied w = there shows in
    record {
      begins = λ brick ask may. tallied_invoked setting w books tallied brick (w.clocks brick.0) ask may;
      proposes = λ brick group members may. tallied_proposed setting w books tallied brick group members;
      syncs = λ brick group may.
          tallied_syncs setting w books tallied brick (w.clocks brick.0) group
          (no_job (w.nodes brick.0).job (group_of setting.layout group.0)
          (and_parts (is_up setting.layout w brick) (not (is_some (sync_refusal setting.layout (w.nodes brick.0) group.0))) may).1);
      scrubs = λ brick group stripe members may.
          tallied_scrubs setting w books tallied brick (w.clocks brick.0) group stripe members (scrub_fits setting w brick group stripe members may).free;
      handles = λ number packet at up. tallied_handled setting w books tallied number packet shows (packet_was_sent w number packet at);
      sets = λ brick time is shown.
          tallied_quiet setting w books tallied w.nodes w.held (put w.clocks brick.0 time) w.packets w.reached _ shown.orders_alone (λ i. keeps_all (w.nodes i))
          (λ i k. refl) (λ i k c is. lags_same (w.nodes i).scrub (w.nodes i).scrub c refl) (λ packet sent. sent);
      ticks = λ brick up shown.
          (let more : List Packet = ticked setting brick (w.nodes brick.0) in
          tallied_quiet setting w books tallied w.nodes w.held w.clocks (w.packets ++ more) w.reached _ shown.orders_alone (λ i. keeps_all (w.nodes i)) (λ i k. refl)
          (λ i k c is. lags_same (w.nodes i).scrub (w.nodes i).scrub c refl)
          (λ packet sent. (sent.0, get_kept w.packets more sent.0 packet sent.1)));
      stops = λ brick during up. tallied_stopped setting w books tallied brick during;
      starts = λ brick openings found may.
          (let fits = start_fits setting w brick openings may in
          tallied_started setting (world_found w brick found) (books_found setting w brick found fits.0 leaves books)
          (tallied_found setting w brick found fits.0 leaves books tallied shows) brick openings (found_down w brick found fits.0) fits.1);
    }

-- at first no reply has counted
tallied_first : (setting : Setting) → Tallied (first_world setting.layout)
tallied_first setting = record {
  calls = λ i k c is. absurd (let never : None ≡ Some c = is in cc);
  unbegun = λ n p above. refl;
  counted = λ n phase k x is. absurd (let never : None ≡ Some x = is in cc);
  aborts = λ k p n cause is. absurd (let never : None ≡ Some (End p n (Aborted cause)) = is in cc);
  marked = λ k p n cause is. absurd (let never : None ≡ Some (End p n (Aborted cause)) = is in cc);
  closed = λ n o cause is ended. absurd (let never : None ≡ Some o = is in cc);
}

-- where there are members there is a first one
first_member : (members : List BrickId) → 1 ≤ length members → (member : BrickId) × (slice_get members 0 ≡ Some member)
first_member [] some = absurd (omega (arith, some))
first_member (member ∷ members) some = (member, refl)

-- what is asked of a member where the operation looks back
asks_old : (code : Code) (c : Coordinator) (bound : Option Stamp) → c.phase ≡ LooksBack bound → (seat : ℕ) → request_of code c seat ≡ Request.OldRead bound
unfolding request_of
asks_old code c bound now seat = ap (λ (p : Phase). request_of code (record c { phase = p }) seat) now

-- what is said of a world is what its messages should show
pub messages_show : (setting : Setting) (views : Views) (w : World) (stamps : Stamping) → Books setting w → Said setting views w stamps → MessagesShow w
messages_show setting views w stamps books said = record {
  later = λ call from to x sent. said.packets sent.0 (record { from = from; to = to; message = Message.Reply call (Reply.Later x) }) sent.1;
  orders_alone = orders_alone setting views w stamps books said;
  in_round = λ i k c to t is. in_round setting views w stamps books said (record { 0 = i }) to c t (at_call i k c is);
  counted = λ i k c is.
      each_then (CountedSays setting views w i c) (λ x. WasSent w
      (record { from = x.brick; to = record { 0 = i }; message = Message.Reply c.call x.reply }))
      c.counted (λ x says. says.sent) (said.calls i k c is).counted;
  kept = λ i k c is ahead.
      each_then (CountedSays setting views w i c) (λ x. dropper_of x ≡ None) c.counted
      (λ x says. dropper_ahead setting.layout.block c.stamp c.phase x ahead says.answers) (said.calls i k c is).counted;
  asks_back = λ i k c is bound now.
      (let limits = said.limits c.call.group.0 c.call.view.0 (asked_group c) (asked_is setting views w stamps books said i k c is) in
      let block = limits.some_block in
      let seats = limits.enough_seats in
      let member = first_member (asked_group c).members (omega (arith, block, seats)) in (
        member.0,
        subst (λ (r : Request). RequestSent w c.call (record { 0 = i }) member.0 r) (asks_old setting.code c bound now 0)
            ((said.calls i k c is).asked 0 member.0 member.1),
      ));
}
  where
    at_call : (i k : ℕ) (c : Coordinator) → IsCall w i k c → IsCall w i c.call.seq c
    at_call i k c is = (let seq : c.call.seq ≡ k = (books.calls i k c is).call_seq in subst (λ (l : ℕ). IsCall w i l c) (sym seq) is)

-- the history of replies holds in every world that a run reaches
pub tallied : (setting : Setting) (views : Views) (events : List Event) → IsSound setting → RunFollows setting views events
    → Tallied (run setting events (first_world setting.layout))
tallied setting views events sound follows =
    run_along IsTalliedThere (λ w. Leaves setting w × Books setting w × MessagesShow w) setting (tallied_cases setting) events (first_world setting.layout)
    (λ earlier later is. (always_leaves setting earlier, books setting earlier, shows earlier later is)) (λ shown. tallied_first setting)
    (shows events [] (sym (append-nil events)))
  where
    shows : (earlier later : List Event) → events ≡ earlier ++ later → MessagesShow (run setting earlier (first_world setting.layout))
    shows earlier later is =
        let said : IsSaid setting views (run setting earlier (first_world setting.layout))
        = always_said setting views earlier sound (follows_front setting views events earlier later follows is) in
        messages_show setting views (run setting earlier (first_world setting.layout)) said.0 (books setting earlier) said.1
