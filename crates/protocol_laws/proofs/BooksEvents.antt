-- Every event keeps the books.
use Rattle.view_laws.proofs.Syncing.{synced_each}
use Rattle.view_laws.proofs.SyncReads.{synced_at_each, scrubbed_at_each}
use Rattle.protocol_laws.proofs.StampViews.{waits_view, next_view}
use Rattle.std.specs.Option.{option_map}
use Rattle.protocol.specs.Views.{kept_by, group_kept, view_told}
use Rattle.std.proofs.Common.{◌≡◌, ◌≢◌, ℕ, ◌+◌, ◌-◌, ◌<◌, ◌≤◌, ◌⊎◌, inl, inr, ◌^◌, Bool, true, false, not, ◌&&◌, cond, is_some, Option, Some, None, refl, sym, ap, ◌∙◌, subst, arith, List, [], ◌∷◌, ◌++◌, length, ⊎_elim}
use Rattle.std.specs.Prelude.{nat_lt, max}
use Rattle.std.proofs.lemmas.Option.{same_Some}
use Rattle.std.proofs.lemmas.Bool.{cond_both, and_parts, not-true, not-false, ltb-true, both_ways, false≢true, ltb-false}
use Rattle.fab_base.specs.declared.identities.BrickId.{BrickId}
use Rattle.fab_base.specs.declared.identities.ViewNo.{ViewNo}
use Rattle.fab_base.specs.declared.asks.Ask.{Ask}
use Rattle.fab_base.specs.declared.stamps.Stamp.{Stamp}
use Rattle.fab_base.specs.declared.answers.Answer.{Answer}
use Rattle.fab_base.specs.declared.answers.Answer.TheVariants.{Data, Done, Aborted}
use Rattle.fab_base.specs.declared.answers.Cause.{Cause}
use Rattle.reg_model.specs.declared.marks.Mark.{Mark}
use Rattle.reg_model.specs.declared.marks.Mark.TheVariants.{End}
use Rattle.protocol.specs.Jobs.{Job, Attempt, JobNext, Reads, Finishes, GivesUp, begun_job, job_ask, most_tries, job_after, abort_cause, synced_answer, sync_refusal_in}
use Rattle.fab_base.specs.declared.answers.Refusal.{Refusal}
use Rattle.messages.specs.declared.calls.Call.{Call}
use Rattle.messages.specs.declared.packets.Message.{Message}
use Rattle.messages.specs.declared.packets.Packet.{Packet}
use Rattle.messages.specs.declared.requests.Request.{Request}
use Rattle.messages.specs.declared.replies.Reply.{Reply}
use Rattle.fab_base.specs.Layouts.{Layout, Group, group_of, seat_in}
use Rattle.fab_base.specs.declared.identities.GroupId.{GroupId}
use Rattle.fab_base.specs.declared.member_lists.View.{View}
use Rattle.protocol.specs.Ballots.{Voted}
use Rattle.protocol.specs.declared.tellings.Report.{Report}
use Rattle.protocol.specs.Settings.{Setting}
use Rattle.protocol.specs.Replicas.{handle}
use Rattle.protocol.specs.declared.phases.Phase.{Phase}
use Rattle.protocol.specs.declared.phases.Phase.TheVariants.{Looks, LooksAt, Orders, OrdersAt, Recovers, Descends, Modifies, Bases, Stores, LooksBack}
use Rattle.protocol.specs.declared.phases.Counted.{Counted}
use Rattle.protocol.specs.Coordinators.{Coordinator, Next, Ignores, Waits, Sends, Makes, Ends, most_rounds, with_reply, once_full, counted_at, counts_at, on_reply, asked_view, AreEnough}
use Rattle.protocol.specs.Nodes.{Node, NodeStep, put, no_step, has_block, has_length, refusal_in, refusal_of, began, invoked, with_replica, replica_at, full_at, reply_packets, requested, ticked, may_open, has_later_time, next_time, new_stamp, fresh_stamp, known_after, with_call, with_known, carried_out, phase_packets, collect_packets, synced_packets, reporting, with_job, job_reading, synced_at, sync_refusal, sending, replied_at, heard, received, group_at, vote_at, with_round, proposed, node_taught_by, node_learnt, view_counted, lists_fit, node_synced, scrub_of, scrub_ended, scrubbed_at, scrub_refusal_in, scrub_refusal}
use Rattle.protocol.specs.Worlds.{World, world_found, Operation, Found, Before, After, Found, Before, After, Event, is_answer, has_old_stores, first_world, is_brick, is_up, may_begin, number_of, may_start, world_found, world_began, world_stepped, with_made, with_seen, with_answer, with_closed, with_content, may_sync, replies_with, voiced, run, with_held, choices_after, Choices, may_scrub}
use Rattle.protocol_laws.specs.Laws.{WasSent}
use Rattle.protocol.proofs.Served.{request_each}
use Rattle.protocol_laws.proofs.Left.{IsLeft, kept_of, Leaves, always_leaves, found_down}
use Rattle.protocol_laws.proofs.Books.{Replies, version_after, Books, IsReadable, IsOperation, OperationBooks, JobBooks, CallBooks, IsCall, IsUnmade, MadeInPhase, InRound, IsMade, Own, ForJob, ForScrub, own_seq}
use Rattle.protocol_laws.proofs.MarkNumbers.{mark_at, mark_seen}
use Rattle.protocol_laws.proofs.BooksKept.{KeepsNumbers, KeepsCalls, HasNoRead, call_marked, call_unmarked, reading_is, keeps_all, keeps_itself, keeps_known, keeps_with_call, KeepsReads, reads_stay, calls_reads, scrub_is, job_seq, scrub_seq, own_books}
use Rattle.protocol_laws.proofs.Votes.{with_vote}
use Rattle.protocol_laws.proofs.Proposing.{ballot_each, proposed_each}
use Rattle.protocol_laws.proofs.Teaching.{told_each, learnt_each}
use Rattle.protocol_laws.proofs.Closing.{AfterClose, ClosesNone, closed_world, closing_each, carried_noted, closed_no_read}
use Rattle.protocol_laws.proofs.Hearing.{kept_world, taught_by, hearing_each}
use Rattle.protocol_laws.proofs.BooksQuiet.{books_quiet, books_started}
use Rattle.protocol_laws.proofs.BooksTurns.{IsBookedStamp, books_turned}
use Rattle.protocol_laws.proofs.BooksEnds.{Ended, ended_world, books_ended, books_closed, books_stopped}
use Rattle.protocol_laws.proofs.BooksBegins.{books_began, books_read, books_scrub}
use Rattle.protocol_laws.proofs.Outcomes.{SameOperation, IsRound, ReordersFits, RecoversFits, SendsFits, EndFits, NextFits, once_full_fits, IsLook, IsMaking, RebuildsIn, RebuildsFits, MakesIn, unmade_again, unmade_recovers, BackFits, back_phase, call_after}
use Rattle.protocol.proofs.Puts.{put_other}
use Rattle.protocol.proofs.Tables.{put_each, put_same}
use Rattle.protocol.proofs.Events.{EventCases, always_where, world_counting, world_handled}
use Rattle.protocol.specs.Scrubs.{Scrub, names_quorum}
use Rattle.fab_base.specs.declared.identities.StripeNo.{StripeNo}
use Rattle.protocol_laws.proofs.Noting.{noted_by, replied_noted, noting_each, noted_keeps}
use Rattle.std.specs.List.{list_all}
use Rattle.quorum.specs.Memberships.{are_distinct}
use Rattle.quorum.specs.Quorums.{quorum_of}
use Rattle.protocol.specs.declared.tellings.ScrubAnswer.{ScrubAnswer}

-- a brick that keeps its numbers, among those that stay
pub keeps_put : (w : World) (i : ℕ) (node : Node) → KeepsNumbers (w.nodes i) node → (j : ℕ) → KeepsNumbers (w.nodes j) (put w.nodes i node j)
keeps_put w i node keeps j =
    put_each (λ (x : ℕ) (y : Node). KeepsNumbers (w.nodes x) y) w.nodes i node keeps
    (λ x other. keeps_all (w.nodes x)) j

-- so with its own reads
pub reads_put : (w : World) (i : ℕ) (node : Node) → KeepsReads (w.nodes i) node → (j : ℕ) → KeepsReads (w.nodes j) (put w.nodes i node j)
reads_put w i node keeps j = put_each (λ (x : ℕ) (y : Node). KeepsReads (w.nodes x) y) w.nodes i node keeps (λ x other. reads_stay (w.nodes x)) j

module _ (setting : Setting) (w : World) where
  -- the world after a brick's step, with these counted replies
  abbrev pub stepped : Replies → BrickId → NodeStep → World
  stepped replies brick step = world_stepped setting (record w { replies = replies }) brick step

  -- a step that tells nothing and keeps a brick's calls and numbers keeps the books, whatever it reports
  pub books_silent : (replies : Replies) (brick : BrickId) (node : Node) (packets : List Packet) (reports : List Report) → Books setting w
      → KeepsCalls (w.nodes brick.0) node
      → Books setting (stepped replies brick (record { node = node; packets = packets; told = []; answers = []; reports = reports }))
  books_silent replies brick node packets reports books keeps =
      books_quiet setting w (put w.nodes brick.0 node) (with_held w.held brick.0 node) w.clocks (w.packets ++ packets) replies w.reached _ books
      (keeps_put w brick.0 node keeps.0)
      (λ j l. put_each (λ (x : ℕ) (y : Node). y.calls l ≡ (w.nodes x).calls l) w.nodes brick.0 node (keeps.1 l) (λ x other. refl) j)
      (reads_put w brick.0 node (calls_reads (w.nodes brick.0) node keeps))

  books_nothing : (replies : Replies) (brick : BrickId) (node : Node) (packets : List Packet) → Books setting w
      → KeepsCalls (w.nodes brick.0) node → Books setting (stepped replies brick (sending node packets))
  books_nothing replies brick node packets books keeps = books_silent replies brick node packets [] books keeps

  -- the world in which a brick keeps what it is now
  pub books_kept : (me : BrickId) (node : Node) → Books setting w → KeepsCalls (w.nodes me.0) node → Books setting (kept_world w me node)
  books_kept me node books keeps =
      books_quiet setting w (put w.nodes me.0 node) (with_held w.held me.0 node) w.clocks w.packets w.replies w.reached _ books
      (keeps_put w me.0 node keeps.0)
      (λ j l. put_each (λ (x : ℕ) (y : Node). y.calls l ≡ (w.nodes x).calls l) w.nodes me.0 node (keeps.1 l) (λ x other. refl) j)
      (reads_put w me.0 node (calls_reads (w.nodes me.0) node keeps))

  -- a brick that changes nothing
  books_no_step : (replies : Replies) (brick : BrickId) → Books setting w
      → Books setting (stepped replies brick (no_step (w.nodes brick.0)))
  books_no_step replies brick books =
      books_nothing replies brick (w.nodes brick.0) [] books (keeps_itself (w.nodes brick.0))

  -- a brick that learns of a time
  books_known : (replies : Replies) (brick : BrickId) (known : ℕ) → Books setting w → (w.nodes brick.0).known ≤ known
      → Books setting (stepped replies brick (no_step (with_known (w.nodes brick.0) known)))
  books_known replies brick known books grows =
      books_nothing replies brick (with_known (w.nodes brick.0) known) [] books (keeps_known (w.nodes brick.0) known grows, λ l. refl, refl, refl)

  -- a synchronisation ends that has no read open, or a scrub that is not open
  books_dropped : (me : BrickId) (job : Option Job) (scrub : Option Scrub) (packets : List Packet) (report : Report) → Books setting w
      → (let node = record (w.nodes me.0) { job = job; scrub = scrub } in
      KeepsReads (w.nodes me.0) node → Books setting (world_stepped setting w me (reporting node packets report)))
  books_dropped me job scrub packets report books keeps =
      let node : Node = record (w.nodes me.0) { job = job; scrub = scrub } in
      books_quiet setting w (put w.nodes me.0 node) (with_held w.held me.0 node) w.clocks (w.packets ++ packets) w.replies w.reached _ books
      (keeps_put w me.0 node (record { boot = refl; seq = omega arith; known = omega arith }))
      (λ j l. put_each (λ (x : ℕ) (y : Node). y.calls l ≡ (w.nodes x).calls l) w.nodes me.0 node refl (λ x other. refl) j)
      (reads_put w me.0 node keeps)

  -- the synchronisation ends
  pub books_jobless : (me : BrickId) (packets : List Packet) (report : Report) → Books setting w → HasNoRead (w.nodes me.0) ForJob
      → Books setting (world_stepped setting w me (reporting (with_job (w.nodes me.0) None) packets report))
  books_jobless me packets report books ended = books_dropped me None (w.nodes me.0).scrub packets report books (inr (refl, ended), inl refl)

  -- the scrub ends
  pub books_scrubless : (me : BrickId) (call : Call) (members : List BrickId) (answer : ScrubAnswer) → Books setting w → HasNoRead (w.nodes me.0) ForScrub
      → Books setting (world_stepped setting w me (scrub_ended (w.nodes me.0) call members answer))
  books_scrubless me call members answer books ended =
      books_dropped me (w.nodes me.0).job None [] (Report.Scrub call members answer) books (inl refl, inr (refl, ended))

  -- a request
  books_requested : (replies : Replies) (me from : BrickId) (call : Call) (request : Request) → Books setting w
      → Books setting (stepped replies me (requested setting me from (w.nodes me.0) call request))
  books_requested replies me from call request books =
      request_each (λ (step : NodeStep). Books setting (stepped replies me step)) setting me from (w.nodes me.0) call request
      (books_no_step replies me books)
      (λ moved is. books_nothing replies me (w.nodes me.0) (reply_packets me from call (Some moved)) books (keeps_itself (w.nodes me.0)))
      (λ group seat here served.
      let reaction = handle setting.code group.m (full_at setting.layout.records (w.nodes me.0).live) seat (replica_at (w.nodes me.0) call) request in
      books_nothing replies me (with_replica (w.nodes me.0) call reaction) (reply_packets me from call reaction.reply) books
      (record { boot = refl; seq = omega arith; known = omega arith }, λ l. refl, refl, refl))
      (λ group ballot asked here.
      let vote : Voted = vote_at (w.nodes me.0) call ballot asked in
      books_nothing replies me (with_vote (w.nodes me.0) call vote) (reply_packets me from call (Some vote.reply)) books
      (record { boot = refl; seq = omega arith; known = omega arith }, λ l. refl, refl, refl))

  -- a brick begins a proposal
  books_proposed : (me : BrickId) (group : GroupId) (members : List BrickId) → Books setting w
      → Books setting (stepped w.replies me (proposed setting me (w.nodes me.0) group members))
  books_proposed me group members books =
      proposed_each (λ (step : NodeStep). Books setting (stepped w.replies me step)) setting me (w.nodes me.0) group members
      (λ seq round proposal packets reports more are.
      books_silent w.replies me (record (w.nodes me.0) { seq = seq; round = round; proposal = proposal }) packets reports books
      (record { boot = refl; seq = more; known = omega arith }, λ l. refl, refl, refl))

-- what an operation made is of its stamp and on its base, whatever else its coordinator holds
made_same : (c d : Coordinator) (o : Operation) (p q : Phase) → d.stamp ≡ c.stamp → d.base ≡ c.base → q ≡ p → MadeInPhase c o p → MadeInPhase d o q
made_same c d o p q stamp base phase made = subst (λ (x : Phase). MadeInPhase d o x) (sym phase) (by p made)
  where
    goes : IsMade c o → IsMade d o
    goes made = (made.0 ∙ ap (λ (t : Stamp). Some t) (sym stamp), made.1, made.2 ∙ sym base)

    by : (p : Phase) → MadeInPhase c o p → MadeInPhase d o p
    by Looks made = made
    by (LooksAt j) made = made
    by Orders made = made
    by (OrdersAt j) made = made
    by Recovers made = made
    by (Descends bound) made = made
    by (LooksBack bound) made = made
    by (Modifies u j) made = (goes made.0, base ∙ made.1)
    by (Bases u) made = (goes made.0, base ∙ made.1)
    by Stores made = goes made

-- before its store phase, or one that modifies, an operation has made nothing
made_nothing : (c : Coordinator) (o : Operation) (p : Phase) → (IsMaking p → ⊥) → MadeInPhase c o p → IsUnmade o
made_nothing c o (Modifies u j) before made = absurd (before tt)
made_nothing c o (Bases u) before made = absurd (before tt)
made_nothing c o Stores before made = absurd (before tt)
made_nothing c o Looks before made = made
made_nothing c o (LooksAt j) before made = made
made_nothing c o Orders before made = made
made_nothing c o (OrdersAt j) before made = made
made_nothing c o Recovers before made = made
made_nothing c o (Descends bound) before made = made
made_nothing c o (LooksBack bound) before made = made

nothing_made : (d : Coordinator) (o : Operation) (p : Phase) → (IsMaking p → ⊥) → IsUnmade o → MadeInPhase d o p
nothing_made d o (Modifies u j) before none = absurd (before tt)
nothing_made d o (Bases u) before none = absurd (before tt)
nothing_made d o Stores before none = absurd (before tt)
nothing_made d o Looks before none = none
nothing_made d o (LooksAt j) before none = none
nothing_made d o Orders before none = none
nothing_made d o (OrdersAt j) before none = none
nothing_made d o Recovers before none = none
nothing_made d o (Descends bound) before none = none
nothing_made d o (LooksBack bound) before none = none

-- a version that was made stays the operation's as it reads the base back
rebuilt_made : (c d : Coordinator) (o : Operation) → RebuildsFits c d → MadeInPhase c o c.phase → MadeInPhase d o d.phase
rebuilt_made c d o fits made = by fits.how
  where
    by : RebuildsIn c d → MadeInPhase d o d.phase
    by (inl (u, j, was, now, base)) =
        let had : IsMade c o × (c.base ≡ Some u) = subst (λ (p : Phase). MadeInPhase c o p) was made in
        subst (λ (p : Phase). MadeInPhase d o p) (sym now)
        ((had.0.0 ∙ ap (λ (t : Stamp). Some t) (sym fits.stamp), had.0.1, had.0.2 ∙ sym base), base ∙ had.1)
    by (inr (u, was, now, base)) =
        let had : IsMade c o × (c.base ≡ Some u) = subst (λ (p : Phase). MadeInPhase c o p) was made in
        subst (λ (p : Phase). MadeInPhase d o p) (sym now)
        (had.0.0 ∙ ap (λ (t : Stamp). Some t) (sym fits.stamp), had.0.1, had.0.2 ∙ had.1 ∙ sym base)

-- a phase that stays has its number
round_same : (c d : Coordinator) (p q : Phase) → d.call.phase ≡ c.call.phase → d.round ≡ c.round → q ≡ p → InRound c p → InRound d q
round_same c d p q call round phase within = subst (λ (x : Phase). InRound d x) (sym phase) (by p within)
  where
    by : (p : Phase) → InRound c p → InRound d p
    by Looks (first, one) = (call ∙ first, round ∙ one)
    by (LooksAt j) (first, one) = (call ∙ first, round ∙ one)
    by Orders within = call ∙ within ∙ sym round
    by (OrdersAt j) within = call ∙ within ∙ sym round
    by Recovers within = call ∙ within ∙ ap (λ (x : ℕ). x + 1) (sym round)
    by (Descends bound) within = tt
    by (LooksBack bound) within = tt
    by (Modifies u j) within = tt
    by (Bases u) within = tt
    by Stores within = tt

-- the next round of ordering has the next number
round_again : (c d : Coordinator) (p : Phase) → IsRound p → d.call.phase ≡ c.call.phase + 1 → d.round ≡ c.round + 1 → InRound c p → InRound d p
round_again c d Orders is call round within = omega arith
round_again c d (OrdersAt j) is call round within = omega arith
round_again c d Recovers is call round within = omega arith
round_again c d Looks is call round within = absurd is
round_again c d (LooksAt j) is call round within = absurd is
round_again c d (Descends bound) is call round within = tt
round_again c d (LooksBack bound) is call round within = tt
round_again c d (Modifies u j) is call round within = tt
round_again c d (Bases u) is call round within = tt
round_again c d Stores is call round within = tt

-- a read looks in the first phase, before its first round
pub look_first : (c : Coordinator) (p : Phase) → IsLook p → InRound c p → (c.call.phase ≡ 1) × (c.round ≡ 1)
look_first c Looks look within = within
look_first c (LooksAt j) look within = within
look_first c p look within = absurd look

round_next : (fresh : Option Stamp) (c d : Coordinator) → SendsFits fresh c d → InRound c c.phase → InRound d d.phase
round_next fresh c d fits within = by fits.how
  where
    call : d.call.phase ≡ c.call.phase + 1
    call = ap (λ (x : Call). x.phase) fits.call

    recovers : (r : RecoversFits c d) → (IsLook c.phase × (d.phase ≡ Recovers)) ⊎ (((bound : Stamp) × (d.phase ≡ Descends bound)) ⊎ BackFits c d)
        → InRound d d.phase
    recovers r (inl (look, now)) =
        let first = look_first c c.phase look within in
        subst (λ (x : Phase). InRound d x) (sym now)
        (call ∙ ap (λ (x : ℕ). x + 1) first.0 ∙ ap (λ (x : ℕ). x + 1) (sym (r.round ∙ first.1)))
    recovers r (inr (inl (bound, now))) = subst (λ (x : Phase). InRound d x) (sym now) tt
    recovers r (inr (inr back)) = subst (λ (x : Phase). InRound d x) (sym (back_phase c d back).1) tt

    rebuilds : RebuildsIn c d → InRound d d.phase
    rebuilds (inl (u, j, was, now, base)) = subst (λ (x : Phase). InRound d x) (sym now) tt
    rebuilds (inr (u, was, now, base)) = subst (λ (x : Phase). InRound d x) (sym now) tt

    by : ReordersFits fresh c d ⊎ (RecoversFits c d ⊎ RebuildsFits c d) → InRound d d.phase
    by (inl again) = subst (λ (x : Phase). InRound d x) (sym again.phase) (round_again c d c.phase again.was call again.round within)
    by (inr (inl goes)) = recovers goes goes.phase
    by (inr (inr goes)) = rebuilds goes.how

-- a version that is made is of the phase that makes it
made_now : (d : Coordinator) (o : Operation) → MakesIn d → IsMade d o → MadeInPhase d o d.phase
made_now d o (inl stores) made = subst (λ (p : Phase). MadeInPhase d o p) (sym stores) made
made_now d o (inr (u, j, modifies, base)) made = subst (λ (p : Phase). MadeInPhase d o p) (sym modifies) (made, base)

round_made : (d : Coordinator) → MakesIn d → InRound d d.phase
round_made d (inl stores) = subst (λ (p : Phase). InRound d p) (sym stores) tt
round_made d (inr (u, j, modifies, base)) = subst (λ (p : Phase). InRound d p) (sym modifies) tt

-- an operation that is answered has a version
ends_version : (c : Coordinator) (o : Operation) (p : Phase) (answer : Answer) (seen : Option Stamp) → MadeInPhase c o p → EndFits p answer seen
    → is_answer answer ≡ true → (v : Stamp) × (version_after o.version seen ≡ Some v)
ends_version c o Looks answer seen made fits is = (let saw = fits is in (saw.0, ap (λ (x : Option Stamp). version_after o.version x) saw.1))
ends_version c o (LooksAt j) answer seen made fits is = (let saw = fits is in (saw.0, ap (λ (x : Option Stamp). version_after o.version x) saw.1))
ends_version c o Orders answer seen made fits is = absurd (both_ways (is_answer answer) fits is)
ends_version c o (OrdersAt j) answer seen made fits is = absurd (both_ways (is_answer answer) fits is)
ends_version c o Recovers answer seen made fits is = absurd (both_ways (is_answer answer) fits is)
ends_version c o (Descends bound) answer seen made fits is = absurd (both_ways (is_answer answer) fits is)
ends_version c o (LooksBack bound) answer seen made fits is = absurd (both_ways (is_answer answer) fits is)
ends_version c o (Bases u) answer seen made fits is = absurd (both_ways (is_answer answer) fits is)
ends_version c o (Modifies u j) answer None made fits is = (c.stamp, made.0.0)
ends_version c o (Modifies u j) answer (Some v) made fits is = (v, refl)
ends_version c o Stores answer None made fits is = (c.stamp, made.0)
ends_version c o Stores answer (Some v) made fits is = (v, refl)

-- a fresh stamp is above all that its brick knows
pub fresh_is : (me : BrickId) (view : ViewNo) (now boot known : ℕ) (t : Stamp) → fresh_stamp me view now boot known ≡ Some t
    → (t ≡ new_stamp me view now boot known) × (known ≤ next_time now known) × (1 ≤ next_time now known)
fresh_is me view now boot known t is =
    cond_both (has_later_time known) (Some (new_stamp me view now boot known)) None
    (λ (z : Option Stamp). z ≡ Some t → (t ≡ new_stamp me view now boot known) × (known ≤ next_time now known) × (1 ≤ next_time now known))
    (λ some e. (sym (same_Some (new_stamp me view now boot known) t e), omega arith, omega arith))
    (λ none e. absurd (let never : None ≡ Some t = e in cc))
    is

-- a brick is its number
pub brick_of : (a b : BrickId) → a.0 ≡ b.0 → a ≡ b
brick_of a b same = ap (λ (x : ℕ). let b : BrickId = record { 0 = x } in b) same

-- an answer that is no abort
answered_unless : (answer : Answer) → not (is_some (abort_cause answer)) ≡ is_answer answer
answered_unless (Data bytes) = refl
answered_unless Done = refl
answered_unless (Aborted cause) = refl

-- a group that is kept is the layout's
kept_is : (layout : Layout) (members : List BrickId) (g : ℕ) (group : Group) → group_kept layout members g ≡ Some group
    → (own : Group) × (group_of layout g ≡ Some own) × (group.stripes ≡ own.stripes)
kept_is layout members g group is = by (group_of layout g) refl is
  where
    by : (z : Option Group) → group_of layout g ≡ z → option_map (kept_by members) z ≡ Some group
        → (own : Group) × (group_of layout g ≡ Some own) × (group.stripes ≡ own.stripes)
    by None at found = absurd (let never : None ≡ Some group = found in cc)
    by (Some own) at found = (own, at, ap (λ (x : Group). x.stripes) (sym (same_Some (kept_by members own) group found)))

-- what a synchronisation reads next is a stripe of its group
next_readable : (group : Group) (stripes : ℕ) (attempt next : Attempt) (cause : Option Cause) → stripes ≡ group.stripes → IsReadable group attempt.stripe
    → job_after stripes attempt cause ≡ Reads next → IsReadable group next.stripe
next_readable group stripes attempt next None same readable =
    cond_both (nat_lt (attempt.stripe + 1) stripes) (Reads (record { stripe = attempt.stripe + 1; tries = 1 })) Finishes
    (λ (z : JobNext). z ≡ Reads next → IsReadable group next.stripe)
    (λ few is.
    let one : record { stripe = attempt.stripe + 1; tries = 1 } ≡ next = cc in
    let less : attempt.stripe + 1 < stripes = ltb-true (attempt.stripe + 1) stripes few in
    let at : attempt.stripe + 1 ≡ next.stripe = ap (λ (a : Attempt). a.stripe) one in
    inr (omega arith))
    (λ all is. absurd (let never : Finishes ≡ Reads next = is in cc))
next_readable group stripes attempt next (Some cause) same readable =
    cond_both (nat_lt attempt.tries most_tries) (Reads (record { stripe = attempt.stripe; tries = attempt.tries + 1 })) (GivesUp cause)
    (λ (z : JobNext). z ≡ Reads next → IsReadable group next.stripe)
    (λ few is.
    let one : record { stripe = attempt.stripe; tries = attempt.tries + 1 } ≡ next = cc in
    let at : attempt.stripe ≡ next.stripe = ap (λ (a : Attempt). a.stripe) one in
    subst (λ (s : ℕ). IsReadable group s) at readable)
    (λ all is. absurd (let never : GivesUp cause ≡ Reads next = is in cc))

-- a read that ends leaves its brick up
closed_up : (setting : Setting) (w : World) (me : BrickId) (known : ℕ) (c : Coordinator) (answer : Answer) (seen stored : Option Stamp)
    → (closed_world setting w me known c answer seen stored).up me.0 ≡ w.up me.0
closed_up setting w me known c answer None stored = refl
closed_up setting w me known c answer (Some v) stored = refl

-- brick me took a reply, which counts in coordinator c, and knows this time; a new round would have this stamp
module _ (setting : Setting) (w : World) (me : BrickId) (now known : ℕ) (c : Coordinator) (counted : List Counted)
    (books : Books setting w) (is_call : IsCall w me.0 c.call.seq c) (grows : (w.nodes me.0).known ≤ known) where
  abbrev i : ℕ
  i = me.0

  abbrev k : ℕ
  k = c.call.seq

  abbrev node : Node
  node = w.nodes i

  -- the coordinator with the replies that then count
  abbrev then' : Coordinator
  then' = record {
    group = c.group;
    prior = c.prior;
    only = c.only;
    ask = c.ask;
    stamp = c.stamp;
    round = c.round;
    base = c.base;
    content = c.content;
    call = c.call;
    phase = c.phase;
    counted = counted;
  }

  abbrev fresh : Option Stamp
  fresh = fresh_stamp me c.stamp.view now node.boot known

  -- the replies that count are no part of the operation
  same_of : (d : Coordinator) → SameOperation then' d → SameOperation c d
  same_of d same =
      record { ask = same.ask; members = same.members; prior = same.prior; only = same.only; boot = same.boot; seq = same.seq; group = same.group; stripe = same.stripe }

  mine : CallBooks setting w i k c
  mine = books.calls i k c is_call

  -- brick i with this call changed
  call_put : (time busy : ℕ) (d : Option Coordinator) → (put w.nodes i (with_call node time busy k d) i).calls k ≡ d
  call_put time busy d =
      ap (λ (x : Node). x.calls k) (put_same w.nodes i (with_call node time busy k d)) ∙ put_same node.calls k d

  other_put : (time busy : ℕ) (d : Option Coordinator) (j l : ℕ) → (j ≡ i → l ≡ k → ⊥)
      → (put w.nodes i (with_call node time busy k d) j).calls l ≡ (w.nodes j).calls l
  other_put time busy d j l other =
      put_each (λ (x : ℕ) (y : Node). (x ≡ i → l ≡ k → ⊥) → y.calls l ≡ (w.nodes x).calls l) w.nodes i (with_call node time busy k d)
      (λ apart. put_other node.calls k d l (λ same. apart refl same)) (λ x at apart. refl) j other

  keeps_call : (time busy : ℕ) (d : Option Coordinator) → node.known ≤ time
      → (j : ℕ) → KeepsNumbers (w.nodes j) (put w.nodes i (with_call node time busy k d) j)
  keeps_call time busy d later = keeps_put w i (with_call node time busy k d) (keeps_with_call node time busy k d later)

  scrubs_call : (time busy : ℕ) (d : Option Coordinator) (j : ℕ)
      → own_seq (put w.nodes i (with_call node time busy k d) j) ForScrub ≡ own_seq (w.nodes j) ForScrub
  scrubs_call time busy d j =
      put_each (λ (x : ℕ) (y : Node). own_seq y ForScrub ≡ own_seq (w.nodes x) ForScrub) w.nodes i (with_call node time busy k d) refl (λ x other. refl) j

  jobs_call : (time busy : ℕ) (d : Option Coordinator) (j : ℕ) → (put w.nodes i (with_call node time busy k d) j).job ≡ (w.nodes j).job
  jobs_call time busy d j =
      put_each (λ (x : ℕ) (y : Node). y.job ≡ (w.nodes x).job) w.nodes i (with_call node time busy k d) refl (λ x other. refl) j

  -- the time that brick i then knows
  own_known : (time busy : ℕ) (d : Option Coordinator) → time ≡ (put w.nodes i (with_call node time busy k d) i).known
  own_known time busy d = ap (λ (x : Node). x.known) (sym (put_same w.nodes i (with_call node time busy k d)))

  -- the stamp that an operation has stays its own
  stamp_stays : (time : ℕ) (d : Option Coordinator) (t : Stamp) → t ≡ c.stamp → node.known ≤ time
      → IsBookedStamp (put w.nodes i (with_call node time node.busy k d) i).known mine.operation t
  stamp_stays time d t same later = subst (λ (x : Stamp). IsBookedStamp (put w.nodes i (with_call node time node.busy k d) i).known mine.operation x)
      (sym same)
      (subst (λ (x : ℕ). IsBookedStamp x mine.operation c.stamp) (own_known time node.busy d) (record {
        brick = mine.stamp_brick;
        view = mine.stamp_view;
        boot = mine.stamp_boot ∙ sym mine.boot;
        time = (omega (arith, mine.stamp_known.0), omega (arith, mine.stamp_known.1));
      }))

  -- a fresh stamp is the operation's, and no time falls
  stamp_fresh : (time : ℕ) (d : Option Coordinator) (t : Stamp) → fresh ≡ Some t → t.time ≤ time
      → IsBookedStamp (put w.nodes i (with_call node time node.busy k d) i).known mine.operation t
  stamp_fresh time d t is later =
      let facts = fresh_is me c.stamp.view now node.boot known t is in
      let at : t.time ≡ next_time now known = ap (λ (x : Stamp). x.time) facts.0 in
      subst (λ (x : ℕ). IsBookedStamp x mine.operation t) (own_known time node.busy d) (record {
        brick = ap (λ (x : Stamp). x.brick) facts.0 ∙ brick_of me mine.operation.brick (sym mine.brick);
        view = mine.stamp_view ∙ sym (ap (λ (x : Stamp). x.view.0) facts.0);
        boot = ap (λ (x : Stamp). x.boot) facts.0 ∙ sym mine.boot;
        time = (omega (arith, facts.2, at), omega arith);
      })

  -- the view that the next phase asks
  asks_sends : (d : Coordinator) → d.call ≡ call_after then' d.phase → ReordersFits fresh then' d ⊎ (RecoversFits then' d ⊎ RebuildsFits then' d)
      → d.call.view ≡ asked_view d.stamp d.phase
  asks_sends d call (inl again) =
      next_view then' d (ap (λ (x : Stamp). x.view) (fresh_is me c.stamp.view now node.boot known d.stamp again.stamp).0) call
  asks_sends d call (inr (inl goes)) = next_view then' d (ap (λ (x : Stamp). x.view) goes.stamp) call
  asks_sends d call (inr (inr goes)) = next_view then' d (ap (λ (x : Stamp). x.view) goes.stamp) call

  -- the stamp and the rounds of the next phase
  stamp_sends : (d : Coordinator) → ReordersFits fresh then' d ⊎ (RecoversFits then' d ⊎ RebuildsFits then' d)
      → IsBookedStamp (put w.nodes i (with_call node (max known d.stamp.time) node.busy k (Some d)) i).known mine.operation d.stamp
  stamp_sends d (inl again) = stamp_fresh (max known d.stamp.time) (Some d) d.stamp again.stamp (omega arith)
  stamp_sends d (inr (inl goes)) = stamp_stays (max known d.stamp.time) (Some d) d.stamp goes.stamp (omega arith)
  stamp_sends d (inr (inr goes)) = stamp_stays (max known d.stamp.time) (Some d) d.stamp goes.stamp (omega arith)

  rounds_sends : (d : Coordinator) → ReordersFits fresh then' d ⊎ (RecoversFits then' d ⊎ RebuildsFits then' d) → (1 ≤ d.round) × (d.round ≤ most_rounds)
  rounds_sends d (inl again) =
      let next : d.round ≡ c.round + 1 = again.round in let left : c.round < most_rounds = again.left in (omega arith, omega arith)
  rounds_sends d (inr (inl goes)) = subst (λ (x : ℕ). (1 ≤ x) × (x ≤ most_rounds)) (sym goes.round) mine.rounds
  rounds_sends d (inr (inr goes)) = subst (λ (x : ℕ). (1 ≤ x) × (x ≤ most_rounds)) (sym goes.round) mine.rounds

  -- what the operation has made in the next phase
  made_sends : (d : Coordinator) → ReordersFits fresh then' d ⊎ (RecoversFits then' d ⊎ RebuildsFits then' d) → MadeInPhase d mine.operation d.phase
  made_sends d (inl again) =
      nothing_made d mine.operation d.phase (unmade_again fresh then' d again) (made_nothing c mine.operation c.phase again.unmade mine.made)
  made_sends d (inr (inl goes)) =
      nothing_made d mine.operation d.phase (unmade_recovers then' d goes) (made_nothing c mine.operation c.phase goes.unmade mine.made)
  made_sends d (inr (inr goes)) = rebuilt_made then' d mine.operation goes (made_same c then' mine.operation c.phase c.phase refl refl refl mine.made)

  -- the operation's number
  abbrev n : ℕ
  n = number_of w i k

  -- the operation once it ended
  abbrev ended : Bool → Option (Option Cause) → Option Stamp → Operation
  ended answered closed seen = record {
    brick = mine.operation.brick;
    boot = mine.operation.boot;
    seq = mine.operation.seq;
    begin = mine.operation.begin;
    ask = mine.operation.ask;
    version = version_after mine.operation.version seen;
    made = mine.operation.made;
    base = mine.operation.base;
    answered = answered;
    mark = mine.operation.mark;
    closed = closed;
    view = mine.operation.view;
    floor = mine.operation.floor;
  }

  -- what an end leaves
  end_fits : (busy : ℕ) (answer : Answer) (answered : Bool) (closed : Option (Option Cause)) (seen : Option Stamp) → EndFits c.phase answer seen
      → (answered ≡ true → is_answer answer ≡ true) → (operations : ℕ → Option Operation) → operations n ≡ Some (ended answered closed seen)
      → ((m : ℕ) → m ≢ n → operations m ≡ w.operations m)
      → Ended w i k c mine.operation (ended answered closed seen) (put w.nodes i (with_call node known busy k None)) operations
  end_fits busy answer answered closed seen fits answers operations is_ended others = record {
    was = is_call;
    operation_was = mine.operation_is;
    same = record { brick = refl; boot = refl; seq = refl; ask = refl; mark = refl; view = refl };
    begin = refl;
    answered_version = λ is. ends_version c mine.operation c.phase answer seen mine.made fits (answers is);
    keeps = keeps_call known busy None grows;
    jobs = jobs_call known busy None;
    scrubs = scrubs_call known busy None;
    call_is = call_put known busy None;
    other_calls = other_put known busy None;
    operation_is = is_ended;
    other_operations = others;
  }

  -- the brick once the call is gone
  abbrev left : ℕ → Node
  left busy = with_call node known busy k None

  -- the world with these operations and marks
  abbrev end_world : ℕ → Option Stamp → (ℕ → Option Operation) → List Mark → World
  end_world busy stored operations marks =
      ended_world w (put w.nodes i (left busy)) (with_held w.held i (left busy)) (w.packets ++ collect_packets me c stored) operations w.replies
      (choices_after w.choices me (left busy) []) marks

  -- an operation that has marks ends
  books_ends : (answer : Answer) (seen stored : Option Stamp) → EndFits c.phase answer seen → 1 ≤ mine.operation.mark → (mark : ℕ)
      → mark ≡ mine.operation.mark → (operations : ℕ → Option Operation) → operations n ≡ Some (ended (is_answer answer) mine.operation.closed seen)
      → ((m : ℕ) → m ≢ n → operations m ≡ w.operations m)
      → Books setting (end_world (node.busy - 1) stored operations (w.marks ++ (End (length w.marks) mark answer ∷ [])))
  books_ends answer seen stored fits from mark own operations is_ended others =
      subst (λ (m : ℕ). Books setting (end_world (node.busy - 1) stored operations (w.marks ++ (End (length w.marks) m answer ∷ [])))) (sym own)
      (books_ended setting w i k c mine.operation (ended (is_answer answer) mine.operation.closed seen) (put w.nodes i (left (node.busy - 1)))
      (with_held w.held i (left (node.busy - 1))) (w.packets ++ collect_packets me c stored) operations w.replies
      (choices_after w.choices me (left (node.busy - 1)) []) books
      (end_fits (node.busy - 1) answer (is_answer answer) mine.operation.closed seen fits (λ is. is) operations is_ended others) answer from refl refl)

  -- a read of a synchronisation ends
  books_shut : (answer : Answer) (seen stored : Option Stamp) → EndFits c.phase answer seen → mine.operation.mark ≡ 0
      → (operations : ℕ → Option Operation) → operations n ≡ Some (ended (not (is_some (abort_cause answer))) (Some (abort_cause answer)) seen)
      → ((m : ℕ) → m ≢ n → operations m ≡ w.operations m) → Books setting (end_world node.busy stored operations w.marks)
  books_shut answer seen stored fits none operations is_ended others =
      let answered : Bool = not (is_some (abort_cause answer)) in
      books_closed setting w i k c mine.operation (ended answered (Some (abort_cause answer)) seen) (put w.nodes i (left node.busy))
      (with_held w.held i (left node.busy)) (w.packets ++ collect_packets me c stored) operations w.replies (choices_after w.choices me (left node.busy) []) books
      (end_fits node.busy answer answered (Some (abort_cause answer)) seen fits (λ is. sym (answered_unless answer) ∙ is) operations is_ended others)
      (abort_cause answer) none refl refl

  books_closes : (answer : Answer) (seen stored : Option Stamp) → EndFits c.phase answer seen → mine.operation.mark ≡ 0
      → Books setting (closed_world setting w me known c answer seen stored)
  books_closes answer None stored fits none =
      let cause : Option Cause = abort_cause answer in
      books_shut answer None stored fits none (put w.operations n (with_closed cause (w.operations n)))
      (put_same w.operations n (with_closed cause (w.operations n)) ∙ ap (λ (x : Option Operation). with_closed cause x) mine.operation_is)
      (λ m other. put_other w.operations n (with_closed cause (w.operations n)) m other)
  books_closes answer (Some v) stored fits none =
      let cause : Option Cause = abort_cause answer in
      let seen : ℕ → Option Operation = put w.operations n (with_seen v (w.operations n)) in
      books_shut answer (Some v) stored fits none (put seen n (with_closed cause (seen n)))
      (put_same seen n (with_closed cause (seen n))
      ∙ ap (λ (x : Option Operation). with_closed cause x)
      (put_same w.operations n (with_seen v (w.operations n)) ∙ ap (λ (x : Option Operation). with_seen v x) mine.operation_is))
      (λ m other. put_other seen n (with_closed cause (seen n)) m other ∙ put_other w.operations n (with_seen v (w.operations n)) m other)

  -- what a brick does with what its coordinator decided
  books_carried_out : (next : Next) → NextFits fresh then' next
      → ((answer : Answer) (seen stored : Option Stamp) → next ≡ Ends answer seen stored → 1 ≤ mine.operation.mark)
      → Books setting (world_stepped setting w me (carried_out setting me node known c next))
  books_carried_out Ignores fits marked = absurd fits
  books_carried_out (Waits d) fits marked =
      books_turned setting w i k c d mine.operation mine.operation (put w.nodes i (with_call node known node.busy k (Some d))) (with_held w.held i (with_call node known node.busy k (Some d))) (w.packets ++ [])
      w.operations w.contents w.replies _ books
      (record {
        was = is_call;
        operation_was = mine.operation_is;
        same = same_of d fits.same;
        stamp = stamp_stays known (Some d) d.stamp fits.stamp grows;
        call_view = waits_view c d mine.call_view fits.stamp fits.phase fits.call;
        rounds = subst (λ (x : ℕ). (1 ≤ x) × (x ≤ most_rounds)) (sym fits.round) mine.rounds;
        in_round = round_same c d c.phase d.phase (ap (λ (x : Call). x.phase) fits.call) fits.round fits.phase mine.in_round;
        same_ask = record { brick = refl; boot = refl; seq = refl; begin = refl; ask = refl; mark = refl; view = refl; answered = refl; closed = refl };
        made = made_same c d mine.operation c.phase d.phase fits.stamp fits.base fits.phase mine.made;
        keeps = keeps_call known node.busy (Some d) grows;
        jobs = jobs_call known node.busy (Some d);
        scrubs = scrubs_call known node.busy (Some d);
        call_is = call_put known node.busy (Some d);
        other_calls = other_put known node.busy (Some d);
        operation_is = mine.operation_is;
        other_operations = λ m other. refl;
      })
  books_carried_out (Sends d) fits marked =
      let time : ℕ = max known d.stamp.time in
      books_turned setting w i k c d mine.operation mine.operation (put w.nodes i (with_call node time node.busy k (Some d))) (with_held w.held i (with_call node time node.busy k (Some d)))
      (w.packets ++ phase_packets setting me d) w.operations w.contents w.replies _ books
      (record {
        was = is_call;
        operation_was = mine.operation_is;
        same = same_of d fits.same;
        stamp = stamp_sends d fits.how;
        call_view = asks_sends d fits.call fits.how;
        rounds = rounds_sends d fits.how;
        in_round = round_next fresh then' d fits (round_same c then' c.phase c.phase refl refl refl mine.in_round);
        same_ask = record { brick = refl; boot = refl; seq = refl; begin = refl; ask = refl; mark = refl; view = refl; answered = refl; closed = refl };
        made = made_sends d fits.how;
        keeps = keeps_call time node.busy (Some d) (omega arith);
        jobs = jobs_call time node.busy (Some d);
        scrubs = scrubs_call time node.busy (Some d);
        call_is = call_put time node.busy (Some d);
        other_calls = other_put time node.busy (Some d);
        operation_is = mine.operation_is;
        other_operations = λ m other. refl;
      })
  books_carried_out (Makes d) fits marked =
      let o : Operation = record {
        brick = mine.operation.brick;
        boot = mine.operation.boot;
        seq = mine.operation.seq;
        begin = mine.operation.begin;
        ask = mine.operation.ask;
        version = Some d.stamp;
        made = true;
        base = d.base;
        answered = mine.operation.answered;
        mark = mine.operation.mark;
        closed = mine.operation.closed;
        view = mine.operation.view;
        floor = mine.operation.floor;
      } in
      books_turned setting w i k c d mine.operation o (put w.nodes i (with_call node known node.busy k (Some d))) (with_held w.held i (with_call node known node.busy k (Some d)))
      (w.packets ++ phase_packets setting me d) (put w.operations n (with_made d.stamp d.base (w.operations n)))
      (with_content setting.layout.block w.contents d.stamp d.base (w.operations n)) w.replies _ books
      (record {
        was = is_call;
        operation_was = mine.operation_is;
        same = same_of d fits.same;
        stamp = stamp_stays known (Some d) d.stamp fits.stamp grows;
        call_view = next_view then' d (ap (λ (x : Stamp). x.view) fits.stamp) fits.call;
        rounds = subst (λ (x : ℕ). (1 ≤ x) × (x ≤ most_rounds)) (sym fits.round) mine.rounds;
        in_round = round_made d fits.phase;
        same_ask = record { brick = refl; boot = refl; seq = refl; begin = refl; ask = refl; mark = refl; view = refl; answered = refl; closed = refl };
        made = made_now d o fits.phase (refl, refl, refl);
        keeps = keeps_call known node.busy (Some d) grows;
        jobs = jobs_call known node.busy (Some d);
        scrubs = scrubs_call known node.busy (Some d);
        call_is = call_put known node.busy (Some d);
        other_calls = other_put known node.busy (Some d);
        operation_is = put_same w.operations n (with_made d.stamp d.base (w.operations n))
            ∙ ap (λ (x : Option Operation). with_made d.stamp d.base x) mine.operation_is;
        other_operations = λ m other. put_other w.operations n (with_made d.stamp d.base (w.operations n)) m other;
      })
  books_carried_out (Ends answer None stored) fits marked =
      books_ends answer None stored fits.0 (marked answer None stored refl) _ (mark_at w.operations n mine.operation mine.operation_is)
      (put w.operations n (with_answer answer (w.operations n)))
      (put_same w.operations n (with_answer answer (w.operations n)) ∙ ap (λ (x : Option Operation). with_answer answer x) mine.operation_is)
      (λ m other. put_other w.operations n (with_answer answer (w.operations n)) m other)
  books_carried_out (Ends answer (Some v) stored) fits marked =
      let seen : ℕ → Option Operation = put w.operations n (with_seen v (w.operations n)) in
      books_ends answer (Some v) stored fits.0 (marked answer (Some v) stored refl) _ (mark_seen w.operations n v mine.operation mine.operation_is)
      (put seen n (with_answer answer (seen n)))
      (put_same seen n (with_answer answer (seen n))
      ∙ ap (λ (x : Option Operation). with_answer answer x)
      (put_same w.operations n (with_seen v (w.operations n)) ∙ ap (λ (x : Option Operation). with_seen v x) mine.operation_is))
      (λ m other. put_other seen n (with_answer answer (seen n)) m other ∙ put_other w.operations n (with_seen v (w.operations n)) m other)

  -- an operation that ends, and is no read of the brick's own, has marks
  ends_marked : (next : Next) → ClosesNone (job_reading node.job k) (scrub_of node.scrub k) next
      → (answer : Answer) (seen stored : Option Stamp) → next ≡ Ends answer seen stored → 1 ≤ mine.operation.mark
  ends_marked next none answer seen stored ends =
      let neither = none answer seen stored ends in call_marked setting w i k c mine neither.0 neither.1

  -- a read of the brick's own ends
  own_closes : (own : Own) → own_seq node own ≡ Some k → (answer : Answer) (seen stored : Option Stamp) → EndFits c.phase answer seen
      → Books setting (closed_world setting w me known c answer seen stored)
  own_closes own is answer seen stored fits =
      books_closes answer seen stored fits (call_unmarked setting w i k c mine (own_books setting w books i k own is))

  -- a read of the synchronisation ends, and that goes on
  after_closed : (job : Job) → job_reading node.job k ≡ Some job → (answer : Answer) (seen stored : Option Stamp) → EndFits c.phase answer seen
      → AfterClose (Books setting) setting (closed_world setting w me known c answer seen stored) me now job
      (job_after c.group.stripes job.attempt (abort_cause answer))
  after_closed job reading answer seen stored fits =
      let is = reading_is node.job k job reading in
      let x : World = closed_world setting w me known c answer seen stored in
      let seq : own_seq node ForJob ≡ Some k = job_seq node.job job k is.0 is.1 in
      let booked : Books setting x = own_closes ForJob seq answer seen stored fits in
      let over : HasNoRead (x.nodes i) ForJob = closed_no_read setting w me known c answer seen stored ForJob seq in
      record {
        stays = books_no_step setting x x.replies me booked;
        ends = λ told. books_jobless setting x me [] (Report.Sync job.group told) booked over;
        finishes = λ finished.
            books_jobless setting x me (synced_packets me job.group job.view.number setting.layout.bricks 0) (Report.Sync job.group (synced_answer job.view.number))
            booked over;
        reads = λ attempt group goes found.
            (let own = kept_is setting.layout job.view.members job.group.0 group found in
            books_read setting x me now booked (closed_up setting w me known c answer seen stored ∙ mine.up) (record job { attempt = attempt }) group own.0
            over own.1 own.2 (reads_on own.0 own.1 attempt goes));
      }
    where
      -- the next stripe is one of the group
      reads_on : (group : Group) → group_of setting.layout job.group.0 ≡ Some group → (attempt : Attempt)
          → job_after c.group.stripes job.attempt (abort_cause answer) ≡ Reads attempt → IsReadable group attempt.stripe
      reads_on group found attempt goes =
          let is = reading_is node.job k job reading in
          let its : JobBooks w i job = books.jobs i job is.0 in
          let there : w.operations n ≡ Some its.own.operation =
          subst (λ (l : ℕ). IsOperation w (number_of w i l) its.own.operation) is.1 its.own.operation_is in
          let one : its.own.operation ≡ mine.operation = same_Some its.own.operation mine.operation (sym there ∙ mine.operation_is) in
          let ask : mine.operation.ask ≡ job_ask job = ap (λ (x : Operation). x.ask) (sym one) ∙ its.ask in
          let own : OperationBooks setting w n mine.operation = books.operations n mine.operation mine.operation_is in
          let same : own.group ≡ group =
          same_Some own.group group (sym own.group_is ∙ ap (λ (a : Ask). group_of setting.layout a.group.0) ask ∙ found) in
          let readable : IsReadable group job.attempt.stripe =
          subst (λ (g : Group). IsReadable g job.attempt.stripe) same (subst (λ (a : Ask). IsReadable own.group a.stripe.0) ask own.readable) in
          next_readable group c.group.stripes job.attempt attempt (abort_cause answer)
          (mine.stripes group (ap (λ (a : Ask). group_of setting.layout a.group.0) (mine.ask ∙ ask) ∙ found)) readable goes

  -- a scrub ends
  after_scrub : (s : Scrub) → scrub_of node.scrub k ≡ Some s → (answer : Answer) (seen stored : Option Stamp) → EndFits c.phase answer seen
      → (members : List BrickId) (ended : ScrubAnswer)
      → (let x = closed_world setting w me known c answer seen stored in
      Books setting (world_stepped setting x me (scrub_ended (x.nodes me.0) c.call members ended)))
  after_scrub s found answer seen stored fits members ended =
      let is = scrub_is node.scrub k s found in
      let seq : own_seq node ForScrub ≡ Some k = scrub_seq node.scrub s k is.0 is.1 in
      books_scrubless setting (closed_world setting w me known c answer seen stored) me c.call members ended (own_closes ForScrub seq answer seen stored fits)
      (closed_no_read setting w me known c answer seen stored ForScrub seq)

  -- what a brick does with what a coordinator decided
  books_carried_for : (next : Next) → NextFits fresh then' next
      → Books setting (world_stepped setting w me (carried_noted setting me now node known c next (job_reading node.job k) (scrub_of node.scrub k)))
  books_carried_for next fits =
      closing_each (Books setting) setting w me now known c next (job_reading node.job k) (scrub_of node.scrub k)
      (λ none. books_carried_out next fits (ends_marked next none))
      (λ job reading answer seen stored ends. after_closed job reading answer seen stored (ended_fits next fits answer seen stored ends))
      (λ s none found answer seen stored ends. after_scrub s found answer seen stored (ended_fits next fits answer seen stored ends) _ _)
    where
      ended_fits : (next : Next) → NextFits fresh then' next → (answer : Answer) (seen stored : Option Stamp) → next ≡ Ends answer seen stored
          → EndFits c.phase answer seen
      ended_fits next fits answer seen stored ends =
          (let had : NextFits fresh then' (Ends answer seen stored) = subst (NextFits fresh then') ends fits in had.0)

-- a brick that may begin to synchronise is up, and does not yet
sync_up : (setting : Setting) (w : World) (me : BrickId) (group : GroupId) → may_sync setting w me group ≡ true → w.up me.0 ≡ true
sync_up setting w me group may =
    let both = and_parts (is_up setting.layout w me) (not (is_some (sync_refusal setting.layout (w.nodes me.0) group.0))) may in
    (and_parts (is_brick setting.layout me) (w.up me.0) both.0).1

no_job : (job : Option Job) (group : Option Group) → is_some (sync_refusal_in job group) ≡ false → job ≡ None
no_job job None free = absurd (false≢true (sym free))
no_job None (Some group) free = refl
no_job (Some job) (Some group) free = absurd (false≢true (sym free))

pub sync_free : (setting : Setting) (w : World) (me : BrickId) (group : GroupId) → may_sync setting w me group ≡ true → (w.nodes me.0).job ≡ None
unfolding sync_refusal
sync_free setting w me group may =
    let both = and_parts (is_up setting.layout w me) (not (is_some (sync_refusal setting.layout (w.nodes me.0) group.0))) may in
    no_job (w.nodes me.0).job (group_of setting.layout group.0) (not-true _ both.1)

-- a scrub that may begin: its group is there, and has the stripe; of its members a quorum is named; and its brick is up and has none
pub record ScrubFits (setting : Setting) (w : World) (me : BrickId) (number : GroupId) (stripe : StripeNo) (members : List BrickId) : Type 0 where
  pub up : w.up me.0 ≡ true
  pub free : (w.nodes me.0).scrub ≡ None
  pub kept : Group
  pub kept_is : group_at setting.layout (w.nodes me.0) number.0 ≡ Some kept
  pub stripe_fits : stripe.0 < kept.stripes
  pub named : names_quorum kept members ≡ true

pub scrub_fits : (setting : Setting) (w : World) (me : BrickId) (number : GroupId) (stripe : StripeNo) (members : List BrickId)
    → may_scrub setting w me number stripe members ≡ true → ScrubFits setting w me number stripe members
unfolding scrub_refusal
scrub_fits setting w me number stripe members may =
    let both = and_parts (is_up setting.layout w me) (not (is_some (scrub_refusal setting.layout (w.nodes me.0) number stripe members))) may in
    let none : scrub_refusal setting.layout (w.nodes me.0) number stripe members ≡ None
    = no_refusal (scrub_refusal setting.layout (w.nodes me.0) number stripe members) (not-true _ both.1) in
    by (and_parts (is_brick setting.layout me) (w.up me.0) both.0).1 (group_at setting.layout (w.nodes me.0) number.0) refl none
  where
    no_refusal : (r : Option Refusal) → is_some r ≡ false → r ≡ None
    no_refusal None h = refl
    no_refusal (Some r) h = absurd (let never : true ≡ false = h in cc)

    unless : (b : Bool) (r : Refusal) (rest : Option Refusal) → cond b (Some r) rest ≡ None → (b ≡ false) × (rest ≡ None)
    unless true r rest h = absurd (let never : Some r ≡ None = h in cc)
    unless false r rest h = (refl, h)

    no_scrub : (s : Option Scrub) → is_some s ≡ false → s ≡ None
    no_scrub None h = refl
    no_scrub (Some s) h = absurd (let never : true ≡ false = h in cc)

    by : w.up me.0 ≡ true → (z : Option Group) → group_at setting.layout (w.nodes me.0) number.0 ≡ z → scrub_refusal_in (w.nodes me.0) stripe members z ≡ None
        → ScrubFits setting w me number stripe members
    by up None is h = absurd (let never : Some Refusal.NoStripe ≡ None = h in cc)
    by up (Some group) is h =
        let first = unless (not (nat_lt stripe.0 group.stripes)) Refusal.NoStripe _ h in
        let second = unless (not (names_quorum group members)) Refusal.NoQuorum _ first.1 in
        let third = unless (is_some (w.nodes me.0).scrub) Refusal.Busy _ second.1 in
        record {
          up = up;
          free = no_scrub (w.nodes me.0).scrub third.0;
          kept = group;
          kept_is = is;
          stripe_fits = ltb-true stripe.0 group.stripes (not-false _ first.0);
          named = not-false _ second.0;
        }

-- at least a quorum is named
pub named_enough : (group : Group) (members : List BrickId) → names_quorum group members ≡ true → AreEnough group (Some members)
named_enough group members named =
    let all = and_parts (are_distinct members) _ named in
    let most = and_parts (list_all (λ (member : BrickId). is_some (seat_in group.members member.0)) members) _ all.1 in
    ltb-false (length members) (quorum_of group) (not-true _ most.1)

-- what a reply makes known is no less
pub known_grows : (known : ℕ) (reply : Reply) → known ≤ known_after known reply
known_grows known (Reply.Later t) = omega arith
known_grows known reply = omega arith

module _ (setting : Setting) (w : World) where
  -- a reply, once it is noted who lagged
  books_counted_at : (me : BrickId) (now : ℕ) (from : BrickId) (reply : Reply) (c : Coordinator)
      (seat : Option ℕ) → Books setting w → IsCall w me.0 c.call.seq c
      → (let known = known_after (w.nodes me.0).known reply in
      Books setting (world_stepped setting w me (carried_noted setting me now (w.nodes me.0) known c
      (counted_at setting.layout.block setting.code (fresh_stamp me c.stamp.view now (w.nodes me.0).boot known) c from reply seat)
      (job_reading (w.nodes me.0).job c.call.seq) (scrub_of (w.nodes me.0).scrub c.call.seq))))
  books_counted_at me now from reply c None books is_call =
      let known = known_after (w.nodes me.0).known reply in
      closing_each (Books setting) setting w me now known c Ignores (job_reading (w.nodes me.0).job c.call.seq) (scrub_of (w.nodes me.0).scrub c.call.seq)
      (λ none. books_known setting w w.replies me known books (known_grows (w.nodes me.0).known reply))
      (λ job reading answer seen stored ends. absurd (let never : Ignores ≡ Ends answer seen stored = ends in cc))
      (λ s none found answer seen stored ends. absurd (let never : Ignores ≡ Ends answer seen stored = ends in cc))
  books_counted_at me now from reply c (Some seat) books is_call =
      let known = known_after (w.nodes me.0).known reply in
      let fresh = fresh_stamp me c.stamp.view now (w.nodes me.0).boot known in
      books_carried_for setting w me now known c (with_reply c seat from reply).counted books is_call
      (known_grows (w.nodes me.0).known reply)
      (once_full setting.layout.block setting.code fresh (with_reply c seat from reply))
      (once_full_fits setting.layout.block setting.code fresh (with_reply c seat from reply))

  -- once a reply ended a read of the brick's own, before what follows
  pub books_closing : (me : BrickId) (now : ℕ) (from : BrickId) (call : Call) (reply : Reply) (c : Coordinator) → Books setting w
      → IsCall w me.0 c.call.seq c → (own : Own) → own_seq (w.nodes me.0) own ≡ Some c.call.seq
      → (answer : Answer) (seen stored : Option Stamp)
      → (let known = known_after (w.nodes me.0).known reply in
      on_reply setting.layout.block setting.code (fresh_stamp me c.stamp.view now (w.nodes me.0).boot known) c from call reply ≡ Ends answer seen stored)
      → Books setting (closed_world setting w me (known_after (w.nodes me.0).known reply) c answer seen stored)
  unfolding on_reply mine
  books_closing me now from call reply c books is_call own is answer seen stored =
      by (counts_at setting.layout.block c from.0 call reply)
    where
      known : ℕ
      known = known_after (w.nodes me.0).known reply

      fresh : Option Stamp
      fresh = fresh_stamp me c.stamp.view now (w.nodes me.0).boot known

      by : (seat : Option ℕ) → counted_at setting.layout.block setting.code fresh c from reply seat ≡ Ends answer seen stored
          → Books setting (closed_world setting w me known c answer seen stored)
      by None ends = absurd (let never : Ignores ≡ Ends answer seen stored = ends in cc)
      by (Some seat) ends =
          let had : NextFits fresh (with_reply c seat from reply) (Ends answer seen stored) =
          subst (NextFits fresh (with_reply c seat from reply)) ends
          (once_full_fits setting.layout.block setting.code fresh (with_reply c seat from reply)) in
          own_closes setting w me now known c (with_reply c seat from reply).counted books is_call (known_grows (w.nodes me.0).known reply) own is
          answer seen stored had.0

  books_replied_noted : (me : BrickId) (now : ℕ) (from : BrickId) (call : Call) (reply : Reply)
      (found : Option Coordinator) → Books setting w → (w.nodes me.0).calls call.seq ≡ found
      → Books setting (world_stepped setting w me (replied_noted setting me now from (w.nodes me.0) call reply found))
  unfolding on_reply
  books_replied_noted me now from call reply None books is =
      let known : ℕ = known_after (w.nodes me.0).known reply in
      ballot_each (λ (step : NodeStep). Books setting (world_stepped setting w me step)) setting.layout me from (with_known (w.nodes me.0) known) call reply
      (w.nodes me.0).proposal (λ seq round proposal packets reports more are.
      books_silent setting w w.replies me (record (w.nodes me.0) { known = known; seq = seq; round = round; proposal = proposal }) packets reports books
      (record { boot = refl; seq = more; known = known_grows (w.nodes me.0).known reply }, λ l. refl, refl, refl))
  books_replied_noted me now from call reply (Some c) books is =
      let seq : c.call.seq ≡ call.seq = (books.calls me.0 call.seq c is).call_seq in
      books_counted_at me now from reply c (counts_at setting.layout.block c from.0 call reply) books
      (subst (λ (l : ℕ). IsCall w me.0 l c) (sym seq) is)

  -- a brick begins a scrub
  books_scrubbed : (me : BrickId) (now : ℕ) (group : GroupId) (stripe : StripeNo) (members : List BrickId) → Books setting w
      → may_scrub setting w me group stripe members ≡ true
      → Books setting (world_stepped setting w me (scrubbed_at setting me now (w.nodes me.0) group stripe members))
  books_scrubbed me now group stripe members books may =
      let fits = scrub_fits setting w me group stripe members may in
      scrubbed_at_each (λ (step : NodeStep). Books setting (world_stepped setting w me step)) setting me now (w.nodes me.0) group stripe members
      (books_no_step setting w w.replies me books)
      (λ kept is.
      let found = kept_is setting.layout ((w.nodes me.0).learnt group.0).view.members group.0 kept is in
      let same : fits.kept ≡ kept = same_Some fits.kept kept (sym fits.kept_is ∙ is) in
      books_scrub setting w me now books fits.up group stripe members kept found.0
      (λ k has. absurd (let never : None ≡ Some k = ap (option_map (λ (z : Scrub). z.seq)) (sym fits.free) ∙ has in cc)) found.1 found.2
      (inr (let stripes : fits.kept.stripes ≡ found.0.stripes = ap (λ (g : Group). g.stripes) same ∙ found.2 in omega (arith, fits.stripe_fits, stripes)))
      (subst (λ (g : Group). AreEnough g (Some members)) same (named_enough fits.kept members fits.named)))

  -- a brick begins to synchronise
  books_synced : (me : BrickId) (now : ℕ) (group : GroupId) → Books setting w → may_sync setting w me group ≡ true
      → Books setting (world_stepped setting w me (synced_at setting me now (w.nodes me.0) group))
  books_synced me now group books may =
      let none : (w.nodes me.0).job ≡ None = sync_free setting w me group may in
      let over : HasNoRead (w.nodes me.0) ForJob =
      λ k has. absurd (let never : None ≡ Some k = ap (option_map (λ (z : Job). z.seq)) (sym none) ∙ has in cc) in
      synced_at_each (λ (step : NodeStep). Books setting (world_stepped setting w me step)) setting me now (w.nodes me.0) group
      (books_no_step setting w w.replies me books)
      (λ answer. books_silent setting w w.replies me (w.nodes me.0) [] (Report.Sync group answer ∷ []) books (keeps_itself (w.nodes me.0)))
      (λ answer. books_jobless setting w me [] (Report.Sync group answer) books over)
      (λ kept is.
      let job : Job = begun_job group ((w.nodes me.0).learnt group.0).view in
      let found = kept_is setting.layout job.view.members group.0 kept is in
      books_read setting w me now books (sync_up setting w me group may) job kept found.0 over found.1 found.2 (inl refl))

-- a brick that is taught a view keeps its numbers and calls
pub taught_keeps : (block g : ℕ) (node : Node) (view : Option View) → KeepsCalls node (node_taught_by block g node view)
taught_keeps block g node view =
    told_each (λ (n : Node). KeepsCalls node n) block g node view (keeps_itself node)
    (λ v later. (record { boot = refl; seq = omega arith; known = omega arith }, λ l. refl, refl, refl))

pub synced_keeps : (layout : Layout) (node : Node) (group : GroupId) (number : ViewNo) → KeepsCalls node (node_synced layout node group number)
synced_keeps layout node group number =
    synced_each (λ (n : Node). KeepsCalls node n) layout node group number (keeps_itself node)
    (λ now unsynced. (record { boot = refl; seq = omega arith; known = omega arith }, λ l. refl, refl, refl))

pub learnt_keeps : (layout : Layout) (node : Node) (group : GroupId) (view : View) → KeepsCalls node (node_learnt layout node group view)
learnt_keeps layout node group view =
    learnt_each (λ (n : Node). KeepsCalls node n) layout node group view (keeps_itself node)
    (λ later. (record { boot = refl; seq = omega arith; known = omega arith }, λ l. refl, refl, refl))

-- so does one that hears what a reply teaches
pub hearing_keeps : (setting : Setting) (w : World) (me from : BrickId) (call : Call) (reply : Reply)
    → KeepsCalls (w.nodes me.0) (taught_by setting w me from call reply)
hearing_keeps setting w me from call reply =
    told_each (λ (n : Node). KeepsCalls (w.nodes me.0) n) setting.layout.block call.group.0 (with_round (w.nodes me.0) reply)
    (view_counted setting.layout from (w.nodes me.0) call reply) (record { boot = refl; seq = omega arith; known = omega arith }, λ l. refl, refl, refl)
    (λ v later. (record { boot = refl; seq = omega arith; known = omega arith }, λ l. refl, refl, refl))

-- a reply to an open operation, or to a proposal
books_replied_at : (setting : Setting) (w : World) (me : BrickId) (now : ℕ) (from : BrickId) (call : Call) (reply : Reply) (found : Option Coordinator)
    → Books setting w → (w.nodes me.0).calls call.seq ≡ found
    → Books setting (world_stepped setting w me (replied_at setting me now from (w.nodes me.0) call reply found))
books_replied_at setting w me now from call reply found books is =
    noting_each (Books setting) setting w me now from call reply found
    (let node : Node = noted_by setting me now from (w.nodes me.0) call reply found in
    let keeps = noted_keeps setting me now from (w.nodes me.0) call reply found in
    books_replied_noted setting (kept_world w me node) me now from call reply found (books_kept setting w me node books keeps)
    (ap (λ (n : Node). n.calls call.seq) (put_same w.nodes me.0 node) ∙ keeps.1 call.seq ∙ is))

module _ (setting : Setting) (w : World) where
  books_heard : (me : BrickId) (now : ℕ) (from : BrickId) (call : Call) (reply : Reply)
      → Books setting w → Books setting (stepped setting w w.replies me (heard setting me now from (w.nodes me.0) call reply))
  books_heard me now from call reply books =
      hearing_each (Books setting) setting w me now from call reply
      (books_silent setting w w.replies me (with_known (with_round (w.nodes me.0) reply) (known_after (w.nodes me.0).known reply)) [] [] books
      (record { boot = refl; seq = omega arith; known = known_grows (w.nodes me.0).known reply }, λ l. refl, refl, refl))
      (λ fit.
      let node : Node = taught_by setting w me from call reply in
      let keeps = hearing_keeps setting w me from call reply in
      let x : World = kept_world w me node in
      books_replied_at setting x me now from call reply ((w.nodes me.0).calls call.seq) (books_kept setting w me node books keeps)
      (ap (λ (n : Node). n.calls call.seq) (put_same w.nodes me.0 node) ∙ keeps.1 call.seq))

  -- a message
  books_received : (me : BrickId) (now : ℕ) (from to : BrickId) (message : Message)
      → Books setting w
      → Books setting (stepped setting w w.replies me (received setting me now (w.nodes me.0) (record { from = from; to = to; message = message })))
  unfolding received
  books_received me now from to (Message.Request call request) books = books_requested setting w w.replies me from call request books
  books_received me now from to (Message.Reply call reply) books = books_heard me now from call reply books
  books_received me now from to (Message.Learn group view) books =
      books_silent setting w w.replies me (node_learnt setting.layout (w.nodes me.0) group view) [] [] books (learnt_keeps setting.layout (w.nodes me.0) group view)
  books_received me now from to (Message.Synced group number) books =
      books_silent setting w w.replies me (node_synced setting.layout (w.nodes me.0) group number) [] [] books (synced_keeps setting.layout (w.nodes me.0) group number)
  books_received me now from to message books = books_no_step setting w w.replies me books

  -- the books do not change with the replies that count, the messages that were delivered, or the choices
  pub books_beside : (replies : Replies) (reached : ℕ → Bool) (choices : Choices) → Books setting w
      → Books setting (record w { replies = replies; reached = reached; choices = choices })
  books_beside replies reached choices books =
      books_quiet setting w w.nodes w.held w.clocks w.packets replies reached choices books (λ i. keeps_all (w.nodes i)) (λ i k. refl)
      (λ i. reads_stay (w.nodes i))

-- a message is handled
books_handled : (setting : Setting) (w : World) (number : ℕ) (packet : Packet) → Books setting w → Books setting (world_handled setting w number packet)
books_handled setting w number packet books =
    books_received setting (world_counting setting w number packet) packet.to (w.clocks packet.to.0) packet.from packet.to packet.message
    (books_beside setting w (replies_with setting w packet) (put w.reached number true) (voiced setting w packet) books)

-- where no reason to refuse is found, the group is there, and the ask fits it
cond_none : (b : Bool) (r : Refusal) (rest : Option Refusal) → cond b (Some r) rest ≡ None → (b ≡ false) × (rest ≡ None)
cond_none true r rest h = absurd (let never : Some r ≡ None = h in cc)
cond_none false r rest h = (refl, h)

not_refused : (block : ℕ) (node : Node) (ask : Ask) (found : Option Group) → refusal_in block node ask found ≡ None
    → (group : Group) × (found ≡ Some group) × (ask.stripe.0 < group.stripes) × (has_block group.m ask.op ≡ true) × (has_length group.m block ask.op ≡ true)
not_refused block node ask None h = absurd (let never : Some Refusal.NoStripe ≡ None = h in cc)
not_refused block node ask (Some group) h =
    let first = cond_none (not (nat_lt ask.stripe.0 group.stripes)) Refusal.NoStripe _ h in
    let second = cond_none (not (has_block group.m ask.op)) Refusal.NoBlock _ first.1 in
    let third = cond_none (not (has_length group.m block ask.op)) Refusal.Length _ second.1 in
    (group, refl, ltb-true ask.stripe.0 group.stripes (not-false _ first.0), not-false _ second.0, not-false _ third.0)

no_value : (r : Option Refusal) → is_some r ≡ false → r ≡ None
no_value None h = refl
no_value (Some r) h = absurd (let never : true ≡ false = h in cc)

-- an operation that may begin has its group, and fits it
pub record BeginFits (setting : Setting) (ask : Ask) : Type 0 where
  pub group : Group
  pub group_is : group_of setting.layout ask.group.0 ≡ Some group
  pub block_fits : has_block group.m ask.op ≡ true
  pub stripe : ask.stripe.0 < group.stripes
  pub length_fits : has_length group.m setting.layout.block ask.op ≡ true

pub begin_fits : (setting : Setting) (w : World) (brick : BrickId) (ask : Ask) → may_begin setting w brick ask ≡ true → BeginFits setting ask
unfolding refusal_of
begin_fits setting w brick ask may =
    let both = and_parts (is_up setting.layout w brick)
    (not (is_some (refusal_of setting.layout (w.nodes brick.0) ask))) may in
    let none : refusal_of setting.layout (w.nodes brick.0) ask ≡ None = no_value (refusal_of setting.layout (w.nodes brick.0) ask)
    (not-true _ both.1) in
    let fits = not_refused setting.layout.block (w.nodes brick.0) ask (group_of setting.layout ask.group.0) none in
    record { group = fits.0; group_is = fits.1; stripe = fits.2; block_fits = fits.3; length_fits = fits.4 }

-- as the members of the view keep it that a brick has learnt
abbrev pub group_there : Node → Ask → Group → Group
group_there node ask group = kept_by (node.learnt ask.group.0).view.members group

pub fits_at : (setting : Setting) (node : Node) (ask : Ask) (fits : BeginFits setting ask)
    → group_at setting.layout node ask.group.0 ≡ Some (group_there node ask fits.group)
fits_at setting node ask fits = ap (option_map (kept_by (node.learnt ask.group.0).view.members)) fits.group_is

-- it begins at a brick that is up
pub begin_up : (setting : Setting) (w : World) (brick : BrickId) (ask : Ask) → may_begin setting w brick ask ≡ true → w.up brick.0 ≡ true
begin_up setting w brick ask may =
    let both = and_parts (is_up setting.layout w brick)
    (not (is_some (refusal_of setting.layout (w.nodes brick.0) ask))) may in
    (and_parts (is_brick setting.layout brick) (w.up brick.0) both.0).1

-- an invocation
books_invoked : (setting : Setting) (w : World) (brick : BrickId) (now : ℕ) (ask : Ask) → Books setting w → may_begin setting w brick ask ≡ true
    → Books setting (world_began w brick ask (invoked setting brick now (w.nodes brick.0) ask))
unfolding invoked
books_invoked setting w brick now ask books may =
    let fits : BeginFits setting ask = begin_fits setting w brick ask may in
    subst (λ (found : Option Group). Books setting (world_began w brick ask (began setting brick now (w.nodes brick.0) ask found)))
    (sym (fits_at setting (w.nodes brick.0) ask fits))
    (books_began setting w brick now ask fits.group books fits.block_fits fits.group_is fits.stripe
    (begin_up setting w brick ask may) fits.length_fits)

-- what a request leaves of a brick keeps its numbers and calls
pub requested_keeps : (setting : Setting) (me from : BrickId) (node : Node) (call : Call) (request : Request)
    → KeepsCalls node (requested setting me from node call request).node
requested_keeps setting me from node call request =
    request_each (λ (step : NodeStep). KeepsCalls node step.node) setting me from node call request (keeps_itself node) (λ moved is. keeps_itself node)
    (λ group seat here served. (record { boot = refl; seq = omega arith; known = omega arith }, λ l. refl, refl, refl))
    (λ group ballot asked here. (record { boot = refl; seq = omega arith; known = omega arith }, λ l. refl, refl, refl))

-- so does what it keeps of a message
pub kept_keeps : (setting : Setting) (me : BrickId) (node : Node) (from to : BrickId) (message : Message)
    → KeepsCalls node (kept_of setting me node (record { from = from; to = to; message = message }))
unfolding kept_of
kept_keeps setting me node from to (Message.Request call request) = requested_keeps setting me from node call request
kept_keeps setting me node from to (Message.Reply call reply) =
    cond_both (lists_fit setting.layout call reply) (node_taught_by setting.layout.block call.group.0 node (view_told reply)) node
    (λ (n : Node). KeepsCalls node n) (λ fit. taught_keeps setting.layout.block call.group.0 node (view_told reply)) (λ isnt. keeps_itself node)
kept_keeps setting me node from to (Message.Learn group view) = learnt_keeps setting.layout node group view
kept_keeps setting me node from to (Message.Synced group number) = synced_keeps setting.layout node group number
kept_keeps setting me node from to message = keeps_itself node

module _ (setting : Setting) (w : World) where
  -- so does what the store of a stopped brick may hold
  left_keeps : (i : ℕ) (node : Node) → IsLeft setting w i node → KeepsCalls (w.nodes i) node
  left_keeps i node = ⊎_elim
      (λ (same : node ≡ w.nodes i). subst (λ (z : Node). KeepsCalls (w.nodes i) z) (sym same) (keeps_itself (w.nodes i)))
      (λ (handled : (packet : Packet) × (packet.to ≡ record { 0 = i }) × WasSent w packet
      × (node ≡ kept_of setting (record { 0 = i }) (w.nodes i) packet)).
      subst (λ (z : Node). KeepsCalls (w.nodes i) z) (sym handled.3)
      (kept_keeps setting (record { 0 = i }) (w.nodes i) handled.0.from handled.0.to handled.0.message))

  -- a brick that starts keeps what its store is found to hold, with the calls and numbers that it had
  pub found_keeps : (brick : BrickId) (found : Found) → w.up brick.0 ≡ false → Leaves setting w → (i : ℕ)
      → KeepsCalls (w.nodes i) ((world_found w brick found).nodes i)
  found_keeps brick Before down leaves i = keeps_itself (w.nodes i)
  found_keeps brick After down leaves i =
      put_each (λ (j : ℕ) (z : Node). KeepsCalls (w.nodes j) z) w.nodes brick.0 (w.after brick.0)
      (left_keeps brick.0 (w.after brick.0) (leaves brick.0 down)) (λ j other. keeps_itself (w.nodes j)) i

  -- and with its books
  pub books_found : (brick : BrickId) (found : Found) → w.up brick.0 ≡ false → Leaves setting w → Books setting w
      → Books setting (world_found w brick found)
  books_found brick Before down leaves books = books
  books_found brick After down leaves books =
      let keeps : (i : ℕ) → KeepsCalls (w.nodes i) ((world_found w brick After).nodes i) = found_keeps brick After down leaves in
      books_quiet setting w (put w.nodes brick.0 (w.after brick.0)) (with_held w.held brick.0 (w.after brick.0)) w.clocks w.packets w.replies w.reached _ books
      (λ i. (keeps i).0) (λ i. (keeps i).1) (λ i. calls_reads (w.nodes i) ((world_found w brick After).nodes i) (keeps i))

  -- a brick may start that is down, and its store is opened at least once
  pub start_fits : (brick : BrickId) (openings : ℕ) → may_start setting.layout w brick openings ≡ true
      → (w.up brick.0 ≡ false) × (1 ≤ openings)
  start_fits brick openings may =
      let both = and_parts (is_brick setting.layout brick) (not (w.up brick.0) && may_open openings (w.nodes brick.0)) may in
      let rest = and_parts (not (w.up brick.0)) (may_open openings (w.nodes brick.0)) both.1 in
      let few = and_parts (nat_lt 0 openings) (nat_lt ((w.nodes brick.0).boot + openings) (2 ^ 32)) rest.1 in
      let once : 0 < openings = ltb-true 0 openings few.0 in
      (not-true (w.up brick.0) rest.0, omega arith)

  -- every event keeps the books
  books_cases : Leaves setting w → Books setting w → EventCases setting w (Books setting)
  books_cases leaves books = record {
    begins = λ brick ask may. books_invoked setting w brick (w.clocks brick.0) ask books may;
    proposes = λ brick group members may. books_proposed setting w brick group members books;
    syncs = λ brick group may. books_synced setting w brick (w.clocks brick.0) group books may;
    scrubs = λ brick group stripe members may. books_scrubbed setting w brick (w.clocks brick.0) group stripe members books may;
    handles = λ number packet at up. books_handled setting w number packet books;
    sets = λ brick time is.
        books_quiet setting w w.nodes w.held (put w.clocks brick.0 time) w.packets w.replies w.reached _ books (λ i. keeps_all (w.nodes i)) (λ i k. refl)
        (λ i. reads_stay (w.nodes i));
    ticks = λ brick up.
        books_quiet setting w w.nodes w.held w.clocks (w.packets ++ ticked setting brick (w.nodes brick.0)) w.replies w.reached _ books
        (λ i. keeps_all (w.nodes i)) (λ i k. refl) (λ i. reads_stay (w.nodes i));
    stops = λ brick during up. books_stopped setting w brick during books;
    starts = λ brick openings found may.
        (let fits = start_fits brick openings may in
        books_started setting (world_found w brick found) brick openings (books_found brick found fits.0 leaves books)
        (found_down w brick found fits.0) fits.1);
  }

-- a brick that is up at first was opened once
first_boots : (old : Bool) → not old ≡ true → 1 ≤ cond old 0 1
first_boots true up = absurd (let never : false ≡ true = up in cc)
first_boots false up = omega arith

-- at first nothing is booked
books_first : (setting : Setting) → Books setting (first_world setting.layout)
books_first setting = record {
  well_formed = record {
    positions_rise = λ k lt. absurd (omega arith);
    numbers_rise = λ k lt. absurd (omega arith);
    ends_are_of_open = λ i p n answer is. absurd (let never : None ≡ Some _ = is in cc);
  };
  places = λ k mark is. absurd (let never : None ≡ Some mark = is in cc);
  boots = λ i up. first_boots (has_old_stores setting.layout) up;
  own = record {
    within = λ n o is. absurd (let never : None ≡ Some o = is in cc);
    in_turn = λ n m o p is. absurd (let never : None ≡ Some o = is in cc);
    each = λ mark low high. absurd (omega arith);
  };
  all_begun = λ n low high. absurd (omega arith);
  operations = λ n o is. absurd (let never : None ≡ Some o = is in cc);
  calls = λ i k c is. absurd (let never : None ≡ Some c = is in cc);
  fresh_calls = λ i k lt. refl;
  jobs = λ i job is. absurd (let never : None ≡ Some job = is in cc);
  scrubs = λ i k is. absurd (let never : None ≡ Some k = is in cc);
  apart = λ i k reads scrubs. let never : None ≡ Some k = scrubs in cc;
  lives = λ n life is. absurd (let never : None ≡ Some life = is in cc);
}

-- the books hold in every world that a run reaches
pub books : (setting : Setting) (events : List Event) → Books setting (run setting events (first_world setting.layout))
books setting = always_where (Books setting) (Leaves setting) setting (always_leaves setting) (books_first setting) (books_cases setting)
