-- A request to store a version is sent while a quorum takes nothing below it, and while its operation is open: an event that sends one lowers and raises no
-- brick, and sends it for a call that is open.
use Rattle.protocol.specs.Jobs.{Job, begun_job}
use Rattle.view_laws.proofs.SyncReads.{carried_each, synced_at_each, each_tick, each_synced, read_call, scrubbed_at_each}
use Rattle.std.proofs.Common.{◌≡◌, ℕ, Bool, true, false, ⊎_elim, not, List, [], ◌∷◌, ◌++◌, length, Option, Some, None, refl, sym, ap, ◌∙◌, subst, arith}
use Rattle.std.specs.Prelude.{slice_get, nat_lt, if◌then◌else◌}
use Rattle.fab_base.specs.declared.identities.BrickId.{BrickId}
use Rattle.fab_base.specs.declared.asks.Ask.{Ask}
use Rattle.fab_base.specs.declared.asks.Op.{Op}
use Rattle.fab_base.specs.declared.asks.Op.TheVariants.{ReadBlock, WriteBlock, ReadStripe, WriteStripe}
use Rattle.fab_base.specs.declared.stamps.Stamp.{Stamp}
use Rattle.fab_base.specs.Stamps.{stamp_below}
use Rattle.fab_base.specs.Layouts.{Group, brick_at}
use Rattle.quorum.proofs.Counts.{count_monotone}
use Rattle.messages.specs.declared.calls.Call.{Call}
use Rattle.messages.specs.declared.packets.Message.{Message}
use Rattle.messages.specs.declared.packets.Packet.{Packet}
use Rattle.messages.specs.declared.replies.Reply.{Reply}
use Rattle.protocol.specs.Settings.{Setting, Code, IsSound}
use Rattle.protocol.specs.Views.{Views, view_told}
use Rattle.protocol.specs.declared.phases.Counted.{Counted}
use Rattle.protocol.specs.declared.phases.Mover.{Mover}
use Rattle.protocol.specs.Proposals.{Proposal}
use Rattle.fab_base.specs.declared.identities.GroupId.{GroupId}
use Rattle.fab_base.specs.declared.identities.ViewNo.{ViewNo}
use Rattle.fab_base.specs.declared.member_lists.View.{View}
use Rattle.messages.specs.declared.replies.Lineage.{Lineage}
use Rattle.std.proofs.lemmas.Bool.{cond_both}
use Rattle.protocol_laws.proofs.Counting.{mover_one}
use Rattle.protocol_laws.proofs.Proposing.{AreOfViews, of_views_each, resent_of_views, ballot_each, proposed_each}
use Rattle.protocol_laws.proofs.Teaching.{heard_each, replied_rests}
use Rattle.protocol.specs.Replicas.{handle}
use Rattle.protocol.specs.Coordinators.{mover_of, lower_mover, lowest_mover, aborted_moved, decided, Coordinator, Next, Ignores, Waits, Sends, Makes, Ends, with_reply, once_full, counted_at, counts_at, on_reply, request_of, asked_group, needed, hearing}
use Rattle.protocol.specs.Nodes.{Node, NodeStep, put, top_at, first_phase, phase_packets, new_coordinator, began, invoked, replica_at, full_at, known_after, fresh_stamp, carried_out, group_at, replied_at, heard, received, ticked, with_round, with_known, node_taught, node_taught_by, view_counted, counts_here, vote_at, replied_ballot, proposed, synced_at, carried_for, job_reading, collect_packets, read_closed, synced_packets, scrub_of, with_scrub, scrub_coordinator, scrubbed_at}
use Rattle.protocol.specs.Worlds.{World, Event, first_world, world_began, world_stopped, happens, run, world_ticked, world_stepped, world_started, world_found, After}
use Rattle.protocol.proofs.Events.{EventCases, step_on, world_handled, happens_each, started_each, run-append}
use Rattle.protocol.proofs.Packets.{OfEach, each_none, each_both, each_member, each_collect, each_reply}
use Rattle.protocol.proofs.Served.{request_each}
use Rattle.protocol.proofs.Tables.{put_each}
use Rattle.protocol_laws.specs.Laws.{HasNotEnded, top_in, stamp_stored, IsGuarded, RunFollows, WritesWereGuarded}
use Rattle.protocol_laws.proofs.TalliesKept.{not_ended}
use Rattle.protocol_laws.proofs.Books.{Books, CallBooks, IsCall}
use Rattle.protocol_laws.proofs.BooksEvents.{books}
use Rattle.protocol_laws.proofs.Outcomes.{NextFits, once_full_fits}
use Rattle.protocol_laws.proofs.SaidAlways.{always_said, follows_front}
use Rattle.protocol_laws.proofs.Sendings.{Adds, adds_none, SentAt, sent_at}
use Rattle.protocol_laws.proofs.Tops.{KeepsPlaces, top_same}
use Rattle.protocol_laws.proofs.ViewLaws.{writes_guarded}
use Rattle.protocol.specs.Scrubs.{Scrub, lagging_after}
use Rattle.fab_base.specs.declared.identities.StripeNo.{StripeNo}
use Rattle.protocol.specs.declared.phases.Phase.{Phase}

-- a request to store is of an open call, and all bricks have come as far after the event that sends it as before
abbrev StoresIn : World → World → BrickId → Message → Type 0
StoresIn w next from (Message.Request call request) =
    (t : Stamp) → stamp_stored request ≡ Some t
    → ((g s i : ℕ) → top_in next g s i ≡ top_in w g s i) × HasNotEnded w (w.numbers from.0 call.boot call.seq)
StoresIn w next from message = Unit {0}

abbrev StoresOpen : World → World → Packet → Type 0
StoresOpen w next packet = StoresIn w next packet.from packet.message

-- where one brick changes, and keeps its places, all bricks have come as far as before
tops_put : (w next : World) (me : ℕ) (node : Node) → next.nodes ≡ put w.nodes me node → KeepsPlaces (w.nodes me) node → (g s i : ℕ)
    → top_in next g s i ≡ top_in w g s i
tops_put w next me node nodes same g s i =
    ap (λ (f : ℕ → Node). top_at (f i) g s) nodes
    ∙ put_each (λ j x. top_at x g s ≡ top_at (w.nodes j) g s) w.nodes me node (top_same (w.nodes me) node same g s) (λ j other. refl) i

-- an open call's operation has not ended
call_open : (setting : Setting) (w : World) → Books setting w → (i k : ℕ) (c : Coordinator) → IsCall w i k c
    → HasNotEnded w (w.numbers i c.call.boot c.call.seq)
call_open setting w books i k c is =
    let its : CallBooks setting w i k c = books.calls i k c is in
    subst (λ (n : ℕ). HasNotEnded w n)
    (ap (λ (b : ℕ). w.numbers i b k) (sym its.call_boot) ∙ ap (λ (s : ℕ). w.numbers i c.call.boot s) (sym its.call_seq))
    (not_ended setting w i k c books is)

-- the first phase of an operation stores nothing
first_stores : (code : Code) (c : Coordinator) (op : Op) (seat : ℕ) (t : Stamp)
    → stamp_stored (request_of code (record c { phase = first_phase op }) seat) ≡ Some t → ⊥
unfolding request_of
first_stores code c (ReadBlock j) seat t is = let never : None ≡ Some t = is in cc
first_stores code c (WriteBlock j bytes) seat t is = let never : None ≡ Some t = is in cc
first_stores code c ReadStripe seat t is = let never : None ≡ Some t = is in cc
first_stores code c (WriteStripe bytes) seat t is = let never : None ≡ Some t = is in cc

-- what is sent next is of the same call
abbrev NextIsSame : Coordinator → Next → Type 0
NextIsSame c (Sends d) = (d.call.boot ≡ c.call.boot) × (d.call.seq ≡ c.call.seq)
NextIsSame c (Makes d) = (d.call.boot ≡ c.call.boot) × (d.call.seq ≡ c.call.seq)
NextIsSame c next = Unit {0}

next_same : (fresh : Option Stamp) (c : Coordinator) (next : Next) → NextFits fresh c next → NextIsSame c next
next_same fresh c Ignores fits = tt
next_same fresh c (Waits d) fits = tt
next_same fresh c (Sends d) fits = (fits.same.boot, fits.same.seq)
next_same fresh c (Makes d) fits = (fits.same.boot, fits.same.seq)
next_same fresh c (Ends answer seen stored) fits = tt

-- what a coordinator decides begins no phase
abbrev BeginsNone : Next → Type 0
BeginsNone (Sends d) = ⊥
BeginsNone (Makes d) = ⊥
BeginsNone next = Unit {0}

-- a member that tells of a later view is the lowest of those that do, or one is
some_lower : (a b : Option Mover) (m : Mover) → b ≡ Some m → (n : Mover) × (lower_mover a b ≡ Some n)
some_lower None b m is = (m, is)
some_lower (Some a) None m is = absurd (let never : None ≡ Some m = is in cc)
some_lower (Some a) (Some b) m is = ⊎_elim
    (λ (one : lower_mover (Some a) (Some b) ≡ Some a). (a, one)) (λ (other : lower_mover (Some a) (Some b) ≡ Some b). (b, other)) (mover_one a b)

some_mover : (counted : List Counted) (x : Counted) (m : Mover) → mover_of x ≡ Some m → (n : Mover) × (lowest_mover (counted ++ (x ∷ [])) ≡ Some n)
some_mover [] x m is = (m, ap (λ (z : Option Mover). lower_mover z None) is)
some_mover (y ∷ counted) x m is =
    let rest = some_mover counted x m is in some_lower (mover_of y) (lowest_mover (counted ++ (x ∷ []))) rest.0 rest.1

-- so a quorum of replies of which one tells of a later view aborts the operation
decided_moved : (block : ℕ) (code : Code) (fresh : Option Stamp) (d : Coordinator) (m : Mover) → lowest_mover d.counted ≡ Some m
    → decided block code fresh d ≡ aborted_moved m
unfolding decided
decided_moved block code fresh d m is = rw is

-- and begins no phase
moved_ends : (block : ℕ) (code : Code) (fresh : Option Stamp) (c : Coordinator) (from : BrickId) (view : ViewNo) (lineage : Option Lineage) (seat : Option ℕ)
    → BeginsNone (counted_at block code fresh c from (Reply.Moved view lineage) seat)
moved_ends block code fresh c from view lineage None = tt
moved_ends block code fresh c from view lineage (Some seat) =
    let d : Coordinator = with_reply c seat from (Reply.Moved view lineage) in
    let one : Counted = record { seat = seat; brick = from; reply = Reply.Moved view lineage } in
    let lowest = some_mover c.counted one (record { seat = seat; brick = from; view = view }) refl in
    cond_both (nat_lt (length d.counted) (needed d)) (Waits d) (decided block code fresh d) BeginsNone (λ few. tt)
    (λ full. subst BeginsNone (sym (decided_moved block code fresh d lowest.0 lowest.1)) tt)

-- what is of views stores nothing
ballots_store : (w next : World) (packets : List Packet) → AreOfViews packets → OfEach (StoresOpen w next) packets
ballots_store w next packets =
    of_views_each (StoresOpen w next) (λ from to group view. tt) (λ from to call ballot t stores. absurd (let never : None ≡ Some t = stores in cc))
    (λ from to call ballot members t stores. absurd (let never : None ≡ Some t = stores in cc)) packets

module _ (setting : Setting) (w next : World) (me : BrickId) (books : Books setting w) where
  abbrev P : Packet → Type 0
  P = StoresOpen w next

  invoked_stores : (now : ℕ) (ask : Ask) → OfEach P (invoked setting me now (w.nodes me.0) ask).packets
  unfolding invoked
  invoked_stores now ask = in_group (group_at setting.layout (w.nodes me.0) ask.group.0)
    where
      in_group : (z : Option Group) → OfEach P (began setting me now (w.nodes me.0) ask z).packets
      in_group None = each_none P
      in_group (Some group) =
          let c : Coordinator = new_coordinator group me now (w.nodes me.0) ask in
          each_member P me c.call (request_of setting.code c) (λ seat to t stores. absurd (first_stores setting.code c ask.op seat t stores)) 0 (asked_group c).members

  -- a phase of an open call
  phase_stores : (c d : Coordinator) → ((g s i : ℕ) → top_in next g s i ≡ top_in w g s i)
      → HasNotEnded w (w.numbers me.0 c.call.boot c.call.seq) → (d.call.boot ≡ c.call.boot) × (d.call.seq ≡ c.call.seq)
      → OfEach P (phase_packets setting me d)
  phase_stores c d tops open' same =
      each_member P me d.call (request_of setting.code d)
      (λ seat to t stores. (
        tops,
        subst (λ (b : ℕ). HasNotEnded w (w.numbers me.0 b d.call.seq)) (sym same.0)
            (subst (λ (k : ℕ). HasNotEnded w (w.numbers me.0 c.call.boot k)) (sym same.1) open'),
      )) 0 (asked_group d).members

  carried_stores : (node : Node) (known : ℕ) (c : Coordinator) (decision : Next) → KeepsPlaces (w.nodes me.0) node → NextIsSame c decision
      → HasNotEnded w (w.numbers me.0 c.call.boot c.call.seq)
      → next.nodes ≡ put w.nodes me.0 (carried_out setting me node known c decision).node
      → OfEach P (carried_out setting me node known c decision).packets
  carried_stores node known c Ignores places same open' nodes = each_none P
  carried_stores node known c (Waits d) places same open' nodes = each_none P
  carried_stores node known c (Sends d) places same open' nodes =
      phase_stores c d (tops_put w next me.0 (carried_out setting me node known c (Sends d)).node nodes places) open' same
  carried_stores node known c (Makes d) places same open' nodes =
      phase_stores c d (tops_put w next me.0 (carried_out setting me node known c (Makes d)).node nodes places) open' same
  carried_stores node known c (Ends answer seen stored) places same open' nodes =
      each_collect P me c stored (λ t to u stores. absurd (let never : None ≡ Some u = stores in cc))

  -- what begins no phase stores nothing
  carried_none : (node : Node) (known : ℕ) (c : Coordinator) (decision : Next) → BeginsNone decision → OfEach P (carried_out setting me node known c decision).packets
  carried_none node known c Ignores none = each_none P
  carried_none node known c (Waits d) none = each_none P
  carried_none node known c (Sends d) none = absurd none
  carried_none node known c (Makes d) none = absurd none
  carried_none node known c (Ends answer seen stored) none =
      each_collect P me c stored (λ t to u stores. absurd (let never : None ≡ Some u = stores in cc))

  -- nor does a read of the brick's own that begins
  aside_stores : (c : Coordinator) → c.phase ≡ first_phase ReadStripe → OfEach P (phase_packets setting me c)
  aside_stores c first =
      each_member P me c.call (request_of setting.code c)
      (λ seat to t stores. absurd (first_stores setting.code c ReadStripe seat t
      (ap (λ (p : Phase). stamp_stored (request_of setting.code (record c { phase = p }) seat)) (sym first) ∙ stores))) 0 (asked_group c).members

  read_stores : (now : ℕ) (node : Node) (job : Job) (group : Group) → OfEach P (phase_packets setting me (read_call group job me now node))
  read_stores now node job group = aside_stores (read_call group job me now node) refl

  -- what the coordinator of an operation, or of such a read, decided
  carried_for_stores : (now : ℕ) (node : Node) (known : ℕ) (c heard : Coordinator) (decision : Next) (reading : Option Job)
      (scrub : Option Scrub) → KeepsPlaces (w.nodes me.0) node → NextIsSame c decision → HasNotEnded w (w.numbers me.0 c.call.boot c.call.seq)
      → next.nodes ≡ put w.nodes me.0 (carried_for setting me now node known c heard decision reading scrub).node
      → OfEach P (carried_for setting me now node known c heard decision reading scrub).packets
  carried_for_stores now node known c heard decision reading scrub places same open' =
      carried_each (λ (step : NodeStep). next.nodes ≡ put w.nodes me.0 step.node → OfEach P step.packets) setting me now node known c heard decision reading scrub
      (carried_stores node known c decision places same open')
      (λ job is answer seen stored ends.
      let collects = each_collect P me c stored (λ t to u stores. absurd (let never : None ≡ Some u = stores in cc)) in
      let closed : NodeStep = read_closed me node known c answer seen stored in
      record {
        stays = λ nodes. each_both P (collect_packets me c stored) [] collects (each_none P);
        ends = λ answered nodes. each_both P (collect_packets me c stored) [] collects (each_none P);
        finishes = λ nodes. each_both P (collect_packets me c stored) (synced_packets me job.group job.view.number setting.layout.bricks 0) collects
            (each_synced P me job.group job.view.number (λ to. tt) setting.layout.bricks 0);
        reads = λ attempt group kept nodes. each_both P (collect_packets me c stored)
            (phase_packets setting me (read_call group (record job { attempt = attempt }) me now closed.node)) collects
            (read_stores now closed.node (record job { attempt = attempt }) group);
      })
      (record {
        begins = λ s is d sends nodes.
            let later : Node = with_scrub node (Some (record s { lagging = lagging_after s heard })) in
            carried_stores later known c (Sends d) places (subst (λ (z : Next). NextIsSame c z) sends same) open' nodes;
        ends = λ s is answer seen stored ended nodes. each_both P (collect_packets me c stored) []
            (each_collect P me c stored (λ t to u stores. absurd (let never : None ≡ Some u = stores in cc))) (each_none P);
      })

  carried_for_none : (now : ℕ) (node : Node) (known : ℕ) (c heard : Coordinator) (decision : Next) (reading : Option Job) (scrub : Option Scrub)
      → BeginsNone decision
      → OfEach P (carried_for setting me now node known c heard decision reading scrub).packets
  carried_for_none now node known c heard decision reading scrub none =
      carried_each (λ (step : NodeStep). OfEach P step.packets) setting me now node known c heard decision reading scrub (carried_none node known c decision none)
      (λ job is answer seen stored ends.
      let collects = each_collect P me c stored (λ t to u stores. absurd (let never : None ≡ Some u = stores in cc)) in
      let closed : NodeStep = read_closed me node known c answer seen stored in
      record {
        stays = each_both P (collect_packets me c stored) [] collects (each_none P);
        ends = λ answered. each_both P (collect_packets me c stored) [] collects (each_none P);
        finishes = each_both P (collect_packets me c stored) (synced_packets me job.group job.view.number setting.layout.bricks 0) collects
            (each_synced P me job.group job.view.number (λ to. tt) setting.layout.bricks 0);
        reads = λ attempt group kept. each_both P (collect_packets me c stored)
            (phase_packets setting me (read_call group (record job { attempt = attempt }) me now closed.node)) collects
            (read_stores now closed.node (record job { attempt = attempt }) group);
      })
      (record {
        begins = λ s is d sends. absurd (subst BeginsNone sends none);
        ends = λ s is answer seen stored ended. each_both P (collect_packets me c stored) []
            (each_collect P me c stored (λ t to u stores. absurd (let never : None ≡ Some u = stores in cc))) (each_none P);
      })

  -- nor does a synchronisation that begins
  sync_stores : (now : ℕ) (group : GroupId) → OfEach P (synced_at setting me now (w.nodes me.0) group).packets
  sync_stores now group =
      synced_at_each (λ (step : NodeStep). OfEach P step.packets) setting me now (w.nodes me.0) group (each_none P) (λ answer. each_none P)
      (λ answer. each_none P) (λ kept is. read_stores now (w.nodes me.0) (begun_job group ((w.nodes me.0).learnt group.0).view) kept)

  -- nor does a scrub that begins
  scrub_stores : (now : ℕ) (group : GroupId) (stripe : StripeNo) (members : List BrickId)
      → OfEach P (scrubbed_at setting me now (w.nodes me.0) group stripe members).packets
  scrub_stores now group stripe members =
      scrubbed_at_each (λ (step : NodeStep). OfEach P step.packets) setting me now (w.nodes me.0) group stripe members (each_none P)
      (λ kept is. aside_stores (scrub_coordinator kept me now (w.nodes me.0) group stripe members) refl)

  -- nor does a proposal
  voted_stores : (node : Node) (from : BrickId) (call : Call) (reply : Reply) (proposal : Option Proposal)
      → OfEach P (replied_ballot setting.layout me from node call reply proposal).packets
  voted_stores node from call reply proposal =
      ballot_each (λ (step : NodeStep). OfEach P step.packets) setting.layout me from node call reply proposal
      (λ seq round asked packets reports more are. ballots_store w next packets are)

  proposed_stores : (group : GroupId) (members : List BrickId) → OfEach P (proposed setting me (w.nodes me.0) group members).packets
  proposed_stores group members =
      proposed_each (λ (step : NodeStep). OfEach P step.packets) setting me (w.nodes me.0) group members
      (λ seq round asked packets reports more are. ballots_store w next packets are)

  -- a reply to an open operation, or to a proposal
  replied_stores : (node : Node) (now : ℕ) (from : BrickId) (call : Call) (reply : Reply) (found : Option Coordinator) → KeepsPlaces (w.nodes me.0) node
      → (w.nodes me.0).calls call.seq ≡ found → next.nodes ≡ put w.nodes me.0 (replied_at setting me now from node call reply found).node
      → OfEach P (replied_at setting me now from node call reply found).packets
  unfolding on_reply
  replied_stores node now from call reply None places is nodes = voted_stores (with_known node (known_after node.known reply)) from call reply node.proposal
  replied_stores node now from call reply (Some c) places is nodes =
      let known : ℕ = known_after node.known reply in
      carried_for_stores now node known c (hearing c from reply (counts_at setting.layout.block c from.0 call reply)) _ (job_reading node.job c.call.seq) (scrub_of node.scrub c.call.seq) places
      (decides (fresh_stamp me c.stamp.view now node.boot known) (counts_at setting.layout.block c from.0 call reply))
      (call_open setting w books me.0 call.seq c is) nodes
    where
      decides : (fresh : Option Stamp) (seat : Option ℕ)
          → NextIsSame c (counted_at setting.layout.block setting.code fresh c from reply seat)
      decides fresh None = tt
      decides fresh (Some seat) =
          next_same fresh (with_reply c seat from reply) (once_full setting.layout.block setting.code fresh (with_reply c seat from reply))
          (once_full_fits setting.layout.block setting.code fresh (with_reply c seat from reply))

  -- one that tells of a later view has nothing stored
  moved_stores : (node : Node) (now : ℕ) (from : BrickId) (call : Call) (view : ViewNo) (lineage : Option Lineage) (found : Option Coordinator)
      → OfEach P (replied_at setting me now from node call (Reply.Moved view lineage) found).packets
  unfolding on_reply
  moved_stores node now from call view lineage None = voted_stores (with_known node node.known) from call (Reply.Moved view lineage) node.proposal
  moved_stores node now from call view lineage (Some c) =
      carried_for_none now node node.known c (hearing c from (Reply.Moved view lineage) (counts_at setting.layout.block c from.0 call (Reply.Moved view lineage))) _
      (job_reading node.job c.call.seq) (scrub_of node.scrub c.call.seq)
      (moved_ends setting.layout.block setting.code (fresh_stamp me c.stamp.view now node.boot node.known) c from view lineage
      (counts_at setting.layout.block c from.0 call (Reply.Moved view lineage)))

  -- so has one that teaches a view
  teaching_stores : (node : Node) (now : ℕ) (from : BrickId) (call : Call) (reply : Reply) (found : Option Coordinator) (view : View) → view_told reply ≡ Some view
      → OfEach P (replied_at setting me now from node call reply found).packets
  teaching_stores node now from call (Reply.Moved number lineage) found view told = moved_stores node now from call number lineage found
  teaching_stores node now from call reply found view told = absurd (let never : None ≡ Some view = told in cc)

  heard_stores : (now : ℕ) (from : BrickId) (call : Call) (reply : Reply)
      → next.nodes ≡ put w.nodes me.0 (heard setting me now from (w.nodes me.0) call reply).node
      → OfEach P (heard setting me now from (w.nodes me.0) call reply).packets
  heard_stores now from call reply =
      heard_each (λ (step : NodeStep). next.nodes ≡ put w.nodes me.0 step.node → OfEach P step.packets) setting me now from (w.nodes me.0) call reply
      (λ nodes. each_none P) (λ fit. by (view_counted setting.layout from (w.nodes me.0) call reply) (told (counts_here setting.layout from call reply (w.nodes me.0).proposal found)))
    where
      found : Option Coordinator
      found = (w.nodes me.0).calls call.seq

      -- a view that counts is told
      told : (counts : Bool) (view : View) → (if counts then view_told reply else None) ≡ Some view → view_told reply ≡ Some view
      told true view is = is
      told false view is = absurd (let never : None ≡ Some view = is in cc)

      by : (z : Option View) → ((view : View) → z ≡ Some view → view_told reply ≡ Some view)
          → (let node : Node = node_taught_by setting.layout.block call.group.0 (with_round (w.nodes me.0) reply) z in
          next.nodes ≡ put w.nodes me.0 (replied_at setting me now from node call reply found).node → OfEach P (replied_at setting me now from node call reply found).packets)
      by None is nodes =
          (let rests = replied_rests setting me from now call.group.0 call reply (with_round (w.nodes me.0) reply) found in
          replied_stores (with_round (w.nodes me.0) reply) now from call reply found (refl, refl, refl) refl nodes)
      by (Some view) is nodes =
          teaching_stores (node_taught setting.layout.block call.group.0 (with_round (w.nodes me.0) reply) view) now from call reply found view (is view refl)

  received_stores : (now : ℕ) (from to : BrickId) (message : Message)
      → next.nodes ≡ put w.nodes me.0 (received setting me now (w.nodes me.0) (record { from = from; to = to; message = message })).node
      → OfEach P (received setting me now (w.nodes me.0) (record { from = from; to = to; message = message })).packets
  unfolding received
  received_stores now from to (Message.Request call request) nodes =
      request_each (λ (step : NodeStep). OfEach P step.packets) setting me from (w.nodes me.0) call request (each_none P)
      (λ moved is. each_reply P me from call (Some moved) (λ r at. tt))
      (λ group seat here served.
      each_reply P me from call
      (handle setting.code group.m (full_at setting.layout.records (w.nodes me.0).live) seat (replica_at (w.nodes me.0) call) request).reply (λ r is. tt))
      (λ group ballot asked here. each_reply P me from call (Some (vote_at (w.nodes me.0) call ballot asked).reply) (λ r is. tt))
  received_stores now from to (Message.Reply call reply) nodes = heard_stores now from call reply nodes
  received_stores now from to (Message.Learn group view) nodes = each_none P
  received_stores now from to message nodes = each_none P

-- where nothing is sent
none_sent : (w next : World) → next.packets ≡ w.packets → Adds (StoresOpen w next) w next
none_sent w next = adds_none (StoresOpen w next) w next

-- every event sends requests to store as these say
stores_cases : (setting : Setting) (w : World) → Books setting w → EventCases setting w (λ (next : World). Adds (StoresOpen w next) w next)
unfolding ticked
stores_cases setting w books = record {
  begins = λ brick ask may.
      record {
        more = (invoked setting brick (w.clocks brick.0) (w.nodes brick.0) ask).packets;
        packets = refl;
        each = invoked_stores setting w (world_began w brick ask (invoked setting brick (w.clocks brick.0) (w.nodes brick.0) ask)) brick books
            (w.clocks brick.0) ask;
      };
  proposes = λ brick group members may.
      record {
        more = (proposed setting brick (w.nodes brick.0) group members).packets;
        packets = refl;
        each = proposed_stores setting w (world_stepped setting w brick (proposed setting brick (w.nodes brick.0) group members)) brick books group members;
      };
  syncs = λ brick group may.
      record {
        more = (synced_at setting brick (w.clocks brick.0) (w.nodes brick.0) group).packets;
        packets = refl;
        each = sync_stores setting w (world_stepped setting w brick (synced_at setting brick (w.clocks brick.0) (w.nodes brick.0) group)) brick books
            (w.clocks brick.0) group;
      };
  scrubs = λ brick group stripe members may.
      record {
        more = (scrubbed_at setting brick (w.clocks brick.0) (w.nodes brick.0) group stripe members).packets;
        packets = refl;
        each = scrub_stores setting w
            (world_stepped setting w brick (scrubbed_at setting brick (w.clocks brick.0) (w.nodes brick.0) group stripe members)) brick books
            (w.clocks brick.0) group stripe members;
      };
  handles = λ number packet at up.
      record {
        more = (step_on setting w packet).packets;
        packets = refl;
        each = received_stores setting w (world_handled setting w number packet) packet.to books (w.clocks packet.to.0) packet.from packet.to
            packet.message refl;
      };
  sets = λ brick time is. none_sent w (record w { clocks = put w.clocks brick.0 time }) refl;
  ticks = λ brick up.
      record {
        more = ticked setting brick (w.nodes brick.0);
        packets = refl;
        each = each_tick (StoresOpen w (world_ticked setting w brick)) setting brick (w.nodes brick.0).calls
            (λ k c is seat to t stores. ((λ g s i. refl), call_open setting w books brick.0 k c is)) (λ k c is later from to. tt) (w.nodes brick.0).job (w.nodes brick.0).scrub
            (w.nodes brick.0).seq (w.nodes brick.0).proposal
            (ballots_store w (world_ticked setting w brick) _ (resent_of_views brick (w.nodes brick.0).proposal));
      };
  stops = λ brick during up. none_sent w (world_stopped setting w brick during) refl;
  starts = λ brick openings found may.
      started_each (λ (next : World). Adds (StoresOpen w next) w next) w brick openings
      (none_sent w (world_started w brick openings) refl) (none_sent w (world_started (world_found w brick After) brick openings) refl) found;
}

-- what is guarded where bricks have come as far
guarded_before : (w next : World) (g s : ℕ) (group : Group) (t : Stamp) → ((i : ℕ) → top_in next g s i ≡ top_in w g s i) → IsGuarded next g s group t
    → IsGuarded w g s group t
guarded_before w next g s group t same guarded =
    let more = count_monotone (length group.members) (λ seat. not (stamp_below (top_in next g s (brick_at group seat)) t))
    (λ seat. not (stamp_below (top_in w g s (brick_at group seat)) t))
    (λ k below is. ap (λ (z : Stamp). not (stamp_below z t)) (sym (same (brick_at group k))) ∙ is) in
    omega (arith, guarded, more)

-- each request to store a version was sent while that was guarded, and its operation open
pub writes_were_guarded : (setting : Setting) (views : Views) (events : List Event) → IsSound setting → RunFollows setting views events
    → WritesWereGuarded setting views (run setting events (first_world setting.layout))
writes_were_guarded setting views events sound follows k call from to request t group at stores found =
    let packet : Packet = record { from = from; to = to; message = Message.Request call request } in
    let sent : SentAt setting StoresOpen events (run setting events (first_world setting.layout)) k packet
    = sent_at setting StoresOpen adds events k packet at in
    let moment : World = sent.sending.moment in
    let upto : List Event = sent.sending.earlier ++ (sent.sending.event ∷ []) in
    let next_is : run setting upto (first_world setting.layout) ≡ happens setting moment sent.sending.event
    = run-append setting (first_world setting.layout) sent.sending.earlier (sent.sending.event ∷ [])
    ∙ ap (λ (x : World). happens setting x sent.sending.event) (sym sent.sending.moment_is) in
    let here = sent.fact t stores in (
      sent.sending,
      guarded_before moment (happens setting moment sent.sending.event) call.group.0 call.stripe.0 group t (here.0 call.group.0 call.stripe.0)
          (subst (λ (x : World). IsGuarded x call.group.0 call.stripe.0 group t) next_is
          (guarded_there upto sent.sending.later (sent.events_are ∙ sym (rejoined sent.sending.earlier sent.sending.event sent.sending.later))
          (ap (λ (x : World). slice_get x.packets k) next_is ∙ sent.there))),
      here.1,
    )
  where
    adds : (earlier : List Event) (event : Event)
        → (let w = run setting earlier (first_world setting.layout) in Adds (StoresOpen w (happens setting w event)) w (happens setting w event))
    adds earlier event =
        let w : World = run setting earlier (first_world setting.layout) in
        happens_each (λ (next : World). Adds (StoresOpen w next) w next) setting w (stores_cases setting w (books setting earlier))
        (adds_none (StoresOpen w w) w w refl) event

    rejoined : (earlier : List Event) (event : Event) (later : List Event) → (earlier ++ (event ∷ [])) ++ later ≡ earlier ++ (event ∷ later)
    rejoined [] event later = refl
    rejoined (one ∷ earlier) event later = ap (λ (l : List Event). one ∷ l) (rejoined earlier event later)

    guarded_there : (upto later : List Event) → events ≡ upto ++ later
        → slice_get (run setting upto (first_world setting.layout)).packets k
        ≡ Some (record { from = from; to = to; message = Message.Request call request })
        → IsGuarded (run setting upto (first_world setting.layout)) call.group.0 call.stripe.0 group t
    guarded_there upto later is there =
        let said = always_said setting views upto sound (follows_front setting views events upto later follows is) in
        writes_guarded setting views (run setting upto (first_world setting.layout)) said.0 said.1 call from to
        request t group found (k, there) stores
