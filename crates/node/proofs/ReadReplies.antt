-- What a brick does with a reply to the read of its synchronisation.
use Rattle.std.proofs.Common.{◌≡◌, ℕ, Bool, true, cond, if◌then◌else◌, nat_eq, [], Option, Some, None, refl, sym, ◌∙◌, ap, subst}
use Rattle.std.specs.Option.{option_map}
use Rattle.fab_base.specs.declared.answers.Answer.{Answer}
use Rattle.fab_base.specs.declared.identities.BrickId.{BrickId}
use Rattle.fab_base.specs.declared.identities.ViewNo.{ViewNo}
use Rattle.fab_base.specs.declared.stamps.Stamp.{Stamp}
use Rattle.fab_base.specs.Layouts.{Layout}
use Rattle.messages.specs.declared.calls.Call.{Call}
use Rattle.messages.specs.declared.packets.Message.{Message}
use Rattle.messages.specs.declared.packets.Message.TheVariants as message
use Rattle.messages.specs.declared.replies.Lineage.{Lineage}
use Rattle.messages.specs.declared.replies.Reply.{Reply}
use Rattle.messages.specs.declared.replies.Reply.TheVariants.{Moved}
use Rattle.stripe_code.specs.Codes.{block_code, coding}
use Rattle.protocol.specs.Coordinators as machine
use Rattle.protocol.specs.Coordinators.{Coordinator, Next, Ignores, Waits, Sends, Makes, Ends, hearing, on_reply, with_reply}
use Rattle.protocol.specs.Jobs.{Job, abort_cause}
use Rattle.protocol.specs.Nodes.{Node, carried_for, carried_read, fresh_stamp, known_after, no_step, put, replied_at, scrub_of, with_known}
use Rattle.coord_phase.specs.Decisions.{decided_on}
use Rattle.coord_phase.specs.Operations.{counts, heard, heard_at, seat_told}
use Rattle.node.specs.declared.call_sources.CallSource.{CallSource}
use Rattle.node.specs.declared.jobs.Followed.{Followed}
use Rattle.node.specs.declared.jobs.OpenJob.{OpenJob}
use Rattle.node.specs.declared.outs.Tellings.{Tellings}
use Rattle.node.specs.Jobs.{GoesOn, IsOpenJobOf, MakesFrom, closed, followed_step, job_at, job_of, reading_of, then_told, with_reading}
use Rattle.node.specs.Operations.{EndsOrWaits, coordinator_of, shown_of}
use Rattle.node.specs.Outcomes.{told_list}
use Rattle.node.specs.declared.jobs.ReadTurn.{ReadTurn}
use Rattle.node.specs.Reads.{HasCountedRead, IsReadTurn, read_step, turn_step}
use Rattle.node.specs.declared.open_work.OpenWork.{OpenWork}
use Rattle.node.specs.declared.tasks.Tasks.{Tasks}
use Rattle.node.specs.States.{KeptParts, state_in, state_with}
use Rattle.node.specs.Tasks.{IsJobAt, ReadsAt, counts_among, counts_at, counts_beside, read_seq}
use Rattle.node.proofs.Beside.{eq_same, eq_turned, put_twice}
use Rattle.node.proofs.Reading.{ends_so}
use Rattle.node.proofs.Turns.{there}

module _ (layout : Layout) (me : BrickId) (now : ℕ) (from : BrickId) where
  -- a brick that knows the time of the reply already does the same with it
  knows_once : (node : Node) (known : ℕ) (job : Job) (c : Coordinator) (next : Next)
      → carried_read (coding layout) me now node known job c next ≡ carried_read (coding layout) me now (with_known node known) known job c next
  knows_once node known job c Ignores = refl
  knows_once node known job c (Waits d) = refl
  knows_once node known job c (Sends d) = refl
  knows_once node known job c (Makes d) = refl
  knows_once node known job c (Ends answer seen stored) = refl

  -- the call is that of the read
  pub read_there : (held : OpenJob) (node : Node) (seq : ℕ) → nat_eq (read_seq held) seq ≡ true
      → (with_reading (Some (reading_of held)) node).calls seq ≡ Some (coordinator_of held.read)
  read_there held node seq same =
      ap (λ (b : Bool). cond b (Some (coordinator_of held.read)) (node.calls seq)) (eq_turned seq (read_seq held) ∙ same)

  -- what it does is what the machine does with a reply to the read
  pub replied_read : (at : CallSource) (held : OpenJob) (node : Node) (call : Call) (reply : Reply) → nat_eq (read_seq held) call.seq ≡ true
      → at.me ≡ me → at.now ≡ now → at.stamps.boot ≡ node.boot → at.stamps.known ≡ known_after node.known reply
      → replied_at (coding layout) me now from (with_reading (Some (reading_of held)) node) call reply
      ((with_reading (Some (reading_of held)) node).calls call.seq)
      ≡ read_step layout at held (with_known node (known_after node.known reply)) from call reply
  replied_read at held node call reply same me_is now_is boot_is known_is =
      let c = coordinator_of held.read in
      let known = known_after node.known reply in
      let job = job_of held in
      let beside : Node = with_reading (Some (reading_of held)) node in
      let heard_so = hearing c from reply (machine.counts_at layout.block c from.0 call reply) in
      let next = on_reply layout.block (block_code layout.block) (fresh_stamp me c.stamp.view now node.boot known) c from call reply in
      ap (replied_at (coding layout) me now from beside call reply) (read_there held node call.seq same)
      ∙ ap (λ (b : Bool). carried_for (coding layout) me now beside known c heard_so next (if b then Some job else None) (scrub_of beside.scrub c.call.seq)) (eq_same c.call.seq)
      ∙ knows_once beside known job c next
      ∙ (λ i. carried_read (coding layout) (sym me_is i) (sym now_is i) (with_known beside known) (sym known_is i) job c
      (on_reply layout.block (block_code layout.block) (fresh_stamp (sym me_is i) c.stamp.view (sym now_is i) (sym boot_is i) (sym known_is i)) c from call reply))

  -- what the reply comes to is what the brick does
  pub turn_is : (at : CallSource) (held after : OpenJob) (node : Node) (call : Call) (reply : Reply) (told : Message) (turned : ReadTurn)
      → IsReadTurn layout held from told at turned after → told ≡ message.Reply call reply → nat_eq (read_seq held) call.seq ≡ true
      → at.me ≡ me → at.now ≡ now → at.seq ≡ node.seq → at.stamps.boot ≡ node.boot → at.stamps.known ≡ known_after node.known reply
      → node.calls (read_seq held) ≡ None
      → replied_at (coding layout) me now from (with_reading (Some (reading_of held)) node) call reply
      ((with_reading (Some (reading_of held)) node).calls call.seq)
      ≡ turn_step me after (with_known node (known_after node.known reply)) turned
  turn_is at held after node call reply told turned is told_is same me_is now_is seq_is boot_is known_is free =
      let later : Node = with_known node (known_after node.known reply) in
      replied_read at held node call reply same me_is now_is boot_is known_is
      ∙ is.step later call reply told_is (record { boot = sym boot_is; seq = sym seq_is; known = sym known_is }) free
      ∙ (λ i. turn_step (me_is i) after later turned)

-- ---- a reply that counts, and tells a later view

module _ (layout : Layout) (held : OpenJob) (is : IsOpenJobOf layout held) (from : BrickId) (call : Call) (view : ViewNo) (lineage : Lineage)
    (counted : counts (shown_of held.read) from (message.Reply call (Moved view (Some lineage))) ≡ true) where
  abbrev moved : Reply
  moved = Moved view (Some lineage)

  abbrev c : Coordinator
  c = coordinator_of held.read

  abbrev with_it : ℕ → Coordinator
  with_it seat = with_reply c seat from moved

  -- the reply counts at some seat
  seat_found : (seat : ℕ) × (machine.counts_at (shown_of held.read).block c from.0 call moved ≡ Some seat)
  unfolding seat_told
  seat_found = there (machine.counts_at (shown_of held.read).block c from.0 call moved) counted

  -- so it is heard there
  heard_is : (heard (shown_of held.read) from (message.Reply call moved)).state ≡ with_it seat_found.0
  unfolding seat_told
  heard_is = ap (λ (seat : Option ℕ). (heard_at (shown_of held.read) from (message.Reply call moved) seat).state) seat_found.1

  -- where the read waits for more, that is what is decided
  pub read_waits : EndsOrWaits c from view None
      → decided_on None (shown_of held.read) from (message.Reply call moved) ≡ machine.Waits (heard (shown_of held.read) from (message.Reply call moved)).state
  read_waits ends =
      let block = (shown_of held.read).block in
      ends block (block_code block) None call (Some lineage) seat_found.0 seat_found.1 ∙ ap (λ (d : Coordinator). machine.Waits d) (sym heard_is)

  counts_here : machine.counts_at layout.block c from.0 call moved ≡ Some seat_found.0
  counts_here = ap (λ (block : ℕ). machine.counts_at block c from.0 call moved) (sym is.is_operation) ∙ seat_found.1

  module _ (at : CallSource) (node : Node) (makes : MakesFrom at node) (free : node.calls c.call.seq ≡ None) where
    abbrev decides : Option Stamp
    decides = fresh_stamp at.me c.stamp.view at.now at.stamps.boot at.stamps.known

    abbrev reads : Node
    reads = with_reading (Some (reading_of held)) node

    -- a read that waits does as the machine's
    pub waits_read : EndsOrWaits c from view None → (after : OpenJob) → HasCountedRead from (message.Reply call moved) held after
        → read_step layout at held node from call moved ≡ no_step (with_reading (Some (reading_of after)) node)
    waits_read ends after has =
        let d : coordinator_of after.read ≡ with_it seat_found.0 = has.now_is ∙ heard_is in
        ap (carried_read (coding layout) at.me at.now reads at.stamps.known (job_of held) c)
        (ends layout.block (block_code layout.block) decides call (Some lineage) seat_found.0 counts_here)
        ∙ (λ i. no_step (record node {
          known = sym makes.known i;
          calls = put_twice node.calls c.call.seq (Some c) (Some (sym d i)) i;
          job = Some (job_at (sym has.job_is i) (sym has.view_is i) c.call.seq);
        }))
        ∙ (λ i. no_step (record node {
          calls = put node.calls (sym (ap (λ (x : Coordinator). x.call.seq) d) i) (Some (coordinator_of after.read));
          job = Some (job_at after.job after.view (sym (ap (λ (x : Coordinator). x.call.seq) d) i));
        }))

    -- so does one that ends
    pub ends_read : (answer : Answer) → EndsOrWaits c from view (Some answer) → (told : Tellings) (next : Followed)
        → told ≡ closed c.call.seq None (abort_cause answer) → GoesOn layout held.job held.view at (abort_cause answer) next
        → read_step layout at held node from call moved ≡ then_told told (followed_step at.me held.job.group node next)
    ends_read answer ends told next told_is goes =
        ap (carried_read (coding layout) at.me at.now reads at.stamps.known (job_of held) c)
        (ends layout.block (block_code layout.block) decides call (Some lineage) seat_found.0 counts_here)
        ∙ ends_so layout at held node makes free answer None None told [] next next is.job_is.stripes goes refl (ap told_list told_is) refl

    module _ (me : BrickId) (now : ℕ) (same : nat_eq (read_seq held) call.seq ≡ true) (me_is : at.me ≡ me) (now_is : at.now ≡ now) where
      -- so it does with the reply
      pub replied_waits : EndsOrWaits c from view None → (after : OpenJob) → HasCountedRead from (message.Reply call moved) held after
          → replied_at (coding layout) me now from reads call moved (reads.calls call.seq) ≡ no_step (with_reading (Some (reading_of after)) node)
      replied_waits ends after has =
          replied_read layout me now from at held node call moved same me_is now_is (sym makes.boot) (sym makes.known) ∙ waits_read ends after has

      pub replied_ends : (answer : Answer) → EndsOrWaits c from view (Some answer) → (told : Tellings) (next : Followed)
          → told ≡ closed c.call.seq None (abort_cause answer) → GoesOn layout held.job held.view at (abort_cause answer) next
          → replied_at (coding layout) me now from reads call moved (reads.calls call.seq) ≡ then_told told (followed_step me held.job.group node next)
      replied_ends answer ends told next told_is goes =
          replied_read layout me now from at held node call moved same me_is now_is (sym makes.boot) (sym makes.known)
          ∙ ends_read answer ends told next told_is goes
          ∙ (λ i. then_told told (followed_step (me_is i) held.job.group node next))

-- ---- at a brick

-- the read is the one of the call
pub reads_call : (job : Option OpenJob) (held : OpenJob) (seq : ℕ) → job ≡ Some held → ReadsAt job seq → nat_eq (read_seq held) seq ≡ true
reads_call job held seq e reads = subst (λ (o : Option OpenJob). ReadsAt o seq) e reads

-- a message that counts counts in it
pub counts_read : (tasks : Tasks) (held : OpenJob) (seq : ℕ) (from : BrickId) (told : Message) → tasks.job ≡ Some held → nat_eq (read_seq held) seq ≡ true
    → counts_at tasks seq from told ≡ true → counts (shown_of held.read) from told ≡ true
counts_read tasks held seq from told e same counted =
    sym (ap (λ (b : Bool). if b then counts (shown_of held.read) from told else counts_beside tasks tasks.scrub seq from told) same)
    ∙ subst (λ (o : Option OpenJob). counts_among tasks o seq from told ≡ true) e counted

-- no operation has its call
pub read_free : (layout : Layout) (work : OpenWork) (held : OpenJob) (kept : KeptParts) → IsJobAt layout work.calls held
    → (state_in kept work).calls (read_seq held) ≡ None
unfolding state_with
read_free layout work held kept is = ap (option_map coordinator_of) is.apart
