-- The read of the synchronisation ends, or waits for more.
use Rattle.std.proofs.Common.{◌≡◌, ℕ, true, nat_eq, Option, Some, None, refl, sym, ◌∙◌, ap, subst}
use Rattle.fab_base.specs.declared.identities.GroupId.{GroupId}
use Rattle.messages.specs.declared.calls.Call.{Call}
use Rattle.messages.specs.declared.packets.Message.{Message}
use Rattle.messages.specs.declared.packets.Message.TheVariants as message
use Rattle.messages.specs.declared.replies.Reply.{Reply}
use Rattle.messages.specs.declared.replies.Reply.TheVariants.{Moved}
use Rattle.stripe_code.specs.Codes.{coding}
use Rattle.protocol.specs.Coordinators as machine
use Rattle.protocol.specs.Nodes.{Node, no_step, replied_at}
use Rattle.coord_phase.specs.Decisions.{decided_on}
use Rattle.coord_phase.specs.Operations.{counts, heard}
use Rattle.node.specs.declared.call_sources.CallSource.{CallSource}
use Rattle.node.specs.declared.jobs.Followed.{Followed}
use Rattle.node.specs.declared.jobs.OpenJob.{OpenJob}
use Rattle.node.specs.declared.outs.Tellings.{Tellings}
use Rattle.node.specs.declared.tasks.Tasks.{Tasks}
use Rattle.node.specs.Jobs.{FollowsFrom, MakesFrom, followed_step, reading_of, then_told, with_reading}
use Rattle.node.specs.Operations.{shown_of}
use Rattle.node.specs.Reads.{HasCountedRead, MovesOn}
use Rattle.node.specs.Scrubs.{scrubbing_in, with_scrubbing}
use Rattle.node.specs.States.{KeptParts, state_in, state_with}
use Rattle.node.specs.Tasks.{IsJobAt, IsJobIn, IsScrubIn, read_seq, step_on, tasks_in}
use Rattle.node.proofs.ReadReplies.{counts_read, read_free, read_waits, reads_call, replied_ends, replied_waits}
use Rattle.node.proofs.ScrubCalls.{aside_next, scrub_other}
use Rattle.node.proofs.ScrubReplies.{call_heard}
use Rattle.node.proofs.ScrubsBeside.{ScrubApart, calls_apart_scrub, swapped}
use Rattle.node.proofs.tasks.Tasks.hear_moved_read.Goals as goal
use Rattle.node.proofs.tasks.Tasks.hear_moved_read.Goals.{In-Some-2, In_default-2, In_ok-told}

-- the read is of the brick
at_brick : (c : In_ok-told) → IsJobAt c.args.layout.now c.args.self.now.work.calls c.in-Some.open
at_brick c = subst (IsJobIn c.args.layout.now c.args.self.now.work.calls) c.in-Some.is c.requires.of.job_is

-- it has the call
same_call : (c : In_ok-told) → nat_eq (read_seq c.in-Some.open) c.args.call.seq ≡ true
same_call c = reads_call c.args.self.now.job c.in-Some.open c.args.call.seq c.in-Some.is c.requires.reads

-- the reply counts in it
counted_so : (c : In_ok-told)
    → counts (shown_of c.in-Some.open.read) c.args.packet.now.from (message.Reply c.args.call (Moved c.args.view (Some c.requires.moved.0))) ≡ true
counted_so c =
    subst (λ (m : Message). counts (shown_of c.in-Some.open.read) c.args.packet.now.from m ≡ true)
    (c.requires.reply ∙ ap (message.Reply c.args.call) c.requires.moved.1)
    (counts_read c.args.self.now c.in-Some.open c.args.call.seq c.args.packet.now.from c.args.packet.now.message c.in-Some.is (same_call c) c.requires.counts)

-- where the next call comes from
abbrev next_at : Tasks → ℕ → CallSource
next_at tasks now = record { me = tasks.work.calls.me; seq = tasks.work.calls.seq; stamps = tasks.work.calls.stamps; now = now }

-- the machine's step, where the brick has the read under way
step_for : (c : In_ok-told) (kept : KeptParts) → (let tasks : Tasks = record { work = c.args.self.now.work; job = Some c.in-Some.open; scrub = c.args.self.now.scrub } in
    step_on c.args.layout.now c.args.now c.args.packet.now.from c.args.call (Moved c.args.view (Some c.requires.moved.0)) c.args.self.now kept
    ≡ step_on c.args.layout.now c.args.now c.args.packet.now.from c.args.call (Moved c.args.view (Some c.requires.moved.0)) tasks kept)
step_for c kept =
    λ i. step_on c.args.layout.now c.args.now c.args.packet.now.from c.args.call (Moved c.args.view (Some c.requires.moved.0))
    (record { work = c.args.self.now.work; job = c.in-Some.is i; scrub = c.args.self.now.scrub }) kept

-- the scrub has another call
scrub_apart : (c : In_ok-told) → ScrubApart (scrubbing_in c.args.self.now.scrub) (read_seq c.in-Some.open)
scrub_apart c =
    scrub_other c.args.layout.now c.args.self.now.work.calls c.in-Some.open c.args.self.now.scrub
    (subst (λ (job : Option OpenJob). IsScrubIn c.args.layout.now c.args.self.now.work.calls job c.args.self.now.scrub) c.in-Some.is c.requires.of.scrub_is)

-- the brick, but for the read
abbrev unread : In_ok-told → KeptParts → Node
unread c kept = with_scrubbing (scrubbing_in c.args.self.now.scrub) (state_in kept c.args.self.now.work)

-- the read is there beside the scrub
swap_so : (c : In_ok-told) (kept : KeptParts) → with_scrubbing (scrubbing_in c.args.self.now.scrub) (with_reading (Some (reading_of c.in-Some.open)) (state_in kept c.args.self.now.work))
    ≡ with_reading (Some (reading_of c.in-Some.open)) (unread c kept)
swap_so c kept = swapped (scrubbing_in c.args.self.now.scrub) (reading_of c.in-Some.open) (state_in kept c.args.self.now.work) (scrub_apart c)

-- no operation has its call
free_so : (c : In_ok-told) (kept : KeptParts) → (unread c kept).calls (read_seq c.in-Some.open) ≡ None
free_so c kept =
    calls_apart_scrub (scrubbing_in c.args.self.now.scrub) (state_in kept c.args.self.now.work).calls (read_seq c.in-Some.open) (scrub_apart c)
    ∙ read_free c.args.layout.now c.args.self.now.work c.in-Some.open kept (at_brick c)

-- the machine's next call comes from there
makes_so : (c : In_ok-told) (kept : KeptParts) → MakesFrom (next_at c.args.self.now c.args.now) (unread c kept)
unfolding state_with
makes_so c kept = record { boot = refl; seq = refl; known = refl }

-- so is the machine's step
step_beside : (c : In_ok-told) (kept : KeptParts)
    → step_on c.args.layout.now c.args.now c.args.packet.now.from c.args.call (Moved c.args.view (Some c.requires.moved.0)) c.args.self.now kept
    ≡ replied_at (coding c.args.layout.now) c.args.self.now.work.calls.me c.args.now c.args.packet.now.from
    (with_reading (Some (reading_of c.in-Some.open)) (unread c kept)) c.args.call (Moved c.args.view (Some c.requires.moved.0))
    ((with_reading (Some (reading_of c.in-Some.open)) (unread c kept)).calls c.args.call.seq)
step_beside c kept =
    step_for c kept
    ∙ ap (λ (n : Node). replied_at (coding c.args.layout.now) c.args.self.now.work.calls.me c.args.now c.args.packet.now.from n c.args.call
    (Moved c.args.view (Some c.requires.moved.0)) (n.calls c.args.call.seq)) (swap_so c kept)

-- it is to end so
ends_so : (c : In-Some-2)
    → MovesOn c.args.layout.now c.in-Some.open c.args.packet.now.from c.args.view (next_at c.args.self.now c.args.now) (Some (c.in-Some-2.told, c.in-Some-2.next))
ends_so c =
    subst (λ (at : CallSource). MovesOn c.args.layout.now c.in-Some.open c.args.packet.now.from c.args.view at (Some (c.in-Some-2.told, c.in-Some-2.next)))
    c.source-at.ensures
    (subst (λ (o : Option (Tellings × Followed)). MovesOn c.args.layout.now c.in-Some.open c.args.packet.now.from c.args.view c.source-at.result o)
    c.in-Some-2.is c.in_ok-told.ensures)

-- or waits
waits_so : (c : In_default-2) → MovesOn c.args.layout.now c.in-Some.open c.args.packet.now.from c.args.view c.source-at.result None
waits_so c =
    subst (λ (o : Option (Tellings × Followed)). MovesOn c.args.layout.now c.in-Some.open c.args.packet.now.from c.args.view c.source-at.result o)
    c.in_default-2.is c.in_ok-told.ensures

pub returns-in-Some-2-clause-turn : goal.returns-in-Some-2-clause-turn
returns-in-Some-2-clause-turn c =
    let e = (goal.at.returns-in-Some-2-clause-turn c).In-Some-2 in
    let d = (goal.at.returns-in-Some-2-clause-turn c).In_ok-told in
    let layout = c.args.layout.now in
    let before = c.args.self.now in
    let me = before.work.calls.me in
    let told = c.in-Some-2.told in
    let next = c.in-Some-2.next in
    let is = ends_so e in (
      ap (λ (job : Option OpenJob). record before { job = job }) (sym c.in-Some.is),
      ap (λ (t : Tellings). t.begun) is.2,
      subst (λ (g : GroupId). FollowsFrom layout before.work.calls.seq g next) (sym c.group.ensures) is.4,
      subst (λ (r : Reply). (kept : KeptParts) → step_on layout c.args.now c.args.packet.now.from c.args.call r before kept
          ≡ then_told told (followed_step me c.group.result (tasks_in kept (record before { job = None })) next)) (sym c.requires.moved.1)
          (λ kept. step_beside d kept
          ∙ replied_ends layout c.in-Some.open (at_brick d).open_is c.args.packet.now.from c.args.call c.args.view c.requires.moved.0 (counted_so d) (next_at c.args.self.now c.args.now)
          (unread d kept) (makes_so d kept) (free_so d kept) me c.args.now (same_call d) refl refl is.0 is.1 told next is.2 is.3
          ∙ ap (λ (g : GroupId). then_told told (followed_step me g (unread d kept) next)) (sym c.group.ensures)),
    )

pub returns-in-Some-2-clause-may : goal.returns-in-Some-2-clause-may
returns-in-Some-2-clause-may c =
    let is = ends_so (goal.at.returns-in-Some-2-clause-may c).In-Some-2 in (
      c.args.layout.now,
      subst (λ (g : GroupId). FollowsFrom c.args.layout.now c.args.self.now.work.calls.seq g c.in-Some-2.next) (sym c.group.ensures) is.4,
      ap (λ (t : Tellings). t.begun) is.2,
      is.5,
      aside_next c.args.layout.now c.args.self.now.work.calls c.args.self.now.job c.args.self.now.scrub c.requires.of.scrub_is,
    )

pub count-requires-clause-waits : goal.count-requires-clause-waits
count-requires-clause-waits c =
    let e = (goal.at.count-requires-clause-waits c).In_default-2 in
    let read = shown_of c.in-Some.open.read in
    subst (λ (m : Message). decided_on None read c.args.packet.now.from m ≡ machine.Waits (heard read c.args.packet.now.from m).state)
    (sym (c.requires.reply ∙ ap (message.Reply c.args.call) c.requires.moved.1))
    (read_waits c.args.layout.now c.in-Some.open (at_brick (goal.at.count-requires-clause-waits c).In_ok-told).open_is c.args.packet.now.from c.args.call c.args.view c.requires.moved.0
    (counted_so (goal.at.count-requires-clause-waits c).In_ok-told) (waits_so e))

pub returns-clause-turn : goal.returns-clause-turn
returns-clause-turn c =
    let e = (goal.at.returns-clause-turn c).In_default-2 in
    let d = (goal.at.returns-clause-turn c).In_ok-told in
    let was = c.args.self.now in
    let held = c.in-Some.open in
    let from = c.args.packet.now.from in
    let call = c.args.call in
    let now : OpenJob = c.count.new.self in
    let after : Tasks = record { work = was.work; job = Some now; scrub = was.scrub } in
    let has = subst (λ (m : Message). HasCountedRead from m held now) c.requires.reply c.in_ok-count.ensures.counted in (
      record { was = held; now = now; job_before = c.in-Some.is; job_after = refl; counted = has; work_is = refl; scrub_is = refl },
      subst (λ (r : Reply). HasCountedRead from (message.Reply call r) held now
          → (kept : KeptParts) → step_on c.args.layout.now c.args.now from call r was kept ≡ no_step (tasks_in kept after)) (sym c.requires.moved.1)
          (λ seen kept. step_beside d kept
          ∙ replied_waits c.args.layout.now held (at_brick d).open_is from call c.args.view c.requires.moved.0 (counted_so d) (next_at c.args.self.now c.args.now) (unread d kept)
          (makes_so d kept) (free_so d kept) was.work.calls.me c.args.now (same_call d) refl refl (waits_so e) now seen
          ∙ ap no_step (sym (swapped (scrubbing_in was.scrub) (reading_of now) (state_in kept was.work)
          (subst (ScrubApart (scrubbing_in was.scrub)) (sym (ap (λ (k : machine.Coordinator). k.call.seq) seen.now_is
          ∙ ap (λ (k : Call). k.seq) (call_heard (shown_of held.read) from (message.Reply call (Moved c.args.view (Some c.requires.moved.0)))))) (scrub_apart d)))))
          has,
    )
