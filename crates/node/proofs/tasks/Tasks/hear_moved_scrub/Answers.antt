-- The scrub ends, or waits for more.
use Rattle.std.proofs.Common.{◌≡◌, ℕ, true, nat_eq, Option, Some, None, refl, sym, ◌∙◌, ap, subst}
use Rattle.fab_base.specs.declared.answers.Cause.{Cause}
use Rattle.messages.specs.declared.calls.Call.{Call}
use Rattle.messages.specs.declared.packets.Message.{Message}
use Rattle.messages.specs.declared.packets.Message.TheVariants as message
use Rattle.messages.specs.declared.replies.Reply.{Reply}
use Rattle.messages.specs.declared.replies.Reply.TheVariants.{Moved}
use Rattle.stripe_code.specs.Codes.{coding}
use Rattle.protocol.specs.Coordinators as machine
use Rattle.protocol.specs.Nodes.{Node, NodeStep, job_reading, no_step, replied_at}
use Rattle.coord_phase.specs.Decisions.{decided_on}
use Rattle.coord_phase.specs.Messages.{packets_from}
use Rattle.coord_phase.specs.Operations.{counts, heard}
use Rattle.node.specs.declared.jobs.OpenJob.{OpenJob}
use Rattle.node.specs.declared.scrubs.OpenScrub.{OpenScrub}
use Rattle.node.specs.declared.tasks.Tasks.{Tasks}
use Rattle.node.specs.Jobs.{reading_in, with_reading}
use Rattle.node.specs.Outcomes.{Outcome}
use Rattle.node.specs.Scrubs.{HasCountedScrub, MovesScrub, Scrubbing, scrub_seq, scrub_shown, scrubbing_of, with_scrubbing}
use Rattle.node.specs.States.{KeptParts, StepsAs, state_in}
use Rattle.node.specs.Tasks.{ApartFromJob, IsScrubAt, IsScrubIn, read_seq, step_on, tasks_in}
use Rattle.node.proofs.Beside.{none_reads}
use Rattle.node.proofs.ScrubCalls.{counts_scrub, eq_so, only_same, read_other, same_scrub, scrub_as_before, scrub_free, scrub_moved_ends, scrub_moved_waits, scrub_waits_so, scrubs_call}
use Rattle.node.proofs.ScrubReplies.{call_heard}
use Rattle.node.proofs.States.{on_err}
use Rattle.node.proofs.tasks.Tasks.hear_moved_scrub.Goals as goal
use Rattle.node.proofs.tasks.Tasks.hear_moved_scrub.Goals.{After-moved, In_default-moved}

-- the scrub is of the brick
at_brick : (c : After-moved) → IsScrubAt c.args.layout.now c.args.self.now.work.calls c.args.self.now.job c.in-Some.open
at_brick c = subst (IsScrubIn c.args.layout.now c.args.self.now.work.calls c.args.self.now.job) c.in-Some.is c.requires.of.scrub_is

-- it has the call
same_call : (c : After-moved) → nat_eq (scrub_seq c.in-Some.open) c.args.call.seq ≡ true
same_call c = scrubs_call c.args.self.now.scrub c.in-Some.open c.args.call.seq c.in-Some.is c.requires.scrubs

-- the reply counts in it
counted_so : (c : After-moved)
    → counts (scrub_shown c.in-Some.open) c.args.packet.now.from (message.Reply c.args.call (Moved c.args.view (Some c.requires.moved.0))) ≡ true
counted_so c =
    subst (λ (m : Message). counts (scrub_shown c.in-Some.open) c.args.packet.now.from m ≡ true)
    (c.requires.reply ∙ ap (message.Reply c.args.call) c.requires.moved.1)
    (counts_scrub c.args.self.now c.in-Some.open c.args.call.seq c.args.packet.now.from c.args.packet.now.message c.in-Some.is (same_call c)
    (λ j there. ap (λ (n : ℕ). nat_eq (read_seq j) n) (sym (eq_so (scrub_seq c.in-Some.open) c.args.call.seq (same_call c)))
    ∙ subst (λ (o : Option OpenJob). ApartFromJob o c.in-Some.open) there (at_brick c).aside) c.requires.counts)

-- the brick, but for the scrub
abbrev others : After-moved → KeptParts → Node
others c kept = with_reading (reading_in c.args.self.now.job) (state_in kept c.args.self.now.work)

-- the machine's step, where the brick has the scrub under way
step_for : (c : After-moved) (kept : KeptParts)
    → step_on c.args.layout.now c.args.now c.args.packet.now.from c.args.call (Moved c.args.view (Some c.requires.moved.0)) c.args.self.now kept
    ≡ replied_at (coding c.args.layout.now) c.args.self.now.work.calls.me c.args.now c.args.packet.now.from
    (with_scrubbing (Some (scrubbing_of c.in-Some.open)) (others c kept)) c.args.call (Moved c.args.view (Some c.requires.moved.0))
    ((with_scrubbing (Some (scrubbing_of c.in-Some.open)) (others c kept)).calls c.args.call.seq)
step_for c kept =
    λ i. step_on c.args.layout.now c.args.now c.args.packet.now.from c.args.call (Moved c.args.view (Some c.requires.moved.0))
    (record { work = c.args.self.now.work; job = c.args.self.now.job; scrub = c.in-Some.is i }) kept

-- no read has its call
none_so : (c : After-moved) (kept : KeptParts) → job_reading (others c kept).job (scrub_seq c.in-Some.open) ≡ None
none_so c kept =
    none_reads (reading_in c.args.self.now.job) (scrub_seq c.in-Some.open) (read_other c.args.self.now.job c.in-Some.open (at_brick c).aside)

-- it waits, where it does not end
waits_so : (c : In_default-moved) → MovesScrub c.in-Some.open c.args.packet.now.from c.args.view None
waits_so c = subst (MovesScrub c.in-Some.open c.args.packet.now.from c.args.view) c.in_default-moved.is c.moved.ensures

pub returns-in-Some-moved-clause-turn : goal.returns-in-Some-moved-clause-turn
returns-in-Some-moved-clause-turn c =
    let d = (goal.at.returns-in-Some-moved-clause-turn c).After-moved in
    let layout = c.args.layout.now in
    let before = c.args.self.now in
    let me = before.work.calls.me in
    let held = c.in-Some.open in
    let outs = c.in-Some-moved.outs in
    let moves = subst (MovesScrub held c.args.packet.now.from c.args.view) c.in-Some-moved.is c.moved.ensures in
    let cause : Cause = moves.0 in
    let at = at_brick d in (
      ap (λ (s : Option OpenScrub). record before { scrub = s }) (sym c.in-Some.is),
      subst (λ (r : Reply). (kept : KeptParts) → StepsAs me (tasks_in kept (record before { scrub = None }))
          (step_on layout c.args.now c.args.packet.now.from c.args.call r before kept) outs) (sym c.requires.moved.1)
          (λ kept.
          let step = step_for d kept
          ∙ scrub_moved_ends layout held at.scrub_is c.args.packet.now.from c.args.call c.args.view c.requires.moved.0 (counted_so d) me c.args.now
          (others d kept) (same_call d) (none_so d kept) cause moves.1 (scrub_free layout before.work before.job held kept at) (only_same layout held at.scrub_is) in
          subst (λ (t : NodeStep). StepsAs me (tasks_in kept (record before { scrub = None })) t outs) (sym step)
          (record {
            packets = ap (λ (o : Outcome). packets_from me o.messages) moves.2;
            told = ap (λ (o : Outcome). o.told) moves.2;
            answers = ap (λ (o : Outcome). o.answers) moves.2;
            reports = ap (λ (o : Outcome). o.reports) moves.2;
            state_is = refl;
          })),
    )

pub count-requires-clause-waits : goal.count-requires-clause-waits
count-requires-clause-waits c =
    let d = (goal.at.count-requires-clause-waits c).After-moved in
    let open_scrub = scrub_shown c.in-Some.open in
    subst (λ (m : Message). decided_on None open_scrub c.args.packet.now.from m ≡ machine.Waits (heard open_scrub c.args.packet.now.from m).state)
    (sym (c.requires.reply ∙ ap (message.Reply c.args.call) c.requires.moved.1))
    (scrub_waits_so c.args.layout.now c.in-Some.open (at_brick d).scrub_is c.args.packet.now.from c.args.call c.args.view c.requires.moved.0 (counted_so d) (waits_so (goal.at.count-requires-clause-waits c).In_default-moved))

pub returns-clause-turn : goal.returns-clause-turn
returns-clause-turn c =
    let d = (goal.at.returns-clause-turn c).After-moved in
    let was = c.args.self.now in
    let from = c.args.packet.now.from in
    let call = c.args.call in
    let now : OpenScrub = c.count.new.self in
    let after : Tasks = record { work = was.work; job = was.job; scrub = Some now } in
    let has = subst (λ (m : Message). HasCountedScrub from m c.in-Some.open now) c.requires.reply c.in_ok-count.ensures.counted in (
      record { was = c.in-Some.open; now = now; scrub_before = c.in-Some.is; scrub_after = refl; counted = has; work_is = refl; job_is = refl },
      subst (λ (r : Reply). HasCountedScrub from (message.Reply call r) c.in-Some.open now
          → (kept : KeptParts) → step_on c.args.layout.now c.args.now from call r was kept ≡ no_step (tasks_in kept after)) (sym c.requires.moved.1)
          (λ seen kept. step_for d kept
          ∙ scrub_moved_waits c.args.layout.now c.in-Some.open (at_brick d).scrub_is from call c.args.view c.requires.moved.0 (counted_so d) was.work.calls.me
          c.args.now (others d kept) (same_call d) (none_so d kept) (waits_so (goal.at.returns-clause-turn c).In_default-moved) now seen)
          has,
    )

pub returns-clause-same : goal.returns-clause-same
returns-clause-same c =
    let has = c.in_ok-count.ensures.counted in
    same_scrub c.args.layout.now c.args.self.now c.in-Some.open c.count.new.self c.in-Some.is
    (ap (λ (k : machine.Coordinator). k.call.seq) has.now_is
    ∙ ap (λ (k : Call). k.seq) (call_heard (scrub_shown c.in-Some.open) c.args.packet.now.from c.args.packet.now.message)) (has.of c.args.layout.now)

pub returns-in_err-count-clause-err : goal.returns-in_err-count-clause-err
returns-in_err-count-clause-err c =
    on_err c.from_residual.result
    (scrub_as_before c.args.layout.now c.args.self.now c.in-Some.open c.count.new.self c.in-Some.is (c.in_err-count.ensures.same c.args.layout.now))

pub returns-in_err-count-clause-same : goal.returns-in_err-count-clause-same
returns-in_err-count-clause-same c =
    let is = c.in_err-count.ensures.same c.args.layout.now in
    same_scrub c.args.layout.now c.args.self.now c.in-Some.open c.count.new.self c.in-Some.is (ap (λ (s : Scrubbing). s.scrub.seq) is.scrubbing_is) is.of
