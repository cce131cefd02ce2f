-- The read of the synchronisation goes on, or ends.
use Rattle.std.proofs.Common.{◌≡◌, ℕ, Option, Some, None, refl, sym, ◌∙◌, ap, subst, arith}
use Rattle.std.specs.Ordering.{nat_cmp}
use Rattle.std.specs.BTreeMap.{get}
use Rattle.fab_base.specs.declared.identities.BrickId.{BrickId}
use Rattle.fab_base.specs.declared.identities.GroupId.{GroupId}
use Rattle.stripe_code.specs.Codes.{coding}
use Rattle.protocol.specs.Nodes.{Node, NodeStep, known_after, replied_at, with_known, with_round}
use Rattle.node.specs.declared.jobs.OpenJob.{OpenJob}
use Rattle.node.specs.declared.jobs.ReadTurn.{ReadTurn}
use Rattle.node.specs.declared.tasks.Tasks.{Tasks}
use Rattle.node.specs.Jobs.{FollowsFrom, followed_step, reading_of, then_told, with_reading}
use Rattle.node.specs.Reads.{IsReadTurn, IsSameRead, LeftSo, turn_step}
use Rattle.node.specs.Scrubs.{scrubbing_in, with_scrubbing}
use Rattle.node.specs.States.{KeptParts, StepsAs, parts_with, state_in, state_with}
use Rattle.node.specs.Tasks.{IsJobAt, IsJobIn, IsScrubIn, read_seq, tasks_in}
use Rattle.node.proofs.ReadReplies.{read_free, reads_call, turn_is}
use Rattle.node.proofs.ScrubCalls.{aside_next, scrub_heard, scrub_other, scrub_stays}
use Rattle.node.proofs.ScrubsBeside.{ScrubApart, calls_apart_scrub, swapped}
use Rattle.node.proofs.Turning.{same_ended, same_then}
use Rattle.node.proofs.Underway.{same_calls_then, same_parts}
use Rattle.node.proofs.tasks.Tasks.on_read_reply.Goals as goal
use Rattle.node.proofs.tasks.Tasks.on_read_reply.Goals.{After-knows, In-Ends, In-Goes, In_ok-turn}

-- the read is of the brick
at_brick : (c : In_ok-turn) → IsJobAt c.args.layout.now c.args.self.now.work.calls c.in-Some.open
at_brick c = subst (IsJobIn c.args.layout.now c.args.self.now.work.calls) c.in-Some.is c.requires.of.job_is

-- the scrub has another call
scrub_apart : (c : In_ok-turn) → ScrubApart (scrubbing_in c.args.self.now.scrub) (read_seq c.in-Some.open)
scrub_apart c =
    scrub_other c.args.layout.now c.args.self.now.work.calls c.in-Some.open c.args.self.now.scrub
    (subst (λ (job : Option OpenJob). IsScrubIn c.args.layout.now c.args.self.now.work.calls job c.args.self.now.scrub) c.in-Some.is c.requires.of.scrub_is)

-- the brick, but for the read
abbrev unread : In_ok-turn → KeptParts → Node
unread c kept = with_scrubbing (scrubbing_in c.args.self.now.scrub) (state_in kept c.args.self.now.work)

-- it, once it knows the time and the round of a ballot that the reply makes known
abbrev later : In_ok-turn → KeptParts → Node
later c kept =
    with_known (with_round (unread c kept) c.args.reply.now) (known_after c.args.self.now.work.calls.stamps.known c.args.reply.now)

-- what the reply comes to is the machine's step
step_is : (c : In_ok-turn) (kept : KeptParts) (turned : ReadTurn) → c.in_ok-turn.turn ≡ turned
    → (let tasks = c.args.self.now in let me = tasks.work.calls.me in
    replied_at (coding c.args.layout.now) me c.args.now c.args.packet.now.from (with_round (tasks_in kept tasks) c.args.reply.now) c.args.call c.args.reply.now
    ((tasks_in kept tasks).calls c.args.call.seq)
    ≡ turn_step me c.on_reply.new.self (later c kept) turned)
unfolding state_with
step_is c kept turned is =
    let layout = c.args.layout.now in
    let tasks = c.args.self.now in
    let work = tasks.work in
    let me = work.calls.me in
    let from = c.args.packet.now.from in
    let call = c.args.call in
    let reply = c.args.reply.now in
    let held = c.in-Some.open in
    let beside = scrubbing_in tasks.scrub in
    let at = c.source_after-at.result in
    let turned_is = subst (λ (t : ReadTurn). IsReadTurn layout held from c.args.packet.now.message at t c.on_reply.new.self) is c.in_ok-turn.ensures.turn in
    (λ i. (let now : Node = tasks_in kept (record { work = work; job = c.in-Some.is i; scrub = tasks.scrub }) in
    replied_at (coding layout) me c.args.now from (with_round now reply) call reply (now.calls call.seq)))
    ∙ ap (λ (n : Node). replied_at (coding layout) me c.args.now from (with_round n reply) call reply (n.calls call.seq))
    (swapped beside (reading_of held) (state_in kept work) (scrub_apart c))
    ∙ turn_is layout me c.args.now from at held c.on_reply.new.self (with_round (unread c kept) reply) call reply c.args.packet.now.message turned
    turned_is c.requires.reply (reads_call tasks.job held call.seq c.in-Some.is c.requires.reads)
    c.source_after-at.ensures.me c.source_after-at.ensures.now c.source_after-at.ensures.seq c.source_after-at.ensures.boot c.source_after-at.ensures.known
    (calls_apart_scrub beside (state_in kept work).calls (read_seq held) (scrub_apart c) ∙ read_free layout work held kept (at_brick c))

-- the read goes on, as a read of the same call
goes_on : (c : In-Goes) → IsSameRead c.args.layout.now c.in-Some.open c.on_reply.new.self
goes_on c =
    subst (λ (t : ReadTurn). LeftSo c.args.layout.now c.in-Some.open c.source_after-at.result t c.on_reply.new.self) c.in-Goes.is c.in_ok-turn.ensures.turn.left

-- what is under way then
abbrev after : After-knows → Tasks
after c = record {
  work = record { calls = c.knows.new.self; proposals = c.heard.new.self.proposals };
  job = Some c.on_reply.new.self;
  scrub = c.args.self.now.scrub;
}

pub returns-in-Goes-clause-step : goal.returns-in-Goes-clause-step
returns-in-Goes-clause-step c = λ kept.
    let e = (goal.at.returns-in-Goes-clause-step c).In-Goes in
    let d = (goal.at.returns-in-Goes-clause-step c).In_ok-turn in
    let was = c.args.self.now in
    let s = scrubbing_in was.scrub in
    let now : OpenJob = c.on_reply.new.self in
    let tasks = after (goal.at.returns-in-Goes-clause-step c).After-knows in
    subst (λ (step : NodeStep). StepsAs was.work.calls.me (tasks_in kept tasks) step c.in-Goes.outs)
    (sym (step_is d kept _ c.in-Goes.is))
    (record {
      packets = refl;
      told = refl;
      answers = refl;
      reports = refl;
      state_is = swapped s (reading_of now) (state_in kept tasks.work) (subst (ScrubApart s) (sym (goes_on e).seq) (scrub_apart d))
          ∙ ap (λ (n : Node). with_reading (Some (reading_of now)) (with_scrubbing s n))
          (c.knows.ensures.state (parts_with kept c.heard.new.self.proposals) ∙ ap (λ (n : Node). with_known n c.in-Goes.known) (c.heard.ensures.state kept));
    })

pub returns-in-Goes-clause-same : goal.returns-in-Goes-clause-same
returns-in-Goes-clause-same c =
    let e = (goal.at.returns-in-Goes-clause-same c).In-Goes in
    let d = (goal.at.returns-in-Goes-clause-same c).In_ok-turn in
    let layout = c.args.layout.now in
    let calls = c.args.self.now.work.calls in
    let operations = c.knows.ensures.operations ∙ c.heard.ensures.operations in
    let last = c.knows.ensures.seq ∙ c.heard.ensures.seq in
    let seq = (goes_on e).seq in
    let made = (at_brick d).made in
    same_parts layout c.args.self.now (after (goal.at.returns-in-Goes-clause-same c).After-knows)
    (same_calls_then layout c.args.self.now.work c.heard.new.self c.knows.new.self (c.heard.ensures.same layout) (c.knows.ensures.same layout))
    (λ of. record {
      open_is = (goes_on e).of (at_brick d).open_is;
      made = omega (arith, last, seq, made);
      apart = (λ i. get nat_cmp (operations i) (seq i)) ∙ (at_brick d).apart;
    })
    (λ of. scrub_stays layout calls c.knows.new.self c.in-Some.open c.on_reply.new.self c.args.self.now.scrub operations last seq
    (subst (λ (job : Option OpenJob). IsScrubIn layout calls job c.args.self.now.scrub) c.in-Some.is of.scrub_is))

-- what comes after the read follows from the last call
follows_so : (c : In-Ends) → FollowsFrom c.args.layout.now c.heard.new.self.calls.seq c.group-group.result c.in-Ends.next
follows_so c =
    subst (λ (g : GroupId). FollowsFrom c.args.layout.now c.heard.new.self.calls.seq g c.in-Ends.next) (sym c.group-group.ensures)
    (subst (λ (n : ℕ). FollowsFrom c.args.layout.now n c.in-Some.open.job.group c.in-Ends.next) (c.source_after-at.ensures.seq ∙ sym c.heard.ensures.seq)
    (subst (λ (t : ReadTurn). LeftSo c.args.layout.now c.in-Some.open c.source_after-at.result t c.on_reply.new.self) c.in-Ends.is
    c.in_ok-turn.ensures.turn.left).0)

pub returns-in-Ends-clause-step : goal.returns-in-Ends-clause-step
returns-in-Ends-clause-step c = λ kept.
    let d = (goal.at.returns-in-Ends-clause-step c).In_ok-turn in
    let me = c.args.self.now.work.calls.me in
    let told = c.in-Ends.told in
    let next = c.in-Ends.next in
    let group = c.group-group.ensures ∙ sym c.in_ok-turn.ensures.turn.group in
    let steps = subst (λ (b : BrickId). StepsAs b (tasks_in kept c.take_up.new.self)
    (then_told told (followed_step b c.group-group.result (with_scrubbing (scrubbing_in c.args.self.now.scrub) (state_in kept c.heard.new.self)) next)) c.take_up.result)
    (c.heard.ensures.same c.args.layout.now).me (c.take_up.ensures.step kept) in
    subst (λ (step : NodeStep). StepsAs me (tasks_in kept c.take_up.new.self) step c.take_up.result)
    ((λ i. then_told told (followed_step me (group i) (with_scrubbing (scrubbing_in c.args.self.now.scrub) (c.heard.ensures.state kept i)) next))
    ∙ sym (step_is d kept _ c.in-Ends.is))
    steps

-- the scrub is of the brick still, once the reply is heard
scrub_stays_so : (c : In-Ends) → IsScrubIn c.args.layout.now c.heard.new.self.calls c.args.self.now.job c.args.self.now.scrub
scrub_stays_so c =
    scrub_heard c.args.layout.now c.args.self.now.work.calls c.heard.new.self.calls c.args.self.now.job c.args.self.now.scrub c.heard.ensures.operations
    c.heard.ensures.seq c.requires.of.scrub_is

pub take_up-requires-clause-from : goal.take_up-requires-clause-from
take_up-requires-clause-from c = (c.args.layout.now, follows_so (goal.at.take_up-requires-clause-from c).In-Ends)

pub take_up-requires-clause-apart : goal.take_up-requires-clause-apart
take_up-requires-clause-apart c =
    aside_next c.args.layout.now c.heard.new.self.calls c.args.self.now.job c.args.self.now.scrub
    (scrub_stays_so (goal.at.take_up-requires-clause-apart c).In-Ends)

pub returns-in-Ends-clause-same : goal.returns-in-Ends-clause-same
returns-in-Ends-clause-same c =
    let e = (goal.at.returns-in-Ends-clause-same c).In-Ends in
    same_then c.args.layout.now c.args.self.now (record { work = c.heard.new.self; job = None; scrub = c.args.self.now.scrub }) c.take_up.new.self
    (same_ended c.args.layout.now c.args.self.now c.heard.new.self (c.heard.ensures.same c.args.layout.now) (λ of. scrub_stays_so e))
    (c.take_up.ensures.same c.args.layout.now (follows_so e))
