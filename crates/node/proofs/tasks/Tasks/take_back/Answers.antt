-- What was counted is taken back, beside the synchronisation or of it.
use Rattle.std.proofs.Common.{◌∙◌, ap, subst}
use Rattle.messages.specs.declared.packets.Message.TheVariants as message
use Rattle.coord_phase.specs.Operations as phased
use Rattle.node.specs.declared.tasks.TaskTurn.{TaskTurn}
use Rattle.node.specs.Jobs.{reading_in, with_reading}
use Rattle.protocol.specs.Nodes.{Node}
use Rattle.node.specs.Scrubs.{scrub_seq, scrubbing_in, with_scrubbing}
use Rattle.node.specs.States.{state_in}
use Rattle.node.specs.Tasks.{IsTaskTurn, read_seq}
use Rattle.node.proofs.ScrubCalls.{same_scrub}
use Rattle.node.proofs.Turning.{read_back, same_taken, same_then, scrub_back, turn_same}
use Rattle.node.proofs.Underway.{no_parts, same_free}
use Rattle.node.proofs.tasks.Tasks.take_back.Goals as goal

pub returns-in-Work-clause-state : goal.returns-in-Work-clause-state
returns-in-Work-clause-state c = λ layout now from call reply before seq is kept.
    let turn_is = subst (λ (turn : TaskTurn). IsTaskTurn layout now from call reply before turn c.args.self.now) c.in-Work.is is in
    (λ i. with_scrubbing (scrubbing_in (turn_is.2 i)) (with_reading (reading_in (turn_is.1 i)) (state_in kept c.take_back.new.self)))
    ∙ ap (λ (n : Node). with_scrubbing (scrubbing_in before.scrub) (with_reading (reading_in before.job) n))
    (c.take_back.ensures.state layout from call reply before.work seq turn_is.0 kept)

pub returns-in-Work-clause-same : goal.returns-in-Work-clause-same
returns-in-Work-clause-same c = λ layout now from call reply before seq is first.
    let turn_is = subst (λ (turn : TaskTurn). IsTaskTurn layout now from call reply before turn c.args.self.now) c.in-Work.is is in
    let state = c.take_back.ensures.state layout from call reply before.work seq turn_is.0 no_parts in
    turn_same layout before c.args.self.now c.take_back.new.self first turn_is.1 turn_is.2 (c.take_back.ensures.same layout)
    (λ held there. same_free (read_seq held) (state_in no_parts before.work) (state_in no_parts c.take_back.new.self) state)
    (λ held there. same_free (scrub_seq held) (state_in no_parts before.work) (state_in no_parts c.take_back.new.self) state)

pub returns-in-Some-clause-state : goal.returns-in-Some-clause-state
returns-in-Some-clause-state c = λ layout now from call reply before seq is kept.
    let turn_is = subst (λ (turn : TaskTurn). IsTaskTurn layout now from call reply before turn c.args.self.now) c.in-CountedRead.is is in
    let back = c.take_back-in-Some.ensures in
    read_back from (message.Reply call reply) before c.args.self.now c.in-Some.open c.take_back-in-Some.new.self turn_is.0 c.in-Some.is back.read back.job back.view kept

pub returns-in-Some-clause-same : goal.returns-in-Some-clause-same
returns-in-Some-clause-same c = λ layout now from call reply before seq is first.
    let back = c.take_back-in-Some.ensures in
    same_then layout before c.args.self.now _ first
    (same_taken layout c.args.self.now c.in-Some.open c.take_back-in-Some.new.self c.in-Some.is back.read back.job back.view)

pub returns-in-Some-scrub-clause-state : goal.returns-in-Some-scrub-clause-state
returns-in-Some-scrub-clause-state c = λ layout now from call reply before seq is kept.
    let mid = c.args.self.now in
    let turn_is = subst (λ (turn : TaskTurn). IsTaskTurn layout now from call reply before turn mid) c.in-CountedScrub.is is in
    let back = c.take_back-in-Some-scrub.ensures in
    scrub_back from (message.Reply call reply) before mid c.in-Some-scrub.open c.take_back-in-Some-scrub.new.self turn_is.0 c.in-Some-scrub.is back.shown back.lagging kept

pub returns-in-Some-scrub-clause-same : goal.returns-in-Some-scrub-clause-same
returns-in-Some-scrub-clause-same c = λ layout now from call reply before seq is first.
    same_then layout before c.args.self.now _ first
    (same_scrub layout c.args.self.now c.in-Some-scrub.open c.take_back-in-Some-scrub.new.self c.in-Some-scrub.is
    (ap (λ (op : phased.Operation). op.state.call.seq) c.take_back-in-Some-scrub.ensures.shown) (c.take_back-in-Some-scrub.ensures.of layout))
