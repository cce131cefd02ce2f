-- The work hears the reply, beside the synchronisation and the scrub.
use Rattle.std.proofs.Common.{refl}
use Rattle.node.specs.Scrubs.{scrub_seq}
use Rattle.node.specs.Tasks.{read_seq}
use Rattle.node.specs.States.{state_in}
use Rattle.node.proofs.Turning.{turn_keeps, turn_keeps_scrub, turn_same}
use Rattle.node.proofs.Underway.{no_parts, same_free}
use Rattle.node.proofs.tasks.Tasks.hear_moved.Goals as goal

pub returns-in_err-turn-clause-same : goal.returns-in_err-turn-clause-same
returns-in_err-turn-clause-same c =
    let before = c.args.self.now in
    turn_same c.args.layout.now before before c.hear_moved.new.self (record { me = refl; boot = refl; of = λ of. of }) refl refl c.in_err-turn.ensures.same
    (λ held there. same_free (read_seq held) (state_in no_parts before.work) (state_in no_parts c.hear_moved.new.self) (c.in_err-turn.ensures.err no_parts))
    (λ held there. same_free (scrub_seq held) (state_in no_parts before.work) (state_in no_parts c.hear_moved.new.self) (c.in_err-turn.ensures.err no_parts))

pub returns-clause-same : goal.returns-clause-same
returns-clause-same c =
    let before = c.args.self.now in
    let layout = c.args.layout.now in
    let from = c.args.packet.now.from in
    let same = c.in_ok-turn.ensures.same in
    record {
      me = same.me;
      boot = same.boot;
      of = λ of. record {
        work_is = same.of of.work_is;
        job_is = turn_keeps layout from c.args.call c.args.reply.now before.work c.hear_moved.new.self c.in_ok-turn.turn before.job c.in_ok-turn.ensures.turn
            (c.reads.ensures.aside c.if-reads.false) of.job_is;
        scrub_is = turn_keeps_scrub layout from c.args.call c.args.reply.now before.work c.hear_moved.new.self c.in_ok-turn.turn before.job before.scrub
            c.in_ok-turn.ensures.turn (c.is_scrub.ensures.aside c.if-is_scrub.false) of.scrub_is;
      };
    }
