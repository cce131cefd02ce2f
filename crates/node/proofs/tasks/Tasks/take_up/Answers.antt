-- The read that begins is one of the brick.
use Rattle.std.proofs.Common.{◌≡◌, ◌∙◌, ap, subst, arith}
use Rattle.messages.specs.declared.calls.Call.{Call}
use Rattle.protocol.specs.Nodes.{Node}
use Rattle.node.specs.declared.jobs.Followed.{Followed}
use Rattle.node.specs.Jobs.{FollowsFrom}
use Rattle.node.specs.States.{parts_with, state_with}
use Rattle.node.specs.Tasks.{read_seq}
use Rattle.node.proofs.TakenUp.{read_is_at, scrub_goes}
use Rattle.node.proofs.Underway.{no_parts}
use Rattle.node.proofs.tasks.Tasks.take_up.Goals as goal

pub returns-in-Reads-clause-same : goal.returns-in-Reads-clause-same
unfolding state_with
returns-in-Reads-clause-same c = λ layout follows.
    let before = c.args.self.now.work in
    let held = c.in-Reads.open in
    let after = c.made_read.new.self in
    let same = c.made_read.ensures.same layout in
    let is = subst (λ (next : Followed). FollowsFrom layout before.calls.seq c.args.group next) c.in-Reads.is follows in
    let next = is.1 in
    let last : after.seq ≡ read_seq held =
    ap (λ (n : Node). n.seq) (c.made_read.ensures.state (parts_with no_parts before.proposals)) ∙ ap (λ (call : Call). call.seq) c.call-call.ensures in
    record {
      me = same.me;
      boot = same.boot;
      of = λ of. record {
        work_is = record { calls = same.of of.work_is.calls; proposing = of.work_is.proposing };
        job_is = read_is_at layout before.calls after held c.made_read.ensures.operations last is.0 is.1;
        scrub_is = scrub_goes layout before.calls after held c.args.self.now.scrub c.made_read.ensures.operations (omega (arith, last, next)) next of.scrub_is;
      };
    }
