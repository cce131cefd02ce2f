-- What may come after the read by each way in which it may end is there.
use Rattle.fab_base.specs.declared.answers.Cause.TheVariants.{Gone}
use Rattle.node.proofs.Following.{goes_whatever}
use Rattle.node.proofs.jobs.OpenJob.prepare.Goals as goal

pub returns : goal.returns
returns c =
    let held = c.args.self.now in
    record {
      roomy = record {
        empty = c.in_ok-with_capacity.ensures.items;
        room = c.in_ok-with_capacity.ensures.capacity;
        answered = c.in_ok-after.ensures.few;
        aborted = c.in_ok-after-2.ensures.few;
      };
      answered = c.in_ok-after.ensures.goes;
      aborted = λ cause.
          goes_whatever c.args.layout.now c.args.at held.job held.view (Gone c.args.from) c.in_ok-after-2.field-0 c.in_ok-after-2.ensures.goes cause;
      read_answered = c.in_ok-after.ensures.from;
      read_aborted = c.in_ok-after-2.ensures.from;
    }
