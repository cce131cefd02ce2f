-- A halted store learns nothing, and one that runs what it is taught.
use Rattle.std.proofs.Common.{rules}
use Rattle.messages.specs.declared.packets.Message.{Message}
use Rattle.replica.specs.Handling.{me_of}
use Rattle.replica.specs.Reactions.{IsStep}
use Rattle.replica.proofs.Answering.{keeps_refused}
use Rattle.replica.proofs.views.learn.Goals as goal

pub returns-then-is_halted : goal.returns-then-is_halted
returns-then-is_halted g c from =
    let old = c.args.store.now in
    record {
      handles = search rules;
      change = λ node parts. keeps_refused g.D.Disk g.met.D.Disk.only_now
          (IsStep c.args.layout.now (me_of old) from (Message.Learn c.args.group c.args.view.now) old.state) old _;
    }
