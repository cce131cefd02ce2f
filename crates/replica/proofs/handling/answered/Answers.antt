-- A change that was refused is answered as its fault is, whatever the reply was to be.
use Rattle.std.proofs.Common.{◌∙◌, sym, ap}
use Rattle.replica.specs.Handling.{answered}
use Rattle.replica.proofs.handling.answered.Goals as goal

pub returns-in-Err : goal.returns-in-Err
returns-in-Err c = c.refused.ensures c.args.reply ∙ ap (answered c.args.reply) (sym c.in-Err.is)
