-- the happenings along the walk of the entries
use Rattle.std.proofs.Common.{List, ap, ◌∙◌}
use Rattle.std.proofs.lemmas.Result.{IfOk-weaker}
use Rattle.reg_model.specs.declared.entries.Entry.{Entry}
use Rattle.world.specs.Walks.{operations_of, placed}
use Rattle.world.proofs.walks.happenings.Goals as goal

pub returns : goal.returns
returns c =
    IfOk-weaker c.along.result _ _
    (λ happenings is. is ∙ ap (λ (l : List Entry). placed (operations_of c.args.operations.now) 0 l) (c.deref.ensures.value ∙ c.in_ok-walk.ensures))
    c.along.ensures
