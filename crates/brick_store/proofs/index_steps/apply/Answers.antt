-- The index makes the change, since there is room for it.
use Rattle.std.proofs.Common.{◌≡◌, Bool, Option, Some, Result, Ok, Err, subst}
use Rattle.std.specs.Result.{IsOk, IfOk}
use Rattle.brick_state.specs.Entries.{Entry}
use Rattle.brick_state.specs.States.{StateOf}
use Rattle.brick_state.specs.Indexes.{state_of, limits_of, Answers}
use Rattle.brick_store.proofs.Stepping.{changed_is}
use Rattle.brick_store.proofs.index_steps.apply.Goals as goal

made : {E : Type 0} (r : Result Bool E) (now next : StateOf Entry) (change : Option (StateOf Entry)) → IsOk r → IfOk r (Answers now change)
    → change ≡ Some next → now ≡ next
made (Ok b) now next change ok h is = (subst (λ (o : Option (StateOf Entry)). Answers now o b) is h).1
made (Err e) now next change ok h is = absurd cc

pub returns-clause-made : goal.returns-clause-made
returns-clause-made c =
    let index = c.args.index.now in
    made c.apply.result (state_of c.apply.new.self) _ _ (c.apply.ensures.enough c.requires.ready) c.apply.ensures.answer
    (changed_is (limits_of index) c.args.item.now (state_of index) c.requires.can)
