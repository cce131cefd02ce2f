-- Each entry happens at the greatest begin so far, and is told by the number of its marks.
use Rattle.std.proofs.Common.{◌≡◌, ◌+◌, ◌<◌, ◌++◌, List, length, drop, ap, ◌∙◌, max, arith}
use Rattle.std.proofs.lemmas.Bool.Decides.{nat_tests}
use Rattle.reg_model.specs.declared.marks.Happening.{Happening}
use Rattle.world.specs.Walks.{operations_of, placed}
use Rattle.world.proofs.KeptOperations.{placed_more}
use Rattle.world.proofs.walks.along.Goals as goal

pub loop-entry-preserved : goal.loop-entry-preserved
loop-entry-preserved c =
    let within : c.loop-entry.entry-index < length c.args.walk.now = omega arith in
    let greatest : c.max-position.result ≡ max c.loop-entry.position c.begin_of.result = grind (arith, nat_tests, c.max-position.ensures) in
    ap (λ (l : List Happening). l ++ placed (operations_of c.args.operations.now) c.max-position.result (drop (c.loop-entry.entry-index + 1) c.args.walk.now))
    c.in_ok-push.ensures.items
    ∙ placed_more (operations_of c.args.operations.now) c.loop-entry.happenings.items c.loop-entry.position c.max-position.result c.begin_of.result
    c.mark_of.result c.args.walk.now c.loop-entry.entry-index _ within c.begin_of.ensures greatest c.mark_of.ensures
    ∙ c.loop-entry.invariant
