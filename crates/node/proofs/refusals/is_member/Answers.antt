-- It is one where it has a seat.
use Rattle.std.proofs.Common.{rules, tests, nat_eq, ◌∙◌}
use Rattle.std.proofs.lemmas.Iterator.{YieldsList-from_slice}
use Rattle.std.proofs.lemmas.Iterator.Search.{any_from_yields_List}
use Rattle.fab_base.specs.declared.identities.BrickId.{BrickId}
use Rattle.coord_phase.proofs.Asked.{stands_as_seat}
use Rattle.node.proofs.refusals.is_member.Goals as goal

pub returns : goal.returns
returns c =
    any_from_yields_List (λ (member : BrickId). nat_eq member.0 c.args.brick.0) _ _ c.any.result c.any.ensures.ran (YieldsList-from_slice c.args.members.now cc)
    (λ x b q k. search (rules, tests))
    ∙ stands_as_seat c.args.members.now c.args.brick.0
