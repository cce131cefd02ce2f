-- A brick may count if it is one of those that alone count, where the phase does not look back.
use Rattle.std.proofs.Common.{◌≡◌, ◌||◌, false, Bool, List, Option, nat_eq, is_some, sym, ◌∙◌, ap}
use Rattle.std.specs.List.{list_any}
use Rattle.fab_base.specs.declared.identities.BrickId.{BrickId}
use Rattle.fab_base.specs.Layouts.{seat_in}
use Rattle.protocol.specs.Coordinators.{looks_back, may_count, may_count_in}
use Rattle.coord_phase.specs.Operations.{Operation}
use Rattle.coord_phase.proofs.Asked.{stands_as_seat}
use Rattle.coord_phase.proofs.operations.Operation.may_count.Goals as goal

pub returns-else-looks_back : goal.returns-else-looks_back
returns-else-looks_back c =
    let only = c.in-Some.only in
    let brick = c.args.brick.0 in
    let phase = c.self.inside.stage.phase in
    let ahead : looks_back phase ≡ false = sym c.looks_back.ensures ∙ c.if-looks_back.false in
    c.stands_in.ensures
    ∙ ap (λ (members : List BrickId). list_any (λ (member : BrickId). nat_eq member.0 brick) members) c.as_slice.ensures.value
    ∙ stands_as_seat only brick
    ∙ ap (λ (back : Bool). back || is_some (seat_in only brick)) (sym ahead)
    ∙ ap (λ (o : Option (List BrickId)). may_count_in phase o brick) (sym c.in-Some.is)
    ∙ ap (λ (op : Operation). may_count op.state brick) c.self.view_is
