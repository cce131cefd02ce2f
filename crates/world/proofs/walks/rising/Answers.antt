-- a sort puts the entries in their ascending order
use Rattle.std.proofs.Common.{ap, ◌∙◌}
use Rattle.protocol.specs.Happenings.{ascending}
use Rattle.world.proofs.Orders.{sorted_ascends}
use Rattle.world.proofs.walks.rising.Goals as goal

pub returns : goal.returns
returns c =
    sorted_ascends c.in_ok-rising.rising.items c.sort.new.self.items c.sort.ensures.permutation c.in_ok-sort.ensures.sorted
    ∙ ap ascending c.in_ok-rising.ensures.items
