-- A group that there is not is refused as the machine refuses it.
use Rattle.std.proofs.Common.{arith}
use Rattle.std.proofs.lemmas.Option.{slice_get_past}
use Rattle.world.proofs.MachineBegins.{unproposed_no_group, unsynced_no_group}
use Rattle.world.proofs.simulations.group_of.Goals as goal

pub returns-else-group-group_count-clause-none : goal.returns-else-group-group_count-clause-none
returns-else-group-group_count-clause-none c node =
    let past = slice_get_past c.args.layout.now.groups c.args.group (omega (arith, c.group_count.ensures.value, c.if-group-group_count.false)) in
    (unproposed_no_group c.args.layout.now c.args.group node past, unsynced_no_group c.args.layout.now c.args.group node past)
