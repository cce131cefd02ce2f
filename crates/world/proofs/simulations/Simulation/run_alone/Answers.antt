-- Each message that is left is delivered, and the operation ends, or none is left.
use Rattle.std.proofs.Common.{rules, ◌<◌, length}
use Rattle.std.proofs.lemmas.Option.{slice_get_within}
use Rattle.world.proofs.AloneRuns.{begun_so, ended_so, more_so, none_so, stands_so, stuck_so}
use Rattle.world.proofs.SimulationLemmas.{on_err_always}
use Rattle.world.proofs.simulations.Simulation.run_alone.Goals as goal

pub loop-record-init : goal.loop-record-init
loop-record-init c = none_so c.args.layout.now c.args.self.now c.args.operation c.args.bricks.now c.requires

pub returns-in_default-next_left-clause-run : goal.returns-in_default-next_left-clause-run
returns-in_default-next_left-clause-run c =
    stuck_so c.args.layout.now c.args.self.now c.loop-record.self c.args.operation c.args.bricks.now c.loop-record.from c.loop-record.some c.requires
    c.loop-record.invariant c.in-Some.record c.in-Some.ensures c.in_default-next_left.ensures

pub overflow_add-place : goal.overflow_add-place
overflow_add-place c =
    let within : c.in-Some-next_left.place < length c.loop-record.self.history.sent.packets.items =
    slice_get_within c.loop-record.self.history.sent.packets.items c.in-Some-next_left.place c.in-Some-next_left.ensures.2.0 c.in-Some-next_left.ensures.2.1 in
    search (rules, within, c.loop-record.self.history.sent.packets.ok)

pub deliver_alone-requires : goal.deliver_alone-requires
deliver_alone-requires c =
    stands_so c.args.layout.now c.args.self.now c.loop-record.self c.args.operation c.args.bricks.now c.loop-record.from c.loop-record.some c.requires
    c.loop-record.invariant

pub returns-in_err-deliver_alone-clause-cut : goal.returns-in_err-deliver_alone-clause-cut
returns-in_err-deliver_alone-clause-cut c =
    on_err_always c.from_residual.result
    (begun_so c.args.layout.now c.args.self.now c.loop-record.self c.args.operation c.args.bricks.now c.loop-record.from c.loop-record.some c.requires
    c.loop-record.invariant c.deliver_alone.new.self c.in_err-deliver_alone.ensures.err)

pub overflow_add-from : goal.overflow_add-from
overflow_add-from c =
    let packets = c.loop-record.self.history.sent.packets in
    let within : c.in-Some-next_left.place < length packets.items =
    slice_get_within packets.items c.in-Some-next_left.place c.in-Some-next_left.ensures.2.0 c.in-Some-next_left.ensures.2.1 in
    search (rules, within, packets.ok)

pub loop-record-preserved : goal.loop-record-preserved
loop-record-preserved c =
    more_so c.args.layout.now c.args.self.now c.loop-record.self c.args.operation c.args.bricks.now c.loop-record.from c.loop-record.some c.requires
    c.loop-record.invariant c.in-Some.record c.in-Some-next_left.place c.deliver_alone.new.self c.in-Some.ensures c.in-Some-next_left.ensures
    c.in_ok-deliver_alone.ensures.ok

pub returns-clause-run : goal.returns-clause-run
returns-clause-run c =
    ended_so c.args.layout.now c.args.self.now c.loop-record.self c.args.operation c.args.bricks.now c.loop-record.from c.loop-record.some c.requires
    c.loop-record.invariant c.in_default.ensures
