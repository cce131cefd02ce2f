-- The operation whose marks have the number runs alone where it may, and else nothing happens. Chaining what was sent leaves what the history tells.
use Rattle.std.proofs.Common.{true, false}
use Rattle.world.proofs.AloneRuns.{chained_cut, chained_idle, chained_may, chained_run, chained_stands}
use Rattle.world.proofs.SimulationLemmas.{on_err_always}
use Rattle.world.proofs.simulations.Simulation.calm.Goals as goal

pub is_calm-requires : goal.is_calm-requires
is_calm-requires c =
    chained_stands c.args.layout.now c.args.self.now c.chain_sent.new.self c.chain_sent.ensures c.requires c.args.mark c.args.bricks.now _
    c.number_marked-operation.ensures

pub returns-then-not-is_calm-clause-ok : goal.returns-then-not-is_calm-clause-ok
returns-then-not-is_calm-clause-ok c =
    chained_idle c.args.layout.now c.args.self.now c.chain_sent.new.self c.chain_sent.ensures c.requires c.args.mark c.args.bricks.now
    c.number_marked-operation.result c.number_marked-operation.ensures c.is_calm.result c.is_calm.ensures.1 c.if-not-is_calm.true

pub run_alone-requires : goal.run_alone-requires
run_alone-requires c =
    chained_may c.args.layout.now c.args.self.now c.chain_sent.new.self c.chain_sent.ensures c.requires c.args.mark c.args.bricks.now
    c.number_marked-operation.result c.number_marked-operation.ensures (c.is_calm.ensures.0 c.if-not-is_calm.false)

pub returns-then-branch-clause-ok : goal.returns-then-branch-clause-ok
returns-then-branch-clause-ok c =
    chained_run c.args.layout.now c.args.self.now c.chain_sent.new.self c.chain_sent.ensures c.requires c.args.mark c.args.bricks.now
    c.number_marked-operation.result c.number_marked-operation.ensures c.run_alone.new.self _ true c.bricks.ensures.limits
    (c.is_calm.ensures.0 c.if-not-is_calm.false) c.if-branch.true c.in_ok-run_alone.ensures.run

pub returns-else-branch-clause-ok : goal.returns-else-branch-clause-ok
returns-else-branch-clause-ok c =
    chained_run c.args.layout.now c.args.self.now c.chain_sent.new.self c.chain_sent.ensures c.requires c.args.mark c.args.bricks.now
    c.number_marked-operation.result c.number_marked-operation.ensures c.run_alone.new.self _ false c.bricks.ensures.limits
    (c.is_calm.ensures.0 c.if-not-is_calm.false) c.if-branch.false c.in_ok-run_alone.ensures.run

pub returns-in_err-run_alone-clause-err : goal.returns-in_err-run_alone-clause-err
returns-in_err-run_alone-clause-err c =
    on_err_always c.from_residual.result
    (chained_cut c.args.layout.now c.args.self.now c.chain_sent.new.self c.chain_sent.ensures c.requires c.args.mark c.args.bricks.now
    c.number_marked-operation.result c.number_marked-operation.ensures c.run_alone.new.self (c.is_calm.ensures.0 c.if-not-is_calm.false)
    c.in_err-run_alone.ensures.cut)
