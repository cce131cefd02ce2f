use Rattle.std.proofs.Common.{sym, ◌∙◌}
use Rattle.front.proofs.Beginning.{begins_none, begins_halted}
use Rattle.front.proofs.Covering.{asks_each}
use Rattle.front.proofs.ranges.Range.begin.Goals as goal

pub returns-in-None-clause-begun : goal.returns-in-None-clause-begun
returns-in-None-clause-begun c =
    c.over.ensures
    ∙ begins_none _ _ _ _ _ _ _ (c.from-block.ensures ∙ c.block.ensures) c.name_in-name.ensures
    (sym c.halt_of.ensures.value ∙ c.in-None.is)

pub returns-in-Some-clause-begun : goal.returns-in-Some-clause-begun
returns-in-Some-clause-begun c =
    c.over-in-Some.ensures ∙ begins_halted _ _ _ _ _ _ _ (sym c.halt_of.ensures.value ∙ c.in-Some.is)

pub returns-in-None-clause-each : goal.returns-in-None-clause-each
returns-in-None-clause-each c = asks_each _ _ _ _ _ c.bricks.ensures.limits

pub returns-in-Some-clause-each : goal.returns-in-Some-clause-each
returns-in-Some-clause-each c = asks_each _ _ _ _ _ c.bricks.ensures.limits
