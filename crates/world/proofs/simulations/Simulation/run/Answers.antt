-- An operation runs alone, or another line is taken.
use Rattle.std.proofs.Common.{sym, ap, ◌∙◌, subst}
use Rattle.std.specs.Prelude.{IfOk, OnErr}
use Rattle.std.proofs.lemmas.Result.{on_err_weaker}
use Rattle.lines.specs.declared.forms.Line.{Line}
use Rattle.lines.specs.declared.forms.Line.TheVariants.{Calm}
use Rattle.world.specs.Shown.{GoesOn, RefusesLine}
use Rattle.world.proofs.DeliveryLemmas.{other_is, other_refuses}
use Rattle.world.proofs.simulations.Simulation.run.Goals as goal

pub returns-in-Calm-clause-ok : goal.returns-in-Calm-clause-ok
returns-in-Calm-clause-ok c =
    subst (λ (line : Line). IfOk c.calm.result (GoesOn c.args.layout.now c.args.self.now c.calm.new.self line))
    (ap (Calm c.in-Calm.operation) c.as_slice.ensures ∙ sym c.in-Calm.is) c.calm.ensures.ok

pub returns-in-Calm-clause-err : goal.returns-in-Calm-clause-err
returns-in-Calm-clause-err c =
    subst (λ (line : Line). OnErr c.calm.result (RefusesLine c.args.layout.now c.args.self.now c.calm.new.self line))
    (ap (Calm c.in-Calm.operation) c.as_slice.ensures ∙ sym c.in-Calm.is) c.calm.ensures.err

pub take-requires-clause-line : goal.take-requires-clause-line
take-requires-clause-line c = other_is c.args.line.now c.requires.line c.in_default.not-Calm

pub returns-in_default-clause-err : goal.returns-in_default-clause-err
returns-in_default-clause-err c =
    on_err_weaker c.take.result (other_refuses c.args.layout.now c.args.self.now c.take.new.self c.args.line.now c.in_default.not-Calm) c.take.ensures.err
