-- Without the last reply it is of the layout still.
use Rattle.std.proofs.Common.{Option, sym, ◌∙◌, ap, subst}
use Rattle.coord_phase.specs.Operations as phased
use Rattle.coord_recover.specs.Recoveries.{is_of_recovery}
use Rattle.scrub.specs.Scrubs as looks
use Rattle.node.specs.declared.operations.Operation.{Operation}
use Rattle.node.specs.Scrubs.{GoesOnFrom}
use Rattle.node.proofs.scrubs.OpenScrub.take_back.Goals as goal

pub returns-in-Some-clause-of : goal.returns-in-Some-clause-of
returns-in-Some-clause-of c = λ layout of.
    let look = c.args.self.now.scrub.look in
    let goes = subst (λ (o : Option Operation). GoesOnFrom look o) c.in-Some.is of.goes_on in
    let back = c.take_back.ensures in
    record {
      block = of.block;
      goes_on = (
        ap (λ (op : phased.Operation). op.block) back ∙ goes.0,
        ap (λ (op : phased.Operation). op.state.call.seq) back ∙ goes.1,
        ap (λ (op : phased.Operation). op.state.only) back ∙ goes.2,
        ap (λ (op : phased.Operation). is_of_recovery op.state.phase) back ∙ goes.3,
      );
    }

pub returns-in-None-clause-of : goal.returns-in-None-clause-of
returns-in-None-clause-of c = λ layout of.
    record {
      block = ap (λ (s : looks.Scrubbing). s.look.block) c.take_back-in-None.ensures ∙ of.block;
      goes_on = subst (λ (o : Option Operation). GoesOnFrom c.take_back-in-None.new.self.look o) (sym c.in-None.is) tt;
    }
