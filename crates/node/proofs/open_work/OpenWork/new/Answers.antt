-- Nothing is under way.
use Rattle.std.proofs.Common.{Option, sym, subst}
use Rattle.node.specs.declared.proposals.OpenProposal.{OpenProposal}
use Rattle.node.specs.Proposals.{IsUnderWayOn}
use Rattle.node.proofs.open_work.OpenWork.new.Goals as goal

pub returns-clause-of : goal.returns-clause-of
returns-clause-of c = λ layout.
    record {
      calls = c.new.ensures.calls layout;
      proposing = subst (λ (held : Option OpenProposal). IsUnderWayOn layout.bricks held) (sym c.new-2.ensures.under_way) tt;
    }
