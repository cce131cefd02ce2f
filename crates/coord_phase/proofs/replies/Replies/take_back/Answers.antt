-- The tally has the last reply's vote no more.
use Rattle.std.proofs.Common.{List, [], ◌∷◌, ◌++◌, sym, subst}
use Rattle.protocol.specs.declared.phases.Counted.{Counted}
use Rattle.quorum.specs.Tallies.{Votes}
use Rattle.coord_phase.specs.Tallies.{IsTallyOf}
use Rattle.coord_phase.proofs.TallyOf.{back_of, last_within}
use Rattle.coord_phase.proofs.replies.Replies.take_back.Goals as goal

pub invariant_of-self : goal.invariant_of-self
invariant_of-self c =
    let old = c.args.self.now in
    let left = c.pop.new.self.items in
    let last = c.in-Some.last in
    let is : IsTallyOf (left ++ (last ∷ [])) old.tally = subst (λ (replies : List Counted). IsTallyOf replies old.tally) c.in-Some.ensures.items old.tallied in
    record {
      tallied = subst (λ (votes : Votes). IsTallyOf left votes) (sym c.take_back.ensures.taken)
          (back_of left old.tally last is (last_within old.tally.n left last is.seats));
    }
