-- The replies agree where their tally is unanimous.
use Rattle.quorum.specs.Tallies.{IsUnanimous}
use Rattle.coord_phase.specs.Tallies.{IsAgreed}
use Rattle.coord_phase.proofs.TallyOf.{agreed_of, unanimous_of, answers_both}
use Rattle.coord_phase.proofs.replies.Replies.agreed.Goals as goal

pub returns : goal.returns
returns c =
    let replies = c.args.self.now in
    answers_both (IsUnanimous replies.tally) (IsAgreed replies.list.items) c.agreed.result (agreed_of _ _ replies.tallied) (unanimous_of _ _ replies.tallied)
    c.agreed.ensures
