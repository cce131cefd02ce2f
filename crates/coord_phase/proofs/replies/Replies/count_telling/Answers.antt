-- The tally is that of the replies.
use Rattle.std.proofs.Common.{◌∙◌}
use Rattle.coord_phase.proofs.TallyOf.{tells_so}
use Rattle.coord_phase.proofs.replies.Replies.count_telling.Goals as goal

pub returns : goal.returns
returns c = c.with_stamp.ensures ∙ tells_so _ _ c.args.self.now.tallied c.args.version
