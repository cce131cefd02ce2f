-- The tally is that of the replies.
use Rattle.std.proofs.Common.{◌∙◌}
use Rattle.coord_phase.proofs.TallyOf.{has_so}
use Rattle.coord_phase.proofs.replies.Replies.has_reply.Goals as goal

pub returns : goal.returns
returns c = c.is_counted.ensures ∙ has_so _ _ c.args.self.now.tallied c.args.seat c.requires
