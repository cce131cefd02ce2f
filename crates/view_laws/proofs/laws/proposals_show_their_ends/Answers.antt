-- Each end of a proposal shows its cause.
use Rattle.view_laws.proofs.Ended.{bad_members_end}
use Rattle.view_laws.proofs.Named.{every_proposal_shows}
use Rattle.view_laws.proofs.laws.proposals_show_their_ends.Goals as goal

pub returns : goal.returns
returns c = record { shows = every_proposal_shows; at_once = bad_members_end }
