-- The sizes of such a list.
use Rattle.quorum.proofs.MembershipSizes.{have_quorums}
use Rattle.quorum.proofs.memberships.memberships_have_quorums.Goals as goal

pub returns : goal.returns
returns c = have_quorums
