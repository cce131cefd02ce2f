-- A view that is followed is said to be synced.
use Rattle.view_laws.proofs.SyncedViews.{syncs_are_said}
use Rattle.view_laws.proofs.laws.a_followed_view_is_said_synced.Goals as goal

pub returns : goal.returns
returns c = syncs_are_said
