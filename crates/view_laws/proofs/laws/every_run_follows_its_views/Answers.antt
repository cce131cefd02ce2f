-- Every run follows its views.
use Rattle.view_laws.proofs.Followed.{every_run_follows}
use Rattle.view_laws.proofs.laws.every_run_follows_its_views.Goals as goal

pub returns : goal.returns
returns c = record { follows = every_run_follows }
