-- The law of every layout within the limits.
use Rattle.layout.proofs.PlaceLaws.{one_to_one}
use Rattle.layout.proofs.layouts.Layout.place.Goals as goal

pub returns-clause-one_to_one : goal.returns-clause-one_to_one
returns-clause-one_to_one c = one_to_one c.args.self.now c.is_within_limits.ensures
