-- The law of uses, at these sources.
use Rattle.stamp_store.proofs.Uses.{times_rise, never_the_same}
use Rattle.stamp_store.proofs.stamp_sources.stamps_differ.Goals as goal

pub returns-clause-rise : goal.returns-clause-rise
returns-clause-rise c = times_rise c.args.source

pub returns-clause-over_boots : goal.returns-clause-over_boots
returns-clause-over_boots c = λ other. never_the_same c.args.source c.args.other other
