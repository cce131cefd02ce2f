-- The range has the stripes of the group.
use Rattle.world.proofs.StripeRanges.{none_between, first_between}
use Rattle.world.proofs.stripe_entries.StripeEntries.next_stripe.Goals as goal

pub returns-in-None-clause-none : goal.returns-in-None-clause-none
returns-in-None-clause-none c =
    none_between c.args.self.now.entries c.args.group.0 c.args.from c.args.end c.range.result (c.range.ensures.in_range tt) c.in-None.ensures.steps.0

pub returns-in-Some-clause-some : goal.returns-in-Some-clause-some
returns-in-Some-clause-some c =
    first_between c.args.self.now.entries c.args.group.0 c.args.from c.args.end c.range.result (c.range.ensures.in_range tt) _ _ c.in-Some.ensures.steps
