-- The least slot whose count is 0 is the least that no version names.
use Rattle.brick_state.specs.Maps.{listed_in}
use Rattle.brick_state.proofs.Tallies.{least_free}
use Rattle.brick_state.proofs.stripe_tables.StripeTable.free_slot.Goals as goal

pub returns : goal.returns
returns c = least_free c.args.self.now.slots (listed_in c.args.self.now.views) c.args.self.now.counts c.first_free.result c.args.self.now.named c.args.self.now.beyond
    c.requires c.first_free.ensures
