-- A slot that is named has a count.
use Rattle.std.proofs.Common.{arith}
use Rattle.brick_state.specs.Maps.{listed_in}
use Rattle.brick_state.proofs.Tallies.{named_within}
use Rattle.brick_state.proofs.stripe_tables.StripeTable.named_end.Goals as goal

pub returns-clause-named : goal.returns-clause-named
returns-clause-named c = λ slot is_slot there.
    let t = c.args.self.now in
    omega (arith, is_slot, c.min.ensures, c.len.ensures.value, named_within t.slots (listed_in t.views) t.counts t.named t.beyond slot is_slot there)
