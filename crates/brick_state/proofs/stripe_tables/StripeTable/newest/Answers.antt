-- A slot that a version names has a count.
use Rattle.std.proofs.Common.{ap, sym, ◌∙◌}
use Rattle.brick_state.specs.States.{newest_entry}
use Rattle.brick_state.specs.Maps.{listed_in}
use Rattle.brick_state.proofs.Tallies.{newest_counted}
use Rattle.brick_state.proofs.stripe_tables.StripeTable.newest.Goals as goal

pub returns-in-Some-clause-counted : goal.returns-in-Some-clause-counted
returns-in-Some-clause-counted c =
    let t = c.args.self.now in
    newest_counted t.slots (listed_in t.views) t.counts c.args.place t.few c.find.ensures.sorted t.beyond c.newest.result
    (c.newest.ensures ∙ ap newest_entry (sym c.in-Some.ensures.some))
