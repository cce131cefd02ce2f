-- A slot is named where its count is not 0.
use Rattle.std.proofs.Common.{sym, ◌∙◌}
use Rattle.std.proofs.lemmas.Bool.{lt-ltb, ltb-true}
use Rattle.brick_state.specs.Maps.{listed_in}
use Rattle.brick_state.proofs.Tallies.{taken_named, named_taken}
use Rattle.brick_state.proofs.stripe_tables.StripeTable.is_named.Goals as goal

pub returns : goal.returns
returns c =
    let t = c.args.self.now in (
      λ is. taken_named t.slots (listed_in t.views) t.counts t.named t.beyond c.args.slot c.requires (ltb-true 0 _ (sym c.is_taken.ensures ∙ is)),
      λ there. c.is_taken.ensures ∙ lt-ltb 0 _ (named_taken t.slots (listed_in t.views) t.counts t.named t.beyond c.args.slot c.requires there),
    )
