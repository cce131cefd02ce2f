-- The record of an order stamp.
use Rattle.std.proofs.Common.{sym, ap, ◌∙◌}
use Rattle.version_log.specs.Versions.{Version}
use Rattle.brick_state.specs.States.{StripeOf, stripe_at}
use Rattle.brick_state.specs.Folds.{place}
use Rattle.brick_state.specs.Indexes.{state_of}
use Rattle.brick_store.specs.Blocks.{cached, adds_stamp}
use Rattle.brick_store.specs.Bricks.{Brick}
use Rattle.brick_store.proofs.Resolving.{stripe_at-resolved}
use Rattle.brick_store.proofs.stores.BrickStore.set_order.Goals as goal

pub change-requires-clause-adds : goal.change-requires-clause-adds
change-requires-clause-adds g c =
    let x = c.self.inside in
    let p = place c.args.group c.args.view c.args.stripe in
    c.adds_stamp-adds.ensures
    ∙ ap (adds_stamp c.args.stamp) (c.order.ensures
    ∙ sym (ap (λ (s : StripeOf Version). s.order) (stripe_at-resolved (cached x.frames.shape.block x.blocks) (state_of x.index) p)))
    ∙ ap (λ (b : Brick g.row.D.Denot). adds_stamp c.args.stamp (stripe_at b.state p).order) c.self.view_is
