-- The part is that of the view that was learnt.
use Rattle.std.proofs.Common.{◌≡◌, ◌∙◌, ℕ, ap, subst}
use Rattle.frame_store.specs.declared.shapes.Shape.{Shape}
use Rattle.brick_state.specs.States.{Place, stripe_at}
use Rattle.brick_store.specs.Blocks.{log_at}
use Rattle.protocol.specs.Nodes.{view_at}
use Rattle.protocol.specs.Replicas.{Replica}
use Rattle.replica.specs.Parts.{part_of, part_in, part_seen}
use Rattle.node.specs.Running.{Running, state_of}
use Rattle.node.proofs.nodes.Node.log.Goals as goal

pub returns : goal.returns
unfolding state_of
returns g c =
    let x = c.self.inside in
    let group = c.args.group.0 in
    let stripe = c.args.stripe.0 in
    let place : Place = (group, c.learnt_number-view.result.0, stripe) in
    let log = c.state.ensures.log ∙ ap (λ (shape : Shape). log_at shape.block x.store.state place) c.self.invariant.shape_is in
    let shown = λ (part : Replica). part_seen c.state.result part.from_start ≡ part in
    subst (λ (n : Running g.row.D.Denot). shown ((state_of n).replicas group (view_at (state_of n) group) stripe))
    c.self.view_is
    (subst (λ (view : ℕ). shown (part_in x.layout.block x.store.state group view stripe)) (c.learnt_number-view.ensures x.layout)
    (λ i. part_of (c.state.ensures.order i) (log i) (stripe_at x.store.state place).from_start))
