-- The stripes that are passed over add nothing.
use Rattle.std.proofs.Common.{List, ℕ, ◌++◌, arith, sym, ap, ap₂, ◌∙◌}
use Rattle.world.specs.Runs.{world_of}
use Rattle.protocol.specs.Worlds.{World}
use Rattle.printed.specs.Outputs.{happened_text}
use Rattle.replay.proofs.StripeTexts.{stripes_text-more, stripes_text-up_to}
use Rattle.replay.proofs.texts.stripes_text.Goals as goal

pub loop-stripe-preserved : goal.loop-stripe-preserved
loop-stripe-preserved c =
    let w : World = world_of c.args.world.now in
    let g = c.args.group.0 in
    let s = c.in-Some.stripe.0 in
    let found = c.in-Some.ensures.some in (
      omega (arith, found.1),
      c.in_ok-push_str.ensures.bytes
          ∙ ap₂ (λ (a b : List ℕ). a ++ b) (c.loop-stripe.invariant.1 ∙ sym (stripes_text-up_to w g c.loop-stripe.next s found.0 found.2))
          (c.as_str.ensures.value ∙ c.in_ok-line.ensures ∙ ap (happened_text g s) (c.as_slice.ensures.value ∙ c.in_ok-happenings.ensures))
          ∙ sym (stripes_text-more w g s),
    )

pub returns : goal.returns
returns c =
    c.loop-stripe.invariant.1
    ∙ sym (stripes_text-up_to (world_of c.args.world.now) c.args.group.0 c.loop-stripe.next c.args.stripes c.loop-stripe.invariant.0 c.in_default.ensures.none)
