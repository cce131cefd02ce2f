-- The stripes that are passed over add nothing.
use Rattle.std.proofs.Common.{List, ◌++◌, arith, sym, ap₂, ◌∙◌}
use Rattle.reg_model.specs.declared.marks.Happening.{Happening}
use Rattle.world.specs.Runs.{world_of}
use Rattle.protocol.specs.Worlds.{World}
use Rattle.replay.proofs.HappeningLists.{happenings_to-more, happenings_to-up_to}
use Rattle.replay.proofs.makes.stripes_happenings.Goals as goal

pub loop-stripe-preserved : goal.loop-stripe-preserved
loop-stripe-preserved c =
    let w : World = world_of c.args.world.now in
    let g = c.args.group.0 in
    let s = c.in-Some.stripe.0 in
    let found = c.in-Some.ensures.some in (
      omega (arith, found.1),
      c.in_ok-extend_from_slice.ensures.items
          ∙ ap₂ (λ (a b : List Happening). a ++ b) (c.loop-stripe.invariant.1 ∙ sym (happenings_to-up_to w g c.loop-stripe.next s found.0 found.2))
          (c.as_slice.ensures.value ∙ c.in_ok-happenings.ensures)
          ∙ sym (happenings_to-more w g s),
    )

pub returns : goal.returns
returns c =
    c.loop-stripe.invariant.1
    ∙ sym (happenings_to-up_to (world_of c.args.world.now) c.args.group.0 c.loop-stripe.next c.args.stripes c.loop-stripe.invariant.0 c.in_default.ensures.none)
