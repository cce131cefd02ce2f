-- The brick of the number starts where it is down and may.
use Rattle.std.proofs.Common.{◌<◌, length, arith, refl, sym, ◌∙◌, subst}
use Rattle.world.specs.Shown.{ShowsPower}
use Rattle.world.specs.declared.bricks.Power.{Power}
use Rattle.world.specs.declared.bricks.Power.TheVariants.{Up}
use Rattle.world.proofs.BrickListLemmas.{node_at}
use Rattle.world.proofs.StartLemmas.{turned}
use Rattle.world.proofs.bricks.start_brick.Goals as goal

pub start_over-power-requires : goal.start_over-power-requires
start_over-power-requires c =
    let within : c.args.number.0 < length c.args.bricks.now.items = omega (arith, c.args.bricks.now.ok.0, c.requires.brick) in
    let one = node_at c.args.layout.now c.args.bricks.now.items c.args.number.0 c.index_mut-brick.result.now within c.index_mut-brick.ensures.value c.requires.nodes in (
      one.state,
      one.after,
      (subst (λ (power : Power). ShowsPower c.args.layout.now c.args.number one.state one.after one.up power) (sym c.replace.ensures.value ∙ c.in-Down.is) one.shows).1,
    )

pub returns-in-Up : goal.returns-in-Up
returns-in-Up c =
    let within : c.args.number.0 < length c.args.bricks.now.items = omega (arith, c.args.bricks.now.ok.0, c.requires.brick) in
    turned c.args.layout.now c.args.bricks.now.items c.args.number c.index_mut-brick.result.now _ (Up c.in-Up.node) c.args.fault _ within
    c.index_mut-brick.ensures.value (sym c.replace.ensures.value ∙ c.in-Up.is) (refl, refl)

pub returns-in-Down : goal.returns-in-Down
returns-in-Down c =
    let within : c.args.number.0 < length c.args.bricks.now.items = omega (arith, c.args.bricks.now.ok.0, c.requires.brick) in
    turned c.args.layout.now c.args.bricks.now.items c.args.number c.index_mut-brick.result.now _ c.start_over-power.result.0 c.args.fault
    c.start_over-power.result.1 within c.index_mut-brick.ensures.value (sym c.replace.ensures.value ∙ c.in-Down.is) c.start_over-power.ensures
