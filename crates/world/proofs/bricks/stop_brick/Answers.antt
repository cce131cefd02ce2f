-- The disk of the brick of the number is all that is left of it.
use Rattle.std.proofs.Common.{length, arith, refl, ap, ◌∙◌}
use Rattle.std.proofs.lemmas.Option.{slice_get_read}
use Rattle.world.specs.Shown.{disk_in}
use Rattle.world.specs.declared.bricks.Power.{Power}
use Rattle.world.specs.declared.bricks.Power.TheVariants.{Down}
use Rattle.world.proofs.bricks.stop_brick.Goals as goal

pub returns : goal.returns
returns c =
    let bricks = c.args.bricks.now.items in record {
      brick = c.index_mut-brick.result.now;
      at = slice_get_read bricks (length bricks) c.args.number.0 c.index_mut-brick.result.now refl (omega (arith, c.args.bricks.now.ok.0, c.requires))
          c.index_mut-brick.ensures.value;
      power = _;
      now = refl;
      holds = c.off.ensures ∙ ap (λ (power : Power). Down (disk_in power)) c.replace-power.ensures.value;
    }
