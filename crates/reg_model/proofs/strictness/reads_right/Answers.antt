-- What a life that was found asks fits the registers.
use Rattle.std.proofs.Common.{◌≡◌, ◌*◌, length, sym, subst, arith}
use Rattle.reg_model.proofs.Fits.{LifeFits, life_of-fits}
use Rattle.reg_model.proofs.strictness.reads_right.Goals as goal

pub is_read_right-requires : goal.is_read_right-requires
is_read_right-requires c =
    let room : length c.loop-happening.scratch ≡ c.args.m * c.args.block = omega arith in (
      c.args.m,
      room,
      subst (LifeFits c.args.m c.args.block) (sym c.in-Some.ensures) (life_of-fits c.args.m c.args.block c.args.marks.now _ c.requires.fits),
    )

pub apply-requires : goal.apply-requires
apply-requires c =
    let room : length c.loop-happening.scratch ≡ c.args.m * c.args.block = omega arith in (
      c.args.m,
      room,
      subst (LifeFits c.args.m c.args.block) (sym c.in-Some.ensures) (life_of-fits c.args.m c.args.block c.args.marks.now _ c.requires.fits),
    )
