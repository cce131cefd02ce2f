-- The copy of the layout is the layout.
use Rattle.std.proofs.Common.{refl, sym, subst}
use Rattle.fab_base.specs.Layouts.{Layout}
use Rattle.world.specs.Shown.{Rests, TurnsOn}
use Rattle.world.proofs.bricks.start_over.Goals as goal

pub open_over-requires : goal.open_over-requires
open_over-requires c = (
  c.requires.0,
  c.requires.1,
  subst (λ (l : Layout). Rests l c.args.me c.requires.0 c.requires.1 c.args.disk) (sym c.in-Ok.ensures) c.requires.2,
)

pub returns-in-Ok : goal.returns-in-Ok
returns-in-Ok c state after rests =
    subst (λ (l : Layout). TurnsOn l c.args.me state after c.args.disk c.args.fault c.open_over.result.0 c.open_over.result.1) c.in-Ok.ensures
    (c.open_over.ensures state after (subst (λ (l : Layout). Rests l c.args.me state after c.args.disk) (sym c.in-Ok.ensures) rests))

pub returns-in-Err : goal.returns-in-Err
returns-in-Err c state after rests = ((refl, rests), refl)
