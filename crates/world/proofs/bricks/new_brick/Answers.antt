-- A fresh store was not opened yet, and is opened once.
use Rattle.world.specs.Shown.{unopened}
use Rattle.world.proofs.FreshLemmas.{rests_fresh, fresh_made}
use Rattle.world.proofs.bricks.new_brick.Goals as goal

pub start_over-power-requires : goal.start_over-power-requires
start_over-power-requires c = (
  unopened c.args.layout.now,
  unopened c.args.layout.now,
  rests_fresh c.args.layout.now c.args.me c.in_ok-disk.disk c.in_ok-disk.ensures.kept.0 c.in_ok-disk.ensures.kept.1,
)

pub returns : goal.returns
returns c =
    fresh_made c.args.layout.now c.args.me c.in_ok-disk.disk c.start_over-power.result.0 c.start_over-power.result.1 c.with_clock.result
    c.requires c.in_ok-disk.ensures.kept.0 c.in_ok-disk.ensures.empty
    (c.start_over-power.ensures (unopened c.args.layout.now) (unopened c.args.layout.now)
    (rests_fresh c.args.layout.now c.args.me c.in_ok-disk.disk c.in_ok-disk.ensures.kept.0 c.in_ok-disk.ensures.kept.1)) c.with_clock.ensures
