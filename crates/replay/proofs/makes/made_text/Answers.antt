-- The run begins on a fresh disk, and is summed up by what it left.
use Rattle.std.proofs.Common.{◌≡◌, [], subst}
use Rattle.fab_base.specs.Layouts.{Layout}
use Rattle.replay.proofs.DrawnSteps.{sums_up}
use Rattle.replay.proofs.makes.made_text.Goals as goal

pub returns : goal.returns
returns c =
    sums_up c.args.seed c.args.lines c.in_ok-world.world c.run_made.new.world _ c.requires
    (subst (λ (layout : Layout). c.in_ok-world.world ≡ record { layout = layout; steps = []; disks = c.in_ok-world.world.disks }) c.in_ok-layout.ensures
    c.in_ok-world.ensures.first)
    (c.in_ok-world.ensures.disks, c.in_ok-world.ensures.fresh) c.in_ok-run_made.ensures c.in_ok-text.ensures.told c.in_ok-text.ensures.text
