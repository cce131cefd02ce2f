-- The clock and the times decide.
use Rattle.std.proofs.Common.{◌<◌, ℕ, nat_lt, Option, arith, subst}
use Rattle.std.specs.Bool.{Decides}
use Rattle.std.proofs.lemmas.Bool.Decides.{nat_tests}
use Rattle.fab_disk.specs.declared.mem_disk.MemDisk.{MemDisk}
use Rattle.node.specs.Running.{Running}
use Rattle.protocol.specs.Calms.{early}
use Rattle.world.specs.Shown.{NodeIsInTime, running_at}
use Rattle.world.proofs.calms.is_in_time.Goals as goal

pub returns-then-clock_of-lt-LATE : goal.returns-then-clock_of-lt-LATE
returns-then-clock_of-lt-LATE c =
    subst (λ (time : ℕ). Decides c.is_early.result (NodeIsInTime time (running_at c.args.bricks.now c.args.number))) c.clock_of.ensures
    (subst (λ (found : Option (Running MemDisk)). Decides c.is_early.result (NodeIsInTime c.clock_of.result found)) c.in-Some.ensures (
      λ on. (c.if-clock_of-lt-LATE.true, c.is_early.ensures.0 on),
      λ within. c.is_early.ensures.1 within.1,
    ))

pub returns-else-clock_of-lt-LATE : goal.returns-else-clock_of-lt-LATE
returns-else-clock_of-lt-LATE c =
    let time : ℕ = c.clock_of.result in
    subst (λ (clock : ℕ). Decides (nat_lt time early) (NodeIsInTime clock (running_at c.args.bricks.now c.args.number))) c.clock_of.ensures
    (subst (λ (found : Option (Running MemDisk)). Decides (nat_lt time early) (NodeIsInTime time found)) c.in-Some.ensures (
      λ on. absurd (let less : time < early = grind (arith, nat_tests, on) in omega (arith, less, c.if-clock_of-lt-LATE.false)),
      λ within. absurd (omega (arith, within.0, c.if-clock_of-lt-LATE.false)),
    ))
