-- A store of the old format that was just made keeps what a brick keeps that was not started yet.
use Rattle.std.proofs.Common.{refl}
use Rattle.world.proofs.BrickLemmas.{empty_shows}
use Rattle.world.proofs.bricks.old_disk.Goals as goal

pub returns-in-Ok-clause-kept : goal.returns-in-Ok-clause-kept
returns-in-Ok-clause-kept c =
    let made = c.in-Ok.ensures.change.whole refl tt in (
      record {
        only = made.only;
        has = empty_shows c.args.layout.now c.args.me c.block.result c.records.result _ c.block.ensures c.records.ensures.value made.has;
      },
      c.format_one.ensures.change.cause.stays c.new-disk.ensures.sound,
    )
