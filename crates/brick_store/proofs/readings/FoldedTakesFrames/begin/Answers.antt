-- No frame was taken yet.
use Rattle.std.proofs.Common.{refl, ◌∙◌}
use Rattle.brick_state.specs.Indexes.{state_of, limits_of}
use Rattle.brick_store.proofs.OldReading.{begun}
use Rattle.brick_store.proofs.readings.FoldedTakesFrames.begin.Goals as goal

pub returns : goal.returns
returns c =
    let self = c.args.self.now in (
      refl,
      refl,
      begun c.args.old self.sizes.block self.sizes.records (limits_of c.in_ok-index.index) (state_of c.in_ok-index.index) c.in_ok-blocks.blocks
          (c.in_ok-index.ensures.limits ∙ c.most_numbers.ensures) c.in_ok-index.ensures.nothing,
    )
