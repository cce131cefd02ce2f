-- One frame more of an old list is folded, up to the first that can't be.
use Rattle.std.proofs.Common.{◌∙◌}
use Rattle.frame_store.specs.Listed.{frame_of}
use Rattle.brick_state.specs.Indexes.{state_of}
use Rattle.brick_store.proofs.OldReading.{old_fold_more}
use Rattle.brick_store.proofs.readings.Folded.take_old.Goals as goal

pub returns-clause-makes : goal.returns-clause-makes
returns-clause-makes c = λ frames so_far.
    let self = c.args.self.now in
    let here = c.in_ok-self.ensures in (
      here.limits ∙ so_far.0,
      old_fold_more self.sizes.block self.sizes.records frames (frame_of c.args.kind c.args.body.now) (state_of self.index)
          (state_of c.take_old_frame.new.index) self.blocks c.take_old_frame.new.blocks c.in_ok-self.field-0 so_far.1 (here.takes so_far.1.kept so_far.1.held),
    )
