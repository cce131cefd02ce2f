-- The disk that is given back stands for what the store kept, where it is not halted.
use Rattle.std.proofs.Common.{◌≡◌, false, sym, subst}
use Rattle.fab_disk.specs.Changing.{Stands}
use Rattle.frame_store.specs.declared.shapes.Form.TheVariants.{New}
use Rattle.frame_store.specs.Layouts.{formed}
use Rattle.brick_store.specs.Images.{StandsFor}
use Rattle.brick_state.specs.Indexes.{state_of}
use Rattle.brick_store.specs.Blocks.{cached, resolved}
use Rattle.brick_store.proofs.KeptLogs.{standing_stands}
use Rattle.brick_store.proofs.stores.BrickStore.into_disk.Goals as goal

pub returns-clause-stands : goal.returns-clause-stands
returns-clause-stands g c = λ told.
    let d = g.D.Disk in
    let store = c.self.inside in
    subst (λ b. b.halted ≡ false → Stands d (StandsFor b.shape b.state) c.into_disk.result) c.self.view_is
    (subst (λ disk. store.frames.halted ≡ false → Stands d (StandsFor (formed New store.frames.shape)
    (resolved (cached store.frames.shape.block store.blocks) (state_of store.index))) disk)
    (sym c.into_disk.ensures) (standing_stands d store.blocks store.zero store.frames store.index c.self.invariant told))
