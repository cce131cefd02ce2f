-- What the frames and the index say is what a clause sees.
use Rattle.std.proofs.Common.{rules, ◌≡◌, Bool, false, refl, subst}
use Rattle.fab_disk.specs.Changing.{Stands}
use Rattle.frame_store.specs.Images.{OpensAs}
use Rattle.brick_state.specs.Indexes.{state_of}
use Rattle.brick_store.specs.Blocks.{cached}
use Rattle.brick_store.specs.Bricks.{Brick, IsOrdered}
use Rattle.brick_store.specs.Images.{StandsFor, IsListed, IsSlotted, limits_of}
use Rattle.brick_store.proofs.KeptLogs.{kept_ordered, standing_slotted, standing_stands}
use Rattle.brick_store.proofs.stores.BrickStore.is_halted.Goals as goal

pub returns : goal.returns
returns g c =
    let d = g.D.Disk in
    let x = c.self.inside in
    record {
      value = search rules;
      stands = subst (λ (b : Brick g.row.D.Denot). d.tells → b.halted ≡ false → Stands d (StandsFor b.shape b.state) b.disk) c.self.view_is
          (standing_stands d x.blocks x.zero x.frames x.index c.self.invariant);
      ordered = subst (λ (b : Brick g.row.D.Denot). IsOrdered b.shape.block b.state) c.self.view_is
          (kept_ordered x.frames.shape.block (cached x.frames.shape.block x.blocks) (limits_of x.frames.shape)
          (state_of x.index) c.self.invariant.indexed.kept);
      listed = subst (λ (b : Brick g.row.D.Denot). d.tells → b.halted ≡ false → IsListed b.shape b.listed (d.seen b.disk)) c.self.view_is
          (λ told runs.
          let on_disk = c.self.invariant.on_disk told runs in
          record {
            form = x.frames.shape.form;
            frames = x.frames.frames;
            opens = subst (λ (b : Bool). OpensAs x.frames.shape x.frames.frames b (d.seen x.frames.disk)) on_disk.closed on_disk.shows.opens;
            bytes = refl;
          });
      slotted = subst (λ (b : Brick g.row.D.Denot). d.tells → b.halted ≡ false → IsSlotted b.shape (d.seen b.disk)) c.self.view_is
          (standing_slotted d x.blocks x.zero x.frames x.index c.self.invariant);
    }
