use Rattle.std.proofs.Common.{◌≡◌, ◌<◌, ℕ, false}
use Rattle.std.specs.List.{Contains}
use Rattle.fab_disk.specs.Disk.{IsUntouched, Kept}
use Rattle.fab_disk.specs.Plan.{KeepsPlan}
use Rattle.frame_store.specs.Stores.{IsSame}
use Rattle.brick_state.specs.Indexes.{state_of}
use Rattle.brick_state.specs.Slots.{slots_of}
use Rattle.brick_store.specs.Openings.{IsHeld, AreRead}
use Rattle.brick_store.proofs.caches.read_blocks.Given as goal

abbrev pub invariant-loop-slot : goal.invariant-loop-slot
invariant-loop-slot g l = record {
  held : (slot : ℕ) → slot < l.slot → Contains (slots_of (state_of l.index)) slot → IsHeld l.blocks slot;
  read : AreRead g.D.Disk.tells l.fn.frames.shape l.fn.frames.size (g.D.Disk.seen l.fn.frames.disk) l.blocks;
  same : IsSame l.fn.frames l.frames;
  untouched : IsUntouched g.D.Disk.seen g.D.Disk.may_leave g.D.Disk.moment g.D.Disk.left_since l.fn.frames.disk l.frames.disk;
  certain : g.D.Disk.certain l.frames.disk ≡ g.D.Disk.certain l.fn.frames.disk;
  runs : l.frames.halted ≡ false;
  plan : KeepsPlan g.D.Disk.plan g.D.Disk.unlisted l.fn.frames.disk l.frames.disk ⊥;
  cause : Kept (g.D.Disk.faults l.fn.frames.disk) (g.D.Disk.faults l.frames.disk) (g.D.Disk.sound l.fn.frames.disk) (g.D.Disk.sound l.frames.disk) ⊥;
}
