-- A change of a store's list of frames that was cut short.
use Rattle.std.proofs.Common.{◌≡◌, ℕ, List, refl}
use Rattle.fab_disk.specs.Disk.{StopsEarly}
use Rattle.frame_store.specs.declared.faults.FrameFault.{FrameFault}
use Rattle.frame_store.specs.declared.faults.FrameFault.TheVariants as frames
use Rattle.brick_store.specs.declared.faults.StoreFault.TheVariants.{Disk}
use Rattle.brick_store.specs.Bricks.{fault_of}
use Rattle.brick_store.proofs.Stepping.{refused}

-- a run that was cut short, in other words
pub stops_as : {D : Type 0} (seen certain : D → List ℕ) (moment : D → ℕ) (calls : ℕ) (old new : D) (P Q R S : List ℕ → Type 0)
    → ((image : List ℕ) → P image → R image) → ((image : List ℕ) → Q image → S image) → StopsEarly seen certain moment calls old new P Q
    → StopsEarly seen certain moment calls old new R S
stops_as seen certain moment calls old new P Q R S before after stops = record {
  clock = stops.clock;
  settled = before (certain new) stops.settled;
  early = λ is. before (seen new) (stops.early is);
  late = λ is. after (seen new) (stops.late is);
}

-- a fault of the list of frames that is seen as a failed disk is one
pub disk_meant : (fault : FrameFault) → refused (fault_of fault) ≡ refused Disk → fault ≡ frames.Disk
disk_meant frames.Disk is = refl
disk_meant frames.NoMemory is = absurd cc
disk_meant frames.Halted is = absurd cc
