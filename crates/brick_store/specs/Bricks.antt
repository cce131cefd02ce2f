-- What a clause sees of a brick's store, and of the answers of its calls.
use Rattle.std.specs.Prelude.{◌≡◌, ℕ, Bool, true, false, Result, Ok, Err, length}
use Rattle.std.specs.List.Sorted.{IsStrictlySortedBy}
use Rattle.std.specs.Map.{keys_of}
use Rattle.version_log.specs.Versions.{Version, IsRising}
use Rattle.frame_store.specs.declared.faults.FrameFault.{FrameFault}
use Rattle.frame_store.specs.declared.faults.FrameFault.TheVariants as frames
use Rattle.frame_store.specs.declared.faults.OpenFault.{OpenFault as ListFault}
use Rattle.frame_store.specs.declared.faults.OpenFault.TheVariants as lists
use Rattle.frame_store.specs.declared.shapes.Shape.{Shape}
use Rattle.brick_state.specs.States.{Place, StateOf, place_cmp}
use Rattle.brick_store.specs.declared.faults.StoreFault.{StoreFault}
use Rattle.brick_store.specs.Blocks.{log_at}
use Rattle.brick_store.specs.declared.faults.StoreFault.TheVariants.{Disk, Full, Halted, NoMemory}
use Rattle.brick_store.specs.declared.faults.OpenFault.{OpenFault}
use Rattle.brick_store.specs.declared.faults.OpenFault.TheVariants as opens

-- a store over a disk: what it was made for, what it keeps, how many bytes its list of frames takes, and whether a call of it
-- answered Disk
pub record Brick (D : Type 0) : Type 0 where
  pub disk : D
  pub shape : Shape
  pub state : StateOf Version
  pub listed : ℕ
  pub halted : Bool

-- what a store keeps: 64 groups, stripes in the order of their places, and logs whose stamps rise
pub record IsOrdered (block : ℕ) (st : StateOf Version) : Type 0 where
  pub groups : length st.groups ≡ 64
  pub sorted : IsStrictlySortedBy place_cmp (keys_of st.stripes)
  pub rising : (p : Place) → IsRising (log_at block st p)

-- the store keeps this now
pub record Keeps {D : Type 0} (st : StateOf Version) (old new : Brick D) : Type 0 where
  pub shape : new.shape ≡ old.shape
  pub state : new.state ≡ st

-- a store is halted once a call of it answered Disk
abbrev pub halted_after : Bool → Result (Unit {0}) StoreFault → Bool
halted_after halted (Err Disk) = true
halted_after halted (Err other) = halted
halted_after halted (Ok value) = halted

-- The answers of a change: Halted exactly where the store was halted, Full exactly where it was not, the change adds a record
-- and there are as many as there may be, and then with their number.
pub record IsAnswer (records live_before : ℕ) (adds : Bool) (halted halted_now : Bool) (result : Result (Unit {0}) StoreFault) : Type 0 where
  pub refused : halted ≡ true → result ≡ Err Halted
  pub only_then : result ≡ Err Halted → halted ≡ true
  pub full : halted ≡ false → adds ≡ true → live_before ≡ records → result ≡ Err (Full live_before)
  pub only_full : (n : ℕ) → result ≡ Err (Full n) → (halted ≡ false) × (adds ≡ true) × (live_before ≡ records) × (n ≡ live_before)
  pub halts : halted_now ≡ halted_after halted result

-- a fault of the list of frames is one of the store
abbrev pub fault_of : FrameFault → StoreFault
fault_of frames.Disk = Disk
fault_of frames.Halted = Halted
fault_of frames.NoMemory = NoMemory

-- a fault of the opening of the list is one of the store's, and so is one of a reading or a change that the opening makes
abbrev pub open_fault_of : ListFault → OpenFault
open_fault_of lists.Disk = opens.Disk
open_fault_of lists.NotAStore = opens.NotAStore
open_fault_of lists.NoMemory = opens.NoMemory

abbrev pub read_fault_of : FrameFault → OpenFault
read_fault_of frames.Disk = opens.Disk
read_fault_of frames.Halted = opens.Disk
read_fault_of frames.NoMemory = opens.NoMemory

abbrev pub start_fault_of : StoreFault → OpenFault
start_fault_of Disk = opens.Disk
start_fault_of fault = opens.NoMemory
