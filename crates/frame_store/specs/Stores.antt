-- What a clause sees of a store.
use Rattle.std.specs.Prelude.{◌≡◌, ℕ, ◌+◌, ◌*◌, ◌≤◌, min, max, if◌then◌else◌, Bool, true, false, List, length, Result, Ok, Err}
use Rattle.frame_store.specs.declared.faults.FrameFault.{FrameFault}
use Rattle.frame_store.specs.declared.faults.FrameFault.TheVariants.{Disk, Halted}
use Rattle.frame_store.specs.declared.frames.Frame.{Frame}
use Rattle.frame_store.specs.declared.shapes.Shape.{Shape}
use Rattle.frame_store.specs.declared.shapes.Form.TheVariants.{Moved}
use Rattle.frame_store.specs.Layouts.{formed, is_old, store_end}
use Rattle.frame_store.specs.Listed.{size_of}
use Rattle.frame_store.specs.Images.{OpensAs}

-- room in memory, for the bytes of a write
pub record Room : Type 0 where
  pub line : ℕ

-- A store over a disk: what it was made for, its frames, whether a closed gate stands after the last of them, how long the
-- file is, and whether a call of it answered Disk.
pub record Held (D : Type 0) : Type 0 where
  pub disk : D
  pub shape : Shape
  pub frames : List Frame
  pub closed : Bool
  pub size : ℕ
  pub halted : Bool
  pub room : Room

-- while the store is not halted, what a read of the disk gives opens as its frames
pub record Shows {D : Type 0} (seen : D → List ℕ) (store : Held D) : Type 0 where
  pub opens : OpensAs store.shape store.frames store.closed (seen store.disk)
  pub size : length (seen store.disk) ≡ store.size

abbrev pub IsRead : {D : Type 0} → Type 0 → (D → List ℕ) → Held D → Type 0
IsRead tells seen store = tells → store.halted ≡ false → Shows seen store

-- the same store, but for the disk, the room, and whether it is halted
pub record IsSame {D : Type 0} (old new : Held D) : Type 0 where
  pub shape : new.shape ≡ old.shape
  pub frames : new.frames ≡ old.frames
  pub closed : new.closed ≡ old.closed
  pub size : new.size ≡ old.size

-- the store now has these frames and a closed gate after them
pub record HasNow {D : Type 0} (listed : List Frame) (old new : Held D) : Type 0 where
  pub shape : new.shape ≡ old.shape
  pub frames : new.frames ≡ listed
  pub closed : new.closed ≡ true
  pub size : old.size ≤ new.size

-- an old store was brought over: it has these frames now, and a closed gate after them
pub record HasCome {D : Type 0} (listed : List Frame) (old new : Held D) : Type 0 where
  pub shape : new.shape ≡ formed Moved old.shape
  pub frames : new.frames ≡ listed
  pub closed : new.closed ≡ true
  pub size : old.size ≤ new.size

-- a store is halted once a call of it answered Disk
abbrev pub halted_after : {T : Type 0} → Bool → Result T FrameFault → Bool
halted_after halted (Err Disk) = true
halted_after halted (Err other) = halted
halted_after halted (Ok value) = halted

-- the call answers Halted exactly where the store was halted
pub record IsAnswer {T : Type 0} (halted halted_now : Bool) (result : Result T FrameFault) : Type 0 where
  pub refused : halted ≡ true → result ≡ Err Halted
  pub only_then : result ≡ Err Halted → halted ≡ true
  pub halts : halted_now ≡ halted_after halted result

-- room for so many calls of the disk, with so many bytes in all, and in memory for so many bytes of a write
pub record HasRoom {D : Type 0} (has_room : D → ℕ → ℕ → ℕ → Type 0) (store : Held D) (calls bytes written : ℕ) : Type 0 where
  pub disk : has_room store.disk calls bytes (store_end store.shape)
  pub line : written ≤ store.room.line

-- how many calls a sync, a list in the place of the one that is there, and an append with a block make; an old store is brought over in the list's place
abbrev pub calls_ahead : Shape → ℕ
calls_ahead shape = if is_old shape then 14 else 13

-- the bytes of the blocks that are written with so many frames as an old store is brought over: as many blocks as frames, and no more than slots
abbrev pub blocks_ahead : Shape → ℕ → ℕ
blocks_ahead shape frames = if is_old shape then (min frames shape.records * shape.block) else 0

-- room for all of them, for this list and a body of this length
abbrev pub HasRoomAhead : {D : Type 0} → (D → ℕ → ℕ → ℕ → Type 0) → Held D → List Frame → ℕ → Type 0
HasRoomAhead has_room store frames body =
    HasRoom has_room store (calls_ahead store.shape)
    (blocks_ahead store.shape (length frames) + (size_of frames + 34) + (store.shape.block + body + 7)) (max (size_of frames + 1) (body + 6))
