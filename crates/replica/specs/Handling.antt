-- What a call that handles a message promises of the store.
use Rattle.std.specs.Prelude.{◌≡◌, ℕ, Bool, true, false, Option, Some, None, List, Result, Ok, Err, IfOk, OnOk, OnErr}
use Rattle.std.specs.Option.{option_map}
use Rattle.fab_base.specs.declared.identities.BrickId.{BrickId}
use Rattle.fab_base.specs.Layouts.{Layout}
use Rattle.fab_disk.specs.declared.disk.Disk as on_disk
use Rattle.fab_disk.specs.Disk.{IsUntouched}
use Rattle.fab_disk.specs.Changing.{End, Whole, Cut, NotBegun, Stands, Change}
use Rattle.messages.specs.declared.replies.Reply.{Reply}
use Rattle.messages.specs.declared.replies.Reply.TheVariants.{Full}
use Rattle.frame_store.specs.declared.shapes.Shape.{Shape}
use Rattle.version_log.specs.Versions.{Version}
use Rattle.brick_state.specs.States.{StateOf, live}
use Rattle.brick_store.specs.declared.faults.StoreFault.{StoreFault}
use Rattle.brick_store.specs.declared.faults.StoreFault.TheVariants as faults
use Rattle.brick_store.specs.Bricks.{Brick, IsOrdered}
use Rattle.brick_store.specs.Calls.{Append, calls_for, IsListedAfter}
use Rattle.brick_store.specs.Images.{StandsFor}
use Rattle.brick_store.specs.Lengths.{ListsBy}
use Rattle.replica.specs.declared.faults.ReplicaFault.{ReplicaFault}
use Rattle.replica.specs.declared.faults.ReplicaFault.TheVariants.{Disk, Halted, NoMemory}
use Rattle.replica.specs.Parts.{part_in, learnt_in, ballots_in}

-- the brick that a store was made for
abbrev pub me_of : {D : Type 0} → Brick D → BrickId
me_of store = record { 0 = store.shape.me }

-- a store is halted once a call of it answered Disk
abbrev pub halted_after : {A : Type 0} → Bool → Result A ReplicaFault → Bool
halted_after halted (Err Disk) = true
halted_after halted (Err other) = halted
halted_after halted (Ok answer) = halted

-- how a call ended, by its answer: a fault of the disk cut it short, and any other came before the first call of the disk
abbrev pub end_of : {A : Type 0} → Result A ReplicaFault → End
end_of (Ok answer) = Whole
end_of (Err Disk) = Cut
end_of (Err fault) = NotBegun

-- the image opens as a state that may follow
abbrev pub StandsForNext : {A : Type 0} → Shape → (Option A → StateOf Version → Type 0) → List ℕ → Type 0
StandsForNext {A} shape Follows image = (st : StateOf Version) × (answer : Option A) × StandsFor shape st image × Follows answer st

-- What a store keeps is changed to a state that may follow, by one change of its disk.
abbrev pub NextChange : {D A : Type 0} → on_disk.Ghosts D → ℕ → Brick D → (Option A → StateOf Version → Type 0) → D → End → Type 0
NextChange d calls store Follows new end =
    Change d calls (StandsFor store.shape store.state) (StandsForNext store.shape Follows) store.disk new end

-- What a store keeps is changed so, by what is appended to its list.
pub record KeepsNext {D A : Type 0} (d : on_disk.Ghosts D) (append : Option Append) (Follows : Option A → StateOf Version → Type 0) (old new : Brick D)
    (end : End) : Type 0 where
  pub change : NextChange d (calls_for old.shape old.listed append) old Follows new.disk end
  pub listed : ListsBy end (IsListedAfter old.shape (live old.state) old.listed append) old.listed new.listed

-- The store runs, and its state stands on its disk.
pub record Runs {D : Type 0} (d : on_disk.Ghosts D) (store : Brick D) : Type 0 where
  pub runs : store.halted ≡ false
  pub stands : d.tells → Stands d (StandsFor store.shape store.state) store.disk
  pub ordered : IsOrdered store.shape.block store.state

-- what a brick of a layout keeps is as it was: the views that it has learnt, ballots, and the parts of all stripes
pub record KeepsAll (layout : Layout) (block : ℕ) (old new : StateOf Version) : Type 0 where
  pub learnt : (g : ℕ) → learnt_in layout new g ≡ learnt_in layout old g
  pub ballots : (g : ℕ) → ballots_in new g ≡ ballots_in old g
  pub parts : (g e s : ℕ) → part_in block new g e s ≡ part_in block old g e s

-- The call makes an answer and a state that follow, or is refused.
pub record Handles {D A : Type 0} (d : on_disk.Ghosts D) (Follows : Option A → StateOf Version → Type 0) (old new : Brick D)
    (result : Result (Option A) ReplicaFault) : Type 0 where
  pub ok : IfOk result (λ answer. Follows answer new.state)
  pub refused : OnErr result (new.state ≡ old.state)
  pub shape : new.shape ≡ old.shape
  -- while the store was not halted, its state stood on its disk
  pub stood : d.tells → old.halted ≡ false → Stands d (StandsFor old.shape old.state) old.disk
  -- after Ok the state of the store now stands on its disk
  pub stands : d.tells → OnOk result (Stands d (StandsFor new.shape new.state) new.disk)
  -- where what is kept is as it was, no call of the disk was made
  pub still : OnOk result ((layout : Layout) → KeepsAll layout old.shape.block old.state new.state → (new.state ≡ old.state)
      × IsUntouched d.seen d.may_leave d.moment d.left_since old.disk new.disk)
  pub halted : old.halted ≡ true → result ≡ Err Halted
  pub only_halted : result ≡ Err Halted → old.halted ≡ true
  pub halts : new.halted ≡ halted_after old.halted result

-- what a change's answer makes of the reply to be given, if there is one; no change of a running store answers the others
abbrev pub answered : Option Reply → Result (Unit {0}) StoreFault → Result (Option Reply) ReplicaFault
answered reply (Ok done) = Ok reply
answered reply (Err faults.Disk) = Err Disk
answered reply (Err (faults.Full live)) = Ok (Some (Full live))
answered reply (Err faults.Halted) = Err Halted
answered reply (Err faults.NoMemory) = Err NoMemory

-- a call that answers no message
abbrev pub unanswered : {A : Type 0} → Result (Unit {0}) ReplicaFault → Result (Option A) ReplicaFault
unanswered (Ok done) = Ok None
unanswered (Err fault) = Err fault

-- an answer, seen as another
abbrev pub seen_as : {A B : Type 0} → (A → B) → Result (Option A) ReplicaFault → Result (Option B) ReplicaFault
seen_as f (Ok answer) = Ok (option_map f answer)
seen_as f (Err fault) = Err fault
