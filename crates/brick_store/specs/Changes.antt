-- What a change of a brick's store answers.
use Rattle.std.specs.Prelude.{ℕ, Bool, Result, OnOk, OnErr}
use Rattle.version_log.specs.Versions.{Version}
use Rattle.brick_state.specs.States.{StateOf, live}
use Rattle.brick_store.specs.declared.faults.StoreFault.{StoreFault}
use Rattle.brick_store.specs.Bricks.{Brick, Keeps, IsAnswer}
use Rattle.brick_store.specs.Calls.{has_room_for}
use Rattle.brick_store.specs.Ends.{end_of}
use Rattle.brick_store.specs.Lengths.{IsAppended, ListsBy}

-- The call made a change to this state, or refused it and keeps what it kept; `adds` says whether the change adds a live record. It appended a record with a
-- body of so many bytes, or left the list as long as it was.
pub record Answers {D : Type 0} (old new : Brick D) (after : StateOf Version) (body : ℕ) (adds : Bool) (result : Result (Unit {0}) StoreFault)
    : Type 0 where
  pub ok : OnOk result (Keeps after old new)
  pub refused : OnErr result (Keeps old.state old new)
  pub listed : ListsBy (end_of result) (IsAppended (has_room_for old.shape old.listed body) (live old.state) old.listed body) old.listed new.listed
  pub answer : IsAnswer old.shape.records (live old.state) adds old.halted new.halted result
