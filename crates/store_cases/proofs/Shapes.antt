-- What these programs cite of a change's promises.
use Rattle.std.proofs.Common.{◌≡◌, ℕ, Bool, List, Option, Some, None, Result, Ok, Err, refl}
use Rattle.std.specs.Option.{IsSome, option_map}
use Rattle.std.specs.Result.{OnOk, OnErr}
use Rattle.version_log.specs.Versions.{Version, block_of}
use Rattle.brick_state.specs.States.{StateOf}
use Rattle.brick_store.specs.declared.faults.StoreFault.{StoreFault}
use Rattle.brick_store.specs.Bricks.{Brick, Keeps}
use Rattle.brick_store.specs.Changes.{Answers}

of_answer : {D : Type 0} (before after : StateOf Version) (old new : Brick D) (result : Result (Unit {0}) StoreFault)
    → OnOk result (Keeps after old new) → OnErr result (Keeps before old new) → new.shape ≡ old.shape
of_answer before after old new (Ok u) ok refused = ok.shape
of_answer before after old new (Err e) ok refused = refused.shape

-- a change keeps what a store was made for, also where it was refused
pub same_shape : {D : Type 0} {old new : Brick D} {after : StateOf Version} {body : ℕ} {adds : Bool} {result : Result (Unit {0}) StoreFault}
    → Answers old new after body adds result → new.shape ≡ old.shape
same_shape {old = old} {new = new} {after = after} {result = result} made =
    of_answer old.state after old new result made.ok made.refused

-- a block was found, so its version is there
pub found : (block : List ℕ) (o : Option Version) → Some block ≡ option_map block_of o → IsSome o
found block None e = cc
found block (Some v) e = refl
