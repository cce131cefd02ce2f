-- What the answers of a brick's steps say.
use Rattle.std.specs.Prelude.{◌≡◌, ◌≢◌, Bool, true, false, Option, Some, None, Result, Ok, Err}
use Rattle.fab_base.specs.declared.answers.Refusal.{Refusal}
use Rattle.replica.specs.declared.faults.ReplicaFault.{ReplicaFault}
use Rattle.replica.specs.declared.faults.ReplicaFault.TheVariants as replica
use Rattle.node.specs.declared.faults.NodeFault.{NodeFault}
use Rattle.node.specs.declared.faults.NodeFault.TheVariants.{Halted, Refused, Disk, NoMemory}

-- a fault of handling a request is one of the brick
abbrev pub fault_of : ReplicaFault → NodeFault
fault_of replica.Disk = Disk
fault_of replica.Halted = Halted
fault_of replica.NoMemory = NoMemory

-- a brick is halted once a call of it answered Disk
abbrev pub halted_after : {T : Type 0} → Bool → Result T NodeFault → Bool
halted_after halted (Err Disk) = true
halted_after halted (Err other) = halted
halted_after halted (Ok value) = halted

-- The answer of a step of a brick that runs: it is neither Halted nor a refusal, and the brick halts where it is Disk and nowhere else.
pub record IsAnswerWhileRunning {T : Type 0} (halted_now : Bool) (result : Result T NodeFault) : Type 0 where
  pub not_halted : result ≢ Err Halted
  pub halts : halted_now ≡ halted_after false result
  pub not_refused : (reason : Refusal) → result ≢ Err (Refused reason)

-- a refusal is the machine's, and there is none where the operation begins, or memory is refused
abbrev pub RefusesAs : {T : Type 0} → Result T NodeFault → Option Refusal → Type 0
RefusesAs (Ok begun) refusal = refusal ≡ None
RefusesAs (Err (Refused reason)) refusal = refusal ≡ Some reason
RefusesAs (Err NoMemory) refusal = refusal ≡ None
RefusesAs (Err other) refusal = Unit {0}
