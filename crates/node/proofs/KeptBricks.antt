-- A brick whose work went on, and whose store is as it was or has learnt a view, is one of its layout; and how a fault halts it, and is answered.
use Rattle.std.proofs.Common.{◌≡◌, ◌≢◌, Bool, false, Option, Result, Ok, Err, refl, sym, ◌∙◌, ap, subst}
use Rattle.fab_base.specs.declared.answers.Refusal.{Refusal}
use Rattle.fab_base.specs.declared.identities.BrickId.{BrickId}
use Rattle.fab_base.specs.Layouts.{Layout}
use Rattle.messages.specs.declared.packets.Message.{Message}
use Rattle.version_log.specs.Versions.{Version}
use Rattle.brick_state.specs.States.{StateOf}
use Rattle.brick_store.specs.Bricks.{Brick}
use Rattle.replica.specs.declared.faults.ReplicaFault.{ReplicaFault}
use Rattle.replica.specs.declared.faults.ReplicaFault.TheVariants as replica
use Rattle.replica.specs.Handling as handling
use Rattle.replica.specs.Parts.{ListsStand}
use Rattle.replica.specs.Reactions.{IsStep}
use Rattle.node.specs.declared.faults.NodeFault.{NodeFault}
use Rattle.node.specs.declared.faults.NodeFault.TheVariants.{Halted, Refused}
use Rattle.node.specs.declared.tasks.Tasks.{Tasks}
use Rattle.node.specs.Faults.{fault_of, halted_after, IsAnswerWhileRunning}
use Rattle.node.specs.Running.{shape_at, IsBrickOf}
use Rattle.node.specs.Tasks.{AreSameTasks}
use Rattle.node.proofs.Requests.{follows_boot, is_me}

module _ {D : Type 0} (layout : Layout) (before after : Tasks) (old new : Brick D) (is : IsBrickOf layout old.shape old.state before)
    (same : AreSameTasks layout before after) (shape : new.shape ≡ old.shape) where
  -- over a store that is as it was
  pub stays_brick : new.state ≡ old.state → IsBrickOf layout new.shape new.state after
  stays_brick kept =
      record {
        shape_is = shape ∙ is.shape_is ∙ ap (shape_at layout) (sym same.me);
        boot = same.boot ∙ is.boot ∙ ap (λ (st : StateOf Version). st.boot) (sym kept);
        lists = subst (λ (st : StateOf Version). ListsStand layout st) (sym kept) is.lists;
        tasks_are = same.of is.tasks_are;
      }

  -- over one that followed a message
  pub follows_brick : (from : BrickId) (message : Message) (answer : Option Message)
      → IsStep layout (handling.me_of old) from message old.state answer new.state → IsBrickOf layout new.shape new.state after
  follows_brick from message answer handled =
      let here = subst (λ (me : BrickId). IsStep layout me from message old.state answer new.state) (is_me layout before old from message is.shape_is) handled in
      record {
        shape_is = shape ∙ is.shape_is ∙ ap (shape_at layout) (sym same.me);
        boot = same.boot ∙ follows_boot layout before old from message new answer here is.boot;
        lists = here.lists is.lists;
        tasks_are = same.of is.tasks_are;
      }

-- a fault of the store halts the brick as it does the store
pub halts_as : (T Q : Type 0) (fault : ReplicaFault) (halted : Bool)
    → handling.halted_after {A = Q} halted (Err fault) ≡ halted_after {T = T} halted (Err (fault_of fault))
halts_as T Q replica.Disk halted = refl
halts_as T Q replica.Halted halted = refl
halts_as T Q replica.NoMemory halted = refl

-- the store was halted where the brick's fault says so
pub halted_fault : (fault : ReplicaFault) → fault_of fault ≡ Halted → fault ≡ replica.Halted
halted_fault replica.Disk is = absurd cc
halted_fault replica.Halted is = refl
halted_fault replica.NoMemory is = absurd cc

-- a fault of the store is no refusal
pub never_refused : (fault : ReplicaFault) (reason : Refusal) → fault_of fault ≢ Refused reason
never_refused replica.Disk reason = λ is. cc
never_refused replica.Halted reason = λ is. cc
never_refused replica.NoMemory reason = λ is. cc

-- the fault in an answer
pub fault_in : {T : Type 0} (fault other : NodeFault) → (let answer : Result T NodeFault = Err fault in answer ≡ Err other) → fault ≡ other
fault_in fault other is = cc

-- what a brick that runs answers once its step is made
pub answers_made : {T : Type 0} (value : T) (halted_now : Bool) → halted_now ≡ false → IsAnswerWhileRunning {T = T} halted_now (Ok value)
answers_made value halted_now runs =
    record {
      not_halted = λ is. cc;
      halts = runs;
      not_refused = λ reason. λ is. cc;
    }

-- what it answers where its store, which ran too, had a fault
pub answers_fault : (T Q : Type 0) (fault : ReplicaFault) (answered : NodeFault) (halted halted_now : Bool) → answered ≡ fault_of fault → halted ≡ false
    → fault ≢ replica.Halted → halted_now ≡ handling.halted_after {A = Q} halted (Err fault) → IsAnswerWhileRunning {T = T} halted_now (Err answered)
answers_fault T Q fault answered halted halted_now is runs not_halted halts =
    record {
      not_halted = λ same. not_halted (halted_fault fault (sym is ∙ fault_in answered Halted same));
      halts = halts ∙ halts_as T Q fault halted ∙ (λ i. halted_after {T = T} (runs i) (Err (sym is i)));
      not_refused = λ reason. λ same. never_refused fault reason (sym is ∙ fault_in answered (Refused reason) same);
    }
