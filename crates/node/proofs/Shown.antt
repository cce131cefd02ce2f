-- What a step of a brick makes its disk show, from the change of its store.
use Rattle.std.proofs.Common.{◌≡◌, ℕ, false, List, Option, None, Result, Ok, Err, inl, refl, sym, ap, subst}
use Rattle.std.specs.Result.{OnErr}
use Rattle.fab_base.specs.declared.identities.BrickId.{BrickId}
use Rattle.fab_base.specs.Layouts.{Layout}
use Rattle.fab_disk.specs.declared.disk.Disk as on_disk
use Rattle.fab_disk.specs.Changing.{End, NotBegun, Stands, Change}
use Rattle.fab_disk.proofs.Changing.{widen, same, none}
use Rattle.frame_store.specs.declared.shapes.Shape.{Shape}
use Rattle.messages.specs.declared.packets.Message.{Message}
use Rattle.brick_store.specs.Bricks.{Brick}
use Rattle.brick_store.specs.Calls.{Append, calls_for, IsListedAfter}
use Rattle.brick_store.specs.Images.{StandsFor}
use Rattle.brick_store.specs.Lengths.{ListsBy}
use Rattle.replica.specs.declared.faults.ReplicaFault.{ReplicaFault}
use Rattle.replica.specs.declared.faults.ReplicaFault.TheVariants as replica
use Rattle.brick_state.specs.States.{live}
use Rattle.replica.specs.Calls.{message_append}
use Rattle.replica.specs.Handling as handling
use Rattle.replica.specs.Handling.{me_of, StandsForNext, KeepsNext}
use Rattle.replica.specs.Parts.{IsPartsOf}
use Rattle.replica.specs.Reactions.{IsStep, member_step}
use Rattle.protocol.specs.Nodes.{Node}
use Rattle.node.specs.declared.faults.NodeFault.{NodeFault}
use Rattle.node.specs.declared.faults.NodeFault.TheVariants.{Disk, Halted, NoMemory, Refused}
use Rattle.node.specs.declared.tasks.Tasks.{Tasks}
use Rattle.node.specs.Ends.{end_of, IsShown, StepChange}
use Rattle.node.specs.Faults.{fault_of}
use Rattle.node.specs.Running.{Running, running, state_of, shape_at, ImageShows, LeavesBrick, IsBrickOf}
use Rattle.node.proofs.Views.{kept_so, shows_so}
use Rattle.node.proofs.Requests.{is_me, live_seen, shown_before, shown_after, follows_shown}

-- an answer of the store that is a fault, and one of the brick
abbrev pub refused : (T : Type 0) → ReplicaFault → Result T ReplicaFault
refused T fault = Err fault

abbrev pub failed : (T : Type 0) → NodeFault → Result T NodeFault
failed T fault = Err fault

module _ {D : Type 0} (d : on_disk.Ghosts D) where
  -- the brick shows what its store keeps
  pub shown_so : (layout : Layout) (tasks : Tasks) (store : Brick D) (disk : D) → IsBrickOf layout store.shape store.state tasks
      → Stands d (StandsFor store.shape store.state) disk → Stands d (ImageShows layout tasks.work.calls.me (state_of (running layout tasks store))) disk
  shown_so layout tasks store disk is stands = record {
    only = stands.only;
    has = shows_so layout tasks.work.calls.me (state_of (running layout tasks store)) store (d.seen disk) is.shape_is (kept_so layout tasks store is) stands.has;
  }

  -- where that stands on a disk, a crash leaves only that
  pub leaves_shown : (layout : Layout) (me : BrickId) (node : Node) (disk : D) → Stands d (ImageShows layout me node) disk
      → LeavesBrick layout me node (d.may_leave disk)
  leaves_shown layout me node disk stands = λ image left. subst (ImageShows layout me node) (sym (stands.only image left)) stands.has

  -- what a step changes on the disk, and in the list, of a store that is this one then
  pub record StoreStep (append : Option Append) (kept : Node) (old : Running D) (new : Brick D) (end : End) : Type 0 where
    pub change : Change d (calls_for (shape_at old.layout old.me) old.brick.listed append) (ImageShows old.layout old.me (state_of old))
        (ImageShows old.layout old.me kept) old.brick.disk new.disk end
    pub listed : ListsBy end (IsListedAfter (shape_at old.layout old.me) (state_of old).live old.brick.listed append) old.brick.listed new.listed

  -- the store's change, for the machine's brick that it shows, is the brick's
  pub change_so : (layout : Layout) (tasks : Tasks) (from : BrickId) (message : Message) (old new : Brick D) (node : Running D) (end : End)
      → running layout tasks old ≡ node → IsBrickOf layout old.shape old.state tasks
      → (d.tells → Stands d (StandsFor old.shape old.state) old.disk)
      → ((machine : Node) → IsPartsOf layout old.state machine
      → KeepsNext d (message_append layout (me_of old) from machine message) (IsStep layout (me_of old) from message old.state) old new end)
      → StoreStep (message_append node.layout node.me from (state_of node) message) (member_step node.layout node.me from (state_of node) message).node
      node new end
  change_so layout tasks from message old new node end is brick stood change =
      let shown = running layout tasks old in
      let kept = kept_so layout tasks old brick in
      let append = message_append layout tasks.work.calls.me from (state_of shown) message in
      let after = (member_step layout tasks.work.calls.me from (state_of shown) message).node in
      let made = subst (λ (me : BrickId). KeepsNext d (message_append layout me from (state_of shown) message) (IsStep layout me from message old.state) old
      new end) (is_me layout tasks old from message brick.shape_is) (change (state_of shown) kept.parts) in
      subst (λ (n : Running D). StoreStep (message_append n.layout n.me from (state_of n) message)
      (member_step n.layout n.me from (state_of n) message).node n new end) is (record {
        change = subst (λ (s : Shape). Change d (calls_for s old.listed append) (ImageShows layout tasks.work.calls.me (state_of shown))
            (ImageShows layout tasks.work.calls.me after) old.disk new.disk end) brick.shape_is
            (widen d _ (StandsFor old.shape old.state) _ (StandsForNext old.shape (IsStep layout tasks.work.calls.me from message old.state))
            (ImageShows layout tasks.work.calls.me (state_of shown)) _ (ImageShows layout tasks.work.calls.me after) old.disk new.disk end
            (λ told shows. (stood told).has)
            (λ told shows. shown_before layout tasks old from message brick.shape_is kept)
            (λ told shows. follows_shown layout tasks old from message brick.shape_is kept)
            (λ told. shown_after layout tasks old from message brick.shape_is kept) made.change);
        listed = subst (λ (n : ℕ). ListsBy end (IsListedAfter (shape_at layout tasks.work.calls.me) n old.listed append) old.listed new.listed)
            (live_seen layout tasks old)
            (subst (λ (s : Shape). ListsBy end (IsListedAfter s (live old.state) old.listed append) old.listed new.listed) brick.shape_is made.listed);
      })

  -- a change that the store refused, or that was cut short, is a step of the brick that was
  pub refused_step : (T Q : Type 0) (fault : ReplicaFault) (answer : Result T NodeFault) (append : Option Append) (kept : Node) (old new : Running D)
      → answer ≡ failed T (fault_of fault) → IsShown d old → StoreStep append kept old new.brick (handling.end_of (refused Q fault))
      → StepChange d append kept old new (end_of answer)
  refused_step T Q fault answer append kept old new is stood made =
      subst (λ (r : Result T NodeFault). StepChange d append kept old new (end_of r)) (sym is) (by fault made)
    where
      by : (fault : ReplicaFault) → StoreStep append kept old new.brick (handling.end_of (refused Q fault))
          → StepChange d append kept old new (end_of (failed T (fault_of fault)))
      by replica.Disk made = record { stood = stood; change = made.change; listed = made.listed; stands = λ whole. absurd cc }
      by replica.Halted made = record { stood = stood; change = made.change; listed = made.listed; stands = λ whole. absurd cc }
      by replica.NoMemory made = record { stood = stood; change = made.change; listed = made.listed; stands = λ whole. absurd cc }

  module _ (only_now : (disk : D) (image : List ℕ) → d.left_since disk (d.moment disk) image → d.may_leave disk image) where
    -- a step that was refused at once
    pub step_refused : (append : Option Append) (kept : Node) (node : Running D) → IsShown d node → StepChange d append kept node node NotBegun
    step_refused append kept node stood = record {
      stood = stood;
      change =
          same d only_now (calls_for (shape_at node.layout node.me) node.brick.listed append) (ImageShows node.layout node.me (state_of node)) _
          (ImageShows node.layout node.me kept) (λ image shows. inl shows) node.brick.disk;
      listed = record { whole = λ is. absurd cc; not_begun = λ is. refl };
      stands = λ whole. absurd cc;
    }

    -- a step that makes no call of the disk, and leaves the store as it was
    pub step_still : (old new : Running D) (T : Type 0) (r : Result T NodeFault) → OnErr r (r ≡ Err NoMemory) → new.brick ≡ old.brick
        → ((image : List ℕ) → ImageShows old.layout old.me (state_of old) image → ImageShows old.layout old.me (state_of new) image) → IsShown d old
        → old.brick.halted ≡ false → StepChange d None (state_of old) old new (end_of r)
    step_still old new T r only same_brick more stood runs = record {
      stood = stood;
      listed = record { whole = λ is. ap (λ (b : Brick D). b.listed) same_brick; not_begun = λ is. ap (λ (b : Brick D). b.listed) same_brick };
      change = subst (λ (b : Brick D). Change d 0 (ImageShows old.layout old.me (state_of old)) (ImageShows old.layout old.me (state_of old)) old.brick.disk b.disk (end_of r)) (sym same_brick) (by r only);
      stands = λ whole told. let stands = stood told runs in
          subst (λ (b : Brick D). Stands d (ImageShows old.layout old.me (state_of new)) b.disk) (sym same_brick)
          (record { only = stands.only; has = more (d.seen old.brick.disk) stands.has });
    }
      where
        by : (a : Result T NodeFault) → OnErr a (a ≡ Err NoMemory)
            → Change d 0 (ImageShows old.layout old.me (state_of old)) (ImageShows old.layout old.me (state_of old)) old.brick.disk old.brick.disk (end_of a)
        by (Ok value) is =
            none d only_now (ImageShows old.layout old.me (state_of old)) _ (ImageShows old.layout old.me (state_of old)) (λ image shows. inl shows)
            old.brick.disk (λ told. stood told runs)
        by (Err NoMemory) is =
            same d only_now 0 (ImageShows old.layout old.me (state_of old)) _ (ImageShows old.layout old.me (state_of old)) (λ image shows. inl shows)
            old.brick.disk
        by (Err Disk) is = absurd cc
        by (Err Halted) is = absurd cc
        by (Err (Refused reason)) is = absurd cc
