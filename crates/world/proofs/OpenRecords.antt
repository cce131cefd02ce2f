-- What is kept of an operation that is open is that of one that the machine has open.
use Rattle.std.proofs.Common.{◌≡◌, ◌≢◌, ℕ, ◌&&◌, nat_eq, Bool, true, false, Option, Some, None, is_some, refl, sym, ap, ◌∙◌, subst}
use Rattle.std.specs.Prelude.{if◌then◌else◌}
use Rattle.std.proofs.lemmas.Bool.{eqb-true, eqb-false}
use Rattle.fab_base.specs.Layouts.{Layout}
use Rattle.fab_base.specs.declared.identities.BrickId.{BrickId}
use Rattle.fab_disk.specs.declared.mem_disk.MemDisk.{MemDisk}
use Rattle.node.specs.Running.{Running, state_of}
use Rattle.stripe_code.specs.Codes.{coding}
use Rattle.protocol.specs.Calms.{open_call}
use Rattle.protocol.specs.Nodes.{Node}
use Rattle.protocol.specs.Worlds.{World, Operation, is_brick}
use Rattle.world.specs.Runs.{brick_of}
use Rattle.world.specs.Shown.{Shows, IsReachedBy, OpensAs, TellsOperation, if_open, node_has_open, open_record, record_at, running_at}
use Rattle.world.specs.declared.histories.OperationRecord.{OperationRecord}
use Rattle.world.specs.declared.simulations.Simulation.{Simulation}
use Rattle.world.proofs.BrickListLemmas.{running_shown, running_not}
use Rattle.world.proofs.CalmLemmas.{open_nowhere, kept_at, open_down, open_later, open_here_is, none_of, down_is, up_of}
use Rattle.world.proofs.RunLaws.{reached_books, reached_bricks}

-- an operation of which this is kept, in a world that the state shows
module _ (layout : Layout) (w : World) (state : Simulation) (n : ℕ) (reached : IsReachedBy layout w) (shows : Shows layout state w)
    (kept : OperationRecord) (is : record_at state.history.operations.items n ≡ Some kept) where
  its : (o : Operation) × (w.operations n ≡ Some o) × TellsOperation kept o × (n ≢ 0)
  its = kept_at w state.history n kept shows.history is

  -- its brick does not run
  opens_not : running_at state.bricks.items kept.brick.0 ≡ None → open_call w n ≡ None
  opens_not none =
      open_down w n its.0 kept its.1 its.2
      (down_is layout w (brick_of kept.brick.0)
      (ap (λ (b : BrickId). is_brick layout b) its.2.brick ∙ reached_bricks layout w reached n its.0 its.1)
      (running_not layout state.bricks.items w kept.brick.0 shows.bricks none))

  -- it does, and tells
  opens_there : (node : Running MemDisk) → running_at state.bricks.items kept.brick.0 ≡ Some node
      → OpensAs state w n (if node_has_open kept (Some node) then Some kept else None)
  opens_there node on = by_test (nat_eq (state_of node).boot kept.boot) refl (is_some ((state_of node).calls kept.seq)) refl
    where
      by_call : (goes : Bool) → is_some (open_call w n) ≡ goes → OpensAs state w n (if goes then Some kept else None)
      by_call true some = (some, is)
      by_call false none = none_of (open_call w n) none

      by_test : (same : Bool) → nat_eq (state_of node).boot kept.boot ≡ same → (goes : Bool) → is_some ((state_of node).calls kept.seq) ≡ goes
          → OpensAs state w n (if same && goes then Some kept else None)
      by_test false later goes call =
          let found = running_shown layout state.bricks.items w kept.brick.0 node shows.bricks on in
          open_later w n its.0 kept its.1 its.2 (up_of layout w (brick_of kept.brick.0) found.0)
          (λ same. eqb-false (state_of node).boot kept.boot later (ap (λ (x : Node). x.boot) found.1.state_is ∙ same))
      by_test true same goes call =
          let found = running_shown layout state.bricks.items w kept.brick.0 node shows.bricks on in
          let here : open_call w n ≡ (w.nodes kept.brick.0).calls kept.seq =
          open_here_is w n its.0 kept its.1 its.2 (up_of layout w (brick_of kept.brick.0) found.0)
          (sym (ap (λ (x : Node). x.boot) found.1.state_is) ∙ eqb-true (state_of node).boot kept.boot same) in
          by_call goes (ap is_some here ∙ sym (ap (λ (x : Node). is_some (x.calls kept.seq)) found.1.state_is) ∙ call)

-- what is found of an operation is as the machine has it
pub opens_as : (layout : Layout) (w : World) (state : Simulation) (n : ℕ) (found : Option OperationRecord) → found ≡ open_record state n
    → IsReachedBy layout w → Shows layout state w → OpensAs state w n found
opens_as layout w state n found same reached shows =
    subst (OpensAs state w n) (sym same) (by_record (record_at state.history.operations.items n) refl)
  where
    by_running : (kept : OperationRecord) → record_at state.history.operations.items n ≡ Some kept → (node : Option (Running MemDisk))
        → running_at state.bricks.items kept.brick.0 ≡ node → OpensAs state w n (if node_has_open kept node then Some kept else None)
    by_running kept is None none = opens_not layout w state n reached shows kept is none
    by_running kept is (Some node) on = opens_there layout w state n reached shows kept is node on

    by_record : (kept : Option OperationRecord) → record_at state.history.operations.items n ≡ kept
        → OpensAs state w n (if_open state.bricks.items kept)
    by_record None none = open_nowhere (coding layout) w state.history n (reached_books layout w reached) shows.history none
    by_record (Some kept) is = by_running kept is (running_at state.bricks.items kept.brick.0) refl
