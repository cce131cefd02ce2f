-- The store tells what is known of the learnt view.
use Rattle.std.proofs.Common.{◌≡◌, ℕ, Option, Bool, Some, sym, ap, ◌∙◌}
use Rattle.fab_base.specs.declared.member_lists.View.{View}
use Rattle.fab_disk.specs.declared.mem_disk.MemDisk.{MemDisk}
use Rattle.brick_state.specs.States.{group_at}
use Rattle.brick_store.specs.Bricks.{Brick}
use Rattle.node.specs.Running.{Running}
use Rattle.world.specs.Shown.{node_knows_synced}
use Rattle.world.proofs.CalmLemmas.{synced_of, synced_told}
use Rattle.world.proofs.calms.knows_synced.Goals as goal

-- of a brick that runs
told : (group : ℕ) (node : Running MemDisk) (store : Brick MemDisk) (found : Option (Running MemDisk)) (known : Option (View × Bool)) → store ≡ node.brick
    → known ≡ (group_at store.state group).known → Some node ≡ found → synced_of known ≡ node_knows_synced group found
told group node store found known same is at =
    ap synced_of is ∙ ap (λ (b : Brick MemDisk). synced_of (group_at b.state group).known) same ∙ sym (synced_told node group) ∙ ap (node_knows_synced group) at

pub returns-in-Some-known_view : goal.returns-in-Some-known_view
returns-in-Some-known_view c =
    told c.args.group.0 c.in-Some.node.now c.store.result.now _ _ c.store.ensures c.in-Some-known_view.ensures.value c.in-Some.ensures

pub returns-in-None-known_view : goal.returns-in-None-known_view
returns-in-None-known_view c =
    told c.args.group.0 c.in-Some.node.now c.store.result.now _ _ c.store.ensures c.in-None-known_view.ensures.value c.in-Some.ensures
