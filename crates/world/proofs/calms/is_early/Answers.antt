-- The greatest time decides.
use Rattle.std.proofs.Common.{nat_lt, refl, sym, ap, ◌∙◌, subst}
use Rattle.std.specs.Bool.{Decides}
use Rattle.std.specs.Map.{keys_of}
use Rattle.std.specs.List.Sorted.{IsStrictlySortedBy}
use Rattle.fab_disk.specs.declared.mem_disk.MemDisk.{MemDisk}
use Rattle.brick_state.specs.States.{place_cmp}
use Rattle.brick_state.specs.Times.{top_time}
use Rattle.brick_store.specs.Blocks.{version_stamp}
use Rattle.brick_store.specs.Bricks.{Brick}
use Rattle.node.specs.Running.{state_of}
use Rattle.protocol.specs.Calms.{IsEarly, early}
use Rattle.world.proofs.TimeLemmas.{times_decide}
use Rattle.world.proofs.calms.is_early.Goals as goal

pub returns : goal.returns
unfolding state_of
returns c =
    let node = c.args.node.now in
    subst (λ m. Decides (nat_lt m early) (IsEarly (state_of node))) (sym c.max.ensures)
    (times_decide (state_of node) node.brick.state node.layout.block c.known_time.result c.top_time.result
    (subst (λ (b : Brick MemDisk). IsStrictlySortedBy place_cmp (keys_of b.state.stripes)) c.store-store.ensures c.is_halted.ensures.ordered.sorted)
    (sym c.known_time.ensures)
    (c.top_time.ensures ∙ ap (λ (b : Brick MemDisk). top_time version_stamp b.state) c.store-store.ensures)
    (λ g e s. refl))
