-- What the store keeps decides.
use Rattle.std.proofs.Common.{sym, ap, ◌∙◌}
use Rattle.fab_disk.specs.declared.mem_disk.MemDisk.{MemDisk}
use Rattle.brick_state.specs.States.{live}
use Rattle.brick_store.specs.Bricks.{Brick}
use Rattle.world.proofs.CalmLemmas.{state_live, room_decides}
use Rattle.world.proofs.calms.has_room.Goals as goal

pub returns : goal.returns
returns c =
    room_decides _ _ _ _
    (state_live c.args.node.now ∙ ap (λ (b : Brick MemDisk). live b.state) (sym c.store.ensures) ∙ sym c.live.ensures ∙ sym c.from.ensures)
    (c.from-2.ensures ∙ c.records.ensures.value)
