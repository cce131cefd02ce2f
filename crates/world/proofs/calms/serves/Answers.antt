-- The store tells the learnt view, and whether a list was accepted.
use Rattle.std.proofs.Common.{Bool, ap, ◌∙◌, subst, arith}
use Rattle.std.specs.Bool.{Decides}
use Rattle.fab_disk.specs.declared.mem_disk.MemDisk.{MemDisk}
use Rattle.brick_state.specs.States.{group_at}
use Rattle.brick_store.specs.Blocks.{accepted_of, learnt_of}
use Rattle.brick_store.specs.Bricks.{Brick}
use Rattle.node.specs.Running.{state_of}
use Rattle.world.specs.Shown.{Serves}
use Rattle.world.proofs.CalmLemmas.{none_is, serves_other, serves_last, serves_told}
use Rattle.world.proofs.calms.serves.Goals as goal

pub returns-then-learnt-view : goal.returns-then-learnt-view
returns-then-learnt-view c =
    serves_other c.args.node.now c.args.group.0 c.args.view.0 c.learnt.result.0
    (c.learnt.ensures ∙ ap (λ (b : Brick MemDisk). learnt_of (group_at b.state c.args.group.0)) c.store-store.ensures) c.if-learnt-view.true

pub returns-then-view-eq4294967295 : goal.returns-then-view-eq4294967295
returns-then-view-eq4294967295 c =
    serves_last c.args.node.now c.args.group.0 c.args.view.0 c.learnt.result.0
    (c.learnt.ensures ∙ ap (λ (b : Brick MemDisk). learnt_of (group_at b.state c.args.group.0)) c.store-store.ensures) c.if-learnt-view.false c.if-view-eq4294967295.true

pub returns : goal.returns
returns c =
    subst (λ (b : Bool). Decides b (Serves (state_of c.args.node.now) c.args.group.0 c.args.view.0)) (none_is c.accepted.result c.is_none.result c.is_none.ensures)
    (serves_told c.args.node.now c.args.group.0 c.args.view.0 c.learnt.result.0
    (c.learnt.ensures ∙ ap (λ (b : Brick MemDisk). learnt_of (group_at b.state c.args.group.0)) c.store-store.ensures)
    c.accepted.result c.if-learnt-view.false (omega arith) c.if-view-eq4294967295.false
    (c.accepted.ensures ∙ ap (λ (b : Brick MemDisk). accepted_of (group_at b.state c.args.group.0)) c.store-store.ensures))
