-- A brick is started over its disk; or its store can't be opened once more, or a call of the disk was befallen, or memory was refused.
use Rattle.std.proofs.Common.{inl, inr, refl, subst, ◌∙◌}
use Rattle.brick_store.specs.declared.faults.OpenFault.{OpenFault}
use Rattle.node.specs.Openings.{OpensBrick, stopped_by}
use Rattle.world.specs.Faults.{in_memory}
use Rattle.world.proofs.DownLemmas.{armed_by, started, cut_short, worn, rests_still, holds_store}
use Rattle.world.proofs.bricks.open_over.Goals as goal

pub returns-in-Ok : goal.returns-in-Ok
returns-in-Ok c state after rests =
    started c.args.layout c.args.me state after c.args.fault c.args.disk c.arm.new.self rests (armed_by c.arm.ensures.content c.arm.ensures.crash c.arm.ensures.planned c.plan_of.ensures c.arm.ensures.listed) c.in-Ok.node c.arm-in-Ok.new.self
    c.in-Ok.ensures.layout c.in-Ok.ensures.me c.in-Ok.ensures.runs (c.in-Ok.ensures.state tt) (c.in-Ok.ensures.found tt) (c.in-Ok.ensures.stands tt)
    c.in-Ok.ensures.opens c.arm-in-Ok.ensures.same c.arm-in-Ok.ensures.state c.arm-in-Ok.ensures.halted
    (record { content = c.arm-in-Ok.ensures.content; crash = c.arm-in-Ok.ensures.crash }) (λ unlisted. c.arm-in-Ok.ensures.again refl unlisted)
    (c.in-Ok.ensures.listed tt) c.look.ensures.shape (c.look.ensures.listed (c.arm-in-Ok.ensures.halted ∙ c.in-Ok.ensures.runs))
    c.arm-in-Ok.ensures.room_left

pub returns-in-Err-Disk-default : goal.returns-in-Err-Disk-default
returns-in-Err-Disk-default c state after rests =
    inr (cut_short c.args.layout c.args.me state after c.args.fault c.args.disk c.arm.new.self rests (armed_by c.arm.ensures.content c.arm.ensures.crash c.arm.ensures.planned c.plan_of.ensures c.arm.ensures.listed) c.in-Err-Disk-default.left c.left_by.result
    (subst (λ (fault : OpenFault). OpensBrick in_memory c.args.layout c.args.me c.arm.new.self c.in-Err-Disk-default.left (stopped_by fault)) c.in-Err-Disk-default.field-0-0-is
    c.in-Err-Disk-default.ensures.opens)
    c.arm.ensures.certain c.left_by.ensures.left c.left_by.ensures.crash c.left_by.ensures.sound)

pub returns-in-Err-Worn-default : goal.returns-in-Err-Worn-default
returns-in-Err-Worn-default c state after rests =
    inl (worn c.args.layout c.args.me state after c.args.fault c.args.disk c.arm.new.self rests (armed_by c.arm.ensures.content c.arm.ensures.crash c.arm.ensures.planned c.plan_of.ensures c.arm.ensures.listed) c.in-Err-Worn-default.left
    c.arm-in-Err-Worn-default.new.self
    (subst (λ (fault : OpenFault). OpensBrick in_memory c.args.layout c.args.me c.arm.new.self c.in-Err-Worn-default.left (stopped_by fault)) c.in-Err-Worn-default.field-0-0-is
    c.in-Err-Worn-default.ensures.opens)
    (c.in-Err-Worn-default.ensures.worn c.in-Err-Worn-default.field-0-0-is tt)
    (record { content = c.arm-in-Err-Worn-default.ensures.content; crash = c.arm-in-Err-Worn-default.ensures.crash })
    (c.arm-in-Err-Worn-default.ensures.again refl))

pub returns-in-Err-NoMemory-default : goal.returns-in-Err-NoMemory-default
returns-in-Err-NoMemory-default c state after rests =
    rests_still c.args.layout c.args.me state after c.args.fault c.args.disk c.arm.new.self rests (armed_by c.arm.ensures.content c.arm.ensures.crash c.arm.ensures.planned c.plan_of.ensures c.arm.ensures.listed) c.in-Err-NoMemory-default.left
    c.arm-in-Err-NoMemory-default.new.self
    (subst (λ (fault : OpenFault). OpensBrick in_memory c.args.layout c.args.me c.arm.new.self c.in-Err-NoMemory-default.left (stopped_by fault)) c.in-Err-NoMemory-default.field-0-0-is
    c.in-Err-NoMemory-default.ensures.opens)
    (record { content = c.arm-in-Err-NoMemory-default.ensures.content; crash = c.arm-in-Err-NoMemory-default.ensures.crash })
    (c.arm-in-Err-NoMemory-default.ensures.again refl)

-- it holds a store
pub unreachable-requires : goal.unreachable-requires
unreachable-requires c =
    let (state, after, rests) = c.requires in
    holds_store c.args.layout c.args.me state after c.args.fault c.args.disk c.arm.new.self rests (armed_by c.arm.ensures.content c.arm.ensures.crash c.arm.ensures.planned c.plan_of.ensures c.arm.ensures.listed) _
    (c.in-Err-NotAStore-default.ensures.not_a_store c.in-Err-NotAStore-default.field-0-0-is tt)
