-- A brick takes a message whole or in part, as the machine's does.
use Rattle.std.proofs.Common.{◌≡◌, ◌≤◌, false, List, refl, sym, subst, ◌∙◌}
use Rattle.node.specs.Outcomes.{Outcome}
use Rattle.stripe_code.specs.Codes.{coding}
use Rattle.node.specs.Running.{state_of}
use Rattle.protocol.specs.declared.tellings.Told.{Told}
use Rattle.world.specs.Shown.{reads_begun}
use Rattle.world.proofs.MachineSteps.{absorbed_boot, received_few}
use Rattle.world.proofs.DownLemmas.{armed_by, took_whole, took_part, took_nothing, step_by, halted_as}
use Rattle.world.proofs.bricks.take_message.Goals as goal

pub returns-in-Ok-clause-takes : goal.returns-in-Ok-clause-takes
returns-in-Ok-clause-takes c =
    let node = c.args.node in
    let on : c.arm.new.self.brick.halted ≡ false = c.arm.ensures.halted ∙ c.requires.runs in
    let running : c.arm-in-Ok.new.self.brick.halted ≡ false = c.arm-in-Ok.ensures.halted ∙ c.in-Ok.ensures.halts ∙ on in
    took_whole node.layout node.me (state_of node) c.args.time c.args.packet.now c.args.fault node c.arm.new.self c.requires c.arm.ensures.same c.arm.ensures.state (armed_by c.arm.ensures.content c.arm.ensures.crash c.arm.ensures.planned c.plan_of.ensures c.arm.ensures.listed)
    c.look.ensures.shape (c.look.ensures.listed on) c.on_message.new.self c.arm-in-Ok.new.self c.in-Ok.outs c.on_message.ensures.same c.arm-in-Ok.ensures.same
    c.in-Ok.ensures.step c.arm-in-Ok.ensures.state (record { content = c.arm-in-Ok.ensures.content; crash = c.arm-in-Ok.ensures.crash }) (λ none. (c.in-Ok.ensures.still none).1)
    c.in-Ok.ensures.change running (λ unlisted. c.arm-in-Ok.ensures.again refl unlisted) c.look-in-Ok.ensures.shape (c.look-in-Ok.ensures.listed running)
    c.arm-in-Ok.ensures.room_left

pub returns-in-Ok-clause-reads : goal.returns-in-Ok-clause-reads
returns-in-Ok-clause-reads c =
    subst (λ (l : List Told). reads_begun l ≤ 1) (sym c.in-Ok.ensures.step.told)
    (received_few (coding c.arm.new.self.layout) c.arm.new.self.me c.args.time (state_of c.arm.new.self) c.args.packet.now)

pub returns-in-Err-Disk-clause-takes : goal.returns-in-Err-Disk-clause-takes
returns-in-Err-Disk-clause-takes c =
    let node = c.args.node in
    let on : c.arm.new.self.brick.halted ≡ false = c.arm.ensures.halted ∙ c.requires.runs in
    let is = c.in-Err-Disk.field-0-is in
    took_part node.layout node.me (state_of node) c.args.time c.args.packet.now c.args.fault node c.arm.new.self c.requires c.arm.ensures.same c.arm.ensures.state (armed_by c.arm.ensures.content c.arm.ensures.crash c.arm.ensures.planned c.plan_of.ensures c.arm.ensures.listed)
    c.look.ensures.shape (c.look.ensures.listed on) c.on_message.new.self c.into_disk.result c.left_by.result c.into_disk.ensures.disk on
    (step_by Outcome _ _ c.arm.new.self c.on_message.new.self _ _ is c.in-Err-Disk.ensures.change)
    c.left_by.ensures.left c.left_by.ensures.crash c.left_by.ensures.sound (absorbed_boot (coding node.layout) node.me (state_of node) c.args.packet.now)

pub returns-in-Err-NoMemory-clause-takes : goal.returns-in-Err-NoMemory-clause-takes
returns-in-Err-NoMemory-clause-takes c =
    let node = c.args.node in
    let on : c.arm.new.self.brick.halted ≡ false = c.arm.ensures.halted ∙ c.requires.runs in
    let is = c.in-Err-NoMemory.field-0-is in
    let halted : c.on_message.new.self.brick.halted ≡ c.arm.new.self.brick.halted =
    halted_as Outcome c.arm.new.self.brick.halted c.on_message.new.self.brick.halted c.in-Err-NoMemory.field-0 c.in-Err-NoMemory.ensures.halts is
    in
    took_nothing node.layout node.me (state_of node) c.args.time c.args.packet.now c.args.fault node c.arm.new.self c.requires c.arm.ensures.same
    c.arm.ensures.state (armed_by c.arm.ensures.content c.arm.ensures.crash c.arm.ensures.planned c.plan_of.ensures c.arm.ensures.listed) c.look.ensures.shape (c.look.ensures.listed on) c.on_message.new.self c.arm-in-Err-NoMemory.new.self c.on_message.ensures.same
    c.arm-in-Err-NoMemory.ensures.same c.in-Err-NoMemory.ensures.err c.arm-in-Err-NoMemory.ensures.state
    (record { content = c.arm-in-Err-NoMemory.ensures.content; crash = c.arm-in-Err-NoMemory.ensures.crash })
    (step_by Outcome _ _ c.arm.new.self c.on_message.new.self _ _ is c.in-Err-NoMemory.ensures.change)
    (c.arm-in-Err-NoMemory.ensures.halted ∙ halted ∙ on) (λ unlisted. c.arm-in-Err-NoMemory.ensures.again refl unlisted)
