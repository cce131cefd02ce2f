-- The message is the machine's, and its brick handles it as the machine's does.
use Rattle.std.proofs.Common.{List, refl, sym, subst}
use Rattle.world.specs.Shown.{AreBricksOf}
use Rattle.world.specs.declared.bricks.Brick.{Brick}
use Rattle.world.proofs.BrickListLemmas.{bricks_there}
use Rattle.world.proofs.Delivering.{astray, part, receives, refused, room_stays, some_number, unsent, whole}
use Rattle.world.proofs.SimulationLemmas.{on_err_always, stays_alike}
use Rattle.world.proofs.simulations.Simulation.deliver.Goals as goal

pub returns-in_err-make_room-clause-err : goal.returns-in_err-make_room-clause-err
returns-in_err-make_room-clause-err c =
    on_err_always c.from_residual.result (stays_alike c.args.layout.now c.args.self.now _ c.make_room.ensures.same c.requires)

pub find_up-requires : goal.find_up-requires
find_up-requires c =
    subst (λ (bricks : List Brick). AreBricksOf c.args.layout.now bricks) (sym c.deref-2.ensures.value) (bricks_there c.requires.bricks)

pub returns-in_err-expect-clause-err : goal.returns-in_err-expect-clause-err
returns-in_err-expect-clause-err c =
    on_err_always c.from_residual-in_err-expect.result
    (room_stays c.args.layout.now c.args.self.now _ c.make_room.ensures.same c.requires _ c.in_err-expect.ensures.same _ (λ i. refl))

pub returns-in_err-reserve-clause-err : goal.returns-in_err-reserve-clause-err
returns-in_err-reserve-clause-err c =
    on_err_always c.from_residual-in_err-reserve.result
    (room_stays c.args.layout.now c.args.self.now _ c.make_room.ensures.same c.requires _ c.expect.ensures.same _ c.in_err-reserve.ensures.same)

pub returns-in_err-outs-clause-err : goal.returns-in_err-outs-clause-err
returns-in_err-outs-clause-err c =
    on_err_always c.from_residual-in_err-outs.result
    (refused c.args.layout.now c.args.self.now _ c.make_room.ensures.same c.requires c.args.message c.args.fault _ c.deref.ensures.value c.in-Some.packet.now
    c.in-Some.ensures _ c.from.ensures _ c.deref-2.ensures.value c.in-Some-find_up.to c.in-Some-find_up.ensures _ c.expect.ensures.same _
    c.reserve.ensures.same _ refl refl c.in_err-outs.ensures.handles)

pub returns-in-None-clause-ok : goal.returns-in-None-clause-ok
returns-in-None-clause-ok c =
    unsent c.args.layout.now c.args.self.now _ c.make_room.ensures.same c.requires c.args.message c.args.fault _ c.deref.ensures.value c.in-None.ensures

pub returns-in-None-find_up-clause-ok : goal.returns-in-None-find_up-clause-ok
returns-in-None-find_up-clause-ok c =
    astray c.args.layout.now c.args.self.now _ c.make_room.ensures.same c.requires c.args.message c.args.fault _ c.deref.ensures.value c.in-Some.packet.now
    c.in-Some.ensures _ c.from.ensures _ c.deref-2.ensures.value c.in-None-find_up.ensures

pub hand_over-requires : goal.hand_over-requires
hand_over-requires c =
    receives c.args.layout.now c.args.self.now _ c.make_room.ensures.same c.requires c.args.message c.args.fault _ c.deref.ensures.value c.in-Some.packet.now
    c.in-Some.ensures _ c.from.ensures _ c.deref-2.ensures.value c.in-Some-find_up.to c.in-Some-find_up.ensures

pub deliver-requires-clause-some : goal.deliver-requires-clause-some
deliver-requires-clause-some c = some_number _ c.args.message c.in-Some.packet.now c.in-Some.ensures

pub deliver-requires-in-None-2-clause-some : goal.deliver-requires-in-None-2-clause-some
deliver-requires-in-None-2-clause-some c = some_number _ c.args.message c.in-Some.packet.now c.in-Some.ensures

pub returns-in-Some-2-clause-ok : goal.returns-in-Some-2-clause-ok
returns-in-Some-2-clause-ok c =
    whole c.args.layout.now c.args.self.now _ c.make_room.ensures.same c.requires c.args.message c.args.fault _ c.deref.ensures.value c.in-Some.packet.now
    c.in-Some.ensures _ c.from.ensures _ c.deref-2.ensures.value c.in-Some-find_up.to c.in-Some-find_up.ensures c.expect.new.self c.expect.ensures.same c.reserve.new.self
    c.reserve.ensures.same c.deliver.new.self c.deliver.ensures.rest c.deliver.ensures.delivered
    (record c.args.self.now { bricks = c.hand_over.new.bricks; history = c.step.new.self }) refl c.in-Some-2.outs _ c.in-Some-2.is
    c.in_ok-outs.ensures.handles c.step.ensures

pub returns-in-None-2-clause-ok : goal.returns-in-None-2-clause-ok
returns-in-None-2-clause-ok c =
    part c.args.layout.now c.args.self.now _ c.make_room.ensures.same c.requires c.args.message c.args.fault _ c.deref.ensures.value c.in-Some.packet.now
    c.in-Some.ensures _ c.from.ensures _ c.deref-2.ensures.value c.in-Some-find_up.to c.in-Some-find_up.ensures c.expect.new.self c.expect.ensures.same c.reserve.new.self
    c.reserve.ensures.same c.deliver-in-None-2.new.self c.deliver-in-None-2.ensures.rest c.deliver-in-None-2.ensures.delivered
    (record c.args.self.now { bricks = c.hand_over.new.bricks; history = c.crash.new.self }) refl _ c.in-None-2.is c.in_ok-outs.ensures.handles
    c.crash.ensures
