-- The brick of the number does what the machine's does.
use Rattle.std.proofs.Common.{◌≡◌, true, false, sym, ◌∙◌}
use Rattle.world.specs.BrickSteps.{DoesBegin}
use Rattle.world.proofs.BrickListLemmas.{on_at, asked}
use Rattle.world.proofs.bricks.ask_brick.Goals as goal

pub unreachable-requires : goal.unreachable-requires
unreachable-requires c =
    on_at c.args.bricks.now.items c.args.number c.index_mut-brick.result.now _ c.index_mut-brick.ensures.value c.in-Down.is c.requires

pub returns-clause-asks : goal.returns-clause-asks
returns-clause-asks c =
    asked c.args.bricks.now.items c.args.number c.index_mut-brick.result.now c.in-Up.node c.invoke.new.self (DoesBegin c.args.ask.now c.invoke.result)
    c.requires.within c.index_mut-brick.ensures.value c.in-Up.is c.invoke.ensures.same c.invoke.ensures.brick
    (record { refused = c.invoke.ensures.refused; begun = c.invoke.ensures.begun; stays = c.invoke.ensures.err })

pub returns-clause-not_halted : goal.returns-clause-not_halted
returns-clause-not_halted c = λ halted.
    let on =
    on_at c.args.bricks.now.items c.args.number c.index_mut-brick.result.now _ c.index_mut-brick.ensures.value c.in-Up.is c.requires
    in
    let never : true ≡ false = sym (c.invoke.ensures.only_halted halted) ∙ on.runs in
    cc
