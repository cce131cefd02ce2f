-- The brick of the number proposes as the machine's does.
use Rattle.std.proofs.Common.{◌≡◌, true, false, sym, ◌∙◌}
use Rattle.world.specs.BrickSteps.{DoesPropose}
use Rattle.world.proofs.BrickListLemmas.{on_at, asked}
use Rattle.world.proofs.bricks.ask_to_propose.Goals as goal

pub unreachable-requires : goal.unreachable-requires
unreachable-requires c =
    on_at c.args.bricks.now.items c.args.number c.index_mut-brick.result.now _ c.index_mut-brick.ensures.value c.in-Down.is c.requires

pub returns-clause-asks : goal.returns-clause-asks
returns-clause-asks c =
    asked c.args.bricks.now.items c.args.number c.index_mut-brick.result.now c.in-Up.node c.propose.new.self (DoesPropose c.args.group c.args.members.now c.propose.result)
    c.requires.within c.index_mut-brick.ensures.value c.in-Up.is c.propose.ensures.same c.propose.ensures.brick
    (record { refused = c.propose.ensures.refused; steps = c.propose.ensures.step; stays = c.propose.ensures.err })

pub returns-clause-not_halted : goal.returns-clause-not_halted
returns-clause-not_halted c = λ halted.
    let on =
    on_at c.args.bricks.now.items c.args.number c.index_mut-brick.result.now _ c.index_mut-brick.ensures.value c.in-Up.is c.requires
    in
    let never : true ≡ false = sym (c.propose.ensures.only_halted halted) ∙ on.runs in
    cc
