-- The bricks that took their turns so far.
use Rattle.std.proofs.Common.{Ok, Err, MatchResult, set, sym, subst, arith}
use Rattle.std.proofs.lemmas.Result.{err_from_is_err_and}
use Rattle.hosting.specs.Hosted.{Hosted, TurnsAs, IsTurn, TakeTurns, StopTurns}
use Rattle.hosting.proofs.Stopping.{at_exit}
use Rattle.hosting.proofs.Turning.{HaveTaken-none, HaveTaken-more, HaveTaken-stop, HaveTaken-all}
use Rattle.hosting.proofs.hosted_bricks.take_turns.Goals as goal

pub loop-brick-init : goal.loop-brick-init
loop-brick-init g c = HaveTaken-none g.D.Disk g.L.Link g.C.Clock c.args.bricks.now c.args.clock.now

pub loop-brick-preserved : goal.loop-brick-preserved
loop-brick-preserved g c =
    HaveTaken-more g.D.Disk g.L.Link g.C.Clock c.args.bricks.now c.loop-brick.bricks c.args.clock.now c.loop-brick.clock c.take_turn.new.clock
    c.loop-brick.brick-index c.brick-item.result c.take_turn.new.self (omega arith) c.brick-item.is c.in_ok-take_turn.field-0 c.loop-brick.invariant
    (subst (λ (b : Hosted g.row.D.Denot g.row.L.Denot). TurnsAs g.D.Disk g.L.Link g.C.Clock b c.take_turn.new.self c.loop-brick.clock c.take_turn.new.clock
    (Ok c.in_ok-take_turn.field-0)) (sym c.brick-item.is) c.in_ok-take_turn.ensures)

pub returns-in_err-take_turn : goal.returns-in_err-take_turn
returns-in_err-take_turn g c =
    let q = err_from_is_err_and c.from_residual.result c.from_residual.ensures.1 in
    let met = c.in_err-take_turn.field-0.0 in
    let old = c.args.clock.now in
    let new = c.take_turn.new.clock in
    let after = set c.loop-brick.bricks c.loop-brick.brick-index c.take_turn.new.self in
    at_exit c.from_residual.result met
    (λ r. MatchResult r (λ _. TakeTurns g.D.Disk g.L.Link g.C.Clock c.args.bricks.now after old new)
    (λ fault. StopTurns g.D.Disk g.L.Link g.C.Clock fault c.args.bricks.now after old new)) q.0 q.1 q.2
    (HaveTaken-stop g.D.Disk g.L.Link g.C.Clock c.args.bricks.now c.loop-brick.bricks old c.loop-brick.clock new c.loop-brick.brick-index c.brick-item.result
    c.take_turn.new.self (omega arith) c.brick-item.is met c.loop-brick.invariant
    (subst (λ (b : Hosted g.row.D.Denot g.row.L.Denot). IsTurn g.D.Disk g.L.Link g.C.Clock b c.take_turn.new.self c.loop-brick.clock new (Err met))
    (sym c.brick-item.is) c.in_err-take_turn.ensures))

pub returns : goal.returns
returns g c =
    HaveTaken-all g.D.Disk g.L.Link g.C.Clock c.args.bricks.now c.loop-brick.bricks c.args.clock.now c.loop-brick.clock c.loop-brick.brick-index
    c.loop-brick.invariant (omega arith)
