-- The turns of the bricks, and what a fault of one is to their host.
use Rattle.std.proofs.Common.{◌≡◌, refl, IfErr, MatchResult}
use Rattle.std.proofs.lemmas.Result.{err_from_is_err_and}
use Rattle.serving.specs.declared.faults.ServeFault.{ServeFault}
use Rattle.hosting.specs.declared.faults.HostFault.TheVariants.{NoMemory}
use Rattle.hosting.specs.Faults.{AtBricks, fault_of}
use Rattle.hosting.specs.Hosted.{TakeTurns, StopTurns}
use Rattle.hosting.proofs.Stopping.{at_exit}
use Rattle.hosting.proofs.Turning.{of_bricks, sound_taken, sound_stopped}
use Rattle.hosting.proofs.hosted_bricks.TimedBricksBricks.take_turns.Goals as goal

pub returns-in_err-take_turns-clause-takes : goal.returns-in_err-take_turns-clause-takes
returns-in_err-take_turns-clause-takes g c =
    let q = err_from_is_err_and c.from_residual.result c.from_residual.ensures.1 in
    let met = c.in_err-take_turns.field-0.0 in
    let old = c.args.self.now in
    at_exit c.from_residual.result (fault_of met)
    (λ r. MatchResult r (λ _. TakeTurns g.D.Disk g.L.Link g.C.Clock old.bricks.bricks c.take_turns.new.self.bricks old.clock c.take_turns.new.clock)
    (λ fault. (m : ServeFault) × (fault ≡ fault_of m) × StopTurns g.D.Disk g.L.Link g.C.Clock m old.bricks.bricks c.take_turns.new.self.bricks old.clock c.take_turns.new.clock))
    q.0 q.1 q.2 (met, refl, c.in_err-take_turns.ensures.turns)

pub returns-in_err-take_turns-clause-only : goal.returns-in_err-take_turns-clause-only
returns-in_err-take_turns-clause-only g c =
    let q = err_from_is_err_and c.from_residual.result c.from_residual.ensures.1 in
    let met = c.in_err-take_turns.field-0.0 in
    at_exit c.from_residual.result (fault_of met) (λ r. IfErr r AtBricks) q.0 q.1 q.2 (of_bricks met)

pub returns-in_err-take_turns-clause-stays : goal.returns-in_err-take_turns-clause-stays
returns-in_err-take_turns-clause-stays g c = λ sound.
    (sound_stopped g.D.Disk g.L.Link g.C.Clock c.in_err-take_turns.field-0.0 c.args.self.now.bricks.bricks c.take_turns.new.self.bricks c.args.self.now.clock
    c.take_turns.new.clock c.in_err-take_turns.ensures.turns sound).0

pub returns-in_err-take_turns-clause-never : goal.returns-in_err-take_turns-clause-never
returns-in_err-take_turns-clause-never g c = λ sound.
    let q = err_from_is_err_and c.from_residual.result c.from_residual.ensures.1 in
    let met = c.in_err-take_turns.field-0.0 in
    at_exit c.from_residual.result (fault_of met) (λ r. IfErr r (λ fault. fault ≡ NoMemory)) q.0 q.1 q.2
    (sound_stopped g.D.Disk g.L.Link g.C.Clock met c.args.self.now.bricks.bricks c.take_turns.new.self.bricks c.args.self.now.clock c.take_turns.new.clock
    c.in_err-take_turns.ensures.turns sound).1

pub returns-clause-stays : goal.returns-clause-stays
returns-clause-stays g c = λ sound. sound_taken g.D.Disk g.L.Link g.C.Clock c.args.self.now.bricks.bricks c.take_turns.new.self.bricks c.args.self.now.clock c.take_turns.new.clock
    c.in_ok-take_turns.ensures.turns sound
