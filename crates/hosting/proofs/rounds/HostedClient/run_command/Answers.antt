-- A command is its range, at the port of its brick.
use Rattle.std.proofs.Common.{ℕ, List, IfOk, IfErr, sym, subst}
use Rattle.fab_io.proofs.Told.{Stays-refl}
use Rattle.front.specs.Ranges.{Progress}
use Rattle.hosting.specs.Commanded.{opened, IsRangeOf}
use Rattle.hosting.specs.Faults.{IsOther}
use Rattle.hosting.specs.Rounds.{Heard, RunsRange, StopsRange, Took, told}
use Rattle.hosting.proofs.Stopping.{Keeps, StopsRange-none}
use Rattle.hosting.proofs.Wanting.{IsRangeOf-opened}
use Rattle.hosting.proofs.rounds.HostedClient.run_command.Goals as goal

pub run_range-requires-clause-parts : goal.run_range-requires-clause-parts
run_range-requires-clause-parts g c =
    subst (IsRangeOf c.args.layout.now) (sym c.in-Ok.ensures) (IsRangeOf-opened c.args.layout.now c.args.command.now c.bricks.ensures.limits)

pub returns-in-Ok-clause-runs : goal.returns-in-Ok-clause-runs
returns-in-Ok-clause-runs g c =
    let old = c.args.self.now in
    let new = c.run_range.new.self in
    let before = told (g.L.Link.waiting old.end.link) (g.L.Link.sent old.end.link) in
    let after = told (g.L.Link.waiting new.end.link) (g.L.Link.sent new.end.link) in
    subst (λ (p : ℕ). IfOk c.run_range.result (λ answer. (rounds : List Heard) × RunsRange p (opened c.args.layout.now c.args.command.now) old.end.sent new.end.sent
    old.turns new.turns before after rounds answer × Took g.B.Bricks.takes rounds old.bricks new.bricks)) c.port_of-port.ensures
    (subst (λ (r : Progress). IfOk c.run_range.result (λ answer. (rounds : List Heard) × RunsRange c.port_of-port.result r old.end.sent new.end.sent old.turns new.turns
    before after rounds answer × Took g.B.Bricks.takes rounds old.bricks new.bricks)) c.in-Ok.ensures c.run_range.ensures.runs)

pub returns-in-Ok-clause-stopped : goal.returns-in-Ok-clause-stopped
returns-in-Ok-clause-stopped g c =
    let old = c.args.self.now in
    let new = c.run_range.new.self in
    let before = told (g.L.Link.waiting old.end.link) (g.L.Link.sent old.end.link) in
    let after = told (g.L.Link.waiting new.end.link) (g.L.Link.sent new.end.link) in
    subst (λ (p : ℕ). IfErr c.run_range.result (StopsRange g.B.Bricks.takes g.B.Bricks.stops p (opened c.args.layout.now c.args.command.now) old.end.sent old.turns
    before after old.bricks new.bricks)) c.port_of-port.ensures
    (subst (λ (r : Progress). IfErr c.run_range.result (StopsRange g.B.Bricks.takes g.B.Bricks.stops c.port_of-port.result r old.end.sent old.turns before after
    old.bricks new.bricks)) c.in-Ok.ensures c.run_range.ensures.stopped)

pub returns-in-Err-clause-stopped : goal.returns-in-Err-clause-stopped
returns-in-Err-clause-stopped g c =
    let old = c.args.self.now in
    let at = told (g.L.Link.waiting old.end.link) (g.L.Link.sent old.end.link) in
    StopsRange-none g.B.Bricks.takes g.B.Bricks.stops _ _ old.end.sent old.turns at at old.bricks c.from.result (Stays-refl _) (Stays-refl _)
    (subst IsOther (sym c.from.ensures) tt)

pub returns-in-Err-clause-bricks : goal.returns-in-Err-clause-bricks
returns-in-Err-clause-bricks g c = Keeps g.B.Bricks.sound _ _ _ (λ s. s) (subst IsOther (sym c.from.ensures) tt)
