-- A command is its range, at the port of the first brick.
use Rattle.std.proofs.Common.{◌≡◌, ℕ, List, IfOk, IfErr, sym, subst}
use Rattle.fab_io.proofs.Told.{Stays-refl}
use Rattle.front.specs.Ranges.{Progress}
use Rattle.hosting.specs.Commanded.{IsRangeOf}
use Rattle.hosting.specs.Faults.{IsOther}
use Rattle.hosting.specs.Rounds.{Heard, RunsRange, StopsRange, Took, told}
use Rattle.hosting.proofs.Stopping.{Keeps, StopsRange-none}
use Rattle.nbd_front.specs.Sessions.{AskedCommand, asked_of}
use Rattle.nbd_hosting.specs.Serving.{range_of}
use Rattle.nbd_hosting.proofs.Standings.{IsRangeOf-asked}
use Rattle.nbd_hosting.proofs.sessions.run_command.Goals as goal

pub run_range-requires-clause-parts : goal.run_range-requires-clause-parts
run_range-requires-clause-parts g c =
    let layout = c.args.layout.now in
    let asked : c.in-Ok.range ≡ range_of layout (asked_of c.args.session.now) =
    subst (λ (a : AskedCommand). c.in-Ok.range ≡ range_of layout a) c.command.ensures c.in-Ok.ensures in
    subst (IsRangeOf layout) (sym asked) (IsRangeOf-asked layout (asked_of c.args.session.now) c.bricks.ensures.limits)

pub returns-in-Ok-clause-runs : goal.returns-in-Ok-clause-runs
returns-in-Ok-clause-runs g c =
    let layout = c.args.layout.now in
    let old = c.args.client.now in
    let new = c.run_range.new.self in
    let before = told (g.L.Link.waiting old.end.link) (g.L.Link.sent old.end.link) in
    let after = told (g.L.Link.waiting new.end.link) (g.L.Link.sent new.end.link) in
    let asked : c.in-Ok.range ≡ range_of layout (asked_of c.args.session.now) =
    subst (λ (a : AskedCommand). c.in-Ok.range ≡ range_of layout a) c.command.ensures c.in-Ok.ensures in
    subst (λ (p : ℕ). IfOk c.run_range.result (λ answer. (rounds : List Heard) × RunsRange p (range_of layout (asked_of c.args.session.now)) old.end.sent
    new.end.sent old.turns new.turns before after rounds answer × Took g.B.Bricks.takes rounds old.bricks new.bricks)) c.port-port.ensures.value
    (subst (λ (r : Progress). IfOk c.run_range.result (λ answer. (rounds : List Heard) × RunsRange c.port-port.result r old.end.sent new.end.sent old.turns new.turns
    before after rounds answer × Took g.B.Bricks.takes rounds old.bricks new.bricks)) asked c.run_range.ensures.runs)

pub returns-in-Ok-clause-stopped : goal.returns-in-Ok-clause-stopped
returns-in-Ok-clause-stopped g c =
    let layout = c.args.layout.now in
    let old = c.args.client.now in
    let new = c.run_range.new.self in
    let before = told (g.L.Link.waiting old.end.link) (g.L.Link.sent old.end.link) in
    let after = told (g.L.Link.waiting new.end.link) (g.L.Link.sent new.end.link) in
    let asked : c.in-Ok.range ≡ range_of layout (asked_of c.args.session.now) =
    subst (λ (a : AskedCommand). c.in-Ok.range ≡ range_of layout a) c.command.ensures c.in-Ok.ensures in
    subst (λ (p : ℕ). IfErr c.run_range.result (StopsRange g.B.Bricks.takes g.B.Bricks.stops p (range_of layout (asked_of c.args.session.now)) old.end.sent
    old.turns before after old.bricks new.bricks)) c.port-port.ensures.value
    (subst (λ (r : Progress). IfErr c.run_range.result (StopsRange g.B.Bricks.takes g.B.Bricks.stops c.port-port.result r old.end.sent old.turns before after
    old.bricks new.bricks)) asked c.run_range.ensures.stopped)

pub returns-in-Err-clause-stopped : goal.returns-in-Err-clause-stopped
returns-in-Err-clause-stopped g c =
    let old = c.args.client.now in
    let at = told (g.L.Link.waiting old.end.link) (g.L.Link.sent old.end.link) in
    StopsRange-none g.B.Bricks.takes g.B.Bricks.stops _ _ old.end.sent old.turns at at old.bricks c.from.result (Stays-refl _) (Stays-refl _)
    (subst IsOther (sym c.from.ensures) tt)

pub returns-in-Err-clause-bricks : goal.returns-in-Err-clause-bricks
returns-in-Err-clause-bricks g c = Keeps g.B.Bricks.sound _ _ _ (λ s. s) (subst IsOther (sym c.from.ensures) tt)
