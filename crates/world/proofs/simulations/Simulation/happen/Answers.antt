-- Each line but one that has an operation run alone is an event, or as its disk decides.
use Rattle.std.proofs.Common.{ℕ, List, map, None, refl, sym, subst}
use Rattle.std.specs.Prelude.{IfOk}
use Rattle.lines.specs.declared.forms.Line.{Line}
use Rattle.lines.specs.declared.forms.Line.TheVariants.{Invoke, SetClock, Tick, Crash, Propose, Sync, Scrub}
use Rattle.protocol.specs.Worlds.{Invokes, Proposes, Syncs, Scrubs, Sets, Ticks, Stops}
use Rattle.world.specs.Runs.{brick_of, ask_of, group_no, stripe_no, member_no, op_of}
use Rattle.world.specs.Shown.{IsOther, TakesEvent, RunsLine, world_in}
use Rattle.world.specs.declared.simulations.Outcome.TheVariants.{Marks}
use Rattle.world.proofs.DeliveryLemmas.{ok_each, takes_runs, nothing_comes}
use Rattle.world.proofs.simulations.Simulation.happen.Goals as goal

pub returns-in-Nothing-clause-ok : goal.returns-in-Nothing-clause-ok
returns-in-Nothing-clause-ok c =
    subst (λ (line : Line). RunsLine c.args.layout.now c.args.self.now c.args.self.now line Marks) (sym c.in-Nothing.is)
    (record { trail = refl; comes = nothing_comes c.args.layout.now (world_in c.args.layout.now c.args.self.now) c.args.self.now c.requires.stands })

pub returns-in-Invoke-clause-ok : goal.returns-in-Invoke-clause-ok
returns-in-Invoke-clause-ok c =
    subst (λ (line : Line). IfOk c.invoke.result (RunsLine c.args.layout.now c.args.self.now c.invoke.new.self line)) (sym c.in-Invoke.is)
    (ok_each c.invoke.result _ _
    (λ outcome. takes_runs c.args.layout.now c.args.self.now c.invoke.new.self (Invoke c.in-Invoke.brick c.in-Invoke.group c.in-Invoke.stripe c.in-Invoke.access)
    (Invokes (brick_of c.in-Invoke.brick) (ask_of c.in-Invoke.group c.in-Invoke.stripe (op_of c.in-Invoke.access))) outcome refl tt)
    c.invoke.ensures.ok)

pub returns-in-Propose-clause-ok : goal.returns-in-Propose-clause-ok
returns-in-Propose-clause-ok c =
    subst (λ (line : Line). IfOk c.propose.result (RunsLine c.args.layout.now c.args.self.now c.propose.new.self line)) (sym c.in-Propose.is)
    (ok_each c.propose.result _ _
    (λ outcome. takes_runs c.args.layout.now c.args.self.now c.propose.new.self (Propose c.in-Propose.brick c.in-Propose.group c.in-Propose.members)
    (Proposes (brick_of c.in-Propose.brick) (group_no c.in-Propose.group) (map member_no c.in-Propose.members)) outcome refl tt)
    (subst (λ (members : List ℕ). IfOk c.propose.result (TakesEvent c.args.layout.now c.args.self.now c.propose.new.self
    (Proposes (brick_of c.in-Propose.brick) (group_no c.in-Propose.group) (map member_no members)))) c.as_slice.ensures c.propose.ensures.ok))

pub returns-in-Sync-clause-ok : goal.returns-in-Sync-clause-ok
returns-in-Sync-clause-ok c =
    subst (λ (line : Line). IfOk c.sync.result (RunsLine c.args.layout.now c.args.self.now c.sync.new.self line)) (sym c.in-Sync.is)
    (ok_each c.sync.result _ _
    (λ outcome. takes_runs c.args.layout.now c.args.self.now c.sync.new.self (Sync c.in-Sync.brick c.in-Sync.group)
    (Syncs (brick_of c.in-Sync.brick) (group_no c.in-Sync.group)) outcome refl tt)
    c.sync.ensures.ok)

pub returns-in-Scrub-clause-ok : goal.returns-in-Scrub-clause-ok
returns-in-Scrub-clause-ok c =
    subst (λ (line : Line). IfOk c.scrub.result (RunsLine c.args.layout.now c.args.self.now c.scrub.new.self line)) (sym c.in-Scrub.is)
    (ok_each c.scrub.result _ _
    (λ outcome. takes_runs c.args.layout.now c.args.self.now c.scrub.new.self (Scrub c.in-Scrub.brick c.in-Scrub.group c.in-Scrub.stripe c.in-Scrub.members)
    (Scrubs (brick_of c.in-Scrub.brick) (group_no c.in-Scrub.group) (stripe_no c.in-Scrub.stripe) (map member_no c.in-Scrub.members)) outcome refl tt)
    (subst (λ (members : List ℕ). IfOk c.scrub.result (TakesEvent c.args.layout.now c.args.self.now c.scrub.new.self
    (Scrubs (brick_of c.in-Scrub.brick) (group_no c.in-Scrub.group) (stripe_no c.in-Scrub.stripe) (map member_no members)))) c.as_slice-in-Scrub.ensures
    c.scrub.ensures.ok))

pub returns-in-Tick-clause-ok : goal.returns-in-Tick-clause-ok
returns-in-Tick-clause-ok c =
    subst (λ (line : Line). IfOk c.tick.result (RunsLine c.args.layout.now c.args.self.now c.tick.new.self line)) (sym c.in-Tick.is)
    (ok_each c.tick.result _ _
    (λ outcome. takes_runs c.args.layout.now c.args.self.now c.tick.new.self (Tick c.in-Tick.brick)
    (Ticks (brick_of c.in-Tick.brick)) outcome refl tt)
    c.tick.ensures.ok)

pub returns-in-Crash-clause-ok : goal.returns-in-Crash-clause-ok
returns-in-Crash-clause-ok c =
    subst (λ (line : Line). IfOk c.crash.result (RunsLine c.args.layout.now c.args.self.now c.crash.new.self line)) (sym c.in-Crash.is)
    (ok_each c.crash.result _ _
    (λ outcome takes. takes_runs c.args.layout.now c.args.self.now c.crash.new.self (Crash c.in-Crash.brick) (Stops (brick_of c.in-Crash.brick) None) outcome (refl, takes.disks) tt takes)
    c.crash.ensures.ok)

pub returns-in-Deliver-clause-ok : goal.returns-in-Deliver-clause-ok
returns-in-Deliver-clause-ok c =
    subst (λ (line : Line). IfOk c.deliver.result (RunsLine c.args.layout.now c.args.self.now c.deliver.new.self line)) (sym c.in-Deliver.is) c.deliver.ensures.ok

pub returns-in-Start-clause-ok : goal.returns-in-Start-clause-ok
returns-in-Start-clause-ok c =
    subst (λ (line : Line). IfOk c.start.result (RunsLine c.args.layout.now c.args.self.now c.start.new.self line)) (sym c.in-Start.is) c.start.ensures.ok

pub returns-in-SetClock-clause-ok : goal.returns-in-SetClock-clause-ok
returns-in-SetClock-clause-ok c =
    subst (λ (line : Line). RunsLine c.args.layout.now c.args.self.now c.set_clock.new.self line c.set_clock.result) (sym c.in-SetClock.is)
    (takes_runs c.args.layout.now c.args.self.now c.set_clock.new.self (SetClock c.in-SetClock.brick c.in-SetClock.time)
    (Sets (brick_of c.in-SetClock.brick) c.in-SetClock.time) c.set_clock.result refl tt c.set_clock.ensures)

pub unreachable-requires : goal.unreachable-requires
unreachable-requires c = subst IsOther c.in-Suspect.is c.requires.line

pub unreachable-requires-in-Trust : goal.unreachable-requires-in-Trust
unreachable-requires-in-Trust c = subst IsOther c.in-Trust.is c.requires.line

pub unreachable-requires-in-Spare : goal.unreachable-requires-in-Spare
unreachable-requires-in-Spare c = subst IsOther c.in-Spare.is c.requires.line

pub unreachable-requires-in-Calm : goal.unreachable-requires-in-Calm
unreachable-requires-in-Calm c = subst IsOther c.in-Calm.is c.requires.line
