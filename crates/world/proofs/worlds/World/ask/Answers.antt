-- The state shows the world that the run leaves, with or without the step.
use Rattle.std.proofs.Common.{refl, ap, ◌∙◌, sym, subst}
use Rattle.protocol.specs.Worlds.{World}
use Rattle.world.specs.Runs.{Course}
use Rattle.world.specs.Shown.{Shows}
use Rattle.world.specs.declared.trails.Trail.{Trail}
use Rattle.world.proofs.DeliveryLemmas.{calm_stops, other_stays}
use Rattle.world.proofs.RunLemmas.{all_grow, at_rest, disks_shown, leaves_none, leaves_part, runs_to, shows_kept, shows_ran, shows_short, suspects_kept, suspects_ran, suspects_short}
use Rattle.world.proofs.Suspecting.{asked_meant, asked_suspected}
use Rattle.world.proofs.worlds.World.ask.Goals as goal

pub run-requires-clause-stands : goal.run-requires-clause-stands
run-requires-clause-stands c =
    subst (λ (v : World). Shows c.self.inside.layout c.self.inside.simulation v)
    (sym (at_rest c.self.inside.layout c.self.inside.simulation.trail.course c.self.invariant.ended)) c.self.invariant.shows

pub invariant_of-self : goal.invariant_of-self
invariant_of-self c =
    record {
      shows = shows_ran c.self.inside.layout c.self.inside.simulation c.run.new.self c.ended-self-inside.result c.args.line.now c.args.line.now _
          c.self.invariant.ended c.ended-self-inside.ensures c.self.view_is c.in-Ok.outcome c.in-Ok.ensures.ok;
      suspects = suspects_ran c.self.inside.layout c.self.inside.simulation c.run.new.self c.ended-self-inside.result c.args.line.now c.args.line.now _
          c.self.invariant.ended c.ended-self-inside.ensures c.self.view_is c.self.inside.spares c.in-Ok.outcome
          (asked_suspected c.self.inside.spares c.args.line.now c.requires) c.self.invariant.suspects c.in-Ok.ensures.ok;
      ended = ap (λ (course : Course). course.events) c.ended-self-inside.ensures;
    }

pub returns-in-Ok-clause-ok : goal.returns-in-Ok-clause-ok
returns-in-Ok-clause-ok c =
    runs_to c.self.inside.layout c.self.inside.simulation c.run.new.self c.ended-self-inside.result c.args.line.now c.args.line.now _
    c.self.invariant.ended c.ended-self-inside.ensures c.self.view_is c.in-Ok.outcome (asked_meant c.args.self.now c.args.line.now c.requires) (λ events are. refl)
    c.in-Ok.ensures.ok

pub returns-in-Ok-clause-disks : goal.returns-in-Ok-clause-disks
returns-in-Ok-clause-disks c =
    (runs_to c.self.inside.layout c.self.inside.simulation c.run.new.self c.ended-self-inside.result c.args.line.now c.args.line.now _
    c.self.invariant.ended c.ended-self-inside.ensures c.self.view_is c.in-Ok.outcome (asked_meant c.args.self.now c.args.line.now c.requires) (λ events are. refl)
    c.in-Ok.ensures.ok).runs.shows

pub returns-in-Ok-clause-grow : goal.returns-in-Ok-clause-grow
returns-in-Ok-clause-grow c =
    all_grow c.self.inside.layout c.self.inside.simulation c.run.new.self c.ended-self-inside.result c.args.line.now c.args.line.now _
    c.self.invariant.ended c.ended-self-inside.ensures c.self.view_is c.in-Ok.outcome c.in-Ok.ensures.ok

-- no memory was left for the rest of what an operation was to do alone
pub invariant_of-self-in-Calm : goal.invariant_of-self-in-Calm
invariant_of-self-in-Calm c =
    let stops = calm_stops c.self.inside.layout c.self.inside.simulation c.run.new.self c.args.line.now _ _ c.in-Calm.is c.in-Err.ensures.err in
    record {
      shows = shows_short c.self.inside.layout c.self.inside.simulation c.run.new.self c.ended-self-inside-in-Calm.result c.args.line.now c.args.line.now _
          c.self.invariant.ended c.ended-self-inside-in-Calm.ensures c.self.view_is stops;
      suspects = suspects_short c.self.inside.layout c.self.inside.simulation c.run.new.self c.ended-self-inside-in-Calm.result c.args.line.now
          c.args.line.now _ c.self.invariant.ended c.ended-self-inside-in-Calm.ensures c.self.view_is c.self.inside.spares
          (asked_suspected c.self.inside.spares c.args.line.now c.requires) c.self.invariant.suspects stops;
      ended = ap (λ (course : Course). course.events) c.ended-self-inside-in-Calm.ensures;
    }

pub returns-in-Calm-clause-err : goal.returns-in-Calm-clause-err
returns-in-Calm-clause-err c =
    leaves_part c.self.inside.layout c.self.inside.simulation c.run.new.self c.ended-self-inside-in-Calm.result c.args.line.now c.args.line.now _
    c.self.invariant.ended c.ended-self-inside-in-Calm.ensures c.self.view_is refl
    (calm_stops c.self.inside.layout c.self.inside.simulation c.run.new.self c.args.line.now _ _ c.in-Calm.is c.in-Err.ensures.err)

pub returns-in-Calm-clause-disks : goal.returns-in-Calm-clause-disks
returns-in-Calm-clause-disks c =
    disks_shown c.self.inside.layout (record c.run.new.self { trail = c.ended-self-inside-in-Calm.result }) c.ended-self-inside-in-Calm.result.course.steps
    (shows_short c.self.inside.layout c.self.inside.simulation c.run.new.self c.ended-self-inside-in-Calm.result c.args.line.now c.args.line.now _
    c.self.invariant.ended c.ended-self-inside-in-Calm.ensures c.self.view_is
    (calm_stops c.self.inside.layout c.self.inside.simulation c.run.new.self c.args.line.now _ _ c.in-Calm.is c.in-Err.ensures.err))

-- or for another line, and nothing was run
pub invariant_of-self-in_default : goal.invariant_of-self-in_default
invariant_of-self-in_default c =
    let stays = other_stays c.self.inside.layout c.self.inside.simulation c.run.new.self c.args.line.now c.in_default.not-Calm c.in-Err.ensures.err in
    record {
      shows = shows_kept c.self.inside.layout c.self.inside.simulation c.run.new.self c.self.invariant.ended stays;
      suspects = suspects_kept c.self.inside.layout c.self.inside.simulation c.run.new.self c.self.invariant.ended stays c.self.inside.spares
          c.self.invariant.suspects;
      ended = ap (λ (trail : Trail). trail.course.events) stays.trail ∙ c.self.invariant.ended;
    }

pub returns-in_default-clause-err : goal.returns-in_default-clause-err
returns-in_default-clause-err c =
    leaves_none c.self.inside.layout c.self.inside.simulation c.run.new.self c.self.invariant.ended
    (other_stays c.self.inside.layout c.self.inside.simulation c.run.new.self c.args.line.now c.in_default.not-Calm c.in-Err.ensures.err)
    c.args.line.now _ c.self.view_is

pub returns-in_default-clause-disks : goal.returns-in_default-clause-disks
returns-in_default-clause-disks c =
    disks_shown c.self.inside.layout c.run.new.self c.run.new.self.trail.course.steps
    (shows_kept c.self.inside.layout c.self.inside.simulation c.run.new.self c.self.invariant.ended
    (other_stays c.self.inside.layout c.self.inside.simulation c.run.new.self c.args.line.now c.in_default.not-Calm c.in-Err.ensures.err))
