-- The line of the list was run in the simulation, or there is no list, and nothing was.
use Rattle.std.proofs.Common.{sym, ap, ◌∙◌, subst}
use Rattle.lines.specs.declared.forms.Line.{Line}
use Rattle.lines.specs.declared.forms.Line.TheVariants.{Propose}
use Rattle.stripe_code.specs.Codes.{coding}
use Rattle.protocol.specs.Worlds.{World}
use Rattle.world.specs.Runs.{Course, world_of}
use Rattle.world.specs.Disks.{ShowsDisks}
use Rattle.world.specs.Shown.{Shows, disks_of}
use Rattle.world.specs.Standing.{run_of}
use Rattle.world.specs.Suspected.{suspected_after, spare_list}
use Rattle.world.specs.Texts.{line_text}
use Rattle.world.specs.declared.trails.Trail.{Trail}
use Rattle.world.proofs.RunLemmas.{all_grow, at_rest, disks_shown, grows_passed, idle_runs, leaves_none, proposal_text, runs_to, shows_kept, shows_passed, shows_ran, suspects_kept, suspects_passed, suspects_ran}
use Rattle.world.proofs.Suspecting.{no_list, stands_for}
use Rattle.world.proofs.worlds.World.spare.Goals as goal

-- no seat changes
pub invariant_of-self : goal.invariant_of-self
invariant_of-self c =
    record {
      shows = shows_passed c.self.inside.layout c.self.inside.simulation c.ended-self-inside.result c.args.line.now _ c.self.invariant.ended
          c.ended-self-inside.ensures c.self.view_is c.self.invariant.shows;
      suspects = suspects_passed c.self.inside.layout c.self.inside.simulation c.ended-self-inside.result c.args.line.now _ c.self.invariant.ended
          c.ended-self-inside.ensures c.self.view_is c.self.invariant.shows c.self.inside.spares c.self.inside.spares c.self.invariant.suspects
          (sym (ap (suspected_after c.self.inside.spares) c.requires));
      ended = ap (λ (course : Course). course.events) c.ended-self-inside.ensures;
    }

pub returns-in_default-clause-ok : goal.returns-in_default-clause-ok
returns-in_default-clause-ok c =
    idle_runs c.self.inside.layout c.self.inside.simulation c.ended-self-inside.result c.args.line.now _ c.self.invariant.ended
    c.ended-self-inside.ensures c.self.view_is c.self.invariant.shows c.args.brick c.args.group c.requires
    (no_list (spare_list c.args.self.now c.args.brick c.args.group) (sym c.in_default.is ∙ c.in_ok-members.ensures))

pub returns-in_default-clause-grow : goal.returns-in_default-clause-grow
returns-in_default-clause-grow c =
    grows_passed c.self.inside.layout c.self.inside.simulation c.ended-self-inside.result c.args.line.now _ c.self.invariant.ended
    c.ended-self-inside.ensures c.self.view_is c.self.invariant.shows

pub returns-in_default-clause-disks : goal.returns-in_default-clause-disks
returns-in_default-clause-disks c =
    (idle_runs c.self.inside.layout c.self.inside.simulation c.ended-self-inside.result c.args.line.now _ c.self.invariant.ended
    c.ended-self-inside.ensures c.self.view_is c.self.invariant.shows c.args.brick c.args.group c.requires
    (no_list (spare_list c.args.self.now c.args.brick c.args.group) (sym c.in_default.is ∙ c.in_ok-members.ensures))).runs.shows

-- the list was proposed, or refused
pub run-requires-clause-stands : goal.run-requires-clause-stands
run-requires-clause-stands c =
    subst (λ (v : World). Shows c.self.inside.layout c.self.inside.simulation v)
    (sym (at_rest c.self.inside.layout c.self.inside.simulation.trail.course c.self.invariant.ended)) c.self.invariant.shows

pub invariant_of-self-in-Ok : goal.invariant_of-self-in-Ok
invariant_of-self-in-Ok c =
    record {
      shows = shows_ran c.self.inside.layout c.self.inside.simulation c.run.new.self c.ended-self-inside-in-Ok.result c.args.line.now
          (Propose c.args.brick c.args.group c.in-Some.members) _ c.self.invariant.ended c.ended-self-inside-in-Ok.ensures c.self.view_is c.in-Ok.outcome
          c.in-Ok.ensures.ok;
      suspects = suspects_ran c.self.inside.layout c.self.inside.simulation c.run.new.self c.ended-self-inside-in-Ok.result c.args.line.now
          (Propose c.args.brick c.args.group c.in-Some.members) _ c.self.invariant.ended c.ended-self-inside-in-Ok.ensures c.self.view_is
          c.self.inside.spares c.in-Ok.outcome (ap (suspected_after c.self.inside.spares) c.requires) c.self.invariant.suspects c.in-Ok.ensures.ok;
      ended = ap (λ (course : Course). course.events) c.ended-self-inside-in-Ok.ensures;
    }

pub returns-in-Ok-clause-ok : goal.returns-in-Ok-clause-ok
returns-in-Ok-clause-ok c =
    runs_to c.self.inside.layout c.self.inside.simulation c.run.new.self c.ended-self-inside-in-Ok.result c.args.line.now
    (Propose c.args.brick c.args.group c.in-Some.members) _ c.self.invariant.ended c.ended-self-inside-in-Ok.ensures c.self.view_is c.in-Ok.outcome
    (stands_for c.args.self.now c.args.line.now c.args.brick c.args.group c.in-Some.members c.requires (sym c.in-Some.is ∙ c.in_ok-members.ensures))
    (λ events are.
    proposal_text c.self.inside.layout (world_of (run_of c.self.inside)) (disks_of c.self.inside.simulation.bricks.items) (disks_of c.run.new.self.bricks.items)
    c.args.brick c.args.group c.in-Some.members events are
    ∙ ap (λ (l : Line). line_text (coding c.self.inside.layout) (world_of (run_of c.self.inside)) l events) (sym c.requires))
    c.in-Ok.ensures.ok

pub returns-in-Ok-clause-grow : goal.returns-in-Ok-clause-grow
returns-in-Ok-clause-grow c =
    all_grow c.self.inside.layout c.self.inside.simulation c.run.new.self c.ended-self-inside-in-Ok.result c.args.line.now
    (Propose c.args.brick c.args.group c.in-Some.members) _ c.self.invariant.ended c.ended-self-inside-in-Ok.ensures c.self.view_is c.in-Ok.outcome
    c.in-Ok.ensures.ok

pub returns-in-Ok-clause-disks : goal.returns-in-Ok-clause-disks
returns-in-Ok-clause-disks c =
    disks_shown c.self.inside.layout (record c.run.new.self { trail = c.ended-self-inside-in-Ok.result }) c.ended-self-inside-in-Ok.result.course.steps
    (shows_ran c.self.inside.layout c.self.inside.simulation c.run.new.self c.ended-self-inside-in-Ok.result c.args.line.now
    (Propose c.args.brick c.args.group c.in-Some.members) _ c.self.invariant.ended c.ended-self-inside-in-Ok.ensures c.self.view_is c.in-Ok.outcome
    c.in-Ok.ensures.ok)

-- no memory was left, and nothing was run
pub invariant_of-self-in-Err : goal.invariant_of-self-in-Err
invariant_of-self-in-Err c =
    record {
      shows = shows_kept c.self.inside.layout c.self.inside.simulation c.run.new.self c.self.invariant.ended c.in-Err.ensures.err;
      suspects = suspects_kept c.self.inside.layout c.self.inside.simulation c.run.new.self c.self.invariant.ended c.in-Err.ensures.err
          c.self.inside.spares c.self.invariant.suspects;
      ended = ap (λ (trail : Trail). trail.course.events) c.in-Err.ensures.err.trail ∙ c.self.invariant.ended;
    }

pub returns-clause-err : goal.returns-clause-err
returns-clause-err c =
    leaves_none c.self.inside.layout c.self.inside.simulation c.run.new.self c.self.invariant.ended c.in-Err.ensures.err c.args.line.now _ c.self.view_is

pub returns-clause-disks : goal.returns-clause-disks
returns-clause-disks c =
    disks_shown c.self.inside.layout c.run.new.self c.run.new.self.trail.course.steps
    (shows_kept c.self.inside.layout c.self.inside.simulation c.run.new.self c.self.invariant.ended c.in-Err.ensures.err)

-- no memory was left for the list
pub returns-in_err-members-clause-disks : goal.returns-in_err-members-clause-disks
returns-in_err-members-clause-disks c =
    subst ShowsDisks c.self.view_is
    (disks_shown c.self.inside.layout c.self.inside.simulation c.self.inside.simulation.trail.course.steps c.self.invariant.shows)
