-- The step is one of no event, and what is suspected has changed as the line says.
use Rattle.std.proofs.Common.{true, ℕ, sym, ap, ◌∙◌, subst}
use Rattle.world.specs.Runs.{Run, Course}
use Rattle.world.specs.Shown.{disks_of}
use Rattle.world.specs.Standing.{run_of}
use Rattle.world.specs.Steps.{RunsTo}
use Rattle.world.specs.Suspected.{has_both, suspected_after}
use Rattle.world.specs.declared.simulations.Outcome.{Outcome}
use Rattle.world.proofs.RunLemmas.{disks_shown, grows_passed, shows_passed, suspect_runs, suspects_passed}
use Rattle.world.proofs.Suspecting.{bricks_of, few_suspicions, noted_asked}
use Rattle.world.proofs.worlds.World.suspect.Goals as goal

pub invariant_of-self : goal.invariant_of-self
invariant_of-self c =
    let few = few_suspicions (run_of c.self.inside) c.self.inside.spares c.self.invariant.suspects c.bricks.ensures.limits in
    let noted =
    noted_asked c.self.inside.spares c.suspect-both.new.self c.member_no.result c.member_no-2.result c.args.by c.args.brick true c.suspect-both.result
    c.member_no.ensures c.member_no-2.ensures few c.suspect-both.ensures.both c.suspect-both.ensures.noted c.suspect-both.ensures.idle in
    record {
      shows = shows_passed c.self.inside.layout c.self.inside.simulation c.ended-self-inside.result c.args.line.now _ c.self.invariant.ended
          c.ended-self-inside.ensures c.self.view_is c.self.invariant.shows;
      suspects = suspects_passed c.self.inside.layout c.self.inside.simulation c.ended-self-inside.result c.args.line.now _ c.self.invariant.ended
          c.ended-self-inside.ensures c.self.view_is c.self.invariant.shows c.self.inside.spares c.suspect-both.new.self c.self.invariant.suspects
          (noted.0 ∙ sym (ap (suspected_after c.self.inside.spares) c.requires));
      ended = ap (λ (course : Course). course.events) c.ended-self-inside.ensures;
    }

pub returns-clause-ok : goal.returns-clause-ok
returns-clause-ok c =
    let few = few_suspicions (run_of c.self.inside) c.self.inside.spares c.self.invariant.suspects c.bricks.ensures.limits in
    let noted =
    noted_asked c.self.inside.spares c.suspect-both.new.self c.member_no.result c.member_no-2.result c.args.by c.args.brick true c.suspect-both.result
    c.member_no.ensures c.member_no-2.ensures few c.suspect-both.ensures.both c.suspect-both.ensures.noted c.suspect-both.ensures.idle in
    let count = ap (λ s. s.bricks) c.self.invariant.suspects ∙ bricks_of (run_of c.self.inside) in
    let after : Run =
    record {
      layout = c.self.inside.layout;
      steps = c.ended-self-inside.result.course.steps;
      disks = disks_of c.self.inside.simulation.bricks.items;
    } in
    subst (λ (outcome : Outcome). RunsTo c.args.self.now after c.args.line.now outcome) (sym c.done_if.ensures)
    (suspect_runs c.self.inside.layout c.self.inside.simulation c.ended-self-inside.result c.args.line.now _ c.self.invariant.ended
    c.ended-self-inside.ensures c.self.view_is c.self.invariant.shows c.args.by c.args.brick c.suspect-both.result c.requires
    (noted.1 ∙ ap (λ (n : ℕ). has_both n c.args.by c.args.brick) count))

pub returns-clause-disks : goal.returns-clause-disks
returns-clause-disks c =
    disks_shown c.self.inside.layout (record c.self.inside.simulation { trail = c.ended-self-inside.result }) c.ended-self-inside.result.course.steps
    (shows_passed c.self.inside.layout c.self.inside.simulation c.ended-self-inside.result c.args.line.now _ c.self.invariant.ended
    c.ended-self-inside.ensures c.self.view_is c.self.invariant.shows)

pub returns-clause-grow : goal.returns-clause-grow
returns-clause-grow c =
    grows_passed c.self.inside.layout c.self.inside.simulation c.ended-self-inside.result c.args.line.now _ c.self.invariant.ended
    c.ended-self-inside.ensures c.self.view_is c.self.invariant.shows
