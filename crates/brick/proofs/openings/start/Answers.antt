-- A store was opened, and the brick is what the disk showed, started once more; or it was refused.
use Rattle.std.proofs.Common.{⊎_elim, sym, ap, ◌∙◌, subst}
use Rattle.fab_base.specs.Layouts.{Layout}
use Rattle.node.specs.Openings.{stopped_by}
use Rattle.brick.specs.Endings.{status_of, IsDone}
use Rattle.brick.specs.Serves.{IsStarted, RefusesStore, MayStart}
use Rattle.brick.specs.Views.{views}
use Rattle.brick.proofs.Starting.{is_a_store, is_not_worn}
use Rattle.brick.proofs.Turning.{refuses, refusal_not_sink, refusal_done}
use Rattle.brick.proofs.openings.start.Goals as goal

pub returns-in-Ok-start-clause-starts : goal.returns-in-Ok-start-clause-starts
returns-in-Ok-start-clause-starts g c =
    let said = c.in-Ok-start.ensures in
    subst (λ (l : Layout). IsStarted (views g.H.Disk.Disk g.H.Link.Link g.H.Clock.Clock) l c.args.me c.args.disk c.in-Ok-start.node) c.in-Ok.ensures (record {
      layout_is = said.layout;
      me_is = said.me;
      runs = said.runs;
      found = λ tells. (let found = said.found tells in (found.before, found.found, found.not_worn));
      state = said.state;
      shows = λ tells. (said.stands tells).has;
      later = said.opens.cause.later;
    })

pub returns-in-Err-start-clause-refuses : goal.returns-in-Err-start-clause-refuses
returns-in-Err-start-clause-refuses g c =
    let d = g.H.Disk.Disk in
    let v = views d g.H.Link.Link g.H.Clock.Clock in
    let said = c.in-Err-start.ensures in
    subst (λ (l : Layout). RefusesStore v l c.args.me c.args.disk c.in-Err-start.disk c.refusal_of.result) c.in-Ok.ensures
    (subst (RefusesStore v c.in-Ok.copied c.args.me c.args.disk c.in-Err-start.disk) (sym c.refusal_of.ensures)
    (refuses v c.in-Ok.copied c.args.me d.moment d.left_since c.args.disk c.in-Err-start.disk c.in-Err-start.fault
    (λ is. said.opens.cause.rose (ap stopped_by is)) said.not_a_store (λ is told. let worn = said.worn is told in (worn.before, worn.found, worn.worn))
    (⊎_elim (λ is. said.opens.not_begun (ap stopped_by is)) (λ is. said.opens.not_begun (ap stopped_by is)))))

pub returns-in-Err-start-clause-done : goal.returns-in-Err-start-clause-done
returns-in-Err-start-clause-done g c = λ sound may.
    let d = g.H.Disk.Disk in
    let said = c.in-Err-start.ensures in
    let store = subst (λ (l : Layout). MayStart d.tells d.seen l c.args.me c.args.disk) (sym c.in-Ok.ensures) may in
    subst IsDone (sym c.refusal_of.ensures)
    (refusal_done c.in-Err-start.fault (λ e. said.opens.cause.never sound (ap stopped_by e))
    (λ e. is_a_store d.tells d.seen c.in-Ok.copied c.args.me c.args.disk _ store (said.not_a_store e))
    (λ e. is_not_worn d.tells d.seen c.in-Ok.copied c.args.me c.args.disk store
    (λ told. let worn = said.worn e told in (worn.before, worn.found, worn.worn))))

pub returns-in-Err-start-clause-sink : goal.returns-in-Err-start-clause-sink
returns-in-Err-start-clause-sink g c = λ e. refusal_not_sink c.in-Err-start.fault (ap status_of (sym c.refusal_of.ensures) ∙ e)
