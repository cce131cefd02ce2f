-- A brick that said that it serves, and its turns.
use Rattle.std.proofs.Common.{inr, sym, ap, ◌∙◌, subst}
use Rattle.fab_base.proofs.Keeping.{Kept-narrower}
use Rattle.std.specs.Io.KnownBytes.{Appends}
use Rattle.fab_base.specs.declared.identities.BrickId.{BrickId}
use Rattle.brick.specs.Endings.{status_of, serving_text, IsDone}
use Rattle.brick.specs.Views.{views}
use Rattle.brick.proofs.Turning.{rose_at, turns_not_sink, turns_done, not_disk_turns}
use Rattle.brick.proofs.serves.serve_turns.Goals as goal

pub returns-in-Ok : goal.returns-in-Ok
returns-in-Ok g c =
    let d = g.D.Disk in
    let l = g.L.Link in
    let k = g.C.Clock in
    let turns = c.serve.ensures in
    record {
      serves = inr (record {
        result = c.serve.result;
        says = subst (λ (b : BrickId). Appends (g.K.Sink.told c.args.out.now) (g.K.Sink.told c.say_serving.new.out) (serving_text b)) c.me.ensures
            c.in-Ok.ensures.content;
        served = turns.served c.requires;
        spelled = turns.spelled c.requires;
        rose = rose_at (views d l k) c.args.node.now.brick.disk
            c.serve.new.node.brick.disk c.args.link.now c.serve.new.link c.args.clock.now c.serve.new.clock c.serve.result turns.disk.rose turns.link.rose turns.clock.rose;
        ends = c.ending_of.ensures;
      });
      same = turns.same;
      runs = λ not. turns.runs c.requires (not_disk_turns c.args.turns c.serve.result (λ e. not (c.ending_of.ensures ∙ e)));
      disk = turns.disk.stays;
      link = turns.link.stays;
      clock = turns.clock.stays;
      sink = Kept-narrower (λ e. absurd (turns_not_sink c.args.turns c.serve.result (ap status_of (sym c.ending_of.ensures) ∙ e))) c.in-Ok.ensures.kept;
      done = λ disk link clock sink. subst IsDone (sym c.ending_of.ensures)
          (turns_done c.args.turns c.serve.result (turns.sound c.requires disk link clock));
    }
