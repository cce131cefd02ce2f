use Rattle.std.proofs.Common.{IsTrue, ◌∙◌, rules}
use Rattle.fab_disk.proofs.medium.Medium.roll_back.Goals as goal

pub loop-preserved : goal.loop-preserved
loop-preserved c =
    let went : IsTrue c.undo_newest.result = search rules in
    record {
      undone = c.undo_newest.ensures.undone went ∙ c.loop.invariant.undone;
      room = λ calls bytes end had. c.undo_newest.ensures.room calls bytes end (c.loop.invariant.room calls bytes end had);
    }

pub returns-clause-room : goal.returns-clause-room
returns-clause-room c = λ calls bytes end had. c.undo_newest.ensures.room calls bytes end (c.loop.invariant.room calls bytes end had)
