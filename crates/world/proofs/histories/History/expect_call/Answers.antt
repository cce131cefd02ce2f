-- The room that was made is all that was.
use Rattle.std.proofs.Common.{refl}
use Rattle.world.proofs.HistoryLemmas.{same_then}
use Rattle.world.proofs.histories.History.expect_call.Goals as goal

pub returns-in_err-reserve-clause-same : goal.returns-in_err-reserve-clause-same
returns-in_err-reserve-clause-same c =
    same_then _ c.make_room.new.self _ c.make_room.ensures.same
    (record { sent = refl; reached = λ k. refl; marks = refl; reports = refl; operations = refl; marked = refl; calls = c.reserve.ensures.same })

pub returns-clause-same : goal.returns-clause-same
returns-clause-same c =
    same_then _ c.make_room.new.self _ c.make_room.ensures.same
    (record { sent = refl; reached = λ k. refl; marks = refl; reports = refl; operations = refl; marked = refl; calls = c.reserve.ensures.same })
