use Rattle.std.proofs.Common.{arith}
use Rattle.replay.proofs.Printing.{Prints-text}
use Rattle.replay.proofs.Rests.{PrintsRest-ended, PrintsRest-many}
use Rattle.replay.proofs.turns.take_last_turn.Goals as goal

pub returns-in-Ended-clause-rest : goal.returns-in-Ended-clause-rest
returns-in-Ended-clause-rest g c = λ left rest given.
    let says = rw c.in-Ended.is at given in
    PrintsRest-ended _ _ _ _ _ _ (omega arith) says.0 c.finish.ensures.told c.finish.ensures.content

pub returns-clause-rest : goal.returns-clause-rest
returns-clause-rest g c = λ left rest says.
    PrintsRest-many _ _ _ _ _ _ _ says c.in_default.not-Ended
    (Prints-text _ _ _ _ _ _ c.as_slice.ensures c.close.ensures.content)
