use Rattle.trace.proofs.CalledEnds.{opens-text, opens-long, opens-endless}
use Rattle.trace.proofs.schedules.open.Goals as goal

pub returns-in-Text-clause-opens : goal.returns-in-Text-clause-opens
returns-in-Text-clause-opens g c =
    let head = rw c.in-Text.is at c.in_ok-text.ensures.head in
    opens-text _ _ _ _ c.opening_of.result (head.0, head.1) c.as_slice.ensures.value c.opening_of.ensures.opens

pub returns-in-Alone-clause-opens : goal.returns-in-Alone-clause-opens
returns-in-Alone-clause-opens g c =
    let head = rw c.in-Alone.is at c.in_ok-text.ensures.head in
    opens-text _ _ _ _ c.opening_of-in-Alone.result (head.0, head.1) c.as_slice-in-Alone.ensures.value c.opening_of-in-Alone.ensures.opens

pub returns-in-TooLong-clause-opens : goal.returns-in-TooLong-clause-opens
returns-in-TooLong-clause-opens g c =
    let head = rw c.in-TooLong.is at c.in_ok-text.ensures.head in
    opens-long _ _ c.no_opening.result head c.no_opening.ensures.refused

pub returns-in-Endless-clause-opens : goal.returns-in-Endless-clause-opens
returns-in-Endless-clause-opens g c =
    let head = rw c.in-Endless.is at c.in_ok-text.ensures.head in
    opens-endless _ _ c.no_opening-in-Endless.result head c.no_opening-in-Endless.ensures.refused
