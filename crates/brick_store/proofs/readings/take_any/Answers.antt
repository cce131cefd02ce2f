-- A frame is taken where it is a record that can be, and else the list ends before it.
use Rattle.std.proofs.Common.{sym}
use Rattle.frame_store.specs.Listed.{frame_of}
use Rattle.brick_state.specs.Indexes.{state_of, limits_of}
use Rattle.brick_store.proofs.Taking.{answered_takes, unread_ends}
use Rattle.brick_store.proofs.readings.take_any.Goals as goal

pub returns-in-Some-clause-takes : goal.returns-in-Some-clause-takes
returns-in-Some-clause-takes c =
    answered_takes (limits_of c.args.index.now) (frame_of c.args.kind c.args.body.now) c.in-Some.record (state_of c.args.index.now)
    (state_of c.apply.new.self) c.apply.result (sym c.in-Some.ensures.found) c.in-Some.ensures.members c.apply.ensures.answer c.apply.ensures.refused

pub returns-in-None-clause-takes : goal.returns-in-None-clause-takes
returns-in-None-clause-takes c =
    unread_ends (limits_of c.args.index.now) (frame_of c.args.kind c.args.body.now) (state_of c.args.index.now) (sym c.in-None.ensures.found)
