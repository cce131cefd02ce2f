-- An order stamp is taken where there may be one, and else the list ends before it.
use Rattle.std.proofs.Common.{Some, None}
use Rattle.frame_store.specs.Listed.{frame_of}
use Rattle.brick_state.specs.Indexes.{state_of, limits_of}
use Rattle.stamp_store.specs.declared.kept_records.Kept.TheVariants.{Order}
use Rattle.brick_state.specs.declared.records.Record.TheVariants as forms
use Rattle.brick_store.proofs.Taking.{answered_takes, unread_ends, order_record}
use Rattle.brick_store.proofs.readings.take_order.Goals as goal

pub returns-in-Some-clause-takes : goal.returns-in-Some-clause-takes
returns-in-Some-clause-takes c =
    answered_takes (limits_of c.args.index.now) (frame_of 4 c.args.body.now)
    (forms.Kept (Order c.in-Some.group c.in-Some.view c.in-Some.stripe c.in-Some.stamp)) (state_of c.args.index.now)
    (state_of c.apply_order.new.self) c.apply_order.result
    (order_record c.args.body.now (Some (c.in-Some.group, (c.in-Some.view, (c.in-Some.stripe, c.in-Some.stamp)))) c.in-Some.ensures) tt
    c.apply_order.ensures.answer c.apply_order.ensures.refused

pub returns-in-None-clause-takes : goal.returns-in-None-clause-takes
returns-in-None-clause-takes c =
    unread_ends (limits_of c.args.index.now) (frame_of 4 c.args.body.now) (state_of c.args.index.now)
    (order_record c.args.body.now None c.in-None.ensures)
