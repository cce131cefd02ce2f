-- A change of a log is taken where it can be, and else the list ends before it.
use Rattle.std.proofs.Common.{Some, sym, arith}
use Rattle.frame_store.specs.Listed.{frame_of}
use Rattle.brick_state.specs.Indexes.{state_of, limits_of}
use Rattle.stamp_store.proofs.Fields.{IsBytes}
use Rattle.brick_state.specs.declared.records.Record.TheVariants as forms
use Rattle.brick_store.proofs.Reading.{logged_is, logged_next}
use Rattle.brick_store.proofs.Taking.{answered_takes, logged_record}
use Rattle.brick_store.proofs.readings.take_logged.Goals as goal

pub returns-in-Some-clause-takes : goal.returns-in-Some-clause-takes
returns-in-Some-clause-takes c =
    let bytes : IsBytes c.args.body.now = λ i. omega (arith, c.type_inv.body i) in
    let logged = c.in-Some.logged in
    answered_takes (limits_of c.args.index.now) (frame_of c.args.kind c.args.body.now) (forms.Logged logged) (state_of c.args.index.now)
    (state_of c.apply_logged.new.self) c.apply_logged.result
    (sym (logged_next c.args.kind c.args.body.now logged (logged_record c.args.kind c.args.body.now logged c.in-Some.ensures.found)
    (logged_is c.args.kind c.args.body.now (Some logged) bytes c.in-Some.ensures.found c.in-Some.ensures.only))) tt
    c.apply_logged.ensures.answer c.apply_logged.ensures.refused
