-- A count of openings is a record that can always be.
use Rattle.std.proofs.Common.{Some, None}
use Rattle.frame_store.specs.Listed.{frame_of}
use Rattle.brick_state.specs.Indexes.{state_of, limits_of}
use Rattle.stamp_store.specs.declared.kept_records.Kept.TheVariants.{Boot}
use Rattle.brick_state.specs.declared.records.Record.TheVariants as forms
use Rattle.brick_store.proofs.Taking.{answered_takes, unread_ends, boot_record}
use Rattle.brick_store.proofs.readings.take_boot.Goals as goal

pub returns-in-Some-clause-takes : goal.returns-in-Some-clause-takes
returns-in-Some-clause-takes c =
    answered_takes (limits_of c.args.index.now) (frame_of 1 c.args.body.now) (forms.Kept (Boot c.in-Some.count)) (state_of c.args.index.now)
    (state_of c.apply_boot.new.self) _ (boot_record c.args.body.now (Some c.in-Some.count) c.in-Some.ensures) tt
    c.apply_boot.ensures.answer (λ no. absurd cc)

pub returns-in-None-clause-takes : goal.returns-in-None-clause-takes
returns-in-None-clause-takes c =
    unread_ends (limits_of c.args.index.now) (frame_of 1 c.args.body.now) (state_of c.args.index.now)
    (boot_record c.args.body.now None c.in-None.ensures)
