-- The version that is added is the change of the log.
use Rattle.std.proofs.Common.{Bool, ap, ◌∙◌}
use Rattle.stamp_store.specs.declared.log_records.LogChange.TheVariants.{Slot}
use Rattle.brick_state.specs.Indexes.{state_of, limits_of}
use Rattle.brick_state.proofs.Applying.{added_answer}
use Rattle.brick_state.proofs.indexes.Index.add_listed.Goals as goal

pub returns-else-bottom-clause-added : goal.returns-else-bottom-clause-added
returns-else-bottom-clause-added c = λ done.
    let e = c.add_entry.ensures in
    added_answer (limits_of c.args.self.now) c.args.logged.now c.in-Slot.slot (state_of c.args.self.now) (state_of c.add_entry.new.self)
    (c.in-Slot.is ∙ ap (λ (b : Bool). Slot b c.in-Slot.slot) c.if-bottom.false)
    (e.group done) (e.free done) (e.slot done) (e.above done) (e.added done)
