-- the next operation adds its entry, where it has one
use Rattle.std.proofs.Common.{List, ◌++◌, ◌+◌, Some, get_or, ap, sym, ◌∙◌}
use Rattle.reg_model.specs.declared.entries.Entry.{Entry}
use Rattle.protocol.specs.Happenings.{entry_at}
use Rattle.world.specs.Walks.{operation_of}
use Rattle.world.proofs.KeptOperations.{nothing_kept, entries_more}
use Rattle.world.proofs.stripe_entries.StripeEntries.gather.Goals as goal

pub loop-place-preserved : goal.loop-place-preserved
loop-place-preserved c g s =
    c.in_ok-note.ensures g s
    ∙ ap (λ (l : List Entry). l ++ entry_at g s (c.loop-place.place + 1)
    (Some (operation_of (get_or c.args.operations.now c.loop-place.place nothing_kept)))) (c.loop-place.invariant g s)
    ∙ sym (entries_more c.args.operations.now g s c.loop-place.place nothing_kept c.loop-place-test.true)
