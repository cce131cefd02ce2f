use Rattle.std.proofs.Common.{rules, ◌≡◌, ℕ, ◌++◌, List, take, ap, ◌∙◌, subst, true}
use Rattle.std.proofs.lemmas.List.{take_min}
use Rattle.std.proofs.lemmas.Result.{IfErr-at_err}
use Rattle.fab_io.specs.Calls.{FailsNext}
use Rattle.fab_io.specs.Memory.{SinkInMemory, after_failed_write}
use Rattle.fab_io.proofs.Copies.{sink_by_parts}
use Rattle.fab_io.proofs.memory.MemSinkSink.write.Goals as goal
use Rattle.fab_io.proofs.memory.MemSinkSink.write.Goals.{then-fails_next, else-fails_next}

pub returns-clause-fails : goal.returns-clause-fails
returns-clause-fails c = λ failed. subst (λ (s : SinkInMemory). FailsNext s.calls) c.self.view_is (c.count.ensures.fails.0 failed)

pub returns-clause-failed : goal.returns-clause-failed
returns-clause-failed c = λ failed.
    let from : List ℕ = c.args.from.now in
    let calls = IfErr-at_err _ failed c.count.ensures.err in
    elim c.if-fails_next.branch [
      | then-fails_next w ↦
          let part : take c.if-fails_next.part from ≡ take c.self.inside.part from = ap (λ k. take k from) (w.part-is ∙ w.min-part.ensures)
          ∙ take_min c.self.inside.part from in
          let taken = c.in_ok-extend_from_slice.ensures.items ∙ ap (λ l. c.self.inside.taken.items ++ l) part in
          subst (λ (s : SinkInMemory). record { taken = c.extend_from_slice.new.self.items; part = c.self.inside.part; calls = c.count.new.self } ≡ after_failed_write s from)
          c.self.view_is (sink_by_parts c.self.inside.part _ _ _ _ taken calls)
      | else-fails_next w ↦
          let listed : c.fails_next.result ≡ true = c.fails_next.ensures.1 (c.count.ensures.fails.0 failed) in cc (listed, w.if-fails_next.false)
    ]

pub returns-in_err-extend_from_slice : goal.returns-in_err-extend_from_slice
returns-in_err-extend_from_slice c = search rules
