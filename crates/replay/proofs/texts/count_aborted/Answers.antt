use Rattle.std.proofs.Common.{ℕ, ◌+◌, sym, ap, ◌∙◌}
use Rattle.std.proofs.lemmas.List.Elements.{AllWithin-more, at_read}
use Rattle.std.proofs.lemmas.List.Sums.{count_by_more_yes, count_by_more_no}
use Rattle.transcript.specs.Kinds.{is_aborted}
use Rattle.printed.specs.Spellings.{ToldReads}
use Rattle.replay.proofs.texts.count_aborted.Goals as goal
use Rattle.replay.proofs.texts.count_aborted.Goals.{then-is_abort, else-is_abort}

pub loop-mark-preserved : goal.loop-mark-preserved
loop-mark-preserved c =
    let marks = c.args.marks.now in
    let i = c.loop-mark.mark-index in
    let is = ap is_aborted (sym c.mark-item.is) ∙ sym c.is_abort.ensures.is in
    record {
      count = elim c.if-is_abort.branch [
        | then-is_abort w ↦
            w.count-is ∙ ap (λ (n : ℕ). n + 1) c.loop-mark.invariant.count
            ∙ sym (count_by_more_yes is_aborted marks i c.mark-item.result c.loop-mark-test.true (is ∙ w.if-is_abort.true))
        | else-is_abort w ↦
            w.count-is ∙ c.loop-mark.invariant.count
            ∙ sym (count_by_more_no is_aborted marks i c.mark-item.result c.loop-mark-test.true (is ∙ w.if-is_abort.false))
      ];
      told = AllWithin-more ToldReads marks 0 i c.loop-mark.invariant.told
          (at_read marks ToldReads i c.mark-item.result c.loop-mark-test.true c.mark-item.is c.is_abort.ensures.told);
    }
