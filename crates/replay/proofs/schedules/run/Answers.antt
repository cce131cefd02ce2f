use Rattle.std.proofs.Common.{List, ℕ, codes, Err, refl, sym, ap, ◌∙◌, subst}
use Rattle.std.proofs.KnownBytes.{Appends-nil}
use Rattle.std.proofs.lemmas.Result.{err_from_is_err_and}
use Rattle.replay.specs.declared.endings.Halt.{Halt}
use Rattle.replay.specs.Readings.{TakesHead}
use Rattle.replay.specs.Replays.{RunGoesOn}
use Rattle.replay.proofs.OpenEnds.{schedule_goes, HeadReads-first, ReadsPart-map, ReadsPart-head, ReadsPart-both, ReadsPart-alone}
use Rattle.replay.specs.Turns.{PrintsInput}
use Rattle.replay.proofs.Printing.{Prints-text, at_err, same_error}
use Rattle.replay.proofs.Inputs.{output_of-long, output_of-endless, PrintsInput-stopped, PrintsHeaded-head, PrintsInput-refused, PrintsInput-headed, PrintsInput-unread, at_end}
use Rattle.replay.proofs.schedules.run.Goals as goal

pub returns-in_err-text-clause-output : goal.returns-in_err-text-clause-output
returns-in_err-text-clause-output g c =
    at_err _ (PrintsInput _ _ _) (λ halt. PrintsInput-stopped _ _ halt) c.from_residual.ensures.0

pub returns-in-Text-clause-output : goal.returns-in-Text-clause-output
returns-in-Text-clause-output g c =
    let head = rw c.in-Text.is at c.in_ok-text.ensures.head in
    PrintsInput-unread _ _ _ _ _ c.new-unread.ensures
    (PrintsInput-headed _ _ _ _ c.in-Text.text.items _ head.1 head.0
    (PrintsHeaded-head _ _ _ _ _ _ c.as_slice.ensures.value c.run_layout.ensures.output))

pub returns-in-Text-clause-read : goal.returns-in-Text-clause-read
returns-in-Text-clause-read g c = λ whole. at_end _ _ (c.run_layout.ensures.read whole)

pub returns-in-TooLong-clause-output : goal.returns-in-TooLong-clause-output
returns-in-TooLong-clause-output g c =
    let head = rw c.in-TooLong.is at c.in_ok-text.ensures.head in
    PrintsInput-unread _ _ _ _ _ c.new-unread.ensures
    (PrintsInput-refused _ _ _ _ (codes "limit layout") _ head output_of-long (Prints-text _ _ _ _ _ _ c.as_slice-in-TooLong.ensures c.close.ensures.content))

pub returns-clause-output : goal.returns-clause-output
returns-clause-output g c =
    let head = rw c.in-Endless.is at c.in_ok-text.ensures.head in
    PrintsInput-unread _ _ _ _ _ c.new-unread.ensures
    (PrintsInput-refused _ _ _ _ (codes "end") _ head output_of-endless
    (Prints-text _ _ _ _ _ _ c.as_slice-in-Endless.ensures c.close-in-Endless.ensures.content))

pub returns-in-Alone-clause-output : goal.returns-in-Alone-clause-output
returns-in-Alone-clause-output g c =
    let head = rw c.in-Alone.is at c.in_ok-text.ensures.head in
    PrintsInput-unread _ _ _ _ _ c.new-unread.ensures
    (PrintsInput-headed _ _ _ _ c.in-Alone.text.items _ head.1 head.0
    (PrintsHeaded-head _ _ _ _ _ _ c.as_slice-in-Alone.ensures.value c.run_layout-in-Alone.ensures.output))

pub returns-in-Alone-clause-read : goal.returns-in-Alone-clause-read
returns-in-Alone-clause-read g c = λ whole. at_end _ _ (c.run_layout-in-Alone.ensures.read whole)

pub returns-in_err-text-clause-reads : goal.returns-in_err-text-clause-reads
returns-in_err-text-clause-reads g c =
    let q = err_from_is_err_and c.from_residual.result c.from_residual.ensures.1 in
    ReadsPart-head RunGoesOn _ _ _ _ _ _ _ _ _ (HeadReads-first _ _ _ _ _ _ _ c.new-unread.ensures c.in_err-text.ensures.reads)
    (λ e. (ap (λ (h : Halt). Err h) (same_error _ _ _ _ q.1 q.2 e), Appends-nil _))

pub returns-in-Text-clause-reads : goal.returns-in-Text-clause-reads
returns-in-Text-clause-reads g c =
    let reads = rw c.in-Text.is at c.in_ok-text.ensures.reads in
    let h = HeadReads-first _ _ _ _ _ _ _ c.new-unread.ensures reads in
    ReadsPart-both RunGoesOn _ _ _ _ _ _ _ _ _ _ _ _ _ _ h
    (subst (λ (l : List ℕ). TakesHead l h.read c.read_head.new.unread) (sym c.as_slice.ensures.value) h.takes)
    (ReadsPart-map _ _ _ _ _ _ _ _ _ _ (schedule_goes _) c.run_layout.ensures.reads)
    (λ e. (ap g.S.Source.came e, λ u. e ∙ u))

pub returns-in-Alone-clause-reads : goal.returns-in-Alone-clause-reads
returns-in-Alone-clause-reads g c =
    let alone = c.run_layout-in-Alone.ensures.alone refl in
    ReadsPart-alone RunGoesOn _ _ _ _ _ _ _ _ _ _ _ _ (HeadReads-first _ _ _ _ _ _ _ c.new-unread.ensures c.in_ok-text.ensures.reads)
    (ap g.S.Source.told alone.0) (ap g.S.Source.came alone.0) (λ u. alone.0 ∙ u) (λ e. alone.1 e)

pub returns-in-TooLong-clause-reads : goal.returns-in-TooLong-clause-reads
returns-in-TooLong-clause-reads g c =
    ReadsPart-head RunGoesOn _ _ _ _ _ _ _ _ _ (HeadReads-first _ _ _ _ _ _ _ c.new-unread.ensures c.in_ok-text.ensures.reads)
    (λ e. absurd (c.close.ensures.cause e))

pub returns-clause-reads : goal.returns-clause-reads
returns-clause-reads g c =
    ReadsPart-head RunGoesOn _ _ _ _ _ _ _ _ _ (HeadReads-first _ _ _ _ _ _ _ c.new-unread.ensures c.in_ok-text.ensures.reads)
    (λ e. absurd (c.close-in-Endless.ensures.cause e))
