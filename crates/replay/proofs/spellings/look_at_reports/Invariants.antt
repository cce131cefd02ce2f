use Rattle.std.specs.List.{AllWithin}
use Rattle.printed.specs.Spellings.{ReportReads}
use Rattle.replay.proofs.spellings.look_at_reports.Given as goal

abbrev pub invariant-loop-told : goal.invariant-loop-told
invariant-loop-told l = AllWithin (λ told. ReportReads told.1) l.reports 0 l.told-index
