use Rattle.std.proofs.Common.{◌≡◌, take, count_by}
use Rattle.std.specs.List.{AllWithin}
use Rattle.transcript.specs.Kinds.{is_aborted}
use Rattle.printed.specs.Spellings.{ToldReads}
use Rattle.replay.proofs.texts.count_aborted.Given as goal

abbrev pub invariant-loop-mark : goal.invariant-loop-mark
invariant-loop-mark l = record {
  count : l.count ≡ count_by is_aborted (take l.mark-index l.marks);
  told : AllWithin ToldReads l.marks 0 l.mark-index;
}
