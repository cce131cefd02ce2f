-- A mark that is counted as an abort says why.
use Rattle.std.proofs.Common.{◌≡◌, refl}
use Rattle.std.specs.Option.{is_some}
use Rattle.fab_base.specs.declared.answers.Answer.TheVariants.{Data, Done, Aborted}
use Rattle.reg_model.specs.declared.marks.Mark.{Mark}
use Rattle.reg_model.specs.declared.marks.Mark.TheVariants.{Begin, End, Crash}
use Rattle.transcript.specs.Kinds.{is_aborted}
use Rattle.printed.specs.Spellings.{cause_told}

-- it says why if, and only if, it is one
pub aborted_tells : (mark : Mark) → is_some (cause_told mark) ≡ is_aborted mark
aborted_tells (Begin p n b ask) = refl
aborted_tells (End p n (Data bytes)) = refl
aborted_tells (End p n Done) = refl
aborted_tells (End p n (Aborted cause)) = refl
aborted_tells (Crash p b) = refl
