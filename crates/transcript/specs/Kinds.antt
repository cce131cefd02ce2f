-- Kinds of marks.
use Rattle.std.specs.Prelude.{Bool, true, false}
use Rattle.fab_base.specs.declared.answers.Answer.TheVariants.{Data, Done, Aborted}
use Rattle.reg_model.specs.declared.marks.Mark.{Mark}
use Rattle.reg_model.specs.declared.marks.Mark.TheVariants.{Begin, End, Crash}

-- a Begin
abbrev pub is_begin : Mark → Bool
is_begin (Begin p n b ask) = true
is_begin (End p n answer) = false
is_begin (Crash p b) = false

-- an End that is no abort
abbrev pub is_answered : Mark → Bool
is_answered (Begin p n b ask) = false
is_answered (End p n (Data bytes)) = true
is_answered (End p n Done) = true
is_answered (End p n (Aborted cause)) = false
is_answered (Crash p b) = false

-- an End that is an abort
abbrev pub is_aborted : Mark → Bool
is_aborted (Begin p n b ask) = false
is_aborted (End p n (Data bytes)) = false
is_aborted (End p n Done) = false
is_aborted (End p n (Aborted cause)) = true
is_aborted (Crash p b) = false

-- a Crash
abbrev pub is_crash : Mark → Bool
is_crash (Begin p n b ask) = false
is_crash (End p n answer) = false
is_crash (Crash p b) = true
