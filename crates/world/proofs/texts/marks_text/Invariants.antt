-- the text so far, and the text of the marks that are left, are the text of all
use Rattle.std.proofs.Common.{◌≡◌, ◌++◌, drop, string_bytes}
use Rattle.world.specs.Texts.{marks_text}
use Rattle.world.proofs.texts.marks_text.Given as goal

abbrev pub invariant-loop-mark : goal.invariant-loop-mark
invariant-loop-mark l = string_bytes l.text ++ marks_text (drop l.mark-index l.marks) ≡ marks_text l.marks
