-- the text so far, and the text of the reports that are left, are the text of all
use Rattle.std.proofs.Common.{◌≡◌, ◌++◌, drop, string_bytes}
use Rattle.world.specs.Texts.{reports_text}
use Rattle.world.proofs.texts.reports_text.Given as goal

abbrev pub invariant-loop-told : goal.invariant-loop-told
invariant-loop-told l = string_bytes l.text ++ reports_text (drop l.told-index l.reports) ≡ reports_text l.reports
