use Rattle.std.proofs.Common.{option_copied, sym, ap, ◌∙◌}
use Rattle.front.proofs.Beginning.{found_name}
use Rattle.front.proofs.ranges.name_in.Goals as goal

pub returns-in-Some : goal.returns-in-Some
returns-in-Some c = λ some. c.name.ensures ∙ found_name _ _ _ (sym c.volume.ensures ∙ ap option_copied c.in-Some.is)
