-- A view has one successor, which all names name.
use Rattle.view_laws.proofs.Held.{choices_hold}
use Rattle.view_laws.proofs.Named.{every_one_successor, every_name_is_chosen}
use Rattle.view_laws.proofs.laws.a_view_has_one_successor.Goals as goal

pub returns : goal.returns
returns c = record { one = every_one_successor; names = every_name_is_chosen; hold = choices_hold }
