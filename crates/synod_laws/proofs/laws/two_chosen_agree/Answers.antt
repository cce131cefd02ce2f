-- The laws of every run, and a run that chooses.
use Rattle.synod_laws.proofs.Agreement.{quorums_are_majorities}
use Rattle.synod_laws.proofs.Steps.{every_run_agrees, chosen_stays_chosen}
use Rattle.synod_laws.proofs.Example.{some_run_chooses}
use Rattle.synod_laws.proofs.laws.two_chosen_agree.Goals as goal

pub returns : goal.returns
returns c = record { quorums = quorums_are_majorities; agree = every_run_agrees; stays = chosen_stays_chosen; chooses = some_run_chooses }
