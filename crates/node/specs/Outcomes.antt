-- What a step of a brick sends, tells, answers and reports.
use Rattle.std.specs.Prelude.{List, ◌++◌, option_to_list}
use Rattle.fab_base.specs.declared.identities.BrickId.{BrickId}
use Rattle.messages.specs.declared.packets.Message.{Message}
use Rattle.protocol.specs.declared.tellings.Told.{Told}
use Rattle.protocol.specs.declared.tellings.Answered.{Answered}
use Rattle.protocol.specs.declared.tellings.Report.{Report}
use Rattle.node.specs.declared.outs.Tellings.{Tellings}

-- what is told of operations, in order
abbrev pub told_list : Tellings → List Told
told_list told = option_to_list told.version ++ (option_to_list told.ended ++ option_to_list told.begun)

-- the messages with their receivers, what is told of operations, the answers of operations, and what is reported of the brick's proposal and synchronisation,
-- each in order
pub record Outcome : Type 0 where
  pub messages : List (BrickId × Message)
  pub told : List Told
  pub answers : List Answered
  pub reports : List Report
