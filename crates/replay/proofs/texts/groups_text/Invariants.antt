use Rattle.std.proofs.Common.{◌≡◌, string_bytes}
use Rattle.world.specs.Runs.{world_of}
use Rattle.printed.specs.Outputs.{groups_text}
use Rattle.replay.proofs.texts.groups_text.Given as goal

abbrev pub invariant-loop-number : goal.invariant-loop-number
invariant-loop-number l = string_bytes l.text ≡ groups_text l.world.layout (world_of l.world) l.number
