use Rattle.std.proofs.Common.{◌≡◌, ◌≤◌, ◌-◌, string_bytes}
use Rattle.world.specs.Runs.{world_of}
use Rattle.printed.specs.Outputs.{stripes_text}
use Rattle.replay.proofs.texts.stripes_text.Given as goal

abbrev pub invariant-loop-stripe : goal.invariant-loop-stripe
invariant-loop-stripe l = (l.next ≤ l.stripes) × (string_bytes l.text ≡ stripes_text (world_of l.world) l.group.0 l.next)

abbrev pub decreases-loop-stripe : goal.decreases-loop-stripe
decreases-loop-stripe l = l.stripes - l.next
