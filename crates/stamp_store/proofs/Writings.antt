-- Fields written one after the other.
use Rattle.std.proofs.lemmas.Grind.{common_steps}
use Rattle.fields.specs.Laws.{spelled-append, AllFit-append}
use Rattle.stamp_store.proofs.Fields.{accepted_limits}

-- the parts of two lists, one after the other
pub ruleset joined = (common_steps, spelled-append, AllFit-append, accepted_limits)
