-- The law of every layout.
use Rattle.stripe_code.proofs.Soundness.{coding_is_sound}
use Rattle.stripe_code.proofs.laws.coding_is_sound.Goals as goal

pub returns : goal.returns
returns c = coding_is_sound
