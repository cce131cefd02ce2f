-- what was noted stays noted
use Rattle.std.proofs.Common.{◌≡◌, ℕ, ◌-◌, false, get_or, vec_len}
use Rattle.world.proofs.deliveries.Deliveries.expect.Given as goal

abbrev pub invariant-loop-self : goal.invariant-loop-self
invariant-loop-self l = (k : ℕ) → get_or l.self.reached.items k false ≡ get_or l.initial.self.reached.items k false

abbrev pub decreases-loop-self : goal.decreases-loop-self
decreases-loop-self l = l.number - vec_len l.self.reached
