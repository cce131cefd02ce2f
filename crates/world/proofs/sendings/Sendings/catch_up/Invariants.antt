-- the messages stay
use Rattle.std.proofs.Common.{◌≡◌, ◌-◌, vec_len}
use Rattle.world.proofs.sendings.Sendings.catch_up.Given as goal

abbrev pub invariant-loop-self : goal.invariant-loop-self
invariant-loop-self l = l.self.packets ≡ l.initial.self.packets

abbrev pub decreases-loop-self : goal.decreases-loop-self
decreases-loop-self l = vec_len l.self.packets - vec_len l.self.links
