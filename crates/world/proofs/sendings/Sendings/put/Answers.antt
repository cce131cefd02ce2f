-- A message more breaks no chain.
use Rattle.world.proofs.Chains.{chained_more}
use Rattle.world.proofs.sendings.Sendings.put.Goals as goal

pub invariant_of-self : goal.invariant_of-self
invariant_of-self c = record { chained = chained_more c.args.self.now.packets.items c.args.packet _ _ _ c.push_reserved.ensures.items c.args.self.now.chained }
