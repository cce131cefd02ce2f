-- What reading gives is spelled so, and what is spelled so is given.
use Rattle.std.proofs.Common.{arith}
use Rattle.stamp_store.proofs.Records.{found_spells, spells_found}
use Rattle.stamp_store.proofs.kept_records.Kept.read.Goals as goal

pub returns-clause-found : goal.returns-clause-found
returns-clause-found c = found_spells c.args.kind c.args.body.now c.whole.result (λ i. omega (arith, c.type_inv.body i)) c.whole.ensures

pub returns-clause-only : goal.returns-clause-only
returns-clause-only c = λ kept spells. spells_found c.args.kind c.args.body.now c.whole.result kept spells c.whole.ensures
