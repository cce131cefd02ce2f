use Rattle.gf_field.proofs.PowerLaws.{table-power}
use Rattle.gf_field.proofs.tables.power.Goals as goal

pub returns : goal.returns
returns c = table-power c.args.exponent c.requires
