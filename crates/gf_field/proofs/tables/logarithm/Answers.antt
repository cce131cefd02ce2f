use Rattle.std.proofs.Common.{arith}
use Rattle.gf_field.proofs.PowerLaws.{table-logarithm}
use Rattle.gf_field.proofs.tables.logarithm.Goals as goal

pub returns : goal.returns
returns c = table-logarithm c.args.a (omega arith) c.requires
