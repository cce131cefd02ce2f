use Rattle.std.proofs.Common.{refl, arith}
use Rattle.fab_disk.proofs.file_disk.FileDiskDisk.write_at.Goals as goal

pub returns-clause-crash : goal.returns-clause-crash
returns-clause-crash c = λ image left. (image, tt, record { kept = λ i lt out. refl; no_shorter = omega arith; no_longer = omega arith })
