-- The constant is the text.
use Rattle.made.proofs.DiskText.{disk-read}
use Rattle.made.proofs.disks.disk_text.Goals as goal

pub returns : goal.returns
returns c = disk-read
