use Rattle.std.proofs.Common.{sym, subst}
use Rattle.fab_disk.specs.Past.{IsImage}
use Rattle.fab_disk.specs.Stored.{shown}
use Rattle.fab_disk.specs.MediumLaws.{fits_shown}
use Rattle.fab_disk.specs.Medium.{past}
use Rattle.fab_disk.proofs.Filled.{settled_is_image}
use Rattle.fab_disk.proofs.mem_disk.MemDisk.settle.Goals as goal

pub returns-clause-image : goal.returns-clause-image
returns-clause-image c =
    let medium = c.args.self.now.medium in
    subst (IsImage (past medium) (shown medium.content)) (sym c.settle.ensures.content)
    (settled_is_image c.args.pick (past medium) (shown medium.content) (fits_shown medium))
