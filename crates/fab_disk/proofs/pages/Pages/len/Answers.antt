use Rattle.std.proofs.Common.{sym}
use Rattle.fab_disk.proofs.Spreads.{length-shown}
use Rattle.fab_disk.proofs.pages.Pages.len.Goals as goal

pub returns : goal.returns
returns c =
    let self = c.args.self.now in
    sym (length-shown self.front.items self.pages.items self.len self.within)
