use Rattle.std.proofs.Common.{ap, length, arith}
use Rattle.frame_store.specs.Listed.{size_of}
use Rattle.frame_store.proofs.Listing.{length-spelled}
use Rattle.frame_store.proofs.lists.FrameList.size.Goals as goal

pub returns : goal.returns
returns c =
    omega (arith, ap length c.self.invariant.0, length-spelled c.self.inside.listing.frames, ap size_of c.self.view_is, c.len.ensures)
