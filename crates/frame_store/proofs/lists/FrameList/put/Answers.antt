use Rattle.std.proofs.Common.{rules, ◌≡◌, ap, length, arith}
use Rattle.frame_store.specs.Listed.{size_of}
use Rattle.frame_store.proofs.Listing.{length-spelled}
use Rattle.frame_store.proofs.lists.FrameList.put.Goals as goal

pub returns-in_err-reserve-clause-enough : goal.returns-in_err-reserve-clause-enough
returns-in_err-reserve-clause-enough c =
    let size : c.len.result ≡ size_of c.args.self.now =
    omega (arith, ap length c.self.invariant.0, length-spelled c.self.inside.listing.frames, ap size_of c.self.view_is, c.len.ensures) in
    search rules
