use Rattle.std.proofs.Common.{ℕ, ◌+◌, ◌-◌, ◌≤◌, List, length, drop, arith}
use Rattle.std.proofs.lemmas.List.{length-take, length-drop, length-append, places}
use Rattle.fab_disk.specs.Pages.{spread}
use Rattle.fab_disk.specs.Stored.{stored}
use Rattle.fab_disk.proofs.Spreads.{length-spread, read_goes_on, read_ends}
use Rattle.fab_disk.proofs.pages.Pages.read.Goals as goal

pub loop-done-preserved : goal.loop-done-preserved
loop-done-preserved c =
    let into : List ℕ = c.loop-done.into in
    let self = c.args.self.now in
    let done : ℕ = c.loop-done.done in
    let n : ℕ = c.read_piece-done.result in
    let size = length-take (length into - done) (drop done into) in
    let rest = length-drop done into in
    let fits : done + n ≤ length into = omega (arith, size, rest, c.read_piece-done.ensures.some.1) in
    record {
      within = grind (arith, places, fits, size, rest, c.read_piece-done.auto.into);
      so_far = read_goes_on into (stored self) c.read_piece-done.new.into c.args.at done n fits
          (omega (arith, self.within, c.requires, length-append self.front.items (spread self.pages.items), length-spread self.pages.items))
          c.read_piece-done.ensures.bytes c.loop-done.invariant.so_far;
    }

pub returns : goal.returns
returns c =
    read_ends c.loop-done.into (stored c.args.self.now) c.args.at c.loop-done.done (length c.args.into.now) c.args.self.now.len
    c.loop-done.auto.into (omega arith) c.loop-done.invariant.within c.requires c.loop-done.invariant.so_far
