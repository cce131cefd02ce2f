use Rattle.std.proofs.Common.{ℕ, ◌+◌, ◌-◌, ◌≤◌, List, length, take, drop, ◌∙◌, ap, arith}
use Rattle.std.proofs.lemmas.List.{length-take, length-drop, length-append}
use Rattle.fab_disk.specs.Pages.{spread}
use Rattle.fab_disk.specs.Stored.{stored}
use Rattle.fab_disk.proofs.Spreads.{length-spread, put_goes_on, put_ends}
use Rattle.fab_disk.proofs.pages.Pages.put.Goals as goal

pub put_piece-done-requires-clause-held : goal.put_piece-done-requires-clause-held
put_piece-done-requires-clause-held c = λ k j lt low high.
    let size = length-take (length c.args.from.now - c.loop-done.done) (drop c.loop-done.done c.args.from.now) in
    let rest = length-drop c.loop-done.done c.args.from.now in
    c.loop-done.invariant.held k
    ∙ c.requires.held k j lt (omega (arith, c.loop-done.invariant.front)) (omega (arith, c.loop-done.invariant.front, size, rest))

pub loop-done-preserved : goal.loop-done-preserved
loop-done-preserved c =
    let from : List ℕ = c.args.from.now in
    let done : ℕ = c.loop-done.done in
    let n : ℕ = c.put_piece-done.result in
    let self = c.loop-done.self in
    let size = length-take (length from - done) (drop done from) in
    let rest = length-drop done from in
    let fits : done + n ≤ length from = omega (arith, size, rest, c.put_piece-done.ensures.some.1) in
    record {
      within = fits;
      left = put_goes_on from (stored self) (stored c.put_piece-done.new.self) c.args.at done n fits
          (omega (arith, self.within, c.loop-done.invariant.len, c.requires.within, length-append self.front.items (spread self.pages.items), length-spread self.pages.items))
          c.put_piece-done.ensures.bytes
          ∙ c.loop-done.invariant.left;
      held = λ k. c.put_piece-done.ensures.held k ∙ c.loop-done.invariant.held k;
      len = c.put_piece-done.ensures.len ∙ c.loop-done.invariant.len;
      front = c.put_piece-done.ensures.front ∙ c.loop-done.invariant.front;
      room = λ calls bytes end had. c.put_piece-done.ensures.room calls bytes end (c.loop-done.invariant.room calls bytes end had);
    }

pub returns-clause-bytes : goal.returns-clause-bytes
returns-clause-bytes c =
    let old = c.args.self.now in
    ap (λ (n : ℕ). take n (stored c.loop-done.self)) c.loop-done.invariant.len
    ∙ put_ends c.args.from.now (stored old) (stored c.loop-done.self) c.args.at c.loop-done.done old.len c.loop-done-test.false c.requires.within
    (omega (arith, old.within, length-append old.front.items (spread old.pages.items), length-spread old.pages.items)) c.loop-done.invariant.left
