use Rattle.std.proofs.Common.{◌≡◌, ℕ, ◌<◌, List, length, take, sym, ◌∙◌, ap, arith}
use Rattle.std.proofs.lemmas.Bool.Decides.{nat_tests}
use Rattle.fab_disk.specs.Disk.{overlaid}
use Rattle.fab_disk.specs.Stored.{stored, shown}
use Rattle.fab_disk.proofs.Writes.{written_some}
use Rattle.fab_disk.proofs.pages.Pages.write.Goals as goal

pub put-requires-clause-held : goal.put-requires-clause-held
put-requires-clause-held c = λ k j lt low high.
    c.hold.ensures.range k j lt (omega (arith, c.hold.ensures.front)) (omega (arith, c.hold.ensures.front))

pub returns-clause-bytes : goal.returns-clause-bytes
returns-clause-bytes c =
    let from : List ℕ = c.args.from.now in
    let some : 0 < length from = grind (arith, nat_tests, c.is_empty.ensures, c.if-is_empty.false) in
    let held : shown c.hold.new.self ≡ shown c.grow.new.self =
    ap (λ (n : ℕ). take n (stored c.hold.new.self)) c.hold.ensures.len ∙ ap (take c.grow.new.self.len) c.hold.ensures.same in
    c.put.ensures.bytes ∙ ap (overlaid c.args.at from) (held ∙ c.grow.ensures.bytes)
    ∙ sym (written_some c.args.at from (shown c.args.self.now) some)

pub returns-clause-range : goal.returns-clause-range
returns-clause-range c = λ k j lt low high.
    c.put.ensures.held k ∙ c.hold.ensures.range k j lt (omega (arith, c.grow.ensures.front)) (omega (arith, c.grow.ensures.front))

pub returns-clause-room : goal.returns-clause-room
returns-clause-room c = λ calls bytes end had.
    c.put.ensures.room calls bytes end (record {
      for_pages = omega (arith, had.for_pages, c.hold.ensures.spare, c.grow.ensures.spare);
      for_end = omega (arith, had.for_end, c.hold.ensures.capacity, c.grow.ensures.capacity, c.hold.ensures.front, c.grow.ensures.front);
    })
