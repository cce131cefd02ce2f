use Rattle.std.proofs.Common.{◌≡◌, ℕ, ◌+◌, ◌-◌, ◌/◌, ◌%◌, ◌<◌, List, length, take, drop, ◌++◌, ◌∙◌, ap, arith}
use Rattle.std.proofs.lemmas.List.{length-take}
use Rattle.fab_disk.specs.Pages.{page_bytes}
use Rattle.fab_disk.specs.declared.pages.Page.{Page}
use Rattle.fab_disk.proofs.Spreads.{part_of_page}
use Rattle.fab_disk.proofs.pages.Pages.read_piece.Goals as goal

pub returns-clause-bytes : goal.returns-clause-bytes
returns-clause-bytes c =
    let pages : List Page = c.args.self.now.pages.items in
    let place : ℕ = c.args.at - c.len-2.result in
    let n : ℕ = c.min-size-2.result in
    let lt : place / 4096 < length pages = omega (arith, c.args.self.now.within) in
    let size : place % 4096 + length (take n c.args.into.now) - place % 4096 ≡ n = omega (arith, length-take n c.args.into.now) in
    let read = c.read.ensures ∙ ap (λ (k : ℕ). take k (drop (place % 4096) (page_bytes c.index.result.now))) size
    ∙ ap (λ (p : Page). take n (drop (place % 4096) (page_bytes p))) c.index.ensures
    ∙ part_of_page c.args.self.now.front.items pages (place / 4096) c.index.result.now (place % 4096) c.args.at n lt (omega arith) (omega arith) in
    ap (λ (l : List ℕ). l ++ drop n c.args.into.now) read
