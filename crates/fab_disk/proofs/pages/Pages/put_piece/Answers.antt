use Rattle.std.proofs.Common.{rules, ℕ, ◌-◌, ◌/◌, ◌%◌, ◌<◌, IsTrue, List, length, take, sym, ◌∙◌, ap, arith}
use Rattle.std.proofs.lemmas.List.{length-take}
use Rattle.fab_disk.specs.Disk.{overlaid}
use Rattle.fab_disk.specs.Pages.{page_bytes, is_held, held_at}
use Rattle.fab_disk.specs.declared.pages.Page.{Page}
use Rattle.fab_disk.specs.declared.pages.Page.TheVariants.{Zero}
use Rattle.fab_disk.proofs.Spreads.{put_in_page, same_page, held_set}
use Rattle.fab_disk.proofs.pages.Pages.put_piece.Goals as goal

pub put-requires-clause-held : goal.put-requires-clause-held
put-requires-clause-held c =
    let pages : List Page = c.args.self.now.pages.items in
    let place : ℕ = c.args.at - c.len-2.result in
    let lt : place / 4096 < length pages = omega (arith, c.args.self.now.within) in
    let held : IsTrue (held_at pages (place / 4096)) = c.requires.held (place / 4096) (place % 4096) (omega arith) (omega arith) (omega arith) in
    ap is_held (c.index_mut.ensures.value ∙ same_page pages (place / 4096) _ Zero lt) ∙ held

pub returns : goal.returns
returns c =
    let bytes = (
    let pages : List Page = c.args.self.now.pages.items in
    let place : ℕ = c.args.at - c.len-2.result in
    let lt : place / 4096 < length pages = omega (arith, c.args.self.now.within) in
    put_in_page c.args.self.now.front.items pages (place / 4096) c.index_mut.result.now c.put.new.self (place % 4096) c.args.at
    (take c.min-size-2.result c.args.from.now) lt
    (omega (arith, length-take c.min-size-2.result c.args.from.now)) (omega arith)
    (c.put.ensures.bytes ∙ ap (λ (p : Page). overlaid (place % 4096) (take c.min-size-2.result c.args.from.now) (page_bytes p)) c.index_mut.ensures.value)
    ) in
    let held = (
    let pages : List Page = c.args.self.now.pages.items in
    let place : ℕ = c.args.at - c.len-2.result in
    let held : IsTrue (held_at pages (place / 4096)) = c.requires.held (place / 4096) (place % 4096) (omega arith) (omega arith) (omega arith) in
    held_set pages (place / 4096) c.put.new.self (c.put.ensures.held ∙ sym held)
    ) in
    search (rules, bytes, held)
