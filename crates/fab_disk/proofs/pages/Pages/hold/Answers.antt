use Rattle.std.proofs.Common.{ℕ, ◌<◌, List, ◌++◌, length, ◌∙◌, ap, arith, rules}
use Rattle.std.proofs.lemmas.List.{length-set}
use Rattle.fab_disk.specs.Pages.{page_bytes}
use Rattle.fab_disk.specs.declared.pages.Page.{Page}
use Rattle.fab_disk.proofs.Spreads.{spread_same, held_up, held_more}
use Rattle.fab_disk.proofs.pages.Pages.hold.Goals as goal

pub loop-page-preserved : goal.loop-page-preserved
loop-page-preserved c =
    let pages : List Page = c.loop-page.self.pages.items in
    let lt : c.loop-page.page < length pages = omega arith in
    record {
      same = ap (λ (l : List ℕ). c.loop-page.self.front.items ++ l)
          (spread_same pages c.loop-page.page c.index_mut.result.now c.hold.new.self lt (c.hold.ensures.same ∙ ap page_bytes c.index_mut.ensures.value))
          ∙ c.loop-page.invariant.same;
      range = held_more pages _ c.loop-page.page c.hold.new.self lt c.hold.ensures.held c.loop-page.invariant.range;
      keeps = λ k was. held_up pages c.loop-page.page c.hold.new.self c.hold.ensures.held k (c.loop-page.invariant.keeps k was);
      len = c.loop-page.invariant.len;
      front = c.loop-page.invariant.front;
      pages = length-set pages c.loop-page.page c.hold.new.self ∙ c.loop-page.invariant.pages;
      capacity = search rules;
      spare = omega (arith, c.loop-page.invariant.spare, c.hold.ensures.spare);
    }
