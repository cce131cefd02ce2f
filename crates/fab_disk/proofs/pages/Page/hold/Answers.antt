use Rattle.std.proofs.Common.{◌≡◌, ◌+◌, ℕ, length, slice_range, ◌∙◌, ap, arith, rules}
use Rattle.std.proofs.lemmas.List.{take_at}
use Rattle.fab_disk.specs.Pages.{page_bytes, is_held}
use Rattle.fab_disk.proofs.Spreads.{page_whole}
use Rattle.fab_disk.proofs.pages.Page.hold.Goals as goal

pub returns : goal.returns
returns c =
    let size : length c.deref_mut.result.now ≡ 4096 = ap length c.deref_mut.ensures.value ∙ c.unwrap-sheet.result.whole in
    record {
      same = ap page_bytes c.replace.ensures.after
          ∙ take_at c.read.new.into _ _ (omega (arith, c.unwrap-sheet.result.whole, size, c.read.auto.into)) ∙ c.read.ensures
          ∙ ap (λ (n : ℕ). slice_range (page_bytes c.args.self.now) 0 (0 + n)) size ∙ page_whole c.args.self.now;
      held = ap is_held c.replace.ensures.after;
      spare = search rules;
    }

pub returns-in-Held : goal.returns-in-Held
returns-in-Held c = search rules
