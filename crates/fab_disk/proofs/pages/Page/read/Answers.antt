use Rattle.std.proofs.Common.{◌+◌, length, slice_range, sym, ◌∙◌, ap}
use Rattle.fab_disk.specs.Pages.{page_bytes}
use Rattle.fab_disk.specs.declared.pages.Page.{Page}
use Rattle.fab_disk.proofs.Spreads.{zeros_part, drawn_part}
use Rattle.fab_disk.proofs.pages.Page.read.Goals as goal

pub returns-in-Zero : goal.returns-in-Zero
returns-in-Zero c =
    c.blank.ensures ∙ sym (zeros_part 4096 c.args.within (length c.args.into.now) c.requires)
    ∙ ap (λ (p : Page). slice_range (page_bytes p) c.args.within (c.args.within + length c.args.into.now)) (sym c.in-Zero.is)

pub returns-in-Drawn : goal.returns-in-Drawn
returns-in-Drawn c =
    c.draw.ensures ∙ sym (drawn_part 4096 c.args.within (length c.args.into.now) c.in-Drawn.random c.requires)
    ∙ ap (λ (p : Page). slice_range (page_bytes p) c.args.within (c.args.within + length c.args.into.now)) (sym c.in-Drawn.is)
