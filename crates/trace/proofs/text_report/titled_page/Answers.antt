use Rattle.std.proofs.Common.{[], codes, ◌∙◌}
use Rattle.trace.proofs.WholeTexts.{told-none}
use Rattle.trace.proofs.PrintedTexts.{number-solid}
use Rattle.trace.proofs.LinesTold.{page-told}
use Rattle.trace.proofs.text_report.titled_page.Goals as goal

pub head-requires : goal.head-requires
head-requires c =
    number-solid c.args.number c.as_slice.result.now c.in_ok-title.title.items (codes " ") c.args.content.now
    (c.as_slice.ensures.value ∙ c.in_ok-extend_from_slice.ensures.items)
    (c.in_ok-title.ensures.items ∙ c.as_bytes.ensures.value ∙ c.in_ok-number.ensures.ok)

pub returns : goal.returns
returns c = c.in_ok-head.ensures [] (page-told c.new-page.result [] [] c.new-page.ensures told-none)
