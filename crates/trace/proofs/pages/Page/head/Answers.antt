use Rattle.trace.proofs.Margins.{on_ok, head-after}
use Rattle.trace.proofs.pages.Page.head.Goals as goal

pub returns : goal.returns
returns c =
    on_ok c.line.result _ _ (head-after c.args.self.now c.line.new.self c.as_slice.result.now c.args.text.now c.as_slice.ensures c.requires)
    c.line.ensures
