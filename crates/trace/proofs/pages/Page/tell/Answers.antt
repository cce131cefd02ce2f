use Rattle.trace.proofs.Margins.{on_ok}
use Rattle.trace.proofs.PrintedTexts.{tell-after}
use Rattle.trace.proofs.pages.Page.tell.Goals as goal

pub returns : goal.returns
returns c = on_ok c.indent.result _ _ (tell-after c.args.self.now c.indent.new.self c.args.printed.now c.requires) c.indent.ensures
