use Rattle.trace.proofs.Margins.{on_ok, note-after}
use Rattle.trace.proofs.pages.Page.note.Goals as goal

pub returns : goal.returns
returns c = on_ok c.line.result _ _ (note-after c.args.self.now c.line.new.self c.as_slice.result.now c.args.text.now c.as_slice.ensures) c.line.ensures
