use Rattle.made.proofs.DrawnLines.{drawn_reads}
use Rattle.made.proofs.makers.Maker.draw_line.Goals as goal

pub returns-clause-spelt : goal.returns-clause-spelt
returns-clause-spelt c = drawn_reads c.args.sent c.args.self.now _ c.in_ok-line.line c.ranges.sent.fits c.in_ok-line.ensures
