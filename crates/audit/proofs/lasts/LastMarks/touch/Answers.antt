use Rattle.audit.proofs.LastMaps.{touched_at}
use Rattle.audit.proofs.lasts.LastMarks.touch.Goals as goal

pub returns : goal.returns
returns c = touched_at c.args.self.now.stripes c.insert.new.self c.args.group c.args.stripe c.args.past c.args.self.now.crash c.in_ok-insert.ensures.updates
