-- Who refuses no ballot may promise to it.
use Rattle.std.proofs.Common.{sym, None}
use Rattle.view_synod.proofs.Promises.{not_refused, never_falls, promise_told}
use Rattle.view_synod.proofs.acceptors.Acceptor.prepare.Goals as goal

pub returns-in-None-clause-never_falls : goal.returns-in-None-clause-never_falls
returns-in-None-clause-never_falls c =
    never_falls c.args.self.now.kept c.args.ballot None (not_refused c.args.self.now c.args.ballot (sym c.in-None.ensures))

pub returns-in-None-clause-truly : goal.returns-in-None-clause-truly
returns-in-None-clause-truly c =
    let free = not_refused c.args.self.now c.args.ballot (sym c.in-None.ensures) in
    (free, promise_told c.args.self.now.kept c.args.ballot _ _ free c.accepted-accepted.ensures c.copy_accepted.ensures)
