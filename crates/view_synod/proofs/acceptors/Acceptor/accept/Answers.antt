-- Who refuses no ballot may vote under it.
use Rattle.std.proofs.Common.{sym, None}
use Rattle.view_synod.proofs.Promises.{not_refused, never_falls, vote_is_true}
use Rattle.view_synod.proofs.acceptors.Acceptor.accept.Goals as goal

pub returns-in-None-clause-never_falls : goal.returns-in-None-clause-never_falls
returns-in-None-clause-never_falls c =
    never_falls c.args.self.now.kept c.args.ballot None (not_refused c.args.self.now c.args.ballot (sym c.in-None.ensures))

pub returns-in-None-clause-truly : goal.returns-in-None-clause-truly
returns-in-None-clause-truly c =
    let free = not_refused c.args.self.now c.args.ballot (sym c.in-None.ensures) in
    (free, vote_is_true c.args.self.now.kept c.args.ballot c.args.members free)
