-- How a session ends over sound bricks and ends, and where no memory is left for a datagram.
use Rattle.std.proofs.Common.{Err}
use Rattle.hosting.specs.declared.faults.HostFault.TheVariants.{NoMemory}
use Rattle.hosting.specs.Rounds.{told}
use Rattle.hosting.proofs.Stopping.{sound_end, Keeps}
use Rattle.nbd_hosting.specs.Serving.{outside}
use Rattle.nbd_hosting.proofs.Standings.{Until-none}
use Rattle.nbd_hosting.proofs.sessions.serve_session.Goals as goal

pub returns-in-Err-clause-stopped : goal.returns-in-Err-clause-stopped
returns-in-Err-clause-stopped g c =
    let at = told (g.L.Link.waiting c.args.link) (g.L.Link.sent c.args.link) in
    Until-none g.B.Bricks.takes c.args.layout.now c.args.turns
    (outside (g.S.Source.told c.args.source.now) at c.args.bricks (g.K.Sink.told c.args.sink.now)) g.B.Bricks.stops NoMemory tt

pub returns-in-Err-clause-bricks : goal.returns-in-Err-clause-bricks
returns-in-Err-clause-bricks g c = Keeps g.B.Bricks.sound _ _ (Err NoMemory) (λ s. s) tt

pub returns-clause-sound : goal.returns-clause-sound
returns-clause-sound g c = λ bricks link source sink.
    sound_end c.serve-result.result (c.serve-result.ensures.bricks.never bricks) (c.serve-result.ensures.link.never link)
    (c.serve-result.ensures.source.never source) (c.serve-result.ensures.sink.never sink)
