-- How a run ends over sound bricks and ends, and where no memory is left for a datagram.
use Rattle.std.proofs.Common.{[], Err, refl, inl}
use Rattle.hosting.specs.declared.faults.HostFault.TheVariants.{NoMemory}
use Rattle.hosting.specs.Rounds.{told}
use Rattle.hosting.proofs.Running.{HasRun-none, Reads-none}
use Rattle.hosting.proofs.Stopping.{sound_end, Keeps, HostsUntil-read}
use Rattle.hosting.proofs.hosts.host.Goals as goal

pub returns-in-Err-clause-stopped : goal.returns-in-Err-clause-stopped
returns-in-Err-clause-stopped g c =
    let at = told (g.L.Link.waiting c.args.link) (g.L.Link.sent c.args.link) in
    let source = g.S.Source.told c.args.source.now in
    let sink = g.K.Sink.told c.args.sink.now in
    HostsUntil-read g.B.Bricks.takes g.B.Bricks.stops c.args.layout.now c.args.turns source source source at at c.args.bricks c.args.bricks sink sink _ _ _ _ _ [] NoMemory
    (HasRun-none g.B.Bricks.takes c.args.layout.now c.args.turns source at c.args.bricks sink) (Reads-none c.args.turns source) (inl refl) tt

pub returns-in-Err-clause-bricks : goal.returns-in-Err-clause-bricks
returns-in-Err-clause-bricks g c = Keeps g.B.Bricks.sound _ _ (Err NoMemory) (λ s. s) tt

pub returns-clause-sound : goal.returns-clause-sound
returns-clause-sound g c = λ bricks link source sink.
    sound_end c.run_lines-result.result (c.run_lines-result.ensures.bricks.never bricks) (c.run_lines-result.ensures.link.never link) (c.run_lines-result.ensures.source.never source)
    (c.run_lines-result.ensures.sink.never sink)
