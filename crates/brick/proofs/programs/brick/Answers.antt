-- Where no memory is left for the words, nothing is done.
use Rattle.std.proofs.Common.{map}
use Rattle.std.specs.Prelude.{string_bytes}
use Rattle.fab_base.proofs.Keeping.{Kept-refl, Kept-narrower}
use Rattle.fab_io.specs.Ends.{Kept}
use Rattle.brick_words.specs.Words.{command_of}
use Rattle.brick.specs.Hosts.{host_seen}
use Rattle.brick.specs.Views.{views, streams}
use Rattle.brick.proofs.Lacking.{lacking}
use Rattle.brick.proofs.programs.brick.Goals as goal

pub returns-in-Err-clause-runs : goal.returns-in-Err-clause-runs
returns-in-Err-clause-runs g c =
    let host = g.H.Host in
    let sink = g.K.Sink in
    lacking (streams g.H.Source.Source g.H.Input.Source g.H.Output.Sink) (views g.H.Disk.Disk g.H.Link.Link g.H.Clock.Clock)
    (host_seen (host.faults c.args.host.now) (host.asked c.args.host.now) (host.holds c.args.host.now)) (sink.told c.args.out.now)
    (Kept (sink.faults c.args.out.now) (sink.faults c.args.out.now) (sink.sound c.args.out.now) (sink.sound c.args.out.now))
    (command_of (map string_bytes c.args.words.now)) (λ F no. Kept-narrower no (Kept-refl _ _))
