use Rattle.std.proofs.Common.{◌∙◌}
use Rattle.brick.specs.Layouts.{ReadsSource}
use Rattle.brick.specs.Hosts.{host_seen}
use Rattle.brick.proofs.Found.{found}
use Rattle.brick.proofs.Hosts.{source_returned}
use Rattle.brick.proofs.layout_texts.find_layout.Goals as goal

pub returns-clause-found : goal.returns-clause-found
returns-clause-found g c =
    let read : ReadsSource g.H.Source.Source.told g.H.Source.Source.faults (host_seen (g.H.Host.faults c.args.host.now) (g.H.Host.asked c.args.host.now) (g.H.Host.holds c.args.host.now))
    (host_seen (g.H.Host.faults c.keep_source.new.self) (g.H.Host.asked c.keep_source.new.self) (g.H.Host.holds c.keep_source.new.self)) c.args.name.now c.read_layout-found.result = record {
      opened = c.in-Ok.source;
      back = c.read_layout-found.new.source;
      asks = record {
        asked = c.keep_source.ensures.asked ∙ c.in-Ok.ensures.asked;
        later = rw (c.keep_source.ensures.faults) c.in-Ok.ensures.kept.later;
        told = source_returned _ _ _ _ _ _ _ c.in-Ok.ensures.lends c.keep_source.ensures.holds;
      };
      gives = c.read_layout-found.ensures.gives;
    } in
    found _ _ _ _ _ _ read
