-- What is seen of the sources, sessions, disks, links and clocks of a host.
use Rattle.std.specs.Prelude.{ℕ, List, Option}
use Rattle.fab_disk.specs.declared.disk.Disk as on_disk
use Rattle.fab_io.specs.declared.clocks.Clock as on_clock
use Rattle.fab_io.specs.declared.ends.Sink as on_sink
use Rattle.fab_io.specs.declared.ends.Source as on_source
use Rattle.fab_io.specs.declared.links.Link as on_link
use Rattle.fab_host.specs.declared.hosts.Connection.{Connection}
use Rattle.serving.specs.Serves.{Outside, outside}

-- what their traits say of each
pub record Views (D L C : Type 0) : Type 1 where
  pub disk : on_disk.Ghosts D
  pub link : on_link.Ghosts L
  pub clock : on_clock.Ghosts C

abbrev pub views : {D L C : Type 0} → on_disk.Ghosts D → on_link.Ghosts L → on_clock.Ghosts C → Views D L C
views disk link clock = record { disk = disk; link = link; clock = clock }

-- what a link and a clock tell
abbrev pub outside_of : {D L C : Type 0} → Views D L C → L → C → Outside
outside_of v link clock = outside (v.link.waiting link) (v.link.sent link) (v.clock.coming clock)

-- a session of these two
abbrev pub session_of : {I O : Type 0} → I → O → Connection I O
session_of source sink = record { source = source; sink = sink }

-- of a session: what its client has still to say, what was said to the client, and the counts of faults of the two
pub record SessionView (N : Type 0) : Type 0 where
  pub coming : N → Option (List ℕ)
  pub taken : N → Option (List ℕ)
  pub source_failed : N → ℕ
  pub sink_failed : N → ℕ

abbrev pub session_view : {I O : Type 0} → on_source.Ghosts I → on_sink.Ghosts O → SessionView (Connection I O)
session_view input output = record {
  coming = λ session. input.told session.source;
  taken = λ session. output.told session.sink;
  source_failed = λ session. input.faults session.source;
  sink_failed = λ session. output.faults session.sink;
}

-- of a source: the bytes that it has left, and its count of faults; and the same of a session
pub record Streams (S N : Type 0) : Type 0 where
  pub told : S → Option (List ℕ)
  pub failed : S → ℕ
  pub session : SessionView N

abbrev pub streams : {S I O : Type 0} → on_source.Ghosts S → on_source.Ghosts I → on_sink.Ghosts O → Streams S (Connection I O)
streams source input output = record { told = source.told; failed = source.faults; session = session_view input output }
