-- What is seen of a host in memory.
use Rattle.std.specs.Prelude.{◌≡◌, List, []}
use Rattle.fab_disk.specs.MemDisk.{IsSound}
use Rattle.fab_disk.specs.declared.mem_disk.MemDisk.{MemDisk}
use Rattle.fab_io.specs.Calls.{CallCount, no_calls, NoneToFail}
use Rattle.fab_io.specs.Memory.{SourceInMemory, SinkInMemory}
use Rattle.fab_io.specs.Scripts.{LinkInMemory, ClockInMemory}
use Rattle.fab_host.specs.declared.hosts.Asked.{Asked}
use Rattle.fab_host.specs.declared.hosts.Connection.{Connection}
use Rattle.fab_host.specs.declared.mem_host.MemHost.{MemHost}
use Rattle.fab_host.specs.Held.{absent, here, AllHere}
use Rattle.fab_host.specs.Holdings.{Holdings}
use Rattle.fab_host.specs.Slots.{held_in, named, ported}

-- a session in memory
abbrev pub SessionInMemory : Type 0
SessionInMemory = Connection SourceInMemory SinkInMemory

-- what a host in memory may hold
abbrev pub HoldingsInMemory : Type 0
HoldingsInMemory = Holdings SourceInMemory MemDisk LinkInMemory SessionInMemory ClockInMemory

-- what it holds, the calls that open which were asked, and all calls made
pub record HostInMemory : Type 0 where
  pub held : HoldingsInMemory
  pub asked : List Asked
  pub calls : CallCount

-- what is seen of a host
abbrev pub seen_of : MemHost → HostInMemory
seen_of h = record {
  held = record { sources = named h.sources.items; disks = named h.disks.items; links = ported h.links.items; sessions = ported h.sessions.items; clock = held_in h.clock };
  asked = h.asked.items;
  calls = h.calls;
}

-- a host that holds a clock alone, of which nothing was asked yet
abbrev pub host_of : ClockInMemory → HostInMemory
host_of clock = record {
  held = record { sources = λ _. absent; disks = λ _. absent; links = λ _. absent; sessions = λ _. absent; clock = here clock };
  asked = [];
  calls = no_calls;
}

-- no call on either end of a session that is to fail is still to come
abbrev pub IsSoundSession : SessionInMemory → Type 0
IsSoundSession session = NoneToFail session.source.calls × NoneToFail session.sink.calls

-- no call that is to fail is still to come, and all that it holds is sound
pub record IsSoundHost (h : HostInMemory) : Type 0 where
  pub unlisted : NoneToFail h.calls
  pub sources : AllHere (λ (s : SourceInMemory). NoneToFail s.calls) h.held.sources
  pub disks : AllHere IsSound h.held.disks
  pub links : AllHere (λ (l : LinkInMemory). NoneToFail l.calls) h.held.links
  pub sessions : AllHere IsSoundSession h.held.sessions
  pub clock : (c : ClockInMemory) → h.held.clock ≡ here c → NoneToFail c.calls
