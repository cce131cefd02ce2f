-- Which faults a call on one thing has.
use Rattle.hosting.specs.declared.faults.HostFault.{HostFault}
use Rattle.hosting.specs.declared.faults.HostFault.TheVariants.{Disk, Link, ClientLink, Clock, Source, Sink, NoMemory}
use Rattle.serving.specs.declared.faults.ServeFault.{ServeFault}
use Rattle.serving.specs.declared.faults.ServeFault.TheVariants as serving

-- the client's link failed, or no memory was left
abbrev pub AtClientLink : HostFault → Type 0
AtClientLink ClientLink = Unit {0}
AtClientLink NoMemory = Unit {0}
AtClientLink other = ⊥

-- the source failed, or no memory was left
abbrev pub AtSource : HostFault → Type 0
AtSource Source = Unit {0}
AtSource NoMemory = Unit {0}
AtSource other = ⊥

-- the sink failed, or no memory was left
abbrev pub AtSink : HostFault → Type 0
AtSink Sink = Unit {0}
AtSink NoMemory = Unit {0}
AtSink other = ⊥

-- a disk, a link of a brick or the clock failed, or no memory was left
abbrev pub AtBricks : HostFault → Type 0
AtBricks Disk = Unit {0}
AtBricks Link = Unit {0}
AtBricks Clock = Unit {0}
AtBricks NoMemory = Unit {0}
AtBricks other = ⊥

-- or the client's link did
abbrev pub AtCommand : HostFault → Type 0
AtCommand Disk = Unit {0}
AtCommand Link = Unit {0}
AtCommand ClientLink = Unit {0}
AtCommand Clock = Unit {0}
AtCommand NoMemory = Unit {0}
AtCommand other = ⊥

-- anything but the source did
abbrev pub AtLine : HostFault → Type 0
AtLine Source = ⊥
AtLine other = Unit {0}

-- a fault that is none of the bricks'
abbrev pub IsOther : HostFault → Type 0
IsOther ClientLink = Unit {0}
IsOther Source = Unit {0}
IsOther Sink = Unit {0}
IsOther NoMemory = Unit {0}
IsOther other = ⊥

-- what a fault of a brick's turn is to the process that hosts it
abbrev pub fault_of : ServeFault → HostFault
fault_of serving.Disk = Disk
fault_of serving.Halted = Disk
fault_of serving.Link = Link
fault_of serving.Clock = Clock
fault_of serving.NoMemory = NoMemory
