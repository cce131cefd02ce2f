-- Which faults a call on one thing has.
use Rattle.fab_disk.specs.declared.disk.Disk as on_disk
use Rattle.fab_io.specs.Ends.{Kept}
use Rattle.node.specs.Running.{Running}
use Rattle.serving.specs.declared.faults.ServeFault.{ServeFault}
use Rattle.serving.specs.declared.faults.ServeFault.TheVariants.{Link, Clock, NoMemory}

-- the link failed, or no memory was left
abbrev pub AtLink : ServeFault → Type 0
AtLink Link = Unit {0}
AtLink NoMemory = Unit {0}
AtLink other = ⊥

-- the clock failed, or no memory was left
abbrev pub AtClock : ServeFault → Type 0
AtClock Clock = Unit {0}
AtClock NoMemory = Unit {0}
AtClock other = ⊥

-- what a call counts of the faults of a brick's disk: where it failed so, the count rose; and a disk that is sound stays so, and does not fail
abbrev pub KeepsDisk : {D : Type 0} → on_disk.Ghosts D → Running D → Running D → Type 0 → Type 0
KeepsDisk d before after failed = Kept (d.faults before.brick.disk) (d.faults after.brick.disk) (d.sound before.brick.disk) (d.sound after.brick.disk) failed
