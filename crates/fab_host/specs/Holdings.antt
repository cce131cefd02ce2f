-- What a host holds.
use Rattle.std.specs.Prelude.{◌≡◌, ℕ, List}
use Rattle.fab_host.specs.Held.{Held, absent, at_name, at_port}

-- its sources and disks by their names, its links and sessions by their ports, and its clock
pub record Holdings (S D L N C : Type 0) : Type 0 where
  pub sources : List ℕ → Held S
  pub disks : List ℕ → Held D
  pub links : ℕ → Held L
  pub sessions : ℕ → Held N
  pub clock : Held C

-- with this under a source's name
abbrev pub with_source : {S D L N C : Type 0} → Holdings S D L N C → List ℕ → Held S → Holdings S D L N C
with_source h name now = record h { sources = at_name h.sources name now }

-- with this under a disk's name
abbrev pub with_disk : {S D L N C : Type 0} → Holdings S D L N C → List ℕ → Held D → Holdings S D L N C
with_disk h name now = record h { disks = at_name h.disks name now }

-- with this at a link's port
abbrev pub with_link : {S D L N C : Type 0} → Holdings S D L N C → ℕ → Held L → Holdings S D L N C
with_link h port now = record h { links = at_port h.links port now }

-- with this at a session's port
abbrev pub with_session : {S D L N C : Type 0} → Holdings S D L N C → ℕ → Held N → Holdings S D L N C
with_session h port now = record h { sessions = at_port h.sessions port now }

-- with this for its clock
abbrev pub with_clock : {S D L N C : Type 0} → Holdings S D L N C → Held C → Holdings S D L N C
with_clock h now = record h { clock = now }

-- neither a source nor a disk has this name
abbrev pub IsFree : {S D L N C : Type 0} → Holdings S D L N C → List ℕ → Type 0
IsFree h name = (h.sources name ≡ absent) × (h.disks name ≡ absent)
