-- What a program asked of its host, and what it gave back.
use Rattle.std.specs.Prelude.{◌≡◌, ℕ, ◌≤◌, false, List, [], ◌∷◌, ◌++◌, ⊤, Option, Some, None}
use Rattle.std.specs.Str.{bytes_eq}
use Rattle.fab_base.specs.declared.faults.IoFault.{IoFault}
use Rattle.fab_base.specs.declared.faults.IoFault.TheVariants as io
use Rattle.fab_io.specs.Ends.{Rose}
use Rattle.fab_host.specs.declared.hosts.Asked.{Asked}
use Rattle.fab_host.specs.Held.{Held, lent, here, IsKnown}
use Rattle.fab_host.specs.Holdings.{Holdings, IsFree}
use Rattle.brick.specs.declared.endings.Ending.{Ending}
use Rattle.brick.specs.declared.endings.Ending.TheVariants.{Memory, Host}

-- what is seen of a host: its count of faults, the calls that were asked of it, and what it holds, where it tells that
pub record HostSeen (S D L N C : Type 0) : Type 0 where
  pub faults : ℕ
  pub asked : List Asked
  pub holds : Option (Holdings S D L N C)

abbrev pub host_seen : {S D L N C : Type 0} → ℕ → List Asked → Option (Holdings S D L N C) → HostSeen S D L N C
host_seen faults asked holds = record { faults = faults; asked = asked; holds = holds }

-- this is so of what a host held and of what it holds now, where it tells that
abbrev pub Told : {H : Type 0} → Option H → Option H → (H → H → Type 0) → Type 0
Told None None P = ⊤
Told None (Some now) P = ⊥
Told (Some h) None P = ⊥
Told (Some h) (Some now) P = P h now

-- what is held is told, and this is so of it
abbrev pub Has : {H : Type 0} → Option H → (H → Type 0) → Type 0
Has None P = ⊥
Has (Some h) P = P h

-- no call was asked, and the same is held
abbrev pub IsUnasked : {S D L N C : Type 0} → HostSeen S D L N C → HostSeen S D L N C → Type 0
IsUnasked before after = (after.asked ≡ before.asked) × Told before.holds after.holds (λ h now. now ≡ h)

-- this call alone was asked, and this is so of what is held; the count of faults never falls
pub record AsksOnly {S D L N C : Type 0} (before after : HostSeen S D L N C) (call : Asked) (P : Holdings S D L N C → Holdings S D L N C → Type 0) : Type 0 where
  pub asked : after.asked ≡ before.asked ++ call ∷ []
  pub later : before.faults ≤ after.faults
  pub told : Told before.holds after.holds P

-- the call failed, as the count of faults says: the same is held
abbrev pub AsksInVain : {S D L N C : Type 0} → HostSeen S D L N C → HostSeen S D L N C → Asked → Type 0
AsksInVain before after call = AsksOnly before after call (λ h now. now ≡ h) × Rose before.faults after.faults

-- what had a name or a port has it still: it is here, or it is lent
pub record KnowsStill {S D L N C : Type 0} (h now : Holdings S D L N C) : Type 0 where
  pub sources : (name : List ℕ) → IsKnown (h.sources name) → IsKnown (now.sources name)
  pub disks : (name : List ℕ) → IsKnown (h.disks name) → IsKnown (now.disks name)
  pub links : (port : ℕ) → IsKnown (h.links port) → IsKnown (now.links port)
  pub sessions : (port : ℕ) → IsKnown (h.sessions port) → IsKnown (now.sessions port)
  pub clock : IsKnown h.clock → IsKnown now.clock

-- The source of this name was opened, and given back as it is now. All else is as it was.
pub record ReturnsSource {S D L N C : Type 0} (name : List ℕ) (opened back : S) (h now : Holdings S D L N C) : Type 0 where
  pub was : h.sources name ≡ here opened
  pub is : now.sources name ≡ here back
  pub others : (other : List ℕ) → bytes_eq name other ≡ false → now.sources other ≡ h.sources other
  pub disks : now.disks ≡ h.disks
  pub links : now.links ≡ h.links
  pub sessions : now.sessions ≡ h.sessions
  pub clock : now.clock ≡ h.clock

-- A disk of this name, which was free, was made, and given back as it is now. All else is as it was.
pub record ReturnsFresh {S D L N C : Type 0} (name : List ℕ) (back : D) (h now : Holdings S D L N C) : Type 0 where
  pub was_free : IsFree h name
  pub is : now.disks name ≡ here back
  pub others : (other : List ℕ) → bytes_eq name other ≡ false → now.disks other ≡ h.disks other
  pub sources : now.sources ≡ h.sources
  pub links : now.links ≡ h.links
  pub sessions : now.sessions ≡ h.sessions
  pub clock : now.clock ≡ h.clock

-- Nothing was opened by this call: the host failed, or no memory was left.
abbrev pub IsRefused : {S D L N C : Type 0} → HostSeen S D L N C → HostSeen S D L N C → Asked → Ending → Type 0
IsRefused before after call Host = AsksInVain before after call
IsRefused before after call Memory = IsUnasked before after
IsRefused before after call other = ⊥

-- how a call that opened nothing ends the program
abbrev pub refusal_by : IoFault → Ending
refusal_by io.Failed = Host
refusal_by io.NoMemory = Memory

-- A thing was lent by this call, this was done with the host meanwhile, and the thing was given back as it is now. `at` says where it stands
-- among what is held, and `with` is that with something else there.
pub record Borrows {S D L N C T : Type 0} (before after : HostSeen S D L N C) (call : Asked) (at : Holdings S D L N C → Held T)
    (with : Holdings S D L N C → Held T → Holdings S D L N C) (thing back : T) (meanwhile : HostSeen S D L N C → HostSeen S D L N C → Type 0) : Type 0 where
  pub began : HostSeen S D L N C
  pub ended : HostSeen S D L N C
  pub lends : AsksOnly before began call (λ h now. (at h ≡ here thing) × (now ≡ with h lent))
  pub does : meanwhile began ended
  pub asked : after.asked ≡ ended.asked
  pub faults : after.faults ≡ ended.faults
  pub regains : Told ended.holds after.holds (λ h now. now ≡ with h (here back))

-- A thing was lent by this call, from where it stands among what is held.
abbrev pub IsLent : {S D L N C T : Type 0} → HostSeen S D L N C → HostSeen S D L N C → Asked → (Holdings S D L N C → Held T)
    → (Holdings S D L N C → Held T → Holdings S D L N C) → T → Type 0
IsLent before after call at with thing = AsksOnly before after call (λ h now. (at h ≡ here thing) × (now ≡ with h lent))

-- A thing was given back as it is now. No call was asked.
pub record IsReturned {S D L N C T : Type 0} (before after : HostSeen S D L N C) (with : Holdings S D L N C → Held T → Holdings S D L N C) (back : T) : Type 0 where
  pub asked : after.asked ≡ before.asked
  pub faults : after.faults ≡ before.faults
  pub regains : Told before.holds after.holds (λ h now. now ≡ with h (here back))
