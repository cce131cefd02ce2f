-- What is opened of a host for one brick, and given back.
use Rattle.std.specs.Prelude.{◌≡◌, ◌⊎◌, ℕ, false, List, ⊤}
use Rattle.fab_base.specs.declared.identities.BrickId.{BrickId}
use Rattle.fab_base.specs.Layouts.{Layout}
use Rattle.fab_host.specs.declared.hosts.Asked.TheVariants as calls
use Rattle.fab_host.specs.Held.{here, IsKnown, IsMissing}
use Rattle.fab_host.specs.Holdings.{Holdings, with_disk, with_link, with_clock}
use Rattle.node.specs.Running.{Running}
use Rattle.serving.specs.Ports.{ports_of, port_of}
use Rattle.brick.specs.declared.endings.Ending.{Ending}
use Rattle.brick.specs.declared.openings.Equipment.{Equipment}
use Rattle.brick.specs.declared.openings.Equipment.TheVariants as opened
use Rattle.brick.specs.Hosts.{HostSeen, IsLent, IsReturned, IsRefused}
use Rattle.brick.specs.Serves.{IsStarted, IsLeft, RefusesStore, MayStart}
use Rattle.brick.specs.Views.{Views}

-- what was opened is known to the host, under this name and at this port
abbrev pub KnowsEquipment : {S D L N C : Type 0} → List ℕ → ℕ → Equipment D L C → Holdings S D L N C → Type 0
KnowsEquipment name port opened.Nothing h = ⊤
KnowsEquipment name port (opened.Disk disk) h = IsKnown (h.disks name)
KnowsEquipment name port (opened.Linked disk link) h = IsKnown (h.disks name) × IsKnown (h.links port)
KnowsEquipment name port (opened.Timed disk link clock) h = IsKnown (h.disks name) × IsKnown (h.links port) × IsKnown h.clock

-- and it is sound
abbrev pub IsSoundEquipment : {D L C : Type 0} → (D → Type 0) → (L → Type 0) → (C → Type 0) → Equipment D L C → Type 0
IsSoundEquipment on_disk on_link on_clock opened.Nothing = ⊤
IsSoundEquipment on_disk on_link on_clock (opened.Disk disk) = on_disk disk
IsSoundEquipment on_disk on_link on_clock (opened.Linked disk link) = on_disk disk × on_link link
IsSoundEquipment on_disk on_link on_clock (opened.Timed disk link clock) = on_disk disk × on_link link × on_clock clock

-- the link and then the disk are given back, as they are now
abbrev pub GivesLinkBack : {S D L N C : Type 0} → List ℕ → ℕ → D → L → HostSeen S D L N C → HostSeen S D L N C → Type 0
GivesLinkBack {S} {D} {L} {N} {C} name port disk link before after =
    (between : HostSeen S D L N C) × IsReturned before between (λ h. with_link h port) link × IsReturned between after (λ h. with_disk h name) disk

-- all of it is, from the last to the first
abbrev pub GivesBack : {S D L N C : Type 0} → List ℕ → ℕ → Equipment D L C → HostSeen S D L N C → HostSeen S D L N C → Type 0
GivesBack name port opened.Nothing before after = after ≡ before
GivesBack name port (opened.Disk disk) before after = IsReturned before after (λ h. with_disk h name) disk
GivesBack name port (opened.Linked disk link) before after = GivesLinkBack name port disk link before after
GivesBack {S} {D} {L} {N} {C} name port (opened.Timed disk link clock) before after =
    (between : HostSeen S D L N C) × IsReturned before between with_clock clock × GivesLinkBack name port disk link between after

-- this is so of the host once all of it was given back
abbrev pub OnceGivenBack : {S D L N C : Type 0} → List ℕ → ℕ → Equipment D L C → HostSeen S D L N C → (HostSeen S D L N C → Type 0) → Type 0
OnceGivenBack {S} {D} {L} {N} {C} name port equipment before P = (after : HostSeen S D L N C) → GivesBack name port equipment before after → P after

-- The disk of this name was lent, its store was opened as this node, and the link of the brick's port was lent.
pub record OpensBrick {S D L N C : Type 0} (v : Views D L C) (layout : Layout) (me : BrickId) (name : List ℕ) (before after : HostSeen S D L N C)
    (node : Running D) (link : L) : Type 0 where
  pub disk : D
  pub between : HostSeen S D L N C
  pub lends : IsLent before between (calls.Disk name false) (λ h. h.disks name) (λ h. with_disk h name) disk
  pub started : IsStarted v layout me disk node
  pub links : IsLent between after (calls.Link (port_of (ports_of layout) me)) (λ h. h.links (port_of (ports_of layout) me))
      (λ h. with_link h (port_of (ports_of layout) me)) link

-- The disk's store was opened, but the link of the brick's port was refused. The disk is whole.
pub record RefusesLink {S D L N C : Type 0} (v : Views D L C) (layout : Layout) (me : BrickId) (disk back : D) (before after : HostSeen S D L N C)
    (ending : Ending) : Type 0 where
  pub node : Running D
  pub started : IsStarted v layout me disk node
  pub refused : IsRefused before after (calls.Link (port_of (ports_of layout) me)) ending
  pub left : IsLeft v layout me node back ⊤

-- The disk of this name was lent; but its store was not opened, and nothing else was asked for, or the link was refused.
pub record RefusesDisk {S D L N C : Type 0} (v : Views D L C) (layout : Layout) (me : BrickId) (name : List ℕ) (before after : HostSeen S D L N C)
    (back : D) (ending : Ending) : Type 0 where
  pub disk : D
  pub between : HostSeen S D L N C
  pub lends : IsLent before between (calls.Disk name false) (λ h. h.disks name) (λ h. with_disk h name) disk
  pub refused : (RefusesStore v layout me disk back ending × (after ≡ between)) ⊎ RefusesLink v layout me disk back between after ending

-- A brick was not opened: its disk was refused, or it was lent, and has to be given back.
abbrev pub RefusesBrick : {S D L N C : Type 0} → Views D L C → Layout → BrickId → List ℕ → HostSeen S D L N C → HostSeen S D L N C → Ending
    → Equipment D L C → Type 0
RefusesBrick v layout me name before after ending opened.Nothing = IsRefused before after (calls.Disk name false) ending
RefusesBrick v layout me name before after ending (opened.Disk back) = RefusesDisk v layout me name before after back ending
RefusesBrick v layout me name before after ending other = ⊥

-- the host holds, under this name, a disk that may be started as this brick, and the link of its port
pub record HoldsBrick {S D L N C : Type 0} (tells : Type 0) (seen : D → List ℕ) (layout : Layout) (me : BrickId) (name : List ℕ)
    (h : Holdings S D L N C) : Type 0 where
  pub disk : D
  pub held : h.disks name ≡ here disk
  pub starts : MayStart tells seen layout me disk
  pub link : IsMissing (h.links (port_of (ports_of layout) me)) → ⊥
