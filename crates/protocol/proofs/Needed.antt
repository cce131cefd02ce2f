-- A phase needs a quorum of those who are asked, at least.
use Rattle.std.proofs.Common.{◌≤◌, if◌then◌else◌, List, Option, Some, None, arith}
use Rattle.fab_base.specs.declared.identities.BrickId.{BrickId}
use Rattle.fab_base.specs.Layouts.{Group}
use Rattle.quorum.specs.Quorums.{quorum_of}
use Rattle.protocol.specs.declared.phases.Phase.{Phase}
use Rattle.protocol.specs.declared.phases.Phase.TheVariants.{Looks, Recovers, Stores, LooksBack}
use Rattle.protocol.specs.Views.{kept_by}
use Rattle.protocol.specs.Coordinators.{Coordinator, AreEnough, needed_of, needed, asked_group, looks_back}

-- where it is of the group's own members, of whom enough count
own_enough : (group : Group) (phase : Phase) (only : Option (List BrickId)) → AreEnough group only → quorum_of group ≤ needed_of group phase only
own_enough group phase None enough = omega arith
own_enough group Looks (Some only) enough = enough
own_enough group Recovers (Some only) enough = enough
own_enough group Stores (Some only) enough = enough
own_enough group phase (Some only) enough = omega arith

-- and where it is of the members before: that phase is for no member alone
back_enough : (group elders : Group) (phase : Phase) (only : Option (List BrickId)) → AreEnough group only
    → quorum_of (if looks_back phase then elders else group) ≤ needed_of (if looks_back phase then elders else group) phase only
back_enough group elders (LooksBack bound) None enough = omega arith
back_enough group elders (LooksBack bound) (Some only) enough = omega arith
back_enough group elders phase only enough = own_enough group phase only enough

pub needs_quorum : (c : Coordinator) → AreEnough c.group c.only → quorum_of (asked_group c) ≤ needed c
needs_quorum c enough = back_enough c.group (kept_by c.prior c.group) c.phase c.only enough
