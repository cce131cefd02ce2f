-- A log of versions: stamps that rise, and each version's block, or what is kept of it.
use Rattle.std.specs.Prelude.{◌≡◌, ℕ, ◌-◌, Bool, not, Option, Some, None, List, length, slice_get, filter, find, is_some, if◌then◌else◌, IsTrue}
use Rattle.std.specs.List.{AllPairs}
use Rattle.std.specs.Option.{ForSome}
use Rattle.fab_base.specs.declared.stamps.Stamp.{Stamp}
use Rattle.fab_base.specs.Stamps.{stamp_below, stamp_same}
use Rattle.version_log.specs.declared.versions.Version.{Version as VersionOf}

-- a version with the bytes of its block
abbrev pub Version : Type 0
Version = VersionOf (List ℕ)

abbrev pub version : {B : Type 0} → Stamp → B → VersionOf B
version s b = record { stamp = s; block = b }

abbrev pub block_of : {B : Type 0} → VersionOf B → B
block_of v = v.block

-- each version's stamp is below all later ones
abbrev pub IsRising : {B : Type 0} → List (VersionOf B) → Type 0
IsRising log = AllPairs (λ v w. IsTrue (stamp_below v.stamp w.stamp)) log

-- the version has this stamp; its stamp is below the bound
abbrev pub has_stamp : {B : Type 0} → Stamp → VersionOf B → Bool
has_stamp s v = stamp_same v.stamp s

abbrev pub is_below : {B : Type 0} → Stamp → VersionOf B → Bool
is_below bound v = stamp_below v.stamp bound

-- the last version, if any
abbrev pub newest : {B : Type 0} → List (VersionOf B) → Option (VersionOf B)
newest log = slice_get log (length log - 1)

-- the last of the versions below the bound, if any
abbrev pub below : {B : Type 0} → Stamp → List (VersionOf B) → Option (VersionOf B)
below bound log = newest (filter (is_below bound) log)

-- the stamp is above the newest version's
abbrev pub IsNewer : {B : Type 0} → Stamp → List (VersionOf B) → Type 0
IsNewer s log = ForSome (newest log) (λ top. IsTrue (stamp_below top.stamp s))

-- the block is the one given, or a copy of the newest version's where none is given
abbrev pub IsAdded : {B : Type 0} → (B → B → Type 0) → List (VersionOf B) → Option B → B → Type 0
IsAdded is_copy log (Some given) block = block ≡ given
IsAdded is_copy log None block = ForSome (newest log) (λ top. is_copy top.block block)

-- the log without the versions below the stamp
abbrev pub from_stamp : {B : Type 0} → Stamp → List (VersionOf B) → List (VersionOf B)
from_stamp s log = filter (λ v. not (is_below s v)) log

-- the log without the versions below the one of this stamp, if it has that one
abbrev pub collected : {B : Type 0} → Stamp → List (VersionOf B) → List (VersionOf B)
collected s log = if is_some (find (has_stamp s) log) then from_stamp s log else log
