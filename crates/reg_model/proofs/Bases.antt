-- A stripe's versions by rising stamp, and which of them was made on which. A version that a recovery or a write of one block makes has
-- a base: the version whose blocks its maker read (Frølund et al. 2004). A write of the whole stripe has none.
use Rattle.std.specs.Prelude.{◌≡◌, true, ◌⊎◌, if◌then◌else◌, List, [], ◌∷◌, length, Option, Some, None, All, Contains}
use Rattle.std.specs.List.{AllAdjacentBelow}
use Rattle.fab_base.specs.declared.stamps.Stamp.{Stamp}
use Rattle.fab_base.specs.Stamps.{stamp_below, first_stamp}

-- R holds of each version and the next, where the first version stands before all others
abbrev pub EachNext : (Stamp → Stamp → Type 0) → List Stamp → Type 0
EachNext R versions = AllAdjacentBelow R (first_stamp ∷ versions) (length (first_stamp ∷ versions))

-- stamps rise from each version to the next, and are above the first
abbrev pub Ascends : List Stamp → Type 0
Ascends versions = EachNext (λ u v. stamp_below u v ≡ true) versions

-- u lies strictly between b and t
abbrev pub IsBetween : Stamp → Stamp → Stamp → Type 0
IsBetween b u t = (stamp_below b u ≡ true) × (stamp_below u t ≡ true)

-- v has no base, or its base is u
abbrev pub IsMadeOn : (Stamp → Option Stamp) → Stamp → Stamp → Type 0
IsMadeOn base u v = (base v ≡ None) ⊎ (base v ≡ Some u)

-- What is known of bases: a base is below its version, so that the first version has none; and nothing that stands lies between
-- a version and its base, which is why a recovery reads what a quorum may have stored.
pub record BaseFacts (Stands : Stamp → Type 0) (base : Stamp → Option Stamp) : Type 0 where
  pub below : (t b : Stamp) → base t ≡ Some b → stamp_below b t ≡ true
  pub none_between : (t b u : Stamp) → base t ≡ Some b → Stands u → IsBetween b u t → ⊥

-- a version is effective where it stands, or is the base of an effective version
pub data IsEffective (Stands : Stamp → Type 0) (base : Stamp → Option Stamp) : Stamp → Type 0 where
  Standing : (t : Stamp) → Stands t → IsEffective Stands base t
  BaseOf : (t b : Stamp) → IsEffective Stands base t → base t ≡ Some b → IsEffective Stands base b

-- the versions are exactly the effective ones above the first, by rising stamp
pub record AreEffective (Stands : Stamp → Type 0) (base : Stamp → Option Stamp) (versions : List Stamp) : Type 0 where
  pub ascend : Ascends versions
  pub effective : All (λ v. IsEffective Stands base v) versions
  pub complete : (t : Stamp) → IsEffective Stands base t → stamp_below first_stamp t ≡ true → Contains versions t

-- a stamp in its place among rising stamps, where it stands once
abbrev pub added : Stamp → List Stamp → List Stamp
added t [] = t ∷ []
added t (v ∷ versions) = if stamp_below t v then t ∷ (v ∷ versions) else (if stamp_below v t then v ∷ added t versions else v ∷ versions)

-- the stamps above the first, rising, each once
abbrev pub versions_of : List Stamp → List Stamp
versions_of [] = []
versions_of (t ∷ stamps) = if stamp_below first_stamp t then added t (versions_of stamps) else versions_of stamps
