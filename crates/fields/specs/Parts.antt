-- The parts of what is spelled, and their bytes.
use Rattle.std.specs.Prelude.{◌≡◌, ℕ, ◌≤◌, ◌<◌, ◌^◌, List, [], ◌∷◌, ◌++◌, Result, OnOk}
use Rattle.byteorder.specs.Endian.{big_bytes}

-- a part: any number of so many bytes, one that has limits, or bytes whose count was told before
pub data Part : Type 0 where
  Number : (size n : ℕ) → Part
  Limited : (size least most n : ℕ) → Part
  Raw : (bytes : List ℕ) → Part

-- a number in so many bytes, from its high byte on
unfoldable pub number_bytes : ℕ → ℕ → List ℕ
number_bytes size n = big_bytes size n

abbrev pub bytes_of : Part → List ℕ
bytes_of (Number size n) = number_bytes size n
bytes_of (Limited size least most n) = number_bytes size n
bytes_of (Raw bytes) = bytes

-- the bytes of parts, one after the other
abbrev pub spelled : List Part → List ℕ
spelled [] = []
spelled (part ∷ parts) = bytes_of part ++ spelled parts

-- a number keeps its limits and has room in its bytes
abbrev pub Fits : Part → Type 0
Fits (Number size n) = n < 256 ^ size
Fits (Limited size least most n) = (n < 256 ^ size) × ((least ≤ n) × (n ≤ most))
Fits (Raw bytes) = Unit {0}

abbrev pub AllFit : List Part → Type 0
AllFit [] = Unit {0}
AllFit (part ∷ parts) = Fits part × AllFit parts

-- a byte that has this value alone
abbrev pub exactly : ℕ → Part
exactly n = Limited 1 n n n

-- the bytes of these parts were added, and each has room, unless memory ran out
abbrev pub Adds : {E : Type 0} → Result (Unit {0}) E → List ℕ → List ℕ → List Part → Type 0
Adds result old new parts = OnOk result ((new ≡ old ++ spelled parts) × AllFit parts)
