-- What stands under a key: a thing that may be lent.
use Rattle.std.specs.Prelude.{◌≡◌, ℕ, Bool, cond, List, ⊤, nat_eq}
use Rattle.std.specs.Str.{bytes_eq}

-- no thing has this key, or it was opened and is not given back yet, or it is here
pub data Held (T : Type 0) : Type 0 where
  absent : Held T
  lent : Held T
  here : T → Held T

-- a thing has this key
abbrev pub IsKnown : {T : Type 0} → Held T → Type 0
IsKnown absent = ⊥
IsKnown lent = ⊤
IsKnown (here thing) = ⊤

-- there is nothing to be opened
abbrev pub IsMissing : {T : Type 0} → Held T → Type 0
IsMissing absent = ⊤
IsMissing lent = ⊤
IsMissing (here thing) = ⊥

-- what stands under each key, with this under one of them, where a test says which keys are the same
abbrev pub at_key : {K T : Type 0} → (K → K → Bool) → (K → Held T) → K → Held T → K → Held T
at_key same held key now other = cond (same key other) now (held other)

-- the same by names
abbrev pub at_name : {T : Type 0} → (List ℕ → Held T) → List ℕ → Held T → List ℕ → Held T
at_name = at_key bytes_eq

-- and by ports
abbrev pub at_port : {T : Type 0} → (ℕ → Held T) → ℕ → Held T → ℕ → Held T
at_port = at_key nat_eq

-- each thing that is here has P
abbrev pub AllHere : {K T : Type 0} → (T → Type 0) → (K → Held T) → Type 0
AllHere {K} {T} P held = (key : K) (thing : T) → held key ≡ here thing → P thing
