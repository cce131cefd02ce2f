-- What is held in slots, each of which has a key.
use Rattle.std.specs.Prelude.{◌≡◌, ℕ, Bool, cond, List, [], ◌∷◌, Option, Some, None, MatchOption, nat_eq}
use Rattle.std.specs.Str.{bytes_eq}
use Rattle.fab_host.specs.declared.slots.Slot.{Slot}
use Rattle.fab_host.specs.Held.{Held, absent, lent, here, at_key, IsMissing}

-- what a slot holds
abbrev pub held_in : {T : Type 0} → Option T → Held T
held_in None = lent
held_in (Some thing) = here thing

-- what the first slot holds whose key is the same as this one
abbrev pub under : {K T : Type 0} → (K → K → Bool) → List (Slot K T) → K → Held T
under same [] key = absent
under same (slot ∷ slots) key = cond (same slot.key key) (held_in slot.thing) (under same slots key)

-- by names
abbrev pub named : {T : Type 0} → List (Slot (List ℕ) T) → List ℕ → Held T
named = under bytes_eq

-- by ports
abbrev pub ported : {T : Type 0} → List (Slot ℕ T) → ℕ → Held T
ported = under nat_eq

-- a thing was taken from under a key, or there was none to take
abbrev pub TakesOut : {K T : Type 0} → (K → K → Bool) → (K → Held T) → (K → Held T) → K → Option T → Type 0
TakesOut same before after key r =
    MatchOption r (IsMissing (before key) × (after ≡ before)) (λ thing. (before key ≡ here thing) × (after ≡ at_key same before key lent))
