-- What a caller of a host knows of what it holds, after it opened and gave back.
use Rattle.std.proofs.Common.{◌≡◌, ℕ, Bool, true, false, List, inl, inr, refl, nat_eq}
use Rattle.std.proofs.lemmas.Bool.{cases_Bool}
use Rattle.std.proofs.lemmas.Slice.Eq.{bytes_eq-Decides}
use Rattle.std.specs.Cmp.{unsigned_Decides}
use Rattle.std.specs.Str.{bytes_eq}
use Rattle.fab_host.specs.Held.{Held, at_key, at_name, at_port, IsKnown}

-- what was put under a key is under it
own : {K T : Type 0} (same : K → K → Bool) (held : K → Held T) (key : K) (now : Held T) → same key key ≡ true → at_key same held key now key ≡ now
own same held key now is = rw is refl

-- what was put under a name is under it
pub at_name-own : {T : Type 0} (held : List ℕ → Held T) (name : List ℕ) (now : Held T) → at_name held name now name ≡ now
at_name-own held name now = own bytes_eq held name now ((bytes_eq-Decides name name).1 refl)

-- and at a port
pub at_port-own : {T : Type 0} (held : ℕ → Held T) (port : ℕ) (now : Held T) → at_port held port now port ≡ now
at_port-own held port now = own nat_eq held port now ((unsigned_Decides port port).1 refl)

-- under a key that is not the same all stays
other_than : {K T : Type 0} (same : K → K → Bool) (held : K → Held T) (key other : K) (now : Held T) → same key other ≡ false
    → at_key same held key now other ≡ held other
other_than same held key other now miss = rw miss refl

-- under another name all stays
pub at_name-other : {T : Type 0} (held : List ℕ → Held T) (name other : List ℕ) (now : Held T) → (name ≡ other → ⊥) → at_name held name now other ≡ held other
at_name-other held name other now apart =
    other_than bytes_eq held name other now
    (elim (cases_Bool (bytes_eq name other)) [ inl hit ↦ absurd (apart ((bytes_eq-Decides name other).0 hit)) | inr miss ↦ miss ])

-- and at another port
pub at_port-other : {T : Type 0} (held : ℕ → Held T) (port other : ℕ) (now : Held T) → (port ≡ other → ⊥) → at_port held port now other ≡ held other
at_port-other held port other now apart =
    other_than nat_eq held port other now
    (elim (cases_Bool (nat_eq port other)) [ inl hit ↦ absurd (apart ((unsigned_Decides port other).0 hit)) | inr miss ↦ miss ])

-- a key that was known is known after one that is known was changed, whichever it is
pub known_after : {K T : Type 0} (same : K → K → Bool) (held : K → Held T) (key other : K) (now : Held T) → IsKnown now → IsKnown (held other)
    → IsKnown (at_key same held key now other)
known_after same held key other now known before =
    elim (cases_Bool (same key other)) [
      | inl hit ↦ rw hit known
      | inr miss ↦ rw miss before
    ]
