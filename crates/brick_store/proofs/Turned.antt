-- A vector that is taken from its end, seen from its first on.
use Rattle.std.proofs.Common.{◌≡◌, List, [], ◌∷◌, ◌++◌, length, ap, refl, ◌∙◌, arith}
use Rattle.std.specs.Prelude.{reverse}
use Rattle.std.proofs.lemmas.List.{reverse-append, reverse-reverse}
use Rattle.brick_state.specs.declared.records.Record.{Record}

-- turned twice it is what it was
pub turned_back : (records turned : List Record) → turned ≡ reverse records → reverse turned ≡ records
turned_back records turned is = ap reverse is ∙ reverse-reverse records

-- its last is the next
pub turned_next : (old now : List Record) (item : Record) → old ≡ now ++ item ∷ [] → reverse old ≡ item ∷ reverse now
turned_next old now item is = ap reverse is ∙ reverse-append now (item ∷ [])

-- and none is left where it has none
pub turned_none : (old : List Record) → length old ≡ 0 → reverse old ≡ []
turned_none [] is = refl
turned_none (item ∷ old) is = absurd (omega (arith, is))
