-- The records that are written bring back what is kept.
use Rattle.std.proofs.Common.{◌≡◌, Some, List, [], ◌∷◌, ◌++◌, refl, sym, subst}
use Rattle.brick_state.specs.declared.records.Record.{Record}
use Rattle.brick_state.specs.Entries.{Entry}
use Rattle.brick_state.specs.States.{StateOf}
use Rattle.brick_state.specs.Folds.{Limits, applied, folded}

-- these records, each of which can be, lead from one state to the other
unfoldable pub Leads : Limits → List Record → StateOf Entry → StateOf Entry → Type 0
Leads limits [] old new = old ≡ new
Leads limits (r ∷ rs) old new = (mid : StateOf Entry) × (applied limits r old ≡ Some mid) × Leads limits rs mid new

pub leads_append : (limits : Limits) (xs ys : List Record) (a b c : StateOf Entry) → Leads limits xs a b → Leads limits ys b c
    → Leads limits (xs ++ ys) a c
unfolding Leads
leads_append limits [] ys a b c first second = subst (λ (s : StateOf Entry). Leads limits ys s c) (sym first) second
leads_append limits (x ∷ xs) ys a b c first second = (first.0, first.1, leads_append limits xs ys first.0 b c first.2 second)

pub leads_one : (limits : Limits) (r : Record) (a b : StateOf Entry) → applied limits r a ≡ Some b → Leads limits (r ∷ []) a b
unfolding Leads
leads_one limits r a b h = (b, h, refl)

-- what they lead to is what they make
pub leads_folded : (limits : Limits) (xs : List Record) (a b : StateOf Entry) → Leads limits xs a b → folded limits xs a ≡ b
unfolding Leads folded
leads_folded limits [] a b h = h
leads_folded limits (x ∷ xs) a b h = rw h.1 (leads_folded limits xs h.0 b h.2)
