-- The slots that versions name, stripe by stripe.
use Rattle.std.proofs.Common.{◌≡◌, ℕ, Option, Some, true, List, [], ◌∷◌, ◌++◌, map}
use Rattle.std.specs.List.{AllByRecursion}
use Rattle.brick_state.specs.Entries.{Entry}
use Rattle.brick_state.specs.States.{Place, StripeOf, StateOf}
use Rattle.brick_state.specs.Folds.{Limits, is_slot}
use Rattle.brick_state.specs.Rewrites.{start_of}
use Rattle.brick_state.specs.KeptStates.{Rises, IsKeptStripe, IsKeptState}
use Rattle.brick_state.specs.Slots.{slot_of, slots_in, slots_of}

-- what holds of the slots holds of the slot of each version
entries_each : (P : ℕ → Type 0) (entries : List Entry) (more : List ℕ) → AllByRecursion P (map slot_of entries ++ more)
    → AllByRecursion (λ v. P v.block) entries × AllByRecursion P more
entries_each P [] more all = (tt, all)
entries_each P (e ∷ entries) more all = let rest = entries_each P entries more all.1 in ((all.0, rest.0), rest.1)

pub each_slot : (P : ℕ → Type 0) (stripes : List (Place × StripeOf Entry)) → AllByRecursion P (slots_in stripes)
    → AllByRecursion (λ e. AllByRecursion (λ v. P v.block) e.1.added) stripes
unfolding slots_in
each_slot P [] all = tt
each_slot P (e ∷ stripes) all = let both = entries_each P e.1.added (slots_in stripes) all in (both.0, each_slot P stripes both.1)

-- the slots that a kept state names are slots of the store
rises_slots : (limits : Limits) (under : Option Entry) (entries : List Entry) (more : List ℕ) → Rises limits under entries
    → AllByRecursion (λ slot. is_slot limits slot ≡ true) more → AllByRecursion (λ slot. is_slot limits slot ≡ true) (map slot_of entries ++ more)
rises_slots limits under [] more rises all = all
rises_slots limits under (e ∷ entries) more rises all = (rises.1.0, rises_slots limits (Some e) entries more rises.1.1 all)

stripes_slots : (limits : Limits) (stripes : List (Place × StripeOf Entry)) → AllByRecursion (λ e. IsKeptStripe limits e.0 e.1) stripes
    → AllByRecursion (λ slot. is_slot limits slot ≡ true) (slots_in stripes)
unfolding slots_in
stripes_slots limits [] kept = tt
stripes_slots limits (e ∷ stripes) kept = rises_slots limits (start_of e.1.from_start) e.1.added (slots_in stripes) kept.0.rises
    (stripes_slots limits stripes kept.1)

pub kept_slots : (limits : Limits) (st : StateOf Entry) → IsKeptState limits st → AllByRecursion (λ slot. is_slot limits slot ≡ true) (slots_of st)
kept_slots limits st kept = stripes_slots limits st.stripes kept.stripes
