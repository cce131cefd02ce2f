-- The groups of a state with blocks are those of the state with slots.
use Rattle.std.proofs.Common.{◌≡◌, ◌≤◌, ℕ, List, None, length, sym, ap, arith}
use Rattle.std.proofs.lemmas.List.{get_or_past}
use Rattle.std.specs.List.{slice_index_or}
use Rattle.brick_state.specs.declared.groups.Group.{Group}
use Rattle.brick_state.specs.Entries.{Entry}
use Rattle.brick_state.specs.Folds.{Limits}
use Rattle.brick_state.specs.KeptStates.{IsKeptState}
use Rattle.brick_state.specs.States.{StateOf, group_at, no_group}
use Rattle.brick_store.specs.Blocks.{resolved}
use Rattle.brick_store.proofs.Resolving.{groups-resolved}

pub group_seen : (block : ℕ → List ℕ) (st : StateOf Entry) (g : ℕ) → group_at st g ≡ group_at (resolved block st) g
group_seen block st g = ap (λ (groups : List Group). slice_index_or groups g no_group) (sym (groups-resolved block st))

-- nothing is kept of a group from 64 on
pub none_above : (block : ℕ → List ℕ) (limits : Limits) (st : StateOf Entry) → IsKeptState limits st → (k : ℕ) → 64 ≤ k
    → (group_at (resolved block st) k).known ≡ None
unfolding resolved
none_above block limits st is k high =
    let past : length st.groups ≤ k = omega (arith, is.all_groups) in
    ap (λ (group : Group). group.known) (get_or_past st.groups k no_group past)
