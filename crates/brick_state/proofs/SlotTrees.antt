-- What the first node of a tree of slots has.
use Rattle.std.proofs.Common.{◌≡◌, ◌⊎◌, inl, inr, ⊎_elim, ℕ, zero, suc, ◌+◌, ◌*◌, ◌-◌, ◌<◌, ◌≤◌, List, length, get_or, refl, sym, ap, subst, ◌∙◌, arith, ◌≢◌, [], ◌∷◌, ◌++◌, replicate}
use Rattle.std.proofs.lemmas.Bool.{cases_lt, cases_eq}
use Rattle.std.proofs.Math.ListN.{get_or-eq_default}
use Rattle.brick_state.specs.SlotTrees.{IsTree, IsTreeOf, IsLeastUnused, IsJoined, leaf}

-- the half of a number
half : (i : ℕ) → (p : ℕ) × ((i ≡ 2 * p) ⊎ (i ≡ 2 * p + 1))
half zero = (0, inl (omega arith))
half (suc i) = step (half i).0 (half i).1
  where
    step : (p : ℕ) → (i ≡ 2 * p) ⊎ (i ≡ 2 * p + 1) → (q : ℕ) × ((suc i ≡ 2 * q) ⊎ (suc i ≡ 2 * q + 1))
    step p (inl e) = (p, inr (omega (arith, e)))
    step p (inr e) = (p + 1, inl (omega (arith, e)))

-- the first node has no more than any other
root_below : (slots : ℕ) (least : List ℕ) → IsTree slots least → (fuel i : ℕ) → i ≤ fuel → 1 ≤ i → i < 2 * slots
    → get_or least 1 0 ≤ get_or least i 0
root_below slots least tree zero i few some within = absurd (omega (arith, few, some))
root_below slots least tree (suc fuel) i few some within = ⊎_elim (λ lower. first (omega (arith, lower, some))) (λ upper. below (root_below slots least tree fuel) upper (half i).0 (half i).1)
    (cases_lt i 2)
  where
    first : i ≡ 1 → get_or least 1 0 ≤ get_or least i 0
    first e = subst (λ (n : ℕ). get_or least 1 0 ≤ get_or least n 0) (sym e) (omega arith)

    below : ((j : ℕ) → j ≤ fuel → 1 ≤ j → j < 2 * slots → get_or least 1 0 ≤ get_or least j 0) → 2 ≤ i → (p : ℕ) → (i ≡ 2 * p) ⊎ (i ≡ 2 * p + 1) → get_or least 1 0 ≤ get_or least i 0
    below lower upper p (inl e) =
        subst (λ (n : ℕ). get_or least 1 0 ≤ get_or least n 0) (sym e)
        (omega (
          arith,
          tree.inner p (omega (arith, e, upper)) (omega (arith, e, within)),
          lower p (omega (arith, e, few, upper)) (omega (arith, e, upper)) (omega (arith, e, within)),
        ))
    below lower upper p (inr e) =
        subst (λ (n : ℕ). get_or least 1 0 ≤ get_or least n 0) (sym e)
        (omega (
          arith,
          tree.inner p (omega (arith, e, upper)) (omega (arith, e, within)),
          lower p (omega (arith, e, few, upper)) (omega (arith, e, upper)) (omega (arith, e, within)),
        ))

-- what a node has is a free slot, if it is one
abbrev IsFound : List ℕ → ℕ → Type 0
IsFound counts v = (v ≡ 4294967295) ⊎ ((v < length counts) × (get_or counts v 0 ≡ 0))

leaf_found : (counts : List ℕ) (slot count v : ℕ) → slot < length counts → get_or counts slot 0 ≡ count → v ≡ leaf slot count → IsFound counts v
leaf_found counts slot zero v within is e =
    inr (omega (arith, e, within), subst (λ (n : ℕ). get_or counts n 0 ≡ 0) (sym e) is)
leaf_found counts slot (suc count) v within is e = inl e

node_found : (least counts : List ℕ) → IsTreeOf least counts → (fuel i : ℕ) → 2 * length counts ≤ i + fuel → 1 ≤ i → i < 2 * length counts
    → IsFound counts (get_or least i 0)
node_found least counts tree zero i enough some within = absurd (omega (arith, enough, within))
node_found least counts tree (suc fuel) i enough some within = ⊎_elim (inside (node_found least counts tree fuel)) at_end (cases_lt i (length counts))
  where
    inside : ((j : ℕ) → 2 * length counts ≤ j + fuel → 1 ≤ j → j < 2 * length counts → IsFound counts (get_or least j 0)) → i < length counts → IsFound counts (get_or least i 0)
    inside lower lt =
        let joined = tree.tree.inner i some lt in
        ⊎_elim
        (λ less. subst (λ (v : ℕ). IsFound counts v) (omega (arith, less, joined))
        (lower (2 * i) (omega (arith, enough, some)) (omega (arith, some)) (omega (arith, lt))))
        (λ more. subst (λ (v : ℕ). IsFound counts v) (omega (arith, more, joined))
        (lower (2 * i + 1) (omega (arith, enough, some)) (omega (arith, some)) (omega (arith, lt))))
        (cases_lt (get_or least (2 * i) 0) (get_or least (2 * i + 1) 0))

    at_end : length counts ≤ i → IsFound counts (get_or least i 0)
    at_end past =
        let slot : ℕ = i - length counts in
        let here : length counts + slot ≡ i = omega (arith, past) in
        let slot_lt : slot < length counts = omega (arith, past, within) in
        subst (λ (n : ℕ). IsFound counts (get_or least n 0)) here
        (leaf_found counts slot (get_or counts slot 0) (get_or least (length counts + slot) 0) slot_lt refl (tree.leaves slot slot_lt))

-- the least slot whose count is 0 is that of the first node, or the table's length where it has none
pub first_least : (least counts : List ℕ) (slot : ℕ) → IsTreeOf least counts → 1 ≤ length counts
    → (get_or least 1 0 ≡ 4294967295 → slot ≡ length counts) → (get_or least 1 0 ≢ 4294967295 → slot ≡ get_or least 1 0)
    → IsLeastUnused counts slot
first_least least counts slot tree some none one = ⊎_elim full free (cases_eq (get_or least 1 0) 4294967295)
  where
    below : (other : ℕ) → other < length counts → get_or counts other 0 ≡ 0 → get_or least 1 0 ≤ other
    below other within unused = omega (
      arith,
      root_below (length counts) least tree.tree (length counts + other) (length counts + other) (omega arith) (omega (arith, some)) (omega (arith, within)),
      tree.leaves other within ∙ ap (leaf other) unused,
    )

    full : get_or least 1 0 ≡ 4294967295 → IsLeastUnused counts slot
    full is = record {
      unused = get_or-eq_default counts 0 {n = slot} (omega (arith, none is));
      least = λ other unused. ⊎_elim (λ within. absurd (omega (arith, below other within unused, is, within, tree.few)))
          (λ past. omega (arith, none is, past)) (cases_lt other (length counts));
    }

    free : get_or least 1 0 ≢ 4294967295 → IsLeastUnused counts slot
    free other = ⊎_elim (λ is. absurd (other is)) (λ found. record {
      unused = subst (λ (n : ℕ). get_or counts n 0 ≡ 0) (sym (one other)) found.1;
      least = λ more unused. ⊎_elim (λ within. omega (arith, one other, below more within unused))
          (λ past. omega (arith, one other, found.0, past)) (cases_lt more (length counts));
    }) (node_found least counts tree (2 * length counts) 1 (omega arith) (omega arith) (omega (arith, some)))

pub empty_least : (counts : List ℕ) → length counts ≡ 0 → IsLeastUnused counts 0
empty_least counts none = record { unused = get_or-eq_default counts 0 {n = 0} (omega (arith, none)); least = λ other unused. omega arith }

-- ---- the loops over the nodes

-- while nodes are written upward: all are joined but the one above this node
pub record IsClimbing (slots : ℕ) (leaves least : List ℕ) (node : ℕ) : Type 0 where
  pub size : length least ≡ 2 * slots
  pub within : node < 2 * slots
  pub above : 1 ≤ node
  pub same : (i : ℕ) → slots ≤ i → get_or least i 0 ≡ get_or leaves i 0
  pub inner : (i : ℕ) → 1 ≤ i → i < slots → node ≢ 2 * i → node ≢ 2 * i + 1 → IsJoined least i

-- while nodes are written downward: those from this one on are as they are to be where slots have these counts
pub record IsBuilt (slots : ℕ) (counts least : List ℕ) (node : ℕ) : Type 0 where
  pub size : length least ≡ 2 * slots
  pub within : node ≤ 2 * slots
  pub leaves : (slot : ℕ) → slot < slots → node ≤ slots + slot → get_or least (slots + slot) 0 ≡ leaf slot (get_or counts slot 0)
  pub inner : (i : ℕ) → 1 ≤ i → node ≤ i → i < slots → IsJoined least i

-- counts that were made longer by zeros
pub padded_count : (counts : List ℕ) (more slot : ℕ) → get_or (counts ++ replicate more 0) slot 0 ≡ get_or counts slot 0
padded_count [] zero slot = refl
padded_count [] (suc more) zero = refl
padded_count [] (suc more) (suc slot) = padded_count [] more slot
padded_count (x ∷ counts) more zero = refl
padded_count (x ∷ counts) more (suc slot) = padded_count counts more slot
