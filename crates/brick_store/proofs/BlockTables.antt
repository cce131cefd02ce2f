-- A table of blocks that grows.
use Rattle.std.proofs.Common.{◌≡◌, ◌≢◌, ⊎_elim, ℕ, zero, suc, ◌+◌, ◌-◌, ◌<◌, Option, None, Some, List, [], ◌∷◌, ◌++◌, length, get_or, refl, sym, ap, ◌∙◌, arith}
use Rattle.std.specs.Option.{unwrap_or}
use Rattle.std.proofs.lemmas.Bool.{cases_lt}
use Rattle.std.proofs.Math.ListN.{get_or-eq_default, get_or-append}
use Rattle.std.proofs.Math.Seq.{get_or-append_right}
use Rattle.brick_store.specs.BlockTables.{SlotBlocks, block_under, joined_blocks}

-- under a slot that is new nothing is held
pub under_push : (blocks : SlotBlocks) (slot : ℕ) → block_under (blocks ++ None ∷ []) slot ≡ block_under blocks slot
under_push blocks slot = ⊎_elim (λ below. get_or-append blocks (None ∷ []) None slot below)
    (λ past. get_or-append_right blocks (None ∷ []) slot None past ∙ nothing (slot - length blocks) ∙ sym (get_or-eq_default blocks None {n = slot} past))
    (cases_lt slot (length blocks))
  where
    nothing : (k : ℕ) → get_or {A = Option (List ℕ)} (None ∷ []) k None ≡ None
    nothing zero = refl
    nothing (suc k) = refl

-- the block of the next slot lies behind the others
pub joined_more : (blocks : SlotBlocks) (slot : ℕ) → joined_blocks blocks (slot + 1) ≡ joined_blocks blocks slot ++ unwrap_or (block_under blocks slot) []
unfolding joined_blocks
joined_more blocks slot = let next : slot + 1 ≡ suc slot = omega arith in ap (joined_blocks blocks) next

-- tables that hold the same below a slot have the same blocks there
joined_same : (now before : SlotBlocks) (slot : ℕ) → ((i : ℕ) → i < slot → block_under now i ≡ block_under before i) → joined_blocks now slot ≡ joined_blocks before slot
unfolding joined_blocks
joined_same now before zero same = refl
joined_same now before (suc slot) same =
    ap (λ (bs : List ℕ). bs ++ unwrap_or (block_under now slot) []) (joined_same now before slot (λ i lt. same i (omega (arith, lt))))
    ∙ ap (λ (o : Option (List ℕ)). joined_blocks before slot ++ unwrap_or o []) (same slot (omega arith))

-- and a block that is held under the next slot now lies behind those that were
pub joined_next : (now before : SlotBlocks) (slot : ℕ) (block : List ℕ) → block_under now slot ≡ Some block
    → ((other : ℕ) → other ≢ slot → block_under now other ≡ block_under before other) → joined_blocks now (slot + 1) ≡ joined_blocks before slot ++ block
joined_next now before slot block here others =
    joined_more now slot
    ∙ ap (λ (bs : List ℕ). bs ++ unwrap_or (block_under now slot) []) (joined_same now before slot (λ i lt. others i (λ is. omega (arith, is, lt))))
    ∙ ap (λ (o : Option (List ℕ)). joined_blocks before slot ++ unwrap_or o []) here
