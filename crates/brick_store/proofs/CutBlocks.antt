-- Blocks that lie one after the other.
use Rattle.std.proofs.Common.{◌≡◌, ℕ, zero, suc, ◌+◌, ◌*◌, ◌<◌, List, [], ◌∷◌, ◌++◌, length, get_or, take, drop, sym, ap, ◌∙◌, arith}
use Rattle.std.specs.List.{AllByRecursion, flat_map}
use Rattle.std.proofs.lemmas.List.{length-append, take_at, drop_at, drop-drop}

-- each is as long as the others
pub blocks_long : (block : ℕ → List ℕ) (size : ℕ) (numbers : List ℕ) → AllByRecursion (λ n. length (block n) ≡ size) numbers
    → length (flat_map block numbers) ≡ length numbers * size
blocks_long block size [] all = omega arith
blocks_long block size (n ∷ numbers) all =
    omega (arith, length-append (block n) (flat_map block numbers), all.0, blocks_long block size numbers all.1)

-- and the block of a slot is the one in its place
pub block_cut : (block : ℕ → List ℕ) (size : ℕ) (numbers : List ℕ) (i : ℕ) → AllByRecursion (λ n. length (block n) ≡ size) numbers → i < length numbers
    → take size (drop (i * size) (flat_map block numbers)) ≡ block (get_or numbers i 0)
block_cut block size [] i all within = absurd (omega (arith, within))
block_cut block size (n ∷ numbers) zero all within =
    let none : 0 * size ≡ 0 = omega arith in
    ap (λ (k : ℕ). take size (drop k (block n ++ flat_map block numbers))) none ∙ take_at (block n) (flat_map block numbers) size all.0
block_cut block size (n ∷ numbers) (suc i) all within =
    let more : suc i * size ≡ size + i * size = omega arith in
    ap (λ (k : ℕ). take size (drop k (block n ++ flat_map block numbers))) more
    ∙ ap (take size) (sym (drop-drop (i * size) size (block n ++ flat_map block numbers))
    ∙ ap (drop (i * size)) (drop_at (block n) (flat_map block numbers) size all.0))
    ∙ block_cut block size numbers i all.1 (omega (arith, within))
