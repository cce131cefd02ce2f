-- What is drawn from a generator of words: each draw gives a value and the generator that goes on.
use Rattle.std.specs.Prelude.{ℕ, ◌%◌, List, ◌++◌}
use Rattle.std.specs.Int.{w32, to_be_bytes}
use Rattle.rand_core.specs.Pcg32Seed.{pcg32_seed}
use Rattle.rand_pcg.specs.Lcg.{Lcg}
use Rattle.rand_pcg.specs.Pcg.{pcg32, pcg32_of_seed}

-- the generator that a seed begins
abbrev pub seeded : ℕ → Lcg
seeded seed = pcg32_of_seed (pcg32_seed 16 seed)

-- nothing is drawn
abbrev pub just : {A : Type 0} → A → Lcg → A × Lcg
just value random = (value, random)

-- the second draw behind the first
infixl 10 ◌>>=◌
abbrev pub ◌>>=◌ : {A B : Type 0} → (Lcg → A × Lcg) → (A → Lcg → B × Lcg) → Lcg → B × Lcg
(first >>= second) random = second (first random).0 (first random).1

-- a number below k, by the next word
abbrev pub number_below : ℕ → Lcg → ℕ × Lcg
number_below k random = ((pcg32 random).0 % k, (pcg32 random).1)

-- the bytes that the next word spells, as eight hexadecimal digits
abbrev pub four_bytes : Lcg → List ℕ × Lcg
four_bytes random = (to_be_bytes w32 (pcg32 random).0, (pcg32 random).1)

-- the bytes that the next two words spell, one behind the other
abbrev pub eight_bytes : Lcg → List ℕ × Lcg
eight_bytes = do
  first ← four_bytes
  second ← four_bytes
  just (first ++ second)
