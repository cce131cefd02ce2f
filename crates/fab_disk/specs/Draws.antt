-- What a generator draws.
use Rattle.std.specs.Prelude.{ℕ, zero, suc, ◌%◌, List, [], ◌∷◌}
use Rattle.rand_pcg.specs.Lcg.{Lcg}
use Rattle.rand_pcg.specs.Pcg.{pcg32}

-- the low eight bits of each of the next n words of a generator
unfoldable pub drawn : ℕ → Lcg → List ℕ
drawn zero random = []
drawn (suc n) random = ((pcg32 random).0 % 256) ∷ drawn n (pcg32 random).1

-- the generator after n words
unfoldable pub skipped : ℕ → Lcg → Lcg
skipped zero random = random
skipped (suc n) random = skipped n (pcg32 random).1
