-- What a clock does to the moments that are to come.
use Rattle.std.specs.Prelude.{◌≡◌, ℕ, ◌+◌, List, [], ◌∷◌, ⊤, Option, Some, None, Result, MatchResult}

-- of the moments to come, by their number from 0, these are the first, and the others come behind them
abbrev pub Begins : (ℕ → ℕ) → (ℕ → ℕ) → List ℕ → Type 0
Begins coming after [] = (k : ℕ) → after k ≡ coming k
Begins coming after (moment ∷ moments) = (moment ≡ coming 0) × Begins (λ k. coming (k + 1)) after moments

-- moments that are told begin with these, and lose them
abbrev pub Passes : Option (ℕ → ℕ) → Option (ℕ → ℕ) → List ℕ → Type 0
Passes None after moments = ⊤
Passes (Some coming) None moments = ⊥
Passes (Some coming) (Some after) moments = Begins coming after moments

-- `now()` gave the next moment at `Ok`, and none at `Err`
abbrev pub NowGives : {E : Type 0} → Option (ℕ → ℕ) → Option (ℕ → ℕ) → Result ℕ E → Type 0
NowGives before after r = MatchResult r (λ moment. Passes before after (moment ∷ [])) (λ _. Passes before after [])
