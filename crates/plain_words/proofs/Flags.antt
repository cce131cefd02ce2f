-- Words that begin with `-`.
use Rattle.std.proofs.Common.{◌≡◌, ℕ, ◌==◌, ◌||◌, Bool, true, false, List, [], ◌∷◌, length, map, refl, ap, arith}
use Rattle.std.specs.Prelude.{slice_index}
use Rattle.std.specs.List.{list_any}
use Rattle.plain_words.specs.Readings.{is_flag, has_flag}

-- no byte, and so none that is `-`
pub no_byte : (word : List ℕ) → length word ≡ 0 → (slice_index word 0 == 45) ≡ false
no_byte [] none = refl
no_byte (byte ∷ rest) none = absurd (omega arith)

-- a test of what stands behind each word
pub any-map : {X : Type 0} (text : X → List ℕ) (words : List X) → list_any (λ word. is_flag (text word)) words ≡ has_flag (map text words)
any-map text [] = refl
any-map text (word ∷ words) = ap (λ (b : Bool). is_flag (text word) || b) (any-map text words)

-- neither of two holds
pub neither : (p q : Bool) → (p || q) ≡ false → (p ≡ false) × (q ≡ false)
neither false q none = (refl, none)
neither true q none = absurd (cc)
