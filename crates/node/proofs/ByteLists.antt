-- Lists of bytes.
use Rattle.std.proofs.Common.{◌≡◌, ℕ, zero, suc, true, List, [], ◌∷◌, nat_lt, get_or, refl, arith, Fits, w8}
use Rattle.std.specs.Cmp.Derive.{both_true}
use Rattle.std.proofs.lemmas.Bool.Decides.{nat_tests}
use Rattle.protocol.specs.Settings.{are_bytes}

-- numbers that each fit a byte are bytes
pub are_bytes-fits : (xs : List ℕ) → ((i : ℕ) → Fits w8 (get_or xs i 0)) → are_bytes xs ≡ true
are_bytes-fits [] fits = refl
are_bytes-fits (x ∷ xs) fits =
    let first : Fits w8 x = fits zero in
    let small : nat_lt x 256 ≡ true = grind (arith, nat_tests, first) in
    both_true small (are_bytes-fits xs (λ i. fits (suc i)))
