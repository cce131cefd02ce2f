-- Checks one after another: what holds where all of them pass.
use Rattle.std.proofs.Common.{◌≡◌, ℕ, ℤ, pos, negsuc, ◌≤◌, nat_le, Bool, true, false, ◌&&◌, ◌||◌, cond, List, ◌∷◌, Option, Some, None, option_map, option_and_then, Result, Ok, Err, refl, ap, sym, ◌∙◌, arith}
use Rattle.std.specs.Option.{ok_or}
use Rattle.std.proofs.lemmas.Bool.{and_parts}
use Rattle.std.proofs.lemmas.Bool.Decides.{nat_tests}
use Rattle.layout.specs.declared.faults.Key.{Key}
use Rattle.layout.specs.declared.faults.LayoutFault.{LayoutFault}
use Rattle.layout.specs.Checks.{◌>>=◌, natural, within}

-- checks that pass: each one passed
pub passed : {A B : Type 0} (first : Result A LayoutFault) (next : A → Result B LayoutFault) (b : B) → (first >>= next) ≡ Ok b
    → (a : A) × (first ≡ Ok a) × (next a ≡ Ok b)
passed (Ok a) next b is = (a, refl, is)
passed (Err fault) next b is = let never : Err fault ≡ Ok b = is in cc

-- a value that had to be there is there
pub there : {A : Type 0} (o : Option A) (fault : LayoutFault) (a : A) → ok_or o fault ≡ Ok a → o ≡ Some a
there None fault a is = let never : Err fault ≡ Ok a = is in cc
there (Some x) fault a is = let same : Ok x ≡ Ok a = is in let e : x ≡ a = cc in ap (λ (y : _). Some y) e

-- what passed is what was made
pub made : {A : Type 0} (a b : A) (r : Result A LayoutFault) → r ≡ Ok a → r ≡ Ok b → a ≡ b
made a b r is other = let same : Ok a ≡ Ok b = sym is ∙ other in cc

-- a number between its limits
pub natural_range : (low high : ℕ) (z : ℤ) (n : ℕ) → natural low high z ≡ Some n → (low ≤ n) × (n ≤ high)
natural_range low high (pos k) n is = in_range (nat_le low k && nat_le k high) refl is
  where
    in_range : (b : Bool) → (nat_le low k && nat_le k high) ≡ b → cond b (Some k) None ≡ Some n → (low ≤ n) × (n ≤ high)
    in_range true both same =
        let parts = and_parts (nat_le low k) (nat_le k high) both in
        let e : Some k ≡ Some n = same in
        let k_is : k ≡ n = cc in
        let l : low ≤ k = grind (arith, nat_tests, parts) in
        let h : k ≤ high = grind (arith, nat_tests, parts) in
        (omega arith, omega arith)
    in_range false both same = let never : None ≡ Some n = same in cc
natural_range low high (negsuc k) n is = let never : None ≡ Some n = is in cc

pub within_range : (key : Key) (low high : ℕ) (o : Option ℤ) (n : ℕ) → within key low high o ≡ Ok n → (low ≤ n) × (n ≤ high)
within_range key low high None n is = cc
within_range key low high (Some z) n is = natural_range low high z n (there (natural low high z) _ n is)

-- neither test holds
pub or_both : (a b : Bool) → (a || b) ≡ false → (a ≡ false) × (b ≡ false)
or_both true b e = cc
or_both false b e = (refl, e)

-- the first element and the others, where all are there
pub taken : {A : Type 0} (first : Option A) (rest : Option (List A)) (xs : List A)
    → option_and_then (λ x. option_map (λ more. x ∷ more) rest) first ≡ Some xs
    → (x : A) × (more : List A) × (first ≡ Some x) × (rest ≡ Some more) × (xs ≡ x ∷ more)
taken None rest xs is = let never : None ≡ Some xs = is in cc
taken (Some x) None xs is = let never : None ≡ Some xs = is in cc
taken (Some x) (Some more) xs is = let same : Some (x ∷ more) ≡ Some xs = is in (x, more, refl, refl, (cc))

-- a value that a reading goes on with
pub went_on : {A B : Type 0} (o : Option A) (next : A → Option B) (b : B) → option_and_then next o ≡ Some b → (a : A) × (o ≡ Some a) × (next a ≡ Some b)
went_on None next b is = let never : None ≡ Some b = is in cc
went_on (Some a) next b is = (a, refl, is)
