use Rattle.std.proofs.Common.{rules, ◌≡◌, ℕ, ◌+◌, ◌^◌, ◌≤◌, List, Fits, w64, get_or, arith, subst, sym}
use Rattle.std.proofs.lemmas.List.{get_or_read}
use Rattle.std.specs.Prelude.{Contains}
use Rattle.fab_io.proofs.calls.Calls.fails_next.Goals as goal

-- a number that no `u64` is stands in no list of them
absent : (xs : List ℕ) (n : ℕ) → ((i : ℕ) → Fits w64 (get_or xs i 0)) → 2 ^ 64 ≤ n → Contains xs n → ⊥
absent xs n fit large (k, within, is) =
    let read : n ≡ get_or xs k 0 = get_or_read xs k n within (sym is) 0 in
    let small = fit k in
    omega arith

pub returns-in-None : goal.returns-in-None
returns-in-None c =
    let listed : List ℕ = c.as_slice-failing.result.now in
    let call = c.args.self.now.made + 1 in
    let same : listed ≡ c.args.self.now.failing = search rules in
    let made : c.self.inside.made ≡ c.args.self.now.made = search rules in
    let past = c.in-None.ensures in
    let large : 2 ^ 64 ≤ call = omega (arith, past, made) in
    (λ h. search rules, λ h. absurd (absent listed call (search rules) large (subst (λ (xs : List ℕ). Contains xs call) (sym same) h)))
