-- One row more.
use Rattle.std.proofs.Common.{◌≡◌, ℕ, zero, suc, ◌+◌, ◌++◌, false, Bool, List, [], ◌∷◌, replicate, refl, ap, ◌∙◌, arith}
use Rattle.spares.proofs.suspicions.blank_rows.Goals as goal

one_more : (n : ℕ) (row : List Bool) → replicate n row ++ (row ∷ []) ≡ replicate (suc n) row
one_more zero row = refl
one_more (suc n) row = ap (λ (z : List (List Bool)). row ∷ z) (one_more n row)

pub loop-brick-preserved : goal.loop-brick-preserved
loop-brick-preserved c =
    let row : List Bool = replicate 64 false in
    let next : suc c.loop-brick._brick ≡ c.loop-brick._brick + 1 = omega arith in
    record {
      rows = c.in_ok-push.ensures.items ∙ ap (λ (z : List (List Bool)). z ++ (row ∷ [])) c.loop-brick.invariant.rows
          ∙ one_more c.loop-brick._brick row ∙ ap (λ (n : ℕ). replicate n row) next;
      many = c.in_ok-push.ensures.len ∙ ap (λ (n : ℕ). n + 1) c.loop-brick.invariant.many;
    }
