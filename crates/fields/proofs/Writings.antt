-- Fields written one after the other.
use Rattle.std.proofs.Common.{◌≡◌, ℕ, ◌+◌, ◌<◌, List, [], ◌∷◌, ◌++◌, length, get_or, take, map, sym, ap, subst, ◌∙◌, append_assoc}
use Rattle.std.proofs.lemmas.Grind.{common_steps}
use Rattle.std.proofs.lemmas.List.{map-append, take_more}
use Rattle.fab_base.specs.declared.identities.BrickId.{BrickId}
use Rattle.fields.specs.Parts.{Part, AllFit, spelled}
use Rattle.fields.specs.Values.{brick_part}
use Rattle.fields.specs.Laws.{spelled-append, AllFit-append}

-- the parts of two lists, one after the other
pub ruleset joined = (common_steps, spelled-append, AllFit-append)

-- one brick more
bricks_more : (bricks : List BrickId) (i : ℕ) (d : BrickId) → i < length bricks
    → map brick_part (take (i + 1) bricks) ≡ map brick_part (take i bricks) ++ brick_part (get_or bricks i d) ∷ []
bricks_more bricks i d lt = ap (λ (bs : List BrickId). map brick_part bs) (take_more bricks i d lt) ∙ map-append brick_part (take i bricks)
    (get_or bricks i d ∷ [])

-- one brick more is written
pub one_written : (old count now new : List ℕ) (bricks : List BrickId) (i : ℕ) (d : BrickId) → i < length bricks
    → now ≡ old ++ (count ++ spelled (map brick_part (take i bricks))) → new ≡ now ++ spelled (brick_part (get_or bricks i d) ∷ [])
    → new ≡ old ++ (count ++ spelled (map brick_part (take (i + 1) bricks)))
one_written old count now new bricks i d lt before one =
    rw (one, before, bricks_more bricks i d lt, spelled-append (map brick_part (take i bricks)) (brick_part (get_or bricks i d) ∷ [])) (simp append_assoc)

-- one brick more fits
pub one_fits : (bricks : List BrickId) (i : ℕ) (d : BrickId) → i < length bricks → AllFit (map brick_part (take i bricks))
    → AllFit (brick_part (get_or bricks i d) ∷ [])
    → AllFit (map brick_part (take (i + 1) bricks))
one_fits bricks i d lt before one =
    subst (λ (fs : List Part). AllFit fs) (sym (bricks_more bricks i d lt))
    (AllFit-append (map brick_part (take i bricks)) (brick_part (get_or bricks i d) ∷ []) before one)
