-- The operations that are left, one by one.
use Rattle.std.proofs.Common.{◌≡◌, ℕ, zero, suc, ◌+◌, ◌-◌, ◌*◌, ◌≤◌, nat_lt, Bool, true, false, cond, List, [], ◌∷◌, Option, Some, None, refl, sym, ap, ◌∙◌, arith}
use Rattle.std.specs.Option.{option_map_or}
use Rattle.std.proofs.Math.Nat.{mul-le-mul_right}
use Rattle.std.proofs.lemmas.Bool.Decides.{nat_tests}
use Rattle.front.specs.declared.pieces.StripePart.{StripePart}
use Rattle.front.specs.Pieces.{Wish, Part, part_of, parts_from, piece_at}
use Rattle.front.specs.Inside.{first_piece}

-- the blocks that are in the operation before are passed
passed : (wish : Wish) (done more joined : ℕ) → joined ≤ more
    → parts_from wish done more joined ≡ parts_from wish (done + joined) (more - joined) 0
unfolding parts_from
passed wish done zero zero h = refl
passed wish done zero (suc joined) h = absurd (omega arith)
passed wish done (suc more) zero h =
    let at : done ≡ done + 0 = omega arith in
    let behind : suc more ≡ suc more - 0 = omega arith in
    ap (λ k. parts_from wish k (suc more) 0) at ∙ ap (λ k. parts_from wish (done + 0) k 0) behind
passed wish done (suc more) (suc joined) h =
    let at : suc done + joined ≡ done + suc joined = omega arith in
    let behind : more - joined ≡ suc more - suc joined = omega arith in
    passed wish (suc done) more joined (omega arith) ∙ ap (λ k. parts_from wish k (more - joined) 0) at
    ∙ ap (λ k. parts_from wish (done + suc joined) k 0) behind

-- the operation on a piece comes first, and the others begin behind it
begins : (wish : Wish) (done more : ℕ) (piece : StripePart) → piece_at wish.layout wish.volume (wish.first + done) (suc more) ≡ Some piece
    → piece.behind ≤ more
    → parts_from wish done (suc more) 0
    ≡ part_of wish done piece ∷ parts_from wish (done + (piece.behind + 1)) (suc more - (piece.behind + 1)) 0
unfolding parts_from
begins wish done more piece is within =
    let at : suc done + piece.behind ≡ done + (piece.behind + 1) = omega arith in
    let behind : more - piece.behind ≡ suc more - (piece.behind + 1) = omega arith in
    let first = ap (λ (o : Option StripePart). option_map_or (λ p. part_of wish done p ∷ parts_from wish (suc done) more p.behind) o []) is in
    first
    ∙ ap (λ (parts : List Part). part_of wish done piece ∷ parts)
    (passed wish (suc done) more piece.behind within ∙ ap (λ k. parts_from wish k (more - piece.behind) 0) at
    ∙ ap (λ k. parts_from wish (done + (piece.behind + 1)) k 0) behind)

-- a piece that is next is the one there
chosen : (b : Bool) (found : Option StripePart) (piece : StripePart) → cond b found None ≡ Some piece → found ≡ Some piece
chosen true found piece is = is
chosen false found piece is = let never : None ≡ Some piece = is in cc

-- the operations that are left where a piece is next
pub left_first : (wish : Wish) (total done : ℕ) (piece : StripePart) → first_piece wish.layout wish.volume wish.first total done ≡ Some piece
    → done + (piece.behind + 1) ≤ total
    → parts_from wish done (total - done) 0
    ≡ part_of wish done piece ∷ parts_from wish (done + (piece.behind + 1)) (total - (done + (piece.behind + 1))) 0
left_first wish total done piece is within =
    let more = total - done - 1 in
    let all : total - done ≡ suc more = omega arith in
    let at : piece_at wish.layout wish.volume (wish.first + done) (total - done) ≡ Some piece = chosen (nat_lt done total) (piece_at wish.layout wish.volume (wish.first + done) (total - done)) piece is in
    let behind : suc more - (piece.behind + 1) ≡ total - (done + (piece.behind + 1)) = omega arith in
    let here = sym (ap (λ k. piece_at wish.layout wish.volume (wish.first + done) k) all) ∙ at in
    ap (λ k. parts_from wish done k 0) all ∙ begins wish done more piece here (omega arith)
    ∙ ap (λ k. part_of wish done piece ∷ parts_from wish (done + (piece.behind + 1)) k 0) behind

-- no piece is next, and no operation is left
nothing : (wish : Wish) (done more : ℕ) → piece_at wish.layout wish.volume (wish.first + done) more ≡ None → parts_from wish done more 0 ≡ []
unfolding parts_from
nothing wish done zero is = refl
nothing wish done (suc more) is =
    ap (λ (o : Option StripePart). option_map_or (λ p. part_of wish done p ∷ parts_from wish (suc done) more p.behind) o []) is

pub ended : (wish : Wish) (done : ℕ) → parts_from wish done 0 0 ≡ []
unfolding parts_from
ended wish done = refl

-- no operation is left where no piece is next
pub left_none : (wish : Wish) (total done : ℕ) → first_piece wish.layout wish.volume wish.first total done ≡ None
    → parts_from wish done (total - done) 0 ≡ []
left_none wish total done is = by_test (nat_lt done total) refl is
  where
    by_test : (b : Bool) → nat_lt done total ≡ b → cond b (piece_at wish.layout wish.volume (wish.first + done) (total - done)) None ≡ None
        → parts_from wish done (total - done) 0 ≡ []
    by_test true test none = nothing wish done (total - done) none
    by_test false test none =
        let over : total ≤ done = grind (arith, nat_tests, test) in
        let all : total - done ≡ 0 = omega arith in
        ap (λ k. parts_from wish done k 0) all ∙ ended wish done

-- there are bytes for a piece where there are for the range
pub enough_for : (block done behind total bytes : ℕ) → done + (behind + 1) ≤ total → total * block ≤ bytes → (done + behind + 1) * block ≤ bytes
enough_for block done behind total bytes within enough =
    let fewer : done + behind + 1 ≤ total = omega arith in
    omega (arith, mul-le-mul_right block fewer, enough)
