-- Reading bricks one after the other, as a loop does.
use Rattle.std.proofs.Common.{◌≡◌, ℕ, suc, ◌-◌, ◌+◌, ◌≤◌, ◌<◌, List, [], ◌∷◌, ◌++◌, Result, Ok, Err, refl, ap, append_assoc, arith}
use Rattle.std.proofs.lemmas.List.{append-nil}
use Rattle.fab_base.specs.declared.identities.BrickId.{BrickId}
use Rattle.fields.specs.Reading.{◌>>=◌, times_at}
use Rattle.fields.specs.Values.{brick_codec}

-- what was read before, and what is still read
abbrev pub with_front : List BrickId → Result (List BrickId × List ℕ) ℕ → Result (List BrickId × List ℕ) ℕ
with_front front read = read >>= λ x. Ok (front ++ x.0, x.1)

abbrev with_brick : BrickId → List BrickId × List ℕ → Result ((BrickId × List BrickId) × List ℕ) ℕ
with_brick brick x = Ok ((brick, x.0), x.1)

abbrev as_list : (BrickId × List BrickId) × List ℕ → Result (List BrickId × List ℕ) ℕ
as_list x = Ok (x.0.0 ∷ x.0.1, x.1)

regroup : (front : List BrickId) (brick : BrickId) (read : Result (List BrickId × List ℕ) ℕ)
    → with_front front (read >>= with_brick brick >>= as_list) ≡ with_front (front ++ brick ∷ []) read
regroup front brick (Ok x) = ap (λ (bricks : List BrickId). Ok (bricks, x.1)) (simp append_assoc)
regroup front brick (Err left) = refl

-- one brick more
pub goes_on : (front : List BrickId) (count i : ℕ) (bytes : List ℕ) (brick : BrickId) (after : List ℕ) → i < count
    → brick_codec.read bytes ≡ Ok (brick, after) → with_front front (times_at brick_codec.read (count - i) bytes)
    ≡ with_front (front ++ brick ∷ []) (times_at brick_codec.read (count - (i + 1)) after)
unfolding times_at
goes_on front count i bytes brick after lt h =
    let k : count - i ≡ suc (count - (i + 1)) = omega arith in
    rw (k, h) (regroup front brick (times_at brick_codec.read (count - (i + 1)) after))

-- no brick where one is due
pub ends : (left : ℕ) (front : List BrickId) (count i : ℕ) (bytes : List ℕ) → i < count → brick_codec.read bytes ≡ Err left
    → with_front front (times_at brick_codec.read (count - i) bytes) ≡ Err left
unfolding times_at
ends left front count i bytes lt h = let k : count - i ≡ suc (count - (i + 1)) = omega arith in rw (k, h) refl

-- all bricks
pub is_done : (front : List BrickId) (count i : ℕ) (bytes : List ℕ) → count ≤ i
    → with_front front (times_at brick_codec.read (count - i) bytes) ≡ Ok (front, bytes)
unfolding times_at
is_done front count i bytes le =
    let k : count - i ≡ 0 = omega arith in
    rw k (ap (λ (bricks : List BrickId). Ok (bricks, bytes)) (append-nil front))
