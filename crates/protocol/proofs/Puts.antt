-- A function with one value changed, at any other value.
use Rattle.std.proofs.Common.{◌≡◌, ◌≢◌, ℕ, Bool, cond, ap}
use Rattle.std.proofs.lemmas.Bool.{ne_eqb}
use Rattle.protocol.specs.Nodes.{put}

-- any other value is as before
pub put_other : {A : Type 0} (f : ℕ → A) (k : ℕ) (v : A) (i : ℕ) → i ≢ k → put f k v i ≡ f i
put_other f k v i other = ap (λ (b : Bool). cond b v (f i)) (ne_eqb i k other)
