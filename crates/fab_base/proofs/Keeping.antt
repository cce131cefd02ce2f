-- What is kept over several calls of something outside.
use Rattle.std.proofs.Common.{ℕ, ◌≤◌, ◌⊎◌, arith, inl, inr}
use Rattle.fab_base.specs.Faults.{Rose, Kept}

-- a count that rose after a first one
pub Rose-later : {a b c : ℕ} → a ≤ b → Rose b c → Rose a c
Rose-later p r = elim r [ inl more ↦ inl (omega arith) | inr limit ↦ inr limit ]

-- nothing was asked of it
pub Kept-refl : (n : ℕ) (S : Type 0) → Kept n n S S ⊥
Kept-refl n S = record { later = omega arith; rose = λ f. absurd f; stays = λ s. s; never = λ s f. f }

-- calls, and then more of them, where the last one is what failed
pub Kept-trans : {a b c : ℕ} {S T U F G : Type 0} → Kept a b S T F → Kept b c T U G → Kept a c S U G
Kept-trans first then = record {
  later = let p = first.later in let q = then.later in omega arith;
  rose = λ g. Rose-later first.later (then.rose g);
  stays = λ s. then.stays (first.stays s);
  never = λ s g. then.never (first.stays s) g;
}

-- a failure that comes only with the one before it
pub Kept-narrower : {a b : ℕ} {S T F G : Type 0} → (G → F) → Kept a b S T F → Kept a b S T G
Kept-narrower only k =
    record { later = k.later; rose = λ g. k.rose (only g); stays = k.stays; never = λ s g. k.never s (only g) }

-- what is kept, said of no failure
pub Kept-calm : {a b : ℕ} {S T F : Type 0} → Kept a b S T F → Kept a b S T ⊥
Kept-calm k = Kept-narrower (λ f. absurd f) k

-- two failures of which each has its cause
pub Kept-either : {a b : ℕ} {S T F G : Type 0} → Kept a b S T F → Kept a b S T G → Kept a b S T (F ⊎ G)
Kept-either k l = record {
  later = k.later;
  rose = λ h. elim h [ inl f ↦ k.rose f | inr g ↦ l.rose g ];
  stays = k.stays;
  never = λ s h. elim h [ inl f ↦ k.never s f | inr g ↦ l.never s g ];
}
