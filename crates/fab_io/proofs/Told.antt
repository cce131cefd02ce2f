-- What several calls do to the datagrams and the moments that a link and a clock tell.
use Rattle.std.proofs.Common.{◌≡◌, ℕ, ◌+◌, List, [], ◌∷◌, ◌++◌, Some, None, Option, refl, sym, ap, ◌∙◌, append_assoc, append-nil}
use Rattle.fab_io.specs.declared.links.Datagram.{Datagram}
use Rattle.fab_io.specs.Datagrams.{Stays, Loses, Grows}
use Rattle.fab_io.specs.Moments.{Begins, Passes}

-- nothing was done to them
pub Stays-refl : (a : Option (List Datagram)) → Stays a a
Stays-refl None = tt
Stays-refl (Some x) = refl

-- what stays has lost none
pub Loses-none : (a b : Option (List Datagram)) → Stays a b → Loses a b []
Loses-none None b p = tt
Loses-none (Some x) None p = absurd p
Loses-none (Some x) (Some y) p = sym p

-- and has grown by none
pub Grows-none : (a b : Option (List Datagram)) → Stays a b → Grows a b []
Grows-none None b p = tt
Grows-none (Some x) None p = absurd p
Grows-none (Some x) (Some y) p = p ∙ sym (append-nil x)

-- they lost some, and then more
pub Loses-trans : (a b c : Option (List Datagram)) (first then : List Datagram) → Loses a b first → Loses b c then → Loses a c (first ++ then)
Loses-trans None b c first then p q = tt
Loses-trans (Some x) None c first then p q = absurd p
Loses-trans (Some x) (Some y) None first then p q = absurd q
Loses-trans (Some x) (Some y) (Some z) first then p q = p ∙ ap (λ l. first ++ l) q ∙ sym (append_assoc first then z)

-- they grew by some, and then by more
pub Grows-trans : (a b c : Option (List Datagram)) (first then : List Datagram) → Grows a b first → Grows b c then → Grows a c (first ++ then)
Grows-trans None b c first then p q = tt
Grows-trans (Some x) None c first then p q = absurd p
Grows-trans (Some x) (Some y) None first then p q = absurd q
Grows-trans (Some x) (Some y) (Some z) first then p q = q ∙ ap (λ l. l ++ then) p ∙ append_assoc x first then

-- the same moments are to come
Begins-same : (f g h : ℕ → ℕ) (moments : List ℕ) → ((k : ℕ) → g k ≡ f k) → Begins g h moments → Begins f h moments
Begins-same f g h [] same p = λ k. p k ∙ same k
Begins-same f g h (m ∷ ms) same (is, p) =
    (is ∙ same 0, Begins-same (λ k. f (k + 1)) (λ k. g (k + 1)) h ms (λ k. same (k + 1)) p)

-- some of them, and then those behind them
Begins-trans : (f g h : ℕ → ℕ) (first then : List ℕ) → Begins f g first → Begins g h then → Begins f h (first ++ then)
Begins-trans f g h [] then p q = Begins-same f g h then p q
Begins-trans f g h (m ∷ ms) then (is, p) q = (is, Begins-trans (λ k. f (k + 1)) g h ms then p q)

-- no call of the clock
pub Passes-none : (a : Option (ℕ → ℕ)) → Passes a a []
Passes-none None = tt
Passes-none (Some f) = λ k. refl

-- moments that were read, and then more
pub Passes-trans : (a b c : Option (ℕ → ℕ)) (first then : List ℕ) → Passes a b first → Passes b c then → Passes a c (first ++ then)
Passes-trans None b c first then p q = tt
Passes-trans (Some f) None c first then p q = absurd p
Passes-trans (Some f) (Some g) None first then p q = absurd q
Passes-trans (Some f) (Some g) (Some h) first then p q = Begins-trans f g h first then p q
