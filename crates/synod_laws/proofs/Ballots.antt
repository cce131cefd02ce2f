-- The order of ballots, by cases, and when two of them are the same.
use Rattle.std.proofs.Common.{◌≡◌, true, false, not, ◌&&◌, ⊎_elim, sym, ap, ◌∙◌, subst}
use Rattle.std.proofs.lemmas.Bool.{cases_Bool, false≢true, and_parts, not-true, false_from_ne_true, true_from_ne_false}
use Rattle.fab_base.specs.declared.stamps.Ballot.{Ballot}
use Rattle.fab_base.specs.Stamps.{ballot_below}
use Rattle.fab_base.proofs.StampOrder.{ballot_below_order}
use Rattle.synod_laws.specs.Synods.{ballot_same}

-- what follows in each of three cases follows: one ballot is below another, it is above it, or they are the same
pub by_order : {P : Type 0} (b c : Ballot) → (ballot_below b c ≡ true → P) → (ballot_below c b ≡ true → P) → (b ≡ c → P) → P
by_order b c lower higher same = ⊎_elim
    lower
    (λ (isnt : ballot_below b c ≡ false).
    ⊎_elim higher (λ (neither : ballot_below c b ≡ false). same (ballot_below_order.total b c isnt neither)) (cases_Bool (ballot_below c b)))
    (cases_Bool (ballot_below b c))

-- at or below is transitive
pub ballot_not_below_trans : (a b c : Ballot) → ballot_below b a ≡ false → ballot_below c b ≡ false → ballot_below c a ≡ false
ballot_not_below_trans a b c one two = false_from_ne_true (ballot_below c a) (λ lower.
    by_order a b
    (λ up. false≢true (sym two ∙ ballot_below_order.transitive c a b lower up))
    (λ down. false≢true (sym one ∙ down))
    (λ same. false≢true (sym two ∙ subst (λ (z : Ballot). ballot_below c z ≡ true) same lower)))

-- what is below a ballot is below one at or above it
pub ballot_below_at_most : (a b c : Ballot) → ballot_below a b ≡ true → ballot_below c b ≡ false → ballot_below a c ≡ true
ballot_below_at_most a b c lower up = true_from_ne_false (ballot_below a c)
    (λ isnt. false≢true (sym (ballot_not_below_trans b c a up isnt) ∙ lower))

-- ballots that test the same are equal
pub ballot_same_true : (b c : Ballot) → ballot_same b c ≡ true → b ≡ c
unfolding ballot_same
ballot_same_true b c same =
    let parts = and_parts (not (ballot_below b c)) (not (ballot_below c b)) same in
    ballot_below_order.total b c (not-true (ballot_below b c) parts.0) (not-true (ballot_below c b) parts.1)

-- a ballot is the same as itself
pub ballot_same_refl : (b : Ballot) → ballot_same b b ≡ true
unfolding ballot_same
ballot_same_refl b = ap (λ t. not t && not t) (ballot_below_order.irreflexive b)
