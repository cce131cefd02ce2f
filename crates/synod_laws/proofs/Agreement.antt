-- A barred ballot chooses nothing, ever; what a quorum's promises leave free is safe; and two values that are chosen are equal.
use Rattle.std.proofs.Common.{◌≡◌, ℕ, ◌<◌, Bool, true, not, ◌⊎◌, inl, inr, ⊎_elim, Option, Some, None, is_some, refl, sym, ap, ◌∙◌, subst, arith}
use Rattle.std.proofs.lemmas.Bool.{false≢true, and_parts, and_from}
use Rattle.std.proofs.lemmas.Option.{same_Some}
use Rattle.fab_base.specs.declared.stamps.Ballot.{Ballot}
use Rattle.fab_base.specs.Stamps.{ballot_below}
use Rattle.quorum.specs.Quorums.{both}
use Rattle.quorum.proofs.Counts.{count_both, count_some, count_monotone}
use Rattle.synod_laws.proofs.Ballots.{by_order}
use Rattle.synod_laws.specs.Synods.{IsMajority, QuorumsAreMajorities, Synod, is_lost, IsBarred, IsChosen, IsSafe, Agrees, Grows, IsAtMost, IsBelow, HasPromised, HasQuorum, IsGreatest, MayPropose}

-- nothing is both there and missing
pub none_is_some : {A : Type 0} (o : Option A) (a : A) → o ≡ None → o ≡ Some a → ⊥
none_is_some o a none some = cc

-- a quorum of a view is more than half of its seats
pub quorums_are_majorities : QuorumsAreMajorities
quorums_are_majorities m n limits = omega (arith, limits.some_block, limits.enough_seats)

-- where nothing is there later, nothing was there before
missing_before : {A : Type 0} (later before : Option A) → ((a : A) → later ≡ Some a → before ≡ Some a) → not (is_some before) ≡ true
    → not (is_some later) ≡ true
missing_before None before back missing = refl
missing_before (Some a) before back missing = absurd (false≢true (sym (ap (λ o. not (is_some o)) (back a refl)) ∙ missing))

-- a seat that is lost to a ballot stays lost to it
lost_stays : {A : Type 0} (s next : Synod A) (b : Ballot) (k : ℕ) → Grows s next → is_lost s b k ≡ true → is_lost next b k ≡ true
lost_stays s next b k grows lost =
    let parts = and_parts (s.past k b) (not (is_some (s.votes k b))) lost in
    and_from (next.past k b) (not (is_some (next.votes k b))) (grows.past k b parts.0)
    (missing_before (next.votes k b) (s.votes k b) (λ a voted. grows.closed k b a parts.0 voted) parts.1)

-- a barred ballot stays barred
pub barred_stays : {A : Type 0} (n q : ℕ) (s next : Synod A) (b : Ballot) → Grows s next → IsBarred n q s b → IsBarred n q next b
barred_stays n q s next b grows barred =
    omega (arith, barred, count_monotone n (is_lost s b) (is_lost next b) (λ k below lost. lost_stays s next b k grows lost))

-- a seat that voted under a ballot is not lost to it
voted_unlost : {A : Type 0} (s : Synod A) (b : Ballot) (k : ℕ) (a : A) → s.votes k b ≡ Some a → is_lost s b k ≡ true → ⊥
voted_unlost s b k a voted lost =
    let parts = and_parts (s.past k b) (not (is_some (s.votes k b))) lost in
    false≢true (sym (ap (λ o. not (is_some o)) voted) ∙ parts.1)

-- nothing is chosen under a barred ballot
pub barred_unchosen : {A : Type 0} (n q : ℕ) (s : Synod A) (b : Ballot) (a : A) → IsBarred n q s b → IsChosen n q s b a → ⊥
barred_unchosen n q s b a barred chosen =
    let shared = count_some n (both chosen.0 (is_lost s b)) (omega (arith, barred, chosen.1, count_both n chosen.0 (is_lost s b))) in
    let parts = and_parts (chosen.0 shared.0) (is_lost s b shared.0) shared.2 in
    voted_unlost s b shared.0 a (chosen.2 shared.0 shared.1 parts.0) parts.1

-- what is safe stays safe
pub safe_stays : {A : Type 0} (n q : ℕ) (s next : Synod A) (b : Ballot) (a : A) → Grows s next → IsSafe n q s b a → IsSafe n q next b a
safe_stays n q s next b a grows safe = λ lower below. ⊎_elim
    (λ (same : s.proposals lower ≡ Some a). inl (grows.proposals lower a same))
    (λ (barred : IsBarred n q s lower). inr (barred_stays n q s next lower grows barred))
    (safe lower below)

-- what is chosen stays chosen
pub chosen_stays : {A : Type 0} (n q : ℕ) (s next : Synod A) (b : Ballot) (a : A) → Grows s next → IsChosen n q s b a → IsChosen n q next b a
chosen_stays n q s next b a grows chosen =
    (chosen.0, chosen.1, λ k within member. grows.votes k b a (chosen.2 k within member))

-- what is chosen was proposed
pub chosen_proposed : {A : Type 0} (n q : ℕ) (s : Synod A) (b : Ballot) (a : A) → IsMajority n q → Agrees n q s → IsChosen n q s b a
    → s.proposals b ≡ Some a
chosen_proposed n q s b a majority agrees chosen =
    let voter = count_some n chosen.0 (omega (arith, majority, chosen.1)) in
    agrees.votes voter.0 b a (chosen.2 voter.0 voter.1 voter.2)

-- what is chosen under a lower ballot is what the upper one was proposed with
chosen_below : {A : Type 0} (n q : ℕ) (s : Synod A) (b c : Ballot) (a e : A) → IsMajority n q → Agrees n q s → ballot_below b c ≡ true
    → IsChosen n q s b a → s.proposals c ≡ Some e → a ≡ e
chosen_below n q s b c a e majority agrees below chosen proposed = ⊎_elim
    (λ (same : s.proposals b ≡ Some e). same_Some a e (sym (chosen_proposed n q s b a majority agrees chosen) ∙ same))
    (λ (barred : IsBarred n q s b). absurd (barred_unchosen n q s b a barred chosen))
    (agrees.safe c e proposed b below)

-- two values that are chosen are equal
pub two_chosen : {A : Type 0} (n q : ℕ) (s : Synod A) (b c : Ballot) (a e : A) → IsMajority n q → Agrees n q s
    → IsChosen n q s b a → IsChosen n q s c e → a ≡ e
two_chosen n q s b c a e majority agrees one two =
    let first = chosen_proposed n q s b a majority agrees one in
    let second = chosen_proposed n q s c e majority agrees two in
    by_order b c
    (λ lower. chosen_below n q s b c a e majority agrees lower one second)
    (λ higher. sym (chosen_below n q s c b e a majority agrees higher two first))
    (λ same. same_Some a e (sym first ∙ ap s.proposals same ∙ second))

-- a ballot below one that a quorum promised to is barred, where none of these seats voted under it
lost_quorum : {A : Type 0} (n q : ℕ) (s : Synod A) (b d : Ballot) (p : ℕ → Bool) (told : ℕ → Option (Ballot × A)) → IsMajority n q
    → HasQuorum n q s b p told → ballot_below d b ≡ true
    → ((k : ℕ) (e : A) → k < n → p k ≡ true → s.votes k d ≡ Some e → ⊥) → IsBarred n q s d
lost_quorum n q s b d p told majority quorum below unvoted =
    omega (
      arith,
      majority,
      quorum.many,
      count_monotone n p (is_lost s d) (λ k within member.
          and_from (s.past k d) (not (is_some (s.votes k d))) ((quorum.each k within member).past d below)
          (missing (s.votes k d) (λ e voted. unvoted k e within member voted))),
    )
  where
    missing : {A : Type 0} (o : Option A) → ((e : A) → o ≡ Some e → ⊥) → not (is_some o) ≡ true
    missing None never = refl
    missing (Some e) never = absurd (never e refl)

-- What a quorum's promises leave free is safe. A ballot below the greatest vote told has this value or is barred, since the value was safe there; the ballot of
-- that vote has this value; and each one above it, or each one if no vote is told, is past for all seats of the quorum, and none of them voted under it.
pub safe_step : {A : Type 0} (n q : ℕ) (s : Synod A) (b : Ballot) (p : ℕ → Bool) (told : ℕ → Option (Ballot × A)) (a : A) → IsMajority n q
    → Agrees n q s → HasQuorum n q s b p told → MayPropose n p told a → IsSafe n q s b a
safe_step {A = A} n q s b p told a majority agrees quorum may = λ d below. ⊎_elim
    (λ (none : (k : ℕ) → k < n → p k ≡ true → told k ≡ None).
    inr (lost_quorum n q s b d p told majority quorum below
    (λ k e within member voted. subst (λ (o : Option (Ballot × A)). IsAtMost d o) (none k within member)
    ((quorum.each k within member).covers d e below voted))))
    (λ (greatest : (c : Ballot) × IsGreatest n p told c a). at_most d below greatest.0 greatest.1)
    may
  where
    at_most : (d : Ballot) → ballot_below d b ≡ true → (c : Ballot) → IsGreatest n p told c a → (s.proposals d ≡ Some a) ⊎ IsBarred n q s d
    at_most d below c greatest =
        let proposed : IsBelow s b (Some (c, a))
        = subst (λ (o : Option (Ballot × A)). IsBelow s b o) greatest.is (quorum.each greatest.seat greatest.within greatest.member).below in
        by_order d c
        (λ lower. agrees.safe c a proposed.1 d lower)
        (λ higher. inr (lost_quorum n q s b d p told majority quorum below
        (λ k e within member voted. false≢true
        (sym (greatest.most k within member d ((quorum.each k within member).covers d e below voted)) ∙ higher))))
        (λ same. inl (ap s.proposals same ∙ proposed.1))

-- a promise stays one
pub promised_stays : {A : Type 0} (s next : Synod A) (k : ℕ) (b : Ballot) (told : Option (Ballot × A)) → Grows s next → HasPromised s k b told
    → HasPromised next k b told
promised_stays {A = A} s next k b told grows promised = record {
  past = λ d below. grows.past k d (promised.past d below);
  covers = λ d a below voted. promised.covers d a below (grows.closed k d a (promised.past d below) voted);
  below = proposed told promised.below;
}
  where
    proposed : (o : Option (Ballot × A)) → IsBelow s b o → IsBelow next b o
    proposed None is = is
    proposed (Some (c, a)) is = (is.0, grows.proposals c a is.1)

-- growth upon growth
pub grows_on : {A : Type 0} (s next last : Synod A) → Grows s next → Grows next last → Grows s last
grows_on s next last one two = record {
  votes = λ k b a is. two.votes k b a (one.votes k b a is);
  past = λ k b is. two.past k b (one.past k b is);
  proposals = λ b a is. two.proposals b a (one.proposals b a is);
  closed = λ k b a past voted. one.closed k b a past (two.closed k b a (one.past k b past) voted);
}

-- the invariant holds on, where each vote is an old one or for what its ballot was proposed with, and each proposal is an old one or safe
pub agrees_on : {A : Type 0} (n q : ℕ) (s next : Synod A) → Grows s next → Agrees n q s
    → ((k : ℕ) (b : Ballot) (a : A) → next.votes k b ≡ Some a → (s.votes k b ≡ Some a) ⊎ (s.proposals b ≡ Some a))
    → ((b : Ballot) (a : A) → next.proposals b ≡ Some a → (s.proposals b ≡ Some a) ⊎ IsSafe n q s b a) → Agrees n q next
agrees_on n q s next grows agrees voted proposed = record {
  votes = λ k b a is. grows.proposals b a
      (⊎_elim (λ (old : s.votes k b ≡ Some a). agrees.votes k b a old) (λ (new : s.proposals b ≡ Some a). new) (voted k b a is));
  safe = λ b a is. safe_stays n q s next b a grows
      (⊎_elim (λ (old : s.proposals b ≡ Some a). agrees.safe b a old) (λ (new : IsSafe n q s b a). new) (proposed b a is));
}
