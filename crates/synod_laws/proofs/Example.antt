-- A run of three seats, two to a quorum, that chooses. Ballot 1 is proposed with the value, and seat 0 alone votes for it. Then seats 0 and 2 promise to
-- ballot 2, which must be proposed with the value that seat 0 tells. Both vote for it.
use Rattle.std.proofs.Common.{◌≡◌, ℕ, zero, suc, Bool, true, false, ◌&&◌, ◌||◌, nat_eq, inl, inr, ⊎_elim, List, [], ◌∷◌, ◌++◌, Option, Some, None, refl, sym, subst, arith}
use Rattle.std.proofs.lemmas.Bool.{false≢true, or_left, or_right}
use Rattle.fab_base.specs.declared.stamps.Ballot.{Ballot}
use Rattle.fab_base.specs.Stamps.{ballot_below}
use Rattle.quorum.specs.Quorums.{count}
use Rattle.synod_laws.specs.Synods.{Step, Promises, Proposes, Votes, IsChosen, IsAtMost, HasPromised, IsGreatest, no_synod, ballot_same, run, AreAllowed, SomeRunChooses}
use Rattle.synod_laws.proofs.Agreement.{none_is_some}
use Rattle.synod_laws.proofs.Steps.{put_value, same_place}

-- the two ballots, of bricks 0 and 1
abbrev first : Ballot
first = record { round = 1; brick = record { 0 = 0 }; boot = 1 }

abbrev second : Ballot
second = record { round = 2; brick = record { 0 = 1 }; boot = 1 }

-- the seats that promise to each
abbrev first_seats : ℕ → Bool
first_seats zero = true
first_seats (suc zero) = true
first_seats (suc (suc k)) = false

abbrev second_seats : ℕ → Bool
second_seats zero = true
second_seats (suc zero) = false
second_seats (suc (suc zero)) = true
second_seats (suc (suc (suc k))) = false

-- what they tell at the second
abbrev told : {A : Type 0} → A → ℕ → Option (Ballot × A)
told a zero = Some (first, a)
told a (suc k) = None

-- up to the first proposal, up to the second, and the whole run
abbrev beginning : {A : Type 0} → List (Step A)
beginning = Promises 0 first ∷ Promises 1 first ∷ []

abbrev half_done : {A : Type 0} → A → List (Step A)
half_done a = beginning ++ (Proposes first a first_seats (λ k. None) ∷ Votes 0 first a ∷ Promises 0 second ∷ Promises 2 second ∷ [])

abbrev steps : {A : Type 0} → A → List (Step A)
steps a = half_done a ++ (Proposes second a second_seats (told a) ∷ Votes 0 second a ∷ Votes 2 second a ∷ [])

-- both seats promise to the first ballot, and have no vote to tell
first_promised : {A : Type 0} (k : ℕ) → first_seats k ≡ true → HasPromised (run no_synod (beginning {A = A})) k first None
first_promised {A = A} zero member = record {
  past = λ d below. or_left (ballot_below d first) false below;
  covers = λ d e below voted. none_is_some {A = A} None e refl voted;
  below = tt;
}
first_promised {A = A} (suc zero) member = record {
  past = λ d below. below;
  covers = λ d e below voted. none_is_some {A = A} None e refl voted;
  below = tt;
}
first_promised (suc (suc k)) member = absurd (false≢true member)

-- at the second, seat 0 tells its vote, and seat 2 has none
second_promised : {A : Type 0} (a : A) (k : ℕ) → second_seats k ≡ true → HasPromised (run no_synod (half_done a)) k second (told a k)
unfolding ballot_below ballot_same
second_promised {A = A} a zero member = record {
  past = λ d below. or_left (ballot_below d first || false || ballot_below d second) false (or_right (ballot_below d first || false) (ballot_below d second) below);
  covers = λ d e below voted. ⊎_elim
      (λ (same : ((nat_eq 0 0 && ballot_same d first) ≡ true) × (a ≡ e)).
      subst (λ (c : Ballot). ballot_below first c ≡ false) (sym (same_place 0 0 d first same.0).1) refl)
      (λ (none : None ≡ Some e). absurd (none_is_some {A = A} None e refl none))
      (put_value (nat_eq 0 0 && ballot_same d first) a e None voted);
  below = (refl, refl);
}
second_promised a (suc zero) member = absurd (false≢true member)
second_promised {A = A} a (suc (suc zero)) member = record {
  past = λ d below. below;
  covers = λ d e below voted. absurd (none_is_some {A = A} None e refl voted);
  below = tt;
}
second_promised a (suc (suc (suc k))) member = absurd (false≢true member)

-- the vote of seat 0 is the greatest that is told
greatest : {A : Type 0} (a : A) → IsGreatest 3 second_seats (told a) first a
greatest {A = A} a = record { seat = 0; within = omega arith; member = refl; is = refl; most = λ k within member d covered. most k d covered }
  where
    most : (k : ℕ) (d : Ballot) → IsAtMost d (told a k) → ballot_below first d ≡ false
    most zero d covered = covered
    most (suc k) d covered = absurd covered

-- each step is allowed
allowed : {A : Type 0} (a : A) → AreAllowed 3 2 no_synod (steps a)
unfolding count ballot_below ballot_same
allowed a = (
  tt,
  (
    tt,
    (
      (refl, record { many = omega arith; each = λ k within member. first_promised k member }, inl (λ k within member. refl)),
      (
        (refl, refl),
        (
          tt,
          (
            tt,
            (
              (refl, record { many = omega arith; each = λ k within member. second_promised a k member }, inr (first, greatest a)),
              ((refl, refl), ((refl, refl), tt)),
            ),
          ),
        ),
      ),
    ),
  ),
)

-- seats 0 and 2 vote for the value under the second ballot
chooses : {A : Type 0} (a : A) → IsChosen 3 2 (run no_synod (steps a)) second a
unfolding count ballot_below ballot_same
chooses a = (second_seats, omega arith, λ k within member. voted k member)
  where
    voted : (k : ℕ) → second_seats k ≡ true → (run no_synod (steps a)).votes k second ≡ Some a
    voted zero member = refl
    voted (suc zero) member = absurd (false≢true member)
    voted (suc (suc zero)) member = refl
    voted (suc (suc (suc k))) member = absurd (false≢true member)

-- so some run chooses
pub some_run_chooses : SomeRunChooses
some_run_chooses a = (steps a, second, allowed a, chooses a)
