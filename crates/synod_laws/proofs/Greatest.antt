-- The safe step over a list of counted replies: the value of the greatest ballot that they tell, or else the proposer's own, may be proposed. And what is
-- chosen by a list of seats.
use Rattle.std.proofs.Common.{◌≡◌, ℕ, ◌<◌, ◌≤◌, true, false, cond, nat_eq, ◌⊎◌, inl, inr, ⊎_elim, List, [], ◌∷◌, length, All, Option, Some, None, refl, sym, ap, ◌∙◌, subst, arith}
use Rattle.std.specs.List.{AllByRecursion}
use Rattle.std.proofs.lemmas.Bool.{cond_both, false≢true, or_cases, or_right, eqb-true, eq-eqb, false_from_ne_true}
use Rattle.std.proofs.lemmas.List.{length-map}
use Rattle.std.proofs.lemmas.List.Elements.{recursion_from_All}
use Rattle.fab_base.specs.declared.stamps.Ballot.{Ballot}
use Rattle.fab_base.specs.Stamps.{ballot_below}
use Rattle.fab_base.proofs.StampOrder.{ballot_below_order}
use Rattle.quorum.proofs.Counts.{seat_in, AreDistinctBelow, count_seat_in, with_seat_same}
use Rattle.synod_laws.specs.Synods.{IsMajority, Synod, Agrees, Grows, IsAtMost, IsChosen, IsSafe, MayPropose, with_proposal, Kept, Keeps, SaysPromise, greater_told, greatest_told, value_or, seats_of}
use Rattle.synod_laws.proofs.Ballots.{ballot_not_below_trans, ballot_same_refl}
use Rattle.synod_laws.proofs.Agreement.{none_is_some, safe_step}
use Rattle.synod_laws.proofs.Steps.{proposal_grows, proposal_agrees}
use Rattle.synod_laws.proofs.Acceptors.{said_open, keeps_proposal}

-- what a seat told, by the first of its replies
abbrev pub told_by : {A : Type 0} → List (ℕ × Option (Ballot × A)) → ℕ → Option (Ballot × A)
told_by [] k = None
told_by (reply ∷ replies) k = cond (nat_eq k reply.0) reply.1 (told_by replies k)

-- a seat of replies that is not that of the first is one of the rest
in_rest : (k seat : ℕ) (seats : List ℕ) → nat_eq k seat ≡ false → seat_in (seat ∷ seats) k ≡ true → seat_in seats k ≡ true
in_rest k seat seats other member = ⊎_elim
    (λ (same : nat_eq k seat ≡ true). absurd (false≢true (sym other ∙ same)))
    (λ (rest : seat_in seats k ≡ true). rest)
    (or_cases (nat_eq k seat) (seat_in seats k) member)

-- what holds of each reply holds of each of their seats and what it told
of_each_seat : {A : Type 0} (P : ℕ → Option (Ballot × A) → Type 0) (replies : List (ℕ × Option (Ballot × A)))
    → AllByRecursion (λ reply. P reply.0 reply.1) replies → (k : ℕ) → seat_in (seats_of replies) k ≡ true → P k (told_by replies k)
of_each_seat P [] each k member = absurd (false≢true member)
of_each_seat {A = A} P (reply ∷ replies) each k member =
    cond_both (nat_eq k reply.0) reply.1 (told_by replies k) (P k)
    (λ same. subst (λ (seat : ℕ). P seat reply.1) (sym (eqb-true k reply.0 same)) each.0)
    (λ other. of_each_seat P replies each.1 k (in_rest k reply.0 (seats_of replies) other member))

-- what is at most the first of two votes told is at most the greater
at_most_first : {A : Type 0} (d : Ballot) (x y : Option (Ballot × A)) → IsAtMost d x → IsAtMost d (greater_told x y)
at_most_first d None y most = absurd most
at_most_first d (Some (c, a)) None most = most
at_most_first {A = A} d (Some (c, a)) (Some (b, e)) most =
    cond_both (ballot_below c b) (Some (b, e)) (Some (c, a)) (λ (o : Option (Ballot × A)). IsAtMost d o)
    (λ lower. ballot_not_below_trans d c b most (false_from_ne_true (ballot_below b c)
    (λ higher. false≢true (sym (ballot_below_order.irreflexive b) ∙ ballot_below_order.transitive b c b higher lower))))
    (λ isnt. most)

-- so is what is at most the second
at_most_second : {A : Type 0} (d : Ballot) (x y : Option (Ballot × A)) → IsAtMost d y → IsAtMost d (greater_told x y)
at_most_second d None y most = most
at_most_second d (Some (c, a)) None most = absurd most
at_most_second {A = A} d (Some (c, a)) (Some (b, e)) most =
    cond_both (ballot_below c b) (Some (b, e)) (Some (c, a)) (λ (o : Option (Ballot × A)). IsAtMost d o)
    (λ lower. most)
    (λ isnt. ballot_not_below_trans d b c most isnt)

-- the greater of two votes told is one of them
greater_is_one : {A : Type 0} (x y : Option (Ballot × A)) → (greater_told x y ≡ x) ⊎ (greater_told x y ≡ y)
greater_is_one None y = inr refl
greater_is_one (Some (c, a)) None = inl refl
greater_is_one {A = A} (Some (c, a)) (Some (b, e)) =
    cond_both (ballot_below c b) (Some (b, e)) (Some (c, a))
    (λ (o : Option (Ballot × A)). (o ≡ Some (c, a)) ⊎ (o ≡ Some (b, e))) (λ lower. inr refl) (λ isnt. inl refl)

-- what is at most what a seat told is at most the greatest told
greatest_covers : {A : Type 0} (replies : List (ℕ × Option (Ballot × A))) (k : ℕ) → seat_in (seats_of replies) k ≡ true
    → (d : Ballot) → IsAtMost d (told_by replies k) → IsAtMost d (greatest_told replies)
greatest_covers [] k member d most = most
greatest_covers {A = A} (reply ∷ replies) k member d most =
    cond_both (nat_eq k reply.0) reply.1 (told_by replies k)
    (λ (o : Option (Ballot × A)). IsAtMost d o → IsAtMost d (greater_told reply.1 (greatest_told replies)))
    (λ same most. at_most_first d reply.1 (greatest_told replies) most)
    (λ other most. at_most_second d reply.1 (greatest_told replies)
    (greatest_covers replies k (in_rest k reply.0 (seats_of replies) other member) d most))
    most

-- the greatest vote told is what a seat told, where the seats are distinct
greatest_is_told : {A : Type 0} (n : ℕ) (replies : List (ℕ × Option (Ballot × A))) (vote : Ballot × A) → AreDistinctBelow n (seats_of replies)
    → greatest_told replies ≡ Some vote
    → (k : ℕ) × (k < n) × (seat_in (seats_of replies) k ≡ true) × (told_by replies k ≡ Some vote)
greatest_is_told {A = A} n [] vote distinct is = absurd (none_is_some {A = Ballot × A} None vote refl is)
greatest_is_told {A = A} n (reply ∷ replies) vote distinct is = ⊎_elim
    (λ (first : greater_told reply.1 (greatest_told replies) ≡ reply.1). (
      reply.0,
      distinct.0,
      with_seat_same reply.0 reply.0 (seat_in (seats_of replies)) refl,
      ap (λ t. cond t reply.1 (told_by replies reply.0)) (eq-eqb reply.0 reply.0 refl) ∙ sym first ∙ is,
    ))
    (λ (second : greater_told reply.1 (greatest_told replies) ≡ greatest_told replies).
    let rest = greatest_is_told n replies vote distinct.2 (sym second ∙ is) in (
      rest.0,
      rest.1,
      or_right (nat_eq rest.0 reply.0) (seat_in (seats_of replies) rest.0) rest.2,
      ap (λ t. cond t reply.1 (told_by replies rest.0)) (other rest.0 rest.2) ∙ rest.3,
    ))
    (greater_is_one reply.1 (greatest_told replies))
  where
    other : (k : ℕ) → seat_in (seats_of replies) k ≡ true → nat_eq k reply.0 ≡ false
    other k member = false_from_ne_true (nat_eq k reply.0)
        (λ same. false≢true (sym distinct.1 ∙ ap (seat_in (seats_of replies)) (sym (eqb-true k reply.0 same)) ∙ member))

-- what covers nothing is nothing
none_covered : {A : Type 0} (o : Option (Ballot × A)) → ((d : Ballot) → IsAtMost d o → ⊥) → o ≡ None
none_covered None never = refl
none_covered (Some (c, a)) never = absurd (never c (ballot_below_order.irreflexive c))

-- the value of the greatest vote told may be proposed, or else the proposer's own
pub may_propose : {A : Type 0} (n : ℕ) (own : A) (replies : List (ℕ × Option (Ballot × A))) → AreDistinctBelow n (seats_of replies)
    → MayPropose n (seat_in (seats_of replies)) (told_by replies) (value_or own (greatest_told replies))
may_propose {A = A} n own replies distinct = by (greatest_told replies) refl
  where
    by : (o : Option (Ballot × A)) → greatest_told replies ≡ o → MayPropose n (seat_in (seats_of replies)) (told_by replies) (value_or own o)
    by None none = inl (λ k within member. none_covered (told_by replies k)
        (λ d most. subst (λ (o : Option (Ballot × A)). IsAtMost d o) none (greatest_covers replies k member d most)))
    by (Some (c, a)) some =
        let told = greatest_is_told n replies (c, a) distinct some in
        inr (
          c,
          record {
            seat = told.0;
            within = told.1;
            member = told.2;
            is = told.3;
            most = λ k within member d most.
                subst (λ (o : Option (Ballot × A)). IsAtMost d o) some (greatest_covers replies k member d most);
          },
        )

-- it is safe, where replies of a quorum count and the ballot is not proposed yet
pub safe_replies : {A : Type 0} (n q : ℕ) (s : Synod A) (b : Ballot) (own : A) (replies : List (ℕ × Option (Ballot × A))) → IsMajority n q
    → s.proposals b ≡ None → Agrees n q s → AreDistinctBelow n (seats_of replies) → q ≤ length replies
    → All (λ reply. SaysPromise s reply.0 b reply.1) replies → IsSafe n q s b (value_or own (greatest_told replies))
safe_replies {A = A} n q s b own replies majority free agrees distinct many says =
    safe_step n q s b (seat_in (seats_of replies)) (told_by replies) (value_or own (greatest_told replies)) majority agrees
    (record {
      many = omega (arith, many, length-map replies (λ reply. reply.0), count_seat_in n (seats_of replies) distinct);
      each = λ k within member. said_open s k b (told_by replies k) free
          (of_each_seat (λ seat told. SaysPromise s seat b told) replies
          (recursion_from_All (λ reply. SaysPromise s reply.0 b reply.1) replies says) k member);
    })
    (may_propose n own replies distinct)

-- What a proposal does.
pub record Proposing {A : Type 0} (n q : ℕ) (s : Synod A) (b : Ballot) (a : A) : Type 0 where
  pub grows : Grows s (with_proposal s b a)
  pub agrees : Agrees n q (with_proposal s b a)
  pub each : (k : ℕ) (kept : Kept A) → Keeps s k kept → Keeps (with_proposal s b a) k kept
  pub is : (with_proposal s b a).proposals b ≡ Some a

-- a ballot that was not proposed may be, once replies of a quorum count, with the value of the greatest vote that they tell, or else with the proposer's own
pub proposing : {A : Type 0} (n q : ℕ) (s : Synod A) (b : Ballot) (own : A) (replies : List (ℕ × Option (Ballot × A))) → IsMajority n q
    → s.proposals b ≡ None → Agrees n q s → AreDistinctBelow n (seats_of replies) → q ≤ length replies
    → All (λ reply. SaysPromise s reply.0 b reply.1) replies → Proposing n q s b (value_or own (greatest_told replies))
proposing n q s b own replies majority free agrees distinct many says =
    let value = value_or own (greatest_told replies) in
    record {
      grows = proposal_grows s b value free;
      agrees = proposal_agrees n q s b value free (safe_replies n q s b own replies majority free agrees distinct many says) agrees;
      each = λ k kept keeps. keeps_proposal s b value k kept keeps;
      is = ap (λ t. cond t (Some value) (s.proposals b)) (ballot_same_refl b);
    }

-- what q distinct seats voted for under one ballot is chosen
pub chosen_by : {A : Type 0} (n q : ℕ) (s : Synod A) (b : Ballot) (a : A) (seats : List ℕ) → AreDistinctBelow n seats → q ≤ length seats
    → All (λ k. s.votes k b ≡ Some a) seats → IsChosen n q s b a
chosen_by n q s b a seats distinct many voted = (
  seat_in seats,
  omega (arith, many, count_seat_in n seats distinct),
  λ k within member. each seats (recursion_from_All (λ j. s.votes j b ≡ Some a) seats voted) k member,
)
  where
    each : (seats : List ℕ) → AllByRecursion (λ j. s.votes j b ≡ Some a) seats → (k : ℕ) → seat_in seats k ≡ true → s.votes k b ≡ Some a
    each [] all k member = absurd (false≢true member)
    each (seat ∷ seats) all k member = ⊎_elim
        (λ (same : nat_eq k seat ≡ true). ap (λ j. s.votes j b) (eqb-true k seat same) ∙ all.0)
        (λ (rest : seat_in seats k ≡ true). each seats all.1 k rest)
        (or_cases (nat_eq k seat) (seat_in seats k) member)
