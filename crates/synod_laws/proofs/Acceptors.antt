-- What a seat keeps: its promise to a ballot and its last vote tell enough of the history for its next promise, and for its next vote.
use Rattle.std.proofs.Common.{◌≡◌, ◌≢◌, ℕ, Bool, true, false, cond, ◌&&◌, ◌||◌, nat_eq, inl, inr, ⊎_elim, Option, Some, None, refl, sym, ap, ◌∙◌, subst}
use Rattle.std.proofs.lemmas.Bool.{false≢true, or_right, and_from, and_left, eq-eqb, ne_eqb}
use Rattle.std.proofs.lemmas.Option.{some_pair_parts}
use Rattle.fab_base.specs.declared.stamps.Ballot.{Ballot}
use Rattle.fab_base.specs.Stamps.{ballot_below}
use Rattle.fab_base.proofs.StampOrder.{ballot_below_order}
use Rattle.synod_laws.specs.Synods.{Synod, Agrees, Grows, IsAtMost, HasPromised, no_synod, ballot_same, with_promise, with_proposal, with_vote, with_acceptance, Kept, is_promised_above, is_above_promise, last_of, Keeps, SaysPromise}
use Rattle.synod_laws.proofs.Ballots.{by_order, ballot_not_below_trans, ballot_below_at_most, ballot_same_refl}
use Rattle.synod_laws.proofs.Agreement.{none_is_some, grows_on, promised_stays}
use Rattle.synod_laws.proofs.Steps.{put_value, promise_grows, promise_agrees, vote_grows, vote_agrees, same_place}

-- a test that follows from another absorbs it
or_absorbs : (x y : Bool) → (x ≡ true → y ≡ true) → (x || y) ≡ y
or_absorbs true y then = sym (then refl)
or_absorbs false y then = refl

-- a test that does not hold adds nothing
or_none : (x y : Bool) → y ≡ false → (x || y) ≡ x
or_none true y isnt = refl
or_none false y isnt = isnt

-- the ballots that were past for a seat are below the one that it may promise to
past_below : {A : Type 0} (kept : Kept A) (b d : Ballot) → is_promised_above kept b ≡ false → (is_promised_above kept d || ballot_below d b) ≡ ballot_below d b
past_below None b d free = refl
past_below (Some (p, last)) b d free = or_absorbs (ballot_below d p) (ballot_below d b) (λ lower. ballot_below_at_most d p b lower free)

-- a vote that a seat keeps is not above the ballot that it may promise to
kept_below : {A : Type 0} (kept : Kept A) (b c : Ballot) → is_promised_above kept b ≡ false → is_above_promise kept c ≡ false → ballot_below b c ≡ false
kept_below None b c free within = absurd (false≢true (sym within))
kept_below (Some (p, last)) b c free within = ballot_not_below_trans c p b within free

-- a seat has kept nothing where nothing has happened
pub keeps_first : {A : Type 0} (k : ℕ) → Keeps (no_synod {A = A}) k None
keeps_first {A = A} k = record {
  past = λ b. refl;
  covers = λ b a is. none_is_some {A = A} None a refl is;
  last = λ b a is. absurd (none_is_some {A = Ballot × A} None (b, a) refl is);
  within = λ b a is. absurd (none_is_some {A = Ballot × A} None (b, a) refl is);
}

-- a seat keeps what it kept, where its votes and the ballots past for it stay the same
pub keeps_same : {A : Type 0} (s next : Synod A) (k : ℕ) (kept : Kept A) → ((b : Ballot) → next.past k b ≡ s.past k b)
    → ((b : Ballot) → next.votes k b ≡ s.votes k b) → Keeps s k kept → Keeps next k kept
keeps_same s next k kept past votes keeps = record {
  past = λ b. past b ∙ keeps.past b;
  covers = λ b a is. keeps.covers b a (sym (votes b) ∙ is);
  last = λ b a is. votes b ∙ keeps.last b a is;
  within = keeps.within;
}

-- so it does where another seat promises
pub keeps_other_promise : {A : Type 0} (s : Synod A) (seat : ℕ) (b : Ballot) (k : ℕ) (kept : Kept A) → k ≢ seat → Keeps s k kept
    → Keeps (with_promise s seat b) k kept
keeps_other_promise s seat b k kept other keeps =
    keeps_same s (with_promise s seat b) k kept
    (λ d. or_none (s.past k d) (nat_eq k seat && ballot_below d b) (and_left (nat_eq k seat) (ballot_below d b) (ne_eqb k seat other)))
    (λ d. refl) keeps

-- where another seat votes
pub keeps_other_vote : {A : Type 0} (s : Synod A) (seat : ℕ) (b : Ballot) (a : A) (k : ℕ) (kept : Kept A) → k ≢ seat → Keeps s k kept
    → Keeps (with_vote s seat b a) k kept
keeps_other_vote s seat b a k kept other keeps =
    keeps_same s (with_vote s seat b a) k kept (λ d. refl)
    (λ d. ap (λ t. cond (t && ballot_same d b) (Some a) (s.votes k d)) (ne_eqb k seat other)) keeps

-- and where a ballot is proposed
pub keeps_proposal : {A : Type 0} (s : Synod A) (b : Ballot) (a : A) (k : ℕ) (kept : Kept A) → Keeps s k kept → Keeps (with_proposal s b a) k kept
keeps_proposal s b a k kept keeps = keeps_same s (with_proposal s b a) k kept (λ d. refl) (λ d. refl) keeps

-- what an answer says stays so
pub said_stays : {A : Type 0} (s next : Synod A) (k : ℕ) (b : Ballot) (told : Option (Ballot × A)) → Grows s next → SaysPromise s k b told
    → SaysPromise next k b told
said_stays {A = A} s next k b told grows says = ⊎_elim
    (λ (promised : HasPromised s k b told). inl (promised_stays s next k b told grows promised))
    (λ (proposed : (a : A) × (s.proposals b ≡ Some a)). inr (proposed.0, grows.proposals b proposed.0 proposed.1))
    says

-- while a ballot is not proposed, an answer to it is a promise
pub said_open : {A : Type 0} (s : Synod A) (k : ℕ) (b : Ballot) (told : Option (Ballot × A)) → s.proposals b ≡ None → SaysPromise s k b told
    → HasPromised s k b told
said_open {A = A} s k b told free says = ⊎_elim
    (λ (promised : HasPromised s k b told). promised)
    (λ (proposed : (a : A) × (s.proposals b ≡ Some a)). absurd (none_is_some (s.proposals b) proposed.0 free proposed.1))
    says

-- where the lower ballots are past, a vote that covers the seat's own, is not above the ballot, and was proposed so may be told
told_says : {A : Type 0} (s : Synod A) (k : ℕ) (b : Ballot) (told : Option (Ballot × A))
    → ((d : Ballot) → ballot_below d b ≡ true → s.past k d ≡ true)
    → ((d : Ballot) (a : A) → s.votes k d ≡ Some a → IsAtMost d told)
    → ((c : Ballot) (a : A) → told ≡ Some (c, a) → (ballot_below b c ≡ false) × (s.proposals c ≡ Some a)) → SaysPromise s k b told
told_says s k b None past covers is = inl (record { past = past; covers = λ d a below voted. covers d a voted; below = tt })
told_says s k b (Some (c, a)) past covers is =
    let vote = is c a refl in
    by_order c b
    (λ lower. inl (record { past = past; covers = λ d e below voted. covers d e voted; below = (lower, vote.1) }))
    (λ higher. absurd (false≢true (sym vote.0 ∙ higher)))
    (λ same. inr (a, ap s.proposals (sym same) ∙ vote.1))

-- What a seat's promise to a ballot does.
pub record Promising {A : Type 0} (n q : ℕ) (s : Synod A) (seat : ℕ) (kept : Kept A) (b : Ballot) : Type 0 where
  pub grows : Grows s (with_promise s seat b)
  pub agrees : Agrees n q (with_promise s seat b)
  pub here : Keeps (with_promise s seat b) seat (Some (b, last_of kept))
  pub elsewhere : (k : ℕ) (other : Kept A) → k ≢ seat → Keeps s k other → Keeps (with_promise s seat b) k other
  pub says : SaysPromise (with_promise s seat b) seat b (last_of kept)

-- a seat that has promised to no greater ballot may promise to this one, and tells its last vote
pub promising : {A : Type 0} (n q : ℕ) (s : Synod A) (seat : ℕ) (kept : Kept A) (b : Ballot) → is_promised_above kept b ≡ false → Agrees n q s
    → Keeps s seat kept → Promising n q s seat kept b
promising {A = A} n q s seat kept b free agrees keeps = record {
  grows = promise_grows s seat b;
  agrees = promise_agrees n q s seat b agrees;
  here = record {
    past = λ d. ap (λ t. s.past seat d || (t && ballot_below d b)) (eq-eqb seat seat refl)
        ∙ ap (λ t. t || ballot_below d b) (keeps.past d) ∙ past_below kept b d free;
    covers = keeps.covers;
    last = keeps.last;
    within = λ c a is. kept_below kept b c free (keeps.within c a is);
  };
  elsewhere = λ k other isnt kept. keeps_other_promise s seat b k other isnt kept;
  says = told_says (with_promise s seat b) seat b (last_of kept)
      (λ d below. or_right (s.past seat d) (nat_eq seat seat && ballot_below d b)
      (and_from (nat_eq seat seat) (ballot_below d b) (eq-eqb seat seat refl) below))
      keeps.covers
      (λ c a is. (kept_below kept b c free (keeps.within c a is), agrees.votes seat c a (keeps.last c a is)));
}

-- a vote that the last one kept covers is not above a ballot that the seat may promise to
covered_below : {A : Type 0} (kept : Kept A) (b d : Ballot) → is_promised_above kept b ≡ false
    → ((c : Ballot) (a : A) → last_of kept ≡ Some (c, a) → is_above_promise kept c ≡ false) → IsAtMost d (last_of kept) → ballot_below b d ≡ false
covered_below None b d free within covered = absurd covered
covered_below (Some (p, None)) b d free within covered = absurd covered
covered_below (Some (p, Some (c, a))) b d free within covered =
    ballot_not_below_trans d c b covered (ballot_not_below_trans c p b (within c a refl) free)

-- What a seat's vote under a ballot does, which is a promise to it too.
pub record Accepting {A : Type 0} (n q : ℕ) (s : Synod A) (seat : ℕ) (kept : Kept A) (b : Ballot) (a : A) : Type 0 where
  pub grows : Grows s (with_acceptance s seat b a)
  pub agrees : Agrees n q (with_acceptance s seat b a)
  pub here : Keeps (with_acceptance s seat b a) seat (Some (b, Some (b, a)))
  pub elsewhere : (k : ℕ) (other : Kept A) → k ≢ seat → Keeps s k other → Keeps (with_acceptance s seat b a) k other
  pub voted : (with_acceptance s seat b a).votes seat b ≡ Some a

-- a seat that has promised to no greater ballot may vote for what this one was proposed with
pub accepting : {A : Type 0} (n q : ℕ) (s : Synod A) (seat : ℕ) (kept : Kept A) (b : Ballot) (a : A) → is_promised_above kept b ≡ false
    → s.proposals b ≡ Some a → Agrees n q s → Keeps s seat kept → Accepting n q s seat kept b a
accepting {A = A} n q s seat kept b a free proposed agrees keeps = record {
  grows = grows_on s promised (with_acceptance s seat b a) promise.grows
      (vote_grows n q promised seat b a present proposed promise.agrees);
  agrees = vote_agrees n q promised seat b a present proposed promise.agrees;
  here = record {
    past = promise.here.past;
    covers = λ d e is. ⊎_elim
        (λ (new : ((nat_eq seat seat && ballot_same d b) ≡ true) × (a ≡ e)).
        subst (λ (z : Ballot). ballot_below b z ≡ false) (sym (same_place seat seat d b new.0).1) (ballot_below_order.irreflexive b))
        (λ (old : s.votes seat d ≡ Some e). covered_below kept b d free keeps.within (keeps.covers d e old))
        (put_value (nat_eq seat seat && ballot_same d b) a e (s.votes seat d) is);
    last = λ c e is.
        let parts = some_pair_parts b c a e is in
        subst (λ (z : Ballot). (with_acceptance s seat b a).votes seat z ≡ Some e) parts.0 (voted ∙ ap (λ x. Some x) parts.1);
    within = λ c e is. subst (λ (z : Ballot). ballot_below b z ≡ false) (some_pair_parts b c a e is).0 (ballot_below_order.irreflexive b);
  };
  elsewhere = λ k other isnt kept. keeps_other_vote promised seat b a k other isnt (promise.elsewhere k other isnt kept);
  voted = voted;
}
  where
    promised : Synod A
    promised = with_promise s seat b

    promise : Promising n q s seat kept b
    promise = promising n q s seat kept b free agrees keeps

    present : promised.past seat b ≡ false
    present = promise.here.past b ∙ ballot_below_order.irreflexive b

    voted : (with_acceptance s seat b a).votes seat b ≡ Some a
    voted = ap (λ t. cond t (Some a) (s.votes seat b))
        (and_from (nat_eq seat seat) (ballot_same b b) (eq-eqb seat seat refl) (ballot_same_refl b))
