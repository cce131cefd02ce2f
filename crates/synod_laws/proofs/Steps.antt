-- Each allowed step keeps the invariant, so every run of them does: the law of agreement.
use Rattle.std.proofs.Common.{◌≡◌, ℕ, Bool, true, false, cond, ◌&&◌, nat_eq, ◌⊎◌, inl, inr, ⊎_elim, List, [], ◌∷◌, ◌++◌, Option, Some, None, refl, sym, ap, ◌∙◌, subst}
use Rattle.std.proofs.lemmas.Bool.{false≢true, and_parts, or_left, eqb-true}
use Rattle.std.proofs.lemmas.Option.{same_Some}
use Rattle.fab_base.specs.declared.stamps.Ballot.{Ballot}
use Rattle.fab_base.specs.Stamps.{ballot_below}
use Rattle.synod_laws.specs.Synods.{IsMajority, Synod, Step, Promises, Proposes, Votes, IsSafe, Agrees, Grows, no_synod, ballot_same, with_promise, with_proposal, with_vote, after, run, IsAllowed, AreAllowed, EveryRunAgrees, ChosenStaysChosen}
use Rattle.synod_laws.proofs.Ballots.{ballot_same_true}
use Rattle.synod_laws.proofs.Agreement.{none_is_some, two_chosen, chosen_stays, safe_step, agrees_on, grows_on}

-- a seat and a ballot that test as another seat and ballot are these
pub same_place : (k seat : ℕ) (d b : Ballot) → (nat_eq k seat && ballot_same d b) ≡ true → (k ≡ seat) × (d ≡ b)
same_place k seat d b same =
    let parts = and_parts (nat_eq k seat) (ballot_same d b) same in (eqb-true k seat parts.0, ballot_same_true d b parts.1)

-- what is put under a test is the new value where the test holds, or else the old one
pub put_value : {A : Type 0} (t : Bool) (a e : A) (old : Option A) → cond t (Some a) old ≡ Some e → ((t ≡ true) × (a ≡ e)) ⊎ (old ≡ Some e)
put_value true a e old is = inl (refl, same_Some a e is)
put_value false a e old is = inr is

-- an old value stays, where the new one is put elsewhere or equals it
old_value : {A : Type 0} (t : Bool) (a e : A) (old : Option A) → (t ≡ true → a ≡ e) → old ≡ Some e → cond t (Some a) old ≡ Some e
old_value true a e old same is = ap (λ x. Some x) (same refl)
old_value false a e old same is = is

-- a promise goes on from what was
pub promise_grows : {A : Type 0} (s : Synod A) (seat : ℕ) (b : Ballot) → Grows s (with_promise s seat b)
promise_grows s seat b = record {
  votes = λ k d a is. is;
  past = λ k d is. or_left (s.past k d) (nat_eq k seat && ballot_below d b) is;
  proposals = λ d a is. is;
  closed = λ k d a past voted. voted;
}

-- so does a proposal under a ballot that had none
pub proposal_grows : {A : Type 0} (s : Synod A) (b : Ballot) (a : A) → s.proposals b ≡ None → Grows s (with_proposal s b a)
proposal_grows s b a free = record {
  votes = λ k d e is. is;
  past = λ k d is. is;
  proposals = λ d e is. old_value (ballot_same d b) a e (s.proposals d)
      (λ same. absurd (none_is_some (s.proposals d) e (ap s.proposals (ballot_same_true d b same) ∙ free) is)) is;
  closed = λ k d e past voted. voted;
}

-- so does a vote under a ballot that is not past for the seat, for what it was proposed with
pub vote_grows : {A : Type 0} (n q : ℕ) (s : Synod A) (seat : ℕ) (b : Ballot) (a : A) → s.past seat b ≡ false → s.proposals b ≡ Some a → Agrees n q s
    → Grows s (with_vote s seat b a)
vote_grows n q s seat b a present proposed agrees = record {
  votes = λ k d e is. old_value (nat_eq k seat && ballot_same d b) a e (s.votes k d)
      (λ same. same_Some a e (sym proposed ∙ ap s.proposals (sym (same_place k seat d b same).1) ∙ agrees.votes k d e is)) is;
  past = λ k d is. is;
  proposals = λ d e is. is;
  closed = λ k d e past voted. ⊎_elim
      (λ (new : ((nat_eq k seat && ballot_same d b) ≡ true) × (a ≡ e)).
      let place = same_place k seat d b new.0 in
      absurd (false≢true (sym present ∙ ap (λ j. s.past j b) (sym place.0) ∙ ap (s.past k) (sym place.1) ∙ past)))
      (λ (old : s.votes k d ≡ Some e). old)
      (put_value (nat_eq k seat && ballot_same d b) a e (s.votes k d) voted);
}

-- a promise keeps the invariant
pub promise_agrees : {A : Type 0} (n q : ℕ) (s : Synod A) (seat : ℕ) (b : Ballot) → Agrees n q s → Agrees n q (with_promise s seat b)
promise_agrees n q s seat b agrees =
    agrees_on n q s (with_promise s seat b) (promise_grows s seat b) agrees (λ k d a is. inl is) (λ d a is. inl is)

-- so does a proposal of a value that is safe
pub proposal_agrees : {A : Type 0} (n q : ℕ) (s : Synod A) (b : Ballot) (a : A) → s.proposals b ≡ None → IsSafe n q s b a → Agrees n q s
    → Agrees n q (with_proposal s b a)
proposal_agrees n q s b a free safe agrees =
    agrees_on n q s (with_proposal s b a) (proposal_grows s b a free) agrees (λ k d e is. inl is)
    (λ d e is. ⊎_elim
    (λ (new : (ballot_same d b ≡ true) × (a ≡ e)).
    inr (subst (λ (c : Ballot). IsSafe n q s c e) (sym (ballot_same_true d b new.0)) (subst (λ x. IsSafe n q s b x) new.1 safe)))
    (λ (old : s.proposals d ≡ Some e). inl old)
    (put_value (ballot_same d b) a e (s.proposals d) is))

-- so does a vote
pub vote_agrees : {A : Type 0} (n q : ℕ) (s : Synod A) (seat : ℕ) (b : Ballot) (a : A) → s.past seat b ≡ false → s.proposals b ≡ Some a → Agrees n q s
    → Agrees n q (with_vote s seat b a)
vote_agrees n q s seat b a present proposed agrees =
    agrees_on n q s (with_vote s seat b a) (vote_grows n q s seat b a present proposed agrees) agrees
    (λ k d e is. ⊎_elim
    (λ (new : ((nat_eq k seat && ballot_same d b) ≡ true) × (a ≡ e)).
    inr (ap s.proposals (same_place k seat d b new.0).1 ∙ proposed ∙ ap (λ x. Some x) new.1))
    (λ (old : s.votes k d ≡ Some e). inl old)
    (put_value (nat_eq k seat && ballot_same d b) a e (s.votes k d) is))
    (λ d e is. inl is)

-- each allowed step keeps the invariant
pub step_agrees : {A : Type 0} (n q : ℕ) (s : Synod A) (step : Step A) → IsMajority n q → Agrees n q s → IsAllowed n q s step → Agrees n q (after s step)
step_agrees n q s (Promises seat b) majority agrees allowed = promise_agrees n q s seat b agrees
step_agrees n q s (Proposes b a seats told) majority agrees allowed =
    proposal_agrees n q s b a allowed.0 (safe_step n q s b seats told a majority agrees allowed.1 allowed.2) agrees
step_agrees n q s (Votes seat b a) majority agrees allowed = vote_agrees n q s seat b a allowed.0 allowed.1 agrees

-- so does every run of allowed steps
pub run_agrees : {A : Type 0} (n q : ℕ) (s : Synod A) (steps : List (Step A)) → IsMajority n q → Agrees n q s → AreAllowed n q s steps → Agrees n q (run s steps)
run_agrees n q s [] majority agrees allowed = agrees
run_agrees n q s (step ∷ steps) majority agrees allowed =
    run_agrees n q (after s step) steps majority (step_agrees n q s step majority agrees allowed.0) allowed.1

-- each allowed step goes on from what was
pub step_grows : {A : Type 0} (n q : ℕ) (s : Synod A) (step : Step A) → Agrees n q s → IsAllowed n q s step → Grows s (after s step)
step_grows n q s (Promises seat b) agrees allowed = promise_grows s seat b
step_grows n q s (Proposes b a seats told) agrees allowed = proposal_grows s b a allowed.0
step_grows n q s (Votes seat b a) agrees allowed = vote_grows n q s seat b a allowed.0 allowed.1 agrees

-- so does every run of them
pub run_grows : {A : Type 0} (n q : ℕ) (s : Synod A) (steps : List (Step A)) → IsMajority n q → Agrees n q s → AreAllowed n q s steps → Grows s (run s steps)
run_grows n q s [] majority agrees allowed =
    record { votes = λ k b a is. is; past = λ k b is. is; proposals = λ b a is. is; closed = λ k b a past voted. voted }
run_grows n q s (step ∷ steps) majority agrees allowed =
    grows_on s (after s step) (run (after s step) steps) (step_grows n q s step agrees allowed.0)
    (run_grows n q (after s step) steps majority (step_agrees n q s step majority agrees allowed.0) allowed.1)

-- so does a longer run from a shorter one
pub runs_grow : {A : Type 0} (n q : ℕ) (s : Synod A) (steps more : List (Step A)) → IsMajority n q → Agrees n q s → AreAllowed n q s (steps ++ more)
    → Grows (run s steps) (run s (steps ++ more))
runs_grow n q s [] more majority agrees allowed = run_grows n q s more majority agrees allowed
runs_grow n q s (step ∷ steps) more majority agrees allowed =
    runs_grow n q (after s step) steps more majority (step_agrees n q s step majority agrees allowed.0) allowed.1

-- the invariant holds where nothing has happened
pub agrees_first : {A : Type 0} (n q : ℕ) → Agrees n q (no_synod {A = A})
agrees_first {A = A} n q = record { votes = λ k b a is. absurd (none_is_some {A = A} None a refl is); safe = λ b a is. absurd (none_is_some {A = A} None a refl is) }

-- the law of agreement
pub every_run_agrees : EveryRunAgrees
every_run_agrees n q majority steps allowed b c a e one two =
    two_chosen n q (run no_synod steps) b c a e majority (run_agrees n q no_synod steps majority (agrees_first n q) allowed) one two

-- what is chosen stays chosen
pub chosen_stays_chosen : ChosenStaysChosen
chosen_stays_chosen n q majority steps more allowed b a chosen =
    chosen_stays n q (run no_synod steps) (run no_synod (steps ++ more)) b a (runs_grow n q no_synod steps more majority (agrees_first n q) allowed) chosen
