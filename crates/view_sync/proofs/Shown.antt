-- The reads of a synchronisation show how it ends.
use Rattle.std.proofs.Common.{◌≡◌, ℕ, suc, ◌+◌, ◌-◌, ◌<◌, ◌≤◌, true, false, nat_lt, List, ◌∷◌, length, take, refl, sym, subst, arith}
use Rattle.std.proofs.lemmas.Bool.{cond_both}
use Rattle.std.proofs.lemmas.Bool.Decides.{nat_tests}
use Rattle.fab_base.specs.declared.identities.StripeNo.{StripeNo}
use Rattle.fab_base.specs.declared.answers.Cause.{Cause}
use Rattle.protocol.specs.Jobs.{JobNext as Goes, Reads, Finishes, GivesUp, most_tries, synced_answer, stopped_answer, spent_answer}
use Rattle.protocol.specs.declared.tellings.SyncAnswer.{SyncAnswer}
use Rattle.view_sync.specs.declared.answers.JobEnd.{JobEnd}
use Rattle.view_sync.specs.declared.answers.JobEnd.TheVariants as end
use Rattle.view_sync.specs.declared.answers.JobNext.{JobNext}
use Rattle.view_sync.specs.declared.answers.JobNext.TheVariants as next
use Rattle.view_sync.specs.Jobs.{Synchronising, next_as, left_as, job_next, job_left}
use Rattle.view_sync.specs.Evidence.{ReadEnd, ended_read, HasTried, First, Then, is_read, are_aborted, ReadsShow, EndIsShown}

-- What is true of a synchronisation that is under way: it tries its stripe at most eight times; the tries before the present one were aborted; and each
-- earlier stripe was read.
record IsOnItsWay (reads : List ReadEnd) (job : Synchronising) : Type 0 where
  pub tried : 1 ≤ job.attempt.tries
  pub few : job.attempt.tries ≤ most_tries
  pub many : job.attempt.tries ≤ length reads + 1
  pub aborted : are_aborted job.attempt.stripe (take (job.attempt.tries - 1) reads) ≡ true
  pub read : (stripe : ℕ) → stripe < job.attempt.stripe → is_read stripe reads ≡ true

-- a read that is answered reads its stripe, and earlier ones were read before
read_more : (at stripe : ℕ) (reads : List ReadEnd) → stripe < at + 1 → (stripe < at → is_read stripe reads ≡ true)
    → is_read stripe (record { stripe = at; how = end.Answered } ∷ reads) ≡ true
read_more at stripe reads below earlier = grind (arith, nat_tests)

-- an earlier stripe stays read
read_still : (stripe : ℕ) (read : ReadEnd) (reads : List ReadEnd) → is_read stripe reads ≡ true → is_read stripe (read ∷ reads) ≡ true
read_still stripe read reads was = grind (arith, nat_tests)

-- one more try is aborted
aborted_more : (n k stripe : ℕ) (cause : Cause) (reads : List ReadEnd) → n ≡ suc k → are_aborted stripe (take k reads) ≡ true
    → are_aborted stripe (take n (record { stripe = stripe; how = end.Aborted cause } ∷ reads)) ≡ true
aborted_more n k stripe cause reads more before = rw more (grind (arith, nat_tests))

-- a read that is answered leaves it under way at the next stripe
after_answered : (reads : List ReadEnd) (job : Synchronising) → IsOnItsWay reads job
    → IsOnItsWay (ended_read job end.Answered ∷ reads) (record job { attempt = record { stripe = job.attempt.stripe + 1; tries = 1 } })
after_answered reads job is =
    record {
      tried = omega arith;
      few = omega arith;
      many = omega arith;
      aborted = refl;
      read = λ stripe below. read_more job.attempt.stripe stripe reads below (is.read stripe);
    }

-- a read that is aborted leaves it under way at the next try
after_aborted : (reads : List ReadEnd) (job : Synchronising) (cause : Cause) → nat_lt job.attempt.tries most_tries ≡ true → IsOnItsWay reads job
    → IsOnItsWay (ended_read job (end.Aborted cause) ∷ reads) (record job { attempt = record job.attempt { tries = job.attempt.tries + 1 } })
after_aborted reads job cause left is =
    record {
      tried = omega arith;
      few = grind (arith, nat_tests, left);
      many = (let is_many = is.many in omega arith);
      aborted = (let tried = is.tried in
          aborted_more (job.attempt.tries + 1 - 1) (job.attempt.tries - 1) job.attempt.stripe cause reads (omega arith) is.aborted);
      read = λ stripe below. read_still stripe (ended_read job (end.Aborted cause)) reads (is.read stripe below);
    }

-- a read that is followed by another leaves it under way
goes_on : (reads : List ReadEnd) (job : Synchronising) (how : JobEnd) (stripe : StripeNo) → IsOnItsWay reads job → job_next job how ≡ next.Read stripe
    → IsOnItsWay (ended_read job how ∷ reads) (job_left job how)
goes_on reads job end.Answered stripe is goes =
    cond_both (nat_lt (job.attempt.stripe + 1) job.stripes) (Reads (record { stripe = job.attempt.stripe + 1; tries = 1 })) Finishes
    (λ (does : Goes). next_as job does ≡ next.Read stripe → IsOnItsWay (ended_read job end.Answered ∷ reads) (left_as job does))
    (λ more e. after_answered reads job is) (λ last e. cc) goes
goes_on reads job (end.Aborted cause) stripe is goes =
    cond_both (nat_lt job.attempt.tries most_tries) (Reads (record job.attempt { tries = job.attempt.tries + 1 })) (GivesUp cause)
    (λ (does : Goes). next_as job does ≡ next.Read stripe → IsOnItsWay (ended_read job (end.Aborted cause) ∷ reads) (left_as job does))
    (λ left e. after_aborted reads job cause left is) (λ last e. cc) goes
goes_on reads job end.Spent stripe is goes = cc

-- so it is under way from its beginning on
under_way : (reads : List ReadEnd) (job : Synchronising) → HasTried reads job → IsOnItsWay reads job
under_way _ _ (First group stripes view) =
    record { tried = omega arith; few = omega arith; many = omega arith; aborted = refl; read = λ stripe below. absurd (omega arith) }
under_way _ _ (Then reads job how stripe has goes) = goes_on reads job how stripe (under_way reads job has) goes

-- the last stripe was read, and so was each before it
all_read : (reads : List ReadEnd) (job : Synchronising) → nat_lt (job.attempt.stripe + 1) job.stripes ≡ false → IsOnItsWay reads job
    → (stripe : ℕ) → stripe < job.stripes → is_read stripe (ended_read job end.Answered ∷ reads) ≡ true
all_read reads job last is stripe below =
    read_more job.attempt.stripe stripe reads (grind (arith, nat_tests, last)) (is.read stripe)

-- the eighth try was aborted, and so was each before it
all_aborted : (reads : List ReadEnd) (job : Synchronising) (cause : Cause) → nat_lt job.attempt.tries most_tries ≡ false → IsOnItsWay reads job
    → ReadsShow job (ended_read job (end.Aborted cause) ∷ reads) (stopped_answer job.attempt cause)
all_aborted reads job cause last is =
    let few = is.few in
    let all : job.attempt.tries ≡ 8 = grind (arith, nat_tests, last, few) in
    let many = is.many in (
      omega arith,
      aborted_more most_tries (job.attempt.tries - 1) job.attempt.stripe cause reads (omega arith) is.aborted,
      refl,
    )

-- a read that ends it shows how
shown : (reads : List ReadEnd) (job : Synchronising) (how : JobEnd) (answer : SyncAnswer) → IsOnItsWay reads job → job_next job how ≡ next.End answer
    → ReadsShow job (ended_read job how ∷ reads) answer
shown reads job end.Answered answer is ends =
    cond_both (nat_lt (job.attempt.stripe + 1) job.stripes) (Reads (record { stripe = job.attempt.stripe + 1; tries = 1 })) Finishes
    (λ (does : Goes). next_as job does ≡ next.End answer → ReadsShow job (ended_read job end.Answered ∷ reads) answer)
    (λ more e. cc)
    (λ last e. let same : synced_answer job.view ≡ answer = cc in
    subst (λ (z : SyncAnswer). ReadsShow job (ended_read job end.Answered ∷ reads) z) same (refl, all_read reads job last is))
    ends
shown reads job (end.Aborted cause) answer is ends =
    cond_both (nat_lt job.attempt.tries most_tries) (Reads (record job.attempt { tries = job.attempt.tries + 1 })) (GivesUp cause)
    (λ (does : Goes). next_as job does ≡ next.End answer → ReadsShow job (ended_read job (end.Aborted cause) ∷ reads) answer)
    (λ left e. cc)
    (λ last e. let same : stopped_answer job.attempt cause ≡ answer = cc in
    subst (λ (z : SyncAnswer). ReadsShow job (ended_read job (end.Aborted cause) ∷ reads) z) same (all_aborted reads job cause last is))
    ends
shown reads job end.Spent answer is ends =
    let same : spent_answer job.attempt ≡ answer = cc in subst (λ (z : SyncAnswer). ReadsShow job (ended_read job end.Spent ∷ reads) z) same refl

-- what a synchronisation does once its read has ended has its evidence
pub end_is_shown : (job : Synchronising) (how : JobEnd) (does : JobNext) → does ≡ job_next job how → EndIsShown job how does
end_is_shown job how (next.End answer) is = λ reads has. shown reads job how answer (under_way reads job has) (sym is)
end_is_shown job how (next.Read stripe) is = tt
