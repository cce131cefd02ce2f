-- The Synod: how seats agree on one value by ballots, promises and votes (Lamport, "The Part-Time Parliament", ACM TOCS 1998, and "Paxos Made Simple",
-- ACM SIGACT News 2001, which calls a seat an acceptor). There is no message in it: a step knows the history as it is.
--
-- There are n seats, numbered from 0, and any q of them are a quorum. A ballot is proposed with one value at most, and seats vote for that value under it.
-- What a quorum voted for under one ballot is chosen.
use Rattle.std.specs.Prelude.{◌≡◌, ℕ, ◌+◌, ◌*◌, ◌<◌, ◌≤◌, Bool, true, false, not, ◌&&◌, ◌||◌, nat_eq, if◌then◌else◌, ◌⊎◌, List, [], ◌∷◌, ◌++◌, map, Option, Some, None, is_some}
use Rattle.fab_base.specs.declared.identities.BrickId.{BrickId}
use Rattle.fab_base.specs.declared.stamps.Ballot.{Ballot}
use Rattle.fab_base.specs.Stamps.{ballot_below}
use Rattle.quorum.specs.Quorums.{count, q_of, IsWithinLimits}

-- q are more than half of n seats, so any two quorums share a seat
abbrev pub IsMajority : ℕ → ℕ → Type 0
IsMajority n q = n < 2 * q

-- The history of all seats and ballots: what each seat ever voted for, under each ballot; which ballots are past for a seat, so that it will not vote
-- under them any more; and what each ballot was proposed with.
pub record Synod (A : Type 0) : Type 0 where
  pub votes : ℕ → Ballot → Option A
  pub past : ℕ → Ballot → Bool
  pub proposals : Ballot → Option A

-- nothing has happened yet
abbrev pub no_synod : {A : Type 0} → Synod A
no_synod = record { votes = λ seat ballot. None; past = λ seat ballot. false; proposals = λ ballot. None }

-- a quorum voted for the value under the ballot
abbrev pub IsChosen : {A : Type 0} → ℕ → ℕ → Synod A → Ballot → A → Type 0
IsChosen n q synod ballot value =
    (seats : ℕ → Bool) × (q ≤ count n seats) × ((seat : ℕ) → seat < n → seats seat ≡ true → synod.votes seat ballot ≡ Some value)

-- a vote is told, and the ballot is at most that vote's
abbrev pub IsAtMost : {A : Type 0} → Ballot → Option (Ballot × A) → Type 0
IsAtMost ballot None = ⊥
IsAtMost ballot (Some (told, value)) = ballot_below told ballot ≡ false

-- if a vote is told, it is of a lower ballot, and for what that one was proposed with
abbrev pub IsBelow : {A : Type 0} → Synod A → Ballot → Option (Ballot × A) → Type 0
IsBelow synod ballot None = Unit {0}
IsBelow synod ballot (Some (told, value)) = (ballot_below told ballot ≡ true) × (synod.proposals told ≡ Some value)

-- The seat has promised to the ballot, and told this vote, or none. All lower ballots are past for it; none of its own votes under them is above the one
-- told; and that one is of a lower ballot, for what it was proposed with. It need not be a vote of this seat.
pub record HasPromised {A : Type 0} (synod : Synod A) (seat : ℕ) (ballot : Ballot) (told : Option (Ballot × A)) : Type 0 where
  pub past : (lower : Ballot) → ballot_below lower ballot ≡ true → synod.past seat lower ≡ true
  pub covers : (lower : Ballot) (value : A) → ballot_below lower ballot ≡ true → synod.votes seat lower ≡ Some value → IsAtMost lower told
  pub below : IsBelow synod ballot told

-- these seats are a quorum, and each has promised to the ballot and told this
pub record HasQuorum {A : Type 0} (n q : ℕ) (synod : Synod A) (ballot : Ballot) (seats : ℕ → Bool) (told : ℕ → Option (Ballot × A)) : Type 0 where
  pub many : q ≤ count n seats
  pub each : (seat : ℕ) → seat < n → seats seat ≡ true → HasPromised synod seat ballot (told seat)

-- one of these seats told this vote, and none told one of a greater ballot
pub record IsGreatest {A : Type 0} (n : ℕ) (seats : ℕ → Bool) (told : ℕ → Option (Ballot × A)) (ballot : Ballot) (value : A) : Type 0 where
  pub seat : ℕ
  pub within : seat < n
  pub member : seats seat ≡ true
  pub is : told seat ≡ Some (ballot, value)
  pub most : (other : ℕ) → other < n → seats other ≡ true → (lower : Ballot) → IsAtMost lower (told other) → ballot_below ballot lower ≡ false

-- the value may be proposed: these seats told no vote, or it is that of the greatest ballot that they told
abbrev pub MayPropose : {A : Type 0} → ℕ → (ℕ → Bool) → (ℕ → Option (Ballot × A)) → A → Type 0
MayPropose n seats told value =
    ((seat : ℕ) → seat < n → seats seat ≡ true → told seat ≡ None) ⊎ ((ballot : Ballot) × IsGreatest n seats told ballot value)

-- the ballots are the same: neither is below the other
unfoldable pub ballot_same : Ballot → Ballot → Bool
ballot_same b c = not (ballot_below b c) && not (ballot_below c b)

-- the seat promises to the ballot: from then on all lower ones are past for it
abbrev pub with_promise : {A : Type 0} → Synod A → ℕ → Ballot → Synod A
with_promise synod seat ballot = record synod { past = λ k lower. synod.past k lower || (nat_eq k seat && ballot_below lower ballot) }

-- the ballot is proposed with the value
abbrev pub with_proposal : {A : Type 0} → Synod A → Ballot → A → Synod A
with_proposal synod ballot value = record synod { proposals = λ b. if ballot_same b ballot then Some value else synod.proposals b }

-- the seat votes for the value under the ballot
abbrev pub with_vote : {A : Type 0} → Synod A → ℕ → Ballot → A → Synod A
with_vote synod seat ballot value =
    record synod { votes = λ k b. if nat_eq k seat && ballot_same b ballot then Some value else synod.votes k b }

-- A step: a seat promises to a ballot; a ballot is proposed with a value, by what these seats told when they promised to it; a seat votes for a value under
-- a ballot.
pub data Step (A : Type 0) : Type 0 where
  Promises : (seat : ℕ) → (ballot : Ballot) → Step A
  Proposes : (ballot : Ballot) → (value : A) → (seats : ℕ → Bool) → (told : ℕ → Option (Ballot × A)) → Step A
  Votes : (seat : ℕ) → (ballot : Ballot) → (value : A) → Step A

-- the history after a step
abbrev pub after : {A : Type 0} → Synod A → Step A → Synod A
after synod (Promises seat ballot) = with_promise synod seat ballot
after synod (Proposes ballot value seats told) = with_proposal synod ballot value
after synod (Votes seat ballot value) = with_vote synod seat ballot value

-- The rules. A seat may promise to any ballot. A ballot is proposed once at most, after a quorum has promised to it, with a value that what they told
-- allows. A seat votes under a ballot that is not past for it, for what that ballot was proposed with.
abbrev pub IsAllowed : {A : Type 0} → ℕ → ℕ → Synod A → Step A → Type 0
IsAllowed n q synod (Promises seat ballot) = Unit {0}
IsAllowed n q synod (Proposes ballot value seats told) =
    (synod.proposals ballot ≡ None) × HasQuorum n q synod ballot seats told × MayPropose n seats told value
IsAllowed n q synod (Votes seat ballot value) = (synod.past seat ballot ≡ false) × (synod.proposals ballot ≡ Some value)

-- the history after a run of steps
abbrev pub run : {A : Type 0} → Synod A → List (Step A) → Synod A
run synod [] = synod
run synod (step ∷ steps) = run (after synod step) steps

-- each step of a run is allowed where it is taken
abbrev pub AreAllowed : {A : Type 0} → ℕ → ℕ → Synod A → List (Step A) → Type 0
AreAllowed n q synod [] = Unit {0}
AreAllowed n q synod (step ∷ steps) = IsAllowed n q synod step × AreAllowed n q (after synod step) steps

-- The quorums of a view are such majorities, of m data blocks and n seats within the limits.
abbrev pub QuorumsAreMajorities : Type 0
QuorumsAreMajorities = (m n : ℕ) → IsWithinLimits m n → IsMajority n (q_of m n)

-- In every run of allowed steps, two values that are chosen are equal, whichever ballots they are chosen under. A value is a list of bricks, as the members of
-- a view are.
abbrev pub EveryRunAgrees : Type 0
EveryRunAgrees =
    (n q : ℕ) → IsMajority n q → (steps : List (Step (List BrickId))) → AreAllowed n q no_synod steps
    → (ballot other : Ballot) (value another : List BrickId)
    → IsChosen n q (run no_synod steps) ballot value → IsChosen n q (run no_synod steps) other another → value ≡ another

-- What is chosen stays chosen, however the run goes on.
abbrev pub ChosenStaysChosen : Type 0
ChosenStaysChosen =
    (n q : ℕ) → IsMajority n q → (steps more : List (Step (List BrickId))) → AreAllowed n q no_synod (steps ++ more)
    → (ballot : Ballot) (value : List BrickId)
    → IsChosen n q (run no_synod steps) ballot value → IsChosen n q (run no_synod (steps ++ more)) ballot value

-- Runs do choose: for each value there is a run of allowed steps of three seats, two of them a quorum, in which it is chosen.
abbrev pub SomeRunChooses : Type 0
SomeRunChooses =
    (value : List BrickId) → (steps : List (Step (List BrickId))) × (ballot : Ballot) × AreAllowed 3 2 no_synod steps
    × IsChosen 3 2 (run no_synod steps) ballot value

-- ---- the invariant of a run

-- the ballot is past for the seat, and it has not voted under it: so it never will
abbrev pub is_lost : {A : Type 0} → Synod A → Ballot → ℕ → Bool
is_lost synod ballot seat = synod.past seat ballot && not (is_some (synod.votes seat ballot))

-- so many seats are lost to the ballot that fewer than q of the n are left: nothing is chosen under it, ever
abbrev pub IsBarred : {A : Type 0} → ℕ → ℕ → Synod A → Ballot → Type 0
IsBarred n q synod ballot = n < q + count n (is_lost synod ballot)

-- The value is safe at the ballot: nothing else is chosen under a lower one, ever. Each lower ballot was proposed with this value, or is barred.
abbrev pub IsSafe : {A : Type 0} → ℕ → ℕ → Synod A → Ballot → A → Type 0
IsSafe n q synod ballot value =
    (lower : Ballot) → ballot_below lower ballot ≡ true → (synod.proposals lower ≡ Some value) ⊎ IsBarred n q synod lower

-- The invariant: each vote is for what its ballot was proposed with, and that is safe at the ballot.
pub record Agrees {A : Type 0} (n q : ℕ) (synod : Synod A) : Type 0 where
  pub votes : (seat : ℕ) (ballot : Ballot) (value : A) → synod.votes seat ballot ≡ Some value → synod.proposals ballot ≡ Some value
  pub safe : (ballot : Ballot) (value : A) → synod.proposals ballot ≡ Some value → IsSafe n q synod ballot value

-- The next history goes on from this one: votes, past ballots and proposals stay, and no seat voted under a ballot that was past for it.
pub record Grows {A : Type 0} (synod next : Synod A) : Type 0 where
  pub votes : (seat : ℕ) (ballot : Ballot) (value : A) → synod.votes seat ballot ≡ Some value → next.votes seat ballot ≡ Some value
  pub past : (seat : ℕ) (ballot : Ballot) → synod.past seat ballot ≡ true → next.past seat ballot ≡ true
  pub proposals : (ballot : Ballot) (value : A) → synod.proposals ballot ≡ Some value → next.proposals ballot ≡ Some value
  pub closed : (seat : ℕ) (ballot : Ballot) (value : A) → synod.past seat ballot ≡ true → next.votes seat ballot ≡ Some value
      → synod.votes seat ballot ≡ Some value

-- ---- what a seat keeps, and what it answers

-- the seat accepts the value: it promises to the ballot, and votes under it
abbrev pub with_acceptance : {A : Type 0} → Synod A → ℕ → Ballot → A → Synod A
with_acceptance synod seat ballot value = with_vote (with_promise synod seat ballot) seat ballot value

-- What a seat keeps: the greatest ballot that it has promised to or voted under, and its last vote, if there are such.
abbrev pub Kept : Type 0 → Type 0
Kept A = Option (Ballot × Option (Ballot × A))

-- a greater ballot is promised to than this one
abbrev pub is_promised_above : {A : Type 0} → Kept A → Ballot → Bool
is_promised_above None ballot = false
is_promised_above (Some (promised, last)) ballot = ballot_below ballot promised

-- this ballot is above the one promised to, or none is promised to
abbrev pub is_above_promise : {A : Type 0} → Kept A → Ballot → Bool
is_above_promise None ballot = true
is_above_promise (Some (promised, last)) ballot = ballot_below promised ballot

-- the last vote kept
abbrev pub last_of : {A : Type 0} → Kept A → Option (Ballot × A)
last_of None = None
last_of (Some (promised, last)) = last

-- What the seat keeps is true of the history: the ballots that are past for it are just those below the one promised to; the last vote is a vote of its own,
-- none of its votes is above that, and it is not above the ballot promised to.
pub record Keeps {A : Type 0} (synod : Synod A) (seat : ℕ) (kept : Kept A) : Type 0 where
  pub past : (ballot : Ballot) → synod.past seat ballot ≡ is_promised_above kept ballot
  pub covers : (ballot : Ballot) (value : A) → synod.votes seat ballot ≡ Some value → IsAtMost ballot (last_of kept)
  pub last : (ballot : Ballot) (value : A) → last_of kept ≡ Some (ballot, value) → synod.votes seat ballot ≡ Some value
  pub within : (ballot : Ballot) (value : A) → last_of kept ≡ Some (ballot, value) → is_above_promise kept ballot ≡ false

-- What a seat's answer to a ballot says: it has promised to the ballot and told this, or the ballot was proposed already.
abbrev pub SaysPromise : {A : Type 0} → Synod A → ℕ → Ballot → Option (Ballot × A) → Type 0
SaysPromise {A = A} synod seat ballot told = HasPromised synod seat ballot told ⊎ ((value : A) × (synod.proposals ballot ≡ Some value))

-- ---- replies that are counted one by one

-- the seats of replies, each of which is a seat and what it told
abbrev pub seats_of : {A : Type 0} → List (ℕ × Option (Ballot × A)) → List ℕ
seats_of replies = map (λ reply. reply.0) replies

-- of two votes, each told or not, the one of the greater ballot, the first if they are equal
abbrev pub greater_told : {A : Type 0} → Option (Ballot × A) → Option (Ballot × A) → Option (Ballot × A)
greater_told None other = other
greater_told (Some vote) None = Some vote
greater_told (Some vote) (Some other) = if ballot_below vote.0 other.0 then Some other else Some vote

-- the vote of the greatest ballot that is told in replies
abbrev pub greatest_told : {A : Type 0} → List (ℕ × Option (Ballot × A)) → Option (Ballot × A)
greatest_told [] = None
greatest_told (reply ∷ replies) = greater_told reply.1 (greatest_told replies)

-- the value of the vote that was told, or else the proposer's own
abbrev pub value_or : {A : Type 0} → A → Option (Ballot × A) → A
value_or own None = own
value_or own (Some (ballot, value)) = value
