-- The evidence of how a synchronisation ends: the reads that it made.
use Rattle.std.specs.Prelude.{◌≡◌, ℕ, ◌<◌, ◌≤◌, Bool, true, false, nat_eq, ◌&&◌, List, [], ◌∷◌, length, take, slice_get, Some}
use Rattle.std.specs.List.{list_all, list_any}
use Rattle.fab_base.specs.declared.identities.GroupId.{GroupId}
use Rattle.fab_base.specs.declared.identities.StripeNo.{StripeNo}
use Rattle.fab_base.specs.declared.identities.ViewNo.{ViewNo}
use Rattle.protocol.specs.Jobs.{most_tries}
use Rattle.protocol.specs.declared.tellings.SyncAnswer.{SyncAnswer}
use Rattle.protocol.specs.declared.tellings.SyncAnswer.TheVariants.{Synced, Stopped, Spent}
use Rattle.view_sync.specs.declared.answers.JobEnd.{JobEnd}
use Rattle.view_sync.specs.declared.answers.JobEnd.TheVariants as end
use Rattle.view_sync.specs.declared.answers.JobNext.{JobNext}
use Rattle.view_sync.specs.declared.answers.JobNext.TheVariants as next
use Rattle.view_sync.specs.Jobs.{Synchronising, begun_sync, job_next, job_left}

-- a read that ended: of which stripe, and how
pub record ReadEnd : Type 0 where
  pub stripe : ℕ
  pub how : JobEnd

-- the present read, which ends so
abbrev pub ended_read : Synchronising → JobEnd → ReadEnd
ended_read job how = record { stripe = job.attempt.stripe; how = how }

-- A synchronisation that is under way, and its reads that have ended, the last one first: it began, and each read was followed by another.
pub data HasTried : List ReadEnd → Synchronising → Type 0 where
  First : (group : GroupId) (stripes : ℕ) (view : ViewNo) → HasTried [] (begun_sync group stripes view)
  Then : (reads : List ReadEnd) (job : Synchronising) (how : JobEnd) (stripe : StripeNo)
      → HasTried reads job → job_next job how ≡ next.Read stripe → HasTried (ended_read job how ∷ reads) (job_left job how)

-- how it ended: answered, or aborted
abbrev pub ends_answered : JobEnd → Bool
ends_answered end.Answered = true
ends_answered how = false

abbrev pub ends_aborted : JobEnd → Bool
ends_aborted (end.Aborted cause) = true
ends_aborted how = false

-- a read of this stripe was answered
abbrev pub is_read : ℕ → List ReadEnd → Bool
is_read stripe reads = list_any (λ read. nat_eq read.stripe stripe && ends_answered read.how) reads

-- these reads were all of this stripe, and aborted
abbrev pub are_aborted : ℕ → List ReadEnd → Bool
are_aborted stripe reads = list_all (λ read. nat_eq read.stripe stripe && ends_aborted read.how) reads

-- the last of the reads was of this stripe, and ended so
abbrev pub LastIs : ℕ → JobEnd → List ReadEnd → Type 0
LastIs stripe how reads = slice_get reads 0 ≡ Some (record { stripe = stripe; how = how })

-- The reads, the last one first, show how a synchronisation ends. It is synced: a read of each stripe was answered. It is stopped at a stripe: its last eight
-- reads were of that, and aborted, the last of them by the cause. It is spent at a stripe: that could not be read.
abbrev pub ReadsShow : Synchronising → List ReadEnd → SyncAnswer → Type 0
ReadsShow job reads (Synced view) = (view ≡ job.view) × ((stripe : ℕ) → stripe < job.stripes → is_read stripe reads ≡ true)
ReadsShow job reads (Stopped stripe cause) =
    (most_tries ≤ length reads) × (are_aborted stripe.0 (take most_tries reads) ≡ true) × LastIs stripe.0 (end.Aborted cause) reads
ReadsShow job reads (Spent stripe) = LastIs stripe.0 end.Spent reads

-- if this is the end of a synchronisation that is under way, its reads show it
abbrev pub EndIsShown : Synchronising → JobEnd → JobNext → Type 0
EndIsShown job how (next.End answer) = (reads : List ReadEnd) → HasTried reads job → ReadsShow job (ended_read job how ∷ reads) answer
EndIsShown job how (next.Read stripe) = Unit {0}
