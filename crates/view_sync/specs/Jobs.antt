-- A synchronisation of a view as its brick keeps it, but for its reads.
use Rattle.std.specs.Prelude.{ℕ, Bool, if◌then◌else◌, Some, None}
use Rattle.fab_base.specs.declared.identities.GroupId.{GroupId}
use Rattle.fab_base.specs.declared.identities.ViewNo.{ViewNo}
use Rattle.protocol.specs.Jobs.{Attempt, JobNext as Goes, Reads, Finishes, GivesUp, first_attempt, job_after, synced_answer, stopped_answer, spent_answer}
use Rattle.view_sync.specs.declared.answers.JobEnd.{JobEnd}
use Rattle.view_sync.specs.declared.answers.JobEnd.TheVariants as end
use Rattle.view_sync.specs.declared.answers.JobNext.{JobNext}
use Rattle.view_sync.specs.declared.answers.JobNext.TheVariants as next

-- the group, how many stripes that has, the number of the view, and the present try
pub record Synchronising : Type 0 where
  pub group : GroupId
  pub stripes : ℕ
  pub view : ViewNo
  pub attempt : Attempt

-- one that has just begun
abbrev pub begun_sync : GroupId → ℕ → ViewNo → Synchronising
begun_sync group stripes view = record { group = group; stripes = stripes; view = view; attempt = first_attempt }

-- it reads the stripe of this try
abbrev pub reads_at : Attempt → JobNext
reads_at attempt = next.Read (record { 0 = attempt.stripe })

-- what it does first: where all stripes are known to be in the view already it ends at once
abbrev pub first_next : ViewNo → Bool → JobNext
first_next view synced = if synced then next.End (synced_answer view) else reads_at first_attempt

-- what it does where the machine's does this
abbrev pub next_as : Synchronising → Goes → JobNext
next_as job (Reads attempt) = reads_at attempt
next_as job Finishes = next.End (synced_answer job.view)
next_as job (GivesUp cause) = next.End (stopped_answer job.attempt cause)

-- what it is then: one that ends stays as it is
abbrev pub left_as : Synchronising → Goes → Synchronising
left_as job (Reads attempt) = record job { attempt = attempt }
left_as job Finishes = job
left_as job (GivesUp cause) = job

-- what it does once its read has ended so
abbrev pub job_next : Synchronising → JobEnd → JobNext
job_next job end.Answered = next_as job (job_after job.stripes job.attempt None)
job_next job (end.Aborted cause) = next_as job (job_after job.stripes job.attempt (Some cause))
job_next job end.Spent = next.End (spent_answer job.attempt)

-- what it is then
abbrev pub job_left : Synchronising → JobEnd → Synchronising
job_left job end.Answered = left_as job (job_after job.stripes job.attempt None)
job_left job (end.Aborted cause) = left_as job (job_after job.stripes job.attempt (Some cause))
job_left job end.Spent = job
